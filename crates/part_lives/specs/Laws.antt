-- What holds of each life of a node.
use Rattle.std.specs.Prelude.{◌≡◌, ℕ, ◌-◌, ◌*◌, ◌≤◌, IsTrue, List, ◌++◌, take, Some, length}
use Rattle.rbac_state.specs.Assignments.{is_user_assigned, is_permission_granted}
use Rattle.role_commands.specs.declared.command.Command.{Command}
use Rattle.part_lives.specs.Holding.{Pairs}
use Rattle.part_lives.specs.Lives.{IsLife, is_due, is_kept, held, said, relations_over, relations_in, sessions_in}
use Rattle.part_lives.specs.Parts.{Plan, Act, events_in, part_of, total, current}
use Rattle.part_lives.specs.States.{State, OwnerState, state_from, state_of_life, due, events_kept, held_now}
use Rattle.part_lives.specs.States.{relations_now}

-- What holds by an owner's commands is what rbac_state says of the pairs that it began with, as commands, and of those of
-- its commands that have an effect.
pub record IsSaid (plan : Plan) (streams : ℕ → List Command) : Type 0 where
  pub assigned : (user role : ℕ) → (relations_over plan streams).assigned user role
      ≡ is_user_assigned plan.roles (λ owner. said plan owner (streams owner)) user role
  pub granted : (operation object role : ℕ) → (relations_over plan streams).granted operation object role
      ≡ is_permission_granted plan.roles (λ owner. said plan owner (streams owner)) operation object role

abbrev pub HeldIsSaid : Type 0
HeldIsSaid = (plan : Plan) (streams : ℕ → List Command) → IsSaid plan streams

-- These pairs held before a part of the owner, when that was its current one for the node.
pub record WereHeld (plan : Plan) (acts : List Act) (owner number : ℕ) (pairs : Pairs) : Type 0 where
  pub count : ℕ
  pub current : current plan (take count acts) owner ≡ number
  pub held : pairs ≡ held plan owner (take (number * plan.length) (total plan (take count acts) owner))

-- Of an owner the state has what follows from all that the node did: which part is current, the histories in the parts
-- that are kept, from which follow its answers and what it has sent there, the pairs that hold, and those that held
-- before each of these parts, where the node was in the one before.
pub record IsStateOf (plan : Plan) (acts : List Act) (owner : ℕ) (o : OwnerState) : Type 0 where
  pub number : o.number ≡ current plan acts owner
  pub histories : (number : ℕ) → IsTrue (is_kept o.number number) →
      events_kept o number ≡ events_in (part_of owner number) acts
  pub holds : held_now plan owner o ≡ held plan owner (total plan acts owner)
  pub pairs : o.pairs ≡ held plan owner (take (o.number * plan.length) (total plan acts owner))
  pub past : (pairs : Pairs) → o.past ≡ Some pairs → WereHeld plan acts owner (o.number - 1) pairs

-- The state is enough: all that a node answers next, and its next state, follow from it and the act.
pub record IsEnough (plan : Plan) (me : ℕ) (acts : List Act) (state : State) : Type 0 where
  pub owners : (owner : ℕ) → IsStateOf plan acts owner (state.owners owner)
  pub relations : relations_now plan state ≡ relations_in plan acts
  pub sessions : state.sessions ≡ sessions_in acts
  pub at : state.at ≡ length acts
  pub next : (act : Act) → due plan me state act ≡ is_due plan me acts act

abbrev pub StateIsEnough : Type 0
StateIsEnough =
    (plan : Plan) (me : ℕ) (acts : List Act) → 1 ≤ plan.length → IsLife plan me acts →
    IsEnough plan me acts (state_of_life plan acts)

-- So whatever lies before a moment may be forgotten there: the state after more acts follows from the state then.
abbrev pub StateGoesOn : Type 0
StateGoesOn =
    (plan : Plan) (acts more : List Act) →
    state_of_life plan (acts ++ more) ≡ state_from plan (state_of_life plan acts) more
