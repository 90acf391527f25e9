-- The places of an owner's stream as they are kept, each with its instance if there is one. Serves the code, and no
-- public contract.
use Rattle.std.specs.Prelude.{◌≡◌, ℕ, ◌+◌, Bool, false, List, [], ◌∷◌, ◌++◌, slice_index_or}
use Rattle.std.specs.Prelude.{unwrap_or, option_and_then, Option, Some, None}
use Rattle.std.specs.FinMap as maps
use Rattle.quorum_sizes.specs.Sizes.{Counts}
use Rattle.role_commands.specs.declared.command.Command.{Command}
use Rattle.link_frames.specs.declared.frames.kind.Kind.{Kind}
use Rattle.bracha_instance.specs.Broadcast.{Take}
use Rattle.bracha_instance.specs.States.{State, state}
use Rattle.bracha_instance.specs.NewTakes.{taken_for}
use Rattle.bracha_instance.specs.Taking.{has_voted, newly_sent, newly_delivered}
use Rattle.bracha_instance.specs.declared.instance.Caused.{Caused}
use Rattle.bracha_instance.specs.declared.instance.Taken.{Taken}
use Rattle.owner_streams.specs.declared.steps.Again.{Again}
use Rattle.owner_streams.specs.Values.{Instances}

-- the instance at a place, if there is one
abbrev pub slot_at : List (Option State) → ℕ → Option State
slot_at places place = slice_index_or places place None

-- its state: where there is none, that of no messages
abbrev pub state_in : Counts → Option State → State
state_in s slot = unwrap_or slot (state s [])

abbrev pub delivered_in : Option State → Option Command
delivered_in slot = option_and_then (λ st. st.delivered) slot

abbrev pub again_in : Option State → Again
again_in slot = record {
  echo = option_and_then (λ st. st.echoed) slot;
  ready = option_and_then (λ st. st.readied) slot;
}

-- whether a message of this kind from this node changes nothing
abbrev pub voted_in : Option State → Kind → ℕ → Bool
voted_in None kind name = false
voted_in (Some st) kind name = has_voted st kind name

-- what an instance sends and delivers by one more message
pub record IsTaken (s : Counts) (takes : List Take) (t : Take) (taken : Taken) : Type 0 where
  pub broadcast : taken.broadcast ≡ newly_sent s takes (takes ++ t ∷ [])
  pub delivered : taken.delivered ≡ newly_delivered s takes (takes ++ t ∷ [])

-- from the state of any messages to that of one more
abbrev pub GoesOn : Counts → Option State → Option State → Take → Type 0
GoesOn s before after t = (takes : List Take) → state_in s before ≡ state s takes
    → state_in s after ≡ state s (takes ++ t ∷ [])

-- the answer that is due to one more message, whatever messages the state is of
abbrev pub IsAnswerAt : Counts → Option State → Take → Caused → Type 0
IsAnswerAt s before t caused = (takes : List Take) → state_in s before ≡ state s takes
    → IsTaken s takes t (taken_for t.command caused)

abbrev pub put_some : Instances → ℕ → Option State → Instances
put_some instances place None = instances
put_some instances place (Some st) = maps.insert instances place st

-- the instances at a place and the next ones
unfoldable pub instances_from : ℕ → List (Option State) → Instances
instances_from place [] = maps.empty
instances_from place (slot ∷ places) = put_some (instances_from (place + 1) places) place slot
