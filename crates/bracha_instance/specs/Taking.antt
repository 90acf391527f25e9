-- What one more message causes: whether it counts, what the node sends to all, and what it delivers.
use Rattle.std.specs.Prelude.{◌≡◌, ℕ, Bool, List, All, if◌then◌else◌, is_some, Option, Some, None}
use Rattle.quorum_sizes.specs.Sizes.{Counts}
use Rattle.role_commands.specs.declared.command.Command.{Command}
use Rattle.link_frames.specs.declared.frames.kind.Kind.{Kind}
use Rattle.link_frames.specs.declared.frames.kind.Kind.TheVariants.{Send, Echo, Ready}
use Rattle.std.specs.FinSet as sets
use Rattle.bracha_instance.specs.Broadcast.{Take, vote, echoed, readied, delivered}
use Rattle.bracha_instance.specs.States.{State}
use Rattle.bracha_instance.specs.declared.instance.Effect.{Effect}
use Rattle.bracha_instance.specs.declared.instance.Effect.TheVariants.{Idle, Counted}

-- all SENDs are from one node, the owner
abbrev pub SendsAreFrom : ℕ → List Take → Type 0
SendsAreFrom owner takes = All (λ (t : Take). t.kind ≡ Send → t.from ≡ owner) takes

-- a message is idle where that node's vote of that kind was taken before
abbrev pub effect_of : List Take → Take → Effect
effect_of takes t = if is_some (vote t.kind t.from takes) then Idle else Counted

-- what the state of the messages so far says of that, where all SENDs are from one node
abbrev pub has_voted : State → Kind → ℕ → Bool
has_voted st Send p = is_some st.echoed
has_voted st Echo p = sets.contains st.echoers p
has_voted st Ready p = sets.contains st.readiers p

-- what there is now and was not before
abbrev pub newly : Option Command → Option Command → Option Command
newly None now = now
newly (Some c) now = None

-- an ECHO for what was newly echoed, or a READY for what was newly readied; one message causes one of them at most
abbrev pub sent_for : Option Command → Option Command → Option (Kind × Command)
sent_for (Some c) r = Some (Echo, c)
sent_for None (Some c) = Some (Ready, c)
sent_for None None = None

-- what the node sends to all when it has taken `after` and had taken `before`
abbrev pub newly_sent : Counts → List Take → List Take → Option (Kind × Command)
newly_sent s before after = sent_for (newly (echoed before) (echoed after)) (newly (readied s before) (readied s after))

-- what it delivers then
abbrev pub newly_delivered : Counts → List Take → List Take → Option Command
newly_delivered s before after = newly (delivered s before) (delivered s after)
