-- What is written for a line, its end left out.
use Rattle.std.specs.Prelude.{ℕ, List, [], ◌∷◌, ◌++◌, codes, Option, Some, None}
use Rattle.std.specs.Fmt.{decimal}
use Rattle.quorum_sizes.specs.Sizes.{Counts, echo_quorum_of, amplify_of, deliver_of}
use Rattle.role_commands.specs.Words.{spelling}
use Rattle.role_commands.specs.declared.command.Command.{Command}
use Rattle.link_frames.specs.declared.frames.kind.Kind.{Kind}
use Rattle.link_frames.specs.declared.frames.kind.Kind.TheVariants.{Send, Echo, Ready}
use Rattle.bracha_instance.specs.Broadcast.{Take}
use Rattle.bracha_instance.specs.Taking.{effect_of, newly_sent, newly_delivered}
use Rattle.bracha_instance.specs.declared.instance.Effect.{Effect}
use Rattle.bracha_instance.specs.declared.instance.Effect.TheVariants.{Idle, Counted}

-- `sizes E A D`
abbrev pub quorums_text : ℕ → ℕ → ℕ → List ℕ
quorums_text e a d = codes "sizes " ++ decimal e ++ codes " " ++ decimal a ++ codes " " ++ decimal d

abbrev pub sizes_text : Counts → List ℕ
sizes_text s = quorums_text (echo_quorum_of s) (amplify_of s) (deliver_of s)

abbrev pub kind_word : Kind → List ℕ
kind_word Send = codes "send"
kind_word Echo = codes "echo"
kind_word Ready = codes "ready"

-- ` echo C` or ` ready C` where that is sent
abbrev pub sent_text : Option (Kind × Command) → List ℕ
sent_text None = []
sent_text (Some sent) = codes " " ++ kind_word sent.0 ++ codes " " ++ spelling sent.1

-- ` delivered C` where that is delivered
abbrev pub delivered_text : Option Command → List ℕ
delivered_text None = []
delivered_text (Some c) = codes " delivered " ++ spelling c

-- `idle`, or `counted` and what it caused
abbrev pub outcome_of : Effect → Option (Kind × Command) → Option Command → List ℕ
outcome_of Idle sent delivered = codes "idle"
outcome_of Counted sent delivered = codes "counted" ++ sent_text sent ++ delivered_text delivered

-- the outcome of one more message under the rules of the broadcast
abbrev pub outcome_text : Counts → List Take → Take → List ℕ
outcome_text s takes t =
    outcome_of (effect_of takes t) (newly_sent s takes (takes ++ t ∷ [])) (newly_delivered s takes (takes ++ t ∷ []))
