-- What a packet causes is for its own command.
use Rattle.std.proofs.Common.{◌≡◌, Bool, true, false, cond, List, [], ◌∷◌, ◌++◌, Option, Some, None, refl, sym, subst}
use Rattle.std.specs.Prelude.{IfSome}
use Rattle.std.specs.Option.{option_or}
use Rattle.quorum_sizes.specs.Sizes.{Counts}
use Rattle.role_commands.specs.declared.command.Command.{Command}
use Rattle.link_frames.specs.frames.Kinds.{same_kind}
use Rattle.link_frames.specs.frames.Packets.{PacketValue}
use Rattle.link_frames.specs.declared.frames.kind.Kind.TheVariants.{Send}
use Rattle.bracha_instance.specs.Broadcast.{Take, echoed, readied, delivered, may_ready, may_deliver}
use Rattle.bracha_instance.specs.Taking.{newly, sent_for, newly_sent, newly_delivered}
use Rattle.bracha_instance.proofs.Exported.{echoed_push, readies_its_own, delivers_its_own, IsThis}
use Rattle.owner_streams.specs.Places.{take_of, takes_at}
use Rattle.owner_streams.specs.Steps.{step_of}
use Rattle.owner_streams.proofs.Exported.{takes_at-own}
use Rattle.role_node.specs.inside.Entries.{IsOwn}

newly_due : (c : Command) (before now : Option Command) (due : Bool) → now ≡ option_or before (cond due (Some c) None)
    → IsThis c (newly before now)
newly_due c None now true e = rw e refl
newly_due c None now false e = rw e tt
newly_due c (Some d) now due e = tt

sent_due : (c : Command) (echo ready : Option Command) → IsThis c echo → IsThis c ready
    → IfSome (sent_for echo ready) (λ said. said.1 ≡ c)
sent_due c None None e r = tt
sent_due c None (Some d) e r = r
sent_due c (Some d) ready e r = e

pub step_is_own : (s : Counts) (packets : List PacketValue) (p : PacketValue) → IsOwn p.command (step_of s packets p)
step_is_own s packets p =
    let before : List Take = takes_at p.owner p.place packets in
    let t : Take = take_of p in
    let echo : IsThis p.command (newly (echoed before) (echoed (before ++ t ∷ []))) =
    newly_due p.command (echoed before) _ (same_kind Send p.kind) (echoed_push before t) in
    let ready : IsThis p.command (newly (readied s before) (readied s (before ++ t ∷ []))) =
    newly_due p.command (readied s before) _ (may_ready s (before ++ t ∷ []) p.command) (readies_its_own s before t) in
    let Sent : List Take → Type 0 = λ after. IfSome (newly_sent s before after) (λ said. said.1 ≡ p.command) in
    let Delivered : List Take → Type 0 = λ after. IsThis p.command (newly_delivered s before after) in
    record {
      broadcast = subst Sent (sym (takes_at-own packets p)) (sent_due p.command _ _ echo ready);
      delivered = subst Delivered (sym (takes_at-own packets p))
          (newly_due p.command (delivered s before) _ (may_deliver s (before ++ t ∷ []) p.command)
          (delivers_its_own s before t));
    }
