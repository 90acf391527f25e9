-- What one more packet causes, which packets are refused, what a node has sent at a place, and how a fault is written.
use Rattle.std.specs.Prelude.{◌≡◌, ℕ, ◌+◌, nat_le, if◌then◌else◌, List, []}
use Rattle.std.specs.Prelude.{◌∷◌, ◌++◌, All, IsOkAnd, codes, Result, Ok, Err}
use Rattle.std.specs.Fmt.{decimal}
use Rattle.quorum_sizes.specs.Sizes.{Counts}
use Rattle.link_frames.specs.frames.Packets.{PacketValue, SentByOwner}
use Rattle.bracha_instance.specs.Broadcast.{echoed, readied}
use Rattle.bracha_instance.specs.Taking.{effect_of, newly_sent, newly_delivered}
use Rattle.bracha_instance.specs.declared.instance.Effect.{Effect}
use Rattle.bracha_instance.specs.declared.instance.Effect.TheVariants.{Counted}
use Rattle.owner_streams.specs.Places.{window, take_of, takes_at, reach}
use Rattle.owner_streams.specs.declared.steps.StreamStep.{StreamStep}
use Rattle.owner_streams.specs.declared.steps.Again.{Again}
use Rattle.owner_streams.specs.declared.steps.StreamFault.{StreamFault}
use Rattle.owner_streams.specs.declared.steps.StreamFault.TheVariants.{Beyond, Memory}

-- each SEND is from its owner
abbrev pub SendsAreOwners : List PacketValue → Type 0
SendsAreOwners packets = All SentByOwner packets

-- the first place of the owner beyond the window: it is not taken yet
abbrev pub window_end : Counts → ℕ → List PacketValue → ℕ
window_end s owner packets = reach s owner packets + window

-- what the packet causes at its place, and which places are new in its owner's stream
abbrev pub step_of : Counts → List PacketValue → PacketValue → StreamStep
step_of s packets p =
    let before = takes_at p.owner p.place packets in
    let after = takes_at p.owner p.place (packets ++ p ∷ []) in
    record {
      effect = effect_of before (take_of p);
      broadcast = newly_sent s before after;
      delivered = newly_delivered s before after;
      from = reach s p.owner packets;
      to = reach s p.owner (packets ++ p ∷ []);
    }

-- A packet of a place beyond the window is refused.
unfoldable pub step_due : Counts → List PacketValue → PacketValue → Result StreamStep StreamFault
step_due s packets p =
    let end = window_end s p.owner packets in
    if nat_le end p.place then Err (Beyond p.place end) else Ok (step_of s packets p)

-- The answer is the one that is due. Want of memory comes last, where the packet is not refused and counts.
abbrev pub IsAnswer : Result StreamStep StreamFault → Result StreamStep StreamFault → Type 0
IsAnswer due (Ok step) = due ≡ Ok step
IsAnswer due (Err (Beyond place end)) = due ≡ Err (Beyond place end)
IsAnswer due (Err Memory) = IsOkAnd due (λ step. step.effect ≡ Counted)

-- the effect of the step, or the refusal
abbrev pub effect_due : Result StreamStep StreamFault → Result Effect StreamFault
effect_due (Ok step) = Ok step.effect
effect_due (Err fault) = Err fault

-- what the node has sent to all at a place
abbrev pub again_due : Counts → ℕ → ℕ → List PacketValue → Again
again_due s owner place packets =
    let takes = takes_at owner place packets in record { echo = echoed takes; ready = readied s takes }

abbrev pub stream_fault_text : StreamFault → List ℕ
stream_fault_text (Beyond place end) = codes "S1 Beyond " ++ decimal place ++ codes " " ++ decimal end
stream_fault_text Memory = codes "out of memory"
