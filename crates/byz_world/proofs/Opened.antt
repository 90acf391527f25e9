-- What opens at a correct node.
use Rattle.std.proofs.Common.{◌≡◌, ℕ, Bool, true, false, List, Option, Some, None, Result, Ok}
use Rattle.std.specs.Prelude.{if◌then◌else◌}
use Rattle.link_frames.specs.frames.KeyRings.{KeyRing}
use Rattle.link_frames.specs.frames.Opening.{open_due}
use Rattle.link_frames.specs.frames.Packets.{PacketValue, IsSound}
use Rattle.link_frames.specs.declared.frames.opening.LinkFault.{LinkFault}
use Rattle.link_frames.proofs.Exported.{opened_is_sound}
use Rattle.byz_world.specs.LabKeys.{lab_ring}
use Rattle.byz_world.specs.Steps.{opened_at}
use Rattle.byz_world.specs.Worlds.{WorldValue, is_correct_in}

abbrev Opened : Type 0
Opened = Result PacketValue LinkFault

is_opened : (b : Bool) (r : Opened) (p : PacketValue) →
    ◌≡◌ {A = Option Opened} (if b then Some r else None) (Some (Ok p)) → r ≡ Ok p
is_opened true r p e = cc
is_opened false r p e = absurd cc

pub opened_at_is_sound : (w : WorldValue) (to : ℕ) (bytes : List ℕ) (p : PacketValue) →
    opened_at w to bytes ≡ Some (Ok p) → IsSound p
opened_at_is_sound w to bytes p e =
    let ring : KeyRing = lab_ring w.config.roles.sizes to in
    opened_is_sound ring w.config.cluster bytes p
    (is_opened (is_correct_in w to) (open_due ring w.config.cluster bytes) p e)
