-- What is owed of a list of shares, share by share: the step by which a loop over the shares is proved.

use Rattle.std.specs.Prelude.{◌≡◌, ℕ, suc, zero, ◌<◌, ◌++◌, ◌==◌, if◌then◌else◌}
use Rattle.std.specs.Prelude.{List, [], ◌∷◌, length, take, drop, get_or}
use Rattle.std.proofs.Common.{arith, refl}
use Rattle.link_frames.specs.declared.frames.packet.Message.{Message}
use Rattle.peer_windows.specs.declared.owed.Share.{Share}
use Rattle.served_node.specs.Sent.{owed_to}

-- what is owed of the shares from one on is of that share, and of those behind it
pub owed_next : (peer : ℕ) (shares : List Share) (i : ℕ) (d : Share) (messages : List Message) → i < length shares
    → owed_to peer (drop i shares) messages
    ≡ (if (get_or shares i d).peer == peer then take (get_or shares i d).count messages else [])
    ++ owed_to peer (drop (suc i) shares) (drop (get_or shares i d).count messages)
owed_next peer [] i d messages less = absurd (omega arith)
owed_next peer (share ∷ more) zero d messages less = refl
owed_next peer (share ∷ more) (suc i) d messages less = owed_next peer more i d messages (omega arith)
