-- What follows of new connections, and of rooms.
use Rattle.std.specs.Prelude.{◌≡◌, refl, ℕ, List, [], ◌∷◌, ◌++◌, Option}
use Rattle.peer_windows.specs.Looks.{room_at}
use Rattle.peer_windows.specs.Owners.{PairsValue, connected}
use Rattle.peer_windows.specs.declared.owed.Share.{Share}
use Rattle.std.specs.Prelude.{slice_set}
use Rattle.server_locks.specs.Fronts.{all_connected}
use Rattle.server_locks.specs.Rooms.{room_beside, rooms_beside}

-- with one peer more
pub all_connected_more : (now : ℕ) (peers : List ℕ) (peer : ℕ) (a : PairsValue) →
    all_connected now (peers ++ peer ∷ []) a ≡ connected now peer (all_connected now peers a)
all_connected_more now [] peer a = refl
all_connected_more now (first ∷ peers) peer a = all_connected_more now peers peer (connected now first a)

-- with one share more
pub rooms_beside_more : (shares : List Share) (share : Share) (rooms : List (Option ℕ)) →
    rooms_beside (shares ++ share ∷ []) rooms ≡ rooms_beside (share ∷ []) (rooms_beside shares rooms)
rooms_beside_more [] share rooms = refl
rooms_beside_more (first ∷ shares) share rooms =
    rooms_beside_more shares share
    (slice_set rooms first.peer (room_beside (room_at rooms first.peer) first.count))
