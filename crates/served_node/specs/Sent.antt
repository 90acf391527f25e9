-- What a node sends to a single peer.
use Rattle.std.specs.Prelude.{ℕ, ◌==◌, if◌then◌else◌, List, [], ◌∷◌, ◌++◌, take, drop, Option, option_to_list}
use Rattle.std.specs.List.{flat_map}
use Rattle.link_frames.specs.declared.frames.packet.Message.{Message}
use Rattle.peer_windows.specs.declared.owed.Share.{Share}

-- the messages of a peer's shares, where those of all shares stand one share after the other
abbrev pub owed_to : ℕ → List Share → List Message → List Message
owed_to peer [] messages = []
owed_to peer (share ∷ more) messages =
    (if share.peer == peer then take share.count messages else [])
    ++ owed_to peer more (drop share.count messages)

-- the frames of messages to a node, by what seals one
abbrev pub frames_of : (ℕ → Message → Option (List ℕ)) → ℕ → List Message → List (List ℕ)
frames_of sealed to messages = flat_map (λ m. option_to_list (sealed to m)) messages
