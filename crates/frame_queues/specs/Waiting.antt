-- Packets of one peer in one owner's stream that wait: in the order of their places, one of each kind at a place.
use Rattle.std.specs.Prelude.{ℕ, ◌+◌, ◌*◌, ◌<◌, nat_lt, if◌then◌else◌, Option, Some, None, List, [], ◌∷◌}
use Rattle.std.specs.Prelude.{length, slice_index_or}
use Rattle.link_frames.specs.declared.frames.kind.Kind.{Kind}
use Rattle.link_frames.specs.declared.frames.kind.Kind.TheVariants.{Send, Echo, Ready}
use Rattle.link_frames.specs.frames.Packets.{PacketValue}

-- the order of the kinds, in which a node says them
abbrev pub kind_order : Kind → ℕ
kind_order Send = 0
kind_order Echo = 1
kind_order Ready = 2

-- where a packet belongs: by its place, and at one place by its kind
abbrev pub order_of : PacketValue → ℕ
order_of p = p.place * 3 + kind_order p.kind

-- each packet belongs before those behind it
abbrev pub IsInOrder : List PacketValue → Type 0
IsInOrder xs = (i j : ℕ) (d : PacketValue) → i < j → j < length xs →
    order_of (slice_index_or xs i d) < order_of (slice_index_or xs j d)

-- with one packet more, where it belongs. Where one of its kind waits at its place already, that stays alone
abbrev pub waiting_with : PacketValue → List PacketValue → List PacketValue
waiting_with p [] = p ∷ []
waiting_with p (q ∷ qs) =
    if nat_lt (order_of q) (order_of p) then q ∷ waiting_with p qs
    else (if nat_lt (order_of p) (order_of q) then p ∷ q ∷ qs else q ∷ qs)

-- the first packet, if its place is below this one
abbrev pub first_below : ℕ → List PacketValue → Option PacketValue
first_below end [] = None
first_below end (p ∷ ps) = if nat_lt p.place end then Some p else None
