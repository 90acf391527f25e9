-- Connections that are no client's, as their first bytes tell, and half a line of one that has given way.
use Rattle.std.specs.Prelude.{◌≡◌, ℕ, nat_eq, Bool, false, not, ◌==◌, if◌then◌else◌, List, [], ◌∷◌, codes}
use Rattle.std.specs.Prelude.{Option, Some, None, ⊤}
use Rattle.std.specs.List.{list_any, starts_with}
use Rattle.link_frames.specs.declared.lines.next.Next.{Next}
use Rattle.link_frames.specs.declared.lines.next.Next.TheVariants as next

-- the methods of a request that a page in a browser can have sent to any port, and a space behind each
abbrev pub http_methods : List (List ℕ)
http_methods = codes "GET " ∷ codes "HEAD " ∷ codes "POST " ∷ codes "PUT " ∷ codes "OPTIONS " ∷ []

-- bytes begin as an HTTP request does
abbrev pub is_http : List ℕ → Bool
is_http bytes = list_any (λ method. starts_with nat_eq bytes method) http_methods

-- the code of `{`, with which a client's line begins
abbrev pub open_brace : ℕ
open_brace = 123

-- there are bytes, and they begin with another one than `{`
abbrev pub begins_otherwise : List ℕ → Bool
begins_otherwise [] = false
begins_otherwise (first ∷ rest) = not (first == open_brace)

-- Bytes of a connection are no client's. A program that answers operators' lines asks for the first byte; one that
-- doesn't answers each line by itself, unless the first is that of an HTTP request.
abbrev pub is_foreign : Bool → List ℕ → Bool
is_foreign operators bytes = if operators then begins_otherwise bytes else is_http bytes

-- what is told holds of all that the connection sends, where that is known
abbrev pub HoldsOfAll : Bool → Option (List ℕ) → Bool → Type 0
HoldsOfAll operators None told = ⊤
HoldsOfAll operators (Some bytes) told = told ≡ is_foreign operators bytes

-- Where a connection has given way to another, half a line isn't obeyed: nothing stands behind the last whole line.
abbrev pub whole_next : Next → Bool → Next
whole_next (next.Last count) gave_way = if gave_way then next.End else next.Last count
whole_next what gave_way = what
