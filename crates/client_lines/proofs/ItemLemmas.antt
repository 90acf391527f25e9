-- Items of a listing behind the first, as a block holds them.
use Rattle.std.proofs.Common.{◌≡◌, ◌∙◌, ◌+◌, ◌<◌, ◌≤◌, ◌^◌, ℕ, List, [], ◌∷◌, ◌++◌, codes, decimal}
use Rattle.std.proofs.Common.{length, drop, get_or, suc, sym, ap, subst, arith, append_assoc, append-nil, IsAscii}
use Rattle.std.proofs.Math.Seq.{drop-cons}
use Rattle.std.proofs.lemmas.Fmt.{IsAscii-decimal}
use Rattle.std.proofs.lemmas.List.{drop_all, take_all, nil_from_length}
use Rattle.std.proofs.lemmas.Str.{IsAscii-append, IsAscii-drop}
use Rattle.std.proofs.lemmas.Str.Ascii.{IsAscii-nil, IsAscii-cons}
use Rattle.client_lines.specs.AnswerTexts.{permission_text, permissions_text}
use Rattle.client_lines.specs.inside.Items.{behind_comma, behind_commas}
use Rattle.client_lines.proofs.Joins.{all_added}

one : (b : ℕ) → b < 128 → IsAscii (b ∷ [])
one b h = IsAscii-cons b [] h IsAscii-nil

-- an item is ASCII
pub item_ascii : (p : ℕ × ℕ) → p.0 < 2 ^ 64 → p.1 < 2 ^ 64 → IsAscii (behind_comma p)
item_ascii p small0 small1 =
    let a = decimal p.0 in
    let b = decimal p.1 in
    let comma = one 44 (omega arith) in
    let open' = IsAscii-append (codes "[") a (one 91 (omega arith)) (IsAscii-decimal p.0 small0) in
    let first = IsAscii-append (codes "[" ++ a) (codes ",") open' comma in
    let both = IsAscii-append (codes "[" ++ a ++ codes ",") b first (IsAscii-decimal p.1 small1) in
    let whole = IsAscii-append (codes "[" ++ a ++ codes "," ++ b) (codes "]") both (one 93 (omega arith)) in
    IsAscii-append (codes ",") (permission_text p) comma whole

-- what stands behind the first byte of what stands behind a place
behind_one : (block : List ℕ) (k : ℕ) → k < length block → drop 1 (drop k block) ≡ drop (k + 1) block
behind_one block k h =
    let next : suc k ≡ k + 1 = omega arith in
    ap (λ (xs : List ℕ). drop 1 xs) (drop-cons block k 0 h) ∙ ap (λ n. drop n block) next

-- the first item, its comma left out, ends the block
pub first_item : (block rest : List ℕ) (k : ℕ) (p : ℕ × ℕ) → k < length block → length rest ≤ 304
    → drop k block ≡ behind_comma p ++ drop 304 rest → drop (k + 1) block ≡ permission_text p
first_item block rest k p h short written =
    sym (behind_one block k h) ∙ ap (λ (xs : List ℕ). drop 1 xs) written
    ∙ ap (λ (xs : List ℕ). permission_text p ++ xs) (drop_all 304 rest short) ∙ append-nil (permission_text p)

pub first_ascii : (block : List ℕ) (k : ℕ) → k < length block → IsAscii (drop k block) → IsAscii (drop (k + 1) block)
first_ascii block k h ascii = subst IsAscii (behind_one block k h) (IsAscii-drop (drop k block) 1 ascii)

-- an item as it is written piece by piece, from the last
pub item_grouped : (p : ℕ × ℕ) (rest : List ℕ)
    → codes ",[" ++ (decimal p.0 ++ (codes "," ++ (decimal p.1 ++ (codes "]" ++ rest)))) ≡ behind_comma p ++ rest
item_grouped p rest = simp append_assoc

-- all items are written behind a text
pub all_behind : (before start text item : List ℕ) (whole : List (ℕ × ℕ)) (first : ℕ × ℕ) (others rest : List (ℕ × ℕ))
    → whole ≡ first ∷ others → length rest ≡ 0 → start ≡ before ++ item → item ≡ permission_text first
    → text ++ behind_commas rest ≡ start ++ behind_commas others → text ≡ before ++ permissions_text whole
all_behind before start text item whole first others rest parts none begun same written =
    let all = length others in
    let nothing = nil_from_length rest none in
    let bound : length others ≤ all = omega arith in
    all_added permission_text (codes ",") before start text whole first others all parts bound
    (begun ∙ ap (λ (xs : List ℕ). before ++ xs) same)
    (sym (append-nil text) ∙ ap (λ ps. text ++ behind_commas ps) (sym nothing) ∙ written
    ∙ ap (λ ps. start ++ behind_commas ps) (sym (take_all all others bound)))
