use Rattle.std.proofs.Common.{◌≡◌, ◌∙◌, ℕ, ◌==◌, ◌<◌, Bool, true, false, cond, get_or, map, refl, ap, arith}
use Rattle.std.proofs.lemmas.List.FromFn.{get_or-map-range_with_len}
use Rattle.std.specs.List.{range_with_len}
use Rattle.client_lines.specs.inside.PlainLines.{is_plain}
use Rattle.client_lines.specs.declared.bytes.TheConstants.{PLAIN}
use Rattle.client_lines.proofs.bytes.is_plain.Goals as goal

abbrev mark : ℕ → ℕ
mark b = cond (is_plain b) 1 0

-- the table has the mark of each byte
table_is : PLAIN ≡ map mark (range_with_len 0 256)
table_is = refl

marked : (t : Bool) → (cond t 1 0 == 1) ≡ t
marked true = refl
marked false = refl

read : (b : ℕ) → b < 256 → (get_or PLAIN b 0 == 1) ≡ is_plain b
read b h =
    ap (λ (n : ℕ). n == 1)
    (ap (λ t. get_or t b 0) table_is ∙ get_or-map-range_with_len mark 0 256 b b 0 h (omega arith))
    ∙ marked (is_plain b)

pub returns : goal.returns
returns c = rw c.from.ensures (read c.args.byte (omega arith))
