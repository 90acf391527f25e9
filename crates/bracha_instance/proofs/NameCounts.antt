-- How many names a set has, once a name is added.
use Rattle.std.proofs.Common.{◌≡◌, ℕ, ◌+◌, Bool, true, false, cond, not, sym, ap, ◌∙◌}
use Rattle.std.specs.Cmp.{nat_cmp_total}
use Rattle.std.specs.FinSet as sets
use Rattle.bracha_instance.specs.Broadcast.{Names}

len_with : (names : Names) (p : ℕ) (there : Bool) → sets.contains names p ≡ there
    → sets.len (sets.insert names p) ≡ cond there (sets.len names) (sets.len names + 1)
len_with names p there is =
    sets.len-insert nat_cmp_total names p ∙ ap (λ b. cond b (sets.len names) (sets.len names + 1)) is

-- a name that was not there
pub one_more_name : (names : Names) (p : ℕ) → sets.contains names p ≡ false
    → sets.len (sets.insert names p) ≡ sets.len names + 1
one_more_name names p new = len_with names p false new

not_not : (b c : Bool) → c ≡ not b → not c ≡ b
not_not true c is = ap not is
not_not false c is = ap not is

-- the count of a set to which a name was added, by whether it was new
pub counted : (names now : Names) (p count : ℕ) (new : Bool) → count ≡ sets.len names → now ≡ sets.insert names p
    → new ≡ not (sets.contains names p) → cond new (count + 1) count ≡ sets.len now
counted names now p count true is more fresh =
    ap (λ k. k + 1) is
    ∙ sym (ap sets.len more ∙ len_with names p false (sym (not_not (sets.contains names p) true fresh)))
counted names now p count false is more fresh =
    is ∙ sym (ap sets.len more ∙ len_with names p true (sym (not_not (sets.contains names p) false fresh)))
