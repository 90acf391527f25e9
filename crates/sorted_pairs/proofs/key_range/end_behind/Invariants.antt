use Rattle.std.proofs.Common.{◌≡◌, ◌-◌, ◌<◌, ◌≤◌, ℕ, Bool, false, List, length, drop, get_or}
use Rattle.std.specs.Ordering.{is_le, nat_cmp}
use Rattle.sorted_pairs.specs.Blocks.{begins}
use Rattle.sorted_pairs.proofs.key_range.end_behind.Given as goal

-- from here on, if there is anything, the first does not pass
pub record IsBehind {X : Type 0} (passes : X → Bool) (xs : List X) (reached end behind : ℕ) : Type 0 where
  pub onward : reached < end
  pub ordered : end ≤ behind
  pub fits : behind ≤ length xs
  pub fails : (d : X) → 0 < length (drop behind xs) → passes (get_or (drop behind xs) 0 d) ≡ false

abbrev pub invariant-loop-end : goal.invariant-loop-end
invariant-loop-end g l =
    IsBehind (λ b. begins (λ p. is_le (nat_cmp p.0 l.first)) b.items) l.blocks l.reached l.end l.behind

abbrev pub decreases-loop-end : goal.decreases-loop-end
decreases-loop-end g l = l.behind - l.end
