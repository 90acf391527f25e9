use Rattle.std.proofs.Common.{◌≡◌, ℕ, ◌+◌, List, [], ◌∷◌, ◌++◌, map, sym, arith}
use Rattle.std.specs.List.{range_with_len}
use Rattle.std.proofs.lemmas.Bool.Decides.{nat_tests}
use Rattle.std.proofs.lemmas.List.FromFn.{map-range_with_len_more}
use Rattle.owner_shares.specs.Shares.{share_in}
use Rattle.operator_lines.proofs.standing.places_of.Goals as goal

one_more : (f : ℕ → ℕ) (before after : List ℕ) (index owner places : ℕ) → after ≡ before ++ places ∷ []
    → before ≡ map f (range_with_len 0 index) → places ≡ f owner → owner ≡ index
    → after ≡ map f (range_with_len 0 (index + 1))
one_more f before after index owner places pushed so_far share same =
    rw (pushed, so_far, share, same) (sym (map-range_with_len_more f 0 index index (omega arith)))

pub loop-index-preserved : goal.loop-index-preserved
loop-index-preserved c =
    let owner : c.in-Some.owner ≡ c.loop-index.index = grind (arith, nat_tests) in
    one_more (share_in c.args.shares.now) _ _ _ _ _ c.in_ok-push.ensures.items
    c.loop-index.invariant c.share.ensures owner
