use Rattle.std.proofs.Common.{◌≡◌, ℕ, ◌+◌, List, [], ◌∷◌, ◌++◌, map, sym, arith}
use Rattle.std.specs.List.{range_with_len}
use Rattle.std.proofs.lemmas.Bool.Decides.{nat_tests}
use Rattle.std.proofs.lemmas.List.FromFn.{map-range_with_len_more}
use Rattle.role_node.specs.Access.{reach_at}
use Rattle.operator_lines.proofs.standing.reaches_of.Goals as goal

one_more : (f : ℕ → ℕ) (before after : List ℕ) (index owner reach : ℕ) → after ≡ before ++ reach ∷ []
    → before ≡ map f (range_with_len 0 index) → reach ≡ f owner → owner ≡ index
    → after ≡ map f (range_with_len 0 (index + 1))
one_more f before after index owner reach pushed so_far reaches same =
    rw (pushed, so_far, reaches, same) (sym (map-range_with_len_more f 0 index index (omega arith)))

pub loop-index-preserved : goal.loop-index-preserved
loop-index-preserved c =
    let node = c.args.node.now in
    let owner : c.in-Some.owner ≡ c.loop-index.index = grind (arith, nat_tests) in
    one_more (reach_at node.config.roles.sizes node.history) _ _ _ _ _ c.in_ok-push.ensures.items
    c.loop-index.invariant c.reach.ensures owner
