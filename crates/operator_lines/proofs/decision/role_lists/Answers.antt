use Rattle.std.proofs.Common.{◌≡◌, ℕ, ◌+◌, List, [], ◌∷◌, ◌++◌, map, sym, ◌∙◌, arith}
use Rattle.std.specs.List.{range_with_len}
use Rattle.std.proofs.lemmas.Bool.Decides.{nat_tests}
use Rattle.std.proofs.lemmas.List.FromFn.{map-range_with_len_more}
use Rattle.role_commands.specs.Tables.{roles_of_owner}
use Rattle.operator_lines.proofs.decision.role_lists.Goals as goal

one_more : (f : ℕ → List ℕ) (before after : List (List ℕ)) (index owner : ℕ) (roles : List ℕ)
    → after ≡ before ++ roles ∷ [] → before ≡ map f (range_with_len 0 index) → roles ≡ f owner → owner ≡ index
    → after ≡ map f (range_with_len 0 (index + 1))
one_more f before after index owner roles pushed so_far listed same =
    rw (pushed, so_far, listed, same) (sym (map-range_with_len_more f 0 index index (omega arith)))

pub loop-index-preserved : goal.loop-index-preserved
loop-index-preserved c =
    let owner : c.in-Some.owner ≡ c.loop-index.index = grind (arith, nat_tests) in
    one_more (roles_of_owner c.args.table.now) _ _ _ _ _ c.in_ok-push.ensures.items c.loop-index.invariant
    (c.new.ensures ∙ c.in_ok-roles_of_owner.ensures) owner
