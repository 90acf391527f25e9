use Rattle.std.proofs.Common.{◌≡◌, ◌+◌, Bool, true, false, refl, sym, ◌∙◌, subst, arith}
use Rattle.std.specs.Int.{from_bool}
use Rattle.std.specs.List.Sorted.{IsPartitionedBy}
use Rattle.sorted_pairs.specs.inside.Searches.{IsPassing}
use Rattle.sorted_pairs.proofs.SearchLemmas.{one_more, no_more, eighth_about}
use Rattle.sorted_pairs.proofs.search.eighth.Invariants.{IsCounted}
use Rattle.sorted_pairs.proofs.search.eighth.Goals as goal

pub loop-part-preserved : goal.loop-part-preserved
loop-part-preserved g c =
    let passes = g.P.Predicate.passes c.args.test.now in
    let items = c.args.items.now in
    let base = c.args.base in
    let size = c.args.size in
    let part = c.loop-part.part in
    let count = c.loop-part.passing in
    let counted = c.loop-part.invariant in
    let x = c.index-items-base.result in
    subst (λ n. IsCounted (IsPartitionedBy passes items) (IsPassing passes items base size (part + 1) (count + n))
    (part + 1) (count + n)) (sym c.from-passing.ensures)
    (elim c.passes.result as (λ (b : Bool). c.passes.result ≡ b → IsCounted (IsPartitionedBy passes items)
    (IsPassing passes items base size (part + 1) (count + from_bool b)) (part + 1) (count + from_bool b)) [
      | true ↦ λ e. record {
        some = omega arith;
        fits = omega (arith, c.loop-part-test.true);
        below = omega (arith, counted.below);
        counts = λ parted.
            one_more passes items base size c.requires.about parted part count x c.loop-part-test.true counted.some
            c.index-items-base.is (counted.counts parted) (sym c.passes.ensures ∙ e);
      }
      | false ↦ λ e.
          let z : count ≡ count + 0 = omega arith in
          record {
            some = omega arith;
            fits = omega (arith, c.loop-part-test.true);
            below = omega (arith, counted.below);
            counts = λ parted.
                subst (IsPassing passes items base size (part + 1)) z
                (no_more passes items base size c.requires.about parted part count x c.loop-part-test.true counted.some
                c.index-items-base.is (counted.counts parted) (sym c.passes.ensures ∙ e));
          }
    ] refl)

pub returns-clause-about : goal.returns-clause-about
returns-clause-about g c =
    eighth_about (g.P.Predicate.passes c.args.test.now) c.args.items.now c.args.base c.args.size c.loop-part.part
    c.loop-part.passing c.requires.some c.loop-part-test.false c.loop-part.invariant.below c.loop-part.invariant.fits
    c.requires.about c.loop-part.invariant.counts
