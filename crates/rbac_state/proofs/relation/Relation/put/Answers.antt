use Rattle.std.proofs.Common.{◌||◌, sym, ap, ◌∙◌}
use Rattle.std.specs.Ordering.{eq_by_cmp, nat_cmp}
use Rattle.sorted_pairs.specs.Pairs.{number_cmp}
use Rattle.rbac_state.specs.inside.Relations.{relates}
use Rattle.sorted_pairs.proofs.Exported.{pair_tied, turned}
use Rattle.rbac_state.proofs.relation.Relation.put.Goals as goal

pub returns-clause-kept : goal.returns-clause-kept
returns-clause-kept g c =
    record {
      by_first = c.put.ensures.ascending;
      by_second = c.put-2.ensures.ascending;
      same = λ first second.
          c.put-2.ensures.members (second, first)
          ∙ (λ i. eq_by_cmp number_cmp (second, first) (c.new-2.ensures i) || c.requires.kept.same first second i)
          ∙ ap (λ x. x || relates c.args.self.now first second)
          (turned (nat_cmp second c.args.second) (nat_cmp first c.args.first))
          ∙ ap (λ q. eq_by_cmp number_cmp (first, second) q || relates c.args.self.now first second) (sym c.new.ensures)
          ∙ sym (c.put.ensures.members (first, second));
      first_blocks = c.put.ensures.room c.args.self.now.room c.requires.room c.requires.kept.first_blocks;
      second_blocks = c.put-2.ensures.room c.args.self.now.room c.requires.room c.requires.kept.second_blocks;
    }

pub returns-clause-members : goal.returns-clause-members
returns-clause-members g c a b =
    c.put.ensures.members (a, b)
    ∙ ap (λ q. eq_by_cmp number_cmp (a, b) q || relates c.args.self.now a b) c.new.ensures
    ∙ ap (λ x. x || relates c.args.self.now a b) (pair_tied (nat_cmp a c.args.first) (nat_cmp b c.args.second))
