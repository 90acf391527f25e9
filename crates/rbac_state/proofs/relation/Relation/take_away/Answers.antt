use Rattle.std.proofs.Common.{◌&&◌, not, sym, ap, ◌∙◌}
use Rattle.std.specs.Ordering.{eq_by_cmp, nat_cmp}
use Rattle.sorted_pairs.specs.Pairs.{number_cmp}
use Rattle.rbac_state.specs.inside.Relations.{relates}
use Rattle.sorted_pairs.proofs.Exported.{pair_tied, turned}
use Rattle.rbac_state.proofs.relation.Relation.take_away.Goals as goal

pub returns-clause-kept : goal.returns-clause-kept
returns-clause-kept g c =
    record {
      by_first = c.take_away.ensures.ascending;
      by_second = c.take_away-2.ensures.ascending;
      same = λ first second.
          c.take_away-2.ensures.members (second, first)
          ∙ (λ i. not (eq_by_cmp number_cmp (second, first) (c.new-2.ensures i)) && c.requires.kept.same first second i)
          ∙ ap (λ x. not x && relates c.args.self.now first second)
          (turned (nat_cmp second c.args.second) (nat_cmp first c.args.first))
          ∙ ap (λ q. not (eq_by_cmp number_cmp (first, second) q) && relates c.args.self.now first second)
          (sym c.new.ensures)
          ∙ sym (c.take_away.ensures.members (first, second));
      first_blocks = c.take_away.ensures.room c.args.self.now.room c.requires.kept.first_blocks;
      second_blocks = c.take_away-2.ensures.room c.args.self.now.room c.requires.kept.second_blocks;
    }

pub returns-clause-members : goal.returns-clause-members
returns-clause-members g c a b =
    c.take_away.ensures.members (a, b)
    ∙ ap (λ q. not (eq_by_cmp number_cmp (a, b) q) && relates c.args.self.now a b) c.new.ensures
    ∙ ap (λ x. not x && relates c.args.self.now a b) (pair_tied (nat_cmp a c.args.first) (nat_cmp b c.args.second))
