use Rattle.std.proofs.Common.{◌≡◌, sym, ap, ◌∙◌, subst}
use Rattle.bracha_instance.specs.inside.Tallies.{all_of, with_tally, voted_by, IsOther}
use Rattle.bracha_instance.proofs.TallyLemmas.{support_of-tallied, command-voted_by}
use Rattle.bracha_instance.proofs.FirstTally.{tallied_one, are_with_vote, all_of-changed, support-changed}
use Rattle.bracha_instance.proofs.FirstTally.{first_is_there, all_of-other, support-other, other_is_there}
use Rattle.bracha_instance.proofs.tallies.Tallies.count.Goals as goal

-- The first is of this command.

changed : (c : goal.In-Some)
    → all_of c.add_to_first.new.first c.self.inside.others.items
    ≡ with_tally (voted_by c.args.vote c.args.name) c.args.command
    (all_of c.self.inside.first c.self.inside.others.items)
changed c =
    all_of-changed (voted_by c.args.vote c.args.name) c.args.command c.self.inside.first c.add_to_first.new.first
    c.in-Some.support c.self.inside.others.items c.in-Some.ensures.some c.self.invariant.none

pub invariant_of-self : goal.invariant_of-self
invariant_of-self c = record {
  tallies = are_with_vote c.args.vote (all_of c.self.inside.first c.self.inside.others.items)
      (all_of c.add_to_first.new.first c.self.inside.others.items) c.args.name c.args.command c.args.self.now
      c.self.view_is c.requires (changed c) c.self.invariant.tallies;
  none = first_is_there (voted_by c.args.vote c.args.name) c.args.command c.self.inside.first c.add_to_first.new.first
      c.in-Some.support c.self.inside.others.items c.in-Some.ensures.some;
}

pub returns-in-Some-clause-ok : goal.returns-in-Some-clause-ok
returns-in-Some-clause-ok c =
    tallied_one c.args.vote (all_of c.self.inside.first c.self.inside.others.items)
    (all_of c.add_to_first.new.first c.self.inside.others.items) c.args.name c.args.command c.args.self.now
    c.self.view_is c.requires (changed c)

pub returns-in-Some-clause-support : goal.returns-in-Some-clause-support
returns-in-Some-clause-support c =
    support-changed (voted_by c.args.vote c.args.name) c.args.command c.self.inside.first c.add_to_first.new.first
    c.in-Some.support c.self.inside.others.items (command-voted_by c.args.vote c.args.name) c.in-Some.ensures.some
    ∙ support_of-tallied c.args.command (all_of c.add_to_first.new.first c.self.inside.others.items)
    (invariant_of-self c).tallies

-- It is of another.

other : (c : goal.In_ok-support) → IsOther c.args.command c.add_to_first.new.first
other c = subst (IsOther c.args.command) (sym c.in_default.ensures.none.1) c.in_default.ensures.none.0

others_changed : (c : goal.In_ok-support)
    → all_of c.add_to_first.new.first c.add.new.tallies.items
    ≡ with_tally (voted_by c.args.vote c.args.name) c.args.command
    (all_of c.self.inside.first c.self.inside.others.items)
others_changed c =
    ap (all_of c.add_to_first.new.first) c.in_ok-support.ensures.tallies
    ∙ all_of-other (voted_by c.args.vote c.args.name) c.args.command c.add_to_first.new.first
    c.self.inside.others.items (other c)
    ∙ ap (λ first. with_tally (voted_by c.args.vote c.args.name) c.args.command
    (all_of first c.self.inside.others.items))
    c.in_default.ensures.none.1

pub invariant_of-self-2 : goal.invariant_of-self-2
invariant_of-self-2 c = record {
  tallies = are_with_vote c.args.vote (all_of c.self.inside.first c.self.inside.others.items)
      (all_of c.add_to_first.new.first c.add.new.tallies.items) c.args.name c.args.command c.args.self.now
      c.self.view_is c.requires (others_changed c) c.self.invariant.tallies;
  none = other_is_there c.args.command c.add_to_first.new.first c.add.new.tallies.items (other c);
}

pub returns-clause-ok : goal.returns-clause-ok
returns-clause-ok c =
    tallied_one c.args.vote (all_of c.self.inside.first c.self.inside.others.items)
    (all_of c.add_to_first.new.first c.add.new.tallies.items) c.args.name c.args.command c.args.self.now
    c.self.view_is c.requires (others_changed c)

pub returns-clause-support : goal.returns-clause-support
returns-clause-support c =
    c.in_ok-support.ensures.support
    ∙ support-other c.args.command c.add_to_first.new.first c.add.new.tallies.items (other c)
    ∙ support_of-tallied c.args.command (all_of c.add_to_first.new.first c.add.new.tallies.items)
    (invariant_of-self-2 c).tallies
