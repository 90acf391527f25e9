use Rattle.std.proofs.Common.{◌≡◌, false, [], ◌∷◌, ◌++◌, length, sym, ap, ◌∙◌, subst, arith}
use Rattle.std.specs.List.{list_any}
use Rattle.bracha_instance.specs.inside.Tallies.{no_names, is_tally_of, IsFirst}
use Rattle.bracha_instance.proofs.TallyLemmas.{none-position, IsFirst-new, with_tally-new}
use Rattle.bracha_instance.proofs.tallies.add_tally.Goals as goal
use Rattle.bracha_instance.proofs.tallies.add_tally.Goals.{In_ok-push}

none_there : (c : In_ok-push) → list_any (is_tally_of c.args.command) c.args.tallies.now.items ≡ false
none_there c =
    none-position c.args.command c.args.tallies.now.items c.requires

-- the tallies with a new one
pushed : (c : In_ok-push) → c.push.new.self.items ≡ c.args.tallies.now.items ++ no_names c.args.command ∷ []
pushed c = c.in_ok-push.ensures.items ∙ ap (λ t. c.args.tallies.now.items ++ t ∷ []) c.new.ensures

pub returns-clause-place : goal.returns-clause-place
returns-clause-place c =
    let at : length c.args.tallies.now.items ≡ c.len-at.result = omega arith in
    subst (IsFirst c.args.command c.push.new.self.items) at
    (subst (λ tallies. IsFirst c.args.command tallies (length c.args.tallies.now.items)) (sym (pushed c))
    (IsFirst-new c.args.command c.args.tallies.now.items (none_there c)))

pub returns-clause-tallies : goal.returns-clause-tallies
returns-clause-tallies c =
    pushed c ∙ with_tally-new c.args.command c.args.tallies.now.items (none_there c)
