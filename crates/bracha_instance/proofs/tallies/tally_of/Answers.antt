use Rattle.std.proofs.Common.{sym, ap, ◌∙◌}
use Rattle.std.specs.Prelude.{position}
use Rattle.bracha_instance.specs.inside.Tallies.{is_tally_of}
use Rattle.bracha_instance.proofs.TallyLemmas.{IsFirst-position, with_tally-found}
use Rattle.bracha_instance.proofs.tallies.tally_of.Goals as goal

pub returns-in-Some-clause-place : goal.returns-in-Some-clause-place
returns-in-Some-clause-place c =
    IsFirst-position c.args.command c.args.tallies.now.items c.in-Some.at
    (sym (c.in-Some.ensures ∙ ap (position (is_tally_of c.args.command)) c.deref.ensures.value))

pub returns-in-Some-clause-tallies : goal.returns-in-Some-clause-tallies
returns-in-Some-clause-tallies c =
    with_tally-found c.args.command c.args.tallies.now.items c.in-Some.at (returns-in-Some-clause-place c)

pub add_tally-requires : goal.add_tally-requires
add_tally-requires c =
    sym (c.in-None.ensures ∙ ap (position (is_tally_of c.args.command)) c.deref.ensures.value)
