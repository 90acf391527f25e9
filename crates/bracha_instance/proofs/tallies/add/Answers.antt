use Rattle.std.proofs.Common.{sym, ap, ◌∙◌, arith}
use Rattle.std.specs.Prelude.{slice_set}
use Rattle.bracha_instance.specs.inside.Tallies.{TallyValue, with_tally, voted_by}
use Rattle.bracha_instance.proofs.TallyLemmas.{within, set-with_tally, with_tally-again, support_in-set}
use Rattle.bracha_instance.proofs.TallyLemmas.{command-voted_by}
use Rattle.bracha_instance.proofs.tallies.add.Goals as goal

pub index_mut-requires : goal.index_mut-requires
index_mut-requires c =
    let here = within c.args.command c.tally_of.new.tallies.items c.in_ok-at.at c.in_ok-at.ensures.place in omega arith

pub returns-clause-tallies : goal.returns-clause-tallies
returns-clause-tallies c =
    let tallies = c.tally_of.new.tallies.items in
    let tally = c.index_mut.result.now in
    let change = voted_by c.args.vote c.args.name in
    ap (slice_set tallies c.in_ok-at.at) c.add.ensures.tally
    ∙ ap (λ (t : TallyValue). slice_set tallies c.in_ok-at.at (change t)) c.index_mut.ensures.value
    ∙ set-with_tally change c.args.command tallies c.in_ok-at.at tally c.in_ok-at.ensures.place
    ∙ ap (with_tally change c.args.command) c.in_ok-at.ensures.tallies
    ∙ with_tally-again change c.args.command c.args.tallies.now.items

pub returns-clause-support : goal.returns-clause-support
returns-clause-support c =
    let tally = c.index_mut.result.now in
    c.add.ensures.support
    ∙ sym (support_in-set c.args.command c.tally_of.new.tallies.items c.in_ok-at.at tally c.add.new.self
    c.in_ok-at.ensures.place c.index_mut.ensures.value (ap (λ (t : TallyValue). t.command) c.add.ensures.tally
    ∙ command-voted_by c.args.vote c.args.name tally))
