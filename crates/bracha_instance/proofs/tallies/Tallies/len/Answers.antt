use Rattle.std.proofs.Common.{length, ap, ◌∙◌, arith}
use Rattle.bracha_instance.specs.inside.Tallies.{Tallied, all_of}
use Rattle.bracha_instance.proofs.TallyLemmas.{length-tallied}
use Rattle.bracha_instance.proofs.tallies.Tallies.len.Goals as goal

pub returns-in-Some-clause-len : goal.returns-in-Some-clause-len
returns-in-Some-clause-len c =
    let others = c.self.inside.others.items in
    let here = length-tallied (all_of c.self.inside.first others)
    ∙ ap (λ first. length (all_of first others)) c.in-Some.is in
    let seen = ap (λ (v : Tallied). length v.commands) c.self.view_is in
    omega (arith, here, seen, c.len.ensures)

pub returns-in-None-clause-len : goal.returns-in-None-clause-len
returns-in-None-clause-len c =
    let others = c.self.inside.others.items in
    let here = length-tallied (all_of c.self.inside.first others)
    ∙ ap (λ first. length (all_of first others)) c.in-None.is in
    let seen = ap (λ (v : Tallied). length v.commands) c.self.view_is in
    omega (arith, here, seen, c.len-in-None.ensures)
