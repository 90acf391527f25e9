use Rattle.std.proofs.Common.{◌≡◌, true, refl, sym, ap, ◌∙◌, arith}
use Rattle.std.specs.Prelude.{nat_lt}
use Rattle.std.proofs.lemmas.Bool.Decides.{nat_tests}
use Rattle.owner_streams.specs.inside.Slots.{delivered_in}
use Rattle.owner_streams.specs.inside.Kept.{reach_in, held, command_in}
use Rattle.owner_streams.proofs.owner_stream.OwnerStream.command.Goals as goal

pub returns-then-place-len : goal.returns-then-place-len
returns-then-place-len c =
    let below : nat_lt c.args.place (reach_in c.args.self.now) ≡ true = grind (arith, nat_tests) in
    let found : command_in c.args.self.now c.args.place ≡ delivered_in (held c.args.self.now c.args.place) =
    rw below refl in
    c.delivered.ensures
    ∙ ap delivered_in (sym c.record_at.ensures)
    ∙ sym found
