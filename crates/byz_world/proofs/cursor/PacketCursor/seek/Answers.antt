use Rattle.std.proofs.Common.{◌/◌, ◌%◌, sym, ap, ◌∙◌}
use Rattle.std.proofs.lemmas.Nat.{div-mul-add, mod-mul-add}
use Rattle.byz_world.proofs.cursor.PacketCursor.seek.Goals as goal

pub returns-clause-message : goal.returns-clause-message
returns-clause-message c =
    let s = c.go_to.new.self in
    sym (div-mul-add s.message s.nodes s.to s.within) ∙ ap (λ k. k / s.nodes) (sym s.number ∙ c.go_to.ensures.packet)
    ∙ ap (λ n. c.args.packet / n) c.go_to.ensures.nodes

pub returns-clause-to : goal.returns-clause-to
returns-clause-to c =
    let s = c.go_to.new.self in
    sym (mod-mul-add s.message s.nodes s.to s.within) ∙ ap (λ k. k % s.nodes) (sym s.number ∙ c.go_to.ensures.packet)
    ∙ ap (λ n. c.args.packet % n) c.go_to.ensures.nodes
