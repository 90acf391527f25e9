use Rattle.std.proofs.Common.{◌≡◌, Option, Some, None, sym, ap, ◌∙◌, arith}
use Rattle.std.specs.Prelude.{is_some, IfSome}
use Rattle.owner_streams.specs.inside.Slots.{delivered_in}
use Rattle.owner_streams.specs.inside.Kept.{reach_in, held}
use Rattle.owner_streams.proofs.owner_stream.OwnerStream.front.Goals as goal

if_some : {A : Type 0} (o : Option A) {P Q : A → Type 0} → ((x : A) → P x → Q x) → IfSome o P → IfSome o Q
if_some None f p = p
if_some (Some x) f p = f x p

pub returns-in-Some-clause-delivered : goal.returns-in-Some-clause-delivered
returns-in-Some-clause-delivered c =
    let at : c.len.result ≡ reach_in c.args.self.now = omega arith in
    c.record.ensures.delivered
    ∙ ap (λ slot. is_some (delivered_in slot)) (c.in-Some.ensures ∙ ap (held c.args.self.now) at)

pub returns-in-Some-clause-record : goal.returns-in-Some-clause-record
returns-in-Some-clause-record c =
    let at : c.len.result ≡ reach_in c.args.self.now = omega arith in
    if_some c.record.result (λ kept same. sym (c.in-Some.ensures ∙ ap (held c.args.self.now) at) ∙ ap Some (sym same))
    c.record.ensures.record

pub returns-in-None-clause-delivered : goal.returns-in-None-clause-delivered
returns-in-None-clause-delivered c =
    let at : c.len.result ≡ reach_in c.args.self.now = omega arith in
    ap (λ slot. is_some (delivered_in slot)) (c.in-None.ensures ∙ ap (held c.args.self.now) at)
