use Rattle.std.proofs.Common.{◌∙◌, [], ◌∷◌, ◌++◌, refl}
use Rattle.owner_streams.specs.Steps.{step_of}
use Rattle.role_node.specs.Histories.{packets}
use Rattle.role_node.specs.declared.event.Event.TheVariants.{Take}
use Rattle.role_node.proofs.NotingLemmas.{noted-own, places_of, told_now, told_before}
use Rattle.role_node.proofs.noted.Noted.note_own.Goals as goal

pub returns-then-not-are_issued : goal.returns-then-not-are_issued
returns-then-not-are_issued c roles history p own is state r =
    let counted = c.in-Counted in
    let step = step_of roles.sizes (packets history) p in
    let new = places_of counted.send counted.delivered counted.from counted.to p step (counted.ensures ∙ r) in
    noted-own roles.sizes c.args.me history p counted.from counted.to c.are_issued.result own is new.0 new.1
    (c.are_issued.ensures roles (history ++ Take p ∷ []) state) refl
    (told_now c.args.self.now.begun_twice c.are_issued.result c.if-not-are_issued.true)

pub returns-else-not-are_issued : goal.returns-else-not-are_issued
returns-else-not-are_issued c roles history p own is state r =
    let counted = c.in-Counted in
    let step = step_of roles.sizes (packets history) p in
    let new = places_of counted.send counted.delivered counted.from counted.to p step (counted.ensures ∙ r) in
    noted-own roles.sizes c.args.me history p counted.from counted.to c.are_issued.result own is new.0 new.1
    (c.are_issued.ensures roles (history ++ Take p ∷ []) state) refl
    (told_before c.args.self.now.begun_twice c.are_issued.result c.if-not-are_issued.false)
