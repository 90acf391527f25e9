use Rattle.std.proofs.Common.{◌≡◌, Some, None, sym, ap, ◌∙◌}
use Rattle.std.specs.Prelude.{slice_get}
use Rattle.owner_streams.specs.Places.{stream}
use Rattle.role_node.specs.Access.{stream_at}
use Rattle.role_node.specs.Histories.{issued, packets}
use Rattle.role_node.proofs.NotingLemmas.{is_compared, is_missing, at_place, past_end}
use Rattle.role_node.proofs.noted.is_issued.Goals as goal

pub returns-in-Some-get : goal.returns-in-Some-get
returns-in-Some-get c roles history h =
    let a = c.args in
    let s = roles.sizes in
    let there : slice_get (stream_at s history a.me) a.place ≡ Some c.in-Some.delivered =
    ap (λ sizes. slice_get (stream sizes a.me (packets history)) a.place) (sym h.sizes)
    ∙ sym (c.in-Some.ensures (packets history) h.streams) in
    let found = c.in-Some-get.ensures.lookup in
    let mine : slice_get (issued history) a.place ≡ Some c.in-Some-get.issued.now =
    ap (λ l. slice_get l a.place) (sym (c.deref.ensures.value ∙ h.issued))
    ∙ at_place c.deref.result.now a.place c.in-Some-get.issued.now found.3.0 found.1 in
    is_compared s a.me history a.place c.in-Some.delivered c.in-Some-get.issued.now c.is_same.result there mine
    c.is_same.ensures

pub returns-in-None-get : goal.returns-in-None-get
returns-in-None-get c roles history h =
    let a = c.args in
    let s = roles.sizes in
    let there : slice_get (stream_at s history a.me) a.place ≡ Some c.in-Some.delivered =
    ap (λ sizes. slice_get (stream sizes a.me (packets history)) a.place) (sym h.sizes)
    ∙ sym (c.in-Some.ensures (packets history) h.streams) in
    let none : slice_get (issued history) a.place ≡ None =
    ap (λ l. slice_get l a.place) (sym (c.deref.ensures.value ∙ h.issued))
    ∙ past_end c.deref.result.now a.place c.in-None-get.ensures.lookup.3 in
    is_missing s a.me history a.place c.in-Some.delivered there none
