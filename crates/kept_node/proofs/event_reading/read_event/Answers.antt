use Rattle.std.proofs.Common.{◌≡◌, ◌++◌, ◌∙◌, sym, ap, Some, List, ℕ, arith}
use Rattle.std.specs.Prelude.{option_map}
use Rattle.role_node.specs.declared.event.Event.{Event}
use Rattle.kept_node.specs.Events.{event_digits}
use Rattle.kept_node.specs.inside.EventReading.{event_at}
use Rattle.kept_node.proofs.ReadLemmas.{IsRead, read_is, none_read, only_read}
use Rattle.kept_node.proofs.ReadingLemmas.{event_again}
use Rattle.kept_node.proofs.event_reading.read_event.Goals as goal

read : (c : goal.After-reader) →
    event_at c.args.sizes c.args.me c.args.digits.now ≡ Some (c.in_ok-event.event, c.reader.inside.rest.now)
read c =
    sym c.event.ensures ∙ ap (option_map (λ (x : Event). (x, c.event.new.self))) c.in_ok-event.was
    ∙ (λ i. Some (c.in_ok-event.event, sym c.reader.view_is i))

is_read : (c : goal.After-reader) →
    IsRead c.args.sizes c.args.me c.args.digits.now c.in_ok-event.event c.reader.inside.rest.now
is_read c =
    read_is c.args.sizes c.args.me c.args.digits.now c.in_ok-event.event c.reader.inside.rest.now (read c)

pub returns-in_err-event-clause-only : goal.returns-in_err-event-clause-only
returns-in_err-event-clause-only c event behind here e =
    let again = event_again c.args.sizes c.args.me event behind c.n-nodes.ensures.sizes here in
    absurd (none_read (λ (x : Event). (x, c.event.new.self)) c.event.result
    (event_at c.args.sizes c.args.me c.args.digits.now) (event, behind) c.event.ensures c.in_err-event.was
    (ap (event_at c.args.sizes c.args.me) e ∙ again))

pub overflow_sub-result : goal.overflow_sub-result
overflow_sub-result c = let r = (is_read c).less in omega arith

pub returns-clause-found : goal.returns-clause-found
returns-clause-found c =
    let r = is_read c in (
      r.here,
      r.found ∙ ap (λ (l : List ℕ). event_digits c.in_ok-event.event ++ l) (sym r.behind),
    )

pub returns-clause-count : goal.returns-clause-count
returns-clause-count c = let r = (is_read c).less in (omega arith, omega arith)

pub returns-clause-only : goal.returns-clause-only
returns-clause-only c =
    only_read c.args.sizes c.args.me c.args.digits.now c.in_ok-event.event c.reader.inside.rest.now
    c.n-nodes.ensures.sizes (read c)
