use Rattle.std.proofs.Common.{[], ◌∷◌, ◌++◌, refl, ap, ◌∙◌}
use Rattle.role_node.specs.inside.Kept.{events}
use Rattle.role_node.proofs.EntryLemmas.{legal, counted_with_room}
use Rattle.role_node.proofs.FieldLemmas.{inside_stays, inside_grows, counts_inside, in_range, events_are_few}
use Rattle.role_node.proofs.FieldLemmas.{acts_are_few}
use Rattle.role_node.proofs.node.Node.record.Goals as goal

pub invariant_of-self : goal.invariant_of-self
invariant_of-self c =
    inside_stays c.self.invariant refl refl c.try_reserve.ensures.items refl (λ roles history h. h)

pub returns-in_err-try_reserve-clause-legal : goal.returns-in_err-try_reserve-clause-legal
returns-in_err-try_reserve-clause-legal c =
    legal c.self.inside.config c.self.inside.me c.try_reserve.new.self.items (invariant_of-self c).entries

pub answer-requires-clause-range : goal.answer-requires-clause-range
answer-requires-clause-range c =
    let counts = counts_inside c.self.inside c.args.self.now c.args.event.now c.self.view_is c.requires in
    let a = c.self.inside in
    in_range a.config.roles a.me (events a.entries.items) a.state c.args.event.now c.self.invariant.state
    (counted_with_room a.config a.me (events a.entries.items) c.args.event.now counts).1
    (events_are_few a c.self.invariant)

pub answer-requires-clause-counts : goal.answer-requires-clause-counts
answer-requires-clause-counts c =
    let a = c.self.inside in
    let counts = counts_inside a c.args.self.now c.args.event.now c.self.view_is c.requires in
    let room = counted_with_room a.config a.me (events a.entries.items) c.args.event.now counts in
    (a.config.roles, events a.entries.items, c.self.invariant.state, room.1)

pub invariant_of-self-in_err-entry : goal.invariant_of-self-in_err-entry
invariant_of-self-in_err-entry c =
    inside_stays c.self.invariant refl refl c.try_reserve.ensures.items refl c.in_err-entry.ensures.err

pub returns-in_err-entry-clause-legal : goal.returns-in_err-entry-clause-legal
returns-in_err-entry-clause-legal c =
    legal c.self.inside.config c.self.inside.me c.try_reserve.new.self.items (invariant_of-self-in_err-entry c).entries

pub invariant_of-self-2 : goal.invariant_of-self-2
invariant_of-self-2 c =
    let counts = counts_inside c.self.inside c.args.self.now c.args.event.now c.self.view_is c.requires in
    let pushed = c.push_reserved.ensures.items
    ∙ (λ i. c.try_reserve.ensures.items i ++ c.in_ok-entry.entry ∷ []) in
    let a = c.self.inside in
    let history = events a.entries.items in
    let state = c.in_ok-entry.ensures.ok a.config.roles history c.self.invariant.state in
    let entry = c.in_ok-entry.ensures.entry a.config.roles history c.self.invariant.state in
    inside_grows c.args.event.now c.self.invariant refl refl pushed
    c.in_ok-entry.ensures.ok counts c.in_ok-entry.ensures.entry
    (c.note.ensures a.config.roles history c.self.invariant.noted state (ap (λ e. e.reply) entry))

pub returns-clause-legal : goal.returns-clause-legal
returns-clause-legal c =
    legal c.self.inside.config c.self.inside.me c.push_reserved.new.self.items (invariant_of-self-2 c).entries

pub note-requires-clause-few : goal.note-requires-clause-few
note-requires-clause-few c = acts_are_few c.self.inside c.self.invariant
