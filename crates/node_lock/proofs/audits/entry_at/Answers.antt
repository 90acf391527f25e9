use Rattle.std.proofs.Common.{◌≡◌, length, sym, ap, ◌∙◌, arith, refl}
use Rattle.std.proofs.lemmas.Option.{slice_get_read}
use Rattle.role_node.proofs.Exported.{events-length}
use Rattle.node_lock.proofs.DueOutcomes.{next_entry}
use Rattle.node_lock.proofs.audits.entry_at.Goals as goal

pub returns-clause-next : goal.returns-clause-next
returns-clause-next c =
    let entries = c.history.result.now in
    let len : length entries ≡ length c.args.node.now.history = sym (events-length entries)
    ∙ ap length c.history.ensures.events in
    next_entry c.args.node.now entries c.args.place c.index-history-place.result c.history.ensures.events
    c.history.ensures.replies c.history.ensures.legal
    (slice_get_read entries (length entries) c.args.place c.index-history-place.result refl
    (omega arith) c.index-history-place.is)
    c.event.result c.reply.result c.event.ensures c.reply.ensures
