use Rattle.std.proofs.Common.{◌≤◌}
use Rattle.kept_node.proofs.OpeningLemmas.{unopened_is, unopened_leaves, head_names, not_err, opened_is}
use Rattle.kept_node.proofs.OpeningLemmas.{beside_first, roomless_left}
use Rattle.kept_node.proofs.opening.open_with_room.Goals as goal

pub returns-in-Err-open-clause-why : goal.returns-in-Err-open-clause-why
returns-in-Err-open-clause-why g c =
    unopened_is g.D.Disk.seen g.D.Disk.faults g.D.Disk.is_clean g.D.Disk.is_mixing c.args.key.now
    c.args.locked.now.node.config c.args.locked.now.node.me c.args.files c.in-Err-open.files c.in-Ok.head
    c.in-Err-open.fault
    (head_names c.args.locked.now.node.config c.config.result.now c.args.locked.now.node.me c.me.result c.in-Ok.head
    c.config.ensures.value c.me.ensures.value c.in-Ok.ensures.names) c.in-Err-open.ensures.why

pub returns-in-Err-open-clause-left : goal.returns-in-Err-open-clause-left
returns-in-Err-open-clause-left g c clean =
    unopened_leaves c.args.key.now c.args.locked.now.node.config c.args.locked.now.node.me c.in-Ok.head
    (g.D.Disk.seen c.args.files.db) (g.D.Disk.may_leave c.args.files.db) (g.D.Disk.may_leave c.in-Err-open.files.db)
    (head_names c.args.locked.now.node.config c.config.result.now c.args.locked.now.node.me c.me.result c.in-Ok.head
    c.config.ensures.value c.me.ensures.value c.in-Ok.ensures.names) (c.in-Err-open.ensures.left clean)

pub returns-then-is_err-clause-left : goal.returns-then-is_err-clause-left
returns-then-is_err-clause-left g c clean =
    roomless_left g.D.Disk.may_leave g.D.Disk.is_clean c.in-Ok-open.opened.0 c.make_room.new.self c.args.key.now
    c.in-Ok.head (g.D.Disk.seen c.args.files.db) c.args.locked.now.node.config c.args.locked.now.node.me
    (g.D.Disk.may_leave c.args.files.db) (record {
      same = c.make_room.ensures.same;
      key_is = c.in-Ok-open.ensures.key;
      head_is = c.in-Ok-open.ensures.head;
      settled = c.in-Ok-open.ensures.synced;
      reads = c.in-Ok-open.ensures.batches;
      survives = c.make_room.ensures.crash;
    })
    (head_names c.args.locked.now.node.config c.config.result.now c.args.locked.now.node.me c.me.result c.in-Ok.head
    c.config.ensures.value c.me.ensures.value c.in-Ok.ensures.names) clean

pub returns-clause-alone : goal.returns-clause-alone
returns-clause-alone g c clean =
    c.in-Ok-open.ensures.alone
    (beside_first g.D.Disk.is_clean c.in-Ok-open.opened.0 c.make_room.new.self c.make_room.ensures.same clean)

pub returns-clause-opened : goal.returns-clause-opened
returns-clause-opened g c =
    opened_is g.D.Disk.may_leave g.D.Disk.is_clean c.in-Ok-open.opened.0 c.make_room.new.self c.args.key.now
    c.in-Ok.head (g.D.Disk.seen c.args.files.db) c.args.locked.now.node.config c.args.locked.now.node.me
    c.in-Ok-open.opened.1.items (record {
      same = c.make_room.ensures.same;
      key_is = c.in-Ok-open.ensures.key;
      head_is = c.in-Ok-open.ensures.head;
      settled = c.in-Ok-open.ensures.synced;
      reads = c.in-Ok-open.ensures.batches;
      survives = c.make_room.ensures.crash;
    })
    (head_names c.args.locked.now.node.config c.config.result.now c.args.locked.now.node.me c.me.result c.in-Ok.head
    c.config.ensures.value c.me.ensures.value c.in-Ok.ensures.names)
    c.in-Ok-open.ensures.whole c.in-Ok-open.ensures.digits
    (not_err c.make_room.result c.is_err.result (19497 ≤ c.make_room.new.self.room) c.make_room.ensures.ok
    c.is_err.ensures.value c.if-is_err.false)
