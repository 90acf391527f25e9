use Rattle.std.proofs.Common.{◌≡◌, ◌+◌, false, length, refl, ap, sym, ◌∙◌, subst, rules}
use Rattle.std.proofs.Common.{append-nil}
use Rattle.std.specs.Prelude.{IsTrue}
use Rattle.std.specs.Vec.{vec_capacity}
use Rattle.batch_journal.proofs.KeptLemmas.{kept_synced}
use Rattle.batch_journal.proofs.journal.Journal.sync.Goals as goal

pub invariant_of-self : goal.invariant_of-self
invariant_of-self g c =
    let seen = g.D.Disk.seen in
    let size : c.len.result ≡ length c.self.inside.last.items = search rules in
    (kept_synced seen g.D.Disk.may_leave g.D.Disk.is_usable g.D.Disk.is_clean _ _ c.if-not-self.false c.if-self.false
    c.self.invariant
    (record {
      key = refl;
      head = refl;
      batch_key = refl;
      zeros = refl;
      size = refl;
      end = ap (λ n. c.self.inside.end + n) size;
      count = refl;
      waits = refl;
      seen_same = c.sync_disk.ensures.seen;
      only = c.in-Ok.ensures.durable;
    })
    c.in-Ok.ensures.usable c.sync_disk.ensures.clean).kept

pub returns-in-Ok-clause-batches : goal.returns-in-Ok-clause-batches
returns-in-Ok-clause-batches g c honest =
    let seen = g.D.Disk.seen in
    let size : c.len.result ≡ length c.self.inside.last.items = search rules in
    let s = kept_synced seen g.D.Disk.may_leave g.D.Disk.is_usable g.D.Disk.is_clean _ (record {
      disk = c.sync_disk.new.disk;
      beside = c.self.inside.files.log;
      key = c.self.inside.key;
      head = c.self.inside.head;
      batch_key = c.self.inside.batch_key;
      zeros = c.self.inside.zeros.items;
      last = c.self.inside.last.items;
      end = c.self.inside.end + c.len.result;
      size = c.self.inside.size;
      count = c.self.inside.count + 1;
      waits = false;
      broken = c.self.inside.broken;
      room = vec_capacity c.self.inside.last;
    }) c.if-not-self.false c.if-self.false c.self.invariant
    (record {
      key = refl;
      head = refl;
      batch_key = refl;
      zeros = refl;
      size = refl;
      end = ap (λ n. c.self.inside.end + n) size;
      count = refl;
      waits = refl;
      seen_same = c.sync_disk.ensures.seen;
      only = c.in-Ok.ensures.durable;
    })
    c.in-Ok.ensures.usable c.sync_disk.ensures.clean in
    let clean : IsTrue (g.D.Disk.is_clean c.sync_disk.new.disk) =
    subst IsTrue (ap (λ v. g.D.Disk.is_clean v.disk) (sym c.self.view_is) ∙ sym c.sync_disk.ensures.clean) honest in
    append-nil _ ∙ s.stored_all clean ∙ ap (λ v. v.batches) c.self.view_is

pub returns-in-Ok-clause-crash : goal.returns-in-Ok-clause-crash
returns-in-Ok-clause-crash g c = (invariant_of-self g c).survives
