use Rattle.std.proofs.Common.{◌≡◌, ◌⊎◌, ◌+◌, ◌≤◌, ◌++◌, [], ◌∷◌, true, false, length}
use Rattle.std.proofs.Common.{refl, ap, sym, ◌∙◌, subst, arith, rules}
use Rattle.std.specs.Prelude.{IsTrue}
use Rattle.std.specs.Vec.{vec_capacity}
use Rattle.batch_journal.specs.Readings.{room_behind}
use Rattle.batch_journal.proofs.BatchLemmas.{length-batch_of}
use Rattle.batch_journal.proofs.KeptLemmas.{kept_placed, kept_unplaced, kept_buffer, waits_batches, Waits, Fails}
use Rattle.batch_journal.proofs.SettledLemmas.{none_waits, most_size, zeros_size, room_is}
use Rattle.batch_journal.proofs.journal.Journal.write.Goals as goal

pub is_full-requires-clause-room : goal.is_full-requires-clause-room
is_full-requires-clause-room g c =
    let zeros : c.len.result ≡ room_behind = zeros_size g.D.Disk.seen g.D.Disk.may_leave g.D.Disk.is_usable
    g.D.Disk.is_clean (record {
      disk = c.self.inside.files.db;
      beside = c.self.inside.files.log;
      key = c.self.inside.key;
      head = c.self.inside.head;
      batch_key = c.self.inside.batch_key;
      zeros = c.self.inside.zeros.items;
      last = c.self.inside.last.items;
      end = c.self.inside.end;
      size = c.self.inside.size;
      count = c.self.inside.count;
      waits = c.self.inside.waits;
      broken = c.self.inside.broken;
      room = vec_capacity c.self.inside.last;
    }) c.self.invariant c.len.result (search rules) in
    omega (arith, zeros, room_is)

pub invariant_of-self : goal.invariant_of-self
invariant_of-self g c =
    let off : c.self.inside.waits ≡ false =
    none_waits g.D.Disk.seen g.D.Disk.may_leave g.D.Disk.is_usable g.D.Disk.is_clean (record {
      disk = c.self.inside.files.db;
      beside = c.self.inside.files.log;
      key = c.self.inside.key;
      head = c.self.inside.head;
      batch_key = c.self.inside.batch_key;
      zeros = c.self.inside.zeros.items;
      last = c.self.inside.last.items;
      end = c.self.inside.end;
      size = c.self.inside.size;
      count = c.self.inside.count;
      waits = c.self.inside.waits;
      broken = c.self.inside.broken;
      room = vec_capacity c.self.inside.last;
    })
    (ap (λ v. v.synced) c.self.view_is ∙ c.requires.synced ∙ ap (λ v. length v.batches) (sym c.self.view_is)) in
    kept_buffer g.D.Disk.seen g.D.Disk.may_leave g.D.Disk.is_usable g.D.Disk.is_clean (record {
      disk = c.self.inside.files.db;
      beside = c.self.inside.files.log;
      key = c.self.inside.key;
      head = c.self.inside.head;
      batch_key = c.self.inside.batch_key;
      zeros = c.self.inside.zeros.items;
      last = c.self.inside.last.items;
      end = c.self.inside.end;
      size = c.self.inside.size;
      count = c.self.inside.count;
      waits = c.self.inside.waits;
      broken = c.self.inside.broken;
      room = vec_capacity c.self.inside.last;
    }) c.make_batch.new.bytes.items (vec_capacity c.make_batch.new.bytes) off c.if-self.false c.self.invariant

pub returns-in-Err-clause-crash : goal.returns-in-Err-clause-crash
returns-in-Err-clause-crash g c =
    let off : c.self.inside.waits ≡ false =
    none_waits g.D.Disk.seen g.D.Disk.may_leave g.D.Disk.is_usable g.D.Disk.is_clean (record {
      disk = c.self.inside.files.db;
      beside = c.self.inside.files.log;
      key = c.self.inside.key;
      head = c.self.inside.head;
      batch_key = c.self.inside.batch_key;
      zeros = c.self.inside.zeros.items;
      last = c.self.inside.last.items;
      end = c.self.inside.end;
      size = c.self.inside.size;
      count = c.self.inside.count;
      waits = c.self.inside.waits;
      broken = c.self.inside.broken;
      room = vec_capacity c.self.inside.last;
    })
    (ap (λ v. v.synced) c.self.view_is ∙ c.requires.synced ∙ ap (λ v. length v.batches) (sym c.self.view_is)) in
    (kept_buffer g.D.Disk.seen g.D.Disk.may_leave g.D.Disk.is_usable g.D.Disk.is_clean (record {
      disk = c.self.inside.files.db;
      beside = c.self.inside.files.log;
      key = c.self.inside.key;
      head = c.self.inside.head;
      batch_key = c.self.inside.batch_key;
      zeros = c.self.inside.zeros.items;
      last = c.self.inside.last.items;
      end = c.self.inside.end;
      size = c.self.inside.size;
      count = c.self.inside.count;
      waits = c.self.inside.waits;
      broken = c.self.inside.broken;
      room = vec_capacity c.self.inside.last;
    }) c.make_batch.new.bytes.items (vec_capacity c.make_batch.new.bytes) off c.if-self.false c.self.invariant).survives

pub place-requires-clause-few : goal.place-requires-clause-few
place-requires-clause-few g c =
    let long : length c.deref.result.now ≡ 41 + length c.args.batch.now =
    ap length (c.deref.ensures.value ∙ c.in-Ok.ensures.batch)
    ∙ length-batch_of c.self.inside.batch_key c.self.inside.count
    c.args.batch.now in
    omega (arith, long, room_is, c.requires.few)

pub place-requires-clause-room_is : goal.place-requires-clause-room_is
place-requires-clause-room_is g c = omega (arith, room_is)

pub invariant_of-self-in-Ok-place : goal.invariant_of-self-in-Ok-place
invariant_of-self-in-Ok-place g c =
    let off : c.self.inside.waits ≡ false =
    none_waits g.D.Disk.seen g.D.Disk.may_leave g.D.Disk.is_usable g.D.Disk.is_clean (record {
      disk = c.self.inside.files.db;
      beside = c.self.inside.files.log;
      key = c.self.inside.key;
      head = c.self.inside.head;
      batch_key = c.self.inside.batch_key;
      zeros = c.self.inside.zeros.items;
      last = c.self.inside.last.items;
      end = c.self.inside.end;
      size = c.self.inside.size;
      count = c.self.inside.count;
      waits = c.self.inside.waits;
      broken = c.self.inside.broken;
      room = vec_capacity c.self.inside.last;
    })
    (ap (λ v. v.synced) c.self.view_is ∙ c.requires.synced ∙ ap (λ v. length v.batches) (sym c.self.view_is)) in
    let zeros : c.len.result ≡ room_behind = zeros_size g.D.Disk.seen g.D.Disk.may_leave g.D.Disk.is_usable
    g.D.Disk.is_clean (record {
      disk = c.self.inside.files.db;
      beside = c.self.inside.files.log;
      key = c.self.inside.key;
      head = c.self.inside.head;
      batch_key = c.self.inside.batch_key;
      zeros = c.self.inside.zeros.items;
      last = c.self.inside.last.items;
      end = c.self.inside.end;
      size = c.self.inside.size;
      count = c.self.inside.count;
      waits = c.self.inside.waits;
      broken = c.self.inside.broken;
      room = vec_capacity c.self.inside.last;
    }) c.self.invariant c.len.result (search rules) in
    let bytes : c.deref.result.now ≡ c.make_batch.new.bytes.items = c.deref.ensures.value in
    let long : length c.deref.result.now ≡ 41 + length c.args.batch.now =
    ap length (bytes ∙ c.in-Ok.ensures.batch) ∙ length-batch_of c.self.inside.batch_key c.self.inside.count
    c.args.batch.now in
    let most : c.in-Ok-place.size ≤ 536870912 =
    most_size c.self.inside.end c.self.inside.size c.in-Ok-place.size room_behind (41 + length c.args.batch.now)
    c.self.invariant.few
    (subst (λ k. (c.self.inside.end + (41 + length c.args.batch.now) + k ≤ c.self.inside.size)
    ⊎ (c.self.inside.size + k ≤ 536870912)) zeros (c.is_full.ensures.free c.if-is_full.false))
    (subst (λ k. c.self.inside.end + k + room_behind ≤ c.self.inside.size → c.in-Ok-place.size ≡ c.self.inside.size)
    long c.in-Ok-place.ensures.need)
    c.in-Ok-place.ensures.most in
    let w : Waits g.D.Disk.seen g.D.Disk.may_leave g.D.Disk.is_usable g.D.Disk.is_clean (record {
      disk = c.self.inside.files.db;
      beside = c.self.inside.files.log;
      key = c.self.inside.key;
      head = c.self.inside.head;
      batch_key = c.self.inside.batch_key;
      zeros = c.self.inside.zeros.items;
      last = c.self.inside.last.items;
      end = c.self.inside.end;
      size = c.self.inside.size;
      count = c.self.inside.count;
      waits = c.self.inside.waits;
      broken = c.self.inside.broken;
      room = vec_capacity c.self.inside.last;
    }) (record {
      disk = c.place.new.disk;
      beside = c.self.inside.files.log;
      key = c.self.inside.key;
      head = c.self.inside.head;
      batch_key = c.self.inside.batch_key;
      zeros = c.self.inside.zeros.items;
      last = c.make_batch.new.bytes.items;
      end = c.self.inside.end;
      size = c.in-Ok-place.size;
      count = c.self.inside.count;
      waits = true;
      broken = c.self.inside.broken;
      room = vec_capacity c.make_batch.new.bytes;
    }) c.args.batch.now = (record {
      key = refl;
      head = refl;
      batch_key = refl;
      zeros = refl;
      end = refl;
      count = refl;
      waits = refl;
      digits = c.requires.digits;
      few = omega arith;
      last = c.in-Ok.ensures.batch;
      size = most;
    }) in
    let k = kept_placed g.D.Disk.seen g.D.Disk.may_leave g.D.Disk.is_usable g.D.Disk.is_clean _ _ c.args.batch.now
    c.deref.result.now bytes off c.if-self.false c.self.invariant w c.if-self.false
    c.in-Ok-place.ensures.usable c.place.ensures.clean c.in-Ok-place.ensures.room c.in-Ok-place.ensures.seen
    c.in-Ok-place.ensures.placed in
    k.0

pub returns-in-Ok-place-clause-crash : goal.returns-in-Ok-place-clause-crash
returns-in-Ok-place-clause-crash g c =
    let off : c.self.inside.waits ≡ false =
    none_waits g.D.Disk.seen g.D.Disk.may_leave g.D.Disk.is_usable g.D.Disk.is_clean (record {
      disk = c.self.inside.files.db;
      beside = c.self.inside.files.log;
      key = c.self.inside.key;
      head = c.self.inside.head;
      batch_key = c.self.inside.batch_key;
      zeros = c.self.inside.zeros.items;
      last = c.self.inside.last.items;
      end = c.self.inside.end;
      size = c.self.inside.size;
      count = c.self.inside.count;
      waits = c.self.inside.waits;
      broken = c.self.inside.broken;
      room = vec_capacity c.self.inside.last;
    })
    (ap (λ v. v.synced) c.self.view_is ∙ c.requires.synced ∙ ap (λ v. length v.batches) (sym c.self.view_is)) in
    let zeros : c.len.result ≡ room_behind = zeros_size g.D.Disk.seen g.D.Disk.may_leave g.D.Disk.is_usable
    g.D.Disk.is_clean (record {
      disk = c.self.inside.files.db;
      beside = c.self.inside.files.log;
      key = c.self.inside.key;
      head = c.self.inside.head;
      batch_key = c.self.inside.batch_key;
      zeros = c.self.inside.zeros.items;
      last = c.self.inside.last.items;
      end = c.self.inside.end;
      size = c.self.inside.size;
      count = c.self.inside.count;
      waits = c.self.inside.waits;
      broken = c.self.inside.broken;
      room = vec_capacity c.self.inside.last;
    }) c.self.invariant c.len.result (search rules) in
    let bytes : c.deref.result.now ≡ c.make_batch.new.bytes.items = c.deref.ensures.value in
    let long : length c.deref.result.now ≡ 41 + length c.args.batch.now =
    ap length (bytes ∙ c.in-Ok.ensures.batch) ∙ length-batch_of c.self.inside.batch_key c.self.inside.count
    c.args.batch.now in
    let most : c.in-Ok-place.size ≤ 536870912 =
    most_size c.self.inside.end c.self.inside.size c.in-Ok-place.size room_behind (41 + length c.args.batch.now)
    c.self.invariant.few
    (subst (λ k. (c.self.inside.end + (41 + length c.args.batch.now) + k ≤ c.self.inside.size)
    ⊎ (c.self.inside.size + k ≤ 536870912)) zeros (c.is_full.ensures.free c.if-is_full.false))
    (subst (λ k. c.self.inside.end + k + room_behind ≤ c.self.inside.size → c.in-Ok-place.size ≡ c.self.inside.size)
    long c.in-Ok-place.ensures.need)
    c.in-Ok-place.ensures.most in
    let w : Waits g.D.Disk.seen g.D.Disk.may_leave g.D.Disk.is_usable g.D.Disk.is_clean (record {
      disk = c.self.inside.files.db;
      beside = c.self.inside.files.log;
      key = c.self.inside.key;
      head = c.self.inside.head;
      batch_key = c.self.inside.batch_key;
      zeros = c.self.inside.zeros.items;
      last = c.self.inside.last.items;
      end = c.self.inside.end;
      size = c.self.inside.size;
      count = c.self.inside.count;
      waits = c.self.inside.waits;
      broken = c.self.inside.broken;
      room = vec_capacity c.self.inside.last;
    }) (record {
      disk = c.place.new.disk;
      beside = c.self.inside.files.log;
      key = c.self.inside.key;
      head = c.self.inside.head;
      batch_key = c.self.inside.batch_key;
      zeros = c.self.inside.zeros.items;
      last = c.make_batch.new.bytes.items;
      end = c.self.inside.end;
      size = c.in-Ok-place.size;
      count = c.self.inside.count;
      waits = true;
      broken = c.self.inside.broken;
      room = vec_capacity c.make_batch.new.bytes;
    }) c.args.batch.now = (record {
      key = refl;
      head = refl;
      batch_key = refl;
      zeros = refl;
      end = refl;
      count = refl;
      waits = refl;
      digits = c.requires.digits;
      few = omega arith;
      last = c.in-Ok.ensures.batch;
      size = most;
    }) in
    let k = kept_placed g.D.Disk.seen g.D.Disk.may_leave g.D.Disk.is_usable g.D.Disk.is_clean _ _ c.args.batch.now
    c.deref.result.now bytes off c.if-self.false c.self.invariant w c.if-self.false
    c.in-Ok-place.ensures.usable c.place.ensures.clean c.in-Ok-place.ensures.room c.in-Ok-place.ensures.seen
    c.in-Ok-place.ensures.placed in
    k.0.survives

pub returns-in-Ok-place-clause-ok : goal.returns-in-Ok-place-clause-ok
returns-in-Ok-place-clause-ok g c =
    let off : c.self.inside.waits ≡ false =
    none_waits g.D.Disk.seen g.D.Disk.may_leave g.D.Disk.is_usable g.D.Disk.is_clean (record {
      disk = c.self.inside.files.db;
      beside = c.self.inside.files.log;
      key = c.self.inside.key;
      head = c.self.inside.head;
      batch_key = c.self.inside.batch_key;
      zeros = c.self.inside.zeros.items;
      last = c.self.inside.last.items;
      end = c.self.inside.end;
      size = c.self.inside.size;
      count = c.self.inside.count;
      waits = c.self.inside.waits;
      broken = c.self.inside.broken;
      room = vec_capacity c.self.inside.last;
    })
    (ap (λ v. v.synced) c.self.view_is ∙ c.requires.synced ∙ ap (λ v. length v.batches) (sym c.self.view_is)) in
    let zeros : c.len.result ≡ room_behind = zeros_size g.D.Disk.seen g.D.Disk.may_leave g.D.Disk.is_usable
    g.D.Disk.is_clean (record {
      disk = c.self.inside.files.db;
      beside = c.self.inside.files.log;
      key = c.self.inside.key;
      head = c.self.inside.head;
      batch_key = c.self.inside.batch_key;
      zeros = c.self.inside.zeros.items;
      last = c.self.inside.last.items;
      end = c.self.inside.end;
      size = c.self.inside.size;
      count = c.self.inside.count;
      waits = c.self.inside.waits;
      broken = c.self.inside.broken;
      room = vec_capacity c.self.inside.last;
    }) c.self.invariant c.len.result (search rules) in
    let bytes : c.deref.result.now ≡ c.make_batch.new.bytes.items = c.deref.ensures.value in
    let long : length c.deref.result.now ≡ 41 + length c.args.batch.now =
    ap length (bytes ∙ c.in-Ok.ensures.batch) ∙ length-batch_of c.self.inside.batch_key c.self.inside.count
    c.args.batch.now in
    let most : c.in-Ok-place.size ≤ 536870912 =
    most_size c.self.inside.end c.self.inside.size c.in-Ok-place.size room_behind (41 + length c.args.batch.now)
    c.self.invariant.few
    (subst (λ k. (c.self.inside.end + (41 + length c.args.batch.now) + k ≤ c.self.inside.size)
    ⊎ (c.self.inside.size + k ≤ 536870912)) zeros (c.is_full.ensures.free c.if-is_full.false))
    (subst (λ k. c.self.inside.end + k + room_behind ≤ c.self.inside.size → c.in-Ok-place.size ≡ c.self.inside.size)
    long c.in-Ok-place.ensures.need)
    c.in-Ok-place.ensures.most in
    let w : Waits g.D.Disk.seen g.D.Disk.may_leave g.D.Disk.is_usable g.D.Disk.is_clean (record {
      disk = c.self.inside.files.db;
      beside = c.self.inside.files.log;
      key = c.self.inside.key;
      head = c.self.inside.head;
      batch_key = c.self.inside.batch_key;
      zeros = c.self.inside.zeros.items;
      last = c.self.inside.last.items;
      end = c.self.inside.end;
      size = c.self.inside.size;
      count = c.self.inside.count;
      waits = c.self.inside.waits;
      broken = c.self.inside.broken;
      room = vec_capacity c.self.inside.last;
    }) (record {
      disk = c.place.new.disk;
      beside = c.self.inside.files.log;
      key = c.self.inside.key;
      head = c.self.inside.head;
      batch_key = c.self.inside.batch_key;
      zeros = c.self.inside.zeros.items;
      last = c.make_batch.new.bytes.items;
      end = c.self.inside.end;
      size = c.in-Ok-place.size;
      count = c.self.inside.count;
      waits = true;
      broken = c.self.inside.broken;
      room = vec_capacity c.make_batch.new.bytes;
    }) c.args.batch.now = (record {
      key = refl;
      head = refl;
      batch_key = refl;
      zeros = refl;
      end = refl;
      count = refl;
      waits = refl;
      digits = c.requires.digits;
      few = omega arith;
      last = c.in-Ok.ensures.batch;
      size = most;
    }) in
    let k = kept_placed g.D.Disk.seen g.D.Disk.may_leave g.D.Disk.is_usable g.D.Disk.is_clean _ _ c.args.batch.now
    c.deref.result.now bytes off c.if-self.false c.self.invariant w c.if-self.false
    c.in-Ok-place.ensures.usable c.place.ensures.clean c.in-Ok-place.ensures.room c.in-Ok-place.ensures.seen
    c.in-Ok-place.ensures.placed in
    let honest = λ (h : IsTrue (g.D.Disk.is_clean c.args.self.now.disk)).
    subst IsTrue (ap (λ v. g.D.Disk.is_clean v.disk) (sym c.self.view_is) ∙ sym c.place.ensures.clean) h in
    record {
      batches = λ h. waits_batches g.D.Disk.seen g.D.Disk.may_leave g.D.Disk.is_usable g.D.Disk.is_clean _ _
          c.args.batch.now off w (k.1 (honest h)) ∙ ap (λ v. v.batches ++ c.args.batch.now ∷ []) c.self.view_is;
      synced = λ h. ap length (k.1 (honest h)) ∙ ap (λ v. v.synced) c.self.view_is;
    }

pub invariant_of-self-in-Err-place : goal.invariant_of-self-in-Err-place
invariant_of-self-in-Err-place g c =
    let off : c.self.inside.waits ≡ false =
    none_waits g.D.Disk.seen g.D.Disk.may_leave g.D.Disk.is_usable g.D.Disk.is_clean (record {
      disk = c.self.inside.files.db;
      beside = c.self.inside.files.log;
      key = c.self.inside.key;
      head = c.self.inside.head;
      batch_key = c.self.inside.batch_key;
      zeros = c.self.inside.zeros.items;
      last = c.self.inside.last.items;
      end = c.self.inside.end;
      size = c.self.inside.size;
      count = c.self.inside.count;
      waits = c.self.inside.waits;
      broken = c.self.inside.broken;
      room = vec_capacity c.self.inside.last;
    })
    (ap (λ v. v.synced) c.self.view_is ∙ c.requires.synced ∙ ap (λ v. length v.batches) (sym c.self.view_is)) in
    let bytes : c.deref.result.now ≡ c.make_batch.new.bytes.items = c.deref.ensures.value in
    let w : Waits g.D.Disk.seen g.D.Disk.may_leave g.D.Disk.is_usable g.D.Disk.is_clean (record {
      disk = c.self.inside.files.db;
      beside = c.self.inside.files.log;
      key = c.self.inside.key;
      head = c.self.inside.head;
      batch_key = c.self.inside.batch_key;
      zeros = c.self.inside.zeros.items;
      last = c.self.inside.last.items;
      end = c.self.inside.end;
      size = c.self.inside.size;
      count = c.self.inside.count;
      waits = c.self.inside.waits;
      broken = c.self.inside.broken;
      room = vec_capacity c.self.inside.last;
    }) (record {
      disk = c.place.new.disk;
      beside = c.self.inside.files.log;
      key = c.self.inside.key;
      head = c.self.inside.head;
      batch_key = c.self.inside.batch_key;
      zeros = c.self.inside.zeros.items;
      last = c.make_batch.new.bytes.items;
      end = c.self.inside.end;
      size = c.self.inside.size;
      count = c.self.inside.count;
      waits = true;
      broken = true;
      room = vec_capacity c.make_batch.new.bytes;
    }) c.args.batch.now = (record {
      key = refl;
      head = refl;
      batch_key = refl;
      zeros = refl;
      end = refl;
      count = refl;
      waits = refl;
      digits = c.requires.digits;
      few = omega arith;
      last = c.in-Ok.ensures.batch;
      size = c.self.invariant.few;
    }) in
    let f : Fails g.D.Disk.seen g.D.Disk.may_leave g.D.Disk.is_usable g.D.Disk.is_clean (record {
      disk = c.self.inside.files.db;
      beside = c.self.inside.files.log;
      key = c.self.inside.key;
      head = c.self.inside.head;
      batch_key = c.self.inside.batch_key;
      zeros = c.self.inside.zeros.items;
      last = c.self.inside.last.items;
      end = c.self.inside.end;
      size = c.self.inside.size;
      count = c.self.inside.count;
      waits = c.self.inside.waits;
      broken = c.self.inside.broken;
      room = vec_capacity c.self.inside.last;
    }) (record {
      disk = c.place.new.disk;
      beside = c.self.inside.files.log;
      key = c.self.inside.key;
      head = c.self.inside.head;
      batch_key = c.self.inside.batch_key;
      zeros = c.self.inside.zeros.items;
      last = c.make_batch.new.bytes.items;
      end = c.self.inside.end;
      size = c.self.inside.size;
      count = c.self.inside.count;
      waits = true;
      broken = true;
      room = vec_capacity c.make_batch.new.bytes;
    }) = record { key = refl; head = refl; batch_key = refl; zeros = refl; size = refl; broken = refl } in
    let k = kept_unplaced g.D.Disk.seen g.D.Disk.may_leave g.D.Disk.is_usable g.D.Disk.is_clean _ _ c.args.batch.now
    c.deref.result.now bytes off c.if-self.false c.self.invariant w f
    c.place.ensures.clean (g.met.D.Disk.seen_may_stay c.place.new.disk) c.in-Err-place.ensures.crash in
    k.0

pub returns-in-Err-place-clause-crash : goal.returns-in-Err-place-clause-crash
returns-in-Err-place-clause-crash g c =
    let off : c.self.inside.waits ≡ false =
    none_waits g.D.Disk.seen g.D.Disk.may_leave g.D.Disk.is_usable g.D.Disk.is_clean (record {
      disk = c.self.inside.files.db;
      beside = c.self.inside.files.log;
      key = c.self.inside.key;
      head = c.self.inside.head;
      batch_key = c.self.inside.batch_key;
      zeros = c.self.inside.zeros.items;
      last = c.self.inside.last.items;
      end = c.self.inside.end;
      size = c.self.inside.size;
      count = c.self.inside.count;
      waits = c.self.inside.waits;
      broken = c.self.inside.broken;
      room = vec_capacity c.self.inside.last;
    })
    (ap (λ v. v.synced) c.self.view_is ∙ c.requires.synced ∙ ap (λ v. length v.batches) (sym c.self.view_is)) in
    let bytes : c.deref.result.now ≡ c.make_batch.new.bytes.items = c.deref.ensures.value in
    let w : Waits g.D.Disk.seen g.D.Disk.may_leave g.D.Disk.is_usable g.D.Disk.is_clean (record {
      disk = c.self.inside.files.db;
      beside = c.self.inside.files.log;
      key = c.self.inside.key;
      head = c.self.inside.head;
      batch_key = c.self.inside.batch_key;
      zeros = c.self.inside.zeros.items;
      last = c.self.inside.last.items;
      end = c.self.inside.end;
      size = c.self.inside.size;
      count = c.self.inside.count;
      waits = c.self.inside.waits;
      broken = c.self.inside.broken;
      room = vec_capacity c.self.inside.last;
    }) (record {
      disk = c.place.new.disk;
      beside = c.self.inside.files.log;
      key = c.self.inside.key;
      head = c.self.inside.head;
      batch_key = c.self.inside.batch_key;
      zeros = c.self.inside.zeros.items;
      last = c.make_batch.new.bytes.items;
      end = c.self.inside.end;
      size = c.self.inside.size;
      count = c.self.inside.count;
      waits = true;
      broken = true;
      room = vec_capacity c.make_batch.new.bytes;
    }) c.args.batch.now = (record {
      key = refl;
      head = refl;
      batch_key = refl;
      zeros = refl;
      end = refl;
      count = refl;
      waits = refl;
      digits = c.requires.digits;
      few = omega arith;
      last = c.in-Ok.ensures.batch;
      size = c.self.invariant.few;
    }) in
    let f : Fails g.D.Disk.seen g.D.Disk.may_leave g.D.Disk.is_usable g.D.Disk.is_clean (record {
      disk = c.self.inside.files.db;
      beside = c.self.inside.files.log;
      key = c.self.inside.key;
      head = c.self.inside.head;
      batch_key = c.self.inside.batch_key;
      zeros = c.self.inside.zeros.items;
      last = c.self.inside.last.items;
      end = c.self.inside.end;
      size = c.self.inside.size;
      count = c.self.inside.count;
      waits = c.self.inside.waits;
      broken = c.self.inside.broken;
      room = vec_capacity c.self.inside.last;
    }) (record {
      disk = c.place.new.disk;
      beside = c.self.inside.files.log;
      key = c.self.inside.key;
      head = c.self.inside.head;
      batch_key = c.self.inside.batch_key;
      zeros = c.self.inside.zeros.items;
      last = c.make_batch.new.bytes.items;
      end = c.self.inside.end;
      size = c.self.inside.size;
      count = c.self.inside.count;
      waits = true;
      broken = true;
      room = vec_capacity c.make_batch.new.bytes;
    }) = record { key = refl; head = refl; batch_key = refl; zeros = refl; size = refl; broken = refl } in
    let k = kept_unplaced g.D.Disk.seen g.D.Disk.may_leave g.D.Disk.is_usable g.D.Disk.is_clean _ _ c.args.batch.now
    c.deref.result.now bytes off c.if-self.false c.self.invariant w f
    c.place.ensures.clean (g.met.D.Disk.seen_may_stay c.place.new.disk) c.in-Err-place.ensures.crash in
    k.0.survives

pub returns-in-Err-place-clause-device : goal.returns-in-Err-place-clause-device
returns-in-Err-place-clause-device g c whole device =
    let off : c.self.inside.waits ≡ false =
    none_waits g.D.Disk.seen g.D.Disk.may_leave g.D.Disk.is_usable g.D.Disk.is_clean (record {
      disk = c.self.inside.files.db;
      beside = c.self.inside.files.log;
      key = c.self.inside.key;
      head = c.self.inside.head;
      batch_key = c.self.inside.batch_key;
      zeros = c.self.inside.zeros.items;
      last = c.self.inside.last.items;
      end = c.self.inside.end;
      size = c.self.inside.size;
      count = c.self.inside.count;
      waits = c.self.inside.waits;
      broken = c.self.inside.broken;
      room = vec_capacity c.self.inside.last;
    })
    (ap (λ v. v.synced) c.self.view_is ∙ c.requires.synced ∙ ap (λ v. length v.batches) (sym c.self.view_is)) in
    let bytes : c.deref.result.now ≡ c.make_batch.new.bytes.items = c.deref.ensures.value in
    let w : Waits g.D.Disk.seen g.D.Disk.may_leave g.D.Disk.is_usable g.D.Disk.is_clean (record {
      disk = c.self.inside.files.db;
      beside = c.self.inside.files.log;
      key = c.self.inside.key;
      head = c.self.inside.head;
      batch_key = c.self.inside.batch_key;
      zeros = c.self.inside.zeros.items;
      last = c.self.inside.last.items;
      end = c.self.inside.end;
      size = c.self.inside.size;
      count = c.self.inside.count;
      waits = c.self.inside.waits;
      broken = c.self.inside.broken;
      room = vec_capacity c.self.inside.last;
    }) (record {
      disk = c.place.new.disk;
      beside = c.self.inside.files.log;
      key = c.self.inside.key;
      head = c.self.inside.head;
      batch_key = c.self.inside.batch_key;
      zeros = c.self.inside.zeros.items;
      last = c.make_batch.new.bytes.items;
      end = c.self.inside.end;
      size = c.self.inside.size;
      count = c.self.inside.count;
      waits = true;
      broken = true;
      room = vec_capacity c.make_batch.new.bytes;
    }) c.args.batch.now = (record {
      key = refl;
      head = refl;
      batch_key = refl;
      zeros = refl;
      end = refl;
      count = refl;
      waits = refl;
      digits = c.requires.digits;
      few = omega arith;
      last = c.in-Ok.ensures.batch;
      size = c.self.invariant.few;
    }) in
    let f : Fails g.D.Disk.seen g.D.Disk.may_leave g.D.Disk.is_usable g.D.Disk.is_clean (record {
      disk = c.self.inside.files.db;
      beside = c.self.inside.files.log;
      key = c.self.inside.key;
      head = c.self.inside.head;
      batch_key = c.self.inside.batch_key;
      zeros = c.self.inside.zeros.items;
      last = c.self.inside.last.items;
      end = c.self.inside.end;
      size = c.self.inside.size;
      count = c.self.inside.count;
      waits = c.self.inside.waits;
      broken = c.self.inside.broken;
      room = vec_capacity c.self.inside.last;
    }) (record {
      disk = c.place.new.disk;
      beside = c.self.inside.files.log;
      key = c.self.inside.key;
      head = c.self.inside.head;
      batch_key = c.self.inside.batch_key;
      zeros = c.self.inside.zeros.items;
      last = c.make_batch.new.bytes.items;
      end = c.self.inside.end;
      size = c.self.inside.size;
      count = c.self.inside.count;
      waits = true;
      broken = true;
      room = vec_capacity c.make_batch.new.bytes;
    }) = record { key = refl; head = refl; batch_key = refl; zeros = refl; size = refl; broken = refl } in
    let k = kept_unplaced g.D.Disk.seen g.D.Disk.may_leave g.D.Disk.is_usable g.D.Disk.is_clean _ _ c.args.batch.now
    c.deref.result.now bytes off c.if-self.false c.self.invariant w f
    c.place.ensures.clean (g.met.D.Disk.seen_may_stay c.place.new.disk) c.in-Err-place.ensures.crash in
    let honest = λ (h : IsTrue (g.D.Disk.is_clean c.args.self.now.disk)).
    subst IsTrue (ap (λ v. g.D.Disk.is_clean v.disk) (sym c.self.view_is) ∙ sym c.place.ensures.clean) h in (
      refl,
      record {
        batches = λ h. waits_batches g.D.Disk.seen g.D.Disk.may_leave g.D.Disk.is_usable g.D.Disk.is_clean _ _
            c.args.batch.now off w (k.1 (honest h)) ∙ ap (λ v. v.batches ++ c.args.batch.now ∷ []) c.self.view_is;
        synced = λ h. ap length (k.1 (honest h)) ∙ ap (λ v. v.synced) c.self.view_is;
      },
    )
