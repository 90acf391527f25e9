use Rattle.std.proofs.Common.{◌≡◌, inl, inr, ⊎_elim, ℕ, ◌+◌, ◌*◌, [], List}
use Rattle.std.proofs.Common.{false, length, refl, ap, sym, ◌∙◌, subst, arith, rules, append-nil}
use Rattle.std.specs.Prelude.{IsTrue}
use Rattle.std.proofs.lemmas.List.{length-replicate}
use Rattle.std.specs.Vec.{vec_capacity}
use Rattle.batch_journal.specs.Heads.{head_of}
use Rattle.batch_journal.specs.inside.Placing.{IsBegun}
use Rattle.batch_journal.proofs.BatchLemmas.{length-head_of}
use Rattle.batch_journal.proofs.Standing.{front_of, begun_stands}
use Rattle.batch_journal.proofs.SettledLemmas.{kept_settled, settled_new, settled_batches, room_is}
use Rattle.batch_journal.proofs.journal.Journal.begin.Goals as goal

pub lay-requires-clause-room : goal.lay-requires-clause-room
lay-requires-clause-room g c =
    let twice : length c.deref-2.result.now ≡ 2 * c.room_behind.result =
    ap length (c.deref-2.ensures.value ∙ c.in-Ok-zeros.ensures)
    ∙ length-replicate {A = ℕ} (2 * c.room_behind.result) 0 in
    let front : length c.deref.result.now ≡ 60 + length c.args.head.roles.items =
    ap length (c.deref.ensures.value ∙ c.in-Ok-prepare.ensures.front) ∙ length-head_of c.args.key.now c.args.head in
    omega (arith, twice, front, room_is, c.room_behind.ensures.value, c.requires.head.few)

pub invariant_of-result : goal.invariant_of-result
invariant_of-result g c =
    let front : c.deref.result.now ≡ front_of c.args.key.now c.args.head [] =
    c.deref.ensures.value ∙ c.in-Ok-prepare.ensures.front ∙ sym (append-nil (head_of c.args.key.now c.args.head)) in
    let end : length c.deref.result.now ≡ c.len.result = search rules in
    let clean = λ (h : IsTrue (g.D.Disk.is_clean c.lay.new.disk)). subst IsTrue c.lay.ensures.clean h in
    let blank = λ (h : IsTrue (g.D.Disk.is_clean c.lay.new.disk)). c.blank_size.ensures.seen
    ∙ c.in-Ok.ensures.blank (clean h) in
    let settled = λ (h : IsTrue (g.D.Disk.is_clean c.lay.new.disk)).
    settled_new g.D.Disk.seen g.D.Disk.may_leave g.D.Disk.is_usable g.D.Disk.is_clean (record {
      disk = c.lay.new.disk;
      beside = c.blank_size.new.files.log;
      key = c.args.key.now;
      head = c.args.head;
      batch_key = c.in-Ok-prepare.parts.batch_key;
      zeros = c.in-Ok-prepare.parts.zeros.items;
      last = c.new.result.items;
      end = c.len.result;
      size = c.in-Ok-lay.size;
      count = 0;
      waits = false;
      broken = false;
      room = vec_capacity c.new.result;
    }) c.deref.result.now front end refl (c.in-Ok-lay.ensures.zeroed (blank h)) in
    let kept = kept_settled g.D.Disk.seen g.D.Disk.may_leave g.D.Disk.is_usable g.D.Disk.is_clean (record {
      disk = c.lay.new.disk;
      beside = c.blank_size.new.files.log;
      key = c.args.key.now;
      head = c.args.head;
      batch_key = c.in-Ok-prepare.parts.batch_key;
      zeros = c.in-Ok-prepare.parts.zeros.items;
      last = c.new.result.items;
      end = c.len.result;
      size = c.in-Ok-lay.size;
      count = 0;
      waits = false;
      broken = false;
      room = vec_capacity c.new.result;
    }) refl c.requires.head c.in-Ok-prepare.ensures.key c.in-Ok-prepare.ensures.zeros c.in-Ok-lay.ensures.usable
    (omega (arith, end, c.in-Ok-lay.ensures.room.0)) c.in-Ok-lay.ensures.room.1 (omega arith) (λ h. ([], settled h)) in
    kept

pub returns-in-Ok-lay-clause-empty : goal.returns-in-Ok-lay-clause-empty
returns-in-Ok-lay-clause-empty g c h =
    let front : c.deref.result.now ≡ front_of c.args.key.now c.args.head [] =
    c.deref.ensures.value ∙ c.in-Ok-prepare.ensures.front ∙ sym (append-nil (head_of c.args.key.now c.args.head)) in
    let end : length c.deref.result.now ≡ c.len.result = search rules in
    let clean = λ (h : IsTrue (g.D.Disk.is_clean c.lay.new.disk)). subst IsTrue c.lay.ensures.clean h in
    let blank = λ (h : IsTrue (g.D.Disk.is_clean c.lay.new.disk)). c.blank_size.ensures.seen
    ∙ c.in-Ok.ensures.blank (clean h) in
    let settled = λ (h : IsTrue (g.D.Disk.is_clean c.lay.new.disk)).
    settled_new g.D.Disk.seen g.D.Disk.may_leave g.D.Disk.is_usable g.D.Disk.is_clean (record {
      disk = c.lay.new.disk;
      beside = c.blank_size.new.files.log;
      key = c.args.key.now;
      head = c.args.head;
      batch_key = c.in-Ok-prepare.parts.batch_key;
      zeros = c.in-Ok-prepare.parts.zeros.items;
      last = c.new.result.items;
      end = c.len.result;
      size = c.in-Ok-lay.size;
      count = 0;
      waits = false;
      broken = false;
      room = vec_capacity c.new.result;
    }) c.deref.result.now front end refl (c.in-Ok-lay.ensures.zeroed (blank h)) in
    settled_batches g.D.Disk.seen g.D.Disk.may_leave g.D.Disk.is_usable g.D.Disk.is_clean (record {
      disk = c.lay.new.disk;
      beside = c.blank_size.new.files.log;
      key = c.args.key.now;
      head = c.args.head;
      batch_key = c.in-Ok-prepare.parts.batch_key;
      zeros = c.in-Ok-prepare.parts.zeros.items;
      last = c.new.result.items;
      end = c.len.result;
      size = c.in-Ok-lay.size;
      count = 0;
      waits = false;
      broken = false;
      room = vec_capacity c.new.result;
    }) [] refl c.in-Ok-prepare.ensures.key (settled h)

pub returns-in-Ok-lay-clause-crash : goal.returns-in-Ok-lay-clause-crash
returns-in-Ok-lay-clause-crash g c =
    let front : c.deref.result.now ≡ front_of c.args.key.now c.args.head [] =
    c.deref.ensures.value ∙ c.in-Ok-prepare.ensures.front ∙ sym (append-nil (head_of c.args.key.now c.args.head)) in
    let end : length c.deref.result.now ≡ c.len.result = search rules in
    let clean = λ (h : IsTrue (g.D.Disk.is_clean c.lay.new.disk)). subst IsTrue c.lay.ensures.clean h in
    let blank = λ (h : IsTrue (g.D.Disk.is_clean c.lay.new.disk)). c.blank_size.ensures.seen
    ∙ c.in-Ok.ensures.blank (clean h) in
    let settled = λ (h : IsTrue (g.D.Disk.is_clean c.lay.new.disk)).
    settled_new g.D.Disk.seen g.D.Disk.may_leave g.D.Disk.is_usable g.D.Disk.is_clean (record {
      disk = c.lay.new.disk;
      beside = c.blank_size.new.files.log;
      key = c.args.key.now;
      head = c.args.head;
      batch_key = c.in-Ok-prepare.parts.batch_key;
      zeros = c.in-Ok-prepare.parts.zeros.items;
      last = c.new.result.items;
      end = c.len.result;
      size = c.in-Ok-lay.size;
      count = 0;
      waits = false;
      broken = false;
      room = vec_capacity c.new.result;
    }) c.deref.result.now front end refl (c.in-Ok-lay.ensures.zeroed (blank h)) in
    let kept = kept_settled g.D.Disk.seen g.D.Disk.may_leave g.D.Disk.is_usable g.D.Disk.is_clean (record {
      disk = c.lay.new.disk;
      beside = c.blank_size.new.files.log;
      key = c.args.key.now;
      head = c.args.head;
      batch_key = c.in-Ok-prepare.parts.batch_key;
      zeros = c.in-Ok-prepare.parts.zeros.items;
      last = c.new.result.items;
      end = c.len.result;
      size = c.in-Ok-lay.size;
      count = 0;
      waits = false;
      broken = false;
      room = vec_capacity c.new.result;
    }) refl c.requires.head c.in-Ok-prepare.ensures.key c.in-Ok-prepare.ensures.zeros c.in-Ok-lay.ensures.usable
    (omega (arith, end, c.in-Ok-lay.ensures.room.0)) c.in-Ok-lay.ensures.room.1 (omega arith) (λ h. ([], settled h)) in
    kept.survives

pub returns-in-Err-lay-clause-left : goal.returns-in-Err-lay-clause-left
returns-in-Err-lay-clause-left g c h left may =
    let clean = subst IsTrue c.lay.ensures.clean h in
    let blank = c.blank_size.ensures.seen ∙ c.in-Ok.ensures.blank clean in
    let front : c.deref.result.now ≡ head_of c.args.key.now c.args.head = c.deref.ensures.value
    ∙ c.in-Ok-prepare.ensures.front in
    ⊎_elim (λ o. inl (c.blank_size.ensures.crash left o))
    (λ b. inr (begun_stands c.args.key.now c.args.head left (subst (λ (l : List ℕ). IsBegun l left) front b)))
    (c.lay.ensures.crash blank left may)
