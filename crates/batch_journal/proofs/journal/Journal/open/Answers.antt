use Rattle.std.proofs.Common.{◌≡◌, inl, inr, ⊎_elim, ℕ, ◌-◌, false}
use Rattle.std.proofs.Common.{length, refl, ap, sym, ◌∙◌, subst, Ok}
use Rattle.std.specs.Prelude.{IsTrue}
use Rattle.std.specs.List.{concat}
use Rattle.std.proofs.lemmas.List.{length-replicate}
use Rattle.std.specs.Vec.{vec_capacity}
use Rattle.batch_journal.proofs.SettledLemmas.{kept_settled, settled_opened, settled_batches, opened, opened_left}
use Rattle.batch_journal.proofs.journal.Journal.open.Goals as goal

pub invariant_of-result : goal.invariant_of-result
invariant_of-result g c =
    let long : length c.deref.result.now ≡ c.in-Ok.found.size - c.in-Ok.found.end =
    ap length (c.deref.ensures.value ∙ c.in-Ok-zeros.ensures)
    ∙ length-replicate {A = ℕ} (c.in-Ok.found.size - c.in-Ok.found.end) 0 in
    let found = λ (h : IsTrue (g.D.Disk.is_clean c.blank.new.disk)). c.in-Ok.ensures.found
    (subst IsTrue c.blank.ensures.clean h) in
    let settled = λ (h : IsTrue (g.D.Disk.is_clean c.blank.new.disk)).
    let o = opened c.args.key.now c.args.head (g.D.Disk.seen c.args.files.db) c.in-Ok.found (found h) in
    settled_opened g.D.Disk.seen g.D.Disk.may_leave g.D.Disk.is_usable g.D.Disk.is_clean (record {
      disk = c.blank.new.disk;
      beside = c.read.new.files.log;
      key = c.args.key.now;
      head = c.args.head;
      batch_key = c.in-Ok-prepare.parts.batch_key;
      zeros = c.in-Ok-prepare.parts.zeros.items;
      last = c.new.result.items;
      end = c.in-Ok.found.end;
      size = c.in-Ok.found.size;
      count = c.in-Ok.found.count;
      waits = false;
      broken = false;
      room = vec_capacity c.new.result;
    }) c.in-Ok.found o refl refl refl (found h).count (length c.deref.result.now) long
    (c.in-Ok-blank.ensures.zeroed o.front o.rest o.end (o.long ∙ sym long) (c.read.ensures.seen ∙ o.is)) in
    let kept = kept_settled g.D.Disk.seen g.D.Disk.may_leave g.D.Disk.is_usable g.D.Disk.is_clean (record {
      disk = c.blank.new.disk;
      beside = c.read.new.files.log;
      key = c.args.key.now;
      head = c.args.head;
      batch_key = c.in-Ok-prepare.parts.batch_key;
      zeros = c.in-Ok-prepare.parts.zeros.items;
      last = c.new.result.items;
      end = c.in-Ok.found.end;
      size = c.in-Ok.found.size;
      count = c.in-Ok.found.count;
      waits = false;
      broken = false;
      room = vec_capacity c.new.result;
    }) refl c.requires.head c.in-Ok-prepare.ensures.key c.in-Ok-prepare.ensures.zeros c.in-Ok-blank.ensures.usable
    c.in-Ok.ensures.size.1 c.in-Ok.ensures.size.2 c.in-Ok.ensures.size.0 (λ h. ((found h).batches, settled h)) in
    kept

pub returns-in-Ok-blank-clause-batches : goal.returns-in-Ok-blank-clause-batches
returns-in-Ok-blank-clause-batches g c h =
    let long : length c.deref.result.now ≡ c.in-Ok.found.size - c.in-Ok.found.end =
    ap length (c.deref.ensures.value ∙ c.in-Ok-zeros.ensures)
    ∙ length-replicate {A = ℕ} (c.in-Ok.found.size - c.in-Ok.found.end) 0 in
    let found = λ (h : IsTrue (g.D.Disk.is_clean c.blank.new.disk)). c.in-Ok.ensures.found
    (subst IsTrue c.blank.ensures.clean h) in
    let settled = λ (h : IsTrue (g.D.Disk.is_clean c.blank.new.disk)).
    let o = opened c.args.key.now c.args.head (g.D.Disk.seen c.args.files.db) c.in-Ok.found (found h) in
    settled_opened g.D.Disk.seen g.D.Disk.may_leave g.D.Disk.is_usable g.D.Disk.is_clean (record {
      disk = c.blank.new.disk;
      beside = c.read.new.files.log;
      key = c.args.key.now;
      head = c.args.head;
      batch_key = c.in-Ok-prepare.parts.batch_key;
      zeros = c.in-Ok-prepare.parts.zeros.items;
      last = c.new.result.items;
      end = c.in-Ok.found.end;
      size = c.in-Ok.found.size;
      count = c.in-Ok.found.count;
      waits = false;
      broken = false;
      room = vec_capacity c.new.result;
    }) c.in-Ok.found o refl refl refl (found h).count (length c.deref.result.now) long
    (c.in-Ok-blank.ensures.zeroed o.front o.rest o.end (o.long ∙ sym long) (c.read.ensures.seen ∙ o.is)) in
    (found h).stands ∙ ap Ok
    (sym (settled_batches g.D.Disk.seen g.D.Disk.may_leave g.D.Disk.is_usable g.D.Disk.is_clean (record {
      disk = c.blank.new.disk;
      beside = c.read.new.files.log;
      key = c.args.key.now;
      head = c.args.head;
      batch_key = c.in-Ok-prepare.parts.batch_key;
      zeros = c.in-Ok-prepare.parts.zeros.items;
      last = c.new.result.items;
      end = c.in-Ok.found.end;
      size = c.in-Ok.found.size;
      count = c.in-Ok.found.count;
      waits = false;
      broken = false;
      room = vec_capacity c.new.result;
    }) (found h).batches refl c.in-Ok-prepare.ensures.key (settled h)))

pub returns-in-Ok-blank-clause-digits : goal.returns-in-Ok-blank-clause-digits
returns-in-Ok-blank-clause-digits g c h =
    let long : length c.deref.result.now ≡ c.in-Ok.found.size - c.in-Ok.found.end =
    ap length (c.deref.ensures.value ∙ c.in-Ok-zeros.ensures)
    ∙ length-replicate {A = ℕ} (c.in-Ok.found.size - c.in-Ok.found.end) 0 in
    let found = λ (h : IsTrue (g.D.Disk.is_clean c.blank.new.disk)). c.in-Ok.ensures.found
    (subst IsTrue c.blank.ensures.clean h) in
    let settled = λ (h : IsTrue (g.D.Disk.is_clean c.blank.new.disk)).
    let o = opened c.args.key.now c.args.head (g.D.Disk.seen c.args.files.db) c.in-Ok.found (found h) in
    settled_opened g.D.Disk.seen g.D.Disk.may_leave g.D.Disk.is_usable g.D.Disk.is_clean (record {
      disk = c.blank.new.disk;
      beside = c.read.new.files.log;
      key = c.args.key.now;
      head = c.args.head;
      batch_key = c.in-Ok-prepare.parts.batch_key;
      zeros = c.in-Ok-prepare.parts.zeros.items;
      last = c.new.result.items;
      end = c.in-Ok.found.end;
      size = c.in-Ok.found.size;
      count = c.in-Ok.found.count;
      waits = false;
      broken = false;
      room = vec_capacity c.new.result;
    }) c.in-Ok.found o refl refl refl (found h).count (length c.deref.result.now) long
    (c.in-Ok-blank.ensures.zeroed o.front o.rest o.end (o.long ∙ sym long) (c.read.ensures.seen ∙ o.is)) in
    (found h).digits ∙ ap concat
    (sym (settled_batches g.D.Disk.seen g.D.Disk.may_leave g.D.Disk.is_usable g.D.Disk.is_clean (record {
      disk = c.blank.new.disk;
      beside = c.read.new.files.log;
      key = c.args.key.now;
      head = c.args.head;
      batch_key = c.in-Ok-prepare.parts.batch_key;
      zeros = c.in-Ok-prepare.parts.zeros.items;
      last = c.new.result.items;
      end = c.in-Ok.found.end;
      size = c.in-Ok.found.size;
      count = c.in-Ok.found.count;
      waits = false;
      broken = false;
      room = vec_capacity c.new.result;
    }) (found h).batches refl c.in-Ok-prepare.ensures.key (settled h)))

pub returns-in-Ok-blank-clause-crash : goal.returns-in-Ok-blank-clause-crash
returns-in-Ok-blank-clause-crash g c =
    let long : length c.deref.result.now ≡ c.in-Ok.found.size - c.in-Ok.found.end =
    ap length (c.deref.ensures.value ∙ c.in-Ok-zeros.ensures)
    ∙ length-replicate {A = ℕ} (c.in-Ok.found.size - c.in-Ok.found.end) 0 in
    let found = λ (h : IsTrue (g.D.Disk.is_clean c.blank.new.disk)). c.in-Ok.ensures.found
    (subst IsTrue c.blank.ensures.clean h) in
    let settled = λ (h : IsTrue (g.D.Disk.is_clean c.blank.new.disk)).
    let o = opened c.args.key.now c.args.head (g.D.Disk.seen c.args.files.db) c.in-Ok.found (found h) in
    settled_opened g.D.Disk.seen g.D.Disk.may_leave g.D.Disk.is_usable g.D.Disk.is_clean (record {
      disk = c.blank.new.disk;
      beside = c.read.new.files.log;
      key = c.args.key.now;
      head = c.args.head;
      batch_key = c.in-Ok-prepare.parts.batch_key;
      zeros = c.in-Ok-prepare.parts.zeros.items;
      last = c.new.result.items;
      end = c.in-Ok.found.end;
      size = c.in-Ok.found.size;
      count = c.in-Ok.found.count;
      waits = false;
      broken = false;
      room = vec_capacity c.new.result;
    }) c.in-Ok.found o refl refl refl (found h).count (length c.deref.result.now) long
    (c.in-Ok-blank.ensures.zeroed o.front o.rest o.end (o.long ∙ sym long) (c.read.ensures.seen ∙ o.is)) in
    let kept = kept_settled g.D.Disk.seen g.D.Disk.may_leave g.D.Disk.is_usable g.D.Disk.is_clean (record {
      disk = c.blank.new.disk;
      beside = c.read.new.files.log;
      key = c.args.key.now;
      head = c.args.head;
      batch_key = c.in-Ok-prepare.parts.batch_key;
      zeros = c.in-Ok-prepare.parts.zeros.items;
      last = c.new.result.items;
      end = c.in-Ok.found.end;
      size = c.in-Ok.found.size;
      count = c.in-Ok.found.count;
      waits = false;
      broken = false;
      room = vec_capacity c.new.result;
    }) refl c.requires.head c.in-Ok-prepare.ensures.key c.in-Ok-prepare.ensures.zeros c.in-Ok-blank.ensures.usable
    c.in-Ok.ensures.size.1 c.in-Ok.ensures.size.2 c.in-Ok.ensures.size.0 (λ h. ((found h).batches, settled h)) in
    kept.survives

pub returns-in-Err-blank-clause-left : goal.returns-in-Err-blank-clause-left
returns-in-Err-blank-clause-left g c h left may =
    let long : length c.deref.result.now ≡ c.in-Ok.found.size - c.in-Ok.found.end =
    ap length (c.deref.ensures.value ∙ c.in-Ok-zeros.ensures)
    ∙ length-replicate {A = ℕ} (c.in-Ok.found.size - c.in-Ok.found.end) 0 in
    let found = c.in-Ok.ensures.found (subst IsTrue c.blank.ensures.clean h) in
    let o = opened c.args.key.now c.args.head (g.D.Disk.seen c.args.files.db) c.in-Ok.found found in
    ⊎_elim (λ b. inl (c.read.ensures.crash left b))
    (λ f. inr (opened_left c.args.key.now c.args.head (g.D.Disk.seen c.args.files.db) c.in-Ok.found found o left f.0
    f.1))
    (c.blank.ensures.crash o.front o.rest o.end (o.long ∙ sym long) (c.read.ensures.seen ∙ o.is) left may)
