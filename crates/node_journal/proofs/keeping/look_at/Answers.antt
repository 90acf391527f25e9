use Rattle.std.proofs.Common.{◌≡◌, ◌∙◌, ◌≤◌, ℕ, List, ap, length, sym, subst, arith}
use Rattle.std.specs.Prelude.{◌↔◌, IsTrue}
use Rattle.std.proofs.lemmas.Result.{err_from_is_err_and}
use Rattle.role_node.specs.Nodes.{NodeValue}
use Rattle.kept_node.specs.Restoring.{IsIllegal, IsReplayFault}
use Rattle.node_journal.specs.Sights.{HasByte, IsBeyondIfAny}
use Rattle.node_journal.proofs.RefusalLemmas.{not_opened, not_read}
use Rattle.node_journal.proofs.SightLemmas.{events_any}
use Rattle.node_journal.proofs.keeping.look_at.Goals as goal

pub returns-in_err-found-clause-why : goal.returns-in_err-found-clause-why
returns-in_err-found-clause-why g c =
    let p = err_from_is_err_and c.from_residual-in_err-found.result c.from_residual-in_err-found.ensures.1 in
    rw (p.1, p.2) (not_opened g.D.Disk.seen g.D.Disk.faults g.D.Disk.is_clean g.D.Disk.is_mixing c.args.key.now
    c.args.config c.args.me c.args.files.now c.read.new.files c.in_ok-head.head c.in_err-found.field-0.0
    c.in_ok-head.ensures.names c.in_err-found.ensures.why)

pub returns-in_err-is_torn-clause-why : goal.returns-in_err-is_torn-clause-why
returns-in_err-is_torn-clause-why g c =
    let p = err_from_is_err_and c.from_residual-in_err-is_torn.result c.from_residual-in_err-is_torn.ensures.1 in
    let old = c.args.files.now.db in
    let read = c.read.new.files.db in
    let whole : IsTrue (g.D.Disk.is_clean read) → c.in_ok-found.found.size ≤ length (g.D.Disk.seen read) = λ clean.
    subst (λ (l : List ℕ). c.in_ok-found.found.size ≤ length l) (sym c.in_ok-found.ensures.seen)
    (omega (arith, (c.in_ok-found.ensures.found clean).size)) in
    rw (p.1, p.2) (not_read g.D.Disk.seen g.D.Disk.faults g.D.Disk.is_clean g.D.Disk.is_mixing c.args.key.now
    c.args.config c.args.me c.args.files.now (record { log = c.read.new.files.log; db = c.has_bytes.new.file })
    c.in_ok-head.head c.in_err-is_torn.field-0.0 (g.D.Disk.faults read) _ c.in_ok-head.ensures.names
    c.in_ok-found.ensures.alone c.in_ok-found.ensures.faults whole c.in_err-is_torn.ensures.why)

pub returns-in-Ok-clause-sight : goal.returns-in-Ok-clause-sight
returns-in-Ok-clause-sight g c clean =
    let found = c.in_ok-found.ensures.found (c.has_bytes.ensures.clean clean) in
    let node = c.replay_events.new.locked.node in
    let first : NodeValue = record { config = c.args.config; me = c.args.me; history = node.history } in
    let same : c.node.result.now ≡ first = c.node.ensures ∙ c.replay_events.ensures.node
    ∙ ap (λ (n : NodeValue). record n { history = node.history }) c.in_ok-locked.ensures.node in
    record {
      head = c.in_ok-head.head;
      batches = found.batches;
      events = node.history;
      is_head = c.in_ok-head.ensures.names;
      reads = found.stands;
      digits = sym found.digits ∙ sym c.deref.ensures.value ∙ c.in-Ok.ensures.digits;
      each = events_any node.config.roles.sizes node.me node.history c.in-Ok.ensures.each;
      event_count = c.in-Ok.ensures.count;
      batch_count = found.count;
      used = found.end;
      size = found.size;
      beyond = subst (λ (n : NodeValue). IsBeyondIfAny n c.beyond_in.result) same c.beyond_in.ensures;
      torn = subst (λ (l : List ℕ). IsTrue c.in_ok-is_torn.is_torn ↔ HasByte l c.in_ok-found.found.end
          c.in_ok-found.found.size) c.in_ok-found.ensures.seen (c.in_ok-is_torn.ensures.byte clean);
    }

pub returns-in-Err-Illegal-clause-why : goal.returns-in-Err-Illegal-clause-why
returns-in-Err-Illegal-clause-why g c = (
  record { log = c.read.new.files.log; db = c.has_bytes.new.file },
  c.in-Err-Illegal.field-0-0,
  c.in_ok-found.ensures.alone,
  λ clean.
      let found = c.in_ok-found.ensures.found (c.has_bytes.ensures.clean clean) in
      let first = c.in_ok-locked.locked.node in
      let illegal : IsIllegal first.config first.me c.in-Err-Illegal.field-0-0 c.in_ok-found.found.digits.items =
      subst (IsReplayFault first.config first.me c.in_ok-found.found.digits.items) c.in-Err-Illegal.field-0-is
      (subst (λ (l : List ℕ). IsReplayFault first.config first.me l c.in-Err-Illegal.field-0) c.deref.ensures.value
      c.in-Err-Illegal.ensures.illegal) in
      record {
        head = c.in_ok-head.head;
        batches = found.batches;
        is_head = c.in_ok-head.ensures.names;
        reads = found.stands;
        illegal = subst (λ (l : List ℕ). IsIllegal c.args.config c.args.me c.in-Err-Illegal.field-0-0 l) found.digits
            (subst (λ (n : NodeValue). IsIllegal n.config n.me c.in-Err-Illegal.field-0-0
            c.in_ok-found.found.digits.items) c.in_ok-locked.ensures.node illegal);
      },
)
