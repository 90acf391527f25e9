use Rattle.std.proofs.Common.{◌≡◌, true, false, drop, ap, sym, ◌∙◌}
use Rattle.std.proofs.Common.{Err, arith}
use Rattle.std.proofs.lemmas.List.{take_rest, length-drop}
use Rattle.batch_journal.specs.Readings.{batches_in, is_end}
use Rattle.batch_journal.specs.declared.fault.JournalFault.TheVariants as fault
use Rattle.batch_journal.proofs.EndLemmas.{when_ends}
use Rattle.batch_journal.proofs.Standing.{behind_ok, behind_err}
use Rattle.batch_journal.proofs.reading.behind_head.Goals as goal

pub returns-then-is_end-clause-found : goal.returns-then-is_end-clause-found
returns-then-is_end-clause-found c =
    let bytes = c.args.bytes.now in
    let found = c.in_ok-found.found in
    let end : is_end (drop found.end bytes) ≡ true =
    ap is_end (sym (take_rest bytes found.end)) ∙ sym c.if-is_end.ensures in
    record {
      batches = batches_in c.args.key.now 0 0 bytes;
      stands = behind_ok c.args.key.now bytes found.end c.in_ok-found.ensures.end end;
      digits = c.in_ok-found.ensures.digits;
      count = c.in_ok-found.ensures.count;
      end = c.in_ok-found.ensures.end;
    }

pub returns-else-is_end-clause-err : goal.returns-else-is_end-clause-err
returns-else-is_end-clause-err c other =
    let bytes = c.args.bytes.now in
    let found = c.in_ok-found.found in
    let end : is_end (drop found.end bytes) ≡ false =
    ap is_end (sym (take_rest bytes found.end)) ∙ sym c.if-is_end.ensures in
    behind_err c.args.key.now bytes found.end c.in_ok-found.ensures.end end
    ∙ ap (λ n. Err (fault.Damaged n)) (sym c.in_ok-found.ensures.count)

pub returns-then-is_end-clause-within : goal.returns-then-is_end-clause-within
returns-then-is_end-clause-within c =
    let bytes = c.args.bytes.now in
    let found = c.in_ok-found.found in
    let end : is_end (drop found.end bytes) ≡ true =
    ap is_end (sym (take_rest bytes found.end)) ∙ sym c.if-is_end.ensures in
    omega (
      arith,
      (when_ends (drop found.end bytes) end).room,
      length-drop found.end bytes,
      c.in_ok-found.ensures.within,
    )
