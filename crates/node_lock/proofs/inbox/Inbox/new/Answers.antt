use Rattle.std.proofs.Common.{◌≡◌, ◌+◌, ◌<◌, List, rules, arith, sym, ap, ◌∙◌, subst}
use Rattle.std.specs.Prelude.{All, sum_by}
use Rattle.std.proofs.lemmas.List.Elements.{All-push}
use Rattle.std.proofs.lemmas.List.Sums.{sum_by_push}
use Rattle.crossbeam_queue.specs.Passes.{view}
use Rattle.node_lock.specs.Inboxes.{Passing, IsNewPassTo, parts_of}
use Rattle.node_lock.proofs.InboxMoves.{begins, cuts}
use Rattle.node_lock.proofs.inbox.Inbox.new.Goals as goal

pub ruled-requires-clause-rule : goal.ruled-requires-clause-rule
ruled-requires-clause-rule c = begins

pub another-pass-requires-clause-rule : goal.another-pass-requires-clause-rule
another-pass-requires-clause-rule c = let some : 1 < (view c.loop-number.first).parts = omega arith in cuts _ _ some

pub loop-number-preserved : goal.loop-number-preserved
loop-number-preserved c =
    let i = c.loop-number.invariant in
    let id = c.in_ok-queue.queue.table.shared.table_id in
    let items = c.in_ok-push.ensures.items in
    let one : c.another-pass.result.me.0.client.parts ≡ 1 = search rules in
    let P : List Passing → Type 0 = λ ps. All (IsNewPassTo id) ps in record {
      pass = search rules;
      known = search rules;
      put = search rules;
      taken = search rules;
      made = search rules;
      fresh = subst P (sym items) (All-push (IsNewPassTo id) c.loop-number.made.items _ i.fresh (search rules));
      parts =
          ap (λ (ps : List Passing). sum_by parts_of ps + 1) items
          ∙ omega (arith, sum_by_push parts_of c.loop-number.made.items, i.parts, one);
    }

pub returns-clause-fresh : goal.returns-clause-fresh
returns-clause-fresh c =
    let id = c.in_ok-queue.queue.table.shared.table_id in
    let P : List Passing → Type 0 = λ ps. All (IsNewPassTo id) ps in
    subst P (sym c.in_ok-push-2.ensures.items)
    (All-push (IsNewPassTo id) c.loop-number.made.items _ c.loop-number.invariant.fresh (search rules))
