use Rattle.std.specs.Prelude.{◌≡◌, ◌+◌, ◌<◌, Bool, All, sum_by, count_by, vec_len}
use Rattle.crossbeam_queue.specs.Passes.{view, IsPassOf}
use Rattle.node_lock.specs.inside.InboxRule.{put_in, taken_in}
use Rattle.node_lock.specs.Inboxes.{Passing, parts_of, IsPassTo}
use Rattle.node_lock.specs.declared.job.Job.{Job}
use Rattle.node_lock.proofs.inbox.merge_passes.Given as goal

abbrev pub invariant-loop-next : goal.invariant-loop-next
invariant-loop-next l = record {
  pass : IsPassOf l.queue l.all;
  some : 0 < (view l.all).parts;
  passes : All (IsPassTo l.queue.table.shared.table_id) l.passes.items;
  parts : (view l.all).parts + sum_by parts_of l.passes.items
      ≡ (view l.fn.all).parts + sum_by parts_of l.fn.passes.items;
  put : (test : Job → Bool) →
      put_in test (view l.all) + sum_by (λ (p : Passing). count_by test p.put) l.passes.items
      ≡ put_in test (view l.fn.all) + sum_by (λ (p : Passing). count_by test p.put) l.fn.passes.items;
  taken : (test : Job → Bool) →
      taken_in test (view l.all) + sum_by (λ (p : Passing). count_by test p.taken) l.passes.items
      ≡ taken_in test (view l.fn.all) + sum_by (λ (p : Passing). count_by test p.taken) l.fn.passes.items;
}

abbrev pub decreases-loop-next : goal.decreases-loop-next
decreases-loop-next l = vec_len l.passes
