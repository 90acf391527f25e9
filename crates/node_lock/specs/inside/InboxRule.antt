-- The rule of an inbox's queue: of what it holds, and of what each pass put and took.
use Rattle.std.specs.Prelude.{◌≡◌, ℕ, ◌+◌, Bool, List, [], ◌∷◌, ◌++◌, All, sum_by, count_by}
use Rattle.node_lock.specs.Inboxes.{inbox_parts}
use Rattle.node_lock.specs.declared.inbox.PassCounts.{PassCounts}
use Rattle.node_lock.specs.declared.job.Job.{Job}

abbrev pub pass_counts : ℕ → List Job → List Job → PassCounts
pass_counts parts put taken = record { parts = parts; put = put; taken = taken }

abbrev pub parts_in : PassCounts → ℕ
parts_in v = v.parts

-- how many of the jobs that it put, or took, pass a test
abbrev pub put_in : (Job → Bool) → PassCounts → ℕ
put_in test v = count_by test v.put

abbrev pub taken_in : (Job → Bool) → PassCounts → ℕ
taken_in test v = count_by test v.taken

-- the counts with one job more
abbrev pub put_more : PassCounts → Job → PassCounts
put_more v x = pass_counts v.parts (v.put ++ x ∷ []) v.taken

abbrev pub take_more : PassCounts → Job → PassCounts
take_more v x = pass_counts v.parts v.put (v.taken ++ x ∷ [])

-- those of two passes as one
abbrev pub joined_counts : PassCounts → PassCounts → PassCounts
joined_counts v w = pass_counts (v.parts + w.parts) (v.put ++ w.put) (v.taken ++ w.taken)

-- a pass without a part put and took nothing
abbrev pub IsIdle : PassCounts → Type 0
IsIdle v = v.parts ≡ 0 → (v.put ≡ []) × (v.taken ≡ [])

-- all parts are there, and of each kind of jobs as many were put as were taken and lie in the queue
pub record IsBalanced (items : List Job) (passes : List PassCounts) : Type 0 where
  pub parts : sum_by parts_in passes ≡ inbox_parts
  pub even : (test : Job → Bool) → sum_by (put_in test) passes ≡ sum_by (taken_in test) passes + count_by test items
  pub idle : All IsIdle passes

-- of each kind of jobs as many were put as were taken and are left
abbrev pub IsEven : PassCounts → List Job → Type 0
IsEven v items = (test : Job → Bool) → put_in test v ≡ taken_in test v + count_by test items
