-- What contracts see of the passes of an inbox.
use Rattle.std.specs.Prelude.{◌≡◌, ℕ, ◌+◌, ◌<◌, Bool, List, [], ◌∷◌, ◌++◌, sum_by, count_by}
use Rattle.atomic_table.specs.Seated.{TableId}
use Rattle.node_lock.specs.declared.job.Job.{Job}

-- the inbox that it is of, how many of the inbox's parts it holds, and the jobs that it put and took, oldest first
pub record Passing : Type 0 where
  pub inbox : TableId
  pub parts : ℕ
  pub put : List Job
  pub taken : List Job

-- the most jobs in an inbox, and the most passes of one
abbrev pub inbox_capacity : ℕ
inbox_capacity = 1024

abbrev pub most_passes : ℕ
most_passes = 160

-- the parts of an inbox, which its passes hold
abbrev pub inbox_parts : ℕ
inbox_parts = 256

abbrev pub passing : TableId → ℕ → List Job → List Job → Passing
passing inbox parts put taken = record { inbox = inbox; parts = parts; put = put; taken = taken }

-- a pass with one more job that it put, or took
abbrev pub after_put : Passing → Job → Passing
after_put p x = passing p.inbox p.parts (p.put ++ x ∷ []) p.taken

abbrev pub after_take : Passing → Job → Passing
after_take p x = passing p.inbox p.parts p.put (p.taken ++ x ∷ [])

abbrev pub parts_of : Passing → ℕ
parts_of p = p.parts

-- the pass is of this inbox
abbrev pub IsPassTo : TableId → Passing → Type 0
IsPassTo inbox p = p.inbox ≡ inbox

-- a pass of this inbox that holds a part, and put and took nothing
abbrev pub IsNewPassTo : TableId → Passing → Type 0
IsNewPassTo inbox p = (p.inbox ≡ inbox) × (0 < p.parts) × (p.put ≡ []) × (p.taken ≡ [])

-- no pass is absent: they hold all parts
abbrev pub AreAllPasses : List Passing → Type 0
AreAllPasses passes = sum_by parts_of passes ≡ inbox_parts

-- The jobs put by all passes are those taken and those left, each as often: of those that pass any test there are as
-- many.
abbrev pub AreSettled : List Passing → List Job → Type 0
AreSettled passes left =
    (test : Job → Bool) →
    sum_by (λ (p : Passing). count_by test p.put) passes
    ≡ sum_by (λ (p : Passing). count_by test p.taken) passes + count_by test left
