-- Laws of the passes of an inbox.
use Rattle.std.specs.Prelude.{◌≡◌, ◌<◌, List, ◌∷◌, ◌++◌}
use Rattle.node_lock.specs.Inboxes.{Passing, parts_of, after_put, after_take, AreAllPasses}
use Rattle.node_lock.specs.declared.job.Job.{Job}

-- a pass has the parts after a put or a take that it had before
abbrev pub PartsStay : Type 0
PartsStay =
    (p : Passing) (job : Job) → (parts_of (after_put p job) ≡ parts_of p)
    × (parts_of (after_take p job) ≡ parts_of p)

-- passes that are all without one that holds a part, or without more, are not all
abbrev pub NoneCanBeAbsent : Type 0
NoneCanBeAbsent =
    (here absent : List Passing) (p : Passing) → 0 < p.parts → AreAllPasses (here ++ p ∷ absent) → ¬ AreAllPasses here
