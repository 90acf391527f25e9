-- A life in which a node adopts, loses that in a crash and adopts again, so that no law speaks of nothing.
use Rattle.std.specs.Prelude.{◌≡◌, List, [], ◌∷◌, ◌++◌, take}
use Rattle.std.specs.List.{flat_map}
use Rattle.byz_world.specs.Example.{three_lies, user_seven, example_run}
use Rattle.byz_world.specs.Runs.{Run}
use Rattle.part_lives.specs.Parts.{Act, Adopts, total}
use Rattle.stream_parts.specs.Example.{one_place, in_first}
use Rattle.stream_parts.specs.LongRuns.{LongRun, acts_of}
use Rattle.stream_restarts.specs.LongLives.{Deed, Does, Syncs, Crashes, moment, IsLongLife}

-- each act of the run is synced once it is done
abbrev pub synced_at_once : LongRun → List Deed
synced_at_once run = flat_map (λ pair. Does pair.0 pair.1 ∷ Syncs pair.0 ∷ []) run

-- the run of four nodes until node 0 has delivered its command, of which node 2 has two READYs
abbrev pub before_two : Run
before_two = take 21 example_run

abbrev pub told_first : List Deed
told_first = synced_at_once (in_first before_two)

-- node 2 takes node 0's first part on trust
abbrev pub adopts : Act
adopts = Adopts 0 1 (user_seven ∷ [])

-- It adopts it, crashes with all its other acts synced, and adopts it again.
abbrev pub example_life : List Deed
example_life = told_first ++ Does 2 adopts ∷ Crashes 2 6 ∷ Does 2 adopts ∷ []

pub record AnExample : Type 0 where
  pub is_life : IsLongLife one_place three_lies example_life
  pub was_behind : total one_place (acts_of 2 (moment example_life 42).run) 0 ≡ []
  pub adopted : total one_place (acts_of 2 (moment example_life 43).run) 0 ≡ user_seven ∷ []
  pub lost : (moment example_life 44).run ≡ (moment example_life 42).run
  pub again : total one_place (acts_of 2 (moment example_life 45).run) 0 ≡ user_seven ∷ []
