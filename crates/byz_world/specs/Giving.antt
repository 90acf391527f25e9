-- A cluster in which nothing happens any more but that packets which correct nodes have sent are given.
use Rattle.std.specs.Prelude.{◌≡◌, ℕ, ◌+◌, ◌*◌, ◌<◌, ◌≤◌, ◌⊎◌, ◌↔◌, Bool, false, IsTrue}
use Rattle.std.specs.Prelude.{◌++◌, length, take, slice_get, Contains, Some}
use Rattle.quorum_sizes.specs.Sizes.{Counts}
use Rattle.quorum_sizes.specs.NodeSets.{Nodes}
use Rattle.link_frames.specs.frames.Packets.{PacketValue}
use Rattle.role_node.specs.Answers.{answer_due, is_recorded}
use Rattle.role_node.specs.Configs.{ConfigValue}
use Rattle.role_node.specs.Work.{most_at_place}
use Rattle.role_node.specs.declared.event.Event.{Event}
use Rattle.role_node.specs.declared.event.Event.TheVariants.{Take}
use Rattle.byz_world.specs.Laws.{HasSettled}
use Rattle.byz_world.specs.Pools.{pool}
use Rattle.byz_world.specs.Resting.{IsAtRest}
use Rattle.byz_world.specs.Runs.{Run, history_of, IsCorrect, IsClusterRun}

-- its receiver would record the packet if it were given now
abbrev pub counts_now : ConfigValue → Run → PacketValue → Bool
counts_now config run p = is_recorded (answer_due config p.to (history_of p.to run) (Take p))

-- no packet of the pool to a correct node counts any more
abbrev pub IsGivenOut : ConfigValue → Nodes → Run → Type 0
IsGivenOut config liars run =
    (p : PacketValue) → Contains (pool config run) p → IsCorrect config liars p.to →
    counts_now config run p ≡ false

-- no correct node's history is full
abbrev pub HasRoom : ConfigValue → Nodes → Run → Type 0
HasRoom config liars run =
    (node : ℕ) → IsCorrect config liars node → length (history_of node run) < config.limit

-- Of a cluster in which no history is full: where no packet of the pool counts any more, it is at rest, and only there.
-- So none waits beyond a window for ever.
abbrev pub GivenOutIsAtRest : Type 0
GivenOutIsAtRest =
    (config : ConfigValue) (liars : Nodes) (run : Run) → IsClusterRun config liars run → HasRoom config liars run →
    IsGivenOut config liars run ↔ IsAtRest config liars run

-- the packet may be given, and counts: a correct node has sent it to a correct node, which would record it
pub record IsGivable (config : ConfigValue) (liars : Nodes) (run : Run) (p : PacketValue) : Type 0 where
  pub sent : Contains (pool config run) p
  pub to : IsCorrect config liars p.to
  pub counts : IsTrue (counts_now config run p)

-- The run is prolonged by packets of the pool alone, in whatever order: each of these pairs is such a packet, which
-- counted when it was given, and its receiver.
abbrev pub IsProlongation : ConfigValue → Nodes → Run → Run → Type 0
IsProlongation config liars run more =
    (t : ℕ) (pair : ℕ × Event) → slice_get more t ≡ Some pair →
    (p : PacketValue) × IsGivable config liars (run ++ take t more) p × (pair ≡ (p.to, Take p))

-- so many packets can count in all, about the places before this one of each owner at each node
abbrev pub most_work : Counts → ℕ → ℕ
most_work s places = s.nodes * (s.nodes * (places * most_at_place s))

-- no packet of the pool is about this place or a later one
abbrev pub IsPoolBelow : ConfigValue → Run → ℕ → Type 0
IsPoolBelow config run places = (p : PacketValue) → Contains (pool config run) p → p.place < places

-- What holds of a run that is prolonged by packets of the pool, in whatever order they are given. It is a run of a
-- cluster, and gets only so much longer, whatever liars did before, so it fills no history that has room for that; and
-- while no history is full, some packet counts until the cluster is at rest, and where none does, all is delivered.
pub record ComesToRest (config : ConfigValue) (liars : Nodes) (run more : Run) : Type 0 where
  pub is_run : IsClusterRun config liars (run ++ more)
  pub ends : (places : ℕ) → IsPoolBelow config run places → length more ≤ most_work config.roles.sizes places
  pub has_room : (places : ℕ) → IsPoolBelow config run places →
      ((node : ℕ) → IsCorrect config liars node →
      length (history_of node run) + most_work config.roles.sizes places < config.limit) →
      HasRoom config liars (run ++ more)
  pub goes_on : HasRoom config liars (run ++ more) →
      IsAtRest config liars (run ++ more) ⊎ ((p : PacketValue) × IsGivable config liars (run ++ more) p)
  pub settles : HasRoom config liars (run ++ more) → IsGivenOut config liars (run ++ more) →
      HasSettled config liars (run ++ more)

-- Whoever goes on giving packets that count comes to an end, and there the cluster is at rest.
abbrev pub GivingComesToRest : Type 0
GivingComesToRest =
    (config : ConfigValue) (liars : Nodes) (run more : Run) → IsClusterRun config liars run →
    IsProlongation config liars run more → ComesToRest config liars run more
