-- A cluster as a script runs it: the world, and which packets of its pool were given.
use Rattle.std.specs.Prelude.{ℕ, zero, suc, ◌+◌, ◌-◌, ◌==◌, Bool, false, not, ◌||◌}
use Rattle.std.specs.Prelude.{nat_lt, if◌then◌else◌, length, find, Option}
use Rattle.std.specs.List.{range_with_len}
use Rattle.std.specs.Option.{option_map_or}
use Rattle.quorum_sizes.specs.Sizes.{Counts}
use Rattle.quorum_sizes.specs.NodeSets.{Nodes}
use Rattle.role_commands.specs.Tables.{Table}
use Rattle.role_node.specs.Configs.{ConfigValue, most_events}
use Rattle.byz_world.specs.Pools.{pool}
use Rattle.byz_world.specs.Settled.{settled}
use Rattle.byz_world.specs.Steps.{after_step}
use Rattle.byz_world.specs.Worlds.{WorldValue, new_world}
use Rattle.byz_world.specs.declared.step.Step.{Step}
use Rattle.byz_world.specs.declared.step.Step.TheVariants.{Issue, Give, Lie, Bytes, Client}
use Rattle.lab_scripts.specs.declared.orders.ScriptLine.{ScriptLine}
use Rattle.lab_scripts.specs.declared.orders.ScriptLine.TheVariants.{Do, Flush, Settle, Rest, Ask, Reach, Agree}

-- the world, and whether the packet of a number was given
pub record Lab : Type 0 where
  pub world : WorldValue
  pub given : ℕ → Bool

-- the number of the cluster
abbrev pub cluster_number : ℕ
cluster_number = 1

abbrev pub lab_config : Table → ConfigValue
lab_config roles = record { cluster = cluster_number; roles = roles; limit = most_events }

-- a cluster in which nothing has happened
abbrev pub new_lab : Table → Nodes → Lab
new_lab roles liars = record { world = new_world (lab_config roles) liars; given = λ _. false }

abbrev pub lab_sizes : Lab → Counts
lab_sizes lab = lab.world.config.roles.sizes

-- how many packets the pool has
abbrev pub pool_length : WorldValue → ℕ
pool_length w = length (pool w.config w.run)

-- this number was given too
abbrev pub with_number : (ℕ → Bool) → ℕ → (ℕ → Bool)
with_number given number = λ k. (k == number) || given k

-- a packet was given if the pool has it
abbrev pub given_after : Lab → Step → (ℕ → Bool)
given_after lab (Give number) = if nat_lt number (pool_length lab.world) then with_number lab.given number
    else lab.given
given_after lab (Issue node command) = lab.given
given_after lab (Lie packet) = lab.given
given_after lab (Bytes to bytes) = lab.given
given_after lab (Client node act) = lab.given

-- after a step
abbrev pub after_doing : Lab → Step → Lab
after_doing lab step = record { world = after_step lab.world step; given = given_after lab step }

-- the least number of the pool that was not given
unfoldable pub next_number : Lab → Option ℕ
next_number lab = find (λ k. not (lab.given k)) (range_with_len 0 (pool_length lab.world))

-- The least number that was not given is given, and then the least of what is left, so many times at most and until
-- none is left. How many were given, and the cluster afterwards.
pub record Flushed : Type 0 where
  pub count : ℕ
  pub lab : Lab

unfoldable pub flush_within : ℕ → ℕ → Lab → Flushed
flush_within zero count lab = record { count = count; lab = lab }
flush_within (suc times) count lab =
    option_map_or (λ number. flush_within times (count + 1) (after_doing lab (Give number))) (next_number lab)
    (record { count = count; lab = lab })

-- no pool has more packets than its limit, so that none is left: `flush_leaves_none`
abbrev pub flush : Lab → Flushed
flush lab = flush_within lab.world.config.limit 0 lab

-- how many events are recorded while the cluster settles
abbrev pub settling_adds : Lab → ℕ
settling_adds lab = length (settled lab.world).run - length lab.world.run

-- each number below this one was given too
abbrev pub with_all_below : (ℕ → Bool) → ℕ → (ℕ → Bool)
with_all_below given end = λ k. nat_lt k end || given k

-- after it has settled: each packet that its pool has then was given
abbrev pub after_settling : Lab → Lab
after_settling lab =
    let w = settled lab.world in record { world = w; given = with_all_below lab.given (pool_length w) }

-- after what a line asks
abbrev pub after_order : Lab → ScriptLine → Lab
after_order lab (Do step) = after_doing lab step
after_order lab Flush = (flush lab).lab
after_order lab Settle = after_settling lab
after_order lab Rest = lab
after_order lab (Ask node question) = lab
after_order lab (Reach node owner) = lab
after_order lab (Agree one other owner) = lab
