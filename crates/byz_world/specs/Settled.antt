-- What it is to settle a world: its packets are given until a pass over them records nothing.
use Rattle.std.specs.Prelude.{◌≡◌, ℕ, zero, suc, ◌*◌, ◌≤◌, ◌++◌, Bool, false, IsTrue, nat_lt, if◌then◌else◌}
use Rattle.std.specs.Prelude.{length, map}
use Rattle.std.specs.List.{range_with_len}
use Rattle.link_frames.specs.frames.Packets.{PacketValue}
use Rattle.role_node.specs.Configs.{ConfigValue}
use Rattle.byz_world.specs.Pools.{pool}
use Rattle.byz_world.specs.Giving.{IsProlongation, IsGivenOut, HasRoom}
use Rattle.byz_world.specs.Resting.{IsAtRest}
use Rattle.byz_world.specs.Progress.{IsWanted}
use Rattle.byz_world.specs.Runs.{Run, history_of}
use Rattle.byz_world.specs.Steps.{after_steps, with_run, is_pool_full, adds}
use Rattle.byz_world.specs.Worlds.{WorldValue}
use Rattle.byz_world.specs.declared.step.Step.TheVariants.{Give}

-- the world's run was prolonged by packets of the pool alone
abbrev pub IsProlonged : WorldValue → WorldValue → Type 0
IsProlonged old new =
    (more : Run) × (new ≡ with_run old (old.run ++ more)) × IsProlongation old.config old.liars old.run more

-- While the pool has room no packet of it counts any more: what is still wanted, a full history keeps out. So where no
-- history is full either, the world is at rest.
pub record IsSettled (w : WorldValue) : Type 0 where
  pub given_out : is_pool_full w ≡ false → IsGivenOut w.config w.liars w.run
  pub wanted : is_pool_full w ≡ false → (p : PacketValue) → IsWanted w.config w.liars w.run p →
      w.config.limit ≤ length (history_of p.to w.run)
  pub rests : is_pool_full w ≡ false → HasRoom w.config w.liars w.run → IsAtRest w.config w.liars w.run

-- some packet of the pool would be recorded if it were given now
abbrev pub MayAdd : WorldValue → Type 0
MayAdd w = (packet : ℕ) × IsTrue (adds w (Give packet))

-- the world after so many packets of the pool were given, one after another from this number on
abbrev pub after_gives : WorldValue → ℕ → ℕ → WorldValue
after_gives w first count = after_steps w (map Give (range_with_len first count))

-- a pass gives each packet that the pool has, in the order of their numbers
abbrev pub after_pass : WorldValue → WorldValue
after_pass w = after_gives w 0 (length (pool w.config w.run))

-- whether something is recorded in it
abbrev pub pass_adds : WorldValue → Bool
pass_adds w = nat_lt (length w.run) (length (after_pass w).run)

-- one pass after another while something is recorded, so many at most
unfoldable pub after_passes : ℕ → WorldValue → WorldValue
after_passes zero w = w
after_passes (suc most) w = if pass_adds w then after_passes most (after_pass w) else w

-- no run is longer, since no history is
abbrev pub longest_run : ConfigValue → ℕ
longest_run config = config.roles.sizes.nodes * config.limit

-- the world after all of them
abbrev pub settled : WorldValue → WorldValue
settled w = after_passes (longest_run w.config) w
