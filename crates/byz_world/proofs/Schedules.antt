-- Schedules of packets of the pool: they end, and where none counts any more the cluster is at rest.
use Rattle.std.proofs.Common.{◌≡◌, ℕ, ◌⊎◌, inl, inr, ⊎_elim, Bool, true, false, ◌&&◌}
use Rattle.std.proofs.Common.{◌++◌, Some, arith}
use Rattle.std.specs.Prelude.{slice_get, Contains}
use Rattle.std.proofs.lemmas.Bool.{and_parts}
use Rattle.quorum_sizes.specs.NodeSets.{Nodes}
use Rattle.link_frames.specs.frames.Packets.{PacketValue}
use Rattle.role_node.specs.Configs.{ConfigValue}
use Rattle.byz_world.specs.Pools.{pool}
use Rattle.byz_world.specs.Giving.{counts_now, IsGivenOut, IsGivable, GivingComesToRest}
use Rattle.byz_world.specs.Runs.{Run, is_correct}
use Rattle.byz_world.proofs.Elements.{number_of, one_passes}
use Rattle.byz_world.proofs.GivenOut.{given_out_is_at_rest}
use Rattle.byz_world.proofs.Prolonging.{prolonged_is_run, prolonging_ends}
use Rattle.byz_world.proofs.Pushing.{prolonged-length}
use Rattle.byz_world.proofs.Rest.{at_rest}

-- A packet that counts, or none.

second : (a b : Bool) → (a && b) ≡ false → a ≡ true → b ≡ false
second true b e f = e
second false b e f = absurd cc

pub given_out_or_not : (config : ConfigValue) (liars : Nodes) (run : Run) →
    IsGivenOut config liars run ⊎ ((p : PacketValue) × IsGivable config liars run p)
given_out_or_not config liars run =
    let test : PacketValue → Bool = λ p. is_correct config.roles.sizes liars p.to && counts_now config run p in
    ⊎_elim
    (λ (none : (k : ℕ) (p : PacketValue) → slice_get (pool config run) k ≡ Some p → test p ≡ false).
    inl (λ p pooled correct.
    let at = number_of (pool config run) p pooled in second _ _ (none at.0 p at.1) correct))
    (λ (one : (p : PacketValue) × Contains (pool config run) p × (test p ≡ true)).
    let both = and_parts _ _ one.2 in inr (one.0, record { sent = one.1; to = both.0; counts = both.1 }))
    (one_passes test (pool config run))

pub giving_comes_to_rest : GivingComesToRest
giving_comes_to_rest config liars run more cluster prolongs =
    let whole = prolonged_is_run config liars run more cluster prolongs in
    record {
      is_run = whole;
      ends = λ places below. prolonging_ends config liars run more places cluster below prolongs;
      has_room = λ places below room node correct.
          let few = prolonging_ends config liars run more places cluster below prolongs in
          omega (arith, room node correct, few, prolonged-length node run more);
      goes_on = λ room.
          ⊎_elim
          (λ (given : IsGivenOut config liars (run ++ more)).
          let is = given_out_is_at_rest config liars (run ++ more) whole room in inl (is.0 given))
          (λ (one : (p : PacketValue) × IsGivable config liars (run ++ more) p). inr one)
          (given_out_or_not config liars (run ++ more));
      settles = λ room given.
          let is = given_out_is_at_rest config liars (run ++ more) whole room in
          at_rest config liars (run ++ more) whole (is.0 given);
    }
