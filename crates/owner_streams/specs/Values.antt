-- What contracts see of `Streams`: the states of its instances, by owner and place, and nothing of how they are kept.
use Rattle.std.specs.Prelude.{◌≡◌, ℕ, List, [], slice_get, unwrap_or, Ok, refl}
use Rattle.std.specs.Coded.{Coded, code_by, coded×, coded_list, coded_ℕ}
use Rattle.std.specs.Ordering.{nat_cmp}
use Rattle.std.specs.FinMap as maps
use Rattle.quorum_sizes.specs.Sizes.{Counts}
use Rattle.quorum_sizes.specs.contracts.sizes.Sizes as sizes
use Rattle.link_frames.specs.frames.Packets.{PacketValue}
use Rattle.bracha_instance.specs.States.{State, state}
use Rattle.bracha_instance.specs.contracts.instance.Instance as instance
use Rattle.bracha_instance.specs.declared.instance.Effect.TheVariants.{Counted}
use Rattle.owner_streams.specs.Places.{takes_at}
use Rattle.owner_streams.specs.Steps.{SendsAreOwners, step_due, effect_due}

-- the instances of an owner's stream by place: those in which a message was counted
abbrev pub Instances : Type 0
Instances = maps.FinMap nat_cmp State

-- the sizes of the cluster, and the instances of each of its nodes, in the order of the nodes' names
pub record StreamsValue : Type 0 where
  pub sizes : Counts
  pub owners : List Instances

abbrev pub instances_of : StreamsValue → ℕ → Instances
instances_of streams owner = unwrap_or (slice_get streams.owners owner) maps.empty

-- the state of the instance at a place of the owner's stream: where no message was counted, that of no messages
abbrev pub state_at : StreamsValue → ℕ → ℕ → State
state_at streams owner place = unwrap_or (maps.get (instances_of streams owner) place) (state streams.sizes [])

-- for every owner and place the state is that of the messages among these packets
pub record IsStateOf (streams : StreamsValue) (packets : List PacketValue) : Type 0 where
  pub at_each_place : (owner place : ℕ)
      → state_at streams owner place ≡ state streams.sizes (takes_at owner place packets)

-- these are the streams of some packets after which this one counts
abbrev pub WouldCount : StreamsValue → PacketValue → Type 0
WouldCount streams p =
    (packets : List PacketValue) × IsStateOf streams packets × SendsAreOwners packets
    × (effect_due (step_due streams.sizes packets p) ≡ Ok Counted)

abbrev pub instances_code : Coded Instances
instances_code = maps.code coded_ℕ instance.the_row.coded

-- it is stored as its fields
abbrev pub streams_code : Coded StreamsValue
streams_code =
    code_by (Counts × List Instances) (coded× sizes.the_row.coded (coded_list instances_code))
    (λ v. (v.sizes, v.owners))
    (λ p. record { sizes = p.0; owners = p.1 })
    (λ _. refl)
