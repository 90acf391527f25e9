-- What holds of an owner's stream as it is kept. Serves the code, and no public contract.
use Rattle.std.specs.Prelude.{◌≡◌, ℕ, ◌+◌, ◌%◌, ◌<◌, ◌≤◌, List, length, map, slice_get, nat_lt}
use Rattle.std.specs.Prelude.{nat_le, if◌then◌else◌, All, IsSome, Option, None, Result, Ok, Err}
use Rattle.std.specs.List.{range_with_len}
use Rattle.quorum_sizes.specs.Sizes.{Counts}
use Rattle.role_commands.specs.declared.command.Command.{Command}
use Rattle.link_frames.specs.frames.Packets.{PacketValue}
use Rattle.bracha_instance.specs.Broadcast.{Take}
use Rattle.bracha_instance.specs.States.{State, state}
use Rattle.bracha_instance.specs.declared.instance.Effect.{Effect}
use Rattle.bracha_instance.specs.declared.instance.Effect.TheVariants.{Idle, Counted}
use Rattle.owner_streams.specs.declared.steps.StreamFault.{StreamFault}
use Rattle.owner_streams.specs.declared.steps.StreamFault.TheVariants.{Beyond}
use Rattle.owner_streams.specs.Places.{place_count, window, takes_at}
use Rattle.owner_streams.specs.Values.{Instances, StreamsValue, IsStateOf}
use Rattle.owner_streams.specs.inside.Slots.{slot_at, state_in, delivered_in, voted_in, instances_from}
use Rattle.owner_streams.specs.inside.VoteEnds.{AreEndsOf}
use Rattle.owner_streams.specs.declared.owner_stream.OwnerStream.{OwnerStream}
use Rattle.owner_streams.specs.declared.streams.Streams.TheInside.{Inside}

-- The places that are delivered without a gap are kept as records, and those of the window in a ring: each has the
-- slot of its remainder.
abbrev pub reach_in : OwnerStream → ℕ
reach_in a = length a.below.items

-- what is kept at a place, below these records or in this ring
abbrev pub held_in : List State → List (Option State) → ℕ → Option State
held_in below ring place =
    if nat_lt place (length below) then slice_get below place
    else if nat_lt place (length below + window) then slot_at ring (place % window)
    else None

unfoldable pub held : OwnerStream → ℕ → Option State
held a place = held_in a.below.items a.ring.items place

-- At each place is the state of some messages. The reach is the first place that is not delivered, and nothing is
-- kept at a number that is no place.
pub record IsOwnerStream (s : Counts) (a : OwnerStream) : Type 0 where
  pub states : (place : ℕ) → (takes : List Take) × (state_in s (held a place) ≡ state s takes)
  pub run : (place : ℕ) → place < reach_in a → IsSome (delivered_in (held a place))
  pub run_ends : delivered_in (held a (reach_in a)) ≡ None
  pub in_range : (place : ℕ) → place_count ≤ place → held a place ≡ None

-- at each place of this owner is the state of the messages among these packets
pub record AreStatesOf (s : Counts) (owner : ℕ) (a : OwnerStream) (packets : List PacketValue) : Type 0 where
  pub at_each_place : (place : ℕ) → state_in s (held a place) ≡ state s (takes_at owner place packets)

-- the places hold what they held
pub record SamePlaces (a b : OwnerStream) : Type 0 where
  pub at_each_place : (place : ℕ) → held b place ≡ held a place

-- the command at a place before the reach
abbrev pub command_in : OwnerStream → ℕ → Option Command
command_in a place = if nat_lt place (reach_in a) then delivered_in (held a place) else None

-- the effect of a packet at its place, or its refusal
abbrev pub look_in : OwnerStream → PacketValue → Result Effect StreamFault
look_in a p =
    let end = reach_in a + window in
    if nat_le end p.place then Err (Beyond p.place end)
    else Ok (if voted_in (held a p.place) p.kind p.from then Idle else Counted)

-- the instances at all places up to the end of the window
unfoldable pub instances_in : OwnerStream → Instances
instances_in a = instances_from 0 (map (held a) (range_with_len 0 (reach_in a + window)))

abbrev pub streams_value : Inside → StreamsValue
streams_value a = record { sizes = a.sizes; owners = map instances_in a.owners.items }

-- There is a stream for each node, and there are packets of which these are the streams and the last votes.
pub record AreOwnerStreams (a : Inside) : Type 0 where
  pub one_each : length a.owners.items ≡ a.sizes.nodes
  pub each : All (IsOwnerStream a.sizes) a.owners.items
  pub ends : (packets : List PacketValue) × IsStateOf (streams_value a) packets × AreEndsOf a.sizes packets a.ends
