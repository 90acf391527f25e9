-- How each owner's stream goes on, whatever liars, clients and the other owners do meanwhile: by what correct nodes
-- have sent about its first places and others still want.
use Rattle.std.specs.Prelude.{◌≡◌, ℕ, ◌+◌, ◌*◌, ◌<◌, ◌≤◌, ◌==◌, ◌⊎◌, Bool, ◌&&◌, nat_lt, false, [], ◌∷◌, ◌++◌}
use Rattle.std.specs.Prelude.{length, take, filter, Contains, Ok}
use Rattle.std.specs.Option.{option_map_or}
use Rattle.quorum_sizes.specs.NodeSets.{Nodes}
use Rattle.link_frames.specs.frames.Packets.{PacketValue}
use Rattle.bracha_instance.specs.declared.instance.Effect.TheVariants.{Counted}
use Rattle.owner_streams.specs.Places.{window, takes_at}
use Rattle.role_node.specs.Answers.{take_outlook}
use Rattle.role_node.specs.Configs.{ConfigValue}
use Rattle.role_node.specs.Histories.{packet_in, packets, issued, client_events}
use Rattle.role_node.specs.Work.{most_at_place}
use Rattle.role_node.specs.declared.event.Event.{Event}
use Rattle.role_node.specs.declared.event.Event.TheVariants.{Take}
use Rattle.byz_world.specs.Limits.{IsRunUnderLimits}
use Rattle.byz_world.specs.Pools.{WasSent}
use Rattle.byz_world.specs.Runs.{Run, history_of, stream_of, reach_of, IsCorrect, IsClusterRun}

-- a correct node has sent the packet to a correct node that would record it now, room in its history apart
pub record IsWanted (config : ConfigValue) (liars : Nodes) (run : Run) (p : PacketValue) : Type 0 where
  pub sent : WasSent config liars run p
  pub to : IsCorrect config liars p.to
  pub counts : take_outlook config.roles p.to (history_of p.to run) p ≡ Ok Counted

-- nothing about the owner's places before this one is wanted
abbrev pub IsQuiet : ConfigValue → Nodes → Run → ℕ → ℕ → Type 0
IsQuiet config liars run owner places =
    (p : PacketValue) → IsWanted config liars run p → p.owner ≡ owner → p.place < places → ⊥

-- so much of the owner's stream is one list at all correct nodes, and where the owner is correct what it issued
pub record IsComplete (config : ConfigValue) (liars : Nodes) (run : Run) (owner places : ℕ) : Type 0 where
  pub alike : (i j : ℕ) → IsCorrect config liars i → IsCorrect config liars j →
      take places (stream_of config run i owner) ≡ take places (stream_of config run j owner)
  pub issued_is_delivered : (i : ℕ) → IsCorrect config liars i → IsCorrect config liars owner →
      take places (stream_of config run i owner) ≡ take places (issued (history_of owner run))

-- Where nothing about an owner's first places is wanted, these are complete, whatever is under way of others and
-- whichever histories are full.
abbrev pub QuietIsComplete : Type 0
QuietIsComplete =
    (config : ConfigValue) (liars : Nodes) (run : Run) (owner places : ℕ) → IsClusterRun config liars run →
    IsQuiet config liars run owner places → IsComplete config liars run owner places

-- the event is a packet about the owner's places before this one
abbrev pub is_about : ℕ → ℕ → ℕ × Event → Bool
is_about owner places pair =
    option_map_or (λ p. p.owner == owner && nat_lt p.place places) (packet_in pair.1) false

-- An owner's first places are complete, or something about them is wanted. Only so many packets about them are recorded
-- in all, those of liars too. And what is wanted stays so until it is recorded, however the run goes on.
pub record GoesOn (config : ConfigValue) (liars : Nodes) (run : Run) (owner places : ℕ) : Type 0 where
  pub complete_or_wanted : IsComplete config liars run owner places
      ⊎ ((p : PacketValue) × IsWanted config liars run p × (p.owner ≡ owner) × (p.place < places))
  pub ends : length (filter (is_about owner places) run)
      ≤ config.roles.sizes.nodes * (places * most_at_place config.roles.sizes)
  pub stays : (p : PacketValue) (more : Run) → IsClusterRun config liars (run ++ more) → IsWanted config liars run p →
      IsWanted config liars (run ++ more) p ⊎ Contains (packets (history_of p.to (run ++ more))) p

abbrev pub EachOwnerGoesOn : Type 0
EachOwnerGoesOn =
    (config : ConfigValue) (liars : Nodes) (run : Run) (owner places : ℕ) → IsClusterRun config liars run →
    GoesOn config liars run owner places

-- What is wanted is recorded when it is given, where its receiver is below its own limit.
abbrev pub WantedIsRecorded : Type 0
WantedIsRecorded =
    (config : ConfigValue) (limits : ℕ → ℕ) (liars : Nodes) (run : Run) (p : PacketValue) →
    IsRunUnderLimits config limits liars run → IsWanted config liars run p →
    length (history_of p.to run) < limits p.to → IsRunUnderLimits config limits liars (run ++ (p.to, Take p) ∷ [])

-- A history that has only packets about places before this one is no longer than what its node issued, what its clients
-- did, and what can count about these places.
abbrev pub HistoryIsBounded : Type 0
HistoryIsBounded =
    (config : ConfigValue) (liars : Nodes) (run : Run) (node places : ℕ) → IsClusterRun config liars run →
    ((p : PacketValue) → Contains (packets (history_of node run)) p → p.place < places) →
    length (history_of node run)
    ≤ length (issued (history_of node run)) + length (client_events (history_of node run))
    + config.roles.sizes.nodes * (places * most_at_place config.roles.sizes)

-- No more is recorded about a place than can count there, and nothing about a place beyond the window.
pub record IsWorkBounded (config : ConfigValue) (run : Run) : Type 0 where
  pub at_place : (node owner place : ℕ) →
      length (takes_at owner place (packets (history_of node run))) ≤ most_at_place config.roles.sizes
  pub none_beyond : (node owner place : ℕ) → reach_of config run node owner + window ≤ place →
      takes_at owner place (packets (history_of node run)) ≡ []

abbrev pub WorkIsBounded : Type 0
WorkIsBounded =
    (config : ConfigValue) (liars : Nodes) (run : Run) → IsClusterRun config liars run → IsWorkBounded config run
