-- What shares are good for, of any legal history: it stays within them, and then nothing that has a share lacks room.
use Rattle.std.specs.Prelude.{◌≡◌, ◌≢◌, ℕ, ◌+◌, ◌*◌, ◌<◌, ◌≤◌, ◌==◌, Bool, ◌&&◌, nat_lt, ⊤, IsTrue}
use Rattle.std.specs.Prelude.{List, [], ◌∷◌, ◌++◌, length, count_by, All, Err, None}
use Rattle.std.specs.FinMap as map
use Rattle.link_frames.specs.frames.Packets.{PacketValue, IsSound}
use Rattle.role_commands.specs.Tables.{Table}
use Rattle.role_sessions.specs.declared.event.ClientEvent.TheVariants.{Close}
use Rattle.role_node.specs.Access.{sessions_at}
use Rattle.role_node.specs.Answers.{answer_due, is_recorded, outlook, outlook_with_room, IsLegal}
use Rattle.role_node.specs.Configs.{ConfigValue, most_events}
use Rattle.role_node.specs.Histories.{issued, packets, client_events}
use Rattle.role_node.specs.declared.event.Event.{Event}
use Rattle.role_node.specs.declared.event.Event.TheVariants.{Issue, Take, Client}
use Rattle.role_node.specs.declared.faults.NodeFault.TheVariants as fault
use Rattle.owner_shares.specs.Answers.{answer_of_shares}
use Rattle.owner_shares.specs.Shares.{share, shares_of, published_events, clients_events, acts_share}

-- each packet that was taken is sound, as each packet is
abbrev pub AreSound : List Event → Type 0
AreSound history = All IsSound (packets history)

-- how many sessions are open
abbrev pub open_count : List Event → ℕ
open_count history = map.len (sessions_at history).open_sessions

-- Each packet that was taken is about a place below its owner's share, no more is issued than the node's own share, and
-- what clients did leaves room for a close of each open session.
pub record IsWithinShares (roles : Table) (me : ℕ) (history : List Event) : Type 0 where
  pub taken : All (λ (p : PacketValue). p.place < share roles p.owner) (packets history)
  pub issued : length (issued history) ≤ share roles me
  pub acts : length (client_events history) + open_count history ≤ clients_events

-- A node begins within its shares. What it records stays within them, where the shares have nothing to answer.
pub record StaysWithin (config : ConfigValue) (me : ℕ) : Type 0 where
  pub begins : IsWithinShares config.roles me []
  pub goes_on : (history : List Event) (event : Event) →
      IsLegal config me history → IsWithinShares config.roles me history →
      answer_of_shares (shares_of config.roles) (record { config = config; me = me; history = history }) event ≡ None →
      IsTrue (is_recorded (answer_due config me history event)) →
      IsWithinShares config.roles me (history ++ event ∷ [])

abbrev pub SharesAreKept : Type 0
SharesAreKept = (config : ConfigValue) (me : ℕ) → StaysWithin config me

-- the packet is about one of the owner's places before this one
abbrev pub is_before : ℕ → ℕ → PacketValue → Bool
is_before owner places p = (p.owner == owner) && nat_lt p.place places

-- so many packets about an owner's first places are taken at most, the owner may be a liar
abbrev pub OwnerIsBounded : Type 0
OwnerIsBounded =
    (config : ConfigValue) (me : ℕ) (history : List Event) (owner places : ℕ) →
    IsLegal config me history → AreSound history →
    count_by (is_before owner places) (packets history) ≤ places * (2 * config.roles.sizes.nodes + 1)

-- What owners publish takes three quarters of the events at most, so that a close of each open session finds room.
pub record IsShort (history : List Event) : Type 0 where
  pub published : length history ≤ published_events + length (client_events history)
  pub room : length history + open_count history ≤ most_events

abbrev pub SharesHold : Type 0
SharesHold =
    (config : ConfigValue) (me : ℕ) (history : List Event) → IsLegal config me history → AreSound history →
    IsWithinShares config.roles me history → IsShort history

-- The event has a share: a packet about a place below its owner's, a command while fewer are issued than the node's own,
-- a close, and another act while clients have done fewer than theirs.
abbrev pub HasShare : Table → ℕ → List Event → Event → Type 0
HasShare roles me history (Take p) = p.place < share roles p.owner
HasShare roles me history (Issue command) = length (issued history) < share roles me
HasShare roles me history (Client (Close session user)) = ⊤
HasShare roles me history (Client act) = length (client_events history) < acts_share

-- The event finds room: what is due to it is what is due where there is room without end, and never that the history is
-- full. With it, the history is within its shares still.
pub record FindsRoom (config : ConfigValue) (me : ℕ) (history : List Event) (event : Event) : Type 0 where
  pub room : outlook config me history event ≡ outlook_with_room config.roles me history event
  pub not_full : answer_due config me history event ≢ Err fault.Full
  pub stays : IsTrue (is_recorded (answer_due config me history event)) →
      IsWithinShares config.roles me (history ++ event ∷ [])

-- A node that may record the most events, and is within its shares, has room for each event that has a share, whatever
-- liars and clients did.
abbrev pub NeverFull : Type 0
NeverFull =
    (config : ConfigValue) (me : ℕ) (history : List Event) (event : Event) → config.limit ≡ most_events →
    IsLegal config me history → AreSound (history ++ event ∷ []) → IsWithinShares config.roles me history →
    HasShare config.roles me history event → FindsRoom config me history event
