-- What correct nodes send is sound: a SEND is its owner's, and each place is one of a stream.
use Rattle.std.proofs.Common.{◌≡◌, ℕ, ◌<◌, ◌==◌, Bool, true, false, if◌then◌else◌, List, [], Option}
use Rattle.std.proofs.Common.{Some, None, refl, sym, ap, ◌∙◌, subst, arith}
use Rattle.std.specs.Prelude.{IsTrue, slice_get, Contains}
use Rattle.std.proofs.lemmas.Map.Views.{exact_unsigned_eq}
use Rattle.std.proofs.lemmas.Option.{slice_get_within}
use Rattle.quorum_sizes.specs.Sizes.{Counts}
use Rattle.quorum_sizes.specs.NodeSets.{Nodes}
use Rattle.role_commands.proofs.Exported.{if_some}
use Rattle.role_commands.specs.declared.command.Command.{Command}
use Rattle.link_frames.proofs.Exported.{due_again}
use Rattle.link_frames.specs.frames.Packets.{PacketValue, IsSound, place_count, packet_of, packet_due, message_of}
use Rattle.link_frames.specs.declared.frames.kind.Kind.{Kind}
use Rattle.link_frames.specs.declared.frames.kind.Kind.TheVariants.{Send, Echo, Ready}
use Rattle.bracha_instance.specs.Broadcast.{echoed, readied}
use Rattle.owner_streams.proofs.Exported.{echoed-none, readied-none}
use Rattle.role_node.proofs.Exported.{issued_within}
use Rattle.role_node.specs.Access.{sent_at}
use Rattle.role_node.specs.Configs.{ConfigValue}
use Rattle.role_node.specs.Histories.{issued}
use Rattle.role_node.specs.declared.event.Event.{Event}
use Rattle.byz_world.specs.Pools.{Sent, messages, pool}
use Rattle.byz_world.specs.Runs.{Run, history_of, of_kind, has_sent, IsClusterRun}
use Rattle.byz_world.proofs.Histories.{taken_by, some_taken}
use Rattle.byz_world.proofs.Pooled.{pooled_is_sent, has_sent_is, message_is_sent}
use Rattle.byz_world.proofs.Votes.{said_by}

own_send : (s : Counts) (me : ℕ) (history : List Event) (owner place : ℕ) (c : Command) (b : Bool) → (owner == me) ≡ b →
    ◌≡◌ {A = Option Command} (if b then slice_get (issued history) place else None) (Some c) → me ≡ owner
own_send s me history owner place c true own e = sym (exact_unsigned_eq owner me own)
own_send s me history owner place c false own e = absurd cc

-- a SEND was sent by its owner
pub send_is_own : (s : Counts) (me : ℕ) (history : List Event) (kind : Kind) (owner place : ℕ) (c : Command) →
    kind ≡ Send → of_kind kind (sent_at s me history owner place) ≡ Some c → me ≡ owner
send_is_own s me history Send owner place c send e = own_send s me history owner place c _ refl e
send_is_own s me history Echo owner place c send e = absurd cc
send_is_own s me history Ready owner place c send e = absurd cc

module _ (config : ConfigValue) (liars : Nodes) (run : Run) (cluster : IsClusterRun config liars run) where
  abbrev s : Counts
  s = config.roles.sizes

  -- what a node took anything about is a place of a stream
  taken_in_range : (node owner place : ℕ) → (taken_by run node owner place ≡ [] → ⊥) → place < place_count
  taken_in_range node owner place some =
      let from = (some_taken run node owner place some).1 in
      subst (λ k. k < place_count) from.place_is (cluster.sound from.at node from.packet from.in_run).1

  -- a SEND is of a command that the node issued, and an ECHO or a READY of one that it took something of
  said_in_range : (node : ℕ) (kind : Kind) (owner place : ℕ) (c : Command) →
      said_by s run node kind owner place ≡ Some c → place < place_count
  said_in_range node Send owner place c e =
      let mine = if_some (owner == node) _ c e in
      let there = slice_get_within (issued (history_of node run)) place c mine.1 in
      let few = issued_within config node (history_of node run) (cluster.legal node) in
      omega (arith, there, few)
  said_in_range node Echo owner place c e =
      taken_in_range node owner place (λ none.
      let nothing : echoed (taken_by run node owner place) ≡ None = ap echoed none ∙ echoed-none in absurd cc)
  said_in_range node Ready owner place c e =
      taken_in_range node owner place (λ none.
      let nothing : readied s (taken_by run node owner place) ≡ None = ap (readied s) none ∙ readied-none s in
      absurd cc)

  -- the packet of a message that its sender has sent
  sent_is_sound : (p : PacketValue) → IsTrue (has_sent s run p.from (message_of p)) → IsSound p
  sent_is_sound p sent =
      let said = has_sent_is s run p.from (message_of p) sent in (
        λ send. send_is_own s p.from (history_of p.from run) p.kind p.owner p.place p.command send said,
        said_in_range p.from p.kind p.owner p.place p.command said,
      )

  message_is_sound : (sent : Sent) (to : ℕ) → Contains (messages config run) sent → IsSound (packet_of sent.0 to sent.1)
  message_is_sound sent to there = sent_is_sound (packet_of sent.0 to sent.1) (message_is_sent config run sent there)

  -- each message that correct nodes send is about a place of a stream
  pub sent_in_range : (sent : Sent) → Contains (messages config run) sent → sent.1.place < place_count
  sent_in_range sent there = (message_is_sound sent 0 there).1

  -- so it has a packet to each node
  pub message_is_due : (sent : Sent) (to : ℕ) → Contains (messages config run) sent →
      packet_due sent.0 to sent.1 ≡ Some (packet_of sent.0 to sent.1)
  message_is_due sent to there = due_again (packet_of sent.0 to sent.1) (message_is_sound sent to there)

  -- a packet of the pool is sound
  pub pooled_is_sound : (p : PacketValue) → Contains (pool config run) p → IsSound p
  pooled_is_sound p there = sent_is_sound p (pooled_is_sent config liars run p cluster there).sent
