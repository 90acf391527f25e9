-- Votes and what was sent: a correct node's vote, wherever it was counted, is for what that node had sent.
use Rattle.std.proofs.Common.{◌≡◌, ℕ, ◌<◌, true, ◌==◌, List, length, take, find}
use Rattle.std.proofs.Common.{slice_get, option_map, Option, Some, None, refl, sym, ap, ◌∙◌, eqb-true}
use Rattle.std.specs.FinSet as sets
use Rattle.std.proofs.lemmas.Bool.{and_parts}
use Rattle.quorum_sizes.specs.Sizes.{Counts}
use Rattle.quorum_sizes.specs.NodeSets.{Nodes}
use Rattle.role_commands.proofs.Exported.{if_some}
use Rattle.role_commands.specs.declared.command.Command.{Command}
use Rattle.link_frames.specs.frames.Packets.{message_of}
use Rattle.link_frames.specs.declared.frames.packet.Message.{Message}
use Rattle.link_frames.specs.declared.frames.kind.Kind.{Kind}
use Rattle.link_frames.specs.declared.frames.kind.Kind.TheVariants.{Send}
use Rattle.bracha_instance.specs.Broadcast.{Take, command_of, is_of_kind, is_vote_of, vote, supporters, echoed}
use Rattle.bracha_instance.proofs.Exported.{same_kind-true, contains-supporters}
use Rattle.role_node.specs.Configs.{ConfigValue}
use Rattle.role_node.specs.Histories.{issued}
use Rattle.role_node.specs.Access.{sent_at}
use Rattle.byz_world.specs.Runs.{Run, history_of, is_correct, of_kind, IsClusterRun}
use Rattle.byz_world.proofs.Lists.{IsIn, IsFront, found_in, in_front}
use Rattle.byz_world.proofs.Histories.{taken_by, taken_whole, IsTakenIn, taken_in, routed, history_front}
use Rattle.byz_world.proofs.Pooled.{has_sent_is, is_for_some}
use Rattle.byz_world.proofs.Sending as sending
use Rattle.byz_world.proofs.Sending.{said}

-- the command for which a node has sent a message of this kind
abbrev pub said_by : Counts → Run → ℕ → Kind → ℕ → ℕ → Option Command
said_by s run node kind owner place = of_kind kind (sent_at s node (history_of node run) owner place)

-- what was sent stays so
pub said_stays : (s : Counts) (t : ℕ) (run : Run) (node : ℕ) (kind : Kind) (owner place : ℕ) (c : Command) →
    said_by s (take t run) node kind owner place ≡ Some c → said_by s run node kind owner place ≡ Some c
said_stays s t run node kind owner place c e =
    let m : Message = record { kind = kind; owner = owner; place = place; command = c } in
    let front = history_front t run node in
    ap (λ h. said s node h m) front.1 ∙ sending.said_stays s node (history_of node (take t run)) front.0 m c e

-- A message that was taken.

-- a correct node had sent it before
pub sent_before : (config : ConfigValue) (liars : Nodes) (run : Run) (m node owner place : ℕ) (t : Take) →
    IsClusterRun config liars run → (from : IsTakenIn run m node owner place t)
    → is_correct config.roles.sizes liars t.from ≡ true →
    said_by config.roles.sizes (take from.at run) t.from t.kind owner place ≡ Some t.command
sent_before config liars run m node owner place t cluster from correct =
    let s = config.roles.sizes in
    let p = from.packet in
    let name : p.from ≡ t.from = ap (λ x. x.from) from.message_is in
    let kind : p.kind ≡ t.kind = ap (λ x. x.kind) from.message_is in
    let command : p.command ≡ t.command = ap (λ x. x.command) from.message_is in
    let then' : said_by s (take from.at run) p.from p.kind p.owner p.place ≡ Some p.command =
    has_sent_is s (take from.at run) p.from (message_of p)
    (cluster.links from.at node p from.in_run (ap (is_correct s liars) name ∙ correct)) in
    sym (λ i. said_by s (take from.at run) (name i) (kind i) (from.owner_is i) (from.place_is i)) ∙ then'
    ∙ ap Some command

-- First votes.

abbrev pub IsFound : Kind → ℕ → List Take → Command → Type 0
IsFound kind name takes c = (t : Take) × IsIn takes t × (t.kind ≡ kind) × (t.from ≡ name) × (t.command ≡ c)

vote_by : (kind : Kind) (name : ℕ) (takes : List Take) (c : Command) (o : Option Take)
    → find (is_vote_of kind name) takes ≡ o →
    option_map command_of o ≡ Some c → IsFound kind name takes c
vote_by kind name takes c None is e = absurd cc
vote_by kind name takes c (Some t) is e =
    let found = found_in (is_vote_of kind name) takes t is in
    let parts = and_parts _ _ found.1 in
    (t, found.0, sym (same_kind-true kind t.kind parts.0), sym (eqb-true name t.from parts.1), cc)

pub vote_found : (kind : Kind) (name : ℕ) (takes : List Take) (c : Command) → vote kind name takes ≡ Some c
    → IsFound kind name takes c
unfolding vote
vote_found kind name takes c e = vote_by kind name takes c _ refl e

-- where a vote comes from: its name is a node's, and that node, if it is correct, had sent it before
pub record IsVoteBefore (config : ConfigValue) (liars : Nodes) (run : Run) (m : ℕ) (kind : Kind) (name owner place : ℕ)
    (c : Command) : Type 0 where
  pub at : ℕ
  pub before : at < m
  pub of_node : name < config.roles.sizes.nodes
  pub sent : is_correct config.roles.sizes liars name ≡ true
      → said_by config.roles.sizes (take at run) name kind owner place ≡ Some c

pub vote_before : (config : ConfigValue) (liars : Nodes) (run : Run) (m node owner place : ℕ) (takes : List Take) →
    IsClusterRun config liars run → IsFront takes (taken_by (take m run) node owner place) →
    (kind : Kind) (name : ℕ) (c : Command) → vote kind name takes ≡ Some c
    → IsVoteBefore config liars run m kind name owner place c
vote_before config liars run m node owner place takes cluster front kind name c e =
    let s = config.roles.sizes in
    let found : IsFound kind name takes c = vote_found kind name takes c e in
    let t : Take = found.0 in
    let from : IsTakenIn run m node owner place t =
    taken_in m run node owner place t (in_front takes _ t front found.1) in
    let sender : from.packet.from ≡ name = ap (λ x. x.from) from.message_is ∙ found.3 in
    let route = routed config node (history_of node run) from.number from.packet (cluster.legal node) from.in_history in
    record {
      at = from.at;
      before = from.before;
      of_node = rw sender at route.1;
      sent = λ correct.
          sym (λ i. said_by s (take from.at run) (found.3 i) (found.2 i) owner place)
          ∙ sent_before config liars run m node owner place t cluster from
          (ap (is_correct s liars) found.3 ∙ correct)
          ∙ ap Some found.4;
    }

send_by : (takes : List Take) (c : Command) (o : Option Take) → find (is_of_kind Send) takes ≡ o
    → option_map command_of o ≡ Some c →
    (t : Take) × IsIn takes t × (t.kind ≡ Send) × (t.command ≡ c)
send_by takes c None is e = absurd cc
send_by takes c (Some t) is e =
    let found = found_in (is_of_kind Send) takes t is in
    (t, found.0, sym (same_kind-true Send t.kind found.1), cc)

send_found : (takes : List Take) (c : Command) → echoed takes ≡ Some c
    → (t : Take) × IsIn takes t × (t.kind ≡ Send) × (t.command ≡ c)
unfolding echoed
send_found takes c e = send_by takes c _ refl e

-- an ECHO is for what the owner issued at that place, if it is correct
pub echo_was_issued : (config : ConfigValue) (liars : Nodes) (run : Run) (node owner place : ℕ) (c : Command) →
    IsClusterRun config liars run → is_correct config.roles.sizes liars owner ≡ true
    → echoed (taken_by run node owner place) ≡ Some c →
    slice_get (issued (history_of owner run)) place ≡ Some c
echo_was_issued config liars run node owner place c cluster correct e =
    let s = config.roles.sizes in
    let found = send_found (taken_by run node owner place) c e in
    let t : Take = found.0 in
    let from : IsTakenIn run (length run) node owner place t =
    taken_in (length run) run node owner place t (
      found.1.0,
      ap (λ x. slice_get x found.1.0) (taken_whole run node owner place) ∙ found.1.1,
    ) in
    let sender : t.from ≡ owner =
    sym (ap (λ x. x.from) from.message_is)
    ∙ (cluster.sound from.at node from.packet from.in_run).0 (ap (λ x. x.kind) from.message_is ∙ found.2)
    ∙ from.owner_is in
    let sent : said_by s (take from.at run) owner Send owner place ≡ Some c =
    sym (λ i. said_by s (take from.at run) (sender i) (found.2 i) owner place)
    ∙ sent_before config liars run (length run) node owner place t cluster from (ap (is_correct s liars) sender
    ∙ correct)
    ∙ ap Some found.3 in
    (if_some (owner == owner) _ c (said_stays s from.at run owner Send owner place c sent)).1

-- Supporters.

pub supporter_voted : (kind : Kind) (c : Command) (takes : List Take) (name : ℕ)
    → sets.contains (supporters kind c takes) name ≡ true →
    vote kind name takes ≡ Some c
supporter_voted kind c takes name is = is_for_some c _ (sym (contains-supporters kind c takes name) ∙ is)
