-- A history stays within its shares: what the shares leave to the node, and it records, spends no more than there is.
use Rattle.std.proofs.Common.{◌≡◌, ℕ, ◌+◌, ◌<◌, ◌≤◌, Bool, true, false, List, [], ◌∷◌, ◌++◌, length}
use Rattle.std.proofs.Common.{Option, Some, None, Ok, refl, ap, arith, ltb-true, not, ◌&&◌}
use Rattle.std.specs.Prelude.{if◌then◌else◌, nat_le, nat_lt}
use Rattle.std.proofs.lemmas.Bool.Decides.{nat_tests}
use Rattle.std.proofs.lemmas.List.Elements.{All-push, All-same, All-nil}
use Rattle.link_frames.specs.frames.Packets.{PacketValue}
use Rattle.role_commands.specs.Rules.{role_of}
use Rattle.role_commands.specs.Tables.{Table, owns}
use Rattle.bracha_instance.specs.declared.instance.Effect.TheVariants as effect
use Rattle.role_commands.specs.declared.command.Command.{Command}
use Rattle.role_sessions.specs.declared.event.ClientEvent.{ClientEvent}
use Rattle.role_sessions.specs.declared.event.ClientEvent.TheVariants.{Open, Activate, DropRole, Close}
use Rattle.role_node.specs.Answers.{or_counted, answer_due, is_recorded, IsLegal}
use Rattle.role_node.specs.Configs.{ConfigValue}
use Rattle.role_node.specs.Histories.{issued, packets, client_events}
use Rattle.role_node.specs.Nodes.{NodeValue}
use Rattle.role_node.specs.declared.event.Event.{Event}
use Rattle.role_node.specs.declared.event.Event.TheVariants as event
use Rattle.role_node.specs.declared.faults.NodeFault.{NodeFault}
use Rattle.role_node.specs.declared.faults.NodeFault.TheVariants as fault
use Rattle.role_node.proofs.Exported.{issued-Take, issued-Client, packets-Issue, packets-Take, packets-Client}
use Rattle.role_node.proofs.Exported.{client_events-Issue, client_events-Take, issued-none, packets-none}
use Rattle.role_node.proofs.Exported.{client_events-none}
use Rattle.owner_shares.specs.Answers.{answer_of_shares}
use Rattle.owner_shares.specs.Laws.{IsWithinShares, HasShare, open_count, SharesAreKept}
use Rattle.owner_shares.specs.Shares.{share, shares_of, acts_share, clients_events}
use Rattle.owner_shares.specs.declared.answer.ShareAnswer.{ShareAnswer}
use Rattle.owner_shares.specs.declared.answer.ShareAnswer.TheVariants.{Lost, Refused}
use Rattle.owner_shares.proofs.Opened.{few_next, few_open, none_open, one_fewer_open}
use Rattle.owner_shares.proofs.Parts.{one_more_issued, one_more_act, open_count-Issue, open_count-Take}
use Rattle.owner_shares.proofs.Parts.{counts_with_room}

-- Where an event has a share.

spends_place : (roles : Table) (me : ℕ) (history : List Event) (p : PacketValue) → p.place < share roles p.owner →
    IsWithinShares roles me history → IsWithinShares roles me (history ++ event.Take p ∷ [])
spends_place roles me history p below within =
    let P : PacketValue → Type 0 = λ q. q.place < share roles q.owner in
    record {
      taken = All-same P _ _ (packets-Take history p) (All-push P (packets history) p within.taken below);
      issued = omega (arith, within.issued, ap length (issued-Take history p));
      acts = omega (arith, within.acts, ap length (client_events-Take history p), open_count-Take history p);
    }

spends_issue : (roles : Table) (me : ℕ) (history : List Event) (c : Command) →
    length (issued history) < share roles me → IsWithinShares roles me history →
    IsWithinShares roles me (history ++ event.Issue c ∷ [])
spends_issue roles me history c below within =
    let P : PacketValue → Type 0 = λ q. q.place < share roles q.owner in
    record {
      taken = All-same P _ _ (packets-Issue history c) within.taken;
      issued = omega (arith, below, one_more_issued history c);
      acts = omega (arith, within.acts, ap length (client_events-Issue history c), open_count-Issue history c);
    }

spends_act : (roles : Table) (me : ℕ) (history : List Event) (act : ClientEvent) →
    length (client_events history) + 1 + open_count (history ++ event.Client act ∷ []) ≤ clients_events →
    IsWithinShares roles me history → IsWithinShares roles me (history ++ event.Client act ∷ [])
spends_act roles me history act room within =
    let P : PacketValue → Type 0 = λ q. q.place < share roles q.owner in
    record {
      taken = All-same P _ _ (packets-Client history act) within.taken;
      issued = omega (arith, within.issued, ap length (issued-Client history act));
      acts = omega (arith, room, one_more_act history act);
    }

act_room : (config : ConfigValue) (me : ℕ) (history : List Event) (act : ClientEvent) → IsLegal config me history →
    is_recorded (answer_due config me history (event.Client act)) ≡ true →
    length (client_events history) < acts_share →
    length (client_events history) + 1 + open_count (history ++ event.Client act ∷ []) ≤ clients_events
act_room config me history act legal recorded left =
    let few = few_next config me history (event.Client act) recorded (few_open config me history legal) in
    omega (arith, few, left)

-- an event that has a share, and is recorded, leaves the history within its shares
pub spends : (config : ConfigValue) (me : ℕ) (history : List Event) (e : Event) → IsLegal config me history →
    HasShare config.roles me history e → is_recorded (answer_due config me history e) ≡ true →
    IsWithinShares config.roles me history → IsWithinShares config.roles me (history ++ e ∷ [])
spends config me history (event.Take p) legal has recorded within =
    spends_place config.roles me history p has within
spends config me history (event.Issue c) legal has recorded within =
    spends_issue config.roles me history c has within
spends config me history (event.Client (Close id user)) legal has recorded within =
    let fewer = one_fewer_open config me history id user recorded in
    spends_act config.roles me history (Close id user) (omega (arith, fewer, within.acts)) within
spends config me history (event.Client (Open user)) legal has recorded within =
    spends_act config.roles me history (Open user) (act_room config me history _ legal recorded has) within
spends config me history (event.Client (Activate id user role)) legal has recorded within =
    spends_act config.roles me history (Activate id user role) (act_room config me history _ legal recorded has) within
spends config me history (event.Client (DropRole id user role)) legal has recorded within =
    spends_act config.roles me history (DropRole id user role) (act_room config me history _ legal recorded has) within

-- What the shares leave to the node has a share, where it is recorded.

not_lost : (place places : ℕ) →
    ◌≡◌ {A = Option ShareAnswer} (if nat_lt place places then None else Some Lost) None → place < places
not_lost place places e = ltb-true place places (by (nat_lt place places) e)
  where
    by : (b : Bool) → ◌≡◌ {A = Option ShareAnswer} (if b then None else Some Lost) None → b ≡ true
    by true e = refl
    by false e = absurd cc

not_spent : (owned : Bool) (places n : ℕ) → owned ≡ true →
    ◌≡◌ {A = Option ShareAnswer} (if owned && nat_le places n then Some (Refused fault.StreamFull) else None) None →
    n < places
not_spent false places n own e = absurd cc
not_spent true places n own e = by (nat_le places n) refl e
  where
    by : (b : Bool) → nat_le places n ≡ b →
        ◌≡◌ {A = Option ShareAnswer} (if b then Some (Refused fault.StreamFull) else None) None → n < places
    by true is e = absurd cc
    by false is e = grind (arith, nat_tests)

not_done : (recorded : Bool) (n : ℕ) → recorded ≡ true →
    ◌≡◌ {A = Option ShareAnswer} (if nat_le acts_share n && recorded then Some (Refused fault.Full) else None) None →
    n < acts_share
not_done false n is e = absurd cc
not_done true n is e = by (nat_le acts_share n) refl e
  where
    by : (b : Bool) → nat_le acts_share n ≡ b →
        ◌≡◌ {A = Option ShareAnswer} (if b && true then Some (Refused fault.Full) else None) None → n < acts_share
    by true is e = absurd cc
    by false is e = grind (arith, nat_tests)

owned_by : (owned : Bool) (o : Option NodeFault) →
    or_counted (if not owned then Some fault.NotMine else o) ≡ Ok effect.Counted → owned ≡ true
owned_by true o e = refl
owned_by false o e = absurd cc

abbrev node_of : ConfigValue → ℕ → List Event → NodeValue
node_of config me history = record { config = config; me = me; history = history }

has_share : (config : ConfigValue) (me : ℕ) (history : List Event) (e : Event) →
    answer_of_shares (shares_of config.roles) (node_of config me history) e ≡ None →
    is_recorded (answer_due config me history e) ≡ true → HasShare config.roles me history e
has_share config me history (event.Take p) none recorded = not_lost p.place (share config.roles p.owner) none
has_share config me history (event.Issue c) none recorded =
    let own : owns config.roles me (role_of c) ≡ true =
    owned_by _ _ (counts_with_room config me history (event.Issue c) recorded) in
    not_spent (owns config.roles me (role_of c)) (share config.roles me) (length (issued history)) own none
has_share config me history (event.Client (Close id user)) none recorded = tt
has_share config me history (event.Client (Open user)) none recorded =
    not_done (is_recorded (answer_due config me history (event.Client (Open user)))) (length (client_events history))
    recorded none
has_share config me history (event.Client (Activate id user role)) none recorded =
    not_done (is_recorded (answer_due config me history (event.Client (Activate id user role))))
    (length (client_events history)) recorded none
has_share config me history (event.Client (DropRole id user role)) none recorded =
    not_done (is_recorded (answer_due config me history (event.Client (DropRole id user role))))
    (length (client_events history)) recorded none

begins : (roles : Table) (me : ℕ) → IsWithinShares roles me []
begins roles me =
    let P : PacketValue → Type 0 = λ q. q.place < share roles q.owner in
    record {
      taken = All-same P _ _ packets-none (All-nil P);
      issued = omega (arith, ap length issued-none);
      acts = omega (arith, ap length client_events-none, none_open);
    }

pub shares_are_kept : SharesAreKept
shares_are_kept config me =
    record {
      begins = begins config.roles me;
      goes_on = λ history event legal within none recorded.
          spends config me history event legal (has_share config me history event none recorded) recorded within;
    }
