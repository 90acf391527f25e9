-- What is read as an event are its digits, and an event's digits are read as the event.
use Rattle.std.proofs.Common.{◌≡◌, ℕ, ◌+◌, ◌<◌, ◌^◌, true, Some}
use Rattle.std.proofs.Common.{List, ◌++◌, length, refl, ap, ◌∙◌, subst, arith, append_assoc}
use Rattle.std.specs.Prelude.{IsTrue, nat_lt, option_map}
use Rattle.std.proofs.lemmas.Bool.Decides.{nat_tests}
use Rattle.quorum_sizes.specs.Sizes.{Counts, AreSizes}
use Rattle.role_commands.specs.Words.{IsCommand}
use Rattle.role_commands.specs.declared.command.Command.{Command}
use Rattle.role_commands.specs.declared.command.Command.TheVariants.{Assign, Deassign, Grant, Revoke, Clear}
use Rattle.link_frames.proofs.Exported.{due_again}
use Rattle.link_frames.specs.frames.Packets.{PacketValue, IsPacket, packet_due}
use Rattle.link_frames.specs.declared.frames.kind.Kind.{Kind}
use Rattle.link_frames.specs.declared.frames.kind.Kind.TheVariants.{Send, Echo, Ready}
use Rattle.batch_journal.specs.Digits.{digits_of}
use Rattle.role_sessions.specs.declared.event.ClientEvent.{ClientEvent}
use Rattle.role_sessions.specs.declared.event.ClientEvent.TheVariants.{Open, Activate, DropRole, Close}
use Rattle.role_node.specs.Answers.{is_routed}
use Rattle.role_node.specs.declared.event.Event.{Event}
use Rattle.role_node.specs.declared.event.Event.TheVariants.{Issue, Take, Client}
use Rattle.kept_node.specs.Events.{command_number, kind_number, act_number, event_number, command_digits, act_digits}
use Rattle.kept_node.specs.Events.{behind_number, event_digits, IsAct, IsEventOf}
use Rattle.kept_node.specs.inside.EventReading.{number_at, name_at, role_and_user_at, permission_at}
use Rattle.kept_node.specs.inside.EventReading.{session_and_role_at, command_at, packet_at, act_at}
use Rattle.kept_node.specs.inside.EventReading.{numbered_event, event_at}
use Rattle.kept_node.proofs.DigitLemmas.{read_again}

-- ---- digits are read as what they are of

role_again : (role : ℕ) (rest : List ℕ) → role < 2 ^ 16 → number_at 3 65535 (digits_of 3 role ++ rest) ≡ Some (
  role,
  rest,
)
role_again role rest h = read_again 3 65535 role rest (omega arith) (omega arith) (omega arith)

user_again : (user : ℕ) (rest : List ℕ) → user < 2 ^ 32 →
    number_at 5 4294967295 (digits_of 5 user ++ rest) ≡ Some (user, rest)
user_again user rest h = read_again 5 4294967295 user rest (omega arith) (omega arith) (omega arith)

session_again : (session : ℕ) (rest : List ℕ) → session < 2 ^ 64 →
    number_at 10 18446744073709551615 (digits_of 10 session ++ rest) ≡ Some (session, rest)
session_again session rest h =
    read_again 10 18446744073709551615 session rest (omega arith) (omega arith) (omega arith)

name_again : (s : Counts) (name : ℕ) (rest : List ℕ) → AreSizes s → name < s.nodes →
    name_at s (digits_of 2 name ++ rest) ≡ Some (name, rest)
unfolding name_at
name_again s name rest sizes h =
    let there : nat_lt name s.nodes ≡ true = grind (arith, nat_tests) in
    rw (read_again 2 127 name rest (omega (arith, sizes.0)) (omega (arith, sizes.0)) (omega arith), there) refl

role_and_user_again : (role user : ℕ) (rest : List ℕ) → role < 2 ^ 16 → user < 2 ^ 32 →
    role_and_user_at ((digits_of 3 role ++ digits_of 5 user) ++ rest) ≡ Some ((role, user), rest)
unfolding role_and_user_at
role_and_user_again role user rest hr hu =
    rw (
      append_assoc (digits_of 3 role) (digits_of 5 user) rest,
      role_again role (digits_of 5 user ++ rest) hr,
      user_again user rest hu,
    ) refl

permission_again : (role operation object : ℕ) (rest : List ℕ) → role < 2 ^ 16 → operation < 2 ^ 16 → object < 2 ^ 32 →
    permission_at (((digits_of 3 role ++ digits_of 3 operation) ++ digits_of 5 object) ++ rest)
    ≡ Some ((role, operation, object), rest)
unfolding permission_at
permission_again role operation object rest hr hp ho =
    rw (
      append_assoc (digits_of 3 role ++ digits_of 3 operation) (digits_of 5 object) rest,
      append_assoc (digits_of 3 role) (digits_of 3 operation) (digits_of 5 object ++ rest),
      role_again role (digits_of 3 operation ++ (digits_of 5 object ++ rest)) hr,
      role_again operation (digits_of 5 object ++ rest) hp,
      user_again object rest ho,
    ) refl

session_and_role_again : (session user role : ℕ) (rest : List ℕ) → session < 2 ^ 64 → user < 2 ^ 32 → role < 2 ^ 16 →
    session_and_role_at (((digits_of 10 session ++ digits_of 5 user) ++ digits_of 3 role) ++ rest)
    ≡ Some ((session, user, role), rest)
unfolding session_and_role_at
session_and_role_again session user role rest hs hu hr =
    rw (
      append_assoc (digits_of 10 session ++ digits_of 5 user) (digits_of 3 role) rest,
      append_assoc (digits_of 10 session) (digits_of 5 user) (digits_of 3 role ++ rest),
      session_again session (digits_of 5 user ++ (digits_of 3 role ++ rest)) hs,
      user_again user (digits_of 3 role ++ rest) hu,
      role_again role rest hr,
    ) refl

command_again : (c : Command) (rest : List ℕ) → IsCommand c →
    command_at (command_number c) (command_digits c ++ rest) ≡ Some (c, rest)
unfolding command_at
command_again (Assign user role) rest h = rw (role_and_user_again role user rest h.1 h.0) refl
command_again (Deassign user role) rest h = rw (role_and_user_again role user rest h.1 h.0) refl
command_again (Grant role operation object) rest h = rw (permission_again role operation object rest h.0 h.1 h.2) refl
command_again (Revoke role operation object) rest h = rw (permission_again role operation object rest h.0 h.1 h.2) refl
command_again (Clear role) rest h = rw (role_again role rest h) refl

act_again : (act : ClientEvent) (rest : List ℕ) → IsAct act →
    act_at (act_number act) (act_digits act ++ rest) ≡ Some (act, rest)
unfolding act_at
act_again (Open user) rest h = rw (user_again user rest h) refl
act_again (Activate session user role) rest h = rw (session_and_role_again session user role rest h.0 h.1 h.2) refl
act_again (DropRole session user role) rest h = rw (session_and_role_again session user role rest h.0 h.1 h.2) refl
act_again (Close session user) rest h =
    rw (
      append_assoc (digits_of 10 session) (digits_of 5 user) rest,
      session_again session (digits_of 5 user ++ rest) h.0,
      user_again user rest h.1,
    ) refl

-- what a packet that is routed to a node is
record Routed (s : Counts) (me : ℕ) (p : PacketValue) : Type 0 where
  to : p.to ≡ me
  from : p.from < s.nodes
  owner : p.owner < s.nodes

routed : (s : Counts) (me : ℕ) (p : PacketValue) → IsTrue (is_routed s me p) → Routed s me p
routed s me p h = record {
  to = grind (arith, nat_tests);
  from = grind (arith, nat_tests);
  owner = grind (arith, nat_tests);
}

pub routed_to : (s : Counts) (me : ℕ) (p : PacketValue) → p.to ≡ me → p.from < s.nodes → p.owner < s.nodes →
    IsTrue (is_routed s me p)
routed_to s me p to from owner = grind (arith, nat_tests)

packet_again : (s : Counts) (me : ℕ) (p : PacketValue) (rest : List ℕ) → AreSizes s → IsPacket p →
    IsTrue (is_routed s me p) →
    packet_at s me p.kind (command_number p.command) (behind_number (Take p) ++ rest) ≡ Some (p, rest)
unfolding packet_at
packet_again s me p rest sizes h there =
    let r = routed s me p there in
    let due : packet_due p.from me
    (record { kind = p.kind; owner = p.owner; place = p.place; command = p.command }) ≡ Some p =
    subst (λ (to : ℕ). packet_due p.from to
    (record { kind = p.kind; owner = p.owner; place = p.place; command = p.command }) ≡ Some p) r.to
    (due_again p (h.0, h.1)) in
    rw (
      append_assoc ((digits_of 2 p.from ++ digits_of 2 p.owner) ++ digits_of 3 p.place) (command_digits p.command) rest,
      append_assoc (digits_of 2 p.from ++ digits_of 2 p.owner) (digits_of 3 p.place) (command_digits p.command ++ rest),
      append_assoc (digits_of 2 p.from) (digits_of 2 p.owner)
          (digits_of 3 p.place ++ (command_digits p.command ++ rest)),
      name_again s p.from (digits_of 2 p.owner ++ (digits_of 3 p.place ++ (command_digits p.command ++ rest)))
          sizes r.from,
      name_again s p.owner (digits_of 3 p.place ++ (command_digits p.command ++ rest)) sizes r.owner,
      read_again 3 1048575 p.place (command_digits p.command ++ rest) (omega (arith, h.1)) (omega (arith, h.1))
          (omega arith),
      command_again p.command rest h.2,
      due,
    ) refl

numbered_issue : (s : Counts) (me : ℕ) (c : Command) (digits : List ℕ) →
    numbered_event s me (command_number c) digits
    ≡ option_map (λ r. (Issue r.0, r.1)) (command_at (command_number c) digits)
unfolding numbered_event
numbered_issue s me (Assign user role) digits = refl
numbered_issue s me (Deassign user role) digits = refl
numbered_issue s me (Grant role operation object) digits = refl
numbered_issue s me (Revoke role operation object) digits = refl
numbered_issue s me (Clear role) digits = refl

numbered_take : (s : Counts) (me : ℕ) (k : Kind) (c : Command) (digits : List ℕ) →
    numbered_event s me (kind_number k + command_number c) digits
    ≡ option_map (λ r. (Take r.0, r.1)) (packet_at s me k (command_number c) digits)
unfolding numbered_event
numbered_take s me Send (Assign user role) digits = refl
numbered_take s me Send (Deassign user role) digits = refl
numbered_take s me Send (Grant role operation object) digits = refl
numbered_take s me Send (Revoke role operation object) digits = refl
numbered_take s me Send (Clear role) digits = refl
numbered_take s me Echo (Assign user role) digits = refl
numbered_take s me Echo (Deassign user role) digits = refl
numbered_take s me Echo (Grant role operation object) digits = refl
numbered_take s me Echo (Revoke role operation object) digits = refl
numbered_take s me Echo (Clear role) digits = refl
numbered_take s me Ready (Assign user role) digits = refl
numbered_take s me Ready (Deassign user role) digits = refl
numbered_take s me Ready (Grant role operation object) digits = refl
numbered_take s me Ready (Revoke role operation object) digits = refl
numbered_take s me Ready (Clear role) digits = refl

numbered_act : (s : Counts) (me : ℕ) (act : ClientEvent) (digits : List ℕ) →
    numbered_event s me (act_number act) digits
    ≡ option_map (λ r. (Client r.0, r.1)) (act_at (act_number act) digits)
unfolding numbered_event
numbered_act s me (Open user) digits = refl
numbered_act s me (Activate session user role) digits = refl
numbered_act s me (DropRole session user role) digits = refl
numbered_act s me (Close session user) digits = refl

numbered_again : (s : Counts) (me : ℕ) (e : Event) (rest : List ℕ) → AreSizes s → IsEventOf s me e →
    numbered_event s me (event_number e) (behind_number e ++ rest) ≡ Some (e, rest)
numbered_again s me (Issue c) rest sizes h =
    numbered_issue s me c (command_digits c ++ rest)
    ∙ ap (option_map (λ r. (Issue r.0, r.1))) (command_again c rest h)
numbered_again s me (Take p) rest sizes h =
    numbered_take s me p.kind p.command (behind_number (Take p) ++ rest)
    ∙ ap (option_map (λ r. (Take r.0, r.1))) (packet_again s me p rest sizes h.0 h.1)
numbered_again s me (Client act) rest sizes h =
    numbered_act s me act (act_digits act ++ rest)
    ∙ ap (option_map (λ r. (Client r.0, r.1))) (act_again act rest h)

command_few : (c : Command) → command_number c < 5
command_few (Assign user role) = omega arith
command_few (Deassign user role) = omega arith
command_few (Grant role operation object) = omega arith
command_few (Revoke role operation object) = omega arith
command_few (Clear role) = omega arith

kind_few : (k : Kind) → kind_number k < 16
kind_few Send = omega arith
kind_few Echo = omega arith
kind_few Ready = omega arith

act_few : (act : ClientEvent) → act_number act < 24
act_few (Open user) = omega arith
act_few (Activate session user role) = omega arith
act_few (DropRole session user role) = omega arith
act_few (Close session user) = omega arith

event_few : (e : Event) → event_number e < 24
event_few (Issue c) = omega (arith, command_few c)
event_few (Take p) = omega (arith, command_few p.command, kind_few p.kind)
event_few (Client act) = act_few act

-- an event's digits are read as the event
pub event_again : (s : Counts) (me : ℕ) (e : Event) (rest : List ℕ) → AreSizes s → IsEventOf s me e →
    event_at s me (event_digits e ++ rest) ≡ Some (e, rest)
unfolding event_at event_digits
event_again s me e rest sizes h =
    rw (
      append_assoc (digits_of 1 (event_number e)) (behind_number e) rest,
      read_again 1 119 (event_number e) (behind_number e ++ rest) (omega (arith, event_few e))
          (omega (arith, event_few e)) (omega arith),
    ) (numbered_again s me e rest sizes h)

pub event_some : (e : Event) → 0 < length (event_digits e)
unfolding event_digits digits_of
event_some e = omega arith
