-- What is read as an event are its digits.
use Rattle.std.proofs.Common.{◌≡◌, ℕ, ◌+◌, ◌-◌, ◌<◌, ◌≤◌, ◌^◌, Bool, true, false, cond, Some, None}
use Rattle.std.proofs.Common.{List, ◌++◌, refl, ap, sym, ◌∙◌, subst, arith, append_assoc, ⊎_elim}
use Rattle.std.specs.Prelude.{IsTrue, ◌==◌, nat_lt, option_map, option_and_then}
use Rattle.std.proofs.lemmas.Bool.Decides.{nat_tests}
use Rattle.quorum_sizes.specs.Sizes.{Counts, name_due}
use Rattle.role_commands.specs.Words.{IsCommand}
use Rattle.role_commands.specs.declared.command.Command.{Command}
use Rattle.role_commands.specs.declared.command.Command.TheVariants.{Assign, Deassign, Grant, Revoke, Clear}
use Rattle.link_frames.proofs.Exported.{due_takes}
use Rattle.link_frames.specs.frames.Packets.{PacketValue, IsPacket, IsSound, packet_due, packet_of}
use Rattle.link_frames.specs.declared.frames.kind.Kind.{Kind}
use Rattle.link_frames.specs.declared.frames.kind.Kind.TheVariants.{Send, Echo, Ready}
use Rattle.batch_journal.specs.Digits.{digits_of}
use Rattle.role_sessions.specs.declared.event.ClientEvent.{ClientEvent}
use Rattle.role_sessions.specs.declared.event.ClientEvent.TheVariants.{Open, Activate, DropRole, Close}
use Rattle.role_node.specs.Answers.{is_routed}
use Rattle.role_node.specs.declared.event.Event.{Event}
use Rattle.role_node.specs.declared.event.Event.TheVariants.{Issue, Take, Client}
use Rattle.kept_node.specs.Events.{command_number, kind_number, act_number, event_number, command_digits, act_digits}
use Rattle.kept_node.specs.Events.{behind_number, event_digits, IsAct, IsEventOf}
use Rattle.kept_node.specs.inside.EventReading.{number_at, name_at, role_and_user_at, permission_at}
use Rattle.kept_node.specs.inside.EventReading.{session_and_role_at, command_at, packet_at, act_at}
use Rattle.kept_node.specs.inside.EventReading.{numbered_event, event_at}
use Rattle.kept_node.proofs.DigitLemmas.{read_found, then_by, some_is, mapped, chosen}
use Rattle.kept_node.proofs.ReadingLemmas.{routed_to}

-- so many digits of a number below a limit, and then others
abbrev Reads : ℕ → ℕ → List ℕ → ℕ × List ℕ → Type 0
Reads width most digits r = (digits ≡ digits_of width r.0 ++ r.1) × (r.0 ≤ most)

number_found : (width most : ℕ) (digits : List ℕ) (r : ℕ × List ℕ) → number_at width most digits ≡ Some r →
    Reads width most digits r
number_found width most digits r e = read_found width most r.0 digits r.1 e

name_found : (s : Counts) (digits : List ℕ) (r : ℕ × List ℕ) → name_at s digits ≡ Some r →
    (digits ≡ digits_of 2 r.0 ++ r.1) × (r.0 < s.nodes)
unfolding name_at
name_found s digits r e =
    then_by {A = ℕ × List ℕ} {B = ℕ × List ℕ} (λ i.
    option_and_then {U = ℕ × List ℕ} (λ (name : ℕ). Some (name, i.1)) (name_due s i.0)) (number_at 2 127 digits) r e
    (λ index index_is e1. then_by {A = ℕ} {B = ℕ × List ℕ} (λ name. Some (name, index.1)) (name_due s index.0) r e1
    (λ name name_is e2.
    let found = number_found 2 127 digits index index_is in
    let there = due index.0 name name_is in
    let P : ℕ × List ℕ → Type 0 = λ x. (digits ≡ digits_of 2 x.0 ++ x.1) × (x.0 < s.nodes) in
    subst P (some_is (name, index.1) r e2)
    (subst (λ (n : ℕ). digits ≡ digits_of 2 n ++ index.1) there.0 found.0, there.1)))
  where
    due : (i n : ℕ) → name_due s i ≡ Some n → (i ≡ n) × (n < s.nodes)
    due i n e = go (nat_lt i s.nodes) refl e
      where
        go : (b : Bool) → nat_lt i s.nodes ≡ b → cond b (Some i) None ≡ Some n → (i ≡ n) × (n < s.nodes)
        go true t e =
            let is : i ≡ n = cc in
            let below : i < s.nodes = grind (arith, nat_tests) in
            (is, subst (λ k. k < s.nodes) is below)
        go false t e = absurd cc

role_and_user_found : (digits : List ℕ) (r : (ℕ × ℕ) × List ℕ) → role_and_user_at digits ≡ Some r →
    (digits ≡ (digits_of 3 r.0.0 ++ digits_of 5 r.0.1) ++ r.1) × (r.0.0 < 2 ^ 16) × (r.0.1 < 2 ^ 32)
unfolding role_and_user_at
role_and_user_found digits r e =
    then_by {A = ℕ × List ℕ} {B = (ℕ × ℕ) × List ℕ} (λ role. option_and_then {U = (ℕ × ℕ) × List ℕ}
    (λ (user : ℕ × List ℕ). Some ((role.0, user.0), user.1)) (number_at 5 4294967295 role.1))
    (number_at 3 65535 digits) r e (λ role role_is e1.
    then_by {A = ℕ × List ℕ} {B = (ℕ × ℕ) × List ℕ} (λ user. Some ((role.0, user.0), user.1))
    (number_at 5 4294967295 role.1) r e1 (λ user user_is e2.
    let a = number_found 3 65535 digits role role_is in
    let b = number_found 5 4294967295 role.1 user user_is in
    let P : (ℕ × ℕ) × List ℕ → Type 0 =
    λ x. (digits ≡ (digits_of 3 x.0.0 ++ digits_of 5 x.0.1) ++ x.1) × (x.0.0 < 2 ^ 16) × (x.0.1 < 2 ^ 32) in
    subst P (some_is ((role.0, user.0), user.1) r e2) (
      a.0 ∙ ap (λ (l : List ℕ). digits_of 3 role.0 ++ l) b.0
          ∙ sym (append_assoc (digits_of 3 role.0) (digits_of 5 user.0) user.1),
      omega (arith, a.1),
      omega (arith, b.1),
    )))

-- three numbers, one behind the other
three_found : (w v u m n k : ℕ) (digits : List ℕ) (a b c : ℕ × List ℕ) → Reads w m digits a → Reads v n a.1 b →
    Reads u k b.1 c → digits ≡ ((digits_of w a.0 ++ digits_of v b.0) ++ digits_of u c.0) ++ c.1
three_found w v u m n k digits a b c fa fb fc =
    fa.0 ∙ ap (λ (l : List ℕ). digits_of w a.0 ++ l) (fb.0 ∙ ap (λ (l : List ℕ). digits_of v b.0 ++ l) fc.0)
    ∙ sym (append_assoc (digits_of w a.0) (digits_of v b.0) (digits_of u c.0 ++ c.1))
    ∙ sym (append_assoc (digits_of w a.0 ++ digits_of v b.0) (digits_of u c.0) c.1)

permission_found : (digits : List ℕ) (r : (ℕ × ℕ × ℕ) × List ℕ) → permission_at digits ≡ Some r →
    (digits ≡ ((digits_of 3 r.0.0 ++ digits_of 3 r.0.1) ++ digits_of 5 r.0.2) ++ r.1)
    × (r.0.0 < 2 ^ 16) × (r.0.1 < 2 ^ 16) × (r.0.2 < 2 ^ 32)
unfolding permission_at
permission_found digits r e =
    then_by {A = ℕ × List ℕ} {B = (ℕ × ℕ × ℕ) × List ℕ} (λ role.
    option_and_then {U = (ℕ × ℕ × ℕ) × List ℕ} (λ (operation : ℕ × List ℕ).
    option_and_then {U = (ℕ × ℕ × ℕ) × List ℕ} (λ (object : ℕ × List ℕ).
    Some ((role.0, operation.0, object.0), object.1)) (number_at 5 4294967295 operation.1))
    (number_at 3 65535 role.1)) (number_at 3 65535 digits) r e (λ role role_is e1.
    then_by {A = ℕ × List ℕ} {B = (ℕ × ℕ × ℕ) × List ℕ} (λ operation.
    option_and_then {U = (ℕ × ℕ × ℕ) × List ℕ} (λ (object : ℕ × List ℕ).
    Some ((role.0, operation.0, object.0), object.1)) (number_at 5 4294967295 operation.1))
    (number_at 3 65535 role.1) r e1 (λ operation operation_is e2.
    then_by {A = ℕ × List ℕ} {B = (ℕ × ℕ × ℕ) × List ℕ} (λ object.
    Some ((role.0, operation.0, object.0), object.1)) (number_at 5 4294967295 operation.1) r e2
    (λ object object_is e3.
    let a = number_found 3 65535 digits role role_is in
    let b = number_found 3 65535 role.1 operation operation_is in
    let c = number_found 5 4294967295 operation.1 object object_is in
    let P : (ℕ × ℕ × ℕ) × List ℕ → Type 0 =
    λ x. (digits ≡ ((digits_of 3 x.0.0 ++ digits_of 3 x.0.1) ++ digits_of 5 x.0.2) ++ x.1)
    × (x.0.0 < 2 ^ 16) × (x.0.1 < 2 ^ 16) × (x.0.2 < 2 ^ 32) in
    subst P (some_is ((role.0, operation.0, object.0), object.1) r e3) (
      three_found 3 3 5 65535 65535 4294967295 digits role operation object a b c,
      omega (arith, a.1),
      omega (arith, b.1),
      omega (arith, c.1),
    ))))

session_and_role_found : (digits : List ℕ) (r : (ℕ × ℕ × ℕ) × List ℕ) → session_and_role_at digits ≡ Some r →
    (digits ≡ ((digits_of 10 r.0.0 ++ digits_of 5 r.0.1) ++ digits_of 3 r.0.2) ++ r.1)
    × (r.0.0 < 2 ^ 64) × (r.0.1 < 2 ^ 32) × (r.0.2 < 2 ^ 16)
unfolding session_and_role_at
session_and_role_found digits r e =
    then_by {A = ℕ × List ℕ} {B = (ℕ × ℕ × ℕ) × List ℕ} (λ session.
    option_and_then {U = (ℕ × ℕ × ℕ) × List ℕ} (λ (user : ℕ × List ℕ).
    option_and_then {U = (ℕ × ℕ × ℕ) × List ℕ} (λ (role : ℕ × List ℕ).
    Some ((session.0, user.0, role.0), role.1)) (number_at 3 65535 user.1))
    (number_at 5 4294967295 session.1)) (number_at 10 18446744073709551615 digits) r e (λ session session_is e1.
    then_by {A = ℕ × List ℕ} {B = (ℕ × ℕ × ℕ) × List ℕ} (λ user.
    option_and_then {U = (ℕ × ℕ × ℕ) × List ℕ} (λ (role : ℕ × List ℕ).
    Some ((session.0, user.0, role.0), role.1)) (number_at 3 65535 user.1))
    (number_at 5 4294967295 session.1) r e1 (λ user user_is e2.
    then_by {A = ℕ × List ℕ} {B = (ℕ × ℕ × ℕ) × List ℕ} (λ role.
    Some ((session.0, user.0, role.0), role.1)) (number_at 3 65535 user.1) r e2 (λ role role_is e3.
    let a = number_found 10 18446744073709551615 digits session session_is in
    let b = number_found 5 4294967295 session.1 user user_is in
    let c = number_found 3 65535 user.1 role role_is in
    let P : (ℕ × ℕ × ℕ) × List ℕ → Type 0 =
    λ x. (digits ≡ ((digits_of 10 x.0.0 ++ digits_of 5 x.0.1) ++ digits_of 3 x.0.2) ++ x.1)
    × (x.0.0 < 2 ^ 64) × (x.0.1 < 2 ^ 32) × (x.0.2 < 2 ^ 16) in
    subst P (some_is ((session.0, user.0, role.0), role.1) r e3) (
      three_found 10 5 3 18446744073709551615 4294967295 65535 digits session user role a b c,
      omega (arith, a.1),
      omega (arith, b.1),
      omega (arith, c.1),
    ))))

-- what is read as a command is behind its number
abbrev CommandRead : ℕ → List ℕ → Command × List ℕ → Type 0
CommandRead number digits r =
    (number ≡ command_number r.0) × (digits ≡ command_digits r.0 ++ r.1) × IsCommand r.0

command_found : (number : ℕ) (digits : List ℕ) (r : Command × List ℕ) → command_at number digits ≡ Some r →
    CommandRead number digits r
unfolding command_at
command_found number digits r e =
    ⊎_elim assign (λ h. ⊎_elim deassign (λ h. ⊎_elim grant (λ h. ⊎_elim revoke (λ h. ⊎_elim clear none
    (chosen (number == 4) _ _ r h.1)) (chosen (number == 3) _ _ r h.1)) (chosen (number == 2) _ _ r h.1))
    (chosen (number == 1) _ _ r h.1)) (chosen (number == 0) _ _ r e)
  where
    P : Command × List ℕ → Type 0
    P x = CommandRead number digits x

    assign : ((number == 0) ≡ true) × (option_map {U = Command × List ℕ} (λ (x : (ℕ × ℕ) × List ℕ).
        (Assign x.0.1 x.0.0, x.1)) (role_and_user_at digits) ≡ Some r) → CommandRead number digits r
    assign h =
        let m = mapped {A = (ℕ × ℕ) × List ℕ} {B = Command × List ℕ} (λ x. (Assign x.0.1 x.0.0, x.1))
        (role_and_user_at digits) r h.1 in
        let found = role_and_user_found digits m.0 m.1 in
        let is : number ≡ 0 = grind (arith, nat_tests, h.0) in
        subst (CommandRead number digits) m.2 (is, found.0, (found.2, found.1))

    deassign : ((number == 1) ≡ true) × (option_map {U = Command × List ℕ} (λ (x : (ℕ × ℕ) × List ℕ).
        (Deassign x.0.1 x.0.0, x.1)) (role_and_user_at digits) ≡ Some r) → CommandRead number digits r
    deassign h =
        let m = mapped {A = (ℕ × ℕ) × List ℕ} {B = Command × List ℕ} (λ x. (Deassign x.0.1 x.0.0, x.1))
        (role_and_user_at digits) r h.1 in
        let found = role_and_user_found digits m.0 m.1 in
        let is : number ≡ 1 = grind (arith, nat_tests, h.0) in
        subst (CommandRead number digits) m.2 (is, found.0, (found.2, found.1))

    grant : ((number == 2) ≡ true) × (option_map {U = Command × List ℕ} (λ (x : (ℕ × ℕ × ℕ) × List ℕ).
        (Grant x.0.0 x.0.1 x.0.2, x.1)) (permission_at digits) ≡ Some r) → CommandRead number digits r
    grant h =
        let m = mapped {A = (ℕ × ℕ × ℕ) × List ℕ} {B = Command × List ℕ} (λ x. (Grant x.0.0 x.0.1 x.0.2, x.1))
        (permission_at digits) r h.1 in
        let found = permission_found digits m.0 m.1 in
        let is : number ≡ 2 = grind (arith, nat_tests, h.0) in
        subst (CommandRead number digits) m.2 (is, found.0, (found.1, found.2, found.3))

    revoke : ((number == 3) ≡ true) × (option_map {U = Command × List ℕ} (λ (x : (ℕ × ℕ × ℕ) × List ℕ).
        (Revoke x.0.0 x.0.1 x.0.2, x.1)) (permission_at digits) ≡ Some r) → CommandRead number digits r
    revoke h =
        let m = mapped {A = (ℕ × ℕ × ℕ) × List ℕ} {B = Command × List ℕ} (λ x. (Revoke x.0.0 x.0.1 x.0.2, x.1))
        (permission_at digits) r h.1 in
        let found = permission_found digits m.0 m.1 in
        let is : number ≡ 3 = grind (arith, nat_tests, h.0) in
        subst (CommandRead number digits) m.2 (is, found.0, (found.1, found.2, found.3))

    clear : ((number == 4) ≡ true) × (option_map {U = Command × List ℕ} (λ (x : ℕ × List ℕ). (Clear x.0, x.1))
        (number_at 3 65535 digits) ≡ Some r) → CommandRead number digits r
    clear h =
        let m = mapped {A = ℕ × List ℕ} {B = Command × List ℕ} (λ x. (Clear x.0, x.1)) (number_at 3 65535 digits) r
        h.1 in
        let found = number_found 3 65535 digits m.0 m.1 in
        let is : number ≡ 4 = grind (arith, nat_tests, h.0) in
        subst (CommandRead number digits) m.2 (is, found.0, omega (arith, found.1))

    none : ((number == 4) ≡ false) × (None ≡ Some r) → CommandRead number digits r
    none h = let e = h.1 in absurd cc

abbrev ActRead : ℕ → List ℕ → ClientEvent × List ℕ → Type 0
ActRead number digits r = (number ≡ act_number r.0) × (digits ≡ act_digits r.0 ++ r.1) × IsAct r.0

act_found : (number : ℕ) (digits : List ℕ) (r : ClientEvent × List ℕ) → act_at number digits ≡ Some r →
    ActRead number digits r
unfolding act_at
act_found number digits r e =
    ⊎_elim opens (λ h. ⊎_elim activates (λ h. ⊎_elim drops (λ h. ⊎_elim closes none
    (chosen (number == 23) _ _ r h.1)) (chosen (number == 22) _ _ r h.1)) (chosen (number == 21) _ _ r h.1))
    (chosen (number == 20) _ _ r e)
  where
    opens : ((number == 20) ≡ true) × (option_map {U = ClientEvent × List ℕ} (λ (x : ℕ × List ℕ). (Open x.0, x.1))
        (number_at 5 4294967295 digits) ≡ Some r) → ActRead number digits r
    opens h =
        let m = mapped {A = ℕ × List ℕ} {B = ClientEvent × List ℕ} (λ x. (Open x.0, x.1))
        (number_at 5 4294967295 digits) r h.1 in
        let found = number_found 5 4294967295 digits m.0 m.1 in
        let is : number ≡ 20 = grind (arith, nat_tests, h.0) in
        subst (ActRead number digits) m.2 (is, found.0, omega (arith, found.1))

    activates : ((number == 21) ≡ true) × (option_map {U = ClientEvent × List ℕ} (λ (x : (ℕ × ℕ × ℕ) × List ℕ).
        (Activate x.0.0 x.0.1 x.0.2, x.1)) (session_and_role_at digits) ≡ Some r) → ActRead number digits r
    activates h =
        let m = mapped {A = (ℕ × ℕ × ℕ) × List ℕ} {B = ClientEvent × List ℕ}
        (λ x. (Activate x.0.0 x.0.1 x.0.2, x.1)) (session_and_role_at digits) r h.1 in
        let found = session_and_role_found digits m.0 m.1 in
        let is : number ≡ 21 = grind (arith, nat_tests, h.0) in
        subst (ActRead number digits) m.2 (is, found.0, (found.1, found.2, found.3))

    drops : ((number == 22) ≡ true) × (option_map {U = ClientEvent × List ℕ} (λ (x : (ℕ × ℕ × ℕ) × List ℕ).
        (DropRole x.0.0 x.0.1 x.0.2, x.1)) (session_and_role_at digits) ≡ Some r) → ActRead number digits r
    drops h =
        let m = mapped {A = (ℕ × ℕ × ℕ) × List ℕ} {B = ClientEvent × List ℕ}
        (λ x. (DropRole x.0.0 x.0.1 x.0.2, x.1)) (session_and_role_at digits) r h.1 in
        let found = session_and_role_found digits m.0 m.1 in
        let is : number ≡ 22 = grind (arith, nat_tests, h.0) in
        subst (ActRead number digits) m.2 (is, found.0, (found.1, found.2, found.3))

    closes : ((number == 23) ≡ true) × (option_and_then {U = ClientEvent × List ℕ} (λ (session : ℕ × List ℕ).
        option_and_then {U = ClientEvent × List ℕ} (λ (user : ℕ × List ℕ). Some (Close session.0 user.0, user.1))
        (number_at 5 4294967295 session.1))
        (number_at 10 18446744073709551615 digits) ≡ Some r) → ActRead number digits r
    closes h =
        then_by {A = ℕ × List ℕ} {B = ClientEvent × List ℕ} (λ session.
        option_and_then {U = ClientEvent × List ℕ} (λ (user : ℕ × List ℕ). Some (Close session.0 user.0, user.1))
        (number_at 5 4294967295 session.1)) (number_at 10 18446744073709551615 digits) r h.1 (λ session session_is e1.
        then_by {A = ℕ × List ℕ} {B = ClientEvent × List ℕ} (λ user. Some (Close session.0 user.0, user.1))
        (number_at 5 4294967295 session.1) r e1 (λ user user_is e2.
        let a = number_found 10 18446744073709551615 digits session session_is in
        let b = number_found 5 4294967295 session.1 user user_is in
        let is : number ≡ 23 = grind (arith, nat_tests, h.0) in
        subst (ActRead number digits) (some_is (Close session.0 user.0, user.1) r e2) (
          is,
          a.0 ∙ ap (λ (l : List ℕ). digits_of 10 session.0 ++ l) b.0
              ∙ sym (append_assoc (digits_of 10 session.0) (digits_of 5 user.0) user.1),
          (omega (arith, a.1), omega (arith, b.1)),
        )))

    none : ((number == 23) ≡ false) × (None ≡ Some r) → ActRead number digits r
    none h = let e = h.1 in absurd cc

-- what is read as a packet of a kind
record PacketRead (s : Counts) (me : ℕ) (kind : Kind) (number : ℕ) (digits : List ℕ) (r : PacketValue × List ℕ)
    : Type 0 where
  kind_is : r.0.kind ≡ kind
  number_is : number ≡ command_number r.0.command
  digits_are : digits ≡ behind_number (Take r.0) ++ r.1
  fits : IsPacket r.0
  there : IsTrue (is_routed s me r.0)

packet_found : (s : Counts) (me : ℕ) (kind : Kind) (number : ℕ) (digits : List ℕ) (r : PacketValue × List ℕ) →
    packet_at s me kind number digits ≡ Some r → PacketRead s me kind number digits r
unfolding packet_at
packet_found s me kind number digits r e =
    then_by {A = ℕ × List ℕ} {B = PacketValue × List ℕ} (λ from.
    option_and_then {U = PacketValue × List ℕ} (λ (owner : ℕ × List ℕ).
    option_and_then {U = PacketValue × List ℕ} (λ (place : ℕ × List ℕ).
    option_and_then {U = PacketValue × List ℕ} (λ (command : Command × List ℕ).
    option_and_then {U = PacketValue × List ℕ} (λ (packet : PacketValue). Some (packet, command.1))
    (packet_due from.0 me (record { kind = kind; owner = owner.0; place = place.0; command = command.0 })))
    (command_at number place.1)) (number_at 3 1048575 owner.1)) (name_at s from.1)) (name_at s digits) r e
    (λ from from_is e1. then_by {A = ℕ × List ℕ} {B = PacketValue × List ℕ} (λ owner.
    option_and_then {U = PacketValue × List ℕ} (λ (place : ℕ × List ℕ).
    option_and_then {U = PacketValue × List ℕ} (λ (command : Command × List ℕ).
    option_and_then {U = PacketValue × List ℕ} (λ (packet : PacketValue). Some (packet, command.1))
    (packet_due from.0 me (record { kind = kind; owner = owner.0; place = place.0; command = command.0 })))
    (command_at number place.1)) (number_at 3 1048575 owner.1)) (name_at s from.1) r e1
    (λ owner owner_is e2. then_by {A = ℕ × List ℕ} {B = PacketValue × List ℕ} (λ place.
    option_and_then {U = PacketValue × List ℕ} (λ (command : Command × List ℕ).
    option_and_then {U = PacketValue × List ℕ} (λ (packet : PacketValue). Some (packet, command.1))
    (packet_due from.0 me (record { kind = kind; owner = owner.0; place = place.0; command = command.0 })))
    (command_at number place.1)) (number_at 3 1048575 owner.1) r e2
    (λ place place_is e3. then_by {A = Command × List ℕ} {B = PacketValue × List ℕ} (λ command.
    option_and_then {U = PacketValue × List ℕ} (λ (packet : PacketValue). Some (packet, command.1))
    (packet_due from.0 me (record { kind = kind; owner = owner.0; place = place.0; command = command.0 })))
    (command_at number place.1) r e3
    (λ command command_is e4. then_by {A = PacketValue} {B = PacketValue × List ℕ} (λ packet. Some (packet, command.1))
    (packet_due from.0 me (record { kind = kind; owner = owner.0; place = place.0; command = command.0 })) r e4
    (λ packet packet_is e5.
    subst (PacketRead s me kind number digits) (some_is (packet, command.1) r e5)
    (made s me kind number digits from owner place command packet (name_found s digits from from_is)
    (name_found s from.1 owner owner_is) (number_found 3 1048575 owner.1 place place_is)
    (command_found number place.1 command command_is) (due_takes from.0 me
    (record { kind = kind; owner = owner.0; place = place.0; command = command.0 }) packet packet_is)))))))
  where
    made : (s : Counts) (me : ℕ) (kind : Kind) (number : ℕ) (digits : List ℕ) (from owner place : ℕ × List ℕ)
        (command : Command × List ℕ) (packet : PacketValue) →
        (digits ≡ digits_of 2 from.0 ++ from.1) × (from.0 < s.nodes) →
        (from.1 ≡ digits_of 2 owner.0 ++ owner.1) × (owner.0 < s.nodes) → Reads 3 1048575 owner.1 place →
        CommandRead number place.1 command → (packet_of from.0 me
        (record { kind = kind; owner = owner.0; place = place.0; command = command.0 }) ≡ packet) × IsSound packet →
        PacketRead s me kind number digits (packet, command.1)
    made s me kind number digits from owner place command packet f o p c due =
        subst (λ (q : PacketValue). IsSound q → PacketRead s me kind number digits (q, command.1)) due.0 (λ sound.
        record {
          kind_is = refl;
          number_is = c.0;
          digits_are = f.0 ∙ ap (λ (l : List ℕ). digits_of 2 from.0 ++ l) (o.0 ∙ ap (λ (l : List ℕ).
              digits_of 2 owner.0 ++ l) (p.0 ∙ ap (λ (l : List ℕ). digits_of 3 place.0 ++ l) c.1))
              ∙ sym (append_assoc (digits_of 2 from.0) (digits_of 2 owner.0)
              (digits_of 3 place.0 ++ (command_digits command.0 ++ command.1)))
              ∙ sym (append_assoc (digits_of 2 from.0 ++ digits_of 2 owner.0) (digits_of 3 place.0)
              (command_digits command.0 ++ command.1))
              ∙ sym (append_assoc ((digits_of 2 from.0 ++ digits_of 2 owner.0) ++ digits_of 3 place.0)
              (command_digits command.0) command.1);
          fits = (sound.0, sound.1, c.2);
          there = routed_to s me (packet_of from.0 me
              (record { kind = kind; owner = owner.0; place = place.0; command = command.0 })) refl f.1 o.1;
        }) due.1

-- what is read as an event is behind its number
abbrev EventRead : Counts → ℕ → ℕ → List ℕ → Event × List ℕ → Type 0
EventRead s me number digits r =
    (number ≡ event_number r.0) × (digits ≡ behind_number r.0 ++ r.1) × IsEventOf s me r.0

taken : (s : Counts) (me : ℕ) (kind : Kind) (number less : ℕ) (digits : List ℕ) (r : Event × List ℕ) →
    kind_number kind ≡ less → less ≤ number →
    option_map {U = Event × List ℕ} (λ (x : PacketValue × List ℕ). (Take x.0, x.1))
    (packet_at s me kind (number - less) digits) ≡ Some r →
    EventRead s me number digits r
taken s me kind number less digits r k h e =
    let m = mapped {A = PacketValue × List ℕ} {B = Event × List ℕ} (λ x. (Take x.0, x.1))
    (packet_at s me kind (number - less) digits) r e in
    let found = packet_found s me kind (number - less) digits m.0 m.1 in
    let first : kind_number m.0.0.kind ≡ less = ap kind_number found.kind_is ∙ k in
    let is : number ≡ kind_number m.0.0.kind + command_number m.0.0.command = omega (arith, found.number_is, first) in
    subst (EventRead s me number digits) m.2 (is, found.digits_are, (found.fits, found.there))

numbered_found : (s : Counts) (me number : ℕ) (digits : List ℕ) (r : Event × List ℕ) →
    numbered_event s me number digits ≡ Some r → EventRead s me number digits r
unfolding numbered_event
numbered_found s me number digits r e =
    ⊎_elim issues (λ h. ⊎_elim (λ g. taken s me Send number 5 digits r refl (above 5 h.0) g.1)
    (λ h. ⊎_elim (λ g. taken s me Echo number 10 digits r refl (above 10 h.0) g.1)
    (λ h. ⊎_elim (λ g. taken s me Ready number 15 digits r refl (above 15 h.0) g.1) acts
    (chosen (nat_lt number 20) _ _ r h.1)) (chosen (nat_lt number 15) _ _ r h.1))
    (chosen (nat_lt number 10) _ _ r h.1)) (chosen (nat_lt number 5) _ _ r e)
  where
    above : (least : ℕ) → nat_lt number least ≡ false → least ≤ number
    above least h = grind (arith, nat_tests)

    issues : (nat_lt number 5 ≡ true) × (option_map {U = Event × List ℕ} (λ (x : Command × List ℕ). (Issue x.0, x.1))
        (command_at number digits) ≡ Some r) → EventRead s me number digits r
    issues h =
        let m = mapped {A = Command × List ℕ} {B = Event × List ℕ} (λ x. (Issue x.0, x.1)) (command_at number digits) r
        h.1 in
        subst (EventRead s me number digits) m.2 (command_found number digits m.0 m.1)

    acts : (nat_lt number 20 ≡ false) × (option_map {U = Event × List ℕ} (λ (x : ClientEvent × List ℕ).
        (Client x.0, x.1)) (act_at number digits) ≡ Some r) → EventRead s me number digits r
    acts h =
        let m = mapped {A = ClientEvent × List ℕ} {B = Event × List ℕ} (λ x. (Client x.0, x.1)) (act_at number digits) r
        h.1 in
        subst (EventRead s me number digits) m.2 (act_found number digits m.0 m.1)

pub event_found : (s : Counts) (me : ℕ) (digits : List ℕ) (r : Event × List ℕ) → event_at s me digits ≡ Some r →
    (digits ≡ event_digits r.0 ++ r.1) × IsEventOf s me r.0
unfolding event_at event_digits
event_found s me digits r e =
    then_by {A = ℕ × List ℕ} {B = Event × List ℕ} (λ number. numbered_event s me number.0 number.1)
    (number_at 1 119 digits) r e (λ number number_is e1.
    let a = number_found 1 119 digits number number_is in
    let b = numbered_found s me number.0 number.1 r e1 in (
      a.0 ∙ (λ i. digits_of 1 (b.0 i) ++ b.1 i)
          ∙ sym (append_assoc (digits_of 1 (event_number r.0)) (behind_number r.0) r.1),
      b.2,
    ))
