-- What holds of each legal history: each event of it was recorded after those before it.
use Rattle.std.proofs.Common.{◌≡◌, ℕ, ◌<◌, ◌≤◌, true, false, List, [], ◌∷◌, ◌++◌, length, Result, Ok, Err}
use Rattle.std.proofs.Common.{refl, sym, ap, ◌∙◌, subst, arith, append-nil, append_assoc, length-append}
use Rattle.std.specs.Prelude.{IsTrue, nat_le}
use Rattle.std.proofs.Math.Seq.{take-append_seam}
use Rattle.std.proofs.lemmas.Bool.Decides.{nat_tests}
use Rattle.role_commands.proofs.Exported.{slice_get-seam}
use Rattle.role_commands.specs.declared.command.Command.{Command}
use Rattle.bracha_instance.specs.declared.instance.Effect.{Effect}
use Rattle.bracha_instance.specs.declared.instance.Effect.TheVariants as effect
use Rattle.owner_streams.specs.Places.{place_count}
use Rattle.role_node.specs.Configs.{ConfigValue}
use Rattle.role_node.specs.Histories.{issued}
use Rattle.role_node.specs.Answers.{outlook, answered, answer_due, reply_to, is_recorded, IsLegal}
use Rattle.role_node.specs.declared.event.Event.{Event}
use Rattle.role_node.specs.declared.event.Event.TheVariants.{Issue, Take, Client}
use Rattle.role_node.specs.declared.event.Reply.{Reply}
use Rattle.role_node.specs.declared.faults.NodeFault.{NodeFault}
use Rattle.role_node.proofs.HistoryLemmas.{issued-Issue, issued-Take, issued-Client, issued-none}
use Rattle.role_node.proofs.EntryLemmas.{counted_with_room}
use Rattle.role_node.proofs.FieldLemmas.{second_test}

-- an event is recorded after what was before it
pub recorded_next : (config : ConfigValue) (me : ℕ) (past rest : List Event) (e : Event) →
    IsLegal config me (past ++ e ∷ rest) → is_recorded (answer_due config me past e) ≡ true
recorded_next config me past rest e legal =
    let P : List Event → Type 0 = λ es. IsTrue (is_recorded (answer_due config me es e)) in
    subst P (take-append_seam past (e ∷ rest)) (legal (length past) e (slice_get-seam past rest e))

-- what each recorded event keeps stays so along a legal history
pub along_legal : (config : ConfigValue) (me : ℕ) (P : List Event → Type 0) →
    ((past : List Event) (e : Event) → is_recorded (answer_due config me past e) ≡ true → P past
    → P (past ++ e ∷ [])) →
    (past rest : List Event) → IsLegal config me (past ++ rest) → P past → P (past ++ rest)
along_legal config me P keeps past [] legal was = subst P (sym (append-nil past)) was
along_legal config me P keeps past (e ∷ rest) legal was =
    let split : past ++ e ∷ rest ≡ (past ++ e ∷ []) ++ rest = sym (append_assoc past (e ∷ []) rest) in
    let next = keeps past e (recorded_next config me past rest e legal) was in
    subst P (sym split)
    (along_legal config me P keeps (past ++ e ∷ []) rest (subst (IsLegal config me) split legal) next)

pub recorded_counts : (o : Result Effect NodeFault) (r : Reply) → is_recorded (answered o r) ≡ true → o ≡ Ok effect.Counted
recorded_counts (Ok effect.Idle) r e = absurd cc
recorded_counts (Ok effect.Counted) r e = refl
recorded_counts (Err f) r e = absurd cc

-- an event is recorded where the history has room
pub recorded_with_room : (config : ConfigValue) (me : ℕ) (past : List Event) (e : Event) →
    is_recorded (answer_due config me past e) ≡ true → length past < config.limit
recorded_with_room config me past e recorded =
    let counts : outlook config me past e ≡ Ok effect.Counted =
    recorded_counts _ (reply_to config.roles me past e) recorded in
    let room : nat_le config.limit (length past) ≡ false = (counted_with_room config me past e counts).0 in
    grind (arith, nat_tests)

-- a legal history is no longer than its limit
pub legal_within : (config : ConfigValue) (me : ℕ) (history : List Event) → IsLegal config me history →
    length history ≤ config.limit
legal_within config me history legal =
    along_legal config me (λ past. length past ≤ config.limit)
    (λ past e recorded was. omega (arith, recorded_with_room config me past e recorded, length-append past (e ∷ [])))
    [] history legal (omega arith)

-- Places of its own stream.

-- where a command is issued, the stream has a place for it
place_is_free : (config : ConfigValue) (me : ℕ) (past : List Event) (c : Command) →
    is_recorded (answer_due config me past (Issue c)) ≡ true → length (issued past) < place_count
place_is_free config me past c recorded =
    let counts : outlook config me past (Issue c) ≡ Ok effect.Counted =
    recorded_counts _ (reply_to config.roles me past (Issue c)) recorded in
    let more : nat_le place_count (length (issued past)) ≡ false =
    second_test _ _ _ (counted_with_room config me past (Issue c) counts).1 in
    grind (arith, nat_tests)

fits_next : (config : ConfigValue) (me : ℕ) (past : List Event) (e : Event) →
    is_recorded (answer_due config me past e) ≡ true → length (issued past) ≤ place_count →
    length (issued (past ++ e ∷ [])) ≤ place_count
fits_next config me past (Issue c) recorded was =
    let more = ap length (issued-Issue past c) ∙ length-append (issued past) (c ∷ []) in
    omega (arith, place_is_free config me past c recorded, more)
fits_next config me past (Take p) recorded was = omega (arith, was, ap length (issued-Take past p))
fits_next config me past (Client act) recorded was = omega (arith, was, ap length (issued-Client past act))

-- a node has issued no more commands than a stream has places
pub issued_within : (config : ConfigValue) (me : ℕ) (history : List Event) → IsLegal config me history →
    length (issued history) ≤ place_count
issued_within config me history legal =
    along_legal config me (λ past. length (issued past) ≤ place_count) (fits_next config me) [] history legal
    (omega (arith, ap length issued-none))
