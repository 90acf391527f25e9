-- Entries whose replies were due make a legal history.
use Rattle.std.proofs.Common.{◌≡◌, ℕ, zero, suc, ◌<◌, ◌≤◌, ◌⊎◌, inl, inr, ⊎_elim, Bool, true, false, List, [], ◌∷◌}
use Rattle.std.proofs.Common.{◌++◌, length, take, Option, Some, None, Result, Ok, Err, refl, sym, ap, ◌∙◌, subst, arith}
use Rattle.std.specs.Prelude.{nat_le, slice_get, option_map, IsTrue}
use Rattle.std.proofs.Math.Seq.{take-append_seam}
use Rattle.std.proofs.lemmas.List.{take-append-le}
use Rattle.std.proofs.lemmas.Option.{slice_get-map}
use Rattle.role_commands.specs.Tables.{Table}
use Rattle.bracha_instance.specs.declared.instance.Effect.{Effect}
use Rattle.bracha_instance.specs.declared.instance.Effect.TheVariants as effect
use Rattle.role_sessions.specs.declared.event.ClientEvent.TheVariants.{Open}
use Rattle.role_node.specs.Configs.{ConfigValue}
use Rattle.role_node.specs.Answers.{EntryValue, event_of, outlook, outlook_with_room, unless_full, reply_to}
use Rattle.role_node.specs.Answers.{answered, answer_due, is_recorded, IsLegal, AreReplies}
use Rattle.role_node.specs.inside.Kept.{events, AreEntries}
use Rattle.role_node.specs.declared.event.Event.{Event}
use Rattle.role_node.specs.declared.event.Event.TheVariants.{Issue, Take, Client}
use Rattle.role_node.specs.declared.event.Reply.{Reply}
use Rattle.role_node.specs.declared.faults.NodeFault.{NodeFault}

-- an element of a list with one more is one of the list, or the last
pub at_push : {A : Type 0} (xs : List A) (x : A) (k : ℕ) (y : A) → slice_get (xs ++ x ∷ []) k ≡ Some y →
    ((k < length xs) × (slice_get xs k ≡ Some y)) ⊎ ((k ≡ length xs) × (x ≡ y))
at_push [] x zero y e = inr (refl, cc)
at_push [] x (suc k) y e = absurd cc
at_push (z ∷ xs) x zero y e = inl (omega arith, e)
at_push (z ∷ xs) x (suc k) y e =
    ⊎_elim
    (λ (h : (k < length xs) × (slice_get xs k ≡ Some y)). inl (omega (arith, h.0), h.1))
    (λ (h : (k ≡ length xs) × (x ≡ y)). inr (ap suc h.0, h.1))
    (at_push xs x k y e)

pub events-push : (entries : List EntryValue) (entry : EntryValue)
    → events (entries ++ entry ∷ []) ≡ events entries ++ entry.event ∷ []
events-push [] entry = refl
events-push (e ∷ entries) entry = ap (λ es. e.event ∷ es) (events-push entries entry)

pub events-length : (entries : List EntryValue) → length (events entries) ≡ length entries
events-length [] = refl
events-length (e ∷ entries) = ap suc (events-length entries)

-- one more entry whose reply was due
pub entries_push : (config : ConfigValue) (me : ℕ) (entries : List EntryValue) (entry : EntryValue)
    → AreEntries config me entries →
    answer_due config me (events entries) entry.event ≡ Ok entry.reply → IsTrue (is_recorded (Ok entry.reply)) →
    AreEntries config me (entries ++ entry ∷ [])
entries_push config me entries entry are due recorded k e at =
    let P : List Event → Type 0 = λ past. (answer_due config me past e.event ≡ Ok e.reply)
    × IsTrue (is_recorded (Ok e.reply)) in
    ⊎_elim
    (λ (h : (k < length entries) × (slice_get entries k ≡ Some e)).
    let short : k ≤ length (events entries) = omega (arith, events-length entries, h.0) in
    let past : take k (events (entries ++ entry ∷ [])) ≡ take k (events entries) =
    ap (take k) (events-push entries entry) ∙ take-append-le k (events entries) (entry.event ∷ []) short in
    subst P (sym past) (are k e h.1))
    (λ (h : (k ≡ length entries) × (entry ≡ e)).
    let end : k ≡ length (events entries) = h.0 ∙ sym (events-length entries) in
    let past : take k (events (entries ++ entry ∷ [])) ≡ events entries =
    ap (take k) (events-push entries entry) ∙ ap (λ n. take n (events entries ++ entry.event ∷ [])) end
    ∙ take-append_seam (events entries) (entry.event ∷ []) in
    let Q : EntryValue → Type 0 = λ x. (answer_due config me (events entries) x.event ≡ Ok x.reply)
    × IsTrue (is_recorded (Ok x.reply)) in
    subst P (sym past) (subst Q h.1 (due, recorded)))
    (at_push entries entry k e at)

pub no_entries : (config : ConfigValue) (me : ℕ) → AreEntries config me []
no_entries config me k e at = absurd cc

mapped : (o : Option EntryValue) (event : Event) → option_map event_of o ≡ Some event
    → (entry : EntryValue) × (o ≡ Some entry) × (entry.event ≡ event)
mapped None event e = absurd cc
mapped (Some entry) event e = (entry, refl, cc)

-- the events of such entries are a legal history
pub legal : (config : ConfigValue) (me : ℕ) (entries : List EntryValue) → AreEntries config me entries
    → IsLegal config me (events entries)
legal config me entries are k event at =
    let m = mapped (slice_get entries k) event (sym (slice_get-map event_of entries k) ∙ at) in
    let now = are k m.0 m.1 in
    let recorded : IsTrue (is_recorded (answer_due config me (take k (events entries)) m.0.event)) = rw now.0 now.1 in
    let P : Event → Type 0 = λ x. IsTrue (is_recorded (answer_due config me (take k (events entries)) x)) in
    subst P m.2 recorded

pub replies : (config : ConfigValue) (me : ℕ) (entries : List EntryValue) → AreEntries config me entries
    → AreReplies config me (events entries) entries
replies config me entries are k entry at = (are k entry at).0

-- an event that counts is recorded
reply_is_recorded : (roles : Table) (me : ℕ) (history : List Event) (event : Event)
    → is_recorded (Ok (reply_to roles me history event)) ≡ true
reply_is_recorded roles me history (Issue c) = refl
reply_is_recorded roles me history (Take p) = refl
reply_is_recorded roles me history (Client (Open user)) = refl
reply_is_recorded roles me history (Client act) = refl

pub counted_is_due : (config : ConfigValue) (me : ℕ) (history : List Event) (event : Event) (r : Reply) →
    outlook config me history event ≡ Ok effect.Counted → r ≡ reply_to config.roles me history event →
    answer_due config me history event ≡ Ok r
counted_is_due config me history event r e is =
    ap (λ o. answered o (reply_to config.roles me history event)) e ∙ ap Ok (sym is)

pub counted_is_recorded : (roles : Table) (me : ℕ) (history : List Event) (event : Event) (r : Reply) →
    r ≡ reply_to roles me history event → IsTrue (is_recorded (Ok r))
counted_is_recorded roles me history event r is = ap (λ x. is_recorded (Ok x)) is
    ∙ reply_is_recorded roles me history event

unless_full_counts : (full : Bool) (r : Result Effect NodeFault) → unless_full full r ≡ Ok effect.Counted
    → (full ≡ false) × (r ≡ Ok effect.Counted)
unless_full_counts full (Ok effect.Idle) e = absurd cc
unless_full_counts true (Ok effect.Counted) e = absurd cc
unless_full_counts false (Ok effect.Counted) e = (refl, refl)
unless_full_counts full (Err f) e = absurd cc

-- where an event counts there is room
pub counted_with_room : (config : ConfigValue) (me : ℕ) (history : List Event) (event : Event)
    → outlook config me history event ≡ Ok effect.Counted →
    (nat_le config.limit (length history) ≡ false)
    × (outlook_with_room config.roles me history event ≡ Ok effect.Counted)
counted_with_room config me history event e = unless_full_counts _ _ e

recorded_by : (o : Result Effect NodeFault) (r : Reply) (b : Bool) → is_recorded (Ok r) ≡ true → o ≡ Ok effect.Counted
    → is_recorded (answered o r) ≡ true
recorded_by o r b h e = ap (λ x. is_recorded (answered x r)) e ∙ h
