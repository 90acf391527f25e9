-- When a history shows that its node was begun twice, as one more event comes.
use Rattle.std.proofs.Common.{◌≡◌, ℕ, zero, suc, ◌+◌, ◌<◌, ◌≤◌, ⊎_elim, Bool, true, false, ◌||◌, not, ◌==◌, List, []}
use Rattle.std.proofs.Common.{◌∷◌, ◌++◌, length, take, get_or, Some, refl, sym, ap, ◌∙◌, subst, arith}
use Rattle.std.proofs.Common.{append_assoc, length-append, take_all, le_refl}
use Rattle.std.specs.Prelude.{slice_get}
use Rattle.std.specs.Bool.{Decides}
use Rattle.std.specs.List.{range_with_len}
use Rattle.std.proofs.lemmas.Bool.{cases_lt}
use Rattle.std.proofs.lemmas.List.{take-append-le}
use Rattle.std.proofs.lemmas.List.Folds.{list_any_none, list_any_at, Any-from_list_any}
use Rattle.std.proofs.lemmas.List.FromFn.{length-range_with_len, get_or-range_with_len}
use Rattle.std.proofs.lemmas.Slice.Eq.{starts_is}
use Rattle.quorum_sizes.specs.Sizes.{Counts}
use Rattle.role_commands.specs.Same.{same_command}
use Rattle.role_commands.specs.declared.command.Command.{Command}
use Rattle.role_commands.proofs.Exported.{same_command-self, same_command_is, slice_get-front}
use Rattle.link_frames.specs.frames.Packets.{PacketValue}
use Rattle.role_sessions.specs.declared.event.ClientEvent.{ClientEvent}
use Rattle.owner_streams.specs.Laws.{IsPrefixOf}
use Rattle.owner_streams.specs.Places.{stream}
use Rattle.owner_streams.proofs.Exported.{stream_grows_lem}
use Rattle.role_node.specs.declared.event.Event.{Event}
use Rattle.role_node.specs.declared.event.Event.TheVariants.{Issue, Take, Client}
use Rattle.role_node.specs.Histories.{issued, packets}
use Rattle.role_node.specs.Access.{stream_at, reach_at}
use Rattle.role_node.specs.Begun.{is_as_issued, is_begun_twice, BegunTwiceIsSeen}
use Rattle.role_node.specs.inside.Noting.{AreIssued}
use Rattle.role_node.proofs.HistoryLemmas.{issued-Issue, issued-Take, issued-Client, packets-Issue, packets-Take}
use Rattle.role_node.proofs.HistoryLemmas.{packets-Client, issued-none, packets-none}
use Rattle.role_node.proofs.StreamLemmas.{stream_other, stream_of_nothing}

-- As issued: a prefix.

same_decides : (c d : Command) → Decides (same_command c d) (c ≡ d)
same_decides c d = (same_command_is c d, λ e. subst (λ x. same_command c x ≡ true) e (same_command-self c))

abbrev IsOwnPrefix : Counts → ℕ → List Event → Type 0
IsOwnPrefix s me history = IsPrefixOf (stream_at s history me) (issued history)

pub as_issued_is : (s : Counts) (me : ℕ) (history : List Event) → is_as_issued s me history ≡ true →
    IsOwnPrefix s me history
unfolding is_as_issued
as_issued_is s me history e =
    let is = starts_is same_decides (issued history) (stream_at s history me) (is_as_issued s me history) refl in
    (_, sym (is.0 e))

pub is_as_issued-from : (s : Counts) (me : ℕ) (history : List Event) → IsOwnPrefix s me history →
    is_as_issued s me history ≡ true
unfolding is_as_issued
is_as_issued-from s me history front =
    let is = starts_is same_decides (issued history) (stream_at s history me) (is_as_issued s me history) refl in
    is.1 front.0 (sym front.1)

-- At some front, or at none.

clash : {A : Type 0} (b : Bool) → b ≡ true → b ≡ false → A
clash true e f = absurd cc
clash false e f = absurd cc

not_true : (b : Bool) → not b ≡ true → b ≡ false
not_true true e = absurd cc
not_true false e = refl

abbrev differs : Counts → ℕ → List Event → ℕ → Bool
differs s me history k = not (is_as_issued s me (take k history))

numbered : (n k d : ℕ) → k < n → get_or (range_with_len 0 n) k d ≡ k
numbered n k d h = let e : 0 + k ≡ k = omega arith in get_or-range_with_len 0 n k d h ∙ e

pub begun_at : (s : Counts) (me : ℕ) (history : List Event) (k : ℕ) → k ≤ length history →
    is_as_issued s me (take k history) ≡ false → is_begun_twice s me history ≡ true
unfolding is_begun_twice
begun_at s me history k h e =
    let n : ℕ = length history + 1 in
    let there : get_or (range_with_len 0 n) k 0 ≡ k = numbered n k 0 (omega (arith, h)) in
    list_any_at (differs s me history) (range_with_len 0 n) k 0 (omega (arith, h, length-range_with_len 0 n))
    (ap (differs s me history) there ∙ ap not e)

pub begun_never : (s : Counts) (me : ℕ) (history : List Event) →
    ((k : ℕ) → k ≤ length history → is_as_issued s me (take k history) ≡ true) →
    is_begun_twice s me history ≡ false
unfolding is_begun_twice
begun_never s me history h =
    let n : ℕ = length history + 1 in
    list_any_none (differs s me history) (range_with_len 0 n)
    (λ k d short.
    let within : k < n = omega (arith, short, length-range_with_len 0 n) in
    ap (differs s me history) (numbered n k d within) ∙ ap not (h k (omega (arith, within))))

pub begun_found : (s : Counts) (me : ℕ) (history : List Event) → is_begun_twice s me history ≡ true →
    (k : ℕ) × (k ≤ length history) × (is_as_issued s me (take k history) ≡ false)
unfolding is_begun_twice
begun_found s me history e =
    let n : ℕ = length history + 1 in
    let any = Any-from_list_any (differs s me history) (range_with_len 0 n) e in
    let within : any.0 < n = omega (arith, any.2, length-range_with_len 0 n) in
    let is : any.0 ≡ any.1 = sym (numbered n any.0 any.1 within) ∙ any.3 in
    (any.1, omega (arith, within, is), not_true _ any.4)

pub begun_once : (s : Counts) (me : ℕ) (history : List Event) (k : ℕ) → is_begun_twice s me history ≡ false →
    k ≤ length history → is_as_issued s me (take k history) ≡ true
begun_once s me history k e h = by (is_as_issued s me (take k history)) refl
  where
    by : (b : Bool) → is_as_issued s me (take k history) ≡ b → is_as_issued s me (take k history) ≡ true
    by true is = is
    by false is = clash _ (begun_at s me history k h is) e

-- One more event.

-- after the first events of a longer history
front_of : (history more : List Event) (k : ℕ) → k ≤ length history → take k (history ++ more) ≡ take k history
front_of history more k h = take-append-le k history more h

pub begun_stays : (s : Counts) (me : ℕ) (history more : List Event) → is_begun_twice s me history ≡ true →
    is_begun_twice s me (history ++ more) ≡ true
begun_stays s me history more e =
    let found = begun_found s me history e in
    let long = length-append history more in
    begun_at s me (history ++ more) found.0 (omega (arith, found.1, long))
    (ap (is_as_issued s me) (front_of history more found.0 found.1) ∙ found.2)

whole : (history : List Event) → take (length history) history ≡ history
whole history = take_all (length history) history (le_refl _)

-- begun once so far: what is delivered is as issued
pub once_is : (s : Counts) (me : ℕ) (history : List Event) → is_begun_twice s me history ≡ false →
    is_as_issued s me history ≡ true
once_is s me history e =
    ap (is_as_issued s me) (sym (whole history)) ∙ begun_once s me history (length history) e (le_refl _)

-- .. and then the next event alone tells
pub begun_next : (s : Counts) (me : ℕ) (history : List Event) (e : Event) → is_begun_twice s me history ≡ false →
    is_begun_twice s me (history ++ e ∷ []) ≡ not (is_as_issued s me (history ++ e ∷ []))
begun_next s me history e once = by (is_as_issued s me next) refl
  where
    next : List Event
    next = history ++ e ∷ []

    long : length next ≡ length history + 1
    long = length-append history (e ∷ [])

    before : is_as_issued s me next ≡ true → (k : ℕ) → k ≤ length next → is_as_issued s me (take k next) ≡ true
    before now k h =
        ⊎_elim
        (λ (early : k < length next).
        let short : k ≤ length history = omega (arith, early, long) in
        ap (is_as_issued s me) (front_of history (e ∷ []) k short) ∙ begun_once s me history k once short)
        (λ (late : length next ≤ k). ap (is_as_issued s me) (take_all k next late) ∙ now)
        (cases_lt k (length next))

    by : (b : Bool) → is_as_issued s me next ≡ b → is_begun_twice s me next ≡ not (is_as_issued s me next)
    by true now = begun_never s me next (before now) ∙ ap not (sym now)
    by false now =
        begun_at s me next (length next) (le_refl _) (ap (is_as_issued s me) (whole next) ∙ now) ∙ ap not (sym now)

-- an event after which the own stream is as issued where it was changes nothing
same_after : (s : Counts) (me : ℕ) (history : List Event) (e : Event) →
    (IsOwnPrefix s me history → IsOwnPrefix s me (history ++ e ∷ [])) →
    is_begun_twice s me (history ++ e ∷ []) ≡ is_begun_twice s me history
same_after s me history e keeps = by (is_begun_twice s me history) refl
  where
    by : (b : Bool) → is_begun_twice s me history ≡ b →
        is_begun_twice s me (history ++ e ∷ []) ≡ is_begun_twice s me history
    by true was = begun_stays s me history (e ∷ []) was ∙ sym was
    by false was =
        let now = is_as_issued-from s me (history ++ e ∷ [])
        (keeps (as_issued_is s me history (once_is s me history was))) in
        begun_next s me history e was ∙ ap not now ∙ sym was

prefix_same : {xs xs' ys ys' : List Command} → xs ≡ xs' → ys ≡ ys' → IsPrefixOf xs' ys' → IsPrefixOf xs ys
prefix_same {xs' = xs'} {ys = ys} e f h = subst (λ x. IsPrefixOf x ys) (sym e) (subst (IsPrefixOf xs') (sym f) h)

pub begun-Issue : (s : Counts) (me : ℕ) (history : List Event) (c : Command) →
    is_begun_twice s me (history ++ Issue c ∷ []) ≡ is_begun_twice s me history
begun-Issue s me history c =
    same_after s me history (Issue c)
    (λ front.
    let more : stream_at s history me ++ (front.0 ++ c ∷ []) ≡ issued history ++ c ∷ [] =
    sym (append_assoc (stream_at s history me) front.0 (c ∷ [])) ∙ ap (λ cs. cs ++ c ∷ []) front.1 in
    prefix_same (ap (stream s me) (packets-Issue history c)) (issued-Issue history c) (front.0 ++ c ∷ [], more))

pub begun-Client : (s : Counts) (me : ℕ) (history : List Event) (a : ClientEvent) →
    is_begun_twice s me (history ++ Client a ∷ []) ≡ is_begun_twice s me history
begun-Client s me history a =
    same_after s me history (Client a)
    (prefix_same (ap (stream s me) (packets-Client history a)) (issued-Client history a))

-- a packet of another's stream
pub begun-other : (s : Counts) (me : ℕ) (history : List Event) (p : PacketValue) → (p.owner == me) ≡ false →
    is_begun_twice s me (history ++ Take p ∷ []) ≡ is_begun_twice s me history
begun-other s me history p other =
    same_after s me history (Take p)
    (prefix_same (ap (stream s me) (packets-Take history p) ∙ stream_other s me (packets history) p other)
    (issued-Take history p))

-- A packet of its own.

-- a list of which each element stands at its place in another is a prefix of it
prefix_by : (xs ys : List Command) → ((k : ℕ) (c : Command) → slice_get xs k ≡ Some c → slice_get ys k ≡ Some c) →
    IsPrefixOf xs ys
prefix_by [] ys h = (ys, refl)
prefix_by (x ∷ xs) [] h = absurd (let none = h 0 x refl in cc)
prefix_by (x ∷ xs) (y ∷ ys) h =
    let first : Some y ≡ Some x = h 0 x refl in
    let same : y ≡ x = cc in
    let rest = prefix_by xs ys (λ k c e. h (suc k) c e) in
    (rest.0, λ i. (sym same) i ∷ rest.1 i)

within : (xs : List Command) (k : ℕ) (c : Command) → slice_get xs k ≡ Some c → k < length xs
within [] k c e = absurd cc
within (x ∷ xs) zero c e = omega arith
within (x ∷ xs) (suc k) c e = omega (arith, within xs k c e)

-- .. and each element of a prefix stands there
at_prefix : (xs ys : List Command) → IsPrefixOf xs ys → (k : ℕ) (c : Command) → slice_get xs k ≡ Some c →
    slice_get ys k ≡ Some c
at_prefix xs ys front k c e =
    ap (λ l. slice_get l k) (sym front.1) ∙ slice_get-front xs front.0 k (within xs k c e) ∙ e

-- where it was as issued, it is so still exactly where its new places are
own_prefix : (s : Counts) (me : ℕ) (history : List Event) (p : PacketValue) → IsOwnPrefix s me history →
    AreIssued s me (history ++ Take p ∷ []) (reach_at s history me) (reach_at s (history ++ Take p ∷ []) me) →
    IsOwnPrefix s me (history ++ Take p ∷ [])
own_prefix s me history p front new = prefix_by (stream_at s next me) (issued next) each
  where
    next : List Event
    next = history ++ Take p ∷ []

    grows : IsPrefixOf (stream_at s history me) (stream_at s next me)
    grows =
        prefix_same refl (ap (stream s me) (packets-Take history p))
        (stream_grows_lem s me (packets history) (p ∷ []))

    early : (k : ℕ) (c : Command) → k < reach_at s history me → slice_get (stream_at s next me) k ≡ Some c →
        slice_get (issued next) k ≡ Some c
    early k c h e =
        let was : slice_get (stream_at s history me) k ≡ Some c =
        sym (slice_get-front (stream_at s history me) grows.0 k h) ∙ ap (λ l. slice_get l k) grows.1 ∙ e in
        ap (λ l. slice_get l k) (issued-Take history p)
        ∙ at_prefix (stream_at s history me) (issued history) front k c was

    each : (k : ℕ) (c : Command) → slice_get (stream_at s next me) k ≡ Some c → slice_get (issued next) k ≡ Some c
    each k c e =
        ⊎_elim
        (λ (h : k < reach_at s history me). early k c h e)
        (λ (h : reach_at s history me ≤ k). new k h (within (stream_at s next me) k c e) c e)
        (cases_lt k (reach_at s history me))

-- the answer of a comparison of the new places tells whether the node was begun twice, if that wasn't seen before
pub begun-own : (s : Counts) (me : ℕ) (history : List Event) (p : PacketValue) (same : Bool) →
    Decides same
    (AreIssued s me (history ++ Take p ∷ []) (reach_at s history me) (reach_at s (history ++ Take p ∷ []) me)) →
    is_begun_twice s me (history ++ Take p ∷ []) ≡ (is_begun_twice s me history || not same)
begun-own s me history p same decides = by (is_begun_twice s me history) same refl refl
  where
    next : List Event
    next = history ++ Take p ∷ []

    by : (was same' : Bool) → is_begun_twice s me history ≡ was → same ≡ same' →
        is_begun_twice s me next ≡ (is_begun_twice s me history || not same)
    by true same' was is =
        begun_stays s me history (Take p ∷ []) was ∙ sym (ap (λ b. b || not same) was)
    by false true was is =
        let now = is_as_issued-from s me next
        (own_prefix s me history p (as_issued_is s me history (once_is s me history was)) (decides.0 is)) in
        begun_next s me history (Take p) was ∙ ap not now ∙ sym (ap (λ b. b || not same) was ∙ ap not is)
    by false false was is =
        begun_next s me history (Take p) was ∙ ap not (other (is_as_issued s me next) refl)
        ∙ sym (ap (λ b. b || not same) was ∙ ap not is)
      where
        other : (b : Bool) → is_as_issued s me next ≡ b → is_as_issued s me next ≡ false
        other true now =
            clash _
            (decides.1
            (λ k from to. at_prefix (stream_at s next me) (issued next) (as_issued_is s me next now) k)) is
        other false now = now

pub begun-none : (s : Counts) (me : ℕ) → is_begun_twice s me [] ≡ false
begun-none s me = begun_never s me []
    (λ k h. is_as_issued-from s me (take k []) (subst (IsOwnPrefix s me) (sym (take_all k [] (omega arith))) nothing))
  where
    nothing : IsOwnPrefix s me []
    nothing = prefix_same (ap (stream s me) packets-none ∙ stream_of_nothing s me) issued-none ([], refl)

-- The law.

pub begun_twice_is_seen : BegunTwiceIsSeen
begun_twice_is_seen s me history = record {
  seen = (
    (λ e.
        let found = begun_found s me history e in
        (found.0, (found.1, λ front. clash _ (is_as_issued-from s me (take found.0 history) front) found.2))),
    (λ at. by at.0 at.1.0 at.1.1 (is_as_issued s me (take at.0 history)) refl),
  );
  stays = λ more e. begun_stays s me history more e;
}
  where
    by : (k : ℕ) → k ≤ length history → (IsOwnPrefix s me (take k history) → ⊥) → (b : Bool) →
        is_as_issued s me (take k history) ≡ b → is_begun_twice s me history ≡ true
    by k h none true e = absurd (none (as_issued_is s me (take k history) e))
    by k h none false e = begun_at s me history k h e
