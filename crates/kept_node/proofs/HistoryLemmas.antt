-- Histories and their digits.
use Rattle.std.proofs.Common.{◌≡◌, ℕ, zero, suc, ◌+◌, Bool, true, false, cond}
use Rattle.std.proofs.Common.{List, [], ◌∷◌, ◌++◌, length, take, drop, refl, ap, sym, ◌∙◌, arith}
use Rattle.std.proofs.Common.{append-nil, length-append, Result, Ok, Err}
use Rattle.std.specs.Prelude.{All, ◌==◌, slice_index}
use Rattle.std.specs.List.{concat}
use Rattle.std.proofs.lemmas.List.Concat.{flat_map-append}
use Rattle.std.proofs.lemmas.List.Elements.{All-nil}
use Rattle.quorum_sizes.specs.Sizes.{Counts, AreSizes}
use Rattle.link_frames.specs.frames.Hmac.{hmac}
use Rattle.batch_journal.specs.Batches.{sealed}
use Rattle.batch_journal.specs.Digits.{digits_of}
use Rattle.batch_journal.specs.Heads.{head_of, opened_head, other_head}
use Rattle.batch_journal.specs.Readings.{reading, batch_key, behind_head, agreeing}
use Rattle.batch_journal.specs.declared.fault.JournalFault.{JournalFault}
use Rattle.batch_journal.specs.declared.fault.JournalFault.TheVariants.{NotAJournal}
use Rattle.batch_journal.specs.declared.head.Head.{Head}
use Rattle.role_node.specs.Configs.{ConfigValue}
use Rattle.role_node.specs.declared.event.Event.{Event}
use Rattle.kept_node.specs.Events.{IsEventOf, event_digits, digits_of_events}
use Rattle.kept_node.specs.NodeHeads.{IsHeadOf}
use Rattle.kept_node.specs.Keeping.{StandsFor}
use Rattle.kept_node.specs.inside.EventReading.{event_at}
use Rattle.kept_node.proofs.DigitLemmas.{some_pair}
use Rattle.kept_node.proofs.ReadingLemmas.{event_again, event_some}

pub All-first : {X : Type 0} (P : X → Type 0) (x : X) (xs : List X) → All P (x ∷ xs) → P x
All-first P x xs h = h 0 x (omega arith)

pub All-rest : {X : Type 0} (P : X → Type 0) (x : X) (xs : List X) → All P (x ∷ xs) → All P xs
All-rest P x xs h k d less = h (suc k) d (omega arith)

pub All-cons : {X : Type 0} (P : X → Type 0) (x : X) (xs : List X) → P x → All P xs → All P (x ∷ xs)
All-cons P x xs p h zero d less = p
All-cons P x xs p h (suc k) d less = h k d (omega arith)

pub All-take : {X : Type 0} (P : X → Type 0) (n : ℕ) (xs : List X) → All P xs → All P (take n xs)
All-take P zero xs h = All-nil P
All-take P (suc n) [] h = All-nil P
All-take P (suc n) (x ∷ xs) h =
    All-cons P x (take n xs) (All-first P x xs h) (All-take P n xs (All-rest P x xs h))

-- no two histories of a node have the same digits
pub tell : (s : Counts) (me : ℕ) (one other : List Event) → AreSizes s → All (IsEventOf s me) one →
    All (IsEventOf s me) other → digits_of_events one ≡ digits_of_events other → one ≡ other
tell s me [] [] sizes h g e = refl
tell s me [] (y ∷ other) sizes h g e =
    absurd (omega (arith, ap length e, length-append (event_digits y) (digits_of_events other), event_some y))
tell s me (x ∷ one) [] sizes h g e =
    absurd (omega (arith, ap length e, length-append (event_digits x) (digits_of_events one), event_some x))
tell s me (x ∷ one) (y ∷ other) sizes h g e =
    let a = event_again s me x (digits_of_events one) sizes (All-first (IsEventOf s me) x one h) in
    let b = event_again s me y (digits_of_events other) sizes (All-first (IsEventOf s me) y other g) in
    let same = some_pair x y (digits_of_events one) (digits_of_events other) (sym a ∙ ap (event_at s me) e ∙ b) in
    let rest = tell s me one other sizes (All-rest (IsEventOf s me) x one h) (All-rest (IsEventOf s me) y other g)
    same.1 in
    λ i. same.0 i ∷ rest i

-- ---- heads of one node are read alike

same_opened : (config : ConfigValue) (me : ℕ) (a b : Head) → IsHeadOf config me a → IsHeadOf config me b →
    opened_head a ≡ opened_head b
unfolding opened_head
same_opened config me a b ha hb =
    let cluster = ha.cluster ∙ sym hb.cluster in
    let node = ha.node ∙ sym hb.node in
    let nodes = ha.nodes ∙ sym hb.nodes in
    let liars = ha.liars ∙ sym hb.liars in
    let roles = ha.roles ∙ sym hb.roles in
    let limit = ha.limit ∙ sym hb.limit in
    λ i. 249 ∷ digits_of 1 1 ++ digits_of 1 1 ++ digits_of 2 0 ++ digits_of 5 (cluster i) ++ digits_of 2 (node i)
    ++ digits_of 2 (nodes i) ++ digits_of 2 (liars i) ++ digits_of 3 (length (roles i)) ++ roles i
    ++ digits_of 5 (limit i) ++ digits_of 3 (60 + length (roles i))

same_head : (key : List ℕ) (config : ConfigValue) (me : ℕ) (a b : Head) → IsHeadOf config me a → IsHeadOf config me b →
    head_of key a ≡ head_of key b
unfolding head_of
same_head key config me a b ha hb = let same = same_opened config me a b ha hb in λ i. sealed key (same i)

not_ok : (b : Bool) (f g : JournalFault) (batches : List (List ℕ)) → cond b (Err f) (Err g) ≡ Ok batches → ⊥
not_ok true f g batches e = absurd cc
not_ok false f g batches e = absurd cc

read_ok : (key : List ℕ) (head : Head) (bytes : List ℕ) (batches : List (List ℕ)) →
    reading key head bytes ≡ Ok batches →
    behind_head (hmac key (head_of key head)) (drop (agreeing (head_of key head) bytes) bytes) ≡ Ok batches
unfolding reading batch_key
read_ok key head bytes batches e =
    go (agreeing (head_of key head) bytes == length (head_of key head))
    (behind_head (hmac key (head_of key head)) (drop (agreeing (head_of key head) bytes) bytes)) e
  where
    go : (b : Bool) (x : Result (List (List ℕ)) JournalFault) →
        cond b x (cond (slice_index bytes (agreeing (head_of key head) bytes) == 0) (Err NotAJournal)
        (Err (other_head head (agreeing (head_of key head) bytes)))) ≡ Ok batches → x ≡ Ok batches
    go true x e = e
    go false x e = absurd (not_ok (slice_index bytes (agreeing (head_of key head) bytes) == 0) NotAJournal
        (other_head head (agreeing (head_of key head) bytes)) batches e)

-- what a crash leaves is read in one way
pub one_reading : (key : List ℕ) (config : ConfigValue) (me : ℕ) (bytes : List ℕ) (a b : Head)
    (one other : List (List ℕ)) → IsHeadOf config me a → IsHeadOf config me b → reading key a bytes ≡ Ok one →
    reading key b bytes ≡ Ok other → one ≡ other
one_reading key config me bytes a b one other ha hb ea eb =
    let same = same_head key config me a b ha hb in
    let first = read_ok key a bytes one ea in
    let second = read_ok key b bytes other eb in
    let joined : Ok one ≡ Ok other = sym first
    ∙ ap (λ (head : List ℕ). behind_head (hmac key head) (drop (agreeing head bytes) bytes)) same ∙ second in
    cc

pub one_history : (key : List ℕ) (config : ConfigValue) (me : ℕ) (bytes : List ℕ) (one other : List Event) →
    AreSizes config.roles.sizes → StandsFor key config me bytes one → StandsFor key config me bytes other → one ≡ other
one_history key config me bytes one other sizes a b =
    let same = one_reading key config me bytes a.head b.head a.batches b.batches a.is_head b.is_head a.reads b.reads in
    tell config.roles.sizes me one other sizes a.each b.each (sym a.digits ∙ ap concat same ∙ b.digits)

pub digits_more : (history : List Event) (event : Event) →
    digits_of_events (history ++ event ∷ []) ≡ digits_of_events history ++ event_digits event
digits_more history event =
    flat_map-append event_digits history (event ∷ [])
    ∙ ap (λ (l : List ℕ). digits_of_events history ++ l) (append-nil (event_digits event))
