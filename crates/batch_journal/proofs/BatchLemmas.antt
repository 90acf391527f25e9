-- Batches as they stand in a file.
use Rattle.std.proofs.Common.{◌≡◌, ℕ, ◌+◌, ◌-◌, ◌*◌, ◌/◌, ◌%◌, ◌<◌, true}
use Rattle.std.proofs.Common.{List, ◌∷◌, ◌++◌, length, take, drop, refl, ap, sym, ◌∙◌, subst}
use Rattle.std.proofs.Common.{arith, length-append, append_assoc}
use Rattle.std.specs.List.{list_all}
use Rattle.std.proofs.lemmas.List.{take_at, length-take}
use Rattle.link_frames.specs.frames.Hmac.{hmac}
use Rattle.link_frames.proofs.Exported.{length-hmac}
use Rattle.batch_journal.specs.Digits.{digits_of, is_digit}
use Rattle.batch_journal.specs.Batches.{seal_of, opened_batch, batch_of, count_in, digits_in}
use Rattle.batch_journal.specs.Heads.{opened_head, head_of}
use Rattle.batch_journal.specs.declared.head.Head.{Head}
use Rattle.batch_journal.proofs.Bytes.{InUse, InUse-append, InUse-digits_of, InUse-digits, InUse-flat_map}
use Rattle.batch_journal.proofs.Bytes.{length-digits_of, length-flat_map}
use Rattle.batch_journal.proofs.Bytes.{HasNoMark, no_mark_push, no_mark-append, no_mark-digits_of, no_mark-digits}
use Rattle.batch_journal.proofs.Bytes.{no_mark-flat_map}

-- ---- seals

pub length-seal_of : (key bytes : List ℕ) → length (seal_of key bytes) ≡ 32
unfolding seal_of
length-seal_of key bytes =
    length-flat_map (take 16 (hmac key bytes))
    ∙ omega (arith, length-take 16 (hmac key bytes), length-hmac key bytes)

pub InUse-seal_of : (key bytes : List ℕ) → InUse (seal_of key bytes)
unfolding seal_of
InUse-seal_of key bytes = InUse-flat_map (take 16 (hmac key bytes))

pub no_mark-seal_of : (key bytes : List ℕ) → HasNoMark (seal_of key bytes)
unfolding seal_of
no_mark-seal_of key bytes = no_mark-flat_map (take 16 (hmac key bytes))

-- ---- a batch: eight bytes, its digits, and 33 bytes

-- what stands between the first byte and the digits
abbrev pub field_bytes : ℕ → List ℕ → List ℕ
field_bytes number batch = digits_of 4 number ++ digits_of 3 (length batch)

abbrev pub tail_of : List ℕ → ℕ → List ℕ → List ℕ
tail_of key number batch = 251 ∷ seal_of key (opened_batch number batch)

pub batch_is : (key : List ℕ) (number : ℕ) (batch : List ℕ) →
    batch_of key number batch ≡ 250 ∷ (field_bytes number batch ++ (batch ++ tail_of key number batch))
unfolding batch_of opened_batch
batch_is key number batch =
    ap (λ (l : List ℕ). 250 ∷ l)
    (append_assoc (digits_of 4 number ++ digits_of 3 (length batch)) batch
    (251 ∷ seal_of key (opened_batch number batch)))

length-fields : (number : ℕ) (batch : List ℕ) → length (field_bytes number batch) ≡ 7
length-fields number batch =
    omega (
      arith,
      length-append (digits_of 4 number) (digits_of 3 (length batch)),
      length-digits_of 4 number,
      length-digits_of 3 (length batch),
    )

pub length-batch_of : (key : List ℕ) (number : ℕ) (batch : List ℕ) →
    length (batch_of key number batch) ≡ 41 + length batch
length-batch_of key number batch =
    ap length (batch_is key number batch)
    ∙ omega (
      arith,
      length-append (field_bytes number batch) (batch ++ tail_of key number batch),
      length-fields number batch,
      length-append batch (tail_of key number batch),
      length-seal_of key (opened_batch number batch),
    )

pub InUse-batch_of : (key : List ℕ) (number : ℕ) (batch : List ℕ) → list_all is_digit batch ≡ true →
    InUse (batch_of key number batch)
InUse-batch_of key number batch digits =
    subst InUse (sym (batch_is key number batch)) (
      omega arith,
      InUse-append (field_bytes number batch) _ (InUse-append (digits_of 4 number) _ (InUse-digits_of 4 number)
          (InUse-digits_of 3 (length batch)))
          (InUse-append batch _ (InUse-digits batch digits) (
            omega arith,
            InUse-seal_of key (opened_batch number batch),
          )),
    )

-- behind its first byte no batch begins
pub no_mark-batch_of : (key : List ℕ) (number : ℕ) (batch : List ℕ) → list_all is_digit batch ≡ true →
    HasNoMark (drop 1 (batch_of key number batch))
no_mark-batch_of key number batch digits =
    subst (λ (l : List ℕ). HasNoMark (drop 1 l)) (sym (batch_is key number batch))
    (no_mark-append (field_bytes number batch) _
    (no_mark-append (digits_of 4 number) _ (no_mark-digits_of 4 number) (no_mark-digits_of 3 (length batch)))
    (no_mark-append batch _ (no_mark-digits batch digits)
    (no_mark_push 251 (seal_of key (opened_batch number batch)) (λ e. absurd (omega arith))
    (no_mark-seal_of key (opened_batch number batch)))))

-- its digits, and what it says of them, with anything behind it
number_back : (n : ℕ) → n < 1728000 →
    (129 + n % 120 - 129) + 120 * ((129 + n / 120 % 120 - 129) + 120 * (129 + n / 120 / 120 % 120 - 129)) ≡ n
number_back n few = omega arith

number_most : (n : ℕ) →
    (129 + n % 120 - 129) + 120 * ((129 + n / 120 % 120 - 129) + 120 * (129 + n / 120 / 120 % 120 - 129)) < 1728000
number_most n = omega arith

pub count_is : (key : List ℕ) (number : ℕ) (batch rest : List ℕ) → length batch < 1728000 →
    count_in (batch_of key number batch ++ rest) ≡ length batch
unfolding digits_of batch_of opened_batch
count_is key number batch rest few = number_back (length batch) few

pub count_most : (key : List ℕ) (number : ℕ) (batch rest : List ℕ) →
    count_in (batch_of key number batch ++ rest) < 1728000
unfolding digits_of batch_of opened_batch
count_most key number batch rest = number_most (length batch)

pub behind_fields : (key : List ℕ) (number : ℕ) (batch rest : List ℕ) →
    drop 8 (batch_of key number batch ++ rest) ≡ batch ++ (tail_of key number batch ++ rest)
unfolding digits_of batch_of opened_batch
behind_fields key number batch rest = append_assoc batch (tail_of key number batch) rest

pub digits_are : (key : List ℕ) (number : ℕ) (batch rest : List ℕ) → length batch < 1728000 →
    digits_in (batch_of key number batch ++ rest) ≡ batch
digits_are key number batch rest few =
    ap (λ n. take n (drop 8 (batch_of key number batch ++ rest))) (count_is key number batch rest few)
    ∙ ap (λ (l : List ℕ). take (length batch) l) (behind_fields key number batch rest)
    ∙ take_at batch (tail_of key number batch ++ rest) (length batch) refl

-- ---- the head

pub length-opened_batch : (number : ℕ) (batch : List ℕ) → length (opened_batch number batch) ≡ 8 + length batch
unfolding opened_batch
length-opened_batch number batch =
    omega (arith, length-append (field_bytes number batch) batch, length-fields number batch)

pub length-opened_head : (head : Head) → length (opened_head head) ≡ 27 + length head.roles.items
unfolding opened_head
length-opened_head head = simp (length-append, length-digits_of) (omega arith)

pub length-head_of : (key : List ℕ) (head : Head) → length (head_of key head) ≡ 60 + length head.roles.items
unfolding head_of
length-head_of key head =
    omega (
      arith,
      length-append (opened_head head) (251 ∷ seal_of key (opened_head head)),
      length-opened_head head,
      length-seal_of key (opened_head head),
    )

pub InUse-head_of : (key : List ℕ) (head : Head) → list_all is_digit head.roles.items ≡ true → InUse (head_of key head)
unfolding head_of opened_head
InUse-head_of key head digits =
    InUse-append (opened_head head) _ (
      omega arith,
      (app (digits_of 1 1 ++ digits_of 1 1 ++ digits_of 2 0 ++ digits_of 5 head.cluster ++ digits_of 2
          head.node ++ digits_of 2 head.nodes ++ digits_of 2 head.liars ++ digits_of 3
          (length head.roles.items) ++ head.roles.items ++ digits_of 5 head.limit) 3
          (60 + length head.roles.items)
          (app (digits_of 1 1 ++ digits_of 1 1 ++ digits_of 2 0 ++ digits_of 5 head.cluster ++ digits_of 2
          head.node ++ digits_of 2 head.nodes ++ digits_of 2 head.liars ++ digits_of 3
          (length head.roles.items) ++ head.roles.items) 5 head.limit
          (InUse-append (digits_of 1 1 ++ digits_of 1 1 ++ digits_of 2 0 ++ digits_of 5 head.cluster ++ digits_of 2
          head.node ++ digits_of 2 head.nodes ++ digits_of 2 head.liars ++ digits_of 3 (length head.roles.items))
          head.roles.items
          (app (digits_of 1 1 ++ digits_of 1 1 ++ digits_of 2 0 ++ digits_of 5 head.cluster ++ digits_of 2
          head.node ++ digits_of 2 head.nodes ++ digits_of 2 head.liars) 3 (length head.roles.items)
          (app (digits_of 1 1 ++ digits_of 1 1 ++ digits_of 2 0 ++ digits_of 5 head.cluster ++ digits_of 2
          head.node ++ digits_of 2 head.nodes) 2 head.liars
          (app (digits_of 1 1 ++ digits_of 1 1 ++ digits_of 2 0 ++ digits_of 5 head.cluster ++ digits_of 2 head.node)
          2 head.nodes
          (app (digits_of 1 1 ++ digits_of 1 1 ++ digits_of 2 0 ++ digits_of 5 head.cluster) 2 head.node
          (app (digits_of 1 1 ++ digits_of 1 1 ++ digits_of 2 0) 5 head.cluster
          (app (digits_of 1 1 ++ digits_of 1 1) 2 0
          (app (digits_of 1 1) 1 1 (InUse-digits_of 1 1)))))))) (InUse-digits head.roles.items digits)))),
    )
    (omega arith, InUse-seal_of key (opened_head head))
  where
    app : (a : List ℕ) (count n : ℕ) → InUse a → InUse (a ++ digits_of count n)
    app a count n h = InUse-append a (digits_of count n) h (InUse-digits_of count n)
