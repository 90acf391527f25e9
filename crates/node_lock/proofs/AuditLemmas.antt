-- What an audit of one place tells of the receipts and the history.
use Rattle.std.proofs.Common.{◌≡◌, ℕ, zero, suc, ◌+◌, ◌<◌, ◌≤◌, ⊎_elim}
use Rattle.std.proofs.Common.{List, [], ◌∷◌, ◌++◌, length, get_or}
use Rattle.std.proofs.Common.{Option, refl, sym, ap, ◌∙◌, subst, arith}
use Rattle.std.specs.Prelude.{slice_get, IsSome, All, Contains}
use Rattle.std.proofs.lemmas.Bool.{cases_lt}
use Rattle.std.proofs.lemmas.List.Elements.{All-contains, All-contains_itself, Contains-append_cases}
use Rattle.std.proofs.lemmas.List.Elements.{Contains-append_left, Contains-append_right}
use Rattle.role_node.specs.Nodes.{NodeValue}
use Rattle.role_node.specs.declared.event.Event.{Event}
use Rattle.node_lock.specs.Audits.{node_at, IsTrueOf, recorded_at, AreTrue}
use Rattle.node_lock.specs.Audits.{AreTrueAt, IsRightAt, AreRightBefore, IsAuditFault}
use Rattle.node_lock.specs.inside.Walks.{IsRest, IsTrueHere, recorded_in, AreRightHere, IsFaultHere}
use Rattle.node_lock.specs.declared.audits.AuditFault.{AuditFault}
use Rattle.node_lock.specs.declared.audits.AuditFault.TheVariants.{Missing, Doubled, Differs, Memory}
use Rattle.node_lock.specs.declared.receipt.Receipt.{Receipt}
use Rattle.node_lock.proofs.Places.{none_at, all_at, at_append}

-- of the receipts, those for a place, with what comes after them
pub record IsSplit (receipts : List Receipt) (place : ℕ) (rest here later : List Receipt) : Type 0 where
  pub rest_is : IsRest receipts place rest
  pub whole : rest ≡ here ++ later
  pub same : All (λ (r : Receipt). r.place ≡ place) here
  pub above : All (λ (r : Receipt). place < r.place) later

-- what holds of each element that it contains holds of all
all_of : (P : Receipt → Type 0) (rs : List Receipt) → ((r : Receipt) → Contains rs r → P r) → All P rs
all_of P rs each k d inside = each (get_or rs k d) (All-contains_itself rs k d inside)

-- a receipt for the place is one of those
member : (receipts : List Receipt) (place : ℕ) (rest here later : List Receipt) →
    IsSplit receipts place rest here later →
    (r : Receipt) → Contains receipts r → r.place ≡ place → Contains here r
member receipts place rest here later split r has at =
    let Q : List Receipt → Type 0 = λ rs. Contains rs r in
    ⊎_elim
    (λ (h : Contains here r). h)
    (λ (h : Contains later r). let up = All-contains (λ (x : Receipt). place < x.place) later r split.above h in
    absurd (omega arith))
    (Contains-append_cases here later r (subst Q split.whole (split.rest_is.members r has (omega arith))))

-- as many are recorded
counted : (receipts : List Receipt) (place : ℕ) (rest here later : List Receipt) →
    IsSplit receipts place rest here later →
    recorded_at receipts place ≡ recorded_in here
counted receipts place rest here later split =
    let none : recorded_at later place ≡ 0 =
    none_at place later (λ k d inside e. let up = split.above k d inside in absurd (omega arith)) in
    let all : recorded_at here place ≡ recorded_in here = all_at place here split.same in
    let parts : recorded_at rest place ≡ recorded_at here place + recorded_at later place =
    ap (λ rs. recorded_at rs place) split.whole ∙ at_append place here later in
    let of : recorded_at receipts place ≡ recorded_at rest place = split.rest_is.counts place (omega arith) in
    omega arith

-- true at its place is true of the history
true_of : (node : NodeValue) (r : Receipt) (place : ℕ) → place ≤ length node.history → r.place ≡ place →
    IsTrueHere (node_at node place) (slice_get node.history place) r → IsTrueOf node r
true_of node r place within at here =
    let P : ℕ → Type 0 = λ p. IsTrueHere (node_at node p) (slice_get node.history p) r in
    let there = subst P (sym at) here in
    record { within = omega arith; outcome = there.outcome; event = there.event }

true_here : (node : NodeValue) (r : Receipt) (place : ℕ) → r.place ≡ place → IsTrueOf node r →
    IsTrueHere (node_at node place) (slice_get node.history place) r
true_here node r place at is =
    let P : ℕ → Type 0 = λ p. IsTrueHere (node_at node p) (slice_get node.history p) r in
    subst P at (record { outcome = is.outcome; event = is.event })

true_at : (node : NodeValue) (receipts : List Receipt) (place : ℕ) (rest here later : List Receipt) →
    IsSplit receipts place rest here later → place ≤ length node.history →
    All (IsTrueHere (node_at node place) (slice_get node.history place)) here → AreTrueAt node receipts place
true_at node receipts place rest here later split within all =
    all_of (λ (r : Receipt). r.place ≡ place → IsTrueOf node r) receipts (λ r has at.
    true_of node r place within at
    (All-contains (IsTrueHere (node_at node place) (slice_get node.history place)) here r all
    (member receipts place rest here later split r has at)))

not_true_at : (node : NodeValue) (receipts : List Receipt) (place : ℕ) (rest here later : List Receipt) →
    IsSplit receipts place rest here later → AreTrueAt node receipts place →
    All (IsTrueHere (node_at node place) (slice_get node.history place)) here
not_true_at node receipts place rest here later split all =
    all_of (IsTrueHere (node_at node place) (slice_get node.history place)) here (λ r has.
    let Q : List Receipt → Type 0 = λ rs. Contains rs r in
    let at : r.place ≡ place = All-contains (λ (x : Receipt). x.place ≡ place) here r split.same has in
    let among = split.rest_is.among r (subst Q (sym split.whole) (Contains-append_left here later r has)) in
    true_here node r place at
    (All-contains (λ (x : Receipt). x.place ≡ place → IsTrueOf node x) receipts r all among at))

some_at : (history : List Event) (place : ℕ) → place < length history → IsSome (slice_get history place)
some_at [] place inside = absurd (omega arith)
some_at (e ∷ es) zero inside = refl
some_at (e ∷ es) (suc place) inside = some_at es place (omega arith)

inside_of : (history : List Event) (place : ℕ) → IsSome (slice_get history place) → place < length history
inside_of [] place some = absurd cc
inside_of (e ∷ es) zero some = omega arith
inside_of (e ∷ es) (suc place) some = let h = inside_of es place some in omega arith

-- what an audit finds right there is right
pub right_at : (node : NodeValue) (receipts : List Receipt) (place : ℕ) (rest here later : List Receipt) →
    IsSplit receipts place rest here later → place ≤ length node.history →
    AreRightHere (node_at node place) (slice_get node.history place) here → IsRightAt node receipts place
right_at node receipts place rest here later split within right = record {
  one = λ inside. counted receipts place rest here later split ∙ right.one (some_at node.history place inside);
  all = true_at node receipts place rest here later split within right.all;
}

-- one more place is right
pub right_before : (node : NodeValue) (receipts : List Receipt) (place : ℕ) → AreRightBefore node receipts place →
    IsRightAt node receipts place → AreRightBefore node receipts (place + 1)
right_before node receipts place before at q below =
    let P : ℕ → Type 0 = λ p. IsRightAt node receipts p in
    ⊎_elim
    (λ (h : q < place). before q h)
    (λ (h : place ≤ q). let e : place ≡ q = omega arith in subst P e at)
    (cases_lt q place)

-- the fault that it finds there is the one of the least wrong place
pub fault_at : (node : NodeValue) (receipts : List Receipt) (place : ℕ) (rest here later : List Receipt) →
    IsSplit receipts place rest here later → AreRightBefore node receipts place → (fault : AuditFault) →
    IsFaultHere (node_at node place) (slice_get node.history place) here place fault → IsAuditFault node receipts fault
fault_at node receipts place rest here later split before (Missing p) found =
    let P : ℕ → Type 0 = λ q. AreRightBefore node receipts q × (q < length node.history)
    × (recorded_at receipts q ≡ 0) in
    subst P (sym found.0)
    (before, inside_of node.history place found.1, counted receipts place rest here later split ∙ found.2)
fault_at node receipts place rest here later split before (Doubled p) found =
    let P : ℕ → Type 0 = λ q. AreRightBefore node receipts q × (q < length node.history)
    × (1 < recorded_at receipts q) in
    let same = counted receipts place rest here later split in
    let more : 1 < recorded_in here = found.2 in
    subst P (sym found.0) (before, inside_of node.history place found.1, omega arith)
fault_at node receipts place rest here later split before (Differs p) found =
    let P : ℕ → Type 0 = λ q. AreRightBefore node receipts q × (q < length node.history → recorded_at receipts q ≡ 1)
    × ¬ AreTrueAt node receipts q in
    subst P (sym found.0) (
      before,
      (λ inside. counted receipts place rest here later split ∙ found.1 (some_at node.history place inside)),
      (λ all. found.2 (not_true_at node receipts place rest here later split all)),
    )
fault_at node receipts place rest here later split before Memory found = tt

-- the same of what the check of a place says, at its node and event
pub right_found : (node : NodeValue) (receipts : List Receipt) (place : ℕ) (rest here later : List Receipt) →
    IsSplit receipts place rest here later → place ≤ length node.history → (replay : NodeValue) (at : Option Event) →
    replay ≡ node_at node place → slice_get node.history place ≡ at → AreRightHere replay at here →
    IsRightAt node receipts place
right_found node receipts place rest here later split within replay at is event right =
    let P : NodeValue → Type 0 = λ n. AreRightHere n at here in
    let Q : Option Event → Type 0 = λ e. AreRightHere (node_at node place) e here in
    right_at node receipts place rest here later split within (subst Q (sym event) (subst P is right))

pub fault_found : (node : NodeValue) (receipts : List Receipt) (place : ℕ) (rest here later : List Receipt) →
    IsSplit receipts place rest here later → AreRightBefore node receipts place → (fault : AuditFault)
    (replay : NodeValue) (at : Option Event) → replay ≡ node_at node place → slice_get node.history place ≡ at →
    IsFaultHere replay at here place fault → IsAuditFault node receipts fault
fault_found node receipts place rest here later split before fault replay at is event found =
    let P : NodeValue → Type 0 = λ n. IsFaultHere n at here place fault in
    let Q : Option Event → Type 0 = λ e. IsFaultHere (node_at node place) e here place fault in
    fault_at node receipts place rest here later split before fault (subst Q (sym event) (subst P is found))

-- where no receipt is past the end, all are true
pub audited : (node : NodeValue) (receipts : List Receipt) (rest here : List Receipt) →
    IsSplit receipts (length node.history) rest here [] → AreRightBefore node receipts (length node.history + 1) →
    AreTrue node receipts
audited node receipts rest here split before = record {
  all = all_of (IsTrueOf node) receipts (λ r has.
      ⊎_elim
      (λ (h : r.place < length node.history + 1).
      All-contains (λ (x : Receipt). x.place ≡ r.place → IsTrueOf node x) receipts r (before r.place h).all has refl)
      (λ (h : length node.history + 1 ≤ r.place).
      let Q : List Receipt → Type 0 = λ rs. Contains rs r in
      let in_here : Contains (here ++ []) r = subst Q split.whole (split.rest_is.members r has (omega arith)) in
      ⊎_elim
      (λ (k : Contains here r). let at =
      All-contains (λ (x : Receipt). x.place ≡ length node.history) here r split.same k in absurd (omega arith))
      (λ (k : Contains [] r). absurd (omega (arith, k.1)))
      (Contains-append_cases here [] r in_here))
      (cases_lt r.place (length node.history + 1)));
  each = λ place inside. (before place (omega arith)).one inside;
}

-- a receipt past the end is not true, and the first one is at the least wrong place
pub past_end : (node : NodeValue) (receipts : List Receipt) (rest here later : List Receipt) (first : Receipt) →
    IsSplit receipts (length node.history) rest here later → AreRightBefore node receipts (length node.history + 1) →
    Contains later first → ((r : Receipt) → Contains later r → first.place ≤ r.place) →
    IsAuditFault node receipts (Differs first.place)
past_end node receipts rest here later first split before has least =
    let Q : List Receipt → Type 0 = λ rs. Contains rs first in
    let up : length node.history < first.place =
    All-contains (λ (x : Receipt). length node.history < x.place) later first split.above has in
    let among : Contains receipts first =
    split.rest_is.among first (subst Q (sym split.whole) (Contains-append_right here later first has)) in (
      (λ q below.
          ⊎_elim
          (λ (h : q < length node.history + 1). before q h)
          (λ (h : length node.history + 1 ≤ q). record {
            one = λ inside. absurd (omega arith);
            all = all_of (λ (r : Receipt). r.place ≡ q → IsTrueOf node r) receipts (λ r contained at.
                let R : List Receipt → Type 0 = λ rs. Contains rs r in
                ⊎_elim
                (λ (k : Contains here r). let e =
                All-contains (λ (x : Receipt). x.place ≡ length node.history) here r split.same k in
                absurd (omega arith))
                (λ (k : Contains later r). let e = least r k in absurd (omega arith))
                (Contains-append_cases here later r
                (subst R split.whole (split.rest_is.members r contained (omega arith)))));
          })
          (cases_lt q (length node.history + 1))),
      (λ inside. absurd (omega arith)),
      (λ all. let is = All-contains (λ (x : Receipt). x.place ≡ first.place → IsTrueOf node x) receipts first all
          among refl in
          let within : first.place ≤ length node.history = is.within in absurd (omega arith)),
    )
