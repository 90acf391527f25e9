-- Messages that are given to each member: the members before have taken all of them, and those behind none.
use Rattle.std.proofs.Common.{◌≡◌, ℕ, zero, suc, ◌+◌, ◌-◌, ◌*◌, ◌<◌, ◌≤◌, ⊎_elim, List, [], ◌∷◌, length, take}
use Rattle.std.proofs.Common.{Some, refl, sym, ap, ◌∙◌, subst}
use Rattle.std.proofs.Common.{arith, take_all}
use Rattle.std.specs.Prelude.{slice_get}
use Rattle.std.proofs.lemmas.Bool.{cases_lt}
use Rattle.std.proofs.lemmas.Option.{slice_get_within}
use Rattle.std.proofs.Math.Nat.{mul-le-mul_right}
use Rattle.byz_world.specs.Pools.{Sent}
use Rattle.byz_world.specs.inside.Kept.{Members, member_in}
use Rattle.byz_world.specs.inside.Blocks.{member_after, member_marks, mark_in, TookFirst, GaveSome, AreGiven}
use Rattle.byz_world.specs.declared.block.Mark.{Mark}
use Rattle.byz_world.proofs.BlockTakes.{member_after-none, member_marks-at, took-length}
use Rattle.byz_world.proofs.Elements.{at_tail}
use Rattle.role_commands.proofs.Exported.{slice_get-front}

pub taken-length : {A : Type 0} (n : ℕ) (xs : List A) → n ≤ length xs → length (take n xs) ≡ n
taken-length zero xs h = refl
taken-length (suc n) [] h = absurd (omega (arith, h))
taken-length (suc n) (x ∷ xs) h = ap suc (taken-length n xs (omega (arith, h)))

take_take : {A : Type 0} (j n : ℕ) (xs : List A) → j < n → take j (take n xs) ≡ take j xs
take_take zero n xs h = refl
take_take (suc j) zero xs h = absurd (omega (arith, h))
take_take (suc j) (suc n) [] h = refl
take_take (suc j) (suc n) (x ∷ xs) h = ap (λ ys. x ∷ ys) (take_take j n xs (omega (arith, h)))

pub at_taken : {A : Type 0} (j n : ℕ) (xs : List A) → j < n → slice_get (take n xs) j ≡ slice_get xs j
at_taken j zero xs h = absurd (omega (arith, h))
at_taken j (suc n) [] h = refl
at_taken zero (suc n) (x ∷ xs) h = refl
at_taken (suc j) (suc n) (x ∷ xs) h = at_taken j n xs (omega (arith, h))

-- so many members, from the first on, have taken all messages
pub record AreGivenTo (old new : Members) (sent : List Sent) (marks : List Mark) (many : ℕ) : Type 0 where
  pub within : many ≤ length old
  pub same : length new ≡ length old
  pub before : (k : ℕ) → k < many → member_in new k ≡ member_after (member_in old k) sent
  pub behind : (k : ℕ) → many ≤ k → member_in new k ≡ member_in old k
  pub full : length marks ≡ many * length sent
  pub mark : (k j : ℕ) (s : Sent) → slice_get sent j ≡ Some s → k < many →
      slice_get marks (k * length sent + j) ≡ Some (mark_in (member_in old k) (take j sent) s)

pub given_to_none : (members : Members) (sent : List Sent) (marks : List Mark) → marks ≡ [] →
    AreGivenTo members members sent marks 0
given_to_none members sent marks none = record {
  within = omega arith;
  same = refl;
  before = λ k early. absurd (omega (arith, early));
  behind = λ k late. refl;
  full = ap length none ∙ omega arith;
  mark = λ k j s at early. absurd (omega (arith, early));
}

-- the row of an earlier number ends within the first ones
row_before : (k many n long : ℕ) → k < many → many * n ≤ long → n ≤ long - k * n
row_before k many n long early all =
    let rows : suc k * n ≤ many * n = mul-le-mul_right n (omega (arith, early)) in
    let product : suc k * n ≡ k * n + n = grind arith in
    omega (arith, rows, product, all)

-- the marks that stand before stay; the next member's stand behind them
module _ (old now new : Members) (sent : List Sent) (marks marks' : List Mark) (many : ℕ)
    (given : AreGivenTo old now sent marks many) (more : many < length old)
    (gave : GaveSome now new many sent marks marks') where
  abbrev count : ℕ
  count = gave.own.0

  abbrev took : TookFirst count (member_in now many) (member_in new many) sent marks marks'
  took = gave.own.1

  own_member : member_in now many ≡ member_in old many
  own_member = given.behind many (omega arith)

  abbrev tail : List Mark
  tail = member_marks (member_in now many) (take count sent)

  long : length marks' ≡ many * length sent + count
  long = took-length took ∙ (λ i. given.full i + taken-length count sent took.within i)

  before_all : (k : ℕ) → k < many → member_in new k ≡ member_after (member_in old k) sent
  before_all k early = gave.others k (λ same. absurd (omega (arith, early, same))) ∙ given.before k early

  own_is : member_in new many ≡ member_after (member_in old many) (take count sent)
  own_is = took.member ∙ ap (λ m. member_after m (take count sent)) own_member

  behind_all : (k : ℕ) → many < k → member_in new k ≡ member_in old k
  behind_all k late = gave.others k (λ same. absurd (omega (arith, late, same))) ∙ given.behind k (omega (arith, late))

  mark_before : (k j : ℕ) (s : Sent) → slice_get sent j ≡ Some s → k < many →
      slice_get marks' (k * length sent + j) ≡ Some (mark_in (member_in old k) (take j sent) s)
  mark_before k j s at early =
      let row = row_before k many (length sent) (length marks) early (omega (arith, given.full)) in
      let there : k * length sent + j < length marks = omega (arith, row, slice_get_within sent j s at) in
      ap (λ ms. slice_get ms (k * length sent + j)) took.marks ∙ slice_get-front marks tail (k * length sent + j) there
      ∙ given.mark k j s at early

  mark_own : (j : ℕ) (s : Sent) → slice_get sent j ≡ Some s → j < count →
      slice_get marks' (many * length sent + j) ≡ Some (mark_in (member_in old many) (take j sent) s)
  mark_own j s at h =
      let P : ℕ → Type 0 = λ n. slice_get marks' (n + j) ≡ slice_get tail j in
      let here : slice_get marks' (length marks + j) ≡ slice_get tail j =
      ap (λ ms. slice_get ms (length marks + j)) took.marks ∙ sym (at_tail marks tail j) in
      subst P given.full here ∙ member_marks-at (member_in now many) (take count sent) j s
      (at_taken j count sent h ∙ at)
      ∙ (λ i. Some (mark_in (own_member i) (take_take j count sent h i) s))

  -- .. and with one more
  pub given_to_next : length marks' ≡ length marks + length sent → AreGivenTo old new sent marks' (many + 1)
  given_to_next all =
      let whole : count ≡ length sent = omega (arith, long, all, given.full) in
      record {
        within = omega (arith, more);
        same = gave.same ∙ given.same;
        before = λ k early.
            ⊎_elim
            (λ (h : k < many). before_all k h)
            (λ (h : many ≤ k).
            let is : many ≡ k = omega (arith, early, h) in
            let P : ℕ → Type 0 = λ n. member_in new n ≡ member_after (member_in old n) sent in
            subst P is (own_is ∙ ap (member_after (member_in old many)) (take_all count sent (omega (arith, whole)))))
            (cases_lt k many);
        behind = λ k late. behind_all k (omega (arith, late));
        full = long ∙ grind (arith, whole);
        mark = λ k j s at early.
            ⊎_elim
            (λ (h : k < many). mark_before k j s at h)
            (λ (h : many ≤ k).
            let is : many ≡ k = omega (arith, early, h) in
            let P : ℕ → Type 0 = λ n. slice_get marks' (n * length sent + j)
            ≡ Some (mark_in (member_in old n) (take j sent) s) in
            subst P is (mark_own j s at (omega (arith, whole, slice_get_within sent j s at))))
            (cases_lt k many);
      }

  -- .. and when that one wanted memory
  pub given_in_part : AreGiven old new sent marks'
  given_in_part =
      let n : ℕ = length sent in
      let l : length marks' ≡ many * n + count = long in
      let rows : suc many * n ≤ length old * n = mul-le-mul_right n (omega (arith, more)) in
      let one_more : suc many * n ≡ many * n + n = grind arith in
      record {
        same = gave.same ∙ given.same;
        within = omega (arith, l, took.within, rows, one_more);
        each = λ name.
            ⊎_elim
            (λ (h : name < many).
            before_all name h ∙ ap (member_after (member_in old name))
            (sym (take_all (length marks' - name * n) sent (row_before name many n _ h (omega (arith, l))))))
            (λ (h : many ≤ name).
            ⊎_elim
            (λ (own : name < many + 1).
            let is : many ≡ name = omega (arith, h, own) in
            let P : ℕ → Type 0 = λ k. member_in new k ≡ member_after (member_in old k)
            (take (length marks' - k * n) sent) in
            let left : length marks' - many * n ≡ count = omega (arith, l) in
            subst P is (own_is ∙ ap (λ k. member_after (member_in old many) (take k sent)) (sym left)))
            (λ (late : many + 1 ≤ name).
            let none : length marks' - name * n ≡ 0 = omega (arith, end name late) in
            behind_all name (omega (arith, late))
            ∙ sym (ap (λ k. member_after (member_in old name) (take k sent)) none ∙ member_after-none
            (member_in old name)))
            (cases_lt name (many + 1)))
            (cases_lt name many);
        mark = λ name j s at there.
            ⊎_elim
            (λ (h : name < many). mark_before name j s at h)
            (λ (h : many ≤ name).
            ⊎_elim
            (λ (own : name < many + 1).
            let is : many ≡ name = omega (arith, h, own) in
            let P : ℕ → Type 0 = λ k. slice_get marks' (k * n + j) ≡ Some (mark_in (member_in old k) (take j sent) s) in
            let Q : ℕ → Type 0 = λ k. k * n + j < length marks' in
            let early : Q many = subst Q (sym is) there in
            subst P is (mark_own j s at (omega (arith, early, l))))
            (λ (late : many + 1 ≤ name). absurd (omega (arith, there, end name late)))
            (cases_lt name (many + 1)))
            (cases_lt name many);
      }
    where
      -- the marks end before those of a later member
      end : (k : ℕ) → many + 1 ≤ k → length marks' ≤ k * length sent
      end k h =
          let rows : (many + 1) * length sent ≤ k * length sent = mul-le-mul_right (length sent) h in
          let product : (many + 1) * length sent ≡ many * length sent + length sent = grind arith in
          omega (arith, rows, product, long, took.within)

-- all were given
pub given_to_all : (old new : Members) (sent : List Sent) (marks : List Mark) (many : ℕ) →
    AreGivenTo old new sent marks many → length old ≤ many → AreGiven old new sent marks
given_to_all old new sent marks many given over =
    let all : many ≡ length old = omega (arith, over, given.within) in
    let long : length marks ≡ length old * length sent = given.full ∙ ap (λ n. n * length sent) all in
    record {
      same = given.same;
      within = omega (arith, long);
      each = λ name.
          ⊎_elim
          (λ (h : name < many).
          given.before name h ∙ ap (member_after (member_in old name))
          (sym (take_all (length marks - name * length sent) sent
          (row_before name many (length sent) _ h (omega (arith, given.full))))))
          (λ (h : many ≤ name).
          given.behind name h ∙ sym (none_after old sent name (length marks) many h given.full))
          (cases_lt name many);
      mark = λ name j s at there.
          ⊎_elim
          (λ (h : name < many). given.mark name j s at h)
          (λ (h : many ≤ name). absurd (past name j many (length sent) h (omega (arith, there, given.full))))
          (cases_lt name many);
    }
  where
    past : (k j many n : ℕ) → many ≤ k → k * n + j < many * n → ⊥
    past k j many n h there =
        let rows : many * n ≤ k * n = mul-le-mul_right n h in
        omega (arith, rows, there)

    none_after : (old : Members) (sent : List Sent) (k long many : ℕ) → many ≤ k → long ≡ many * length sent →
        member_after (member_in old k) (take (long - k * length sent) sent) ≡ member_in old k
    none_after old sent k long many h e =
        let rows : many * length sent ≤ k * length sent = mul-le-mul_right (length sent) h in
        let none : long - k * length sent ≡ 0 = omega (arith, rows, e) in
        ap (λ n. member_after (member_in old k) (take n sent)) none ∙ member_after-none (member_in old k)
