-- Each move of a pass keeps the rule of the inbox's queue.
use Rattle.std.proofs.Common.{◌≡◌, ℕ, zero, suc, ◌+◌, ◌-◌, ◌<◌, ◌≤◌, ◌*◌, Bool, List, [], ◌∷◌}
use Rattle.std.proofs.Common.{◌++◌, length, set, get_or, sym, refl, ap, ◌∙◌, arith}
use Rattle.std.specs.Prelude.{All, sum_by, count_by}
use Rattle.std.proofs.lemmas.List.Elements.{All-set, All-push, All-cons, All-nil}
use Rattle.std.proofs.lemmas.List.Sums.{sum_by-set, sum_by_push, sum_by-append}
use Rattle.std.proofs.lemmas.List.Sums.{sum_by-le, get_or-le-sum_by}
use mathlib.Core.Option.{some, some-ne-none, some-injective}
use lib.ListN.{get_elem?}
use Rattle.crossbeam_queue.specs.Fifo.{Pushes, Pops, Forks, Merges, Learns}
use Rattle.node_lock.specs.inside.InboxRule.{pass_counts, parts_in, put_in, taken_in}
use Rattle.node_lock.specs.inside.InboxRule.{put_more, take_more, joined_counts, IsIdle, IsBalanced, IsEven}
use Rattle.node_lock.specs.Inboxes.{inbox_parts}
use Rattle.node_lock.specs.declared.inbox.PassCounts.{PassCounts}
use Rattle.node_lock.specs.declared.job.Job.{Job}

-- a view that is there, by its index
pub at_of : (views : List PassCounts) (i : ℕ) (v : PassCounts) → get_elem? views i ≡ some v → (i < length views)
    × ((d : PassCounts) → get_or views i d ≡ v)
at_of [] i v e = absurd (some-ne-none v (sym e))
at_of (x ∷ xs) zero v e = (omega arith, (λ d. some-injective x v e))
at_of (x ∷ xs) (suc i) v e = let h = at_of xs i v e in (omega (arith, h.0), h.1)

-- what a sum becomes where one view changes
pub swapped : (f : PassCounts → ℕ) (views : List PassCounts) (i : ℕ) (v w : PassCounts) → get_elem? views i ≡ some v →
    sum_by f (set views i w) + f v ≡ sum_by f views + f w
swapped f views i v w at =
    let h = at_of views i v at in
    ap (λ (u : PassCounts). sum_by f (set views i w) + f u) (sym (h.1 v)) ∙ sum_by-set f views i w v h.0

more : (test : Job → Bool) (xs : List Job) (x : Job) → count_by test (xs ++ x ∷ [])
    ≡ count_by test xs + count_by test (x ∷ [])
more test xs x = sum_by-append _ xs (x ∷ [])

first : (test : Job → Bool) (x : Job) (xs : List Job) → count_by test (x ∷ xs)
    ≡ count_by test (x ∷ []) + count_by test xs
first test x xs = sum_by-append _ (x ∷ []) xs

pub begins : IsBalanced [] (pass_counts inbox_parts [] [] ∷ [])
begins = record {
  parts = refl;
  even = λ test. refl;
  idle =
      All-cons IsIdle (pass_counts inbox_parts [] []) [] (λ e. (refl, refl)) (All-nil IsIdle);
}

pub puts : (n port : ℕ) (v : PassCounts) (x : Job) → 0 < v.parts → Pushes IsBalanced n port v x (λ w. w ≡ put_more v x)
puts n port v x held items views _ fair at = (
  put_more v x,
  record {
    parts = let h = swapped parts_in views port v (put_more v x) at in let p = fair.parts in omega arith;
    even = λ test.
        let a = swapped (put_in test) views port v (put_more v x) at in
        let b = swapped (taken_in test) views port v (put_more v x) at in
        let c = more test v.put x in
        let d = more test items x in
        let e = fair.even test in
        omega arith;
    idle = All-set IsIdle views port (put_more v x) (λ none. absurd (omega arith)) fair.idle;
  },
  refl,
)

pub takes : (port : ℕ) (v : PassCounts) → 0 < v.parts → Pops IsBalanced port v (λ x w. w ≡ take_more v x)
takes port v held x items views fair at = (
  take_more v x,
  record {
    parts = let h = swapped parts_in views port v (take_more v x) at in let p = fair.parts in omega arith;
    even = λ test.
        let a = swapped (put_in test) views port v (take_more v x) at in
        let b = swapped (taken_in test) views port v (take_more v x) at in
        let c = more test v.taken x in
        let d = first test x items in
        let e = fair.even test in
        omega arith;
    idle = All-set IsIdle views port (take_more v x) (λ none. absurd (omega arith)) fair.idle;
  },
  refl,
)

pub cuts : (port : ℕ) (v : PassCounts) → 1 < v.parts →
    Forks IsBalanced port v (pass_counts (v.parts - 1) v.put v.taken) (pass_counts 1 [] [])
cuts port v held items views fair at =
    let left = pass_counts (v.parts - 1) v.put v.taken in
    let right = pass_counts 1 [] [] in
    record {
      parts =
          let h = swapped parts_in views port v left at in
          let k = sum_by_push parts_in (set views port left) right in
          let p = fair.parts in omega arith;
      even = λ test.
          let a = swapped (put_in test) views port v left at in
          let b = swapped (taken_in test) views port v left at in
          let c = sum_by_push (put_in test) (set views port left) right in
          let d = sum_by_push (taken_in test) (set views port left) right in
          let e = fair.even test in
          omega arith;
      idle =
          All-push IsIdle (set views port left) right
          (All-set IsIdle views port left (λ none. absurd (omega arith)) fair.idle)
          (λ none. absurd (omega arith));
    }

pub joins : (port : ℕ) (v : PassCounts) (other : ℕ) (w : PassCounts) → 0 < v.parts →
    Merges IsBalanced port v other w (joined_counts v w) (pass_counts 0 [] [])
joins port v other w held items views fair at apart there =
    let both = joined_counts v w in
    let spent = pass_counts 0 [] [] in
    let vs = set views port both in
    record {
      parts =
          let h = swapped parts_in views port v both at in
          let k = swapped parts_in vs other w spent there in
          let p = fair.parts in omega arith;
      even = λ test.
          let a = swapped (put_in test) views port v both at in
          let b = swapped (taken_in test) views port v both at in
          let c = swapped (put_in test) vs other w spent there in
          let d = swapped (taken_in test) vs other w spent there in
          let f : put_in test both ≡ put_in test v + put_in test w = sum_by-append _ v.put w.put in
          let g : taken_in test both ≡ taken_in test v + taken_in test w = sum_by-append _ v.taken w.taken in
          let e = fair.even test in
          omega arith;
      idle =
          All-set IsIdle vs other spent (λ none. (refl, refl))
          (All-set IsIdle views port both (λ none. absurd (omega arith)) fair.idle);
    }

-- beside the pass that has all parts no other counts
alone : (f : PassCounts → ℕ) (views : List PassCounts) (port : ℕ) (v : PassCounts) → get_elem? views port ≡ some v →
    v.parts ≡ inbox_parts → sum_by parts_in views ≡ inbox_parts → All IsIdle views →
    ((u : PassCounts) → (u.put ≡ []) × (u.taken ≡ []) → f u ≡ 0) →
    sum_by f views ≡ f v
alone f views port v at whole parts idle none =
    let spent = pass_counts 0 [] [] in
    let vs = set views port spent in
    let h = swapped parts_in views port v spent at in
    let zero_parts : sum_by parts_in vs ≡ 0 = omega arith in
    let quiet : All IsIdle vs = All-set IsIdle views port spent (λ e. (refl, refl)) idle in
    let each : All (λ (u : PassCounts). f u ≤ 0) vs = λ k d inside.
    let few : (get_or vs k d).parts ≤ sum_by parts_in vs = get_or-le-sum_by parts_in vs k d inside in
    let z = none (get_or vs k d) (quiet k d inside (omega arith)) in
    omega arith in
    let all = sum_by-le f 0 vs each in
    let s = swapped f views port v spent at in
    let t = none spent (refl, refl) in
    let u : length vs * 0 ≡ 0 = omega arith in
    omega arith

pub learns : (port : ℕ) (v : PassCounts) → v.parts ≡ inbox_parts → Learns IsBalanced port v (IsEven v)
learns port v whole items views fair at test =
    let a = alone (put_in test) views port v at whole fair.parts fair.idle (λ u e. ap (count_by test) e.0) in
    let b = alone (taken_in test) views port v at whole fair.parts fair.idle (λ u e. ap (count_by test) e.1) in
    let e = fair.even test in
    omega arith
