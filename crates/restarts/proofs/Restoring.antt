-- The run that a crash of a node leaves: its histories, and where its pairs were before.
use Rattle.std.proofs.Common.{◌≡◌, ℕ, zero, suc, ◌==◌, ◌<◌, Bool, true, false, List, [], ◌∷◌, length, take, Some}
use Rattle.std.proofs.Common.{refl, sym, ap, ◌∙◌, subst, arith}
use Rattle.std.specs.Prelude.{slice_get, if◌then◌else◌}
use Rattle.std.proofs.lemmas.Bool.{both_ways}
use Rattle.std.proofs.lemmas.Bool.Decides.{nat_tests}
use Rattle.std.proofs.lemmas.Map.Views.{exact_unsigned_eq}
use Rattle.role_node.specs.declared.event.Event.{Event}
use Rattle.byz_world.specs.Runs.{Run, history_of}
use Rattle.byz_world.proofs.Exported.{history_of-none, history_of-own, history_of-other}
use Rattle.restarts.specs.Lives.{restored_to}

abbrev own_or : Bool → Event → List Event → List Event
own_or true e es = e ∷ es
own_or false e es = es

-- a history, pair by pair
next_by : (node : ℕ) (pair : ℕ × Event) (run : Run) (b : Bool) → (pair.0 == node) ≡ b →
    history_of node (pair ∷ run) ≡ own_or b pair.1 (history_of node run)
next_by node pair run true own =
    let same : pair.0 ≡ node = exact_unsigned_eq pair.0 node own in
    ap (λ n. history_of node ((n, pair.1) ∷ run)) same ∙ history_of-own node pair.1 run
next_by node pair run false other = history_of-other node pair run other

next : (node : ℕ) (pair : ℕ × Event) (run : Run) →
    history_of node (pair ∷ run) ≡ own_or (pair.0 == node) pair.1 (history_of node run)
next node pair run = next_by node pair run (pair.0 == node) refl

-- The node's history is cut short ..

none_by : (node : ℕ) (pair : ℕ × Event) (run : Run) (b : Bool) → (pair.0 == node) ≡ b → history_of node run ≡ [] →
    history_of node (if b then run else pair ∷ run) ≡ []
none_by node pair run true is none = none
none_by node pair run false is none = history_of-other node pair run is ∙ none

front_by : (node count : ℕ) (pair : ℕ × Event) (run : Run) (b : Bool) → (pair.0 == node) ≡ b →
    ((k : ℕ) → history_of node (restored_to node run k) ≡ take k (history_of node run)) →
    history_of node (pair ∷ restored_to node run (if b then count else suc count))
    ≡ take (suc count) (own_or b pair.1 (history_of node run))
front_by node count pair run true is fronts =
    next_by node pair (restored_to node run count) true is ∙ ap (λ es. pair.1 ∷ es) (fronts count)
front_by node count pair run false is fronts =
    next_by node pair (restored_to node run (suc count)) false is ∙ fronts (suc count)

pub own_history : (node : ℕ) (run : Run) (count : ℕ) →
    history_of node (restored_to node run count) ≡ take count (history_of node run)
own_history node [] zero = history_of-none node
own_history node [] (suc count) = history_of-none node ∙ sym (ap (take (suc count)) (history_of-none node))
own_history node (pair ∷ run) zero =
    none_by node pair (restored_to node run 0) (pair.0 == node) refl (own_history node run 0)
own_history node (pair ∷ run) (suc count) =
    front_by node count pair run (pair.0 == node) refl (λ k. own_history node run k)
    ∙ sym (ap (take (suc count)) (next node pair run))

-- .. and no other

same_by : (node n : ℕ) (pair : ℕ × Event) (run left : Run) (b : Bool) → (pair.0 == node) ≡ b → (n == node) ≡ false →
    history_of n left ≡ history_of n run → history_of n (if b then left else pair ∷ left) ≡ history_of n (pair ∷ run)
same_by node n pair run left true is apart same =
    let not_own : (pair.0 == n) ≡ false = grind (arith, nat_tests) in
    same ∙ sym (history_of-other n pair run not_own)
same_by node n pair run left false is apart same =
    next n pair left ∙ ap (own_or (pair.0 == n) pair.1) same ∙ sym (next n pair run)

pub other_history : (node n : ℕ) (run : Run) (count : ℕ) → (n == node) ≡ false →
    history_of n (restored_to node run count) ≡ history_of n run
other_history node n [] count apart = refl
other_history node n (pair ∷ run) zero apart =
    same_by node n pair run (restored_to node run 0) (pair.0 == node) refl apart (other_history node n run 0 apart)
other_history node n (pair ∷ run) (suc count) apart =
    let fewer : ℕ = if pair.0 == node then count else suc count in
    next n pair (restored_to node run fewer)
    ∙ ap (own_or (pair.0 == n) pair.1) (other_history node n run fewer apart) ∙ sym (next n pair run)

-- A pair that stands was there, and what stands of its past is what stands before it; of the node's own pairs so many
-- stood before, at most.
pub record WasAt (node : ℕ) (run : Run) (count t : ℕ) (pair : ℕ × Event) : Type 0 where
  pub at : ℕ
  pub there : slice_get run at ≡ Some pair
  pub past : take t (restored_to node run count) ≡ restored_to node (take at run) count
  pub early : (pair.0 == node) ≡ true → length (history_of node (take at run)) < count

-- before the first pair there is none
first : (node count : ℕ) (pair : ℕ × Event) (run : Run) → ((pair.0 == node) ≡ true → 0 < count) →
    WasAt node (pair ∷ run) count 0 pair
first node count pair run some = record {
  at = 0;
  there = refl;
  past = refl;
  early = λ own. omega (arith, some own, ap length (history_of-none node));
}

-- behind a pair that a crash lost ..
behind_lost : (node t : ℕ) (p pair : ℕ × Event) (run : Run) → (p.0 == node) ≡ true → WasAt node run 0 t pair →
    WasAt node (p ∷ run) 0 t pair
behind_lost node t p pair run own was = record {
  at = suc was.at;
  there = was.there;
  past = ap (λ b. take t (if b then restored_to node run 0 else p ∷ restored_to node run 0)) own ∙ was.past
      ∙ sym (ap (λ b. if b then restored_to node (take was.at run) 0 else p ∷ restored_to node (take was.at run) 0)
      own);
  early = λ h. absurd (omega (arith, was.early h));
}

-- .. behind another node's, where none of this one's stands ..
behind_other : (node t : ℕ) (p pair : ℕ × Event) (run : Run) → (p.0 == node) ≡ false → WasAt node run 0 t pair →
    WasAt node (p ∷ run) 0 (suc t) pair
behind_other node t p pair run other was = record {
  at = suc was.at;
  there = was.there;
  past = ap (λ b. take (suc t) (if b then restored_to node run 0 else p ∷ restored_to node run 0)) other
      ∙ ap (λ (r : Run). p ∷ r) was.past
      ∙ sym (ap (λ b. if b then restored_to node (take was.at run) 0 else p ∷ restored_to node (take was.at run) 0)
      other);
  early = λ h. absurd (omega (arith, was.early h));
}

-- .. and behind one that stands
behind_kept : (node count t : ℕ) (p pair : ℕ × Event) (run : Run) →
    WasAt node run (if p.0 == node then count else suc count) t pair → WasAt node (p ∷ run) (suc count) (suc t) pair
behind_kept node count t p pair run was = record {
  at = suc was.at;
  there = was.there;
  past = ap (λ (r : Run). p ∷ r) was.past;
  early = λ h. one_more (p.0 == node) refl (was.early h);
}
  where
    one_more : (b : Bool) → (p.0 == node) ≡ b →
        length (history_of node (take was.at run)) < (if b then count else suc count) →
        length (history_of node (p ∷ take was.at run)) < suc count
    one_more true own less = omega (arith, less, ap length (next_by node p (take was.at run) true own))
    one_more false other less = omega (arith, less, ap length (next_by node p (take was.at run) false other))

found_by : (node t : ℕ) (p pair : ℕ × Event) (run : Run) (b : Bool) → (p.0 == node) ≡ b →
    ((u : ℕ) → slice_get (restored_to node run 0) u ≡ Some pair → WasAt node run 0 u pair) →
    slice_get (if b then restored_to node run 0 else p ∷ restored_to node run 0) t ≡ Some pair →
    WasAt node (p ∷ run) 0 t pair
found_by node t p pair run true own found there = behind_lost node t p pair run own (found t there)
found_by node zero p pair run false other found there =
    let same : p ≡ pair = cc in
    subst (WasAt node (p ∷ run) 0 0) same (first node 0 p run (λ own. absurd (both_ways _ other own)))
found_by node (suc t) p pair run false other found there = behind_other node t p pair run other (found t there)

pub was_at : (node : ℕ) (run : Run) (count t : ℕ) (pair : ℕ × Event) →
    slice_get (restored_to node run count) t ≡ Some pair → WasAt node run count t pair
was_at node [] count t pair there = absurd cc
was_at node (p ∷ run) zero t pair there =
    found_by node t p pair run (p.0 == node) refl (λ u h. was_at node run 0 u pair h) there
was_at node (p ∷ run) (suc count) zero pair there =
    let same : p ≡ pair = cc in
    subst (WasAt node (p ∷ run) (suc count) 0) same (first node (suc count) p run (λ own. omega arith))
was_at node (p ∷ run) (suc count) (suc t) pair there =
    behind_kept node count t p pair run (was_at node run (if p.0 == node then count else suc count) t pair there)
