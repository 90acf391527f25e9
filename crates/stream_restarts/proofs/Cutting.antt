-- The long run that a crash of a node leaves: the lives in it, and its parts.
use Rattle.std.proofs.Common.{◌≡◌, ℕ, zero, suc, ◌==◌, Bool, true, false, List, [], ◌∷◌, length, take, slice_get}
use Rattle.std.proofs.Common.{Option, Some, None, refl, sym, ap, ◌∙◌, arith}
use Rattle.std.specs.Prelude.{if◌then◌else◌, option_map}
use Rattle.std.specs.List.{cons_option}
use Rattle.std.proofs.lemmas.Bool.Decides.{nat_tests}
use Rattle.role_node.specs.declared.event.Event.{Event}
use Rattle.byz_world.specs.Runs.{Run}
use Rattle.restarts.specs.Lives as crash
use Rattle.part_lives.specs.Parts.{Part, Act, event_in, events_in}
use Rattle.stream_parts.specs.LongRuns.{LongRun, acts_of, at_node, pair_in, run_in}
use Rattle.stream_parts.proofs.Growing.{own_or, next, acts-none}
use Rattle.stream_restarts.specs.LongLives.{restored_to}

-- The node's life is cut short ..

none_by : (node : ℕ) (pair : ℕ × Act) (run : LongRun) (b : Bool) → (pair.0 == node) ≡ b → acts_of node run ≡ [] →
    acts_of node (if b then run else pair ∷ run) ≡ []
none_by node pair run true is none = none
none_by node pair run false is none = next node pair run false is ∙ none

front_by : (node count : ℕ) (pair : ℕ × Act) (run : LongRun) (b : Bool) → (pair.0 == node) ≡ b →
    ((k : ℕ) → acts_of node (restored_to node run k) ≡ take k (acts_of node run)) →
    acts_of node (pair ∷ restored_to node run (if b then count else suc count))
    ≡ take (suc count) (own_or b pair.1 (acts_of node run))
front_by node count pair run true is fronts =
    next node pair (restored_to node run count) true is ∙ ap (λ acts. pair.1 ∷ acts) (fronts count)
front_by node count pair run false is fronts =
    next node pair (restored_to node run (suc count)) false is ∙ fronts (suc count)

pub own_life : (node : ℕ) (run : LongRun) (count : ℕ) →
    acts_of node (restored_to node run count) ≡ take count (acts_of node run)
own_life node [] zero = acts-none node
own_life node [] (suc count) = acts-none node ∙ sym (ap (take (suc count)) (acts-none node))
own_life node (pair ∷ run) zero =
    none_by node pair (restored_to node run 0) (pair.0 == node) refl (own_life node run 0)
own_life node (pair ∷ run) (suc count) =
    front_by node count pair run (pair.0 == node) refl (λ k. own_life node run k)
    ∙ sym (ap (take (suc count)) (next node pair run (pair.0 == node) refl))

-- .. and no other

same_by : (node n : ℕ) (pair : ℕ × Act) (run left : LongRun) (b : Bool) → (pair.0 == node) ≡ b → (n == node) ≡ false →
    acts_of n left ≡ acts_of n run → acts_of n (if b then left else pair ∷ left) ≡ acts_of n (pair ∷ run)
same_by node n pair run left true is apart same =
    let not_own : (pair.0 == n) ≡ false = grind (arith, nat_tests) in
    same ∙ sym (next n pair run false not_own)
same_by node n pair run left false is apart same =
    next n pair left (pair.0 == n) refl ∙ ap (own_or (pair.0 == n) pair.1) same
    ∙ sym (next n pair run (pair.0 == n) refl)

pub other_life : (node n : ℕ) (run : LongRun) (count : ℕ) → (n == node) ≡ false →
    acts_of n (restored_to node run count) ≡ acts_of n run
other_life node n [] count apart = refl
other_life node n (pair ∷ run) zero apart =
    same_by node n pair run (restored_to node run 0) (pair.0 == node) refl apart (other_life node n run 0 apart)
other_life node n (pair ∷ run) (suc count) apart =
    let fewer : ℕ = if pair.0 == node then count else suc count in
    next n pair (restored_to node run fewer) (pair.0 == n) refl
    ∙ ap (own_or (pair.0 == n) pair.1) (other_life node n run fewer apart)
    ∙ sym (next n pair run (pair.0 == n) refl)

-- what stands was there, behind what stands before it

abbrev pub Stood : ℕ → LongRun → ℕ → ℕ → ℕ × Act → Type 0
Stood node run count t pair =
    (at : ℕ) × (slice_get run at ≡ Some pair)
    × (take t (restored_to node run count) ≡ restored_to node (take at run) count)

stood_by : (node : ℕ) (p pair : ℕ × Act) (run : LongRun) (b : Bool) → (p.0 == node) ≡ b →
    ((t : ℕ) → slice_get (restored_to node run 0) t ≡ Some pair → Stood node run 0 t pair) → (t : ℕ) →
    slice_get (if b then restored_to node run 0 else p ∷ restored_to node run 0) t ≡ Some pair →
    (at : ℕ) × (slice_get (p ∷ run) at ≡ Some pair)
    × (take t (if b then restored_to node run 0 else p ∷ restored_to node run 0)
    ≡ restored_to node (take at (p ∷ run)) 0)
stood_by node p pair run true is rest t there =
    let found = rest t there in (
      suc found.0,
      found.1,
      found.2
          ∙ sym (ap (λ b. if b then restored_to node (take found.0 run) 0
          else p ∷ restored_to node (take found.0 run) 0) is),
    )
stood_by node p pair run false is rest zero there = (0, there, refl)
stood_by node p pair run false is rest (suc t) there =
    let found = rest t there in (
      suc found.0,
      found.1,
      ap (λ l. p ∷ l) found.2
          ∙ sym (ap (λ b. if b then restored_to node (take found.0 run) 0
          else p ∷ restored_to node (take found.0 run) 0) is),
    )

pub stood : (node : ℕ) (run : LongRun) (count t : ℕ) (pair : ℕ × Act) →
    slice_get (restored_to node run count) t ≡ Some pair → Stood node run count t pair
stood node [] count t pair there = absurd cc
stood node (p ∷ run) zero t pair there =
    stood_by node p pair run (p.0 == node) refl (λ u h. stood node run 0 u pair h) t there
stood node (p ∷ run) (suc count) zero pair there = (0, there, refl)
stood node (p ∷ run) (suc count) (suc t) pair there =
    let found = stood node run (if p.0 == node then count else suc count) t pair there in
    (suc found.0, found.1, ap (λ l. p ∷ l) found.2)

-- Of a part what a crash leaves is what one of the part's run leaves.

-- how many events of the part are among so many acts of the node
abbrev pub count_in : Part → ℕ → ℕ → LongRun → ℕ
count_in part node count run = length (events_in part (take count (acts_of node run)))

crash_other : (node count : ℕ) (p : ℕ × Event) (run : Run) → (p.0 == node) ≡ false →
    crash.restored_to node (p ∷ run) count ≡ p ∷ crash.restored_to node run count
crash_other node zero p run other =
    ap (λ b. if b then crash.restored_to node run 0 else p ∷ crash.restored_to node run 0) other
crash_other node (suc count) p run other =
    ap (λ b. p ∷ crash.restored_to node run (if b then count else suc count)) other

-- the events of the part among acts, one after another
events_next : (part : Part) (act : Act) (acts : List Act) →
    events_in part (act ∷ acts) ≡ cons_option (event_in part act) (events_in part acts)
unfolding events_in
events_next part act acts = refl

events-none : (part : Part) → events_in part [] ≡ []
unfolding events_in
events-none part = refl

pub none_in : (part : Part) (node : ℕ) (run : LongRun) → count_in part node 0 run ≡ 0
none_in part node run = ap length (events-none part)

run_next : (part : Part) (pair : ℕ × Act) (run : LongRun) →
    run_in part (pair ∷ run) ≡ cons_option (pair_in part pair) (run_in part run)
unfolding run_in
run_next part pair run = refl

pub run-none : (part : Part) → run_in part [] ≡ []
unfolding run_in
run-none part = refl

-- with no act of the node left
cut_by : (part : Part) (node : ℕ) (pair : ℕ × Act) (left run : LongRun) (b : Bool) → (pair.0 == node) ≡ b →
    (o : Option Event) → event_in part pair.1 ≡ o → run_in part left ≡ crash.restored_to node (run_in part run) 0 →
    run_in part (if b then left else pair ∷ left)
    ≡ crash.restored_to node (cons_option (option_map (at_node pair.0) o) (run_in part run)) 0
cut_by part node pair left run true is None none rest = rest
cut_by part node pair left run true is (Some e) some rest =
    rest ∙ sym (ap (λ b. if b then crash.restored_to node (run_in part run) 0
    else (pair.0, e) ∷ crash.restored_to node (run_in part run) 0) is)
cut_by part node pair left run false is None none rest =
    run_next part pair left ∙ ap (λ o. cons_option (option_map (at_node pair.0) o) (run_in part left)) none ∙ rest
cut_by part node pair left run false is (Some e) some rest =
    run_next part pair left ∙ ap (λ o. cons_option (option_map (at_node pair.0) o) (run_in part left)) some
    ∙ ap (λ r. (pair.0, e) ∷ r) rest
    ∙ sym (ap (λ b. if b then crash.restored_to node (run_in part run) 0
    else (pair.0, e) ∷ crash.restored_to node (run_in part run) 0) is)

-- behind an act that stands
kept_by : (part : Part) (node count : ℕ) (pair : ℕ × Act) (run : LongRun) (b : Bool) → (pair.0 == node) ≡ b →
    (o : Option Event) → event_in part pair.1 ≡ o →
    ((k : ℕ) → run_in part (restored_to node run k)
    ≡ crash.restored_to node (run_in part run) (count_in part node k run)) →
    run_in part (pair ∷ restored_to node run (if b then count else suc count))
    ≡ crash.restored_to node (cons_option (option_map (at_node pair.0) o) (run_in part run))
    (length (events_in part (take (suc count) (own_or b pair.1 (acts_of node run)))))
kept_by part node count pair run true is None none rest =
    run_next part pair (restored_to node run count)
    ∙ ap (λ o. cons_option (option_map (at_node pair.0) o) (run_in part (restored_to node run count))) none
    ∙ rest count
    ∙ sym (ap (λ es. crash.restored_to node (run_in part run) (length es))
    (events_next part pair.1 (take count (acts_of node run))
    ∙ ap (λ o. cons_option o (events_in part (take count (acts_of node run)))) none))
kept_by part node count pair run true is (Some e) some rest =
    run_next part pair (restored_to node run count)
    ∙ ap (λ o. cons_option (option_map (at_node pair.0) o) (run_in part (restored_to node run count))) some
    ∙ ap (λ r. (pair.0, e) ∷ r) (rest count)
    ∙ sym (ap (λ b. (pair.0, e) ∷ crash.restored_to node (run_in part run)
    (if b then count_in part node count run else suc (count_in part node count run))) is)
    ∙ sym (ap (λ es. crash.restored_to node ((pair.0, e) ∷ run_in part run) (length es))
    (events_next part pair.1 (take count (acts_of node run))
    ∙ ap (λ o. cons_option o (events_in part (take count (acts_of node run)))) some))
kept_by part node count pair run false is None none rest =
    run_next part pair (restored_to node run (suc count))
    ∙ ap (λ o. cons_option (option_map (at_node pair.0) o) (run_in part (restored_to node run (suc count)))) none
    ∙ rest (suc count)
kept_by part node count pair run false is (Some e) some rest =
    run_next part pair (restored_to node run (suc count))
    ∙ ap (λ o. cons_option (option_map (at_node pair.0) o) (run_in part (restored_to node run (suc count)))) some
    ∙ ap (λ r. (pair.0, e) ∷ r) (rest (suc count))
    ∙ sym (crash_other node (count_in part node (suc count) run) (pair.0, e) (run_in part run) is)

pub part_restored : (part : Part) (node : ℕ) (run : LongRun) (count : ℕ) →
    run_in part (restored_to node run count)
    ≡ crash.restored_to node (run_in part run) (count_in part node count run)
part_restored part node [] count =
    run-none part ∙ sym (ap (λ r. crash.restored_to node r (count_in part node count [])) (run-none part))
part_restored part node (pair ∷ run) zero =
    cut_by part node pair (restored_to node run 0) run (pair.0 == node) refl (event_in part pair.1) refl
    (part_restored part node run 0
    ∙ ap (crash.restored_to node (run_in part run)) (none_in part node run))
    ∙ sym (λ t. crash.restored_to node (run_next part pair run t) (none_in part node (pair ∷ run) t))
part_restored part node (pair ∷ run) (suc count) =
    kept_by part node count pair run (pair.0 == node) refl (event_in part pair.1) refl (part_restored part node run)
    ∙ sym (λ t. crash.restored_to node (run_next part pair run t)
    (length (events_in part (take (suc count) (next node pair run (pair.0 == node) refl t)))))
