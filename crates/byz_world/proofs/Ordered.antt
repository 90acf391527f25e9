-- The run of an order: a name and an event more.
use Rattle.std.proofs.Common.{◌≡◌, ℕ, ◌+◌, ◌<◌, Bool, true, false, ◌==◌, cond, List, [], ◌∷◌, ◌++◌}
use Rattle.std.proofs.Common.{length, Some, refl, sym, ap, ◌∙◌, subst, append-nil, append_assoc, arith}
use Rattle.std.specs.Prelude.{slice_get, option_map, count_by}
use Rattle.std.proofs.lemmas.Bool.Decides.{nat_tests}
use Rattle.std.proofs.lemmas.List.Sums.{sum_by-append}
use Rattle.std.proofs.lemmas.Map.Views.{exact_unsigned_eq}
use Rattle.role_commands.proofs.Exported.{slice_get-front, slice_get-seam}
use Rattle.role_node.specs.declared.event.Event.{Event}
use Rattle.byz_world.specs.Pools.{listed}
use Rattle.byz_world.specs.inside.Kept.{next_event, run_after}

-- how often a name stands among these
abbrev pub times : ℕ → List ℕ → ℕ
times name names = count_by (λ n. n == name) names

pub times-append : (name : ℕ) (before later : List ℕ)
    → times name (before ++ later) ≡ times name before + times name later
times-append name before later = sum_by-append (λ n. cond (n == name) 1 0) before later

one_name : (name other : ℕ) (b : Bool) → (other == name) ≡ b → times name (other ∷ []) ≡ cond b 1 0
one_name name other b e = ap (λ t. 0 + cond t 1 0) e ∙ omega arith

pub times-own : (name : ℕ) (names : List ℕ) → times name (name ∷ names) ≡ 1 + times name names
times-own name names =
    let own : (name == name) ≡ true = grind (arith, nat_tests) in
    times-append name (name ∷ []) names ∙ ap (λ n. n + times name names) (one_name name name true own)

pub times-other : (name other : ℕ) (names : List ℕ) → (other == name) ≡ false
    → times name (other ∷ names) ≡ times name names
times-other name other names e =
    let nothing : 0 + times name names ≡ times name names = omega arith in
    times-append name (other ∷ []) names ∙ ap (λ n. n + times name names) (one_name name other false e) ∙ nothing

-- a name and an event more: these are the histories then
pub record IsLonger (h h' : ℕ → List Event) (at : ℕ) (e : Event) : Type 0 where
  pub own : h' at ≡ h at ++ e ∷ []
  pub others : (name : ℕ) → (at == name) ≡ false → h' name ≡ h name

same_event : (h h' : ℕ → List Event) (at : ℕ) (e : Event) → IsLonger h h' at e → (name k : ℕ) → k < length (h name) →
    (b : Bool) → (at == name) ≡ b → slice_get (h' name) k ≡ slice_get (h name) k
same_event h h' at e is name k within false other = ap (λ es. slice_get es k) (is.others name other)
same_event h h' at e is name k within true own =
    let same : at ≡ name = exact_unsigned_eq at name own in
    let longer : h' name ≡ h name ++ e ∷ [] = subst (λ n. h' n ≡ h n ++ e ∷ []) same is.own in
    ap (λ es. slice_get es k) longer ∙ slice_get-front (h name) (e ∷ []) k within

-- the run of the longer order is the run with one pair more
pub run_after-push : (h h' : ℕ → List Event) (past order : List ℕ) (at : ℕ) (e : Event) → IsLonger h h' at e →
    ((name : ℕ) → times name (past ++ order) ≡ length (h name)) →
    run_after h' past (order ++ at ∷ []) ≡ run_after h past order ++ (at, e) ∷ []
unfolding run_after
run_after-push h h' past [] at e is counts =
    let number : times at past ≡ length (h at) = ap (times at) (sym (append-nil past)) ∙ counts at in
    let next : slice_get (h' at) (times at past) ≡ Some e =
    (λ i. slice_get (is.own i) (number i)) ∙ slice_get-seam (h at) [] e in
    ap (λ o. listed (option_map (λ x. (at, x)) o) ++ []) next
run_after-push h h' past (name ∷ order) at e is counts =
    let step : List ℕ = past ++ name ∷ [] in
    let split : step ++ order ≡ past ++ name ∷ order = append_assoc past (name ∷ []) order in
    let within : times name past < length (h name) =
    omega (arith, counts name, times-append name past (name ∷ order), times-own name order) in
    let next : next_event h' past name ≡ next_event h past name =
    ap (option_map (λ x. (name, x))) (same_event h h' at e is name (times name past) within (at == name) refl) in
    let rest = run_after-push h h' step order at e is (λ n. ap (times n) split ∙ counts n) in
    (λ i. listed (next i) ++ rest i)
    ∙ sym (append_assoc (listed (next_event h past name)) (run_after h step order) ((at, e) ∷ []))
