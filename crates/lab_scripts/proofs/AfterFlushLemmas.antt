-- No packet waits once a flush is over: each packet that is given is one more below the limit.
use Rattle.std.proofs.Common.{◌≡◌, ℕ, zero, suc, ◌+◌, ◌*◌, ◌<◌, ◌≤◌, ◌==◌, Bool, true, false, cond}
use Rattle.std.proofs.Common.{not, ◌||◌, [], ◌∷◌, ◌++◌, length, find, slice_get, Option, Some, None}
use Rattle.std.proofs.Common.{Ok, Err, refl, sym, ap, ◌∙◌, subst, arith, append-nil, length-append}
use Rattle.std.proofs.lemmas.Bool.{ltb-false, eqb-true, eqb-false, not-true}
use Rattle.std.proofs.lemmas.Bool.Decides.{nat_tests}
use Rattle.std.proofs.lemmas.Option.{same_Some, none-some}
use Rattle.std.specs.Option.{option_map_or}
use Rattle.std.specs.List.{range_with_len}
use Rattle.link_frames.specs.frames.Packets.{PacketValue}
use Rattle.role_node.specs.Answers.{is_recorded}
use Rattle.role_node.specs.Nodes.{due_at}
use Rattle.role_node.specs.declared.event.Event.{Event}
use Rattle.role_node.specs.declared.event.Event.TheVariants as event
use Rattle.byz_world.specs.declared.faults.WorldFault.TheVariants as fault
use Rattle.byz_world.specs.Pools.{Sent, listed, messages, sends_next, pool}
use Rattle.byz_world.specs.Runs.{Run}
use Rattle.byz_world.specs.Steps.{Arrival, given, unless_pool_full, is_pool_full, recorded_pair, with_run, after_step}
use Rattle.byz_world.specs.Worlds.{WorldValue, is_correct_in, node_in}
use Rattle.byz_world.specs.declared.step.Step.TheVariants.{Give}
use Rattle.byz_world.proofs.Exported.{messages-push}
use Rattle.byz_world.proofs.Exported.{pool-length}
use Rattle.lab_scripts.specs.Labs.{Lab, pool_length, with_number, given_after, after_doing, next_number, flush_within}
use Rattle.lab_scripts.specs.Laws.{IsWithinLimit, FlushLeavesNone}
use Rattle.lab_scripts.proofs.FlagLemmas.{find-range-none}
use Rattle.lab_scripts.proofs.StepLemmas.{given-found}

-- ---- the pool stays within its limit

at_most_one : (o : Option Sent) → length (listed o) ≤ 1
at_most_one None = omega arith
at_most_one (Some x) = omega arith

one_pair_more : (w : WorldValue) (pair : ℕ × Event) → pool_length w + w.config.roles.sizes.nodes ≤ w.config.limit
    → IsWithinLimit (with_run w (w.run ++ pair ∷ []))
one_pair_more w pair room =
    let n = w.config.roles.sizes.nodes in
    let before = length (messages w.config w.run) in
    let more = length (listed (sends_next w.config w.run pair)) in
    let few : more ≤ 1 = at_most_one (sends_next w.config w.run pair) in
    let was : pool_length w ≡ before * n = pool-length w.config w.run in
    let now : pool_length (with_run w (w.run ++ pair ∷ [])) ≡ (before + more) * n =
    pool-length w.config (w.run ++ pair ∷ [])
    ∙ ap (λ ms. length ms * n) (messages-push w.config w.run pair)
    ∙ ap (λ k. k * n) (length-append (messages w.config w.run) (listed (sends_next w.config w.run pair))) in
    let grown : (before + more) * n ≤ before * n + n = grow before more n few in
    omega (arith, was, now, grown, room)
  where
    grow : (a b n : ℕ) → b ≤ 1 → (a + b) * n ≤ a * n + n
    grow a zero n h = grind arith
    grow a (suc zero) n h = grind arith
    grow a (suc (suc b)) n h = absurd (omega arith)

stays_within : (w : WorldValue) (number : ℕ) → IsWithinLimit w → IsWithinLimit (after_step w (Give number))
unfolding after_step
stays_within w number within = found (slice_get (pool w.config w.run) number)
  where
    After : Arrival → Type 0
    After a = IsWithinLimit (with_run w (w.run ++ recorded_pair w a))

    same : IsWithinLimit (with_run w (w.run ++ []))
    same = subst (λ (run : Run). IsWithinLimit (with_run w run)) (sym (append-nil w.run)) within

    recorded : (pair : ℕ × Event) (b : Bool) → pool_length w + w.config.roles.sizes.nodes ≤ w.config.limit
        → IsWithinLimit (with_run w (w.run ++ cond b (pair ∷ []) []))
    recorded pair true room = one_pair_more w pair room
    recorded pair false room = same

    unless_full : (pair : ℕ × Event) (b : Bool) → is_pool_full w ≡ b →
        After (cond b (Err fault.PoolFull) (Ok (Some pair)))
    unless_full pair true e = same
    unless_full pair false e =
        recorded pair (is_recorded (due_at (node_in w pair.0) pair.1))
        (ltb-false w.config.limit (pool_length w + w.config.roles.sizes.nodes) e)

    to_correct : (p : PacketValue) (b : Bool) → After (cond b (unless_pool_full w (p.to, event.Take p)) (Ok None))
    to_correct p true = unless_full (p.to, event.Take p) (is_pool_full w) refl
    to_correct p false = same

    found : (o : Option PacketValue) → After (given w o)
    found None = same
    found (Some p) = to_correct p (is_correct_in w p.to)

-- ---- how many numbers below n were not given

unfoldable pub left : (ℕ → Bool) → ℕ → ℕ
left given zero = 0
left given (suc n) = cond (given n) (left given n) (suc (left given n))

left-le : (given : ℕ → Bool) (n : ℕ) → left given n ≤ n
unfolding left
left-le given zero = omega arith
left-le given (suc n) =
    let below : left given n ≤ n = left-le given n in
    elim (given n) as (λ b. cond b (left given n) (suc (left given n)) ≤ suc n)
    [ true ↦ omega arith | false ↦ omega arith ]

left-above : (given : ℕ → Bool) (k n : ℕ) → n ≤ k → left (with_number given k) n ≡ left given n
unfolding left
left-above given k zero h = refl
left-above given k (suc n) h =
    let below : left (with_number given k) n ≡ left given n = left-above given k n (omega arith) in
    let other : (n == k) ≡ false = grind (arith, nat_tests) in
    λ i. cond (other i || given n) (below i) (suc (below i))

by_given : (b : Bool) (m n : ℕ) → suc m ≡ n → suc (cond b m (suc m)) ≡ cond b n (suc n)
by_given true m n e = e
by_given false m n e = ap suc e

left-marked : (given : ℕ → Bool) (k n : ℕ) → given k ≡ false → k < n → suc (left (with_number given k) n) ≡ left given n
unfolding left
left-marked given k zero fresh h = absurd (omega arith)
left-marked given k (suc n) fresh h = at (n == k) refl (left-marked given k n fresh)
  where
    at : (b : Bool) → (n == k) ≡ b
        → (k < n → suc (left (with_number given k) n) ≡ left given n)
        → suc (cond ((n == k) || given n) (left (with_number given k) n) (suc (left (with_number given k) n)))
        ≡ cond (given n) (left given n) (suc (left given n))
    at true e rest =
        let same : n ≡ k = eqb-true n k e in
        ap (λ b. suc (cond (b || given n) (left (with_number given k) n) (suc (left (with_number given k) n)))) e
        ∙ ap suc (left-above given k n (omega arith))
        ∙ ap (λ b. cond b (left given n) (suc (left given n))) (sym (ap given same ∙ fresh))
    at false e rest =
        let below : suc (left (with_number given k) n) ≡ left given n = rest (omega (arith, eqb-false n k e)) in
        ap (λ b. suc (cond (b || given n) (left (with_number given k) n) (suc (left (with_number given k) n)))) e
        ∙ by_given (given n) (left (with_number given k) n) (left given n) below

left-none : (given : ℕ → Bool) (n : ℕ) → left given n ≡ 0 → (k : ℕ) → k < n → given k ≡ true
unfolding left
left-none given zero none k h = absurd (omega arith)
left-none given (suc n) none k h = at (given n) refl none (n == k) refl (left-none given n)
  where
    at : (b : Bool) → given n ≡ b → cond b (left given n) (suc (left given n)) ≡ 0 → (c : Bool) → (n == k) ≡ c
        → (left given n ≡ 0 → (k : ℕ) → k < n → given k ≡ true) → given k ≡ true
    at false g e c q rest = absurd (omega arith)
    at true g e true q rest = ap given (sym (eqb-true n k q)) ∙ g
    at true g e false q rest = rest e k (omega (arith, eqb-false n k q))

-- ---- the flush

-- what is found passes and is below
found_is : (p : ℕ → Bool) (from n k : ℕ) → find p (range_with_len from n) ≡ Some k → (p k ≡ true) × (k < from + n)
found_is p from zero k e = absurd (none-some k e)
found_is p from (suc n) k e = at (p from) refl e (found_is p (from + 1) n k)
  where
    at : (b : Bool) → p from ≡ b → cond b (Some from) (find p (range_with_len (from + 1) n)) ≡ Some k
        → (find p (range_with_len (from + 1) n) ≡ Some k → (p k ≡ true) × (k < (from + 1) + n))
        → (p k ≡ true) × (k < from + suc n)
    at true q s below = let is : from ≡ k = same_Some from k s in (ap p (sym is) ∙ q, omega arith)
    at false q s below = let rest = below s in (rest.0, omega (arith, rest.1))

pub leaves_none : (times count : ℕ) (lab : Lab) → IsWithinLimit lab.world →
    left lab.given lab.world.config.limit ≤ times
    → next_number (flush_within times count lab).lab ≡ None
unfolding flush_within next_number after_step
leaves_none zero count lab within few =
    let none : left lab.given lab.world.config.limit ≡ 0 = omega arith in
    find-range-none (λ k. not (lab.given k)) 0 (pool_length lab.world)
    (λ k _ below. ap not (left-none lab.given lab.world.config.limit none k (omega arith)))
leaves_none (suc times) count lab within few =
    at (find (λ k. not (lab.given k)) (range_with_len 0 (pool_length lab.world))) refl (leaves_none times (count + 1))
  where
    Below : Type 0
    Below = (next : Lab) → IsWithinLimit next.world → left next.given next.world.config.limit ≤ times
        → next_number (flush_within times (count + 1) next).lab ≡ None

    each : (number : ℕ) → Below → find (λ k. not (lab.given k)) (range_with_len 0 (pool_length lab.world)) ≡ Some number
        → next_number (flush_within times (count + 1) (after_doing lab (Give number))).lab ≡ None
    each number below e =
        let found = found_is (λ k. not (lab.given k)) 0 (pool_length lab.world) number e in
        let inside : number < pool_length lab.world = omega (arith, found.1) in
        let fresh : lab.given number ≡ false = not-true (lab.given number) found.0 in
        let marked : given_after lab (Give number) ≡ with_number lab.given number = given-found lab number inside in
        let fewer : suc (left (with_number lab.given number) lab.world.config.limit)
        ≡ left lab.given lab.world.config.limit =
        left-marked lab.given number lab.world.config.limit fresh (omega arith) in
        below (after_doing lab (Give number)) (stays_within lab.world number within)
        (subst (λ (g : ℕ → Bool). left g lab.world.config.limit ≤ times) (sym marked) (omega arith))

    at : (o : Option ℕ) → find (λ k. not (lab.given k)) (range_with_len 0 (pool_length lab.world)) ≡ o → Below
        → next_number (option_map_or (λ number. flush_within times (count + 1) (after_doing lab (Give number))) o
        (record { count = count; lab = lab })).lab ≡ None
    at None e below = e
    at (Some number) e below = each number below e

pub flush_leaves_none : FlushLeavesNone
flush_leaves_none lab within =
    leaves_none lab.world.config.limit 0 lab within (left-le lab.given lab.world.config.limit)
