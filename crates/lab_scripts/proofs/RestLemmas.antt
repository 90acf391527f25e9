-- The test of a cluster at rest.
use Rattle.std.proofs.Common.{◌≡◌, zero, suc, Bool, true, false, not, ◌||◌, List}
use Rattle.std.proofs.Common.{[], ◌∷◌, refl, sym, ap, ◌∙◌, subst, arith, eqb-true}
use Rattle.std.specs.Prelude.{◌↔◌, IsTrue, Contains}
use Rattle.std.specs.List.{list_all, list_any}
use Rattle.std.proofs.lemmas.Bool.{true≢false, and_parts, and_from, eq-eqb, or_left}
use Rattle.role_commands.proofs.Exported.{same_command-self, same_command_is}
use Rattle.bracha_instance.proofs.Exported.{same_kind-true, same_kind-refl}
use Rattle.link_frames.specs.frames.Packets.{PacketValue}
use Rattle.role_node.specs.Histories.{packets}
use Rattle.byz_world.specs.Pools.{pool}
use Rattle.byz_world.specs.Runs.{history_of}
use Rattle.byz_world.specs.Worlds.{WorldValue, is_correct_in}
use Rattle.lab_scripts.specs.Rests.{same_packet, was_taken, rests, RestsIsRest}

pub same_truth : {P : Type 0} (a b : Bool) → (IsTrue a ↔ P) → (IsTrue b ↔ P) → a ≡ b
same_truth true true p q = refl
same_truth true false p q = sym (q.1 (p.0 refl))
same_truth false true p q = p.1 (q.0 refl)
same_truth false false p q = refl

-- ---- packets

same_packet_is : (p q : PacketValue) → same_packet p q ≡ true → p ≡ q
same_packet_is p q e =
    let (e1, command) = and_parts _ _ e in
    let (e2, place) = and_parts _ _ e1 in
    let (e3, owner) = and_parts _ _ e2 in
    let (e4, kind) = and_parts _ _ e3 in
    let (from, to) = and_parts _ _ e4 in
    let same_from = eqb-true p.from q.from from in
    let same_to = eqb-true p.to q.to to in
    let same_kind = same_kind-true p.kind q.kind kind in
    let same_owner = eqb-true p.owner q.owner owner in
    let same_place = eqb-true p.place q.place place in
    let same_command = same_command_is p.command q.command command in
    λ i. record {
      from = same_from i;
      to = same_to i;
      kind = same_kind i;
      owner = same_owner i;
      place = same_place i;
      command = same_command i;
    }

same_packet-self : (p : PacketValue) → same_packet p p ≡ true
same_packet-self p =
    and_from _ _ (and_from _ _ (and_from _ _ (and_from _ _ (and_from _ _
    (eq-eqb p.from p.from refl) (eq-eqb p.to p.to refl)) (same_kind-refl p.kind)) (eq-eqb p.owner p.owner refl))
    (eq-eqb p.place p.place refl)) (same_command-self p.command)

-- ---- lists

module _ {X : Type 0} (t : X → Bool) where
  all_contains : (xs : List X) → list_all t xs ≡ true → (x : X) → Contains xs x → t x ≡ true
  all_contains [] all x (i, within, is) = absurd (omega arith)
  all_contains (y ∷ ys) all x (zero, within, is) = ap t (sym is) ∙ (and_parts (t y) (list_all t ys) all).0
  all_contains (y ∷ ys) all x (suc i, within, is) =
      all_contains ys (and_parts (t y) (list_all t ys) all).1 x (i, omega arith, is)

  contains_all : (xs : List X) → ((x : X) → Contains xs x → t x ≡ true) → list_all t xs ≡ true
  contains_all [] each = refl
  contains_all (y ∷ ys) each =
      and_from (t y) (list_all t ys) (each y (zero, omega arith, refl))
      (contains_all ys (λ x c. each x (suc c.0, omega (arith, c.1), c.2)))

  any_contains : (xs : List X) → list_any t xs ≡ true → (x : X) × Contains xs x × (t x ≡ true)
  any_contains [] one = absurd (true≢false (sym one))
  any_contains (y ∷ ys) one = at (t y) refl one (any_contains ys)
    where
      rest : (x : X) × Contains ys x × (t x ≡ true) → (x : X) × Contains (y ∷ ys) x × (t x ≡ true)
      rest (x, c, passes) = (x, (suc c.0, omega (arith, c.1), c.2), passes)

      at : (b : Bool) → t y ≡ b → (b || list_any t ys) ≡ true
          → (list_any t ys ≡ true → (x : X) × Contains ys x × (t x ≡ true))
          → (x : X) × Contains (y ∷ ys) x × (t x ≡ true)
      at true e h below = (y, (zero, omega arith, refl), e)
      at false e h below = rest (below h)

  contains_any : (xs : List X) (x : X) → Contains xs x → t x ≡ true → list_any t xs ≡ true
  contains_any [] x (i, within, is) passes = absurd (omega arith)
  contains_any (y ∷ ys) x (zero, within, is) passes = or_left (t y) (list_any t ys) (ap t is ∙ passes)
  contains_any (y ∷ ys) x (suc i, within, is) passes =
      either (t y) (list_any t ys) (contains_any ys x (i, omega arith, is) passes)
    where
      either : (a b : Bool) → b ≡ true → (a || b) ≡ true
      either true b e = refl
      either false b e = e

-- ---- rest

taken_is : (w : WorldValue) (p : PacketValue) → was_taken w p ≡ true → Contains (packets (history_of p.to w.run)) p
taken_is w p taken =
    let (q, c, same) = any_contains (same_packet p) (packets (history_of p.to w.run)) taken in
    subst (Contains (packets (history_of p.to w.run))) (sym (same_packet_is p q same)) c

is_taken : (w : WorldValue) (p : PacketValue) → Contains (packets (history_of p.to w.run)) p → was_taken w p ≡ true
is_taken w p c = contains_any (same_packet p) (packets (history_of p.to w.run)) p c (same_packet-self p)

pub rests_is_rest : RestsIsRest
unfolding rests
rests_is_rest w = (
  λ yes p c correct.
      taken_is w p (if_correct (is_correct_in w p.to) (was_taken w p) correct
      (all_contains (λ q. not (is_correct_in w q.to) || was_taken w q) (pool w.config w.run) yes p c)),
  λ rest. contains_all (λ q. not (is_correct_in w q.to) || was_taken w q) (pool w.config w.run)
      (λ p c. unless_lies (is_correct_in w p.to) (was_taken w p) (λ correct. is_taken w p (rest p c correct))),
)
  where
    if_correct : (a b : Bool) → a ≡ true → (not a || b) ≡ true → b ≡ true
    if_correct true b e h = h
    if_correct false b e h = absurd (true≢false (sym e))

    unless_lies : (a b : Bool) → (a ≡ true → b ≡ true) → (not a || b) ≡ true
    unless_lies true b h = h refl
    unless_lies false b h = refl
