-- How many packets are about an owner's first places.
use Rattle.std.proofs.Common.{◌≡◌, ℕ, zero, suc, ◌+◌, ◌*◌, ◌<◌, ◌≤◌, ◌⊎◌, inl, inr, ⊎_elim, Bool, true, false}
use Rattle.std.proofs.Common.{cond, ◌&&◌, ◌==◌, List, [], ◌∷◌, length, Some, None, refl, ap, ◌∙◌, arith, ltb-true}
use Rattle.std.specs.Prelude.{if◌then◌else◌, nat_lt, count_by, slice_index_or}
use Rattle.std.proofs.lemmas.Bool.{lt-ltb, eq-eqb, cases_lt}
use Rattle.std.proofs.lemmas.List.Elements.{All-weaker}
use Rattle.link_frames.specs.frames.Packets.{PacketValue, SentByOwner, IsSound}
use Rattle.std.specs.List.{cons_option}
use Rattle.bracha_instance.specs.Broadcast.{Take}
use Rattle.owner_streams.specs.Places.{take_of, takes_at}
use Rattle.owner_streams.specs.Steps.{SendsAreOwners}
use Rattle.role_node.specs.Histories.{packets}
use Rattle.role_node.specs.Work.{most_at_place}
use Rattle.role_node.proofs.Exported.{few_at_place}
use Rattle.owner_shares.specs.Laws.{is_before, OwnerIsBounded}
use Rattle.owner_shares.proofs.Counting.{count-cons, count_none, count_either, none_below}

-- the next place is at this one, or before it
at_or_before : (place places : ℕ) → nat_lt place (suc places) ≡ true →
    (nat_lt place places ≡ true) ⊎ ((place == places) ≡ true)
at_or_before place places is =
    let within : place < suc places = ltb-true place (suc places) is in
    ⊎_elim (λ (early : place < places). inl (lt-ltb place places early))
    (λ (late : places ≤ place). inr (eq-eqb place places (omega (arith, within, late)))) (cases_lt place places)

-- the packet is about this place of the owner's
abbrev is_at : ℕ → ℕ → PacketValue → Bool
is_at owner place p = (p.owner == owner) && (p.place == place)

count-at : (owner place : ℕ) (ps : List PacketValue) →
    count_by (is_at owner place) ps ≡ length (takes_at owner place ps)
unfolding takes_at
count-at owner place [] = refl
count-at owner place (p ∷ ps) =
    count-cons (is_at owner place) p ps
    ∙ by (is_at owner place p) (take_of p) (takes_at owner place ps) (count-at owner place ps)
  where
    by : (b : Bool) (t : Take) (ts : List Take) {n : ℕ} → n ≡ length ts →
        cond b 1 0 + n ≡ length (cons_option (if b then Some t else None) ts)
    by true t ts e = omega (arith, e)
    by false t ts e = omega (arith, e)

in_either : (own next early here : Bool) → (next ≡ true → (early ≡ true) ⊎ (here ≡ true)) →
    (own && next) ≡ true → ((own && early) ≡ true) ⊎ ((own && here) ≡ true)
in_either true next early here h is = h is
in_either false next early here h is = inl is

by_place : (owner places : ℕ) (ps : List PacketValue) →
    count_by (is_before owner (suc places)) ps
    ≤ count_by (is_before owner places) ps + length (takes_at owner places ps)
by_place owner places ps =
    let either = count_either (is_before owner (suc places)) (is_before owner places) (is_at owner places) ps
    (λ k d h. let p : PacketValue = slice_index_or ps k d in
    in_either (p.owner == owner) (nat_lt p.place (suc places)) (nat_lt p.place places) (p.place == places)
    (at_or_before p.place places)) in
    omega (arith, either, count-at owner places ps)

none_before : (owner : ℕ) (p : PacketValue) → is_before owner zero p ≡ false
none_before owner p = ap (λ b. (p.owner == owner) && b) (none_below p.place) ∙ by (p.owner == owner)
  where
    by : (b : Bool) → (b && false) ≡ false
    by true = refl
    by false = refl

pub owner_is_bounded : OwnerIsBounded
owner_is_bounded config me history owner zero legal sound =
    omega (arith, count_none (is_before owner zero) (none_before owner) (packets history))
owner_is_bounded config me history owner (suc places) legal sound =
    let most : ℕ = most_at_place config.roles.sizes in
    let owned : SendsAreOwners (packets history) =
    All-weaker IsSound SentByOwner (λ p is. is.0) (packets history) sound in
    let few = few_at_place config me history owner places legal owned in
    let more = by_place owner places (packets history) in
    let rest = owner_is_bounded config me history owner places legal sound in
    let product : suc places * most ≡ most + places * most = grind arith in
    omega (arith, few, more, rest, product)
