-- How many packets wait, and the owner with most.
use Rattle.std.proofs.Common.{◌≡◌, ⊎_elim, ℕ, zero, suc, ◌+◌, ◌-◌, ◌<◌, ◌≤◌, List, [], ◌∷◌, length, take, get_or}
use Rattle.std.proofs.Common.{◌∙◌, refl, sym, ap, subst, arith}
use Rattle.std.specs.Prelude.{slice_set}
use Rattle.std.proofs.lemmas.Bool.{cases_lt}
use Rattle.std.proofs.lemmas.List.{length-take, get_or_read, get_or_past, set_past}
use Rattle.std.proofs.lemmas.List.Sums.{sum_by-cons, sum_by-set}
use Rattle.link_frames.specs.frames.Packets.{PacketValue}
use Rattle.frame_queues.specs.Parking.{Parked, parked_in, parked_count, IsFullest, IsRelieved, IsParked}
use Rattle.frame_queues.specs.Firsts.{FirstValue, IsFirstParked}

-- where no owner has any packet none waits
none_wait : (all : Parked) → ((owner : ℕ) → owner < length all → length (parked_in all owner) ≤ 0) →
    parked_count all ≡ 0
none_wait [] none = refl
none_wait (xs ∷ all) none =
    let first = none zero (omega arith) in
    let rest = none_wait all (λ owner within. none (suc owner) (omega (arith, within))) in
    omega (arith, sum_by-cons length xs all, first, rest)

-- of some packets one is dropped
pub one_fewer : (all new : Parked) → IsRelieved all new → 0 < parked_count all →
    parked_count new + 1 ≡ parked_count all
one_fewer all new (owner, fullest, is) some =
    let xs = parked_in all owner in
    let filled : 0 < length xs =
    ⊎_elim (λ (less : 0 < length xs). less)
    (λ (none : length xs ≤ 0).
    absurd (omega (arith, some, none_wait all (λ other within. omega (arith, fullest.most other within, none)))))
    (cases_lt 0 (length xs)) in
    rw is
    (omega (
      arith,
      sum_by-set length all owner (take (length xs - 1) xs) [] fullest.there,
      filled,
      length-take (length xs - 1) xs,
    ))

-- the owner with most packets has lost its last
pub relieved_by : (all : Parked) (owner : ℕ) (before now : List PacketValue) → IsFullest all owner →
    before ≡ get_or all owner before → now ≡ take (length before - 1) before →
    IsRelieved all (slice_set all owner now)
relieved_by all owner before now fullest read is = (
  owner,
  fullest,
  ap (λ xs. slice_set all owner xs)
      (is ∙ ap (λ xs. take (length xs - 1) xs) (get_or_read all owner before fullest.there read [])),
)

-- a packet waits among those of its peer
pub first_parked : (p : PacketValue) (old : FirstValue) (at : ℕ) (before now : Parked) → at ≡ p.from →
    at < length old.parked → before ≡ get_or old.parked at before → IsParked p before now →
    IsFirstParked p old (record old { parked = slice_set old.parked at now })
first_parked p old at before now same within read parked = (
  now,
  subst (λ all. IsParked p all now)
      (get_or_read old.parked at before within read [] ∙ ap (λ k. get_or old.parked k []) same) parked,
  ap (λ k. record old { parked = slice_set old.parked k now }) same,
)

-- where a peer has no list nothing waits
pub first_nowhere : (p : PacketValue) (old : FirstValue) → length old.parked ≤ p.from → IsFirstParked p old old
first_nowhere p old past = (
  [],
  subst (λ all. IsParked p all []) (sym (get_or_past old.parked p.from [] past))
      (record { fits = λ few. refl; relieved = λ many. absurd (omega (arith, many)) }),
  ap (λ parked. record old { parked = parked }) (sym (set_past old.parked p.from [] past)),
)
