-- A packet of a window that is lacked, or none; and how those that are given come to an end.
use Rattle.std.proofs.Common.{◌≡◌, ℕ, zero, suc, ◌+◌, ◌*◌, ◌<◌, ◌≤◌, ◌⊎◌, inl, inr, ⊎_elim, Bool, true, false, cond}
use Rattle.std.proofs.Common.{◌&&◌, List, [], ◌∷◌, ◌++◌, length, Option, Some, sym, ap, ◌∙◌, subst}
use Rattle.std.proofs.Common.{length-append, arith}
use Rattle.std.specs.Prelude.{filter, nat_le, nat_lt, slice_get, Contains}
use Rattle.std.proofs.lemmas.Bool.{and_parts, and_from, leb-true, le-leb, ltb-true, lt-ltb, eq-eqb}
use Rattle.std.proofs.lemmas.List.Elements.{Contains-append_cases, filter-append}
use Rattle.quorum_sizes.specs.NodeSets.{Nodes}
use Rattle.link_frames.specs.frames.Packets.{PacketValue}
use Rattle.role_node.specs.Configs.{ConfigValue}
use Rattle.role_node.specs.Histories.{packets}
use Rattle.role_node.specs.Windows.{last_vote_at, window_from, window_to, IsInWindow}
use Rattle.role_node.specs.declared.event.Event.TheVariants as event
use Rattle.role_node.specs.Work.{most_at_place}
use Rattle.byz_world.specs.Progress.{IsWanted, IsComplete, is_about}
use Rattle.byz_world.specs.Runs.{Run, history_of, IsClusterRun}
use Rattle.byz_world.specs.Windows.{IsLacked, IsHealed, IsHealing, IsCompleteOrLacked, WindowsHeal}
use Rattle.byz_world.proofs.Bounds.{about_is_bounded}
use Rattle.byz_world.proofs.Histories.{taken_in_run}
use Rattle.byz_world.proofs.GivenOut.{wanted_is_new}
use Rattle.byz_world.proofs.Pushing.{history_of-append}
use Rattle.byz_world.proofs.Quiet.{packets-append, wanted_of}
use Rattle.byz_world.proofs.Windows.{windows_suffice}

abbrev in_window : Option ℕ → ℕ → Bool
in_window last place = nat_le (window_from last) place && nat_lt place (window_to last)

pub healed_or_lacked : (config : ConfigValue) (liars : Nodes) (run : Run) (owner places : ℕ) →
    IsClusterRun config liars run → IsHealed config liars run owner places
    ⊎ ((p : PacketValue) × IsLacked config liars run p × (p.owner ≡ owner) × (p.place < places))
healed_or_lacked config liars run owner places cluster =
    let test : PacketValue → Bool = λ p. in_window (last_vote_at (history_of p.from run) p.owner p.to) p.place in
    ⊎_elim
    (λ (none : (p : PacketValue) → IsWanted config liars run p → p.owner ≡ owner → p.place < places →
    test p ≡ true → ⊥).
    inl (λ p lacked own early.
    let there = lacked.in_window in
    none p lacked.wanted own early (and_from _ _ (le-leb _ _ there.from) (lt-ltb _ _ there.to))))
    (λ (one : (p : PacketValue) × IsWanted config liars run p × (p.owner ≡ owner) × (p.place < places)
    × (test p ≡ true)).
    let both = and_parts _ _ one.4 in
    let there : IsInWindow (last_vote_at (history_of one.0.from run) one.0.owner one.0.to) one.0.place =
    record { from = leb-true _ _ both.0; to = ltb-true _ _ both.1 } in
    inr (one.0, record { wanted = one.1; in_window = there }, one.2, one.3))
    (wanted_of config liars run owner places test cluster)

pub complete_or_lacked : IsCompleteOrLacked
complete_or_lacked config liars run owner places cluster =
    ⊎_elim
    (λ (healed : IsHealed config liars run owner places).
    inl (windows_suffice config liars run owner places cluster healed))
    (λ (one : (p : PacketValue) × IsLacked config liars run p × (p.owner ≡ owner) × (p.place < places)). inr one)
    (healed_or_lacked config liars run owner places cluster)

-- How much is recorded.

some_kept : {A : Type 0} (test : A → Bool) (xs : List A) (k : ℕ) (x : A) → slice_get xs k ≡ Some x → test x ≡ true →
    1 ≤ length (filter test xs)
some_kept test [] k x at is = absurd cc
some_kept {A} test (y ∷ xs) zero x at is =
    let same : y ≡ x = cc in by (test y) (ap test same ∙ is)
  where
    by : (b : Bool) → b ≡ true → 1 ≤ length (cond b (y ∷ filter test xs) (filter test xs))
    by true e = omega arith
    by false e = absurd cc
some_kept {A} test (y ∷ xs) (suc k) x at is = by (test y) (some_kept test xs k x at is)
  where
    by : (b : Bool) → 1 ≤ length (filter test xs) → 1 ≤ length (cond b (y ∷ filter test xs) (filter test xs))
    by true some = omega arith
    by false some = some

-- how many packets about the owner's first places the run records
abbrev recorded : ℕ → ℕ → Run → ℕ
recorded owner places run = length (filter (is_about owner places) run)

-- a packet that counted, and then was recorded, is one more
one_more : (config : ConfigValue) (liars : Nodes) (run more : Run) (owner places : ℕ) (p : PacketValue) →
    IsClusterRun config liars run → IsWanted config liars run p → p.owner ≡ owner → p.place < places →
    Contains (packets (history_of p.to (run ++ more))) p →
    recorded owner places run + 1 ≤ recorded owner places (run ++ more)
one_more config liars run more owner places p cluster wanted own early now =
    let long : packets (history_of p.to (run ++ more))
    ≡ packets (history_of p.to run) ++ packets (history_of p.to more) =
    ap packets (history_of-append p.to run more) ∙ packets-append (history_of p.to run) (history_of p.to more) in
    let C : List PacketValue → Type 0 = λ ps. Contains ps p in
    let late : Contains (packets (history_of p.to more)) p =
    ⊎_elim
    (λ (was : Contains (packets (history_of p.to run)) p).
    absurd (wanted_is_new config liars run p cluster wanted was))
    (λ (new : Contains (packets (history_of p.to more)) p). new)
    (Contains-append_cases (packets (history_of p.to run)) (packets (history_of p.to more)) p (subst C long now)) in
    let from = taken_in_run more p.to p late in
    let is : is_about owner places (p.to, event.Take p) ≡ true =
    and_from _ _ (eq-eqb p.owner owner own) (lt-ltb p.place places early) in
    let some = some_kept (is_about owner places) more from.0 (p.to, event.Take p) from.2 is in
    let both : recorded owner places (run ++ more) ≡ recorded owner places run + recorded owner places more =
    ap length (filter-append (is_about owner places) run more)
    ∙ length-append (filter (is_about owner places) run) (filter (is_about owner places) more) in
    omega (arith, some, both)

module _ (config : ConfigValue) (liars : Nodes) (moments : ℕ → Run) (owner places : ℕ)
    (healing : IsHealing config liars moments owner places) where
  abbrev HealedBefore : ℕ → Type 0
  HealedBefore k = (j : ℕ) × (j < k) × IsHealed config liars (moments j) owner places

  next : (k : ℕ) (p : PacketValue) → IsLacked config liars (moments k) p → p.owner ≡ owner → p.place < places →
      Contains (packets (history_of p.to (moments (suc k)))) p →
      recorded owner places (moments k) + 1 ≤ recorded owner places (moments (suc k))
  next k p lacked own early now =
      let on = healing.goes_on k in
      let C : Run → Type 0 = λ run. Contains (packets (history_of p.to run)) p in
      let R : Run → Type 0 = λ run. recorded owner places (moments k) + 1 ≤ recorded owner places run in
      subst R (sym on.1)
      (one_more config liars (moments k) on.0 owner places p (healing.runs k) lacked.wanted own early
      (subst C on.1 now))

  -- healed at an earlier moment, or as much is recorded as moments have passed
  passed : (k : ℕ) → HealedBefore k ⊎ (k ≤ recorded owner places (moments k))
  passed zero = inr (omega arith)
  passed (suc k) =
      ⊎_elim
      (λ (before : HealedBefore k). inl (before.0, omega (arith, before.1), before.2))
      (λ (few : k ≤ recorded owner places (moments k)).
      ⊎_elim
      (λ (healed : IsHealed config liars (moments k) owner places). inl (k, omega arith, healed))
      (λ (one : (p : PacketValue) × IsLacked config liars (moments k) p × (p.owner ≡ owner) × (p.place < places)
      × Contains (packets (history_of p.to (moments (suc k)))) p).
      inr (omega (arith, few, next k one.0 one.1 one.2 one.3 one.4)))
      (healing.given k))
      (passed k)

  within : (most : ℕ) → ((k : ℕ) → recorded owner places (moments k) ≤ most) →
      (k : ℕ) × (k ≤ most) × IsComplete config liars (moments k) owner places
  within most bounded =
      ⊎_elim
      (λ (before : HealedBefore (suc most)).
      let k : ℕ = before.0 in
      (k, omega (arith, before.1), windows_suffice config liars (moments k) owner places (healing.runs k) before.2))
      (λ (past : suc most ≤ recorded owner places (moments (suc most))).
      absurd (omega (arith, past, bounded (suc most))))
      (passed (suc most))

pub windows_heal : WindowsHeal
windows_heal config liars moments owner places healing =
    within config liars moments owner places healing
    (config.roles.sizes.nodes * (places * most_at_place config.roles.sizes))
    (λ k. about_is_bounded config liars (moments k) owner places (healing.runs k))
