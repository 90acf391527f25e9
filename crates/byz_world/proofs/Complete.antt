-- Where each correct node has taken all about the end of its own stream, an owner's first places are complete.
use Rattle.std.proofs.Common.{◌≡◌, ℕ, zero, suc, ◌<◌, ◌≤◌, inl, inr, ⊎_elim, true}
use Rattle.std.proofs.Common.{[], ◌∷◌, List, length, take, Some, refl, sym, ap, ◌∙◌, subst, length-append, arith}
use Rattle.std.specs.Prelude.{slice_get}
use Rattle.std.proofs.lemmas.Bool.{cases_lt}
use Rattle.std.proofs.lemmas.Option.{slice_get_within}
use Rattle.quorum_sizes.specs.Sizes.{Counts}
use Rattle.quorum_sizes.specs.NodeSets.{Nodes}
use Rattle.role_commands.specs.declared.command.Command.{Command}
use Rattle.bracha_instance.specs.Broadcast.{delivered}
use Rattle.owner_streams.proofs.Exported.{stream_is_exact_lem}
use Rattle.role_node.specs.Configs.{ConfigValue}
use Rattle.role_node.specs.Histories.{issued, packets}
use Rattle.byz_world.specs.Progress.{IsComplete}
use Rattle.byz_world.specs.Runs.{Run, history_of, stream_of, reach_of, is_correct, IsClusterRun}
use Rattle.byz_world.proofs.Histories.{taken_by}
use Rattle.byz_world.proofs.Progress.{some_within}
use Rattle.byz_world.proofs.Rest.{HasTakenAll, IsAtRestAt, IsTakenOrDelivered, delivered_there, reached}
use Rattle.byz_world.proofs.Safety.{streamed, deliver_one, integrity, delivered_was_issued}

-- lists that reach as far as one another up to n, and differ nowhere, begin alike
same_start : (n : ℕ) (xs ys : List Command) → ((m : ℕ) → m ≤ n → m ≤ length xs → m ≤ length ys) →
    ((m : ℕ) → m ≤ n → m ≤ length ys → m ≤ length xs) →
    ((k : ℕ) (c d : Command) → slice_get xs k ≡ Some c → slice_get ys k ≡ Some d → c ≡ d) → take n xs ≡ take n ys
same_start zero xs ys to from same = refl
same_start (suc n) [] [] to from same = refl
same_start (suc n) [] (y ∷ ys) to from same = absurd (omega (arith, from 1 (omega arith) (omega arith)))
same_start (suc n) (x ∷ xs) [] to from same = absurd (omega (arith, to 1 (omega arith) (omega arith)))
same_start (suc n) (x ∷ xs) (y ∷ ys) to from same =
    let first : x ≡ y = same zero x y refl refl in
    let rest : take n xs ≡ take n ys =
    same_start n xs ys
    (λ m few h. omega (arith, to (suc m) (omega (arith, few)) (omega (arith, h))))
    (λ m few h. omega (arith, from (suc m) (omega (arith, few)) (omega (arith, h))))
    (λ k c d e f. same (suc k) c d e f) in
    λ i. first i ∷ rest i

-- each correct node whose stream of the owner ends before this place has taken all about that end
abbrev pub EndsAreTaken : ConfigValue → Nodes → Run → ℕ → ℕ → Type 0
EndsAreTaken config liars run owner places =
    (node : ℕ) → is_correct config.roles.sizes liars node ≡ true → reach_of config run node owner < places →
    HasTakenAll config run node owner (reach_of config run node owner)

module _ (config : ConfigValue) (liars : Nodes) (run : Run) (owner places : ℕ) (cluster : IsClusterRun config liars run)
    (ends : EndsAreTaken config liars run owner places) where
  abbrev s : Counts
  s = config.roles.sizes

  abbrev IsHonest : ℕ → Type 0
  IsHonest name = is_correct s liars name ≡ true

  abbrev ReachesTo : ℕ → ℕ → Type 0
  ReachesTo m name = m ≤ reach_of config run name owner

  taken_to : (m : ℕ) → m < places → (i : ℕ) → IsHonest i → ReachesTo m i → reach_of config run i owner ≤ m →
      HasTakenAll config run i owner m
  taken_to m early i one low high =
      let there : reach_of config run i owner ≡ m = omega (arith, low, high) in
      subst (HasTakenAll config run i owner) there (ends i one (omega (arith, there, early)))

  taken_or_delivered : (m : ℕ) → m < places → ((k : ℕ) → IsHonest k → ReachesTo m k) →
      IsTakenOrDelivered config liars run owner m
  taken_or_delivered m early all i one =
      ⊎_elim
      (λ (past : m < reach_of config run i owner).
      let there = some_within (stream_of config run i owner) m past in
      inr (there.0, streamed config liars run cluster i owner m there.0 there.1))
      (λ (end : reach_of config run i owner ≤ m). inl (taken_to m early i one (all i one) end))
      (cases_lt m (reach_of config run i owner))

  further : (m i : ℕ) (c : Command) → ReachesTo m i → delivered s (taken_by run i owner m) ≡ Some c →
      ReachesTo (suc m) i
  further m i c far now =
      let at : slice_get (stream_of config run i owner) m ≡ Some c =
      sym (stream_is_exact_lem s owner (packets (history_of i run)) m far) ∙ now in
      omega (arith, slice_get_within (stream_of config run i owner) m c at)

  -- how far one correct node's stream of the owner reaches, each does, up to that place
  pub reaches : (m j : ℕ) → m ≤ places → IsHonest j → m ≤ reach_of config run j owner → (i : ℕ) → IsHonest i →
      m ≤ reach_of config run i owner
  reaches zero j few _ h i _ = omega arith
  reaches (suc m) j few one h i other =
      let all : (k : ℕ) → IsHonest k → ReachesTo m k = reaches m j (omega (arith, few)) one (omega (arith, h)) in
      let there = some_within (stream_of config run j owner) m (omega (arith, h)) in
      further m i there.0 (all i other)
      (delivered_there config liars run owner m cluster (taken_or_delivered m (omega (arith, few)) all) j i there.0
      other (streamed config liars run cluster j owner m there.0 there.1))

  -- where one correct node's stream ends, no other goes on
  end_for_all : (m i : ℕ) → m < places → IsHonest i → reach_of config run i owner ≤ m →
      ((k : ℕ) → IsHonest k → ReachesTo m k) → IsAtRestAt config liars run owner m
  end_for_all m i early one end all k other =
      ⊎_elim
      (λ (past : m < reach_of config run k owner).
      absurd (omega (arith, end, reaches (suc m) k (omega (arith, early)) other (omega (arith, past)) i one)))
      (λ (here : reach_of config run k owner ≤ m). taken_to m early k other (all k other) here)
      (cases_lt m (reach_of config run k owner))

  -- .. and as far as a correct owner has issued
  arrives : (m : ℕ) → m ≤ places → IsHonest owner → m ≤ length (issued (history_of owner run)) → (i : ℕ) → IsHonest i →
      m ≤ reach_of config run i owner
  arrives zero few mine long i one = omega arith
  arrives (suc m) few mine long i one =
      let all : (k : ℕ) → IsHonest k → ReachesTo m k = arrives m (omega (arith, few)) mine (omega (arith, long)) in
      let there = some_within (issued (history_of owner run)) m (omega (arith, long)) in
      ⊎_elim
      (λ (past : m < reach_of config run i owner). omega (arith, past))
      (λ (end : reach_of config run i owner ≤ m).
      let rest = end_for_all m i (omega (arith, few)) one end all in
      let now = reached config liars run owner m cluster rest i there.0 one mine there.1 in
      further m i there.0 (all i one) now.was_delivered)
      (cases_lt m (reach_of config run i owner))

  pub complete : IsComplete config liars run owner places
  complete = record {
    alike = λ i j a b.
        same_start places (stream_of config run i owner) (stream_of config run j owner)
        (λ m few h. reaches m i few a h j b) (λ m few h. reaches m j few b h i a)
        (λ k c d e f.
        deliver_one config liars run cluster i j owner k c d
        (streamed config liars run cluster i owner k c e) (streamed config liars run cluster j owner k d f));
    issued_is_delivered = λ i a mine.
        same_start places (stream_of config run i owner) (issued (history_of owner run))
        (λ m few h.
        let front = integrity config liars run i owner cluster a mine in
        let long = ap length (sym front.1) ∙ length-append (stream_of config run i owner) front.0 in
        omega (arith, h, long))
        (λ m few h. arrives m few mine h i a)
        (λ k c d e f.
        let there : slice_get (issued (history_of owner run)) k ≡ Some c =
        delivered_was_issued config liars run cluster i owner k c mine
        (streamed config liars run cluster i owner k c e) in
        let same : Some c ≡ Some d = sym there ∙ f in
        cc);
  }
