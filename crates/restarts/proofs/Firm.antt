-- What holds at each moment of a life: the run is one of a cluster, and stays so when a node crashes, since what was
-- taken in a correct node's name its synced events had sent by then.
use Rattle.std.proofs.Common.{◌≡◌, ⊎_elim, ℕ, ◌==◌, ◌<◌, ◌≤◌, Bool, true, false, List, [], ◌∷◌, ◌++◌, length, take}
use Rattle.std.proofs.Common.{drop, Some, refl, sym, ap, ◌∙◌, subst, arith, length-append, length-take}
use Rattle.std.proofs.Common.{take-append-drop}
use Rattle.std.specs.Prelude.{◌≢◌, IsTrue, slice_get, if◌then◌else◌}
use Rattle.std.specs.FinSet as sets
use Rattle.std.proofs.Math.Seq.{take-append_seam}
use Rattle.std.proofs.lemmas.List.{take-append-le, take_all, take-take}
use Rattle.std.proofs.lemmas.Bool.{both_ways, eq-eqb}
use Rattle.std.proofs.lemmas.Map.Views.{exact_unsigned_eq}
use Rattle.std.proofs.lemmas.Option.{slice_get_within}
use Rattle.quorum_sizes.specs.Sizes.{Counts, AreSizes}
use Rattle.quorum_sizes.specs.NodeSets.{Nodes, nodes_among}
use Rattle.role_commands.proofs.Exported.{slice_get-front}
use Rattle.link_frames.specs.declared.frames.packet.Message.{Message}
use Rattle.link_frames.specs.frames.Packets.{PacketValue, message_of}
use Rattle.role_node.proofs.Exported.{at_push}
use Rattle.role_node.specs.Configs.{ConfigValue}
use Rattle.role_node.specs.Answers.{IsLegal, is_recorded, answer_due}
use Rattle.role_node.specs.declared.event.Event.{Event}
use Rattle.role_node.specs.declared.event.Event.TheVariants.{Take}
use Rattle.byz_world.specs.Runs.{Run, history_of, has_sent, IsCorrect, IsClusterRun}
use Rattle.byz_world.proofs.Exported.{history_of-append, empty_run, cluster_run_push}
use Rattle.restarts.specs.Lives.{Act, Records, Syncs, Crashes, restored_to, Moment, at_first, after, MayRecord, May}
use Rattle.restarts.proofs.Restoring.{own_history, other_history, WasAt, was_at}
use Rattle.restarts.proofs.Sending.{is_said, said_is, known_by, known_by_all, known_by_more}

-- what is taken in the name of a node, it has said by then as far as its past is known
abbrev pub IsSaid : Counts → Moment → ℕ → PacketValue → Run → Type 0
IsSaid s m node p past =
    IsTrue (is_said s p.from (known_by (p.from == node) (m.synced p.from) (history_of p.from past)) (message_of p))

pub record IsFirm (config : ConfigValue) (liars : Nodes) (m : Moment) : Type 0 where
  pub cluster : IsClusterRun config liars m.run
  pub within : (node : ℕ) → m.synced node ≤ length (history_of node m.run)
  pub links : (t node : ℕ) (p : PacketValue) → slice_get m.run t ≡ Some (node, Take p) → IsCorrect config liars p.from →
      IsSaid config.roles.sizes m node p (take t m.run)

-- a prefix of a legal history is legal
legal_front : (config : ConfigValue) (me : ℕ) (front rest : List Event) → IsLegal config me (front ++ rest) →
    IsLegal config me front
legal_front config me front rest legal j event there =
    let within = slice_get_within front j event there in
    subst (λ es. IsTrue (is_recorded (answer_due config me es event)))
    (take-append-le j front rest (omega (arith, within)))
    (legal j event (slice_get-front front rest j within ∙ there))

module _ (config : ConfigValue) (liars : Nodes) where
  abbrev s : Counts
  s = config.roles.sizes

  in_run : (run : Run) (node : ℕ) (message : Message) → IsTrue (is_said s node (history_of node run) message) →
      IsTrue (has_sent s run node message)
  in_run run node message said = subst IsTrue (sym (said_is s run node message)) said

  -- A node records an event.

  said_by : (m : Moment) (node : ℕ) (event : Event) (p : PacketValue) (own : Bool) → (p.from == node) ≡ own →
      MayRecord config liars m node event → event ≡ Take p → IsCorrect config liars p.from →
      IsTrue (is_said s p.from (known_by own (m.synced p.from) (history_of p.from m.run)) (message_of p))
  said_by m node event p true own may is honest =
      let same : p.from ≡ node = exact_unsigned_eq p.from node own in
      let P : ℕ → Type 0 = λ n. IsTrue (has_sent s m.run n (message_of p)) in
      subst IsTrue (said_is s m.run p.from (message_of p)) (subst P (sym same) (may.own p is same))
  said_by m node event p false other may is honest =
      let apart : p.from ≢ node = λ same. both_ways _ other (eq-eqb p.from node same) in
      let left : Run = restored_to p.from m.run (m.synced p.from) in
      subst IsTrue
      (said_is s left p.from (message_of p)
      ∙ ap (λ h. is_said s p.from h (message_of p)) (own_history p.from m.run (m.synced p.from)))
      (may.links p is honest apart)

  firm_records : (m : Moment) (node : ℕ) (event : Event) → IsFirm config liars m → MayRecord config liars m node event →
      IsFirm config liars (after m (Records node event))
  firm_records m node event firm may = record {
    cluster = cluster_run_push config liars m.run node event firm.cluster
        (record {
          correct = may.correct;
          sound = may.sound;
          links = λ p is honest.
              in_run m.run p.from (message_of p)
              (known_by_all s (p.from == node) (m.synced p.from) p.from (history_of p.from m.run) (message_of p)
              (said_by m node event p (p.from == node) refl may is honest));
        })
        may.recorded;
    within = λ n. omega (
      arith,
      firm.within n,
      ap length (history_of-append n m.run ((node, event) ∷ [])),
      length-append (history_of n m.run) (history_of n ((node, event) ∷ [])),
    );
    links = λ t n p there honest.
        ⊎_elim
        (λ (h : (t < length m.run) × (slice_get m.run t ≡ Some (n, Take p))).
        let short : t ≤ length m.run = omega (arith, h.0) in
        subst (IsSaid s m n p) (sym (take-append-le t m.run ((node, event) ∷ []) short)) (firm.links t n p h.1 honest))
        (λ (h : (t ≡ length m.run) × ((node, event) ≡ (n, Take p))).
        let past : take t (m.run ++ (node, event) ∷ []) ≡ m.run =
        ap (λ j. take j (m.run ++ (node, event) ∷ [])) h.0 ∙ take-append_seam m.run ((node, event) ∷ []) in
        subst (IsSaid s m n p) (sym past)
        (subst (λ j. IsSaid s m j p m.run) (ap (λ x. x.0) h.1)
        (said_by m node event p (p.from == node) refl may (ap (λ x. x.1) h.1) honest)))
        (at_push m.run (node, event) t (n, Take p) there);
  }

  -- A node syncs: fronts only grow.

  synced_by : (m : Moment) (node n : ℕ) (own : Bool) → (n == node) ≡ own → IsFirm config liars m →
      (m.synced n ≤ (if own then length (history_of node m.run) else m.synced n))
      × ((if own then length (history_of node m.run) else m.synced n) ≤ length (history_of n m.run))
  synced_by m node n false other firm = (omega arith, firm.within n)
  synced_by m node n true own firm =
      let same : n ≡ node = exact_unsigned_eq n node own in
      let long : length (history_of n m.run) ≡ length (history_of node m.run) =
      ap (λ j. length (history_of j m.run)) same in
      (omega (arith, firm.within n, long), omega (arith, long))

  pub synced_more : (m : Moment) (node n : ℕ) → IsFirm config liars m → m.synced n ≤ (after m (Syncs node)).synced n
  synced_more m node n firm = (synced_by m node n (n == node) refl firm).0

  firm_syncs : (m : Moment) (node : ℕ) → IsFirm config liars m → IsFirm config liars (after m (Syncs node))
  firm_syncs m node firm = record {
    cluster = firm.cluster;
    within = λ n. (synced_by m node n (n == node) refl firm).1;
    links = λ t n p there honest.
        known_by_more s (p.from == n) (m.synced p.from) _ p.from (history_of p.from (take t m.run)) (message_of p)
        (synced_more m node p.from firm) (firm.links t n p there honest);
  }

  -- A node crashes, and keeps all that it had synced.

  front_by : (m : Moment) (node count n : ℕ) (run : Run) (own : Bool) → (n == node) ≡ own → m.synced node ≤ count →
      take (m.synced n) (history_of n (restored_to node run count)) ≡ take (m.synced n) (history_of n run)
  front_by m node count n run false other enough = ap (take (m.synced n)) (other_history node n run count other)
  front_by m node count n run true own enough =
      let same : n ≡ node = exact_unsigned_eq n node own in
      let P : ℕ → Type 0 =
      λ j. take (m.synced j) (history_of j (restored_to node run count)) ≡ take (m.synced j) (history_of j run) in
      subst P (sym same)
      (ap (take (m.synced node)) (own_history node run count)
      ∙ take-take (m.synced node) count (history_of node run) enough)

  pub front_stays : (m : Moment) (node count n : ℕ) (run : Run) → m.synced node ≤ count →
      take (m.synced n) (history_of n (restored_to node run count)) ≡ take (m.synced n) (history_of n run)
  front_stays m node count n run enough = front_by m node count n run (n == node) refl enough

  within_by : (m : Moment) (node count n : ℕ) (own : Bool) → (n == node) ≡ own → m.synced node ≤ count →
      IsFirm config liars m → m.synced n ≤ length (history_of n (restored_to node m.run count))
  within_by m node count n false other enough firm =
      omega (arith, firm.within n, ap length (other_history node n m.run count other))
  within_by m node count n true own enough firm =
      let same : n ≡ node = exact_unsigned_eq n node own in
      let P : ℕ → Type 0 = λ j. m.synced j ≤ length (history_of j (restored_to node m.run count)) in
      subst P (sym same)
      (omega (
        arith,
        firm.within node,
        enough,
        ap length (own_history node m.run count),
        length-take count (history_of node m.run),
      ))

  legal_by : (node count n : ℕ) (run : Run) (own : Bool) → (n == node) ≡ own → IsLegal config n (history_of n run) →
      IsLegal config n (history_of n (restored_to node run count))
  legal_by node count n run false other legal =
      subst (IsLegal config n) (sym (other_history node n run count other)) legal
  legal_by node count n run true own legal =
      let same : n ≡ node = exact_unsigned_eq n node own in
      let h : List Event = history_of n run in
      let front : history_of n (restored_to node run count) ≡ take count h =
      ap (λ j. history_of n (restored_to j run count)) (sym same) ∙ own_history n run count in
      subst (IsLegal config n) (sym front)
      (legal_front config n (take count h) (drop count h)
      (subst (IsLegal config n) (sym (take-append-drop count h)) legal))

  -- of a pair that stands, no less is known than before
  known_before : (m : Moment) (node count t n from : ℕ) (event : Event) (own : Bool) → (from == n) ≡ own →
      m.synced node ≤ count → (was : WasAt node m.run count t (n, event)) →
      known_by own (m.synced from) (history_of from (take t (restored_to node m.run count)))
      ≡ known_by own (m.synced from) (history_of from (take was.at m.run))
  known_before m node count t n from event false other enough was =
      ap (λ (r : Run). take (m.synced from) (history_of from r)) was.past
      ∙ front_stays m node count from (take was.at m.run) enough
  known_before m node count t n from event true own enough was =
      ap (λ (r : Run). history_of from r) was.past ∙ whole (from == node) refl
    where
      past : Run
      past = take was.at m.run

      whole : (crashed : Bool) → (from == node) ≡ crashed →
          history_of from (restored_to node past count) ≡ history_of from past
      whole false apart = other_history node from past count apart
      whole true crashed =
          let same : from ≡ node = exact_unsigned_eq from node crashed in
          let early = was.early (ap (λ j. j == node) (sym (exact_unsigned_eq from n own)) ∙ crashed) in
          let P : ℕ → Type 0 = λ j. history_of j (restored_to node past count) ≡ history_of j past in
          subst P (sym same)
          (own_history node past count ∙ take_all count (history_of node past) (omega (arith, early)))

  links_stay : (m : Moment) (node count : ℕ) → IsFirm config liars m → m.synced node ≤ count →
      (t n : ℕ) (p : PacketValue) → slice_get (restored_to node m.run count) t ≡ Some (n, Take p) →
      IsCorrect config liars p.from → IsSaid s m n p (take t (restored_to node m.run count))
  links_stay m node count firm enough t n p there honest =
      let was = was_at node m.run count t (n, Take p) there in
      subst (λ h. IsTrue (is_said s p.from h (message_of p)))
      (sym (known_before m node count t n p.from (Take p) (p.from == n) refl enough was))
      (firm.links was.at n p was.there honest)

  firm_crashes : (m : Moment) (node count : ℕ) → IsFirm config liars m → m.synced node ≤ count →
      IsFirm config liars (after m (Crashes node count))
  firm_crashes m node count firm enough = record {
    cluster = record {
      sizes = firm.cluster.sizes;
      few = firm.cluster.few;
      correct = λ t n event there.
          let was = was_at node m.run count t (n, event) there in firm.cluster.correct was.at n event was.there;
      legal = λ n. legal_by node count n m.run (n == node) refl (firm.cluster.legal n);
      sound = λ t n p there.
          let was = was_at node m.run count t (n, Take p) there in firm.cluster.sound was.at n p was.there;
      links = λ t n p there honest.
          let past : Run = take t (restored_to node m.run count) in
          in_run past p.from (message_of p)
          (known_by_all s (p.from == n) (m.synced p.from) p.from (history_of p.from past) (message_of p)
          (links_stay m node count firm enough t n p there honest));
    };
    within = λ n. within_by m node count n (n == node) refl enough firm;
    links = links_stay m node count firm enough;
  }

  pub firm_after : (m : Moment) (act : Act) → IsFirm config liars m → May config liars m act →
      IsFirm config liars (after m act)
  firm_after m (Records node event) firm may = firm_records m node event firm may
  firm_after m (Syncs node) firm may = firm_syncs m node firm
  firm_after m (Crashes node count) firm may = firm_crashes m node count firm may

  pub firm_first : AreSizes s → sets.len (nodes_among s liars) ≤ s.liars → IsFirm config liars at_first
  firm_first sizes few = record {
    cluster = empty_run config liars sizes few;
    within = λ node. omega arith;
    links = λ t node p there honest. absurd cc;
  }
