-- A cluster run stays one when a correct node records an event that is true of the links.
use Rattle.std.proofs.Common.{◌≡◌, ℕ, ◌<◌, ◌≤◌, ⊎_elim, Bool, true, false, ◌==◌, List, []}
use Rattle.std.proofs.Common.{◌∷◌, ◌++◌, length, take, Some, refl, sym, ap, ◌∙◌, subst, arith}
use Rattle.std.specs.Prelude.{IsTrue, slice_get}
use Rattle.std.proofs.Math.Seq.{take-append_seam}
use Rattle.std.proofs.lemmas.List.{take-append-le}
use Rattle.std.proofs.lemmas.Map.Views.{exact_unsigned_eq}
use Rattle.std.specs.FinSet as sets
use Rattle.quorum_sizes.specs.Sizes.{AreSizes}
use Rattle.quorum_sizes.specs.NodeSets.{Nodes, nodes_among}
use Rattle.link_frames.specs.frames.Packets.{message_of}
use Rattle.role_node.proofs.Exported.{at_push}
use Rattle.role_node.specs.Answers.{answer_due, is_recorded, IsLegal}
use Rattle.role_node.specs.Configs.{ConfigValue}
use Rattle.role_node.specs.declared.event.Event.{Event}
use Rattle.role_node.specs.declared.event.Event.TheVariants.{Take}
use Rattle.byz_world.specs.Runs.{Run, history_of, is_correct, has_sent, IsClusterRun}
use Rattle.byz_world.specs.inside.Kept.{MayFollow}
use Rattle.byz_world.proofs.Pushing.{history_of-none, history_of-push, history_of-push_other}

-- one more recorded event leaves a history legal
pub legal_push : (config : ConfigValue) (me : ℕ) (history : List Event) (e : Event) → IsLegal config me history →
    is_recorded (answer_due config me history e) ≡ true → IsLegal config me (history ++ e ∷ [])
legal_push config me history e legal recorded k f at =
    let P : List Event → Type 0 = λ past. IsTrue (is_recorded (answer_due config me past f)) in
    ⊎_elim
    (λ (h : (k < length history) × (slice_get history k ≡ Some f)).
    let short : k ≤ length history = omega (arith, h.0) in
    subst P (sym (take-append-le k history (e ∷ []) short)) (legal k f h.1))
    (λ (h : (k ≡ length history) × (e ≡ f)).
    let past : take k (history ++ e ∷ []) ≡ history = ap (λ n. take n (history ++ e ∷ [])) h.0
    ∙ take-append_seam history (e ∷ []) in
    let Q : Event → Type 0 = λ x. IsTrue (is_recorded (answer_due config me history x)) in
    subst P (sym past) (subst Q h.1 recorded))
    (at_push history e k f at)

legal_by : (config : ConfigValue) (run : Run) (at : ℕ) (e : Event) (node : ℕ) (b : Bool) → (at == node) ≡ b →
    IsLegal config node (history_of node run) → is_recorded (answer_due config at (history_of at run) e) ≡ true →
    IsLegal config node (history_of node (run ++ (at, e) ∷ []))
legal_by config run at e node false other legal recorded =
    subst (IsLegal config node) (sym (history_of-push_other node (at, e) run other)) legal
legal_by config run at e node true own legal recorded =
    let same : at ≡ node = exact_unsigned_eq at node own in
    let P : ℕ → Type 0 = λ n. is_recorded (answer_due config n (history_of n run) e) ≡ true in
    let now : IsLegal config node (history_of node (run ++ (node, e) ∷ [])) =
    subst (IsLegal config node) (sym (history_of-push node e run))
    (legal_push config node (history_of node run) e legal (subst P same recorded)) in
    let Q : ℕ → Type 0 = λ n. IsLegal config node (history_of node (run ++ (n, e) ∷ [])) in
    subst Q (sym same) now

pub cluster_run_push : (config : ConfigValue) (liars : Nodes) (run : Run) (at : ℕ) (e : Event)
    → IsClusterRun config liars run →
    MayFollow config liars run at e → is_recorded (answer_due config at (history_of at run) e) ≡ true →
    IsClusterRun config liars (run ++ (at, e) ∷ [])
cluster_run_push config liars run at e is may recorded =
    record {
      sizes = is.sizes;
      few = is.few;
      correct = λ t node event there.
          ⊎_elim
          (λ (h : (t < length run) × (slice_get run t ≡ Some (node, event))). is.correct t node event h.1)
          (λ (h : (t ≡ length run) × ((at, e) ≡ (node, event))).
          let P : ℕ → Type 0 = λ n. IsTrue (is_correct config.roles.sizes liars n) in
          subst P (ap (λ x. x.0) h.1) may.correct)
          (at_push run (at, e) t (node, event) there);
      legal = λ node. legal_by config run at e node _ refl (is.legal node) recorded;
      sound = λ t node p there.
          ⊎_elim
          (λ (h : (t < length run) × (slice_get run t ≡ Some (node, Take p))). is.sound t node p h.1)
          (λ (h : (t ≡ length run) × ((at, e) ≡ (node, Take p))). may.sound p (ap (λ x. x.1) h.1))
          (at_push run (at, e) t (node, Take p) there);
      links = λ t node p there honest.
          let P : Run → Type 0 = λ past. IsTrue (has_sent config.roles.sizes past p.from (message_of p)) in
          ⊎_elim
          (λ (h : (t < length run) × (slice_get run t ≡ Some (node, Take p))).
          let short : t ≤ length run = omega (arith, h.0) in
          subst P (sym (take-append-le t run ((at, e) ∷ []) short)) (is.links t node p h.1 honest))
          (λ (h : (t ≡ length run) × ((at, e) ≡ (node, Take p))).
          let past : take t (run ++ (at, e) ∷ []) ≡ run = ap (λ n. take n (run ++ (at, e) ∷ [])) h.0
          ∙ take-append_seam run ((at, e) ∷ []) in
          subst P (sym past) (may.links p (ap (λ x. x.1) h.1) honest))
          (at_push run (at, e) t (node, Take p) there);
    }

-- before anything has happened
pub empty_run : (config : ConfigValue) (liars : Nodes) → AreSizes config.roles.sizes →
    sets.len (nodes_among config.roles.sizes liars) ≤ config.roles.sizes.liars → IsClusterRun config liars []
empty_run config liars sizes few =
    record {
      sizes = sizes;
      few = few;
      correct = λ t node event there. absurd cc;
      legal = λ node. subst (IsLegal config node) (sym (history_of-none node)) (λ k event there. absurd cc);
      sound = λ t node p there. absurd cc;
      links = λ t node p there honest. absurd cc;
    }
