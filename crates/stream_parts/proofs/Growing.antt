-- A long run with one act more.
use Rattle.std.proofs.Common.{◌≡◌, ⊎_elim, ℕ, ◌==◌, ◌<◌, ◌≤◌, Bool, true, false, List, [], ◌∷◌, ◌++◌, length, take}
use Rattle.std.proofs.Common.{slice_get, Some, None, refl, sym, ap, ◌∙◌, subst, arith, append-nil}
use Rattle.std.specs.Prelude.{IsTrue, if◌then◌else◌}
use Rattle.std.specs.List.{filter_map, cons_option}
use Rattle.std.specs.FinSet as sets
use Rattle.std.proofs.Math.Seq.{take-append_seam}
use Rattle.std.proofs.lemmas.List.{take-append-le}
use Rattle.std.proofs.lemmas.Map.Views.{exact_unsigned_eq}
use Rattle.quorum_sizes.specs.Sizes.{AreSizes}
use Rattle.quorum_sizes.specs.NodeSets.{Nodes, nodes_among}
use Rattle.link_frames.specs.frames.Packets.{PacketValue, IsSound, message_of}
use Rattle.role_node.specs.declared.event.Event.TheVariants.{Take}
use Rattle.role_node.proofs.Exported.{at_push}
use Rattle.part_lives.specs.Parts.{Plan, Part, Act, In, Adopts}
use Rattle.part_lives.specs.Lives.{IsPlan, is_due, IsLife}
use Rattle.part_lives.proofs.Acts.{life_push}
use Rattle.role_commands.specs.declared.command.Command.{Command}
use Rattle.stream_parts.specs.LongRuns.{LongRun, act_at, acts_of, IsCorrectIn, has_sent_in, MayAdopt, IsLongRun}
use Rattle.stream_parts.proofs.Origins.{acts-append}

abbrev pub own_or : Bool → Act → List Act → List Act
own_or true act acts = act ∷ acts
own_or false act acts = acts

-- a life, pair by pair
pub next : (node : ℕ) (pair : ℕ × Act) (run : LongRun) (b : Bool) → (pair.0 == node) ≡ b →
    acts_of node (pair ∷ run) ≡ own_or b pair.1 (acts_of node run)
unfolding acts_of
next node pair run true is = ap (λ b. cons_option (if b then Some pair.1 else None) (filter_map (act_at node) run)) is
next node pair run false is = ap (λ b. cons_option (if b then Some pair.1 else None) (filter_map (act_at node) run)) is

pub acts-none : (node : ℕ) → acts_of node [] ≡ []
unfolding acts_of
acts-none node = refl

pub acts_push : (node n : ℕ) (act : Act) (run : LongRun) (b : Bool) → (node == n) ≡ b →
    acts_of n (run ++ (node, act) ∷ []) ≡ (if b then acts_of n run ++ act ∷ [] else acts_of n run)
acts_push node n act run true is =
    acts-append n run ((node, act) ∷ [])
    ∙ ap (λ l. acts_of n run ++ l) (next n (node, act) [] true is ∙ ap (λ l. act ∷ l) (acts-none n))
acts_push node n act run false is =
    acts-append n run ((node, act) ∷ [])
    ∙ ap (λ l. acts_of n run ++ l) (next n (node, act) [] false is ∙ acts-none n) ∙ append-nil (acts_of n run)

pub lives_by : (plan : Plan) (run : LongRun) (node n : ℕ) (act : Act) (b : Bool) → (node == n) ≡ b →
    ((j : ℕ) → IsLife plan j (acts_of j run)) → IsTrue (is_due plan node (acts_of node run) act) →
    IsLife plan n (if b then acts_of n run ++ act ∷ [] else acts_of n run)
lives_by plan run node n act true is lives due =
    let same : node ≡ n = exact_unsigned_eq node n is in
    life_push plan n (acts_of n run) act (lives n)
    (subst (λ j. IsTrue (is_due plan j (acts_of j run) act)) same due)
lives_by plan run node n act false is lives due = lives n

pub long_run_none : (plan : Plan) (liars : Nodes) → IsPlan plan → AreSizes plan.roles.sizes →
    sets.len (nodes_among plan.roles.sizes liars) ≤ plan.roles.sizes.liars → IsLongRun plan liars []
long_run_none plan liars is sizes few = record {
  is_plan = is;
  sizes = sizes;
  few = few;
  correct = λ t node act there. absurd cc;
  lives = λ node. subst (IsLife plan node) (sym (acts-none node)) (λ k act there. absurd cc);
  adopts = λ t node owner number past there. absurd cc;
  sound = λ t node part p there. absurd cc;
  links = λ t node part p there honest. absurd cc;
}

-- what may come behind a long run
pub record MayFollow (plan : Plan) (liars : Nodes) (run : LongRun) (node : ℕ) (act : Act) : Type 0 where
  pub correct : IsCorrectIn plan liars node
  pub due : IsTrue (is_due plan node (acts_of node run) act)
  pub adopts : (owner number : ℕ) (past : List Command) → act ≡ Adopts owner number past →
      MayAdopt plan liars run owner past
  pub sound : (part : Part) (p : PacketValue) → act ≡ In part (Take p) → IsSound p
  pub links : (part : Part) (p : PacketValue) → act ≡ In part (Take p) → IsCorrectIn plan liars p.from →
      IsTrue (has_sent_in plan.roles.sizes run part p.from (message_of p))

pub long_run_push : (plan : Plan) (liars : Nodes) (run : LongRun) (node : ℕ) (act : Act) → IsLongRun plan liars run →
    MayFollow plan liars run node act → IsLongRun plan liars (run ++ (node, act) ∷ [])
long_run_push plan liars run node act long may = record {
  is_plan = long.is_plan;
  sizes = long.sizes;
  few = long.few;
  correct = λ t n a there.
      ⊎_elim
      (λ (h : (t < length run) × (slice_get run t ≡ Some (n, a))). long.correct t n a h.1)
      (λ (h : (t ≡ length run) × (◌≡◌ {A = ℕ × Act} (node, act) (n, a))).
      subst (IsCorrectIn plan liars) (ap (λ x. x.0) h.1) may.correct)
      (at_push run (node, act) t (n, a) there);
  lives = λ n.
      subst (IsLife plan n) (sym (acts_push node n act run (node == n) refl))
      (lives_by plan run node n act (node == n) refl long.lives may.due);
  adopts = λ t n owner number past there.
      ⊎_elim
      (λ (h : (t < length run) × (slice_get run t ≡ Some (n, Adopts owner number past))).
      subst (λ r. MayAdopt plan liars r owner past) (sym (take-append-le t run ((node, act) ∷ []) (omega (arith, h.0))))
      (long.adopts t n owner number past h.1))
      (λ (h : (t ≡ length run) × (◌≡◌ {A = ℕ × Act} (node, act) (n, Adopts owner number past))).
      let front : take t (run ++ (node, act) ∷ []) ≡ run =
      ap (λ j. take j (run ++ (node, act) ∷ [])) h.0 ∙ take-append_seam run ((node, act) ∷ []) in
      subst (λ r. MayAdopt plan liars r owner past) (sym front) (may.adopts owner number past (ap (λ x. x.1) h.1)))
      (at_push run (node, act) t (n, Adopts owner number past) there);
  sound = λ t n part p there.
      ⊎_elim
      (λ (h : (t < length run) × (slice_get run t ≡ Some (n, In part (Take p)))). long.sound t n part p h.1)
      (λ (h : (t ≡ length run) × (◌≡◌ {A = ℕ × Act} (node, act) (n, In part (Take p)))).
      may.sound part p (ap (λ x. x.1) h.1))
      (at_push run (node, act) t (n, In part (Take p)) there);
  links = λ t n part p there honest.
      ⊎_elim
      (λ (h : (t < length run) × (slice_get run t ≡ Some (n, In part (Take p)))).
      subst (λ r. IsTrue (has_sent_in plan.roles.sizes r part p.from (message_of p)))
      (sym (take-append-le t run ((node, act) ∷ []) (omega (arith, h.0)))) (long.links t n part p h.1 honest))
      (λ (h : (t ≡ length run) × (◌≡◌ {A = ℕ × Act} (node, act) (n, In part (Take p)))).
      let past : take t (run ++ (node, act) ∷ []) ≡ run =
      ap (λ j. take j (run ++ (node, act) ∷ [])) h.0 ∙ take-append_seam run ((node, act) ∷ []) in
      subst (λ r. IsTrue (has_sent_in plan.roles.sizes r part p.from (message_of p))) (sym past)
      (may.links part p (ap (λ x. x.1) h.1) honest))
      (at_push run (node, act) t (n, In part (Take p)) there);
}
