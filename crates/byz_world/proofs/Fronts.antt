-- The first events of a run are a run, and the first events of a node's history are its history in such a one.
use Rattle.std.proofs.Common.{◌≡◌, ℕ, zero, suc, ◌==◌, ◌<◌, Bool, true, false, List, [], ◌∷◌, length, take}
use Rattle.std.proofs.Common.{Some, refl, sym, ap, ◌∙◌, subst, arith}
use Rattle.std.specs.Prelude.{IsTrue, slice_get}
use Rattle.std.proofs.lemmas.List.{take-append-le, take-take}
use Rattle.std.proofs.lemmas.Map.Views.{exact_unsigned_eq}
use Rattle.std.proofs.lemmas.Option.{slice_get_within}
use Rattle.link_frames.specs.frames.Packets.{message_of}
use Rattle.role_node.specs.Answers.{answer_due, is_recorded, IsLegal}
use Rattle.role_node.specs.Configs.{ConfigValue}
use Rattle.role_node.specs.declared.event.Event.{Event}
use Rattle.role_node.specs.declared.event.Event.TheVariants.{Take}
use Rattle.byz_world.specs.Laws.{FrontsAreRuns}
use Rattle.byz_world.specs.Runs.{Run, history_of, has_sent}
use Rattle.byz_world.proofs.Elements.{at_front}
use Rattle.byz_world.proofs.Histories.{history_front}
use Rattle.byz_world.proofs.Lists.{IsFront, slice_get-taken}
use Rattle.byz_world.proofs.Pushing.{history_of-none, history_of-own, history_of-other}

legal_front : (config : ConfigValue) (node : ℕ) (front history : List Event) → IsFront front history →
    IsLegal config node history → IsLegal config node front
legal_front config node front history is legal k event at =
    let rest : List Event = is.0 in
    let there : slice_get history k ≡ Some event =
    ap (λ h. slice_get h k) is.1 ∙ at_front front rest k event at in
    let early : k < length front = slice_get_within front k event at in
    let past : take k history ≡ take k front =
    ap (take k) is.1 ∙ take-append-le k front rest (omega (arith, early)) in
    subst (λ es. IsTrue (is_recorded (answer_due config node es event))) past (legal k event there)

pub fronts_are_runs : FrontsAreRuns
fronts_are_runs config liars run count cluster = record {
  sizes = cluster.sizes;
  few = cluster.few;
  correct = λ t node event there. cluster.correct t node event (slice_get-taken count run t (node, event) there).1;
  legal = λ node.
      legal_front config node (history_of node (take count run)) (history_of node run)
      (history_front count run node) (cluster.legal node);
  sound = λ t node p there. cluster.sound t node p (slice_get-taken count run t (node, Take p) there).1;
  links = λ t node p there honest.
      let early = slice_get-taken count run t (node, Take p) there in
      subst (λ past. IsTrue (has_sent config.roles.sizes past p.from (message_of p)))
      (sym (take-take t count run (omega (arith, early.0)))) (cluster.links t node p early.1 honest);
}

-- the run whose history of the node is this one
pub record IsFrontAt (node : ℕ) (run : Run) (front : List Event) : Type 0 where
  pub count : ℕ
  pub is : front ≡ history_of node (take count run)

front_by : (node k : ℕ) (pair : ℕ × Event) (run : Run) (b : Bool) → (pair.0 == node) ≡ b →
    ((k : ℕ) → IsFrontAt node run (take k (history_of node run))) →
    IsFrontAt node (pair ∷ run) (take (suc k) (history_of node (pair ∷ run)))
front_by node k pair run true own fronts =
    let same : pair.0 ≡ node = exact_unsigned_eq pair.0 node own in
    let next : (later : Run) → history_of node (pair ∷ later) ≡ pair.1 ∷ history_of node later =
    λ later. ap (λ n. history_of node ((n, pair.1) ∷ later)) same ∙ history_of-own node pair.1 later in
    let front = fronts k in
    record {
      count = suc front.count;
      is = ap (take (suc k)) (next run) ∙ ap (λ es. pair.1 ∷ es) front.is ∙ sym (next (take front.count run));
    }
front_by node k pair run false other fronts =
    let front = fronts (suc k) in
    record {
      count = suc front.count;
      is = ap (take (suc k)) (history_of-other node pair run other) ∙ front.is
          ∙ sym (history_of-other node pair (take front.count run) other);
    }

pub front_of_history : (node : ℕ) (run : Run) (k : ℕ) → IsFrontAt node run (take k (history_of node run))
front_of_history node run zero = record { count = 0; is = sym (history_of-none node) }
front_of_history node [] (suc k) = record {
  count = 0;
  is = ap (take (suc k)) (history_of-none node) ∙ sym (history_of-none node);
}
front_of_history node (pair ∷ run) (suc k) =
    front_by node k pair run (pair.0 == node) refl (λ j. front_of_history node run j)
