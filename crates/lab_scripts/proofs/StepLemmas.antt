-- The steps of a world, as a script takes them.
use Rattle.std.proofs.Common.{◌≡◌, ℕ, ◌<◌, false, cond, List, Some, None, Result, Ok, Err, refl, sym, ap, ◌∙◌}
use Rattle.std.specs.Prelude.{IfOk, OnOk}
use Rattle.std.specs.Option.{option_map_or}
use Rattle.std.proofs.lemmas.Bool.{lt-ltb, true≢false}
use Rattle.role_node.specs.Listed.{IsWithin, answer_after}
use Rattle.role_node.specs.Questions.{IsAnswerTo}
use Rattle.role_node.specs.declared.question.Answer.{Answer}
use Rattle.role_node.specs.declared.question.Question.{Question}
use Rattle.role_node.proofs.Exported.{one_answer}
use Rattle.byz_world.specs.Asking.{question_due, IsQuestionAnswer}
use Rattle.byz_world.specs.Faults.{world_fault_text}
use Rattle.byz_world.specs.Runs.{history_of}
use Rattle.byz_world.specs.Steps.{after_step, IsStepAnswer}
use Rattle.byz_world.specs.Worlds.{WorldValue}
use Rattle.byz_world.specs.declared.faults.WorldFault.{WorldFault}
use Rattle.byz_world.specs.declared.faults.WorldFault.TheVariants as fault
use Rattle.byz_world.specs.declared.step.Step.{Step}
use Rattle.byz_world.specs.declared.step.Step.TheVariants.{Give}
use Rattle.lab_scripts.specs.Labs.{Lab, pool_length, with_number, given_after}
use Rattle.lab_scripts.specs.OrderTexts.{answer_text, asked_text}
use Rattle.lab_scripts.specs.inside.Kept.{is_want_of_memory}
use Rattle.byz_world.proofs.Exported.{refused_after}

-- ---- answers

pub not_memory : (f : WorldFault) → is_want_of_memory f ≡ false → f ≡ fault.Memory → ⊥
not_memory f known is = true≢false (sym (ap is_want_of_memory is) ∙ known)

-- a step that is refused leaves the world
pub refused_leaves : (w new : WorldValue) (step : Step) (f : WorldFault) → IsStepAnswer w step (Err f)
    → is_want_of_memory f ≡ false → new ≡ w → new ≡ after_step w step
refused_leaves w new step f is known same = same ∙ refused_after w step f is (not_memory f known)

pub OnOk-from : {S E : Type 0} {P : Type 0} (r : Result S E) → P → OnOk r P
OnOk-from (Ok s) p = p
OnOk-from (Err e) p = tt

-- ---- packets that are given

-- a packet of the pool is found
pub given-found : (lab : Lab) (number : ℕ) → number < pool_length lab.world
    → given_after lab (Give number) ≡ with_number lab.given number
given-found lab number found =
    ap (λ b. cond b (with_number lab.given number) lab.given) (lt-ltb number (pool_length lab.world) found)

-- ---- questions

-- there is one answer
pub asked_ok : {S E : Type 0} (bytes : S → List ℕ) (w : WorldValue) (node : ℕ) (q : Question) (a : Answer)
    (r : Result S E)
    → question_due w node q ≡ None → IsAnswerTo w.config.roles (history_of node w.run) q a
    → IsWithin a → IfOk r (λ t. bytes t ≡ answer_text a) → IfOk r (λ t. bytes t ≡ asked_text w node q)
asked_ok bytes w node q a (Ok t) due is within told =
    let history = history_of node w.run in
    let one = one_answer w.config.roles history q a is within in
    told ∙ ap answer_text one
    ∙ ap (λ o. option_map_or world_fault_text o (answer_text (answer_after w.config.roles history q))) (sym due)
asked_ok bytes w node q a (Err e) due is within told = tt
