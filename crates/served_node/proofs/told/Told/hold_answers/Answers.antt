use Rattle.std.proofs.Common.{arith, rules, ◌≡◌, ◌+◌, ◌<◌, ◌++◌, ◌∷◌, [], Option, length, sym, ap, subst, ◌∙◌}
use Rattle.std.specs.Prelude.{All, IsTrue, is_some, take}
use Rattle.std.proofs.Math.Seq.{take-suc}
use native.Mathlib.Numerals.{unary_clauses}
use Rattle.std.proofs.lemmas.Grind.{common_steps}
use Rattle.std.proofs.lemmas.List.{flat_map_more}
use Rattle.std.proofs.lemmas.List.Elements.{All-nil, All-cons, All-append}
use Rattle.served_node.specs.declared.told.LineAnswer.{LineAnswer}
use Rattle.served_node.proofs.told.Told.hold_answers.Goals as goal

pub loop-answer-preserved : goal.loop-answer-preserved
loop-answer-preserved c =
    let answers = c.in-Some.answers.now in
    let i = c.loop-answer.answer-index in
    let answer = c.answer-item.result in
    let has = λ (a : Option LineAnswer). IsTrue (is_some a) in
    let there : i < length answers = search rules in
    let one_more : take i answers ++ answer ∷ [] ≡ take (i + 1) answers =
    simp unary_clauses (ap (λ (a : Option LineAnswer). take i answers ++ a ∷ []) c.answer-item.is
    ∙ sym (take-suc answers i answer there)) in
    let some : IsTrue (is_some answer) = search rules in (
      grind (arith, common_steps, flat_map_more),
      subst (All has) one_more (All-append has (take i answers) (answer ∷ []) c.loop-answer.invariant.1
          (All-cons has answer [] some (All-nil has))),
    )
