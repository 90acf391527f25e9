-- Messages that a member takes, one after another, and what came of each.
use Rattle.std.proofs.Common.{◌≡◌, ℕ, zero, suc, ◌+◌, ◌<◌, ◌≤◌, List, [], ◌∷◌, ◌++◌, length, take}
use Rattle.std.proofs.Common.{Option, Some, None, refl, sym, ap, ◌∙◌, append-nil, append_assoc, length-append}
use Rattle.std.proofs.Common.{arith, take_all}
use Rattle.std.specs.Prelude.{slice_get}
use Rattle.role_node.specs.Nodes.{NodeValue}
use Rattle.byz_world.specs.Pools.{Sent}
use Rattle.byz_world.specs.inside.Blocks.{after_take, after_takes, mark_due, marks_due, member_after}
use Rattle.byz_world.specs.inside.Blocks.{member_marks, all_passed}
use Rattle.byz_world.specs.inside.Blocks.{mark_in, TookFirst}
use Rattle.byz_world.specs.declared.block.Mark.{Mark}
use Rattle.byz_world.specs.declared.block.Mark.TheVariants.{Passed}

pub after_takes-none : (node : NodeValue) → after_takes node [] ≡ node
unfolding after_takes
after_takes-none node = refl

pub after_takes-push : (node : NodeValue) (sent : List Sent) (s : Sent) →
    after_takes node (sent ++ s ∷ []) ≡ after_take (after_takes node sent) s
unfolding after_takes
after_takes-push node [] s = refl
after_takes-push node (first ∷ sent) s = after_takes-push (after_take node first) sent s

pub marks_due-push : (node : NodeValue) (sent : List Sent) (s : Sent) →
    marks_due node (sent ++ s ∷ []) ≡ marks_due node sent ++ mark_due (after_takes node sent) s ∷ []
unfolding after_takes marks_due
marks_due-push node [] s = refl
marks_due-push node (first ∷ sent) s = ap (λ ms. mark_due node first ∷ ms)
    (marks_due-push (after_take node first) sent s)

marks_due-length : (node : NodeValue) (sent : List Sent) → length (marks_due node sent) ≡ length sent
unfolding marks_due
marks_due-length node [] = refl
marks_due-length node (first ∷ sent) = ap suc (marks_due-length (after_take node first) sent)

passed-length : (sent : List Sent) → length (all_passed sent) ≡ length sent
unfolding all_passed
passed-length [] = refl
passed-length (first ∷ sent) = ap suc (passed-length sent)

passed-push : (sent : List Sent) (s : Sent) → all_passed (sent ++ s ∷ []) ≡ all_passed sent ++ Passed ∷ []
unfolding all_passed
passed-push [] s = refl
passed-push (first ∷ sent) s = ap (λ ms. Passed ∷ ms) (passed-push sent s)

pub member_marks-length : (member : Option NodeValue) (sent : List Sent) →
    length (member_marks member sent) ≡ length sent
member_marks-length None sent = passed-length sent
member_marks-length (Some node) sent = marks_due-length node sent

pub member_after-none : (member : Option NodeValue) → member_after member [] ≡ member
member_after-none None = refl
member_after-none (Some node) = ap Some (after_takes-none node)

member_marks-none : (member : Option NodeValue) → member_marks member [] ≡ []
unfolding marks_due all_passed
member_marks-none None = refl
member_marks-none (Some node) = refl

-- the mark of a message
marks_due-at : (node : NodeValue) (sent : List Sent) (j : ℕ) (s : Sent) → slice_get sent j ≡ Some s →
    slice_get (marks_due node sent) j ≡ Some (mark_due (after_takes node (take j sent)) s)
unfolding marks_due after_takes
marks_due-at node [] j s at = absurd cc
marks_due-at node (first ∷ sent) zero s at = let same : first ≡ s = cc in ap (λ x. Some (mark_due node x)) same
marks_due-at node (first ∷ sent) (suc j) s at = marks_due-at (after_take node first) sent j s at

passed-at : (sent : List Sent) (j : ℕ) (s : Sent) → slice_get sent j ≡ Some s → slice_get
    (all_passed sent) j ≡ Some Passed
unfolding all_passed
passed-at [] j s at = absurd cc
passed-at (first ∷ sent) zero s at = refl
passed-at (first ∷ sent) (suc j) s at = passed-at sent j s at

pub member_marks-at : (member : Option NodeValue) (sent : List Sent) (j : ℕ) (s : Sent) → slice_get sent j ≡ Some s →
    slice_get (member_marks member sent) j ≡ Some (mark_in member (take j sent) s)
member_marks-at None sent j s at = passed-at sent j s at
member_marks-at (Some node) sent j s at = marks_due-at node sent j s at

-- As the code has it.

pub took_none : (member : Option NodeValue) (sent : List Sent) (marks : List Mark) →
    TookFirst 0 member member sent marks marks
took_none member sent marks = record {
  within = omega arith;
  member = sym (member_after-none member);
  marks = sym (ap (λ ms. marks ++ ms) (member_marks-none member) ∙ append-nil marks);
}

pub took_next : {count : ℕ} {old node node' : NodeValue} {sent : List Sent} {before marks marks' : List Mark} →
    (s : Sent) (mark : Mark) → TookFirst count (Some old) (Some node) sent before marks → count < length sent →
    take (count + 1) sent ≡ take count sent ++ s ∷ [] → node' ≡ after_take node s → mark ≡ mark_due node s →
    marks' ≡ marks ++ mark ∷ [] → TookFirst (count + 1) (Some old) (Some node') sent before marks'
took_next {count} {old} {node} {node'} {sent} {before} {marks} {marks'} s mark took more longer node_is mark_is
    marks_are =
    let was : node ≡ after_takes old (take count sent) = cc in
    record {
      within = omega (arith, more);
      member = ap Some (node_is ∙ ap (λ n. after_take n s) was ∙ sym (after_takes-push old (take count sent) s)
          ∙ ap (after_takes old) (sym longer));
      marks = marks_are ∙ (λ i. took.marks i ++ (mark_is ∙ ap (λ n. mark_due n s) was) i ∷ [])
          ∙ append_assoc before (marks_due old (take count sent)) _
          ∙ ap (λ ms. before ++ ms) (sym (marks_due-push old (take count sent) s)
          ∙ ap (marks_due old) (sym longer));
    }

pub passed_next : {count : ℕ} {sent : List Sent} {before marks marks' : List Mark} → (s : Sent) →
    TookFirst count None None sent before marks → count < length sent →
    take (count + 1) sent ≡ take count sent ++ s ∷ [] →
    marks' ≡ marks ++ Passed ∷ [] → TookFirst (count + 1) None None sent before marks'
passed_next {count} {sent} {before} {marks} {marks'} s took more longer marks_are =
    record {
      within = omega (arith, more);
      member = refl;
      marks = marks_are ∙ ap (λ ms. ms ++ Passed ∷ []) took.marks
          ∙ append_assoc before (all_passed (take count sent)) _
          ∙ ap (λ ms. before ++ ms) (sym (passed-push (take count sent) s) ∙ ap all_passed (sym longer));
    }

pub took-length : {count : ℕ} {old new : Option NodeValue} {sent : List Sent} {before marks : List Mark} →
    TookFirst count old new sent before marks → length marks ≡ length before + length (take count sent)
took-length {count} {old} {new} {sent} {before} {marks} took =
    ap length took.marks ∙ length-append before (member_marks old (take count sent))
    ∙ ap (λ n. length before + n) (member_marks-length old (take count sent))

pub took_all : {count : ℕ} {old new : Option NodeValue} {sent : List Sent} {before marks : List Mark} →
    TookFirst count old new sent before marks → length sent ≤ count → length marks ≡ length before + length sent
took_all {count} {old} {new} {sent} {before} {marks} took over =
    took-length took ∙ ap (λ xs. length before + length xs) (take_all count sent over)
