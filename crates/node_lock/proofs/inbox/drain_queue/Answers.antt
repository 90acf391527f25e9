use Rattle.std.proofs.Common.{◌≡◌, ◌+◌, Bool, true, List, []}
use Rattle.std.proofs.Common.{◌∷◌, ◌++◌, length, ap, ◌∙◌, refl, arith}
use Rattle.std.specs.Prelude.{count_by}
use Rattle.std.proofs.lemmas.List.Sums.{sum_by-append, sum_by-cons}
use Rattle.crossbeam_queue.specs.Passes.{view}
use Rattle.node_lock.specs.inside.InboxRule.{pass_counts, put_in, taken_in, IsEven}
use Rattle.node_lock.specs.Inboxes.{inbox_parts}
use Rattle.node_lock.specs.declared.inbox.PassCounts.{PassCounts}
use Rattle.node_lock.specs.declared.job.Job.{Job}
use Rattle.node_lock.proofs.InboxMoves.{learns, takes}
use Rattle.node_lock.proofs.inbox.drain_queue.Goals as goal

every : (xs : List Job) → count_by (λ (x : Job). true) xs ≡ length xs
every [] = refl
every (x ∷ xs) = sum_by-cons (λ (y : Job). 1) x xs ∙ let h = every xs in omega arith

-- what is even after some jobs were taken is even with these as what is left
none_left : (v w : PassCounts) (left items : List Job) → w ≡ pass_counts inbox_parts v.put (v.taken ++ left) →
    IsEven w items → items
    ≡ [] →
    IsEven v left
none_left v w left items is even none test =
    let e : put_in test w ≡ taken_in test w + count_by test items = even test in
    let p : put_in test w ≡ put_in test v = ap (put_in test) is in
    let t : taken_in test w ≡ count_by test (v.taken ++ left) = ap (taken_in test) is in
    let s : count_by test (v.taken ++ left) ≡ taken_in test v + count_by test left = sum_by-append _ v.taken left in
    let z : count_by test items ≡ 0 = ap (count_by test) none in
    omega arith

empty : (items : List Job) → length items ≡ 0 → items ≡ []
empty [] e = refl
empty (x ∷ xs) e = absurd (omega arith)

-- where as many were taken as there were, none is left
all_taken : (v w : PassCounts) (left before items : List Job) → w ≡ pass_counts inbox_parts v.put (v.taken ++ left) →
    IsEven v before → IsEven w items → length left ≡ length before → items ≡ []
all_taken v w left before items is was even same =
    let test : Job → Bool = λ x. true in
    let e : put_in test w ≡ taken_in test w + count_by test items = even test in
    let f : put_in test v ≡ taken_in test v + count_by test before = was test in
    let p : put_in test w ≡ put_in test v = ap (put_in test) is in
    let t : taken_in test w ≡ count_by test (v.taken ++ left) = ap (taken_in test) is in
    let s : count_by test (v.taken ++ left) ≡ taken_in test v + count_by test left = sum_by-append _ v.taken left in
    let a = every left in
    let b = every before in
    let c = every items in
    empty items (omega arith)

pub len_as-count-requires-clause-rule : goal.len_as-count-requires-clause-rule
len_as-count-requires-clause-rule g c = learns _ _ c.requires.parts

pub pop_as-requires-clause-rule : goal.pop_as-requires-clause-rule
pop_as-requires-clause-rule g c =
    let whole : (view c.loop-i.all).parts ≡ inbox_parts = ap (λ (v : PassCounts). v.parts) c.loop-i.invariant.known in
    (takes _ _ (omega arith), learns _ _ whole)

pub learn_as-requires-clause-rule : goal.learn_as-requires-clause-rule
learn_as-requires-clause-rule g c =
    let whole : (view c.loop-i.all).parts ≡ inbox_parts = ap (λ (v : PassCounts). v.parts) c.loop-i.invariant.known in
    learns _ _ whole

pub returns-in_default : goal.returns-in_default
returns-in_default g c =
    let held = c.in_default.ensures.rule in
    none_left (view c.args.all) (view c.loop-i.all) c.loop-i.left.items held.1.0 c.loop-i.invariant.known held.1.2
    (empty held.1.0 held.1.1)

pub returns : goal.returns
returns g c =
    let held = c.learn_as.ensures.rule in
    let before = c.len_as-count.ensures.rule.1 in
    let same : length c.loop-i.left.items ≡ length before.0 = let n = before.1 in omega arith in
    none_left (view c.args.all) (view c.loop-i.all) c.loop-i.left.items held.0 c.loop-i.invariant.known held.1
    (all_taken (view c.args.all) (view c.loop-i.all) c.loop-i.left.items before.0 held.0 c.loop-i.invariant.known
    before.2 held.1 same)
