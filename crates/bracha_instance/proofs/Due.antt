-- When a command may be readied or delivered, and the laws of what is.
use Rattle.std.proofs.Common.{◌≡◌, ℕ, ◌≤◌, true, false, ◌||◌, nat_le, List, [], ◌∷◌, ◌++◌, map}
use Rattle.std.proofs.Common.{find, take, Some, None, option_map, IsSome, ap, ◌∙◌, arith}
use Rattle.std.proofs.lemmas.Bool.{lt-leb, leb-true, le-leb, or_right}
use Rattle.std.proofs.lemmas.List.Folds.{find-append}
use Rattle.std.specs.Ordering.{nat_cmp}
use Rattle.std.specs.FinSet as sets
use Rattle.quorum_sizes.specs.Sizes.{Counts, echo_quorum_of, amplify_of, deliver_of}
use Rattle.role_commands.specs.declared.command.Command.{Command}
use Rattle.role_commands.specs.Same.{same_command}
use Rattle.link_frames.specs.declared.frames.kind.Kind.TheVariants.{Send, Echo, Ready}
use Rattle.bracha_instance.specs.Broadcast.{Take, command_of, is_of_kind, supporters, echoed}
use Rattle.bracha_instance.specs.Broadcast.{readied, delivered, may_ready, may_deliver}
use Rattle.bracha_instance.specs.States.{votes}
use Rattle.bracha_instance.specs.Laws.{ReadiesItsOwn, DeliversItsOwn, EchoStays, ReadyStays, DeliveryStays}
use Rattle.bracha_instance.specs.Laws.{ReadyWasFirst, DeliveryWasFirst, ReadyComes, DeliveryComes}
use Rattle.bracha_instance.specs.inside.Next.{ready_now, deliver_now}
use Rattle.bracha_instance.proofs.Voting.{map_or, or_is, supporters_in-votes, supporters_push-other, supporters-nobody}
use Rattle.bracha_instance.proofs.FirstDue.{due_push, due_stays, due_was_first, due_comes, not_due}

-- By the maps of votes.

pub may_ready-votes : (s : Counts) (ts : List Take) (c : Command)
    → may_ready s ts c ≡ ready_now s c (votes Echo ts) (votes Ready ts)
unfolding may_ready ready_now
may_ready-votes s ts c = λ i.
    nat_le (echo_quorum_of s) (sets.len (supporters_in-votes Echo c ts i))
    || nat_le (amplify_of s) (sets.len (supporters_in-votes Ready c ts i))

pub may_deliver-votes : (s : Counts) (ts : List Take) (c : Command)
    → may_deliver s ts c ≡ deliver_now s c (votes Ready ts)
unfolding may_deliver deliver_now
may_deliver-votes s ts c = λ i. nat_le (deliver_of s) (sets.len (supporters_in-votes Ready c ts i))

pub may_ready-alike : (s : Counts) (ts us : List Take) (c : Command) → supporters Echo c us ≡ supporters Echo c ts
    → supporters Ready c us ≡ supporters Ready c ts → may_ready s us c ≡ may_ready s ts c
unfolding may_ready
may_ready-alike s ts us c echoes readies = λ i.
    nat_le (echo_quorum_of s) (sets.len (echoes i)) || nat_le (amplify_of s) (sets.len (readies i))

pub may_deliver-alike : (s : Counts) (ts us : List Take) (c : Command) → supporters Ready c us ≡ supporters Ready c ts
    → may_deliver s us c ≡ may_deliver s ts c
unfolding may_deliver
may_deliver-alike s ts us c readies = λ i. nat_le (deliver_of s) (sets.len (readies i))

-- One message can make only its own command ready, and a command that no message is for is not.

ready_others : (s : Counts) (ts : List Take) (t : Take) (d : Command) → same_command d t.command ≡ false
    → may_ready s (ts ++ t ∷ []) d ≡ may_ready s ts d
ready_others s ts t d other =
    may_ready-alike s ts (ts ++ t ∷ []) d (supporters_push-other Echo d ts t other)
    (supporters_push-other Ready d ts t other)

deliver_others : (s : Counts) (ts : List Take) (t : Take) (d : Command) → same_command d t.command ≡ false
    → may_deliver s (ts ++ t ∷ []) d ≡ may_deliver s ts d
deliver_others s ts t d other = may_deliver-alike s ts (ts ++ t ∷ []) d (supporters_push-other Ready d ts t other)

too_few : (most n : ℕ) → 1 ≤ most → n ≡ 0 → nat_le most n ≡ false
too_few most n some none = lt-leb most n (omega arith)

ready_nobodys : (s : Counts) (ts : List Take) (d : Command) → find (same_command d) (map command_of ts) ≡ None
    → may_ready s ts d ≡ false
unfolding may_ready
ready_nobodys s ts d none =
    let no_echoes : sets.len (supporters Echo d ts) ≡ 0 = ap sets.len (supporters-nobody Echo d ts none)
    ∙ sets.len-empty nat_cmp in
    let no_readies : sets.len (supporters Ready d ts) ≡ 0 = ap sets.len (supporters-nobody Ready d ts none)
    ∙ sets.len-empty nat_cmp in
    let echoes = too_few (echo_quorum_of s) (sets.len (supporters Echo d ts)) (omega arith) no_echoes in
    let readies = too_few (amplify_of s) (sets.len (supporters Ready d ts)) (omega arith) no_readies in
    λ i. echoes i || readies i

deliver_nobodys : (s : Counts) (ts : List Take) (d : Command) → find (same_command d) (map command_of ts) ≡ None
    → may_deliver s ts d ≡ false
unfolding may_deliver
deliver_nobodys s ts d none =
    too_few (deliver_of s) (sets.len (supporters Ready d ts)) (omega arith)
    (ap sets.len (supporters-nobody Ready d ts none) ∙ sets.len-empty nat_cmp)

-- The laws.

pub readies_its_own : ReadiesItsOwn
unfolding readied
readies_its_own s ts t = due_push (may_ready s) (ready_others s) (ready_nobodys s) ts t

pub delivers_its_own : DeliversItsOwn
unfolding delivered
delivers_its_own s ts t = due_push (may_deliver s) (deliver_others s) (deliver_nobodys s) ts t

pub echo_stays : EchoStays
unfolding echoed
echo_stays before later c e =
    ap (option_map command_of) (find-append (is_of_kind Send) before later)
    ∙ map_or (find (is_of_kind Send) before) (find (is_of_kind Send) later)
    ∙ or_is (option_map command_of (find (is_of_kind Send) before)) _ c e

pub ready_stays : ReadyStays
unfolding readied
ready_stays s before later c e = due_stays (may_ready s) (ready_others s) (ready_nobodys s) before later c e

pub delivery_stays : DeliveryStays
unfolding delivered
delivery_stays s before later c e = due_stays (may_deliver s) (deliver_others s) (deliver_nobodys s) before later c e

pub ready_was_first : ReadyWasFirst
unfolding readied
ready_was_first s ts c e = due_was_first (may_ready s) (ready_others s) (ready_nobodys s) ts c e

pub delivery_was_first : DeliveryWasFirst
unfolding delivered
delivery_was_first s ts c e = due_was_first (may_deliver s) (deliver_others s) (deliver_nobodys s) ts c e

pub ready_comes : ReadyComes
unfolding readied
ready_comes s ts m c is = due_comes (may_ready s) (ready_others s) (ready_nobodys s) ts m c is

pub delivery_comes : DeliveryComes
unfolding delivered
delivery_comes s ts m c is = due_comes (may_deliver s) (deliver_others s) (deliver_nobodys s) ts m c is

-- where nothing is readied, nothing may be
pub not_ready : (s : Counts) (ts : List Take) → readied s ts ≡ None → (c : Command) → may_ready s ts c ≡ false
unfolding readied
not_ready s ts none c = not_due (may_ready s) (ready_others s) (ready_nobodys s) ts none c

-- where nothing is delivered, nothing may be
pub not_deliverable : (s : Counts) (ts : List Take) → delivered s ts ≡ None → (c : Command) → may_deliver s ts c ≡ false
unfolding delivered
not_deliverable s ts none c = not_due (may_deliver s) (deliver_others s) (deliver_nobodys s) ts none c

-- what may be delivered may be readied
pub deliverable_is_ready : (s : Counts) (ts : List Take) (c : Command) → may_deliver s ts c ≡ true
    → may_ready s ts c ≡ true
unfolding may_ready may_deliver
deliverable_is_ready s ts c is =
    let enough = leb-true (deliver_of s) (sets.len (supporters Ready c ts)) is in
    or_right _ _ (le-leb (amplify_of s) (sets.len (supporters Ready c ts)) (omega arith))

-- a node that delivered is ready
pub delivered_is_ready : (s : Counts) (ts : List Take) (c : Command) → delivered s ts ≡ Some c → IsSome (readied s ts)
delivered_is_ready s ts c e =
    let first = delivery_was_first s ts c e in
    ready_comes s ts first.0 c (deliverable_is_ready s (take first.0 ts) c first.2)
