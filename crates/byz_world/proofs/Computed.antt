-- What the messages of an instance cause, by counts that compute.
use Rattle.std.proofs.Common.{◌≡◌, ℕ, zero, suc, ◌+◌, ◌<◌, max, ◌||◌, nat_le, List}
use Rattle.std.proofs.Common.{[], ◌∷◌, slice_get, Option, Some, ap, ◌∙◌, arith}
use Rattle.std.specs.FinSet as sets
use Rattle.quorum_sizes.specs.Sizes.{Counts, echo_quorum_of, amplify_of, deliver_of}
use Rattle.quorum_sizes.proofs.Exported.{count, len-count}
use Rattle.role_commands.specs.declared.command.Command.{Command}
use Rattle.link_frames.specs.declared.frames.kind.Kind.{Kind}
use Rattle.link_frames.specs.declared.frames.kind.Kind.TheVariants.{Echo, Ready}
use Rattle.bracha_instance.specs.Prefixes.{at_first_prefix}
use Rattle.bracha_instance.specs.Broadcast.{Take, is_for, vote, supporters, may_ready}
use Rattle.bracha_instance.specs.Broadcast.{may_deliver, command_that, readied, delivered}
use Rattle.bracha_instance.proofs.Exported.{contains-supporters}
use Rattle.byz_world.proofs.Votes.{vote_found, supporter_voted}

-- each name is below this one
unfoldable pub names_end : List Take → ℕ
names_end [] = 0
names_end (t ∷ takes) = max (t.from + 1) (names_end takes)

below_end : (takes : List Take) (t : Take) (k : ℕ) → slice_get takes k ≡ Some t → t.from < names_end takes
unfolding names_end
below_end [] t k e = absurd cc
below_end (u ∷ takes) t zero e = let same : u.from ≡ t.from = let is : u ≡ t = cc in ap (λ x. x.from) is in omega arith
below_end (u ∷ takes) t (suc k) e = let later = below_end takes t k e in omega arith

-- how many nodes' vote is for c
abbrev pub backers : Kind → Command → List Take → ℕ
backers kind c takes = count (λ name. is_for c (vote kind name takes)) (names_end takes)

len-supporters : (kind : Kind) (c : Command) (takes : List Take)
    → sets.len (supporters kind c takes) ≡ backers kind c takes
len-supporters kind c takes =
    len-count (names_end takes) (supporters kind c takes)
    (λ name is.
    let found = vote_found kind name takes c (supporter_voted kind c takes name is) in
    rw found.3 at (below_end takes found.0 found.1.0 found.1.1))
    ∙ (λ i. count (λ name. contains-supporters kind c takes name i) (names_end takes))

abbrev pub readied_now : Counts → List Take → Option Command
readied_now s takes =
    at_first_prefix (λ past.
    command_that (λ c. nat_le (echo_quorum_of s) (backers Echo c past) || nat_le (amplify_of s)
    (backers Ready c past)) past) takes

abbrev pub delivered_now : Counts → List Take → Option Command
delivered_now s takes = at_first_prefix
    (λ past. command_that (λ c. nat_le (deliver_of s) (backers Ready c past)) past) takes

pub readied-now : (s : Counts) (takes : List Take) → readied s takes ≡ readied_now s takes
unfolding readied may_ready
readied-now s takes = λ i.
    at_first_prefix (λ past.
    command_that (λ c.
    nat_le (echo_quorum_of s) (len-supporters Echo c past i) || nat_le (amplify_of s)
    (len-supporters Ready c past i)) past) takes

pub delivered-now : (s : Counts) (takes : List Take) → delivered s takes ≡ delivered_now s takes
unfolding delivered may_deliver
delivered-now s takes = λ i.
    at_first_prefix (λ past. command_that (λ c. nat_le (deliver_of s) (len-supporters Ready c past i)) past) takes
