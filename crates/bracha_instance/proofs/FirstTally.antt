-- The tally of the command whose vote came first, and those of the others: what a change of one of them is to all.
use Rattle.std.proofs.Common.{◌≡◌, true, cond, List, [], ◌∷◌, map, Option, Some, None, sym, ap, ◌∙◌}
use Rattle.std.proofs.Common.{ℕ, subst}
use Rattle.std.specs.FinMap as maps
use Rattle.std.specs.FinSet as sets
use Rattle.role_commands.specs.declared.command.Command.{Command}
use Rattle.role_commands.specs.Same.{same_command}
use Rattle.bracha_instance.specs.inside.Tallies.{TallyValue, no_names, names_in_tally, all_of, is_tally_of, with_tally}
use Rattle.bracha_instance.specs.inside.Tallies.{Tallied, tallied, AreTallies, votes_of, with_vote, voted_by}
use Rattle.bracha_instance.specs.inside.Tallies.{IsFirstChanged, IsOther, names_for, echo_row, ready_row, support_in}
use Rattle.bracha_instance.specs.declared.tallies.Support.{Support}
use Rattle.bracha_instance.specs.declared.tallies.Vote.{Vote}
use Rattle.bracha_instance.proofs.Same.{same_command-refl}
use Rattle.bracha_instance.proofs.TallyLemmas.{tallied-vote, AreTallies-vote}

-- One more vote, where all tallies are these.

pub tallied_one : (k : Vote) (tallies now : List TallyValue) (p : ℕ) (c : Command) (v : Tallied) → tallied tallies ≡ v
    → maps.get (votes_of k v) p ≡ None → now ≡ with_tally (voted_by k p) c tallies → tallied now ≡ with_vote k v p c
tallied_one k tallies now p c v kept none is =
    ap tallied is
    ∙ tallied-vote k tallies p c (ap (λ (w : Tallied). maps.get (votes_of k w) p) kept ∙ none)
    ∙ ap (λ w. with_vote k w p c) kept

pub are_with_vote : (k : Vote) (tallies now : List TallyValue) (p : ℕ) (c : Command) (v : Tallied)
    → tallied tallies ≡ v → maps.get (votes_of k v) p ≡ None → now ≡ with_tally (voted_by k p) c tallies
    → AreTallies tallies → AreTallies now
are_with_vote k tallies now p c v kept none is are =
    subst AreTallies (sym is)
    (AreTallies-vote k tallies p c (ap (λ (w : Tallied). maps.get (votes_of k w) p) kept ∙ none) are)

-- The first is changed.

pub all_of-changed : (change : TallyValue → TallyValue) (c : Command) (old new : Option TallyValue) (support : Support)
    (others : List TallyValue) → IsFirstChanged change c old new support → (old ≡ None → others ≡ [])
    → all_of new others ≡ with_tally change c (all_of old others)
unfolding with_tally
all_of-changed change c None new support others is none =
    ap (λ first. all_of first others) is.0
    ∙ ap (λ ts. change (no_names c) ∷ ts) (none (λ i. None))
    ∙ sym (ap (with_tally change c) (none (λ i. None)))
all_of-changed change c (Some t) new support others is none =
    ap (λ first. all_of first others) is.1
    ∙ sym (ap (λ b. cond b (change t ∷ others) (t ∷ with_tally change c others)) is.0)

-- a tally at the front has the supporters of its command
front_support : (c : Command) (t : TallyValue) (others : List TallyValue) → is_tally_of c t ≡ true
    → support_in c (t ∷ others) ≡ names_in_tally t
unfolding names_for
front_support c t others same = λ i. record {
  echoes = sets.len (cond (same i) t.echoes (names_for c (map echo_row others)));
  readies = sets.len (cond (same i) t.readies (names_for c (map ready_row others)));
}

pub support-changed : (change : TallyValue → TallyValue) (c : Command) (old new : Option TallyValue)
    (support : Support) (others : List TallyValue) → ((t : TallyValue) → (change t).command ≡ t.command)
    → IsFirstChanged change c old new support → support ≡ support_in c (all_of new others)
support-changed change c None new support others command is =
    is.1
    ∙ sym (ap (λ first. support_in c (all_of first others)) is.0
    ∙ front_support c (change (no_names c)) others (ap (same_command c) (command (no_names c)) ∙ same_command-refl c))
support-changed change c (Some t) new support others command is =
    is.2
    ∙ sym (ap (λ first. support_in c (all_of first others)) is.1
    ∙ front_support c (change t) others (ap (same_command c) (command t) ∙ is.0))

some_first : (t : TallyValue) (new : Option TallyValue) (others : List TallyValue) → new ≡ Some t → new ≡ None
    → others ≡ []
some_first t new others some none =
    let e : Some t ≡ None = sym some ∙ none in absurd cc

pub first_is_there : (change : TallyValue → TallyValue) (c : Command) (old new : Option TallyValue) (support : Support)
    (others : List TallyValue) → IsFirstChanged change c old new support → new ≡ None → others ≡ []
first_is_there change c None new support others is none = some_first _ new others is.0 none
first_is_there change c (Some t) new support others is none = some_first _ new others is.1 none

-- The first is of another command.

pub all_of-other : (change : TallyValue → TallyValue) (c : Command) (first : Option TallyValue)
    (others : List TallyValue) → IsOther c first
    → all_of first (with_tally change c others) ≡ with_tally change c (all_of first others)
unfolding with_tally
all_of-other change c None others is = absurd is
all_of-other change c (Some t) others is =
    sym (ap (λ b. cond b (change t ∷ others) (t ∷ with_tally change c others)) is)

pub support-other : (c : Command) (first : Option TallyValue) (others : List TallyValue) → IsOther c first
    → support_in c others ≡ support_in c (all_of first others)
unfolding names_for
support-other c None others is = absurd is
support-other c (Some t) others is = sym (λ i. record {
  echoes = sets.len (cond (is i) t.echoes (names_for c (map echo_row others)));
  readies = sets.len (cond (is i) t.readies (names_for c (map ready_row others)));
})

pub other_is_there : (c : Command) (first : Option TallyValue) (others : List TallyValue) → IsOther c first
    → first ≡ None → others ≡ []
other_is_there c None others is none = absurd is
other_is_there c (Some t) others is none = absurd cc
