-- The tallies of commands: what a change of one shows, and the commands that have a vote.
use Rattle.std.proofs.Common.{◌≡◌, ℕ, zero, suc, ◌+◌, ◌<◌, ◌≤◌, ◌≢◌, Bool, true, false, cond}
use Rattle.std.proofs.Common.{not, ◌||◌, List, [], ◌∷◌, ◌++◌, map, length, get_or, Some, None}
use Rattle.std.proofs.Common.{refl, sym, ap, ◌∙◌, subst, arith, inl, inr, suc-le-suc, zero-le}
use Rattle.std.specs.Prelude.{◌⊎◌, nat_lt, All, AllPairs, position, slice_set}
use Rattle.std.specs.List.{list_any, prefix_len}
use Rattle.std.specs.FinMap as maps
use Rattle.std.specs.FinSet as sets
use Rattle.std.specs.Ordering.{nat_cmp}
use Rattle.std.proofs.lemmas.Bool.{both_ways, cases_Bool, or_left, or_right, or_parts}
use Rattle.std.proofs.lemmas.Bool.Decides.{nat_tests}
use Rattle.std.proofs.Common.{length-append}
use Rattle.std.proofs.lemmas.List.{get_or-set_same, length-map}
use Rattle.std.proofs.lemmas.List.Elements.{All-push, All-weaker}
use Rattle.std.proofs.lemmas.List.Folds.{list_any-append, list_any_at}
use Rattle.std.proofs.lemmas.List.Quantifiers.{all_pairs_push}
use Rattle.role_commands.specs.declared.command.Command.{Command}
use Rattle.role_commands.specs.Same.{same_command}
use Rattle.bracha_instance.specs.Broadcast.{Names}
use Rattle.bracha_instance.specs.States.{Votes}
use Rattle.bracha_instance.specs.inside.Next.{supporters_in}
use Rattle.bracha_instance.specs.inside.Tallies.{Tallied, no_votes, votes_of, with_command, with_vote}
use Rattle.bracha_instance.specs.inside.Tallies.{support_of, HasVote, AreVoted, RowsAgree, echo_row, ready_row}
use Rattle.bracha_instance.specs.inside.Tallies.{TallyValue, no_names, names_for, command_in, is_tally_of}
use Rattle.bracha_instance.specs.inside.Tallies.{IsFirst, with_tally}
use Rattle.bracha_instance.specs.inside.Tallies.{voted_by, support_in, tallied, AreTallies, votes_in}
use Rattle.bracha_instance.specs.declared.tallies.Support.{Support}
use Rattle.bracha_instance.specs.declared.tallies.Vote.{Vote}
use Rattle.bracha_instance.specs.declared.tallies.Vote.TheVariants.{Echo, Ready}
use Rattle.bracha_instance.proofs.Same.{same_command-true, same_command-refl}
use Rattle.bracha_instance.proofs.VoteMaps.{supporters_in-empty, supporters_in-insert_other, len_supporters_in-insert}
use Rattle.bracha_instance.proofs.RowLemmas.{with_row, with_name, unchanged, votes_in-with_name, votes_in-unchanged}
use Rattle.bracha_instance.proofs.RowLemmas.{RowsAgree-empty, RowsAgree-unchanged, RowsAgree-with_name}

-- The place of a tally.

pub within : (c : Command) (tallies : List TallyValue) (at : ℕ) → IsFirst c tallies at → at < length tallies
within c [] at first = absurd first
within c (t ∷ tallies) zero first = suc-le-suc zero-le
within c (t ∷ tallies) (suc at) first = suc-le-suc (within c tallies at first.1)

-- the first tally of c is where those of other commands end, or there is none
abbrev FirstOrNone : Command → List TallyValue → Type 0
FirstOrNone c tallies =
    IsFirst c tallies (prefix_len (λ t. not (is_tally_of c t)) tallies)
    ⊎ ((prefix_len (λ t. not (is_tally_of c t)) tallies ≡ length tallies) × (list_any (is_tally_of c) tallies ≡ false))

first_or_none : (c : Command) (tallies : List TallyValue) → FirstOrNone c tallies
first_or_none c [] = inr (refl, refl)
first_or_none c (t ∷ tallies) =
    by_tally (is_tally_of c t) (prefix_len (λ t. not (is_tally_of c t)) tallies) refl (first_or_none c tallies)
  where
    one_more : (n : ℕ) → suc n ≡ 1 + n
    one_more n = omega arith

    by_tally : (b : Bool) (others : ℕ) → is_tally_of c t ≡ b
        → IsFirst c tallies others ⊎ ((others ≡ length tallies) × (list_any (is_tally_of c) tallies ≡ false))
        → IsFirst c (t ∷ tallies) (cond (not b) (1 + others) 0)
        ⊎ ((cond (not b) (1 + others) 0 ≡ suc (length tallies)) × ((b || list_any (is_tally_of c) tallies) ≡ false))
    by_tally true others same rest = inl same
    by_tally false others other (inl first) = inl (subst (IsFirst c (t ∷ tallies)) (one_more others) (other, first))
    by_tally false others other (inr none) = inr (sym (one_more others) ∙ ap suc none.0, none.1)

at_place : (k n : ℕ) → k < n → cond (nat_lt k n) (Some k) None ≡ Some k
at_place k n within = grind (arith, nat_tests)

no_place : (k n : ℕ) → k ≡ n → cond (nat_lt k n) (Some k) None ≡ None
no_place k n all = grind (arith, nat_tests)

pub IsFirst-position : (c : Command) (tallies : List TallyValue) (at : ℕ) → position (is_tally_of c) tallies ≡ Some at
    → IsFirst c tallies at
IsFirst-position c tallies at is =
    let others = prefix_len (λ t. not (is_tally_of c t)) tallies in
    elim (first_or_none c tallies) [
      | inl first ↦
          let e : Some others ≡ Some at = sym (at_place others (length tallies) (within c tallies others first)) ∙ is in
          let same : others ≡ at = cc in
          subst (IsFirst c tallies) same first
      | inr none ↦
          let e : None ≡ Some at = sym (no_place others (length tallies) none.0) ∙ is in
          absurd cc
    ]

pub none-position : (c : Command) (tallies : List TallyValue) → position (is_tally_of c) tallies ≡ None
    → list_any (is_tally_of c) tallies ≡ false
none-position c tallies is =
    let others = prefix_len (λ t. not (is_tally_of c t)) tallies in
    elim (first_or_none c tallies) [
      | inl first ↦
          let e : Some others ≡ None = sym (at_place others (length tallies) (within c tallies others first)) ∙ is in
          absurd cc
      | inr none ↦ none.1
    ]

-- The change of a tally.

pub with_tally-found : (c : Command) (tallies : List TallyValue) (at : ℕ) → IsFirst c tallies at
    → tallies ≡ with_tally (λ t. t) c tallies
unfolding with_tally
with_tally-found c [] at first = absurd first
with_tally-found c (t ∷ tallies) zero first =
    sym (ap (λ b. cond b (t ∷ tallies) (t ∷ with_tally (λ t. t) c tallies)) first)
with_tally-found c (t ∷ tallies) (suc at) first =
    ap (λ ts. t ∷ ts) (with_tally-found c tallies at first.1)
    ∙ sym (ap (λ b. cond b (t ∷ tallies) (t ∷ with_tally (λ t. t) c tallies)) first.0)

pub with_tally-new : (c : Command) (tallies : List TallyValue) → list_any (is_tally_of c) tallies ≡ false
    → tallies ++ no_names c ∷ [] ≡ with_tally (λ t. t) c tallies
unfolding with_tally
with_tally-new c [] none = refl
with_tally-new c (t ∷ tallies) none =
    let apart = or_parts (is_tally_of c t) _ none in
    ap (λ ts. t ∷ ts) (with_tally-new c tallies apart.1)
    ∙ sym (ap (λ b. cond b (t ∷ tallies) (t ∷ with_tally (λ t. t) c tallies)) apart.0)

pub IsFirst-new : (c : Command) (tallies : List TallyValue) → list_any (is_tally_of c) tallies ≡ false
    → IsFirst c (tallies ++ no_names c ∷ []) (length tallies)
IsFirst-new c [] none = same_command-refl c
IsFirst-new c (t ∷ tallies) none =
    let apart = or_parts (is_tally_of c t) _ none in (apart.0, IsFirst-new c tallies apart.1)

-- a write at the place of its tally changes that of c
pub set-with_tally : (change : TallyValue → TallyValue) (c : Command) (tallies : List TallyValue) (at : ℕ)
    (d : TallyValue) → IsFirst c tallies at
    → slice_set tallies at (change (get_or tallies at d)) ≡ with_tally change c tallies
unfolding with_tally
set-with_tally change c [] at d first = absurd first
set-with_tally change c (t ∷ tallies) zero d first =
    sym (ap (λ b. cond b (change t ∷ tallies) (t ∷ with_tally change c tallies)) first)
set-with_tally change c (t ∷ tallies) (suc at) d first =
    ap (λ ts. t ∷ ts) (set-with_tally change c tallies at d first.1)
    ∙ sym (ap (λ b. cond b (change t ∷ tallies) (t ∷ with_tally change c tallies)) first.0)

pub with_tally-again : (change : TallyValue → TallyValue) (c : Command) (tallies : List TallyValue)
    → with_tally change c (with_tally (λ t. t) c tallies) ≡ with_tally change c tallies
unfolding with_tally
with_tally-again change c [] =
    ap (λ b. cond b (change (no_names c) ∷ []) (no_names c ∷ change (no_names c) ∷ [])) (same_command-refl c)
with_tally-again change c (t ∷ tallies) =
    by_tally (is_tally_of c t) refl (with_tally-again change c tallies)
  where
    by_tally : (b : Bool) → is_tally_of c t ≡ b
        → with_tally change c (with_tally (λ t. t) c tallies) ≡ with_tally change c tallies
        → with_tally change c (cond b (t ∷ tallies) (t ∷ with_tally (λ t. t) c tallies))
        ≡ cond b (change t ∷ tallies) (t ∷ with_tally change c tallies)
    by_tally true same rest = ap (λ b. cond b (change t ∷ tallies) (t ∷ with_tally change c tallies)) same
    by_tally false other rest =
        ap (λ b. cond b (change t ∷ with_tally (λ t. t) c tallies) (t ∷ with_tally change c (with_tally
        (λ t. t) c tallies))) other
        ∙ ap (λ ts. t ∷ ts) rest

pub names_for-at : (pick : TallyValue → Names) (c : Command) (tallies : List TallyValue) (at : ℕ) (d : TallyValue)
    → IsFirst c tallies at
    → names_for c (map (λ (t : TallyValue). (t.command, pick t)) tallies) ≡ pick (get_or tallies at d)
unfolding names_for
names_for-at pick c [] at d first = absurd first
names_for-at pick c (t ∷ tallies) zero d first =
    ap (λ b. cond b (pick t) (names_for c (map (λ (t : TallyValue). (t.command, pick t)) tallies))) first
names_for-at pick c (t ∷ tallies) (suc at) d first =
    ap (λ b. cond b (pick t) (names_for c (map (λ (t : TallyValue). (t.command, pick t)) tallies))) first.0
    ∙ names_for-at pick c tallies at d first.1

-- the tally of c is of c
tally_at : (c : Command) (tallies : List TallyValue) (at : ℕ) (d : TallyValue) → IsFirst c tallies at
    → is_tally_of c (get_or tallies at d) ≡ true
tally_at c [] at d first = absurd first
tally_at c (t ∷ tallies) zero d first = first
tally_at c (t ∷ tallies) (suc at) d first = tally_at c tallies at d first.1

IsFirst-set : (c : Command) (tallies : List TallyValue) (at : ℕ) (t : TallyValue) → IsFirst c tallies at
    → is_tally_of c t ≡ true → IsFirst c (slice_set tallies at t) at
IsFirst-set c [] at t first same = absurd first
IsFirst-set c (x ∷ tallies) zero t first same = same
IsFirst-set c (x ∷ tallies) (suc at) t first same = (first.0, IsFirst-set c tallies at t first.1 same)

-- how many names stand for c after a write of its tally
pub support_in-set : (c : Command) (tallies : List TallyValue) (at : ℕ) (d t : TallyValue) → IsFirst c tallies at
    → d ≡ get_or tallies at d → t.command ≡ d.command
    → support_in c (slice_set tallies at t) ≡ record { echoes = sets.len t.echoes; readies = sets.len t.readies }
support_in-set c tallies at d t first read command =
    let same : is_tally_of c t ≡ true =
    ap (same_command c) (command ∙ ap (λ (x : TallyValue). x.command) read) ∙ tally_at c tallies at d first in
    let now = IsFirst-set c tallies at t first same in
    let there : get_or (slice_set tallies at t) at d ≡ t = get_or-set_same tallies at t d (within c tallies at first) in
    λ i. record {
      echoes =
          (ap sets.len (names_for-at (λ (x : TallyValue). x.echoes) c (slice_set tallies at t) at d now)
          ∙ ap (λ (x : TallyValue). sets.len x.echoes) there) i;
      readies =
          (ap sets.len (names_for-at (λ (x : TallyValue). x.readies) c (slice_set tallies at t) at d now)
          ∙ ap (λ (x : TallyValue). sets.len x.readies) there) i;
    }

-- The rows of the changed tallies.

rows-with_tally : (pick : TallyValue → Names) (change : TallyValue → TallyValue) (more : Names → Names) (c : Command) →
    ((t : TallyValue) → (change t).command ≡ t.command) → ((t : TallyValue) → pick (change t) ≡ more (pick t)) →
    pick (no_names c) ≡ sets.empty → (tallies : List TallyValue) →
    map (λ (t : TallyValue). (t.command, pick t)) (with_tally change c tallies)
    ≡ with_row more c (map (λ (t : TallyValue). (t.command, pick t)) tallies)
unfolding with_tally
rows-with_tally pick change more c command picked none [] = λ i.
    (command (no_names c) i, (picked (no_names c) ∙ ap more none) i) ∷ []
rows-with_tally pick change more c command picked none (t ∷ tallies) =
    by_tally (is_tally_of c t) (rows-with_tally pick change more c command picked none tallies)
  where
    by_tally : (b : Bool) → map (λ (t : TallyValue). (t.command, pick t)) (with_tally change c tallies)
        ≡ with_row more c (map (λ (t : TallyValue). (t.command, pick t)) tallies)
        → map (λ (t : TallyValue). (t.command, pick t)) (cond b (change t ∷ tallies) (t ∷ with_tally change c tallies))
        ≡ cond b ((t.command, more (pick t)) ∷ map (λ (t : TallyValue). (t.command, pick t)) tallies)
        ((t.command, pick t) ∷ with_row more c (map (λ (t : TallyValue). (t.command, pick t)) tallies))
    by_tally true rest = λ i. (command t i, picked t i) ∷ map (λ (t : TallyValue). (t.command, pick t)) tallies
    by_tally false rest = ap (λ rows. (t.command, pick t) ∷ rows) rest

commands-with_tally : (change : TallyValue → TallyValue) (c : Command)
    → ((t : TallyValue) → (change t).command ≡ t.command) →
    (tallies : List TallyValue) → map command_in (with_tally change c tallies) ≡ with_command c (map command_in tallies)
unfolding with_tally with_command
commands-with_tally change c command [] = ap (λ d. d ∷ []) (command (no_names c))
commands-with_tally change c command (t ∷ tallies) =
    by_tally (is_tally_of c t) (list_any (same_command c) (map command_in tallies))
    (commands-with_tally change c command tallies)
  where
    by_tally : (b any : Bool) → map command_in (with_tally change c tallies)
        ≡ cond any (map command_in tallies) (map command_in tallies ++ c ∷ [])
        → map command_in (cond b (change t ∷ tallies) (t ∷ with_tally change c tallies))
        ≡ cond (b || any) (t.command ∷ map command_in tallies) ((t.command ∷ map command_in tallies) ++ c ∷ [])
    by_tally true any rest = ap (λ d. d ∷ map command_in tallies) (command t)
    by_tally false true rest = ap (λ ds. t.command ∷ ds) rest
    by_tally false false rest = ap (λ ds. t.command ∷ ds) rest

-- The commands that have a vote.

once_more : (c : Command) (commands : List Command) → AllPairs ◌≢◌ commands → AllPairs ◌≢◌ (with_command c commands)
unfolding with_command
once_more c commands once = by_any (list_any (same_command c) commands) refl
  where
    by_any : (b : Bool) → list_any (same_command c) commands ≡ b → AllPairs ◌≢◌ (cond b commands (commands ++ c ∷ []))
    by_any true there = once
    by_any false none =
        all_pairs_push ◌≢◌ commands c once (λ k d inside e.
        both_ways (list_any (same_command c) commands) none
        (list_any_at (same_command c) commands k d inside (ap (same_command c) e ∙ same_command-refl c)))

all_more : (P : Command → Type 0) (c : Command) (commands : List Command) → All P commands → P c
    → All P (with_command c commands)
unfolding with_command
all_more P c commands all one = by_any (list_any (same_command c) commands)
  where
    by_any : (b : Bool) → All P (cond b commands (commands ++ c ∷ []))
    by_any true = all
    by_any false = All-push P commands c all one

any_kept : (p : Command → Bool) (c : Command) (commands : List Command) → list_any p commands ≡ true
    → list_any p (with_command c commands) ≡ true
unfolding with_command
any_kept p c commands any = by_any (list_any (same_command c) commands)
  where
    by_any : (b : Bool) → list_any p (cond b commands (commands ++ c ∷ [])) ≡ true
    by_any true = any
    by_any false = list_any-append p commands (c ∷ []) ∙ or_left (list_any p commands) _ any

any_new : (c : Command) (commands : List Command) → list_any (same_command c) (with_command c commands) ≡ true
unfolding with_command
any_new c commands = by_any (list_any (same_command c) commands) refl
  where
    by_any : (b : Bool) → list_any (same_command c) commands ≡ b
        → list_any (same_command c) (cond b commands (commands ++ c ∷ [])) ≡ true
    by_any true there = there
    by_any false none =
        list_any-append (same_command c) commands (c ∷ [])
        ∙ or_right (list_any (same_command c) commands) _ (or_left (same_command c c) false (same_command-refl c))

pub length-with_command : (c : Command) (commands : List Command)
    → length (with_command c commands) ≤ length commands + 1
unfolding with_command
length-with_command c commands = by_any (list_any (same_command c) commands)
  where
    by_any : (b : Bool) → length (cond b commands (commands ++ c ∷ [])) ≤ length commands + 1
    by_any true = omega arith
    by_any false = omega (arith, length-append commands (c ∷ []))

-- one more vote for c, and for no other command
voted_more : (v w : Tallied) (c : Command) → AreVoted v → w.commands ≡ with_command c v.commands → HasVote w c
    → ((d : Command) → same_command d c ≡ false → support_of w d ≡ support_of v d) → AreVoted w
voted_more v w c are commands has others = record {
  once = subst (AllPairs ◌≢◌) (sym commands) (once_more c v.commands are.once);
  voted = subst (All (HasVote w)) (sym commands)
      (all_more (HasVote w) c v.commands (All-weaker (HasVote v) (HasVote w) still v.commands are.voted) has);
  all = λ d h. ap (list_any (same_command d)) commands ∙ listed d h (cases_Bool (same_command d c));
}
  where
    still : (d : Command) → HasVote v d → HasVote w d
    still d h =
        elim (cases_Bool (same_command d c)) [
          | inl same ↦ subst (HasVote w) (sym (same_command-true d c same)) has
          | inr other ↦ let P : Support → Type 0 = λ n. 0 < n.echoes + n.readies in subst P (sym (others d other)) h
        ]

    listed : (d : Command) → HasVote w d → (same_command d c ≡ true) ⊎ (same_command d c ≡ false)
        → list_any (same_command d) (with_command c v.commands) ≡ true
    listed d h (inl same) =
        ap (λ x. list_any (same_command x) (with_command c v.commands)) (same_command-true d c same)
        ∙ any_new c v.commands
    listed d h (inr other) =
        let P : Support → Type 0 = λ n. 0 < n.echoes + n.readies in
        any_kept (same_command d) c v.commands (are.all d (subst P (others d other) h))

supported : (c : Command) (v : Votes) (p : ℕ) → maps.get v p ≡ None → 0 < sets.len (supporters_in c (maps.insert v p c))
supported c v p none =
    let more = len_supporters_in-insert c c v p none
    ∙ ap (λ b. cond b 1 0 + sets.len (supporters_in c v)) (same_command-refl c) in
    omega (arith, more)

as_before : (d c : Command) (v : Votes) (p : ℕ) → maps.get v p ≡ None → same_command d c ≡ false
    → sets.len (supporters_in d (maps.insert v p c)) ≡ sets.len (supporters_in d v)
as_before d c v p none other = ap sets.len (supporters_in-insert_other d c v p other none)

AreVoted-vote : (k : Vote) (v : Tallied) (p : ℕ) (c : Command) → maps.get (votes_of k v) p ≡ None → AreVoted v
    → AreVoted (with_vote k v p c)
AreVoted-vote Echo v p c none are =
    let some = supported c v.echoes p none in
    voted_more v (with_vote Echo v p c) c are refl (omega arith) (λ d other i.
    record { echoes = as_before d c v.echoes p none other i; readies = sets.len (supporters_in d v.readies) })
AreVoted-vote Ready v p c none are =
    let some = supported c v.readies p none in
    voted_more v (with_vote Ready v p c) c are refl (omega arith) (λ d other i.
    record { echoes = sets.len (supporters_in d v.echoes); readies = as_before d c v.readies p none other i })

AreVoted-none : AreVoted no_votes
AreVoted-none = record {
  once = λ i j d before inside. absurd (omega arith);
  voted = λ k d inside. absurd (omega arith);
  all = λ c h.
      let none : sets.len (supporters_in c maps.empty) ≡ 0 = ap sets.len (supporters_in-empty c)
      ∙ sets.len-empty nat_cmp in
      absurd (omega arith);
}

-- The tallies as contracts see them.

pub tallied-none : tallied [] ≡ no_votes
unfolding tallied votes_in
tallied-none = refl

pub AreTallies-none : AreTallies []
AreTallies-none = record {
  echoes = RowsAgree-empty;
  readies = RowsAgree-empty;
  voted = subst AreVoted (sym tallied-none) AreVoted-none;
}

pub command-voted_by : (k : Vote) (p : ℕ) (t : TallyValue) → (voted_by k p t).command ≡ t.command
command-voted_by Echo p t = refl
command-voted_by Ready p t = refl

-- the rows of a kind have a vote more, and those of the other are as they were
same_rows : (p : ℕ) (c : Command) (tallies : List TallyValue)
    → (map echo_row (with_tally (voted_by Echo p) c tallies) ≡ with_row (with_name p) c (map echo_row tallies))
    × (map ready_row (with_tally (voted_by Ready p) c tallies) ≡ with_row (with_name p) c (map ready_row tallies))
same_rows p c tallies = (
  rows-with_tally (λ t. t.echoes) (voted_by Echo p) (with_name p) c (λ t. refl) (λ t. refl) refl tallies,
  rows-with_tally (λ t. t.readies) (voted_by Ready p) (with_name p) c (λ t. refl) (λ t. refl) refl tallies,
)

other_rows : (p : ℕ) (c : Command) (tallies : List TallyValue)
    → (map ready_row (with_tally (voted_by Echo p) c tallies) ≡ with_row unchanged c (map ready_row tallies))
    × (map echo_row (with_tally (voted_by Ready p) c tallies) ≡ with_row unchanged c (map echo_row tallies))
other_rows p c tallies = (
  rows-with_tally (λ t. t.readies) (voted_by Echo p) unchanged c (λ t. refl) (λ t. refl) refl tallies,
  rows-with_tally (λ t. t.echoes) (voted_by Ready p) unchanged c (λ t. refl) (λ t. refl) refl tallies,
)

-- one more vote
pub tallied-vote : (k : Vote) (tallies : List TallyValue) (p : ℕ) (c : Command)
    → maps.get (votes_of k (tallied tallies)) p ≡ None
    → tallied (with_tally (voted_by k p) c tallies) ≡ with_vote k (tallied tallies) p c
unfolding tallied
tallied-vote Echo tallies p c none = λ i. record {
  echoes = (ap votes_in (same_rows p c tallies).0 ∙ votes_in-with_name c p (map echo_row tallies) none) i;
  readies = (ap votes_in (other_rows p c tallies).0 ∙ votes_in-unchanged c (map ready_row tallies)) i;
  commands = commands-with_tally (voted_by Echo p) c (λ t. refl) tallies i;
}
tallied-vote Ready tallies p c none = λ i. record {
  echoes = (ap votes_in (other_rows p c tallies).1 ∙ votes_in-unchanged c (map echo_row tallies)) i;
  readies = (ap votes_in (same_rows p c tallies).1 ∙ votes_in-with_name c p (map ready_row tallies) none) i;
  commands = commands-with_tally (voted_by Ready p) c (λ t. refl) tallies i;
}

pub AreTallies-vote : (k : Vote) (tallies : List TallyValue) (p : ℕ) (c : Command)
    → maps.get (votes_of k (tallied tallies)) p ≡ None
    → AreTallies tallies → AreTallies (with_tally (voted_by k p) c tallies)
unfolding tallied
AreTallies-vote Echo tallies p c none are = record {
  echoes = subst RowsAgree (sym (same_rows p c tallies).0)
      (RowsAgree-with_name c p (map echo_row tallies) none are.echoes);
  readies = subst RowsAgree (sym (other_rows p c tallies).0)
      (RowsAgree-unchanged c (map ready_row tallies) are.readies);
  voted = subst AreVoted (sym (tallied-vote Echo tallies p c none)) (AreVoted-vote Echo (tallied tallies) p c none
      are.voted);
}
AreTallies-vote Ready tallies p c none are = record {
  echoes = subst RowsAgree (sym (other_rows p c tallies).1)
      (RowsAgree-unchanged c (map echo_row tallies) are.echoes);
  readies = subst RowsAgree (sym (same_rows p c tallies).1)
      (RowsAgree-with_name c p (map ready_row tallies) none are.readies);
  voted = subst AreVoted (sym (tallied-vote Ready tallies p c none)) (AreVoted-vote Ready (tallied tallies) p c none
      are.voted);
}

-- a command has as many supporters as names
pub support_of-tallied : (c : Command) (tallies : List TallyValue) → AreTallies tallies
    → support_in c tallies ≡ support_of (tallied tallies) c
unfolding tallied
support_of-tallied c tallies are = λ i. record {
  echoes = sets.len (sym (are.echoes c) i);
  readies = sets.len (sym (are.readies c) i);
}

pub length-tallied : (tallies : List TallyValue) → length (tallied tallies).commands ≡ length tallies
unfolding tallied
length-tallied tallies = length-map tallies command_in
