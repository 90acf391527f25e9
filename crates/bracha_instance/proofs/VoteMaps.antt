-- The names and the supporters in a map of votes.
use Rattle.std.proofs.Common.{◌≡◌, ℕ, ◌+◌, ◌==◌, Bool, true, false, cond, ◌&&◌, ◌||◌, is_some}
use Rattle.std.proofs.Common.{Option, Some, None, refl, sym, ap, ◌∙◌, inl, inr, arith, eqb-true}
use Rattle.std.proofs.lemmas.Bool.{cases_Bool}
use Rattle.std.specs.Ordering.{nat_cmp}
use Rattle.std.specs.Cmp.{nat_cmp_total, unsigned_tied}
use Rattle.std.specs.FinMap as maps
use Rattle.std.specs.FinSet as sets
use Rattle.quorum_sizes.proofs.Exported.{same_names, contains-insert}
use Rattle.role_commands.specs.declared.command.Command.{Command}
use Rattle.role_commands.specs.Same.{same_command}
use Rattle.bracha_instance.specs.Broadcast.{is_for}
use Rattle.bracha_instance.specs.States.{Votes}
use Rattle.bracha_instance.specs.inside.Kept.{names_of}
use Rattle.bracha_instance.specs.inside.Next.{supporters_in}

-- two maps that answer alike are the same
pub same_votes : (v w : Votes) → ((q : ℕ) → maps.get v q ≡ maps.get w q) → v ≡ w
same_votes v w is = maps.same_map nat_cmp_total maps.nat_cmp-IsAntisymmetric v w is

pub get-insert : (v : Votes) (p : ℕ) (c : Command) (q : ℕ)
    → maps.get (maps.insert v p c) q ≡ cond (q == p) (Some c) (maps.get v q)
get-insert v p c q = maps.get-insert nat_cmp_total v p c q
    ∙ ap (λ b. cond b (Some c) (maps.get v q)) (unsigned_tied q p)

pub contains-names_of : (v : Votes) (q : ℕ) → sets.contains (names_of v) q ≡ maps.contains_key v q
unfolding names_of
contains-names_of v q = sets.contains-from_list nat_cmp_total (maps.keys v) q ∙ sym (maps.contains_key-keys v q)

some_or : (b : Bool) (c : Command) (o : Option Command) → is_some (cond b (Some c) o) ≡ (b || is_some o)
some_or true c o = refl
some_or false c o = refl

pub names_of-insert : (v : Votes) (p : ℕ) (c : Command) → names_of (maps.insert v p c) ≡ sets.insert (names_of v) p
names_of-insert v p c = same_names _ _ (λ q.
    contains-names_of (maps.insert v p c) q ∙ ap is_some (get-insert v p c q) ∙ some_or (q == p) c (maps.get v q)
    ∙ sym (contains-insert (names_of v) p q ∙ ap (λ b. (q == p) || b) (contains-names_of v q)))

pub names_of-empty : names_of maps.empty ≡ sets.empty
names_of-empty = same_names _ _ (λ q.
    contains-names_of maps.empty q ∙ ap is_some (maps.get-empty nat_cmp q) ∙ sym (sets.contains-empty nat_cmp q))

pub some_and : (c : Command) (o : Option Command) → (is_some o && is_for c o) ≡ is_for c o
some_and c None = refl
some_and c (Some d) = refl

pub contains-supporters_in : (c : Command) (v : Votes) (q : ℕ)
    → sets.contains (supporters_in c v) q ≡ is_for c (maps.get v q)
unfolding supporters_in
contains-supporters_in c v q =
    sets.contains-retain (names_of v) (λ name. is_for c (maps.get v name)) q (λ x tie.
    ap (is_for c) (maps.get_tied nat_cmp_total v q x tie))
    ∙ ap (λ b. b && is_for c (maps.get v q)) (contains-names_of v q)
    ∙ some_and c (maps.get v q)

pub supporters_in-empty : (c : Command) → supporters_in c maps.empty ≡ sets.empty
supporters_in-empty c = same_names _ _ (λ q.
    contains-supporters_in c maps.empty q ∙ ap (is_for c) (maps.get-empty nat_cmp q)
    ∙ sym (sets.contains-empty nat_cmp q))

for_same : (c d : Command) → same_command c d ≡ true → (b : Bool) (o : Option Command)
    → is_for c (cond b (Some d) o) ≡ (b || is_for c o)
for_same c d same true o = same
for_same c d same false o = refl

-- a first vote for c is one name more
pub supporters_in-insert_same : (c d : Command) (v : Votes) (p : ℕ) → same_command c d ≡ true
    → supporters_in c (maps.insert v p d) ≡ sets.insert (supporters_in c v) p
supporters_in-insert_same c d v p same = same_names _ _ (λ q.
    contains-supporters_in c (maps.insert v p d) q ∙ ap (is_for c) (get-insert v p d q)
    ∙ for_same c d same (q == p) (maps.get v q)
    ∙ sym (contains-insert (supporters_in c v) p q ∙ ap (λ b. (q == p) || b) (contains-supporters_in c v q)))

for_other : (c d : Command) → same_command c d ≡ false → (v : Votes) (p q : ℕ) → maps.get v p ≡ None → (b : Bool)
    → (q == p) ≡ b
    → is_for c (cond b (Some d) (maps.get v q)) ≡ is_for c (maps.get v q)
for_other c d other v p q none true e = other ∙ sym (ap (is_for c) (ap (maps.get v) (eqb-true q p e) ∙ none))
for_other c d other v p q none false e = refl

-- a first vote for another command changes nothing for c
pub supporters_in-insert_other : (c d : Command) (v : Votes) (p : ℕ) → same_command c d ≡ false → maps.get v p ≡ None
    → supporters_in c (maps.insert v p d) ≡ supporters_in c v
supporters_in-insert_other c d v p other none = same_names _ _ (λ q.
    contains-supporters_in c (maps.insert v p d) q ∙ ap (is_for c) (get-insert v p d q)
    ∙ for_other c d other v p q none (q == p) refl
    ∙ sym (contains-supporters_in c v q))

pub len_supporters_in-insert : (c d : Command) (v : Votes) (p : ℕ) → maps.get v p ≡ None
    → sets.len (supporters_in c (maps.insert v p d)) ≡ cond (same_command c d) 1 0 + sets.len (supporters_in c v)
len_supporters_in-insert c d v p none =
    elim (cases_Bool (same_command c d)) [
      | inl same ↦ rw same
          (ap sets.len (supporters_in-insert_same c d v p same)
          ∙ sets.len-insert nat_cmp_total (supporters_in c v) p
          ∙ ap (λ b. cond b (sets.len (supporters_in c v)) (sets.len (supporters_in c v) + 1))
          (contains-supporters_in c v p ∙ ap (is_for c) none)
          ∙ one_more (sets.len (supporters_in c v)))
      | inr other ↦ rw other (ap sets.len (supporters_in-insert_other c d v p other none)
          ∙ none_more (sets.len (supporters_in c v)))
    ]
  where
    one_more : (n : ℕ) → n + 1 ≡ 1 + n
    one_more n = omega arith

    none_more : (n : ℕ) → n ≡ 0 + n
    none_more n = omega arith
