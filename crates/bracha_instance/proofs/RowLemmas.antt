-- Rows of names by command: the votes that they keep, and what one more name changes.
use Rattle.std.proofs.Common.{◌≡◌, ℕ, ◌==◌, Bool, true, false, cond, ◌||◌, List, []}
use Rattle.std.proofs.Common.{◌∷◌, Option, Some, None, refl, sym, ap, ◌∙◌, eqb-true}
use Rattle.std.specs.List.{list_any}
use Rattle.std.specs.Ordering.{nat_cmp, eq_by_cmp}
use Rattle.std.specs.Cmp.{nat_cmp_total}
use Rattle.std.specs.FinMap as maps
use Rattle.std.specs.FinSet as sets
use Rattle.role_commands.specs.declared.command.Command.{Command}
use Rattle.role_commands.specs.Same.{same_command}
use Rattle.bracha_instance.specs.Broadcast.{Names}
use Rattle.bracha_instance.specs.States.{Votes}
use Rattle.bracha_instance.specs.inside.Next.{supporters_in}
use Rattle.bracha_instance.specs.inside.Tallies.{Row, vote_all, votes_in, names_for, RowsAgree}
use Rattle.bracha_instance.proofs.Same.{same_command-true, same_command-refl}
use Rattle.quorum_sizes.proofs.Exported.{contains-insert}
use Rattle.bracha_instance.proofs.VoteMaps.{same_votes, get-insert, supporters_in-empty}
use Rattle.bracha_instance.proofs.VoteMaps.{supporters_in-insert_same, supporters_in-insert_other}

-- The votes of some rows.

cond_or : {X : Type 0} (a b : Bool) (x y : X) → cond (a || b) x y ≡ cond a x (cond b x y)
cond_or true b x y = refl
cond_or false b x y = refl

get-vote_all : (c : Command) (names : List ℕ) (v : Votes) (q : ℕ)
    → maps.get (vote_all c names v) q ≡ cond (list_any (eq_by_cmp nat_cmp q) names) (Some c) (maps.get v q)
unfolding vote_all
get-vote_all c [] v q = refl
get-vote_all c (name ∷ names) v q =
    let here = eq_by_cmp nat_cmp q name in
    maps.get-insert nat_cmp_total (vote_all c names v) name c q
    ∙ ap (cond here (Some c)) (get-vote_all c names v q)
    ∙ sym (cond_or here (list_any (eq_by_cmp nat_cmp q) names) (Some c) (maps.get v q))

-- the command in whose row a name stands
abbrev pub holder : List Row → ℕ → Option Command
holder [] q = None
holder (row ∷ rows) q = cond (sets.contains row.1 q) (Some row.0) (holder rows q)

get-votes_in : (rows : List Row) (q : ℕ) → maps.get (votes_in rows) q ≡ holder rows q
unfolding votes_in
get-votes_in [] q = maps.get-empty nat_cmp q
get-votes_in (row ∷ rows) q =
    get-vote_all row.0 (sets.items row.1) (votes_in rows) q
    ∙ (λ i. cond (sym (sets.contains-items row.1 q) i) (Some row.0) (get-votes_in rows q i))

-- A change of one row.

abbrev pub with_row : (Names → Names) → Command → List Row → List Row
with_row change c [] = (c, change sets.empty) ∷ []
with_row change c (row ∷ rows) =
    cond (same_command c row.0) ((row.0, change row.1) ∷ rows) (row ∷ with_row change c rows)

abbrev pub with_name : ℕ → Names → Names
with_name p names = sets.insert names p

abbrev pub unchanged : Names → Names
unchanged names = names

holder-unchanged : (c : Command) (rows : List Row) (q : ℕ) → holder (with_row unchanged c rows) q ≡ holder rows q
holder-unchanged c [] q = ap (λ b. cond b (Some c) None) (sets.contains-empty nat_cmp q)
holder-unchanged c (row ∷ rows) q =
    elim (same_command c row.0) as (λ b. holder (cond b ((row.0, row.1) ∷ rows)
    (row ∷ with_row unchanged c rows)) q ≡ holder (row ∷ rows) q) [
      | true ↦ refl
      | false ↦ ap (cond (sets.contains row.1 q) (Some row.0)) (holder-unchanged c rows q)
    ]

not_first : {X : Type 0} (b : Bool) (x : X) (rest : Option X) → cond b (Some x) rest ≡ None → (b ≡ false) × (rest
    ≡ None)
not_first true x rest e = absurd cc
not_first false x rest e = (refl, e)

swapped : {X : Type 0} (a b : Bool) (x y z : X) → (b ≡ true → a ≡ false)
    → cond a x (cond b y z) ≡ cond b y (cond a x z)
swapped a true x y z apart = ap (λ a. cond a x y) (apart refl)
swapped a false x y z apart = refl

holder-with_name : (c : Command) (p : ℕ) (rows : List Row) (q : ℕ) → holder rows p ≡ None
    → holder (with_row (with_name p) c rows) q ≡ cond (q == p) (Some c) (holder rows q)
holder-with_name c p [] q none =
    ap (λ b. cond b (Some c) None) (contains-insert sets.empty p q)
    ∙ cond_or (q == p) (sets.contains sets.empty q) (Some c) None
    ∙ ap (λ b. cond (q == p) (Some c) (cond b (Some c) None)) (sets.contains-empty nat_cmp q)
holder-with_name c p (row ∷ rows) q none =
    let free = not_first (sets.contains row.1 p) row.0 (holder rows p) none in
    by_row (same_command c row.0) refl free.0 (holder-with_name c p rows q free.1)
  where
    by_row : (b : Bool) → same_command c row.0 ≡ b → sets.contains row.1 p ≡ false
        → holder (with_row (with_name p) c rows) q ≡ cond (q == p) (Some c) (holder rows q)
        → holder (cond b ((row.0, with_name p row.1) ∷ rows) (row ∷ with_row (with_name p) c rows)) q
        ≡ cond (q == p) (Some c) (cond (sets.contains row.1 q) (Some row.0) (holder rows q))
    by_row true same free rest =
        ap (λ b. cond b (Some row.0) (holder rows q)) (contains-insert row.1 p q)
        ∙ cond_or (q == p) (sets.contains row.1 q) (Some row.0) (holder rows q)
        ∙ ap (λ d. cond (q == p) (Some d) (cond (sets.contains row.1 q) (Some row.0) (holder rows q)))
        (sym (same_command-true c row.0 same))
    by_row false other free rest =
        ap (cond (sets.contains row.1 q) (Some row.0)) rest
        ∙ swapped (sets.contains row.1 q) (q == p) (Some row.0) (Some c) (holder rows q)
        (λ is. ap (sets.contains row.1) (eqb-true q p is) ∙ free)

-- a name that has no vote gets one
pub votes_in-with_name : (c : Command) (p : ℕ) (rows : List Row) → maps.get (votes_in rows) p ≡ None
    → votes_in (with_row (with_name p) c rows) ≡ maps.insert (votes_in rows) p c
votes_in-with_name c p rows none = same_votes _ _ (λ q.
    get-votes_in (with_row (with_name p) c rows) q
    ∙ holder-with_name c p rows q (sym (get-votes_in rows p) ∙ none)
    ∙ sym (get-insert (votes_in rows) p c q ∙ ap (cond (q == p) (Some c)) (get-votes_in rows q)))

pub votes_in-unchanged : (c : Command) (rows : List Row) → votes_in (with_row unchanged c rows) ≡ votes_in rows
votes_in-unchanged c rows = same_votes _ _ (λ q.
    get-votes_in (with_row unchanged c rows) q ∙ holder-unchanged c rows q ∙ sym (get-votes_in rows q))

-- The row of a command.

-- one command's row changes, and no other's
pub names_for-with_row : (change : Names → Names) (d c : Command) (rows : List Row)
    → names_for d (with_row change c rows)
    ≡ cond (same_command d c) (change (names_for d rows)) (names_for d rows)
unfolding names_for
names_for-with_row change d c [] = refl
names_for-with_row change d c (row ∷ rows) =
    by_row (same_command c row.0) refl (names_for-with_row change d c rows)
  where
    with_equal : (b e : Bool) → b ≡ e → cond b (change row.1) (names_for d rows)
        ≡ cond e (change (cond b row.1 (names_for d rows))) (cond b row.1 (names_for d rows))
    with_equal true e is = ap (λ x. cond x (change row.1) row.1) is
    with_equal false e is = ap (λ x. cond x (change (names_for d rows)) (names_for d rows)) is

    differs : same_command c row.0 ≡ false → same_command d row.0 ≡ true → (b : Bool) → same_command d c ≡ b → b ≡ false
    differs other here true same =
        let e : c ≡ row.0 = sym (same_command-true d c same) ∙ same_command-true d row.0 here in
        absurd (both (same_command c row.0) other (ap (λ x. same_command x row.0) e ∙ same_command-refl row.0))
      where
        both : (b : Bool) → b ≡ false → b ≡ true → ⊥
        both b f t = cc
    differs other here false same = refl

    with_other : (b : Bool) → same_command d row.0 ≡ b → same_command c row.0 ≡ false
        → cond b row.1 (cond (same_command d c) (change (names_for d rows)) (names_for d rows))
        ≡ cond (same_command d c) (change (cond b row.1 (names_for d rows))) (cond b row.1 (names_for d rows))
    with_other true here other =
        sym (ap (λ x. cond x (change row.1) row.1) (differs other here (same_command d c) refl))
    with_other false here other = refl

    by_row : (b : Bool) → same_command c row.0 ≡ b
        → names_for d (with_row change c rows) ≡ cond (same_command d c) (change (names_for d rows)) (names_for d rows)
        → names_for d (cond b ((row.0, change row.1) ∷ rows) (row ∷ with_row change c rows))
        ≡ cond (same_command d c) (change (cond (same_command d row.0) row.1 (names_for d rows)))
        (cond (same_command d row.0) row.1 (names_for d rows))
    by_row true same rest =
        with_equal (same_command d row.0) (same_command d c) (ap (same_command d) (sym
        (same_command-true c row.0 same)))
    by_row false other rest =
        ap (cond (same_command d row.0) row.1) rest ∙ with_other (same_command d row.0) refl other

same_either : {X : Type 0} (b : Bool) (x : X) → cond b x x ≡ x
same_either true x = refl
same_either false x = refl

-- The supporters of a command are those in its row.

pub RowsAgree-empty : RowsAgree []
unfolding votes_in names_for
RowsAgree-empty c = supporters_in-empty c

pub RowsAgree-unchanged : (c : Command) (rows : List Row) → RowsAgree rows → RowsAgree (with_row unchanged c rows)
RowsAgree-unchanged c rows agree d =
    ap (supporters_in d) (votes_in-unchanged c rows)
    ∙ agree d
    ∙ sym (names_for-with_row unchanged d c rows ∙ same_either (same_command d c) (names_for d rows))

pub RowsAgree-with_name : (c : Command) (p : ℕ) (rows : List Row) → maps.get (votes_in rows) p ≡ None → RowsAgree rows
    → RowsAgree (with_row (with_name p) c rows)
RowsAgree-with_name c p rows none agree d =
    ap (supporters_in d) (votes_in-with_name c p rows none)
    ∙ by_command (same_command d c) refl
    ∙ sym (names_for-with_row (with_name p) d c rows)
  where
    by_command : (b : Bool) → same_command d c ≡ b
        → supporters_in d (maps.insert (votes_in rows) p c) ≡ cond b (with_name p (names_for d rows)) (names_for d rows)
    by_command true same = supporters_in-insert_same d c (votes_in rows) p same ∙ ap (with_name p) (agree d)
    by_command false other = supporters_in-insert_other d c (votes_in rows) p other none ∙ agree d
