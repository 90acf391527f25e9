-- What is due at the first moment at which something is, where one more message can make only its own command due.
use Rattle.std.proofs.Common.{◌≡◌, ℕ, ◌<◌, ◌≤◌, Bool, true, false, cond, List, [], ◌∷◌, ◌++◌, map, find}
use Rattle.std.proofs.Common.{length, take, is_some, Option, Some, None, IsSome, refl, sym, ap, subst, ◌∙◌}
use Rattle.std.proofs.lemmas.Bool.{both_ways}
use Rattle.std.proofs.lemmas.List.{map-append}
use Rattle.std.proofs.lemmas.Option.{same_Some}
use Rattle.std.specs.Option.{option_or}
use Rattle.role_commands.specs.declared.command.Command.{Command}
use Rattle.role_commands.specs.Same.{same_command}
use Rattle.bracha_instance.specs.Prefixes.{at_first_prefix}
use Rattle.bracha_instance.specs.Broadcast.{Take, command_of, command_that}
use Rattle.bracha_instance.specs.Laws.{or_else_if}
use Rattle.bracha_instance.proofs.Same.{same_command-true}
use Rattle.bracha_instance.proofs.FirstPrefix.{prefix_push, prefix_kept, prefix_none, prefix_last, prefix_found}

passes_by : {X : Type 0} (p : X → Bool) (y x : X) (rest : Option X) → (rest ≡ Some x → p x ≡ true) → (b : Bool)
    → p y ≡ b
    → cond b (Some y) rest ≡ Some x → p x ≡ true
passes_by p y x rest later true is e = subst (λ z. p z ≡ true) (same_Some y x e) is
passes_by p y x rest later false is e = later e

-- what is found passes the test
pub find_passes : {X : Type 0} (p : X → Bool) (xs : List X) (x : X) → find p xs ≡ Some x → p x ≡ true
find_passes p [] x e = absurd cc
find_passes p (y ∷ ys) x e = passes_by p y x (find p ys) (find_passes p ys x) (p y) refl e

refused_by : {X : Type 0} (p : X → Bool) (y x : X) (ps qs : Option X) → (ps ≡ None → qs ≡ Some x → p x ≡ false)
    → (a b : Bool)
    → p y ≡ a →
    cond a (Some y) ps ≡ None → cond b (Some y) qs ≡ Some x → p x ≡ false
refused_by p y x ps qs later true b is none e = absurd cc
refused_by p y x ps qs later false true is none e = subst (λ z. p z ≡ false) (same_Some y x e) is
refused_by p y x ps qs later false false is none e = later none e

-- what another test finds, one that finds nothing refuses
refused : {X : Type 0} (p q : X → Bool) (xs : List X) (x : X) → find p xs ≡ None → find q xs ≡ Some x → p x ≡ false
refused p q [] x none e = absurd cc
refused p q (y ∷ ys) x none e = refused_by p y x (find p ys) (find q ys) (refused p q ys x) (p y) (q y) refl none e

own_by : (p : Command → Bool) (c d : Command) → ((d : Command) → same_command d c ≡ false → p d ≡ false) → (b : Bool)
    → same_command d c ≡ b →
    (a : Bool) → p c ≡ a → cond (p d) (Some d) (cond (p c) (Some c) None) ≡ cond (p c) (Some c) None
own_by p c d only true is true e =
    ap (λ x. cond (p x) (Some x) (cond (p c) (Some c) None)) (same_command-true d c is)
    ∙ ap (λ a. cond a (Some c) (cond (p c) (Some c) None)) e ∙ sym (ap (λ a. cond a (Some c) None) e)
own_by p c d only true is false e =
    ap (λ x. cond (p x) (Some x) (cond (p c) (Some c) None)) (same_command-true d c is)
    ∙ ap (λ a. cond a (Some c) (cond (p c) (Some c) None)) e
own_by p c d only false is a e = ap (λ b. cond b (Some d) (cond (p c) (Some c) None)) (only d is)

-- a test that only c can pass finds c, or nothing
find_own : (p : Command → Bool) (c : Command) → ((d : Command) → same_command d c ≡ false → p d ≡ false) →
    (ds : List Command) → find p (ds ++ c ∷ []) ≡ cond (p c) (Some c) None
find_own p c only [] = refl
find_own p c only (d ∷ ds) =
    ap (cond (p d) (Some d)) (find_own p c only ds) ∙ own_by p c d only (same_command d c) refl (p c) refl

pub no_some : {X : Type 0} (o : Option X) → o ≡ None → is_some o ≡ true → ⊥
no_some o none some = both_ways (is_some o) (ap is_some none) some

some_unless_none : {X : Type 0} (o : Option X) → (o ≡ None → ⊥) → IsSome o
some_unless_none None not_none = absurd (not_none refl)
some_unless_none (Some x) not_none = refl

module _ (may : List Take → Command → Bool)
    (others : (ts : List Take) (t : Take) (d : Command) → same_command d t.command ≡ false
    → may (ts ++ t ∷ []) d ≡ may ts d)
    (nobodys : (ts : List Take) (d : Command) → find (same_command d) (map command_of ts) ≡ None
    → may ts d ≡ false) where
  -- what is due in these takes
  abbrev pub due : List Take → Option Command
  due past = command_that (may past) past

  absent_or_refused : (ts : List Take) (d : Command) → due ts ≡ None → (o : Option Command)
      → find (same_command d) (map command_of ts) ≡ o → may ts d ≡ false
  absent_or_refused ts d none None is = nobodys ts d is
  absent_or_refused ts d none (Some e) is =
      ap (may ts) (same_command-true d e (find_passes (same_command d) (map command_of ts) e is))
      ∙ refused (may ts) (same_command d) (map command_of ts) e none is

  -- where nothing of these takes is due, nothing at all is
  pub nothing_due : (ts : List Take) → due ts ≡ None → (d : Command) → may ts d ≡ false
  nothing_due ts none d = absent_or_refused ts d none (find (same_command d) (map command_of ts)) refl

  due_own : (ts : List Take) (t : Take) → due ts ≡ None
      → due (ts ++ t ∷ []) ≡ cond (may (ts ++ t ∷ []) t.command) (Some t.command) None
  due_own ts t none =
      ap (find (may (ts ++ t ∷ []))) (map-append command_of ts (t ∷ []))
      ∙ find_own (may (ts ++ t ∷ [])) t.command (λ d other. others ts t d other
      ∙ nothing_due ts none d) (map command_of ts)

  push_by : (ts : List Take) (t : Take) (o : Option Command) → at_first_prefix due ts ≡ o →
      option_or o (due (ts ++ t ∷ [])) ≡ or_else_if o (may (ts ++ t ∷ []) t.command) t.command
  push_by ts t None is = due_own ts t (prefix_last due ts is)
  push_by ts t (Some c) is = refl

  -- one more message makes its own command due, or none
  pub due_push : (ts : List Take) (t : Take) →
      at_first_prefix due (ts ++ t ∷ []) ≡ or_else_if (at_first_prefix due ts) (may (ts ++ t ∷ []) t.command) t.command
  due_push ts t = prefix_push due ts t ∙ push_by ts t (at_first_prefix due ts) refl

  pub due_stays : (before later : List Take) (c : Command) → at_first_prefix due before ≡ Some c
      → at_first_prefix due (before ++ later) ≡ Some c
  due_stays before later c e = prefix_kept due before later c e

  pub due_was_first : (ts : List Take) (c : Command) → at_first_prefix due ts ≡ Some c →
      (m : ℕ) × (m ≤ length ts) × (may (take m ts) c ≡ true)
      × ((k : ℕ) (d : Command) → k < m → may (take k ts) d ≡ false)
  due_was_first ts c e =
      let first = prefix_found due ts c e in (
        first.0,
        first.1,
        find_passes (may (take first.0 ts)) (map command_of (take first.0 ts)) c first.2,
        λ k d before.
            nothing_due (take k ts) (first.3 k before) d,
      )

  pub due_comes : (ts : List Take) (m : ℕ) (c : Command) → may (take m ts) c ≡ true → IsSome (at_first_prefix due ts)
  due_comes ts m c is = some_unless_none (at_first_prefix due ts) (λ none.
      both_ways (may (take m ts) c) (nothing_due (take m ts) (prefix_none due ts none m) c) is)

  -- where nothing was due at any moment, nothing is due now
  pub not_due : (ts : List Take) → at_first_prefix due ts ≡ None → (d : Command) → may ts d ≡ false
  not_due ts none d = nothing_due ts (prefix_last due ts none) d
