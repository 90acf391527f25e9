-- What a text is read as, where its first word chooses what is read behind it.
use Rattle.std.proofs.Common.{◌≡◌, Bool, true, false, if◌then◌else◌, ℕ, List, ◌∷◌, ◌++◌, Option}
use Rattle.std.proofs.Common.{Some, None, option_map, option_and_then, sym, refl, ap, ◌∙◌, subst}
use Rattle.std.proofs.lemmas.Option.{option_and_then_some, same_Some, none-some}
use Rattle.std.proofs.lemmas.Slice.Eq.{bytes_eq-Decides}
use Rattle.std.specs.Str.{bytes_eq}
use Rattle.role_commands.specs.Numbers.{split_word, space}
use Rattle.role_commands.proofs.SplitWordLemmas.{split_word-joined}

-- which branch gave the value
pub if_else : {A P : Type 0} (b : Bool) (x y : Option A) (c : A) → (if b then x else y) ≡ Some c
    → (b ≡ true → x ≡ Some c → P) → (y ≡ Some c → P) → P
if_else true x y c e then_so else_so = then_so refl e
if_else false x y c e then_so else_so = else_so e

-- what a value was made of
pub mapped : {A B : Type 0} (f : A → B) (o : Option A) (c : B) → option_map f o ≡ Some c
    → (a : A) × (o ≡ Some a) × (f a ≡ c)
mapped f None c e = cc
mapped f (Some a) c e = (a, refl, same_Some (f a) c e)

-- what stands behind the name of a line
pub behind_name : {A : Type 0} (word line : List ℕ) (read : List ℕ → Option A) (c : A)
    → option_and_then (λ words. if bytes_eq words.0 word then read words.1 else None) (split_word line) ≡ Some c
    → (text : List ℕ) × (line ≡ word ++ (space ∷ text)) × (read text ≡ Some c)
behind_name word line read c e =
    option_and_then_some _ _ _ e
    (λ words cut is. if_else _ _ _ c is
    (λ same is_text. let name : words.0 ≡ word = (bytes_eq-Decides words.0 word).0 same in
    (words.1, split_word-joined line words cut ∙ ap (λ (w : List ℕ). w ++ (space ∷ words.1)) name, is_text))
    (λ none. absurd (none-some c none)))

-- a choice by a name: what holds behind this word, and behind the others
pub by_name : {B : Type 0} (P : List ℕ → B → Type 0) (name word : List ℕ) (x others : Option B) (b : B)
    → (if bytes_eq name word then x else others) ≡ Some b → (x ≡ Some b → P word b) → (others ≡ Some b → P name b)
    → P name b
by_name P name word x others b e holds rest =
    if_else _ _ _ b e
    (λ same is.
    let named : word ≡ name = sym ((bytes_eq-Decides name word).0 same) in
    subst (λ (w : List ℕ). P w b) named (holds is))
    rest

-- the same, where something is made of what was read
pub by_name_made : {A B : Type 0} (P : List ℕ → B → Type 0) (name word : List ℕ)
    (make : A → B) (o : Option A) (others : Option B) (b : B)
    → (if bytes_eq name word then option_map make o else others) ≡ Some b → ((a : A) → o ≡ Some a → P word (make a))
    → (others ≡ Some b → P name b) → P name b
by_name_made P name word make o others b e holds rest =
    by_name P name word (option_map make o) others b e
    (λ is. let (a, read, made) = mapped make o b is in subst (P word) made (holds a read))
    rest
