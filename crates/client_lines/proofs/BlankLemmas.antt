-- What the lexer makes of blanks between lexemes: nothing.
use Rattle.std.proofs.Common.{◌≡◌, ◌∙◌, ◌⊎◌, inl, inr, ℕ, suc, ◌+◌, ◌==◌, ◌||◌, Bool, true, false, cond}
use Rattle.std.proofs.Common.{List, [], ◌∷◌, drop, refl, sym, ap, subst, arith}
use Rattle.std.proofs.lemmas.Bool.{or_cases, or_right, eqb-true}
use Rattle.std.proofs.lemmas.List.{drop-drop}
use Rattle.std.specs.List.{prefix_len}
use Rattle.json.specs.Word.{is_operator, is_space, ends_word}
use Rattle.json.specs.Lex.{lex, between, Place, punctuate}
use Rattle.client_lines.specs.inside.PlainLines.{tokens_from}

-- what holds of each of the four bytes holds of a blank
each_blank : (P : ℕ → Type 0) → P 32 → P 9 → P 10 → P 13 → (x : ℕ) → is_space x ≡ true → P x
each_blank P space tab feed return x e =
    by_last (or_cases ((x == 32) || (x == 9) || (x == 10)) (x == 13) e)
  where
    is : (y : ℕ) → P y → (x == y) ≡ true → P x
    is y p same = subst P (sym (eqb-true x y same)) p

    by_first : (((x == 32) ≡ true) ⊎ ((x == 9) ≡ true)) → P x
    by_first (inl s) = is 32 space s
    by_first (inr t) = is 9 tab t

    by_third : ((((x == 32) || (x == 9)) ≡ true) ⊎ ((x == 10) ≡ true)) → P x
    by_third (inl more) = by_first (or_cases (x == 32) (x == 9) more)
    by_third (inr f) = is 10 feed f

    by_last : ((((x == 32) || (x == 9) || (x == 10)) ≡ true) ⊎ ((x == 13) ≡ true)) → P x
    by_last (inl more) = by_third (or_cases ((x == 32) || (x == 9)) (x == 10) more)
    by_last (inr r) = is 13 return r

blank_passed : (x : ℕ) (xs : List ℕ) → is_space x ≡ true → lex between (x ∷ xs) ≡ lex between xs
unfolding lex
blank_passed x xs e = each_blank (λ y. lex between (y ∷ xs) ≡ lex between xs) refl refl refl refl x e

blank_front : (b : Bool) (x n : ℕ) (xs : List ℕ) → is_space x ≡ b → lex between (drop n xs) ≡ lex between xs
    → lex between (drop (cond b (1 + n) 0) (x ∷ xs)) ≡ lex between (x ∷ xs)
blank_front false x n xs e more = refl
blank_front true x n xs e more =
    let next : 1 + n ≡ suc n = omega arith in rw next (more ∙ sym (blank_passed x xs e))

blanks_front : (xs : List ℕ) → lex between (drop (prefix_len is_space xs) xs) ≡ lex between xs
blanks_front [] = refl
blanks_front (x ∷ xs) = blank_front (is_space x) x (prefix_len is_space xs) xs refl (blanks_front xs)

ends_front : (b : Bool) (x n : ℕ) (xs : List ℕ) → is_space x ≡ b
    → ends_word (drop (cond b (1 + n) 0) (x ∷ xs)) ≡ true → ends_word (x ∷ xs) ≡ true
ends_front false x n xs e ends = ends
ends_front true x n xs e ends = or_right (is_operator x) (is_space x) e

ends_before : (xs : List ℕ) → ends_word (drop (prefix_len is_space xs) xs) ≡ true → ends_word xs ≡ true
ends_before [] ends = ends
ends_before (x ∷ xs) ends = ends_front (is_space x) x (prefix_len is_space xs) xs refl ends

-- between two places stand blanks alone, and none behind them
abbrev pub AreBlanks : List ℕ → ℕ → ℕ → Type 0
AreBlanks line from end = end ≡ from + prefix_len is_space (drop from line)

behind : (line : List ℕ) (from end : ℕ) → AreBlanks line from end
    → drop end line ≡ drop (prefix_len is_space (drop from line)) (drop from line)
behind line from end e =
    ap (λ k. drop k line) e ∙ sym (drop-drop (prefix_len is_space (drop from line)) from line)

-- behind its blanks a line has the lexemes that it has before them
pub lexemes_kept : (line : List ℕ) (from end : ℕ) → AreBlanks line from end
    → lex between (drop from line) ≡ lex between (drop end line)
lexemes_kept line from end blanks =
    sym (ap (lex between) (behind line from end blanks) ∙ blanks_front (drop from line))

-- and the same tokens
pub tokens_kept : (place : Place) (line : List ℕ) (from end : ℕ) → AreBlanks line from end
    → tokens_from place line from ≡ tokens_from place line end
tokens_kept place line from end blanks = ap (punctuate place) (lexemes_kept line from end blanks)

-- a word that ends behind blanks ends before them
pub word_ends_before : (line : List ℕ) (from end : ℕ) → AreBlanks line from end
    → ends_word (drop end line) ≡ true → ends_word (drop from line) ≡ true
word_ends_before line from end blanks ends =
    ends_before (drop from line) (ap ends_word (sym (behind line from end blanks)) ∙ ends)
