-- What the lexer and the grammar make of a line at a place.
use Rattle.std.proofs.Common.{◌≡◌, ◌∙◌, ◌⊎◌, inl, inr, ℕ, suc, ◌+◌, ◌-◌, ◌*◌, ◌/◌, ◌%◌, ◌^◌, ◌<◌, ◌≤◌}
use Rattle.std.proofs.Common.{nat_le, ◌==◌, Bool, true, false, not, ◌&&◌, cond, refl, sym, ap, ap₂, subst, arith}
use Rattle.std.proofs.Common.{List, [], ◌∷◌, ◌++◌, codes, nat_eq, length, take, drop, get_or, Some, None, decimal}
use Rattle.std.proofs.lemmas.List.{drop_more, drop_all, drop-drop, take-append-drop, take_rest, append_assoc}
use Rattle.std.proofs.lemmas.Bool.{leb-true, false≢true, and_parts, not-true, eqb-false}
use Rattle.std.proofs.lemmas.Bool.Decides.{Decides-eqb}
use Rattle.std.proofs.lemmas.Slice.Eq.{starts_is}
use Rattle.std.proofs.lemmas.Fmt.{decimal_step, decimal_digit}
use Rattle.std.specs.List.{prefix_len, starts_with}
use Rattle.json.specs.Token.{Token}
use Rattle.json.specs.Text.{content, plain}
use Rattle.json.specs.Word.{ends_word, word}
use Rattle.json.specs.Lex.{Lexeme, token, colon, string_token, lex, between, in_string}
use Rattle.json.specs.Lex.{Place, fresh, after_value, after_comma}
use Rattle.json.specs.Lex.{after_key, may_begin, punctuate, tokens}
use Rattle.json.specs.Print.{escape}
use Rattle.json.specs.Json.{value, read_key}
use Rattle.json.proofs.Grammar.{value_is}
use Rattle.json.proofs.Printed.Strings.{content-escape, lex-escape, escape_byte_plain}
use Rattle.json.proofs.Printed.Numbers.{lex-number, in_word-ended}
use Rattle.json.proofs.Printed.Decimals.{IsNumber-decimal}
use Rattle.serde_json.specs.Data.{Data, null, boolean, number, string, unsigned}
use Rattle.serde_json.specs.Find.{as_str, as_number}
use Rattle.serde_json.specs.Read.{of_json, converted}
use Rattle.serde_json.proofs.Numbers.{number_of-decimal}
use Rattle.client_lines.specs.inside.PlainLines.{is_plain, tokens_from, IsQuoted, IsWord, EndsValue}
use Rattle.client_lines.proofs.BlankLemmas.{AreBlanks, lexemes_kept, tokens_kept, word_ends_before}

-- ---- texts

escape_byte_more : (p : Bool) (x n : ℕ) (xs : List ℕ) → p ≡ is_plain x → escape (take n xs) ≡ take n xs
    → escape (take (cond p (1 + n) 0) (x ∷ xs)) ≡ take (cond p (1 + n) 0) (x ∷ xs)
escape_byte_more false x n xs e more = refl
escape_byte_more true x n xs e more =
    let next : 1 + n ≡ suc n = omega arith in
    let parts = and_parts (nat_le 32 x && not (x == 34)) (not (x == 92)) (sym e) in
    let front = and_parts (nat_le 32 x) (not (x == 34)) parts.0 in
    let no_quote = eqb-false x 34 (not-true (x == 34) front.1) in
    let no_backslash = eqb-false x 92 (not-true (x == 92) parts.1) in
    rw next
    (ap₂ (λ (a b : List ℕ). a ++ b) (escape_byte_plain x no_quote no_backslash (leb-true 32 x front.0)) more)

-- plain bytes need no escape
escape_front : (xs : List ℕ) → escape (take (prefix_len is_plain xs) xs) ≡ take (prefix_len is_plain xs) xs
escape_front [] = refl
escape_front (x ∷ xs) = escape_byte_more (is_plain x) x (prefix_len is_plain xs) xs refl (escape_front xs)

lex-unescaped : (s rest : List ℕ) → escape s ≡ s
    → lex between (34 ∷ (s ++ (34 ∷ rest))) ≡ token (Token.string s) ∷ lex between rest
unfolding lex
lex-unescaped s rest e =
    ap₂ (λ o l. token (string_token o) ∷ l)
    (ap (λ (t : List ℕ). content plain (t ++ (34 ∷ rest))) (sym e) ∙ content-escape s rest)
    (ap (λ (t : List ℕ). lex in_string (t ++ (34 ∷ rest))) (sym e) ∙ lex-escape s rest)

-- a byte, and what follows it
pub byte_at : (line : List ℕ) (at x : ℕ) → at < length line → get_or line at 0 ≡ x
    → drop at line ≡ x ∷ drop (at + 1) line
byte_at line at x within e = drop_more line at 0 within ∙ ap (λ (y : ℕ). y ∷ drop (at + 1) line) e

-- plain bytes between two quotes are a text
pub quoted_at : (line : List ℕ) (at end : ℕ) → at < length line → get_or line at 0 ≡ 34
    → end ≡ at + 1 + prefix_len is_plain (drop (at + 1) line) → end < length line → get_or line end 0 ≡ 34
    → IsQuoted line at (take (end - (at + 1)) (drop (at + 1) line)) (end + 1)
quoted_at line at end first opens is within closes =
    let inside = drop (at + 1) line in
    let n = end - (at + 1) in
    let count : prefix_len is_plain inside ≡ n = omega arith in
    let back : n + (at + 1) ≡ end = omega arith in
    let behind : drop n inside ≡ 34 ∷ drop (end + 1) line =
    drop-drop n (at + 1) line ∙ ap (λ k. drop k line) (omega arith) ∙ byte_at line end 34 within closes in
    let whole : inside ≡ take n inside ++ (34 ∷ drop (end + 1) line) =
    sym (take-append-drop n inside) ∙ ap (λ (l : List ℕ). take n inside ++ l) behind in
    let bare : escape (take n inside) ≡ take n inside =
    subst (λ k. escape (take k inside) ≡ take k inside) count (escape_front inside) in
    record {
      forward = omega arith;
      within = omega arith;
      lexed = ap (lex between) (byte_at line at 34 first opens ∙ ap (λ (l : List ℕ). 34 ∷ l) whole)
          ∙ lex-unescaped (take n inside) (drop (end + 1) line) bare;
    }

-- ---- names

key_first : (place : Place) (name : List ℕ) (ls : List Lexeme) → may_begin place ≡ true
    → read_key (punctuate place (token (Token.string name) ∷ (colon ∷ ls))) ≡ Some (Some name, punctuate fresh ls)
unfolding punctuate
key_first fresh name ls e = refl
key_first after_value name ls e = absurd (false≢true e)
key_first after_comma name ls e = refl
key_first after_key name ls e = absurd (false≢true e)

-- a text before a colon is a name
pub name_before_colon : (line : List ℕ) (at : ℕ) (name : List ℕ) (end colon' value' : ℕ) → IsQuoted line at name end
    → AreBlanks line end colon' → colon' < length line → get_or line colon' 0 ≡ 58
    → AreBlanks line (colon' + 1) value' → (place : Place) → may_begin place ≡ true
    → read_key (tokens_from place line at) ≡ Some (Some name, tokens_from fresh line value')
unfolding lex
name_before_colon line at name end colon' value' text before within e behind place may =
    let lexed : lex between (drop end line) ≡ colon ∷ lex between (drop (colon' + 1) line) =
    lexemes_kept line end colon' before ∙ ap (lex between) (byte_at line colon' 58 within e) in
    ap (λ ls. read_key (punctuate place ls))
    (text.lexed ∙ ap (λ (ls : List Lexeme). token (Token.string name) ∷ ls) lexed)
    ∙ key_first place name (lex between (drop (colon' + 1) line)) may
    ∙ ap (λ ts. Some (Some name, ts)) (tokens_kept fresh line (colon' + 1) value' behind)

-- ---- values

text_first : (s behind : List ℕ) → (rest : List ℕ) × ((behind ≡ 44 ∷ rest) ⊎ (behind ≡ 125 ∷ rest))
    → punctuate fresh (token (Token.string s) ∷ lex between behind)
    ≡ Token.string s ∷ punctuate after_value (lex between behind)
unfolding lex punctuate
text_first s behind (rest, inl e) = rw e refl
text_first s behind (rest, inr e) = rw e refl

ends_there : (behind : List ℕ) → (rest : List ℕ) × ((behind ≡ 44 ∷ rest) ⊎ (behind ≡ 125 ∷ rest))
    → ends_word behind ≡ true
ends_there behind (rest, inl e) = rw e refl
ends_there behind (rest, inr e) = rw e refl

number_first : (n : ℕ) (behind : List ℕ) → n < 2 ^ 64 → ends_word behind ≡ true
    → punctuate fresh (lex between (decimal n ++ behind))
    ≡ Token.number (decimal n) ∷ punctuate after_value (lex between behind)
unfolding punctuate
number_first n behind h ends = ap (punctuate fresh) (lex-number (decimal n) behind (IsNumber-decimal n h) ends)

-- a text that ends behind its blanks is a value
pub text_value : (line : List ℕ) (at : ℕ) (s : List ℕ) (last end : ℕ) → IsQuoted line at s last
    → AreBlanks line last end → EndsValue line end
    → converted of_json (value 126 (tokens_from fresh line at)) ≡ Some (string s, tokens_from after_value line end)
text_value line at s last end text blanks ends =
    let is : tokens_from fresh line at ≡ Token.string s ∷ tokens_from after_value line end =
    ap (punctuate fresh)
    (text.lexed ∙ ap (λ (ls : List Lexeme). token (Token.string s) ∷ ls) (lexemes_kept line last end blanks))
    ∙ text_first s (drop end line) ends in
    ap (converted of_json) (ap (value 126) is ∙ value_is 126 _)

-- and so is a number
pub number_value : (line : List ℕ) (at n last end : ℕ) → n < 2 ^ 64 → drop at line ≡ decimal n ++ drop last line
    → AreBlanks line last end → EndsValue line end
    → converted of_json (value 126 (tokens_from fresh line at))
    ≡ Some (number (unsigned n), tokens_from after_value line end)
number_value line at n last end h digits blanks ends =
    let word = word_ends_before line last end blanks (ends_there (drop end line) ends) in
    let is : tokens_from fresh line at ≡ Token.number (decimal n) ∷ tokens_from after_value line end =
    ap (λ (l : List ℕ). punctuate fresh (lex between l)) digits ∙ number_first n (drop last line) h word
    ∙ ap (λ ts. Token.number (decimal n) ∷ ts) (tokens_kept after_value line last end blanks) in
    ap (converted of_json) (ap (value 126) is ∙ value_is 126 _) ∙ rw (number_of-decimal n h) refl

-- ---- true, false and null

-- a word that the line goes on with
pub word_there : (line name : List ℕ) (at : ℕ) (found : Bool)
    → found ≡ starts_with nat_eq (take (length line - at) (drop at line)) name → found ≡ true
    → drop at line ≡ name ++ drop (at + length name) line
word_there line name at found is there =
    (starts_is Decides-eqb (drop at line) name found
    (is ∙ ap (λ (rest : List ℕ). starts_with nat_eq rest name) (take_rest line at))).0 there
    ∙ ap (λ (rest : List ℕ). name ++ rest) (drop-drop (length name) at line)

true_first : (behind : List ℕ) → ends_word behind ≡ true
    → punctuate fresh (lex between (codes "true" ++ behind))
    ≡ Token.boolean true ∷ punctuate after_value (lex between behind)
unfolding lex word punctuate
true_first behind ends =
    ap₂ (λ b l. punctuate fresh (token (cond b (Token.boolean true) Token.bad) ∷ l)) ends (in_word-ended behind ends)

false_first : (behind : List ℕ) → ends_word behind ≡ true
    → punctuate fresh (lex between (codes "false" ++ behind))
    ≡ Token.boolean false ∷ punctuate after_value (lex between behind)
unfolding lex word punctuate
false_first behind ends =
    ap₂ (λ b l. punctuate fresh (token (cond b (Token.boolean false) Token.bad) ∷ l)) ends (in_word-ended behind ends)

null_first : (behind : List ℕ) → ends_word behind ≡ true
    → punctuate fresh (lex between (codes "null" ++ behind))
    ≡ Token.null ∷ punctuate after_value (lex between behind)
unfolding lex word punctuate
null_first behind ends =
    ap₂ (λ b l. punctuate fresh (token (cond b Token.null Token.bad) ∷ l)) ends (in_word-ended behind ends)

-- such a word that ends behind its blanks is a value, and neither a text nor a number
pub word_value : (line : List ℕ) (at last end : ℕ) → IsWord line at last → AreBlanks line last end → EndsValue line end
    → (d : Data)
    × (converted of_json (value 126 (tokens_from fresh line at)) ≡ Some (d, tokens_from after_value line end))
    × ((as_str d ≡ None) × (as_number d ≡ None))
word_value line at last end is blanks ends = of_word is
  where
    ended : ends_word (drop last line) ≡ true
    ended = word_ends_before line last end blanks (ends_there (drop end line) ends)

    kept : (t : Token) (name : List ℕ) → drop at line ≡ name ++ drop last line
        → punctuate fresh (lex between (name ++ drop last line)) ≡ t ∷ tokens_from after_value line last
        → tokens_from fresh line at ≡ t ∷ tokens_from after_value line end
    kept t name there first =
        ap (λ (l : List ℕ). punctuate fresh (lex between l)) there ∙ first
        ∙ ap (λ ts. t ∷ ts) (tokens_kept after_value line last end blanks)

    of_word : IsWord line at last
        → (d : Data)
        × (converted of_json (value 126 (tokens_from fresh line at)) ≡ Some (d, tokens_from after_value line end))
        × ((as_str d ≡ None) × (as_number d ≡ None))
    of_word (inl there) =
        let read = kept (Token.boolean true) (codes "true") there (true_first (drop last line) ended) in
        (boolean true, ap (converted of_json) (ap (value 126) read ∙ value_is 126 _), (refl, refl))
    of_word (inr (inl there)) =
        let read = kept (Token.boolean false) (codes "false") there (false_first (drop last line) ended) in
        (boolean false, ap (converted of_json) (ap (value 126) read ∙ value_is 126 _), (refl, refl))
    of_word (inr (inr there)) =
        let read = kept Token.null (codes "null") there (null_first (drop last line) ended) in
        (null, ap (converted of_json) (ap (value 126) read ∙ value_is 126 _), (refl, refl))

-- ---- digits

-- one digit more
pub decimal_more : (n c : ℕ) → 0 < n → n * 10 + (c - 48) < 2 ^ 64 → 48 ≤ c → c ≤ 57
    → decimal n ++ (c ∷ []) ≡ decimal (n * 10 + (c - 48))
decimal_more n c some small low high =
    let m = n * 10 + (c - 48) in
    let front : m / 10 ≡ n = omega arith in
    let last : 48 + m % 10 ≡ c = omega arith in
    sym (decimal_step m (omega arith) (omega arith)
    ∙ ap₂ (λ (a : ℕ) (b : ℕ). decimal a ++ (b ∷ [])) front last)

-- ---- between and behind the members

-- a comma is passed, and the blanks behind it
pub comma_passed : (line : List ℕ) (end at : ℕ) → end < length line → get_or line end 0 ≡ 44
    → AreBlanks line (end + 1) at → tokens_from after_value line end ≡ tokens_from after_comma line at
unfolding lex punctuate
comma_passed line end at within e blanks =
    ap (λ (l : List ℕ). punctuate after_value (lex between l)) (byte_at line end 44 within e)
    ∙ tokens_kept after_comma line (end + 1) at blanks

-- the object ends, and the line with it or with the blanks behind it
pub object_over : (line : List ℕ) (end : ℕ) → end < length line → get_or line end 0 ≡ 125
    → AreBlanks line (end + 1) (length line) → read_key (tokens_from after_value line end) ≡ Some (None, [])
unfolding lex punctuate
object_over line end within e blanks =
    let none : tokens_from after_value line (end + 1) ≡ [] =
    tokens_kept after_value line (end + 1) (length line) blanks
    ∙ ap (λ (l : List ℕ). punctuate after_value (lex between l)) (drop_all (length line) line (omega arith)) in
    ap (λ (l : List ℕ). read_key (punctuate after_value (lex between l))) (byte_at line end 125 within e)
    ∙ ap (λ ts. Some (None, ts)) none

-- the object begins with the line
pub object_begun : (line : List ℕ) → get_or line 0 0 ≡ 123
    → tokens line ≡ Token.begin_object ∷ tokens_from fresh line 1
unfolding lex punctuate
object_begun [] e = absurd (omega arith)
object_begun (x ∷ xs) e = rw e refl

-- the first digit
pub number_begun : (line : List ℕ) (at : ℕ) → at < length line → 48 ≤ get_or line at 0 → get_or line at 0 ≤ 57
    → drop at line ≡ decimal (get_or line at 0 - 48) ++ drop (at + 1) line
number_begun line at within low high =
    let c = get_or line at 0 in
    let back : 48 + (c - 48) ≡ c = omega arith in
    byte_at line at c within refl
    ∙ ap (λ (l : List ℕ). l ++ drop (at + 1) line)
    (sym (decimal_digit (c - 48) (omega arith) ∙ ap (λ (x : ℕ). x ∷ []) back))

-- one digit more of a number
pub number_more : (line : List ℕ) (at n end : ℕ) → drop at line ≡ decimal n ++ drop end line → end < length line → 0 < n
    → n * 10 + (get_or line end 0 - 48) < 2 ^ 64 → 48 ≤ get_or line end 0 → get_or line end 0 ≤ 57
    → drop at line ≡ decimal (n * 10 + (get_or line end 0 - 48)) ++ drop (end + 1) line
number_more line at n end so_far within some small low high =
    let c = get_or line end 0 in
    so_far
    ∙ ap (λ (l : List ℕ). decimal n ++ l) (byte_at line end c within refl)
    ∙ sym (append_assoc (decimal n) (c ∷ []) (drop (end + 1) line))
    ∙ ap (λ (l : List ℕ). l ++ drop (end + 1) line) (decimal_more n c some small low high)
