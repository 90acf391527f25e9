-- How bytes begin.
use Rattle.std.proofs.Common.{◌≡◌, ℕ, zero, suc, append_assoc, ◌+◌, ◌<◌, ◌≤◌, Bool, true, false}
use Rattle.std.proofs.Common.{cond, List, [], ◌∷◌, ◌++◌, Some, None, length, get_or, take, drop}
use Rattle.std.proofs.Common.{refl, sym, ap, subst, ◌∙◌, arith, ltb-false, take-append-drop}
use Rattle.std.proofs.lemmas.Bool.Decides.{nat_tests}
use Rattle.std.proofs.lemmas.List.{drop_more, take-take, take_all}
use Rattle.std.proofs.lemmas.List.Quantifiers.{position-Some}
use Rattle.std.proofs.lemmas.List.Sums.{fails_before_first}
use Rattle.std.specs.List.{position, position_or_len}
use Rattle.link_frames.specs.lines.Lines.{line_end, is_line_end, ended, NoLineEnd}
use Rattle.link_frames.specs.lines.Nexts.{EndsAt}

is_line_end_byte : (b : ℕ) → is_line_end b ≡ true → b ≡ line_end
is_line_end_byte b e = grind (arith, nat_tests)

NoLineEnd-take : (m : ℕ) (front : List ℕ) → ((k : ℕ) → k < m → is_line_end (get_or front k 0) ≡ false)
    → NoLineEnd (take m front)
NoLineEnd-take zero front h = tt
NoLineEnd-take (suc m) [] h = tt
NoLineEnd-take (suc m) (b ∷ bs) h = (h 0 (omega arith), NoLineEnd-take m bs (λ k below. h (suc k) (omega arith)))

pub EndsAt-position : (front : List ℕ) (n : ℕ) → position is_line_end front ≡ Some n → EndsAt front n
EndsAt-position front n e =
    let at = position-Some is_line_end front n 0 e in
    let byte : get_or front n 0 ≡ line_end = is_line_end_byte _ at.1 in (
      NoLineEnd-take n front at.2,
      at.0,
      sym (take-append-drop n front)
          ∙ ap (λ l. take n front ++ l) (drop_more front n 0 at.0 ∙ ap (λ b. b ∷ drop (n + 1) front) byte),
    )

NoLineEnd-front : (m : ℕ) (bytes : List ℕ) → NoLineEnd bytes → NoLineEnd (take m bytes)
NoLineEnd-front zero bytes h = tt
NoLineEnd-front (suc m) [] h = tt
NoLineEnd-front (suc m) (b ∷ bs) h = (h.0, NoLineEnd-front m bs h.1)

-- where a line ends past the most bytes
pub NoLineEnd-EndsAt : (front : List ℕ) (m n : ℕ) → EndsAt front n → m ≤ n → NoLineEnd (take m front)
NoLineEnd-EndsAt front m n at below =
    subst NoLineEnd (take-take m n front below) (NoLineEnd-front m (take n front) at.0)

not_some : (b : Bool) (n : ℕ) → cond b (Some n) None ≡ None → b ≡ false
not_some true n e = cc
not_some false n e = refl

pub NoLineEnd-whole : (front : List ℕ) → position is_line_end front ≡ None → NoLineEnd front
NoLineEnd-whole front e =
    let past : length front ≤ position_or_len is_line_end front = ltb-false _ _ (not_some _ _ e) in
    subst NoLineEnd (take_all (length front) front (omega arith))
    (NoLineEnd-take (length front) front (λ k below. fails_before_first is_line_end front k 0 (omega arith)))

pub NoLineEnd-position : (front : List ℕ) (m : ℕ) → position is_line_end front ≡ None → NoLineEnd (take m front)
NoLineEnd-position front m e = NoLineEnd-front m front (NoLineEnd-whole front e)

-- the bytes behind the first line end
pub used_line : (front after : List ℕ) (n : ℕ) → position is_line_end front ≡ Some n → after ≡ drop (n + 1) front
    → (line : List ℕ) × NoLineEnd line × (front ≡ ended line ++ after)
used_line front after n found rest =
    let at = EndsAt-position front n found in
    let line = take n front in (
      line,
      at.0,
      at.2 ∙ sym (append_assoc line (line_end ∷ []) (drop (n + 1) front))
          ∙ ap (λ l. ended line ++ l) (sym rest),
    )
