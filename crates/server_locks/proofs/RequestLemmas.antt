-- Whose a connection is stays the same, whatever comes behind the bytes that told it.
use Rattle.std.proofs.Common.{◌≡◌, ◌∙◌, refl, sym, ap, subst, ℕ, ◌+◌, ◌≤◌, Bool, true, false, ◌&&◌, ◌||◌}
use Rattle.std.proofs.Common.{List, [], ◌∷◌, ◌++◌, length, take, drop, Option, None, Some, arith, rules, append-nil}
use Rattle.std.proofs.lemmas.List.{take-append-le}
use Rattle.std.specs.Prelude.{nat_eq, codes}
use Rattle.std.specs.List.{AllByRecursion, list_any, starts_with}
use Rattle.std.specs.Io.KnownBytes.{Keeps, prepend_known}
use Rattle.link_frames.specs.lines.Lines.{line_end, NoLineEnd}
use Rattle.link_frames.specs.lines.Nexts.{Begins, EndsWith}
use Rattle.link_frames.specs.declared.lines.next.Next.{Next}
use Rattle.link_frames.specs.declared.lines.next.Next.TheVariants.{Line, TooLong, Last, End}
use Rattle.server_locks.specs.Requests.{http_methods, is_http, begins_otherwise, is_foreign, HoldsOfAll}

-- a word that is no longer than the bytes
long_start : (word front rest : List ℕ) → length word ≤ length front
    → starts_with nat_eq (front ++ rest) word ≡ starts_with nat_eq front word
long_start word front rest fits = rw take-append-le refl

-- a word without a line end, before bytes that have one
line_start : (word front behind rest : List ℕ) → NoLineEnd word
    → starts_with nat_eq ((front ++ line_end ∷ behind) ++ rest) word
    ≡ starts_with nat_eq (front ++ line_end ∷ behind) word
line_start [] front behind rest none = refl
line_start (c ∷ cs) [] behind rest none =
    ap (λ (t : Bool). t && starts_with nat_eq (behind ++ rest) cs) none.0
    ∙ sym (ap (λ (t : Bool). t && starts_with nat_eq behind cs) none.0)
line_start (c ∷ cs) (b ∷ bs) behind rest none = ap (λ (t : Bool). nat_eq c b && t) (line_start cs bs behind rest none.1)

same_any : (p q : List ℕ → Bool) (words : List (List ℕ)) → AllByRecursion (λ word. p word ≡ q word) words
    → list_any p words ≡ list_any q words
same_any p q [] same = refl
same_any p q (word ∷ words) same = λ i. same.0 i || same_any p q words same.1 i

-- the longest method has eight bytes
http_long : (front rest : List ℕ) → 8 ≤ length front → is_http (front ++ rest) ≡ is_http front
http_long front rest long = same_any (starts_with nat_eq (front ++ rest)) (starts_with nat_eq front) http_methods (
  long_start (codes "GET ") front rest (omega arith),
  (
    long_start (codes "HEAD ") front rest (omega arith),
    (
      long_start (codes "POST ") front rest (omega arith),
      (
        long_start (codes "PUT ") front rest (omega arith),
        (long_start (codes "OPTIONS ") front rest (omega arith), tt),
      ),
    ),
  ),
)

-- a line has ended
http_line : (front behind rest : List ℕ)
    → is_http ((front ++ line_end ∷ behind) ++ rest) ≡ is_http (front ++ line_end ∷ behind)
http_line front behind rest =
    let bytes = front ++ line_end ∷ behind in
    same_any (starts_with nat_eq (bytes ++ rest)) (starts_with nat_eq bytes) http_methods (
      line_start (codes "GET ") front behind rest (search rules),
      (
        line_start (codes "HEAD ") front behind rest (search rules),
        (
          line_start (codes "POST ") front behind rest (search rules),
          (
            line_start (codes "PUT ") front behind rest (search rules),
            (line_start (codes "OPTIONS ") front behind rest (search rules), tt),
          ),
        ),
      ),
    )

-- nothing comes behind
at_end : (front rest all : List ℕ) → rest ≡ [] → front ++ rest ≡ all → front ≡ all
at_end front rest all none is = sym (append-nil front) ∙ ap (λ l. front ++ l) (sym none) ∙ is

http_told : (most : ℕ) (front rest all : List ℕ) (next : Next) → 7 ≤ most → front ++ rest ≡ all
    → Begins most front next → EndsWith (Some rest) next → is_http front ≡ is_http all
http_told most front rest all (Line n) enough is begins ends =
    let same = subst (λ (l : List ℕ). is_http (l ++ rest) ≡ is_http l) (sym begins.1.2)
    (http_line (take n front) (drop (n + 1) front) rest) in
    sym same ∙ ap is_http is
http_told most front rest all TooLong enough is begins ends =
    let long : 8 ≤ length front = omega (arith, begins.0) in
    sym (http_long front rest long) ∙ ap is_http is
http_told most front rest all (Last n) enough is begins ends = ap is_http (at_end front rest all ends is)
http_told most front rest all End enough is begins ends = ap is_http (at_end front rest all ends is)

first_told : (most : ℕ) (front rest all : List ℕ) (next : Next) → front ++ rest ≡ all
    → Begins most front next → EndsWith (Some rest) next → begins_otherwise front ≡ begins_otherwise all
first_told most (b ∷ bs) rest all next is begins ends = ap begins_otherwise is
first_told most [] rest all (Line n) is begins ends = absurd (omega (arith, begins.1.1))
first_told most [] rest all TooLong is begins ends = absurd (omega (arith, begins.0))
first_told most [] rest all (Last n) is begins ends = absurd (omega (arith, begins.1, begins.2))
first_told most [] rest all End is begins ends = ap begins_otherwise (at_end [] rest all ends is)

-- what the bytes ahead tell, once they have a first byte, or a line or seven bytes more where the method matters
pub told_of_all : (operators : Bool) (most : ℕ) (old known : Option (List ℕ)) (front : List ℕ) (next : Next)
    → (operators ≡ false → 7 ≤ most) → Keeps old (prepend_known front known) → Begins most front next
    → EndsWith known next → HoldsOfAll operators old (is_foreign operators front)
told_of_all operators most None known front next enough keeps begins ends = tt
told_of_all operators most (Some all) None front next enough keeps begins ends = absurd keeps
told_of_all true most (Some all) (Some rest) front next enough keeps begins ends =
    first_told most front rest all next keeps begins ends
told_of_all false most (Some all) (Some rest) front next enough keeps begins ends =
    http_told most front rest all next (enough refl) keeps begins ends
