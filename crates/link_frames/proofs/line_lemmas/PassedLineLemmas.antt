-- A line that is passed over block by block.
use Rattle.std.proofs.Common.{◌≡◌, ℕ, zero, suc, ◌+◌, ◌<◌, ◌≤◌, ◌⊎◌, inl, inr, max, List, []}
use Rattle.std.proofs.Common.{◌∷◌, ◌++◌, length, take, Option, None, Some, false, true, sym}
use Rattle.std.proofs.Common.{ap, subst, ◌∙◌, arith, append_assoc, length-append, append-nil}
use Rattle.std.proofs.lemmas.Bool.{true≢false}
use Rattle.std.proofs.KnownBytes.{Consumes-trans, Consumes-kept}
use Rattle.std.specs.Io.KnownBytes.{Consumes, Keeps, IsAtEnd, prepend_known}
use Rattle.link_frames.specs.lines.Watching.{Tally}
use Rattle.link_frames.specs.lines.Devices.{WentOn}
use Rattle.link_frames.specs.lines.Lines.{line_end, ended, NoLineEnd}
use Rattle.link_frames.specs.lines.Nexts.{Begins, PassedLine, PassedPart}
use Rattle.link_frames.specs.declared.lines.next.Next.TheVariants.{TooLong}
use Rattle.link_frames.specs.lines.Blocks.{block_bytes}

-- a part of the line was used up, which is none yet, or all of the bytes that were ahead at first
pub record Passing (front ahead : List ℕ) (before now : Option (List ℕ)) (old new : Tally)
    (held_old held_new : ℕ) : Type 0 where
  pub part : List ℕ
  pub none : NoLineEnd part
  pub used : Consumes before now part
  pub begun : ((part ≡ []) × (ahead ≡ front)) ⊎ (length front ≤ length part)
  pub went : WentOn old new
  pub held : held_new ≤ max held_old block_bytes

-- the bytes ahead give their first part
pub Consumes-front : (known : Option (List ℕ)) (front xs ys : List ℕ) → front ≡ xs ++ ys
    → Consumes (prepend_known front known) (prepend_known ys known) xs
Consumes-front None front xs ys e = tt
Consumes-front (Some zs) front xs ys e = ap (λ l. l ++ zs) e ∙ append_assoc xs ys zs

-- all of the bytes ahead are used up
pub Consumes-ahead : (known : Option (List ℕ)) (front rest : List ℕ) → rest ≡ []
    → Consumes (prepend_known front known) (prepend_known rest known) front
Consumes-ahead known front rest none =
    Consumes-front known front front rest (sym (ap (λ l. front ++ l) none ∙ append-nil front))

pub NoLineEnd-append : (xs ys : List ℕ) → NoLineEnd xs → NoLineEnd ys → NoLineEnd (xs ++ ys)
NoLineEnd-append [] ys p q = q
NoLineEnd-append (x ∷ xs) ys p q = (p.0, NoLineEnd-append xs ys p.1 q)

-- a line whose end comes behind so many bytes that have none
longer : (m : ℕ) (line rest : List ℕ) → NoLineEnd (take m (ended line ++ rest)) → m ≤ length (ended line ++ rest)
    → m ≤ length line
longer zero line rest none within = omega arith
longer (suc m) [] rest none within = absurd (true≢false none.0)
longer (suc m) (b ∷ bs) rest none within =
    let more = longer m bs rest none.1 (omega (arith, within)) in
    omega (arith, more)

-- the whole line was ahead
starts_long : (front rest line : List ℕ) → front ≡ ended line ++ rest → (limit : ℕ) → Begins limit front TooLong
    → limit < length line
starts_long front rest line is limit (within, none) =
    let none' : NoLineEnd (take (limit + 1) (ended line ++ rest)) =
    subst (λ (l : List ℕ). NoLineEnd (take (limit + 1) l)) is none in
    let within' : limit < length (ended line ++ rest) = subst (λ (l : List ℕ). limit < length l) is within in
    let more = longer (limit + 1) line rest none' (omega (arith, within')) in
    omega (arith, more)

-- all that was ahead belongs to the line, and is used up
pub record UsedUp (front : List ℕ) (before now : Option (List ℕ)) : Type 0 where
  pub part : List ℕ
  pub none : NoLineEnd part
  pub used : Consumes before now part
  pub more : length front ≤ length part

module _ {front ahead : List ℕ} {before now : Option (List ℕ)} {old new : Tally} {held_old held_new : ℕ}
    (so_far : Passing front ahead before now old new held_old held_new) where
  -- the line's end was ahead
  pub passed_end : (after : Option (List ℕ)) (rest line : List ℕ) → NoLineEnd line → ahead ≡ ended line ++ rest
      → Consumes now after (ended line) → PassedLine front before after true
  passed_end after rest line none is used = record {
    line = so_far.part ++ line;
    none = NoLineEnd-append so_far.part line so_far.none none;
    passed =
        let joined = append_assoc so_far.part line (line_end ∷ []) in
        subst (Consumes before after) (sym joined) (Consumes-trans _ _ _ _ _ so_far.used used);
    long = long so_far.begun;
  }
    where
      long : ((so_far.part ≡ []) × (ahead ≡ front)) ⊎ (length front ≤ length so_far.part) → (limit : ℕ)
          → Begins limit front TooLong → limit < length (so_far.part ++ line)
      long (inl (first, same)) limit begins =
          let more = starts_long front rest line (sym same ∙ is) limit begins in
          omega (arith, more, length-append so_far.part line)
      long (inr more) limit begins = omega (arith, begins.0, more, length-append so_far.part line)

  -- it was not
  pub passed_ahead : (after : Option (List ℕ)) → NoLineEnd ahead → Consumes now after ahead → UsedUp front before after
  passed_ahead after none used = record {
    part = so_far.part ++ ahead;
    none = NoLineEnd-append so_far.part ahead so_far.none none;
    used = Consumes-trans _ _ _ _ _ so_far.used used;
    more = longer_now so_far.begun;
  }
    where
      longer_now : ((so_far.part ≡ []) × (ahead ≡ front)) ⊎ (length front ≤ length so_far.part)
          → length front ≤ length (so_far.part ++ ahead)
      longer_now (inl (first, same)) = omega (arith, ap length same, length-append so_far.part ahead)
      longer_now (inr more) = omega (arith, more, length-append so_far.part ahead)

-- the bytes end behind the line
pub passed_last : {front : List ℕ} {before : Option (List ℕ)} (now after : Option (List ℕ)) → UsedUp front before now
    → Keeps now after → IsAtEnd after → PassedLine front before after false
passed_last now after up kept end = record {
  line = up.part;
  none = up.none;
  passed = (Consumes-kept _ _ _ _ up.used kept, end);
  long = λ limit begins. omega (arith, begins.0, up.more);
}

pub UsedUp-part : {front : List ℕ} {before : Option (List ℕ)} (now after : Option (List ℕ)) → UsedUp front before now
    → Keeps now after → PassedPart before after
UsedUp-part now after up kept = (up.part, up.none, Consumes-kept _ _ _ _ up.used kept)

-- nothing is left where nothing is ahead and the reader is at its end
pub IsAtEnd-prepend : (known : Option (List ℕ)) (ahead : List ℕ) → ahead ≡ [] → IsAtEnd known
    → IsAtEnd (prepend_known ahead known)
IsAtEnd-prepend None ahead none end = tt
IsAtEnd-prepend (Some xs) ahead none end = ap (λ l. l ++ xs) none ∙ end
