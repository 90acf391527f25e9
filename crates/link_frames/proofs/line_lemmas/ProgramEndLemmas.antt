-- How a line program ends: at the end of its input, at a bad line, or where no text is due any more.
use Rattle.std.proofs.Common.{◌≡◌, ℕ, ◌+◌, ◌<◌, List, [], ◌∷◌, ◌++◌, length, take, drop, Option, Some, None, false, sym}
use Rattle.std.proofs.Common.{refl, ap, ◌∙◌, subst, arith, append_assoc, append-nil, length-take-le, take-append-drop}
use Rattle.std.proofs.KnownBytes.{Appends-trans, Appends-nil}
use Rattle.std.specs.Io.KnownBytes.{Consumes, Appends, IsAtEnd, prepend_known}
use Rattle.link_frames.specs.lines.Devices.{AppendsFront}
use Rattle.link_frames.specs.lines.Lines.{line_end, lines_of, NoLineEnd, ended}
use Rattle.link_frames.specs.lines.Nexts.{Begins, EndsAt, PassedLine}
use Rattle.link_frames.specs.declared.lines.next.Next.TheVariants.{TooLong, Last}
use Rattle.link_frames.specs.lines.LinePrograms.{text_by, bad_by, HasBytes, WroteFront}
use Rattle.link_frames.specs.lines.LinesAt.{Lines}
use Rattle.link_frames.proofs.line_lemmas.LineLemmas.{lines_of-nil, lines_of-line, lines_of-last, lines_of-begun}
use Rattle.link_frames.proofs.line_lemmas.TextLemmas.{text_by-nil, text_by-good, text_by-bad, bad_by-nil, bad_by-good}
use Rattle.link_frames.proofs.line_lemmas.TextLemmas.{bad_by-bad}
use Rattle.link_frames.proofs.line_lemmas.ProgramRunLemmas.{Ran}

-- ---- what the input is

pub HasBytes-done : (k p : Option (List ℕ)) (done tail : List ℕ) → Consumes k p done → HasBytes p tail
    → HasBytes k (done ++ tail)
HasBytes-done None p done tail read has = tt
HasBytes-done (Some xs) None done tail read has = absurd read
HasBytes-done (Some xs) (Some ys) done tail read has = read ∙ ap (λ l. done ++ l) has

pub some_tail : (p : Option (List ℕ)) → (tail : List ℕ) × HasBytes p tail
some_tail None = ([], tt)
some_tail (Some ys) = (ys, refl)

pub tail_of : (known : Option (List ℕ)) (front : List ℕ)
    → (rest : List ℕ) × HasBytes (prepend_known front known) (front ++ rest)
tail_of None front = ([], tt)
tail_of (Some ys) front = (ys, refl)

pub tail_at_end : (known : Option (List ℕ)) (front : List ℕ) → IsAtEnd known
    → HasBytes (prepend_known front known) front
tail_at_end None front end = tt
tail_at_end (Some ys) front end = ap (λ l. front ++ l) end ∙ append-nil front

pub nothing_left : (p : Option (List ℕ)) → IsAtEnd p → HasBytes p []
nothing_left None end = tt
nothing_left (Some ys) end = end

-- ---- the end of a run

-- The input is all that was read, with what comes behind. `sent` of its text was written, and `held` is to be. `bad` is
-- the number of its first bad line.
pub record Ended {S : Type 0} (next : S → List ℕ → Option (S × List ℕ)) (start : S)
    (known out_old out_new : Option (List ℕ)) (held : List ℕ) (bad : Option ℕ) : Type 0 where
  pub input : List ℕ
  pub sent : List ℕ
  pub has : HasBytes known input
  pub wrote : Appends out_old out_new sent
  pub goes : text_by next start (lines_of input) ≡ sent ++ held
  pub stops : bad_by next 1 start (lines_of input) ≡ bad

-- the same between two moments
abbrev pub EndedBetween : {S : Type 0} → (S → List ℕ → Option (S × List ℕ)) → S → Lines → Lines → List ℕ → Option ℕ
    → Type 0
EndedBetween next start first now held bad = Ended next start first.unread first.written now.written held bad

-- the text of an input was written
pub record Whole {S : Type 0} (next : S → List ℕ → Option (S × List ℕ)) (start : S)
    (known out_old out_new : Option (List ℕ)) (bad : Option ℕ) : Type 0 where
  pub input : List ℕ
  pub has : HasBytes known input
  pub stops : bad_by next 1 start (lines_of input) ≡ bad
  pub wrote : Appends out_old out_new (text_by next start (lines_of input))

module _ {S : Type 0} {next : S → List ℕ → Option (S × List ℕ)} {start : S} {k a b : Option (List ℕ)} {held : List ℕ}
    {bad : Option ℕ} (end : Ended next start k a b held bad) where
  -- what is held was written
  pub Ended-whole : (c : Option (List ℕ)) → Appends b c held → Whole next start k a c bad
  Ended-whole c wrote = record {
    input = end.input;
    has = end.has;
    stops = end.stops;
    wrote = subst (Appends a c) (sym end.goes) (Appends-trans a b c end.sent held end.wrote wrote);
  }

  -- a prefix of it was
  pub Ended-front : (c : Option (List ℕ)) → AppendsFront b c held
      → WroteFront (λ input. text_by next start (lines_of input)) k a c
  Ended-front c (front, rest, is, wrote) =
      let all : text_by next start (lines_of end.input) ≡ (end.sent ++ front) ++ rest =
      end.goes ∙ ap (λ l. end.sent ++ l) is ∙ sym (append_assoc end.sent front rest) in
      (end.input, end.has, (end.sent ++ front, rest, all, Appends-trans a b c end.sent front end.wrote wrote))

module _ {S : Type 0} {next : S → List ℕ → Option (S × List ℕ)} {start state : S} {k p a b : Option (List ℕ)}
    {held : List ℕ} {number : ℕ} (ran : Ran next start k p a b held state number) where
  -- what comes behind gives no text
  ended_at : (tail : List ℕ) → HasBytes p tail → text_by next state (lines_of tail) ≡ []
      → Ended next start k a b held (bad_by next number state (lines_of tail))
  ended_at tail has silent = record {
    input = ran.done ++ tail;
    sent = ran.sent;
    has = HasBytes-done k p ran.done tail ran.read has;
    wrote = ran.wrote;
    goes = ran.goes tail ∙ ap (λ l. (ran.sent ++ held) ++ l) silent ∙ append-nil (ran.sent ++ held);
    stops = ran.stops tail;
  }

  -- a last line comes behind, for which this is due
  last_at : (line text holds : List ℕ) (after : S) → NoLineEnd line → 0 < length line → HasBytes p line
      → next state line ≡ Some (after, text) → holds ≡ held ++ ended text → Ended next start k a b holds None
  last_at line text holds after none some has good grown =
      let last : lines_of line ≡ line ∷ [] = lines_of-last line none some in
      let due : text_by next state (lines_of line) ≡ ended text =
      ap (text_by next state) last ∙ text_by-good next state after line text [] good
      ∙ ap (λ l. ended text ++ l) (text_by-nil next after) ∙ append-nil (ended text) in
      let held_too : (ran.sent ++ held) ++ ended text ≡ ran.sent ++ holds =
      append_assoc ran.sent held (ended text) ∙ ap (λ l. ran.sent ++ l) (sym grown) in record {
        input = ran.done ++ line;
        sent = ran.sent;
        has = HasBytes-done k p ran.done line ran.read has;
        wrote = ran.wrote;
        goes = ran.goes line ∙ ap (λ l. (ran.sent ++ held) ++ l) due ∙ held_too;
        stops = ran.stops line ∙ ap (bad_by next number state) last
            ∙ bad_by-good next number state after line text [] good ∙ bad_by-nil next (number + 1) after;
      }

  -- a bad line comes first
  bad_at : (tail line : List ℕ) (lines : List (List ℕ)) → HasBytes p tail → lines_of tail ≡ line ∷ lines
      → next state line ≡ None → Ended next start k a b held (Some number)
  bad_at tail line lines has is bad =
      let silent : text_by next state (lines_of tail) ≡ [] =
      ap (text_by next state) is ∙ text_by-bad next state line lines bad in
      let first : bad_by next number state (lines_of tail) ≡ Some number =
      ap (bad_by next number state) is ∙ bad_by-bad next number state line lines bad in
      subst (λ (bad : Option ℕ). Ended next start k a b held bad) first (ended_at tail has silent)

  -- a prefix of what is held was written, whatever comes behind
  pub Ran-front : (c : Option (List ℕ)) → AppendsFront b c held
      → WroteFront (λ input. text_by next start (lines_of input)) k a c
  Ran-front c (front, rest, is, wrote) =
      let (tail, has) = some_tail p in
      let more = text_by next state (lines_of tail) in
      let text : text_by next start (lines_of (ran.done ++ tail)) ≡ (ran.sent ++ front) ++ (rest ++ more) =
      ran.goes tail ∙ rw is (simp append_assoc) in
      let whole = Appends-trans a b c ran.sent front ran.wrote wrote in
      (ran.done ++ tail, HasBytes-done k p ran.done tail ran.read has, (ran.sent ++ front, rest ++ more, text, whole))

  -- no text is due any more
  pub Ran-silent : ((lines : List (List ℕ)) → text_by next state lines ≡ [])
      → (bad : Option ℕ) × Ended next start k a b held bad
  Ran-silent silent = let (tail, has) = some_tail p in (_, ended_at tail has (silent (lines_of tail)))

  -- a last line was passed over
  pub Ran-passed_last : (q : Option (List ℕ)) (front text holds : List ℕ) (after : S)
      (passed : PassedLine front p q false) → 0 < length passed.line → next state passed.line ≡ Some (after, text)
      → holds ≡ held ++ ended text → Ended next start k a b holds None
  Ran-passed_last q front text holds after passed some good grown =
      let (took, end) = passed.passed in
      let has = subst (HasBytes p) (append-nil passed.line)
      (HasBytes-done p q passed.line [] took (nothing_left q end)) in
      last_at passed.line text holds after passed.none some has good grown

module _ {S : Type 0} {next : S → List ℕ → Option (S × List ℕ)} {start state : S} {k a b : Option (List ℕ)}
    {held : List ℕ} {number : ℕ} (known : Option (List ℕ)) (front : List ℕ)
    (ran : Ran next start k (prepend_known front known) a b held state number) where
  -- the input has ended
  pub Ran-end : front ≡ [] → IsAtEnd known → Ended next start k a b held None
  Ran-end none end =
      let has : HasBytes (prepend_known front known) [] =
      subst (HasBytes (prepend_known front known)) none (tail_at_end known front end) in
      let silent : text_by next state (lines_of []) ≡ [] =
      ap (text_by next state) lines_of-nil ∙ text_by-nil next state in
      let good : bad_by next number state (lines_of []) ≡ None =
      ap (bad_by next number state) lines_of-nil ∙ bad_by-nil next number state in
      subst (λ (bad : Option ℕ). Ended next start k a b held bad) good (ended_at ran [] has silent)

  -- a good last line is ahead, and what is due for it is held
  pub Ran-last : (n : ℕ) (limit : ℕ) (text holds : List ℕ) (after : S) → Begins limit front (Last n) → IsAtEnd known
      → next state front ≡ Some (after, text) → holds ≡ held ++ ended text → Ended next start k a b holds None
  Ran-last n limit text holds after (none, all, some, short) end good grown =
      last_at ran front text holds after none (omega (arith, all, some)) (tail_at_end known front end) good grown

  -- ---- a bad line is ahead: one with its end, the last, or one that is too long

  pub Ran-bad_line : (n : ℕ) → EndsAt front n → next state (take n front) ≡ None
      → Ended next start k a b held (Some number)
  Ran-bad_line n (none, within, is) bad =
      let (rest, has) = tail_of known front in
      let line = take n front in
      let behind = drop (n + 1) front in
      let lines : lines_of (front ++ rest) ≡ line ∷ lines_of (behind ++ rest) =
      ap (λ l. lines_of (l ++ rest)) is ∙ ap lines_of (append_assoc line (line_end ∷ behind) rest)
      ∙ lines_of-line line (behind ++ rest) none in
      bad_at ran (front ++ rest) line _ has lines bad

  pub Ran-bad_last : (n : ℕ) (limit : ℕ) → Begins limit front (Last n) → IsAtEnd known → next state front ≡ None
      → Ended next start k a b held (Some number)
  Ran-bad_last n limit (none, all, some, short) end bad =
      let last = lines_of-last front none (omega (arith, all, some)) in
      bad_at ran front front [] (tail_at_end known front end) last bad

  pub Ran-too_long : (limit : ℕ) → Begins limit front TooLong
      → ((line : List ℕ) → limit < length line → next state line ≡ None) → Ended next start k a b held (Some number)
  Ran-too_long limit (long, none) bad =
      let (rest, has) = tail_of known front in
      let cut = take (limit + 1) front in
      let behind = drop (limit + 1) front in
      let whole : length cut ≡ limit + 1 = length-take-le (limit + 1) front (omega (arith, long)) in
      let begun = lines_of-begun cut (behind ++ rest) none (omega (arith, whole)) in
      let joined : front ++ rest ≡ cut ++ (behind ++ rest) =
      ap (λ l. l ++ rest) (sym (take-append-drop (limit + 1) front)) ∙ append_assoc cut behind rest in
      bad_at ran (front ++ rest) begun.line begun.lines has (ap lines_of joined ∙ begun.is)
      (bad begun.line (omega (arith, begun.long, whole)))

-- nothing was read and nothing was written
pub WroteFront-nothing : (text : List ℕ → List ℕ) (k a : Option (List ℕ)) → WroteFront text k a a
WroteFront-nothing text k a = let (tail, has) = some_tail k in (tail, has, ([], text tail, refl, Appends-nil a))
