-- A line program that was run so far.
use Rattle.std.proofs.Common.{◌≡◌, ℕ, ◌+◌, List, [], ◌∷◌, ◌++◌, length, take, drop, Option, Some}
use Rattle.std.proofs.Common.{sym, refl, ap, ◌∙◌, subst, arith, append_assoc, append-nil, None, true}
use Rattle.std.proofs.KnownBytes.{Consumes-trans, Consumes-kept, Consumes-nil}
use Rattle.std.proofs.KnownBytes.{Appends-trans, Appends-nil, prepend_known-nil}
use Rattle.std.specs.Io.KnownBytes.{Consumes, Appends, Keeps, prepend_known}
use Rattle.link_frames.specs.lines.Lines.{line_end, lines_of, NoLineEnd, ended}
use Rattle.link_frames.specs.lines.Nexts.{EndsAt, PassedLine}
use Rattle.link_frames.specs.lines.LinePrograms.{text_by, bad_by, Moved}
use Rattle.link_frames.specs.lines.LinesAt.{Lines}
use Rattle.link_frames.proofs.line_lemmas.LineLemmas.{lines_of-nil, lines_of-line}
use Rattle.link_frames.proofs.line_lemmas.PassedLineLemmas.{Consumes-front}
use Rattle.link_frames.proofs.line_lemmas.TextLemmas.{text_by-nil, text_by-good, bad_by-nil, bad_by-good}

-- Of the known bytes, `pending` are left. `sent` was written, and `held` is to be. Whatever comes next, its lines go
-- on from this state and this number.
pub record Ran {S : Type 0} (next : S → List ℕ → Option (S × List ℕ)) (start : S)
    (known pending out_old out_new : Option (List ℕ)) (held : List ℕ) (state : S) (number : ℕ) : Type 0 where
  pub done : List ℕ
  pub sent : List ℕ
  pub read : Consumes known pending done
  pub wrote : Appends out_old out_new sent
  pub goes : (rest : List ℕ)
      → text_by next start (lines_of (done ++ rest)) ≡ (sent ++ held) ++ text_by next state (lines_of rest)
  pub stops : (rest : List ℕ) → bad_by next 1 start (lines_of (done ++ rest)) ≡ bad_by next number state (lines_of rest)
  pub counted : (rest : List ℕ) → length (lines_of (done ++ rest)) + 1 ≡ number + length (lines_of rest)

-- the same between two moments
abbrev pub RanBetween : {S : Type 0} → (S → List ℕ → Option (S × List ℕ)) → S → Lines → Lines → List ℕ → S → ℕ
    → Type 0
RanBetween next start first now held state number =
    Ran next start first.unread now.unread first.written now.written held state number

-- nothing was read and nothing is held
pub Ran-start : {S : Type 0} (next : S → List ℕ → Option (S × List ℕ)) (start : S) (known out : Option (List ℕ))
    (front held : List ℕ) → front ≡ [] → held ≡ []
    → Ran next start known (prepend_known front known) out out held start 1
Ran-start next start known out front held none empty =
    let same : prepend_known front known ≡ known =
    ap (λ l. prepend_known l known) none ∙ prepend_known-nil known in record {
      done = [];
      sent = [];
      read = subst (λ (k : Option (List ℕ)). Consumes known k []) (sym same) (Consumes-nil known);
      wrote = Appends-nil out;
      goes = λ rest. rw empty refl;
      stops = λ rest. refl;
      counted = λ rest. omega arith;
    }

module _ {S : Type 0} {next : S → List ℕ → Option (S × List ℕ)} {start state : S} {k p a b : Option (List ℕ)}
    {held : List ℕ} {number : ℕ} (ran : Ran next start k p a b held state number) where
  -- more bytes are ahead
  pub Ran-kept : (q : Option (List ℕ)) → Keeps p q → Ran next start k q a b held state number
  Ran-kept q kept = record {
    done = ran.done;
    sent = ran.sent;
    read = Consumes-kept k p q ran.done ran.read kept;
    wrote = ran.wrote;
    goes = ran.goes;
    stops = ran.stops;
    counted = ran.counted;
  }

  -- some of what is held was written
  pub Ran-moved : (c : Option (List ℕ)) (left : List ℕ) → Moved b c held left → Ran next start k p a c left state number
  Ran-moved c left (part, is, moved) = record {
    done = ran.done;
    sent = ran.sent ++ part;
    read = ran.read;
    wrote = Appends-trans a b c ran.sent part ran.wrote moved;
    goes = λ rest.
        let due : ran.sent ++ held ≡ (ran.sent ++ part) ++ left =
        ap (λ l. ran.sent ++ l) is ∙ sym (append_assoc ran.sent part left) in
        ran.goes rest ∙ ap (λ l. l ++ text_by next state (lines_of rest)) due;
    stops = ran.stops;
    counted = ran.counted;
  }

  -- a good line was taken with its end, and what is due for it is held
  pub Ran-taken : (q : Option (List ℕ)) (line text holds : List ℕ) (after : S) → NoLineEnd line
      → Consumes p q (ended line) → next state line ≡ Some (after, text) → holds ≡ held ++ ended text
      → Ran next start k q a b holds after (number + 1)
  Ran-taken q line text holds after none took good grown =
      let regrouped : (rest : List ℕ) → (ran.done ++ ended line) ++ rest ≡ ran.done ++ (line ++ line_end ∷ rest) =
      λ rest. simp append_assoc in
      let taken : (rest : List ℕ) → lines_of (line ++ line_end ∷ rest) ≡ line ∷ lines_of rest =
      λ rest. lines_of-line line rest none in record {
        done = ran.done ++ ended line;
        sent = ran.sent;
        read = Consumes-trans k p q ran.done (ended line) ran.read took;
        wrote = ran.wrote;
        goes = λ rest.
            let more = text_by next after (lines_of rest) in
            let line_due : text_by next state (lines_of (line ++ line_end ∷ rest)) ≡ ended text ++ more =
            ap (text_by next state) (taken rest) ∙ text_by-good next state after line text (lines_of rest) good in
            let due : (ran.sent ++ held) ++ (ended text ++ more) ≡ (ran.sent ++ holds) ++ more =
            sym (append_assoc (ran.sent ++ held) (ended text) more)
            ∙ ap (λ l. l ++ more) (append_assoc ran.sent held (ended text) ∙ ap (λ l. ran.sent ++ l) (sym grown)) in
            ap (λ l. text_by next start (lines_of l)) (regrouped rest) ∙ ran.goes (line ++ line_end ∷ rest)
            ∙ ap (λ l. (ran.sent ++ held) ++ l) line_due ∙ due;
        stops = λ rest.
            ap (λ l. bad_by next 1 start (lines_of l)) (regrouped rest) ∙ ran.stops (line ++ line_end ∷ rest)
            ∙ ap (bad_by next number state) (taken rest)
            ∙ bad_by-good next number state after line text (lines_of rest) good;
        counted = λ rest.
            let before = ran.counted (line ++ line_end ∷ rest) in
            let one : length (lines_of (line ++ line_end ∷ rest)) ≡ length (lines_of rest) + 1 =
            ap length (taken rest) ∙ omega arith in
            let lines_after : List ℕ → ℕ = λ l. length (lines_of l) in
            let same : lines_after ((ran.done ++ ended line) ++ rest)
            ≡ lines_after (ran.done ++ (line ++ line_end ∷ rest)) = ap lines_after (regrouped rest) in
            omega arith;
      }

  -- the line was passed over
  pub Ran-passed : (q : Option (List ℕ)) (front text holds : List ℕ) (after : S) (passed : PassedLine front p q true)
      → next state passed.line ≡ Some (after, text) → holds ≡ held ++ ended text
      → Ran next start k q a b holds after (number + 1)
  Ran-passed q front text holds after passed good grown =
      Ran-taken q passed.line text holds after passed.none passed.passed good grown

  -- what was read is not bad, and its text is what was written and what is held
  pub Ran-good : bad_by next 1 start (lines_of ran.done) ≡ None
  Ran-good = ap (λ l. bad_by next 1 start (lines_of l)) (sym (append-nil ran.done)) ∙ ran.stops []
      ∙ ap (bad_by next number state) lines_of-nil ∙ bad_by-nil next number state

  pub Ran-text : text_by next start (lines_of ran.done) ≡ ran.sent ++ held
  Ran-text = ap (λ l. text_by next start (lines_of l)) (sym (append-nil ran.done)) ∙ ran.goes []
      ∙ ap (λ l. (ran.sent ++ held) ++ l) (ap (text_by next state) lines_of-nil ∙ text_by-nil next state)
      ∙ append-nil (ran.sent ++ held)

  pub Ran-number : length (lines_of ran.done) + 1 ≡ number
  Ran-number =
      let same : length (lines_of (ran.done ++ [])) ≡ length (lines_of ran.done) =
      ap (λ l. length (lines_of l)) (append-nil ran.done) in
      let none : length (lines_of []) ≡ 0 = ap length lines_of-nil in
      omega (arith, ran.counted [], same, none)

-- a good line that was ahead was taken
pub Ran-line : {S : Type 0} {next : S → List ℕ → Option (S × List ℕ)} {start state : S} {k a b : Option (List ℕ)}
    {held : List ℕ} {number : ℕ} (known : Option (List ℕ)) (front : List ℕ)
    → Ran next start k (prepend_known front known) a b held state number
    → (n : ℕ) (text holds : List ℕ) (after : S) → EndsAt front n → next state (take n front) ≡ Some (after, text)
    → holds ≡ held ++ ended text
    → Ran next start k (prepend_known (drop (n + 1) front) known) a b holds after (number + 1)
Ran-line known front ran n text holds after (none, within, is) good grown =
    let line = take n front in
    let behind = drop (n + 1) front in
    let joined : front ≡ ended line ++ behind = is ∙ sym (append_assoc line (line_end ∷ []) behind) in
    Ran-taken ran _ line text holds after none (Consumes-front known front (ended line) behind joined) good grown
