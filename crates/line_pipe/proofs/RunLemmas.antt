-- Client lines that were run so far, and how a run ends.
use Rattle.std.proofs.Common.{◌≡◌, ℕ, ◌+◌, ◌-◌, ◌^◌, ◌≤◌, ◌⊎◌, inl, inr, Bool, true, false, not}
use Rattle.std.proofs.Common.{List, [], ◌∷◌, ◌++◌, take, drop, Option, Some, None, Result, Ok}
use Rattle.std.proofs.Common.{Err, IfErr, refl, sym, ap, ◌∙◌, subst, arith, append_assoc, append-nil}
use Rattle.std.specs.Prelude.{is_some}
use Rattle.std.proofs.KnownBytes.{Consumes-trans, Consumes-kept, Consumes-nil, Appends-trans, prepend_known-nil}
use Rattle.std.specs.Io.KnownBytes.{Consumes, Appends, Keeps, IsAtEnd, prepend_known}
use Rattle.link_frames.specs.lines.Watching.{Tally}
use Rattle.link_frames.specs.lines.Devices.{WentOn, CallFailed, AppendsFront}
use Rattle.link_frames.specs.lines.Lines.{line_end, lines_of, ended}
use Rattle.link_frames.specs.lines.LinePrograms.{text_by, HasBytes, WroteFront}
use Rattle.link_frames.specs.lines.LinesAt.{Lines, devices}
use Rattle.link_frames.specs.lines.Nexts.{Begins, EndsAt, PassedLine}
use Rattle.link_frames.specs.declared.lines.next.Next.TheVariants.{TooLong, Last}
use Rattle.link_frames.proofs.Exported.{lines_of-line, lines_of-last, Consumes-front}
use Rattle.link_frames.proofs.Exported.{Ran, Ran-start, Ran-taken, Ran-front, Ran-number, CallFailed-later}
use Rattle.link_frames.proofs.Exported.{HasBytes-done, tail_of, tail_at_end, AppendsFront-nothing, AppendsFront-whole}
use Rattle.role_node.specs.Nodes.{NodeValue}
use Rattle.client_lines.specs.AnswerTexts.{answer_text}
use Rattle.client_lines.specs.Requests.{most_line_bytes}
use Rattle.client_lines.specs.declared.answer.ClientAnswer.TheVariants.{BadLine}
use Rattle.client_lines.specs.declared.fault.LineFault.TheVariants.{NotJson}
use Rattle.line_pipe.specs.Pipes.{stops, line_text, after_line, going_on, one_stops, stop_text, answers_text}
use Rattle.line_pipe.specs.inside.Steps.{client_text, Answering, Answered, LinesRan, LinesEndless, Finished}
use Rattle.line_pipe.specs.declared.fault.PipeFault.{PipeFault}
use Rattle.line_pipe.specs.declared.fault.PipeFault.TheVariants.{Device, Memory}
use Rattle.link_frames.proofs.Exported.{nothing_left}
use Rattle.line_pipe.proofs.PipeLemmas.{goes_on, any_number, client_text-nil, answers_text-stop, answers_text-last}
use Rattle.line_pipe.proofs.PipeLemmas.{one_stops-stop, long_text, long_goes_on, long_changes_nothing}

-- ---- the bytes that are left

-- these bytes are not used yet, and these of them the device has left; nothing is known of what was written
abbrev pub reads : Option (List ℕ) → Option (List ℕ) → Lines
reads unread at_device = record { unread = unread; at_device = at_device; written = None }

pub HasBytes-kept : (p q : Option (List ℕ)) (input : List ℕ) → Keeps p q → HasBytes q input → HasBytes p input
HasBytes-kept p q input kept has = HasBytes-done p q [] input (Consumes-kept p p q [] (Consumes-nil p) kept) has

no_more : (front xs : List ℕ) → front ++ xs ≡ [] → xs ≡ []
no_more [] xs e = e
no_more (b ∷ front) xs e = absurd cc

pub end_behind : (known : Option (List ℕ)) (front : List ℕ) → IsAtEnd (prepend_known front known) → IsAtEnd known
end_behind None front end = tt
end_behind (Some xs) front end = no_more front xs end

-- ---- one more line

abbrev holds : NodeValue → List ℕ → Answering
holds node held = record { node = node; held = held }

-- a line with its end was answered; whether it stops the node
pub line_answered : (p known reader : Option (List ℕ)) (front left : List ℕ) (n : ℕ) (old new : NodeValue)
    (held more : List ℕ)
    (stopped : Bool) → Keeps p (prepend_known front known) → EndsAt front n
    → left ≡ drop (n + 1) front → stopped ≡ stops old (take n front)
    → new ≡ after_line old (take n front) → more ≡ held ++ ended (line_text old (take n front))
    → Answered (reads p None) (reads (prepend_known left known) reader) (holds old held) (holds new more) (not stopped)
line_answered p known reader front left n old new held more false kept (none, within, is) left_is so after grown =
    let line = take n front in
    let behind = drop (n + 1) front in
    let joined : front ≡ ended line ++ behind = is ∙ sym (append_assoc line (line_end ∷ []) behind) in
    let took = Consumes-trans p (prepend_known front known) _ [] (ended line)
    (Consumes-kept p p (prepend_known front known) [] (Consumes-nil p) kept) (Consumes-front known front
    (ended line) behind joined) in (
      line,
      none,
      subst (λ (l : List ℕ). Consumes p (prepend_known l known) (ended line))
          (sym left_is) took,
      sym so,
      after,
      grown,
    )
line_answered p known reader front left n old new held more true kept (none, within, is) left_is so after grown =
    let line = take n front in
    let behind = drop (n + 1) front in
    let (rest, has) = tail_of known front in
    let lines : lines_of (front ++ rest) ≡ line ∷ lines_of (behind ++ rest) =
    ap (λ l. lines_of (l ++ rest)) is ∙ ap lines_of (append_assoc line (line_end ∷ behind) rest)
    ∙ lines_of-line line (behind ++ rest) none in (
      front ++ rest,
      HasBytes-kept p _ _ kept has,
      inr (ap (one_stops old) lines ∙ one_stops-stop old line _ (sym so)),
      grown ∙ ap (λ t. held ++ t) (sym (ap (answers_text old) lines ∙ answers_text-stop old line _ (sym so))),
    )

-- the last line was answered
pub last_answered : (p q known : Option (List ℕ)) (front : List ℕ) (limit n : ℕ) (old new : NodeValue)
    (held more : List ℕ)
    → Keeps p (prepend_known front known) → Begins limit front (Last n) → IsAtEnd known
    → more ≡ held ++ ended (line_text old front)
    → Answered (reads p None) (reads q known) (holds old held) (holds new more) false
last_answered p q known front limit n old new held more kept (none, all, some, short) end grown =
    let last = lines_of-last front none (omega (arith, all, some)) in (
      front,
      HasBytes-kept p _ _ kept (tail_at_end known front end),
      inl end,
      grown ∙ ap (λ t. held ++ t) (sym (ap (answers_text old) last ∙ answers_text-last old front)),
    )

-- nothing is left
pub end_answered : (p q known : Option (List ℕ)) (front : List ℕ) (old new : NodeValue) (held more : List ℕ)
    → Keeps p (prepend_known front known) → front ≡ [] → IsAtEnd known → more ≡ held
    → Answered (reads p None) (reads q known) (holds old held) (holds new more) false
end_answered p q known front old new held more kept none end same = (
  [],
  HasBytes-kept p _ _ kept (subst (HasBytes (prepend_known front known)) none (tail_at_end known front end)),
  inl end,
  same ∙ sym (ap (λ t. held ++ t) (client_text-nil old) ∙ append-nil held),
)

-- a line that is too long was passed over and answered
pub long_answered : (p q known reader : Option (List ℕ)) (ahead front : List ℕ) (node new : NodeValue)
    (held more : List ℕ)
    (had_end : Bool) → Keeps p q → PassedLine front q (prepend_known ahead known) had_end
    → Begins most_line_bytes front TooLong → new ≡ node → more ≡ held ++ ended (answer_text (BadLine NotJson))
    → Answered (reads p None) (reads (prepend_known ahead known) known) (holds node held) (holds new more) had_end
long_answered p q known reader ahead front node new held more true kept passed long same grown =
    let far = passed.long most_line_bytes long in (
      passed.line,
      passed.none,
      Consumes-trans p q _ [] (ended passed.line) (Consumes-kept p p q [] (Consumes-nil p) kept) passed.passed,
      long_goes_on node passed.line far,
      same ∙ long_changes_nothing node passed.line far,
      grown ∙ ap (λ t. held ++ ended t) (sym (long_text node passed.line far)),
    )
long_answered p q known reader ahead front node new held more false kept passed long same grown =
    let far = passed.long most_line_bytes long in
    let (took, end) = passed.passed in
    let has = subst (HasBytes q) (append-nil passed.line) (HasBytes-done q _ passed.line [] took
    (nothing_left _ end)) in
    let last = lines_of-last passed.line passed.none (omega (arith, far)) in (
      passed.line,
      HasBytes-kept p q _ kept has,
      inl (end_behind known ahead end),
      grown ∙ ap (λ t. held ++ ended t) (sym (long_text node passed.line far))
          ∙ ap (λ t. held ++ t) (sym (ap (answers_text node) last ∙ answers_text-last node passed.line)),
    )

-- ---- a run

-- nothing was read and nothing is held
pub Lines-start : (start : NodeValue) (k a : Option (List ℕ)) (held : List ℕ) → held ≡ []
    → Ran going_on start k k a a held start 1
Lines-start start k a held empty =
    subst (λ (p : Option (List ℕ)). Ran going_on start k p a a held start 1) (prepend_known-nil k)
    (Ran-start going_on start k a [] held refl empty)

text_front : (start : NodeValue) (k a c : Option (List ℕ))
    → WroteFront (λ input. text_by going_on start (lines_of input)) k a c
    → WroteFront (client_text start) k a c
unfolding answers_text
text_front start k a c (input, has, (front, rest, is, wrote)) =
    let stop = stop_text (one_stops start (lines_of input)) in
    (input, has, (front, rest ++ stop, ap (λ t. t ++ stop) is ∙ append_assoc front rest stop, wrote))

pub LinesRan-fault : (start : NodeValue) (k reader a c : Option (List ℕ)) (e : PipeFault) → (e ≡ Device) ⊎ (e ≡ Memory)
    → WroteFront (client_text start) k a c → LinesRan start (devices k a) (devices reader c) (Err e)
LinesRan-fault start k reader a c e (inl is) wrote =
    subst (λ (f : PipeFault). LinesRan start (devices k a) (devices reader c) (Err f)) (sym is) wrote
LinesRan-fault start k reader a c e (inr is) wrote =
    subst (λ (f : PipeFault). LinesRan start (devices k a) (devices reader c) (Err f)) (sym is) wrote

module _ {start node : NodeValue} {k p a b : Option (List ℕ)} {held : List ℕ} {number : ℕ}
    (ran : Ran going_on start k p a b held node number) where
  run_stops : (tail : List ℕ) → one_stops start (lines_of (ran.done ++ tail)) ≡ one_stops node (lines_of tail)
  run_stops tail = ap is_some (ran.stops tail) ∙ any_number number 1 node (lines_of tail)

  run_text : (tail : List ℕ) → client_text start (ran.done ++ tail) ≡ (ran.sent ++ held) ++ client_text node tail
  unfolding answers_text
  run_text tail =
      ap (λ t. t ++ stop_text (one_stops start (lines_of (ran.done ++ tail)))) (ran.goes tail)
      ∙ ap (λ b. ((ran.sent ++ held) ++ text_by going_on node (lines_of tail)) ++ stop_text b) (run_stops tail)
      ∙ append_assoc (ran.sent ++ held) (text_by going_on node (lines_of tail)) (stop_text (one_stops node
      (lines_of tail)))

  -- one more line was answered
  pub Ran-more : (q reader : Option (List ℕ)) (new : NodeValue) (more : List ℕ)
      → Answered (reads p None) (reads q reader) (holds node held) (holds new more) true
      → Ran going_on start k q a b more new (number + 1)
  Ran-more q reader new more (line, none, took, goes, after, grown) =
      let good = goes_on node line goes ∙ ap (λ (n : NodeValue). Some (n, line_text node line)) (sym after) in
      Ran-taken ran q line (line_text node line) more new none took good grown

  -- a prefix of what is held was written
  pub Lines-front : (c : Option (List ℕ)) → AppendsFront b c held → WroteFront (client_text start) k a c
  Lines-front c wrote = text_front start k a c (Ran-front ran c wrote)

  pub Lines-kept : WroteFront (client_text start) k a b
  Lines-kept = Lines-front b (AppendsFront-nothing b held)

  -- the run has ended, and what is held is written
  pub Lines-end : (c q reader : Option (List ℕ)) (new : NodeValue) (more shown : List ℕ) (result : Result (Unit
      {0}) PipeFault) (Failed : Type 0)
      → Answered (reads p None) (reads q reader) (holds node held) (holds new more) false → shown ≡ more
      → Finished b c shown (Ok tt) result Failed → LinesRan start (devices k a) (devices reader c) result
  Lines-end c q reader new more shown result Failed (tail, has, end, grown) same finished =
      let input = ran.done ++ tail in
      let has_all = HasBytes-done k p ran.done tail ran.read has in
      let whole : client_text start input ≡ ran.sent ++ shown =
      run_text tail ∙ append_assoc ran.sent held (client_text node tail) ∙ ap (λ l. ran.sent ++ l) (sym (same
      ∙ grown)) in
      by_end input has_all whole (stopped end) finished
    where
      stopped : (IsAtEnd reader ⊎ (one_stops node (lines_of tail) ≡ true))
          → (IsAtEnd reader ⊎ (one_stops start (lines_of (ran.done ++ tail)) ≡ true))
      stopped (inl e) = inl e
      stopped (inr s) = inr (run_stops tail ∙ s)

      by_end : (input : List ℕ) → HasBytes k input → client_text start input ≡ ran.sent ++ shown
          → (IsAtEnd reader ⊎ (one_stops start (lines_of input) ≡ true))
          → Finished b c shown (Ok tt) result Failed → LinesRan start (devices k a) (devices reader c) result
      by_end input has_all whole ended_so (inl (is, wrote)) =
          subst (LinesRan start (devices k a) (devices reader c)) (sym is) (
            input,
            has_all,
            ended_so,
            subst (Appends a c) (sym whole)
                (Appends-trans a b c ran.sent shown ran.wrote wrote),
          )
      by_end input has_all whole ended_so (inr (is, (front, rest, parts, wrote), failed)) =
          subst (LinesRan start (devices k a) (devices reader c)) (sym is) (
            input,
            has_all,
            (
              ran.sent ++ front,
              rest,
              whole ∙ ap (λ l. ran.sent ++ l) parts
                  ∙ sym (append_assoc ran.sent front rest),
              Appends-trans a b c ran.sent front ran.wrote wrote,
            ),
          )

  -- there is no number for another line, or memory is wanting
  pub Lines-out : (c reader : Option (List ℕ)) (shown : List ℕ) (e : PipeFault) (result : Result (Unit {0}) PipeFault)
      (Failed : Type 0) → (e ≡ Device) ⊎ (e ≡ Memory) → shown ≡ held → Finished b c shown (Err e) result Failed
      → LinesRan start (devices k a) (devices reader c) result
  Lines-out c reader shown e result Failed kind same (inl (is, wrote)) =
      subst (LinesRan start (devices k a) (devices reader c)) (sym is) (LinesRan-fault start k reader a c e kind
      (Lines-front c (AppendsFront-whole b c held (subst (Appends b c) same wrote))))
  Lines-out c reader shown e result Failed kind same (inr (is, wrote, failed)) =
      let front = Lines-front c (subst (AppendsFront b c) same wrote) in
      subst (LinesRan start (devices k a) (devices reader c)) (sym is) front

  pub Lines-endless : (c : Option (List ℕ)) → 2 ^ 64 - 1 ≤ number → Appends b c held
      → LinesEndless start (devices k a) (devices p c)
  Lines-endless c many wrote =
      let text : client_text start ran.done ≡ ran.sent ++ held =
      ap (client_text start) (sym (append-nil ran.done)) ∙ run_text []
      ∙ ap (λ t. (ran.sent ++ held) ++ t) (client_text-nil node) ∙ append-nil (ran.sent ++ held) in (
        ran.done,
        p,
        ran.read,
        omega (arith, many, Ran-number ran),
        subst (Appends a c) (sym text) (Appends-trans a b c ran.sent held ran.wrote wrote),
      )

-- ---- when the device has failed

pub not_device : {A : Type 0} (x : A) → ◌≡◌ {A = Result A PipeFault} (Ok x) (Err Device) → ⊥
not_device x e = absurd cc

pub finish_device : (b c : Option (List ℕ)) (shown : List ℕ) (ending result : Result (Unit {0}) PipeFault)
    (old mid new : Tally) (R E : Type 0)
    → IfErr ending (λ e. e ≡ Device → Appends b c shown → E) → WentOn old mid
    → Finished b c shown ending result (CallFailed mid new)
    → IfErr result (λ e. e ≡ Device → R ⊎ (CallFailed old new ⊎ E))
finish_device b c shown ending result old mid new R E ends went (inl done) = subst Fails (sym done.0) (at ending ends)
  where
    Fails : Result (Unit {0}) PipeFault → Type 0
    Fails r = IfErr r (λ e. e ≡ Device → R ⊎ (CallFailed old new ⊎ E))

    at : (r : Result (Unit {0}) PipeFault) → IfErr r (λ e. e ≡ Device → Appends b c shown → E) → Fails r
    at (Ok x) h = tt
    at (Err e) h = λ q. inr (inr (h q done.1))
finish_device b c shown ending result old mid new R E ends went (inr failed) =
    let Fails : Result (Unit {0}) PipeFault → Type 0 = λ r. IfErr r (λ e. e ≡ Device → R ⊎ (CallFailed old new ⊎ E)) in
    subst Fails (sym failed.0) (λ q. inr (inl (CallFailed-later old mid new went failed.2)))
