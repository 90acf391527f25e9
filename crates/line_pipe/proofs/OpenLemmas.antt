-- The first line of a pipe, and the run behind it.
use Rattle.std.proofs.Common.{◌≡◌, ℕ, ◌+◌, ◌<◌, ◌⊎◌, inl, inr, true, nat_lt, List}
use Rattle.std.proofs.Common.{[], ◌∷◌, ◌++◌, length, take, drop, Option, Some, None, Result, Ok, Err, IfErr}
use Rattle.std.proofs.Common.{refl, sym, ap, ◌∙◌, subst, arith, append_assoc, length-take-le, take-append-drop}
use Rattle.std.specs.Result.{result_err}
use Rattle.std.proofs.lemmas.Bool.Decides.{nat_tests}
use Rattle.std.proofs.KnownBytes.{Consumes-trans, Consumes-kept, Consumes-nil}
use Rattle.std.proofs.KnownBytes.{Appends-nil, Keeps-refl, prepend_known-nil}
use Rattle.std.specs.Io.KnownBytes.{Consumes, Appends, Keeps, IsAtEnd, prepend_known}
use Rattle.link_frames.specs.lines.Devices.{WentOn, ReaderFailed}
use Rattle.link_frames.specs.lines.Lines.{line_end, lines_of, ended, NoLineEnd}
use Rattle.link_frames.specs.lines.LinePrograms.{HasBytes, WroteFront}
use Rattle.link_frames.specs.lines.LinesAt.{devices}
use Rattle.link_frames.specs.lines.Nexts.{Begins, EndsAt}
use Rattle.link_frames.specs.declared.lines.blocks.AheadFault.{AheadFault}
use Rattle.link_frames.specs.declared.lines.blocks.AheadFault.TheVariants as ahead
use Rattle.link_frames.specs.declared.lines.next.Next.TheVariants.{TooLong, Last}
use Rattle.link_frames.proofs.Exported.{lines_of-nil, lines_of-line, lines_of-last, lines_of-begun}
use Rattle.link_frames.proofs.Exported.{Consumes-front, HasBytes-done, WroteFront-nothing, tail_of, tail_at_end}
use Rattle.role_node.specs.Nodes.{NodeValue}
use Rattle.cluster_text.proofs.Exported.{setup_due-long}
use Rattle.cluster_text.specs.Setups.{setup_due, most_text_bytes}
use Rattle.line_pipe.specs.Pipes.{answers_text, one_stops, node_of, opened_text, text_of_lines, pipe_text}
use Rattle.line_pipe.specs.Pipes.{fault_of_lines, opening_fault, opened_stops, lines_stop, pipe_stops}
use Rattle.cluster_text.specs.Results.{IsDueOrMemory}
use Rattle.line_pipe.specs.Runs.{PipeRan, IsEndless}
use Rattle.link_frames.specs.lines.Watching.{Tally}
use Rattle.link_frames.proofs.Exported.{ReaderFailed-later}
use Rattle.line_pipe.specs.inside.Steps.{of_ahead_fault, IsNodeOf, RefusesNode, Opened, client_text, LinesRan}
use Rattle.line_pipe.specs.inside.Steps.{LinesEndless}
use Rattle.cluster_text.specs.declared.cluster.Mode.TheVariants.{Pipe}
use Rattle.cluster_text.specs.declared.cluster.Setup.{Setup}
use Rattle.cluster_text.specs.declared.fault.ClusterFault.TheVariants.{NotJson}
use Rattle.line_pipe.specs.declared.fault.PipeFault.{PipeFault}
use Rattle.line_pipe.specs.declared.fault.PipeFault.TheVariants.{Cluster, Device, Memory}
use Rattle.line_pipe.proofs.PipeLemmas.{answers_text-nil}
use Rattle.line_pipe.proofs.RunLemmas.{reads, HasBytes-kept}

module _ (p q reader known : Option (List ℕ)) (front : List ℕ) (kept : Keeps p (prepend_known front known)) where
  -- the first line of bytes ahead
  first_of : (n : ℕ) → EndsAt front n
      → (rest : List ℕ) × HasBytes p (front ++ rest)
      × (lines_of (front ++ rest) ≡ take n front ∷ lines_of (drop (n + 1) front ++ rest))
  first_of n (none, within, is) =
      let (rest, has) = tail_of known front in
      let line = take n front in
      let behind = drop (n + 1) front in (
        rest,
        HasBytes-kept p _ _ kept has,
        ap (λ l. lines_of (l ++ rest)) is ∙ ap lines_of (append_assoc line (line_end ∷ behind) rest)
            ∙ lines_of-line line (behind ++ rest) none,
      )

  pub opened-line : (left : List ℕ) (n : ℕ) (node : NodeValue) → EndsAt front n → left ≡ drop (n + 1) front
      → IsNodeOf (take n front) node
      → Opened (reads p None) (reads (prepend_known left known) reader) (Ok (Some node))
  opened-line left n node (none, within, is) left_is made =
      let line = take n front in
      let behind = drop (n + 1) front in
      let joined : front ≡ ended line ++ behind = is ∙ sym (append_assoc line (line_end ∷ []) behind) in
      let took = Consumes-trans p (prepend_known front known) _ [] (ended line)
      (Consumes-kept p p (prepend_known front known) [] (Consumes-nil p) kept) (Consumes-front known front
      (ended line) behind joined) in
      (line, none, subst (λ (l : List ℕ). Consumes p (prepend_known l known) (ended line)) (sym left_is) took, made)

  pub opened-refused_line : (n : ℕ) (e : PipeFault) → EndsAt front n → RefusesNode (take n front) e
      → Opened (reads p None) (reads q reader) (Err e)
  opened-refused_line n (Cluster fault) at refused =
      let (rest, has, lines) = first_of n at in (front ++ rest, has, inr (take n front, _, lines, refused))
  opened-refused_line n Device at refused = tt
  opened-refused_line n Memory at refused = tt

  pub opened-last : (limit n : ℕ) (node : NodeValue) → Begins limit front (Last n) → IsAtEnd known → IsNodeOf front node
      → Opened (reads p None) (reads q known) (Ok None)
  opened-last limit n node (none, all, some, short) end (setup, due, is) = (
    front,
    HasBytes-kept p _ _ kept (tail_at_end known front end),
    lines_of-last front none (omega (arith, all, some)),
    end,
    (setup, due),
  )

  pub opened-refused_last : (limit n : ℕ) (e : PipeFault) → Begins limit front (Last n) → IsAtEnd known
      → RefusesNode front e
      → Opened (reads p None) (reads q reader) (Err e)
  opened-refused_last limit n (Cluster fault) (none, all, some, short) end refused = (
    front,
    HasBytes-kept p _ _ kept (tail_at_end known front end),
    inr (front, [], lines_of-last front none (omega (arith, all, some)), refused),
  )
  opened-refused_last limit n Device begun end refused = tt
  opened-refused_last limit n Memory begun end refused = tt

  pub opened-end : front ≡ [] → IsAtEnd known → Opened (reads p None) (reads q reader) (Err (Cluster NotJson))
  opened-end none end = (
    [],
    HasBytes-kept p _ _ kept (subst (HasBytes (prepend_known front known)) none (tail_at_end known front end)),
    inl (lines_of-nil, refl),
  )

  pub opened-too_long : Begins most_text_bytes front TooLong
      → Opened (reads p None) (reads q reader) (Err (Cluster NotJson))
  opened-too_long (long, none) =
      let (rest, has) = tail_of known front in
      let cut = take (most_text_bytes + 1) front in
      let behind = drop (most_text_bytes + 1) front in
      let whole : length cut ≡ most_text_bytes + 1 = length-take-le (most_text_bytes + 1) front (omega (arith, long)) in
      let begun = lines_of-begun cut (behind ++ rest) none (omega (arith, whole)) in
      let joined : front ++ rest ≡ cut ++ (behind ++ rest) =
      ap (λ l. l ++ rest) (sym (take-append-drop (most_text_bytes + 1) front)) ∙ append_assoc cut behind rest in (
        front ++ rest,
        HasBytes-kept p _ _ kept has,
        inr (
          begun.line,
          begun.lines,
          ap lines_of joined
              ∙ begun.is,
          setup_due-long Pipe begun.line (omega (arith, begun.long, whole)),
        ),
      )

pub opened-fault : (p q reader : Option (List ℕ)) (f : AheadFault) (e : PipeFault) → e ≡ of_ahead_fault f
    → Opened (reads p None) (reads q reader) (Err e)
opened-fault p q reader ahead.Device e is =
    subst (λ (f : PipeFault). Opened (reads p None) (reads q reader) (Err f)) (sym is) tt
opened-fault p q reader ahead.Memory e is =
    subst (λ (f : PipeFault). Opened (reads p None) (reads q reader) (Err f)) (sym is) tt

-- the node of a text that is not refused
pub made_node : (text : List ℕ) (setup : Setup) (node : NodeValue) → IsDueOrMemory (setup_due Pipe text) (Ok setup)
    → node ≡ node_of setup → IsNodeOf text node
made_node text setup node (inl due) is = (setup, sym due, is)
made_node text setup node (inr memory) is = absurd cc

-- ---- the whole run

-- nothing is ahead at the start
known_is : (known : Option (List ℕ)) (front : List ℕ) → front ≡ [] → prepend_known front known ≡ known
known_is known front none = ap (λ l. prepend_known l known) none ∙ prepend_known-nil known

module _ (known p : Option (List ℕ)) (front first : List ℕ) (node : NodeValue) (none_ahead : front
    ≡ []) (none : NoLineEnd first) (took : Consumes (prepend_known front known) p (ended first))
    (made : IsNodeOf first node) where
  lines_are : (input : List ℕ) → lines_of (ended first ++ input) ≡ first ∷ lines_of input
  lines_are input = ap lines_of (append_assoc first (line_end ∷ []) input) ∙ lines_of-line first input none

  takes : Consumes known p (ended first)
  takes = subst (λ (k : Option (List ℕ)). Consumes k p (ended first)) (known_is known front none_ahead) took

  text_is : (input : List ℕ) → pipe_text (ended first ++ input) ≡ client_text node input
  unfolding pipe_text
  text_is input =
      ap text_of_lines (lines_are input) ∙ ap (λ r. opened_text r (lines_of input)) made.1
      ∙ ap (λ (n : NodeValue). answers_text n (lines_of input)) (sym made.2)

  no_fault : (input : List ℕ) → opening_fault (ended first ++ input) ≡ None
  unfolding opening_fault
  no_fault input = ap fault_of_lines (lines_are input) ∙ ap result_err made.1

  stops_are : (input : List ℕ) → pipe_stops (ended first ++ input) ≡ one_stops node (lines_of input)
  unfolding pipe_stops
  stops_are input =
      ap lines_stop (lines_are input) ∙ ap (λ r. opened_stops r (lines_of input)) made.1
      ∙ ap (λ (n : NodeValue). one_stops n (lines_of input)) (sym made.2)

  has_all : (input : List ℕ) → HasBytes p input → HasBytes known (ended first ++ input)
  has_all input has = HasBytes-done known p (ended first) input takes has

  front_is : (a c : Option (List ℕ)) → WroteFront (client_text node) p a c → WroteFront pipe_text known a c
  front_is a c (input, has, (written, rest, is, wrote)) =
      (ended first ++ input, has_all input has, (written, rest, text_is input ∙ is, wrote))

  -- the first line, and then client lines
  pub whole_run : (reader a c : Option (List ℕ)) (result : Result (Unit {0}) PipeFault)
      → LinesRan node (devices p a) (devices reader c) result
      → PipeRan (devices known a) (devices reader c) result
  whole_run reader a c (Ok x) (input, has, end, wrote) = (
    ended first ++ input,
    has_all input has,
    no_fault input,
    stopped input end,
    subst (Appends a c) (sym (text_is input)) wrote,
  )
    where
      stopped : (input : List ℕ) → (IsAtEnd reader ⊎ (one_stops node (lines_of input) ≡ true))
          → (IsAtEnd reader ⊎ (pipe_stops (ended first ++ input) ≡ true))
      stopped input (inl e) = inl e
      stopped input (inr s) = inr (stops_are input ∙ s)
  whole_run reader a c (Err (Cluster fault)) ran = absurd ran
  whole_run reader a c (Err Device) ran = front_is a c ran
  whole_run reader a c (Err Memory) ran = front_is a c ran

  pub whole_endless : (reader a c : Option (List ℕ)) → LinesEndless node (devices p a) (devices reader c)
      → IsEndless (devices known a) (devices reader c)
  whole_endless reader a c (input, left, read, many, wrote) = (
    ended first ++ input,
    left,
    Consumes-trans known p left (ended first) input takes read,
    omega (arith, many, ap length (lines_are input)),
    subst (Appends a c) (sym (text_is input)) wrote,
  )

module _ (known p reader a : Option (List ℕ)) (front : List ℕ) (none_ahead : front ≡ []) where
  known_has : (input : List ℕ) → HasBytes (prepend_known front known) input → HasBytes known input
  known_has input has = subst (λ (k : Option (List ℕ)). HasBytes k input) (known_is known front none_ahead) has

  -- there is no line behind the first
  pub alone : Opened (reads (prepend_known front known) known) (reads p reader) (Ok None)
      → PipeRan (devices known a) (devices reader a) (Ok tt)
  unfolding pipe_text opening_fault
  alone (first, has, lines, end, (setup, due)) =
      let text : pipe_text first ≡ [] =
      ap text_of_lines lines ∙ ap (λ r. opened_text r []) due ∙ answers_text-nil (node_of setup) in (
        first,
        known_has first has,
        ap fault_of_lines lines ∙ ap result_err due,
        inl end,
        subst (Appends a a) (sym text) (Appends-nil a),
      )

  -- the first line sets up no node, or it was not read
  pub not_opened : (e : PipeFault) → Opened (reads (prepend_known front known) known) (reads p reader) (Err e)
      → PipeRan (devices known a) (devices reader a) (Err e)
  unfolding opening_fault
  not_opened (Cluster fault) (input, has, inl (none, is)) =
      (input, known_has input has, ap fault_of_lines none ∙ ap Some (sym is), Keeps-refl a)
  not_opened (Cluster fault) (input, has, inr (first, later, lines, refused)) =
      (input, known_has input has, ap fault_of_lines lines ∙ ap result_err refused, Keeps-refl a)
  not_opened Device opened = WroteFront-nothing pipe_text known a
  not_opened Memory opened = WroteFront-nothing pipe_text known a

-- ---- when the device has failed

-- the reader had not failed before
pub later_device : (result : Result (Unit {0}) PipeFault) (a b c : Tally) (W E F : Type 0) → WentOn a b → (E → F)
    → IfErr result (λ e. e ≡ Device → ReaderFailed b c ⊎ (W ⊎ E))
    → IfErr result (λ e. e ≡ Device → ReaderFailed a c ⊎ (W ⊎ F))
later_device (Ok x) a b c W E F went so h = tt
later_device (Err e) a b c W E F went so h = λ q. by (h q)
  where
    by : ReaderFailed b c ⊎ (W ⊎ E) → ReaderFailed a c ⊎ (W ⊎ F)
    by (inl failed) = inl (ReaderFailed-later a b c went failed)
    by (inr (inl failed)) = inr (inl failed)
    by (inr (inr endless)) = inr (inr (so endless))
