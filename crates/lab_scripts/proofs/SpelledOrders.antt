-- A later line of a cluster has one spelling.
use Rattle.std.proofs.Common.{◌≡◌, ℕ, true, false}
use Rattle.std.proofs.Common.{◌<◌, List, ◌∷◌, ◌++◌, length, codes, Option, Some, sym}
use Rattle.std.proofs.Common.{refl, ap, arith, ◌∙◌, subst}
use Rattle.std.proofs.lemmas.Option.{option_and_then_some, same_Some, none-some}
use Rattle.std.proofs.lemmas.Slice.Eq.{bytes_eq-Decides}
use Rattle.std.specs.Fmt.{decimal}
use Rattle.std.specs.List.{position_or_len}
use Rattle.std.specs.Str.{bytes_eq}
use Rattle.quorum_sizes.specs.Sizes.{Counts, AreSizes}
use Rattle.role_commands.specs.Numbers.{is_space, wide_number}
use Rattle.role_commands.specs.Bytes.{IsBytes}
use Rattle.role_commands.proofs.Exported.{split_word-word, split_word-joined, wide_read}
use Rattle.role_commands.proofs.Exported.{wide_spelled, if_else, mapped, by_name}
use Rattle.role_commands.proofs.Exported.{by_name_made}
use Rattle.role_commands.specs.Numbers.{space}
use Rattle.link_frames.specs.frames.Packets.{PacketValue}
use Rattle.byz_world.specs.declared.step.Step.{Step}
use Rattle.byz_world.specs.declared.step.Step.TheVariants.{Issue, Give, Lie, Bytes, Client}
use Rattle.lab_scripts.specs.Orders.{node_number}
use Rattle.lab_scripts.specs.Orders.{lie_of}
use Rattle.lab_scripts.specs.Orders.{order_at_node, order_of_node, named_order, bytes_order, order_of_line}
use Rattle.lab_scripts.specs.OrderSpellings.{at_node, packet_spelling}
use Rattle.lab_scripts.specs.OrderSpellings.{step_spelling, order_spelling}
use Rattle.lab_scripts.specs.OrderSpellings.{IsStep, IsOrder, bytes_spelling}
use Rattle.lab_scripts.specs.OrderSpellings.{SpellsBytes, SpellsOrder, OrdersAreRead, OrdersAreSpelled}
use Rattle.lab_scripts.specs.declared.orders.ScriptLine.{ScriptLine}
use Rattle.lab_scripts.specs.declared.orders.ScriptLine.TheVariants.{Do, Flush, Settle, Rest, Ask, Reach, Agree}
use Rattle.lab_scripts.proofs.SpelledBytes.{bytes_read, bytes_spelled, spelling_spells}
use Rattle.lab_scripts.proofs.LineNames.{node_read, node_rest_spelled}
use Rattle.lab_scripts.proofs.LineNames.{then_rest-decimal}
use Rattle.lab_scripts.proofs.LineNumbers.{at_node-grouped}
use Rattle.lab_scripts.proofs.NodeLines.{Said, one_word, no_space_flush, no_space_settle, no_space_rest}
use Rattle.lab_scripts.proofs.SpelledLies.{lie_read, lie_spelled}
use Rattle.lab_scripts.proofs.SpelledActs.{act_read, issue_read, issue_said, open_said}
use Rattle.lab_scripts.proofs.SpelledActs.{activate_said, drop_said, close_said}
use Rattle.lab_scripts.proofs.SpelledQuestions.{question_read, reach_read, agree_read}
use Rattle.lab_scripts.proofs.SpelledQuestions.{check_said, list_said, reach_said, agree_said}

-- a line of two words
named_line : (s : Counts) (name text : List ℕ) → position_or_len is_space name ≡ length name
    → bytes_eq name (codes "bytes") ≡ false → order_of_line s (name ++ (space ∷ text)) ≡ named_order s name text
unfolding order_of_line
named_line s name text plain no_bytes =
    let words = split_word-word name text plain in
    let no_flush = one_word (name ++ (space ∷ text)) (codes "flush") (name, text) no_space_flush words in
    let no_settle = one_word (name ++ (space ∷ text)) (codes "settle") (name, text) no_space_settle words in
    let no_rest = one_word (name ++ (space ∷ text)) (codes "rest") (name, text) no_space_rest words in
    rw (no_flush, no_settle, no_rest) (rw words (rw no_bytes refl))

-- bytes, in any of their spellings
bytes_line : (s : Counts) (to : ℕ) (bytes word : List ℕ) → AreSizes s → to < s.nodes → IsBytes bytes
    → SpellsBytes bytes word → order_of_line s (at_node (codes "bytes") to word) ≡ Some (Do (Bytes to bytes))
unfolding order_of_line bytes_order
bytes_line s to bytes word are within fits spells =
    let text = decimal to ++ (space ∷ word) in
    let line = codes "bytes" ++ (space ∷ text) in
    let words = split_word-word (codes "bytes") text refl in
    let no_flush = one_word line (codes "flush") (codes "bytes", text) no_space_flush words in
    let no_settle = one_word line (codes "settle") (codes "bytes", text) no_space_settle words in
    let no_rest = one_word line (codes "rest") (codes "bytes", text) no_space_rest words in
    ap (order_of_line s) (at_node-grouped (codes "bytes") to word)
    ∙ rw (no_flush, no_settle, no_rest) (rw words
    (rw (then_rest-decimal (node_number s) to to word (omega (arith, are.0, within))
    (node_read s to are within)) (rw (bytes_read word bytes fits spells) refl)))

step_read : (s : Counts) (step : Step) → AreSizes s → IsStep s step → order_of_line s (step_spelling step)
    ≡ Some (Do step)
unfolding named_order
step_read s (Issue node c) are is = issue_read s are node is.0 c is.1
step_read s (Give number) are is =
    named_line s (codes "give") (decimal number) refl refl ∙ rw (wide_read number is) refl
step_read s (Lie p) are is = named_line s (codes "lie") (packet_spelling p) refl refl ∙ rw (lie_read s p are is) refl
step_read s (Bytes to bytes) are is =
    bytes_line s to bytes (bytes_spelling bytes) are is.0 is.1 (spelling_spells bytes is.1)
step_read s (Client node act) are is = act_read s are node is.0 act is.1

order_read : (s : Counts) (order : ScriptLine) → AreSizes s → IsOrder s order → order_of_line s (order_spelling order)
    ≡ Some order
unfolding order_of_line
order_read s (Do step) are is = step_read s step are is
order_read s Flush are is = refl
order_read s Settle are is = refl
order_read s Rest are is = refl
order_read s (Ask node q) are is = question_read s are node is.0 q is.1
order_read s (Reach node owner) are is = reach_read s are node is.0 owner is.1
order_read s (Agree one other owner) are is = agree_read s are one is.0 other owner is.1 is.2

pub order_of_line-spelling : OrdersAreRead
order_of_line-spelling s line (Do (Bytes to bytes)) are is spells =
    ap (order_of_line s) spells.1 ∙ bytes_line s to bytes spells.0 are is.0 is.1 spells.2
order_of_line-spelling s line order are is spells = ap (order_of_line s) spells ∙ order_read s order are is

-- ---- writing what was read

module _ (s : Counts) (node : ℕ) (within : node < s.nodes) (text : List ℕ) where
  order_at_node_said : (name : List ℕ) (order : ScriptLine) → order_at_node s name node text ≡ Some order
      → Said s node name text order
  unfolding order_at_node
  order_at_node_said name order e =
      let P = λ (w : List ℕ) (o : ScriptLine). Said s node w text o in
      by_name_made P _ _ _ _ _ order e (issue_said s node within text)
      (λ e1. by_name_made P _ _ _ _ _ order e1 (open_said s node within text)
      (λ e2. by_name_made P _ _ _ _ _ order e2 (activate_said s node within text)
      (λ e3. by_name_made P _ _ _ _ _ order e3 (drop_said s node within text)
      (λ e4. by_name_made P _ _ _ _ _ order e4 (close_said s node within text)
      (λ e5. by_name_made P _ _ _ _ _ order e5 (check_said s node within text)
      (λ e6. by_name_made P _ _ _ _ _ order e6 (list_said s node within text)
      (λ e7. by_name_made P _ _ _ _ _ order e7 (reach_said s node within text)
      (λ e8. by_name P _ _ _ _ order e8 (agree_said s node within text order)
      (λ none. absurd (none-some order none))))))))))

-- of an order that was read from the name of a line and all that stands behind it
record Ordered (s : Counts) (name text : List ℕ) (order : ScriptLine) : Type 0 where
  line_is : name ++ (space ∷ text) ≡ order_spelling order
  is : IsOrder s order

module _ (s : Counts) (text : List ℕ) where
  give_ordered : (number : ℕ) → wide_number text ≡ Some number → Ordered s (codes "give") text (Do (Give number))
  give_ordered number e =
      let (word, wide) = wide_spelled number text e in
      record { line_is = ap (λ (w : List ℕ). codes "give" ++ (space ∷ w)) word; is = wide }

  lie_ordered : (p : PacketValue) → lie_of s text ≡ Some p → Ordered s (codes "lie") text (Do (Lie p))
  lie_ordered p e =
      let (word, is) = lie_spelled s text p e in
      record { line_is = ap (λ (w : List ℕ). codes "lie" ++ (space ∷ w)) word; is = is }

  node_ordered : (name : List ℕ) (order : ScriptLine) → order_of_node s name text ≡ Some order
      → Ordered s name text order
  unfolding order_of_node
  node_ordered name order e =
      option_and_then_some _ _ _ e
      (λ node is_node read.
      let (cut, within) = node_rest_spelled s text node is_node in
      let said = order_at_node_said s node.0 within node.1 name order read in
      record {
        line_is =
            ap (λ (w : List ℕ). name ++ (space ∷ w)) cut ∙ sym (at_node-grouped name node.0 node.1) ∙ said.text_is;
        is = said.is;
      })

  named_ordered : (name : List ℕ) (order : ScriptLine) → named_order s name text ≡ Some order
      → Ordered s name text order
  unfolding named_order
  named_ordered name order e =
      let P = λ (w : List ℕ) (o : ScriptLine). Ordered s w text o in
      by_name_made P _ _ _ _ _ order e give_ordered
      (λ e1. by_name_made P _ _ _ _ _ order e1 lie_ordered (node_ordered name order))

bytes_said : (s : Counts) (text : List ℕ) (order : ScriptLine) → bytes_order s text ≡ Some order
    → SpellsOrder order (codes "bytes" ++ (space ∷ text)) × IsOrder s order
unfolding bytes_order
bytes_said s text order e =
    option_and_then_some _ _ _ e
    (λ to is_to read.
    let (cut, within) = node_rest_spelled s text to is_to in
    let (bytes, is_bytes, made) = mapped _ _ _ read in
    let (spells, are) = bytes_spelled to.1 bytes is_bytes in
    let line_is : codes "bytes" ++ (space ∷ text) ≡ at_node (codes "bytes") to.0 to.1 =
    ap (λ (w : List ℕ). codes "bytes" ++ (space ∷ w)) cut ∙ sym (at_node-grouped (codes "bytes") to.0 to.1) in
    subst (λ (o : ScriptLine). SpellsOrder o (codes "bytes" ++ (space ∷ text)) × IsOrder s o) made
    ((to.1, line_is, spells), (within, are)))

-- an order's own spelling spells it
own_spelling : (s : Counts) (line : List ℕ) (order : ScriptLine) → IsOrder s order → line ≡ order_spelling order
    → SpellsOrder order line
own_spelling s line (Do (Bytes to bytes)) is e = (bytes_spelling bytes, e, spelling_spells bytes is.1)
own_spelling s line order is e = e

pub order_of_line_spelled : OrdersAreSpelled
unfolding order_of_line
order_of_line_spelled s line order e =
    if_else _ _ _ order e (alone (codes "flush") Flush (λ h. h) tt)
    (λ e1. if_else _ _ _ order e1 (alone (codes "settle") Settle (λ h. h) tt)
    (λ e2. if_else _ _ _ order e2 (alone (codes "rest") Rest (λ h. h) tt)
    (λ at. option_and_then_some _ _ _ at
    (λ words cut read.
    subst (λ (w : List ℕ). SpellsOrder order w × IsOrder s order) (sym (split_word-joined line words cut))
    (by_name (λ (name : List ℕ) (o : ScriptLine). SpellsOrder o (name ++ (space ∷ words.1)) × IsOrder s o)
    words.0 (codes "bytes") _ _ order read (bytes_said s words.1 order)
    (λ others. let ordered = named_ordered s words.1 words.0 order others in
    (own_spelling s _ order ordered.is ordered.line_is, ordered.is)))))))
  where
    alone : (word : List ℕ) (o : ScriptLine) → (line ≡ word → SpellsOrder o line) → IsOrder s o
        → bytes_eq line word ≡ true
        → ◌≡◌ {A = Option ScriptLine} (Some o) (Some order) → SpellsOrder order line × IsOrder s order
    alone word o spells is same some =
        subst (λ (p : ScriptLine). SpellsOrder p line × IsOrder s p) (same_Some o order some)
        (spells ((bytes_eq-Decides line word).0 same), is)
