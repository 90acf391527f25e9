-- The lines of a script of a cluster that name a node, and the lines of one word.
use Rattle.std.proofs.Common.{◌≡◌, ℕ, Bool, true, false}
use Rattle.std.proofs.Common.{◌<◌, List, ◌∷◌, ◌++◌, length, codes, Some, None, sym}
use Rattle.std.proofs.Common.{refl, ap, arith, ◌∙◌}
use Rattle.std.proofs.lemmas.Option.{none-some}
use Rattle.std.proofs.lemmas.Slice.Eq.{bytes_eq-Decides}
use Rattle.std.specs.Fmt.{decimal}
use Rattle.std.specs.List.{position_or_len}
use Rattle.std.specs.Str.{bytes_eq}
use Rattle.quorum_sizes.specs.Sizes.{Counts, AreSizes}
use Rattle.role_commands.specs.Numbers.{is_space, split_word}
use Rattle.role_commands.proofs.Exported.{split_word-word}
use Rattle.role_commands.specs.Numbers.{space}
use Rattle.lab_scripts.specs.Orders.{node_number}
use Rattle.lab_scripts.specs.Orders.{order_at_node, order_of_node, named_order, order_of_line}
use Rattle.lab_scripts.specs.OrderSpellings.{at_node}
use Rattle.lab_scripts.specs.OrderSpellings.{order_spelling}
use Rattle.lab_scripts.specs.OrderSpellings.{IsOrder}
use Rattle.lab_scripts.specs.declared.orders.ScriptLine.{ScriptLine}
use Rattle.lab_scripts.proofs.LineNames.{node_read}
use Rattle.lab_scripts.proofs.LineNames.{then_rest-decimal}
use Rattle.lab_scripts.proofs.LineNumbers.{at_node-grouped}

-- a word with no space is no line with a name
pub one_word : (line word : List ℕ) (words : List ℕ × List ℕ) → split_word word ≡ None → split_word line ≡ Some words
    → bytes_eq line word ≡ false
one_word line word words none some = told (bytes_eq line word) refl
  where
    told : (b : Bool) → bytes_eq line word ≡ b → b ≡ false
    told true p =
        let is : line ≡ word = (bytes_eq-Decides line word).0 p in
        absurd (none-some words (sym none ∙ sym (ap split_word is) ∙ some))
    told false p = refl

pub no_space_flush : split_word (codes "flush") ≡ None
unfolding split_word
no_space_flush = refl

pub no_space_settle : split_word (codes "settle") ≡ None
unfolding split_word
no_space_settle = refl

pub no_space_rest : split_word (codes "rest") ≡ None
unfolding split_word
no_space_rest = refl

module _ (s : Counts) (are : AreSizes s) (node : ℕ) (within : node < s.nodes) where
  order_of_node-read : (name text : List ℕ) → order_of_node s name (decimal node ++ (space ∷ text))
      ≡ order_at_node s name node text
  unfolding order_of_node
  order_of_node-read name text =
      rw (then_rest-decimal (node_number s) node node text (omega (arith, are.0, within))
      (node_read s node are within)) refl

  pub order_of_line-named : (name text : List ℕ) → position_or_len is_space name ≡ length name
      → bytes_eq name (codes "bytes") ≡ false → bytes_eq name (codes "give") ≡ false
      → bytes_eq name (codes "lie") ≡ false
      → order_of_line s (at_node name node text) ≡ order_at_node s name node text
  unfolding order_of_line named_order
  order_of_line-named name text plain no_bytes no_give no_lie =
      let line = name ++ (space ∷ (decimal node ++ (space ∷ text))) in
      let words = split_word-word name (decimal node ++ (space ∷ text)) plain in
      let no_flush = one_word line (codes "flush") (name, decimal node ++ (space ∷ text)) no_space_flush words in
      let no_settle = one_word line (codes "settle") (name, decimal node ++ (space ∷ text)) no_space_settle words in
      let no_rest = one_word line (codes "rest") (name, decimal node ++ (space ∷ text)) no_space_rest words in
      ap (order_of_line s) (at_node-grouped name node text)
      ∙ rw (no_flush, no_settle, no_rest) (rw words (rw (no_bytes, no_give, no_lie) (order_of_node-read name text)))

-- of an order that was read from the name of a line and what stands behind its node
pub record Said (s : Counts) (node : ℕ) (name text : List ℕ) (order : ScriptLine) : Type 0 where
  pub text_is : at_node name node text ≡ order_spelling order
  pub is : IsOrder s order
