-- The names of nodes and of kinds in a line, and what stands behind a word.
use Rattle.std.proofs.Common.{◌≡◌, ℕ, ◌<◌, ◌^◌, true, nat_lt, List, ◌∷◌, ◌++◌, length}
use Rattle.std.proofs.Common.{codes, Option, Some, refl, ap, ◌∙◌, arith, subst}
use Rattle.std.proofs.lemmas.Bool.Decides.{nat_tests}
use Rattle.std.proofs.lemmas.Option.{option_and_then_some, cond_some, same_Some, none-some}
use Rattle.std.proofs.lemmas.Slice.Eq.{bytes_eq-Decides}
use Rattle.std.specs.Fmt.{decimal}
use Rattle.std.specs.List.{position_or_len}
use Rattle.std.specs.Str.{bytes_eq}
use Rattle.quorum_sizes.specs.Sizes.{Counts, AreSizes, name_due}
use Rattle.role_commands.specs.Numbers.{is_space}
use Rattle.role_commands.proofs.Exported.{split_word-word, split_word-decimal, split_word-joined}
use Rattle.role_commands.proofs.Exported.{byte_read, byte_spelled, if_else, mapped}
use Rattle.role_commands.specs.Numbers.{space}
use Rattle.link_frames.specs.declared.frames.kind.Kind.{Kind}
use Rattle.link_frames.specs.declared.frames.kind.Kind.TheVariants.{Send, Echo, Ready}
use Rattle.lab_scripts.specs.Orders.{node_number, kind_of, then_rest}
use Rattle.lab_scripts.specs.Texts.{kind_word}

-- ---- nodes

pub name_due-within : (s : Counts) (i : ℕ) → i < s.nodes → name_due s i ≡ Some i
name_due-within s i h = let inside : nat_lt i s.nodes ≡ true = grind (arith, nat_tests) in rw inside refl

pub name_due_is : (s : Counts) (i n : ℕ) → name_due s i ≡ Some n → (i < s.nodes) × (i ≡ n)
name_due_is s i n e = let parts = cond_some (nat_lt i s.nodes) i n e in (grind (arith, nat_tests), parts.1)

pub node_read : (s : Counts) (node : ℕ) → AreSizes s → node < s.nodes → node_number s (decimal node) ≡ Some node
node_read s node are within = rw (byte_read node (omega (arith, are.0))) (name_due-within s node within)

pub node_spelled : (s : Counts) (node : ℕ) (word : List ℕ) → node_number s word ≡ Some node
    → (word ≡ decimal node) × (node < s.nodes)
node_spelled s node word e =
    option_and_then_some _ _ _ e
    (λ i is_i read.
    let (within, same) = name_due_is s i node read in
    ((byte_spelled i word is_i).0 ∙ ap decimal same, omega arith))

-- ---- kinds

pub kind_read : (kind : Kind) → kind_of (kind_word kind) ≡ Some kind
kind_read Send = refl
kind_read Echo = refl
kind_read Ready = refl

pub plain_kind : (kind : Kind) → position_or_len is_space (kind_word kind) ≡ length (kind_word kind)
plain_kind Send = refl
plain_kind Echo = refl
plain_kind Ready = refl

pub kind_spelled : (kind : Kind) (word : List ℕ) → kind_of word ≡ Some kind → word ≡ kind_word kind
kind_spelled kind word e =
    if_else _ _ _ kind e (is (codes "send") Send refl)
    (λ e1. if_else _ _ _ kind e1 (is (codes "echo") Echo refl)
    (λ e2. if_else _ _ _ kind e2 (is (codes "ready") Ready refl)
    (λ none. absurd (none-some kind none))))
  where
    is : (name : List ℕ) (k : Kind) → name ≡ kind_word k → bytes_eq word name ≡ true
        → ◌≡◌ {A = Option Kind} (Some k) (Some kind) → word ≡ kind_word kind
    is name k named same some = (bytes_eq-Decides word name).0 same ∙ named ∙ ap kind_word (same_Some k kind some)

-- ---- what stands behind a word

pub then_rest-word : {A : Type 0} (read : List ℕ → Option A) (a : A) (word rest : List ℕ)
    → position_or_len is_space word ≡ length word → read word ≡ Some a
    → then_rest read (word ++ (space ∷ rest)) ≡ Some (a, rest)
unfolding then_rest
then_rest-word read a word rest plain is = rw (split_word-word word rest plain) (rw is refl)

pub then_rest-decimal : {A : Type 0} (read : List ℕ → Option A) (a : A) (n : ℕ) (rest : List ℕ) → n < 2 ^ 64
    → read (decimal n) ≡ Some a → then_rest read (decimal n ++ (space ∷ rest)) ≡ Some (a, rest)
unfolding then_rest
then_rest-decimal read a n rest small is = rw (split_word-decimal n rest small) (rw is refl)

pub then_rest_is : {A : Type 0} (read : List ℕ → Option A) (text : List ℕ) (p : A × List ℕ) → then_rest read text
    ≡ Some p
    → (word : List ℕ) × (text ≡ word ++ (space ∷ p.1)) × (read word ≡ Some p.0)
unfolding then_rest
then_rest_is {A} read text p e =
    option_and_then_some _ _ _ e
    (λ words cut read_word.
    let (a, is, made) = mapped _ _ _ read_word in
    subst (λ (q : A × List ℕ). (word : List ℕ) × (text ≡ word ++ (space ∷ q.1)) × (read word ≡ Some q.0)) made
    (words.0, split_word-joined text words cut, is))

-- a node
pub node_rest_spelled : (s : Counts) (text : List ℕ) (p : ℕ × List ℕ) → then_rest (node_number s) text ≡ Some p
    → (text ≡ decimal p.0 ++ (space ∷ p.1)) × (p.0 < s.nodes)
node_rest_spelled s text p e =
    let (word, cut, is) = then_rest_is (node_number s) text p e in
    let (word_is, within) = node_spelled s p.0 word is in
    (cut ∙ ap (λ (w : List ℕ). w ++ (space ∷ p.1)) word_is, within)
