-- The first line of a cluster, and the lines of its roles and liars, have one spelling.
use Rattle.std.proofs.Common.{◌≡◌, ℕ, ◌<◌, ◌^◌, List, ◌∷◌, ◌++◌, drop, codes}
use Rattle.std.proofs.Common.{Some, sym, refl, ap, ◌∙◌, append_assoc, subst}
use Rattle.std.proofs.lemmas.Option.{option_and_then_some, none-some}
use Rattle.std.specs.Fmt.{decimal}
use Rattle.quorum_sizes.specs.Sizes.{Counts, AreSizes}
use Rattle.role_commands.proofs.Exported.{split_word-word, split_word-joined, byte_read}
use Rattle.role_commands.proofs.Exported.{byte_spelled, mapped, behind_name, by_name, by_name_made}
use Rattle.role_commands.specs.Numbers.{space}
use Rattle.lab_scripts.specs.Grammar.{sizes_of_numbers, sizes_of_line}
use Rattle.lab_scripts.specs.Orders.{node_number, cluster_of_line, role_and_owner, named_setup, setup_of_line}
use Rattle.lab_scripts.specs.Spellings.{sizes_spelling}
use Rattle.lab_scripts.specs.OrderSpellings.{cluster_spelling, setup_spelling, two_numbers, IsSetup}
use Rattle.lab_scripts.specs.OrderSpellings.{ClustersAreRead, ClustersAreSpelled, SetupsAreRead, SetupsAreSpelled}
use Rattle.lab_scripts.specs.declared.orders.SetupLine.{SetupLine}
use Rattle.lab_scripts.specs.declared.orders.SetupLine.TheVariants.{Owned, Liar}
use Rattle.lab_scripts.proofs.LineNames.{node_read, node_spelled}
use Rattle.lab_scripts.proofs.LineNumbers.{two_numbers-grouped, narrow_rest, narrow_rest_spelled, joined}
use Rattle.lab_scripts.proofs.Spelled.{sizes_of_line-spelling, sizes_of_line_spelled}

-- ---- the first line: `N F` stands behind `cluster` as behind `instance`

numbers_line : (text : List ℕ) → sizes_of_line (codes "instance" ++ (space ∷ text)) ≡ sizes_of_numbers text
unfolding sizes_of_line
numbers_line text = rw (split_word-word (codes "instance") text refl) refl

sizes-grouped : (s : Counts) → sizes_spelling s ≡ codes "instance" ++ (space ∷ two_numbers s.nodes s.liars)
sizes-grouped s = simp append_assoc

cluster-grouped : (s : Counts) → cluster_spelling s ≡ codes "cluster" ++ (space ∷ two_numbers s.nodes s.liars)
cluster-grouped s = simp append_assoc

sizes_of_numbers-numbers : (s : Counts) → AreSizes s → sizes_of_numbers (two_numbers s.nodes s.liars) ≡ Some s
sizes_of_numbers-numbers s are =
    sym (numbers_line (two_numbers s.nodes s.liars)) ∙ ap sizes_of_line (sym (sizes-grouped s))
    ∙ sizes_of_line-spelling s are

sizes_of_numbers_spelled : (text : List ℕ) (s : Counts) → sizes_of_numbers text ≡ Some s
    → (text ≡ two_numbers s.nodes s.liars) × AreSizes s
sizes_of_numbers_spelled text s e =
    let spelled = sizes_of_line_spelled (codes "instance" ++ (space ∷ text)) s (numbers_line text ∙ e) in
    (ap (drop 9) (spelled.0 ∙ sizes-grouped s), spelled.1)

pub cluster_of_line-spelling : ClustersAreRead
unfolding cluster_of_line
cluster_of_line-spelling s are =
    ap cluster_of_line (cluster-grouped s)
    ∙ rw (split_word-word (codes "cluster") (two_numbers s.nodes s.liars) refl) (sizes_of_numbers-numbers s are)

pub cluster_of_line_spelled : ClustersAreSpelled
unfolding cluster_of_line
cluster_of_line_spelled line s e =
    let (text, line_is, read) = behind_name (codes "cluster") line sizes_of_numbers s e in
    let (numbers, are) = sizes_of_numbers_spelled text s read in
    (line_is ∙ ap (λ (w : List ℕ). codes "cluster" ++ (space ∷ w)) numbers ∙ sym (cluster-grouped s), are)

-- ---- roles and liars

role-grouped : (role owner : ℕ) → setup_spelling (Owned role owner) ≡ codes "role" ++ (space ∷ two_numbers role owner)
role-grouped role owner = simp append_assoc

role_and_owner-numbers : (role owner : ℕ) → role < 2 ^ 16 → owner < 2 ^ 8
    → role_and_owner (two_numbers role owner) ≡ Some (Owned role owner)
unfolding role_and_owner
role_and_owner-numbers role owner narrow small =
    ap role_and_owner (two_numbers-grouped role owner)
    ∙ rw (narrow_rest role (decimal owner) narrow) (rw (byte_read owner small) refl)

pub setup_of_line-spelling : SetupsAreRead
unfolding setup_of_line named_setup
setup_of_line-spelling s (Owned role owner) are is =
    ap (setup_of_line s) (role-grouped role owner)
    ∙ rw (split_word-word (codes "role") (two_numbers role owner) refl) (role_and_owner-numbers role owner is.0 is.1)
setup_of_line-spelling s (Liar node) are is =
    rw (split_word-word (codes "liar") (decimal node) refl) (rw (node_read s node are is) refl)

-- of what was read behind the name of a line
record SetUp (s : Counts) (name text : List ℕ) (setup : SetupLine) : Type 0 where
  line_is : name ++ (space ∷ text) ≡ setup_spelling setup
  is : IsSetup s setup

role_said : (s : Counts) (text : List ℕ) (setup : SetupLine) → role_and_owner text ≡ Some setup
    → SetUp s (codes "role") text setup
unfolding role_and_owner
role_said s text setup e =
    option_and_then_some _ _ _ e
    (λ role is_role read.
    let (cut, narrow) = narrow_rest_spelled text role is_role in
    let (owner, is_owner, made) = mapped _ _ _ read in
    let (last, small) = byte_spelled owner role.1 is_owner in
    let numbers = joined text role.0 role.1 (decimal owner) cut last in
    subst (SetUp s (codes "role") text) made
    (record {
      line_is = ap (λ (w : List ℕ). codes "role" ++ (space ∷ w)) numbers ∙ sym (role-grouped role.0 owner);
      is = (narrow, small);
    }))

liar_said : (s : Counts) (text : List ℕ) (node : ℕ) → node_number s text ≡ Some node →
    SetUp s (codes "liar") text (Liar node)
liar_said s text node e =
    let (word, within) = node_spelled s node text e in
    record { line_is = ap (λ (w : List ℕ). codes "liar" ++ (space ∷ w)) word; is = within }

pub setup_of_line_spelled : SetupsAreSpelled
unfolding setup_of_line named_setup
setup_of_line_spelled s line setup e =
    option_and_then_some _ _ _ e
    (λ words cut read.
    let P = λ (w : List ℕ) (u : SetupLine). SetUp s w words.1 u in
    let said : SetUp s words.0 words.1 setup =
    by_name P _ _ _ _ setup read (role_said s words.1 setup)
    (λ e1. by_name_made P _ _ _ _ _ setup e1 (liar_said s words.1)
    (λ none. absurd (none-some setup none))) in
    (split_word-joined line words cut ∙ said.line_is, said.is))
