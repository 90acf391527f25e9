-- A command has one spelling.
use Rattle.std.proofs.Common.{◌≡◌, ℕ, ◌<◌, ◌^◌, true, false, cond, List, ◌∷◌, ◌++◌, length, codes, Option, Some, None}
use Rattle.std.proofs.Common.{IfSome, Bool, [], option_map, option_and_then, sym, refl, ap, arith, ◌∙◌, append_assoc}
use Rattle.std.proofs.Common.{subst}
use Rattle.std.proofs.lemmas.Option.{option_and_then_some, same_Some}
use Rattle.std.proofs.lemmas.Slice.Eq.{bytes_eq-Decides}
use Rattle.std.specs.Fmt.{decimal}
use Rattle.std.specs.List.{position_or_len, AllByRecursion}
use Rattle.std.specs.Map.{lookup}
use Rattle.std.specs.Str.{bytes_eq}
use Rattle.role_commands.specs.Laws.{CommandsAreRead, CommandsAreSpelled, SpellingsDiffer}
use Rattle.role_commands.specs.Numbers.{is_space, wide_number, narrow_number, space}
use Rattle.role_commands.specs.Reading.{user_and_role, operation_and_object}
use Rattle.role_commands.specs.Reading.{role_and_permission, kinds, named_command, command_of}
use Rattle.role_commands.specs.Words.{spelling, IsCommand, one_word, two_words, three_words}
use Rattle.role_commands.specs.declared.command.Command.{Command}
use Rattle.role_commands.specs.declared.command.Command.TheVariants.{Assign, Deassign, Grant, Revoke, Clear}
use Rattle.role_commands.proofs.FirstWordLemmas.{mapped}
use Rattle.role_commands.proofs.NumberLemmas.{wide_read, narrow_read, wide_spelled, narrow_spelled}
use Rattle.role_commands.proofs.SplitWordLemmas.{split_word-decimal, split_word-word, split_word-joined}

-- ---- reading what was written

user_and_role_read : (user role : ℕ) → user < 2 ^ 32 → role < 2 ^ 16
    → user_and_role (decimal user ++ (space ∷ decimal role)) ≡ Some (user, role)
unfolding user_and_role
user_and_role_read user role wide narrow =
    rw (split_word-decimal user (decimal role) (omega arith)) (rw (wide_read user wide, narrow_read role narrow) refl)

operation_and_object_read : (operation object : ℕ) → operation < 2 ^ 16 → object < 2 ^ 32
    → operation_and_object (decimal operation ++ (space ∷ decimal object)) ≡ Some (operation, object)
unfolding operation_and_object
operation_and_object_read operation object narrow wide =
    rw (split_word-decimal operation (decimal object) (omega arith))
    (rw (narrow_read operation narrow, wide_read object wide) refl)

role_and_permission_read : (role operation object : ℕ) → role < 2 ^ 16 → operation < 2 ^ 16 → object < 2 ^ 32
    → role_and_permission (decimal role ++ (space ∷ (decimal operation ++ (space ∷ decimal object)))) ≡ Some
    (role, operation, object)
unfolding role_and_permission
role_and_permission_read role operation object role_fits fits wide =
    rw (split_word-decimal role (decimal operation ++ (space ∷ decimal object)) (omega arith))
    (rw (narrow_read role role_fits, operation_and_object_read operation object fits wide) refl)

command_of-front : (name numbers : List ℕ) → position_or_len is_space name ≡ length name
    → command_of (name ++ (space ∷ numbers)) ≡ named_command name numbers
unfolding command_of
command_of-front name numbers e = rw (split_word-word name numbers e) refl

pub one_word-grouped : (name : List ℕ) (a : ℕ) → one_word name a ≡ name ++ (space ∷ decimal a)
one_word-grouped name a = simp append_assoc

pub two_words-grouped : (name : List ℕ) (a b : ℕ) →
    two_words name a b ≡ name ++ (space ∷ (decimal a ++ (space ∷ decimal b)))
two_words-grouped name a b = simp append_assoc

pub three_words-grouped : (name : List ℕ) (a b c : ℕ)
    → three_words name a b c ≡ name ++ (space ∷ (decimal a ++ (space ∷ (decimal b ++ (space ∷ decimal c)))))
three_words-grouped name a b c = simp append_assoc

pub command_of-spelling : CommandsAreRead
unfolding named_command
command_of-spelling (Assign user role) is =
    ap command_of (two_words-grouped (codes "assign") user role) ∙ command_of-front (codes "assign") _ refl
    ∙ rw (user_and_role_read user role is.0 is.1) refl
command_of-spelling (Deassign user role) is =
    ap command_of (two_words-grouped (codes "deassign") user role) ∙ command_of-front (codes "deassign") _ refl
    ∙ rw (user_and_role_read user role is.0 is.1) refl
command_of-spelling (Grant role operation object) is =
    ap command_of (three_words-grouped (codes "grant") role operation object) ∙ command_of-front (codes "grant") _ refl
    ∙ rw (role_and_permission_read role operation object is.0 is.1 is.2) refl
command_of-spelling (Revoke role operation object) is =
    ap command_of (three_words-grouped (codes "revoke") role operation object)
    ∙ command_of-front (codes "revoke") _ refl
    ∙ rw (role_and_permission_read role operation object is.0 is.1 is.2) refl
command_of-spelling (Clear role) is =
    ap command_of (one_word-grouped (codes "clear") role) ∙ command_of-front (codes "clear") _ refl
    ∙ rw (narrow_read role is) refl

-- ---- writing what was read

pair_of : (x y : Option ℕ) (n : ℕ × ℕ) → option_and_then (λ a. option_and_then (λ b. Some (a, b)) y) x ≡ Some n
    → (x ≡ Some n.0) × (y ≡ Some n.1)
pair_of None y n e = cc
pair_of (Some a) None n e = cc
pair_of (Some a) (Some b) n e = let is = same_Some (a, b) n e in (ap (λ m. Some m.0) is, ap (λ m. Some m.1) is)

triple_of : (x : Option ℕ) (y : Option (ℕ × ℕ)) (n : ℕ × ℕ × ℕ)
    → option_and_then (λ a. option_and_then (λ b. Some (a, b.0, b.1)) y) x ≡ Some n
    → (x ≡ Some n.0) × (y ≡ Some (n.1, n.2))
triple_of None y n e = cc
triple_of (Some a) None n e = cc
triple_of (Some a) (Some b) n e = let is =
    same_Some (a, b.0, b.1) n e in (ap (λ m. Some m.0) is, ap (λ m. Some (m.1, m.2)) is)

user_and_role_spelled : (text : List ℕ) (n : ℕ × ℕ) → user_and_role text ≡ Some n
    → (text ≡ decimal n.0 ++ (space ∷ decimal n.1)) × (n.0 < 2 ^ 32) × (n.1 < 2 ^ 16)
unfolding user_and_role
user_and_role_spelled text n e =
    option_and_then_some _ _ _ e
    (λ words cut read.
    let parts = pair_of (wide_number words.0) (narrow_number words.1) n read in
    let user = wide_spelled n.0 words.0 parts.0 in
    let role = narrow_spelled n.1 words.1 parts.1 in
    (split_word-joined text words cut ∙ rw (user.0, role.0) refl, user.1, role.1))

operation_and_object_spelled : (text : List ℕ) (n : ℕ × ℕ) → operation_and_object text ≡ Some n
    → (text ≡ decimal n.0 ++ (space ∷ decimal n.1)) × (n.0 < 2 ^ 16) × (n.1 < 2 ^ 32)
unfolding operation_and_object
operation_and_object_spelled text n e =
    option_and_then_some _ _ _ e
    (λ words cut read.
    let parts = pair_of (narrow_number words.0) (wide_number words.1) n read in
    let operation = narrow_spelled n.0 words.0 parts.0 in
    let object = wide_spelled n.1 words.1 parts.1 in
    (split_word-joined text words cut ∙ rw (operation.0, object.0) refl, operation.1, object.1))

role_and_permission_spelled : (text : List ℕ) (n : ℕ × ℕ × ℕ) → role_and_permission text ≡ Some n
    → (text ≡ decimal n.0 ++ (space ∷ (decimal n.1 ++ (space ∷ decimal n.2)))) × (n.0 < 2 ^ 16) × (n.1 < 2 ^ 16)
    × (n.2 < 2 ^ 32)
unfolding role_and_permission
role_and_permission_spelled text n e =
    option_and_then_some _ _ _ e
    (λ words cut read.
    let parts = triple_of (narrow_number words.0) (operation_and_object words.1) n read in
    let role = narrow_spelled n.0 words.0 parts.0 in
    let permission = operation_and_object_spelled words.1 (n.1, n.2) parts.1 in
    (split_word-joined text words cut ∙ rw (role.0, permission.0) refl, role.1, permission.1, permission.2))

Named : List ℕ → List ℕ → Command → Type 0
Named name numbers c = (name ++ (space ∷ numbers) ≡ spelling c) × IsCommand c

-- the word and two numbers are the spelling of what is made of them
abbrev SpellPairs : List ℕ → (ℕ → ℕ → Command) → Type 0
SpellPairs word make =
    (user role : ℕ) → user < 2 ^ 32 → role < 2 ^ 16
    → (two_words word user role ≡ spelling (make user role)) × IsCommand (make user role)

-- the same of three
abbrev SpellTriples : List ℕ → (ℕ → ℕ → ℕ → Command) → Type 0
SpellTriples word make =
    (role operation object : ℕ) → role < 2 ^ 16 → operation < 2 ^ 16 → object < 2 ^ 32
    → (three_words word role operation object ≡ spelling (make role operation object))
    × IsCommand (make role operation object)

-- what is read behind this name is spelled by it and the numbers
abbrev SpellsKind : List ℕ × (List ℕ → Option Command) → Type 0
SpellsKind kind = (numbers : List ℕ) (c : Command) → kind.1 numbers ≡ Some c → Named kind.0 numbers c

clear_spells : SpellsKind (codes "clear", λ numbers. option_map Clear (narrow_number numbers))
unfolding Named
clear_spells numbers c e =
    let (role, read, made) = mapped Clear (narrow_number numbers) c e in
    let (joined, narrow) = narrow_spelled role numbers read in
    let text : codes "clear" ++ (space ∷ numbers) ≡ spelling (Clear role) =
    ap (λ t. codes "clear" ++ (space ∷ t)) joined ∙ sym (one_word-grouped (codes "clear") role) in
    (text ∙ ap spelling made, subst IsCommand made narrow)

pair_spells : (word : List ℕ) (make : ℕ → ℕ → Command) → SpellPairs word make
    → SpellsKind (word, λ numbers. option_map (λ n. make n.0 n.1) (user_and_role numbers))
unfolding Named
pair_spells word make spells numbers c e =
    let (n, read, made) = mapped (λ (m : ℕ × ℕ). make m.0 m.1) (user_and_role numbers) c e in
    let (joined, wide, narrow) = user_and_role_spelled numbers n read in
    let spelled = spells n.0 n.1 wide narrow in
    let text : word ++ (space ∷ numbers) ≡ spelling (make n.0 n.1) =
    ap (λ t. word ++ (space ∷ t)) joined ∙ sym (two_words-grouped word n.0 n.1) ∙ spelled.0 in
    (text ∙ ap spelling made, subst IsCommand made spelled.1)

triple_spells : (word : List ℕ) (make : ℕ → ℕ → ℕ → Command) → SpellTriples word make
    → SpellsKind (word, λ numbers. option_map (λ n. make n.0 n.1 n.2) (role_and_permission numbers))
unfolding Named
triple_spells word make spells numbers c e =
    let (n, read, made) = mapped (λ (m : ℕ × ℕ × ℕ). make m.0 m.1 m.2) (role_and_permission numbers) c e in
    let (joined, role, operation, object) = role_and_permission_spelled numbers n read in
    let spelled = spells n.0 n.1 n.2 role operation object in
    let text : word ++ (space ∷ numbers) ≡ spelling (make n.0 n.1 n.2) =
    ap (λ t. word ++ (space ∷ t)) joined ∙ sym (three_words-grouped word n.0 n.1 n.2) ∙ spelled.0 in
    (text ∙ ap spelling made, subst IsCommand made spelled.1)

kinds_spell : AllByRecursion SpellsKind kinds
kinds_spell =
    let assign = pair_spells (codes "assign") Assign (λ u r i j. (refl, (i, j))) in
    let deassign = pair_spells (codes "deassign") Deassign (λ u r i j. (refl, (i, j))) in
    let grant = triple_spells (codes "grant") Grant (λ r p b i j k. (refl, (i, j, k))) in
    let revoke = triple_spells (codes "revoke") Revoke (λ r p b i j k. (refl, (i, j, k))) in
    (assign, (deassign, (grant, (revoke, (clear_spells, tt)))))

-- the same of the kind that is found by its name
spells_found : (kinds : List (List ℕ × (List ℕ → Option Command))) (name : List ℕ) (read : List ℕ → Option Command)
    → AllByRecursion SpellsKind kinds → lookup (bytes_eq name) kinds ≡ Some read → SpellsKind (name, read)
spells_found [] name read spell found = absurd cc
spells_found ((word, reads) ∷ others) name read (spells, rest) found =
    at (bytes_eq name word) refl found (spells_found others name read rest)
  where
    at : (b : Bool) → bytes_eq name word ≡ b → cond b (Some reads) (lookup (bytes_eq name) others) ≡ Some read
        → (lookup (bytes_eq name) others ≡ Some read → SpellsKind (name, read)) → SpellsKind (name, read)
    at true same is later =
        let e : (word, reads) ≡ (name, read) =
        (λ i. (sym ((bytes_eq-Decides name word).0 same) i, same_Some reads read is i)) in
        subst SpellsKind e spells
    at false other is later = later is

pub command_of_spelled : CommandsAreSpelled
unfolding command_of named_command Named
command_of_spelled text c e =
    option_and_then_some _ _ _ e
    (λ words cut read.
    option_and_then_some _ _ _ read
    (λ reads found is.
    let named = spells_found kinds words.0 reads kinds_spell found words.1 c is in
    (split_word-joined text words cut ∙ named.0, named.1)))

pub spelling_injective : SpellingsDiffer
spelling_injective c d is also same =
    same_Some c d (sym (command_of-spelling c is) ∙ ap command_of same ∙ command_of-spelling d also)

-- what follows for a result that is the command of the text
module _ (text : List ℕ) (r : Option Command) (is : r ≡ command_of text) where
  pub found_spelled : IfSome r (λ c. text ≡ spelling c)
  found_spelled = found r is where
    found : (o : Option Command) → o ≡ command_of text → IfSome o (λ c. text ≡ spelling c)
    found None e = tt
    found (Some c) e = (command_of_spelled text c (sym e)).0

  pub only_spelled : (c : Command) → IsCommand c → text ≡ spelling c → r ≡ Some c
  only_spelled c fits same = is ∙ ap command_of same ∙ command_of-spelling c fits
