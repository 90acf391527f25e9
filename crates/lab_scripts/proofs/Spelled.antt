-- A line of a script of one instance has one spelling.
use Rattle.std.proofs.Common.{◌≡◌, ◌≢◌, ℕ, ◌==◌, ◌*◌, ◌<◌, ◌≤◌, ◌^◌, Bool, true, false, if◌then◌else◌}
use Rattle.std.proofs.Common.{nat_lt, nat_le, List, ◌∷◌, ◌++◌, codes, Option, Some, None, Result, Ok, Err}
use Rattle.std.proofs.Common.{option_map, option_and_then, sym, refl, ap, arith, ◌∙◌, append_assoc, subst}
use Rattle.std.proofs.lemmas.Bool.Decides.{nat_tests}
use Rattle.std.proofs.lemmas.Option.{option_and_then_some, same_Some, none-some}
use Rattle.std.proofs.lemmas.Slice.Eq.{bytes_eq-Decides}
use Rattle.std.specs.Result.{result_ok}
use Rattle.std.specs.Str.{bytes_eq}
use Rattle.std.specs.Fmt.{decimal}
use Rattle.quorum_sizes.specs.Sizes.{Counts, AreSizes, most_nodes, name_due}
use Rattle.quorum_sizes.specs.Refusals.{sizes_due}
use Rattle.quorum_sizes.specs.declared.sizes.SizeFault.{SizeFault}
use Rattle.quorum_sizes.specs.declared.sizes.SizeFault.TheVariants.{NoNodes, TooMany, TooManyLiars}
use Rattle.role_commands.specs.Numbers.{split_word, byte_number}
use Rattle.role_commands.specs.Reading.{command_of}
use Rattle.role_commands.specs.Words.{spelling, IsCommand}
use Rattle.role_commands.specs.declared.command.Command.{Command}
use Rattle.role_commands.proofs.Exported.{split_word-word, split_word-decimal, split_word-joined, byte_read}
use Rattle.role_commands.proofs.Exported.{byte_spelled, if_else, if_some, command_of-spelling, command_of_spelled}
use Rattle.role_commands.specs.Numbers.{space}
use Rattle.link_frames.specs.declared.frames.kind.Kind.{Kind}
use Rattle.link_frames.specs.declared.frames.kind.Kind.TheVariants.{Send, Echo, Ready}
use Rattle.bracha_instance.specs.Broadcast.{Take}
use Rattle.lab_scripts.specs.Grammar.{owner, sizes_of_numbers, sizes_of_line, take_from, vote_of, named_take, take_of_line}
use Rattle.lab_scripts.specs.Spellings.{sizes_spelling, said_spelling, take_spelling, IsTake}
use Rattle.lab_scripts.specs.Spellings.{SizesAreRead, SizesAreSpelled, TakesAreRead, TakesAreSpelled}
use Rattle.lab_scripts.proofs.LineNames.{name_due-within, name_due_is}

-- reading what was written

sizes_due-AreSizes : (s : Counts) → AreSizes s → sizes_due s.nodes s.liars ≡ Ok s
sizes_due-AreSizes s are =
    let some : (s.nodes == 0) ≡ false = grind (arith, nat_tests) in
    let few : nat_lt most_nodes s.nodes ≡ false = grind (arith, nat_tests) in
    let correct : nat_le s.nodes (3 * s.liars) ≡ false = grind (arith, nat_tests) in
    rw (some, few, correct) refl

pub sizes_of_line-spelling : SizesAreRead
unfolding sizes_of_line sizes_of_numbers
sizes_of_line-spelling s are =
    let grouped : sizes_spelling s ≡ codes "instance" ++ (space ∷ (decimal s.nodes ++ (space ∷ decimal s.liars))) =
    simp append_assoc in
    ap sizes_of_line grouped
    ∙ rw (split_word-word (codes "instance") (decimal s.nodes ++ (space ∷ decimal s.liars)) refl)
    (rw (split_word-decimal s.nodes (decimal s.liars) (omega arith))
    (rw (byte_read s.nodes (omega arith), byte_read s.liars (omega arith)) (ap result_ok (sizes_due-AreSizes s are))))

module _ (s : Counts) (kind : Kind) (from : ℕ) (c : Command) (within : from < s.nodes) (is : IsCommand c) where
  said : Take
  said = record { kind = kind; from = from; command = c }

  take_from-spelling : take_from s kind from (spelling c) ≡ Some said
  unfolding take_from said
  take_from-spelling = rw (name_due-within s from within, command_of-spelling c is) refl

  vote_of-spelling : from < 2 ^ 8 → vote_of s kind (decimal from ++ (space ∷ spelling c)) ≡ Some said
  unfolding vote_of
  vote_of-spelling small =
      rw (split_word-decimal from (spelling c) (omega arith)) (rw (byte_read from small) take_from-spelling)

named_spelling : (s : Counts) (kind : Kind) (from : ℕ) (c : Command) → AreSizes s → from < s.nodes
    → (kind ≡ Send → from ≡ owner) → IsCommand c
    → take_of_line s (said_spelling kind from c) ≡ Some (record { kind = kind; from = from; command = c })
unfolding take_of_line named_take said
named_spelling s Send from c are within owners is =
    let grouped : said_spelling Send from c ≡ codes "send" ++ (space ∷ spelling c) = refl in
    ap (λ (l : List ℕ). take_of_line s l) grouped
    ∙ rw (split_word-word (codes "send") (spelling c) refl)
    (subst (λ (i : ℕ). take_from s Send i (spelling c) ≡ Some (said s Send from c within is)) (owners refl)
    (take_from-spelling s Send from c within is))
named_spelling s Echo from c are within owners is =
    let grouped : said_spelling Echo from c ≡ codes "echo" ++ (space ∷ (decimal from ++ (space ∷ spelling c))) =
    simp append_assoc in
    ap (λ (l : List ℕ). take_of_line s l) grouped
    ∙ rw (split_word-word (codes "echo") (decimal from ++ (space ∷ spelling c)) refl)
    (vote_of-spelling s Echo from c within is (omega arith))
named_spelling s Ready from c are within owners is =
    let grouped : said_spelling Ready from c ≡ codes "ready" ++ (space ∷ (decimal from ++ (space ∷ spelling c))) =
    simp append_assoc in
    ap (λ (l : List ℕ). take_of_line s l) grouped
    ∙ rw (split_word-word (codes "ready") (decimal from ++ (space ∷ spelling c)) refl)
    (vote_of-spelling s Ready from c within is (omega arith))

pub take_of_line-spelling : TakesAreRead
take_of_line-spelling s t are is = named_spelling s t.kind t.from t.command are is.0.0 is.0.1 is.1

-- writing what was read

pub ok_of : {A E : Type 0} (r : Result A E) (x : A) → result_ok r ≡ Some x → r ≡ Ok x
ok_of (Ok y) x e = ap Ok (same_Some y x e)
ok_of (Err f) x e = cc

-- which sizes are due
sizes_due_is : (n f : ℕ) (s : Counts) → sizes_due n f ≡ Ok s → (n ≡ s.nodes) × (f ≡ s.liars) × AreSizes s
sizes_due_is n f s e = due (n == 0) (nat_lt most_nodes n) (nat_le n (3 * f)) refl refl refl e
  where
    made : record { nodes = n; liars = f } ≡ s → n ≤ most_nodes → 3 * f < n → (n ≡ s.nodes) × (f ≡ s.liars) × AreSizes s
    made is few correct = let nodes = ap (λ (c : Counts). c.nodes) is in let liars =
        ap (λ (c : Counts). c.liars) is in (nodes, liars, (omega arith, omega arith))

    due : (a b c : Bool) → a ≡ (n == 0) → b ≡ nat_lt most_nodes n → c ≡ nat_le n (3 * f)
        → ◌≡◌ {A = Result Counts SizeFault}
        (if a then Err NoNodes
        else (if b then Err TooMany else (if c then Err TooManyLiars else Ok (record { nodes = n; liars = f }))))
        (Ok s)
        → (n ≡ s.nodes) × (f ≡ s.liars) × AreSizes s
    due true b c p q r is = cc
    due false true c p q r is = cc
    due false false true p q r is = cc
    due false false false p q r is = made (cc) (grind (arith, nat_tests)) (grind (arith, nat_tests))

pub sizes_of_line_spelled : SizesAreSpelled
unfolding sizes_of_line sizes_of_numbers
sizes_of_line_spelled line s e =
    option_and_then_some
    (λ (words : List ℕ × List ℕ). if bytes_eq words.0 (codes "instance") then sizes_of_numbers words.1 else None)
    (split_word line) s e
    (λ words cut read.
    let named = if_some _ _ _ read in
    let name : words.0 ≡ codes "instance" = (bytes_eq-Decides words.0 (codes "instance")).0 named.0 in
    option_and_then_some
    (λ (numbers : List ℕ × List ℕ). option_and_then
    (λ n. option_and_then (λ f. result_ok (sizes_due n f)) (byte_number numbers.1)) (byte_number numbers.0))
    (split_word words.1) s named.1
    (λ numbers cut_numbers read_numbers.
    option_and_then_some (λ (n : ℕ). option_and_then (λ f. result_ok (sizes_due n f)) (byte_number numbers.1))
    (byte_number numbers.0) s read_numbers
    (λ n is_n read_n.
    option_and_then_some (λ (f : ℕ). result_ok (sizes_due n f)) (byte_number numbers.1) s read_n
    (λ f is_f read_f.
    let due = sizes_due_is n f s (ok_of _ _ read_f) in
    let joined : words.1 ≡ decimal s.nodes ++ (space ∷ decimal s.liars) =
    split_word-joined words.1 numbers cut_numbers
    ∙ rw ((byte_spelled n numbers.0 is_n).0, (byte_spelled f numbers.1 is_f).0, due.0, due.1) refl in
    let grouped : sizes_spelling s ≡ codes "instance" ++ (space ∷ (decimal s.nodes ++ (space ∷ decimal s.liars))) =
    simp append_assoc in
    (split_word-joined line words cut ∙ rw (name, joined) refl ∙ sym grouped, due.2)))))

-- what is known of a message that was read
record Read (s : Counts) (kind : Kind) (text : List ℕ) (t : Take) : Type 0 where
  kind_is : t.kind ≡ kind
  within : t.from < s.nodes
  text_is : text ≡ spelling t.command
  is : IsCommand t.command

take_from_spelled : (s : Counts) (kind : Kind) (index : ℕ) (text : List ℕ) (t : Take) → take_from s kind index text
    ≡ Some t
    → Read s kind text t × (t.from ≡ index)
unfolding take_from
take_from_spelled s kind index text t e =
    option_and_then_some
    (λ (name : ℕ). option_map (λ c. record { kind = kind; from = name; command = c }) (command_of text))
    (name_due s index) t e
    (λ name is_name read. made name (name_due_is s index name is_name) (command_of text) refl read)
  where
    made : (name : ℕ) → (index < s.nodes) × (index ≡ name) → (o : Option Command) → o ≡ command_of text
        → option_map (λ c. record { kind = kind; from = name; command = c }) o ≡ Some t → Read s kind text t
        × (t.from ≡ index)
    made name named None p q = cc
    made name named (Some c) p q =
        let is : record { kind = kind; from = name; command = c } ≡ t = same_Some _ _ q in
        let command : c ≡ t.command = ap (λ (m : Take). m.command) is in
        let from : name ≡ t.from = ap (λ (m : Take). m.from) is in
        let spelled = command_of_spelled text c (sym p) in (
          record {
            kind_is = sym (ap (λ (m : Take). m.kind) is);
            within = omega (arith, from, named.1);
            text_is =
                spelled.0 ∙ ap spelling command;
            is = subst IsCommand command spelled.1;
          },
          sym (named.1 ∙ from),
        )

-- the same of a vote
record ReadVote (s : Counts) (kind : Kind) (text : List ℕ) (t : Take) : Type 0 where
  kind_is : t.kind ≡ kind
  within : t.from < s.nodes
  text_is : text ≡ decimal t.from ++ (space ∷ spelling t.command)
  is : IsCommand t.command

vote_of_spelled : (s : Counts) (kind : Kind) (text : List ℕ) (t : Take) → vote_of s kind text ≡ Some t →
    ReadVote s kind text t
unfolding vote_of
vote_of_spelled s kind text t e =
    option_and_then_some
    (λ (words : List ℕ × List ℕ). option_and_then (λ index. take_from s kind index words.1) (byte_number words.0))
    (split_word text) t e
    (λ words cut read.
    option_and_then_some (λ (index : ℕ). take_from s kind index words.1) (byte_number words.0) t read
    (λ index is_index read_take.
    let (said, from) = take_from_spelled s kind index words.1 t read_take in
    record {
      kind_is = said.kind_is;
      within = said.within;
      text_is = split_word-joined text words cut
          ∙ rw ((byte_spelled index words.0 is_index).0, said.text_is, ← from) refl;
      is = said.is;
    }))

Named : Counts → List ℕ → List ℕ → Take → Type 0
Named s name text t = (name ++ (space ∷ text) ≡ take_spelling t) × IsTake s t

named_send : (s : Counts) (name text : List ℕ) (t : Take) → bytes_eq name (codes "send") ≡ true
    → take_from s Send owner text ≡ Some t → Named s name text t
unfolding Named
named_send s name text t same e =
    let (said, from) = take_from_spelled s Send owner text t e in
    let is : name ≡ codes "send" = (bytes_eq-Decides name (codes "send")).0 same in
    let grouped : said_spelling Send t.from t.command ≡ codes "send" ++ (space ∷ spelling t.command) = refl in (
      rw (is, said.text_is) refl ∙ sym grouped ∙ ap (λ k. said_spelling k t.from t.command) (sym said.kind_is),
      ((said.within, λ _. from), said.is),
    )

named_vote : (s : Counts) (name text word : List ℕ) (kind : Kind) (t : Take) → kind ≢ Send
    → ((from : ℕ) (c : Command) → said_spelling kind from c ≡ word ++ (space ∷ (decimal from ++ (space ∷ spelling c))))
    → bytes_eq name word ≡ true → vote_of s kind text ≡ Some t → Named s name text t
unfolding Named
named_vote s name text word kind t other grouped same e =
    let said = vote_of_spelled s kind text t e in
    let is : name ≡ word = (bytes_eq-Decides name word).0 same in (
      rw (is, said.text_is) refl ∙ sym (grouped t.from t.command)
          ∙ ap (λ k. said_spelling k t.from t.command) (sym said.kind_is),
      ((said.within, λ sends. absurd (other (sym said.kind_is ∙ sends))), said.is),
    )

named_spelled : (s : Counts) (name text : List ℕ) (t : Take) → named_take s name text ≡ Some t → Named s name text t
unfolding named_take
named_spelled s name text t e =
    if_else _ _ _ t e (named_send s name text t)
    (λ votes. if_else _ _ _ t votes
    (named_vote s name text (codes "echo") Echo t (λ p. cc) (λ from c. simp append_assoc))
    (λ readies. if_else _ _ _ t readies
    (named_vote s name text (codes "ready") Ready t (λ p. cc) (λ from c. simp append_assoc))
    (λ none. absurd (none-some t none))))

pub take_of_line_spelled : TakesAreSpelled
unfolding take_of_line Named
take_of_line_spelled s line t e =
    option_and_then_some (λ (words : List ℕ × List ℕ). named_take s words.0 words.1) (split_word line) t e
    (λ words cut read.
    let named = named_spelled s words.0 words.1 t read in
    (split_word-joined line words cut ∙ named.0, named.1))
