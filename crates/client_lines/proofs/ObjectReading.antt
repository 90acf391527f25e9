-- An object's members, read one after another, and the whole text.
use Rattle.std.proofs.Common.{◌≡◌, ◌∙◌, ℕ, ◌-◌, ◌<◌, ◌≤◌, List, [], ◌∷◌, length, Option, Some, None, refl, ap}
use Rattle.std.proofs.Common.{option_map, option_and_then, Result, Ok, Err, MatchResult, Bor, arith}
use Rattle.std.specs.Result.{result_ok}
use Rattle.json.specs.Token.{Token}
use Rattle.json.specs.Json as json
use Rattle.json.specs.Json.{Parse, parse_map, read_key, members, if_last, value}
use Rattle.json.specs.Lex.{tokens}
use Rattle.json.proofs.Grammar.{left, members_end, members_more, value-begin_object, skip_value-shorter}
use Rattle.serde_json.specs.Data.{Data, object, Members, no_members, put}
use Rattle.serde_json.specs.Read.{of_json, of_members, converted, read}

abbrev pick : {A : Type 0} → A → Option A → A
pick d None = d
pick d (Some a) = a

found : {A B : Type 0} (a : A) (r s : List Token) (x : Option B) (b : B)
    → option_map {U = B × List Token} (λ y. (y, r)) x ≡ Some (b, s) → (r ≡ s) × (x ≡ Some b)
found a r s None b e = absurd (cc)
found a r s (Some y) b e = let same = ap (pick (y, r)) e in (ap (λ p. p.1) same, ap (λ p. Some p.0) same)

converted_some : {A B : Type 0} (f : A → Option B) (o : Option (A × List Token)) (b : B) (r : List Token)
    → converted f o ≡ Some (b, r) → (a : A) × (o ≡ Some (a, r)) × (f a ≡ Some b)
converted_some f None b r e = absurd (cc)
converted_some f (Some p) b r e =
    let both = found p.0 p.1 r (f p.0) b e in (p.0, ap (λ s. Some (p.0, s)) both.0, both.1)

-- a value that was read takes at least one token
pub value_shorter : (ts r : List Token) (d : Data) → converted of_json (value 126 ts) ≡ Some (d, r)
    → length r < length ts
value_shorter ts r d e =
    let j = converted_some of_json (value 126 ts) d r e in skip_value-shorter 126 ts r (ap left j.1)

with_member : (k : List ℕ) (j : json.Json) (d : Data) (old : Members) → of_json j ≡ Some d
    → (o : Option (json.Members × List Token)) → converted (λ ms. of_members ms old) (parse_map (json.member k j) o)
    ≡ converted (λ ms. of_members ms (put k d old)) o
with_member k j d old e None = refl
with_member k j d old e (Some p) = rw e

-- one member more is read
pub member_read : (p : Parse json.Json) (old : Members) (n : ℕ) (k : List ℕ) (ts s r : List Token) (d : Data) → 0 < n
    → read_key ts ≡ Some (Some k, s) → converted of_json (p s) ≡ Some (d, r)
    → converted (λ ms. of_members ms old) (members p n ts)
    ≡ converted (λ ms. of_members ms (put k d old)) (members p (n - 1) r)
member_read p old n k ts s r d some key e =
    let j = converted_some of_json (p s) d r e in
    ap (converted (λ ms. of_members ms old)) (members_more p n k ts s r j.0 some key j.1)
    ∙ with_member k j.0 d old j.2 _

-- the object ends
pub members_over : (p : Parse json.Json) (old : Members) (n : ℕ) (ts r : List Token) → length ts ≤ n
    → read_key ts ≡ Some (None, r) → converted (λ ms. of_members ms old) (members p n ts) ≡ Some (old, r)
members_over p old n ts r enough e = ap (converted (λ ms. of_members ms old)) (members_end p n ts r enough e)

-- one member more is read of all, and what follows is passed
pub read_on : (all : Option (Members × List Token)) (old : Members) (n : ℕ) (k : List ℕ) (ts s r next : List Token)
    (d : Data) → all ≡ converted (λ ms. of_members ms old) (members (value 126) n ts) → 0 < n
    → read_key ts ≡ Some (Some k, s) → converted of_json (value 126 s) ≡ Some (d, r) → r ≡ next
    → all ≡ converted (λ ms. of_members ms (put k d old)) (members (value 126) (n - 1) next)
read_on all old n k ts s r next d before some key e passed =
    before ∙ member_read (value 126) old n k ts s r d some key e
    ∙ ap (λ t. converted (λ ms. of_members ms (put k d old)) (members (value 126) (n - 1) t)) passed

-- the last member of all is read
pub read_last : (all : Option (Members × List Token)) (old : Members) (n : ℕ) (k : List ℕ) (ts s r next : List Token)
    (d : Data) → all ≡ converted (λ ms. of_members ms old) (members (value 126) n ts) → length ts ≤ n
    → length s < length ts → length r < length s → read_key ts ≡ Some (Some k, s)
    → converted of_json (value 126 s) ≡ Some (d, r) → read_key r ≡ Some (None, next)
    → all ≡ Some (put k d old, next)
read_last all old n k ts s r next d before enough less shorter key e over =
    read_on all old n k ts s r r d before (omega arith) key e refl
    ∙ members_over (value 126) (put k d old) (n - 1) r next (omega arith) over

-- a key was read, or the end
pub key_found : {E : Type 0} (r : Result (Option (Bor (List ℕ))) E) (key : Option (Bor (List ℕ))) (old new : List Token)
    → MatchResult r (λ k. read_key old ≡ Some (option_map (λ s. s.now) k, new)) (λ _. read_key old ≡ None)
    → result_ok r ≡ Some key → read_key old ≡ Some (option_map (λ s. s.now) key, new)
key_found (Ok k) key old new h e = h ∙ ap (λ o. Some (option_map (λ s. s.now) (pick k o), new)) e
key_found (Err x) key old new h e = absurd (cc)

twice : {A B : Type 0} (g : A → B) (r : List Token) (x : Option A)
    → option_map (λ b. (b, r)) (option_map g x) ≡ parse_map g (option_map (λ a. (a, r)) x)
twice g r None = refl
twice g r (Some a) = refl

converted-object : (o : Option (json.Members × List Token)) → converted of_json (parse_map json.object o)
    ≡ parse_map object (converted (λ ms. of_members ms no_members) o)
converted-object None = refl
converted-object (Some p) = twice object p.1 (of_members p.0 no_members)

-- an object is its members, behind its brace
pub object_read : (all ts r : List Token) (ms : Members) → all ≡ Token.begin_object ∷ ts
    → converted (λ read. of_members read no_members) (members (value 126) (length ts) ts) ≡ Some (ms, r)
    → converted of_json (value 127 all) ≡ Some (object ms, r)
object_read all ts r ms is e =
    ap (converted of_json) (ap (value 127) is ∙ value-begin_object 127 ts (omega arith))
    ∙ converted-object (members (value 126) (length ts) ts)
    ∙ ap (parse_map object) e

abbrev whole : Option (json.Json × List Token) → Option Data
whole o = option_and_then of_json (option_and_then (λ p. if_last p.0 p.1) o)

-- a text is the value behind which nothing stands
pub whole_read : (text : List ℕ) (d : Data) → converted of_json (value 127 (tokens text)) ≡ Some (d, [])
    → read text ≡ Some d
whole_read text d e = let j = converted_some of_json (value 127 (tokens text)) d [] e in ap whole j.1 ∙ j.2
