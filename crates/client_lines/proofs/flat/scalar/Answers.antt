use Rattle.std.proofs.Common.{◌≡◌, ◌∙◌, ◌∷◌, ◌⊎◌, inl, inr, Bool, List, Some, None, ap, refl}
use Rattle.json.specs.Token.{Token}
use Rattle.json.specs.declared.token.Token as tokens
use Rattle.json.specs.Json.{value}
use Rattle.json.specs.Reads.{token_of}
use Rattle.json.proofs.Grammar.{value_is}
use Rattle.serde_json.specs.Data.{Data, null, boolean, number, string, unsigned}
use Rattle.serde_json.specs.Read.{of_json, converted}
use Rattle.serde_json.specs.Find.{as_str, as_number}
use Rattle.client_lines.proofs.flat.scalar.Goals as goal

pub returns-in-String-clause-scalar : goal.returns-in-String-clause-scalar
returns-in-String-clause-scalar c =
    let is : c.args.reader.now ≡ Token.string c.in-String.text.now ∷ c.next.new.self =
    c.in_ok-text.ensures.value ∙ ap (λ t. token_of t ∷ c.next.new.self) c.in-String.is in
    (string c.in-String.text.now, ap (converted of_json) (ap (value 126) is ∙ value_is 126 _), refl)

pub returns-in_ok-whole_number-in-Number-clause-scalar : goal.returns-in_ok-whole_number-in-Number-clause-scalar
returns-in_ok-whole_number-in-Number-clause-scalar c =
    let is : c.args.reader.now ≡ Token.number c.in-Number.digits.now ∷ c.next.new.self =
    c.in_ok-text.ensures.value ∙ ap (λ t. token_of t ∷ c.next.new.self) c.in-Number.is in
    let n = c.in_ok-whole_number-in-Number in
    (number (unsigned n.field-0), ap (converted of_json) (ap (value 126) is ∙ value_is 126 _) ∙ rw n.ensures refl, refl)

neither : (all rest : List Token) (t : tokens.Token) → all ≡ token_of t ∷ rest
    → ((b : Bool) × (t ≡ tokens.TheVariants.Bool b)) ⊎ (t ≡ tokens.TheVariants.Null)
    → (d : Data) × (converted of_json (value 126 all) ≡ Some (d, rest)) × ((as_str d ≡ None) × (as_number d ≡ None))
neither all rest t is (inl b) = (
  boolean b.0,
  ap (converted of_json) (ap (value 126) (is ∙ ap (λ k. token_of k ∷ rest) b.1) ∙ value_is 126 _),
  (refl, refl),
)
neither all rest t is (inr n) = (
  null,
  ap (converted of_json) (ap (value 126) (is ∙ ap (λ k. token_of k ∷ rest) n) ∙ value_is 126 _),
  (refl, refl),
)

pub returns-in-Bool-clause-scalar : goal.returns-in-Bool-clause-scalar
returns-in-Bool-clause-scalar c = neither _ _ _ c.in_ok-text.ensures.value c.in-Bool.is
