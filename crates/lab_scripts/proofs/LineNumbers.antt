-- The numbers of a line, one by one.
use Rattle.std.proofs.Common.{◌≡◌, ℕ, ◌-◌, ◌<◌, ◌≤◌, ◌^◌, List, ◌∷◌, ◌++◌, codes}
use Rattle.std.proofs.Common.{Some, refl, sym, ap, ◌∙◌, arith, subst, append_assoc}
use Rattle.std.proofs.lemmas.Option.{option_and_then_some}
use Rattle.std.specs.Fmt.{decimal}
use Rattle.role_commands.specs.Numbers.{number_of, narrow_number, wide_number, long_number}
use Rattle.role_commands.proofs.Exported.{number_of_spelled, narrow_read, wide_read, long_read}
use Rattle.role_commands.proofs.Exported.{narrow_spelled, wide_spelled, mapped, Ascii, number, ◌then◌}
use Rattle.role_commands.proofs.Exported.{space_text}
use Rattle.role_node.specs.declared.question.Question.{Question}
use Rattle.role_node.specs.declared.question.Question.TheVariants.{Check, RoleOperations, UserOperations}
use Rattle.role_commands.specs.Numbers.{space}
use Rattle.lab_scripts.specs.Orders.{then_rest, session_and_user, session_user_and_role}
use Rattle.lab_scripts.specs.Orders.{access_of, role_operations_of, user_operations_of}
use Rattle.lab_scripts.specs.OrderSpellings.{at_node, two_numbers, three_numbers}
use Rattle.lab_scripts.proofs.LineNames.{then_rest-decimal, then_rest_is}

-- where the spaces stand

pub two_numbers-grouped : (a b : ℕ) → two_numbers a b ≡ decimal a ++ (space ∷ decimal b)
two_numbers-grouped a b = simp append_assoc

pub three_numbers-grouped : (a b c : ℕ)
    → three_numbers a b c ≡ decimal a ++ (space ∷ (decimal b ++ (space ∷ decimal c)))
three_numbers-grouped a b c = simp append_assoc

pub four_numbers-grouped : (a b c d : ℕ)
    → decimal a ++ codes " " ++ three_numbers b c d ≡ decimal a
    ++ (space ∷ (decimal b ++ (space ∷ (decimal c ++ (space ∷ decimal d)))))
four_numbers-grouped a b c d = simp append_assoc

pub at_node-grouped : (name : List ℕ) (node : ℕ) (text : List ℕ)
    → at_node name node text ≡ name ++ (space ∷ (decimal node ++ (space ∷ text)))
at_node-grouped name node text = simp append_assoc

-- reading what was written

session_rest : (n : ℕ) (rest : List ℕ) → n < 2 ^ 64
    → then_rest long_number (decimal n ++ (space ∷ rest)) ≡ Some (n, rest)
session_rest n rest small = then_rest-decimal long_number n n rest small (long_read n small)

pub wide_rest : (n : ℕ) (rest : List ℕ) → n < 2 ^ 32
    → then_rest wide_number (decimal n ++ (space ∷ rest)) ≡ Some (n, rest)
wide_rest n rest small = then_rest-decimal wide_number n n rest (omega arith) (wide_read n small)

pub narrow_rest : (n : ℕ) (rest : List ℕ) → n < 2 ^ 16 → then_rest narrow_number (decimal n ++ (space ∷ rest))
    ≡ Some (n, rest)
narrow_rest n rest small = then_rest-decimal narrow_number n n rest (omega arith) (narrow_read n small)

pub session_and_user-numbers : (session user : ℕ) → session < 2 ^ 64 → user < 2 ^ 32
    → session_and_user (two_numbers session user) ≡ Some (session, user)
unfolding session_and_user
session_and_user-numbers session user long wide =
    ap session_and_user (two_numbers-grouped session user)
    ∙ rw (session_rest session (decimal user) long) (rw (wide_read user wide) refl)

pub session_user_and_role-numbers : (session user role : ℕ) → session < 2 ^ 64 → user < 2 ^ 32 → role < 2 ^ 16
    → session_user_and_role (three_numbers session user role) ≡ Some (session, user, role)
unfolding session_user_and_role
session_user_and_role-numbers session user role long wide narrow =
    ap session_user_and_role (three_numbers-grouped session user role)
    ∙ rw (session_rest session (decimal user ++ (space ∷ decimal role)) long)
    (rw (wide_rest user (decimal role) wide) (rw (narrow_read role narrow) refl))

pub access_of-numbers : (session user operation object : ℕ)
    → session < 2 ^ 64 → user < 2 ^ 32 → operation < 2 ^ 16 → object < 2 ^ 32
    → access_of (decimal session ++ codes " " ++ three_numbers user operation object)
    ≡ Some (Check session user operation object)
unfolding access_of
access_of-numbers session user operation object long wide narrow fits =
    ap access_of (four_numbers-grouped session user operation object)
    ∙ rw (session_rest session (decimal user ++ (space ∷ (decimal operation ++ (space ∷ decimal object)))) long)
    (rw (wide_rest user (decimal operation ++ (space ∷ decimal object)) wide)
    (rw (narrow_rest operation (decimal object) narrow) (rw (wide_read object fits) refl)))

pub role_operations_of-numbers : (role object : ℕ) → role < 2 ^ 16 → object < 2 ^ 32
    → role_operations_of (two_numbers role object) ≡ Some (RoleOperations role object)
unfolding role_operations_of
role_operations_of-numbers role object narrow wide =
    ap role_operations_of (two_numbers-grouped role object)
    ∙ rw (narrow_rest role (decimal object) narrow) (rw (wide_read object wide) refl)

pub user_operations_of-numbers : (user object : ℕ) → user < 2 ^ 32 → object < 2 ^ 32
    → user_operations_of (two_numbers user object) ≡ Some (UserOperations user object)
unfolding user_operations_of
user_operations_of-numbers user object wide fits =
    ap user_operations_of (two_numbers-grouped user object)
    ∙ rw (wide_rest user (decimal object) wide) (rw (wide_read object fits) refl)

-- writing what was read

pub then_rest_spelled : (most : ℕ) (text : List ℕ) (p : ℕ × List ℕ) → then_rest (number_of most) text ≡ Some p
    → (text ≡ decimal p.0 ++ (space ∷ p.1)) × (p.0 ≤ most)
then_rest_spelled most text p e =
    let (word, cut, is) = then_rest_is (number_of most) text p e in
    let (word_is, small) = number_of_spelled most p.0 word is in
    (cut ∙ ap (λ (w : List ℕ). w ++ (space ∷ p.1)) word_is, small)

-- a number with what stands behind its space

session_rest_spelled : (text : List ℕ) (p : ℕ × List ℕ) → then_rest long_number text ≡ Some p
    → (text ≡ decimal p.0 ++ (space ∷ p.1)) × (p.0 < 2 ^ 64)
session_rest_spelled text p e = let s = then_rest_spelled (2 ^ 64 - 1) text p e in (s.0, omega arith)

pub wide_rest_spelled : (text : List ℕ) (p : ℕ × List ℕ) → then_rest wide_number text ≡ Some p
    → (text ≡ decimal p.0 ++ (space ∷ p.1)) × (p.0 < 2 ^ 32)
wide_rest_spelled text p e = let s = then_rest_spelled (2 ^ 32 - 1) text p e in (s.0, omega arith)

pub narrow_rest_spelled : (text : List ℕ) (p : ℕ × List ℕ) → then_rest narrow_number text ≡ Some p
    → (text ≡ decimal p.0 ++ (space ∷ p.1)) × (p.0 < 2 ^ 16)
narrow_rest_spelled text p e = let s = then_rest_spelled (2 ^ 16 - 1) text p e in (s.0, omega arith)

-- a number, a space and what is written behind it
pub joined : (text : List ℕ) (a : ℕ) (rest tail : List ℕ) → text ≡ decimal a ++ (space ∷ rest) → rest ≡ tail
    → text ≡ decimal a ++ codes " " ++ tail
joined text a rest tail cut same =
    let grouped : decimal a ++ codes " " ++ tail ≡ decimal a ++ (space ∷ tail) = simp append_assoc in
    cut ∙ ap (λ (w : List ℕ). decimal a ++ (space ∷ w)) same ∙ sym grouped

pub session_and_user_spelled : (text : List ℕ) (n : ℕ × ℕ) → session_and_user text ≡ Some n
    → (text ≡ two_numbers n.0 n.1) × (n.0 < 2 ^ 64) × (n.1 < 2 ^ 32)
unfolding session_and_user
session_and_user_spelled text n e =
    option_and_then_some _ _ _ e
    (λ session is_session read.
    let (cut, long) = session_rest_spelled text session is_session in
    let (user, is_user, made) = mapped _ _ _ read in
    let (last, wide) = wide_spelled user session.1 is_user in
    subst (λ (q : ℕ × ℕ). (text ≡ two_numbers q.0 q.1) × (q.0 < 2 ^ 64) × (q.1 < 2 ^ 32)) made
    (joined text session.0 session.1 (decimal user) cut last, long, wide))

pub session_user_and_role_spelled : (text : List ℕ) (n : ℕ × ℕ × ℕ) → session_user_and_role text ≡ Some n
    → (text ≡ three_numbers n.0 n.1 n.2) × (n.0 < 2 ^ 64) × (n.1 < 2 ^ 32) × (n.2 < 2 ^ 16)
unfolding session_user_and_role
session_user_and_role_spelled text n e =
    option_and_then_some _ _ _ e
    (λ session is_session read_user.
    option_and_then_some _ _ _ read_user
    (λ user is_user read.
    let (cut, long) = session_rest_spelled text session is_session in
    let (cut_user, wide) = wide_rest_spelled session.1 user is_user in
    let (role, is_role, made) = mapped _ _ _ read in
    let (last, narrow) = narrow_spelled role user.1 is_role in
    let behind = joined session.1 user.0 user.1 (decimal role) cut_user last in
    subst (λ (q : ℕ × ℕ × ℕ). (text ≡ three_numbers q.0 q.1 q.2) × (q.0 < 2 ^ 64) × (q.1 < 2 ^ 32) × (q.2 < 2 ^ 16))
    made
    (joined text session.0 session.1 (two_numbers user.0 role) cut behind, long, wide, narrow)))

-- what was read of `S USER OPERATION OBJECT`
pub record ReadAccess (text : List ℕ) (q : Question) : Type 0 where
  pub session : ℕ
  pub user : ℕ
  pub operation : ℕ
  pub object : ℕ
  pub is : Check session user operation object ≡ q
  pub text_is : text ≡ decimal session ++ codes " " ++ three_numbers user operation object
  pub fits : (session < 2 ^ 64) × (user < 2 ^ 32) × (operation < 2 ^ 16) × (object < 2 ^ 32)

pub access_of_spelled : (text : List ℕ) (q : Question) → access_of text ≡ Some q → ReadAccess text q
unfolding access_of
access_of_spelled text q e =
    option_and_then_some _ _ _ e
    (λ session is_session read_user.
    option_and_then_some _ _ _ read_user
    (λ user is_user read_operation.
    option_and_then_some _ _ _ read_operation
    (λ operation is_operation read.
    let (cut, long) = session_rest_spelled text session is_session in
    let (cut_user, wide) = wide_rest_spelled session.1 user is_user in
    let (cut_operation, narrow) = narrow_rest_spelled user.1 operation is_operation in
    let (object, is_object, made) = mapped _ _ _ read in
    let (last, fits) = wide_spelled object operation.1 is_object in
    let behind_user = joined user.1 operation.0 operation.1 (decimal object) cut_operation last in
    let behind = joined session.1 user.0 user.1 (two_numbers operation.0 object) cut_user behind_user in
    record {
      session = session.0;
      user = user.0;
      operation = operation.0;
      object = object;
      is = made;
      text_is = joined text session.0 session.1 (three_numbers user.0 operation.0 object) cut behind;
      fits = (long, wide, narrow, fits);
    })))

-- what was read of two numbers that a question is about
pub record ReadPair (make : ℕ → ℕ → Question) (bits : ℕ) (text : List ℕ) (q : Question) : Type 0 where
  pub first : ℕ
  pub object : ℕ
  pub is : make first object ≡ q
  pub text_is : text ≡ two_numbers first object
  pub fits : (first < 2 ^ bits) × (object < 2 ^ 32)

pub role_operations_of_spelled : (text : List ℕ) (q : Question) → role_operations_of text ≡ Some q
    → ReadPair RoleOperations 16 text q
unfolding role_operations_of
role_operations_of_spelled text q e =
    option_and_then_some _ _ _ e
    (λ role is_role read.
    let (cut, narrow) = narrow_rest_spelled text role is_role in
    let (object, is_object, made) = mapped _ _ _ read in
    let (last, wide) = wide_spelled object role.1 is_object in
    let text_is = joined text role.0 role.1 (decimal object) cut last in
    record { first = role.0; object = object; is = made; text_is = text_is; fits = (narrow, wide) })

pub user_operations_of_spelled : (text : List ℕ) (q : Question) → user_operations_of text ≡ Some q
    → ReadPair UserOperations 32 text q
unfolding user_operations_of
user_operations_of_spelled text q e =
    option_and_then_some _ _ _ e
    (λ user is_user read.
    let (cut, wide) = wide_rest_spelled text user is_user in
    let (object, is_object, made) = mapped _ _ _ read in
    let (last, fits) = wide_spelled object user.1 is_object in
    let text_is = joined text user.0 user.1 (decimal object) cut last in
    record { first = user.0; object = object; is = made; text_is = text_is; fits = (wide, fits) })

-- words and numbers are text

pub two_text : (a b : ℕ) → a < 2 ^ 64 → b < 2 ^ 64 → Ascii (two_numbers a b)
two_text a b p q = number a p then space_text then number b q

pub three_text : (a b c : ℕ) → a < 2 ^ 64 → b < 2 ^ 64 → c < 2 ^ 64 → Ascii (three_numbers a b c)
three_text a b c p q r = number a p then space_text then two_text b c q r
