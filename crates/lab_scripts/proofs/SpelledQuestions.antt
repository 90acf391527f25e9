-- What is asked at a node has one spelling.
use Rattle.std.proofs.Common.{◌≡◌, ℕ}
use Rattle.std.proofs.Common.{◌<◌, List, ◌∷◌, ◌++◌, length, codes, Option, Some, sym}
use Rattle.std.proofs.Common.{refl, ap, arith, ◌∙◌, subst}
use Rattle.std.proofs.lemmas.Option.{option_and_then_some, none-some}
use Rattle.std.specs.Fmt.{decimal}
use Rattle.std.specs.List.{position_or_len}
use Rattle.quorum_sizes.specs.Sizes.{Counts, AreSizes}
use Rattle.role_commands.specs.Numbers.{is_space}
use Rattle.role_commands.proofs.Exported.{split_word-word, split_word-joined, wide_read, long_read, narrow_read}
use Rattle.role_commands.proofs.Exported.{wide_spelled, narrow_spelled, long_spelled, mapped, by_name}
use Rattle.role_commands.proofs.Exported.{by_name_made}
use Rattle.role_commands.specs.Numbers.{space}
use Rattle.role_node.specs.declared.question.Question.{Question}
use Rattle.role_node.specs.declared.question.Question.TheVariants.{Check, AssignedUsers, AssignedRoles}
use Rattle.role_node.specs.declared.question.Question.TheVariants.{RolePermissions, UserPermissions, RoleOperations}
use Rattle.role_node.specs.declared.question.Question.TheVariants.{UserOperations, SessionRoles, SessionPermissions}
use Rattle.lab_scripts.specs.Orders.{node_number, access_of}
use Rattle.lab_scripts.specs.Orders.{role_operations_of, user_operations_of, named_listing, listing_of}
use Rattle.lab_scripts.specs.Orders.{agreement_of, order_at_node, order_of_line}
use Rattle.lab_scripts.specs.OrderSpellings.{at_node, two_numbers, three_numbers}
use Rattle.lab_scripts.specs.OrderSpellings.{question_spelling}
use Rattle.lab_scripts.specs.OrderSpellings.{IsQuestion}
use Rattle.lab_scripts.specs.declared.orders.ScriptLine.{ScriptLine}
use Rattle.lab_scripts.specs.declared.orders.ScriptLine.TheVariants.{Ask, Reach, Agree}
use Rattle.lab_scripts.proofs.LineNames.{node_read, node_spelled, node_rest_spelled}
use Rattle.lab_scripts.proofs.LineNames.{then_rest-decimal}
use Rattle.lab_scripts.proofs.LineNumbers.{two_numbers-grouped, joined}
use Rattle.lab_scripts.proofs.LineNumbers.{access_of-numbers, role_operations_of-numbers, user_operations_of-numbers}
use Rattle.lab_scripts.proofs.LineNumbers.{access_of_spelled, role_operations_of_spelled, user_operations_of_spelled}
use Rattle.lab_scripts.proofs.NodeLines.{Said, order_of_line-named}

module _ (s : Counts) (are : AreSizes s) (node : ℕ) (within : node < s.nodes) where
  listing_read : (name text : List ℕ) (q : Question) → position_or_len is_space name ≡ length name
      → named_listing name text ≡ Some q → order_of_line s (at_node (codes "list") node (name ++ (space ∷ text)))
      ≡ Some (Ask node q)
  unfolding order_at_node listing_of
  listing_read name text q plain is =
      order_of_line-named s are node within (codes "list") (name ++ (space ∷ text)) refl refl refl refl
      ∙ rw (split_word-word name text plain) (rw is refl)

  pub question_read : (q : Question) → IsQuestion q → order_of_line s (question_spelling node q) ≡ Some (Ask node q)
  unfolding order_at_node named_listing
  question_read (Check session user operation object) is =
      let text = decimal session ++ codes " " ++ three_numbers user operation object in
      order_of_line-named s are node within (codes "check") text refl refl refl refl
      ∙ rw (access_of-numbers session user operation object is.0 is.1 is.2 is.3) refl
  question_read (AssignedUsers role) is =
      listing_read (codes "users") (decimal role) (AssignedUsers role) refl (rw (narrow_read role is) refl)
  question_read (AssignedRoles user) is =
      listing_read (codes "roles") (decimal user) (AssignedRoles user) refl (rw (wide_read user is) refl)
  question_read (RolePermissions role) is =
      listing_read (codes "permissions") (decimal role) (RolePermissions role) refl (rw (narrow_read role is) refl)
  question_read (UserPermissions user) is =
      listing_read (codes "user-permissions") (decimal user) (UserPermissions user) refl (rw (wide_read user is) refl)
  question_read (RoleOperations role object) is =
      let read = role_operations_of-numbers role object is.0 is.1 in
      listing_read (codes "operations") (two_numbers role object) (RoleOperations role object) refl read
  question_read (UserOperations user object) is =
      let read = user_operations_of-numbers user object is.0 is.1 in
      listing_read (codes "user-operations") (two_numbers user object) (UserOperations user object) refl read
  question_read (SessionRoles session) is =
      listing_read (codes "session-roles") (decimal session) (SessionRoles session) refl
      (rw (long_read session is) refl)
  question_read (SessionPermissions session) is =
      let read = long_read session is in
      listing_read (codes "session-permissions") (decimal session) (SessionPermissions session) refl (rw read refl)

  pub reach_read : (owner : ℕ) → owner < s.nodes → order_of_line s (at_node (codes "reach") node (decimal owner))
      ≡ Some (Reach node owner)
  unfolding order_at_node
  reach_read owner inside =
      order_of_line-named s are node within (codes "reach") (decimal owner) refl refl refl refl
      ∙ rw (node_read s owner are inside) refl

  pub agree_read : (other owner : ℕ) → other < s.nodes → owner < s.nodes
      → order_of_line s (at_node (codes "agree") node (two_numbers other owner)) ≡ Some (Agree node other owner)
  unfolding order_at_node agreement_of
  agree_read other owner other_in owner_in =
      order_of_line-named s are node within (codes "agree") (two_numbers other owner) refl refl refl refl
      ∙ ap (agreement_of s node) (two_numbers-grouped other owner)
      ∙ rw (then_rest-decimal (node_number s) other other (decimal owner) (omega (arith, are.0, other_in))
      (node_read s other are other_in))
      (rw (node_read s owner are owner_in) refl)

-- ---- writing what was read

module _ (s : Counts) (node : ℕ) (within : node < s.nodes) (text : List ℕ) where
  pub check_said : (q : Question) → access_of text ≡ Some q → Said s node (codes "check") text (Ask node q)
  check_said q e =
      let r = access_of_spelled text q e in
      subst (λ (p : Question). Said s node (codes "check") text (Ask node p)) r.is
      (record { text_is = ap (at_node (codes "check") node) r.text_is; is = (within, r.fits) })

  -- a listing is named behind its node
  Listed : List ℕ → Question → Type 0
  Listed name q = Said s node (codes "list") (name ++ (space ∷ text)) (Ask node q)

  listed : (name tail : List ℕ) (q : Question) → text ≡ tail
      → at_node (codes "list") node (name ++ (space ∷ tail)) ≡ question_spelling node q → IsQuestion q → Listed name q
  unfolding Listed
  listed name tail q behind spelled is = record {
    text_is = ap (λ (w : List ℕ). at_node (codes "list") node (name ++ (space ∷ w))) behind ∙ spelled;
    is = (within, is);
  }

  -- a listing of one number
  number_listed : {read : List ℕ → Option ℕ} {Fits : ℕ → Type 0} (name : List ℕ) (make : ℕ → Question)
      → ((n : ℕ) (word : List ℕ) → read word ≡ Some n → (word ≡ decimal n) × Fits n)
      → ((n : ℕ) → at_node (codes "list") node (name ++ (space ∷ decimal n)) ≡ question_spelling node (make n))
      → ((n : ℕ) → Fits n → IsQuestion (make n)) → (n : ℕ) → read text ≡ Some n → Listed name (make n)
  number_listed name make number spelled fits n e =
      let (is, small) = number n text e in listed name (decimal n) (make n) is (spelled n) (fits n small)

  role_operations_listed : (q : Question) → role_operations_of text ≡ Some q → Listed (codes "operations") q
  role_operations_listed q e =
      let r = role_operations_of_spelled text q e in
      let numbers = two_numbers r.first r.object in
      subst (Listed (codes "operations")) r.is
      (listed (codes "operations") numbers (RoleOperations r.first r.object) r.text_is refl r.fits)

  user_operations_listed : (q : Question) → user_operations_of text ≡ Some q → Listed (codes "user-operations") q
  user_operations_listed q e =
      let r = user_operations_of_spelled text q e in
      let numbers = two_numbers r.first r.object in
      subst (Listed (codes "user-operations")) r.is
      (listed (codes "user-operations") numbers (UserOperations r.first r.object) r.text_is refl r.fits)

  named_listing_said : (name : List ℕ) (q : Question) → named_listing name text ≡ Some q → Listed name q
  unfolding named_listing
  named_listing_said name q e =
      by_name_made Listed _ _ _ _ _ q e
      (number_listed (codes "users") AssignedUsers narrow_spelled (λ n. refl) (λ n h. h))
      (λ e1. by_name_made Listed _ _ _ _ _ q e1
      (number_listed (codes "roles") AssignedRoles wide_spelled (λ n. refl) (λ n h. h))
      (λ e2. by_name_made Listed _ _ _ _ _ q e2
      (number_listed (codes "permissions") RolePermissions narrow_spelled (λ n. refl) (λ n h. h))
      (λ e3. by_name_made Listed _ _ _ _ _ q e3
      (number_listed (codes "user-permissions") UserPermissions wide_spelled (λ n. refl) (λ n h. h))
      (λ e4. by_name Listed _ _ _ _ q e4
      (role_operations_listed q)
      (λ e5. by_name Listed _ _ _ _ q e5
      (user_operations_listed q)
      (λ e6. by_name_made Listed _ _ _ _ _ q e6
      (number_listed (codes "session-roles") SessionRoles long_spelled (λ n. refl) (λ n h. h))
      (λ e7. by_name_made Listed _ _ _ _ _ q e7
      (number_listed (codes "session-permissions") SessionPermissions long_spelled (λ n. refl) (λ n h. h))
      (λ none. absurd (none-some q none)))))))))

module _ (s : Counts) (node : ℕ) (within : node < s.nodes) (text : List ℕ) where
  pub list_said : (q : Question) → listing_of text ≡ Some q → Said s node (codes "list") text (Ask node q)
  unfolding listing_of Listed
  list_said q e =
      option_and_then_some _ _ _ e
      (λ words cut read.
      let joined = sym (split_word-joined text words cut) in
      subst (λ (w : List ℕ). Said s node (codes "list") w (Ask node q)) joined
      (named_listing_said s node within words.1 words.0 q read))

  pub reach_said : (owner : ℕ) → node_number s text ≡ Some owner → Said s node (codes "reach") text (Reach node owner)
  reach_said owner e =
      let (word, inside) = node_spelled s owner text e in
      record { text_is = ap (at_node (codes "reach") node) word; is = (within, inside) }

  pub agree_said : (order : ScriptLine) → agreement_of s node text ≡ Some order → Said s node (codes "agree") text order
  unfolding agreement_of
  agree_said order e =
      option_and_then_some _ _ _ e
      (λ other is_other read.
      let (owner, is_owner, made) = mapped _ _ _ read in
      let (cut, other_in) = node_rest_spelled s text other is_other in
      let (word, owner_in) = node_spelled s owner other.1 is_owner in
      subst (Said s node (codes "agree") text) made
      (record {
        text_is = ap (at_node (codes "agree") node) (joined text other.0 other.1 (decimal owner) cut word);
        is = (within, other_in, owner_in);
      }))
