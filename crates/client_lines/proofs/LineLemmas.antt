-- What a line says with one member more.
use Rattle.std.proofs.Common.{◌≡◌, ◌∙◌, ℕ, Bool, true, false, if◌then◌else◌, List, refl, sym, ap, bytes_eq, true≢false}
use Rattle.std.proofs.Common.{Option, Some, option_map, option_and_then}
use Rattle.std.proofs.lemmas.Slice.Eq.{bytes_eq-Decides}
use Rattle.serde_json.specs.Data.{Data, Members, object, put}
use Rattle.serde_json.specs.Find.{as_str}
use Rattle.serde_json.proofs.Views.{get_member-put, get_member-put_other}
use Rattle.client_lines.specs.Members.{member_name, member_of, member_number, number_in}
use Rattle.client_lines.specs.inside.Says.{Says, most_number}
use Rattle.client_lines.specs.declared.line.Line.{Line}
use Rattle.client_lines.specs.declared.member.Member.{Member}
use Rattle.client_lines.specs.declared.member.Member.TheVariants.{Op, User, Role, Operation, Object, Session, Owner}
use Rattle.client_lines.specs.declared.member.Member.TheVariants.{Place}

-- what is kept of one member, where a value was put under a name
abbrev pub replaced : {A : Type 0} → Member → List ℕ → A → A → A
replaced m name new old = if bytes_eq (member_name m) name then new else old

member_at : (m : Member) (name : List ℕ) (d : Data) (ms : Members) (b : Bool) → bytes_eq (member_name m) name ≡ b
    → member_of m (object (put name d ms)) ≡ (if b then Some d else member_of m (object ms))
member_at m name d ms true e =
    rw (← (bytes_eq-Decides (member_name m) name).0 e) (get_member-put (member_name m) d ms)
member_at m name d ms false e = get_member-put_other (member_name m) name d ms
    (λ same. absurd (true≢false (sym ((bytes_eq-Decides (member_name m) name).1 same) ∙ e)))

taken : {A : Type 0} (f : Option Data → A) (x y : Option Data) (b : Bool)
    → f (if b then x else y) ≡ (if b then f x else f y)
taken f x y true = refl
taken f x y false = refl

member_put : {A : Type 0} (f : Option Data → A) (m : Member) (name : List ℕ) (d : Data) (ms : Members)
    → replaced m name (f (Some d)) (f (member_of m (object ms))) ≡ f (member_of m (object (put name d ms)))
member_put f m name d ms =
    sym (ap f (member_at m name d ms (bytes_eq (member_name m) name) refl)
    ∙ taken f (Some d) (member_of m (object ms)) (bytes_eq (member_name m) name))

module _ (old new : Line) (d : Data) (ms : Members) (name : List ℕ) where
  field : {A : Type 0} (f : Option Data → A) (m : Member) (before after : A)
      → after ≡ replaced m name (f (Some d)) before → before ≡ f (member_of m (object ms))
      → after ≡ f (member_of m (object (put name d ms)))
  field f m before after is was =
      is ∙ ap (λ x. replaced m name (f (Some d)) x) was ∙ member_put f m name d ms

  pub says_put : Says old (object ms)
      → (option_map (λ s. s.now) new.op ≡ replaced Op name (as_str d) (option_map (λ s. s.now) old.op))
      → (new.user ≡ replaced User name (number_in most_number (Some d)) old.user)
      → (new.role ≡ replaced Role name (number_in most_number (Some d)) old.role)
      → (new.operation ≡ replaced Operation name (number_in most_number (Some d)) old.operation)
      → (new.object ≡ replaced Object name (number_in most_number (Some d)) old.object)
      → (new.session ≡ replaced Session name (number_in most_number (Some d)) old.session)
      → (new.owner ≡ replaced Owner name (number_in most_number (Some d)) old.owner)
      → (new.place ≡ replaced Place name (number_in most_number (Some d)) old.place)
      → Says new (object (put name d ms))
  unfolding member_number
  says_put before op user role operation obj session owner place = record {
    op = field (option_and_then as_str) Op _ _ op before.op;
    user = field (number_in most_number) User _ _ user before.user;
    role = field (number_in most_number) Role _ _ role before.role;
    operation = field (number_in most_number) Operation _ _ operation before.operation;
    object = field (number_in most_number) Object _ _ obj before.object;
    session = field (number_in most_number) Session _ _ session before.session;
    owner = field (number_in most_number) Owner _ _ owner before.owner;
    place = field (number_in most_number) Place _ _ place before.place;
  }

kept : {A : Type 0} (m : Member) (name : List ℕ) (new old : A) (b : Bool) → bytes_eq (member_name m) name ≡ b
    → (name ≡ member_name m → ⊥) → old ≡ (if b then new else old)
kept m name new old true e other = absurd (other (sym ((bytes_eq-Decides (member_name m) name).0 e)))
kept m name new old false e other = refl

-- a member that no operation has changes nothing
pub says_kept : (line : Line) (d : Data) (ms : Members) (name : List ℕ) → Says line (object ms)
    → (name ≡ member_name Op → ⊥) → (name ≡ member_name User → ⊥) → (name ≡ member_name Role → ⊥)
    → (name ≡ member_name Operation → ⊥) → (name ≡ member_name Object → ⊥) → (name ≡ member_name Session → ⊥)
    → (name ≡ member_name Owner → ⊥) → (name ≡ member_name Place → ⊥) → Says line (object (put name d ms))
says_kept line d ms name before op user role operation obj session owner place =
    says_put line line d ms name before
    (kept Op name _ _ _ refl op) (kept User name _ _ _ refl user) (kept Role name _ _ _ refl role)
    (kept Operation name _ _ _ refl operation) (kept Object name _ _ _ refl obj)
    (kept Session name _ _ _ refl session) (kept Owner name _ _ _ refl owner) (kept Place name _ _ _ refl place)
