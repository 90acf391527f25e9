use Rattle.std.proofs.Common.{◌≡◌, refl, codes, rules}
use Rattle.client_lines.proofs.LineLemmas.{says_put, says_kept}
use Rattle.client_lines.proofs.line.Line.put.Goals as goal

pub returns-in-op : goal.returns-in-op
returns-in-op c ms d is before =
    let old = c.args.self.now in
    rw c.in-op.is
    (says_put old _ d ms (codes "op") before
    (c.text-self.ensures d is) refl refl refl refl refl refl refl)

pub returns-in-user : goal.returns-in-user
returns-in-user c ms d is before =
    let old = c.args.self.now in
    rw c.in-user.is
    (says_put old _ d ms (codes "user") before
    refl (c.number-self.ensures d is) refl refl refl refl refl refl)

pub returns-in-role : goal.returns-in-role
returns-in-role c ms d is before =
    let old = c.args.self.now in
    rw c.in-role.is
    (says_put old _ d ms (codes "role") before
    refl refl (c.number-self-in-role.ensures d is) refl refl refl refl refl)

pub returns-in-operation : goal.returns-in-operation
returns-in-operation c ms d is before =
    let old = c.args.self.now in
    rw c.in-operation.is
    (says_put old _ d ms (codes "operation") before
    refl refl refl (c.number-self-in-operation.ensures d is) refl refl refl refl)

pub returns-in-object : goal.returns-in-object
returns-in-object c ms d is before =
    let old = c.args.self.now in
    rw c.in-object.is
    (says_put old _ d ms (codes "object") before
    refl refl refl refl (c.number-self-in-object.ensures d is) refl refl refl)

pub returns-in-session : goal.returns-in-session
returns-in-session c ms d is before =
    let old = c.args.self.now in
    rw c.in-session.is
    (says_put old _ d ms (codes "session") before
    refl refl refl refl refl (c.number-self-in-session.ensures d is) refl refl)

pub returns-in-owner : goal.returns-in-owner
returns-in-owner c ms d is before =
    let old = c.args.self.now in
    rw c.in-owner.is
    (says_put old _ d ms (codes "owner") before
    refl refl refl refl refl refl (c.number-self-in-owner.ensures d is) refl)

pub returns-in-place : goal.returns-in-place
returns-in-place c ms d is before =
    let old = c.args.self.now in
    rw c.in-place.is
    (says_put old _ d ms (codes "place") before
    refl refl refl refl refl refl refl (c.number-self-in-place.ensures d is))

pub returns-else-str_eq-8 : goal.returns-else-str_eq-8
returns-else-str_eq-8 c ms d is before =
    let name = c.args.name.now in
    let op : name ≡ codes "op" → ⊥ = search rules in
    let user : name ≡ codes "user" → ⊥ = search rules in
    let role : name ≡ codes "role" → ⊥ = search rules in
    let operation : name ≡ codes "operation" → ⊥ = search rules in
    let obj : name ≡ codes "object" → ⊥ = search rules in
    let session : name ≡ codes "session" → ⊥ = search rules in
    let owner : name ≡ codes "owner" → ⊥ = search rules in
    let place : name ≡ codes "place" → ⊥ = search rules in
    says_kept _ d ms name before op user role operation obj session owner place
