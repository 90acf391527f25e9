use Rattle.std.proofs.Common.{◌==◌, refl, sym, ap, ◌∙◌}
use Rattle.role_node.proofs.NotingLemmas.{noted-Issue, noted-Client, noted-other}
use Rattle.role_node.proofs.noted.Noted.note.Goals as goal

pub returns-in-Issue : goal.returns-in-Issue
returns-in-Issue c roles history is state r =
    rw c.in-Issue.is (noted-Issue roles.sizes c.args.me history c.in-Issue.field-0 is)

pub returns-else-eq : goal.returns-else-eq
returns-else-eq c roles history is state r =
    let me = c.args.me in
    let other = ap (λ o. o == me) (sym c.owner.ensures) ∙ sym c.eq.ensures ∙ c.if-eq.false in
    rw c.in-Take.is (noted-other roles.sizes me history c.in-Take.packet other is)

pub returns-in-Client : goal.returns-in-Client
returns-in-Client c roles history is state r =
    rw c.in-Client.is (noted-Client roles.sizes c.args.me history c.in-Client.field-0 is refl refl)
