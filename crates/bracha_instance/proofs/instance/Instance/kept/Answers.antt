use Rattle.std.proofs.Common.{sym, ap, ◌∙◌, arith}
use Rattle.bracha_instance.specs.States.{State}
use Rattle.bracha_instance.proofs.KeptInstances.{kept_supported, kept_few}
use Rattle.bracha_instance.proofs.instance.Instance.kept.Goals as goal

pub returns-clause-supported : goal.returns-clause-supported
returns-clause-supported c = λ s takes is none.
    kept_supported s takes c.self.inside c.len.result c.len.ensures.commands (c.self.view_is ∙ is)
    (ap (λ (st : State). st.delivered) c.self.view_is ∙ none)
    (sym c.len.ensures.len)

pub returns-clause-most : goal.returns-clause-most
returns-clause-most c = λ s takes is below.
    let few = kept_few s takes c.self.inside c.self.invariant.few (c.self.view_is ∙ is) below in omega arith
