use Rattle.std.proofs.Common.{ap, ◌∙◌}
use Rattle.bracha_instance.specs.inside.Instances.{record_state}
use Rattle.bracha_instance.specs.inside.Next.{after_kind}
use Rattle.bracha_instance.proofs.KeptInstances.{record_noted}
use Rattle.bracha_instance.proofs.record.Record.count.Goals as goal

pub returns-clause-state : goal.returns-clause-state
returns-clause-state c = λ s.
    ap (λ f. record_state (record c.self.inside { first_votes = f })) c.note.ensures.votes
    ∙ record_noted s c.self.inside c.args.kind c.args.from c.args.command
    ∙ ap (λ st. after_kind s st c.args.kind c.args.from c.args.command) c.self.view_is
