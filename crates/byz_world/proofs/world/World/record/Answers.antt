use Rattle.std.proofs.Common.{[], ◌∷◌, ◌++◌, ap, ◌∙◌}
use Rattle.std.specs.Prelude.{option_map}
use Rattle.role_node.specs.Answers.{sent_by}
use Rattle.byz_world.specs.Pools.{listed}
use Rattle.byz_world.proofs.Recording.{IsRecorded, is_recorded_in}
use Rattle.byz_world.proofs.world.World.record.Goals as goal

recorded : (c : goal.After-note_sent) →
    IsRecorded c.self.inside.config c.self.inside.liars c.args.self.now c.args.name c.args.event.now
    c.in_ok-entry.entry.reply
    c.record_at.new.members.items c.note_name.new.order.items c.note_sent.new.sent.items
recorded c =
    let a = c.self.inside in
    is_recorded_in a.config a.liars a.members.items a.order.items a.sent.items c.args.self.now c.args.name
    c.args.event.now c.in_ok-entry.entry.reply
    c.record_at.new.members.items c.note_name.new.order.items c.note_sent.new.sent.items c.self.invariant.world
    c.self.view_is
    c.requires.may c.requires.counts (λ node here. c.in_ok-entry.ensures.reply node here)
    (λ node here. c.in_ok-entry.ensures.ok node here)
    (c.note_name.ensures ∙ ap (λ names. names ++ c.args.name ∷ []) c.try_reserve.ensures.items)
    (c.note_sent.ensures
    ∙ (λ i. c.try_reserve-2.ensures.items i
    ++ listed (option_map (λ m. (c.args.name, m)) ((c.message.ensures ∙ ap sent_by c.reply.ensures) i))))

pub invariant_of-self-2 : goal.invariant_of-self-2
invariant_of-self-2 c = record {
  world = (recorded c).grown.is;
  keys = c.self.invariant.keys;
  cursor = c.self.invariant.cursor;
}

pub returns-clause-reply : goal.returns-clause-reply
returns-clause-reply c = (recorded c).reply_is

pub returns-clause-ok : goal.returns-clause-ok
returns-clause-ok c =
    let grown = (recorded c).grown in
    λ i. record {
      config = ap (λ w. w.config) c.self.view_is i;
      liars = ap (λ w. w.liars) c.self.view_is i;
      run = grown.run_is i;
    }

pub returns-clause-run : goal.returns-clause-run
returns-clause-run c = (recorded c).grown.is.cluster
