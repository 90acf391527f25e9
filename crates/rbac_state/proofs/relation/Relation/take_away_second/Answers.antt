use Rattle.rbac_state.proofs.RelationLemmas.{kept_without}
use Rattle.rbac_state.proofs.relation.Relation.take_away_second.Goals as goal

pub returns-clause-kept : goal.returns-clause-kept
returns-clause-kept g c =
    kept_without c.args.self.now _ c.args.second c.requires.kept
    c.take_away_second.ensures.ascending c.take_away_second.ensures.members
    c.take_away_first.ensures.items
    (c.take_away_second.ensures.room c.args.self.now.room c.requires.kept.first_blocks)
    (c.take_away_first.ensures.room c.args.self.now.room c.requires.kept.second_blocks)
