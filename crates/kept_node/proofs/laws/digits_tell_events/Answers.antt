use Rattle.kept_node.proofs.HistoryLemmas.{tell}
use Rattle.kept_node.proofs.laws.digits_tell_events.Goals as goal

pub returns : goal.returns
returns c = tell
