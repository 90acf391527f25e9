use Rattle.std.proofs.Common.{length, sym, ap}
use Rattle.role_node.proofs.BegunLemmas.{begun-none}
use Rattle.role_node.proofs.HistoryLemmas.{client_events-none}
use Rattle.role_node.proofs.noted.Noted.new.Goals as goal

pub returns : goal.returns
returns c s me = record { acts = sym (ap length client_events-none); begun_twice = sym (begun-none s me) }
