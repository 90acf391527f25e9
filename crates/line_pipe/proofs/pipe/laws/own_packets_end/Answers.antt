use Rattle.line_pipe.proofs.OwnLemmas as own
use Rattle.line_pipe.proofs.pipe.laws.own_packets_end.Goals as goal

pub returns : goal.returns
returns c = own.own_packets_end
