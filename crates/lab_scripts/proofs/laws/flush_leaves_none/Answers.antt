use Rattle.lab_scripts.proofs.AfterFlushLemmas.{flush_leaves_none}
use Rattle.lab_scripts.proofs.laws.flush_leaves_none.Goals as goal

pub returns : goal.returns
returns c = flush_leaves_none
