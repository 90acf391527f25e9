use Rattle.stream_parts.proofs.Full.{no_part_is_full}
use Rattle.stream_parts.proofs.laws.no_part_is_full.Goals as goal

pub returns : goal.returns
returns c = no_part_is_full c.owner_is_bounded.ensures
