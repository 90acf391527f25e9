use Rattle.stream_parts.proofs.Whole.{decides_alike}
use Rattle.stream_parts.proofs.laws.decides_alike.Goals as goal

pub returns : goal.returns
returns c = decides_alike c.totals_agree_whenever.ensures
