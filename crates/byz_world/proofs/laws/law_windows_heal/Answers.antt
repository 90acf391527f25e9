use Rattle.byz_world.proofs.Healing.{windows_heal}
use Rattle.byz_world.proofs.laws.law_windows_heal.Goals as goal

pub returns : goal.returns
returns c = windows_heal
