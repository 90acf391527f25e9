use Rattle.link_frames.proofs.frame_lemmas.FrameLaws.{sealed_is_opened}
use Rattle.link_frames.proofs.frame_lemmas.OpeningLemmas.{open_takes}
use Rattle.link_frames.proofs.laws.links.Goals as goal

pub returns-clause-opened : goal.returns-clause-opened
returns-clause-opened c = sealed_is_opened

pub returns-clause-sealed : goal.returns-clause-sealed
returns-clause-sealed c = open_takes
