use Rattle.stream_parts.proofs.Room.{issued_has_room}
use Rattle.stream_parts.proofs.laws.issued_has_room.Goals as goal

pub returns : goal.returns
returns c = issued_has_room c.total_integrity.ensures
