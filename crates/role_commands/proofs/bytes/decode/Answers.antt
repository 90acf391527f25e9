use Rattle.role_commands.proofs.ByteReading.{decoded}
use Rattle.role_commands.proofs.bytes.decode.Goals as goal

pub returns-clause-value : goal.returns-clause-value
returns-clause-value c =
    decoded _ _ c.fits-bytes c.read_fields.ensures.found c.read_fields.ensures.fits c.read_fields.ensures.only
