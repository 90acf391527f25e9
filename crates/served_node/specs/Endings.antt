-- What comes of a job, and what of that is told.
use Rattle.std.specs.Prelude.{⊤, Bool, true, false, if◌then◌else◌, Option, None, Some}
use Rattle.served_node.specs.Served.{has_counted}
use Rattle.served_node.specs.declared.said.Said.{Said}
use Rattle.served_node.specs.declared.ending.Ending.{Ending}
use Rattle.served_node.specs.declared.ending.Ending.TheVariants.{Held, Refused, Lost, Nothing}

-- what a hold said, if there was one
abbrev pub said_in : {U : Type 0} → Ending U → Option U
said_in (Held u) = Some u
said_in (Refused fault) = None
said_in Lost = None
said_in Nothing = None

-- the same ending, with another word for what a hold said
abbrev pub ending_map : {U V : Type 0} → (U → V) → Ending U → Ending V
ending_map f (Held u) = Held (f u)
ending_map f (Refused fault) = Refused fault
ending_map f Lost = Lost
ending_map f Nothing = Nothing

-- What a hold said may leave; and once all before is kept, why there was none. Of what is lost nothing leaves.
abbrev pub MayLeave : {U : Type 0} → Type 0 → (U → Type 0) → Ending U → Type 0
MayLeave kept may_leave (Held u) = may_leave u
MayLeave kept may_leave (Refused fault) = kept
MayLeave kept may_leave Lost = ⊤
MayLeave kept may_leave Nothing = ⊤

-- what is noted of the connection over which a packet came: that it counted, or found no memory
abbrev pub counted_in : Ending Said → Option Bool
counted_in (Held said) = if has_counted said then Some true else None
counted_in (Refused fault) = None
counted_in Lost = None
counted_in Nothing = Some false
