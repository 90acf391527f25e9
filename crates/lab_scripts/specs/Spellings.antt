-- How the lines of a script of one instance are written, and what reading and writing them are to each other.
use Rattle.std.specs.Prelude.{◌≡◌, ℕ, List, ◌++◌, codes, Some}
use Rattle.std.specs.Fmt.{decimal}
use Rattle.quorum_sizes.specs.Sizes.{Counts, AreSizes}
use Rattle.role_commands.specs.Words.{spelling, IsCommand}
use Rattle.role_commands.specs.declared.command.Command.{Command}
use Rattle.link_frames.specs.declared.frames.kind.Kind.{Kind}
use Rattle.link_frames.specs.declared.frames.kind.Kind.TheVariants.{Send, Echo, Ready}
use Rattle.bracha_instance.specs.Broadcast.{Take}
use Rattle.lab_scripts.specs.Grammar.{IsFromNode, sizes_of_line, take_of_line}

-- `instance N F`
abbrev pub sizes_spelling : Counts → List ℕ
sizes_spelling s = codes "instance " ++ decimal s.nodes ++ codes " " ++ decimal s.liars

-- `send C`, `echo I C` or `ready I C`
abbrev pub said_spelling : Kind → ℕ → Command → List ℕ
said_spelling Send from c = codes "send " ++ spelling c
said_spelling Echo from c = codes "echo " ++ decimal from ++ codes " " ++ spelling c
said_spelling Ready from c = codes "ready " ++ decimal from ++ codes " " ++ spelling c

abbrev pub take_spelling : Take → List ℕ
take_spelling t = said_spelling t.kind t.from t.command

-- a message that has a line in a script of these sizes
abbrev pub IsTake : Counts → Take → Type 0
IsTake s t = IsFromNode s t × IsCommand t.command

-- sizes that are written are read
abbrev pub SizesAreRead : Type 0
SizesAreRead = (s : Counts) → AreSizes s → sizes_of_line (sizes_spelling s) ≡ Some s

-- a line that is read as sizes is what is written for them
abbrev pub SizesAreSpelled : Type 0
SizesAreSpelled = (line : List ℕ) (s : Counts) → sizes_of_line line ≡ Some s → (line ≡ sizes_spelling s) × AreSizes s

-- a message that is written is read
abbrev pub TakesAreRead : Type 0
TakesAreRead = (s : Counts) (t : Take) → AreSizes s → IsTake s t → take_of_line s (take_spelling t) ≡ Some t

-- a line that is read as a message is what is written for it
abbrev pub TakesAreSpelled : Type 0
TakesAreSpelled = (s : Counts) (line : List ℕ) (t : Take) → take_of_line s line ≡ Some t → (line ≡ take_spelling t)
    × IsTake s t
