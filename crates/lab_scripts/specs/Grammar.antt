-- The lines of a script of one instance: `instance N F` first, and then `send C`, `echo I C` and `ready I C`.
-- The laws of `one_spelling` say that these are their only spellings.
use Rattle.std.specs.Prelude.{◌≡◌, ℕ, ◌<◌, if◌then◌else◌, List, codes, Option, None, option_map}
use Rattle.std.specs.Result.{result_ok}
use Rattle.std.specs.Str.{bytes_eq}
use Rattle.quorum_sizes.specs.Sizes.{Counts, name_due}
use Rattle.quorum_sizes.specs.Refusals.{sizes_due}
use Rattle.role_commands.specs.Numbers.{split_word, byte_number, ◌>>=◌}
use Rattle.role_commands.specs.Reading.{command_of}
use Rattle.link_frames.specs.declared.frames.kind.Kind.{Kind}
use Rattle.link_frames.specs.declared.frames.kind.Kind.TheVariants.{Send, Echo, Ready}
use Rattle.bracha_instance.specs.Broadcast.{Take}

-- the node whose instance it is
abbrev pub owner : ℕ
owner = 0

-- it is from one of the nodes, and a SEND is from the owner
abbrev pub IsFromNode : Counts → Take → Type 0
IsFromNode s t = (t.from < s.nodes) × (t.kind ≡ Send → t.from ≡ owner)

-- `N F`, which have 8 bits
unfoldable pub sizes_of_numbers : List ℕ → Option Counts
sizes_of_numbers text = do
  words ← split_word text
  n ← byte_number words.0
  f ← byte_number words.1
  result_ok (sizes_due n f)

-- the sizes that the first line names
unfoldable pub sizes_of_line : List ℕ → Option Counts
sizes_of_line line = do
  words ← split_word line
  if bytes_eq words.0 (codes "instance") then sizes_of_numbers words.1 else None

-- a message from the node of this index, where there is one
unfoldable pub take_from : Counts → Kind → ℕ → List ℕ → Option Take
take_from s kind index text = do
  name ← name_due s index
  option_map (λ command. record { kind = kind; from = name; command = command }) (command_of text)

-- `I C`
unfoldable pub vote_of : Counts → Kind → List ℕ → Option Take
vote_of s kind text = do
  words ← split_word text
  index ← byte_number words.0
  take_from s kind index words.1

-- the message of a name and the words behind it
unfoldable pub named_take : Counts → List ℕ → List ℕ → Option Take
named_take s name text =
    if bytes_eq name (codes "send") then take_from s Send owner text
    else (if bytes_eq name (codes "echo") then vote_of s Echo text
    else (if bytes_eq name (codes "ready") then vote_of s Ready text
    else None))

-- the message that a later line names
unfoldable pub take_of_line : Counts → List ℕ → Option Take
take_of_line s line = do
  words ← split_word line
  named_take s words.0 words.1
