-- What a read gave, by what the reader answers. Serves the code, and no public contract.
use Rattle.std.specs.Prelude.{ℕ, ◌==◌, nat_lt, if◌then◌else◌}
use Rattle.std.specs.declared.io.ErrorKind.{ErrorKind}
use Rattle.std.specs.declared.io.ErrorKind.TheVariants.{WouldBlock, Interrupted}
use Rattle.frame_queues.specs.declared.frame_block.Came.{Came}
use Rattle.frame_queues.specs.declared.frame_block.Came.TheVariants.{Nothing, Some, More, End}

-- so many bytes, where there was room for so many: none is an end, and only where all came there may be more
abbrev pub came_with : ℕ → ℕ → Came
came_with count room = if count == 0 then End else (if nat_lt count room then Some else More)

-- how often reads may be interrupted until one gives bytes
abbrev pub most_interruptions : ℕ
most_interruptions = 1024

-- a failure, with so many interruptions before: nothing came where nothing is there now, there may be more where the
-- read was interrupted, and that not too often before; all else is an end
abbrev pub came_after : ErrorKind → ℕ → Came
came_after WouldBlock before = Nothing
came_after Interrupted before = if nat_lt before most_interruptions then More else End
came_after _ before = End
