use Rattle.std.proofs.Common.{◌≡◌, vec_len}
use Rattle.std.specs.Prelude.{All}
use Rattle.owner_streams.proofs.Owners.{IsFresh}
use Rattle.owner_streams.proofs.streams.Streams.new.Given as goal

abbrev pub invariant-loop-name : goal.invariant-loop-name
invariant-loop-name l = record { one_each : vec_len l.owners ≡ l._name; fresh : All IsFresh l.owners.items }
