-- Of the list of a connection's answers: all that are there can be written, also after one more is put there.

use Rattle.std.specs.Prelude.{ℕ, List, Option, All, slice_set}
use Rattle.std.proofs.lemmas.List.Elements.{All-set}
use Rattle.served_node.specs.Told.{IsLineIfAny}
use Rattle.served_node.specs.declared.told.LineAnswer.{LineAnswer}

-- a write of an answer that can be written leaves only such
pub written_set : (answers : List (Option LineAnswer)) (at : ℕ) (answer : Option LineAnswer)
    → IsLineIfAny answer → All IsLineIfAny answers → All IsLineIfAny (slice_set answers at answer)
written_set answers at answer = All-set IsLineIfAny answers at answer
