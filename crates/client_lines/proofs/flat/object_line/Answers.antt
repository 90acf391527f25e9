use Rattle.std.proofs.Common.{◌≡◌, ◌∙◌, ◌∷◌, ap}
use Rattle.json.specs.Token.{Token}
use Rattle.json.specs.Reads.{token_of}
use Rattle.std.proofs.lemmas.Option.{IfSome_then}
use Rattle.client_lines.proofs.ObjectReading.{object_read}
use Rattle.client_lines.proofs.flat.object_line.Goals as goal

pub returns-in-Some-BeginObject : goal.returns-in-Some-BeginObject
returns-in-Some-BeginObject c =
    let rest = c.next.new.self in
    let begun : c.args.reader.now ≡ Token.begin_object ∷ rest =
    c.in-Some-BeginObject.ensures.value ∙ ap (λ t. token_of t ∷ rest) c.in-Some-BeginObject.field-0-is in
    IfSome_then c.members_line.result c.members_line.ensures
    (λ line read. (read.0, object_read _ rest _ read.0 begun read.1, read.2))
