use Rattle.std.proofs.lemmas.Option.{IfSome_then}
use Rattle.client_lines.proofs.ObjectReading.{object_read, whole_read}
use Rattle.client_lines.proofs.PlainLineLemmas.{object_begun}
use Rattle.client_lines.proofs.plain_line.plain_line.Goals as goal

pub returns : goal.returns
returns c =
    let line = c.args.text.now in
    let brace = rw c.as_bytes-bytes.ensures.value at c.if-bytes-ne123.false in
    IfSome_then c.members_line.result c.members_line.ensures
    (λ said read. (read.0, whole_read line _ (object_read _ _ _ read.0 (object_begun line brace) read.1), read.2))
