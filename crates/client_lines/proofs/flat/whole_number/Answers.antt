use Rattle.std.proofs.Common.{◌≡◌, ◌∙◌, false, ◌==◌, Some, IfSome, get_or, sym, ap, subst}
use Rattle.fast_float.specs.Text.{scan}
use Rattle.serde_json.specs.Data.{unsigned}
use Rattle.serde_json.specs.Read.{number_of, number_from}
use Rattle.client_lines.specs.declared.flat.TheConstants.{MINUS}
use Rattle.client_lines.proofs.flat.whole_number.Goals as goal

pub returns : goal.returns
unfolding number_of
returns c =
    let s = c.as_bytes-bytes.result.now in
    let plain : (get_or s 0 0 == MINUS) ≡ false = sym c.if-has_minus.ensures in
    let read : number_from false (scan s) ≡ number_of s = rw plain in
    subst (λ number. IfSome c.unsigned.result (λ n. number ≡ Some (unsigned n)))
    (ap (number_from false) c.scan.ensures.parts ∙ read ∙ ap number_of c.as_bytes-bytes.ensures.value)
    c.unsigned.ensures
