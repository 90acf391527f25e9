use Rattle.std.proofs.Common.{rules, ◌≡◌, ◌-◌, ◌==◌, length, subst, sym, ap, not, ◌∙◌, ◌<◌, ◌++◌, ℕ, List, take, drop}
use Rattle.std.specs.List.{list_any}
use Rattle.std.proofs.Math.Seq.{take-append_seam}
use Rattle.node_journal.proofs.SightLemmas.{byte_read}
use Rattle.node_journal.proofs.keeping.has_bytes.Goals as goal

pub returns-in-Ok-clause-byte : goal.returns-in-Ok-clause-byte
returns-in-Ok-clause-byte g c clean =
    let buf : List ℕ = c.read_at.new.buf in
    let count : length buf ≡ c.args.to - c.args.from = search rules in
    let before : length c.as_mut_slice.result.now ≡ c.args.to - c.args.from = search rules in
    let whole : c.in_ok-bytes.bytes.len ≡ c.args.to - c.args.from = search rules in
    let rest : List ℕ = drop (length buf) c.in_ok-bytes.bytes.items in
    let same : take c.in_ok-bytes.bytes.len (buf ++ rest) ≡ buf =
    ap (λ (n : ℕ). take n (buf ++ rest)) (whole ∙ sym count) ∙ take-append_seam buf rest in
    byte_read (g.D.Disk.seen c.args.file.now) buf c.args.from c.args.to c.has_byte.result c.requires.order count
    (λ some. c.in-Ok.ensures.read clean (subst (λ (n : ℕ). 0 < n) (count ∙ sym before) some))
    (c.has_byte.ensures ∙ ap (λ (l : List ℕ). list_any (λ byte. not (byte == 0)) l) (c.deref.ensures.value ∙ same))
