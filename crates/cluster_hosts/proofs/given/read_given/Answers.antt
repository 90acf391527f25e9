use Rattle.std.proofs.Common.{◌≡◌, ◌+◌, length, arith, sym, ◌∙◌}
use Rattle.std.proofs.lemmas.Result.{err_from_is_err_and}
use Rattle.cluster_text.proofs.Exported.{shown_buffer}
use Rattle.cluster_text.specs.Setups.{most_text_bytes}
use Rattle.cluster_hosts.proofs.GivenLemmas.{given_read, not_unread}
use Rattle.cluster_hosts.proofs.given.read_given.Goals as goal

pub returns-in_err-count-clause-unread : goal.returns-in_err-count-clause-unread
returns-in_err-count-clause-unread g c =
    let p = err_from_is_err_and c.from_residual-in_err-count.result c.from_residual-in_err-count.ensures.1 in
    rw p.1 (λ e. c.in_err-count.ensures.err)

pub returns-clause-read : goal.returns-clause-read
returns-clause-read g c =
    let buffer = c.fill.new.buffer in
    let whole : c.in_ok-buffer.buffer.len ≡ length buffer =
    sym (c.fill.auto.buffer ∙ c.as_mut_slice.ensures.len) in
    let len : length buffer ≡ most_text_bytes + 1 = omega (arith, whole, c.in_ok-buffer.ensures.len) in
    let same = shown_buffer _ buffer _ _ c.deref.ensures.value whole in
    let given = rw same at c.given_in.ensures.given in
    given_read _ _ buffer c.in_ok-count.count len c.in_ok-count.ensures.filled c.given_in.result given

pub returns-clause-unread : goal.returns-clause-unread
returns-clause-unread g c = not_unread _ c.given_in.result _ c.given_in.ensures.given
