use Rattle.std.proofs.Common.{arith, ◌∙◌}
use Rattle.link_frames.proofs.frame_lemmas.TagLemmas.{hmac_from}
use Rattle.link_frames.proofs.frames.hmac.PreparedKey.tag.Goals as goal

pub returns : goal.returns
returns c =
    let key = c.self.inside in
    let hash = c.compress-inner.ensures _ c.fields_words.ensures in
    let last = c.compress.ensures _ c.digest_words.ensures in
    rw (← c.self.view_is)
    (c.hash_bytes.ensures
    ∙ hmac_from key.key c.args.fields.now key.inner key.outer _ _ (omega arith) (omega arith)
    c.self.invariant hash last)
