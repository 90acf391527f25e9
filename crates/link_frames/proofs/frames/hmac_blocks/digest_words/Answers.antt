use Rattle.link_frames.proofs.frame_lemmas.BlockWords.{words_of_digest}
use Rattle.link_frames.proofs.frames.hmac_blocks.digest_words.Goals as goal

pub returns : goal.returns
returns c =
    rw c.copy_from_slice.ensures.after (words_of_digest c.args.hash.now c.told-hash (λ k. c.fits-hash k))
