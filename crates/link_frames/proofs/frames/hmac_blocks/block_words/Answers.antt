use Rattle.std.proofs.Common.{refl}
use Rattle.sha2.specs.Sha256.{first_words}
use Rattle.link_frames.proofs.frames.hmac_blocks.block_words.Goals as goal

pub returns : goal.returns
unfolding first_words
returns c =
    rw (
      c.word_from.ensures,
      c.word_from-2.ensures,
      c.word_from-3.ensures,
      c.word_from-4.ensures,
      c.word_from-5.ensures,
      c.word_from-6.ensures,
      c.word_from-7.ensures,
      c.word_from-8.ensures,
      c.word_from-9.ensures,
      c.word_from-10.ensures,
      c.word_from-11.ensures,
      c.word_from-12.ensures,
      c.word_from-13.ensures,
      c.word_from-14.ensures,
      c.word_from-15.ensures,
      c.word_from-16.ensures,
    )
    refl
