use Rattle.std.proofs.Common.{arith}
use Rattle.link_frames.proofs.frame_lemmas.BlockWords.{words_of_fields}
use Rattle.link_frames.proofs.frames.hmac_blocks.fields_words.Goals as goal

pub returns : goal.returns
returns c =
    rw (
      c.word_from.ensures,
      c.word_from-2.ensures,
      c.word_from-3.ensures,
      c.word_from-4.ensures,
      c.word_from-5.ensures,
      c.from_be_bytes.ensures,
    )
    (words_of_fields c.args.fields.now (omega arith))
