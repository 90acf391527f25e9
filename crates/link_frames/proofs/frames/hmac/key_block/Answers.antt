use Rattle.std.proofs.Common.{◌≡◌, ◌++◌, length, ltb, false, ap}
use Rattle.std.proofs.lemmas.Bool.{le-ltb}
use Rattle.std.proofs.lemmas.List.{drop-replicate}
use Rattle.link_frames.proofs.frames.hmac.key_block.Goals as goal

pub returns-else-key-gt-BLOCK_LEN : goal.returns-else-key-gt-BLOCK_LEN
returns-else-key-gt-BLOCK_LEN c =
    let key = c.args.key.now in
    let short : ltb 64 (length key) ≡ false = le-ltb _ _ c.if-key-gt-BLOCK_LEN.false in
    rw (c.copy_from_slice-else-key-gt-BLOCK_LEN.ensures.after, short)
    (ap (λ l. key ++ l) (drop-replicate (length key) 64 0))
