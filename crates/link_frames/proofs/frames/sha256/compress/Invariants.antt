use Rattle.std.proofs.Common.{◌≡◌, ◌*◌, List, ℕ}
use Rattle.sha2.specs.Sha256.{first_words}
use Rattle.link_frames.proofs.frame_lemmas.Turns.{BeforeRound}
use Rattle.link_frames.proofs.frames.sha256.compress.Given as goal

abbrev pub invariant-loop-turn : goal.invariant-loop-turn
invariant-loop-turn l =
    (b : List ℕ) → l.fn.words ≡ first_words b 16
    → BeforeRound b l.state l.sums l.w0 l.w4 l.w8 l.w12 l.v (16 * l.turn)
