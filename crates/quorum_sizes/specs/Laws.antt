-- Laws of the sizes.
use Rattle.std.specs.Prelude.{◌-◌, ◌≤◌}
use Rattle.quorum_sizes.specs.Sizes.{Counts, AreSizes, echo_quorum_of, deliver_of}

-- The nodes of which none lies are a quorum of echoes, and enough to deliver: no quorum needs a liar.
abbrev pub CorrectAreEnough : Type 0
CorrectAreEnough = (s : Counts) → AreSizes s → (echo_quorum_of s ≤ s.nodes - s.liars)
    × (deliver_of s ≤ s.nodes - s.liars)
