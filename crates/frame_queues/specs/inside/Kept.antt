-- How unsent frames and a block of bytes are kept. Serves the code, and no public contract.
use Rattle.std.specs.Prelude.{◌≡◌, ℕ, ◌*◌, ◌<◌, ◌≤◌, List, length, refl}
use Rattle.std.specs.Coded.{Coded, code_by, coded×, coded_list, coded_ℕ}
use Rattle.link_frames.specs.frames.Layout.{frame_len}
use Rattle.link_frames.specs.frames.FrameStreams.{AreFrames}
use Rattle.frame_queues.specs.Unsent.{UnsentValue, most_frames}
use Rattle.frame_queues.specs.Blocks.{block_frames}

-- unsent frames are stored as the pair of their parts
abbrev pub unsent_code : Coded UnsentValue
unsent_code =
    code_by (List (List ℕ) × ℕ) (coded× (coded_list (coded_list coded_ℕ)) coded_ℕ)
    (λ u. (u.frames, u.written)) (λ p. record { frames = p.0; written = p.1 }) (λ _. refl)

-- frames, not too many, of the oldest of which a part is written at most; where there is none, nothing
pub record IsUnsent (frames : List (List ℕ)) (written : ℕ) : Type 0 where
  pub whole : AreFrames frames
  pub few : length frames ≤ most_frames
  pub part : written < frame_len
  pub oldest : 0 < written → 0 < length frames

-- there is room for a whole block, and so many bytes of it are read
pub record IsBlock (have : ℕ) (room : List ℕ) : Type 0 where
  pub within : have ≤ length room
  pub size : length room ≡ block_frames * frame_len
