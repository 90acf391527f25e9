-- Which bytes are frames, wherever they come from.
use Rattle.std.specs.Prelude.{◌≡◌, ℕ, ◌*◌, ◌/◌, List, ◌++◌, length, drop, All}
use Rattle.std.specs.List.{concat}
use Rattle.link_frames.specs.frames.Layout.{frame_len}

-- the bytes of one frame, whatever they say
abbrev pub IsWhole : List ℕ → Type 0
IsWhole frame = length frame ≡ frame_len

-- each has the bytes of a frame
abbrev pub AreFrames : List (List ℕ) → Type 0
AreFrames frames = All (λ frame. IsWhole frame) frames

-- the part of a frame that is left behind the whole frames
abbrev pub rest_of : List ℕ → List ℕ
rest_of bytes = drop (length bytes / frame_len * frame_len) bytes

-- frames that, one behind another, are the bytes but for the part of a frame that is left
pub record AreFramesOf (bytes : List ℕ) (frames : List (List ℕ)) : Type 0 where
  pub whole : AreFrames frames
  pub all : concat frames ++ rest_of bytes ≡ bytes

-- there is one list of the frames of bytes
abbrev pub FramesAreOne : Type 0
FramesAreOne =
    (bytes : List ℕ) (frames others : List (List ℕ)) → AreFramesOf bytes frames → AreFramesOf bytes others
    → frames ≡ others
