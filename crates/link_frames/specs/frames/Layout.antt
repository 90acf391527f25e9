-- Where the fields of a frame of version 2 stand, and how many bytes they have.
use Rattle.std.specs.Prelude.{ℕ}

abbrev pub version : ℕ
version = 2

-- the bytes of a frame
abbrev pub frame_len : ℕ
frame_len = 54

abbrev pub version_at : ℕ
version_at = 0

abbrev pub cluster_at : ℕ
cluster_at = 1

abbrev pub from_at : ℕ
from_at = 5

abbrev pub to_at : ℕ
to_at = 6

abbrev pub kind_at : ℕ
kind_at = 7

abbrev pub owner_at : ℕ
owner_at = 8

abbrev pub place_at : ℕ
place_at = 9

abbrev pub command_at : ℕ
command_at = 13

-- the tag comes behind all fields
abbrev pub tag_at : ℕ
tag_at = 22

abbrev pub tag_len : ℕ
tag_len = 32
