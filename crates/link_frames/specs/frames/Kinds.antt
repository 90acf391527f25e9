-- The three kinds of message of the broadcast.
use Rattle.std.specs.Prelude.{Bool, true, false}
use Rattle.link_frames.specs.declared.frames.kind.Kind.{Kind}
use Rattle.link_frames.specs.declared.frames.kind.Kind.TheVariants.{Send, Echo, Ready}

abbrev pub same_kind : Kind → Kind → Bool
same_kind Send Send = true
same_kind Echo Echo = true
same_kind Ready Ready = true
same_kind _ _ = false
