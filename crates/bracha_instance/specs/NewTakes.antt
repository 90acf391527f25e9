-- What the answer of `take_new` stands for. Serves `take_new` alone, here and in the crates above: Taking says what a
-- message causes.
use Rattle.std.specs.Prelude.{Bool, true, false, if◌then◌else◌, Option, Some, None, option_map}
use Rattle.role_commands.specs.declared.command.Command.{Command}
use Rattle.link_frames.specs.declared.frames.kind.Kind.{Kind}
use Rattle.link_frames.specs.declared.frames.kind.Kind.TheVariants.{Echo, Ready}
use Rattle.bracha_instance.specs.declared.instance.Effect.TheVariants.{Counted}
use Rattle.bracha_instance.specs.declared.instance.Caused.{Caused}
use Rattle.bracha_instance.specs.declared.instance.Taken.{Taken}

-- the kind of the message that is sent, by whether anything was newly echoed, or readied
abbrev pub kind_due : Bool → Bool → Option Kind
kind_due true readies = Some Echo
kind_due false true = Some Ready
kind_due false false = None

-- what a message that counts caused: all of it is for the message's own command
abbrev pub taken_for : Command → Caused → Taken
taken_for c caused =
    record {
      effect = Counted;
      broadcast = option_map (λ kind. (kind, c)) caused.send;
      delivered = if caused.delivers then Some c else None;
    }
