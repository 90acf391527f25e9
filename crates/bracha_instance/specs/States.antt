-- The state of an instance: all that matters of the messages that were taken for what comes next.
use Rattle.std.specs.Prelude.{List, map, filter, Option, Some, None}
use Rattle.std.specs.Ordering.{nat_cmp}
use Rattle.std.specs.FinMap as maps
use Rattle.quorum_sizes.specs.Sizes.{Counts}
use Rattle.role_commands.specs.declared.command.Command.{Command}
use Rattle.link_frames.specs.declared.frames.kind.Kind.{Kind}
use Rattle.link_frames.specs.declared.frames.kind.Kind.TheVariants.{Echo, Ready}
use Rattle.bracha_instance.specs.Broadcast.{Take, Names, is_of_kind, voters, echoed, readied, delivered}

-- who voted for what
abbrev pub Votes : Type 0
Votes = maps.FinMap nat_cmp Command

pub record State : Type 0 where
  pub echoed : Option Command
  pub readied : Option Command
  pub delivered : Option Command
  pub echoers : Names
  pub readiers : Names
  pub echo_votes : Votes
  pub ready_votes : Votes

-- the vote of each node that has one
unfoldable pub votes : Kind → List Take → Votes
votes kind takes = maps.from_entries (map (λ (t : Take). (t.from, t.command)) (filter (is_of_kind kind) takes))

-- once a command is delivered the votes are forgotten, and only who has voted is kept
abbrev pub kept : Option Command → Votes → Votes
kept None v = v
kept (Some c) v = maps.empty

unfoldable pub state : Counts → List Take → State
state s takes =
    record {
      echoed = echoed takes;
      readied = readied s takes;
      delivered = delivered s takes;
      echoers = voters Echo takes;
      readiers = voters Ready takes;
      echo_votes = kept (delivered s takes) (votes Echo takes);
      ready_votes = kept (delivered s takes) (votes Ready takes);
    }
