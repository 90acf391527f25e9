-- Whose messages of each kind were taken, as an instance and its record both keep it. Serves private functions and
-- proofs, and no public contract.
use Rattle.std.specs.Prelude.{◌≤◌, ℕ, Bool, is_some, Some, None}
use Rattle.std.specs.Option.{option_or}
use Rattle.std.specs.FinSet as sets
use Rattle.quorum_sizes.specs.Sizes.{most_nodes}
use Rattle.role_commands.specs.declared.command.Command.{Command}
use Rattle.link_frames.specs.declared.frames.kind.Kind.{Kind}
use Rattle.link_frames.specs.declared.frames.kind.Kind.TheVariants.{Send, Echo, Ready}
use Rattle.bracha_instance.specs.declared.first_votes.FirstVotes.{FirstVotes}

-- nothing is noted
abbrev pub none_noted : FirstVotes
none_noted = record { echoed = None; echoers = sets.empty; readiers = sets.empty }

-- a message of this kind from p is noted; the owner's first SEND is, whoever p is
abbrev pub is_noted : FirstVotes → Kind → ℕ → Bool
is_noted f Send p = is_some f.echoed
is_noted f Echo p = sets.contains f.echoers p
is_noted f Ready p = sets.contains f.readiers p

-- with a message more
abbrev pub noted : FirstVotes → Kind → ℕ → Command → FirstVotes
noted f Send p c = record f { echoed = option_or f.echoed (Some c) }
noted f Echo p c = record f { echoers = sets.insert f.echoers p }
noted f Ready p c = record f { readiers = sets.insert f.readiers p }

-- no more nodes have voted than a cluster can have
pub record VotersFit (f : FirstVotes) : Type 0 where
  pub echoers : sets.len f.echoers ≤ most_nodes
  pub readiers : sets.len f.readiers ≤ most_nodes
