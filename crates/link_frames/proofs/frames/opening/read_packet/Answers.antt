use Rattle.std.proofs.Common.{rules}
use Rattle.link_frames.specs.frames.Opening.{need, given, packet_in}
use Rattle.link_frames.proofs.frames.opening.read_packet.Goals as goal

pub returns-in_err-kind : goal.returns-in_err-kind
unfolding packet_in need given
returns-in_err-kind c = search rules

pub returns-in_err-owner : goal.returns-in_err-owner
unfolding packet_in need given
returns-in_err-owner c = search rules

pub returns-in_err-command : goal.returns-in_err-command
unfolding packet_in need given
returns-in_err-command c = search rules

pub returns-then-is_relayed : goal.returns-then-is_relayed
unfolding packet_in need given
returns-then-is_relayed c = search rules

pub returns : goal.returns
unfolding packet_in need given
returns c = search rules
