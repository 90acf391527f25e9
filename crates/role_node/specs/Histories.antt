-- What a node's history, the list of the events that it recorded, oldest first, holds for each part of the node.
use Rattle.std.specs.Prelude.{List, Option, Some, None}
use Rattle.std.specs.List.{filter_map}
use Rattle.role_commands.specs.declared.command.Command.{Command}
use Rattle.link_frames.specs.frames.Packets.{PacketValue}
use Rattle.role_sessions.specs.declared.event.ClientEvent.{ClientEvent}
use Rattle.role_node.specs.declared.event.Event.{Event}
use Rattle.role_node.specs.declared.event.Event.TheVariants.{Issue, Take, Client}

abbrev pub command_in : Event → Option Command
command_in (Issue command) = Some command
command_in event = None

abbrev pub packet_in : Event → Option PacketValue
packet_in (Take packet) = Some packet
packet_in event = None

abbrev pub act_in : Event → Option ClientEvent
act_in (Client act) = Some act
act_in event = None

-- the commands that the node published, each at the place that is its number here
unfoldable pub issued : List Event → List Command
issued history = filter_map command_in history

-- the packets that it took
unfoldable pub packets : List Event → List PacketValue
packets history = filter_map packet_in history

-- what its clients did
unfoldable pub client_events : List Event → List ClientEvent
client_events history = filter_map act_in history
