-- What one more event adds to the parts of a history.
use Rattle.std.proofs.Common.{◌≡◌, ◌≤◌, List, [], ◌∷◌, ◌++◌, length, Option}
use Rattle.std.proofs.Common.{Some, None, refl, ap, ◌∙◌, append-nil}
use Rattle.std.specs.List.{filter_map, cons_option}
use Rattle.std.proofs.lemmas.List.Elements.{filter_map-append}
use Rattle.role_commands.proofs.Exported.{filter_map-length}
use Rattle.role_commands.specs.declared.command.Command.{Command}
use Rattle.link_frames.specs.frames.Packets.{PacketValue}
use Rattle.role_sessions.specs.declared.event.ClientEvent.{ClientEvent}
use Rattle.role_node.specs.declared.event.Event.{Event}
use Rattle.role_node.specs.declared.event.Event.TheVariants.{Issue, Take, Client}
use Rattle.role_node.specs.Histories.{command_in, packet_in, act_in, issued, packets, client_events}

-- an element that gives nothing adds nothing
none_more : {X Y : Type 0} (f : X → Option Y) (xs : List X) (x : X) → f x ≡ None
    → filter_map f (xs ++ x ∷ []) ≡ filter_map f xs
none_more f xs x e =
    filter_map-append f xs (x ∷ []) ∙ ap (λ o. filter_map f xs ++ cons_option o []) e ∙ append-nil (filter_map f xs)

-- one that gives something adds it
one_more : {X Y : Type 0} (f : X → Option Y) (xs : List X) (x : X) (y : Y) → f x ≡ Some y
    → filter_map f (xs ++ x ∷ []) ≡ filter_map f xs ++ y ∷ []
one_more f xs x y e = filter_map-append f xs (x ∷ []) ∙ ap (λ o. filter_map f xs ++ cons_option o []) e

pub issued-Issue : (history : List Event) (c : Command) → issued (history ++ Issue c ∷ []) ≡ issued history ++ c ∷ []
unfolding issued
issued-Issue history c = one_more command_in history (Issue c) c refl

pub issued-Take : (history : List Event) (p : PacketValue) → issued (history ++ Take p ∷ []) ≡ issued history
unfolding issued
issued-Take history p = none_more command_in history (Take p) refl

pub issued-Client : (history : List Event) (a : ClientEvent) → issued (history ++ Client a ∷ []) ≡ issued history
unfolding issued
issued-Client history a = none_more command_in history (Client a) refl

pub packets-Issue : (history : List Event) (c : Command) → packets (history ++ Issue c ∷ []) ≡ packets history
unfolding packets
packets-Issue history c = none_more packet_in history (Issue c) refl

pub packets-Take : (history : List Event) (p : PacketValue) → packets (history ++ Take p ∷ []) ≡ packets history
    ++ p ∷ []
unfolding packets
packets-Take history p = one_more packet_in history (Take p) p refl

pub packets-Client : (history : List Event) (a : ClientEvent) → packets (history ++ Client a ∷ []) ≡ packets history
unfolding packets
packets-Client history a = none_more packet_in history (Client a) refl

pub client_events-Issue : (history : List Event) (c : Command)
    → client_events (history ++ Issue c ∷ []) ≡ client_events history
unfolding client_events
client_events-Issue history c = none_more act_in history (Issue c) refl

pub client_events-Take : (history : List Event) (p : PacketValue)
    → client_events (history ++ Take p ∷ []) ≡ client_events history
unfolding client_events
client_events-Take history p = none_more act_in history (Take p) refl

pub client_events-Client : (history : List Event) (a : ClientEvent)
    → client_events (history ++ Client a ∷ []) ≡ client_events history ++ a ∷ []
unfolding client_events
client_events-Client history a = one_more act_in history (Client a) a refl

pub issued-none : issued [] ≡ []
unfolding issued
issued-none = refl

pub packets-none : packets [] ≡ []
unfolding packets
packets-none = refl

pub client_events-none : client_events [] ≡ []
unfolding client_events
client_events-none = refl

-- no more acts than events
pub client_events-length : (history : List Event) → length (client_events history) ≤ length history
unfolding client_events
client_events-length history = filter_map-length act_in history

-- no more commands than events
pub issued-length : (history : List Event) → length (issued history) ≤ length history
unfolding issued
issued-length history = filter_map-length command_in history
