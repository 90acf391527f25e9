-- What a history consists of, and what one more event adds to what shares are about.
use Rattle.std.proofs.Common.{◌≡◌, ℕ, ◌+◌, true, List, [], ◌∷◌, ◌++◌, length, Result, Ok, Err, ap, ◌∙◌, arith}
use Rattle.std.proofs.Common.{refl, length-append}
use Rattle.std.specs.FinMap as map
use Rattle.link_frames.specs.frames.Packets.{PacketValue}
use Rattle.bracha_instance.specs.declared.instance.Effect.{Effect}
use Rattle.bracha_instance.specs.declared.instance.Effect.TheVariants as effect
use Rattle.role_commands.specs.declared.command.Command.{Command}
use Rattle.role_sessions.specs.Sessions.{state_of}
use Rattle.role_sessions.specs.declared.event.ClientEvent.{ClientEvent}
use Rattle.role_node.specs.Answers.{outlook, outlook_with_room, answered, answer_due, reply_to, is_recorded}
use Rattle.role_node.specs.Configs.{ConfigValue}
use Rattle.role_node.specs.Histories.{issued, packets, client_events}
use Rattle.role_node.specs.declared.event.Event.{Event}
use Rattle.role_node.specs.declared.event.Event.TheVariants as event
use Rattle.role_node.specs.declared.event.Reply.{Reply}
use Rattle.role_node.specs.declared.faults.NodeFault.{NodeFault}
use Rattle.role_node.proofs.Exported.{counted_with_room, issued-Issue, client_events-Client}
use Rattle.role_node.proofs.Exported.{client_events-Issue, client_events-Take}
use Rattle.owner_shares.specs.Laws.{open_count}

pub parts : (history : List Event) →
    length history ≡ length (issued history) + length (client_events history) + length (packets history)
unfolding issued client_events packets
parts [] = omega arith
parts (event.Issue c ∷ history) = omega (arith, parts history)
parts (event.Take p ∷ history) = omega (arith, parts history)
parts (event.Client act ∷ history) = omega (arith, parts history)

pub one_more_issued : (history : List Event) (c : Command) →
    length (issued (history ++ event.Issue c ∷ [])) ≡ length (issued history) + 1
one_more_issued history c = ap length (issued-Issue history c) ∙ length-append (issued history) (c ∷ [])

pub one_more_act : (history : List Event) (act : ClientEvent) →
    length (client_events (history ++ event.Client act ∷ [])) ≡ length (client_events history) + 1
one_more_act history act =
    ap length (client_events-Client history act) ∙ length-append (client_events history) (act ∷ [])

pub open_count-Issue : (history : List Event) (c : Command) →
    open_count (history ++ event.Issue c ∷ []) ≡ open_count history
open_count-Issue history c = ap (λ acts. map.len (state_of acts).open_sessions) (client_events-Issue history c)

pub open_count-Take : (history : List Event) (p : PacketValue) →
    open_count (history ++ event.Take p ∷ []) ≡ open_count history
open_count-Take history p = ap (λ acts. map.len (state_of acts).open_sessions) (client_events-Take history p)

pub open_count-Client : (history : List Event) (act : ClientEvent) →
    open_count (history ++ event.Client act ∷ [])
    ≡ map.len (state_of (client_events history ++ act ∷ [])).open_sessions
open_count-Client history act =
    ap (λ acts. map.len (state_of acts).open_sessions) (client_events-Client history act)

recorded_counts : (o : Result Effect NodeFault) (r : Reply) → is_recorded (answered o r) ≡ true → o ≡ Ok effect.Counted
recorded_counts (Ok effect.Idle) r e = absurd cc
recorded_counts (Ok effect.Counted) r e = refl
recorded_counts (Err f) r e = absurd cc

-- an event that is recorded counts, room in the history apart
pub counts_with_room : (config : ConfigValue) (me : ℕ) (history : List Event) (e : Event) →
    is_recorded (answer_due config me history e) ≡ true →
    outlook_with_room config.roles me history e ≡ Ok effect.Counted
counts_with_room config me history e recorded =
    let counts : outlook config me history e ≡ Ok effect.Counted =
    recorded_counts _ (reply_to config.roles me history e) recorded in
    (counted_with_room config me history e counts).1
