-- Nothing is outstanding where nothing was sent at the places that are open.
use Rattle.std.proofs.Common.{◌≡◌, ℕ, ◌+◌, List, [], ◌∷◌, ◌++◌, length, refl, ap, sym, ◌∙◌}
use Rattle.std.proofs.Common.{arith, length-append}
use Rattle.std.specs.Prelude.{◌==◌, ◌&&◌, Option, Some, None}
use Rattle.std.specs.List.{flat_map, list_all, range_with_len}
use Rattle.std.proofs.lemmas.Bool.Decides.{nat_tests}
use Rattle.role_commands.specs.declared.command.Command.{Command}
use Rattle.link_frames.specs.declared.frames.packet.Message.{Message}
use Rattle.owner_streams.specs.Places.{window}
use Rattle.role_node.specs.Windows.{messages_of, is_nothing, has_nothing_open}
use Rattle.role_node.specs.declared.event.NodeAgain.{NodeAgain}
use Rattle.node_lock.specs.Holds.{Held}
use Rattle.peer_windows.specs.Sent.{reach_of, sent_there, outstanding_of}

none_sent_of : (owner place : ℕ) (send echo ready : Option Command) →
    let sent : NodeAgain = record { send = send; echo = echo; ready = ready } in
    is_nothing sent ≡ (length (messages_of owner place sent) == 0)
none_sent_of owner place None None None = refl
none_sent_of owner place None None (Some r) = refl
none_sent_of owner place None (Some e) None = refl
none_sent_of owner place None (Some e) (Some r) = refl
none_sent_of owner place (Some c) None None = refl
none_sent_of owner place (Some c) None (Some r) = refl
none_sent_of owner place (Some c) (Some e) None = refl
none_sent_of owner place (Some c) (Some e) (Some r) = refl

none_sent : (owner place : ℕ) (sent : NodeAgain) → is_nothing sent ≡ (length (messages_of owner place sent) == 0)
none_sent owner place sent = none_sent_of owner place sent.send sent.echo sent.ready

none_of_both : (m n : ℕ) → (m + n == 0) ≡ ((m == 0) && (n == 0))
none_of_both m n = grind (arith, nat_tests)

none_sent_at : (h : Held) (owner : ℕ) (places : List ℕ) →
    list_all (λ at. is_nothing (sent_there h owner at)) places ≡
    (length (flat_map (λ at. messages_of owner at (sent_there h owner at)) places) == 0)
none_sent_at h owner [] = refl
none_sent_at h owner (place ∷ places) =
    let f : ℕ → List Message = λ at. messages_of owner at (sent_there h owner at) in
    let here = none_sent owner place (sent_there h owner place) in
    let rest = none_sent_at h owner places in
    let all : length (f place ++ flat_map f places) ≡ length (f place) + length (flat_map f places) =
    length-append (f place) (flat_map f places) in
    ap (λ b. b && list_all (λ at. is_nothing (sent_there h owner at)) places) here
    ∙ ap (λ b. (length (f place) == 0) && b) rest
    ∙ sym (ap (λ n. n == 0) all ∙ none_of_both (length (f place)) (length (flat_map f places)))

pub none_outstanding : (h : Held) (owner count : ℕ) → count ≡ outstanding_of h owner →
    (count == 0) ≡ has_nothing_open h.node.config.roles.sizes h.node.me h.node.history owner
none_outstanding h owner count is =
    ap (λ n. n == 0) is
    ∙ sym (none_sent_at h owner (range_with_len (reach_of h owner) window))
