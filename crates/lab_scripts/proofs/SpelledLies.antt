-- A line `lie` has one spelling.
use Rattle.std.proofs.Common.{◌≡◌, ℕ}
use Rattle.std.proofs.Common.{List, ◌∷◌, ◌++◌, Some, sym}
use Rattle.std.proofs.Common.{ap, arith, ◌∙◌, append_assoc, subst}
use Rattle.std.proofs.lemmas.Option.{option_and_then_some}
use Rattle.std.specs.Fmt.{decimal}
use Rattle.quorum_sizes.specs.Sizes.{Counts, AreSizes}
use Rattle.role_commands.specs.Words.{spelling}
use Rattle.role_commands.proofs.Exported.{command_of-spelling, command_of_spelled}
use Rattle.role_commands.specs.Numbers.{space}
use Rattle.link_frames.specs.frames.Packets.{PacketValue, IsSound, packet_of}
use Rattle.link_frames.specs.declared.frames.packet.Message.{Message}
use Rattle.link_frames.proofs.Exported.{due_takes, due_again}
use Rattle.lab_scripts.specs.Orders.{node_number, kind_of}
use Rattle.lab_scripts.specs.Orders.{lie_of}
use Rattle.lab_scripts.specs.OrderSpellings.{packet_spelling}
use Rattle.lab_scripts.specs.OrderSpellings.{IsLie}
use Rattle.lab_scripts.specs.Texts.{kind_word}
use Rattle.lab_scripts.proofs.LineNames.{node_read, node_rest_spelled, kind_read, plain_kind}
use Rattle.lab_scripts.proofs.LineNames.{kind_spelled, then_rest-word, then_rest-decimal, then_rest_is}
use Rattle.lab_scripts.proofs.LineNumbers.{wide_rest, wide_rest_spelled}

-- `KIND FROM TO OWNER PLACE C`, where the spaces stand
packet-grouped : (p : PacketValue) → packet_spelling p
    ≡ kind_word p.kind ++
    (space ∷ (decimal p.from ++ (space ∷ (decimal p.to ++ (space ∷ (decimal p.owner ++ (space ∷ (decimal p.place
    ++ (space ∷ spelling p.command)))))))))
packet-grouped p = simp append_assoc

pub lie_read : (s : Counts) (p : PacketValue) → AreSizes s → IsLie s p → lie_of s (packet_spelling p) ≡ Some p
unfolding lie_of
lie_read s p are is =
    let place_text = decimal p.place ++ (space ∷ spelling p.command) in
    let owner_text = decimal p.owner ++ (space ∷ place_text) in
    let to_text = decimal p.to ++ (space ∷ owner_text) in
    let from_text = decimal p.from ++ (space ∷ to_text) in
    ap (lie_of s) (packet-grouped p)
    ∙ rw (then_rest-word kind_of p.kind (kind_word p.kind) from_text (plain_kind p.kind) (kind_read p.kind))
    (rw (then_rest-decimal (node_number s) p.from p.from to_text (omega (arith, is.from, are.0))
    (node_read s p.from are is.from))
    (rw (then_rest-decimal (node_number s) p.to p.to owner_text (omega (arith, is.to, are.0))
    (node_read s p.to are is.to))
    (rw (then_rest-decimal (node_number s) p.owner p.owner place_text (omega (arith, is.owner, are.0))
    (node_read s p.owner are is.owner))
    (rw (wide_rest p.place (spelling p.command) (omega (arith, is.packet.1)))
    (rw (command_of-spelling p.command is.packet.2) (due_again p (is.packet.0, is.packet.1)))))))

pub lie_spelled : (s : Counts) (text : List ℕ) (p : PacketValue) → lie_of s text ≡ Some p
    → (text ≡ packet_spelling p) × IsLie s p
unfolding lie_of
lie_spelled s text p e =
    option_and_then_some _ _ _ e (λ kind is_kind read_from.
    option_and_then_some _ _ _ read_from (λ from is_from read_to.
    option_and_then_some _ _ _ read_to (λ to is_to read_owner.
    option_and_then_some _ _ _ read_owner (λ owner is_owner read_place.
    option_and_then_some _ _ _ read_place (λ place is_place read_command.
    option_and_then_some _ _ _ read_command (λ command is_command due.
    let (word, cut_kind, named) = then_rest_is kind_of text kind is_kind in
    let (cut_from, from_within) = node_rest_spelled s kind.1 from is_from in
    let (cut_to, to_within) = node_rest_spelled s from.1 to is_to in
    let (cut_owner, owner_within) = node_rest_spelled s to.1 owner is_owner in
    let cut_place = (wide_rest_spelled owner.1 place is_place).0 in
    let (spelled, fits) = command_of_spelled place.1 command is_command in
    let m : Message = record { kind = kind.0; owner = owner.0; place = place.0; command = command } in
    let (same, sound) = due_takes from.0 to.0 m p due in
    let last : owner.1 ≡ decimal place.0 ++ (space ∷ spelling command) =
    cut_place ∙ ap (λ w. decimal place.0 ++ (space ∷ w)) spelled in
    let text_is : text ≡ packet_spelling (packet_of from.0 to.0 m) =
    cut_kind ∙ ap (λ w. w ++ (space ∷ kind.1)) (kind_spelled kind.0 word named)
    ∙ ap (λ w. kind_word kind.0 ++ (space ∷ w)) (cut_from ∙ ap (λ w. decimal from.0 ++ (space ∷ w))
    (cut_to ∙ ap (λ w. decimal to.0 ++ (space ∷ w)) (cut_owner ∙ ap (λ w. decimal owner.0 ++ (space ∷ w)) last)))
    ∙ sym (packet-grouped (packet_of from.0 to.0 m)) in
    let lie : IsLie s (packet_of from.0 to.0 m) = record {
      from = from_within;
      to = to_within;
      owner = owner_within;
      packet = let (owns, in_range) = subst IsSound (sym same) sound in (owns, in_range, fits);
    } in
    (text_is ∙ ap packet_spelling same, subst (IsLie s) same lie)))))))
