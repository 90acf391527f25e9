-- A line that is not bad is text.
use Rattle.std.proofs.Common.{◌≡◌, ℕ, true, refl, ◌<◌, ◌≤◌, ◌^◌, nat_lt, List, ◌++◌, codes, Some, arith, subst, sym}
use Rattle.std.proofs.lemmas.Str.{IsUtf8-from_ascii}
use Rattle.std.specs.List.{list_all}
use Rattle.std.specs.Str.{IsUtf8}
use Rattle.quorum_sizes.specs.Sizes.{Counts, AreSizes, most_nodes}
use Rattle.role_commands.specs.Words.{IsCommand}
use Rattle.role_commands.specs.declared.command.Command.{Command}
use Rattle.role_commands.proofs.Exported.{Ascii, word_text, number, ◌then◌, space_text, command_text}
use Rattle.link_frames.specs.frames.Packets.{PacketValue}
use Rattle.link_frames.specs.declared.frames.kind.Kind.{Kind}
use Rattle.link_frames.specs.declared.frames.kind.Kind.TheVariants.{Send, Echo, Ready}
use Rattle.bracha_instance.specs.Broadcast.{Take}
use Rattle.role_sessions.specs.declared.event.ClientEvent.{ClientEvent}
use Rattle.role_sessions.specs.declared.event.ClientEvent.TheVariants.{Open, Activate, DropRole, Close}
use Rattle.role_node.specs.declared.question.Question.{Question}
use Rattle.role_node.specs.declared.question.Question.TheVariants.{Check, AssignedUsers, AssignedRoles}
use Rattle.role_node.specs.declared.question.Question.TheVariants.{RolePermissions, UserPermissions, RoleOperations}
use Rattle.role_node.specs.declared.question.Question.TheVariants.{UserOperations, SessionRoles, SessionPermissions}
use Rattle.byz_world.specs.declared.step.Step.{Step}
use Rattle.byz_world.specs.declared.step.Step.TheVariants.{Issue, Give, Lie, Bytes, Client}
use Rattle.lab_scripts.specs.Grammar.{sizes_of_line, take_of_line}
use Rattle.lab_scripts.specs.Orders.{cluster_of_line, setup_of_line, order_of_line}
use Rattle.lab_scripts.specs.Spellings.{sizes_spelling, said_spelling}
use Rattle.lab_scripts.specs.OrderSpellings.{cluster_spelling, setup_spelling, at_node, packet_spelling, act_spelling}
use Rattle.lab_scripts.specs.OrderSpellings.{question_spelling, bytes_spelling, step_spelling, order_spelling}
use Rattle.lab_scripts.specs.OrderSpellings.{IsSetup, IsAct, IsQuestion, IsLie, IsStep, IsOrder, SpellsOrder}
use Rattle.lab_scripts.specs.Texts.{kind_word}
use Rattle.lab_scripts.specs.declared.orders.SetupLine.{SetupLine}
use Rattle.lab_scripts.specs.declared.orders.SetupLine.TheVariants.{Owned, Liar}
use Rattle.lab_scripts.specs.declared.orders.ScriptLine.{ScriptLine}
use Rattle.lab_scripts.specs.declared.orders.ScriptLine.TheVariants.{Do, Flush, Settle, Rest, Ask, Reach, Agree}
use Rattle.lab_scripts.proofs.LineNumbers.{two_text, three_text}
use Rattle.lab_scripts.proofs.Spelled.{sizes_of_line_spelled, take_of_line_spelled}
use Rattle.lab_scripts.proofs.SpelledBytes.{bytes_text, spelling_spells}
use Rattle.lab_scripts.proofs.SpelledOrders.{order_of_line_spelled}
use Rattle.lab_scripts.proofs.SpelledSetups.{cluster_of_line_spelled, setup_of_line_spelled}

-- ---- a script of one instance

said_text : (kind : Kind) (from : ℕ) (c : Command) → from < 2 ^ 32 → IsCommand c → Ascii (said_spelling kind from c)
said_text Send from c small is = word_text (codes "send ") refl then command_text c is
said_text Echo from c small is = word_text (codes "echo ") refl then number from (omega arith) then space_text
    then command_text c is
said_text Ready from c small is = word_text (codes "ready ") refl then number from (omega arith) then space_text
    then command_text c is

pub first_line-text : (line : List ℕ) (s : Counts) → sizes_of_line line ≡ Some s → IsUtf8 line
first_line-text line s e =
    let spelled = sizes_of_line_spelled line s e in
    let ascii : Ascii (sizes_spelling s) =
    word_text (codes "instance ") refl then number s.nodes (omega arith) then space_text
    then number s.liars (omega arith) in
    subst IsUtf8 (sym spelled.0) (IsUtf8-from_ascii _ ascii.is)

pub later_line-text : (s : Counts) (line : List ℕ) (t : Take) → AreSizes s → take_of_line s line ≡ Some t → IsUtf8 line
later_line-text s line t are e =
    let spelled = take_of_line_spelled s line t e in
    subst IsUtf8 (sym spelled.0)
    (IsUtf8-from_ascii _ (said_text t.kind t.from t.command (omega (arith, spelled.1.0.0)) spelled.1.1).is)

-- ---- a script of a cluster

module _ (node : ℕ) (small : node < 2 ^ 64) where
  at_node_text : (name text : List ℕ) → list_all (λ b. nat_lt b 128) name ≡ true → Ascii text →
      Ascii (at_node name node text)
  at_node_text name text e ascii = word_text name e then space_text then number node small then space_text then ascii

  act_text : (act : ClientEvent) → IsAct act → Ascii (act_spelling node act)
  act_text (Open user) is = at_node_text (codes "open") _ refl (number user (omega arith))
  act_text (Activate session user role) is =
      at_node_text (codes "activate") _ refl (three_text session user role is.0 (omega arith) (omega arith))
  act_text (DropRole session user role) is =
      at_node_text (codes "drop") _ refl (three_text session user role is.0 (omega arith) (omega arith))
  act_text (Close session user) is = at_node_text (codes "close") _ refl (two_text session user is.0 (omega arith))

  listing_text : (name text : List ℕ) → list_all (λ b. nat_lt b 128) name ≡ true → Ascii text
      → Ascii (at_node (codes "list") node (name ++ text))
  listing_text name text e ascii = at_node_text (codes "list") (name ++ text) refl (word_text name e then ascii)

  question_text : (q : Question) → IsQuestion q → Ascii (question_spelling node q)
  question_text (Check session user operation object) is =
      at_node_text (codes "check") _ refl
      (number session is.0 then space_text
      then three_text user operation object (omega arith) (omega arith) (omega arith))
  question_text (AssignedUsers role) is = listing_text (codes "users ") _ refl (number role (omega arith))
  question_text (AssignedRoles user) is = listing_text (codes "roles ") _ refl (number user (omega arith))
  question_text (RolePermissions role) is = listing_text (codes "permissions ") _ refl (number role (omega arith))
  question_text (UserPermissions user) is = listing_text (codes "user-permissions ") _ refl (number user (omega arith))
  question_text (RoleOperations role object) is =
      listing_text (codes "operations ") _ refl (two_text role object (omega arith) (omega arith))
  question_text (UserOperations user object) is =
      listing_text (codes "user-operations ") _ refl (two_text user object (omega arith) (omega arith))
  question_text (SessionRoles session) is = listing_text (codes "session-roles ") _ refl (number session is)
  question_text (SessionPermissions session) is = listing_text (codes "session-permissions ") _ refl (number session is)

kind_text : (kind : Kind) → Ascii (kind_word kind)
kind_text Send = word_text (codes "send") refl
kind_text Echo = word_text (codes "echo") refl
kind_text Ready = word_text (codes "ready") refl

packet_text : (s : Counts) (p : PacketValue) → s.nodes ≤ most_nodes → IsLie s p → Ascii (packet_spelling p)
packet_text s p few is =
    kind_text p.kind then space_text
    then three_text p.from p.to p.owner (omega (arith, is.from)) (omega (arith, is.to)) (omega (arith, is.owner))
    then space_text then number p.place (omega (arith, is.packet.1))
    then space_text then command_text p.command is.packet.2

step_text : (s : Counts) (step : Step) → s.nodes ≤ most_nodes → IsStep s step → Ascii (step_spelling step)
step_text s (Issue node c) few is = at_node_text node (omega (arith, is.0)) (codes "issue") _ refl (command_text c is.1)
step_text s (Give k) few is = word_text (codes "give ") refl then number k (omega arith)
step_text s (Lie p) few is = word_text (codes "lie ") refl then packet_text s p few is
step_text s (Bytes to bytes) few is =
    at_node_text to (omega (arith, is.0)) (codes "bytes") (bytes_spelling bytes) refl
    (bytes_text (bytes_spelling bytes) bytes (spelling_spells bytes is.1))
step_text s (Client node act) few is = act_text node (omega (arith, is.0)) act is.1

order_text : (s : Counts) (order : ScriptLine) → s.nodes ≤ most_nodes → IsOrder s order → Ascii (order_spelling order)
order_text s (Do step) few is = step_text s step few is
order_text s Flush few is = word_text (codes "flush") refl
order_text s Settle few is = word_text (codes "settle") refl
order_text s Rest few is = word_text (codes "rest") refl
order_text s (Ask node q) few is = question_text node (omega (arith, is.0)) q is.1
order_text s (Reach node owner) few is =
    at_node_text node (omega (arith, is.0)) (codes "reach") _ refl (number owner (omega (arith, is.1)))
order_text s (Agree one other owner) few is =
    at_node_text one (omega (arith, is.0)) (codes "agree") _ refl
    (two_text other owner (omega (arith, is.1)) (omega (arith, is.2)))

order_line_text : (s : Counts) (line : List ℕ) (order : ScriptLine) → s.nodes ≤ most_nodes → IsOrder s order
    → SpellsOrder order line → Ascii line
order_line_text s line (Do (Bytes to bytes)) few is spells =
    subst Ascii (sym spells.1)
    (at_node_text to (omega (arith, is.0)) (codes "bytes") spells.0 refl (bytes_text spells.0 bytes spells.2))
order_line_text s line order few is spells = subst Ascii (sym spells) (order_text s order few is)

setup_text : (s : Counts) (setup : SetupLine) → s.nodes ≤ most_nodes → IsSetup s setup → Ascii (setup_spelling setup)
setup_text s (Owned role owner) few is =
    word_text (codes "role ") refl then number role (omega (arith, is.0)) then space_text
    then number owner (omega (arith, is.1))
setup_text s (Liar node) few is = word_text (codes "liar ") refl then number node (omega (arith, is))

pub cluster_line-text : (line : List ℕ) (s : Counts) → cluster_of_line line ≡ Some s → IsUtf8 line
cluster_line-text line s e =
    let (line_is, are) = cluster_of_line_spelled line s e in
    let ascii : Ascii (cluster_spelling s) =
    word_text (codes "cluster ") refl then number s.nodes (omega arith) then space_text
    then number s.liars (omega arith) in
    subst IsUtf8 (sym line_is) (IsUtf8-from_ascii _ ascii.is)

pub setup_line-text : (s : Counts) (line : List ℕ) (setup : SetupLine) → AreSizes s → setup_of_line s line ≡ Some setup
    → IsUtf8 line
setup_line-text s line setup are e =
    let (line_is, is) = setup_of_line_spelled s line setup e in
    subst IsUtf8 (sym line_is) (IsUtf8-from_ascii _ (setup_text s setup are.0 is).is)

pub order_line-text : (s : Counts) (line : List ℕ) (order : ScriptLine) → AreSizes s → order_of_line s line ≡ Some order
    → IsUtf8 line
order_line-text s line order are e =
    let (spells, is) = order_of_line_spelled s line order e in
    IsUtf8-from_ascii line (order_line_text s line order are.0 is spells).is
