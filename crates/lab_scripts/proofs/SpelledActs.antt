-- What is done at a node has one spelling.
use Rattle.std.proofs.Common.{◌≡◌, ℕ}
use Rattle.std.proofs.Common.{◌<◌, List, codes, Some}
use Rattle.std.proofs.Common.{refl, ap, ◌∙◌}
use Rattle.std.specs.Fmt.{decimal}
use Rattle.quorum_sizes.specs.Sizes.{Counts, AreSizes}
use Rattle.role_commands.specs.Numbers.{wide_number}
use Rattle.role_commands.specs.Reading.{command_of}
use Rattle.role_commands.specs.Words.{spelling, IsCommand}
use Rattle.role_commands.specs.declared.command.Command.{Command}
use Rattle.role_commands.proofs.Exported.{wide_read}
use Rattle.role_commands.proofs.Exported.{wide_spelled}
use Rattle.role_commands.proofs.Exported.{command_of-spelling, command_of_spelled}
use Rattle.role_sessions.specs.declared.event.ClientEvent.{ClientEvent}
use Rattle.role_sessions.specs.declared.event.ClientEvent.TheVariants.{Open, Activate, DropRole, Close}
use Rattle.byz_world.specs.declared.step.Step.TheVariants.{Issue, Client}
use Rattle.lab_scripts.specs.Orders.{session_and_user, session_user_and_role}
use Rattle.lab_scripts.specs.Orders.{order_at_node, order_of_line}
use Rattle.lab_scripts.specs.OrderSpellings.{at_node, two_numbers, three_numbers}
use Rattle.lab_scripts.specs.OrderSpellings.{act_spelling}
use Rattle.lab_scripts.specs.OrderSpellings.{IsAct}
use Rattle.lab_scripts.specs.declared.orders.ScriptLine.TheVariants.{Do}
use Rattle.lab_scripts.proofs.LineNumbers.{session_and_user-numbers, session_user_and_role-numbers}
use Rattle.lab_scripts.proofs.LineNumbers.{session_and_user_spelled, session_user_and_role_spelled}
use Rattle.lab_scripts.proofs.NodeLines.{Said, order_of_line-named}

module _ (s : Counts) (are : AreSizes s) (node : ℕ) (within : node < s.nodes) where
  pub act_read : (act : ClientEvent) → IsAct act → order_of_line s (act_spelling node act) ≡ Some (Do (Client node act))
  unfolding order_at_node
  act_read (Open user) is = order_of_line-named s are node within (codes "open") (decimal user) refl refl refl refl
      ∙ rw (wide_read user is) refl
  act_read (Activate session user role) is =
      order_of_line-named s are node within (codes "activate") (three_numbers session user role) refl refl refl refl
      ∙ rw (session_user_and_role-numbers session user role is.0 is.1 is.2) refl
  act_read (DropRole session user role) is =
      order_of_line-named s are node within (codes "drop") (three_numbers session user role) refl refl refl refl
      ∙ rw (session_user_and_role-numbers session user role is.0 is.1 is.2) refl
  act_read (Close session user) is =
      order_of_line-named s are node within (codes "close") (two_numbers session user) refl refl refl refl
      ∙ rw (session_and_user-numbers session user is.0 is.1) refl

  pub issue_read : (c : Command) → IsCommand c → order_of_line s (at_node (codes "issue") node (spelling c))
      ≡ Some (Do (Issue node c))
  unfolding order_at_node
  issue_read c is =
      order_of_line-named s are node within (codes "issue") (spelling c) refl refl refl refl
      ∙ rw (command_of-spelling c is) refl

-- ---- writing what was read

module _ (s : Counts) (node : ℕ) (within : node < s.nodes) (text : List ℕ) where
  pub issue_said : (c : Command) → command_of text ≡ Some c → Said s node (codes "issue") text (Do (Issue node c))
  issue_said c e =
      let (spelled, fits) = command_of_spelled text c e in
      record { text_is = ap (at_node (codes "issue") node) spelled; is = (within, fits) }

  pub open_said : (user : ℕ) → wide_number text ≡ Some user
      → Said s node (codes "open") text (Do (Client node (Open user)))
  open_said user e =
      let (number, wide) = wide_spelled user text e in
      record { text_is = ap (at_node (codes "open") node) number; is = (within, wide) }

  pub activate_said : (n : ℕ × ℕ × ℕ) → session_user_and_role text ≡ Some n
      → Said s node (codes "activate") text (Do (Client node (Activate n.0 n.1 n.2)))
  activate_said n e =
      let (numbers, long, wide, narrow) = session_user_and_role_spelled text n e in
      record { text_is = ap (at_node (codes "activate") node) numbers; is = (within, (long, wide, narrow)) }

  pub drop_said : (n : ℕ × ℕ × ℕ) → session_user_and_role text ≡ Some n →
      Said s node (codes "drop") text (Do (Client node (DropRole n.0 n.1 n.2)))
  drop_said n e =
      let (numbers, long, wide, narrow) = session_user_and_role_spelled text n e in
      record { text_is = ap (at_node (codes "drop") node) numbers; is = (within, (long, wide, narrow)) }

  pub close_said : (n : ℕ × ℕ) → session_and_user text ≡ Some n →
      Said s node (codes "close") text (Do (Client node (Close n.0 n.1)))
  close_said n e =
      let (numbers, long, wide) = session_and_user_spelled text n e in
      record { text_is = ap (at_node (codes "close") node) numbers; is = (within, (long, wide)) }
