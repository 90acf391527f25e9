use Rattle.operator_lines.proofs.text.command_text.Goals as goal

pub returns-in-Assign : goal.returns-in-Assign
returns-in-Assign c = rw c.in-Assign.is c.user_text.ensures

pub returns-in-Deassign : goal.returns-in-Deassign
returns-in-Deassign c = rw c.in-Deassign.is c.user_text-in-Deassign.ensures

pub returns-in-Clear : goal.returns-in-Clear
returns-in-Clear c = rw c.in-Clear.is c.clear_text.ensures
