use Rattle.std.proofs.Common.{◌≡◌, take, string_bytes}
use Rattle.lab_scripts.specs.OrderTexts.{permissions_text}
use Rattle.lab_scripts.proofs.order_texts.permissions_text.Given as goal

abbrev pub invariant-loop-operation : goal.invariant-loop-operation
invariant-loop-operation l = string_bytes l.text ≡ permissions_text (take l.operation-index l.permissions)
