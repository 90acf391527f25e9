use Rattle.std.specs.Fmt.{decimal}
use Rattle.lab_scripts.proofs.order_texts.answer_text.Given as goal

abbrev pub ghost-numbers_text : goal.ghost-numbers_text
ghost-numbers_text a = decimal

abbrev pub ghost-numbers_text-2 : goal.ghost-numbers_text-2
ghost-numbers_text-2 a = decimal
