use Rattle.lab_scripts.proofs.Spelled.{sizes_of_line-spelling, sizes_of_line_spelled}
use Rattle.lab_scripts.proofs.Spelled.{take_of_line-spelling, take_of_line_spelled}
use Rattle.lab_scripts.proofs.laws.one_spelling.Goals as goal

pub returns-clause-sizes_read : goal.returns-clause-sizes_read
returns-clause-sizes_read c = sizes_of_line-spelling

pub returns-clause-sizes_spelled : goal.returns-clause-sizes_spelled
returns-clause-sizes_spelled c = sizes_of_line_spelled

pub returns-clause-takes_read : goal.returns-clause-takes_read
returns-clause-takes_read c = take_of_line-spelling

pub returns-clause-takes_spelled : goal.returns-clause-takes_spelled
returns-clause-takes_spelled c = take_of_line_spelled
