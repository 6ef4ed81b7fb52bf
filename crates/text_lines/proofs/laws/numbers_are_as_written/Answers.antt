use Rattle.text_lines.proofs.Numerals.{written_again, is_written}
use Rattle.text_lines.proofs.laws.numbers_are_as_written.Goals as goal

pub returns-clause-read : goal.returns-clause-read
returns-clause-read c = written_again

pub returns-clause-written : goal.returns-clause-written
returns-clause-written c = is_written
