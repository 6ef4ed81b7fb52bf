use Rattle.text_lines.proofs.Pieces.{written_again}
use Rattle.text_lines.proofs.laws.written_lines_are_read.Goals as goal

pub returns : goal.returns
returns c = written_again
