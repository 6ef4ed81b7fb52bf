use Rattle.sym_file.proofs.Lines.{symbols_again}
use Rattle.sym_file.proofs.laws.written_lines_are_read.Goals as goal

pub returns : goal.returns
returns c = symbols_again
