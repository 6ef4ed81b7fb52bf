use Rattle.sym_file.proofs.Lines.{said_just}
use Rattle.sym_file.proofs.laws.lines_say_their_parts.Goals as goal

pub returns : goal.returns
returns c = said_just
