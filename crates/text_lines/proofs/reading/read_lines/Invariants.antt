use Rattle.std.proofs.Common.{◌≡◌, length}
use Rattle.text_lines.specs.Lines.{lines_of}
use Rattle.text_lines.specs.Reading.{reading}
use Rattle.text_lines.proofs.Steps.{behind, said_behind}
use Rattle.text_lines.proofs.reading.read_lines.Given as goal

abbrev pub invariant-loop-before : goal.invariant-loop-before
invariant-loop-before g l = record {
  said : behind g.T.Line.form l.limit l.values.items
      (said_behind g.T.Line.form l.limit l.before (lines_of l.rest))
      ≡ reading g.T.Line.form l.limit l.fn.text;
  few : length l.values.items ≡ l.before;
}
