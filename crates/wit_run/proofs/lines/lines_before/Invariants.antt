use Rattle.std.proofs.Common.{◌≡◌, take}
use Rattle.wit_run.specs.Lines.{cells_in, lines_before}
use Rattle.wit_run.proofs.lines.lines_before.Given as goal

abbrev pub invariant-loop-log : goal.invariant-loop-log
invariant-loop-log l =
    l.lines.items ≡ lines_before l.step (cells_in l.held) (take l.log-index l.logs)
