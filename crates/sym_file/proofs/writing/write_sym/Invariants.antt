use Rattle.std.proofs.Common.{◌≤◌, ◌+◌}
use Rattle.sym_file.specs.Table.{IsSplit, HasWritten}
use Rattle.sym_file.proofs.writing.write_sym.Given as goal

abbrev pub invariant-loop-place : goal.invariant-loop-place
invariant-loop-place l = record {
  within : l.next ≤ l.place + 1;
  split : IsSplit l.wires l.next (l.place + 1);
  text : HasWritten l.signals l.instances l.wires l.place l.text.items;
}
