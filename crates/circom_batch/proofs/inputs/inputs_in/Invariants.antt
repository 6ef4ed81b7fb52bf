use Rattle.std.proofs.Common.{◌≤◌, All, length, take}
use Rattle.std.specs.List.{AllZip}
use Rattle.circom_batch.specs.Inputs.{IsEntry, IsInput}
use Rattle.circom_batch.proofs.inputs.inputs_in.Given as goal

abbrev pub invariant-loop-line : goal.invariant-loop-line
invariant-loop-line l = record {
  entries : AllZip (λ line entry. IsEntry l.signals.inputs l.starts.items line.now entry)
      (take l.line-index l.lines) l.entries.items;
  starts : All (λ start. IsInput l.signals.inputs start.items) l.starts.items;
  few : length l.starts.items ≤ l.line-index;
}
