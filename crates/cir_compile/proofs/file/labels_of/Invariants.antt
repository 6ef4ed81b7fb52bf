use Rattle.std.proofs.Common.{◌≡◌, take}
use Rattle.cir_compile.proofs.file.labels_of.Given as goal

abbrev pub invariant-loop-signal : goal.invariant-loop-signal
invariant-loop-signal l = l.labels.items ≡ take l.signal-index l.signals
