use Rattle.std.proofs.Common.{◌≡◌, take}
use Rattle.cir_symbols.proofs.symbols.signals_at.Given as goal

-- those of the labels so far
abbrev pub invariant-loop-label : goal.invariant-loop-label
invariant-loop-label l = l.signals.items ≡ take l.label-index l.labels
