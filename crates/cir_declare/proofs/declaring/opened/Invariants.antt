use Rattle.std.proofs.Common.{◌≡◌, ◌≤◌, take, drop, length}
use Rattle.std.specs.Prelude.{◌*◌, ◌^◌, ◌-◌}
use Rattle.cir_meaning.specs.Declaring as D
use Rattle.cir_frame.specs.Missing.{missing_in}
use Rattle.cir_frame.specs.Shown.{signals_of}
use Rattle.cir_declare.proofs.declaring.opened.Given as goal

abbrev pub invariant-loop-n : goal.invariant-loop-n
invariant-loop-n l = record {
  same : length l.signals.items ≡ length l.initial.signals.items;
  rest : drop l.n l.signals.items ≡ drop l.n l.initial.signals.items;
  all : signals_of (take l.n l.signals.items)
      ≡ D.opened (signals_of (take l.n l.initial.signals.items));
  counted : l.missing ≡ missing_in (take l.n l.signals.items);
  few : l.missing ≤ l.n * (2 ^ 64 - 1);
}
