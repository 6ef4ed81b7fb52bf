use Rattle.std.proofs.Common.{◌≡◌, ◌+◌, ◌++◌, length}
use Rattle.wit_circuit.specs.Whole.{codes_of}
use Rattle.wit_circuit.proofs.Making.{places_of, logs_of}
use Rattle.wit_circuit.proofs.code.CircuitCode.of.Given as goal

abbrev pub invariant-loop-step : goal.invariant-loop-step
invariant-loop-step l = record {
  each : length l.steps.items + length l.step-iterator.rest.items ≡ length l.fn.made.items;
  codes : l.steps.items ++ codes_of l.step-iterator.rest.items ≡ codes_of l.fn.made.items;
  places : l.places.items ++ places_of l.step-iterator.rest.items ≡ places_of l.fn.made.items;
  logs : l.logs.items ++ logs_of (length l.steps.items) l.step-iterator.rest.items
      ≡ logs_of 0 l.fn.made.items;
}
