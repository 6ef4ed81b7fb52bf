-- The circuit of a program and its code, as main's execution leaves them.
use Rattle.std.specs.Prelude.{◌≡◌, ◌++◌, Result, Ok, Err}
use Rattle.cir_ast.specs.Program.{Main, Program}
use Rattle.cir_meaning.specs.Compile as M
use Rattle.cir_meaning.specs.Compile.{compiled}
use Rattle.cir_meaning.specs.Frame.{Sizes}
use Rattle.cir_arrays.specs.declared.stop.Fault.{Fault}
use Rattle.cir_arrays.specs.Stopped.{IsRefusal}
use Rattle.cir_frame.specs.Shown.{signals_of}
use Rattle.cir_inst.specs.Compiled as I
use Rattle.cir_inst.specs.Compiled.{IsWithinLimits}
use Rattle.cir_inst.specs.declared.circuit.Circuit.{Circuit as Instantiated}
use Rattle.cir_inst.specs.declared.circuit.InstFault.{InstFault}
use Rattle.cir_scope.specs.Counted.{AreCounted}
use Rattle.cir_scope.specs.Runnable.{AreRunnable}
use Rattle.cir_steps.specs.Circuit.{Circuit, circuit_of, start_cells}
use Rattle.wit_circuit.specs.Whole.{IsCircuitOf}
use Rattle.wit_circuit.specs.declared.code.CircuitCode.{CircuitCode}
use Rattle.cir_make.specs.declared.whole.Cast.{Cast}
use Rattle.cir_make.specs.declared.whole.Made.{Made}
use Rattle.cir_make.specs.Cells.{AreMade, wires_by}
use Rattle.cir_make.specs.Shows.{keys_of}
use Rattle.cir_homes.specs.Filled.{homes_by}
use Rattle.cir_homes.specs.Homed.{signal_homes}

-- what main's body gives is the program's circuit
pub record IsCoded (p : Program) (m : Main) (sizes : Sizes) (made : Made) (c : Cast) (b : Circuit)
    : Type 0 where
  pub emitted : circuit_of p ≡ Ok b
  pub steps : AreMade (keys_of made) b.steps c.steps.items
  pub cells : made.next ≡ b.cells
  pub starts : start_cells m (wires_by c.ports.items) (signals_of c.signals.items) ≡ b.starts
  pub homes : homes_by sizes (signal_homes c.signals.items c.ports.items ++ c.inside.items)
      ≡ b.homes

-- the circuit is the meaning's, and the code that of its steps
pub record IsBoth (p : Program) (c : Instantiated) (code : CircuitCode) : Type 0 where
  pub circuit : M.Circuit
  pub compiles : compiled p ≡ Ok circuit
  pub instantiated : I.IsCircuitOf circuit c
  pub fits : IsWithinLimits c
  pub coded : AreCounted p → AreRunnable p → IsCircuitOf p code

abbrev pub Codes : Program → Result (Instantiated × CircuitCode) Fault → Type 0
Codes p (Ok x) = IsBoth p x.0 x.1
Codes p (Err f) = IsRefusal f (compiled p)

-- the circuit alone
abbrev pub circuit_in : Result (Instantiated × CircuitCode) InstFault
    → Result Instantiated InstFault
circuit_in (Ok x) = Ok x.0
circuit_in (Err f) = Err f
