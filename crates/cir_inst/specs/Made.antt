-- What the execution of main leaves, and what a program compiles to.
use Rattle.std.specs.Prelude.{◌≡◌, List, Result, Ok, Err}
use Rattle.cir_ast.specs.Program.{Program}
use Rattle.cir_frame.specs.declared.world.World.{World}
use Rattle.cir_arrays.specs.declared.stop.Fault.{Fault}
use Rattle.cir_arrays.specs.declared.stop.Fault.TheVariants as fault
use Rattle.cir_arrays.specs.Stopped.{IsRefusal, refused_of}
use Rattle.cir_frame.specs.Shown.{world_of}
use Rattle.cir_meaning.specs.Source.{Equation}
use Rattle.cir_meaning.specs.Tried.{Tried}
use Rattle.cir_meaning.specs.Frame as M
use Rattle.cir_meaning.specs.Compile as C
use Rattle.cir_meaning.specs.Compile.{group_size, refusal_of}
use Rattle.cir_meaning.specs.Dependence.{IsAllDeclared, IsFew}
use Rattle.cir_assign.specs.Leads.{IsListed}
use Rattle.cir_inst.specs.declared.circuit.Circuit.{Circuit}
use Rattle.cir_inst.specs.declared.circuit.InstFault.{InstFault}
use Rattle.cir_inst.specs.declared.circuit.InstFault.TheVariants.{Refused, OutOfMemory}
use Rattle.cir_inst.specs.Compiled.{IsCircuitOf}

-- the world that is made, with its equations
pub record IsMade (es : List Equation) (w : World) : Type 0 where
  pub listed : IsListed es w
  pub declared : IsAllDeclared group_size (world_of w es)
  pub few : IsFew group_size (world_of w es)

abbrev pub Makes : Result World Fault → Tried (M.Signals × M.World) → Type 0
Makes (Ok w) m =
    (es : List Equation) × (signals : M.Signals) × (m ≡ Ok (signals, world_of w es)) × IsMade es w
Makes (Err f) m = IsRefusal f m

abbrev pub Compiles : Result Circuit Fault → Tried C.Circuit → Type 0
Compiles (Ok c) m = (x : C.Circuit) × (m ≡ Ok x) × IsCircuitOf x c
Compiles (Err f) m = IsRefusal f m

-- the refusal as a user sees it, or want of memory
abbrev pub Shows : Program → Fault → InstFault → Type 0
Shows p (fault.Refused stop) (Refused r) = refusal_of p (refused_of stop) ≡ r
Shows p fault.OutOfMemory (Refused r) = ⊥
Shows p f OutOfMemory = Unit {0}
