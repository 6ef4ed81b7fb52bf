-- What the execution of statements leaves, as the meaning has it.
use Rattle.std.specs.Prelude.{◌≡◌, List, Result, Ok, Err}
use Rattle.cir_values.specs.declared.operators.Side.{Side}
use Rattle.cir_values.specs.Meant.{meant_side}
use Rattle.cir_meaning.specs.Source.{Equation}
use Rattle.cir_meaning.specs.Tried.{Tried}
use Rattle.cir_meaning.specs.Values.{Value, side_of}
use Rattle.cir_meaning.specs.Frame.{State}
use Rattle.cir_meaning.specs.Statement.{Flow, Going, Returned}
use Rattle.cir_frame.specs.declared.frame.Frame.{Frame}
use Rattle.cir_frame.specs.declared.world.World.{World}
use Rattle.cir_arrays.specs.declared.stop.Fault.{Fault}
use Rattle.cir_arrays.specs.Stopped.{IsRefusal}
use Rattle.cir_arrays.specs.Shown.{datum_of}
use Rattle.cir_frame.specs.Shown.{state_of, world_of}
use Rattle.cir_assign.specs.Leads.{Lists}
use Rattle.cir_execute.specs.declared.statement.Flow.{Flow as CodeFlow}
use Rattle.cir_execute.specs.declared.statement.Flow.TheVariants as flow

-- the statements go on in the meaning's state or return the meaning's datum in its world, or the
-- refusal is the meaning's
abbrev pub Flows : List Equation → World → Frame → World → Result CodeFlow Fault → Tried Flow
    → Type 0
Flows qs old frame new (Ok flow.Going) m =
    (es : List Equation) × (m ≡ Ok (Going (state_of frame new es))) × Lists qs old es new
Flows qs old frame new (Ok (flow.Returned d)) m =
    (es : List Equation) × (m ≡ Ok (Returned (datum_of d) (world_of new es)))
    × Lists qs old es new
Flows qs old frame new (Err f) m = IsRefusal f m

-- what is decided of a condition is what its value tells
abbrev pub Decides : State → Result Side Fault → Tried (Value × State) → Type 0
Decides s (Ok side) m = (v : Value) × (m ≡ Ok (v, s)) × (meant_side side ≡ side_of v)
Decides s (Err f) m = IsRefusal f m
