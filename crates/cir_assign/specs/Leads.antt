-- What a step of the code leaves, as the meaning has it. The code keeps the constraints alone, and
-- the meaning their equations.
use Rattle.std.specs.Prelude.{◌≡◌, ◌^◌, List, Result, Ok, Err}
use Rattle.cir_meaning.specs.Source.{Equation, IsSource}
use Rattle.cir_meaning.specs.Tried.{Tried}
use Rattle.cir_meaning.specs.Frame.{State}
use Rattle.cir_frame.specs.declared.frame.Frame.{Frame}
use Rattle.cir_frame.specs.declared.world.World.{World}
use Rattle.cir_arrays.specs.declared.stop.Fault.{Fault}
use Rattle.cir_arrays.specs.Stopped.{IsRefusal}
use Rattle.cir_frame.specs.Shown.{state_of}

-- the world's constraints are the source list of the equations
abbrev pub IsListed : List Equation → World → Type 0
IsListed es w = IsSource (2 ^ 32) es w.constraints.items

-- these constraints are those of more equations, where the old ones were those of the old ones
pub record Lists (qs : List Equation) (old : World) (es : List Equation) (new : World)
    : Type 0 where
  pub listed : IsListed qs old → IsListed es new

-- what a step does to a state is what the meaning does, or its refusal is the meaning's
abbrev pub Leads : {A : Type 0} → List Equation → World → Frame → World → Result A Fault
    → Tried State → Type 0
Leads qs old frame new (Ok a) m =
    (es : List Equation) × (m ≡ Ok (state_of frame new es)) × Lists qs old es new
Leads qs old frame new (Err f) m = IsRefusal f m
