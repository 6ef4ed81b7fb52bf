-- What the execution of statements leaves, as the emission of their steps has it.
use Rattle.std.specs.Prelude.{◌≡◌, List, Result, Ok, Err}
use Rattle.cir_meaning.specs.Costs.{Made as Key}
use Rattle.cir_meaning.specs.Tried.{Tried}
use Rattle.cir_arrays.specs.declared.stop.Fault.{Fault}
use Rattle.cir_arrays.specs.Stopped.{IsRefusal}
use Rattle.cir_steps.specs.Emission.{Emission, Emitted, behind}
use Rattle.cir_make.specs.declared.whole.Inside.{Inside}
use Rattle.cir_make.specs.declared.whole.Whole.{Whole}
use Rattle.cir_make.specs.Shows.{Shows}

-- behind the steps so far
abbrev pub go_on : Emitted → (Emission → Tried Emitted) → Tried Emitted
go_on d go = behind d.steps (go d.state)

-- what is left shows the emission, or the refusal is the emission's
abbrev pub Emits : {A : Type 0} → List Key → Inside → Whole → Result A Fault → Tried Emitted
    → Type 0
Emits p i w (Ok a) m = (y : Emitted) × (m ≡ Ok y) × Shows p i w y
Emits p i w (Err f) m = IsRefusal f m
