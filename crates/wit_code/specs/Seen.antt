-- What the code's state shows of the table's, and what its steps owe.
use Rattle.std.specs.Prelude.{◌≡◌, ◌≢◌, ℕ, ◌<◌, ◌≤◌, List, [], ◌∷◌, Some, Result, Ok, Err, IfErr}
use Rattle.std.specs.Prelude.{slice_get, length}
use Rattle.std.specs.declared.vec.Vec.{Vec}
use Rattle.std.specs.declared.alloc.Global.{Global}
use Rattle.wit_code.specs.declared.code.Op.{Op}
use Rattle.wit_code.specs.declared.code.Proc.{Proc}
use Rattle.wit_code.specs.declared.code.Stands.{Stands}
use Rattle.wit_code.specs.declared.code.Stands.TheVariants.{InStep, InProc}
use Rattle.wit_code.specs.declared.code.Stop.{Stop}
use Rattle.wit_code.specs.declared.code.Stop.TheVariants.{OutOfMemory}
use Rattle.wit_code.specs.declared.frames.Running.{Running}
use Rattle.wit_code.specs.declared.frames.Running.TheVariants.{Own, Called}
use Rattle.wit_code.specs.declared.machine.Run.{Run}
use Rattle.wit_code.specs.declared.machine.Flow.{Flow}
use Rattle.wit_code.specs.declared.machine.Flow.TheVariants.{Stays, Moves, Ends}
use Rattle.wit_code.specs.Frames.{Open}
use Rattle.wit_code.specs.Code.{Names}
use Rattle.wit_code.specs.Table.{State, Outcome, Wrote, Stopped, Next, Goes, Over}

abbrev pub seen : Run → State
seen r = record {
  running = r.running;
  place = r.place;
  frames = r.frames;
  units = r.units;
  written = r.written.items;
}

-- the code's step did what the table says, unless it found no memory
abbrev pub Follows : Run → Result Flow Stop → Run → Next → Type 0
Follows old (Ok Stays) new next = (next ≡ Goes (seen new)) × (new.running ≡ old.running)
Follows old (Ok Moves) new next = next ≡ Goes (seen new)
Follows old (Ok Ends) new next = next ≡ Over (Wrote new.written.items)
Follows old (Err OutOfMemory) new next = Unit {0}
Follows old (Err stop) new next = next ≡ Over (Stopped stop)

-- want of memory isn't the answer of a step that takes none
abbrev pub TakesNoMemory : Result Flow Stop → Type 0
TakesNoMemory result = IfErr result (λ stop. stop ≢ OutOfMemory)

abbrev pub stands_of : ℕ → Running → Stands
stands_of reads Own = InStep reads
stands_of reads (Called f) = InProc

abbrev pub IsThere : List Proc → Running → Type 0
IsThere procs Own = Unit {0}
IsThere procs (Called f) = f < length procs

-- what the next instruction names, whatever it is, is there
abbrev pub NextFits : List Proc → ℕ → List Op → Run → Type 0
NextFits procs reads body r = (op : Op) → slice_get body r.place ≡ Some op
    → Names procs (stands_of reads r.running) (length r.frames.slots) op

-- each call that waits has the slot for its answer
abbrev pub AnswersFit : List Open → Type 0
AnswersFit [] = Unit {0}
AnswersFit (o ∷ os) = (o.resume.answer < length o.slots) × AnswersFit os

-- the parameters of every procedure are slots of its frame
abbrev pub ParamsFit : List Proc → Type 0
ParamsFit procs =
    (f : ℕ) (callee : Proc) → slice_get procs f ≡ Some callee → callee.params ≤ callee.slots

-- what a run answers is an outcome of this kind, unless it finds no memory
abbrev pub IsOutcome : Result (Vec ℕ Global) Stop → (Outcome → Type 0) → Type 0
IsOutcome (Ok written) Is = Is (Wrote written.items)
IsOutcome (Err OutOfMemory) Is = Unit {0}
IsOutcome (Err stop) Is = Is (Stopped stop)
