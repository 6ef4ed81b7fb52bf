use Rattle.std.proofs.Common.{◌≡◌, ℕ, ◌<◌, Some}
use Rattle.std.specs.Prelude.{slice_get}
use Rattle.wit_code.specs.declared.code.Proc.{Proc}
use Rattle.wit_code.specs.declared.code.Stands.TheVariants.{InProc}
use Rattle.wit_code.specs.Code.{IsCode}
use Rattle.wit_code.proofs.well_formed.are_procs.Given as goal

abbrev pub invariant-loop-proc : goal.invariant-loop-proc
invariant-loop-proc l =
    (k : ℕ) → k < l.proc-index → (callee : Proc) → slice_get l.procs k ≡ Some callee
    → IsCode l.procs InProc callee
