use Rattle.std.proofs.Common.{◌≡◌, ℕ, ◌<◌, Some}
use Rattle.std.specs.Prelude.{slice_get}
use Rattle.wit_code.specs.declared.code.Op.{Op}
use Rattle.wit_code.specs.Code.{Fits}
use Rattle.wit_code.proofs.well_formed.each_fits.Given as goal

abbrev pub invariant-loop-place : goal.invariant-loop-place
invariant-loop-place l =
    (k : ℕ) → k < l.place → (op : Op) → slice_get l.code.body k ≡ Some op
    → Fits l.procs l.stands l.code k op
