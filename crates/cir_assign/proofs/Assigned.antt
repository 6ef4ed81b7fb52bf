-- Assignments that are refused.
use Rattle.std.proofs.Common.{◌≡◌, ℕ, Result, Ok, Err, sym, subst}
use Rattle.std.specs.Prelude.{IsErrAnd}
use Rattle.cir_meaning.specs.Tried.{Tried, next}
use Rattle.cir_meaning.specs.Frame.{State}
use Rattle.cir_meaning.specs.Writing.{VariableAssignment}
use Rattle.cir_arrays.specs.declared.stop.Fault.{Fault}
use Rattle.cir_arrays.specs.Stopped.{IsRefusal}
use Rattle.cir_arrays.proofs.Exits.{exits}
use Rattle.cir_assign.specs.declared.assigning.Assignment.{Assignment}
use Rattle.cir_assign.specs.Assigns.{Assigns}

pub assigns_exit : {X : Type 0} (n : ℕ) (s : State) (r : Result Assignment Fault) (e : Fault)
    (m : Tried X) (go : X → Tried VariableAssignment) (whole : Tried VariableAssignment)
    → whole ≡ next m go → IsErrAnd r (λ x. x ≡ e) → IsRefusal e m → Assigns n s r whole
assigns_exit n s (Ok a) e m go whole is err h = absurd err
assigns_exit n s (Err x) e m go whole is err h =
    subst (λ z. IsRefusal x z) (sym is) (exits x m go (rw err h))
