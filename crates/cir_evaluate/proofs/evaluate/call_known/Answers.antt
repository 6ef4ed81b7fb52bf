use Rattle.std.specs.Prelude.{map}
use Rattle.cir_arrays.specs.Reached.{want_of}
use Rattle.cir_arrays.specs.Shown.{datum_of}
use Rattle.cir_frame.specs.Shown.{state_of, world_of}
use Rattle.cir_evaluate.specs.Within.{context_at, where_at}
use Rattle.cir_evaluate.proofs.Steps.{leaves}
use Rattle.cir_evaluate.proofs.Calls.{same_state, called_gives}
use Rattle.cir_evaluate.proofs.evaluate.call_known.Goals as goal

pub returns-in_err-d-in-Function-clause-value : goal.returns-in_err-d-in-Function-clause-value
returns-in_err-d-in-Function-clause-value g c =
    λ m f qs. rw c.in-Function.is (leaves _ _ _ _ _ c.from_residual.ensures.1
    (m.gives _ _ _ _ _ _ qs c.in_err-d-in-Function.ensures))

pub returns-in_ok-d-in-Function-clause-value : goal.returns-in_ok-d-in-Function-clause-value
returns-in_ok-d-in-Function-clause-value g c =
    λ m f qs. rw c.in-Function.is (called_gives _ (context_at c.args.here.now m)
    (where_at c.args.here.now) (want_of c.args.want) c.in-Function.f (map datum_of c.args.all.items)
    (state_of f c.args.world.now qs) (state_of f c.call.new.arg5 qs) c.in_ok-d-in-Function.d
    (world_of c.call.new.arg5 qs) (m.gives _ _ _ _ _ _ qs c.in_ok-d-in-Function.ensures)
    (same_state f c.args.world.now c.call.new.arg5 qs
    (m.added _ _ _ _ _ _ c.in_ok-d-in-Function.ensures)) c.fitted.ensures.value)
