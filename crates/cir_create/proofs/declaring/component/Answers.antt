use Rattle.std.proofs.Common.{ap, ◌∙◌}
use Rattle.cir_frame.specs.Shown.{state_of}
use Rattle.cir_evaluate.specs.Within.{Kept, context_at, where_at}
use Rattle.cir_assign.proofs.Stepping.{lists_kept}
use Rattle.cir_create.proofs.Declarations.{component_goes}
use Rattle.cir_create.proofs.declaring.component.Goals as goal

pub returns : goal.returns
returns g c = λ m qs shaded.
    let dims = rw (c.as_slice.ensures, shaded) at (c.in_ok-dims.ensures.value m qs) in (
      qs,
      component_goes (context_at c.args.here.now m) (where_at c.args.here.now) c.args.c.now
          c.in_ok-n.n c.in_ok-dims.dims.items (state_of c.args.frame.now c.args.world.now qs)
          (state_of c.args.frame.now c.dims_in.new.world qs) _ c.in_ok-n.ensures dims
          (rw c.as_slice-2.ensures at (c.in_ok-declare_component.ensures.state qs)),
      lists_kept qs c.args.world.now c.declare_component.new.world
          (c.in_ok-declare_component.ensures.constraints
          ∙ ap (λ (k : Kept). k.constraints) (c.in_ok-dims.ensures.keeps m)),
    )
