use Rattle.std.proofs.Common.{[], ap, sym, ◌∙◌, Ok}
use Rattle.cir_ast.specs.Tree.{bare_exprs}
use Rattle.cir_meaning.specs.Declaring.{declare_variable}
use Rattle.cir_meaning.specs.Frame.{State}
use Rattle.cir_frame.specs.Shown.{state_of}
use Rattle.cir_evaluate.specs.Within.{Kept, context_at, where_at}
use Rattle.cir_assign.proofs.Stepping.{lists_kept}
use Rattle.cir_create.proofs.Declarations.{declared_goes}
use Rattle.cir_write.proofs.variables.declare_elements.Goals as goal

pub returns-clause-leads : goal.returns-clause-leads
returns-clause-leads g c = λ m qs shaded.
    let v = c.args.v.now in
    let dims = rw (c.as_slice.ensures, shaded) at (c.in_ok-dims.ensures.value m qs) in (
      qs,
      declared_goes (context_at c.args.here.now m) (where_at c.args.here.now) v.meant c.in_ok-n.n
          (bare_exprs v.dimensions) c.in_ok-dims.dims.items
          (state_of c.args.frame.now c.args.world.now qs)
          (state_of c.args.frame.now c.dims_in.new.world qs)
          (λ n (dims, s1). Ok (declare_variable n dims s1)) c.in_ok-n.ensures dims
          ∙ ap (λ (s : State). Ok s) (sym (c.in_ok-declare_variable.ensures.state qs)),
      lists_kept qs c.args.world.now c.declare_variable.new.world
          (c.in_ok-declare_variable.ensures.constraints
          ∙ ap (λ (k : Kept). k.constraints) (c.in_ok-dims.ensures.keeps m)),
    )

pub returns-clause-declared : goal.returns-clause-declared
returns-clause-declared g c = record {
  dims = c.in_ok-dims.dims.items;
  variables = ap (λ (s : State). s.frame.variables) (c.in_ok-declare_variable.ensures.state []);
  parts = ap (λ (s : State). s.frame.parts) (c.in_ok-declare_variable.ensures.state []);
}
