use Rattle.std.proofs.Common.{[], ap, ◌∙◌, None, Some}
use Rattle.cir_frame.specs.Shown.{state_of}
use Rattle.cir_evaluate.specs.Within.{Kept, at_spot}
use Rattle.cir_create.specs.Makes.{context_in}
use Rattle.cir_assign.proofs.Stepping.{leads_behind, leads_refused, lists_kept}
use Rattle.cir_create.proofs.Declarations.{variable_exits, variable_goes}
use Rattle.cir_create.proofs.declaring.variable.Goals as goal

pub returns-in_err-n : goal.returns-in_err-n
returns-in_err-n g c = λ m qs.
    leads_refused qs c.args.world.now c.args.frame.now c.args.world.now c.from_residual.result _ _
    c.from_residual.ensures.1 ((rw c.here-here.ensures at c.in_err-n.ensures) _)

pub returns-in_err-dims : goal.returns-in_err-dims
returns-in_err-dims g c = λ m qs.
    leads_refused qs c.args.world.now c.args.frame.now c.dims_in.new.world
    c.from_residual-in_err-dims.result _ _ c.from_residual-in_err-dims.ensures.1
    (variable_exits (context_in c.args.body.now m) (at_spot c.args.body.now.context.now c.args.spot)
    c.args.v.now c.in_ok-n.n (state_of c.args.frame.now c.args.world.now qs) _
    (rw c.here-here.ensures at c.in_ok-n.ensures)
    ((rw (c.as_slice.ensures, c.here-here.ensures) at c.in_err-dims.ensures.value) m.means qs))

pub returns-in-None : goal.returns-in-None
returns-in-None g c = λ m qs.
    let w0 = c.args.world.now in
    let w2 = c.declare_variable.new.world in
    let f = c.args.frame.now in
    let dims =
    (rw (c.as_slice.ensures, c.here-here.ensures) at c.in_ok-dims.ensures.value) m.means qs in
    let keeps = (rw c.here-here.ensures at c.in_ok-dims.ensures.keeps) m.means in (
      qs,
      variable_goes (context_in c.args.body.now m)
          (at_spot c.args.body.now.context.now c.args.spot) c.args.v.now c.in_ok-n.n
          c.in_ok-dims.dims.items (state_of f w0 qs) (state_of f c.dims_in.new.world qs)
          (state_of c.declare_variable.new.frame w2 qs) None
          (rw c.here-here.ensures at c.in_ok-n.ensures) dims
          (c.in_ok-declare_variable.ensures.state qs) c.in-None.is,
      lists_kept qs w0 w2 (c.in_ok-declare_variable.ensures.constraints
          ∙ ap (λ (k : Kept). k.constraints) keeps),
    )

pub returns-in-Some : goal.returns-in-Some
returns-in-Some g c = λ m qs.
    let w0 = c.args.world.now in
    let w2 = c.declare_variable.new.world in
    let f = c.args.frame.now in
    let dims =
    (rw (c.as_slice.ensures, c.here-here.ensures) at c.in_ok-dims.ensures.value) m.means qs in
    let keeps = (rw c.here-here.ensures at c.in_ok-dims.ensures.keeps) m.means in
    leads_behind qs w0 w2 c.set.new.frame c.set.new.world c.set.result _ _
    (variable_goes (context_in c.args.body.now m)
    (at_spot c.args.body.now.context.now c.args.spot) c.args.v.now c.in_ok-n.n
    c.in_ok-dims.dims.items (state_of f w0 qs) (state_of f c.dims_in.new.world qs)
    (state_of c.declare_variable.new.frame w2 qs) (Some c.in-Some.e)
    (rw c.here-here.ensures at c.in_ok-n.ensures) dims
    (c.in_ok-declare_variable.ensures.state qs) c.in-Some.is)
    (c.in_ok-declare_variable.ensures.constraints ∙ ap (λ (k : Kept). k.constraints) keeps)
    (c.set.ensures m [] qs tt)
