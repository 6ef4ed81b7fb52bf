use Rattle.std.proofs.Common.{Ok, refl}
use Rattle.std.specs.Prelude.{if◌then◌else◌}
use Rattle.cir_ast.specs.declared.program.Meant.TheVariants.{Variable}
use Rattle.cir_ast.specs.Tree.{as_accessors}
use Rattle.cir_meaning.specs.Steps.{new_cells, stepped, variable_cost}
use Rattle.cir_meaning.specs.Writing.{is_unknown, variable_assignment, write_variable}
use Rattle.cir_evaluate.specs.Within.{at_spot}
use Rattle.cir_assign.specs.Given.{given_by, written_by}
use Rattle.cir_steps.specs.Emission.{quiet, with_state}
use Rattle.cir_steps.specs.Making.{make_assignment}
use Rattle.cir_write.specs.Assigned.{assigned_after, assigned_steps}
use Rattle.cir_make.specs.Means.{emitting_in}
use Rattle.cir_make.specs.Shows.{equations_in}
use Rattle.cir_write.proofs.Assigned.{assignment_makes, means_same}
use Rattle.cir_make.proofs.Leading.{twice_emits}
use Rattle.cir_write.proofs.assigning.set_variable.Goals as goal

pub returns : goal.returns
returns g c = λ m name d place shows.
    let q = emitting_in c.args.body.now m in
    let k = q.context in
    let w = at_spot c.args.body.now.context.now c.args.spot in
    let n = c.args.w.now.variable in
    let accessors = as_accessors c.args.w.now.accessors.now in
    let e = given_by c.args.w.now.given in
    let written = written_by name (Variable n) c.args.w.now.accessors.now c.args.w.now.given in
    let qs = equations_in d.state in
    twice_emits m.first c.args.inside.now c.write.new.inside c.args.whole.now c.write.new.whole d
    (variable_assignment k w n accessors e)
    (λ s a. if is_unknown n a then stepped k w (variable_cost k w written n accessors e a s)
    (new_cells n a) (write_variable n a) else Ok (write_variable n a))
    (λ a s z. if is_unknown n a then make_assignment k w written n accessors e a s z
    else quiet (with_state s z))
    (assigned_after n) (λ a s z. assigned_steps k w written n accessors e a z) shows
    c.write.result (λ a s. assignment_makes k w written n accessors e a s d.state)
    ((rw c.here-here.ensures at c.write.ensures.leads) m.means name qs refl place)
    (λ a s. means_same n a s d.state)
    (λ a is. (rw c.here-here.ensures at c.write.ensures.kept) m.means name qs m.first d.state
    d.steps a refl place shows.state is shows.kept)
