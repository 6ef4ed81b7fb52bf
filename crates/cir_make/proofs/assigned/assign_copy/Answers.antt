use Rattle.std.proofs.Common.{◌∙◌, [], ap}
use Rattle.cir_ast.specs.declared.marked.Accessor.TheBlock as block
use Rattle.cir_ast.specs.declared.program.Meant.{Meant}
use Rattle.cir_ast.specs.declared.program.Meant.TheVariants.{Variable}
use Rattle.cir_ast.specs.Tree.{Set, as_accessors, bare, bare_accessors}
use Rattle.cir_ast.proofs.Rows.{accessors_are}
use Rattle.cir_make.proofs.assigned.assign_copy.Goals as goal

pub returns : goal.returns
returns c =
    let n = Variable c.args.w.now.variable in
    let new = c.in_ok-accessors.accessors in
    let row = bare_accessors (block.hidden-the_row-Accessor-0 Meant new) in
    let e = bare c.in_ok-value.value in
    ap (λ name. Set name n row e) c.new.ensures
    ∙ ap (λ a. Set [] n a e) (accessors_are Meant new ∙ c.in_ok-accessors.ensures)
    ∙ ap (λ x. Set [] n (as_accessors c.args.w.now.accessors.now) x) c.in_ok-value.ensures
