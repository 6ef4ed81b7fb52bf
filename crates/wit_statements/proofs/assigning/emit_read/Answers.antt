use Rattle.std.proofs.Common.{◌∙◌, [], ◌++◌, length, ap, sym}
use Rattle.cir_ast.specs.declared.program.Meant.{Meant}
use Rattle.cir_ast.specs.Tree.{Accessors}
use Rattle.wit_lower.specs.Homes as L
use Rattle.wit_lower.specs.Values as V
use Rattle.wit_sourced.specs.Shown.{homes_of}
use Rattle.wit_emit.specs.Grounds.{ground_of}
use Rattle.wit_emit.proofs.Trees.{place_is}
use Rattle.wit_statements.proofs.assigning.emit_read.Goals as goal

pub returns : goal.returns
returns c =
    let g = ground_of c.args.ground.now in
    let homes = homes_of c.args.scope.now.homes.items in
    let p = c.args.place.now in
    (rw c.as_slice-accessors.ensures at c.in_ok-emit_place.ensures)
    ∙ ap (λ (a : Accessors Meant). c.args.code.now ++ V.place_code g homes c.args.scope.now.top
    (length c.args.code.now) (L.Named p.meant) [] a) (sym (place_is p))
