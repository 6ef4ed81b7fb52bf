use Rattle.std.proofs.Common.{◌≡◌, ◌∙◌, ◌+◌, ◌++◌, length, ap, sym}
use Rattle.cir_ast.specs.declared.program.Meant.{Meant}
use Rattle.cir_ast.specs.Tree.{Accessors, as_accessors, place_accessors}
use Rattle.cir_meaning.specs.Reached.{indices_count}
use Rattle.wit_lower.specs.Homes as L
use Rattle.wit_lower.specs.Pieces as P
use Rattle.wit_lower.specs.Values as V
use Rattle.wit_sourced.specs.Shown.{homes_of}
use Rattle.wit_emit.specs.Grounds.{ground_of}
use Rattle.wit_emit.proofs.Chained.{then_ended}
use Rattle.wit_emit.proofs.Trees.{place_is}
use Rattle.wit_statements.proofs.assigning.emit_write.Goals as goal

pub returns : goal.returns
returns c =
    let g = ground_of c.args.ground.now in
    let homes = homes_of c.args.scope.now.homes.items in
    let old = c.args.code.now in
    let p = c.args.place.now in
    let top = c.args.scope.now.top in
    let size = c.args.size in
    let home = L.home_of homes (L.Named p.meant) in
    let is : as_accessors c.as_slice-accessors.result.now ≡ place_accessors p =
    ap as_accessors c.as_slice-accessors.ensures ∙ sym (place_is p) in
    then_ended old c.emit_indices.new.code c.write.new.code
    (V.indices_code g homes (top + size) (length old) (place_accessors p))
    (P.write_code home (top + size) (indices_count (place_accessors p)) top size)
    ((rw c.in_ok-top.ensures.ok at c.in_ok-emit_indices.ensures)
    ∙ ap (λ (a : Accessors Meant). old ++ V.indices_code g homes (top + size) (length old) a) is)
    ((rw (c.home-home.ensures, c.in_ok-top.ensures.ok, c.indices_count.ensures)
    at c.in_ok-write.ensures)
    ∙ ap (λ (a : Accessors Meant). c.emit_indices.new.code
    ++ P.write_code home (top + size) (indices_count a) top size) is)
