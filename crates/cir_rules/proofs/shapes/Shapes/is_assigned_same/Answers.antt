use Rattle.std.proofs.Common.{◌∙◌, ap, sym}
use Rattle.cir_ast.specs.declared.program.Meant.{Meant}
use Rattle.cir_ast.specs.Tree.{as_accessors, Set}
use Rattle.cir_ast.proofs.Rows.{accessors_are}
use Rattle.cir_meaning.specs.Functions as F
use Rattle.cir_meaning.specs.Reached.{indices_count}
use Rattle.cir_rules.specs.Ranked.{list_in}
use Rattle.cir_texts.specs.Shown.{wanted_of}
use Rattle.cir_rules.specs.Shaped.{dims_in}
use Rattle.cir_rules.proofs.shapes.Shapes.is_assigned_same.Goals as goal

pub returns : goal.returns
returns c =
    let dims = dims_in c.args.self.now in
    let a = c.args.assigned in
    let p = a.place.now in
    let e = (wanted_of a.value).expr in
    c.is_same.ensures
    ∙ ap (λ o. F.same_shape o (list_in c.in_ok-value.value)) (c.in_ok-written.ensures
    ∙ ap (F.place_shape dims p.meant) (c.indices_count.ensures
    ∙ ap (λ list. indices_count (as_accessors list)) c.as_slice.ensures))
    ∙ ap (F.same_shape (F.place_shape dims p.meant (indices_count (as_accessors p.accessors))))
    (c.in_ok-value.ensures ∙ ap (λ want. F.shape_in dims want e) c.requires)
    ∙ ap (λ list. F.assign_fits dims (Set p.name p.meant list e))
    (sym (accessors_are Meant p.accessors))
