use Rattle.std.proofs.Common.{◌∙◌, [], ap, sym}
use Rattle.std.specs.Prelude.{is_some, Some, None, if◌then◌else◌}
use Rattle.cir_ast.specs.Tree.{bare, bare_exprs, as_accessors}
use Rattle.cir_arrays.specs.Reached.{want_of}
use Rattle.cir_meaning.specs.Functions as F
use Rattle.cir_meaning.specs.Reached.{indices_count}
use Rattle.cir_rules.specs.Ranked.{list_in}
use Rattle.cir_rules.specs.Shaped.{dims_in, all_shapes, literal_of}
use Rattle.cir_rules.proofs.Shaping.{gives, going, with_none, with_some, number_lists, shape_place}
use Rattle.cir_rules.proofs.Shaping.{shape_call, shape_array}
use Rattle.cir_rules.proofs.shapes.Shapes.+shaping.Goals as goal

pub read_in-returns-then-not-branch : goal.read_in-returns-then-not-branch
read_in-returns-then-not-branch t c =
    let dims = dims_in c.args.self.now in
    let p = c.args.place.now in
    sym (shape_place dims (want_of c.args.want) p
    ∙ with_none (F.index_shapes dims (as_accessors p.accessors)) _
    (ap (λ list. is_some (F.index_shapes dims (as_accessors list))) (sym c.as_slice.ensures)
    ∙ sym c.in_ok-do_indices_fit.ensures ∙ c.if-not-branch.true))

pub read_in-returns : goal.read_in-returns
read_in-returns t c =
    let dims = dims_in c.args.self.now in
    let p = c.args.place.now in
    gives c.read_shape.result list_in _ _ c.read_shape.ensures
    (sym (shape_place dims (want_of c.args.want) p
    ∙ with_some (F.index_shapes dims (as_accessors p.accessors))
    (F.with_shape (F.place_shape dims p.meant (indices_count (as_accessors p.accessors)))
    (F.if_fits (want_of c.args.want)))
    (ap (λ list. is_some (F.index_shapes dims (as_accessors list))) (sym c.as_slice.ensures)
    ∙ sym c.in_ok-do_indices_fit.ensures ∙ c.if-not-branch.false)))

pub shape_in-returns-in_ok-shapes-in-Call : goal.shape_in-returns-in_ok-shapes-in-Call
shape_in-returns-in_ok-shapes-in-Call t c =
    let dims = dims_in c.args.self.now in
    let w = c.in-Call in
    c.number_if.ensures ∙ ap (λ b. if b then Some [] else None) c.is_some.ensures
    ∙ number_lists c.in_ok-shapes-in-Call.shapes
    ∙ ap (λ o. going o (λ u. Some [])) (c.in_ok-shapes-in-Call.ensures
    ∙ ap (λ es. all_shapes dims (bare_exprs es)) c.as_slice.ensures)
    ∙ sym (ap (λ e. F.shape_in dims (want_of c.args.want) (bare e)) w.is
    ∙ shape_call dims (want_of c.args.want) w.field-0 w.field-1 w.field-2 w.arguments)

pub shape_in-returns-in_ok-shapes-in-Array : goal.shape_in-returns-in_ok-shapes-in-Array
shape_in-returns-in_ok-shapes-in-Array t c =
    let dims = dims_in c.args.self.now in
    let want = want_of c.args.want in
    gives c.literal_shape.result list_in _ _ c.literal_shape.ensures
    (ap (literal_of want) (c.in_ok-shapes-in-Array.ensures
    ∙ ap (λ es. all_shapes dims (bare_exprs es)) c.as_slice-in-Array.ensures)
    ∙ sym (ap (λ e. F.shape_in dims want (bare e)) c.in-Array.is
    ∙ shape_array dims want c.in-Array.elements))
