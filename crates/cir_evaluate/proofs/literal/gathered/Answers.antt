use Rattle.std.proofs.Common.{◌<◌, length, sym, arith}
use Rattle.std.proofs.lemmas.List.{length-map}
use Rattle.cir_arrays.specs.Shown.{datum_of}
use Rattle.cir_evaluate.proofs.Literals.{some_items, literal_made, gathered_is}
use Rattle.cir_evaluate.proofs.literal.gathered.Goals as goal

pub made-requires : goal.made-requires
made-requires g c =
    let full : 0 < c.args.all.len = some_items _ c.if-is_empty.ensures in
    let some : 0 < length c.args.all.items = omega (arith, full, c.args.all.ok.0) in
    let alike = rw c.as_slice.ensures.value at c.if-not-have_one_shape.ensures in
    let dims = rw c.as_slice-2.ensures.value at c.in_ok-dims.ensures in
    let items = c.in_ok-items.ensures in
    λ small. literal_made c.in_ok-items.items.items c.args.all.items c.in_ok-dims.dims.items some
    (sym alike) dims items small

pub returns-clause-value : goal.returns-clause-value
returns-clause-value g c =
    let full : 0 < c.args.all.len = some_items _ c.if-is_empty.ensures in
    let some : 0 < length c.args.all.items = omega (arith, full, c.args.all.ok.0) in
    let alike = rw c.as_slice.ensures.value at c.if-not-have_one_shape.ensures in
    let dims = rw c.as_slice-2.ensures.value at c.in_ok-dims.ensures in
    let items = c.in_ok-items.ensures in
    λ f qs. rw (c.made.ensures, c.add_array.ensures, c.as_slice-3.ensures.value, items, dims)
    (gathered_is _ _ _ (omega (arith, some, length-map c.args.all.items datum_of)) (sym alike))
