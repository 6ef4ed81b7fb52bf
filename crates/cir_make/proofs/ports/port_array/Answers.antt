use Rattle.std.proofs.Common.{◌≡◌, ◌∙◌, List, Some, ap, map, slice_get, sym}
use Rattle.std.specs.Prelude.{option_map}
use Rattle.cir_frame.specs.Shown.{component_of, part_of}
use Rattle.cir_meaning.specs.Frame.{entry_at}
use Rattle.cir_make.specs.declared.cells.PartCells.{PartCells}
use Rattle.cir_make.proofs.ElementCells.{both_some}
use Rattle.cir_make.proofs.PortCells.{HasRun, has_run, port_stands}
use Rattle.cir_make.proofs.ports.port_array.Goals as goal

pub returns : goal.returns
returns c = λ step components befores stands sized.
    let n = c.args.n in
    let f = c.args.frame.now in
    let cells = c.args.cells.now in
    let counts = stands.state.frame.added in
    let element = c.args.element in
    let j = c.in-Some-part.j in
    let entry = component_of c.in-Some.entry.now in
    let p = part_of c.in-Some-Some.part.now in
    let pc = c.in-Some-Some.ports.now in
    let declared : entry_at (map (option_map component_of) f.components.items) n ≡ Some entry =
    sym (c.in-Some.ensures counts) in
    let created : entry_at entry.parts element ≡ Some j = sym c.in-Some-part.ensures in
    let part_is : slice_get (map part_of f.parts.items) j ≡ Some p =
    sym (c.in-Some-Some.ensures counts) in
    let cells_are : slice_get cells.parts.items j ≡ Some pc =
    ap (λ (l : List PartCells). slice_get l j) (sym c.as_slice.ensures.value)
    ∙ sym c.in-Some-Some.ensures' in
    let run : HasRun stands.parts j pc =
    has_run stands.parts cells.parts.items j pc stands.ports cells_are in
    let told = c.part_array.ensures run.run.ports run.same in
    both_some c.part_array.result _ _ _ told told (λ a is again.
    port_stands f cells befores step components stands sized n element j c.args.name.now entry p
    pc declared created part_is cells_are a is)
