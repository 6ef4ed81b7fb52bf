use Rattle.std.proofs.Common.{◌∙◌, List, ap, sym}
use Rattle.std.specs.declared.vec.Vec.{Vec}
use Rattle.std.specs.declared.alloc.Global.{Global}
use Rattle.cir_frame.specs.Shown.{signal_of}
use Rattle.cir_meaning.specs.Run.{found_port, wires_of}
use Rattle.wit_sourced.specs.Shown.{sought_name}
use Rattle.cir_make.specs.declared.cells.Run.{Run}
use Rattle.cir_make.specs.Cells.{cell_at, cell_in, wires_by}
use Rattle.cir_make.proofs.ElementCells.{both_some}
use Rattle.cir_make.proofs.ports.part_array.Goals as goal

pub returns-in-Some : goal.returns-in-Some
returns-in-Some c = λ wires same.
    let m = c.in_ok-m.m in
    let e = signal_of c.in_ok-m.entry.now in
    let found = rw c.as_slice.ensures.value at c.in_ok-m.ensures.found in
    both_some c.wired.result _ _ _ c.wired.ensures.name
    (c.wired.ensures.array wires m (λ k.
    same m k
    ∙ ap (λ (rows : List (Vec Run Global)). wires_by rows m k) (sym c.as_slice-2.ensures.value)
    ∙ ap (λ o. cell_at o k) (sym c.in-Some.ensures)
    ∙ ap (λ (rows : List Run). cell_in rows k) (sym c.as_slice-in-Some.ensures.value)))
    (λ a named array. record {
      named = ap sought_name named;
      wired = wires_of wires m e;
      found = ap (found_port wires) found;
      stands = array;
    })
