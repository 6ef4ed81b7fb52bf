use Rattle.std.proofs.Common.{◌≡◌, ◌∙◌, List, Some, ap, length, refl, subst, sym}
use Rattle.std.specs.declared.vec.Vec.{Vec}
use Rattle.std.specs.declared.alloc.Global.{Global}
use Rattle.cir_emit.specs.Lowered.{IsIn, cell_input}
use Rattle.cir_frame.specs.Shown.{signal_of, signals_of}
use Rattle.cir_meaning.specs.Frame.{entry_at}
use Rattle.cir_meaning.specs.Run.{entry_wires, wires_of}
use Rattle.cir_steps.specs.RunSteps.{shaped_map}
use Rattle.wit_lower.specs.Steps.{IsBelow}
use Rattle.wit_sourced.specs.Shown.{sought_name}
use Rattle.cir_make.specs.declared.cells.Run.{Run}
use Rattle.cir_make.specs.Cells.{cell_at, cell_in, wires_by}
use Rattle.cir_make.proofs.ElementCells.{both_some}
use Rattle.cir_make.proofs.arrays.signal_array.Goals as goal

pub returns-in-Some-at : goal.returns-in-Some-at
returns-in-Some-at c = λ step components befores stands.
    let n = c.args.n in
    let e = signal_of c.in-Some.entry.now in
    let there : entry_at (signals_of c.args.frame.now.signals.items) n ≡ Some e =
    sym (c.in-Some.ensures stands.state.frame.added) in
    let wires = stands.own in
    both_some c.wired.result _ _ _ c.wired.ensures.name
    (c.wired.ensures.array wires n (λ k.
    stands.own_cells n k
    ∙ ap (λ (rows : List (Vec Run Global)). wires_by rows n k) (sym c.as_slice.ensures.value)
    ∙ ap (λ o. cell_at o k) (sym c.in-Some-at.ensures)
    ∙ ap (λ (rows : List Run). cell_in rows k) (sym c.as_slice-in-Some-at.ensures.value)))
    (λ a named array. record {
      array = shaped_map cell_input (wires_of wires n e);
      is = subst (λ x. IsIn step components x (shaped_map cell_input (wires_of wires n e)))
          (sym (ap sought_name named))
          (wires_of wires n e, stands.signal n ∙ ap (entry_wires wires n) there, refl);
      stands = array;
      below = subst (λ x. IsBelow (length step.variables) x) (sym (ap sought_name named)) tt;
    })
