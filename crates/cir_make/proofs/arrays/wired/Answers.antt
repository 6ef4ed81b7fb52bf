use Rattle.std.proofs.Common.{◌≡◌, ◌∙◌, Bool, List, None, Some, ap, cond, length, nat_lt, subst}
use Rattle.std.proofs.Common.{sym}
use Rattle.cir_emit.specs.Lowered.{cell_input}
use Rattle.cir_meaning.specs.Limits.{is_too_large}
use Rattle.wit_lower.specs.Homes.{slots_of}
use Rattle.cir_make.specs.Cells.{cell_in}
use Rattle.cir_make.proofs.ElementCells.{wired_each, wired_long}
use Rattle.cir_make.proofs.arrays.wired.Goals as goal

pub returns-clause-array : goal.returns-clause-array
returns-clause-array c = λ wires n same.
    let e = c.args.entry.now in
    let rows = c.args.rows.now in record {
      dims = sym c.as_slice-2.ensures.value;
      count = wired_long wires n (length e.written.items) ∙ e.sized
          ∙ ap slots_of (sym c.as_slice-2.ensures.value);
      each = λ k i h.
          wired_each wires n rows (length e.written.items) k i same
          (subst (λ m. cond (nat_lt k m) (cell_input (cell_in rows k)) None ≡ Some i)
          (ap (λ (l : List Bool). length l) c.as_slice-3.ensures) h);
      small = ap is_too_large (c.as_slice-2.ensures.value ∙ sym c.as_slice.ensures.value)
          ∙ sym c.is_too_large.ensures ∙ c.if-is_too_large.false;
    }
