use Rattle.std.proofs.Common.{◌∙◌, ap, sym, map}
use Rattle.cir_arrays.specs.Shown.{datum_of}
use Rattle.cir_meaning.specs.Limits.{is_too_large}
use Rattle.wit_lower.specs.Homes.{slots_of}
use Rattle.cir_make.specs.Cells.{source_by}
use Rattle.cir_make.specs.Shows.{source_in}
use Rattle.cir_make.proofs.ElementCells.{stored_each, stored_long}
use Rattle.cir_make.proofs.arrays.stored.Goals as goal

pub returns-clause-array : goal.returns-clause-array
returns-clause-array c = λ sources same.
    let d = c.args.value.now in
    let ss = c.args.standing.now.sources.items in record {
      dims = sym c.dims-2.ensures;
      count = stored_long d sources ∙ ap slots_of (sym c.dims-2.ensures);
      each = λ k i h.
          stored_each (datum_of d).items sources (source_in (map source_by ss) k) k i
          (λ u there unknown. same k u c.if-standing.false there unknown)
          (rw c.as_slice.ensures.value at h);
      small = ap is_too_large (c.dims-2.ensures ∙ sym c.dims.ensures)
          ∙ sym c.is_too_large.ensures ∙ c.if-is_too_large.false;
    }
