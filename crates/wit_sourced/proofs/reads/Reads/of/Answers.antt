use Rattle.std.proofs.Common.{◌∙◌, ◌+◌, List, ℕ, drop, ap, sym}
use Rattle.std.specs.Prelude.{map}
use Rattle.cir_arrays.proofs.Lists.{at_read}
use Rattle.wit_lower.specs.Sources as R
use Rattle.wit_sourced.specs.Loads.{source_of}
use Rattle.wit_sourced.proofs.reads.Reads.of.Goals as goal

pub loop-source-preserved : goal.loop-source-preserved
loop-source-preserved c =
    let loop = c.loop-source in
    let list = c.args.list.now in
    let rest = map source_of (drop (loop.source-index + 1) list) in (
      c.in_ok-add_cell.ensures.places,
      ap (λ (cells : List ℕ). R.cells_from cells rest) c.in_ok-add_cell.ensures.cells
          ∙ sym (at_read (λ l. R.cells_from loop.cells (map source_of l)) list loop.source-index
          c.source-item.result c.loop-source-test.true c.source-item.is)
          ∙ loop.invariant.1,
    )
