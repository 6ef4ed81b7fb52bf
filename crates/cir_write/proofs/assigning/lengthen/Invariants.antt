use Rattle.std.proofs.Common.{◌≡◌, ℕ, map}
use Rattle.cir_make.specs.Cells.{source_by}
use Rattle.cir_make.specs.Shows.{source_in}
use Rattle.cir_write.proofs.assigning.lengthen.Given as goal

abbrev pub invariant-loop-at : goal.invariant-loop-at
invariant-loop-at l =
    (k : ℕ) → source_in (map source_by l.sources.items) k
    ≡ source_in (map source_by l.initial.sources.items) k
