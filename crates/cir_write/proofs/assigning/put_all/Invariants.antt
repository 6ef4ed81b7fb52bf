use Rattle.std.proofs.Common.{◌≡◌, ◌+◌, ℕ, drop, map}
use Rattle.cir_write.specs.Assigned.{put_at_places}
use Rattle.cir_make.specs.Cells.{source_by}
use Rattle.cir_make.specs.Shows.{source_in}
use Rattle.cir_write.proofs.assigning.put_all.Given as goal

abbrev pub invariant-loop-at : goal.invariant-loop-at
invariant-loop-at l =
    (k : ℕ) → put_at_places l.places l.first (source_in (map source_by l.initial.sources.items)) k
    ≡ put_at_places (drop l.at l.places) (l.first + l.at)
    (source_in (map source_by l.sources.items)) k
