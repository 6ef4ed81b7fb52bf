use Rattle.std.proofs.Common.{◌≡◌, drop, map, []}
use Rattle.std.specs.Prelude.{fold}
use Rattle.cir_sources.specs.Names.{keep_folder}
use Rattle.cir_sources.specs.Steps.{last_first}
use Rattle.cir_sources.proofs.path.kept_of.Given as goal

-- the folders that are left lead to the same
abbrev pub invariant-loop-segment : goal.invariant-loop-segment
invariant-loop-segment l =
    fold keep_folder (last_first l.kept.items) (map (λ s. s.now) (drop l.segment-index l.folders))
    ≡ fold keep_folder [] (map (λ s. s.now) l.folders)
