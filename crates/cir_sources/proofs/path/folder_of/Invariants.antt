use Rattle.std.proofs.Common.{◌≡◌, length}
use Rattle.cir_sources.specs.Names.{folder_of}
use Rattle.cir_sources.proofs.path.folder_of.Given as goal

-- the folder of what is left is the folder of the whole
abbrev pub invariant-loop-last : goal.invariant-loop-last
invariant-loop-last l = folder_of l.folder ≡ folder_of l.fn.name

abbrev pub decreases-loop-last : goal.decreases-loop-last
decreases-loop-last l = length l.folder
