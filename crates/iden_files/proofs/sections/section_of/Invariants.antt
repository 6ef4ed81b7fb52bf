use Rattle.std.proofs.Common.{◌≡◌, drop}
use Rattle.iden_files.specs.Sections.{section_of}
use Rattle.iden_files.specs.Views.{sections}
use Rattle.iden_files.proofs.sections.section_of.Given as goal

abbrev pub invariant-loop-s : goal.invariant-loop-s
invariant-loop-s l =
    section_of l.kind (sections (drop l.s-index l.found)) ≡ section_of l.kind (sections l.found)
