use Rattle.std.proofs.Common.{◌≡◌, ◌++◌, drop}
use Rattle.iden_files.specs.Merging.{merged}
use Rattle.iden_files.proofs.FormLaws.{start}
use Rattle.iden_files.proofs.forms.merged.Given as goal

abbrev pub invariant-loop-t : goal.invariant-loop-t
invariant-loop-t l =
    l.terms.items ++ merged l.last (drop l.t-index l.sorted) ≡ merged start l.sorted
