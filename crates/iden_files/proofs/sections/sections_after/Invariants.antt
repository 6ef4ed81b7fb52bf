use Rattle.std.proofs.Common.{◌≡◌, ◌-◌, []}
use Rattle.iden_files.specs.Sections.{sections_after}
use Rattle.iden_files.specs.Views.{sections}
use Rattle.iden_files.proofs.sections.sections_after.Given as goal

abbrev pub invariant-loop : goal.invariant-loop
invariant-loop l =
    (l.file.end ≡ l.fn.file.end)
    × (sections_after l.format l.fn.file.end (l.count - l.counter)
    (sections l.found.items) l.file.rest.now
    ≡ sections_after l.format l.fn.file.end l.count [] l.fn.file.rest.now)
