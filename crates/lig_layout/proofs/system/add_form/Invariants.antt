use Rattle.std.proofs.Common.{◌*◌, drop}
use Rattle.lig_layout.specs.System.{coefficient}
use Rattle.lig_layout.proofs.Sums.{Owes}
use Rattle.lig_layout.proofs.system.add_form.Given as goal

-- what is left of the form is still to be added
abbrev pub invariant-loop-term : goal.invariant-loop-term
invariant-loop-term l =
    Owes (λ place. l.factor * coefficient place (drop l.term-index l.form))
    (λ place. l.factor * coefficient place l.form) l.initial.row l.row
