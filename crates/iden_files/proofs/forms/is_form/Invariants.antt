use Rattle.std.proofs.Common.{◌≤◌, ◌^◌, drop}
use Rattle.gold_field.specs.Rises.{RisesFrom}
use Rattle.iden_files.proofs.forms.is_form.Given as goal

-- what is left rises from `low` on only where all rises from 0 on
abbrev pub invariant-loop-t : goal.invariant-loop-t
invariant-loop-t l =
    (RisesFrom l.low (drop l.t-index l.terms) → RisesFrom 0 l.terms) × (l.low ≤ 2 ^ 32)
