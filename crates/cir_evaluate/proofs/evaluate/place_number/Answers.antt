use Rattle.cir_values.specs.Meant.{meant}
use Rattle.cir_meaning.specs.Arrays.{Scalar, single}
use Rattle.cir_arrays.proofs.Exits.{exit_gives}
use Rattle.cir_evaluate.proofs.Steps.{given, with_state}
use Rattle.cir_evaluate.proofs.evaluate.place_number.Goals as goal

pub returns-in_err-located-clause-value : goal.returns-in_err-located-clause-value
returns-in_err-located-clause-value g c =
    λ m qs. exit_gives _ _ _ _ c.from_residual.ensures.1
    (c.in_err-located.ensures.value m qs Scalar)

pub returns-clause-value : goal.returns-clause-value
returns-clause-value g c =
    λ m qs. given _ _ _ _ (c.in_ok-located.ensures.value m qs Scalar)
    (with_state (λ v. single (meant v)) _ _ _ c.number_at.ensures)
