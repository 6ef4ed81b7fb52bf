use Rattle.std.proofs.Common.{arith}
use Rattle.cir_lexer.proofs.Spelled.{number_ahead}
use Rattle.cir_lexer.proofs.scan.number_in.Goals as goal

pub returns-in_err-checked_mul : goal.returns-in_err-checked_mul
returns-in_err-checked_mul c = rw c.from_residual.ensures (λ small. c.in_err-checked_mul.ensures
    (omega (
      arith,
      number_ahead c.args.base c.args.digits.now c.loop-digit.digit-index c.loop-digit.value _
          c.requires c.loop-digit-test.true c.loop-digit.invariant.1,
    )))

pub returns-in_err-value : goal.returns-in_err-value
returns-in_err-value c = rw c.from_residual-in_err-value.ensures (λ small. c.in_err-value.ensures
    (omega (
      arith,
      c.in_ok-checked_mul.ensures,
      number_ahead c.args.base c.args.digits.now c.loop-digit.digit-index c.loop-digit.value _
          c.requires c.loop-digit-test.true c.loop-digit.invariant.1,
    )))
