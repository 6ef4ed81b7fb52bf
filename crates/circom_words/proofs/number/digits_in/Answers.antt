use Rattle.std.proofs.Common.{◌≡◌, ◌∙◌, ◌+◌, ◌*◌, ◌<◌, ◌≤◌, ◌^◌, sym, arith}
use Rattle.circom_words.proofs.Digits.{overflowed}
use Rattle.circom_words.proofs.number.digits_in.Goals as goal

pub returns-in_err-checked_mul-clause-number : goal.returns-in_err-checked_mul-clause-number
returns-in_err-checked_mul-clause-number c =
    let n = c.loop-byte.number in
    let product : 2 ^ 32 ≤ n * 10 = omega (arith, c.in_err-checked_mul.ensures) in
    c.from_residual-in_err-checked_mul.ensures ∙ sym (sym c.loop-byte.invariant.1
    ∙ overflowed c.args.low c.args.high n c.in_ok-digit.digit c.from.result c.args.word.now
    c.loop-byte.byte-index (omega arith) c.in_ok-digit.ensures.value c.from.ensures
    (omega (arith, product)))

pub returns-in_err-number-clause-number : goal.returns-in_err-number-clause-number
returns-in_err-number-clause-number c =
    let n = c.loop-byte.number in
    let large : 2 ^ 32 ≤ n * 10 + c.in_ok-digit.digit =
    omega (
      arith,
      c.in_ok-checked_mul.ensures.1,
      c.in_err-number.ensures,
    ) in
    c.from_residual-in_err-number.ensures ∙ sym (sym c.loop-byte.invariant.1
    ∙ overflowed c.args.low c.args.high n c.in_ok-digit.digit c.from.result c.args.word.now
    c.loop-byte.byte-index (omega arith) c.in_ok-digit.ensures.value c.from.ensures
    (omega (arith, large)))
