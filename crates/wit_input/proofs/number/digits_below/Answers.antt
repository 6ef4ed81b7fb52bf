use Rattle.std.proofs.Common.{◌≡◌, ◌∙◌, ◌+◌, ◌*◌, ◌≤◌, ◌^◌, sym, subst, arith}
use Rattle.wit_input.proofs.Digits.{overflowed}
use Rattle.wit_input.proofs.number.digits_below.Goals as goal

pub returns-in_err-checked_mul : goal.returns-in_err-checked_mul
returns-in_err-checked_mul c =
    let n = c.loop-byte.number in
    let product : 2 ^ 128 ≤ n * c.from-in-loop-byte.result =
    omega (arith, c.in_err-checked_mul.ensures) in
    let large : 2 ^ 128 ≤ n * c.args.base =
    subst (λ b. 2 ^ 128 ≤ n * b) c.from-in-loop-byte.ensures product in
    c.from_residual-in_err-checked_mul.ensures ∙ sym (sym c.loop-byte.invariant.1
    ∙ overflowed c.args.base n c.in_ok-digit.digit c.from.result c.args.text.now
    c.loop-byte.byte-index (omega arith) (omega arith) c.in_ok-digit.ensures.value c.from.ensures
    (omega (arith, large)))

pub returns-in_err-number : goal.returns-in_err-number
returns-in_err-number c =
    let n = c.loop-byte.number in
    let product : c.in_ok-checked_mul.field-0 ≡ n * c.args.base =
    subst (λ b. c.in_ok-checked_mul.field-0 ≡ n * b) c.from-in-loop-byte.ensures
    c.in_ok-checked_mul.ensures.1 in
    let large : 2 ^ 128 ≤ n * c.args.base + c.in_ok-digit.digit =
    omega (arith, product, c.from-in-loop-byte-2.ensures, c.in_err-number.ensures) in
    c.from_residual-in_err-number.ensures ∙ sym (sym c.loop-byte.invariant.1
    ∙ overflowed c.args.base n c.in_ok-digit.digit c.from.result c.args.text.now
    c.loop-byte.byte-index (omega arith) (omega arith) c.in_ok-digit.ensures.value c.from.ensures
    large)
