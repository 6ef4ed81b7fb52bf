use Rattle.std.proofs.Common.{arith}
use Rattle.simplify_tests.proofs.chains.less_than.Goals as goal

pub returns : goal.returns
returns c =
    let number = c.in_ok-number.ensures 14 (omega arith) c.in_ok-bits.ensures in
    let inputs = c.in_ok-inputs.ensures 14 (omega arith) (omega arith) in
    let shifted = c.in_ok-shifted.ensures 14 (omega arith) inputs in
    let distance = c.in_ok-distance.ensures 14 (omega arith) shifted in
    let inverse = c.in_ok-inverse.ensures 14 (omega arith) (omega arith) in
    let output = c.in_ok-output.ensures 14 (omega arith) inverse in
    let first = c.in_ok-push_linear.ensures 14 number c.in_ok-list.ensures in
    let second = c.in_ok-push_linear-2.ensures 14 distance first in
    c.in_ok-push_linear-3.ensures 14 output second
