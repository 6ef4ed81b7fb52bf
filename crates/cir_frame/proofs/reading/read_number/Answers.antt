use Rattle.cir_values.specs.Meant.{meant}
use Rattle.cir_meaning.specs.Arrays.{single}
use Rattle.cir_arrays.proofs.Exits.{exit_gives, tests_exit}
use Rattle.cir_frame.proofs.reading.read_number.Goals as goal

pub returns-in_err-test_written-in-Wired : goal.returns-in_err-test_written-in-Wired
returns-in_err-test_written-in-Wired c =
    let t = c.in_ok-part-in-Wired.ensures.reach in
    rw c.in-Wired.is (rw (rw c.as_slice-dims.ensures.value at t.1)
    (exit_gives (λ v. single (meant v)) _ _ _
    c.from_residual-in_err-test_written-in-Wired.ensures.1
    (tests_exit _ _ _ _ _ _
    (c.in_err-test_written-in-Wired.ensures t.0 (rw c.as_slice-dims.ensures.value at t.2)))))
