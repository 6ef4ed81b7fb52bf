use Rattle.cir_arrays.specs.Shown.{datum_of}
use Rattle.cir_arrays.proofs.Exits.{exit_gives, tests_exit}
use Rattle.cir_frame.proofs.reading.read_datum.Goals as goal

pub returns-in_err-test_written-in-Wired : goal.returns-in_err-test_written-in-Wired
returns-in_err-test_written-in-Wired c =
    let t = c.in_ok-part-in-Wired.ensures.reach in
    rw c.in-Wired.is (rw (rw c.as_slice-dims.ensures.value at t.1) (exit_gives datum_of _ _ _
    c.from_residual-in_err-test_written-in-Wired.ensures.1
    (tests_exit _ _ _ _ _ _
    (c.in_err-test_written-in-Wired.ensures t.0 (rw c.as_slice-dims.ensures.value at t.2)))))
