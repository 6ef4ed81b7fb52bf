-- Counts of faults that rose.
use Rattle.std.proofs.Common.{◌≤◌, ℕ, arith}
use Rattle.out_io.specs.Faults.{Rose}

-- a count that rose later rose
pub rose_on : (first before now : ℕ) → first ≤ before → Rose before now → Rose first now
rose_on first before now le rose = omega arith
