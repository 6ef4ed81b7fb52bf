-- How much a file may have.
use Rattle.std.specs.Prelude.{ℕ}

-- the wires of an .r1cs file, and the values of a .wtns file
abbrev pub most_wires : ℕ
most_wires = 1048576

abbrev pub most_constraints : ℕ
most_constraints = 1048576

-- the terms of all constraints of a file, counted as they are written
abbrev pub most_terms : ℕ
most_terms = 8388608
