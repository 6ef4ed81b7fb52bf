-- Powers by squaring.
use Rattle.std.specs.Prelude.{ℕ, zero, suc, ◌*◌, ◌%◌}

-- x ^ (2 ^ n) % q by n squarings
abbrev pub squared : ℕ → ℕ → ℕ → ℕ
squared q zero x = x
squared q (suc n) x = squared q n ((x * x) % q)
