-- Bit reversal.
use Rattle.std.specs.Prelude.{ℕ, zero, suc, ◌+◌, ◌*◌, ◌/◌, ◌%◌, ◌^◌}

-- the lowest k bits of b in reverse order
abbrev pub reversed : ℕ → ℕ → ℕ
reversed zero b = 0
reversed (suc k) b = b % 2 * 2 ^ k + reversed k (b / 2)
