-- How wide the matrix is.
use Rattle.std.specs.Prelude.{ℕ, ◌*◌, ◌^◌, nat_le, unwrap_or, find, [], ◌∷◌}

-- the binary logarithm of the width for n values: the first from 7 to 11 such that the square of
-- the width is n or more, and 11 where there is none
abbrev pub width_exponent : ℕ → ℕ
width_exponent n = unwrap_or (find (λ e. nat_le n (2 ^ e * 2 ^ e)) (7 ∷ 8 ∷ 9 ∷ 10 ∷ 11 ∷ [])) 11
