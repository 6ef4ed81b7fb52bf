-- What a linear number tells of its linear combination: the coefficient of each signal.
use Rattle.std.specs.Prelude.{ℕ, zero, suc, ◌+◌, ◌-◌, ◌%◌, ◌<◌, ◌==◌, Bool, true, ◌&&◌, Option}
use Rattle.std.specs.Prelude.{Some, None, if◌then◌else◌, refl}
use Rattle.std.proofs.Common.{lit<}
use Rattle.gold_field.specs.declared.gold.TheConstants.{P}
use Rattle.cir_lc.specs.Number.{Assignment, Number}

-- 1 at k, else 0
abbrev pub one_at : ℕ → ℕ → ℕ
one_at zero zero = 1
one_at zero (suc j) = 0
one_at (suc k) zero = 0
one_at (suc k) (suc j) = one_at k j

pub one_at-small : (k j : ℕ) → one_at k j < P
one_at-small zero zero = lit< tt
one_at-small zero (suc j) = lit< tt
one_at-small (suc k) zero = lit< tt
one_at-small (suc k) (suc j) = one_at-small k j

-- 1 at 0, and at the place behind k
abbrev pub unit_at : ℕ → ℕ → ℕ
unit_at k zero = 1
unit_at k (suc j) = one_at k j

pub unit_at-small : (k j : ℕ) → unit_at k j < P
unit_at-small k zero = lit< tt
unit_at-small k (suc j) = one_at-small k j

-- every signal but 0 has the number 0
unfoldable pub origin : Assignment
origin = record { at = one_at 0; one = refl; below = one_at-small 0 }

-- the signal behind k has the number 1
unfoldable pub unit : ℕ → Assignment
unit k = record { at = unit_at k; one = refl; below = unit_at-small k }

-- how much a linear number grows with the signal; at signal 0, its constant part
abbrev pub coefficient : Number → ℕ → ℕ
coefficient f zero = f origin
coefficient f (suc k) = (f (unit k) + (P - f origin)) % P

-- 1 for what isn't 0
abbrev pub counted : ℕ → ℕ
counted zero = 0
counted (suc k) = 1

-- how many of the first n signals have a coefficient that isn't 0
abbrev pub terms_below : ℕ → Number → ℕ
terms_below zero f = 0
terms_below (suc n) f = terms_below n f + counted (coefficient f n)

-- none of the n signals behind signal 0 has a coefficient
abbrev pub is_constant : ℕ → Number → Bool
is_constant zero f = true
is_constant (suc n) f = is_constant n f && (coefficient f (suc n) == 0)

-- the number that it is, where it names none of the n signals
abbrev pub constant_in : ℕ → Number → Option ℕ
constant_in n f = if is_constant n f then Some (f origin) else None
