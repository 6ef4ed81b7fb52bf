-- A sum over a list, and how often a number stands in one
use Rattle.std.specs.Prelude.{ℕ, ◌+◌, ◌<◌, nat_eq, cond, List, [], ◌∷◌}

abbrev pub total : {A : Type 0} → (A → ℕ) → List A → ℕ
total f [] = 0
total f (x ∷ xs) = f x + total f xs

abbrev pub same : ℕ → ℕ → ℕ
same x y = cond (nat_eq x y) 1 0

abbrev pub times : ℕ → List ℕ → ℕ
times x xs = total (same x) xs

-- x stands in xs
abbrev pub IsIn : ℕ → List ℕ → Type 0
IsIn x xs = 0 < times x xs
