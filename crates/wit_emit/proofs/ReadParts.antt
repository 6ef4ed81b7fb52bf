-- The code that reads a part of an array.
use Rattle.std.proofs.Common.{◌≡◌, ℕ, zero, suc, ◌-◌, ◌++◌, drop, ap, refl, arith}
use Rattle.std.specs.Prelude.{Some}
use Rattle.wit_lower.specs.Homes as L
use Rattle.wit_lower.specs.Pieces.{read_code, offset_code, loads}

pub read_behind : (h : L.Home) (top count : ℕ) → (count ≡ 0 → ⊥)
    → offset_code top h.dims (count - 1) ++ loads top h.base (L.slots_of (drop count h.dims))
    ≡ read_code (Some h) top count
read_behind h top zero some = absurd (some refl)
read_behind h top (suc n) some =
    let less : suc n - 1 ≡ n = omega arith in
    ap (λ k. offset_code top h.dims k ++ loads top h.base (L.slots_of (drop (suc n) h.dims))) less
