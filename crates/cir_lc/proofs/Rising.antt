-- Lists of terms whose signals rise.
use Rattle.std.proofs.Common.{ℕ, ◌+◌, ◌<◌, ◌≤◌, List, [], ◌∷◌, ◌++◌, arith}
use Rattle.gold_field.specs.declared.form.Term.{Term}
use Rattle.gold_field.specs.Rises.{RisesFrom}

-- a list may begin at a lower signal than it does
pub lower : (low high : ℕ) (ts : List Term) → low ≤ high → RisesFrom high ts → RisesFrom low ts
lower low high [] l h = tt
lower low high (t ∷ ts) l h = (omega arith, h.1, h.2)

-- after t there may stand any list that rises from the signal behind it
pub other_rest : (low : ℕ) (out : List Term) (t : Term) (us vs : List Term)
    → RisesFrom low (out ++ t ∷ us) → RisesFrom (t.signal + 1) vs → RisesFrom low (out ++ t ∷ vs)
other_rest low [] t us vs h r = (h.0, h.1, r)
other_rest low (o ∷ out) t us vs h r = (h.0, h.1, other_rest (o.signal + 1) out t us vs h.2 r)

-- what follows the first lists rises
pub rest_rises : (low : ℕ) (out us : List Term) → RisesFrom low (out ++ us) → RisesFrom 0 us
rest_rises low [] us h = lower 0 low us (omega arith) h
rest_rises low (o ∷ out) us h = rest_rises (o.signal + 1) out us h.2

-- what follows t rises from the signal behind it
pub rest_above : (low : ℕ) (out : List Term) (t : Term) (us : List Term)
    → RisesFrom low (out ++ t ∷ us) → RisesFrom (t.signal + 1) us
rest_above low [] t us h = h.2
rest_above low (o ∷ out) t us h = rest_above (o.signal + 1) out t us h.2

-- the first list rises alone
pub front_rises : (low : ℕ) (out us : List Term) → RisesFrom low (out ++ us) → RisesFrom low out
front_rises low [] us h = tt
front_rises low (o ∷ out) us h = (h.0, h.1, front_rises (o.signal + 1) out us h.2)

-- a term may be left out
pub left_out : (low : ℕ) (out : List Term) (t : Term) (us : List Term)
    → RisesFrom low (out ++ t ∷ us) → RisesFrom low (out ++ us)
left_out low [] t us h = lower low (t.signal + 1) us (omega (arith, h.0)) h.2
left_out low (o ∷ out) t us h = (h.0, h.1, left_out (o.signal + 1) out t us h.2)

-- a term may have another coefficient that isn't 0
pub other_coef : (low : ℕ) (out : List Term) (t : Term) (k : ℕ) (us : List Term) → 0 < k
    → RisesFrom low (out ++ t ∷ us)
    → RisesFrom low (out ++ record { signal = t.signal; coef = k } ∷ us)
other_coef low [] t k us p h = (h.0, p, h.2)
other_coef low (o ∷ out) t k us p h = (h.0, h.1, other_coef (o.signal + 1) out t k us p h.2)
