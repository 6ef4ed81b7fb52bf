-- Lists of terms.
use Rattle.std.specs.Prelude.{ℕ, zero, suc, ◌<◌, List, [], ◌∷◌, All}
use Rattle.gold_field.specs.declared.form.Term.{Term}
use Rattle.gold_field.specs.declared.gold.TheConstants.{P}

-- names signals below n alone, with numbers of the field as coefficients
abbrev pub IsWithin : ℕ → List Term → Type 0
IsWithin n terms = All (λ t. (t.signal < n) × (t.coef < P)) terms

-- the term, or none where the coefficient is 0
abbrev pub term_of : ℕ → ℕ → List Term
term_of signal zero = []
term_of signal (suc k) = record { signal = signal; coef = suc k } ∷ []
