-- A term of the products.
use Rattle.std.proofs.Common.{◌≡◌, ℕ, ◌+◌, ◌-◌, ◌*◌, ◌%◌, List, refl, ap, ◌∙◌}
use Rattle.std.proofs.Math.Nat.{mod-mod}
use Rattle.std.proofs.lemmas.Nat.{mul-mod_second}
use Rattle.gold_field.specs.declared.gold.TheConstants.{P}
use Rattle.gold_ntt.proofs.Values.{plus_same}
use Rattle.lig_layout.specs.declared.params.Params.{Params}
use Rattle.lig_proof.specs.declared.challenge.Challenges.{Challenges}
use Rattle.lig_proof.specs.Sent.{rho}
use Rattle.lig_prover.specs.Matrix.{entry_of}

-- a product less a number, times a number
pub excess : (number x y z product difference term : ℕ) → product ≡ x * y % P
    → difference ≡ (product + (P - z)) % P → term ≡ number * difference % P
    → term ≡ number * (x * y + (P - z)) % P
excess number x y z product difference term first second third =
    let less = P - z in
    let reduced : (product + less) % P ≡ (x * y + less) % P =
    plus_same P product (x * y) less less (ap (λ w. w % P) first ∙ mod-mod (x * y) P) refl in
    third ∙ ap (λ w. number * w % P) (second ∙ reduced) ∙ mul-mod_second number (x * y + less) P

-- what row k adds to the test of the products at code point i
abbrev pub excess_of : Params → Challenges → List (List ℕ) → ℕ → ℕ → ℕ → ℕ
excess_of p c codewords t i k =
    let x = entry_of codewords (p.wire_rows + k) i in
    let y = entry_of codewords (p.wire_rows + p.constraint_rows + k) i in
    let z = entry_of codewords (p.wire_rows + 2 * p.constraint_rows + k) i in
    rho p c t k * (x * y + (P - z))
