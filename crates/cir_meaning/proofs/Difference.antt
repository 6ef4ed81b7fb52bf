-- The parts of a difference are left minus right.
use Rattle.std.proofs.Common.{◌≡◌, ◌≢◌, ℕ, ◌+◌, ◌-◌, ◌%◌, ◌<◌, Some, ap, sym, ◌∙◌, arith}
use Rattle.std.proofs.Math.Nat.{mod-mod}
use Rattle.gold_field.specs.declared.gold.TheConstants.{P}
use Rattle.cir_lc.specs.Number.{Assignment, constant, added, multiplied}
use Rattle.cir_meaning.specs.declared.class.Class.TheVariants as Class'
use Rattle.cir_meaning.specs.Values.{Value, Known, Linear, Quadratic, Opaque, Parts, IsValue}
use Rattle.cir_meaning.specs.Values.{class_of, difference_of, number_of, parts_of}
use Rattle.cir_meaning.specs.Source.{IsDifference, number_of_parts}
use Rattle.cir_meaning.proofs.NumberLaws.{below, difference_number}

some_parts : (p q : Parts) → Some p ≡ Some q → p ≡ q
some_parts p q h = cc

-- the parts of a value have its number
parts_number : (v : Value) (p : Parts) (s : Assignment) → parts_of v ≡ Some p
    → number_of_parts p s ≡ number_of v s % P
unfolding added multiplied constant
parts_number (Known k) p s h = ap (λ (p : Parts). number_of_parts p s) (sym (some_parts _ p h))
    ∙ ap (λ (n : ℕ). n % P) (omega arith)
parts_number (Linear f) p s h = ap (λ (p : Parts). number_of_parts p s) (sym (some_parts _ p h))
    ∙ ap (λ (n : ℕ). n % P) (omega arith)
parts_number (Quadratic a b c) p s h =
    ap (λ (p : Parts). number_of_parts p s) (sym (some_parts _ p h)) ∙ sym (mod-mod _ P)
parts_number Opaque p s h = cc

-- an opaque value has no parts
has_parts : (v : Value) (p : Parts) → parts_of v ≡ Some p → class_of v ≢ Class'.Opaque
has_parts (Known k) p h = λ e. cc
has_parts (Linear f) p h = λ e. cc
has_parts (Quadratic a b c) p h = λ e. cc
has_parts Opaque p h = λ e. cc

back : (x y d : ℕ) → x < P → y < P → d ≡ (x + (P - y)) % P % P → (d + y) % P ≡ x
back x y d l m h = omega arith

pub difference_is : (x y : Value) (p : Parts) → IsValue x → IsValue y
    → parts_of (difference_of x y) ≡ Some p
    → IsDifference record { left = number_of x; right = number_of y; parts = p }
difference_is x y p v w h = record {
  sum = λ s. back (number_of x s) (number_of y s) (number_of_parts p s) (below s x v) (below s y w)
      (parts_number (difference_of x y) p s h
      ∙ ap (λ (n : ℕ). n % P)
      (sym (difference_number s x y w (has_parts (difference_of x y) p h))));
  small = λ s. below s y w;
}
