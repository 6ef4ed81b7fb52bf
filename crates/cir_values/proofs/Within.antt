-- The signals of a value's parts.
use Rattle.std.proofs.Common.{◌≡◌, ℕ, ◌+◌, ◌-◌, ◌*◌, ◌%◌, ◌<◌, List, [], ◌∷◌, ap, sym, subst, ◌∙◌}
use Rattle.std.proofs.Common.{length, refl, arith, mod-eq_of_lt, mod-lt, lit<}
use Rattle.gold_field.specs.declared.form.Term.{Term}
use Rattle.gold_field.specs.declared.gold.TheConstants.{P}
use Rattle.cir_lc.specs.declared.quad.Quad.{Quad}
use Rattle.cir_lc.specs.Terms.{IsWithin}
use Rattle.cir_lc.specs.Normal.{IsQuadWithin}
use Rattle.cir_lc.specs.Number.{Assignment, Number, value_of, constant, signal, added, scaled}
use Rattle.cir_lc.specs.Number.{negated}
use Rattle.cir_lc.specs.Merge.{total}
use Rattle.cir_lc.proofs.Totals.{total-nil, total-cons}
use Rattle.cir_lc.proofs.Values.{value-total, small_value}
use Rattle.cir_lc.proofs.Normals.{scaled_minus}
use Rattle.std.proofs.Math.Nat.{add_comm}
use Rattle.cir_values.specs.declared.value.Value.{Value}
use Rattle.cir_values.specs.declared.value.Value.TheVariants.{Known, Linear, Quadratic, Opaque}
use Rattle.cir_meaning.specs.Values.{IsValue}
use Rattle.cir_values.specs.Meant.{meant, IsValueWithin}

pub at_linear : (n : ℕ) (v : Value) (f : List Term) → v ≡ Linear f → IsValueWithin n v
    → IsWithin n f
at_linear n v f e h = subst (λ (v : Value). IsValueWithin n v) e h

pub at_quadratic : (n : ℕ) (v : Value) (q : Quad) → v ≡ Quadratic q → IsValueWithin n v
    → IsQuadWithin n q
at_quadratic n v q e h = subst (λ (v : Value). IsValueWithin n v) e h

-- the numbers of a value are numbers of the field
pub is_value : (n : ℕ) (v : Value) → IsValueWithin n v → IsValue (meant v)
unfolding value_of
is_value n (Known k) h = h
is_value n (Linear f) h = λ s. mod-lt _ (lit< tt)
is_value n (Quadratic q) h =
    (λ s. mod-lt _ (lit< tt), λ s. mod-lt _ (lit< tt), λ s. mod-lt _ (lit< tt))
is_value n Opaque h = tt

-- the number of no term, and of one term of signal 0
none_at : (s : Assignment) → value_of [] s ≡ constant 0 s
unfolding constant
none_at s = value-total s [] ∙ ap (λ (n : ℕ). n % P) (total-nil s.at)

pub none_value : (f : List Term) → f ≡ [] → value_of f ≡ constant 0
none_value f e = ap value_of e ∙ (λ i s. none_at s i)

single_at : (k : ℕ) (s : Assignment) → k < P → value_of (record { signal = 0; coef = k } ∷ []) s
    ≡ constant k s
unfolding constant
single_at k s h =
    let all : total s.at (record { signal = 0; coef = k } ∷ []) ≡ k =
    total-cons s.at (record { signal = 0; coef = k }) []
    ∙ omega (arith, total-nil s.at, ap (λ (n : ℕ). k * n) s.one) in
    value-total s (record { signal = 0; coef = k } ∷ []) ∙ ap (λ (n : ℕ). n % P) all
    ∙ mod-eq_of_lt {n = k} {m = P} h

pub single_value : (k : ℕ) (f : List Term) → k < P → f ≡ record { signal = 0; coef = k } ∷ []
    → value_of f ≡ constant k
single_value k f h e = ap value_of e ∙ (λ i s. single_at k s h i)

signal_at : (k : ℕ) (s : Assignment) → value_of (record { signal = k; coef = 1 } ∷ []) s
    ≡ signal k s
unfolding signal
signal_at k s =
    let all : total s.at (record { signal = k; coef = 1 } ∷ []) ≡ s.at k =
    total-cons s.at (record { signal = k; coef = 1 }) [] ∙ omega (arith, total-nil s.at) in
    value-total s (record { signal = k; coef = 1 } ∷ []) ∙ ap (λ (n : ℕ). n % P) all
    ∙ mod-eq_of_lt {n = s.at k} {m = P} (s.below k)

pub signal_value : (k : ℕ) (f : List Term) → f ≡ record { signal = k; coef = 1 } ∷ []
    → value_of f ≡ signal k
signal_value k f e = ap value_of e ∙ (λ i s. signal_at k s i)

pub none_of : (ts : List Term) → length ts < 1 → ts ≡ []
none_of [] h = refl
none_of (t ∷ ts) h = absurd (omega arith)

-- a sum with no term, and a difference
no_number : (g : List Term) (s : Assignment) → g ≡ [] → value_of g s ≡ 0
no_number g s e = ap (λ (h : List Term). value_of h s) e ∙ value-total s []
    ∙ ap (λ (n : ℕ). n % P) (total-nil s.at)

as_before : (f : List Term) (s : Assignment) → (value_of f s + 0) % P ≡ value_of f s
as_before f s =
    let z : value_of f s + 0 ≡ value_of f s = omega arith in
    ap (λ (n : ℕ). n % P) z ∙ small_value f s

pub nothing_added : (f g : List Term) → g ≡ [] → value_of f ≡ added (value_of f) (value_of g)
unfolding added
nothing_added f g e =
    λ i s. sym (ap (λ (n : ℕ). (value_of f s + n) % P) (no_number g s e) ∙ as_before f s) i

pub nothing_less : (f g : List Term) → g ≡ []
    → value_of f ≡ added (value_of f) (negated (value_of g))
unfolding added negated
nothing_less f g e =
    λ i s. sym (ap (λ (n : ℕ). (value_of f s + ((P - 1) * n) % P) % P) (no_number g s e)
    ∙ as_before f s) i

pub less_known : (k : ℕ) (f g h : List Term) → k ≡ (P - 1) % P
    → value_of h ≡ added (value_of f) (scaled k (value_of g))
    → value_of h ≡ added (value_of f) (negated (value_of g))
less_known k f g h e is = is ∙ ap (added (value_of f)) (scaled_minus k (value_of g) e)

pub added_turned : (f g : Number) → added f g ≡ added g f
unfolding added
added_turned f g = λ i s. ap (λ (n : ℕ). n % P) (add_comm (f s) (g s)) i
