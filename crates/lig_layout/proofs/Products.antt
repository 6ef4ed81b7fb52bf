-- A combination of left sides, times values.
use Rattle.std.proofs.Common.{◌≡◌, ℕ, suc, ◌+◌, ◌-◌, ◌*◌, ◌%◌, ◌<◌, ◌≤◌, true, false, cond, eqb}
use Rattle.std.proofs.Common.{List, [], ◌∷◌, length, map, slice_index, sum_by, refl, sym, ap, ◌∙◌}
use Rattle.std.proofs.Common.{arith, ⊎_elim}
use Rattle.std.specs.List.{range_with_len, AllByRecursion}
use Rattle.std.proofs.Math.Nat.{mod-add-mod, add-mod-mod}
use Rattle.std.proofs.lemmas.Bool.{cases_lt, eq-eqb}
use Rattle.std.proofs.lemmas.Bool.Decides.{eqb_tells}
use Rattle.std.proofs.lemmas.Nat.{mul-mod_first, mul-mod_second}
use Rattle.std.proofs.lemmas.List.Sums.{sum_by-append}
use Rattle.gold_field.specs.declared.gold.TheConstants.{P}
use Rattle.gold_field.specs.declared.form.Term.{Term}
use Rattle.gold_field.specs.Form.{SignalsBelow}
use Rattle.lig_layout.specs.System.{coefficient, combined_at}
use Rattle.lig_layout.specs.Laws.{inner_product, combined_values, CombiningIsLinear}
use Rattle.lig_layout.proofs.Forms.{coefficient-append}

pub mod_both : (u v x y : ℕ) → u % P ≡ v % P → x % P ≡ y % P → (u + x) % P ≡ (v + y) % P
mod_both u v x y e f =
    sym (mod-add-mod u P x) ∙ ap (λ z. (z + x) % P) e ∙ mod-add-mod v P x
    ∙ sym (add-mod-mod v x P) ∙ ap (λ z. (v + z) % P) f ∙ add-mod-mod v y P

-- the values of f from a on, times these values
abbrev at : (ℕ → ℕ) → ℕ → List ℕ → ℕ
at f a m = inner_product (map f (range_with_len a (length m))) m

at_mod : (f : ℕ → ℕ) (a : ℕ) (m : List ℕ) → at (λ j. f j % P) a m % P ≡ at f a m % P
at_mod f a [] = refl
at_mod f a (y ∷ ys) =
    mod_both (f a % P * y) (f a * y) (at (λ j. f j % P) (a + 1) ys) (at f (a + 1) ys)
    (mul-mod_first (f a) y P) (at_mod f (a + 1) ys)

at_same : (f g : ℕ → ℕ) (a : ℕ) (m : List ℕ) → ((j : ℕ) → f j ≡ g j) → at f a m ≡ at g a m
at_same f g a [] same = refl
at_same f g a (y ∷ ys) same =
    ap (λ x. x * y + at f (a + 1) ys) (same a) ∙ ap (λ x. g a * y + x) (at_same f g (a + 1) ys same)

at_zero : (a : ℕ) (m : List ℕ) → at (λ j. 0) a m ≡ 0
at_zero a [] = refl
at_zero a (y ∷ ys) = omega (arith, at_zero (a + 1) ys)

at_add : (f g : ℕ → ℕ) (a : ℕ) (m : List ℕ) → at (λ j. f j + g j) a m ≡ at f a m + at g a m
at_add f g a [] = refl
at_add f g a (y ∷ ys) = omega (arith, at_add f g (a + 1) ys)

at_scale : (c : ℕ) (f : ℕ → ℕ) (a : ℕ) (m : List ℕ) → at (λ j. c * f j) a m ≡ c * at f a m
at_scale c f a [] = omega arith
at_scale c f a (y ∷ ys) = omega (arith, at_scale c f (a + 1) ys)

ne-eqb : (a b : ℕ) → (a ≡ b → ⊥) → eqb a b ≡ false
ne-eqb a b ne = ⊎_elim (λ p. absurd (ne p.1)) (λ q. q.0) (eqb_tells a b)

-- a term before the place
at_past : (s c a : ℕ) (m : List ℕ) → s < a → at (λ j. cond (eqb s j) c 0) a m ≡ 0
at_past s c a [] h = refl
at_past s c a (y ∷ ys) h =
    let other : eqb s a ≡ false = ne-eqb s a (λ e. absurd (omega arith)) in
    let more = at_past s c (a + 1) ys (omega arith) in
    ap (λ b. cond b c 0 * y + at (λ j. cond (eqb s j) c 0) (a + 1) ys) other ∙ omega (arith, more)

-- a term takes the value at its place
at_term : (s c a : ℕ) (m : List ℕ) → a ≤ s → s < a + length m → at (λ j. cond (eqb s j) c 0) a m
    ≡ c * slice_index m (s - a)
at_term s c a [] low high = absurd (omega arith)
at_term s c a (y ∷ ys) low high = ⊎_elim
    (λ more.
    let other : eqb s a ≡ false = ne-eqb s a (λ e. absurd (omega arith)) in
    let place : s - a ≡ suc (s - (a + 1)) = omega arith in
    let rest = at_term s c (a + 1) ys (omega arith) (omega arith) in
    ap (λ b. cond b c 0 * y + at (λ j. cond (eqb s j) c 0) (a + 1) ys) other ∙ omega (arith, rest)
    ∙ ap (λ i. c * slice_index (y ∷ ys) i) (sym place))
    (λ here.
    let same : eqb s a ≡ true = eq-eqb s a (omega arith) in
    let place : s - a ≡ 0 = omega arith in
    let rest = at_past s c (a + 1) ys (omega arith) in
    ap (λ b. cond b c 0 * y + at (λ j. cond (eqb s j) c 0) (a + 1) ys) same ∙ omega (arith, rest)
    ∙ ap (λ i. c * slice_index (y ∷ ys) i) (sym place))
    (cases_lt a s)

-- the sum of a form's terms before it is reduced
abbrev pub exact : List ℕ → List Term → ℕ
exact m form = sum_by (λ t. t.coef * slice_index m t.signal) form

at_form : (m : List ℕ) (form : List Term) → SignalsBelow (length m) form
    → at (λ j. coefficient j form) 0 m ≡ exact m form
at_form m [] below = at_zero 0 m
at_form m (t ∷ form) below =
    let rest = at_form m form (λ k d within. below (suc k) d (omega arith)) in
    let inside : t.signal < length m = below 0 t (omega arith) in
    let first : at (λ j. cond (eqb t.signal j) t.coef 0) 0 m ≡ t.coef * slice_index m t.signal =
    at_term t.signal t.coef 0 m (omega arith) (omega arith)
    ∙ ap (λ i. t.coef * slice_index m i) (omega arith) in
    let split = sum_by-append (λ (u : Term). u.coef * slice_index m u.signal) (t ∷ []) form in
    at_same (λ j. coefficient j (t ∷ form))
    (λ j. cond (eqb t.signal j) t.coef 0 + coefficient j form) 0 m
    (λ j. coefficient-append j (t ∷ []) form ∙ omega arith)
    ∙ at_add (λ j. cond (eqb t.signal j) t.coef 0) (λ j. coefficient j form) 0 m
    ∙ ap (λ x. x + at (λ j. coefficient j form) 0 m) first
    ∙ ap (λ x. t.coef * slice_index m t.signal + x) rest ∙ omega (arith, split)

at_forms : (m r : List ℕ) (forms : List (List Term))
    → AllByRecursion (SignalsBelow (length m)) forms → at (λ j. combined_at j r forms) 0 m % P
    ≡ combined_values m r forms % P
at_forms m [] forms below = ap (λ x. x % P) (at_zero 0 m)
at_forms m (n ∷ r) [] below = ap (λ x. x % P) (at_zero 0 m)
at_forms m (n ∷ r) (form ∷ forms) below =
    ap (λ x. x % P) (at_add (λ j. n * coefficient j form) (λ j. combined_at j r forms) 0 m
    ∙ ap (λ x. x + at (λ j. combined_at j r forms) 0 m) (at_scale n (λ j. coefficient j form) 0 m
    ∙ ap (λ x. n * x) (at_form m form below.0)))
    ∙ mod_both (n * exact m form) (n * (exact m form % P)) (at (λ j. combined_at j r forms) 0 m)
    (combined_values m r forms) (sym (mul-mod_second n (exact m form) P))
    (at_forms m r forms below.1)

pub linear : CombiningIsLinear
linear values r forms below =
    at_mod (λ j. combined_at j r forms) 0 values ∙ at_forms values r forms below
