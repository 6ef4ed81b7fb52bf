-- A linear combination whose number depends on some signals alone names no others.
use Rattle.std.proofs.Common.{◌≡◌, ◌⊎◌, inl, inr, ℕ, zero, suc, ◌+◌, ◌-◌, ◌<◌, ◌≤◌, List, []}
use Rattle.std.proofs.Common.{◌∷◌, Option, Some, None, refl, sym, subst, ◌∙◌, arith}
use Rattle.std.specs.List.{AllByRecursion}
use Rattle.std.proofs.lemmas.Bool.{cases_lt}
use Rattle.gold_field.specs.declared.form.Term.{Term}
use Rattle.gold_field.specs.declared.form.Constraint.{Constraint}
use Rattle.gold_field.specs.declared.gold.TheConstants.{P}
use Rattle.gold_field.specs.Rises.{RisesFrom}
use Rattle.cir_lc.specs.declared.quad.Quad.{Quad}
use Rattle.cir_lc.specs.Number.{Number, value_of, scaled}
use Rattle.cir_lc.specs.Coefficient.{origin, unit, unit_at, one_at, coefficient}
use Rattle.cir_lc.specs.Terms.{IsWithin}
use Rattle.cir_lc.specs.Normal.{constant_of, kept_of, rest_of}
use Rattle.cir_lc.proofs.Known.{coef_of, coef_here, coef_apart, none_apart, value_origin}
use Rattle.cir_lc.proofs.Known.{coefficient_is}
use Rattle.cir_meaning.specs.Frame.{Group, Outputs, PublicInputs, PrivateInputs, Others}
use Rattle.cir_meaning.specs.Frame.{before_group}
use Rattle.cir_meaning.specs.Dependence.{IsOfGroup, IsDeclared, Depends, IsOver}
use Rattle.cir_meaning.specs.Values.{Parts}
use Rattle.cir_meaning.specs.Source.{Equation, IsConstraintOf}
use Rattle.cir_meaning.proofs.Depending.{added_over, scaled_over, negated_over}

-- whether a signal is declared
is_of : (size : ℕ) (count : Group → ℕ) (n : ℕ) (g : Group)
    → IsOfGroup size count n ⊎ ((i : ℕ) → i < count g → n ≡ before_group size g + i → ⊥)
is_of size count n g =
    elim (cases_lt n (before_group size g)) [
      | inl l ↦ inr (λ i b e. omega arith)
      | inr m ↦ elim (cases_lt (n - before_group size g) (count g)) [
        | inl l ↦ inl record {
          group = g;
          place = n - before_group size g;
          inside = l;
          number = omega arith;
        }
        | inr l ↦ inr (λ i b e. omega arith)
      ]
    ]

pub is_declared : (size : ℕ) (count : Group → ℕ) (n : ℕ)
    → IsDeclared size count n ⊎ (IsDeclared size count n → ⊥)
is_declared size count zero = inl tt
is_declared size count (suc n) =
    elim (is_of size count n Outputs) [
      | inl h ↦ inl h
      | inr a ↦ elim (is_of size count n PublicInputs) [
        | inl h ↦ inl h
        | inr b ↦ elim (is_of size count n PrivateInputs) [
          | inl h ↦ inl h
          | inr c ↦ elim (is_of size count n Others) [
            | inl h ↦ inl h
            | inr d ↦ inr (λ h. none a b c d h.group h.place h.inside h.number)
          ]
        ]
      ]
    ]
  where
    none : ((i : ℕ) → i < count Outputs → n ≡ before_group size Outputs + i → ⊥)
        → ((i : ℕ) → i < count PublicInputs → n ≡ before_group size PublicInputs + i → ⊥)
        → ((i : ℕ) → i < count PrivateInputs → n ≡ before_group size PrivateInputs + i → ⊥)
        → ((i : ℕ) → i < count Others → n ≡ before_group size Others + i → ⊥)
        → (g : Group) (i : ℕ) → i < count g → n ≡ before_group size g + i → ⊥
    none a b c d Outputs i l e = a i l e
    none a b c d PublicInputs i l e = b i l e
    none a b c d PrivateInputs i l e = c i l e
    none a b c d Others i l e = d i l e

module _ (D : ℕ → Type 0) (first : D 0) (is : (n : ℕ) → D n ⊎ (D n → ⊥)) where
  agree_at : (k : ℕ) → (D (suc k) → ⊥) → (j : ℕ) → D j → one_at 0 j ≡ unit_at k j
  agree_at k other zero d = refl
  agree_at k other (suc j) d =
      elim (cases_lt k j) [
        | inl l ↦ sym (none_apart k j (inl l))
        | inr m ↦ elim (cases_lt j k) [
          | inl l ↦ sym (none_apart k j (inr l))
          | inr l ↦
              let same : j ≡ k = omega arith in
              absurd (other (subst (λ (i : ℕ). D (suc i)) same d))
        ]
      ]

  agree : (k : ℕ) → (D (suc k) → ⊥) → (j : ℕ) → D j → origin.at j ≡ (unit k).at j
  unfolding origin unit
  agree k other j d = agree_at k other j d

  -- a signal on which it doesn't depend has no coefficient
  none_of : (f : Number) (k : ℕ) → f origin < P → Depends D f → (D (suc k) → ⊥)
      → coefficient f (suc k) ≡ 0
  none_of f k l h other =
      let same : f origin ≡ f (unit k) = h origin (unit k) (agree k other) in
      omega arith

  -- each term's coefficient
  positive : (f : ℕ → ℕ) (low : ℕ) (us : List Term) → RisesFrom low us
      → ((k : ℕ) → low ≤ k → f k ≡ coef_of k us) → AllByRecursion (λ t. 0 < f t.signal) us
  positive f low [] h e = tt
  positive f low (t ∷ us) h e = (
    omega (arith, h.1, coef_here t us, e t.signal h.0),
    positive f (t.signal + 1) us h.2
        (λ k l. e k (omega (arith, h.0)) ∙ coef_apart k t us (inr (omega arith))),
  )

  one_named : (n : ℕ) (ts : List Term) → RisesFrom 0 ts → IsWithin n ts → Depends D (value_of ts)
      → (k : ℕ) → 0 < coef_of k ts → D k
  one_named n ts h w d zero p = first
  one_named n ts h w d (suc k) p =
      elim (is (suc k)) [
        | inl there ↦ there
        | inr other ↦
            let small : value_of ts origin < P = omega (arith, value_origin ts) in
            let zero' : coefficient (value_of ts) (suc k) ≡ 0 =
            none_of (value_of ts) k small d other in
            absurd (omega (arith, coefficient_is n (suc k) ts h w))
      ]

  all_named : (us : List Term) (f : ℕ → ℕ) → ((k : ℕ) → 0 < f k → D k)
      → AllByRecursion (λ t. 0 < f t.signal) us → AllByRecursion (λ t. D t.signal) us
  all_named [] f g h = tt
  all_named (t ∷ us) f g h = (g t.signal h.0, all_named us f g h.1)

  pub terms_named : (n : ℕ) (ts : List Term) → RisesFrom 0 ts → IsWithin n ts
      → Depends D (value_of ts) → AllByRecursion (λ t. D t.signal) ts
  terms_named n ts h w d =
      all_named ts (λ k. coef_of k ts) (one_named n ts h w d)
      (positive (λ k. coef_of k ts) 0 ts h (λ k l. refl))

  -- the rest of a product with a constant factor
  rest_over : (a b : Option ℕ) (q : Quad) → Depends D (value_of q.a) → Depends D (value_of q.b)
      → Depends D (value_of q.c) → Depends D (rest_of a b q)
  rest_over (Some k) b q x y z =
      added_over D (value_of q.c) (scaled k (value_of q.b)) z (scaled_over D k (value_of q.b) y)
  rest_over None (Some k) q x y z =
      added_over D (value_of q.c) (scaled k (value_of q.a)) z (scaled_over D k (value_of q.a) x)
  rest_over None None q x y z = z

  abbrev pub Named : List Term → Type 0
  Named ts = AllByRecursion (λ t. D t.signal) ts

  kept_named : (a b : Option ℕ) (ts : List Term) → Named ts → Named (kept_of a b ts)
  kept_named None None ts h = h
  kept_named (Some k) b ts h = tt
  kept_named None (Some k) ts h = tt

  pub record AreNamed (q : Quad) (k : Constraint) : Type 0 where
    pub quad_a : Named q.a
    pub quad_b : Named q.b
    pub quad_c : Named q.c
    pub a : Named k.a
    pub b : Named k.b
    pub c : Named k.c

  pub constraint_named : (n : ℕ) (e : Equation) (k : Constraint) (h : IsConstraintOf n e k)
      → IsOver D e → AreNamed h.quad k
  constraint_named n e k h o =
      let q : Quad = h.quad in
      let x : Depends D (value_of q.a) =
      subst (λ (p : Parts). Depends D p.a) h.numbers o.a in
      let y : Depends D (value_of q.b) =
      subst (λ (p : Parts). Depends D p.b) h.numbers o.b in
      let z : Depends D (value_of q.c) =
      subst (λ (p : Parts). Depends D p.c) h.numbers o.c in
      let named_a : Named q.a = terms_named n q.a h.rises_a h.within.0 x in
      let named_b : Named q.b = terms_named n q.b h.rises_b h.within.1 y in
      let rest : Depends D (value_of k.c) =
      subst (λ (f : Number). Depends D f) (sym h.normal.rest)
      (negated_over D (rest_of (constant_of q.a) (constant_of q.b) q)
      (rest_over (constant_of q.a) (constant_of q.b) q x y z)) in
      record {
        quad_a = named_a;
        quad_b = named_b;
        quad_c = terms_named n q.c h.rises_c h.within.2 z;
        a = subst Named (sym h.normal.left)
            (kept_named (constant_of q.a) (constant_of q.b) q.a named_a);
        b = subst Named (sym h.normal.right)
            (kept_named (constant_of q.a) (constant_of q.b) q.b named_b);
        c = terms_named n k.c h.rises_product h.within_constraint.2 rest;
      }
