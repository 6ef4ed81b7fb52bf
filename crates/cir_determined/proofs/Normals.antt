-- What the normal form of a constraint keeps.
use Rattle.std.proofs.Common.{◌≡◌, ℕ, ◌+◌, ◌-◌, ◌*◌, ◌%◌, ◌<◌, ◌↔◌, List, [], ◌∷◌, ◌++◌, Option}
use Rattle.std.proofs.Common.{Some}
use Rattle.std.proofs.Common.{None, arith, refl, ap, sym, ◌∙◌, mod-lt, lit<, subst}
use Rattle.std.proofs.lemmas.List.Elements.{All-nil, All-cons, All-head, All-tail, All-append}
use Rattle.gold_field.specs.declared.form.Term.{Term}
use Rattle.gold_field.specs.declared.form.Constraint.{Constraint}
use Rattle.gold_field.specs.declared.gold.TheConstants.{P}
use Rattle.gold_field.specs.Form.{Holds, ConstraintBelow}
use Rattle.gold_field.specs.Rises.{RisesFrom}
use Rattle.cir_lc.specs.declared.quad.Quad.{Quad}
use Rattle.cir_lc.specs.Number.{Assignment, Number, value_of, added, scaled, multiplied, negated}
use Rattle.cir_lc.specs.Normal.{constant_of, rest_of, value_of_quad, IsNormal}
use Rattle.cir_lc.specs.Sparse.{form_of}
use Rattle.cir_lc.specs.Terms.{IsWithin}
use Rattle.cir_lc.specs.Merge.{total}
use Rattle.cir_lc.proofs.Totals.{total-nil, total-cons, total-append}
use Rattle.cir_lc.proofs.Values.{value-total, scaled_at, added_at}
use Rattle.cir_lc.proofs.Normals.{normal_means}
use Rattle.cir_lc.proofs.Forms.{IsNaming, form_naming, form_rises, form_value, form_within}
use Rattle.cir_lc.proofs.Changes.{negative, negative-value, negative-naming}
use Rattle.cir_determined.specs.Circuit.{normalized}

-- k times a list
abbrev multiple : ℕ → List Term → List Term
multiple k [] = []
multiple k (t ∷ ts) = record { signal = t.signal; coef = k * t.coef } ∷ multiple k ts

multiple-total : (k : ℕ) (s : ℕ → ℕ) (ts : List Term) → total s (multiple k ts) ≡ k * total s ts
multiple-total k s [] = omega (arith, total-nil s, ap (λ (n : ℕ). k * n) (total-nil s))
multiple-total k s (t ∷ ts) =
    omega (
      arith,
      total-cons s (record { signal = t.signal; coef = k * t.coef }) (multiple k ts),
      ap (λ (n : ℕ). k * n) (total-cons s t ts),
      multiple-total k s ts,
    )

multiple-naming : (n k : ℕ) (ts : List Term) → IsNaming n ts → IsNaming n (multiple k ts)
multiple-naming n k [] h = All-nil (λ (t : Term). t.signal < n)
multiple-naming n k (t ∷ ts) h =
    All-cons (λ (t : Term). t.signal < n) (record { signal = t.signal; coef = k * t.coef })
    (multiple k ts) (All-head (λ (t : Term). t.signal < n) t ts h)
    (multiple-naming n k ts (All-tail (λ (t : Term). t.signal < n) t ts h))

multiple-value : (k : ℕ) (ts : List Term) → value_of (multiple k ts) ≡ scaled k (value_of ts)
multiple-value k ts = λ i s. at s i
  where
    at : (s : Assignment) → value_of (multiple k ts) s ≡ scaled k (value_of ts) s
    at s = value-total s (multiple k ts) ∙ ap (λ (n : ℕ). n % P) (multiple-total k s.at ts)
        ∙ scaled_at k ts s

joined-value : (f g : List Term) → value_of (f ++ g) ≡ added (value_of f) (value_of g)
joined-value f g = λ i s. at s i
  where
    at : (s : Assignment) → value_of (f ++ g) s ≡ added (value_of f) (value_of g) s
    at s = value-total s (f ++ g) ∙ ap (λ (n : ℕ). n % P) (total-append s.at f g) ∙ added_at f g s

-- terms with the numbers of the rest of a quadratic form
abbrev rest_terms : Option ℕ → Option ℕ → Quad → List Term
rest_terms (Some k) _ q = q.c ++ multiple k q.b
rest_terms None (Some k) q = q.c ++ multiple k q.a
rest_terms None None q = q.c

rest-value : (o p : Option ℕ) (q : Quad) → value_of (rest_terms o p q) ≡ rest_of o p q
rest-value (Some k) p q =
    joined-value q.c (multiple k q.b) ∙ ap (added (value_of q.c)) (multiple-value k q.b)
rest-value None (Some k) q =
    joined-value q.c (multiple k q.a) ∙ ap (added (value_of q.c)) (multiple-value k q.a)
rest-value None None q = refl

rest-naming : (n : ℕ) (o p : Option ℕ) (q : Quad) → IsNaming n q.a → IsNaming n q.b
    → IsNaming n q.c → IsNaming n (rest_terms o p q)
rest-naming n (Some k) p q a b c =
    All-append (λ (t : Term). t.signal < n) q.c (multiple k q.b) c (multiple-naming n k q.b b)
rest-naming n None (Some k) q a b c =
    All-append (λ (t : Term). t.signal < n) q.c (multiple k q.a) c (multiple-naming n k q.a a)
rest-naming n None None q a b c = c

-- the form of minus a list's numbers
pub minus_form : (n : ℕ) (ts : List Term) (f : Number) → IsNaming n ts → value_of ts ≡ f
    → (value_of (form_of n (negated f)) ≡ negated f) × IsWithin n (form_of n (negated f))
minus_form n ts f h e =
    let same : value_of (negative ts) ≡ negated f = negative-value ts ∙ ap negated e in (
      sym (ap (λ (g : Number). value_of (form_of n g)) same)
          ∙ form_value n (negative ts) (negative-naming n ts h)
          ∙ same,
      subst (λ (g : Number). IsWithin n (form_of n g)) same
          (form_within n (negative ts)),
    )

-- A * B - C as a quadratic form
abbrev quad_of : ℕ → Constraint → Quad
quad_of n k = record { a = k.a; b = k.b; c = form_of n (negated (value_of k.c)) }

abbrev rest_is : ℕ → Constraint → Number
rest_is n k = rest_of (constant_of k.a) (constant_of k.b) (quad_of n k)

rest_form : (n : ℕ) (k : Constraint) → ConstraintBelow n k
    → (value_of (form_of n (negated (rest_is n k))) ≡ negated (rest_is n k))
    × IsWithin n (form_of n (negated (rest_is n k)))
rest_form n k h =
    minus_form n (rest_terms (constant_of k.a) (constant_of k.b) (quad_of n k)) (rest_is n k)
    (rest-naming n (constant_of k.a) (constant_of k.b) (quad_of n k) h.a h.b
    (form_naming n (negated (value_of k.c))))
    (rest-value (constant_of k.a) (constant_of k.b) (quad_of n k))

pub normalized-is : (n : ℕ) (k : Constraint) → ConstraintBelow n k
    → IsNormal (quad_of n k) (normalized n k)
normalized-is n k h = record { left = refl; right = refl; rest = (rest_form n k h).0 }

pub normalized-within : (n : ℕ) (k : Constraint) → ConstraintBelow n k
    → IsWithin n (normalized n k).c
normalized-within n k h = (rest_form n k h).1

pub normalized-rises : (n : ℕ) (k : Constraint) → RisesFrom 0 (normalized n k).c
normalized-rises n k = form_rises n (negated (rest_is n k))

-- m - c is 0 where they are the same
balanced : (m c : ℕ) → m < P → c < P → (m ≡ c) ↔ ((m + ((P - 1) * c) % P) % P ≡ 0)
balanced m c lm lc = (λ e. omega arith, λ e. omega arith)

-- the normal constraint holds where the constraint does
pub normalized-means : (n : ℕ) (k : Constraint) → ConstraintBelow n k → (s : Assignment)
    → Holds s.at (normalized n k) ↔ Holds s.at k
unfolding value_of added multiplied negated
normalized-means n k h s =
    let m : Holds s.at (normalized n k) ↔ (value_of_quad (quad_of n k) s ≡ 0) =
    normal_means (quad_of n k) (normalized n k) (normalized-is n k h) s in
    let c : value_of (form_of n (negated (value_of k.c))) s ≡ negated (value_of k.c) s =
    ap (λ (f : Number). f s) (minus_form n k.c (value_of k.c) h.c refl).0 in
    let b : ((value_of k.a s * value_of k.b s) % P ≡ value_of k.c s)
    ↔ (((value_of k.a s * value_of k.b s) % P + negated (value_of k.c) s) % P ≡ 0) =
    balanced ((value_of k.a s * value_of k.b s) % P) (value_of k.c s) (mod-lt _ (lit< tt))
    (mod-lt _ (lit< tt)) in
    let e : value_of_quad (quad_of n k) s
    ≡ ((value_of k.a s * value_of k.b s) % P + negated (value_of k.c) s) % P =
    ap (λ (x : ℕ). ((value_of k.a s * value_of k.b s) % P + x) % P) c in
    (λ q. b.1 (sym e ∙ m.0 q), λ q. m.1 (e ∙ b.0 q))
