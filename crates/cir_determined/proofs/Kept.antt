-- Constraints in normal form, as code makes and tests them.
use Rattle.std.proofs.Common.{◌≡◌, ℕ, ◌+◌, ◌*◌, ◌%◌, ◌<◌, ◌==◌, true}
use Rattle.std.proofs.Common.{false, not, List, []}
use Rattle.std.proofs.Common.{◌∷◌, Option, Some, None, All, arith, refl, ap, sym, ◌∙◌, inl, inr}
use Rattle.std.specs.Option.{is_some}
use Rattle.std.proofs.lemmas.Bool.{eqb-true, or_cases}
use Rattle.std.proofs.lemmas.List.Elements.{All-head, All-tail, All-map, All-filter}
use Rattle.gold_field.specs.declared.form.Term.{Term}
use Rattle.gold_field.specs.declared.form.Constraint.{Constraint}
use Rattle.gold_field.specs.declared.gold.TheConstants.{P}
use Rattle.gold_field.specs.Form.{SignalsBelow, ConstraintBelow}
use Rattle.gold_field.specs.Rises.{RisesFrom}
use Rattle.cir_lc.specs.declared.quad.Quad.{Quad}
use Rattle.cir_lc.specs.Number.{Assignment, Number, value_of, added, scaled, negated}
use Rattle.cir_lc.specs.Terms.{IsWithin}
use Rattle.cir_lc.specs.Normal.{constant_of, kept_of, rest_of, IsNormal}
use Rattle.cir_lc.specs.Normal.{IsConstraintWithin}
use Rattle.cir_lc.specs.Sparse.{form_of, normal_of}
use Rattle.cir_lc.proofs.Values.{small_value}
use Rattle.cir_lc.proofs.Normals.{negated_back}
use Rattle.cir_lc.proofs.Forms.{form_known, normal_known, naming_within}
use Rattle.cir_determined.specs.Circuit.{normalized}
use Rattle.cir_determined.specs.Marks.{Marks}
use Rattle.cir_determined.specs.Rules.{is_named, unknown, unknown_coefs}
use Rattle.cir_determined.proofs.Steps.{positive}
use Rattle.cir_determined.proofs.Normals.{minus_form}

-- a list with small coefficients
pub small_within : (n : ℕ) (ts : List Term) → SignalsBelow n ts → All (λ t. t.coef < P) ts
    → IsWithin n ts
small_within n ts h g k d l = (h k d l, g k d l)

-- what `normal` gives is the normal form
pub normal_made : (n : ℕ) (k r : Constraint) (q : Quad) → q.a ≡ k.a → q.b ≡ k.b
    → value_of q.c ≡ negated (value_of k.c) → RisesFrom 0 q.c → IsWithin n q.c → IsNormal q r
    → RisesFrom 0 r.c → IsWithin n r.c → r ≡ normalized n k
normal_made n k r q ea eb e rises within shape rises_r within_r =
    let ec : q.c ≡ form_of n (negated (value_of k.c)) =
    form_known n q.c (negated (value_of k.c)) rises within e in
    normal_known n q r shape rises_r within_r ∙ (λ i. normal_of n (whole ec i))
  where
    whole : q.c ≡ form_of n (negated (value_of k.c))
        → q ≡ record { a = k.a; b = k.b; c = form_of n (negated (value_of k.c)) }
    whole ec = λ i. record { a = ea i; b = eb i; c = ec i }

pub below_from_within : (n : ℕ) (r : Constraint) → IsConstraintWithin n r → ConstraintBelow n r
below_from_within n r h = record {
  a = naming_within n r.a h.0;
  b = naming_within n r.b h.1;
  c = naming_within n r.c h.2;
}

-- no product: nothing is added to C
none_added : (x y : ℕ) → x % P ≡ x → (x + (0 * y) % P) % P ≡ x
none_added x y e =
    let none : 0 * y ≡ 0 = omega arith in
    let same : x + 0 ≡ x = omega arith in
    ap (λ (m : ℕ). (x + m % P) % P) none ∙ ap (λ (m : ℕ). m % P) same ∙ e

nothing_added : (f g : List Term) → added (value_of f) (scaled 0 (value_of g)) ≡ value_of f
unfolding added scaled
nothing_added f g = λ i s. at s i
  where
    at : (s : Assignment) → (value_of f s + (0 * value_of g s) % P) % P ≡ value_of f s
    at s = none_added (value_of f s) (value_of g s) (small_value f s)

-- a constraint in normal form is its own
kept_rest : (n : ℕ) (k : Constraint) (f : Number) → SignalsBelow n k.c → IsWithin n k.c
    → RisesFrom 0 k.c → f ≡ value_of (form_of n (negated (value_of k.c)))
    → form_of n (negated f) ≡ k.c
kept_rest n k f below within rises e =
    ap (λ (g : Number). form_of n g)
    (ap negated e ∙ sym (negated_back (form_of n (negated (value_of k.c))) k.c
    (minus_form n k.c (value_of k.c) below refl).0))
    ∙ sym (form_known n k.c (value_of k.c) rises within refl)

pub kept_linear : (n : ℕ) (k : Constraint) → k.a ≡ [] → k.b ≡ [] → SignalsBelow n k.c
    → IsWithin n k.c → RisesFrom 0 k.c → normalized n k ≡ k
kept_linear n k ea eb below within rises =
    λ i. record { a = left i; b = right i; c = rest i }
  where
    minus : List Term
    minus = form_of n (negated (value_of k.c))

    left : kept_of (constant_of k.a) (constant_of k.b) k.a ≡ k.a
    left = ap (λ (a : List Term). kept_of (constant_of a) (constant_of k.b) k.a) ea ∙ sym ea

    right : kept_of (constant_of k.a) (constant_of k.b) k.b ≡ k.b
    right = ap (λ (a : List Term). kept_of (constant_of a) (constant_of k.b) k.b) ea ∙ sym eb

    rest : form_of n (negated (rest_of (constant_of k.a) (constant_of k.b)
        record { a = k.a; b = k.b; c = form_of n (negated (value_of k.c)) })) ≡ k.c
    rest =
        kept_rest n k (rest_of (constant_of k.a) (constant_of k.b)
        record { a = k.a; b = k.b; c = form_of n (negated (value_of k.c)) }) below within rises
        (ap (λ (a : List Term). rest_of (constant_of a) (constant_of k.b)
        record { a = k.a; b = k.b; c = form_of n (negated (value_of k.c)) }) ea
        ∙ nothing_added (form_of n (negated (value_of k.c))) k.b)

pub kept_product : (n : ℕ) (k : Constraint) → constant_of k.a ≡ None → constant_of k.b ≡ None
    → SignalsBelow n k.c → IsWithin n k.c → RisesFrom 0 k.c → normalized n k ≡ k
kept_product n k ea eb below within rises =
    λ i. record { a = left i; b = right i; c = rest i }
  where
    left : kept_of (constant_of k.a) (constant_of k.b) k.a ≡ k.a
    left = ap (λ (o : Option ℕ). kept_of o (constant_of k.b) k.a) ea
        ∙ ap (λ (o : Option ℕ). kept_of None o k.a) eb

    right : kept_of (constant_of k.a) (constant_of k.b) k.b ≡ k.b
    right = ap (λ (o : Option ℕ). kept_of o (constant_of k.b) k.b) ea
        ∙ ap (λ (o : Option ℕ). kept_of None o k.b) eb

    rest : form_of n (negated (rest_of (constant_of k.a) (constant_of k.b)
        record { a = k.a; b = k.b; c = form_of n (negated (value_of k.c)) })) ≡ k.c
    rest =
        kept_rest n k (rest_of (constant_of k.a) (constant_of k.b)
        record { a = k.a; b = k.b; c = form_of n (negated (value_of k.c)) }) below within rises
        (ap (λ (o : Option ℕ). rest_of o (constant_of k.b)
        record { a = k.a; b = k.b; c = form_of n (negated (value_of k.c)) }) ea
        ∙ ap (λ (o : Option ℕ). rest_of None o
        record { a = k.a; b = k.b; c = form_of n (negated (value_of k.c)) }) eb)

pub none_of : (o : Option ℕ) → is_some o ≡ false → o ≡ None
none_of None e = refl
none_of (Some x) e = cc

-- a wire that is named is below what all are below
pub named_below : (n w : ℕ) (ts : List Term) → SignalsBelow n ts → is_named w ts ≡ true → w < n
named_below n w [] h e = cc
named_below n w (t ∷ ts) h e =
    elim (or_cases (t.signal == w) (is_named w ts) e) [
      | inl a ↦
          omega (
            arith,
            eqb-true t.signal w a,
            All-head (λ (t : Term). t.signal < n) t ts h,
          )
      | inr b ↦ named_below n w ts (All-tail (λ (t : Term). t.signal < n) t ts h) b
    ]

-- the coefficients of a linear combination
pub coefs_small : (m : Marks) (n : ℕ) (us : List Term) → RisesFrom 0 us → IsWithin n us
    → All (λ c. (0 < c) × (c < P)) (unknown_coefs m us)
coefs_small m n us rises within =
    All-map (λ (c : ℕ). (0 < c) × (c < P)) (λ u. u.coef) (unknown m us)
    (All-filter (λ u. not (m.known u.signal)) (λ (u : Term). (0 < u.coef) × (u.coef < P)) us
    (λ k d l. (positive 0 us rises k d l, (within k d l).1)))
