-- A signal that nothing names is named by no sum, no multiple and no substitution of these.
use Rattle.std.proofs.Common.{◌≡◌, ℕ, zero, suc, ◌-◌, ◌%◌, ◌<◌, ◌==◌, ◌||◌}
use Rattle.std.proofs.Common.{Bool, true, false, cond, List, [], ◌∷◌, ◌++◌}
use Rattle.std.proofs.Common.{Option, Some, None, ◌⊎◌, inl}
use Rattle.std.proofs.Common.{inr, arith, refl, ap, sym, subst, ◌∙◌}
use Rattle.std.proofs.lemmas.Bool.{cases_eq, cases_lt, eqb-true}
use Rattle.std.proofs.lemmas.List.Folds.{list_any-append}
use Rattle.gold_field.specs.declared.form.Term.{Term}
use Rattle.gold_field.specs.declared.form.Constraint.{Constraint}
use Rattle.gold_field.specs.declared.gold.TheConstants.{P}
use Rattle.cir_lc.specs.declared.quad.Quad.{Quad}
use Rattle.cir_lc.specs.Number.{Number, value_of, added, scaled, negated}
use Rattle.cir_lc.specs.Coefficient.{coefficient, one_at}
use Rattle.cir_lc.specs.Terms.{term_of}
use Rattle.cir_lc.specs.Normal.{constant_of, kept_of, rest_of}
use Rattle.cir_lc.specs.Sparse.{form_of, normal_of}
use Rattle.cir_lc.specs.Substitution.{put, substituted, substitute}
use Rattle.cir_lc.proofs.Totals.{total-nil}
use Rattle.cir_lc.proofs.Known.{coef_of, coef_apart}
use Rattle.cir_lc.proofs.Forms.{coefficient_any}
use Rattle.cir_simplify.specs.Shape.{names, names_in}
use Rattle.cir_simplify.proofs.Linear.{value_append}
use Rattle.cir_simplify.proofs.Linear.{value_times, value_put, negated_is, times_all, put_terms}
use Rattle.cir_simplify.proofs.Linear.{instead, or_false, not_equal}

-- numbers of lists that don't name the signal
abbrev IsFree : ℕ → Number → Type 0
IsFree y f = (ts : List Term) × (names y ts ≡ false) × (value_of ts ≡ f)

pub both_false : (a b : Bool) → a ≡ false → b ≡ false → a || b ≡ false
both_false true b d e = cc
both_false false b d e = e

pub names_append : (y : ℕ) (ts us : List Term) → names y ts ≡ false → names y us ≡ false
    → names y (ts ++ us) ≡ false
names_append y ts us d e =
    list_any-append (λ (t : Term). t.signal == y) ts us ∙ both_false (names y ts) (names y us) d e

pub names_times : (y k : ℕ) (ts : List Term) → names y ts ≡ false → names y (times_all k ts) ≡ false
names_times y k [] h = refl
names_times y k (t ∷ ts) h =
    let g : (t.signal == y ≡ false) × (names y ts ≡ false) =
    or_false (t.signal == y) (names y ts) h in
    both_false (t.signal == y) (names y (times_all k ts)) g.0 (names_times y k ts g.1)

free_added : (y : ℕ) (f g : Number) → IsFree y f → IsFree y g → IsFree y (added f g)
free_added y f g (ts, v, d) (us, w, e) = (
  ts ++ us,
  names_append y ts us v w,
  value_append ts us
      ∙ ap (λ (h : Number). added h (value_of us)) d ∙ ap (added f) e,
)

free_scaled : (y k : ℕ) (f : Number) → IsFree y f → IsFree y (scaled k f)
free_scaled y k f (ts, w, e) =
    (times_all k ts, names_times y k ts w, value_times k ts ∙ ap (scaled k) e)

free_negated : (y : ℕ) (f : Number) → IsFree y f → IsFree y (negated f)
free_negated y f l = subst (IsFree y) (negated_is f) (free_scaled y (P - 1) f l)

-- what is put in names no signal that neither list names, nor the signal that it replaces
instead_unnamed : (x y : ℕ) (by : List Term) (t : Term) → names y by ≡ false → t.signal == y ≡ false
    → names y (instead x by t) ≡ false
instead_unnamed x y by t h g = by_test (t.signal == x)
  where
    by_test : (b : Bool) → names y (cond b (times_all t.coef by) (t ∷ [])) ≡ false
    by_test true = names_times y t.coef by h
    by_test false = both_false (t.signal == y) false g refl

put_unnamed : (x y : ℕ) (by ts : List Term) → names y by ≡ false → names y ts ≡ false
    → names y (put_terms x by ts) ≡ false
put_unnamed x y by [] h g = refl
put_unnamed x y by (t ∷ ts) h g =
    let e : (t.signal == y ≡ false) × (names y ts ≡ false) =
    or_false (t.signal == y) (names y ts) g in
    names_append y (instead x by t) (put_terms x by ts) (instead_unnamed x y by t h e.0)
    (put_unnamed x y by ts h e.1)

instead_gone : (x : ℕ) (by : List Term) (t : Term) → names x by ≡ false
    → names x (instead x by t) ≡ false
instead_gone x by t h = by_test (t.signal == x) refl
  where
    by_test : (b : Bool) → t.signal == x ≡ b → names x (cond b (times_all t.coef by) (t ∷ []))
        ≡ false
    by_test true e = names_times x t.coef by h
    by_test false e = both_false (t.signal == x) false e refl

put_gone : (x : ℕ) (by ts : List Term) → names x by ≡ false → names x (put_terms x by ts) ≡ false
put_gone x by [] h = refl
put_gone x by (t ∷ ts) h =
    names_append x (instead x by t) (put_terms x by ts) (instead_gone x by t h) (put_gone x by ts h)

-- a form names no signal without a coefficient
test_apart : (a b : ℕ) → (a ≡ b → ⊥) → a == b ≡ false
test_apart a b h = by_test (a == b) refl
  where
    by_test : (t : Bool) → a == b ≡ t → t ≡ false
    by_test true e = absurd (h (eqb-true a b e))
    by_test false e = refl

pub term_unnamed : (y n c : ℕ) → (n ≡ y → ⊥) → names y (term_of n c) ≡ false
term_unnamed y n zero h = refl
term_unnamed y n (suc c) h = both_false (n == y) false (test_apart n y h) refl

pub zero_unnamed : (n y : ℕ) (f : Number) → coefficient f y ≡ 0 → names y (form_of n f) ≡ false
zero_unnamed zero y f h = refl
zero_unnamed (suc n) y f h =
    names_append y (form_of n f) (term_of n (coefficient f n)) (zero_unnamed n y f h) last
  where
    last : names y (term_of n (coefficient f n)) ≡ false
    last =
        elim (cases_eq n y) [
          | inl e ↦ ap (λ (c : ℕ). names y (term_of n c)) (ap (coefficient f) e ∙ h)
          | inr e ↦ term_unnamed y n (coefficient f n) e
        ]

coef_unnamed : (y : ℕ) (ts : List Term) → names y ts ≡ false → coef_of y ts ≡ 0
coef_unnamed y [] h = total-nil (one_at y)
coef_unnamed y (t ∷ ts) h =
    let e : (t.signal == y ≡ false) × (names y ts ≡ false) =
    or_false (t.signal == y) (names y ts) h in
    let apart : t.signal ≡ y → ⊥ = not_equal t.signal y e.0 in
    coef_apart y t ts (sides y t.signal apart) ∙ coef_unnamed y ts e.1
  where
    sides : (a b : ℕ) → (b ≡ a → ⊥) → (a < b) ⊎ (b < a)
    sides a b h = elim (cases_lt a b) [ inl l ↦ inl l | inr m ↦ inr (omega arith) ]

pub free_form : (n y : ℕ) (f : Number) → IsFree y f → names y (form_of n f) ≡ false
free_form n y f (ts, w, e) =
    zero_unnamed n y f (ap (λ (g : Number). coefficient g y) (sym e) ∙ coefficient_any y ts
    ∙ ap (λ (c : ℕ). c % P) (coef_unnamed y ts w))

kept_unnamed : (y : ℕ) (o p : Option ℕ) (ts : List Term) → names y ts ≡ false
    → names y (kept_of o p ts) ≡ false
kept_unnamed y None None ts h = h
kept_unnamed y (Some k) p ts h = refl
kept_unnamed y None (Some k) ts h = refl

free_rest : (y : ℕ) (q : Quad) (o p : Option ℕ) → names y q.a ≡ false → names y q.b ≡ false
    → names y q.c ≡ false → IsFree y (rest_of o p q)
free_rest y q (Some k) p a b c =
    free_added y (value_of q.c) (scaled k (value_of q.b)) (q.c, c, refl)
    (free_scaled y k (value_of q.b) (q.b, b, refl))
free_rest y q None (Some k) a b c =
    free_added y (value_of q.c) (scaled k (value_of q.a)) (q.c, c, refl)
    (free_scaled y k (value_of q.a) (q.a, a, refl))
free_rest y q None None a b c = (q.c, c, refl)

normal_unnamed : (n y : ℕ) (q : Quad) → names y q.a ≡ false → names y q.b ≡ false
    → names y q.c ≡ false → names_in y (normal_of n q) ≡ false
normal_unnamed n y q a b c =
    both_false (names y (normal_of n q).a || names y (normal_of n q).b) (names y (normal_of n q).c)
    (both_false (names y (normal_of n q).a) (names y (normal_of n q).b)
    (kept_unnamed y (constant_of q.a) (constant_of q.b) q.a a)
    (kept_unnamed y (constant_of q.a) (constant_of q.b) q.b b))
    (free_form n y _ (free_negated y _ (free_rest y q (constant_of q.a) (constant_of q.b) a b c)))

substitute_free : (n x y : ℕ) (by : List Term) (k : Constraint)
    → ((ts : List Term) → (names y ts ≡ false) ⊎ (y ≡ x)
    → IsFree y (substituted x (value_of by) (value_of ts))) → (names_in y k ≡ false) ⊎ (y ≡ x)
    → names_in y (substitute n x by k) ≡ false
substitute_free n x y by k put h =
    normal_unnamed n y _ (free_form n y _ (put k.a (parts.0))) (free_form n y _ (put k.b (parts.1)))
    (free_form n y _ (free_negated y _ (put k.c (parts.2))))
  where
    parts : ((names y k.a ≡ false) ⊎ (y ≡ x)) × ((names y k.b ≡ false) ⊎ (y ≡ x))
        × ((names y k.c ≡ false) ⊎ (y ≡ x))
    parts =
        elim h [
          | inl g ↦
              let t : (names y k.a || names y k.b ≡ false) × (names y k.c ≡ false) =
              or_false (names y k.a || names y k.b) (names y k.c) g in
              let u : (names y k.a ≡ false) × (names y k.b ≡ false) =
              or_false (names y k.a) (names y k.b) t.0 in
              (inl u.0, inl u.1, inl t.1)
          | inr e ↦ (inr e, inr e, inr e)
        ]

-- a substitution names no signal that neither the constraint nor what is put in names, ..
pub substitute_unnamed : (n x y : ℕ) (by : List Term) (k : Constraint) → 0 < x → names y by ≡ false
    → names_in y k ≡ false → names_in y (substitute n x by k) ≡ false
substitute_unnamed n x y by k h g e = substitute_free n x y by k put (inl e)
  where
    put : (ts : List Term) → (names y ts ≡ false) ⊎ (y ≡ x)
        → IsFree y (substituted x (value_of by) (value_of ts))
    put ts (inl w) = (put_terms x by ts, put_unnamed x y by ts g w, value_put x by ts h)
    put ts (inr e) = (
      put_terms x by ts,
      subst (λ (z : ℕ). names z (put_terms x by ts) ≡ false) (sym e)
          (put_gone x by ts (subst (λ (z : ℕ). names z by ≡ false) e g)),
      value_put x by ts h,
    )

-- .. nor the signal that it replaces
pub substitute_gone : (n x : ℕ) (by : List Term) (k : Constraint) → 0 < x → names x by ≡ false
    → names_in x (substitute n x by k) ≡ false
substitute_gone n x by k h g =
    substitute_free n x x by k
    (λ ts w. (put_terms x by ts, put_gone x by ts g, value_put x by ts h)) (inr refl)
