-- The source list by the final numbers.
use Rattle.std.proofs.Common.{◌≡◌, ℕ, ◌+◌, ◌*◌, ◌%◌, ◌<◌, Bool, cond, List, [], ◌∷◌}
use Rattle.std.proofs.Common.{map, Option, Some, None, refl, sym, ap, ◌∙◌, zero-le}
use Rattle.std.specs.Prelude.{All, sum_by}
use Rattle.std.specs.List.{AllByRecursion}
use Rattle.std.proofs.ByRecursion.{every_from_all}
use Rattle.std.proofs.lemmas.List.Sums.{sum_by-cons}
use Rattle.std.proofs.lemmas.List.Elements.{All-head, All-tail, All-nil, All-cons}
use Rattle.gold_field.specs.declared.form.Term.{Term}
use Rattle.gold_field.specs.declared.form.Constraint.{Constraint}
use Rattle.gold_field.specs.declared.gold.TheConstants.{P}
use Rattle.cir_lc.specs.declared.quad.Quad.{Quad}
use Rattle.cir_lc.specs.Number.{Assignment, Number, value_of, added, scaled, negated}
use Rattle.cir_lc.specs.Terms.{IsWithin}
use Rattle.cir_lc.specs.Normal.{IsNormal, constant_of, kept_of, rest_of}
use Rattle.cir_meaning.specs.Frame.{Sizes, size_in}
use Rattle.cir_meaning.specs.Dependence.{IsDeclared, IsOver}
use Rattle.cir_meaning.specs.Values.{Parts}
use Rattle.cir_meaning.specs.Source.{Equation, IsConstraintOf, IsSource}
use Rattle.cir_meaning.specs.Compile.{group_size, final_number, renumbered, renumbered_equation}
use Rattle.cir_inst.specs.Renumbered.{IsRoomy, AreDeclared, IsNumbered, renumbered_term}
use Rattle.cir_inst.specs.Renumbered.{renumbered_terms, renumbered_constraint}
use Rattle.cir_inst.proofs.Numbering.{renumbered_rises, final_within, final_zero, declared_below}
use Rattle.cir_inst.proofs.NamedSignals.{is_declared, AreNamed, Named, constraint_named}

module _ (s : Sizes) (r : IsRoomy s) where
  abbrev pub D : ℕ → Type 0
  D n = IsDeclared group_size (λ g. size_in g s) n

  abbrev pub count : ℕ
  count = 1 + (s.outputs + (s.public_inputs + (s.private_inputs + s.others)))

  all_of : (ts : List Term) → Named D tt (λ n. is_declared group_size (λ g. size_in g s) n) ts
      → AreDeclared s ts
  all_of ts h = λ k d l. every_from_all (λ t. D t.signal) ts h k d zero-le l

  -- the numbers are the same, by the final numbers of the signals
  same_sum : (a : Assignment) (ts : List Term)
      → sum_by (λ t. t.coef * a.at t.signal) (renumbered_terms s ts)
      ≡ sum_by (λ t. t.coef * a.at (final_number group_size s t.signal)) ts
  same_sum a [] = refl
  same_sum a (t ∷ ts) =
      sum_by-cons (λ (u : Term). u.coef * a.at u.signal) (renumbered_term s t)
      (renumbered_terms s ts)
      ∙ ap (λ (k : ℕ). t.coef * a.at (final_number group_size s t.signal) + k) (same_sum a ts)
      ∙ sym (sum_by-cons (λ (u : Term). u.coef * a.at (final_number group_size s u.signal)) t ts)

  same_at : (ts : List Term) (a : Assignment)
      → value_of (renumbered_terms s ts) a ≡ renumbered group_size s (value_of ts) a
  unfolding value_of
  same_at ts a = ap (λ (k : ℕ). k % P) (same_sum a ts)

  pub same_value : (ts : List Term)
      → value_of (renumbered_terms s ts) ≡ renumbered group_size s (value_of ts)
  same_value ts = λ i a. same_at ts a i

  same_constant : (ts : List Term) → constant_of (renumbered_terms s ts) ≡ constant_of ts
  same_constant [] = refl
  same_constant (t ∷ []) =
      ap (λ (b : Bool). cond b (Some t.coef) None) (final_zero s t.signal)
  same_constant (t ∷ (u ∷ ts)) = refl

  same_kept : (a b : Option ℕ) (ts : List Term)
      → renumbered_terms s (kept_of a b ts) ≡ kept_of a b (renumbered_terms s ts)
  same_kept None None ts = refl
  same_kept (Some k) b ts = refl
  same_kept None (Some k) ts = refl

  abbrev renumbered_quad : Quad → Quad
  renumbered_quad q = record {
    a = renumbered_terms s q.a;
    b = renumbered_terms s q.b;
    c = renumbered_terms s q.c;
  }

  same_rest : (a b : Option ℕ) (q : Quad)
      → renumbered group_size s (negated (rest_of a b q))
      ≡ negated (rest_of a b (renumbered_quad q))
  unfolding negated added scaled
  same_rest (Some k) b q =
      ap (λ (f : Number). negated (added f (scaled k (renumbered group_size s (value_of q.b)))))
      (sym (same_value q.c))
      ∙ ap (λ (f : Number). negated (added (value_of (renumbered_terms s q.c)) (scaled k f)))
      (sym (same_value q.b))
  same_rest None (Some k) q =
      ap (λ (f : Number). negated (added f (scaled k (renumbered group_size s (value_of q.a)))))
      (sym (same_value q.c))
      ∙ ap (λ (f : Number). negated (added (value_of (renumbered_terms s q.c)) (scaled k f)))
      (sym (same_value q.a))
  same_rest None None q = ap (λ (f : Number). negated f) (sym (same_value q.c))

  same_normal : (q : Quad) (k : Constraint) → IsNormal q k
      → IsNormal (renumbered_quad q) (renumbered_constraint s k)
  same_normal q k h =
      let a : Option ℕ = constant_of q.a in
      let b : Option ℕ = constant_of q.b in
      let ca : constant_of (renumbered_terms s q.a) ≡ a = same_constant q.a in
      let cb : constant_of (renumbered_terms s q.b) ≡ b = same_constant q.b in
      let back : (ts : List Term) → kept_of a b ts
      ≡ kept_of (constant_of (renumbered_terms s q.a))
      (constant_of (renumbered_terms s q.b)) ts =
      (λ ts. ap (λ (x : Option ℕ). kept_of x b ts) (sym ca)
      ∙ ap (λ (y : Option ℕ). kept_of (constant_of (renumbered_terms s q.a)) y ts) (sym cb)) in
      record {
        left = ap (λ (ts : List Term). renumbered_terms s ts) h.left ∙ same_kept a b q.a
            ∙ back (renumbered_terms s q.a);
        right = ap (λ (ts : List Term). renumbered_terms s ts) h.right ∙ same_kept a b q.b
            ∙ back (renumbered_terms s q.b);
        rest = same_value k.c ∙ ap (λ (f : Number). renumbered group_size s f) h.rest
            ∙ same_rest a b q
            ∙ ap (λ (x : Option ℕ). negated (rest_of x b (renumbered_quad q))) (sym ca)
            ∙ ap (λ (y : Option ℕ). negated (rest_of (constant_of (renumbered_terms s q.a)) y
            (renumbered_quad q))) (sym cb);
      }

  within : (n : ℕ) (ts : List Term) → IsWithin n ts → AreDeclared s ts
      → IsWithin count (renumbered_terms s ts)
  within n [] w d = All-nil (λ (t : Term). (t.signal < count) × (t.coef < P))
  within n (t ∷ ts) w d =
      All-cons (λ (t : Term). (t.signal < count) × (t.coef < P)) (renumbered_term s t)
      (renumbered_terms s ts) (
        final_within s r t.signal (All-head (λ (t : Term). D t.signal) t ts d),
        (All-head (λ (t : Term). (t.signal < n) × (t.coef < P)) t ts w).1,
      )
      (within n ts (All-tail (λ (t : Term). (t.signal < n) × (t.coef < P)) t ts w)
      (All-tail (λ (t : Term). D t.signal) t ts d))

  named : (n : ℕ) (e : Equation) (k : Constraint) (h : IsConstraintOf n e k) → IsOver D e
      → AreNamed D tt (λ n. is_declared group_size (λ g. size_in g s) n) h.quad k
  named n e k h o =
      constraint_named D tt (λ n. is_declared group_size (λ g. size_in g s) n) n e k h o

  pub numbered : (n : ℕ) (e : Equation) (k : Constraint) → IsConstraintOf n e k → IsOver D e
      → IsNumbered s k
  numbered n e k h o =
      let x = named n e k h o in
      record { a = all_of k.a x.a; b = all_of k.b x.b; c = all_of k.c x.c }

  constraint_of : (n : ℕ) (e : Equation) (k : Constraint) → IsConstraintOf n e k → IsOver D e
      → IsConstraintOf count (renumbered_equation group_size s e) (renumbered_constraint s k)
  constraint_of n e k h o =
      let x = named n e k h o in
      let q : Quad = h.quad in
      let a : AreDeclared s q.a = all_of q.a x.quad_a in
      let b : AreDeclared s q.b = all_of q.b x.quad_b in
      let c : AreDeclared s q.c = all_of q.c x.quad_c in
      record {
        quad = renumbered_quad q;
        numbers = ap (λ (p : Parts). record {
          a = renumbered group_size s p.a;
          b = renumbered group_size s p.b;
          c = renumbered group_size s p.c;
        }) h.numbers ∙ (λ i. record {
          a = sym (same_value q.a) i;
          b = sym (same_value q.b) i;
          c = sym (same_value q.c) i;
        });
        rises_a = renumbered_rises s r q.a h.rises_a a;
        rises_b = renumbered_rises s r q.b h.rises_b b;
        rises_c = renumbered_rises s r q.c h.rises_c c;
        within = (
          within n q.a h.within.0 a,
          within n q.b h.within.1 b,
          within n q.c h.within.2 c,
        );
        normal = same_normal q k h.normal;
        rises_left = renumbered_rises s r k.a h.rises_left (all_of k.a x.a);
        rises_right = renumbered_rises s r k.b h.rises_right (all_of k.b x.b);
        rises_product = renumbered_rises s r k.c h.rises_product (all_of k.c x.c);
        within_constraint = (
          within n k.a h.within_constraint.0 (all_of k.a x.a),
          within n k.b h.within_constraint.1 (all_of k.b x.b),
          within n k.c h.within_constraint.2 (all_of k.c x.c),
        );
      }

  pub source_of : (n : ℕ) (es : List Equation) (ks : List Constraint) → IsSource n es ks
      → AllByRecursion (IsOver D) es
      → IsSource count (map (renumbered_equation group_size s) es)
      (map (renumbered_constraint s) ks)
  source_of n [] [] h o = tt
  source_of n [] (k ∷ ks) h o = absurd h
  source_of n (e ∷ es) [] h o = absurd h
  source_of n (e ∷ es) (k ∷ ks) h o =
      (constraint_of n e k h.0 o.0, source_of n es ks h.1 o.1)

  pub all_numbered : (n : ℕ) (es : List Equation) (ks : List Constraint) → IsSource n es ks
      → AllByRecursion (IsOver D) es → All (IsNumbered s) ks
  all_numbered n [] [] h o = All-nil (IsNumbered s)
  all_numbered n [] (k ∷ ks) h o = absurd h
  all_numbered n (e ∷ es) [] h o = absurd h
  all_numbered n (e ∷ es) (k ∷ ks) h o =
      All-cons (IsNumbered s) k ks (numbered n e k h.0 o.0) (all_numbered n es ks h.1 o.1)

  -- the numbers of declared signals are below those of four groups
  narrow : (n : ℕ) (ts : List Term) → IsWithin n ts → AreDeclared s ts
      → IsWithin (4 * group_size) ts
  narrow n [] w d = All-nil (λ (t : Term). (t.signal < 4 * group_size) × (t.coef < P))
  narrow n (t ∷ ts) w d =
      All-cons (λ (t : Term). (t.signal < 4 * group_size) × (t.coef < P)) t ts (
        declared_below s r t.signal (All-head (λ (t : Term). D t.signal) t ts d),
        (All-head (λ (t : Term). (t.signal < n) × (t.coef < P)) t ts w).1,
      )
      (narrow n ts (All-tail (λ (t : Term). (t.signal < n) × (t.coef < P)) t ts w)
      (All-tail (λ (t : Term). D t.signal) t ts d))

  narrow_constraint : (n : ℕ) (e : Equation) (k : Constraint) → IsConstraintOf n e k → IsOver D e
      → IsConstraintOf (4 * group_size) e k
  narrow_constraint n e k h o =
      let x = named n e k h o in
      let q : Quad = h.quad in
      record {
        quad = q;
        numbers = h.numbers;
        rises_a = h.rises_a;
        rises_b = h.rises_b;
        rises_c = h.rises_c;
        within = (
          narrow n q.a h.within.0 (all_of q.a x.quad_a),
          narrow n q.b h.within.1 (all_of q.b x.quad_b),
          narrow n q.c h.within.2 (all_of q.c x.quad_c),
        );
        normal = h.normal;
        rises_left = h.rises_left;
        rises_right = h.rises_right;
        rises_product = h.rises_product;
        within_constraint = (
          narrow n k.a h.within_constraint.0 (all_of k.a x.a),
          narrow n k.b h.within_constraint.1 (all_of k.b x.b),
          narrow n k.c h.within_constraint.2 (all_of k.c x.c),
        );
      }

  pub source_within : (n : ℕ) (es : List Equation) (ks : List Constraint) → IsSource n es ks
      → AllByRecursion (IsOver D) es → IsSource (4 * group_size) es ks
  source_within n [] [] h o = tt
  source_within n [] (k ∷ ks) h o = absurd h
  source_within n (e ∷ es) [] h o = absurd h
  source_within n (e ∷ es) (k ∷ ks) h o =
      (narrow_constraint n e k h.0 o.0, source_within n es ks h.1 o.1)
