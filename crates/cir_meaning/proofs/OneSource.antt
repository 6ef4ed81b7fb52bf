-- Equations have one source list.
use Rattle.std.proofs.Common.{◌≡◌, ℕ, List, [], ◌∷◌, refl, subst, ap, sym, ◌∙◌}
use Rattle.gold_field.specs.declared.form.Constraint.{Constraint}
use Rattle.cir_lc.specs.declared.quad.Quad.{Quad}
use Rattle.cir_lc.specs.Normal.{IsNormal}
use Rattle.cir_lc.proofs.Known.{known}
use Rattle.cir_meaning.specs.Values.{Parts}
use Rattle.cir_meaning.specs.Source.{Equation, IsConstraintOf, IsSource, parts_from}

same_quad : (n : ℕ) (e : Equation) (k j : Constraint) (c : IsConstraintOf n e k)
    (d : IsConstraintOf n e j) → c.quad ≡ d.quad
same_quad n e k j c d =
    let same : parts_from c.quad ≡ parts_from d.quad = sym c.numbers ∙ d.numbers in
    let a = known n c.quad.a d.quad.a c.rises_a d.rises_a c.within.0 d.within.0
    (ap (λ (p : Parts). p.a) same) in
    let b = known n c.quad.b d.quad.b c.rises_b d.rises_b c.within.1 d.within.1
    (ap (λ (p : Parts). p.b) same) in
    let r = known n c.quad.c d.quad.c c.rises_c d.rises_c c.within.2 d.within.2
    (ap (λ (p : Parts). p.c) same) in
    λ i. record { a = a i; b = b i; c = r i }

same_constraint : (n : ℕ) (e : Equation) (k j : Constraint) → IsConstraintOf n e k
    → IsConstraintOf n e j → k ≡ j
same_constraint n e k j c d =
    let normal : IsNormal d.quad k =
    subst (λ (q : Quad). IsNormal q k) (same_quad n e k j c d) c.normal in
    let left = normal.left ∙ sym d.normal.left in
    let right = normal.right ∙ sym d.normal.right in
    let rest =
    known n k.c j.c c.rises_product d.rises_product c.within_constraint.2 d.within_constraint.2
    (normal.rest ∙ sym d.normal.rest) in
    λ i. record { a = left i; b = right i; c = rest i }

pub one_source : (n : ℕ) (es : List Equation) (ks js : List Constraint) → IsSource n es ks
    → IsSource n es js → ks ≡ js
one_source n [] [] [] h g = refl
one_source n [] [] (j ∷ js) h g = absurd g
one_source n [] (k ∷ ks) js h g = absurd h
one_source n (e ∷ es) [] js h g = absurd h
one_source n (e ∷ es) (k ∷ ks) [] h g = absurd g
one_source n (e ∷ es) (k ∷ ks) (j ∷ js) h g =
    ap (λ (x : Constraint). x ∷ ks) (same_constraint n e k j h.0 g.0)
    ∙ ap (λ (xs : List Constraint). j ∷ xs) (one_source n es ks js h.1 g.1)
