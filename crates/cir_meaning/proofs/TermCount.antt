-- The terms that are told of equations are those of their source list.
use Rattle.std.proofs.Common.{◌≡◌, ℕ, suc, ◌+◌, ◌-◌, ◌<◌, List, [], ◌∷◌, length, sum_by, Option}
use Rattle.std.proofs.Common.{Some, None, refl, ap, sym, subst, ◌∙◌, arith}
use Rattle.std.proofs.lemmas.List.Sums.{sum_by-cons}
use Rattle.gold_field.specs.declared.form.Term.{Term}
use Rattle.gold_field.specs.declared.form.Constraint.{Constraint}
use Rattle.gold_field.specs.Rises.{RisesFrom}
use Rattle.cir_lc.specs.declared.quad.Quad.{Quad}
use Rattle.cir_lc.specs.Number.{Number, value_of, added, scaled, negated}
use Rattle.cir_lc.specs.Coefficient.{terms_below, constant_in}
use Rattle.cir_lc.specs.Terms.{IsWithin}
use Rattle.cir_lc.specs.Normal.{IsNormal, IsQuadWithin, IsConstraintWithin, constant_of, kept_of}
use Rattle.cir_lc.specs.Normal.{rest_of}
use Rattle.cir_lc.proofs.Known.{terms_are, constant_is}
use Rattle.cir_meaning.specs.Values.{Parts}
use Rattle.cir_meaning.specs.Source.{Equation, IsSource, parts_from, terms_by, terms_of, all_terms}

pub source_length : (n : ℕ) (es : List Equation) (ks : List Constraint) → IsSource n es ks
    → length es ≡ length ks
source_length n [] [] s = refl
source_length n [] (j ∷ ks) s = absurd s
source_length n (d ∷ es) [] s = absurd s
source_length n (d ∷ es) (j ∷ ks) s = ap suc (source_length n es ks s.1)

-- the terms that the numbers of a, b and c tell are those of the normal constraint
terms_cases : (n : ℕ) (q : Quad) (k : Constraint) (o p : Option ℕ) → constant_of q.a ≡ o
    → constant_of q.b ≡ p → IsNormal q k → RisesFrom 0 k.a → RisesFrom 0 k.b → RisesFrom 0 k.c
    → IsConstraintWithin n k
    → terms_by n o p (parts_from q) ≡ length k.a + length k.b + length k.c
terms_cases n q k (Some j) p e f h ra rb rc w =
    let left : k.a ≡ [] = h.left ∙ ap (λ (o : Option ℕ). kept_of o (constant_of q.b) q.a) e in
    let right : k.b ≡ [] = h.right ∙ ap (λ (o : Option ℕ). kept_of o (constant_of q.b) q.b) e in
    let rest : value_of k.c ≡ negated (rest_of (Some j) (constant_of q.b) q) =
    h.rest ∙ ap (λ (o : Option ℕ). negated (rest_of o (constant_of q.b) q)) e in
    let all : terms_below n (negated (added (value_of q.c) (scaled j (value_of q.b))))
    ≡ length k.c =
    ap (λ (f : Number). terms_below n f) (sym rest) ∙ terms_are n k.c rc w.2 in
    omega (arith, all, ap length left, ap length right)
terms_cases n q k None (Some j) e f h ra rb rc w =
    let left : k.a ≡ [] = h.left ∙ ap (λ (o : Option ℕ). kept_of o (constant_of q.b) q.a) e
    ∙ ap (λ (o : Option ℕ). kept_of None o q.a) f in
    let right : k.b ≡ [] = h.right ∙ ap (λ (o : Option ℕ). kept_of o (constant_of q.b) q.b) e
    ∙ ap (λ (o : Option ℕ). kept_of None o q.b) f in
    let rest : value_of k.c ≡ negated (rest_of None (Some j) q) =
    h.rest ∙ ap (λ (o : Option ℕ). negated (rest_of o (constant_of q.b) q)) e
    ∙ ap (λ (o : Option ℕ). negated (rest_of None o q)) f in
    let all : terms_below n (negated (added (value_of q.c) (scaled j (value_of q.a))))
    ≡ length k.c =
    ap (λ (f : Number). terms_below n f) (sym rest) ∙ terms_are n k.c rc w.2 in
    omega (arith, all, ap length left, ap length right)
terms_cases n q k None None e f h ra rb rc w =
    let left : k.a ≡ q.a = h.left ∙ ap (λ (o : Option ℕ). kept_of o (constant_of q.b) q.a) e
    ∙ ap (λ (o : Option ℕ). kept_of None o q.a) f in
    let right : k.b ≡ q.b = h.right ∙ ap (λ (o : Option ℕ). kept_of o (constant_of q.b) q.b) e
    ∙ ap (λ (o : Option ℕ). kept_of None o q.b) f in
    let rest : value_of k.c ≡ negated (rest_of None None q) =
    h.rest ∙ ap (λ (o : Option ℕ). negated (rest_of o (constant_of q.b) q)) e
    ∙ ap (λ (o : Option ℕ). negated (rest_of None o q)) f in
    let first : terms_below n (value_of q.a) ≡ length k.a =
    ap (λ (f : List Term). terms_below n (value_of f)) (sym left) ∙ terms_are n k.a ra w.0 in
    let second : terms_below n (value_of q.b) ≡ length k.b =
    ap (λ (f : List Term). terms_below n (value_of f)) (sym right) ∙ terms_are n k.b rb w.1 in
    let third : terms_below n (negated (value_of q.c)) ≡ length k.c =
    ap (λ (f : Number). terms_below n f) (sym rest) ∙ terms_are n k.c rc w.2 in
    omega (arith, first, second, third)

before_suc : (n : ℕ) → 0 < n → n ≡ suc (n - 1)
before_suc n h = omega arith

pub terms_normal : (n : ℕ) (q : Quad) (k : Constraint) → 0 < n → RisesFrom 0 q.a → RisesFrom 0 q.b
    → IsQuadWithin n q → IsNormal q k → RisesFrom 0 k.a → RisesFrom 0 k.b → RisesFrom 0 k.c
    → IsConstraintWithin n k
    → terms_of n (parts_from q) ≡ length k.a + length k.b + length k.c
terms_normal n q k pos qa qb w h ra rb rc v =
    let left : constant_in (n - 1) (value_of q.a) ≡ constant_of q.a =
    constant_is (n - 1) q.a qa (subst (λ (m : ℕ). IsWithin m q.a) (before_suc n pos) w.0) in
    let right : constant_in (n - 1) (value_of q.b) ≡ constant_of q.b =
    constant_is (n - 1) q.b qb (subst (λ (m : ℕ). IsWithin m q.b) (before_suc n pos) w.1) in
    ap (λ (o : Option ℕ). terms_by n o (constant_in (n - 1) (value_of q.b)) (parts_from q)) left
    ∙ ap (λ (o : Option ℕ). terms_by n (constant_of q.a) o (parts_from q)) right
    ∙ terms_cases n q k (constant_of q.a) (constant_of q.b) refl refl h ra rb rc v

abbrev pub size_of : Constraint → ℕ
size_of k = length k.a + (length k.b + length k.c)

pub terms_are_of : (n : ℕ) (es : List Equation) (ks : List Constraint) → 0 < n → IsSource n es ks
    → all_terms n es ≡ sum_by size_of ks
terms_are_of n [] [] p h = refl
terms_are_of n [] (k ∷ ks) p h = absurd h
terms_are_of n (e ∷ es) [] p h = absurd h
terms_are_of n (e ∷ es) (k ∷ ks) p h =
    let c = h.0 in
    let first : terms_of n e.parts ≡ length k.a + length k.b + length k.c =
    ap (λ (p : Parts). terms_of n p) c.numbers
    ∙ terms_normal n c.quad k p c.rises_a c.rises_b c.within c.normal c.rises_left c.rises_right
    c.rises_product c.within_constraint in
    sum_by-cons (λ (e : Equation). terms_of n e.parts) e es
    ∙ omega (arith, first, terms_are_of n es ks p h.1) ∙ sym (sum_by-cons size_of k ks)
