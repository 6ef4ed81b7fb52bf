-- Normal constraints.
use Rattle.std.proofs.Common.{◌≡◌, ℕ, ◌+◌, ◌-◌, ◌*◌, ◌%◌, ◌<◌, ◌==◌, ◌↔◌, List, [], ◌∷◌, Bool, true}
use Rattle.std.proofs.Common.{false, cond, Option, Some, None, arith, refl, ap, sym, ◌∙◌, mod-lt}
use Rattle.std.proofs.Common.{lit<}
use Rattle.std.proofs.Math.Nat.{mod-add-mod, add-mod-mod, mul-mod_right, add_comm, mul_comm}
use Rattle.std.proofs.Math.Nat.{mod-mod, add-mul-mod_self_right}
use Rattle.std.proofs.lemmas.Nat.{mul-mod_first, mul-mod_second}
use Rattle.std.proofs.lemmas.Bool.{eqb-true}
use Rattle.std.proofs.lemmas.List.Elements.{All-nil, All-same}
use Rattle.cir_lc.specs.Terms.{IsWithin}
use Rattle.gold_field.specs.declared.form.Term.{Term}
use Rattle.gold_field.specs.declared.form.Constraint.{Constraint}
use Rattle.gold_field.specs.declared.gold.TheConstants.{P}
use Rattle.gold_field.specs.Form.{Holds, value_at}
use Rattle.cir_lc.specs.declared.quad.Quad.{Quad}
use Rattle.cir_lc.specs.Number.{Assignment, Number, value_of, added, scaled, multiplied, negated}
use Rattle.cir_lc.specs.Normal.{constant_of, kept_of, rest_of, value_of_quad, IsNormal, IsLinear}
use Rattle.cir_lc.specs.Normal.{IsConstraintWithin}
use Rattle.cir_lc.specs.Merge.{total}
use Rattle.cir_lc.proofs.Totals.{total-nil, total-cons}
use Rattle.cir_lc.proofs.Values.{value-total, small_value}

-- the first factor is a constant
pub normal_left : (q : Quad) (n : Constraint) (k : ℕ) → Some k ≡ constant_of q.a
    → IsLinear k q.b q.c n → IsNormal q n
normal_left q n k h l = record {
  left = l.left ∙ ap (λ (o : Option ℕ). kept_of o (constant_of q.b) q.a) h;
  right = l.right ∙ ap (λ (o : Option ℕ). kept_of o (constant_of q.b) q.b) h;
  rest = l.rest ∙ ap (λ (o : Option ℕ). negated (rest_of o (constant_of q.b) q)) h;
}

-- the second is, and the first isn't
pub normal_right : (q : Quad) (n : Constraint) (k : ℕ) → None ≡ constant_of q.a
    → Some k ≡ constant_of q.b → IsLinear k q.a q.c n → IsNormal q n
normal_right q n k h g l = record {
  left = l.left ∙ both (λ o p. kept_of o p q.a);
  right = l.right ∙ both (λ o p. kept_of o p q.b);
  rest = l.rest ∙ ap (λ (o : Option ℕ). negated (rest_of o (Some k) q)) h
      ∙ ap (λ (o : Option ℕ). negated (rest_of (constant_of q.a) o q)) g;
}
  where
    both : (f : Option ℕ → Option ℕ → List Term)
        → f None (Some k) ≡ f (constant_of q.a) (constant_of q.b)
    both f = ap (λ (o : Option ℕ). f o (Some k)) h ∙ ap (λ (o : Option ℕ). f (constant_of q.a) o) g

-- neither is
pub normal_neither : (q : Quad) (n : Constraint) → None ≡ constant_of q.a → None ≡ constant_of q.b
    → n.a ≡ q.a → n.b ≡ q.b → value_of n.c ≡ negated (value_of q.c) → IsNormal q n
normal_neither q n h g ea eb ec = record {
  left = ea ∙ both (λ o p. kept_of o p q.a);
  right = eb ∙ both (λ o p. kept_of o p q.b);
  rest = ec ∙ ap (λ (o : Option ℕ). negated (rest_of o None q)) h
      ∙ ap (λ (o : Option ℕ). negated (rest_of (constant_of q.a) o q)) g;
}
  where
    both : (f : Option ℕ → Option ℕ → List Term)
        → f None None ≡ f (constant_of q.a) (constant_of q.b)
    both f = ap (λ (o : Option ℕ). f o None) h ∙ ap (λ (o : Option ℕ). f (constant_of q.a) o) g

-- minus c is what makes 0 of c
balance : (m c : ℕ) → m < P → c < P → (m ≡ ((P - 1) * c) % P) ↔ ((m + c) % P ≡ 0)
balance m c lm lc = (λ e. omega (arith, back), λ e. omega (arith, back))
  where
    less : ((P - 1) * c) % P < P
    less = mod-lt ((P - 1) * c) (lit< tt)

    back : (((P - 1) * c) % P + c) % P ≡ 0
    back =
        let whole : (P - 1) * c + c ≡ P * c = omega arith in
        mod-add-mod ((P - 1) * c) P c ∙ ap (λ (n : ℕ). n % P) whole ∙ mul-mod_right P c

value_small : (ts : List Term) (s : Assignment) → value_of ts s < P
unfolding value_of
value_small ts s = mod-lt _ (lit< tt)

-- a list of no signal but 0 has the value of its coefficient
some_test : (t : Term) (k : ℕ) (b : Bool) → t.signal == 0 ≡ b → cond b (Some t.coef) None ≡ Some k
    → (t.signal ≡ 0) × (t.coef ≡ k)
some_test t k true h e = (eqb-true t.signal 0 h, cc)
some_test t k false h e = cc

constant_value : (ts : List Term) (k : ℕ) (s : Assignment) → constant_of ts ≡ Some k
    → value_of ts s ≡ k % P
constant_value [] k s h =
    let e : 0 ≡ k = cc in
    value-total s [] ∙ ap (λ (n : ℕ). n % P) (total-nil s.at ∙ e)
constant_value (t ∷ []) k s h =
    let e : (t.signal ≡ 0) × (t.coef ≡ k) = some_test t k (t.signal == 0) refl h in
    let one : s.at t.signal ≡ 1 = ap (λ (n : ℕ). s.at n) e.0 ∙ s.one in
    let all : total s.at (t ∷ []) ≡ k =
    total-cons s.at t [] ∙ omega (arith, total-nil s.at, e.1, ap (λ (n : ℕ). t.coef * n) one) in
    value-total s (t ∷ []) ∙ ap (λ (n : ℕ). n % P) all
constant_value (t ∷ (u ∷ ts)) k s h = cc

-- the numbers of a constraint without a product
linear_means : (m r w d : ℕ) → m ≡ 0 → d ≡ ((P - 1) * r) % P → r < P → w ≡ r → (m ≡ d) ↔ (w ≡ 0)
linear_means m r w d e f l g =
    let b : (0 ≡ ((P - 1) * r) % P) ↔ ((0 + r) % P ≡ 0) = balance 0 r (lit< tt) l in (
      λ h. let z : (0 + r) % P ≡ 0 = b.0 (sym e ∙ h ∙ f) in omega arith,
      λ h. e ∙ b.1 (omega arith)
          ∙ sym f,
    )

product_left : (a b c k : ℕ) → a ≡ k % P → ((a * b) % P + c) % P ≡ (c + (k * b) % P) % P
product_left a b c k e =
    ap (λ (n : ℕ). (n + c) % P) (ap (λ (x : ℕ). (x * b) % P) e ∙ mul-mod_first k b P)
    ∙ ap (λ (n : ℕ). n % P) (add_comm ((k * b) % P) c)

-- no product is left
none_left : (n : Constraint) (s : Assignment) → n.a ≡ [] → n.b ≡ []
    → (value_at s.at n.a * value_at s.at n.b) % P ≡ 0
none_left n s e f = rw (e, f) refl

-- the constraint holds where a * b + c is 0
means_by : (q : Quad) (n : Constraint) (s : Assignment) (o p : Option ℕ) → constant_of q.a ≡ o
    → constant_of q.b ≡ p → IsNormal q n → Holds s.at n ↔ (value_of_quad q s ≡ 0)
unfolding value_of added scaled multiplied negated
means_by q n s (Some k) p e f h =
    let left : n.a ≡ [] = h.left ∙ ap (λ (o : Option ℕ). kept_of o (constant_of q.b) q.a) e in
    let right : n.b ≡ [] = h.right ∙ ap (λ (o : Option ℕ). kept_of o (constant_of q.b) q.b) e in
    let rest : value_of n.c s ≡ negated (rest_of (Some k) (constant_of q.b) q) s =
    ap (λ (f : Number). f s) h.rest
    ∙ ap (λ (o : Option ℕ). negated (rest_of o (constant_of q.b) q) s) e in
    linear_means _ (added (value_of q.c) (scaled k (value_of q.b)) s) _ _
    (none_left n s left right) rest (mod-lt _ (lit< tt))
    (product_left (value_of q.a s) (value_of q.b s) (value_of q.c s) k (constant_value q.a k s e))
means_by q n s None (Some k) e f h =
    let left : n.a ≡ [] = h.left ∙ ap (λ (o : Option ℕ). kept_of o (constant_of q.b) q.a) e
    ∙ ap (λ (o : Option ℕ). kept_of None o q.a) f in
    let right : n.b ≡ [] = h.right ∙ ap (λ (o : Option ℕ). kept_of o (constant_of q.b) q.b) e
    ∙ ap (λ (o : Option ℕ). kept_of None o q.b) f in
    let rest : value_of n.c s ≡ negated (rest_of None (Some k) q) s =
    ap (λ (f : Number). f s) h.rest
    ∙ ap (λ (o : Option ℕ). negated (rest_of o (constant_of q.b) q) s) e
    ∙ ap (λ (o : Option ℕ). negated (rest_of None o q) s) f in
    linear_means _ (added (value_of q.c) (scaled k (value_of q.a)) s) _ _
    (none_left n s left right) rest (mod-lt _ (lit< tt))
    (ap (λ (n : ℕ). (n % P + value_of q.c s) % P) (mul_comm (value_of q.a s) (value_of q.b s))
    ∙ product_left (value_of q.b s) (value_of q.a s) (value_of q.c s) k (constant_value q.b k s f))
means_by q n s None None e f h =
    let left : n.a ≡ q.a = h.left ∙ ap (λ (o : Option ℕ). kept_of o (constant_of q.b) q.a) e
    ∙ ap (λ (o : Option ℕ). kept_of None o q.a) f in
    let right : n.b ≡ q.b = h.right ∙ ap (λ (o : Option ℕ). kept_of o (constant_of q.b) q.b) e
    ∙ ap (λ (o : Option ℕ). kept_of None o q.b) f in
    let rest : value_of n.c s ≡ negated (rest_of None None q) s =
    ap (λ (f : Number). f s) h.rest
    ∙ ap (λ (o : Option ℕ). negated (rest_of o (constant_of q.b) q) s) e
    ∙ ap (λ (o : Option ℕ). negated (rest_of None o q) s) f in
    let b = balance ((value_of q.a s * value_of q.b s) % P) (value_of q.c s) (mod-lt _ (lit< tt))
    (value_small q.c s) in
    let product : (value_at s.at n.a * value_at s.at n.b) % P
    ≡ (value_of q.a s * value_of q.b s) % P = rw (left, right) refl in
    (λ g. b.0 (sym product ∙ g ∙ rest), λ g. product ∙ b.1 g ∙ sym rest)

pub normal_means : (q : Quad) (n : Constraint) → IsNormal q n → (s : Assignment)
    → Holds s.at n ↔ (value_of_quad q s ≡ 0)
normal_means q n h s = means_by q n s (constant_of q.a) (constant_of q.b) refl refl h

-- the product alone
product_alone : (a b : List Term) (s : Assignment)
    → added (multiplied (value_of a) (value_of b)) (value_of []) s
    ≡ multiplied (value_of a) (value_of b) s
unfolding added multiplied value_of
product_alone a b s = omega (arith, mod-mod (value_of a s * value_of b s) P)

pub times_value : (a b ca cb c : List Term) → ca ≡ a → cb ≡ b → c ≡ []
    → added (multiplied (value_of ca) (value_of cb)) (value_of c)
    ≡ multiplied (value_of a) (value_of b)
times_value a b ca cb c e f g = rw (e, f, g) (λ i s. product_alone a b s i)

pub scaled_minus : (k : ℕ) (f : Number) → k ≡ (P - 1) % P → scaled k f ≡ negated f
unfolding scaled negated
scaled_minus k f h = ap (λ (n : ℕ). λ (s : Assignment). (n * f s) % P) h

pub none_within : (m : ℕ) (ts : List Term) → ts ≡ [] → IsWithin m ts
none_within m ts e =
    All-same (λ (t : Term). (t.signal < m) × (t.coef < P)) ts [] e
    (All-nil (λ (t : Term). (t.signal < m) × (t.coef < P)))

pub same_within : (m : ℕ) (ts us : List Term) → ts ≡ us → IsWithin m us → IsWithin m ts
same_within m ts us e h = All-same (λ (t : Term). (t.signal < m) × (t.coef < P)) ts us e h

-- r - k * f, where r is minus c
less_number : (r c f k : ℕ) → r ≡ ((P - 1) * c) % P
    → (r + (((k * (P - 1)) % P) * f) % P) % P ≡ ((P - 1) * ((c + (k * f) % P) % P)) % P
less_number r c f k e =
    let all : (P - 1) * c + k * (P - 1) * f ≡ (P - 1) * (c + k * f) = omega arith in
    ap (λ (n : ℕ). (n + (((k * (P - 1)) % P) * f) % P) % P) e
    ∙ mod-add-mod ((P - 1) * c) P ((((k * (P - 1)) % P) * f) % P)
    ∙ ap (λ (n : ℕ). ((P - 1) * c + n) % P) (mul-mod_first (k * (P - 1)) f P)
    ∙ add-mod-mod ((P - 1) * c) (k * (P - 1) * f) P ∙ ap (λ (n : ℕ). n % P) all
    ∙ sym (mul-mod_second (P - 1) (c + k * f) P)
    ∙ ap (λ (n : ℕ). ((P - 1) * n) % P) (sym (add-mod-mod c (k * f) P))

less_means : (k : ℕ) (r c f : List Term) → value_of r ≡ negated (value_of c)
    → added (value_of r) (scaled ((k * (P - 1)) % P) (value_of f))
    ≡ negated (added (value_of c) (scaled k (value_of f)))
unfolding added scaled negated
less_means k r c f e =
    λ i s. less_number (value_of r s) (value_of c s) (value_of f s) k (ap (λ (g : Number). g s) e) i

zeroed : (v : ℕ) → 0 * v ≡ 0
zeroed v = omega arith

-- nothing is taken away
pub less_none : (k : ℕ) (r f : List Term) → k ≡ 0
    → value_of r ≡ added (value_of r) (scaled ((k * (P - 1)) % P) (value_of f))
unfolding added scaled
less_none k r f e = λ i s. sym (at s) i
  where
    none : (v : ℕ) → (((k * (P - 1)) % P) * v) % P ≡ 0
    none v = ap (λ (n : ℕ). (((n * (P - 1)) % P) * v) % P) e ∙ ap (λ (n : ℕ). n % P) (zeroed v)

    at : (s : Assignment) → (value_of r s + (((k * (P - 1)) % P) * value_of f s) % P) % P
        ≡ value_of r s
    at s =
        let z : value_of r s + 0 ≡ value_of r s = omega arith in
        ap (λ (n : ℕ). (value_of r s + n) % P) (none (value_of f s)) ∙ ap (λ (n : ℕ). n % P) z
        ∙ small_value r s

-- minus minus r is r
twice_minus : (n : ℕ) → ((P - 1) * (((P - 1) * n) % P)) % P ≡ n % P
twice_minus n =
    let all : (P - 1) * ((P - 1) * n) ≡ n + ((P - 2) * n) * P = omega arith in
    mul-mod_second (P - 1) ((P - 1) * n) P ∙ ap (λ (m : ℕ). m % P) all
    ∙ add-mul-mod_self_right n ((P - 2) * n) P

pub negated_back : (c r : List Term) → value_of c ≡ negated (value_of r)
    → value_of r ≡ negated (value_of c)
unfolding negated
negated_back c r e = λ i s. at s i
  where
    at : (s : Assignment) → value_of r s ≡ ((P - 1) * value_of c s) % P
    at s = sym (small_value r s) ∙ sym (twice_minus (value_of r s))
        ∙ ap (λ (f : Number). ((P - 1) * f s) % P) (sym e)

-- the constraint of k * factor + c = 0, where r is minus c
pub linear_of : (k : ℕ) (factor r c f : List Term) (n : Constraint)
    → n ≡ record { a = []; b = []; c = f }
    → value_of f ≡ added (value_of r) (scaled ((k * (P - 1)) % P) (value_of factor))
    → value_of r ≡ negated (value_of c) → IsLinear k factor c n
linear_of k factor r c f n e g h = record {
  left = ap (λ (m : Constraint). m.a) e;
  right = ap (λ (m : Constraint). m.b) e;
  rest = ap (λ (m : Constraint). value_of m.c) e ∙ g ∙ less_means k r c factor h;
}

pub linear_within : (m : ℕ) (f : List Term) (n : Constraint)
    → n ≡ record { a = []; b = []; c = f } → IsWithin m f → IsConstraintWithin m n
linear_within m f n e w = (
  none_within m n.a (ap (λ (k : Constraint). k.a) e),
  none_within m n.b (ap (λ (k : Constraint). k.b) e),
  same_within m n.c f (ap (λ (k : Constraint). k.c) e) w,
)
