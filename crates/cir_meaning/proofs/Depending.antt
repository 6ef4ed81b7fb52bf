-- The operators give values that depend on no other signals than their operands.
use Rattle.std.proofs.Common.{◌≡◌, ℕ, Bool, true, false, cond, Option, Some, None, refl, subst}
use Rattle.std.specs.Prelude.{◌==◌, ⊤}
use Rattle.gold_field.specs.declared.operators.Op1.{Op1}
use Rattle.gold_field.specs.declared.operators.Op1.TheVariants.{Neg, Not, Compl}
use Rattle.gold_field.specs.declared.operators.Op2.{Op2}
use Rattle.gold_field.specs.declared.operators.Op2.TheVariants.{Add, Sub, Mul, Div, Quot, Rem, Pow}
use Rattle.gold_field.specs.declared.operators.Op2.TheVariants.{Shl, Shr, And, Xor, Or, Lt, Le, Gt}
use Rattle.gold_field.specs.declared.operators.Op2.TheVariants.{Ge, Eq, Ne}
use Rattle.gold_field.specs.Operators.{binary_of, inverse_of}
use Rattle.cir_lc.specs.Number.{Number, constant, signal, added, scaled, negated}
use Rattle.cir_meaning.specs.Dependence.{Depends, IsOver}
use Rattle.cir_meaning.specs.Source.{Equation}
use Rattle.cir_meaning.specs.Values.{Value, Known, Linear, Quadratic, Opaque, Parts, sum_of}
use Rattle.cir_meaning.specs.Values.{negative_of, difference_of, parts_of, number_of, product_of}
use Rattle.cir_meaning.specs.Values.{quotient_of, known_of, known_or_opaque, power_of, power_by}
use Rattle.cir_meaning.specs.Values.{result_of, known_unary, unary_result, Decided, Right, truth_of}
use Rattle.cir_meaning.specs.Values.{and_left, or_left, lazy_result, Side, First, Second, Both}
use Rattle.cir_meaning.specs.Values.{chosen}
use Rattle.cir_meaning.proofs.ClassLaws.{divided_is}

some_is : (q r : Parts) → Some q ≡ Some r → q ≡ r
some_is q r e = cc

module _ (D : ℕ → Type 0) where
  -- its numbers depend on these signals alone
  abbrev pub Over : Value → Type 0
  Over (Known k) = ⊤
  Over (Linear f) = Depends D f
  Over (Quadratic a b c) = Depends D a × Depends D b × Depends D c
  Over Opaque = ⊤

  pub constant_over : (k : ℕ) → Depends D (constant k)
  unfolding constant
  constant_over k = λ s t h. refl

  pub signal_over : (n : ℕ) → D n → Depends D (signal n)
  unfolding signal
  signal_over n d = λ s t h. h n d

  pub added_over : (f g : Number) → Depends D f → Depends D g → Depends D (added f g)
  unfolding added
  added_over f g i j = λ s t h.
      let p : f s ≡ f t = i s t h in
      let q : g s ≡ g t = j s t h in
      cc

  pub scaled_over : (k : ℕ) (f : Number) → Depends D f → Depends D (scaled k f)
  unfolding scaled
  scaled_over k f i = λ s t h. let p : f s ≡ f t = i s t h in cc

  pub negated_over : (f : Number) → Depends D f → Depends D (negated f)
  unfolding negated
  negated_over f i = λ s t h. let p : f s ≡ f t = i s t h in cc

  sum_over : (x y : Value) → Over x → Over y → Over (sum_of x y)
  sum_over (Known j) (Known k) v w = tt
  sum_over (Known j) (Linear g) v w = added_over (constant j) g (constant_over j) w
  sum_over (Known j) (Quadratic a b c) v w =
      (w.0, w.1, added_over (constant j) c (constant_over j) w.2)
  sum_over (Known j) Opaque v w = tt
  sum_over (Linear f) (Known k) v w = added_over f (constant k) v (constant_over k)
  sum_over (Linear f) (Linear g) v w = added_over f g v w
  sum_over (Linear f) (Quadratic a b c) v w = (w.0, w.1, added_over f c v w.2)
  sum_over (Linear f) Opaque v w = tt
  sum_over (Quadratic a b c) (Known k) v w =
      (v.0, v.1, added_over c (constant k) v.2 (constant_over k))
  sum_over (Quadratic a b c) (Linear g) v w = (v.0, v.1, added_over c g v.2 w)
  sum_over (Quadratic a b c) (Quadratic d e f) v w = tt
  sum_over (Quadratic a b c) Opaque v w = tt
  sum_over Opaque y v w = tt

  negative_over : (x : Value) → Over x → Over (negative_of x)
  negative_over (Known k) v = tt
  negative_over (Linear f) v = negated_over f v
  negative_over (Quadratic a b c) v = (negated_over a v.0, v.1, negated_over c v.2)
  negative_over Opaque v = tt

  pub difference_over : (x y : Value) → Over x → Over y → Over (difference_of x y)
  difference_over x y v w = sum_over x (negative_of y) v (negative_over y w)

  product_over : (x y : Value) → Over x → Over y → Over (product_of x y)
  product_over (Known j) (Known k) v w = tt
  product_over (Known j) (Linear g) v w = scaled_over j g w
  product_over (Known j) (Quadratic a b c) v w =
      (scaled_over j a w.0, w.1, scaled_over j c w.2)
  product_over (Known j) Opaque v w = tt
  product_over (Linear f) (Known k) v w = scaled_over k f v
  product_over (Linear f) (Linear g) v w = (v, w, constant_over 0)
  product_over (Linear f) (Quadratic a b c) v w = tt
  product_over (Linear f) Opaque v w = tt
  product_over (Quadratic a b c) (Known k) v w =
      (scaled_over k a v.0, v.1, scaled_over k c v.2)
  product_over (Quadratic a b c) (Linear g) v w = tt
  product_over (Quadratic a b c) (Quadratic d e f) v w = tt
  product_over (Quadratic a b c) Opaque v w = tt
  product_over Opaque y v w = tt

  quotient_over : (x y : Value) → Over x → Over (quotient_of x y)
  quotient_over x (Known k) v = product_over x (Known (inverse_of k)) v tt
  quotient_over x (Linear g) v = tt
  quotient_over x (Quadratic a b c) v = tt
  quotient_over x Opaque v = tt

  answer_over : (o : Option ℕ) → Over (known_or_opaque o)
  answer_over None = tt
  answer_over (Some n) = tt

  known_over : (op : Op2) (x y : Value) → Over (known_of op x y)
  known_over op (Known j) (Known k) = answer_over (binary_of op j k)
  known_over op (Known j) (Linear g) = tt
  known_over op (Known j) (Quadratic a b c) = tt
  known_over op (Known j) Opaque = tt
  known_over op (Linear f) y = tt
  known_over op (Quadratic a b c) y = tt
  known_over op Opaque y = tt

  cond_over : (b : Bool) (x y : Value) → Over x → Over y → Over (cond b x y)
  cond_over true x y v w = v
  cond_over false x y v w = w

  powers_over : (x : Value) (e : ℕ) → Over x
      → Over (cond (e == 0) (Known 1)
      (cond (e == 1) x (cond (e == 2) (product_of x x) (known_of Pow x (Known e)))))
  powers_over x e v =
      cond_over (e == 0) _ _ tt
      (cond_over (e == 1) _ _ v
      (cond_over (e == 2) _ _ (product_over x x v v) (known_over Pow x (Known e))))

  power_by_over : (x : Value) (e : ℕ) → Over x → Over (power_by x e)
  power_by_over (Known k) e v = powers_over (Known k) e v
  power_by_over (Linear f) e v = powers_over (Linear f) e v
  power_by_over (Quadratic a b c) e v = powers_over (Quadratic a b c) e v
  power_by_over Opaque e v = tt

  power_over : (x y : Value) → Over x → Over (power_of x y)
  power_over x (Known e) v = power_by_over x e v
  power_over x (Linear g) v = tt
  power_over x (Quadratic a b c) v = tt
  power_over x Opaque v = tt

  is_over : (u v : Value) → Over u → Some u ≡ Some v → Over v
  is_over u v h e = let same : u ≡ v = cc in subst Over same h

  pub result_over : (op : Op2) (x y v : Value) → Over x → Over y → result_of op x y ≡ Some v
      → Over v
  result_over Add x y v i j e = is_over _ v (sum_over x y i j) e
  result_over Sub x y v i j e = is_over _ v (difference_over x y i j) e
  result_over Mul x y v i j e = is_over _ v (product_over x y i j) e
  result_over Div x y v i j e =
      subst Over (divided_is y (quotient_of x y) v e).0 (quotient_over x y i)
  result_over Quot x y v i j e =
      subst Over (divided_is y (known_of Quot x y) v e).0 (known_over Quot x y)
  result_over Rem x y v i j e =
      subst Over (divided_is y (known_of Rem x y) v e).0 (known_over Rem x y)
  result_over Pow x y v i j e = is_over _ v (power_over x y i) e
  result_over Shl x y v i j e = is_over _ v (known_over Shl x y) e
  result_over Shr x y v i j e = is_over _ v (known_over Shr x y) e
  result_over And x y v i j e = is_over _ v (known_over And x y) e
  result_over Xor x y v i j e = is_over _ v (known_over Xor x y) e
  result_over Or x y v i j e = is_over _ v (known_over Or x y) e
  result_over Lt x y v i j e = is_over _ v (known_over Lt x y) e
  result_over Le x y v i j e = is_over _ v (known_over Le x y) e
  result_over Gt x y v i j e = is_over _ v (known_over Gt x y) e
  result_over Ge x y v i j e = is_over _ v (known_over Ge x y) e
  result_over Eq x y v i j e = is_over _ v (known_over Eq x y) e
  result_over Ne x y v i j e = is_over _ v (known_over Ne x y) e

  known_unary_over : (op : Op1) (x : Value) → Over (known_unary op x)
  known_unary_over op (Known k) = tt
  known_unary_over op (Linear f) = tt
  known_unary_over op (Quadratic a b c) = tt
  known_unary_over op Opaque = tt

  pub unary_over : (op : Op1) (x : Value) → Over x → Over (unary_result op x)
  unary_over Neg x v = negative_over x v
  unary_over Not x v = known_unary_over Not x
  unary_over Compl x v = known_unary_over Compl x

  -- the lazy operators and the choice
  truth_over : (y : Value) → Over (truth_of y)
  truth_over (Known k) = tt
  truth_over (Linear f) = tt
  truth_over (Quadratic a b c) = tt
  truth_over Opaque = tt

  and_over_by : (b : Bool) (y : Value) → Over (lazy_result (cond b (Decided 0) Right) y)
  and_over_by true y = tt
  and_over_by false y = truth_over y

  or_over_by : (b : Bool) (y : Value) → Over (lazy_result (cond b Right (Decided 1)) y)
  or_over_by true y = truth_over y
  or_over_by false y = tt

  pub and_over : (x y : Value) → Over (lazy_result (and_left x) y)
  and_over (Known k) y = and_over_by (k == 0) y
  and_over (Linear f) y = tt
  and_over (Quadratic a b c) y = tt
  and_over Opaque y = tt

  pub or_over : (x y : Value) → Over (lazy_result (or_left x) y)
  or_over (Known k) y = or_over_by (k == 0) y
  or_over (Linear f) y = tt
  or_over (Quadratic a b c) y = tt
  or_over Opaque y = tt

  pub chosen_over : (side : Side) (x y : Value) → Over x → Over y → Over (chosen side x y)
  chosen_over First x y v w = v
  chosen_over Second x y v w = w
  chosen_over Both x y v w = tt

  -- the equation of two values
  pub equation_over : (x y v : Value) (p : Parts) → Over v → parts_of v ≡ Some p
      → IsOver D record { left = number_of x; right = number_of y; parts = p }
  equation_over x y (Known k) p h e =
      subst (λ q. IsOver D record { left = number_of x; right = number_of y; parts = q })
      (some_is _ p e)
      record { a = constant_over 0; b = constant_over 0; c = constant_over k }
  equation_over x y (Linear f) p h e =
      subst (λ q. IsOver D record { left = number_of x; right = number_of y; parts = q })
      (some_is _ p e) record { a = constant_over 0; b = constant_over 0; c = h }
  equation_over x y (Quadratic a b c) p h e =
      subst (λ q. IsOver D record { left = number_of x; right = number_of y; parts = q })
      (some_is _ p e) record { a = h.0; b = h.1; c = h.2 }
  equation_over x y Opaque p h e = cc

-- more signals
pub depends_more : (D E : ℕ → Type 0) (f : Number) → ((n : ℕ) → D n → E n) → Depends D f
    → Depends E f
depends_more D E f m h = λ s t g. h s t (λ n d. g n (m n d))

pub over_more : (D E : ℕ → Type 0) → ((n : ℕ) → D n → E n) → (v : Value) → Over D v → Over E v
over_more D E m (Known k) h = tt
over_more D E m (Linear f) h = depends_more D E f m h
over_more D E m (Quadratic a b c) h =
    (depends_more D E a m h.0, depends_more D E b m h.1, depends_more D E c m h.2)
over_more D E m Opaque h = tt

pub is_over_more : (D E : ℕ → Type 0) → ((n : ℕ) → D n → E n) → (e : Equation) → IsOver D e
    → IsOver E e
is_over_more D E m e h = record {
  a = depends_more D E e.parts.a m h.a;
  b = depends_more D E e.parts.b m h.b;
  c = depends_more D E e.parts.c m h.c;
}
