-- The numbers of results are the operators' on the numbers of the operands.
use Rattle.std.proofs.Common.{◌≡◌, ◌≢◌, ℕ, zero, suc, ◌+◌, ◌*◌, ◌-◌, ◌%◌, ◌^◌, ◌<◌, Bool, true}
use Rattle.std.proofs.Common.{false, cond, Option, Some, None, refl, sym, ap, subst, ◌∙◌, arith}
use Rattle.std.specs.Prelude.{◌==◌}
use Rattle.std.proofs.Math.Nat.{pow-suc, pow-zero, mod-add-mod, add-mod-mod, mod-eq_of_lt}
use Rattle.std.proofs.Math.Nat.{add-mul-mod_self_right}
use Rattle.std.proofs.lemmas.Nat.{mul-mod_first, mul-mod_second}
use Rattle.std.proofs.lemmas.Bool.{eqb-true}
use Rattle.gold_field.specs.declared.gold.TheConstants.{P}
use Rattle.gold_field.specs.declared.operators.Op1.{Op1}
use Rattle.gold_field.specs.declared.operators.Op1.TheVariants.{Neg, Not, Compl}
use Rattle.gold_field.specs.declared.operators.Op2.{Op2}
use Rattle.gold_field.specs.declared.operators.Op2.TheVariants.{Add, Sub, Mul, Div, Quot, Rem, Pow}
use Rattle.gold_field.specs.declared.operators.Op2.TheVariants.{Shl, Shr, And, Xor, Or, Lt, Le, Gt}
use Rattle.gold_field.specs.declared.operators.Op2.TheVariants.{Ge, Eq, Ne}
use Rattle.gold_field.specs.Operators.{binary_of, inverse_of, unary_of}
use Rattle.cir_lc.specs.Number.{Assignment, constant, added, scaled, multiplied, negated}
use Rattle.cir_meaning.specs.declared.class.Class.TheVariants as Class'
use Rattle.cir_meaning.specs.Classes.{unary_class}
use Rattle.cir_meaning.specs.Values.{Value, Known, Linear, Quadratic, Opaque, IsValue, class_of}
use Rattle.cir_meaning.specs.Values.{sum_of, negative_of, difference_of, product_of, quotient_of}
use Rattle.cir_meaning.specs.Values.{known_of, known_or_opaque, power_of, power_by, result_of}
use Rattle.cir_meaning.specs.Values.{number_of, unary_result}
use Rattle.cir_meaning.proofs.ClassLaws.{divided_is, negative_class}

-- a term goes into the constant part of a sum
into_left : (j m c : ℕ) → (j + (m + c) % P) % P ≡ (m + (j + c) % P) % P
into_left j m c =
    let e : j + (m + c) ≡ m + (j + c) = omega arith in
    add-mod-mod j (m + c) P ∙ ap (λ (n : ℕ). n % P) e ∙ sym (add-mod-mod m (j + c) P)

into_right : (m c k : ℕ) → ((m + c) % P + k) % P ≡ (m + (c + k) % P) % P
into_right m c k =
    let e : m + c + k ≡ m + (c + k) = omega arith in
    mod-add-mod (m + c) P k ∙ ap (λ (n : ℕ). n % P) e ∙ sym (add-mod-mod m (c + k) P)

-- minus a number
minus : (n : ℕ) → n < P → ((P - 1) * n) % P ≡ (P - n) % P
minus zero h = refl
minus (suc n) h =
    let e : (P - 1) * suc n ≡ P - suc n + n * P = omega arith in
    ap (λ (k : ℕ). k % P) e ∙ add-mul-mod_self_right (P - suc n) n P

first_power : (n : ℕ) → n ^ 1 ≡ n
first_power n = pow-suc n 0 ∙ ap (λ (k : ℕ). k * n) (pow-zero n) ∙ omega arith

second_power : (n : ℕ) → n ^ 2 ≡ n * n
second_power n = pow-suc n 1 ∙ ap (λ (k : ℕ). k * n) (first_power n)

pub unary_classes : (op : Op1) (x : Value)
    → class_of (unary_result op x) ≡ unary_class op (class_of x)
unary_classes Neg x = negative_class x
unary_classes Not (Known k) = refl
unary_classes Not (Linear f) = refl
unary_classes Not (Quadratic a b c) = refl
unary_classes Not Opaque = refl
unary_classes Compl (Known k) = refl
unary_classes Compl (Linear f) = refl
unary_classes Compl (Quadratic a b c) = refl
unary_classes Compl Opaque = refl

-- an opaque operand has an opaque difference
opaque_sum : (x y : Value) → class_of y ≡ Class'.Opaque → class_of (sum_of x y) ≡ Class'.Opaque
opaque_sum x (Known k) e = cc
opaque_sum x (Linear g) e = cc
opaque_sum x (Quadratic a b c) e = cc
opaque_sum (Known j) Opaque e = refl
opaque_sum (Linear f) Opaque e = refl
opaque_sum (Quadratic a b c) Opaque e = refl
opaque_sum Opaque Opaque e = refl

opaque_right : (x y : Value) → class_of y ≡ Class'.Opaque
    → class_of (difference_of x y) ≡ Class'.Opaque
opaque_right x y e = opaque_sum x (negative_of y) (negative_class y ∙ e)

module _ (s : Assignment) where
  sum_number : (x y : Value) → class_of (sum_of x y) ≢ Class'.Opaque
      → (number_of x s + number_of y s) % P ≡ number_of (sum_of x y) s
  unfolding constant added multiplied
  sum_number (Known j) (Known k) h = refl
  sum_number (Known j) (Linear g) h = refl
  sum_number (Known j) (Quadratic a b c) h = into_left j (a s * b s % P) (c s)
  sum_number (Known j) Opaque h = absurd (h refl)
  sum_number (Linear f) (Known k) h = refl
  sum_number (Linear f) (Linear g) h = refl
  sum_number (Linear f) (Quadratic a b c) h = into_left (f s) (a s * b s % P) (c s)
  sum_number (Linear f) Opaque h = absurd (h refl)
  sum_number (Quadratic a b c) (Known k) h = into_right (a s * b s % P) (c s) k
  sum_number (Quadratic a b c) (Linear g) h = into_right (a s * b s % P) (c s) (g s)
  sum_number (Quadratic a b c) (Quadratic d e f) h = absurd (h refl)
  sum_number (Quadratic a b c) Opaque h = absurd (h refl)
  sum_number Opaque y h = absurd (h refl)

  -- the number is one of the field
  pub below : (x : Value) → IsValue x → number_of x s < P
  unfolding constant added multiplied
  below (Known k) v = v
  below (Linear f) v = v s
  below (Quadratic a b c) v = omega arith
  below Opaque v = omega arith

  -- k times a * b + c
  scaled_parts : (k a b c : ℕ) → (k * ((a * b % P + c) % P)) % P
      ≡ ((k * a % P * b) % P + k * c % P) % P
  scaled_parts k a b c =
      let ring : k * (a * b + c) ≡ k * a * b + k * c = grind arith in
      mul-mod_second k (a * b % P + c) P
      ∙ sym (mul-mod_second k (a * b % P + c) P)
      ∙ ap (λ (n : ℕ). (k * n) % P) (mod-add-mod (a * b) P c)
      ∙ mul-mod_second k (a * b + c) P
      ∙ ap (λ (n : ℕ). n % P) ring
      ∙ sym (mod-add-mod (k * a * b) P (k * c)) ∙ sym (add-mod-mod (k * a * b % P) (k * c) P)
      ∙ ap (λ (n : ℕ). (n + k * c % P) % P) (sym (mul-mod_first (k * a) b P))

  negative_number : (y : Value) → IsValue y → class_of y ≢ Class'.Opaque
      → number_of (negative_of y) s ≡ (P - number_of y s) % P
  unfolding constant added multiplied negated
  negative_number (Known k) v h = refl
  negative_number (Linear f) v h = minus (f s) (v s)
  negative_number (Quadratic a b c) v h =
      sym (scaled_parts (P - 1) (a s) (b s) (c s)) ∙ minus ((a s * b s % P + c s) % P) (omega arith)
  negative_number Opaque v h = absurd (h refl)

  product_number : (x y : Value) → class_of (product_of x y) ≢ Class'.Opaque
      → (number_of x s * number_of y s) % P ≡ number_of (product_of x y) s
  unfolding constant added multiplied scaled
  product_number (Known j) (Known k) h = refl
  product_number (Known j) (Linear g) h = refl
  product_number (Known j) (Quadratic a b c) h = scaled_parts j (a s) (b s) (c s)
  product_number (Known j) Opaque h = absurd (h refl)
  product_number (Linear f) (Known k) h =
      let e : f s * k ≡ k * f s = grind arith in ap (λ (n : ℕ). n % P) e
  product_number (Linear f) (Linear g) h =
      let e : f s * g s % P + 0 ≡ f s * g s % P = omega arith in
      let small : f s * g s % P < P = omega arith in
      sym (ap (λ (n : ℕ). n % P) e ∙ mod-eq_of_lt small)
  product_number (Linear f) (Quadratic a b c) h = absurd (h refl)
  product_number (Linear f) Opaque h = absurd (h refl)
  product_number (Quadratic a b c) (Known k) h =
      let e : (a s * b s % P + c s) % P * k ≡ k * ((a s * b s % P + c s) % P) = grind arith in
      ap (λ (n : ℕ). n % P) e ∙ scaled_parts k (a s) (b s) (c s)
  product_number (Quadratic a b c) (Linear g) h = absurd (h refl)
  product_number (Quadratic a b c) (Quadratic d e f) h = absurd (h refl)
  product_number (Quadratic a b c) Opaque h = absurd (h refl)
  product_number Opaque y h = absurd (h refl)

  known_by : (op : Op2) (j k : ℕ) (o : Option ℕ) → binary_of op j k ≡ o
      → class_of (known_or_opaque o) ≢ Class'.Opaque
      → binary_of op j k ≡ Some (number_of (known_or_opaque o) s)
  unfolding constant
  known_by op j k None e h = absurd (h refl)
  known_by op j k (Some n) e h = e

  known_numbers : (op : Op2) (x y : Value) → class_of (known_of op x y) ≢ Class'.Opaque
      → binary_of op (number_of x s) (number_of y s) ≡ Some (number_of (known_of op x y) s)
  unfolding constant
  known_numbers op (Known j) (Known k) h = known_by op j k (binary_of op j k) refl h
  known_numbers op (Known j) (Linear g) h = absurd (h refl)
  known_numbers op (Known j) (Quadratic a b c) h = absurd (h refl)
  known_numbers op (Known j) Opaque h = absurd (h refl)
  known_numbers op (Linear f) y h = absurd (h refl)
  known_numbers op (Quadratic a b c) y h = absurd (h refl)
  known_numbers op Opaque y h = absurd (h refl)

  -- the powers 0, 1 and 2
  power_zero : (n e : ℕ) → e ≡ 0 → n ^ e % P ≡ 1
  power_zero n e h = ap (λ (k : ℕ). n ^ k % P) h ∙ ap (λ (k : ℕ). k % P) (pow-zero n)

  power_one : (n e : ℕ) → n < P → e ≡ 1 → n ^ e % P ≡ n
  power_one n e small h =
      ap (λ (k : ℕ). n ^ k % P) h ∙ ap (λ (k : ℕ). k % P) (first_power n) ∙ mod-eq_of_lt small

  power_two : (n e : ℕ) → e ≡ 2 → n ^ e % P ≡ n * n % P
  power_two n e h = ap (λ (k : ℕ). n ^ k % P) h ∙ ap (λ (k : ℕ). k % P) (second_power n)

  power_cond : (b : Bool) (n : ℕ) (x y : Value)
      → (b ≡ true → class_of x ≢ Class'.Opaque → n ≡ number_of x s)
      → (b ≡ false → class_of y ≢ Class'.Opaque → n ≡ number_of y s)
      → class_of (cond b x y) ≢ Class'.Opaque → n ≡ number_of (cond b x y) s
  power_cond true n x y h k c = h refl c
  power_cond false n x y h k c = k refl c

  power_numbers : (x : Value) (e : ℕ) → IsValue x → class_of (power_by x e) ≢ Class'.Opaque
      → (number_of x s) ^ e % P ≡ number_of (power_by x e) s
  unfolding constant
  power_numbers (Known j) e v =
      power_cond (e == 0) _ _ _ (λ t _. power_zero j e (eqb-true e 0 t)) (λ _.
      power_cond (e == 1) _ _ _ (λ t _. power_one j e v (eqb-true e 1 t)) (λ _.
      power_cond (e == 2) _ _ _ (λ t _. power_two j e (eqb-true e 2 t)) (λ _ _. refl)))
  power_numbers (Linear f) e v =
      power_cond (e == 0) _ _ _ (λ t _. power_zero (f s) e (eqb-true e 0 t)) (λ _.
      power_cond (e == 1) _ _ _ (λ t _. power_one (f s) e (v s) (eqb-true e 1 t)) (λ _.
      power_cond (e == 2) _ _ _ (λ t h. power_two (f s) e (eqb-true e 2 t)
      ∙ product_number (Linear f) (Linear f) h) (λ _ h. absurd (h refl))))
  power_numbers (Quadratic a b c) e v =
      power_cond (e == 0) _ _ _
      (λ t _. power_zero (number_of (Quadratic a b c) s) e (eqb-true e 0 t)) (λ _.
      power_cond (e == 1) _ _ _
      (λ t _. power_one (number_of (Quadratic a b c) s) e (below (Quadratic a b c) v)
      (eqb-true e 1 t)) (λ _.
      power_cond (e == 2) _ _ _ (λ t h. absurd (h refl)) (λ _ h. absurd (h refl))))
  power_numbers Opaque e v = λ h. absurd (h refl)

  same_some : (a b : Value) → Some a ≡ Some b → a ≡ b
  same_some a b e = cc

  -- a law of the result, at the value that it is
  at_value : (u v : Value) (o : Option ℕ) → u ≡ v → class_of v ≢ Class'.Opaque
      → (class_of u ≢ Class'.Opaque → o ≡ Some (number_of u s)) → o ≡ Some (number_of v s)
  at_value u v o e h law =
      subst (λ w. class_of w ≢ Class'.Opaque → o ≡ Some (number_of w s)) e law h

  pub difference_number : (x y : Value) → IsValue y → class_of (difference_of x y) ≢ Class'.Opaque
      → (number_of x s + (P - number_of y s)) % P ≡ number_of (difference_of x y) s
  difference_number x y v h =
      sym (add-mod-mod (number_of x s) (P - number_of y s) P)
      ∙ ap (λ (n : ℕ). (number_of x s + n) % P)
      (sym (negative_number y v (λ e. h (opaque_right x y e))))
      ∙ sum_number x (negative_of y) h

  quotient_number : (x y : Value) → ((k : ℕ) → y ≡ Known k → (k == 0) ≡ false)
      → class_of (quotient_of x y) ≢ Class'.Opaque → binary_of Div (number_of x s) (number_of y s)
      ≡ Some (number_of (quotient_of x y) s)
  unfolding constant
  quotient_number x (Known k) nz h =
      ap (λ b. cond b None (Some (number_of x s * inverse_of k % P))) (nz k refl)
      ∙ ap Some (product_number x (Known (inverse_of k)) h)
  quotient_number x (Linear g) nz h = absurd (h refl)
  quotient_number x (Quadratic a b c) nz h = absurd (h refl)
  quotient_number x Opaque nz h = absurd (h refl)

  power_number : (x y : Value) → IsValue x → class_of (power_of x y) ≢ Class'.Opaque
      → binary_of Pow (number_of x s) (number_of y s) ≡ Some (number_of (power_of x y) s)
  unfolding constant
  power_number x (Known e) v h = ap Some (power_numbers x e v h)
  power_number x (Linear g) v h = absurd (h refl)
  power_number x (Quadratic a b c) v h = absurd (h refl)
  power_number x Opaque v h = absurd (h refl)

  pub numbers : (op : Op2) (x y v : Value) → IsValue x → IsValue y → result_of op x y ≡ Some v
      → class_of v ≢ Class'.Opaque → binary_of op (number_of x s) (number_of y s)
      ≡ Some (number_of v s)
  numbers Add x y v i j e h =
      at_value (sum_of x y) v _ (same_some _ _ e) h (λ k. ap Some (sum_number x y k))
  numbers Sub x y v i j e h =
      at_value (difference_of x y) v _ (same_some _ _ e) h
      (λ k. ap Some (difference_number x y j k))
  numbers Mul x y v i j e h =
      at_value (product_of x y) v _ (same_some _ _ e) h (λ k. ap Some (product_number x y k))
  numbers Div x y v i j e h = let d = divided_is y (quotient_of x y) v e
      in at_value (quotient_of x y) v _ d.0 h (quotient_number x y d.1)
  numbers Quot x y v i j e h = let d = divided_is y (known_of Quot x y) v e
      in at_value (known_of Quot x y) v _ d.0 h (known_numbers Quot x y)
  numbers Rem x y v i j e h = let d = divided_is y (known_of Rem x y) v e
      in at_value (known_of Rem x y) v _ d.0 h (known_numbers Rem x y)
  numbers Pow x y v i j e h = at_value (power_of x y) v _ (same_some _ _ e) h (power_number x y i)
  numbers Shl x y v i j e h =
      at_value (known_of Shl x y) v _ (same_some _ _ e) h (known_numbers Shl x y)
  numbers Shr x y v i j e h =
      at_value (known_of Shr x y) v _ (same_some _ _ e) h (known_numbers Shr x y)
  numbers And x y v i j e h =
      at_value (known_of And x y) v _ (same_some _ _ e) h (known_numbers And x y)
  numbers Xor x y v i j e h =
      at_value (known_of Xor x y) v _ (same_some _ _ e) h (known_numbers Xor x y)
  numbers Or x y v i j e h =
      at_value (known_of Or x y) v _ (same_some _ _ e) h (known_numbers Or x y)
  numbers Lt x y v i j e h =
      at_value (known_of Lt x y) v _ (same_some _ _ e) h (known_numbers Lt x y)
  numbers Le x y v i j e h =
      at_value (known_of Le x y) v _ (same_some _ _ e) h (known_numbers Le x y)
  numbers Gt x y v i j e h =
      at_value (known_of Gt x y) v _ (same_some _ _ e) h (known_numbers Gt x y)
  numbers Ge x y v i j e h =
      at_value (known_of Ge x y) v _ (same_some _ _ e) h (known_numbers Ge x y)
  numbers Eq x y v i j e h =
      at_value (known_of Eq x y) v _ (same_some _ _ e) h (known_numbers Eq x y)
  numbers Ne x y v i j e h =
      at_value (known_of Ne x y) v _ (same_some _ _ e) h (known_numbers Ne x y)

  pub unary_numbers : (op : Op1) (x : Value) → IsValue x
      → class_of (unary_result op x) ≢ Class'.Opaque
      → unary_of op (number_of x s) ≡ number_of (unary_result op x) s
  unfolding constant
  unary_numbers Neg x v h = sym (negative_number x v (λ e. h (negative_class x ∙ e)))
  unary_numbers Not (Known k) v h = refl
  unary_numbers Not (Linear f) v h = absurd (h refl)
  unary_numbers Not (Quadratic a b c) v h = absurd (h refl)
  unary_numbers Not Opaque v h = absurd (h refl)
  unary_numbers Compl (Known k) v h = refl
  unary_numbers Compl (Linear f) v h = absurd (h refl)
  unary_numbers Compl (Quadratic a b c) v h = absurd (h refl)
  unary_numbers Compl Opaque v h = absurd (h refl)
