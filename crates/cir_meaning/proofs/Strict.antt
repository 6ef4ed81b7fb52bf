-- The operators' numbers when a program runs are those of their values at compile time.
use Rattle.std.proofs.Common.{◌≡◌, ◌≢◌, ℕ, ◌%◌, ◌^◌, Bool, true, false, cond, Some, refl, sym, ap}
use Rattle.std.proofs.Common.{subst, ◌∙◌}
use Rattle.std.specs.Prelude.{◌==◌}
use Rattle.std.proofs.Math.Nat.{pow-zero}
use Rattle.std.proofs.lemmas.Bool.{eqb-true}
use Rattle.gold_field.specs.declared.gold.TheConstants.{P}
use Rattle.gold_field.specs.declared.operators.Op1.{Op1}
use Rattle.gold_field.specs.declared.operators.Op1.TheVariants as op1
use Rattle.gold_field.specs.declared.operators.Op2.{Op2}
use Rattle.gold_field.specs.declared.operators.Op2.TheVariants as op2
use Rattle.gold_field.specs.Operators.{unary_of, binary_of}
use Rattle.cir_lc.specs.Number.{Assignment, constant}
use Rattle.cir_lc.specs.Coefficient.{origin}
use Rattle.cir_meaning.specs.declared.class.Class.TheVariants as Class'
use Rattle.cir_meaning.specs.Classes.{class_by}
use Rattle.cir_meaning.specs.Values.{Value, Known, Linear, Quadratic, Opaque, IsValue, class_of}
use Rattle.cir_meaning.specs.Values.{product_of, result_of, unary_result, number_of, known_number}
use Rattle.cir_meaning.proofs.ClassLaws.{classes}
use Rattle.cir_meaning.proofs.NumberLaws.{numbers, unary_numbers}
use Rattle.cir_meaning.proofs.Meaning.{Means, number_at, means_of, Both, clear, sum_known}
use Rattle.cir_meaning.proofs.Meaning.{product_known, quotient_known, alone_known}

some_number : (a b : ℕ) → Some a ≡ Some b → a ≡ b
some_number a b e = cc

some_value : (a b : Value) → Some a ≡ Some b → a ≡ b
some_value a b e = cc

module _ (E : Assignment → Type 0) (x y v : Value) (m n z k : ℕ) where
  -- known operands
  both_sound : (op : Op2) → class_of x ≡ Class'.Known → class_of y ≡ Class'.Known → IsValue x
      → IsValue y → Means E x m → Means E y n
      → result_of op x y ≡ Some v → v ≡ Known k → binary_of op m n ≡ Some z → k ≡ z
  unfolding constant
  both_sound = at x y
    where
      at : (x y : Value) (op : Op2) → class_of x ≡ Class'.Known → class_of y ≡ Class'.Known
          → IsValue x → IsValue y → Means E x m → Means E y n
          → result_of op x y ≡ Some v → v ≡ Known k → binary_of op m n ≡ Some z → k ≡ z
      at (Known i) (Known j) op cx cy hx hy mx my r e b =
          let clear_class : class_of v ≢ Class'.Opaque = λ no.
          (let c : class_of v ≡ Class'.Known = ap class_of e in cc) in
          let law : binary_of op i j ≡ Some (number_of v origin) = numbers origin op (Known i)
          (Known j) v hx hy r clear_class in
          let moved : binary_of op m n ≡ Some (number_of v origin) = subst
          (λ a. binary_of op a n ≡ Some (number_of v origin)) mx
          (subst (λ a. binary_of op i a ≡ Some (number_of v origin)) my law) in
          let is_k : number_of v origin ≡ k = ap (λ (u : Value). number_of u origin) e in
          some_number k z (ap Some (sym is_k) ∙ sym moved ∙ b)
      at (Known i) (Linear g) op cx cy hx hy mx my r e b = cc
      at (Known i) (Quadratic d f g) op cx cy hx hy mx my r e b = cc
      at (Known i) Opaque op cx cy hx hy mx my r e b = cc
      at (Linear f) y op cx cy hx hy mx my r e b = cc
      at (Quadratic c d f) y op cx cy hx hy mx my r e b = cc
      at Opaque y op cx cy hx hy mx my r e b = cc

-- a known power of what isn't known is by 0
pow_known : (b c d : Bool) (x q : Value) (k : ℕ) → class_of x ≢ Class'.Known
    → class_of q ≢ Class'.Known
    → cond b (Known 1) (cond c x (cond d q Opaque)) ≡ Known k → (b ≡ true) × (1 ≡ k)
pow_known true c d x q k hx hq e = (refl, (let s : Known 1 ≡ Known k = e in cc))
pow_known false true d x q k hx hq e = absurd (hx (ap class_of e))
pow_known false false true x q k hx hq e = absurd (hq (ap class_of e))
pow_known false false false x q k hx hq e = cc

one_power : (m e n k z : ℕ) → e ≡ 0 → e ≡ n → 1 ≡ k → Some (m ^ n % P) ≡ Some z → k ≡ z
one_power m e n k z h g i b =
    let zero_power : m ^ n % P ≡ 1 = ap (λ (a : ℕ). m ^ a % P) (sym g ∙ h) ∙ ap (λ (a : ℕ). a % P)
    (pow-zero m) in
    sym i ∙ sym zero_power ∙ some_number (m ^ n % P) z b

power_sound : (E : Assignment → Type 0) (x : Value) (e : ℕ) (v : Value) (m n z k : ℕ) → IsValue x
    → IsValue (Known e) → Means E x m → e ≡ n
    → result_of op2.Pow x (Known e) ≡ Some v → v ≡ Known k → binary_of op2.Pow m n ≡ Some z → k ≡ z
power_sound E (Known j) e v m n z k hx hy mx my r ek b =
    both_sound E (Known j) (Known e) v m n z k op2.Pow refl refl hx hy mx my r ek b
power_sound E (Linear f) e v m n z k hx hy mx my r ek b =
    let p : (e == 0 ≡ true) × (1 ≡ k) = pow_known (e == 0) (e == 1) (e == 2) (Linear f)
    (product_of (Linear f) (Linear f)) k (λ c. cc) (λ c. cc) (some_value _ _ (r ∙ ap Some ek))
    in
    one_power m e n k z (eqb-true e 0 p.0) my p.1 b
power_sound E (Quadratic f g h) e v m n z k hx hy mx my r ek b =
    let p : (e == 0 ≡ true) × (1 ≡ k) = pow_known (e == 0) (e == 1) (e == 2) (Quadratic f g h)
    (product_of (Quadratic f g h) (Quadratic f g h)) k (λ c. cc) (λ c. cc)
    (some_value _ _ (r ∙ ap Some ek)) in
    one_power m e n k z (eqb-true e 0 p.0) my p.1 b
power_sound E Opaque e v m n z k hx hy mx my r ek b =
    let no : Opaque ≡ Known k = some_value _ _ (r ∙ ap Some ek) in cc

powers_sound : (E : Assignment → Type 0) (x y v : Value) (m n z k : ℕ) → IsValue x → IsValue y
    → Means E x m → Means E y n
    → result_of op2.Pow x y ≡ Some v → v ≡ Known k → binary_of op2.Pow m n ≡ Some z → k ≡ z
powers_sound E x (Known e) v m n z k hx hy mx my r ek b =
    power_sound E x e v m n z k hx hy mx my r ek b
powers_sound E x (Linear g) v m n z k hx hy mx my r ek b =
    let no : Opaque ≡ Known k = some_value _ _ (r ∙ ap Some ek) in cc
powers_sound E x (Quadratic f g h) v m n z k hx hy mx my r ek b =
    let no : Opaque ≡ Known k = some_value _ _ (r ∙ ap Some ek) in cc
powers_sound E x Opaque v m n z k hx hy mx my r ek b =
    let no : Opaque ≡ Known k = some_value _ _ (r ∙ ap Some ek) in cc

known_sound : (E : Assignment → Type 0) (op : Op2) (x y v : Value) (m n z k : ℕ) → IsValue x
    → IsValue y → Means E x m → Means E y n
    → result_of op x y ≡ Some v → v ≡ Known k → binary_of op m n ≡ Some z → k ≡ z
known_sound E op x y v m n z k hx hy mx my r ek b =
    at op r b (sym (classes op x y v r) ∙ ap class_of ek)
  where
    with_both : (op : Op2) → Both (class_of x) (class_of y) → result_of op x y ≡ Some v
        → binary_of op m n ≡ Some z → k ≡ z
    with_both op h r b = both_sound E x y v m n z k op h.0 h.1 hx hy mx my r ek b

    at : (op : Op2) → result_of op x y ≡ Some v → binary_of op m n ≡ Some z
        → class_by op (class_of x) (class_of y) (known_number y) ≡ Class'.Known → k ≡ z
    at op2.Add r b c = with_both op2.Add (sum_known _ _ c) r b
    at op2.Sub r b c = with_both op2.Sub (sum_known _ _ c) r b
    at op2.Mul r b c = with_both op2.Mul (product_known _ _ c) r b
    at op2.Div r b c = with_both op2.Div (quotient_known _ _ c) r b
    at op2.Pow r b c = powers_sound E x y v m n z k hx hy mx my r ek b
    at op2.Quot r b c = with_both op2.Quot (alone_known _ _ c) r b
    at op2.Rem r b c = with_both op2.Rem (alone_known _ _ c) r b
    at op2.Shl r b c = with_both op2.Shl (alone_known _ _ c) r b
    at op2.Shr r b c = with_both op2.Shr (alone_known _ _ c) r b
    at op2.And r b c = with_both op2.And (alone_known _ _ c) r b
    at op2.Xor r b c = with_both op2.Xor (alone_known _ _ c) r b
    at op2.Or r b c = with_both op2.Or (alone_known _ _ c) r b
    at op2.Lt r b c = with_both op2.Lt (alone_known _ _ c) r b
    at op2.Le r b c = with_both op2.Le (alone_known _ _ c) r b
    at op2.Gt r b c = with_both op2.Gt (alone_known _ _ c) r b
    at op2.Ge r b c = with_both op2.Ge (alone_known _ _ c) r b
    at op2.Eq r b c = with_both op2.Eq (alone_known _ _ c) r b
    at op2.Ne r b c = with_both op2.Ne (alone_known _ _ c) r b

pub strict_sound : (E : Assignment → Type 0) (op : Op2) (x y v : Value) (m n z : ℕ) → IsValue x
    → IsValue y → Means E x m → Means E y n
    → result_of op x y ≡ Some v → binary_of op m n ≡ Some z → Means E v z
strict_sound E op x y v m n z hx hy mx my r b =
    means_of E v z (λ k ek. known_sound E op x y v m n z k hx hy mx my r ek b) (λ s e c.
    let operands : (class_of x ≢ Class'.Opaque) × (class_of y ≢ Class'.Opaque) = clear op
    (class_of x) (class_of y) (known_number y) (subst (λ d. d ≢ Class'.Opaque)
    (classes op x y v r) c) in
    let law : binary_of op (number_of x s) (number_of y s) ≡ Some (number_of v s) = numbers s op x y
    v hx hy r c in
    let moved : binary_of op m n ≡ Some (number_of v s) =
    subst (λ a. binary_of op a n ≡ Some (number_of v s)) (number_at E x m s mx operands.0 e)
    (subst (λ a. binary_of op (number_of x s) a ≡ Some (number_of v s))
    (number_at E y n s my operands.1 e) law) in
    some_number (number_of v s) z (sym moved ∙ b))

-- operators of one operand
known_alone_sound : (E : Assignment → Type 0) (op : Op1) (x : Value) (m : ℕ) → IsValue x
    → Means E x m → (k : ℕ) → unary_result op x ≡ Known k → k ≡ unary_of op m
known_alone_sound E op1.Neg (Known j) m hx mx k e =
    let s : Known (unary_of op1.Neg j) ≡ Known k = e in (let t : unary_of op1.Neg j ≡ k = cc in sym
    t ∙ ap (unary_of op1.Neg) mx)
known_alone_sound E op1.Not (Known j) m hx mx k e =
    let s : Known (unary_of op1.Not j) ≡ Known k = e in (let t : unary_of op1.Not j ≡ k = cc in sym
    t ∙ ap (unary_of op1.Not) mx)
known_alone_sound E op1.Compl (Known j) m hx mx k e =
    let s : Known (unary_of op1.Compl j) ≡ Known k = e in (let t : unary_of op1.Compl j ≡ k = cc
    in sym t ∙ ap (unary_of op1.Compl) mx)
known_alone_sound E op1.Neg (Linear f) m hx mx k e = cc
known_alone_sound E op1.Not (Linear f) m hx mx k e = cc
known_alone_sound E op1.Compl (Linear f) m hx mx k e = cc
known_alone_sound E op1.Neg (Quadratic f g h) m hx mx k e = cc
known_alone_sound E op1.Not (Quadratic f g h) m hx mx k e = cc
known_alone_sound E op1.Compl (Quadratic f g h) m hx mx k e = cc
known_alone_sound E op1.Neg Opaque m hx mx k e = cc
known_alone_sound E op1.Not Opaque m hx mx k e = cc
known_alone_sound E op1.Compl Opaque m hx mx k e = cc

alone_clear : (op : Op1) (x : Value) → class_of (unary_result op x) ≢ Class'.Opaque
    → class_of x ≢ Class'.Opaque
alone_clear op (Known j) h = λ e. cc
alone_clear op (Linear f) h = λ e. cc
alone_clear op (Quadratic f g i) h = λ e. cc
alone_clear op1.Neg Opaque h = absurd (h refl)
alone_clear op1.Not Opaque h = absurd (h refl)
alone_clear op1.Compl Opaque h = absurd (h refl)

pub unary_sound : (E : Assignment → Type 0) (op : Op1) (x : Value) (m : ℕ) → IsValue x → Means E x m
    → Means E (unary_result op x) (unary_of op m)
unary_sound E op x m hx mx =
    means_of E (unary_result op x) (unary_of op m) (λ k e. known_alone_sound E op x m hx mx k e)
    (λ s e c.
    sym (unary_numbers s op x hx c) ∙ ap (unary_of op) (number_at E x m s mx (alone_clear op x c)
    e))
