-- The lazy operators and the choice, on values and on their numbers.
use Rattle.std.proofs.Common.{◌≡◌, ◌≢◌, ℕ, ◌<◌, Bool, true, false, cond, refl, arith}
use Rattle.std.specs.Prelude.{◌==◌}
use Rattle.std.proofs.lemmas.Bool.{ne_eqb}
use Rattle.gold_field.specs.declared.gold.TheConstants.{P}
use Rattle.cir_lc.specs.Number.{Assignment, constant}
use Rattle.cir_meaning.specs.declared.class.Class.TheVariants as Class'
use Rattle.cir_meaning.specs.Values.{Value, Known, Linear, Quadratic, Opaque, IsValue, class_of}
use Rattle.cir_meaning.specs.Values.{number_of, Decided, Right, Shaded, and_left, or_left, truth_of}
use Rattle.cir_meaning.specs.Values.{lazy_result, Side, First, Second, Both, side_of, chosen}
use Rattle.cir_meaning.specs.Values.{truth_number, and_number, or_number, choice_number}

truth_below : (b : Bool) → cond b 0 1 < P
truth_below true = omega arith
truth_below false = omega arith

truth_value : (y : Value) → IsValue (truth_of y)
truth_value (Known k) = truth_below (k == 0)
truth_value (Linear f) = tt
truth_value (Quadratic a b c) = tt
truth_value Opaque = tt

-- ---- what the left side tells

and_value_by : (b : Bool) (y : Value) → IsValue (lazy_result (cond b (Decided 0) Right) y)
and_value_by true y = omega arith
and_value_by false y = truth_value y

or_value_by : (b : Bool) (y : Value) → IsValue (lazy_result (cond b Right (Decided 1)) y)
or_value_by true y = truth_value y
or_value_by false y = omega arith

pub and_value : (x y : Value) → IsValue (lazy_result (and_left x) y)
and_value (Known k) y = and_value_by (k == 0) y
and_value (Linear f) y = tt
and_value (Quadratic a b c) y = tt
and_value Opaque y = tt

pub or_value : (x y : Value) → IsValue (lazy_result (or_left x) y)
or_value (Known k) y = or_value_by (k == 0) y
or_value (Linear f) y = tt
or_value (Quadratic a b c) y = tt
or_value Opaque y = tt

pub and_shaded : (x : Value) → class_of x ≢ Class'.Known → and_left x ≡ Shaded
and_shaded (Known k) h = absurd (h refl)
and_shaded (Linear f) h = refl
and_shaded (Quadratic a b c) h = refl
and_shaded Opaque h = refl

pub or_shaded : (x : Value) → class_of x ≢ Class'.Known → or_left x ≡ Shaded
or_shaded (Known k) h = absurd (h refl)
or_shaded (Linear f) h = refl
or_shaded (Quadratic a b c) h = refl
or_shaded Opaque h = refl

pub or_decided : (k : ℕ) → k ≢ 0 → or_left (Known k) ≡ Decided 1
or_decided k h = rw (ne_eqb k 0 h) refl

pub and_opaque : (x y : Value) → class_of x ≢ Class'.Known → lazy_result (and_left x) y ≡ Opaque
and_opaque x y h = rw (and_shaded x h) refl

pub or_opaque : (x y : Value) → class_of x ≢ Class'.Known → lazy_result (or_left x) y ≡ Opaque
or_opaque x y h = rw (or_shaded x h) refl

pub or_one : (k : ℕ) (y : Value) → k ≢ 0 → lazy_result (or_left (Known k)) y ≡ Known 1
or_one k y h = rw (or_decided k h) refl

pub truth_opaque : (y : Value) → class_of y ≢ Class'.Known → truth_of y ≡ Opaque
truth_opaque (Known k) h = absurd (h refl)
truth_opaque (Linear f) h = refl
truth_opaque (Quadratic a b c) h = refl
truth_opaque Opaque h = refl

pub and_right : (k : ℕ) (y : Value) → k ≢ 0 → class_of y ≢ Class'.Known
    → lazy_result (and_left (Known k)) y ≡ Opaque
and_right k y h g = rw (ne_eqb k 0 h) (truth_opaque y g)

truth_class : (y : Value) → class_of y ≡ Class'.Known → class_of (truth_of y) ≡ Class'.Known
truth_class (Known k) h = refl
truth_class (Linear f) h = cc
truth_class (Quadratic a b c) h = cc
truth_class Opaque h = cc

and_class_by : (b : Bool) (y : Value) → class_of y ≡ Class'.Known
    → class_of (lazy_result (cond b (Decided 0) Right) y) ≡ Class'.Known
and_class_by true y h = refl
and_class_by false y h = truth_class y h

or_class_by : (b : Bool) (y : Value) → class_of y ≡ Class'.Known
    → class_of (lazy_result (cond b Right (Decided 1)) y) ≡ Class'.Known
or_class_by true y h = truth_class y h
or_class_by false y h = refl

pub and_class : (x y : Value) → class_of x ≡ Class'.Known → class_of y ≡ Class'.Known
    → class_of (lazy_result (and_left x) y) ≡ Class'.Known
and_class (Known k) y g h = and_class_by (k == 0) y h
and_class (Linear f) y g h = cc
and_class (Quadratic a b c) y g h = cc
and_class Opaque y g h = cc

pub or_class : (x y : Value) → class_of x ≡ Class'.Known → class_of y ≡ Class'.Known
    → class_of (lazy_result (or_left x) y) ≡ Class'.Known
or_class (Known k) y g h = or_class_by (k == 0) y h
or_class (Linear f) y g h = cc
or_class (Quadratic a b c) y g h = cc
or_class Opaque y g h = cc

module _ (s : Assignment) where
  truth_is : (y : Value) → class_of (truth_of y) ≢ Class'.Opaque
      → number_of (truth_of y) s ≡ truth_number (number_of y s)
  unfolding constant
  truth_is (Known k) h = refl
  truth_is (Linear f) h = absurd (h refl)
  truth_is (Quadratic a b c) h = absurd (h refl)
  truth_is Opaque h = absurd (h refl)

  and_by : (b : Bool) (y : Value) → class_of (lazy_result (cond b (Decided 0) Right) y)
      ≢ Class'.Opaque
      → number_of (lazy_result (cond b (Decided 0) Right) y) s
      ≡ cond b 0 (truth_number (number_of y s))
  unfolding constant
  and_by true y h = refl
  and_by false y h = truth_is y h

  or_by : (b : Bool) (y : Value) → class_of (lazy_result (cond b Right (Decided 1)) y)
      ≢ Class'.Opaque
      → number_of (lazy_result (cond b Right (Decided 1)) y) s
      ≡ cond b (truth_number (number_of y s)) 1
  unfolding constant
  or_by true y h = truth_is y h
  or_by false y h = refl

  pub and_is : (x y : Value) → class_of (lazy_result (and_left x) y) ≢ Class'.Opaque
      → number_of (lazy_result (and_left x) y) s ≡ and_number (number_of x s) (number_of y s)
  unfolding constant
  and_is (Known k) y h = and_by (k == 0) y h
  and_is (Linear f) y h = absurd (h refl)
  and_is (Quadratic a b c) y h = absurd (h refl)
  and_is Opaque y h = absurd (h refl)

  pub or_is : (x y : Value) → class_of (lazy_result (or_left x) y) ≢ Class'.Opaque
      → number_of (lazy_result (or_left x) y) s ≡ or_number (number_of x s) (number_of y s)
  unfolding constant
  or_is (Known k) y h = or_by (k == 0) y h
  or_is (Linear f) y h = absurd (h refl)
  or_is (Quadratic a b c) y h = absurd (h refl)
  or_is Opaque y h = absurd (h refl)

  choice_by : (b : Bool) (x y : Value) → number_of (chosen (cond b Second First) x y) s
      ≡ cond b (number_of y s) (number_of x s)
  choice_by true x y = refl
  choice_by false x y = refl

  pub choice_is : (c x y : Value) → class_of c ≡ Class'.Known
      → number_of (chosen (side_of c) x y) s
      ≡ choice_number (number_of c s) (number_of x s) (number_of y s)
  unfolding constant
  choice_is (Known k) x y h = choice_by (k == 0) x y
  choice_is (Linear f) x y h = cc
  choice_is (Quadratic d e f) x y h = cc
  choice_is Opaque x y h = cc

-- ---- which side a condition chooses

pub both_shaded : (c : Value) → class_of c ≢ Class'.Known → side_of c ≡ Both
both_shaded (Known k) h = absurd (h refl)
both_shaded (Linear f) h = refl
both_shaded (Quadratic a b c) h = refl
both_shaded Opaque h = refl

pub choice_opaque : (c x y : Value) → class_of c ≢ Class'.Known → chosen (side_of c) x y ≡ Opaque
choice_opaque c x y h = rw (both_shaded c h) refl

pub chosen_value : (side : Side) (x y : Value) → IsValue x → IsValue y → IsValue (chosen side x y)
chosen_value First x y v w = v
chosen_value Second x y v w = w
chosen_value Both x y v w = tt
