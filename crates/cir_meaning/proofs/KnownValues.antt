-- In a body without signals, where each variable is known, each expression is.
use Rattle.std.proofs.Common.{◌≡◌, ℕ, ◌%◌, Bool, true, false, ◌&&◌, ◌||◌, cond, List, [], ◌∷◌, ◌++◌}
use Rattle.std.proofs.Common.{map, flat_map, length, replicate, Option, Some, None, refl, sym}
use Rattle.std.proofs.Common.{subst, ◌∙◌}
use Rattle.std.specs.Prelude.{⊤, is_some, ◌==◌}
use Rattle.std.specs.List.{list_all, AllByRecursion}
use Rattle.gold_field.specs.declared.gold.TheConstants.{P}
use Rattle.gold_field.specs.declared.operators.Op1.{Op1}
use Rattle.gold_field.specs.declared.operators.Op1.TheVariants as op1
use Rattle.gold_field.specs.declared.operators.Op2.{Op2}
use Rattle.gold_field.specs.declared.operators.Op2.TheVariants as op2
use Rattle.cir_ast.specs.declared.program.Meant.{Meant}
use Rattle.cir_ast.specs.declared.program.Meant.TheVariants as meant
use Rattle.cir_ast.specs.declared.refusal.Kind.TheVariants.{OutOfBounds, ShapeDiffers, NotInProfile}
use Rattle.cir_ast.specs.declared.refusal.Form.TheVariants.{LiteralPlace}
use Rattle.cir_ast.specs.Tree.{Expr, Number, Place, Call, Anonymous, Parentheses, Array, Unary}
use Rattle.cir_ast.specs.Tree.{Binary, Choice, Exprs, none, more, Accessors, done, index, member}
use Rattle.cir_meaning.specs.declared.class.Class.TheVariants as Class'
use Rattle.cir_meaning.specs.Classes.{class_by, power_class_by}
use Rattle.cir_meaning.specs.SignalFree.{IsFunction, IsFreeExpr, AreFree, AreFreeIndices}
use Rattle.cir_meaning.specs.Tried.{Where, Tried, next, refused, found}
use Rattle.cir_meaning.specs.Places.{elements, left_of, is_inside, followed, all_known, places_of}
use Rattle.cir_meaning.specs.Limits.{is_too_large}
use Rattle.cir_meaning.specs.Arrays.{Datum, Want, Scalar, Whole, Reach, fits, reach, single, made}
use Rattle.cir_meaning.specs.Arrays.{filled, the_item, item_at, is_known, is_all_known, same_dims}
use Rattle.cir_meaning.specs.Arrays.{read_part}
use Rattle.cir_meaning.specs.Values.{Value, Known, Linear, Quadratic, Opaque, Decided, Right, Side}
use Rattle.cir_meaning.specs.Values.{First, Second, Both, class_of, known_number, side_of, chosen}
use Rattle.cir_meaning.specs.Values.{unary_result, result_of, lazy_result, and_left, or_left}
use Rattle.cir_meaning.specs.Values.{truth_of}
use Rattle.cir_meaning.specs.Operators.{Operator, Strict, And, Or, operator_of, unary_of}
use Rattle.cir_meaning.specs.Operators.{left_tells, applied, divided_at, shading, first_shading}
use Rattle.cir_meaning.specs.Operators.{second_shading}
use Rattle.cir_meaning.specs.Frame.{Frame, World, State, Context, Caller, variable_at}
use Rattle.cir_meaning.specs.Reading.{Stored, Named, read_origin}
use Rattle.cir_meaning.specs.Evaluate.{scalar, answered, looked_at, has_literal, gathered}
use Rattle.cir_meaning.specs.Evaluate.{call_known, called, value_in, all_in, read_in}
use Rattle.cir_meaning.proofs.ClassLaws.{classes}
use Rattle.cir_meaning.proofs.Good.{OnGood, good_ok, good_bad, good_next, good_on, good_needed}
use Rattle.cir_meaning.proofs.Good.{good_needed_as, either}
use Rattle.cir_meaning.proofs.Pairs.{good_both}
use Rattle.cir_meaning.proofs.Reaching.{and_true}
use Rattle.cir_meaning.proofs.Rows.{at_or, all_map, all_replicate, all_joined}

abbrev pub KnownValue : Value → Type 0
KnownValue v = is_known v ≡ true

abbrev pub KnownDatum : Datum → Type 0
KnownDatum d = AllByRecursion KnownValue d.items

abbrev pub KnownStore : List Datum → Type 0
KnownStore ds = AllByRecursion KnownDatum ds

abbrev pub KnownAnswer : Datum × State → Type 0
KnownAnswer x = KnownDatum x.0 × KnownStore x.1.frame.variables

abbrev pub CallKnown : Caller → Type 0
CallKnown call =
    (w : Where) (n : ℕ) (ds : List Datum) (world : World) → list_all is_all_known ds ≡ true
    → OnGood (λ x. KnownDatum x.0) (call w n ds world)

and_both : (a b : Bool) → a ≡ true → b ≡ true → (a && b) ≡ true
and_both true b h g = g
and_both false b h g = cc

pub pass_all : {A : Type 0} (test : A → Bool) (xs : List A)
    → AllByRecursion (λ x. test x ≡ true) xs → list_all test xs ≡ true
pass_all test [] h = refl
pass_all test (x ∷ xs) h = and_both (test x) (list_all test xs) h.0 (pass_all test xs h.1)

pub all_pass : {A : Type 0} (test : A → Bool) (xs : List A) → list_all test xs ≡ true
    → AllByRecursion (λ x. test x ≡ true) xs
all_pass test [] h = tt
all_pass test (x ∷ xs) h =
    let both : (test x ≡ true) × (list_all test xs ≡ true) = and_true (test x) _ h in
    (both.0, all_pass test xs both.1)

pub known_all : (ds : List Datum) → KnownStore ds → list_all is_all_known ds ≡ true
known_all [] h = refl
known_all (d ∷ ds) h =
    and_both (is_all_known d) _ (pass_all is_known d.items h.0) (known_all ds h.1)

pub all_known_data : (ds : List Datum) → list_all is_all_known ds ≡ true → KnownStore ds
all_known_data [] h = tt
all_known_data (d ∷ ds) h =
    let both : (is_all_known d ≡ true) × (list_all is_all_known ds ≡ true) = and_true
    (is_all_known d) _ h in
    (all_pass is_known d.items both.0, all_known_data ds both.1)

pub the_known : (v : Value) → KnownValue v → (n : ℕ) × (v ≡ Known n)
the_known (Known n) h = (n, refl)
the_known (Linear f) h = cc
the_known (Quadratic a b c) h = cc
the_known Opaque h = cc

pub known_item : (d : Datum) → KnownDatum d → KnownValue (the_item d)
known_item d h = at_or KnownValue d.items 0 (Known 0) h refl

pub known_variable : (f : Frame) (n : ℕ) → KnownStore f.variables → KnownDatum (variable_at f n)
known_variable f n h = at_or KnownDatum f.variables n (single (Known 0)) h (refl, tt)

known_made : (dims : List ℕ) (items : List Value) → AllByRecursion KnownValue items
    → KnownDatum (made dims items)
known_made dims items h =
    either (AllByRecursion KnownValue) (is_too_large dims) [] items tt h

pub known_filled : (dims : List ℕ) → KnownDatum (filled dims (Known 0))
known_filled dims =
    either (AllByRecursion KnownValue) (is_too_large dims) [] (replicate (elements dims) (Known 0))
    tt (all_replicate KnownValue (elements dims) (Known 0) refl)

known_part : (r : Reach) (item : ℕ → Value) → r.is_sure ≡ true → ((k : ℕ) → KnownValue (item k))
    → KnownDatum (read_part r item)
known_part r item e h =
    subst (λ b. KnownDatum (cond b (made r.left (map item r.places)) (filled r.left Opaque)))
    (sym e) (known_made r.left (map item r.places) (all_map KnownValue item r.places h))

-- indices that are known reach one part
abbrev pub AreSure : List (Option ℕ) → Type 0
AreSure os = is_some (all_known os) ≡ true

pub sure_more : (os : List (Option ℕ)) (n : ℕ) → AreSure os → AreSure (os ++ Some n ∷ [])
sure_more [] n h = refl
sure_more (None ∷ os) n h = cc
sure_more (Some m ∷ os) n h =
    followed_more m (all_known (os ++ Some n ∷ [])) (sure_more os n (followed_some m (all_known os)
    h))
  where
    followed_some : (m : ℕ) (o : Option (List ℕ)) → is_some (followed m o) ≡ true
        → is_some o ≡ true
    followed_some m None h = h
    followed_some m (Some is) h = refl

    followed_more : (m : ℕ) (o : Option (List ℕ)) → is_some o ≡ true
        → is_some (followed m o) ≡ true
    followed_more m None h = h
    followed_more m (Some is) h = refl

abbrev pub IsSure : Reach → Type 0
IsSure r = r.is_sure ≡ true

pub reach_sure : (w : Where) (want : Want) (dims : List ℕ) (os : List (Option ℕ)) → AreSure os
    → OnGood (λ r. r.is_sure ≡ true) (reach w false want dims os)
reach_sure w want dims os h =
    good_on (λ r. r.is_sure ≡ true) (found w ShapeDiffers (left_of dims os)) _ (λ left.
    good_needed_as (λ r. r.is_sure ≡ true) (is_inside dims os || false) w OutOfBounds _ (λ e.
    good_needed (λ r. r.is_sure ≡ true) (fits want left) w ShapeDiffers _
    (good_ok (λ r. r.is_sure ≡ true) _ (at left (is_inside dims os) e))))
  where
    at : (left : List ℕ) (b : Bool) → (b || false) ≡ true
        → IsSure (cond b record {
          left = left;
          is_sure = is_some (all_known os);
          places = places_of dims os;
        } record { left = left; is_sure = false; places = [] })
    at left true e = h
    at left false e = cc

-- operators
known_unary : (op : Op1) (v : Value) → KnownValue v → KnownValue (unary_result op v)
known_unary op1.Neg (Known n) h = refl
known_unary op1.Not (Known n) h = refl
known_unary op1.Compl (Known n) h = refl
known_unary op (Linear f) h = cc
known_unary op (Quadratic a b c) h = cc
known_unary op Opaque h = cc

class_known : (v : Value) → class_of v ≡ Class'.Known → KnownValue v
class_known (Known n) h = refl
class_known (Linear f) h = cc
class_known (Quadratic a b c) h = cc
class_known Opaque h = cc

powers_known : (e : ℕ) → power_class_by Class'.Known e ≡ Class'.Known
powers_known e = at (e == 0) (e == 1) (e == 2)
  where
    at : (a b c : Bool)
        → cond a Class'.Known (cond b Class'.Known (cond c Class'.Known Class'.Known))
        ≡ Class'.Known
    at true b c = refl
    at false true c = refl
    at false false true = refl
    at false false false = refl

known_class : (op : Op2) (e : ℕ) → class_by op Class'.Known Class'.Known (Some e) ≡ Class'.Known
known_class op2.Add e = refl
known_class op2.Sub e = refl
known_class op2.Mul e = refl
known_class op2.Div e = refl
known_class op2.Quot e = refl
known_class op2.Rem e = refl
known_class op2.Pow e = powers_known e
known_class op2.Shl e = refl
known_class op2.Shr e = refl
known_class op2.And e = refl
known_class op2.Xor e = refl
known_class op2.Or e = refl
known_class op2.Lt e = refl
known_class op2.Le e = refl
known_class op2.Gt e = refl
known_class op2.Ge e = refl
known_class op2.Eq e = refl
known_class op2.Ne e = refl

known_result : (w : Where) (op : Op2) (m n : ℕ) (o : Option Value)
    → result_of op (Known m) (Known n) ≡ o → OnGood KnownValue (divided_at w false o)
known_result w op m n (Some v) e =
    good_ok KnownValue v
    (class_known v (classes op (Known m) (Known n) v e ∙ known_class op n))
known_result w op m n None e = good_bad KnownValue _

known_truth : (v : Value) → KnownValue v → KnownValue (truth_of v)
known_truth (Known n) h = refl
known_truth (Linear f) h = cc
known_truth (Quadratic a b c) h = cc
known_truth Opaque h = cc

known_and : (m : ℕ) (v : Value) → KnownValue v → KnownValue (lazy_result (and_left (Known m)) v)
known_and m v h = at (m == 0)
  where
    at : (b : Bool) → KnownValue (lazy_result (cond b (Decided 0) Right) v)
    at true = refl
    at false = known_truth v h

known_or : (m : ℕ) (v : Value) → KnownValue v → KnownValue (lazy_result (or_left (Known m)) v)
known_or m v h = at (m == 0)
  where
    at : (b : Bool) → KnownValue (lazy_result (cond b Right (Decided 1)) v)
    at true = known_truth v h
    at false = refl

known_applied : (w : Where) (op : Operator) (m : ℕ) (v : Value) → KnownValue v
    → OnGood KnownValue (applied w false op (Known m) v)
known_applied w (Strict op) m v h =
    let right : (n : ℕ) × (v ≡ Known n) = the_known v h in
    subst (λ y. OnGood KnownValue (divided_at w false (result_of op (Known m) y))) (sym right.1)
    (known_result w op m right.0 (result_of op (Known m) (Known right.0)) refl)
known_applied w And m v h = good_ok KnownValue _ (known_and m v h)
known_applied w Or m v h = good_ok KnownValue _ (known_or m v h)

-- no operand is shaded
abbrev IsLight : Option Bool → Type 0
IsLight None = ⊤
IsLight (Some dark) = dark ≡ false

light_operator : (op : Operator) (m : ℕ) → IsLight (shading (left_tells op (Known m)) false)
light_operator (Strict op) m = refl
light_operator And m = at (m == 0)
  where
    at : (b : Bool) → IsLight (shading (cond b (Decided 0) Right) false)
    at true = tt
    at false = refl
light_operator Or m = at (m == 0)
  where
    at : (b : Bool) → IsLight (shading (cond b Right (Decided 1)) false)
    at true = refl
    at false = tt

abbrev IsOne : Side → Type 0
IsOne First = ⊤
IsOne Second = ⊤
IsOne Both = ⊥

one_side : (m : ℕ) → IsOne (side_of (Known m))
one_side m = at (m == 0)
  where
    at : (b : Bool) → IsOne (cond b Second First)
    at true = tt
    at false = tt

light_first : (side : Side) → IsOne side → IsLight (first_shading side false)
light_first First h = refl
light_first Second h = tt
light_first Both h = absurd h

light_second : (side : Side) → IsOne side → IsLight (second_shading side false)
light_second First h = tt
light_second Second h = refl
light_second Both h = absurd h

known_chosen : (side : Side) (x y : Value) → IsOne side → KnownValue x → KnownValue y
    → KnownValue (chosen side x y)
known_chosen First x y o h g = h
known_chosen Second x y o h g = g
known_chosen Both x y o h g = absurd o

pub known_scalar : {A : Type 0} (Q : A → Type 0) (m : Tried (Datum × State))
    (go : Value → State → Tried A) → OnGood KnownAnswer m
    → ((n : ℕ) (s : State) → KnownStore s.frame.variables → OnGood Q (go (Known n) s))
    → OnGood Q (scalar m go)
known_scalar Q m go h g =
    good_next KnownAnswer Q m (λ (d, s). go (the_item d) s) h (λ x p.
    let one : (n : ℕ) × (the_item x.0 ≡ Known n) = the_known (the_item x.0) (known_item x.0 p.0) in
    subst (λ v. OnGood Q (go v x.1)) (sym one.1) (g one.0 x.1 p.1))

light_looked : {A : Type 0} (Q : A → Type 0) (o : Option Bool) (s : State)
    (value : Bool → Tried (Datum × State)) (go : Value → State → Tried A) → IsLight o
    → KnownStore s.frame.variables → OnGood KnownAnswer (value false)
    → ((n : ℕ) (s : State) → KnownStore s.frame.variables → OnGood Q (go (Known n) s))
    → OnGood Q (looked_at o s value go)
light_looked Q None s value go l k h g = g 0 s k
light_looked Q (Some dark) s value go l k h g =
    known_scalar Q (value dark) go (subst (λ b. OnGood KnownAnswer (value b)) (sym l) h) g

known_answered : (v : Value) (s : State) → KnownValue v → KnownStore s.frame.variables
    → OnGood KnownAnswer (answered v s)
known_answered v s h k = good_ok KnownAnswer _ ((h, tt), k)

abbrev KnownAnswers : List Datum × State → Type 0
KnownAnswers x = KnownStore x.0 × KnownStore x.1.frame.variables

abbrev IsFull : List Datum × State → Type 0
IsFull ([], s) = ⊥
IsFull (d ∷ ds, s) = ⊤

known_gathered : (w : Where) (ds : List Datum) (s : State) → KnownStore ds
    → KnownStore s.frame.variables → IsFull (ds, s) → OnGood KnownAnswer (gathered w ds s)
known_gathered w [] s h k f = absurd f
known_gathered w (d ∷ ds) s h k f =
    good_needed KnownAnswer (list_all (λ e. same_dims e.dims d.dims) ds) w ShapeDiffers _
    (good_ok KnownAnswer _ (
      known_made (length (d ∷ ds) ∷ d.dims) (flat_map (λ e. e.items) (d ∷ ds))
          (all_joined KnownValue (λ e. e.items) (d ∷ ds) h),
      k,
    ))

module _ (k : Context) (calls : CallKnown k.call) (functions : ℕ) where
  known_call : (w : Where) (want : Want) (m : Meant) (ds : List Datum) (s : State)
      → IsFunction functions m → KnownStore ds → KnownStore s.frame.variables
      → OnGood KnownAnswer (call_known k w want m ds s)
  known_call w want (meant.Function f) ds s is h g =
      good_next (λ x. KnownDatum x.0) KnownAnswer (k.call w f ds s.world) _
      (calls w f ds s.world (known_all ds h)) (λ x p.
      good_needed KnownAnswer (fits want x.0.dims) w ShapeDiffers _ (good_ok KnownAnswer _ (p, g)))
  known_call w want meant.Other ds s is h g = absurd is
  known_call w want (meant.Variable n) ds s is h g = absurd is
  known_call w want (meant.Signal direction n) ds s is h g = absurd is
  known_call w want (meant.Component n) ds s is h g = absurd is
  known_call w want (meant.Template n) ds s is h g = absurd is

  known_called : (w : Where) (want : Want) (m : Meant) (arguments : Exprs Meant) (ds : List Datum)
      (s : State) → IsFunction functions m → KnownStore ds → KnownStore s.frame.variables
      → OnGood KnownAnswer (called k w want m arguments ds s)
  known_called w want m arguments ds s is h g =
      subst (λ b. OnGood KnownAnswer (cond b (call_known k w want m ds s)
      (cond (has_literal arguments) (refused w (NotInProfile LiteralPlace)) (answered Opaque s))))
      (sym (known_all ds h)) (known_call w want m ds s is h g)

  mutual
    pub known_value : (w : Where) (want : Want) (e : Expr Meant) (s : State)
        → IsFreeExpr functions e → KnownStore s.frame.variables
        → OnGood KnownAnswer (value_in k w false want e s)
    known_value w want (Number n) s is g = known_answered (Known (n % P)) s refl g
    known_value w want (Place name (meant.Variable n) accessors) s is g =
        known_read w want n [] accessors s is.1 refl g
    known_value w want (Place name meant.Other accessors) s is g = absurd is.0
    known_value w want (Place name (meant.Signal direction n) accessors) s is g = absurd is.0
    known_value w want (Place name (meant.Component n) accessors) s is g = absurd is.0
    known_value w want (Place name (meant.Template n) accessors) s is g = absurd is.0
    known_value w want (Place name (meant.Function n) accessors) s is g = absurd is.0
    known_value w want (Call parallel name m arguments) s is g =
        good_next KnownAnswers KnownAnswer (all_in k w false arguments s) _
        (known_values w arguments s is.1 g)
        (λ x p. known_called w want m arguments x.0 x.1 is.0 p.0 p.1)
    known_value w want (Anonymous parallel name m arguments inputs) s is g = absurd is
    known_value w want (Parentheses e) s is g = known_value w want e s is g
    known_value w Scalar (Array items) s is g = good_bad KnownAnswer _
    known_value w Whole (Array none) s is g = absurd is
    known_value w Whole (Array (more e es)) s is g =
        good_next (λ x. KnownAnswers x × IsFull x) KnownAnswer (all_in k w false (more e es) s) _
        (good_both KnownAnswers IsFull (all_in k w false (more e es) s)
        (good_next KnownAnswer KnownAnswers (value_in k w false Whole e s) _
        (known_value w Whole e s is.0 g) (λ x p.
        good_next KnownAnswers KnownAnswers (all_in k w false es x.1) _
        (known_values w es x.1 is.1 p.1)
        (λ y q. good_ok KnownAnswers (x.0 ∷ y.0, y.1) ((p.0, q.0), q.1))))
        (good_on IsFull (value_in k w false Whole e s) _ (λ x.
        good_on IsFull (all_in k w false es x.1) _ (λ y. good_ok IsFull (x.0 ∷ y.0, y.1) tt))))
        (λ x p. known_gathered w x.0 x.1 p.0.0 p.0.1 p.1)
    known_value w want (Unary op a) s is g =
        known_scalar KnownAnswer (value_in k w false Scalar a s)
        (λ v s1. answered (unary_result (unary_of op) v) s1) (known_value w Scalar a s is g)
        (λ n s1 g1. known_answered (unary_result (unary_of op) (Known n)) s1
        (known_unary (unary_of op) (Known n) refl) g1)
    known_value w want (Binary op a b) s is g =
        known_scalar KnownAnswer (value_in k w false Scalar a s) (λ x s1.
        looked_at (shading (left_tells (operator_of op) x) false) s1
        (λ dark. value_in k w dark Scalar b s1) (λ y s2.
        next (applied w false (operator_of op) x y) (λ v. answered v s2)))
        (known_value w Scalar a s is.0 g) (λ m s1 g1.
        light_looked KnownAnswer (shading (left_tells (operator_of op) (Known m)) false) s1
        (λ dark. value_in k w dark Scalar b s1) (λ y s2.
        next (applied w false (operator_of op) (Known m) y) (λ v. answered v s2))
        (light_operator (operator_of op) m) g1 (known_value w Scalar b s1 is.1 g1) (λ n s2 g2.
        good_next KnownValue KnownAnswer (applied w false (operator_of op) (Known m) (Known n)) _
        (known_applied w (operator_of op) m (Known n) refl)
        (λ v h. known_answered v s2 h g2)))
    known_value w want (Choice c a b) s is g =
        known_scalar KnownAnswer (value_in k w false Scalar c s) (λ x s1.
        looked_at (first_shading (side_of x) false) s1 (λ dark. value_in k w dark Scalar a s1)
        (λ y s2.
        looked_at (second_shading (side_of x) false) s2 (λ dark. value_in k w dark Scalar b s2)
        (λ z s3. answered (chosen (side_of x) y z) s3)))
        (known_value w Scalar c s is.0 g) (λ m s1 g1.
        light_looked KnownAnswer (first_shading (side_of (Known m)) false) s1
        (λ dark. value_in k w dark Scalar a s1) (λ y s2.
        looked_at (second_shading (side_of (Known m)) false) s2
        (λ dark. value_in k w dark Scalar b s2)
        (λ z s3. answered (chosen (side_of (Known m)) y z) s3))
        (light_first (side_of (Known m)) (one_side m)) g1 (known_value w Scalar a s1 is.1 g1)
        (λ i s2 g2.
        light_looked KnownAnswer (second_shading (side_of (Known m)) false) s2
        (λ dark. value_in k w dark Scalar b s2)
        (λ z s3. answered (chosen (side_of (Known m)) (Known i) z) s3)
        (light_second (side_of (Known m)) (one_side m)) g2 (known_value w Scalar b s2 is.2 g2)
        (λ j s3 g3. known_answered (chosen (side_of (Known m)) (Known i) (Known j)) s3
        (known_chosen (side_of (Known m)) (Known i) (Known j) (one_side m) refl refl) g3)))

    known_values : (w : Where) (es : Exprs Meant) (s : State) → AreFree functions es
        → KnownStore s.frame.variables → OnGood KnownAnswers (all_in k w false es s)
    known_values w none s is g = good_ok KnownAnswers _ (tt, g)
    known_values w (more e es) s is g =
        good_next KnownAnswer KnownAnswers (value_in k w false Whole e s) _
        (known_value w Whole e s is.0 g) (λ x p.
        good_next KnownAnswers KnownAnswers (all_in k w false es x.1) _
        (known_values w es x.1 is.1 p.1)
        (λ y q. good_ok KnownAnswers (x.0 ∷ y.0, y.1) ((p.0, q.0), q.1)))

    known_read : (w : Where) (want : Want) (n : ℕ) (os : List (Option ℕ))
        (accessors : Accessors Meant) (s : State) → AreFreeIndices functions accessors → AreSure os
        → KnownStore s.frame.variables
        → OnGood KnownAnswer (read_in k w false want (Named (meant.Variable n)) os accessors s)
    known_read w want n os done s is sure g =
        good_next KnownDatum KnownAnswer (read_origin w false want os (Stored
        (variable_at s.frame n))) _
        (good_next (λ r. r.is_sure ≡ true) KnownDatum
        (reach w false want (variable_at s.frame n).dims os) _
        (reach_sure w want (variable_at s.frame n).dims os sure) (λ r e.
        good_ok KnownDatum _ (known_part r (item_at (variable_at s.frame n).items) e
        (λ j. at_or KnownValue (variable_at s.frame n).items j (Known 0)
        (known_variable s.frame n g) refl))))
        (λ d h. good_ok KnownAnswer (d, s) (h, g))
    known_read w want n os (index e rest) s is sure g =
        known_scalar KnownAnswer (value_in k w false Scalar e s) (λ v s1.
        read_in k w false want (Named (meant.Variable n)) (os ++ known_number v ∷ []) rest s1)
        (known_value w Scalar e s is.0 g)
        (λ i s1 g1. known_read w want n (os ++ Some i ∷ []) rest s1 is.1 (sure_more os i sure) g1)
    known_read w want n os (member name rest) s is sure g = absurd is
