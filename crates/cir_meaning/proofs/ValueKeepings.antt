-- What calls of functions and counts of arrays keep, the evaluation of an expression keeps; and
-- what that keeps, dimensions, indices, assignments and creations keep.
use Rattle.std.proofs.Common.{ℕ, Bool, false, List, [], ◌∷◌, ◌++◌, length, Option, Some, None}
use Rattle.std.specs.Prelude.{⊤}
use Rattle.std.specs.List.{list_all}
use Rattle.cir_ast.specs.declared.program.Meant.{Meant}
use Rattle.cir_ast.specs.declared.program.Meant.TheVariants as meant
use Rattle.cir_ast.specs.declared.refusal.Kind.TheVariants.{ShapeDiffers, ReadBeforeWrite}
use Rattle.cir_ast.specs.declared.refusal.Kind.TheVariants.{UnknownIndex, WrongKind}
use Rattle.cir_ast.specs.Tree.{Expr, Number, Place, Call, Anonymous, Parentheses, Array, Unary}
use Rattle.cir_ast.specs.Tree.{Binary, Choice, Exprs, none, more, Accessors, done, index, member}
use Rattle.cir_meaning.specs.Tried.{Where, Tried, found}
use Rattle.cir_meaning.specs.Places.{all_known}
use Rattle.cir_meaning.specs.Arrays.{reach, Datum, Want, Scalar, Whole, fits, the_item}
use Rattle.cir_meaning.specs.Arrays.{is_all_known, same_dims}
use Rattle.cir_meaning.specs.Values.{unary_result, chosen, Value, Opaque, Known, known_number}
use Rattle.cir_meaning.specs.Values.{side_of}
use Rattle.cir_meaning.specs.Operators.{unary_of, operator_of, left_tells, applied, shading}
use Rattle.cir_meaning.specs.Operators.{first_shading, second_shading}
use Rattle.cir_meaning.specs.Limits.{with_array}
use Rattle.cir_meaning.specs.Frame.{State, Context, adding, is_input, entry_at, variable_at}
use Rattle.cir_meaning.specs.Reading.{Root, Named, Found, read_origin, origin_of, inner_origin}
use Rattle.cir_meaning.specs.Reading.{part_at, named_signal}
use Rattle.cir_meaning.specs.Evaluate.{scalar, answered, looked_at, has_literal, gathered}
use Rattle.cir_meaning.specs.Evaluate.{call_known, called, value_in, all_in, read_in, arguments_in}
use Rattle.cir_meaning.specs.Evaluate.{dims_in, indices_in}
use Rattle.cir_meaning.specs.Writing.{variable_assignment, signals_of, targeted, target_at}
use Rattle.cir_meaning.specs.Writing.{target_in, signal_assignment}
use Rattle.cir_meaning.specs.Declaring.{creation, template_call}
use Rattle.cir_meaning.proofs.Good.{OnGood, good_ok, good_bad, good_next, good_on, good_needed}
use Rattle.cir_meaning.proofs.Good.{good_any, either}

-- what evaluation keeps
abbrev pub Valued : Context → (State → Type 0) → Bool → Type 0
Valued k Q shaded =
    (w : Where) (want : Want) (e : Expr Meant) (s : State) → Q s
    → OnGood (λ x. Q x.1) (value_in k w shaded want e s)

module _ (k : Context) (Q : State → Type 0) (shaded : Bool) (value : Valued k Q shaded) where
  pub scalar_kept : {A : Type 0} (R : A → Type 0) (w : Where) (e : Expr Meant) (s : State)
      (go : Value → State → Tried A) → Q s
      → ((v : Value) (s1 : State) → Q s1 → OnGood R (go v s1))
      → OnGood R (scalar (value_in k w shaded Scalar e s) go)
  scalar_kept R w e s go h f =
      good_next (λ x. Q x.1) R (value_in k w shaded Scalar e s)
      (λ (d, s1). go (the_item d) s1) (value w Scalar e s h) (λ x g. f (the_item x.0) x.1 g)

  pub dims_kept : (w : Where) (es : Exprs Meant) (s : State) → Q s
      → OnGood (λ x. Q x.1) (dims_in k w shaded es s)
  dims_kept w none s h = good_ok (λ x. Q x.1) ([], s) h
  dims_kept w (more e es) s h =
      scalar_kept (λ x. Q x.1) w e s _ h (λ x s1 f.
      good_on (λ x. Q x.1) (found w UnknownIndex (known_number x)) _ (λ n.
      good_next (λ x. Q x.1) (λ x. Q x.1) (dims_in k w shaded es s1) _ (dims_kept w es s1 f)
      (λ y g. good_ok (λ x. Q x.1) (n ∷ y.0, y.1) g)))

  pub indices_kept : {A : Type 0} (R : A → Type 0) (w : Where) (indices : List (Option ℕ))
      (accessors : Accessors Meant) (s : State)
      (go : List (Option ℕ) → Accessors Meant → State → Tried A) → Q s
      → ((indices : List (Option ℕ)) (rest : Accessors Meant) (s : State) → Q s
      → OnGood R (go indices rest s)) → OnGood R (indices_in k w shaded indices accessors s go)
  indices_kept R w indices done s go h g = g indices done s h
  indices_kept R w indices (member name rest) s go h g = g indices (member name rest) s h
  indices_kept R w indices (index e rest) s go h g =
      scalar_kept R w e s _ h (λ x s1 f.
      indices_kept R w (indices ++ known_number x ∷ []) rest s1 go f g)

-- where nothing is asked
pub indices_any : {A : Type 0} (R : A → Type 0) (k : Context) (w : Where) (shaded : Bool)
    (indices : List (Option ℕ)) (accessors : Accessors Meant) (s : State)
    (go : List (Option ℕ) → Accessors Meant → State → Tried A)
    → ((indices : List (Option ℕ)) (rest : Accessors Meant) (s : State)
    → OnGood R (go indices rest s)) → OnGood R (indices_in k w shaded indices accessors s go)
indices_any R k w shaded indices accessors s go f =
    indices_kept k (λ s. ⊤) shaded (λ w want e s u. good_any (value_in k w shaded want e s)) R w
    indices accessors s go tt (λ indices rest s u. f indices rest s)

module _ (P : State → Type 0) where
  abbrev pub Stays : {A : Type 0} → A × State → Type 0
  Stays x = P x.1

  scalar_keeps : {A : Type 0} (Q : A → Type 0) (m : Tried (Datum × State))
      (go : Value → State → Tried A)
      → OnGood Stays m → ((v : Value) (s : State) → P s → OnGood Q (go v s)) → OnGood Q
      (scalar m go)
  scalar_keeps Q m go h g =
      good_next Stays Q m (λ (d, s). go (the_item d) s) h (λ x p. g (the_item x.0) x.1 p)

  looked_keeps : {A : Type 0} (Q : A → Type 0) (o : Option Bool) (s : State)
      (value : Bool → Tried (Datum × State))
      (go : Value → State → Tried A) → P s → ((dark : Bool) → OnGood Stays (value dark))
      → ((v : Value) (s : State) → P s → OnGood Q (go v s)) → OnGood Q (looked_at o s value go)
  looked_keeps Q None s value go l h g = g (Known 0) s l
  looked_keeps Q (Some dark) s value go l h g = scalar_keeps Q (value dark) go (h dark) g

  answered_keeps : (v : Value) (s : State) → P s → OnGood Stays (answered v s)
  answered_keeps v s l = good_ok Stays _ l

  module _ (k : Context)
      (array : (dims : List ℕ) (s : State) → P s → P (adding (with_array dims) s))
      (calls : (w : Where) (n : ℕ) (ds : List Datum) (s : State) → P s
      → OnGood (λ x. P (record s { world = x.1 })) (k.call w n ds s.world)) where
    call_keeps : (w : Where) (want : Want) (m : Meant) (ds : List Datum) (s : State) → P s
        → OnGood Stays (call_known k w want m ds s)
    call_keeps w want (meant.Function n) ds s l =
        good_next (λ x. P (record s { world = x.1 })) Stays (k.call w n ds s.world) _
        (calls w n ds s l) (λ x p.
        good_needed Stays (fits want x.0.dims) w ShapeDiffers _ (good_ok Stays _ p))
    call_keeps w want meant.Other ds s l = good_bad Stays _
    call_keeps w want (meant.Variable n) ds s l = good_bad Stays _
    call_keeps w want (meant.Signal direction n) ds s l = good_bad Stays _
    call_keeps w want (meant.Component n) ds s l = good_bad Stays _
    call_keeps w want (meant.Template n) ds s l = good_bad Stays _

    called_keeps : (w : Where) (want : Want) (m : Meant) (arguments : Exprs Meant) (ds : List Datum)
        (s : State)
        → P s
        → OnGood Stays (called k w want m arguments ds s)
    called_keeps w want m arguments ds s l =
        either (OnGood Stays) (list_all is_all_known ds) (call_known k w want m ds s) _
        (call_keeps w want m ds s l)
        (either (OnGood Stays) (has_literal arguments) _ (answered Opaque s) (good_bad Stays _)
        (answered_keeps Opaque s l))

    gathered_keeps : (w : Where) (ds : List Datum) (s : State) → P s
        → OnGood Stays (gathered w ds s)
    gathered_keeps w [] s l = answered_keeps Opaque s l
    gathered_keeps w (d ∷ ds) s l =
        good_needed Stays (list_all (λ e. same_dims e.dims d.dims) ds) w ShapeDiffers _
        (good_ok Stays _ (array (length (d ∷ ds) ∷ d.dims) s l))

    mutual
      pub value_keeps : (w : Where) (shaded : Bool) (want : Want) (e : Expr Meant) (s : State)
          → P s
          → OnGood Stays (value_in k w shaded want e s)
      value_keeps w shaded want (Number n) s l = answered_keeps (Known _) s l
      value_keeps w shaded want (Place name m accessors) s l =
          read_keeps w shaded want (Named m) [] accessors s l
      value_keeps w shaded want (Call parallel name m arguments) s l =
          good_next Stays Stays (all_in k w shaded arguments s) _ (all_keeps w shaded arguments s l)
          (λ x p. called_keeps w want m arguments x.0 x.1 p)
      value_keeps w shaded want (Anonymous parallel name m arguments inputs) s l = good_bad Stays _
      value_keeps w shaded want (Parentheses e) s l = value_keeps w shaded want e s l
      value_keeps w shaded Scalar (Array items) s l = good_bad Stays _
      value_keeps w shaded Whole (Array items) s l =
          good_next Stays Stays (all_in k w shaded items s) _ (all_keeps w shaded items s l)
          (λ x p. gathered_keeps w x.0 x.1 p)
      value_keeps w shaded want (Unary op a) s l =
          scalar_keeps Stays (value_in k w shaded Scalar a s) _ (value_keeps w shaded Scalar a s l)
          (λ x s1 l1. answered_keeps (unary_result (unary_of op) x) s1 l1)
      value_keeps w shaded want (Binary op a b) s l =
          scalar_keeps Stays (value_in k w shaded Scalar a s) _ (value_keeps w shaded Scalar a s l)
          (λ x s1 l1.
          looked_keeps Stays (shading (left_tells (operator_of op) x) shaded) s1 _ _ l1
          (λ dark. value_keeps w dark Scalar b s1 l1) (λ y s2 l2.
          good_on Stays (applied w shaded (operator_of op) x y) _ (λ v. answered_keeps v s2 l2)))
      value_keeps w shaded want (Choice c a b) s l =
          scalar_keeps Stays (value_in k w shaded Scalar c s) _ (value_keeps w shaded Scalar c s l)
          (λ x s1 l1.
          looked_keeps Stays (first_shading (side_of x) shaded) s1 _ _ l1
          (λ dark. value_keeps w dark Scalar a s1 l1) (λ y s2 l2.
          looked_keeps Stays (second_shading (side_of x) shaded) s2 _ _ l2
          (λ dark. value_keeps w dark Scalar b s2 l2) (λ z s3 l3.
          answered_keeps (chosen (side_of x) y z) s3 l3)))

      pub all_keeps : (w : Where) (shaded : Bool) (es : Exprs Meant) (s : State) → P s
          → OnGood Stays (all_in k w shaded es s)
      all_keeps w shaded none s l = good_ok Stays _ l
      all_keeps w shaded (more e es) s l =
          good_next Stays Stays (value_in k w shaded Whole e s) _ (value_keeps w shaded Whole e s l)
          (λ x p.
          good_next Stays Stays (all_in k w shaded es x.1) _ (all_keeps w shaded es x.1 p)
          (λ y q. good_ok Stays (x.0 ∷ y.0, y.1) q))

      read_keeps : (w : Where) (shaded : Bool) (want : Want) (root : Root)
          (indices : List (Option ℕ)) (accessors : Accessors Meant)
          (s : State) → P s → OnGood Stays (read_in k w shaded want root indices accessors s)
      read_keeps w shaded want root indices done s l =
          good_on Stays (origin_of w root s.frame) _ (λ source.
          good_on Stays (read_origin w shaded want indices source) _ (λ d. good_ok Stays (d, s) l))
      read_keeps w shaded want root indices (index e rest) s l =
          scalar_keeps Stays (value_in k w shaded Scalar e s) _ (value_keeps w shaded Scalar e s l)
          (λ x s1 l1. read_keeps w shaded want root (indices ++ known_number x ∷ []) rest s1 l1)
      read_keeps w shaded want root indices (member name rest) s l =
          good_on Stays (inner_origin w shaded root indices name s.frame) _
          (λ source. read_keeps w shaded want (Found source) [] rest s l)

-- what assignments, targets, arguments and creations stand on
abbrev Behind : (State → Type 0) → {A : Type 0} → A × State → Type 0
Behind P x = P x.1

pub template_call_good : {A : Type 0} (Q : A → Type 0) (w : Where) (e : Expr Meant)
    (go : ℕ → Exprs Meant → Tried A)
    → ((t : ℕ) (arguments : Exprs Meant) → OnGood Q (go t arguments))
    → OnGood Q (template_call w e go)
template_call_good Q w (Parentheses e) go h = template_call_good Q w e go h
template_call_good Q w (Call parallel name (meant.Template t) arguments) go h = h t arguments
template_call_good Q w _ go h = good_bad Q _

module _ (k : Context) (P : State → Type 0) (value : Valued k P false) where
  pub assignment_kept : (w : Where) (n : ℕ) (accessors : Accessors Meant) (e : Expr Meant)
      (s : State) → P s
      → OnGood (λ a. P a.state) (variable_assignment k w n accessors e s)
  assignment_kept w n accessors e s l =
      good_next (Behind P) (λ a. P a.state) (value_in k w false Whole e s) _
      (value w Whole e s l) (λ x p.
      indices_kept k P false value (λ a. P a.state) w [] accessors x.1 _ p (λ indices rest s2 l2.
      good_on (λ a. P a.state) (reach w false Whole (variable_at s2.frame n).dims indices) _ (λ r.
      good_needed (λ a. P a.state) (same_dims r.left x.0.dims) w ShapeDiffers _
      (good_ok (λ a. P a.state) _ l2))))

  target_at_kept : (w : Where) (n : ℕ) (indices : List (Option ℕ)) (rest : Accessors Meant)
      (s : State) → P s → OnGood (Behind P) (target_at k w n indices rest s)
  target_at_kept w n indices (member name rest) s g =
      good_on (Behind P) (part_at w false n indices s.frame) _ (λ j.
      good_on (Behind P) (named_signal w name (signals_of j s.frame)) _ (λ x.
      good_needed (Behind P) (is_input x.1.direction) w WrongKind _
      (indices_kept k P false value (Behind P) w [] rest s _ g (λ inner more_rest s1 g1.
      good_on (Behind P) (targeted w j x.0 x.1 inner) _ (λ t. good_ok (Behind P) (t, s1) g1)))))
  target_at_kept w n indices done s g = good_bad (Behind P) _
  target_at_kept w n indices (index e rest) s g = good_bad (Behind P) _

  pub target_kept : (w : Where) (m : Meant) (accessors : Accessors Meant) (s : State) → P s
      → OnGood (Behind P) (target_in k w m accessors s)
  target_kept w (meant.Signal direction n) accessors s g =
      indices_kept k P false value (Behind P) w [] accessors s _ g (λ indices rest s1 g1.
      good_on (Behind P) (found w ReadBeforeWrite (entry_at s1.frame.signals n)) _ (λ e.
      good_on (Behind P) (targeted w None n e indices) _ (λ t. good_ok (Behind P) (t, s1) g1)))
  target_kept w (meant.Component n) accessors s g =
      indices_kept k P false value (Behind P) w [] accessors s (target_at k w n) g
      (target_at_kept w n)
  target_kept w meant.Other accessors s g = good_bad (Behind P) _
  target_kept w (meant.Variable n) accessors s g = good_bad (Behind P) _
  target_kept w (meant.Template n) accessors s g = good_bad (Behind P) _
  target_kept w (meant.Function n) accessors s g = good_bad (Behind P) _

  pub signal_assignment_kept : (w : Where) (m : Meant) (accessors : Accessors Meant)
      (e : Expr Meant) (s : State) → P s
      → OnGood (λ a. P a.state) (signal_assignment k w m accessors e s)
  signal_assignment_kept w m accessors e s l =
      good_next (Behind P) (λ a. P a.state) (value_in k w false Whole e s) _
      (value w Whole e s l) (λ x p.
      good_next (Behind P) (λ a. P a.state) (target_in k w m accessors x.1) _
      (target_kept w m accessors x.1 p) (λ t q.
      good_needed (λ a. P a.state) (same_dims t.0.reach.left x.0.dims) w ShapeDiffers _
      (good_ok (λ a. P a.state) _ q)))

  pub arguments_kept : (w : Where) (es : Exprs Meant) (s : State) → P s
      → OnGood (Behind P) (arguments_in k w es s)
  arguments_kept w none s l = good_ok (Behind P) _ l
  arguments_kept w (more e es) s l =
      good_next (Behind P) (Behind P) (value_in k w false Whole e s) _ (value w Whole e s l)
      (λ x p.
      good_needed (Behind P) (is_all_known x.0) w UnknownIndex _
      (good_next (Behind P) (Behind P) (arguments_in k w es x.1) _ (arguments_kept w es x.1 p)
      (λ y q. good_ok (Behind P) _ q)))

  pub creation_kept : (w : Where) (n : ℕ) (accessors : Accessors Meant) (e : Expr Meant)
      (s : State) → P s → OnGood (λ c. P c.state) (creation k w n accessors e s)
  creation_kept w n accessors e s l =
      template_call_good (λ c. P c.state) w e _ (λ t arguments.
      good_next (Behind P) (λ c. P c.state) (arguments_in k w arguments s) _
      (arguments_kept w arguments s l) (λ x p.
      indices_kept k P false value (λ c. P c.state) w [] accessors x.1 _ p (λ indices rest s2 l2.
      good_on (λ c. P c.state) (found w ReadBeforeWrite (entry_at s2.frame.components n)) _ (λ c.
      good_on (λ c. P c.state) (found w UnknownIndex (all_known indices)) _ (λ ns.
      good_on (λ c. P c.state) (reach w false Scalar c.dims indices) _ (λ r.
      good_ok (λ c. P c.state) _ l2))))))
