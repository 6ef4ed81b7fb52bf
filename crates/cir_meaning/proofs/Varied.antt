-- An expression has the same value whatever the variables are that aren't in scope.
use Rattle.std.proofs.Common.{◌≡◌, ℕ, ◌%◌, Bool, true, false, cond, List, [], ◌∷◌, ◌++◌, Option}
use Rattle.std.proofs.Common.{Some, None, Ok, refl, sym, ap, subst, slice_get}
use Rattle.std.specs.Prelude.{unwrap_or}
use Rattle.std.specs.List.{list_all}
use Rattle.gold_field.specs.declared.gold.TheConstants.{P}
use Rattle.cir_ast.specs.declared.program.Meant.{Meant}
use Rattle.cir_ast.specs.declared.program.Meant.TheVariants as meant
use Rattle.cir_ast.specs.declared.refusal.Form.TheVariants.{LiteralPlace}
use Rattle.cir_ast.specs.declared.refusal.Kind.TheVariants.{UnknownIndex, ShapeDiffers}
use Rattle.cir_ast.specs.declared.refusal.Kind.TheVariants.{NotInProfile}
use Rattle.cir_ast.specs.Tree.{Expr, Number, Place, Call, Anonymous, Parentheses, Array, Unary}
use Rattle.cir_ast.specs.Tree.{Binary, Choice, Exprs, none, more, Accessors, done, index, member}
use Rattle.cir_meaning.specs.Scoped.{Scope, AreCallsMeant, AreAllMeant, AreIndicesMeant}
use Rattle.cir_meaning.specs.Tried.{Where, Tried, next, refused, found}
use Rattle.cir_meaning.specs.Arrays.{Datum, Want, Scalar, Whole, fits, single, the_item}
use Rattle.cir_meaning.specs.Arrays.{is_all_known, same_dims}
use Rattle.cir_meaning.specs.Values.{Value, Known, Opaque, known_number, side_of, chosen}
use Rattle.cir_meaning.specs.Values.{unary_result}
use Rattle.cir_meaning.specs.Operators.{operator_of, unary_of, left_tells, applied, shading}
use Rattle.cir_meaning.specs.Operators.{first_shading, second_shading}
use Rattle.cir_meaning.specs.Frame.{State, Context, variable_at}
use Rattle.cir_meaning.specs.Reading.{Stored, Root, Named, Found, read_origin, origin_of}
use Rattle.cir_meaning.specs.Reading.{inner_origin}
use Rattle.cir_meaning.specs.Evaluate.{scalar, answered, looked_at, has_literal, gathered}
use Rattle.cir_meaning.specs.Evaluate.{call_known, called, value_in, all_in, read_in, dims_in}
use Rattle.cir_meaning.specs.Evaluate.{indices_in, known_at}
use Rattle.cir_meaning.proofs.Twins.{Twin, twin_ok, twin_bad, twin_next, twin_same, twin_needed}
use Rattle.cir_meaning.proofs.Sound.{IsRootSeen}

module _ (scope : Scope) (vs : List Datum) where
  -- the state with these variables, which are the same where they are in scope
  abbrev pub varied : State → State
  varied s = record s { frame = record (s.frame) { variables = vs } }

  abbrev pub Agree : State → Type 0
  Agree s =
      (n : ℕ) → scope.seen n ≡ true → unwrap_or (slice_get vs n) (single (Known 0)) ≡ variable_at
      s.frame n

  abbrev pub Varied : {A : Type 0} → A × State → A × State → Type 0
  Varied x y = (y.0 ≡ x.0) × (y.1 ≡ varied x.1) × Agree x.1

  scalar_varied : {A B : Type 0} (R : A → B → Type 0) (m r : Tried (Datum × State))
      (go : Value → State → Tried A) (on : Value → State → Tried B) → Twin Varied m r
      → ((v : Value) (s : State) → Agree s → Twin R (go v s) (on v (varied s)))
      → Twin R (scalar m go) (scalar r on)
  scalar_varied R m r go on h g =
      twin_next Varied R m r (λ (d, s). go (the_item d) s) (λ (d, s). on (the_item d) s) h
      (λ x y p.
      subst (λ t. Twin R (go (the_item x.0) x.1) (on (the_item y.0) t)) (sym p.1)
      (subst (λ d. Twin R (go (the_item x.0) x.1) (on (the_item d) (varied x.1))) (sym p.0)
      (g (the_item x.0) x.1 p.2)))

  pub then_varied : {A B C : Type 0} (R : B → C → Type 0) (m r : Tried (A × State))
      (go : A × State → Tried B) (on : A × State → Tried C) → Twin Varied m r
      → ((x : A) (s : State) → Agree s → Twin R (go (x, s)) (on (x, varied s)))
      → Twin R (next m go) (next r on)
  then_varied R m r go on h g =
      twin_next Varied R m r go on h (λ x y p.
      subst (λ t. Twin R (go x) (on (y.0, t))) (sym p.1)
      (subst (λ d. Twin R (go x) (on (d, varied x.1))) (sym p.0) (g x.0 x.1 p.2)))

  answered_varied : (v : Value) (s : State) → Agree s
      → Twin Varied (answered v s) (answered v (varied s))
  answered_varied v s a = twin_ok Varied _ _ (refl, refl, a)

  looked_varied : {A B : Type 0} (R : A → B → Type 0) (o : Option Bool) (s : State)
      (value other : Bool → Tried (Datum × State)) (go : Value → State → Tried A)
      (on : Value → State → Tried B) → Agree s
      → ((dark : Bool) → Twin Varied (value dark) (other dark))
      → ((v : Value) (s : State) → Agree s → Twin R (go v s) (on v (varied s)))
      → Twin R (looked_at o s value go) (looked_at o (varied s) other on)
  looked_varied R None s value other go on a h g = g (Known 0) s a
  looked_varied R (Some dark) s value other go on a h g =
      scalar_varied R (value dark) (other dark) go on (h dark) g

  -- names
  origin_varied : (w : Where) (root : Root) (s : State) → IsRootSeen scope root → Agree s
      → origin_of w root (varied s).frame ≡ origin_of w root s.frame
  origin_varied w (Found source) s is a = refl
  origin_varied w (Named (meant.Variable n)) s is a =
      ap (λ (d : Datum). Ok (Stored d)) (a n is)
  origin_varied w (Named (meant.Signal direction n)) s is a = refl
  origin_varied w (Named meant.Other) s is a = refl
  origin_varied w (Named (meant.Component n)) s is a = refl
  origin_varied w (Named (meant.Template n)) s is a = refl
  origin_varied w (Named (meant.Function n)) s is a = refl

  inner_varied : (w : Where) (dark : Bool) (root : Root) (os : List (Option ℕ)) (name : List ℕ)
      (s : State)
      → inner_origin w dark root os name (varied s).frame ≡ inner_origin w dark root os name s.frame
  inner_varied w dark (Found source) os name s = refl
  inner_varied w dark (Named (meant.Component n)) os name s = refl
  inner_varied w dark (Named (meant.Variable n)) os name s = refl
  inner_varied w dark (Named (meant.Signal direction n)) os name s = refl
  inner_varied w dark (Named meant.Other) os name s = refl
  inner_varied w dark (Named (meant.Template n)) os name s = refl
  inner_varied w dark (Named (meant.Function n)) os name s = refl

  gathered_varied : (w : Where) (ds : List Datum) (s : State) → Agree s
      → Twin Varied (gathered w ds s) (gathered w ds (varied s))
  gathered_varied w [] s a = answered_varied Opaque s a
  gathered_varied w (d ∷ ds) s a =
      twin_needed Varied (list_all (λ e. same_dims e.dims d.dims) ds)
      (list_all (λ e. same_dims e.dims d.dims) ds) w ShapeDiffers _ _ (λ t. t)
      (λ t. twin_ok Varied _ _ (refl, refl, a))

  module _ (k : Context) where
    call_varied : (w : Where) (want : Want) (m : Meant) (ds : List Datum) (s : State) → Agree s
        → Twin Varied (call_known k w want m ds s) (call_known k w want m ds (varied s))
    call_varied w want (meant.Function n) ds s a =
        twin_same Varied (k.call w n ds s.world) _ _ (λ x.
        twin_needed Varied (fits want x.0.dims) (fits want x.0.dims) w ShapeDiffers _ _ (λ t. t)
        (λ t. twin_ok Varied _ _ (refl, refl, a)))
    call_varied w want meant.Other ds s a = twin_bad Varied _ _
    call_varied w want (meant.Variable n) ds s a = twin_bad Varied _ _
    call_varied w want (meant.Signal direction n) ds s a = twin_bad Varied _ _
    call_varied w want (meant.Component n) ds s a = twin_bad Varied _ _
    call_varied w want (meant.Template n) ds s a = twin_bad Varied _ _

    called_varied : (w : Where) (want : Want) (m : Meant) (arguments : Exprs Meant)
        (ds : List Datum) (s : State) → Agree s
        → Twin Varied (called k w want m arguments ds s) (called k w want m arguments ds (varied s))
    called_varied w want m arguments ds s a = at (list_all is_all_known ds)
      where
        literal : (b : Bool)
            → Twin Varied (cond b (refused w (NotInProfile LiteralPlace)) (answered Opaque s))
            (cond b (refused w (NotInProfile LiteralPlace)) (answered Opaque (varied s)))
        literal true = twin_bad Varied _ _
        literal false = answered_varied Opaque s a

        at : (b : Bool)
            → Twin Varied (cond b (call_known k w want m ds s)
            (cond (has_literal arguments) (refused w (NotInProfile LiteralPlace))
            (answered Opaque s)))
            (cond b (call_known k w want m ds (varied s))
            (cond (has_literal arguments) (refused w (NotInProfile LiteralPlace))
            (answered Opaque (varied s))))
        at true = call_varied w want m ds s a
        at false = literal (has_literal arguments)

    mutual
      pub value_varied : (w : Where) (dark : Bool) (want : Want) (e : Expr Meant) (s : State)
          → AreCallsMeant scope e → Agree s
          → Twin Varied (value_in k w dark want e s) (value_in k w dark want e (varied s))
      value_varied w dark want (Number n) s t a = answered_varied (Known (n % P)) s a
      value_varied w dark want (Place name m accessors) s t a =
          read_varied w dark want (Named m) [] accessors s t.0 t.1 a
      value_varied w dark want (Call parallel name m arguments) s t a =
          then_varied Varied (all_in k w dark arguments s) (all_in k w dark arguments (varied s))
          _ _ (all_varied w dark arguments s t.1 a)
          (λ ds s1 a1. called_varied w want m arguments ds s1 a1)
      value_varied w dark want (Anonymous parallel name m arguments inputs) s t a =
          twin_bad Varied _ _
      value_varied w dark want (Parentheses e) s t a = value_varied w dark want e s t a
      value_varied w dark Scalar (Array items) s t a = twin_bad Varied _ _
      value_varied w dark Whole (Array items) s t a =
          then_varied Varied (all_in k w dark items s) (all_in k w dark items (varied s)) _ _
          (all_varied w dark items s t a) (λ ds s1 a1. gathered_varied w ds s1 a1)
      value_varied w dark want (Unary op x) s t a =
          scalar_varied Varied (value_in k w dark Scalar x s)
          (value_in k w dark Scalar x (varied s)) _
          (λ v s1. answered (unary_result (unary_of op) v) s1)
          (value_varied w dark Scalar x s t a)
          (λ v s1 a1. answered_varied (unary_result (unary_of op) v) s1 a1)
      value_varied w dark want (Binary op x y) s t a =
          scalar_varied Varied (value_in k w dark Scalar x s)
          (value_in k w dark Scalar x (varied s)) _ (λ v s1.
          looked_at (shading (left_tells (operator_of op) v) dark) s1
          (λ deep. value_in k w deep Scalar y s1) (λ z s2.
          next (applied w dark (operator_of op) v z)
          (λ r. answered r s2))) (value_varied w dark Scalar x s t.0 a)
          (λ v s1 a1.
          looked_varied Varied (shading (left_tells (operator_of op) v) dark) s1 _
          (λ deep. value_in k w deep Scalar y (varied s1)) _ (λ z s2.
          next (applied w dark (operator_of op) v z)
          (λ r. answered r s2)) a1
          (λ deep. value_varied w deep Scalar y s1 t.1 a1) (λ z s2 a2.
          twin_same Varied (applied w dark (operator_of op) v z) _ _
          (λ r. answered_varied r s2 a2)))
      value_varied w dark want (Choice x y z) s t a =
          scalar_varied Varied (value_in k w dark Scalar x s)
          (value_in k w dark Scalar x (varied s)) _ (λ v s1.
          looked_at (first_shading (side_of v) dark) s1 (λ deep. value_in k w deep Scalar y s1)
          (λ r s2.
          looked_at (second_shading (side_of v) dark) s2 (λ deep. value_in k w deep Scalar z s2)
          (λ q s3. answered (chosen (side_of v) r q) s3)))
          (value_varied w dark Scalar x s t.0 a) (λ v s1 a1.
          looked_varied Varied (first_shading (side_of v) dark) s1 _
          (λ deep. value_in k w deep Scalar y (varied s1)) _ (λ r s2.
          looked_at (second_shading (side_of v) dark) s2 (λ deep. value_in k w deep Scalar z s2)
          (λ q s3. answered (chosen (side_of v) r q) s3)) a1
          (λ deep. value_varied w deep Scalar y s1 t.1 a1) (λ r s2 a2.
          looked_varied Varied (second_shading (side_of v) dark) s2 _
          (λ deep. value_in k w deep Scalar z (varied s2)) _
          (λ q s3. answered (chosen (side_of v) r q) s3) a2
          (λ deep. value_varied w deep Scalar z s2 t.2 a2)
          (λ q s3 a3. answered_varied (chosen (side_of v) r q) s3 a3)))

      pub all_varied : (w : Where) (dark : Bool) (es : Exprs Meant) (s : State)
          → AreAllMeant scope es → Agree s
          → Twin Varied (all_in k w dark es s) (all_in k w dark es (varied s))
      all_varied w dark none s t a = twin_ok Varied _ _ (refl, refl, a)
      all_varied w dark (more e es) s t a =
          then_varied Varied (value_in k w dark Whole e s) (value_in k w dark Whole e (varied s))
          _ _ (value_varied w dark Whole e s t.0 a) (λ x s1 a1.
          then_varied Varied (all_in k w dark es s1) (all_in k w dark es (varied s1)) _ _
          (all_varied w dark es s1 t.1 a1)
          (λ xs s2 a2. twin_ok Varied _ _ (refl, refl, a2)))

      read_varied : (w : Where) (dark : Bool) (want : Want) (root : Root) (os : List (Option ℕ))
          (accessors : Accessors Meant) (s : State) → IsRootSeen scope root
          → AreIndicesMeant scope accessors → Agree s
          → Twin Varied (read_in k w dark want root os accessors s)
          (read_in k w dark want root os accessors (varied s))
      read_varied w dark want root os done s is t a =
          subst (λ o. Twin Varied (next (origin_of w root s.frame)
          (λ source. next (read_origin w dark want os source)
          (λ x. Ok (x, s)))) (next o
          (λ source. next (read_origin w dark want os source)
          (λ x. Ok (x, varied s))))) (sym (origin_varied w root s is a))
          (twin_same Varied (origin_of w root s.frame) _ _ (λ source.
          twin_same Varied (read_origin w dark want os source) _ _
          (λ x. twin_ok Varied _ _ (refl, refl, a))))
      read_varied w dark want root os (index e rest) s is t a =
          scalar_varied Varied (value_in k w dark Scalar e s)
          (value_in k w dark Scalar e (varied s)) _
          (λ v s1. read_in k w dark want root (os ++ known_number v ∷ []) rest s1)
          (value_varied w dark Scalar e s t.0 a)
          (λ v s1 a1. read_varied w dark want root (os ++ known_number v ∷ []) rest s1 is t.1 a1)
      read_varied w dark want root os (member name rest) s is t a =
          subst (λ o. Twin Varied (Rattle.cir_meaning.specs.Tried.next
          (inner_origin w dark root os name s.frame)
          (λ source. read_in k w dark want (Found source) [] rest s))
          (next o
          (λ source. read_in k w dark want (Found source) [] rest (varied s))))
          (sym (inner_varied w dark root os name s))
          (twin_same Varied (inner_origin w dark root os name s.frame) _ _
          (λ source. read_varied w dark want (Found source) [] rest s tt t a))

    -- dimensions, and the indices of a written place
    pub dims_varied : (w : Where) (dark : Bool) (es : Exprs Meant) (s : State)
        → AreAllMeant scope es → Agree s
        → Twin Varied (dims_in k w dark es s) (dims_in k w dark es (varied s))
    dims_varied w dark none s t a = twin_ok Varied _ _ (refl, refl, a)
    dims_varied w dark (more e es) s t a =
        scalar_varied Varied (value_in k w dark Scalar e s)
        (value_in k w dark Scalar e (varied s)) (λ v s1.
        known_at w (known_number v) (λ n.
        next (dims_in k w dark es s1)
        (λ (ns, s2). Ok (n ∷ ns, s2)))) (λ v s1.
        known_at w (known_number v) (λ n.
        next (dims_in k w dark es s1)
        (λ (ns, s2). Ok (n ∷ ns, s2))))
        (value_varied w dark Scalar e s t.0 a)
        (λ v s1 a1.
        twin_same Varied (found w UnknownIndex (known_number v)) _ _ (λ n.
        then_varied Varied (dims_in k w dark es s1) (dims_in k w dark es (varied s1)) _ _
        (dims_varied w dark es s1 t.1 a1)
        (λ ns s2 a2. twin_ok Varied _ _ (refl, refl, a2))))

    pub indices_varied : {A B : Type 0} (R : A → B → Type 0) (w : Where) (dark : Bool)
        (os : List (Option ℕ)) (accessors : Accessors Meant) (s : State)
        (go : List (Option ℕ) → Accessors Meant → State → Tried A)
        (on : List (Option ℕ) → Accessors Meant → State → Tried B)
        → AreIndicesMeant scope accessors → Agree s
        → ((os : List (Option ℕ)) (rest : Accessors Meant) (s : State) → Agree s
        → Twin R (go os rest s) (on os rest (varied s)))
        → Twin R (indices_in k w dark os accessors s go)
        (indices_in k w dark os accessors (varied s) on)
    indices_varied R w dark os done s go on t a h = h os done s a
    indices_varied R w dark os (member name rest) s go on t a h = h os (member name rest) s a
    indices_varied R w dark os (index e rest) s go on t a h =
        scalar_varied R (value_in k w dark Scalar e s) (value_in k w dark Scalar e (varied s)) _
        (λ v s1. indices_in k w dark (os ++ known_number v ∷ []) rest s1 on)
        (value_varied w dark Scalar e s t.0 a)
        (λ v s1 a1. indices_varied R w dark (os ++ known_number v ∷ []) rest s1 go on t.1 a1 h)
