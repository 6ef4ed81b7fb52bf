-- What is told of an expression wherever a scan evaluates it is told of each expression that a part
-- of the scan has evaluated.
use Rattle.std.proofs.Common.{◌≡◌, ℕ, true, List, [], ◌∷◌, ◌++◌, Option, Some, None, Ok}
use Rattle.std.specs.List.{AllByRecursion}
use Rattle.cir_ast.specs.declared.program.Meant.{Meant}
use Rattle.cir_ast.specs.declared.program.Meant.TheVariants as meant
use Rattle.cir_ast.specs.declared.refusal.Kind.TheVariants.{UnknownIndex, ShapeDiffers}
use Rattle.cir_ast.specs.Tree.{Expr, Exprs, none, more, Accessors, done, index, member, Assign, Set}
use Rattle.cir_ast.specs.Tree.{Compound, Left, Increment, Decrement}
use Rattle.cir_meaning.specs.Tried.{Where, Tried, next, needed, found}
use Rattle.cir_meaning.specs.Arrays.{Datum, Want, Scalar, Whole, reach, same_dims, the_item}
use Rattle.cir_meaning.specs.Values.{known_number}
use Rattle.cir_meaning.specs.Frame.{State, Context, variable_at}
use Rattle.cir_meaning.specs.Evaluate.{value_in, dims_in, indices_in, known_at}
use Rattle.cir_meaning.specs.Scan.{scan_test, scan_set, scan_plain, scan_value}
use Rattle.cir_meaning.specs.Texts.{Wanted, wanted, list_of, indices_of, numbers_wanted}
use Rattle.cir_meaning.specs.Texts.{value_wanted, plain_wanted}
use Rattle.cir_meaning.proofs.ScanPoints.{next_to}
use Rattle.cir_steps.specs.Places.{HasNoMember}
use Rattle.wit_lower.specs.Homes.{Homes, Ground}
use Rattle.cir_emit.proofs.Scanned.{SetReady, PlainReady, ValueReady}

abbrev pub AllOf : (Expr Meant → Type 0) → List Wanted → Type 0
AllOf Seen zs = AllByRecursion (λ (z : Wanted). Seen z.expr) zs

module _ (k : Context) (w : Where) (Ready : Homes → Expr Meant → Type 0) (g : Ground)
    (free : ℕ → Type 0) (homes : Homes) (Point : State → Type 0)
    (behind : (t : State) (want : Want) (e : Expr Meant) (x : Datum × State) → Point t
    → value_in k w true want e t ≡ Ok x → Point x.1) (Seen : Expr Meant → Type 0)
    (tells : (t : State) (want : Want) (e : Expr Meant) (x : Datum × State) → Point t
    → Ready homes e → value_in k w true want e t ≡ Ok x → Seen e) where
  pub test_seen : (e : Expr Meant) (t t1 : State) → Point t → Ready homes e
      → scan_test k w e t ≡ Ok t1 → Seen e
  test_seen e t t1 point ready ex =
      let a : (x : Datum × State) × (value_in k w true Scalar e t ≡ Ok x) × (last x ≡ Ok t1) =
      next_to (value_in k w true Scalar e t) last t1 ex in
      tells t Scalar e a.0 point ready a.1
    where
      last : Datum × State → Tried State
      last x = Ok x.1

  pub dims_seen : (es : Exprs Meant) (t : State) (y : List ℕ × State) → Point t
      → AllByRecursion (Ready homes) (list_of es) → dims_in k w true es t ≡ Ok y
      → AllOf Seen (numbers_wanted (list_of es))
  dims_seen none t y point ready ex = tt
  dims_seen (more e es) t y point ready ex =
      let a : (x : Datum × State) × (value_in k w true Scalar e t ≡ Ok x)
      × (known_at w (known_number (the_item x.0)) (λ n. next (dims_in k w true es x.1)
      (λ (ns, s2). Ok (n ∷ ns, s2))) ≡ Ok y) = next_to (value_in k w true Scalar e t)
      (λ x. known_at w (known_number (the_item x.0)) (λ n. next (dims_in k w true es x.1)
      (λ (ns, s2). Ok (n ∷ ns, s2)))) y ex in
      let b : (n : ℕ) × (found w UnknownIndex (known_number (the_item a.0.0)) ≡ Ok n)
      × (next (dims_in k w true es a.0.1) (λ (ns, s2). Ok (n ∷ ns, s2)) ≡ Ok y) =
      next_to (found w UnknownIndex (known_number (the_item a.0.0)))
      (λ n. next (dims_in k w true es a.0.1) (λ (ns, s2). Ok (n ∷ ns, s2))) y a.2 in
      let c : (z : List ℕ × State) × (dims_in k w true es a.0.1 ≡ Ok z)
      × (more_dims b.0 z ≡ Ok y) = next_to (dims_in k w true es a.0.1) (more_dims b.0) y b.2 in (
        tells t Scalar e a.0 point ready.0 a.1,
        dims_seen es a.0.1 c.0 (behind t Scalar e a.0 point a.1) ready.1 c.1,
      )
    where
      more_dims : ℕ → List ℕ × State → Tried (List ℕ × State)
      more_dims n z = Ok (n ∷ z.0, z.1)

  indices_seen : {A : Type 0} (accessors : Accessors Meant) (os : List (Option ℕ)) (t : State)
      (go : List (Option ℕ) → Accessors Meant → State → Tried A) (a : A) → HasNoMember accessors
      → Point t → AllByRecursion (Ready homes) (indices_of accessors)
      → indices_in k w true os accessors t go ≡ Ok a
      → AllOf Seen (numbers_wanted (indices_of accessors))
  indices_seen done os t go a are point ready ex = tt
  indices_seen (member name rest) os t go a are point ready ex = absurd are
  indices_seen (index e rest) os t go a are point ready ex =
      let y : (x : Datum × State) × (value_in k w true Scalar e t ≡ Ok x)
      × (indices_in k w true (os ++ known_number (the_item x.0) ∷ []) rest x.1 go ≡ Ok a) =
      next_to (value_in k w true Scalar e t)
      (λ x. indices_in k w true (os ++ known_number (the_item x.0) ∷ []) rest x.1 go) a ex in (
        tells t Scalar e y.0 point ready.0 y.1,
        indices_seen rest (os ++ known_number (the_item y.0.0) ∷ []) y.0.1 go a are
            (behind t Scalar e y.0 point y.1) ready.1 y.2,
      )

  set_seen : (m : Meant) (accessors : Accessors Meant) (e : Expr Meant) (t t1 : State) → Point t
      → SetReady Ready g free homes m accessors e → scan_set k w m accessors e t ≡ Ok t1
      → AllOf Seen (wanted Whole e ++ numbers_wanted (indices_of accessors))
  set_seen (meant.Variable n) accessors e t t1 point ready ex =
      let a : (x : Datum × State) × (value_in k w true Whole e t ≡ Ok x)
      × (indices_in k w true [] accessors x.1 (put x) ≡ Ok t1) =
      next_to (value_in k w true Whole e t) (λ x. indices_in k w true [] accessors x.1 (put x)) t1
      ex in (
        tells t Whole e a.0 point ready.value a.1,
        indices_seen accessors [] a.0.1 (put a.0) t1 ready.are (behind t Whole e a.0 point a.1)
            ready.indices a.2,
      )
    where
      put : Datum × State → List (Option ℕ) → Accessors Meant → State → Tried State
      put x indices rest s2 =
          next (reach w true Whole (variable_at s2.frame n).dims indices)
          (λ r. needed (same_dims r.left x.0.dims) w ShapeDiffers (Ok s2))
  set_seen meant.Other accessors e t t1 point ready ex = cc
  set_seen (meant.Signal d n) accessors e t t1 point ready ex = cc
  set_seen (meant.Component n) accessors e t t1 point ready ex = cc
  set_seen (meant.Template n) accessors e t t1 point ready ex = cc
  set_seen (meant.Function n) accessors e t t1 point ready ex = cc

  pub plain_seen : (x : Assign Meant) (t t1 : State) → Point t → PlainReady Ready g free homes x
      → scan_plain k w x t ≡ Ok t1 → AllOf Seen (plain_wanted x)
  plain_seen (Set name m accessors e) t t1 point ready ex =
      set_seen m accessors e t t1 point ready ex
  plain_seen (Compound name m accessors o e) t t1 point ready ex = cc
  plain_seen (Left name m accessors arrow e) t t1 point ready ex = cc
  plain_seen (Increment name m accessors) t t1 point ready ex = cc
  plain_seen (Decrement name m accessors) t t1 point ready ex = cc

  pub value_seen : (m : Meant) (o : Option (Expr Meant)) (t t1 : State) → Point t
      → ValueReady Ready g free homes m o → scan_value k w m o t ≡ Ok t1
      → AllOf Seen (value_wanted o)
  value_seen m None t t1 point ready ex = tt
  value_seen m (Some e) t t1 point ready ex = ((set_seen m done e t t1 point ready ex).0, tt)
