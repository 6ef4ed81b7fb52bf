-- Expressions by their parts: the value of each, once those of its parts are found.
use Rattle.std.proofs.Common.{◌≡◌, ◌∙◌, ℕ, Bool, List, [], Ok, ap, sym, refl}
use Rattle.std.specs.Prelude.{Option}
use Rattle.cir_ast.specs.declared.marked.Expr.{Expr as CodeExpr}
use Rattle.cir_ast.specs.declared.marked.Expr.TheVariants as expr
use Rattle.cir_ast.specs.declared.marked.Place.{Place as CodePlace}
use Rattle.cir_ast.specs.declared.program.Meant.{Meant}
use Rattle.cir_ast.specs.declared.operators.Unary.{Unary as UnaryOp}
use Rattle.cir_ast.specs.declared.operators.Binary.{Binary as BinaryOp}
use Rattle.cir_ast.specs.Tree.{Expr, Call, Array, Unary, Binary, Choice, bare, bare_exprs}
use Rattle.cir_ast.specs.Tree.{place_accessors, as_accessors}
use Rattle.cir_ast.proofs.Rows.{exprs_are, accessors_are}
use Rattle.cir_meaning.specs.Tried.{Where, Tried, next}
use Rattle.cir_meaning.specs.Values.{Value, Side, side_of, unary_result}
use Rattle.cir_meaning.specs.Operators.{operator_of, unary_of, left_tells, applied, shading}
use Rattle.cir_meaning.specs.Operators.{first_shading, second_shading}
use Rattle.cir_meaning.specs.Arrays.{Datum, Want, Scalar, Whole, single}
use Rattle.cir_meaning.specs.Values as M
use Rattle.cir_meaning.specs.Frame.{Context, State}
use Rattle.cir_meaning.specs.Reading.{Named}
use Rattle.cir_meaning.specs.Evaluate.{value_in, all_in, read_in, answered, called, gathered}
use Rattle.cir_meaning.specs.Evaluate.{looked_at, scalar}
use Rattle.cir_evaluate.specs.declared.operands.Look.{Look}
use Rattle.cir_evaluate.specs.Parts.{look_shading, looked_in}
use Rattle.cir_arrays.specs.declared.stop.Fault.{Fault}
use Rattle.cir_arrays.specs.Stopped.{IsRefusal}
use Rattle.cir_arrays.proofs.Exits.{exits}
use Rattle.cir_evaluate.proofs.Steps.{goes, looked_once, refusal, scalar_goes}

module _ (k : Context) (w : Where) (shaded : Bool) where
  -- what follows the arguments of a call
  pub call_goes : (want : Want) (parallel : Bool) (name : List ℕ) (m : Meant)
      (e : CodeExpr Meant) (es first second : List (CodeExpr Meant)) (s s1 : State)
      (ds : List Datum) (y : Tried (Datum × State)) → e ≡ expr.Call parallel name m es
      → first ≡ es → second ≡ es → all_in k w shaded (bare_exprs first) s ≡ Ok (ds, s1)
      → called k w want m (bare_exprs second) ds s1 ≡ y
      → value_in k w shaded want (bare e) s ≡ y
  call_goes want parallel name m e es first second s s1 ds y is same again h called_is =
      ap (λ e. value_in k w shaded want (bare e) s) is
      ∙ ap (λ a. value_in k w shaded want (Call parallel name m a) s) (exprs_are Meant es)
      ∙ goes (all_in k w shaded (bare_exprs es) s)
      (λ (ds, s1). called k w want m (bare_exprs es) ds s1) (ds, s1) _
      (ap (λ es. all_in k w shaded (bare_exprs es) s) (sym same) ∙ h)
      (ap (λ es. called k w want m (bare_exprs es) ds s1) (sym again) ∙ called_is)

  -- arguments that are refused
  pub call_stops : (want : Want) (parallel : Bool) (name : List ℕ) (m : Meant)
      (e : CodeExpr Meant) (es first : List (CodeExpr Meant)) (s : State) (f : Fault)
      → e ≡ expr.Call parallel name m es → first ≡ es
      → IsRefusal f (all_in k w shaded (bare_exprs first) s)
      → IsRefusal f (value_in k w shaded want (bare e) s)
  call_stops want parallel name m e es first s f is same h =
      refusal f _ (value_in k w shaded want (Call parallel name m (bare_exprs first)) s)
      (ap (λ e. value_in k w shaded want (bare e) s) is
      ∙ ap (λ a. value_in k w shaded want (Call parallel name m a) s)
      (exprs_are Meant es ∙ ap bare_exprs (sym same)))
      (exits f _ _ h)

  -- what follows the elements of a literal
  pub array_goes : (e : CodeExpr Meant) (es elements : List (CodeExpr Meant)) (s s1 : State)
      (ds : List Datum) → e ≡ expr.Array es → elements ≡ es
      → all_in k w shaded (bare_exprs elements) s ≡ Ok (ds, s1)
      → value_in k w shaded Whole (bare e) s ≡ gathered w ds s1
  array_goes e es elements s s1 ds is same h =
      ap (λ e. value_in k w shaded Whole (bare e) s) is
      ∙ ap (λ a. value_in k w shaded Whole (Array a) s)
      (exprs_are Meant es ∙ ap bare_exprs (sym same))
      ∙ goes (all_in k w shaded (bare_exprs elements) s) (λ (ds, s1). gathered w ds s1) (ds, s1) _ h
      refl

  pub array_stops : (e : CodeExpr Meant) (es elements : List (CodeExpr Meant)) (s : State)
      (f : Fault) → e ≡ expr.Array es → elements ≡ es
      → IsRefusal f (all_in k w shaded (bare_exprs elements) s)
      → IsRefusal f (value_in k w shaded Whole (bare e) s)
  array_stops e es elements s f is same h =
      refusal f _ (value_in k w shaded Whole (Array (bare_exprs elements)) s)
      (ap (λ e. value_in k w shaded Whole (bare e) s) is
      ∙ ap (λ a. value_in k w shaded Whole (Array a) s)
      (exprs_are Meant es ∙ ap bare_exprs (sym same)))
      (exits f _ _ h)

  -- an expression of which a number is wanted or not
  pub want_free : (e u : CodeExpr Meant) (s : State) → e ≡ u
      → value_in k w shaded Whole (bare u) s ≡ value_in k w shaded Scalar (bare u) s
      → value_in k w shaded Whole (bare e) s ≡ value_in k w shaded Scalar (bare e) s
  want_free e u s is h =
      ap (λ e. value_in k w shaded Whole (bare e) s) is ∙ h
      ∙ ap (λ e. value_in k w shaded Scalar (bare e) s) (sym is)

  pub path_is : (want : Want) (p : CodePlace Meant) (s : State)
      → read_in k w shaded want (Named p.meant) [] (place_accessors p) s
      ≡ read_in k w shaded want (Named p.meant) [] (as_accessors p.accessors) s
  path_is want p s =
      ap (λ a. read_in k w shaded want (Named p.meant) [] a s) (accessors_are Meant p.accessors)

  pub unary_is : (op : UnaryOp) (a : Expr Meant) (s s1 : State) (x v : Value)
      → value_in k w shaded Scalar a s ≡ Ok (single x, s1) → v ≡ unary_result (unary_of op) x
      → value_in k w shaded Scalar (Unary op a) s ≡ Ok (single v, s1)
  unary_is op a s s1 x v h e =
      scalar_goes (value_in k w shaded Scalar a s)
      (λ x s1. answered (unary_result (unary_of op) x) s1) x s1 _ h
      (ap (λ v. answered v s1) (sym e))

  -- the right side, and what follows it
  side_is : {A : Type 0} (look : Look) (to : Option Bool) (b : Expr Meant) (s : State)
      (go : Value → State → Tried A) → look_shading look shaded ≡ to
      → looked_at to s (λ dark. value_in k w dark Scalar b s) go
      ≡ scalar (looked_in k w shaded look b s) go
  side_is look to b s go e =
      ap (λ o. looked_at o s (λ dark. value_in k w dark Scalar b s) go) (sym e)
      ∙ looked_once (look_shading look shaded) s (λ dark. value_in k w dark Scalar b s) go

  -- what follows the left side
  pub right_is : (op : BinaryOp) (a b : Expr Meant) (s s1 : State) (x : Value) (look : Look)
      → value_in k w shaded Scalar a s ≡ Ok (single x, s1)
      → look_shading look shaded ≡ shading (left_tells (operator_of op) x) shaded
      → value_in k w shaded Scalar (Binary op a b) s
      ≡ scalar (looked_in k w shaded look b s1)
      (λ y s2. next (applied w shaded (operator_of op) x y) (λ v. answered v s2))
  right_is op a b s s1 x look h e =
      scalar_goes (value_in k w shaded Scalar a s)
      (λ x s1. looked_at (shading (left_tells (operator_of op) x) shaded) s1
      (λ dark. value_in k w dark Scalar b s1)
      (λ y s2. next (applied w shaded (operator_of op) x y) (λ v. answered v s2))) x s1 _ h
      (side_is look (shading (left_tells (operator_of op) x) shaded) b s1
      (λ y s2. next (applied w shaded (operator_of op) x y) (λ v. answered v s2)) e)

  -- what follows both sides
  pub applied_is : (op : BinaryOp) (a b : Expr Meant) (s s1 s2 : State) (x y : Value) (look : Look)
      → value_in k w shaded Scalar a s ≡ Ok (single x, s1)
      → look_shading look shaded ≡ shading (left_tells (operator_of op) x) shaded
      → looked_in k w shaded look b s1 ≡ Ok (single y, s2)
      → value_in k w shaded Scalar (Binary op a b) s
      ≡ next (applied w shaded (operator_of op) x y) (λ v. answered v s2)
  applied_is op a b s s1 s2 x y look h e g =
      right_is op a b s s1 x look h e
      ∙ scalar_goes (looked_in k w shaded look b s1)
      (λ y s2. next (applied w shaded (operator_of op) x y) (λ v. answered v s2)) y s2 _ g refl

  -- what follows the condition of a choice
  pub first_is : (c a b : Expr Meant) (s s1 : State) (x : Value) (side : Side) (first : Look)
      → value_in k w shaded Scalar c s ≡ Ok (single x, s1) → side ≡ side_of x
      → look_shading first shaded ≡ first_shading side shaded
      → value_in k w shaded Scalar (Choice c a b) s
      ≡ scalar (looked_in k w shaded first a s1) (λ y s2.
      looked_at (second_shading (side_of x) shaded) s2 (λ dark. value_in k w dark Scalar b s2)
      (λ z s3. answered (M.chosen (side_of x) y z) s3))
  first_is c a b s s1 x side first h e f =
      scalar_goes (value_in k w shaded Scalar c s)
      (λ x s1. looked_at (first_shading (side_of x) shaded) s1
      (λ dark. value_in k w dark Scalar a s1)
      (λ y s2. looked_at (second_shading (side_of x) shaded) s2
      (λ dark. value_in k w dark Scalar b s2)
      (λ z s3. answered (M.chosen (side_of x) y z) s3))) x s1 _ h
      (side_is first (first_shading (side_of x) shaded) a s1
      (λ y s2. looked_at (second_shading (side_of x) shaded) s2
      (λ dark. value_in k w dark Scalar b s2)
      (λ z s3. answered (M.chosen (side_of x) y z) s3))
      (f ∙ ap (λ d. first_shading d shaded) e))

  -- and the first of the two that are chosen from
  pub second_is : (c a b : Expr Meant) (s s1 s2 : State) (x y : Value) (side : Side)
      (first second : Look) → value_in k w shaded Scalar c s ≡ Ok (single x, s1)
      → side ≡ side_of x → look_shading first shaded ≡ first_shading side shaded
      → look_shading second shaded ≡ second_shading side shaded
      → looked_in k w shaded first a s1 ≡ Ok (single y, s2)
      → value_in k w shaded Scalar (Choice c a b) s
      ≡ scalar (looked_in k w shaded second b s2) (λ z s3. answered (M.chosen side y z) s3)
  second_is c a b s s1 s2 x y side first second h e f n g =
      first_is c a b s s1 x side first h e f
      ∙ scalar_goes (looked_in k w shaded first a s1)
      (λ y s2. looked_at (second_shading (side_of x) shaded) s2
      (λ dark. value_in k w dark Scalar b s2)
      (λ z s3. answered (M.chosen (side_of x) y z) s3)) y s2 _ g
      (side_is second (second_shading (side_of x) shaded) b s2
      (λ z s3. answered (M.chosen (side_of x) y z) s3)
      (n ∙ ap (λ d. second_shading d shaded) e)
      ∙ ap (λ d. scalar (looked_in k w shaded second b s2)
      (λ z s3. answered (M.chosen d y z) s3)) (sym e))

  pub chosen_is : (c a b : Expr Meant) (s s1 s2 s3 : State) (x y z v : Value) (side : Side)
      (first second : Look) → value_in k w shaded Scalar c s ≡ Ok (single x, s1)
      → side ≡ side_of x → look_shading first shaded ≡ first_shading side shaded
      → look_shading second shaded ≡ second_shading side shaded
      → looked_in k w shaded first a s1 ≡ Ok (single y, s2)
      → looked_in k w shaded second b s2 ≡ Ok (single z, s3) → v ≡ M.chosen side y z
      → value_in k w shaded Scalar (Choice c a b) s ≡ Ok (single v, s3)
  chosen_is c a b s s1 s2 s3 x y z v side first second h e f n g j is =
      second_is c a b s s1 s2 x y side first second h e f n g
      ∙ scalar_goes (looked_in k w shaded second b s2)
      (λ z s3. answered (M.chosen side y z) s3) z s3 _ j (ap (λ v. answered v s3) (sym is))
