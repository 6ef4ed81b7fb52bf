-- The value of an expression where it stands. A shaded expression is only scanned: what may be
-- refused when it runs is left to the run, and that part is opaque. Operands, arguments and indices
-- go from left to right.
use Rattle.std.specs.Prelude.{ℕ, ◌%◌, Bool, true, false, ◌||◌, if◌then◌else◌, List, [], ◌∷◌, ◌++◌}
use Rattle.std.specs.Prelude.{flat_map, length, Option, Some, None, Ok}
use Rattle.std.specs.List.{list_all}
use Rattle.gold_field.specs.declared.gold.TheConstants.{P}
use Rattle.cir_ast.specs.declared.program.Meant.{Meant}
use Rattle.cir_ast.specs.declared.program.Meant.TheVariants as meant
use Rattle.cir_ast.specs.declared.refusal.Form.TheVariants.{LiteralPlace}
use Rattle.cir_ast.specs.declared.refusal.Kind.TheVariants.{WrongKind, UnknownIndex, ShapeDiffers}
use Rattle.cir_ast.specs.declared.refusal.Kind.TheVariants.{NotInProfile}
use Rattle.cir_ast.specs.Tree.{Expr, Number, Place, Call, Anonymous, Parentheses, Array, Unary}
use Rattle.cir_ast.specs.Tree.{Binary, Choice, Exprs, none, more, Accessors, done, index, member}
use Rattle.cir_meaning.specs.Tried.{Where, Tried, next, refused, needed, found}
use Rattle.cir_meaning.specs.Limits.{with_array}
use Rattle.cir_meaning.specs.Arrays.{Datum, Want, Scalar, Whole, fits, single, made, the_item}
use Rattle.cir_meaning.specs.Arrays.{is_all_known, same_dims}
use Rattle.cir_meaning.specs.Values.{Value, Known, Opaque, known_number, side_of, chosen}
use Rattle.cir_meaning.specs.Values.{unary_result}
use Rattle.cir_meaning.specs.Operators.{operator_of, unary_of, left_tells, applied, shading}
use Rattle.cir_meaning.specs.Operators.{first_shading, second_shading}
use Rattle.cir_meaning.specs.Frame.{State, Context, adding}
use Rattle.cir_meaning.specs.Reading.{Root, Named, Found, read_origin, origin_of, inner_origin}

-- a number that was wanted
abbrev pub scalar : {A : Type 0} → Tried (Datum × State) → (Value → State → Tried A) → Tried A
scalar m go = next m (λ (d, s). go (the_item d) s)

abbrev pub answered : Value → State → Tried (Datum × State)
answered v s = Ok (single v, s)

-- an operand that isn't looked at has no value that anybody asks for
abbrev pub looked_at : {A : Type 0} → Option Bool → State → (Bool → Tried (Datum × State))
    → (Value → State → Tried A) → Tried A
looked_at None s value go = go (Known 0) s
looked_at (Some shaded) s value go = scalar (value shaded) go

-- array literals, with parentheses or without
abbrev pub is_literal : Expr Meant → Bool
is_literal (Parentheses e) = is_literal e
is_literal (Array elements) = true
is_literal _ = false

abbrev pub has_literal : Exprs Meant → Bool
has_literal none = false
has_literal (more e es) = is_literal e || has_literal es

-- the elements of a literal have one shape
abbrev pub gathered : Where → List Datum → State → Tried (Datum × State)
gathered w [] s = answered Opaque s
gathered w (d ∷ ds) s =
    needed (list_all (λ e. same_dims e.dims d.dims) ds) w ShapeDiffers
    (Ok (
      made (length (d ∷ ds) ∷ d.dims) (flat_map (λ e. e.items) (d ∷ ds)),
      adding
          (with_array (length (d ∷ ds) ∷ d.dims)) s,
    ))

-- a call of a function whose arguments are known is made at once
abbrev pub call_known : Context → Where → Want → Meant → List Datum → State → Tried (Datum × State)
call_known k w want (meant.Function f) ds s =
    next (k.call w f ds s.world) (λ (d, world). needed (fits want d.dims) w ShapeDiffers
    (Ok (d, record s { world = world })))
call_known k w want meant.Other ds s = refused w WrongKind
call_known k w want (meant.Variable n) ds s = refused w WrongKind
call_known k w want (meant.Signal direction n) ds s = refused w WrongKind
call_known k w want (meant.Component n) ds s = refused w WrongKind
call_known k w want (meant.Template n) ds s = refused w WrongKind

-- another call is an opaque number, and takes no literal
abbrev pub called : Context → Where → Want → Meant → Exprs Meant → List Datum → State
    → Tried (Datum × State)
called k w want f arguments ds s =
    if list_all is_all_known ds then call_known k w want f ds s
    else (if has_literal arguments then refused w (NotInProfile LiteralPlace) else answered Opaque
    s)

abbrev mutual
  pub value_in : Context → Where → (shaded : Bool) → Want → Expr Meant → State
      → Tried (Datum × State)
  value_in k w shaded want (Number n) s = answered (Known (n % P)) s
  value_in k w shaded want (Place name m accessors) s =
      read_in k w shaded want (Named m) [] accessors s
  value_in k w shaded want (Call parallel name m arguments) s =
      next (all_in k w shaded arguments s) (λ (ds, s1). called k w want m arguments ds s1)
  value_in k w shaded want (Anonymous parallel name m arguments inputs) s = refused w WrongKind
  value_in k w shaded want (Parentheses e) s = value_in k w shaded want e s
  value_in k w shaded Scalar (Array elements) s = refused w (NotInProfile LiteralPlace)
  value_in k w shaded Whole (Array elements) s =
      next (all_in k w shaded elements s) (λ (ds, s1). gathered w ds s1)
  value_in k w shaded want (Unary op a) s =
      scalar (value_in k w shaded Scalar a s) (λ x s1. answered (unary_result (unary_of op) x) s1)
  value_in k w shaded want (Binary op a b) s =
      scalar (value_in k w shaded Scalar a s) (λ x s1.
      looked_at (shading (left_tells (operator_of op) x) shaded) s1
      (λ dark. value_in k w dark Scalar b s1) (λ y s2.
      next (applied w shaded (operator_of op) x y) (λ v. answered v s2)))
  value_in k w shaded want (Choice c a b) s =
      scalar (value_in k w shaded Scalar c s) (λ x s1.
      looked_at (first_shading (side_of x) shaded) s1 (λ dark. value_in k w dark Scalar a s1)
      (λ y s2.
      looked_at (second_shading (side_of x) shaded) s2 (λ dark. value_in k w dark Scalar b s2)
      (λ z s3.
      answered (chosen (side_of x) y z) s3)))

  -- arguments and elements may be arrays
  pub all_in : Context → Where → Bool → Exprs Meant → State → Tried (List Datum × State)
  all_in k w shaded none s = Ok ([], s)
  all_in k w shaded (more e es) s =
      next (value_in k w shaded Whole e s) (λ (d, s1). next (all_in k w shaded es s1)
      (λ (ds, s2). Ok (d ∷ ds, s2)))

  -- what stands behind a name, with the indices so far
  pub read_in : Context → Where → Bool → Want → Root → List (Option ℕ) → Accessors Meant → State
      → Tried (Datum × State)
  read_in k w shaded want root indices done s =
      next (origin_of w root s.frame) (λ source. next (read_origin w shaded want indices source)
      (λ d. Ok (d, s)))
  read_in k w shaded want root indices (index e rest) s =
      scalar (value_in k w shaded Scalar e s) (λ x s1. read_in k w shaded want root
      (indices ++ known_number x ∷ []) rest s1)
  read_in k w shaded want root indices (member name rest) s =
      next (inner_origin w shaded root indices name s.frame)
      (λ source. read_in k w shaded want (Found source) [] rest s)

-- numbers that must be known: dimensions
abbrev pub known_at : {A : Type 0} → Where → Option ℕ → (ℕ → Tried A) → Tried A
known_at w n go = next (found w UnknownIndex n) go

abbrev pub dims_in : Context → Where → Bool → Exprs Meant → State → Tried (List ℕ × State)
dims_in k w shaded none s = Ok ([], s)
dims_in k w shaded (more e es) s =
    scalar (value_in k w shaded Scalar e s) (λ x s1. known_at w (known_number x) (λ n.
    next (dims_in k w shaded es s1) (λ (ns, s2). Ok (n ∷ ns, s2))))

-- and the arguments of a template
abbrev pub arguments_in : Context → Where → Exprs Meant → State → Tried (List Datum × State)
arguments_in k w none s = Ok ([], s)
arguments_in k w (more e es) s =
    next (value_in k w false Whole e s) (λ (d, s1). needed (is_all_known d) w UnknownIndex
    (next (arguments_in k w es s1) (λ (ds, s2). Ok (d ∷ ds, s2))))

-- the indices up to a member or the end, and what is left
abbrev pub indices_in : {A : Type 0} → Context → Where → Bool → List (Option ℕ) → Accessors Meant
    → State → (List (Option ℕ) → Accessors Meant → State → Tried A) → Tried A
indices_in k w shaded indices done s go = go indices done s
indices_in k w shaded indices (member name rest) s go = go indices (member name rest) s
indices_in k w shaded indices (index e rest) s go =
    scalar (value_in k w shaded Scalar e s) (λ x s1. indices_in k w shaded
    (indices ++ known_number x ∷ []) rest s1 go)
