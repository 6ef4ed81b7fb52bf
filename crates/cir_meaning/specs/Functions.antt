-- The rules for functions that are called when the program runs: they return numbers, their
-- dimensions are numbers as they are written, their array arguments are places, and for the shapes
-- of their arguments all shapes fit.
use Rattle.std.specs.Prelude.{ℕ, zero, suc, ◌+◌, ◌==◌, Bool, true, false, not, ◌&&◌, if◌then◌else◌}
use Rattle.std.specs.Prelude.{nat_lt, List, [], ◌∷◌, map, length, sum_by, Option, Some, None}
use Rattle.std.specs.Prelude.{is_some, slice_get, unwrap_or}
use Rattle.std.specs.List.{list_any, list_all}
use Rattle.cir_ast.specs.declared.program.Spot.{Spot}
use Rattle.cir_ast.specs.declared.program.Meant.{Meant}
use Rattle.cir_ast.specs.declared.program.Meant.TheVariants as meant
use Rattle.cir_ast.specs.declared.refusal.Form.TheVariants.{RunArray, RunDimension, LiteralPlace}
use Rattle.cir_ast.specs.declared.refusal.Kind.{Kind}
use Rattle.cir_ast.specs.declared.refusal.Kind.TheVariants.{NotInProfile, ShapeDiffers}
use Rattle.cir_ast.specs.Program.{Program}
use Rattle.cir_ast.specs.Tree.{Expr, Number, Place, Call, Anonymous, Parentheses, Array, Unary}
use Rattle.cir_ast.specs.Tree.{Binary, Choice, Exprs, none, more, Accessors, done, index, member}
use Rattle.cir_ast.specs.Tree.{Variable, Assign, Set, Statements}
use Rattle.cir_meaning.specs.Places.{left_of}
use Rattle.cir_meaning.specs.Limits.{size_of}
use Rattle.cir_meaning.specs.Arrays.{Want, Scalar, Whole, fits, same_dims}
use Rattle.cir_meaning.specs.Costs.{Made}
use Rattle.cir_meaning.specs.Texts.{list_of, all_wanted, all_variables, all_assigns, calls_in}
use Rattle.cir_meaning.specs.Texts.{literal_number}
use Rattle.cir_meaning.specs.Reached.{body_of, declaration_of, indices_count, all_reached}
use Rattle.cir_meaning.specs.Reached.{has_run_array, has_run_dimension, has_misplaced}

-- the fourth rule
abbrev pub variable_dims : List (List ℕ) → List (Variable Meant) → ℕ → List ℕ
variable_dims arguments vs n =
    unwrap_or (slice_get arguments n) (map (λ e. unwrap_or (literal_number e) 0)
    (declaration_of n vs))

abbrev pub with_shape : {A : Type 0} → Option (List ℕ) → (List ℕ → Option A) → Option A
with_shape None go = None
with_shape (Some dims) go = go dims

abbrev pub if_fits : Want → List ℕ → Option (List ℕ)
if_fits want dims = if fits want dims then Some dims else None

abbrev pub literal_shape : List (List ℕ) → Option (List ℕ)
literal_shape [] = None
literal_shape (dims ∷ rest) =
    if list_all (same_dims dims) rest then Some (length (dims ∷ rest) ∷ dims) else None

abbrev pub place_shape : (ℕ → List ℕ) → Meant → ℕ → Option (List ℕ)
place_shape dims (meant.Variable n) count = left_of (dims n) (unknown_indices count)
  where
    unknown_indices : ℕ → List (Option ℕ)
    unknown_indices zero = []
    unknown_indices (suc count) = None ∷ unknown_indices count
place_shape dims _ count = None

-- the shape of an expression, or none where shapes don't fit in it
abbrev mutual
  pub shape_in : (ℕ → List ℕ) → Want → Expr Meant → Option (List ℕ)
  shape_in dims want (Number n) = Some []
  shape_in dims want (Place name m accessors) =
      with_shape (index_shapes dims accessors) (λ u. with_shape
      (place_shape dims m (indices_count accessors)) (if_fits want))
  shape_in dims want (Call parallel name m arguments) =
      with_shape (shapes_fit dims arguments) (λ u. Some [])
  shape_in dims want (Anonymous parallel name m arguments inputs) = None
  shape_in dims want (Parentheses e) = shape_in dims want e
  shape_in dims want (Array elements) =
      element_shapes dims elements (λ shapes. with_shape (literal_shape shapes) (if_fits want))
  shape_in dims want (Unary op a) = shape_in dims Scalar a
  shape_in dims want (Binary op a b) =
      with_shape (shape_in dims Scalar a) (λ u. shape_in dims Scalar b)
  shape_in dims want (Choice c a b) =
      with_shape (shape_in dims Scalar c) (λ u. with_shape (shape_in dims Scalar a)
      (λ v. shape_in dims Scalar b))

  pub shapes_fit : (ℕ → List ℕ) → Exprs Meant → Option (List ℕ)
  shapes_fit dims none = Some []
  shapes_fit dims (more e es) = with_shape (shape_in dims Whole e) (λ u. shapes_fit dims es)

  pub element_shapes : (ℕ → List ℕ) → Exprs Meant → (List (List ℕ) → Option (List ℕ))
      → Option (List ℕ)
  element_shapes dims none go = go []
  element_shapes dims (more e es) go =
      with_shape (shape_in dims Whole e) (λ shape. element_shapes dims es
      (λ shapes. go (shape ∷ shapes)))

  pub index_shapes : (ℕ → List ℕ) → Accessors Meant → Option (List ℕ)
  index_shapes dims done = Some []
  index_shapes dims (index e rest) =
      with_shape (shape_in dims Scalar e) (λ u. index_shapes dims rest)
  index_shapes dims (member name rest) = index_shapes dims rest

abbrev pub same_shape : Option (List ℕ) → Option (List ℕ) → Bool
same_shape (Some dims) (Some others) = same_dims dims others
same_shape None other = false
same_shape (Some dims) None = false

abbrev pub assign_fits : (ℕ → List ℕ) → Assign Meant → Bool
assign_fits dims (Set name m accessors e) =
    same_shape (place_shape dims m (indices_count accessors)) (shape_in dims Whole e)
assign_fits dims _ = false

abbrev pub value_fits : (ℕ → List ℕ) → Variable Meant → Option (Expr Meant) → Bool
value_fits dims v None = true
value_fits dims v (Some e) = same_shape (place_shape dims v.meant 0) (shape_in dims Whole e)

abbrev pub body_fits : (ℕ → List ℕ) → Statements Spot Meant → Bool
body_fits dims ss =
    list_all (λ x. is_some (shape_in dims x.want x.expr)) (all_wanted ss) &&
    (list_all (assign_fits dims) (all_assigns ss) && list_all (λ v. value_fits dims v v.value)
    (all_variables ss))

abbrev pub call_dims : Program → Made → ℕ → List ℕ
call_dims p m = variable_dims m.shapes (all_variables (body_of p m.function))

abbrev pub shaped_calls : Program → Made → List Made
shaped_calls p m =
    map (λ c. record {
      function = c.function;
      shapes = map
          (λ e. unwrap_or (shape_in (call_dims p m) Whole e) []) c.arguments;
    })
    (calls_in (body_of p m.function))

abbrev pub same_shapes : List (List ℕ) → List (List ℕ) → Bool
same_shapes [] [] = true
same_shapes [] (e ∷ es) = false
same_shapes (d ∷ ds) [] = false
same_shapes (d ∷ ds) (e ∷ es) = same_dims d e && same_shapes ds es

abbrev pub same_made : Made → Made → Bool
same_made m n = (m.function == n.function) && same_shapes m.shapes n.shapes

abbrev pub made_reached : Program → List Made → List Made
made_reached p made = all_reached same_made (shaped_calls p) made

abbrev pub has_misfit : Program → List Made → Bool
has_misfit p made =
    list_any (λ m. not (body_fits (call_dims p m) (body_of p m.function))) (made_reached p made)

-- the rules are tested in this order, each over all these functions
abbrev pub function_fault : Program → List Made → Option Kind
function_fault p made =
    if has_run_array p made then Some (NotInProfile RunArray)
    else (if has_run_dimension p made then Some (NotInProfile RunDimension)
    else (if has_misplaced p made then Some (NotInProfile LiteralPlace)
    else (if has_misfit p made then Some ShapeDiffers else None)))

-- how many elements a function has, each variable and parameter counted
abbrev pub elements_of : Program → Made → ℕ
elements_of p m =
    sum_by size_of m.shapes + sum_by (λ v. size_of (map (λ e. unwrap_or (literal_number e) 0)
    (list_of v.dimensions))) (all_variables (body_of p m.function))

-- the first function that has too many, or 0
abbrev pub first_too_large : List ℕ → ℕ
first_too_large [] = 0
first_too_large (n ∷ ns) = if nat_lt 65536 n then n else first_too_large ns

abbrev pub function_elements : Program → List Made → ℕ
function_elements p made = first_too_large (map (elements_of p) (made_reached p made))
