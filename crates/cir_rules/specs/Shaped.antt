-- What the code's shapes stand for.
use Rattle.std.specs.Prelude.{ℕ, Bool, ◌&&◌, if◌then◌else◌, is_some, nat_lt, List, [], ◌∷◌, map}
use Rattle.std.specs.Prelude.{length, drop, Option, Some, None, unwrap_or}
use Rattle.std.specs.List.{list_all}
use Rattle.std.specs.declared.vec.Vec.{Vec}
use Rattle.std.specs.declared.alloc.Global.{Global}
use Rattle.cir_ast.specs.declared.program.Meant.{Meant}
use Rattle.cir_ast.specs.Tree.{Exprs, none, more, Variable, Assign, bare_variable}
use Rattle.cir_meaning.specs.Arrays.{Want, Whole}
use Rattle.cir_meaning.specs.Limits.{size_of}
use Rattle.cir_meaning.specs.Costs as C
use Rattle.cir_meaning.specs.Functions as F
use Rattle.cir_meaning.specs.Texts as T
use Rattle.cir_rules.specs.declared.shapes.Shapes.{Shapes}

-- the dimensions of each variable
abbrev pub dims_in : Shapes → ℕ → List ℕ
dims_in s = F.variable_dims (map (λ d. d.items) s.arguments.now)
    (map (λ v. bare_variable v.now) s.texts.now.variables.items)

-- the shapes of expressions, or none where one doesn't fit
abbrev pub following : List ℕ → Option (List (List ℕ)) → Option (List (List ℕ))
following dims None = None
following dims (Some rest) = Some (dims ∷ rest)

abbrev pub all_shapes : (ℕ → List ℕ) → Exprs Meant → Option (List (List ℕ))
all_shapes dims none = Some []
all_shapes dims (more e es) =
    F.with_shape (F.shape_in dims Whole e) (λ shape. following shape (all_shapes dims es))

-- calls with the shapes of their arguments
abbrev pub shaped : (ℕ → List ℕ) → List T.Called → List C.Made
shaped dims calls =
    map (λ c. record {
      function = c.function;
      shapes = map (λ e. unwrap_or (F.shape_in dims Whole e) []) c.arguments;
    })
    calls

abbrev pub lists_in : Option (Vec (Vec ℕ Global) Global) → Option (List (List ℕ))
lists_in None = None
lists_in (Some v) = Some (map (λ d. d.items) v.items)

-- the shape of a literal whose elements have these shapes
abbrev pub literal_of : Want → Option (List (List ℕ)) → Option (List ℕ)
literal_of want None = None
literal_of want (Some shapes) = F.with_shape (F.literal_shape shapes) (F.if_fits want)

-- what is left behind as many indices
abbrev pub dropped : ℕ → List ℕ → Option (List ℕ)
dropped count dims = if nat_lt (length dims) count then None else Some (drop count dims)

abbrev pub fits_all : (ℕ → List ℕ) → List T.Wanted → List (Assign Meant) → List (Variable Meant)
    → Bool
fits_all dims wanted assigns variables =
    list_all (λ x. is_some (F.shape_in dims x.want x.expr)) wanted
    && (list_all (F.assign_fits dims) assigns && list_all (λ v. F.value_fits dims v v.value)
    variables)

abbrev pub written_size : Variable Meant → ℕ
written_size v =
    size_of (map (λ e. unwrap_or (T.literal_number e) 0) (T.list_of v.dimensions))
