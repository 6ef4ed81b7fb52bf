-- The code of expressions. The numbers of a value come to the slots from `top` on, which are free:
-- a number to `top`, an array to as many slots as it has elements.
use Rattle.std.specs.Prelude.{ℕ, suc, ◌+◌, ◌%◌, if◌then◌else◌, List, [], ◌∷◌, ◌++◌, length, drop}
use Rattle.std.specs.Prelude.{Option, Some, None}
use Rattle.gold_field.specs.declared.gold.TheConstants.{P}
use Rattle.wit_code.specs.declared.code.Op.TheVariants as op
use Rattle.cir_ast.specs.declared.program.Meant.{Meant}
use Rattle.cir_ast.specs.declared.program.Meant.TheVariants as meant
use Rattle.cir_ast.specs.Tree.{Expr, Number, Place, Call, Anonymous, Parentheses, Array, Unary}
use Rattle.cir_ast.specs.Tree.{Binary, Choice, Exprs, none, more, Accessors, done, index, member}
use Rattle.cir_meaning.specs.Operators.{operator_of, unary_of}
use Rattle.cir_meaning.specs.Costs.{Made}
use Rattle.cir_meaning.specs.Functions.{same_made}
use Rattle.cir_meaning.specs.RunValues.{Numbers}
use Rattle.wit_lower.specs.Homes.{Home, Homes, Ground, Front, Named, home_of, port_of}
use Rattle.wit_lower.specs.Homes.{component_dims, slots_of}
use Rattle.wit_lower.specs.Pieces.{Code, followed, binary_code, decided, lazy_code, choice_code}
use Rattle.wit_lower.specs.Pieces.{constants, bounds, read_code}

abbrev pub part_shape : Option Home → (count : ℕ) → List ℕ
part_shape None count = []
part_shape (Some h) count = drop count h.dims

abbrev pub count_of : Exprs Meant → ℕ
count_of none = 0
count_of (more e es) = suc (count_of es)

-- the dimensions of a place, behind the indices so far
abbrev pub place_shape : Ground → Homes → Front → (indices : List (Option ℕ)) → Accessors Meant
    → List ℕ
place_shape g homes front indices done = part_shape (home_of homes front) (length indices)
place_shape g homes front indices (index e rest) =
    place_shape g homes front (indices ++ g.known e ∷ []) rest
place_shape g homes front indices (member name rest) =
    place_shape g homes (port_of g homes front indices name) [] rest

-- a call that has its value already has the value's dimensions, and isn't made
abbrev pub called_shape : Option Numbers → List ℕ
called_shape None = []
called_shape (Some d) = d.dims

abbrev pub unless_called : Option Numbers → (top : ℕ) → Code → Code
unless_called None top call = call
unless_called (Some d) top call = constants top d.items

-- the dimensions of an expression; a call that is made gives a number
abbrev pub shape_of : Ground → Homes → Expr Meant → List ℕ
shape_of g homes (Number n) = []
shape_of g homes (Place name m accessors) = place_shape g homes (Named m) [] accessors
shape_of g homes (Call parallel name m arguments) =
    called_shape (g.called (Call parallel name m arguments))
shape_of g homes (Anonymous parallel name m arguments inputs) = []
shape_of g homes (Parentheses e) = shape_of g homes e
shape_of g homes (Array none) = []
shape_of g homes (Array (more e es)) = suc (count_of es) ∷ shape_of g homes e
shape_of g homes (Unary o a) = []
shape_of g homes (Binary o a b) = []
shape_of g homes (Choice c a b) = []

abbrev pub size_of : Ground → Homes → Expr Meant → ℕ
size_of g homes e = slots_of (shape_of g homes e)

abbrev pub shapes_of : Ground → Homes → Exprs Meant → List (List ℕ)
shapes_of g homes none = []
shapes_of g homes (more e es) = shape_of g homes e ∷ shapes_of g homes es

-- the number of a procedure is the place of its key; the table has each key that is asked for
abbrev pub number_of : List Made → Made → ℕ
number_of [] key = 0
number_of (k ∷ ks) key = if same_made k key then 0 else suc (number_of ks key)

abbrev pub call_code : List Made → (top : ℕ) → Meant → List (List ℕ) → Code
call_code keys top (meant.Function f) shapes =
    op.Call (number_of keys record { function = f; shapes = shapes }) top top ∷ []
call_code keys top _ shapes = []

abbrev mutual
  pub expr_code : Ground → Homes → (top place : ℕ) → Expr Meant → Code
  expr_code g homes top place (Number n) = op.Const top (n % P) ∷ []
  expr_code g homes top place (Place name m accessors) =
      place_code g homes top place (Named m) [] accessors
  expr_code g homes top place (Call parallel name m arguments) =
      unless_called (g.called (Call parallel name m arguments)) top
      (exprs_code g homes top place arguments ++
      call_code g.keys top m (shapes_of g homes arguments))
  expr_code g homes top place (Anonymous parallel name m arguments inputs) = []
  expr_code g homes top place (Parentheses e) = expr_code g homes top place e
  expr_code g homes top place (Array elements) = exprs_code g homes top place elements
  expr_code g homes top place (Unary o a) =
      expr_code g homes top place a ++ op.Un (unary_of o) top top ∷ []
  expr_code g homes top place (Binary o a b) =
      lazy_code (decided (operator_of o) (g.known a)) top (expr_code g homes top place a)
      (binary_code (operator_of o) top place (expr_code g homes top place a)
      (λ slot p. expr_code g homes slot p b))
  expr_code g homes top place (Choice c a b) =
      followed place (expr_code g homes top place c) (λ p. choice_code (g.known c) top p
      (λ q. expr_code g homes top q a) (λ q. expr_code g homes top q b))

  -- one value behind the other
  pub exprs_code : Ground → Homes → (top place : ℕ) → Exprs Meant → Code
  exprs_code g homes top place none = []
  exprs_code g homes top place (more e es) =
      followed place (expr_code g homes top place e)
      (λ p. exprs_code g homes (top + size_of g homes e) p es)

  -- the indices so far stand from `top` on
  pub place_code : Ground → Homes → (top place : ℕ) → Front → (indices : List (Option ℕ))
      → Accessors Meant → Code
  place_code g homes top place front indices done =
      read_code (home_of homes front) top (length indices)
  place_code g homes top place front indices (index e rest) =
      followed place (expr_code g homes (top + length indices) place e)
      (λ p. place_code g homes top p front (indices ++ g.known e ∷ []) rest)
  place_code g homes top place front indices (member name rest) =
      followed place (bounds top (component_dims g front) (length indices))
      (λ p. place_code g homes top p (port_of g homes front indices name) [] rest)

-- numbers that are wanted, one behind the other: the indices of a place that is written
abbrev pub indices_code : Ground → Homes → (top place : ℕ) → Accessors Meant → Code
indices_code g homes top place done = []
indices_code g homes top place (member name rest) = []
indices_code g homes top place (index e rest) =
    followed place (expr_code g homes top place e) (λ p. indices_code g homes (top + 1) p rest)
