-- What a run-time statement costs: the nodes of its tree, the elements that it may read, and the
-- calls that it makes when it runs. A call that has its value already is one node, and nothing of
-- it is read or called. An operand that isn't looked at is neither read nor called; its nodes count
-- as they are written.
use Rattle.std.specs.Prelude.{ℕ, ◌+◌, Bool, true, false, not, if◌then◌else◌, List, [], ◌∷◌, ◌++◌}
use Rattle.std.specs.Prelude.{map, filter, Option, Some, None, Ok, Err}
use Rattle.cir_ast.specs.declared.program.Meant.{Meant}
use Rattle.cir_ast.specs.declared.program.Meant.TheVariants as meant
use Rattle.cir_ast.specs.Tree.{Expr, Number, Place, Call, Anonymous, Parentheses, Array, Unary}
use Rattle.cir_ast.specs.Tree.{Binary, Choice, Exprs, none, more, Accessors, done, index, member}
use Rattle.cir_meaning.specs.Tried.{Where, Tried}
use Rattle.cir_meaning.specs.Arrays.{Datum, Whole, Reach, reach, item_at, the_item, is_known}
use Rattle.cir_meaning.specs.Arrays.{is_all_known}
use Rattle.cir_meaning.specs.Values.{Value, Opaque, known_number, side_of}
use Rattle.cir_meaning.specs.Operators.{operator_of, left_tells, shading, first_shading}
use Rattle.cir_meaning.specs.Operators.{second_shading}
use Rattle.cir_meaning.specs.Frame.{State, Context, uncounted}
use Rattle.cir_meaning.specs.Reading.{Origin, Stored, Wired, Lost, Root, Named, Found, origin_of}
use Rattle.cir_meaning.specs.Reading.{inner_origin}
use Rattle.cir_meaning.specs.Evaluate.{value_in}

-- an element of a variable, or a signal by its number
pub data Cell : Type 0 where
  Element : (variable element : ℕ) → Cell
  Wire : ℕ → Cell

-- a call that is made when the statement runs: the function, and the dimensions of its arguments
pub record Made : Type 0 where
  pub function : ℕ
  pub shapes : List (List ℕ)

pub record Cost : Type 0 where
  pub nodes : ℕ
  pub reads : List Cell
  pub calls : List Made

abbrev pub node : ℕ → Cost
node n = record { nodes = n; reads = []; calls = [] }

abbrev pub both : Cost → Cost → Cost
both c d =
    record { nodes = c.nodes + d.nodes; reads = c.reads ++ d.reads; calls = c.calls ++ d.calls }

abbrev pub above : Cost → Cost
above c = both (node 1) c

-- what an expression is where it stands
abbrev pub datum_of : Tried (Datum × State) → Option Datum
datum_of (Ok (d, s)) = Some d
datum_of (Err e) = None

abbrev pub seen : Context → Where → Bool → Expr Meant → State → Option Datum
seen k w dark e s = datum_of (value_in k w dark Whole e (uncounted s))

abbrev pub value_of : Option Datum → Value
value_of None = Opaque
value_of (Some d) = the_item d

abbrev pub is_settled : Option Datum → Bool
is_settled None = false
is_settled (Some d) = is_all_known d

abbrev pub shape_of : Option Datum → List ℕ
shape_of None = []
shape_of (Some d) = d.dims

-- nodes as they are written
abbrev mutual
  pub nodes_of : Expr Meant → ℕ
  nodes_of (Number n) = 1
  nodes_of (Place name m accessors) = 1 + place_nodes accessors
  nodes_of (Call parallel name m arguments) = 1 + all_nodes arguments
  nodes_of (Anonymous parallel name m arguments inputs) = 1
  nodes_of (Parentheses e) = 1 + nodes_of e
  nodes_of (Array elements) = 1 + all_nodes elements
  nodes_of (Unary op a) = 1 + nodes_of a
  nodes_of (Binary op a b) = 1 + (nodes_of a + nodes_of b)
  nodes_of (Choice c a b) = 1 + (nodes_of c + (nodes_of a + nodes_of b))

  pub all_nodes : Exprs Meant → ℕ
  all_nodes none = 0
  all_nodes (more e es) = nodes_of e + all_nodes es

  pub place_nodes : Accessors Meant → ℕ
  place_nodes done = 0
  place_nodes (index e rest) = nodes_of e + place_nodes rest
  place_nodes (member name rest) = place_nodes rest

-- the elements of a variable that aren't known
abbrev pub unknown_at : ℕ → Datum → List ℕ → List Cell
unknown_at n d places =
    map (λ k. Element n k) (filter (λ k. not (is_known (item_at d.items k))) places)

abbrev pub places_in : Tried Reach → List ℕ
places_in (Ok r) = r.places
places_in (Err e) = []

abbrev pub origin_reads : Where → Meant → List (Option ℕ) → Tried Origin → List Cell
origin_reads w (meant.Variable n) indices (Ok (Stored d)) =
    unknown_at n d (places_in (reach w true Whole d.dims indices))
origin_reads w m indices (Ok (Wired may_read e)) =
    map (λ k. Wire (e.first + k)) (places_in (reach w true Whole e.dims indices))
origin_reads w m indices _ = []

abbrev pub root_of : Tried Origin → Root
root_of (Ok source) = Found source
root_of (Err e) = Found Lost

abbrev pub call_made : Context → Where → Bool → Meant → List (List ℕ) → List Made
call_made k w dark (meant.Function f) shapes = record { function = f; shapes = shapes } ∷ []
call_made k w dark _ shapes = []

abbrev pub operand : Option Bool → (Bool → Cost) → ℕ → Cost
operand None cost nodes = node nodes
operand (Some dark) cost nodes = cost dark

abbrev mutual
  pub cost_of : Context → Where → (shaded : Bool) → Expr Meant → State → Cost
  cost_of k w shaded (Number n) s = node 1
  cost_of k w shaded (Place name m accessors) s =
      above (place_cost k w shaded m (Named m) [] accessors s)
  cost_of k w shaded (Call parallel name m arguments) s =
      if is_settled (seen k w shaded (Call parallel name m arguments) s) then node 1
      else above (both (all_cost k w shaded arguments s)
      record {
        nodes = 0;
        reads = [];
        calls = call_made k w shaded m
            (shapes_in k w shaded arguments s);
      })
  cost_of k w shaded (Anonymous parallel name m arguments inputs) s = node 1
  cost_of k w shaded (Parentheses e) s = above (cost_of k w shaded e s)
  cost_of k w shaded (Array elements) s = above (all_cost k w shaded elements s)
  cost_of k w shaded (Unary op a) s = above (cost_of k w shaded a s)
  cost_of k w shaded (Binary op a b) s =
      above (both (cost_of k w shaded a s)
      (operand (shading (left_tells (operator_of op) (value_of (seen k w shaded a s))) shaded)
      (λ dark. cost_of k w dark b s) (nodes_of b)))
  cost_of k w shaded (Choice c a b) s =
      above (both (cost_of k w shaded c s)
      (both (operand (first_shading (side_of (value_of (seen k w shaded c s))) shaded)
      (λ dark. cost_of k w dark a s) (nodes_of a))
      (operand (second_shading (side_of (value_of (seen k w shaded c s))) shaded)
      (λ dark. cost_of k w dark b s) (nodes_of b))))

  pub all_cost : Context → Where → Bool → Exprs Meant → State → Cost
  all_cost k w shaded none s = node 0
  all_cost k w shaded (more e es) s = both (cost_of k w shaded e s) (all_cost k w shaded es s)

  pub shapes_in : Context → Where → Bool → Exprs Meant → State → List (List ℕ)
  shapes_in k w shaded none s = []
  shapes_in k w shaded (more e es) s = shape_of (seen k w shaded e s) ∷ shapes_in k w shaded es s

  -- a place is followed to its end, as where it is read
  pub place_cost : Context → Where → Bool → Meant → Root → List (Option ℕ) → Accessors Meant → State
      → Cost
  place_cost k w shaded m root indices done s =
      record { nodes = 0; reads = origin_reads w m indices (origin_of w root s.frame); calls = [] }
  place_cost k w shaded m root indices (index e rest) s =
      both (cost_of k w shaded e s)
      (place_cost k w shaded m root (indices ++ known_number (value_of (seen k w shaded e s)) ∷ [])
      rest s)
  place_cost k w shaded m root indices (member name rest) s =
      place_cost k w shaded m (root_of (inner_origin w shaded root indices name s.frame)) [] rest s

-- the indices of a place that is written
abbrev pub indices_cost : Context → Where → Bool → Accessors Meant → State → Cost
indices_cost k w shaded done s = node 0
indices_cost k w shaded (index e rest) s =
    both (cost_of k w shaded e s) (indices_cost k w shaded rest s)
indices_cost k w shaded (member name rest) s = indices_cost k w shaded rest s
