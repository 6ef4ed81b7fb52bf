-- The code of statements. A declaration takes the next slots, for the rest of its block.
use Rattle.std.specs.Prelude.{ℕ, ◌+◌, List, [], ◌∷◌, ◌++◌, map, unwrap_or, Option, Some, None}
use Rattle.wit_code.specs.declared.code.Op.TheVariants as op
use Rattle.cir_ast.specs.declared.program.Spot.{Spot}
use Rattle.cir_ast.specs.declared.program.Meant.{Meant}
use Rattle.cir_ast.specs.declared.program.Meant.TheVariants as meant
use Rattle.cir_ast.specs.Tree.{Expr, Exprs, none, more, Accessors, done, Variable, Assign, Set}
use Rattle.cir_ast.specs.Tree.{First, FirstVars, FirstAssign, Simple, Vars, Assigned, Statement}
use Rattle.cir_ast.specs.Tree.{Block, If, IfElse, While, For, Return, Assert, Log, Ended}
use Rattle.cir_ast.specs.Tree.{Statements, empty, then_more}
use Rattle.cir_meaning.specs.Writing.{plain}
use Rattle.cir_meaning.specs.Reached.{indices_count}
use Rattle.cir_meaning.specs.Texts.{list_of}
use Rattle.wit_lower.specs.Homes.{Scope, Ground, Named, home_of, with_variable, slots_of}
use Rattle.wit_lower.specs.Pieces.{Code, followed, unless_zero, either, turns, write_code, zeros}
use Rattle.wit_lower.specs.Values.{expr_code, indices_code, size_of}

-- the value, the indices, then the write
abbrev pub set_code : Ground → Scope → (place : ℕ) → Meant → Accessors Meant → Expr Meant → Code
set_code g s place m accessors e =
    followed place (expr_code g s.homes s.top place e) (λ p.
    indices_code g s.homes (s.top + size_of g s.homes e) p accessors ++
    write_code (home_of s.homes (Named m)) (s.top + size_of g s.homes e) (indices_count accessors)
    s.top (size_of g s.homes e))

abbrev pub plain_code : Ground → Scope → (place : ℕ) → Assign Meant → Code
plain_code g s place (Set name m accessors e) = set_code g s place m accessors e
plain_code g s place _ = []

abbrev pub assign_code : Ground → Scope → (place : ℕ) → Assign Meant → Code
assign_code g s place a = plain_code g s place (plain a)

-- dimensions are evaluated, although their numbers are known
abbrev pub dims_code : Ground → Scope → (place : ℕ) → Exprs Meant → Code
dims_code g s place none = []
dims_code g s place (more e es) =
    followed place (expr_code g s.homes s.top place e) (λ p. dims_code g s p es)

abbrev pub known_dims : Ground → Variable Meant → List ℕ
known_dims g v = map (λ e. unwrap_or (g.known e) 0) (list_of v.dimensions)

abbrev pub declared_scope : Ground → Scope → Variable Meant → Meant → Scope
declared_scope g s v (meant.Variable n) = with_variable n (known_dims g v) s
declared_scope g s v _ = s

abbrev pub variable_scope : Ground → Scope → Variable Meant → Scope
variable_scope g s v = declared_scope g s v v.meant

abbrev pub value_code : Ground → Scope → (place : ℕ) → Meant → Option (Expr Meant) → Code
value_code g s place m None = []
value_code g s place m (Some e) = set_code g s place m done e

-- a variable begins with 0 in each element, whatever stood in its slots
abbrev pub variable_code : Ground → Scope → (place : ℕ) → Variable Meant → Code
variable_code g s place v =
    followed place (dims_code g s place v.dimensions ++ zeros s.top (slots_of (known_dims g v)))
    (λ p. value_code g (variable_scope g s v) p v.meant v.value)

abbrev pub variables_scope : Ground → Scope → List (Variable Meant) → Scope
variables_scope g s [] = s
variables_scope g s (v ∷ vs) = variables_scope g (variable_scope g s v) vs

abbrev pub variables_code : Ground → Scope → (place : ℕ) → List (Variable Meant) → Code
variables_code g s place [] = []
variables_code g s place (v ∷ vs) =
    followed place (variable_code g s place v)
    (λ p. variables_code g (variable_scope g s v) p vs)

abbrev pub first_scope : Ground → Scope → First Meant → Scope
first_scope g s (FirstVars vs) = variables_scope g s vs
first_scope g s (FirstAssign a) = s

abbrev pub first_code : Ground → Scope → (place : ℕ) → First Meant → Code
first_code g s place (FirstVars vs) = variables_code g s place vs
first_code g s place (FirstAssign a) = assign_code g s place a

abbrev pub simple_code : Ground → Scope → (place : ℕ) → Simple Meant → Code
simple_code g s place (Vars vs) = variables_code g s place vs
simple_code g s place (Assigned a) = assign_code g s place a
simple_code g s place _ = []

-- what can be named behind a statement
abbrev pub simple_scope : Ground → Scope → Simple Meant → Scope
simple_scope g s (Vars vs) = variables_scope g s vs
simple_scope g s _ = s

abbrev pub scope_behind : Ground → Scope → Statement Spot Meant → Scope
scope_behind g s (Ended spot x) = simple_scope g s x
scope_behind g s _ = s

abbrev pub test_code : Ground → Scope → (place : ℕ) → Expr Meant → Code
test_code g s place c = expr_code g s.homes s.top place c

abbrev mutual
  pub statement_code : Ground → Scope → (place : ℕ) → Statement Spot Meant → Code
  statement_code g s place (Block spot ss) = statements_code g s place ss
  statement_code g s place (If spot c a) =
      followed place (test_code g s place c) (λ p.
      unless_zero s.top p (λ q. statement_code g s q a))
  statement_code g s place (IfElse spot c a b) =
      followed place (test_code g s place c) (λ p. either s.top p
      (λ q. statement_code g s q a) (λ q. statement_code g s q b))
  statement_code g s place (While spot c a) =
      turns s.top place (λ q. statement_code g s q a) (λ q. test_code g s q c)
  -- a step names what its body alone declares, as names are resolved
  statement_code g s place (For spot first_spot f c step_spot a body) =
      followed place (first_code g s place f) (λ p. let inner : Scope = first_scope g s f in
      turns inner.top p (λ q. followed q (statement_code g inner q body)
      (λ r. assign_code g (scope_behind g inner body) r a)) (λ q. test_code g inner q c))
  statement_code g s place (Return spot e) =
      expr_code g s.homes s.top place e ++ op.Return s.top ∷ []
  statement_code g s place (Assert spot e) = test_code g s place e ++ op.Assert s.top ∷ []
  statement_code g s place (Log spot arguments) = []
  statement_code g s place (Ended spot x) = simple_code g s place x

  pub statements_code : Ground → Scope → (place : ℕ) → Statements Spot Meant → Code
  statements_code g s place empty = []
  statements_code g s place (then_more a rest) =
      followed place (statement_code g s place a)
      (λ p. statements_code g (scope_behind g s a) p rest)
