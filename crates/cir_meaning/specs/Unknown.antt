-- Statements under a condition that isn't known: which may stand there, and which variables they
-- may assign.
use Rattle.std.specs.Prelude.{ℕ, not, if◌then◌else◌, ◌==◌, nat_lt, List, [], ◌∷◌, ◌++◌, filter}
use Rattle.std.specs.Prelude.{flat_map, Option, Some, None}
use Rattle.std.specs.List.{list_any}
use Rattle.cir_ast.specs.declared.program.Spot.{Spot}
use Rattle.cir_ast.specs.declared.program.Meant.{Meant}
use Rattle.cir_ast.specs.declared.program.Meant.TheVariants as meant
use Rattle.cir_ast.specs.declared.refusal.Form.TheVariants.{LogPlace}
use Rattle.cir_ast.specs.declared.refusal.Kind.{Kind}
use Rattle.cir_ast.specs.declared.refusal.Kind.TheVariants.{UnknownControl, NotInProfile}
use Rattle.cir_ast.specs.Tree.{Variable, Assign, Set, Compound, Left, Increment, Decrement, First}
use Rattle.cir_ast.specs.Tree.{FirstVars, FirstAssign, Simple, Vars, Assigned, Statement, Block, If}
use Rattle.cir_ast.specs.Tree.{IfElse, While, For, Return, Assert, Log, Ended, Statements, empty}
use Rattle.cir_ast.specs.Tree.{then_more}

abbrev pub variable_of : Meant → List ℕ
variable_of (meant.Variable n) = n ∷ []
variable_of _ = []

-- the variables that are assigned, in source order, with repeats
abbrev pub assign_writes : Assign Meant → List ℕ
assign_writes (Set name m accessors e) = variable_of m
assign_writes (Compound name m accessors op e) = variable_of m
assign_writes (Left name m accessors arrow e) = []
assign_writes (Increment name m accessors) = variable_of m
assign_writes (Decrement name m accessors) = variable_of m

abbrev pub first_writes : First Meant → List ℕ
first_writes (FirstVars vs) = []
first_writes (FirstAssign a) = assign_writes a

abbrev pub simple_writes : Simple Meant → List ℕ
simple_writes (Assigned a) = assign_writes a
simple_writes _ = []

abbrev mutual
  pub writes : Statement Spot Meant → List ℕ
  writes (Block spot ss) = all_writes ss
  writes (If spot c s) = writes s
  writes (IfElse spot c s t) = writes s ++ writes t
  writes (While spot c s) = writes s
  writes (For spot first_spot f c step_spot a s) = first_writes f ++ (assign_writes a ++ writes s)
  writes (Return spot e) = []
  writes (Assert spot e) = []
  writes (Log spot arguments) = []
  writes (Ended spot s) = simple_writes s

  pub all_writes : Statements Spot Meant → List ℕ
  all_writes empty = []
  all_writes (then_more s ss) = writes s ++ all_writes ss

-- and those that are declared
abbrev pub vars_declare : List (Variable Meant) → List ℕ
vars_declare vs = flat_map (λ v. variable_of v.meant) vs

abbrev pub first_declares : First Meant → List ℕ
first_declares (FirstVars vs) = vars_declare vs
first_declares (FirstAssign a) = []

abbrev pub simple_declares : Simple Meant → List ℕ
simple_declares (Vars vs) = vars_declare vs
simple_declares _ = []

abbrev mutual
  pub declares : Statement Spot Meant → List ℕ
  declares (Block spot ss) = all_declares ss
  declares (If spot c s) = declares s
  declares (IfElse spot c s t) = declares s ++ declares t
  declares (While spot c s) = declares s
  declares (For spot first_spot f c step_spot a s) = first_declares f ++ declares s
  declares (Return spot e) = []
  declares (Assert spot e) = []
  declares (Log spot arguments) = []
  declares (Ended spot s) = simple_declares s

  pub all_declares : Statements Spot Meant → List ℕ
  all_declares empty = []
  all_declares (then_more s ss) = declares s ++ all_declares ss

-- a number into a rising list, once
abbrev pub with_number : ℕ → List ℕ → List ℕ
with_number n [] = n ∷ []
with_number n (m ∷ ms) =
    if nat_lt n m then n ∷ (m ∷ ms) else (if n == m then m ∷ ms else m ∷ with_number n ms)

abbrev pub rising : List ℕ → List ℕ
rising [] = []
rising (n ∷ ns) = with_number n (rising ns)

-- the outer variables that a statement may assign, rising, each once
abbrev pub outer_assigned : Statement Spot Meant → List ℕ
outer_assigned s = rising (filter (λ n. not (list_any (λ m. m == n) (declares s))) (writes s))

-- the first statement that may not stand there
pub record Fault : Type 0 where
  pub spot : Spot
  pub kind : Kind

abbrev pub control : Spot → Option Fault
control spot = Some record { spot = spot; kind = UnknownControl }

abbrev pub first_of : Option Fault → Option Fault → Option Fault
first_of (Some fault) rest = Some fault
first_of None rest = rest

abbrev pub meant_fault : Spot → Meant → Option Fault
meant_fault spot (meant.Variable n) = None
meant_fault spot _ = control spot

abbrev pub assign_fault : Spot → Assign Meant → Option Fault
assign_fault spot (Set name m accessors e) = meant_fault spot m
assign_fault spot (Compound name m accessors op e) = meant_fault spot m
assign_fault spot (Left name m accessors arrow e) = control spot
assign_fault spot (Increment name m accessors) = meant_fault spot m
assign_fault spot (Decrement name m accessors) = meant_fault spot m

abbrev pub first_fault : Spot → First Meant → Option Fault
first_fault spot (FirstVars vs) = None
first_fault spot (FirstAssign a) = assign_fault spot a

abbrev pub simple_fault : Spot → Simple Meant → Option Fault
simple_fault spot (Vars vs) = None
simple_fault spot (Assigned a) = assign_fault spot a
simple_fault spot _ = control spot

-- in the order of the text: in a `for` its two statements of the head stand before the body
abbrev mutual
  pub fault_of : Statement Spot Meant → Option Fault
  fault_of (Block spot ss) = fault_in ss
  fault_of (If spot c s) = fault_of s
  fault_of (IfElse spot c s t) = first_of (fault_of s) (fault_of t)
  fault_of (While spot c s) = fault_of s
  fault_of (For spot first_spot f c step_spot a s) =
      first_of (first_fault first_spot f) (first_of (assign_fault step_spot a) (fault_of s))
  fault_of (Return spot e) = control spot
  fault_of (Assert spot e) = None
  fault_of (Log spot arguments) = Some record { spot = spot; kind = NotInProfile LogPlace }
  fault_of (Ended spot s) = simple_fault spot s

  pub fault_in : Statements Spot Meant → Option Fault
  fault_in empty = None
  fault_in (then_more s ss) = first_of (fault_of s) (fault_in ss)
