-- What shows that sources are those of a step: what is told of them where they are made.
use Rattle.std.specs.Prelude.{◌≡◌, ◌⊎◌, ℕ, ◌<◌, ◌==◌, true, false, List, [], ◌∷◌, ◌++◌, length, map}
use Rattle.std.specs.Prelude.{Option, Some, None, Ok, Err, ⊤}
use Rattle.std.specs.List.{list_any, AllByRecursion}
use Rattle.cir_ast.specs.declared.program.Meant.{Meant}
use Rattle.cir_ast.specs.declared.program.Meant.TheVariants as meant
use Rattle.cir_ast.specs.declared.program.Spot.{Spot}
use Rattle.cir_ast.specs.Tree.{Expr, Number, Place, Call, Anonymous, Parentheses, Array, Unary}
use Rattle.cir_ast.specs.Tree.{Binary, Choice, Exprs, none, more, Accessors, done, index, member}
use Rattle.cir_ast.specs.Tree.{Variable as Declared, Assign, Set, First, FirstVars, FirstAssign}
use Rattle.cir_ast.specs.Tree.{Simple, Vars, Assigned, Statement, Block, If, IfElse, While, For}
use Rattle.cir_ast.specs.Tree.{Return, Assert, Log, Ended, Statements, empty, then_more}
use Rattle.cir_meaning.specs.Arrays.{Shaped}
use Rattle.cir_meaning.specs.Places.{is_inside}
use Rattle.cir_meaning.specs.Operators.{operator_of}
use Rattle.cir_meaning.specs.Costs.{Made}
use Rattle.cir_meaning.specs.RunValues.{Numbers, index_out}
use Rattle.cir_meaning.specs.Texts.{indices_of, list_of}
use Rattle.cir_meaning.specs.Unknown.{declares, outer_assigned}
use Rattle.cir_meaning.specs.Writing.{plain}
use Rattle.cir_steps.specs.Step.{Step}
use Rattle.wit_lower.specs.Homes.{Name, Variable, Signal, Port, Home, Homes, Scope, Ground, Front}
use Rattle.wit_lower.specs.Homes.{Named, find, port_of, offset}
use Rattle.wit_lower.specs.Pieces.{decided}
use Rattle.wit_lower.specs.Fits.{HasKey, UnlessSkipped, Sides}
use Rattle.wit_lower.specs.Sources.{Source, Sources, scope_of, input_of}
use Rattle.wit_lower.specs.Statements.{variable_scope, first_scope, scope_behind}
use Rattle.wit_lower.specs.Steps.{ShapesFit, SourcesFit}
use Rattle.wit_lower.specs.Tasks.{Task, Gives, Equal, Logs, Executes}
use Rattle.wit_lower.specs.Values.{shapes_of}
use Rattle.cir_emit.specs.Lowered.{HasArray, AreLoaded, lowered_ground}
use Rattle.cir_emit.specs.Reads.{Reading, task_reads}
use Rattle.cir_emit.specs.Tasks.{step_task}

-- a name of which the step has an array
abbrev pub IsThere : Step → (components : ℕ → List ℕ) → Name → Type 0
IsThere step components (Variable n) = n < length step.variables
IsThere step components (Signal n) =
    (s : Shaped (Option ℕ)) × (step.names.signal n ≡ Some s)
IsThere step components (Port n j name) =
    (indices : List ℕ) × (is_inside (components n) (map Some indices) ≡ true)
    × (length indices ≡ length (components n)) × (offset (components n) indices ≡ j)
    × (s : Shaped (Option ℕ)) × (step.names.part n indices name ≡ Ok s)

-- such a name has a home
abbrev pub HasHome : (There : Name → Type 0) → Homes → Name → Type 0
HasHome There homes x = There x → (h : Home) × (find x homes ≡ Some h)

abbrev pub EndHas : (There : Name → Type 0) → Homes → Front → Type 0
EndHas There homes (Named (meant.Variable n)) = HasHome There homes (Variable n)
EndHas There homes (Named (meant.Signal direction n)) = HasHome There homes (Signal n)
EndHas There homes _ = ⊤

-- a signal of the component that known indices inside its dimensions mean
abbrev pub PortHas : (There : Name → Type 0) → Ground → Homes → Front → List (Option ℕ)
    → (name : List ℕ) → Type 0
PortHas There g homes (Named (meant.Component n)) known name =
    (indices : List ℕ) → known ≡ map Some indices
    → is_inside (g.components n) known ≡ true
    → HasHome There homes (Port n (offset (g.components n) indices) name)
PortHas There g homes _ known name = ⊤

abbrev pub KeyHas : List Made → Meant → List (List ℕ) → Type 0
KeyHas keys (meant.Function f) shapes = HasKey keys record { function = f; shapes = shapes }
KeyHas keys _ shapes = ⊤

-- of a call that has its value already nothing is asked
abbrev pub UnlessKnown : Option Numbers → Type 0 → Type 0
UnlessKnown None call = call
UnlessKnown (Some d) call = ⊤

-- each name of an expression has a home, and each call its key; no array literal is empty
abbrev mutual
  pub HasAll : (There : Name → Type 0) → Ground → Homes → Expr Meant → Type 0
  HasAll There g homes (Number n) = ⊤
  HasAll There g homes (Place name m accessors) = PlaceHas There g homes (Named m) [] accessors
  HasAll There g homes (Call parallel name m arguments) =
      UnlessKnown (g.called (Call parallel name m arguments))
      (EachHas There g homes arguments × KeyHas g.keys m (shapes_of g homes arguments))
  HasAll There g homes (Anonymous parallel name m arguments inputs) = ⊤
  HasAll There g homes (Parentheses e) = HasAll There g homes e
  HasAll There g homes (Array none) = ⊥
  HasAll There g homes (Array (more e es)) = HasAll There g homes e × EachHas There g homes es
  HasAll There g homes (Unary o a) = HasAll There g homes a
  HasAll There g homes (Binary o a b) =
      HasAll There g homes a
      × UnlessSkipped (decided (operator_of o) (g.known a)) (HasAll There g homes b)
  HasAll There g homes (Choice c a b) =
      HasAll There g homes c
      × Sides (g.known c) (HasAll There g homes a) (HasAll There g homes b)

  pub EachHas : (There : Name → Type 0) → Ground → Homes → Exprs Meant → Type 0
  EachHas There g homes none = ⊤
  EachHas There g homes (more e es) = HasAll There g homes e × EachHas There g homes es

  pub PlaceHas : (There : Name → Type 0) → Ground → Homes → Front → (indices : List (Option ℕ))
      → Accessors Meant → Type 0
  PlaceHas There g homes front indices done = EndHas There homes front
  PlaceHas There g homes front indices (index e rest) =
      HasAll There g homes e × PlaceHas There g homes front (indices ++ g.known e ∷ []) rest
  PlaceHas There g homes front indices (member name rest) =
      PortHas There g homes front indices name
      × PlaceHas There g homes (port_of g homes front indices name) [] rest

-- of statements
module _ (There : Name → Type 0) (g : Ground) where
  abbrev pub SetHas : Homes → Meant → Accessors Meant → Expr Meant → Type 0
  SetHas homes m accessors e =
      EndHas There homes (Named m) × AllByRecursion (HasAll There g homes) (indices_of accessors)
      × HasAll There g homes e

  abbrev pub PlainHas : Homes → Assign Meant → Type 0
  PlainHas homes (Set name m accessors e) = SetHas homes m accessors e
  PlainHas homes _ = ⊤

  abbrev pub ValueHas : Homes → Meant → Option (Expr Meant) → Type 0
  ValueHas homes m None = ⊤
  ValueHas homes m (Some e) = SetHas homes m done e

  abbrev pub VariableHas : Scope → Declared Meant → Type 0
  VariableHas s v =
      AllByRecursion (HasAll There g s.homes) (list_of v.dimensions)
      × ValueHas (variable_scope g s v).homes v.meant v.value

  abbrev pub VariablesHave : Scope → List (Declared Meant) → Type 0
  VariablesHave s [] = ⊤
  VariablesHave s (v ∷ vs) = VariableHas s v × VariablesHave (variable_scope g s v) vs

  abbrev pub FirstHas : Scope → First Meant → Type 0
  FirstHas s (FirstVars vs) = VariablesHave s vs
  FirstHas s (FirstAssign a) = PlainHas s.homes (plain a)

  abbrev pub SimpleHas : Scope → Simple Meant → Type 0
  SimpleHas s (Vars vs) = VariablesHave s vs
  SimpleHas s (Assigned a) = PlainHas s.homes (plain a)
  SimpleHas s _ = ⊤

  abbrev mutual
    pub StatementHas : Scope → Statement Spot Meant → Type 0
    StatementHas s (Block spot ss) = StatementsHave s ss
    StatementHas s (If spot c a) = HasAll There g s.homes c × StatementHas s a
    StatementHas s (IfElse spot c a b) =
        HasAll There g s.homes c × StatementHas s a × StatementHas s b
    StatementHas s (While spot c a) = HasAll There g s.homes c × StatementHas s a
    StatementHas s (For spot first_spot f c step_spot a body) =
        FirstHas s f × HasAll There g (first_scope g s f).homes c
        × StatementHas (first_scope g s f) body
        × PlainHas (scope_behind g (first_scope g s f) body).homes (plain a)
    StatementHas s (Return spot e) = ⊤
    StatementHas s (Assert spot e) = HasAll There g s.homes e
    StatementHas s (Log spot arguments) = ⊤
    StatementHas s (Ended spot x) = SimpleHas s x

    pub StatementsHave : Scope → Statements Spot Meant → Type 0
    StatementsHave s empty = ⊤
    StatementsHave s (then_more a rest) =
        StatementHas s a × StatementsHave (scope_behind g s a) rest

  -- variables that the statement declares have no home before it, and others that it assigns have
  abbrev pub TaskHas : Scope → Task → Type 0
  TaskHas s (Gives e) = HasAll There g s.homes e
  TaskHas s (Equal a b) = HasAll There g s.homes a × HasAll There g s.homes b
  TaskHas s (Logs es) = AllByRecursion (HasAll There g s.homes) es
  TaskHas s (Executes a targets) =
      StatementHas s a
      × ((n : ℕ) → list_any (λ m. m == n) (declares a) ≡ true → find (Variable n) s.homes ≡ None)
      × ((n : ℕ) → list_any (λ m. m == n) (outer_assigned a) ≡ true
      → HasHome There s.homes (Variable n))

-- which indices are outside the dimensions of an array of components
pub record AreSized (step : Step) (components : ℕ → List ℕ) : Type 0 where
  pub outside : (n : ℕ) (indices name : List ℕ)
      → is_inside (components n) (map Some indices) ≡ false
      → step.names.part n indices name ≡ Err index_out
  pub inside : (n : ℕ) (indices name : List ℕ) → step.names.part n indices name ≡ Err index_out
      → is_inside (components n) (map Some indices) ≡ false

abbrev pub IsAmong : Reading → List Reading → Type 0
IsAmong r [] = ⊥
IsAmong r (q ∷ reads) = (q ≡ r) ⊎ IsAmong r reads

-- a source of an element that may be read, and no later source of it has another input
pub record StandsFor (list : List Source) (reads : List Reading) (x : Source) : Type 0 where
  pub among : IsAmong (record { name = x.name; element = x.element }) reads
  pub last : input_of x.name list x.element ≡ Some x.input

-- What has a home is an array of the step, and what is named and is there has a home; so have calls
-- their keys. Each element that may be read has its source, and no other element has one.
pub record AreSourcesOf (keys : List Made) (step : Step) (sources : Sources) : Type 0 where
  pub shapes : ShapesFit (length step.variables) sources.shapes
  pub list : SourcesFit (scope_of sources).homes sources.list
  pub arrays : (x : Name) (h : Home) → find x (scope_of sources).homes ≡ Some h
      → HasArray step sources x h
  pub components : AreSized step sources.components
  pub called : (e : Expr Meant) → sources.called e ≡ step.names.known e
  pub has : TaskHas (IsThere step sources.components) (lowered_ground keys step sources)
      (scope_of sources) (step_task step)
  pub loaded : AreLoaded sources
      (task_reads (lowered_ground keys step sources) (scope_of sources).homes (step_task step))
  pub few : AllByRecursion (StandsFor sources.list
      (task_reads (lowered_ground keys step sources) (scope_of sources).homes (step_task step)))
      sources.list
