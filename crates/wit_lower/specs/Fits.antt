-- What has to fit in a statement so that it has code: names have homes, shapes fit, and calls have
-- their keys.
use Rattle.std.specs.Prelude.{◌≡◌, ℕ, zero, suc, ◌+◌, ◌≤◌, true, false, List, [], ◌∷◌, ◌++◌}
use Rattle.std.specs.Prelude.{◌<◌, All, Option, Some, None, slice_get, length, drop, map}
use Rattle.gold_field.specs.declared.gold.TheConstants.{P}
use Rattle.cir_ast.specs.declared.program.Spot.{Spot}
use Rattle.cir_ast.specs.declared.program.Meant.{Meant}
use Rattle.cir_ast.specs.declared.program.Meant.TheVariants as meant
use Rattle.cir_ast.specs.Tree.{Expr, Number, Place, Call, Anonymous, Parentheses, Array, Unary}
use Rattle.cir_ast.specs.Tree.{Binary, Choice, Exprs, none, more, Accessors, done, index, member}
use Rattle.cir_ast.specs.Tree.{Variable as Declared, Assign, Set, First, FirstVars, FirstAssign}
use Rattle.cir_ast.specs.Tree.{Simple, Vars, Assigned, Statement, Block, If, IfElse, While, For}
use Rattle.cir_ast.specs.Tree.{Return, Assert, Log, Ended, Statements, empty, then_more}
use Rattle.cir_meaning.specs.Places.{all_known, elements, is_inside}
use Rattle.cir_meaning.specs.Limits.{is_too_large}
use Rattle.cir_meaning.specs.RunValues.{Numbers}
use Rattle.cir_meaning.specs.Costs.{Made}
use Rattle.wit_lower.specs.Homes.{Variable, Home, Homes, Scope, Ground, Front, Named, Found, Lost}
use Rattle.wit_lower.specs.Homes.{find, home_of, port_of, with_variable, slots_of}
use Rattle.wit_lower.specs.Pieces.{decided}
use Rattle.cir_meaning.specs.Operators.{operator_of}
use Rattle.cir_meaning.specs.Writing.{plain}
use Rattle.cir_meaning.specs.Reached.{indices_count}
use Rattle.wit_lower.specs.Statements.{known_dims, variable_scope, first_scope, scope_behind}
use Rattle.wit_lower.specs.Values.{shape_of, shapes_of, number_of}

-- the homes stand one behind the other, and no array is too large
abbrev pub AreLaid : Homes → (top : ℕ) → Type 0
AreLaid [] top = Unit {0}
AreLaid (p ∷ ps) top =
    (p.home.base + slots_of p.home.dims ≤ top) × (is_too_large p.home.dims ≡ false) ×
    AreLaid ps p.home.base

-- a call's key is in the table
pub record HasKey (keys : List Made) (key : Made) : Type 0 where
  pub found : Made
  pub there : slice_get keys (number_of keys key) ≡ Some found
  pub function : found.function ≡ key.function
  pub shapes : found.shapes ≡ key.shapes

-- a value has all its elements, or none where it is too large; they are numbers of the field
pub record AreNumbers (d : Numbers) : Type 0 where
  pub count : length d.items ≡ slots_of d.dims
  pub numbers : All (λ n. n < P) d.items

-- of a call that has its value already no argument has to fit, and it has no key
abbrev pub UnlessCalled : Option Numbers → (call : Type 0) → Type 0
UnlessCalled None call = call
UnlessCalled (Some d) call = AreNumbers d

abbrev pub IsCalled : List Made → Meant → List (List ℕ) → Type 0
IsCalled keys (meant.Function f) shapes = HasKey keys record { function = f; shapes = shapes }
IsCalled keys _ shapes = ⊥

pub record HasHome (home : Option Home) (count : ℕ) : Type 0 where
  pub at : Home
  pub found : home ≡ Some at
  pub rank : count ≤ length at.dims

abbrev pub EndFits : Homes → Front → (count : ℕ) → Type 0
EndFits homes (Named m) count = HasHome (home_of homes (Named m)) count
EndFits homes (Found home) count = HasHome home count
EndFits homes Lost count = Unit {0}

-- a component; known indices that stand inside its dimensions are one for each
abbrev pub IsElement : Ground → Front → (indices : List (Option ℕ)) → Type 0
IsElement g (Named (meant.Component n)) indices =
    (known : List ℕ) → all_known indices ≡ Some known
    → is_inside (g.components n) (map Some known) ≡ true
    → length known ≡ length (g.components n)
IsElement g _ indices = ⊥

-- the elements of an array literal have one shape
abbrev pub HaveShape : Ground → Homes → (dims : List ℕ) → Exprs Meant → Type 0
HaveShape g homes dims none = Unit {0}
HaveShape g homes dims (more e es) =
    (shape_of g homes e ≡ dims) × HaveShape g homes dims es

-- an operand that a known number skips needn't fit
abbrev pub UnlessSkipped : (decided : Option ℕ) → Type 0 → Type 0
UnlessSkipped None fits = fits
UnlessSkipped (Some n) fits = Unit {0}

abbrev pub Sides : (condition : Option ℕ) → (first second : Type 0) → Type 0
Sides None first second = first × second
Sides (Some zero) first second = second
Sides (Some (suc m)) first second = first

abbrev mutual
  pub Fits : Ground → Homes → Expr Meant → Type 0
  Fits g homes (Number n) = Unit {0}
  Fits g homes (Place name m accessors) = PlaceFits g homes (Named m) [] accessors
  Fits g homes (Call parallel name m arguments) =
      UnlessCalled (g.called (Call parallel name m arguments))
      (AllFit g homes arguments × IsCalled g.keys m (shapes_of g homes arguments))
  Fits g homes (Anonymous parallel name m arguments inputs) = ⊥
  Fits g homes (Parentheses e) = Fits g homes e
  Fits g homes (Array none) = ⊥
  Fits g homes (Array (more e es)) =
      Fits g homes e × AllFit g homes es × HaveShape g homes (shape_of g homes e) es
  Fits g homes (Unary o a) = Fits g homes a × (shape_of g homes a ≡ [])
  Fits g homes (Binary o a b) =
      (Fits g homes a × (shape_of g homes a ≡ [])) ×
      UnlessSkipped (decided (operator_of o) (g.known a))
      (Fits g homes b × (shape_of g homes b ≡ []))
  Fits g homes (Choice c a b) =
      (Fits g homes c × (shape_of g homes c ≡ [])) ×
      Sides (g.known c) (Fits g homes a × (shape_of g homes a ≡ []))
      (Fits g homes b × (shape_of g homes b ≡ []))

  pub AllFit : Ground → Homes → Exprs Meant → Type 0
  AllFit g homes none = Unit {0}
  AllFit g homes (more e es) = Fits g homes e × AllFit g homes es

  pub PlaceFits : Ground → Homes → Front → (indices : List (Option ℕ)) → Accessors Meant → Type 0
  PlaceFits g homes front indices done = EndFits homes front (length indices)
  PlaceFits g homes front indices (index e rest) =
      Fits g homes e × (shape_of g homes e ≡ []) ×
      PlaceFits g homes front (indices ++ g.known e ∷ []) rest
  PlaceFits g homes front indices (member name rest) =
      IsElement g front indices × PlaceFits g homes (port_of g homes front indices name) [] rest

-- statements; `free` are the variables that may be assigned, and `Ends` says whether `return`
-- stands
pub record IsKnown (number : Option ℕ) : Type 0 where
  pub value : ℕ
  pub told : number ≡ Some value

abbrev pub TestFits : Ground → Homes → Expr Meant → Type 0
TestFits g homes e = Fits g homes e × (shape_of g homes e ≡ [])

abbrev pub IndicesFit : Ground → Homes → Accessors Meant → Type 0
IndicesFit g homes done = Unit {0}
IndicesFit g homes (index e rest) = TestFits g homes e × IndicesFit g homes rest
IndicesFit g homes (member name rest) = ⊥

pub record SetFits (free : ℕ → Type 0) (g : Ground) (homes : Homes) (n : ℕ)
    (accessors : Accessors Meant) (e : Expr Meant) : Type 0 where
  pub home : Home
  pub found : find (Variable n) homes ≡ Some home
  pub value : Fits g homes e
  pub indices : IndicesFit g homes accessors
  pub rank : indices_count accessors ≤ length home.dims
  pub shape : shape_of g homes e ≡ drop (indices_count accessors) home.dims
  pub may : free n

abbrev pub PlaceSetFits : (free : ℕ → Type 0) → Ground → Homes → Meant → Accessors Meant
    → Expr Meant → Type 0
PlaceSetFits free g homes (meant.Variable n) accessors e = SetFits free g homes n accessors e
PlaceSetFits free g homes _ accessors e = ⊥

abbrev pub PlainFits : (free : ℕ → Type 0) → Ground → Homes → Assign Meant → Type 0
PlainFits free g homes (Set name m accessors e) = PlaceSetFits free g homes m accessors e
PlainFits free g homes _ = ⊥

abbrev pub AssignFits : (free : ℕ → Type 0) → Ground → Homes → Assign Meant → Type 0
AssignFits free g homes a = PlainFits free g homes (plain a)

abbrev pub DimsFit : Ground → Homes → Exprs Meant → Type 0
DimsFit g homes none = Unit {0}
DimsFit g homes (more e es) = TestFits g homes e × IsKnown (g.known e) × DimsFit g homes es

abbrev pub ValueFits : (free : ℕ → Type 0) → Ground → Homes → Meant → Option (Expr Meant) → Type 0
ValueFits free g homes m None = Unit {0}
ValueFits free g homes m (Some e) = PlaceSetFits free g homes m done e

pub record DeclarationFits (free : ℕ → Type 0) (g : Ground) (s : Scope) (v : Declared Meant)
    (n : ℕ) : Type 0 where
  pub dims : DimsFit g s.homes v.dimensions
  pub fresh : find (Variable n) s.homes ≡ None
  pub small : is_too_large (known_dims g v) ≡ false
  pub may : free n
  pub value : ValueFits free g (with_variable n (known_dims g v) s).homes v.meant v.value

abbrev pub DeclaredFits : (free : ℕ → Type 0) → Ground → Scope → Declared Meant → Meant → Type 0
DeclaredFits free g s v (meant.Variable n) = DeclarationFits free g s v n
DeclaredFits free g s v _ = ⊥

abbrev pub VariablesFit : (free : ℕ → Type 0) → Ground → Scope → List (Declared Meant) → Type 0
VariablesFit free g s [] = Unit {0}
VariablesFit free g s (v ∷ vs) =
    DeclaredFits free g s v v.meant × VariablesFit free g (variable_scope g s v) vs

abbrev pub FirstFits : (free : ℕ → Type 0) → Ground → Scope → First Meant → Type 0
FirstFits free g s (FirstVars vs) = VariablesFit free g s vs
FirstFits free g s (FirstAssign a) = AssignFits free g s.homes a

abbrev pub SimpleFits : (free : ℕ → Type 0) → Ground → Scope → Simple Meant → Type 0
SimpleFits free g s (Vars vs) = VariablesFit free g s vs
SimpleFits free g s (Assigned a) = AssignFits free g s.homes a
SimpleFits free g s _ = ⊥

abbrev mutual
  pub StatementFits : (free : ℕ → Type 0) → (Ends : Type 0) → Ground → Scope
      → Statement Spot Meant → Type 0
  StatementFits free Ends g s (Block spot ss) = StatementsFit free Ends g s ss
  StatementFits free Ends g s (If spot c a) =
      TestFits g s.homes c × StatementFits free Ends g s a
  StatementFits free Ends g s (IfElse spot c a b) =
      TestFits g s.homes c × StatementFits free Ends g s a × StatementFits free Ends g s b
  StatementFits free Ends g s (While spot c a) =
      TestFits g s.homes c × StatementFits free Ends g s a
  StatementFits free Ends g s (For spot first_spot f c step_spot a body) =
      FirstFits free g s f × TestFits g (first_scope g s f).homes c ×
      StatementFits free Ends g (first_scope g s f) body ×
      AssignFits free g (scope_behind g (first_scope g s f) body).homes a
  StatementFits free Ends g s (Return spot e) = Ends × TestFits g s.homes e
  StatementFits free Ends g s (Assert spot e) = TestFits g s.homes e
  StatementFits free Ends g s (Log spot arguments) = ⊥
  StatementFits free Ends g s (Ended spot x) = SimpleFits free g s x

  pub StatementsFit : (free : ℕ → Type 0) → (Ends : Type 0) → Ground → Scope
      → Statements Spot Meant → Type 0
  StatementsFit free Ends g s empty = Unit {0}
  StatementsFit free Ends g s (then_more a rest) =
      StatementFits free Ends g s a × StatementsFit free Ends g (scope_behind g s a) rest
