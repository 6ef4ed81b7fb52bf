-- Declarations, assignments and simple statements are read from the tokens that they print.
use Rattle.std.proofs.Common.{◌≡◌, ◌≢◌, ℕ, zero, suc, ◌≤◌, ◌<◌, max, List, [], ◌∷◌, ◌++◌, length}
use Rattle.std.proofs.Common.{Option, Some, None, false, refl, ap, ◌∙◌, arith, append_assoc}
use Rattle.std.proofs.Common.{length-append, map, Bool, true}
use Rattle.std.proofs.lemmas.List.{length-map}
use Rattle.std.specs.Prelude.{if◌then◌else◌}
use Rattle.cir_token.specs.declared.token.TokenKind.TheVariants as token
use Rattle.cir_token.specs.declared.token.Symbol.{Symbol}
use Rattle.cir_token.specs.declared.token.Symbol.TheVariants as symbol
use Rattle.cir_token.specs.declared.token.Reserved.{Reserved}
use Rattle.cir_token.specs.declared.token.Reserved.TheVariants as word
use Rattle.cir_ast.specs.declared.operators.Compound.{Compound as CompoundOp}
use Rattle.cir_ast.specs.declared.operators.Compound.TheVariants as compound
use Rattle.cir_ast.specs.declared.operators.Direction.{Direction}
use Rattle.cir_ast.specs.declared.operators.Direction.TheVariants as direction
use Rattle.cir_ast.specs.declared.operators.Arrow.{Arrow}
use Rattle.cir_ast.specs.declared.operators.Arrow.TheVariants as arrow
use Rattle.cir_ast.specs.Tree.{none, more, as_exprs, Nothing, Given, Set, Compound, Left, Increment}
use Rattle.cir_ast.specs.Tree.{Decrement, Signals, Declared, Place, Anonymous, SlotPlace}
use Rattle.cir_ast.specs.Tree.{SlotDiscard, Discard, Slots, One, Values, Vars, Created, Assigned}
use Rattle.cir_ast.specs.Tree.{Constrain, Right, TargetLeft, TargetRight, Alone}
use Rattle.cir_ast.specs.Plain.{PlainExpr as Expr, PlainExprs as Exprs, PlainAccessors as Accessors}
use Rattle.cir_ast.specs.Plain.{PlainVariable as Variable, PlainSignalValue as SignalValue}
use Rattle.cir_ast.specs.Plain.{PlainSignal as Signal, PlainComponent as Component}
use Rattle.cir_ast.specs.Plain.{PlainAssign as Assign, PlainSlot as Slot, PlainTarget as Target}
use Rattle.cir_ast.specs.Plain.{PlainSource as Source, PlainSimple as Simple}
use Rattle.cir_ast.specs.Print.{compound_symbol, left_symbol, tokens_of, dimension_tokens}
use Rattle.cir_ast.specs.Print.{further_tokens, list_tokens, value_tokens, variable_tokens}
use Rattle.cir_ast.specs.Print.{signal_value_tokens, signal_tokens, component_tokens}
use Rattle.cir_ast.specs.Print.{direction_tokens, place_tokens, assign_tokens, right_symbol}
use Rattle.cir_ast.specs.Print.{slot_tokens, target_tokens, source_tokens, simple_tokens}
use Rattle.cir_ast.specs.Shape.{AllFit, AreFitAccessors, Each, FitsValue, IsShapedVariable}
use Rattle.cir_ast.specs.Shape.{FitsSignalValue, IsShapedSignal, IsShapedComponent, IsShapedAssign}
use Rattle.cir_ast.specs.Shape.{Fits, IsShapedSlot, IsShapedTarget, IsShapedSource, IsShapedSimple}
use Rattle.cir_ast.specs.Height.{height_of, exprs_height, highest, value_height, variable_height}
use Rattle.cir_ast.specs.Height.{signal_value_height, signal_height, component_height, place_height}
use Rattle.cir_ast.specs.Height.{assign_height, slot_height, target_height, source_height}
use Rattle.cir_ast.specs.Height.{simple_height}
use Rattle.cir_expression.specs.Front.{Tokens, begins, tail, begins_word}
use Rattle.cir_expression.specs.Combinators.{next, made, parted_by, separated}
use Rattle.cir_expression.specs.Reading.{expression, goes_on, arrow_at, starts, group, Grouped}
use Rattle.cir_expression.specs.Reading.{Whole, Tuple}
use Rattle.cir_simple_statement.specs.Reading.{dimension, dimensions, value, variable, signal_value}
use Rattle.cir_simple_statement.specs.Reading.{signal, direction_at, component, signals, components}
use Rattle.cir_simple_statement.specs.Reading.{right_arrow_at, assignment, assign, slot, target}
use Rattle.cir_simple_statement.specs.Reading.{values_of, slot_of, sourced, source, rightwards}
use Rattle.cir_simple_statement.specs.Reading.{equation, tupled, simple, each_of}
use Rattle.cir_expression.proofs.Undo.{expression_undo, place_undo}
use Rattle.cir_expression.proofs.Front.{expression_starts}
use Rattle.cir_expression.proofs.Groups.{element_tokens, FitsElement, no_underscore, tuple_undo}
use Rattle.cir_expression.proofs.Groups.{whole_undo}
use Rattle.cir_expression.proofs.Combinators.{begins_word_is, Ends, Undoes, ends_semicolon}
use Rattle.cir_expression.proofs.Combinators.{ends_parenthesis, separated_undo, several_undo}
use Rattle.cir_expression.proofs.Combinators.{each_of as each_fits}

pub arrow_is : (a : Arrow) (ts : Tokens) → arrow_at (token.Symbol (left_symbol a) ∷ ts) ≡ Some a
arrow_is arrow.Assign ts = refl
arrow_is arrow.Constrain ts = refl

-- the expressions of a tree's list
abbrev pub exprs_list : Exprs → List Expr
exprs_list none = []
exprs_list (more e es) = e ∷ exprs_list es

pub exprs_same : (es : Exprs) → as_exprs (exprs_list es) ≡ es
exprs_same none = refl
exprs_same (more e es) = ap (more e) (exprs_same es)

-- behind the first bracket
dimensions_by_undo : (e : Expr) (d : Exprs) (room n : ℕ) (before : List Expr) (rest : Tokens)
    → AllFit (more e d) → exprs_height (more e d) ≤ room → length (exprs_list d) < n
    → begins symbol.OpenBracket rest ≡ false
    → parted_by symbol.OpenBracket n (dimension room) before
    ((tokens_of e ++ token.Symbol symbol.CloseBracket ∷ dimension_tokens d) ++ rest)
    ≡ Some (before ++ e ∷ exprs_list d, rest)
dimensions_by_undo e d room zero before rest fits low h shut = absurd (omega arith)
dimensions_by_undo e none room (suc n) before rest fits low h shut =
    let l : max (height_of e) 0 ≤ room = low in
    let behind : Tokens = token.Symbol symbol.CloseBracket ∷ rest in
    rw (append_assoc, expression_undo e room behind fits.0 (omega arith) refl, shut) refl
dimensions_by_undo e (more f d) room (suc n) before rest fits low h shut =
    let l : max (height_of e) (exprs_height (more f d)) ≤ room = low in
    let inner : Tokens = token.Symbol symbol.CloseBracket ∷ dimension_tokens (more f d) in
    rw (
      append_assoc (tokens_of e) inner rest,
      expression_undo e room (inner ++ rest) fits.0 (omega arith) refl,
      dimensions_by_undo f d room n (before ++ e ∷ []) rest fits.1 (omega arith) (omega arith) shut,
      append_assoc before (e ∷ []) (f ∷ exprs_list d),
    ) refl

dimensions_many : (d : Exprs) → length (exprs_list d) ≤ length (dimension_tokens d)
dimensions_many none = omega arith
dimensions_many (more e d) =
    omega (
      arith,
      dimensions_many d,
      length-append (tokens_of e) (token.Symbol symbol.CloseBracket ∷ dimension_tokens d),
    )

dimensions_undo : (d : Exprs) (room : ℕ) (rest : Tokens) → AllFit d → exprs_height d ≤ room
    → begins symbol.OpenBracket rest ≡ false
    → dimensions room (dimension_tokens d ++ rest) ≡ Some (exprs_list d, rest)
unfolding dimensions
dimensions_undo none room rest fits low shut = rw shut refl
dimensions_undo (more e d) room rest fits low shut =
    let inner : Tokens = token.Symbol symbol.CloseBracket ∷ dimension_tokens d in
    dimensions_by_undo e d room _ [] rest fits low
    (omega (
      arith,
      dimensions_many d,
      length-append (tokens_of e) inner,
      length-append (tokens_of e ++ inner) rest,
    )) shut

-- what is given begins with no `[`, and is read
value_undo : (v : Option Expr) (room : ℕ) (rest : Tokens) → FitsValue v → value_height v ≤ room
    → Ends rest → (begins symbol.OpenBracket (value_tokens v ++ rest) ≡ false)
    × (value room (value_tokens v ++ rest) ≡ Some (v, rest))
value_undo None room rest fits low ends = (ends.bracket, rw ends.equal refl)
value_undo (Some e) room rest fits low ends =
    (refl, rw (expression_undo e room rest fits low ends.goes) refl)

pub variable_undo : (v : Variable) (room : ℕ) → IsShapedVariable v → variable_height v ≤ room
    → Undoes variable_tokens (variable room) v
unfolding variable
variable_undo v room shaped low rest ends =
    let l : max (exprs_height v.dimensions) (value_height v.value) ≤ room = low in
    let given = value_undo v.value room rest shaped.1 (omega arith) ends in
    rw (
      append_assoc (dimension_tokens v.dimensions) (value_tokens v.value) rest,
      dimensions_undo v.dimensions room _ shaped.0 (omega arith) given.0,
      given.1,
      exprs_same v.dimensions,
    ) refl

signal_value_undo : (v : SignalValue) (room : ℕ) (rest : Tokens) → FitsSignalValue v
    → signal_value_height v ≤ room → Ends rest
    → (begins symbol.OpenBracket (signal_value_tokens v ++ rest) ≡ false)
    × (signal_value room (signal_value_tokens v ++ rest) ≡ Some (v, rest))
signal_value_undo Nothing room rest fits low ends = (ends.bracket, rw ends.arrow refl)
signal_value_undo (Given arrow.Assign e) room rest fits low ends =
    (refl, rw (expression_undo e room rest fits low ends.goes) refl)
signal_value_undo (Given _ e) room rest fits low ends =
    (refl, rw (expression_undo e room rest fits low ends.goes) refl)

signal_undo : (s : Signal) (room : ℕ) → IsShapedSignal s → signal_height s ≤ room
    → Undoes signal_tokens (signal room) s
unfolding signal
signal_undo s room shaped low rest ends =
    let l : max (exprs_height s.dimensions) (signal_value_height s.value) ≤ room = low in
    let given = signal_value_undo s.value room rest shaped.1 (omega arith) ends in
    rw (
      append_assoc (dimension_tokens s.dimensions) (signal_value_tokens s.value) rest,
      dimensions_undo s.dimensions room _ shaped.0 (omega arith) given.0,
      given.1,
      exprs_same s.dimensions,
    ) refl

component_undo : (c : Component) (room : ℕ) → IsShapedComponent c → component_height c ≤ room
    → Undoes component_tokens (component room) c
unfolding component
component_undo c room shaped low rest ends =
    rw (dimensions_undo c.dimensions room rest shaped low ends.bracket, exprs_same c.dimensions)
    refl

-- a list of what is declared, before `;`
list_undo : {A : Type 0} (print_one : A → Tokens) (read : Tokens → Option (A × Tokens))
    (P : A → Type 0) (h : A → ℕ) (room : ℕ)
    → ((x : A) → P x → h x ≤ room → Undoes print_one read x)
    → (xs : List A) (rest : Tokens) → xs ≢ [] → Each P xs → highest h xs ≤ room
    → separated read (list_tokens print_one xs ++ token.Symbol symbol.Semicolon ∷ rest)
    ≡ Some (xs, token.Symbol symbol.Semicolon ∷ rest)
list_undo print_one read P h room one xs rest some shaped low =
    separated_undo print_one read xs (token.Symbol symbol.Semicolon) rest some
    (each_fits P (Undoes print_one read) h room one xs shaped low) (ends_semicolon rest) refl

pub variables_undo : (vs : List Variable) (room : ℕ) (rest : Tokens) → vs ≢ []
    → Each IsShapedVariable vs → highest variable_height vs ≤ room
    → separated (variable room)
    (list_tokens variable_tokens vs ++ token.Symbol symbol.Semicolon ∷ rest)
    ≡ Some (vs, token.Symbol symbol.Semicolon ∷ rest)
variables_undo vs room rest =
    list_undo variable_tokens (variable room) IsShapedVariable variable_height room
    (λ v. variable_undo v room) vs rest

direction_undo : (d : Direction) (name : List ℕ) (ts : Tokens)
    → direction_at (direction_tokens d ++ token.Name name ∷ ts) ≡ (d, token.Name name ∷ ts)
direction_undo direction.Inner name ts = refl
direction_undo _ name ts = refl

-- behind the first name of a list of components there is no `=`
no_value : (d : Exprs) (cs : List Component) (rest : Tokens)
    → begins symbol.Equal
    ((dimension_tokens d ++ further_tokens component_tokens cs) ++ token.Symbol symbol.Semicolon
    ∷ rest) ≡ false
no_value none [] rest = refl
no_value _ _ rest = refl

-- no expression goes on with these, nor an equation, nor does an arrow to the right come
abbrev pub Ahead : Tokens → Type 0
Ahead ts =
    (goes_on ts ≡ false) × (begins symbol.Constrain ts ≡ false) × (right_arrow_at ts ≡ None)

-- a symbol that an assignment goes on with, before a value
abbrev Goes : ℕ → List ℕ → Accessors → Symbol → (Expr → Assign) → Type 0
Goes room name accessors s make =
    (ts : Tokens) → Ahead (token.Symbol s ∷ ts)
    × (assignment room name accessors (token.Symbol s ∷ ts) ≡ made make (expression room ts))

goes_compound : (op : CompoundOp) (room : ℕ) (name : List ℕ) (accessors : Accessors)
    → Goes room name accessors (compound_symbol op) (Compound name tt accessors op)
unfolding assignment
goes_compound compound.Pow room name accessors ts = ((refl, refl, refl), refl)
goes_compound _ room name accessors ts = ((refl, refl, refl), refl)

goes_left : (a : Arrow) (room : ℕ) (name : List ℕ) (accessors : Accessors)
    → Goes room name accessors (left_symbol a) (Left name tt accessors a)
unfolding assignment
goes_left arrow.Assign room name accessors ts = ((refl, refl, refl), refl)
goes_left arrow.Constrain room name accessors ts = ((refl, refl, refl), refl)

-- an assignment is read by whatever reads its place and goes on with it
module _ {B : Type 0} (read : Tokens → Option (B × Tokens)) (make : Assign → B) (room : ℕ)
    (rest : Tokens) (goes : goes_on rest ≡ false)
    (begun : (name : List ℕ) (accessors : Accessors) (behind : Tokens) (a : Assign)
    → AreFitAccessors accessors → place_height accessors ≤ room → Ahead behind
    → assignment room name accessors behind ≡ Some (a, rest)
    → read (place_tokens name accessors ++ behind) ≡ Some (make a, rest)) where
  -- a place, a symbol and what stands behind that
  placed : (a : Assign) (name : List ℕ) (accessors : Accessors) (s : Symbol) (right : Tokens)
      → AreFitAccessors accessors → place_height accessors ≤ room
      → Ahead (token.Symbol s ∷ (right ++ rest))
      → assignment room name accessors (token.Symbol s ∷ (right ++ rest)) ≡ Some (a, rest)
      → read ((place_tokens name accessors ++ token.Symbol s ∷ right) ++ rest)
      ≡ Some (make a, rest)
  placed a name accessors s right fits low ahead is =
      ap read (append_assoc (place_tokens name accessors) (token.Symbol s ∷ right) rest)
      ∙ begun name accessors _ a fits low ahead is

  valued : (name : List ℕ) (accessors : Accessors) (e : Expr) (s : Symbol) (to : Expr → Assign)
      → AreFitAccessors accessors × Fits 1 e → max (place_height accessors) (height_of e) ≤ room
      → Goes room name accessors s to
      → read ((place_tokens name accessors ++ token.Symbol s ∷ tokens_of e) ++ rest)
      ≡ Some (make (to e), rest)
  valued name accessors e s to shaped low front =
      let found = front (tokens_of e ++ rest) in
      placed (to e) name accessors s (tokens_of e) shaped.0 (omega (arith, low)) found.0
      (found.1 ∙ rw (expression_undo e room rest shaped.1 (omega (arith, low)) goes) refl)

  assignment_undo : (a : Assign) → IsShapedAssign a → assign_height a ≤ room
      → read (assign_tokens a ++ rest) ≡ Some (make a, rest)
  unfolding assignment
  assignment_undo (Set name _ accessors e) shaped low =
      valued name accessors e symbol.Equal _ shaped low (λ ts. ((refl, refl, refl), refl))
  assignment_undo (Compound name _ accessors op e) shaped low =
      valued name accessors e _ _ shaped low (goes_compound op room name accessors)
  assignment_undo (Left name _ accessors a e) shaped low =
      valued name accessors e _ _ shaped low (goes_left a room name accessors)
  assignment_undo (Increment name _ accessors) shaped low =
      placed _ name accessors symbol.PlusPlus [] shaped low (refl, refl, refl) refl
  assignment_undo (Decrement name _ accessors) shaped low =
      placed _ name accessors symbol.MinusMinus [] shaped low (refl, refl, refl) refl

pub assign_undo : (a : Assign) (room : ℕ) (rest : Tokens) → IsShapedAssign a
    → assign_height a ≤ room → goes_on rest ≡ false
    → assign room (assign_tokens a ++ rest) ≡ Some (a, rest)
unfolding assign
assign_undo a room rest shaped low goes =
    assignment_undo (assign room) (λ a. a) room rest goes
    (λ name accessors behind a fits low ahead is.
    rw (place_undo name accessors room behind fits low ahead.0) is) a shaped low

-- an arrow to the right, and what it isn't
right_front : (a : Arrow) (ts : Tokens)
    → (goes_on (token.Symbol (right_symbol a) ∷ ts) ≡ false)
    × (begins symbol.Constrain (token.Symbol (right_symbol a) ∷ ts) ≡ false)
    × (arrow_at (token.Symbol (right_symbol a) ∷ ts) ≡ None)
    × (right_arrow_at (token.Symbol (right_symbol a) ∷ ts) ≡ Some a)
right_front arrow.Assign ts = (refl, refl, refl, refl)
right_front arrow.Constrain ts = (refl, refl, refl, refl)

-- elements of a tuple that stand for these, as they are printed and read
record AreElements {B : Type 0} (print_one : B → Tokens) (f : Option Expr → Option B) (room : ℕ)
    (xs : List (Option Expr)) (ys : List B) : Type 0 where
  further : further_tokens print_one ys ≡ further_tokens element_tokens xs
  list : list_tokens print_one ys ≡ list_tokens element_tokens xs
  back : each_of f xs ≡ Some ys
  fine : Each (FitsElement room) xs

-- if each element does
module _ {B : Type 0} (print_one : B → Tokens) (f : Option Expr → Option B) (to : B → Option Expr)
    (P : B → Type 0) (h : B → ℕ) (room : ℕ)
    (one : (y : B) → (print_one y ≡ element_tokens (to y)) × (f (to y) ≡ Some y)
    × (P y → h y ≤ room → FitsElement room (to y))) where
  elements_of : (ys : List B) → Each P ys → highest h ys ≤ room
      → AreElements print_one f room (map to ys) ys
  elements_of [] fits low = record { further = refl; list = refl; back = refl; fine = tt }
  elements_of (y ∷ ys) fits low =
      let l : max (h y) (highest h ys) ≤ room = low in
      let first = one y in
      let more = elements_of ys fits.1 (omega arith) in record {
        further = rw (first.0, more.further) refl;
        list = rw (first.0, more.further) refl;
        back = rw (first.1, more.back) refl;
        fine = (first.2 fits.0 (omega arith), more.fine);
      }

  -- a tuple is read behind its `(`, and is these
  tuple_found : (ys : List B) (rest : Tokens) → (2 ≤ length ys) × Each P ys → highest h ys ≤ room
      → (group room
      ((list_tokens print_one ys ++ token.Symbol symbol.CloseParenthesis ∷ []) ++ rest)
      ≡ Some (Tuple (map to ys), rest)) × (each_of f (map to ys) ≡ Some ys)
  tuple_found ys rest shaped low =
      let two : 2 ≤ length ys = shaped.0 in
      let made = elements_of ys shaped.1 low in (
        rw (append_assoc, made.list)
            (tuple_undo (map to ys) room rest (omega (arith, length-map ys to)) made.fine),
        made.back,
      )

-- as values, and as slots
values_found : (es : List Expr) (room : ℕ) (rest : Tokens) → (2 ≤ length es) × Each (Fits 1) es
    → highest height_of es ≤ room
    → (group room ((list_tokens tokens_of es ++ token.Symbol symbol.CloseParenthesis ∷ []) ++ rest)
    ≡ Some (Tuple (map (λ e. Some e) es), rest)) × (values_of (map (λ e. Some e) es) ≡ Some es)
values_found es room =
    tuple_found tokens_of (λ x. x) (λ e. Some e) (Fits 1) height_of room
    (λ e. (refl, refl, λ fits low. (fits, low))) es

abbrev element_of : Slot → Option Expr
element_of (SlotPlace name _ accessors) = Some (Place name tt accessors)
element_of SlotDiscard = None

slot_element : (room : ℕ) (s : Slot) → (slot_tokens s ≡ element_tokens (element_of s))
    × (slot_of (element_of s) ≡ Some s)
    × (IsShapedSlot s → slot_height s ≤ room → FitsElement room (element_of s))
slot_element room (SlotPlace name _ accessors) = (refl, refl, λ fits low. (fits, low))
slot_element room SlotDiscard = (refl, refl, λ fits low. tt)

-- an expression is read, whether it begins with a parenthesis or not
either_way : {B : Type 0} (e : Expr) (room : ℕ) (rest : Tokens) → Fits 1 e → height_of e ≤ room
    → goes_on rest ≡ false → (as_group : Grouped × Tokens → Option B)
    (go : Expr × Tokens → Option B)
    → as_group (Whole e, rest) ≡ go (e, rest)
    → (if begins symbol.OpenParenthesis (tokens_of e ++ rest)
    then next (group room (tail (tokens_of e ++ rest))) as_group
    else next (expression room (tokens_of e ++ rest)) go) ≡ go (e, rest)
either_way e room rest fits low goes as_group go same =
    from (begins symbol.OpenParenthesis (tokens_of e ++ rest)) refl
  where
    from : (b : Bool) → begins symbol.OpenParenthesis (tokens_of e ++ rest) ≡ b
        → (if b then next (group room (tail (tokens_of e ++ rest))) as_group
        else next (expression room (tokens_of e ++ rest)) go) ≡ go (e, rest)
    from true is = rw (whole_undo e room rest fits low goes is) same
    from false is = rw (expression_undo e room rest fits low goes) refl

source_undo : (s : Source) (room : ℕ) (rest : Tokens) → IsShapedSource s → source_height s ≤ room
    → goes_on rest ≡ false → source room (source_tokens s ++ rest) ≡ Some (s, rest)
unfolding source
source_undo (One e) room rest shaped low goes =
    either_way e room rest shaped low goes (λ g. sourced g.0 g.1) _ refl
source_undo (Values es) room rest shaped low goes =
    let found = values_found es room rest shaped low in rw (found.0, found.1) refl

slot_undo : (s : Slot) (room : ℕ) → IsShapedSlot s → slot_height s ≤ room
    → Undoes slot_tokens (slot room) s
unfolding slot
slot_undo (SlotPlace name _ accessors) room fits low rest ends =
    rw (place_undo name accessors room rest fits low ends.goes) refl
slot_undo SlotDiscard room fits low rest ends = refl

target_undo : (t : Target) (room : ℕ) (rest : Tokens) → IsShapedTarget t → target_height t ≤ room
    → target room (target_tokens t ++ rest) ≡ Some (t, rest)
unfolding target
target_undo Discard room rest shaped low = refl
target_undo (Slots ss) room rest shaped low =
    rw (
      append_assoc (list_tokens slot_tokens ss) (token.Symbol symbol.CloseParenthesis ∷ []) rest,
      several_undo slot_tokens (slot room) ss (token.Symbol symbol.CloseParenthesis) rest shaped.0
          (each_fits IsShapedSlot (Undoes slot_tokens (slot room)) slot_height room
          (λ s f l. slot_undo s room f l) ss shaped.1 low) (ends_parenthesis rest) refl,
    ) refl

-- an expression begins with no word but `parallel`
pub no_word : (w : Reserved) (e : Expr) (rest : Tokens) → starts (token.Reserved w ∷ []) ≡ false
    → begins_word w (tokens_of e ++ rest) ≡ false
no_word w e rest off = from (begins_word w (tokens_of e ++ rest)) refl
  where
    from : (b : Bool) → begins_word w (tokens_of e ++ rest) ≡ b → b ≡ false
    from false h = refl
    from true h =
        let is : starts (tokens_of e ++ rest)
        ≡ starts (token.Reserved w ∷ tail (tokens_of e ++ rest)) =
        ap starts (begins_word_is w (tokens_of e ++ rest) h) in
        let same : starts (token.Reserved w ∷ tail (tokens_of e ++ rest)) ≡ false = off in
        absurd (cc (is, same, expression_starts e rest))

-- a simple statement that begins with an expression
with_left : (left : Expr) (room : ℕ) (after : Tokens) → Fits 1 left → height_of left ≤ room
    → goes_on after ≡ false → simple room (tokens_of left ++ after) ≡ equation room left after
unfolding simple
with_left left room after fits low goes =
    rw (
      no_word word.Var left after refl,
      no_word word.Signal left after refl,
      no_word word.Component left after refl,
      no_underscore left after,
    ) (either_way left room after fits low goes _ _ refl)

-- and goes on with a symbol
behind_left : (left : Expr) (s : Symbol) (right : Tokens) (room : ℕ) (rest : Tokens) → Fits 1 left
    → height_of left ≤ room → goes_on (token.Symbol s ∷ (right ++ rest)) ≡ false
    → simple room ((tokens_of left ++ token.Symbol s ∷ right) ++ rest)
    ≡ equation room left (token.Symbol s ∷ (right ++ rest))
behind_left left s right room rest fits low goes =
    ap (simple room) (append_assoc (tokens_of left) (token.Symbol s ∷ right) rest)
    ∙ with_left left room (token.Symbol s ∷ (right ++ rest)) fits low goes

-- a value, an arrow and what it is written to
to_right : (e : Expr) (a : Arrow) (list : Tokens) (room : ℕ) (rest : Tokens) → Fits 1 e
    → height_of e ≤ room
    → simple room ((tokens_of e ++ token.Symbol (right_symbol a) ∷ list) ++ rest)
    ≡ rightwards room e a (list ++ rest)
unfolding equation
to_right e a list room rest fits low =
    let front = right_front a (list ++ rest) in
    behind_left e (right_symbol a) list room rest fits low front.0
    ∙ rw (front.1, front.3) refl

target_right : (e : Expr) (a : Arrow) (t : Target) (room : ℕ) (rest : Tokens)
    → IsShapedTarget t → target_height t ≤ room
    → rightwards room e a (target_tokens t ++ rest) ≡ Some (TargetRight (One e) a t, rest)
target_right e a Discard room rest shaped low = rw (target_undo Discard room rest shaped low) refl
target_right e a t room rest shaped low = rw (target_undo t room rest shaped low) refl

pub simple_undo : (s : Simple) (room : ℕ) (rest : Tokens) → IsShapedSimple s
    → simple_height s ≤ room
    → simple room (simple_tokens s ++ token.Symbol symbol.Semicolon ∷ rest)
    ≡ Some (s, token.Symbol symbol.Semicolon ∷ rest)
unfolding simple signals components tupled equation
simple_undo (Vars vs) room rest shaped low =
    rw (variables_undo vs room rest shaped.0 shaped.1 low) refl
simple_undo (Signals d []) room rest shaped low = absurd (shaped.0 refl)
simple_undo (Signals d (s ∷ ss)) room rest shaped low =
    rw (
      append_assoc (direction_tokens d),
      direction_undo d,
      list_undo signal_tokens (signal room) IsShapedSignal signal_height room
          (λ s. signal_undo s room) (s ∷ ss) rest shaped.0 shaped.1 low,
    ) refl
simple_undo (Declared []) room rest shaped low = absurd (shaped.0 refl)
simple_undo (Declared (c ∷ cs)) room rest shaped low =
    rw (
      no_value c.dimensions cs rest,
      list_undo component_tokens (component room) IsShapedComponent component_height room
          (λ c. component_undo c room) (c ∷ cs) rest shaped.0 shaped.1 low,
    ) refl
simple_undo (Created name _ e) room rest shaped low =
    rw (expression_undo e room (token.Symbol symbol.Semicolon ∷ rest) shaped low refl) refl
simple_undo (Assigned a) room rest shaped low =
    assignment_undo (simple room) Assigned room (token.Symbol symbol.Semicolon ∷ rest) refl
    (λ name accessors behind a fits low ahead is.
    with_left (Place name tt accessors) room behind fits low ahead.0
    ∙ rw (ahead.1, ahead.2, is) refl) a shaped low
simple_undo (Constrain a b) room rest shaped low =
    let l : max (height_of a) (height_of b) ≤ room = low in
    let after : Tokens = token.Symbol symbol.Semicolon ∷ rest in
    behind_left a symbol.Constrain (tokens_of b) room after shaped.0 (omega arith) refl
    ∙ rw (expression_undo b room after shaped.1 (omega arith) refl) refl
simple_undo (Right e a name _ accessors) room rest shaped low =
    let l : max (height_of e) (place_height accessors) ≤ room = low in
    let after : Tokens = token.Symbol symbol.Semicolon ∷ rest in
    to_right e a (place_tokens name accessors) room after shaped.0 (omega arith)
    ∙ rw (place_undo name accessors room after shaped.1 (omega arith) refl) refl
simple_undo (TargetLeft Discard a s) room rest shaped low =
    let l : max 0 (source_height s) ≤ room = low in
    let after : Tokens = token.Symbol symbol.Semicolon ∷ rest in
    rw (arrow_is a (source_tokens s ++ after), source_undo s room after shaped.1 (omega arith) refl)
    refl
simple_undo (TargetLeft (Slots ss) a s) room rest shaped low =
    let l : max (highest slot_height ss) (source_height s) ≤ room = low in
    let after : Tokens = token.Symbol symbol.Semicolon ∷ rest in
    let found =
    tuple_found slot_tokens slot_of element_of IsShapedSlot slot_height room (slot_element room) ss
    (token.Symbol (left_symbol a) ∷ (source_tokens s ++ after)) shaped.0 (omega arith) in
    rw (
      append_assoc (list_tokens slot_tokens ss ++ token.Symbol symbol.CloseParenthesis ∷ []),
      found.0,
      arrow_is a (source_tokens s ++ after),
      found.1,
      source_undo s room after shaped.1 (omega arith) refl,
    ) refl
simple_undo (TargetRight (One e) a t) room rest shaped low =
    let l : max (height_of e) (target_height t) ≤ room = low in
    to_right e a (target_tokens t) room (token.Symbol symbol.Semicolon ∷ rest) shaped.0
    (omega arith) ∙ target_right e a t room _ shaped.1 (omega arith)
simple_undo (TargetRight (Values es) a t) room rest shaped low =
    let l : max (highest height_of es) (target_height t) ≤ room = low in
    let behind : Tokens = target_tokens t ++ token.Symbol symbol.Semicolon ∷ rest in
    let front = right_front a behind in
    let found = values_found es room (token.Symbol (right_symbol a) ∷ behind) shaped.0 (omega arith)
    in rw (
      append_assoc (list_tokens tokens_of es ++ token.Symbol symbol.CloseParenthesis ∷ []),
      found.0,
      front.2,
      front.3,
      found.1,
      target_undo t room _ shaped.1 (omega arith),
    ) refl
simple_undo (Alone parallel name _ arguments inputs) room rest shaped low =
    with_left (Anonymous parallel name tt arguments inputs) room
    (token.Symbol symbol.Semicolon ∷ rest) shaped low refl
