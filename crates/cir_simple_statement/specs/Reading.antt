-- How declarations and assignments are read, as functions of their tokens. The number `room` is the
-- height that an expression inside may have.
use Rattle.std.specs.Prelude.{ℕ, if◌then◌else◌, List, [], ◌∷◌, length, Option, Some, None}
use Rattle.cir_token.specs.declared.token.Reserved.TheVariants as word
use Rattle.cir_token.specs.declared.token.Symbol.{Symbol}
use Rattle.cir_token.specs.declared.token.Symbol.TheVariants as symbol
use Rattle.cir_ast.specs.declared.operators.Compound.{Compound as CompoundOp}
use Rattle.cir_ast.specs.declared.operators.Compound.TheVariants as compound
use Rattle.cir_ast.specs.declared.operators.Direction.{Direction}
use Rattle.cir_ast.specs.declared.operators.Direction.TheVariants as direction
use Rattle.cir_ast.specs.declared.operators.Arrow.{Arrow}
use Rattle.cir_ast.specs.declared.operators.Arrow.TheVariants as arrows
use Rattle.cir_ast.specs.Tree.{Place, Anonymous, as_exprs, Nothing, Given, Set, Compound, Left}
use Rattle.cir_ast.specs.Tree.{Increment, Decrement, SlotPlace, SlotDiscard, Discard, Slots, One}
use Rattle.cir_ast.specs.Tree.{Values, Vars, Signals, Declared, Created, Assigned, Constrain, Right}
use Rattle.cir_ast.specs.Tree.{TargetLeft, TargetRight, Alone}
use Rattle.cir_ast.specs.Plain.{PlainExpr as Expr, PlainAccessors as Accessors}
use Rattle.cir_ast.specs.Plain.{PlainVariable as Variable, PlainSignalValue as SignalValue}
use Rattle.cir_ast.specs.Plain.{PlainSignal as Signal, PlainComponent as Component}
use Rattle.cir_ast.specs.Plain.{PlainAssign as Assign, PlainSlot as Slot, PlainTarget as Target}
use Rattle.cir_ast.specs.Plain.{PlainSource as Source, PlainSimple as Simple}
use Rattle.cir_expression.specs.Front.{Tokens, tail, begins, begins_underscore, begins_word}
use Rattle.cir_expression.specs.Front.{name_at, symbol_at}
use Rattle.cir_expression.specs.Combinators.{next, otherwise, closed, made, enclosed, parted_by}
use Rattle.cir_expression.specs.Combinators.{separated, several}
use Rattle.cir_expression.specs.Reading.{expression, place, arguments, arrow_at, group, Grouped}
use Rattle.cir_expression.specs.Reading.{Whole, Tuple}

-- an expression, and `]` behind it
abbrev pub dimension : ℕ → Tokens → Option (Expr × Tokens)
dimension room ts = closed symbol.CloseBracket (expression room ts)

-- expressions, each in brackets
unfoldable pub dimensions : ℕ → Tokens → Option (List Expr × Tokens)
dimensions room ts =
    if begins symbol.OpenBracket ts
    then parted_by symbol.OpenBracket (length (tail ts)) (dimension room) [] (tail ts)
    else Some ([], ts)

abbrev pub value : ℕ → Tokens → Option (Option Expr × Tokens)
value room ts = if begins symbol.Equal ts then made (λ e. Some e) (expression room (tail ts))
    else Some (None, ts)

unfoldable pub variable : ℕ → Tokens → Option (Variable × Tokens)
variable room ts =
    next (name_at ts)
    (λ name. next (dimensions room name.1)
    (λ found. next (value room found.1) (λ v.
    Some (record { name = name.0; meant = tt; dimensions = as_exprs found.0; value = v.0 }, v.1))))

abbrev pub signal_value : ℕ → Tokens → Option (SignalValue × Tokens)
signal_value room ts =
    otherwise (arrow_at ts) (Some (Nothing, ts))
    (λ arrow. made (Given arrow) (expression room (tail ts)))

unfoldable pub signal : ℕ → Tokens → Option (Signal × Tokens)
signal room ts =
    next (name_at ts)
    (λ name. next (dimensions room name.1)
    (λ found. next (signal_value room found.1) (λ v.
    Some (record { name = name.0; meant = tt; dimensions = as_exprs found.0; value = v.0 }, v.1))))

unfoldable pub component : ℕ → Tokens → Option (Component × Tokens)
component room ts =
    next (name_at ts)
    (λ name. next (dimensions room name.1) (λ found.
    Some (record { name = name.0; meant = tt; dimensions = as_exprs found.0 }, found.1)))

-- the word behind `signal`, and what stands behind it
abbrev pub direction_at : Tokens → Direction × Tokens
direction_at ts =
    if begins_word word.Input ts then (direction.Input, tail ts) else
    (if begins_word word.Output ts then (direction.Output, tail ts) else (direction.Inner, ts))

-- what stands behind `signal`
unfoldable pub signals : ℕ → Tokens → Option (Simple × Tokens)
signals room ts =
    made (Signals (direction_at ts).0) (separated (signal room) (direction_at ts).1)

-- what stands behind `component`
unfoldable pub components : ℕ → Tokens → Option (Simple × Tokens)
components room ts =
    next (name_at ts) (λ name.
    if begins symbol.Equal name.1
    then made (Created name.0 tt) (expression room (tail name.1))
    else made Declared (separated (component room) ts))

abbrev pub compound_of : Symbol → Option CompoundOp
compound_of symbol.StarStarEqual = Some compound.Pow
compound_of symbol.ShiftLeftEqual = Some compound.ShiftLeft
compound_of symbol.ShiftRightEqual = Some compound.ShiftRight
compound_of symbol.PlusEqual = Some compound.Add
compound_of symbol.MinusEqual = Some compound.Sub
compound_of symbol.StarEqual = Some compound.Mul
compound_of symbol.SlashEqual = Some compound.Div
compound_of symbol.BackslashEqual = Some compound.Quotient
compound_of symbol.PercentEqual = Some compound.Remainder
compound_of symbol.AmpersandEqual = Some compound.And
compound_of symbol.BarEqual = Some compound.Or
compound_of symbol.CaretEqual = Some compound.Xor
compound_of _ = None

abbrev pub compound_at : Tokens → Option CompoundOp
compound_at = symbol_at compound_of

-- what writes this place by a symbol that stands for an operation
abbrev pub operation : ℕ → List ℕ → Accessors → Tokens → Option (Assign × Tokens)
operation room name accessors ts =
    if begins symbol.PlusPlus ts then Some (Increment name tt accessors, tail ts) else
    (if begins symbol.MinusMinus ts then Some (Decrement name tt accessors, tail ts) else
    next (compound_at ts) (λ op. made (Compound name tt accessors op) (expression room (tail ts))))

-- what stands behind a written place
unfoldable pub assignment : ℕ → List ℕ → Accessors → Tokens → Option (Assign × Tokens)
assignment room name accessors ts =
    if begins symbol.Equal ts then made (Set name tt accessors) (expression room (tail ts)) else
    otherwise (arrow_at ts) (operation room name accessors ts)
    (λ arrow. made (Left name tt accessors arrow) (expression room (tail ts)))

unfoldable pub assign : ℕ → Tokens → Option (Assign × Tokens)
assign room ts = next (place room ts) (λ p. assignment room p.0.0 p.0.1 p.1)

-- the arrow to the right at the front
abbrev pub right_arrow_of : Symbol → Option Arrow
right_arrow_of symbol.AssignRight = Some arrows.Assign
right_arrow_of symbol.ConstrainRight = Some arrows.Constrain
right_arrow_of _ = None

abbrev pub right_arrow_at : Tokens → Option Arrow
right_arrow_at = symbol_at right_arrow_of

unfoldable pub slot : ℕ → Tokens → Option (Slot × Tokens)
slot room ts =
    if begins_underscore ts then Some (SlotDiscard, tail ts)
    else made (λ p. SlotPlace p.0 tt p.1) (place room ts)

-- `_`, or a tuple of slots
unfoldable pub target : ℕ → Tokens → Option (Target × Tokens)
target room ts =
    if begins_underscore ts then Some (Discard, tail ts)
    else made Slots (enclosed (several (slot room)) ts)

-- what this gives of each, if it gives something of all
abbrev pub each_of : {A B : Type 0} → (A → Option B) → List A → Option (List B)
each_of f [] = Some []
each_of f (x ∷ xs) = next (f x) (λ y. next (each_of f xs) (λ ys. Some (y ∷ ys)))

-- the values that the elements of a tuple are, if all of them are
abbrev pub values_of : List (Option Expr) → Option (List Expr)
values_of xs = each_of (λ x. x) xs

-- the slot that an element is, if it is one
abbrev pub slot_of : Option Expr → Option Slot
slot_of None = Some SlotDiscard
slot_of (Some (Place name _ accessors)) = Some (SlotPlace name tt accessors)
slot_of (Some _) = None

-- the slots that they are, if all of them are
abbrev pub slots_of : List (Option Expr) → Option (List Slot)
slots_of xs = each_of slot_of xs

-- what a parenthesis begins, as a source
abbrev pub sourced : Grouped → Tokens → Option (Source × Tokens)
sourced (Whole e) ts = Some (One e, ts)
sourced (Tuple elements) ts = next (values_of elements) (λ es. Some (Values es, ts))

-- one value, or a tuple of values
unfoldable pub source : ℕ → Tokens → Option (Source × Tokens)
source room ts =
    if begins symbol.OpenParenthesis ts
    then next (group room (tail ts)) (λ g. sourced g.0 g.1)
    else made One (expression room ts)

-- where a value goes: to a place or to a target
abbrev pub rightwards : ℕ → Expr → Arrow → Tokens → Option (Simple × Tokens)
rightwards room e arrow ts =
    if begins_underscore ts then made (TargetRight (One e) arrow) (target room ts) else
    (if begins symbol.OpenParenthesis ts then made (TargetRight (One e) arrow) (target room ts) else
    made (λ p. Right e arrow p.0 tt p.1) (place room ts))

-- what begins with an expression and goes on with no arrow to the right and no `===`
abbrev pub leftwards : ℕ → Expr → Tokens → Option (Simple × Tokens)
leftwards room (Place name _ accessors) ts = made Assigned (assignment room name accessors ts)
leftwards room (Anonymous parallel name _ arguments inputs) ts =
    Some (Alone parallel name tt arguments inputs, ts)
leftwards room _ ts = None

-- what stands behind the first expression of a statement
unfoldable pub equation : ℕ → Expr → Tokens → Option (Simple × Tokens)
equation room left ts =
    if begins symbol.Constrain ts then made (Constrain left) (expression room (tail ts)) else
    otherwise (right_arrow_at ts) (leftwards room left ts)
    (λ arrow. rightwards room left arrow (tail ts))

-- what stands behind a tuple that begins a statement: the arrow says whether it is a target or a
-- source
unfoldable pub tupled : ℕ → List (Option Expr) → Tokens → Option (Simple × Tokens)
tupled room elements ts =
    otherwise (arrow_at ts)
    (next (right_arrow_at ts)
    (λ arrow. next (values_of elements)
    (λ es. made (TargetRight (Values es) arrow) (target room (tail ts)))))
    (λ arrow. next (slots_of elements)
    (λ slots. made (TargetLeft (Slots slots) arrow) (source room (tail ts))))

-- what stands behind a parenthesis that begins a statement
abbrev pub behind_group : ℕ → Grouped → Tokens → Option (Simple × Tokens)
behind_group room (Whole e) ts = equation room e ts
behind_group room (Tuple elements) ts = tupled room elements ts

-- what stands behind `_`
abbrev pub discarded : ℕ → Tokens → Option (Simple × Tokens)
discarded room ts =
    next (arrow_at ts) (λ arrow. made (TargetLeft Discard arrow) (source room (tail ts)))

unfoldable pub simple : ℕ → Tokens → Option (Simple × Tokens)
simple room ts =
    if begins_word word.Var ts then made Vars (separated (variable room) (tail ts)) else
    (if begins_word word.Signal ts then signals room (tail ts) else
    (if begins_word word.Component ts then components room (tail ts) else
    (if begins_underscore ts then discarded room (tail ts) else
    (if begins symbol.OpenParenthesis ts
    then next (group room (tail ts)) (λ g. behind_group room g.0 g.1) else
    next (expression room ts) (λ left. equation room left.0 left.1)))))
