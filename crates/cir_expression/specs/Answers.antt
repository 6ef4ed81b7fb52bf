-- What the reader's calls answer, and what they leave to be read.
use Rattle.std.specs.Prelude.{◌≡◌, ℕ, Bool, true, false, List, map, Option, Some, None, Result, Ok}
use Rattle.std.specs.Prelude.{Err, ⊤}
use Rattle.cir_token.specs.declared.token.Token.{Token}
use Rattle.cir_token.specs.declared.token.TokenKind.{TokenKind}
use Rattle.cir_ast.specs.declared.marked.Expr.{Expr as CodeExpr}
use Rattle.cir_ast.specs.declared.marked.Accessor.{Accessor as CodeAccessor}
use Rattle.cir_ast.specs.declared.marked.NamedInput.{NamedInput as CodeInput}
use Rattle.cir_ast.specs.declared.marked.Inputs.{Inputs as CodeInputs}
use Rattle.cir_ast.specs.declared.marked.Place.{Place}
use Rattle.cir_ast.specs.Tree.{bare, as_exprs, as_accessors, place_accessors, bare_inputs}
use Rattle.cir_ast.specs.Plain.{PlainExpr, PlainExprs, PlainAccessors, PlainNamedInputs}
use Rattle.cir_ast.specs.Plain.{PlainInputs, plain, plain_accessors, plain_inputs}
use Rattle.cir_expression.specs.declared.expressions.Grouped.{Grouped as CodeGroup}
use Rattle.cir_expression.specs.declared.expressions.Grouped.TheVariants as group
use Rattle.cir_expression.specs.declared.reader.Stop.{Stop}
use Rattle.cir_expression.specs.declared.reader.Stop.TheVariants.{NoTree, OutOfMemory}
use Rattle.cir_expression.specs.Front.{Tokens}
use Rattle.cir_expression.specs.Combinators.{otherwise}
use Rattle.cir_expression.specs.Reading.{Input, input_at, as_inputs, Grouped, Whole, Tuple}

abbrev pub kinds : List Token → List TokenKind
kinds tokens = map (λ t. t.kind) tokens

-- trees as their tokens say: their names carry no meaning yet
abbrev pub seen : {N : Type 0} → CodeExpr N → PlainExpr
seen e = plain (bare e)

abbrev pub seen_exprs : {N : Type 0} → List (CodeExpr N) → PlainExprs
seen_exprs es = as_exprs (map seen es)

abbrev pub seen_accessors : {N : Type 0} → List (CodeAccessor N) → PlainAccessors
seen_accessors list = plain_accessors (as_accessors list)

abbrev pub seen_input : {N : Type 0} → CodeInput N → Input
seen_input i = ((i.name, i.arrow), seen i.value)

abbrev pub seen_named : {N : Type 0} → List (CodeInput N) → PlainNamedInputs
seen_named list = as_inputs (map seen_input list)

abbrev pub seen_inputs : {N : Type 0} → CodeInputs N → PlainInputs
seen_inputs inputs = plain_inputs (bare_inputs inputs)

abbrev pub seen_element : {N : Type 0} → Option (CodeExpr N) → Option PlainExpr
seen_element None = None
seen_element (Some e) = Some (seen e)

abbrev pub seen_group : {N : Type 0} → CodeGroup N → Grouped
seen_group (group.Whole e) = Whole (seen e)
seen_group (group.Tuple elements) = Tuple (map seen_element elements.items)

-- a refusal is that of the definition; want of memory is free
abbrev pub Stops : {A : Type 0} → Stop → Option A → Type 0
Stops NoTree reading = reading ≡ None
Stops OutOfMemory reading = ⊤

-- the tree, seen by view, and the tokens behind it are the definition's
abbrev pub Reads : {X Y : Type 0} → (X → Y) → Result X Stop → Tokens → Option (Y × Tokens) → Type 0
Reads view (Ok x) rest reading = reading ≡ Some (view x, rest)
Reads view (Err stop) rest reading = Stops stop reading

-- the same, where no memory is taken
abbrev pub Takes : {X Y : Type 0} → (X → Y) → Result X Stop → Tokens → Option (Y × Tokens) → Type 0
Takes view (Ok x) rest reading = reading ≡ Some (view x, rest)
Takes view (Err stop) rest reading = (stop ≡ NoTree) × Stops stop reading

-- the tokens that are left are the definition's, and no memory is taken
abbrev pub Passes : {X : Type 0} → Result X Stop → Tokens → Option Tokens → Type 0
Passes (Ok x) rest reading = reading ≡ Some rest
Passes (Err stop) rest reading = (stop ≡ NoTree) × Stops stop reading

-- a place, as its name and what stands behind it
abbrev pub named : {N : Type 0} → Place N → List ℕ × PlainAccessors
named p = (p.name, plain_accessors (place_accessors p))

-- a name and an arrow to the left come next
abbrev pub begins_input : Tokens → Bool
begins_input ts = otherwise (input_at ts) false (λ i. true)
