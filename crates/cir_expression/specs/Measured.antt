-- What the calls inside answer, with heights that are counted on the way.
use Rattle.std.specs.Prelude.{◌≡◌, ◌+◌, ℕ, List, map, Option, Some, None, Result, Ok, Err}
use Rattle.cir_ast.specs.Plain.{PlainExpr as Expr}
use Rattle.cir_ast.specs.Height.{height_of, exprs_height, accessors_height, named_height}
use Rattle.cir_expression.specs.declared.reader.Stop.{Stop}
use Rattle.cir_expression.specs.declared.measured.Reading.{Reading}
use Rattle.cir_expression.specs.declared.measured.Listing.{Listing}
use Rattle.cir_expression.specs.declared.measured.Path.{Path}
use Rattle.cir_expression.specs.declared.measured.Naming.{Naming}
use Rattle.cir_expression.specs.Front.{Tokens}
use Rattle.cir_expression.specs.Reading.{Found}
use Rattle.cir_expression.specs.Answers.{Stops, seen, seen_exprs, seen_accessors, seen_named}

abbrev pub IsMeasured : {N : Type 0} → Reading N → Type 0
IsMeasured r = r.height ≡ height_of (seen r.tree)

abbrev pub IsMeasuredListing : {N : Type 0} → Listing N → Type 0
IsMeasuredListing l = l.height ≡ exprs_height (seen_exprs l.items.items)

abbrev pub IsMeasuredPath : {N : Type 0} → Path N → Type 0
IsMeasuredPath p = p.height ≡ accessors_height (seen_accessors p.accessors.items)

abbrev pub IsMeasuredNaming : {N : Type 0} → Naming N → Type 0
IsMeasuredNaming n = n.height ≡ named_height (seen_named n.inputs.items)

-- an element and the tokens behind it
abbrev pub seen_reading : {N : Type 0} → Option (Reading N) → Option Expr
seen_reading None = None
seen_reading (Some r) = Some (seen r.tree)

-- this tree was made of what is so high
pub record IsAbove {N : Type 0} (r : Reading N) (e : Expr) (below : ℕ) : Type 0 where
  pub tree : seen r.tree ≡ e
  pub measured : IsMeasured r
  pub height : r.height ≡ below + 1

-- the reading's answer, seen by view, with a height that is right
abbrev pub Finds : {X Y : Type 0} → (X → Y) → (X → Type 0) → Result X Stop → Tokens
    → Option (Y × Tokens) → Type 0
Finds view IsRight (Ok x) rest reading = (reading ≡ Some (view x, rest)) × IsRight x
Finds view IsRight (Err stop) rest reading = Stops stop reading

abbrev pub Measures : {N : Type 0} → Result (Reading N) Stop → Tokens → Found → Type 0
Measures = Finds (λ r. seen r.tree) IsMeasured

abbrev pub Gathers : {N : Type 0} → Result (Listing N) Stop → Tokens → Option (List Expr × Tokens)
    → Type 0
Gathers = Finds (λ l. map seen l.items.items) IsMeasuredListing

-- an expression that was made of others
abbrev pub Makes : {N : Type 0} → Result (Reading N) Stop → Option Expr → Type 0
Makes (Ok r) made = (made ≡ Some (seen r.tree)) × IsMeasured r
Makes (Err stop) made = Stops stop made
