-- The steps of reading an expression, where a number stands in place of its successor.
use Rattle.std.proofs.Common.{◌≡◌, ℕ, zero, suc, ◌+◌, ◌-◌, ◌<◌, ◌≤◌, Option, Some, None, Result, Ok}
use Rattle.std.proofs.Common.{Err, List, length, refl, ap, ◌∙◌, arith, sub-one, false}
use Rattle.std.specs.Prelude.{IsErrAnd, nat_le}
use Rattle.std.proofs.lemmas.Bool.{le-leb, leb-true}
use Rattle.cir_token.specs.declared.token.Symbol.TheVariants.{Question}
use Rattle.cir_ast.specs.declared.operators.Binary.{Binary as BinaryOp}
use Rattle.cir_ast.specs.declared.marked.Place.{Place as CodePlace}
use Rattle.cir_ast.specs.Tree as tree
use Rattle.cir_ast.specs.Tree.{Binary, Parentheses, bare_place, place_accessors}
use Rattle.cir_ast.specs.Plain.{PlainExpr as Expr, PlainAccessors as Accessors, plain}
use Rattle.cir_ast.specs.Plain.{plain_accessors}
use Rattle.cir_ast.specs.Shape.{level_of}
use Rattle.cir_ast.specs.Height.{height_of}
use Rattle.cir_expression.specs.declared.reader.Stop.{Stop}
use Rattle.cir_expression.specs.declared.reader.Stop.TheVariants.{NoTree, OutOfMemory}
use Rattle.cir_expression.specs.Front.{Tokens, tail, begins, name_at}
use Rattle.cir_expression.specs.Combinators.{next, otherwise}
use Rattle.cir_expression.specs.Reading.{Found, continues, within, chain, choice, climb, operand_by}
use Rattle.cir_expression.specs.Reading.{expression, continued, whole, place, place_by}
use Rattle.cir_expression.specs.Reading.{accessors_by}
use Rattle.cir_expression.specs.Answers.{Stops, Reads, named}
use Rattle.cir_expression.specs.Measured.{Finds}
use Rattle.cir_expression.proofs.Front.{either}

-- a refusal that is handed on
pub exits : {X Y : Type 0} (view : X → Y) (IsRight : X → Type 0) (r : Result X Stop) (stop : Stop)
    (rest : Tokens) (reading : Option (Y × Tokens)) → IsErrAnd r (λ e. e ≡ stop)
    → Stops stop reading → Finds view IsRight r rest reading
exits view IsRight (Ok x) stop rest reading h s = absurd h
exits view IsRight (Err e) stop rest reading h s = rw h s

pub exits_reads : {X Y : Type 0} (view : X → Y) (r : Result X Stop) (stop : Stop) (rest : Tokens)
    (reading : Option (Y × Tokens)) → IsErrAnd r (λ e. e ≡ stop)
    → Stops stop reading → Reads view r rest reading
exits_reads view (Ok x) stop rest reading h s = absurd h
exits_reads view (Err e) stop rest reading h s = rw h s

-- what is refused of a part is refused of the whole
pub stops_next : {A B : Type 0} (o : Option A) (go : A → Option B) (stop : Stop) → Stops stop o
    → Stops stop (next o go)
stops_next o go NoTree s = rw s refl
stops_next o go OutOfMemory s = tt

-- what follows the first operand, and what follows its operators
abbrev pub behind_whole : ℕ → ℕ → Expr × Tokens → Found
behind_whole inner level whole = choice (climb inner) (inner + 1) level whole.0 whole.1

abbrev pub behind_left : ℕ → ℕ → ℕ → Expr × Tokens → Found
behind_left room inner level left =
    next (chain room (climb inner) room level left.0 left.1)
    (λ whole. choice (climb inner) room level whole.0 whole.1)

abbrev pub behind_operand : ℕ → ℕ → Expr × Tokens → Found
behind_operand inner = behind_left (inner + 1) inner

pub climb_is : (room level : ℕ) (ts : Tokens) → 0 < room
    → climb room level ts
    ≡ next (operand_by (climb (room - 1)) ts) (behind_operand (room - 1) level)
unfolding climb
climb_is zero level ts h = absurd (omega arith)
climb_is (suc room) level ts h =
    let same : suc room ≡ room + 1 = omega arith in
    rw sub-one (ap (λ n. next (operand_by (climb room) ts) (behind_left n room level)) same)

pub continued_at : (room : ℕ) (left : Expr) (ts : Tokens) → 0 < room
    → continued room left ts ≡ behind_operand (room - 1) 1 (left, ts)
unfolding continued
continued_at zero left ts h = absurd (omega arith)
continued_at (suc room) left ts h =
    let same : suc room ≡ room + 1 = omega arith in
    rw sub-one (ap (λ n. behind_left n room 1 (left, ts)) same)

pub chain_is : (turns : ℕ) (read : ℕ → Tokens → Found) (room level : ℕ) (left : Expr) (ts : Tokens)
    → 0 < turns
    → chain turns read room level left ts ≡ otherwise (continues level ts) (Some (left, ts)) (λ op.
    next (read (level_of op + 1) (tail ts)) (λ right.
    next (within room (Binary op left right.0)) (λ e. chain (turns - 1) read room level e right.1)))
chain_is zero read room level left ts h = absurd (omega arith)
chain_is (suc turns) read room level left ts h = rw sub-one refl

pub choice_ends : (read : ℕ → Tokens → Found) (room level : ℕ) (e : Expr) (ts : Tokens)
    → (level ≤ 1 → begins Question ts ≡ false)
    → choice read room level e ts ≡ Some (e, ts)
choice_ends read room level e ts h = either (nat_le level 1)
    (λ is. rw (is, h (leb-true level 1 is)) refl) (λ is. rw is refl)

pub chain_ends : (turns : ℕ) (read : ℕ → Tokens → Found) (room level : ℕ) (left : Expr)
    (ts : Tokens) → continues level ts ≡ None
    → chain turns read room level left ts ≡ Some (left, ts)
chain_ends zero read room level left ts h = rw h refl
chain_ends (suc turns) read room level left ts h = rw h refl

pub no_room : (room level : ℕ) (ts : Tokens) → room ≡ 0 → climb room level ts ≡ None
unfolding climb
no_room room level ts h = rw h refl

pub room_some : (room level : ℕ) (ts : Tokens) (r : Expr × Tokens) → climb room level ts ≡ Some r
    → 0 < room
room_some zero level ts r h = absurd (cc (h, no_room zero level ts refl))
room_some (suc room) level ts r h = omega arith

-- the ways in which a climb ends
module _ (room level : ℕ) (ts : Tokens) (some : 0 < room) where
  -- with its operators
  pub chained : (rest after : Tokens) (left whole : Expr)
      → operand_by (climb (room - 1)) ts ≡ Some (left, rest)
      → chain (room - 1 + 1) (climb (room - 1)) (room - 1 + 1) level left rest ≡ Some (whole, after)
      → climb room level ts ≡ choice (climb (room - 1)) (room - 1 + 1) level whole after
  chained rest after left whole e c = rw (climb_is room level ts some, e, c) refl

  -- with no operator and no choice behind it
  pub ended : (rest : Tokens) (left : Expr) → operand_by (climb (room - 1)) ts ≡ Some (left, rest)
      → continues level rest ≡ None → begins Question rest ≡ false
      → climb room level ts ≡ Some (left, rest)
  ended rest left e n q =
      chained rest rest left left e
      (chain_ends (room - 1 + 1) (climb (room - 1)) (room - 1 + 1) level left rest n)
      ∙ choice_ends (climb (room - 1)) (room - 1 + 1) level left rest (λ low. q)

-- an operator behind a left operand, with its right operand
pub turns_on : (turns turns' room level : ℕ) (read : ℕ → Tokens → Found) (all : Found)
    (ts rest : Tokens) (op : BinaryOp) (left right joined : Expr) → turns ≡ suc turns'
    → all ≡ chain turns read room level left ts
    → continues level ts ≡ Some op → read (level_of op + 1) (tail ts) ≡ Some (right, rest)
    → within room (Binary op left right) ≡ Some joined
    → all ≡ chain turns' read room level joined rest
turns_on turns turns' room level read all ts rest op left right joined fuel so_far next_op reads
    is = rw (so_far, fuel, next_op, reads, is) refl

-- what begins with an expression in parentheses
pub whole_read : (room : ℕ) (e left joined found : Expr) (ts rest after : Tokens)
    → height_of e < room → left ≡ Parentheses e
    → chain (room - 1 + 1) (climb (room - 1)) (room - 1 + 1) 1 left ts ≡ Some (joined, rest)
    → choice (climb (room - 1)) (room - 1 + 1) 1 joined rest ≡ Some (found, after)
    → whole room (Some e) ts ≡ Some (found, after)
whole_read room e left joined found ts rest after h is c d =
    let low = le-leb (height_of e + 1) room (omega arith) in
    rw (low, continued_at room (Parentheses e) ts (omega arith), ← is, c, d) refl

-- what is read behind a name
pub place_is : (room : ℕ) (ts rest : Tokens) (name : List ℕ) → 0 < room
    → name_at ts ≡ Some (name, rest) → place room ts ≡ place_by (climb (room - 1) 1) name rest
unfolding place expression
place_is zero ts rest name h e = absurd (omega arith)
place_is (suc room) ts rest name h e = rw (sub-one, e) refl

pub placed : {N : Type 0} (room : ℕ) (ts rest after : Tokens) (name : List ℕ) (a : Accessors)
    (p : CodePlace N) → 0 < room → name_at ts ≡ Some (name, rest)
    → accessors_by (suc (length rest)) (climb (room - 1) 1) (λ a. a) rest ≡ Some (a, after)
    → plain (bare_place p) ≡ tree.Place name tt a → place room ts ≡ Some (named p, after)
placed room ts rest after name a p h e r is =
    let same : tree.Place p.name tt (plain_accessors (place_accessors p))
    ≡ tree.Place name tt a = is in
    let pair : ◌≡◌ {A = List ℕ × Accessors} (name, a) (named p) = cc in
    rw (place_is room ts rest name h e, r) (ap (λ (x : List ℕ × Accessors). Some (x, after)) pair)
