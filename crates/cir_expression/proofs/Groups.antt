-- What begins with a parenthesis, an expression or a tuple of expressions and `_`: what is read
-- prints its tokens and is fine, and what is fine is read.
use Rattle.std.proofs.Common.{◌≡◌, ℕ, zero, suc, ◌+◌, ◌-◌, ◌<◌, ◌≤◌, List, [], ◌∷◌, ◌++◌}
use Rattle.std.proofs.Common.{length, Option, Some, None, true, false, refl, ap, ◌∙◌, sym, arith}
use Rattle.std.proofs.Common.{append_assoc}
use Rattle.std.proofs.lemmas.Bool.{le-leb}
use Rattle.cir_token.specs.declared.token.TokenKind.TheVariants as token
use Rattle.cir_token.specs.declared.token.Symbol.TheVariants.{Comma, OpenParenthesis}
use Rattle.cir_token.specs.declared.token.Symbol.TheVariants.{CloseParenthesis}
use Rattle.cir_ast.specs.Tree.{Parentheses}
use Rattle.cir_ast.specs.Plain.{PlainExpr as Expr}
use Rattle.cir_ast.specs.Print.{tokens_of, list_tokens}
use Rattle.cir_ast.specs.Shape.{level_of, Fits, Each}
use Rattle.cir_ast.specs.Height.{height_of}
use Rattle.cir_expression.specs.Front.{Tokens, tail, begins, begins_underscore, behind}
use Rattle.cir_expression.specs.Reading.{climb, expression, continued, element}
use Rattle.cir_expression.specs.Reading.{Grouped, Whole, Tuple, whole, group, goes_on, starts}
use Rattle.cir_expression.proofs.Combinators.{Sound, nothing, gives, Of, reads, at, and_then}
use Rattle.cir_expression.proofs.Combinators.{begins_is, if_symbol, if_underscore, symbol_sound}
use Rattle.cir_expression.proofs.Combinators.{closed_sound, AreSeveral, several_from}
use Rattle.cir_expression.proofs.Combinators.{Undoes, ends_comma, ends_parenthesis, list_from}
use Rattle.cir_expression.proofs.Front.{split, within_sound, expression_starts}
use Rattle.cir_expression.proofs.Steps.{climb_is, continued_at, room_some}
use Rattle.cir_expression.proofs.Sound.{IsLow, IsClimbed, behind_sound, climb_sound}
use Rattle.cir_expression.proofs.Sound.{expression_sound}
use Rattle.cir_expression.proofs.Undo.{expression_undo}

-- None is `_`
abbrev pub element_tokens : Option Expr → Tokens
element_tokens None = token.Underscore ∷ []
element_tokens (Some e) = tokens_of e

-- an element that fits and is low enough
abbrev pub FitsElement : ℕ → Option Expr → Type 0
FitsElement room None = Unit {0}
FitsElement room (Some e) = IsLow room e

-- an expression was read that begins with a parenthesis, or a tuple, behind its `(`
abbrev pub IsTuple : ℕ → Tokens → List (Option Expr) → Tokens → Type 0
IsTuple room ts xs rest =
    Of (list_tokens element_tokens) (AreSeveral (FitsElement room)) ts
    (xs, token.Symbol CloseParenthesis ∷ rest)

abbrev pub IsGrouped : ℕ → Tokens → Grouped → Tokens → Type 0
IsGrouped room ts (Whole e) rest =
    Of tokens_of (IsLow room) (token.Symbol OpenParenthesis ∷ ts) (e, rest)
IsGrouped room ts (Tuple xs) rest = IsTuple room ts xs rest

element_sound : (room : ℕ) (ts : Tokens)
    → Sound (Of element_tokens (FitsElement room) ts) (element room ts)
element_sound room ts =
    if_underscore ts (λ is. reads is tt)
    (and_then (expression_sound room ts) (λ e h. reads h.prints h.fine))

-- the expression that begins with this operand
continued_sound : (room : ℕ) (left : Expr) (ts all : Tokens) → tokens_of left ++ ts ≡ all
    → ((level : ℕ) → Fits level left) → height_of left ≤ room
    → Sound (IsClimbed 1 room all) (continued room left ts)
unfolding continued
continued_sound zero left ts all is fits low = nothing
continued_sound (suc room) left ts all is fits low =
    behind_sound (climb room) room (climb_sound room) 1 all left ts
    record { prints = is; fits = fits 2; low = low; follows = λ op e. fits (level_of op) }

whole_sound : (room : ℕ) (x : Option Expr) (rest ts : Tokens)
    → element_tokens x ++ token.Symbol CloseParenthesis ∷ rest ≡ ts → FitsElement room x
    → Sound (IsClimbed 1 room (token.Symbol OpenParenthesis ∷ ts)) (whole room x rest)
whole_sound room None rest ts is fine = nothing
whole_sound room (Some e) rest ts is fine =
    and_then (within_sound room (Parentheses e)) (λ p j.
    rw j.0 (continued_sound room (Parentheses e) rest (token.Symbol OpenParenthesis ∷ ts)
    (rw append_assoc (ap (λ (t : Tokens). token.Symbol OpenParenthesis ∷ t) is)) (λ level. fine.0)
    j.1))

pub group_sound : (room : ℕ) (ts : Tokens)
    → Sound (λ g. IsGrouped room ts g.0 g.1) (group room ts)
unfolding group
group_sound room ts =
    and_then (element_sound room ts) (λ x first. if_symbol Comma x.1
    (λ comma. and_then (closed_sound CloseParenthesis (several_from (element_sound room)
    (length (tail x.1)) x.0 (tail x.1) ts (rw comma first.prints) first.fine))
    (λ xs h. gives h))
    (and_then (symbol_sound CloseParenthesis x.1) (λ rest close.
    and_then (whole_sound room x.0 rest ts (rw close first.prints) first.fine) (λ e c.
    gives (record { prints = c.prints; fine = (c.fits, c.low) })))))

-- an expression isn't `_`
pub no_underscore : (e : Expr) (rest : Tokens) → begins_underscore (tokens_of e ++ rest) ≡ false
no_underscore e rest = from (tokens_of e ++ rest) (expression_starts e rest)
  where
    from : (ts : Tokens) → starts ts ≡ true → begins_underscore ts ≡ false
    from (token.Underscore ∷ ts) h = absurd (cc h)
    from _ h = refl

element_undo : (x : Option Expr) (room : ℕ) → FitsElement room x
    → Undoes element_tokens (element room) x
element_undo None room fine rest ends = refl
element_undo (Some e) room fine rest ends =
    rw (no_underscore e rest, expression_undo e room rest fine.0 fine.1 ends.goes) refl

elements_undo : (xs : List (Option Expr)) (room : ℕ) → Each (FitsElement room) xs
    → Each (Undoes element_tokens (element room)) xs
elements_undo [] room each = tt
elements_undo (x ∷ xs) room each = (element_undo x room each.0, elements_undo xs room each.1)

pub tuple_undo : (xs : List (Option Expr)) (room : ℕ) (rest : Tokens) → 2 ≤ length xs
    → Each (FitsElement room) xs
    → group room (list_tokens element_tokens xs ++ token.Symbol CloseParenthesis ∷ rest)
    ≡ Some (Tuple xs, rest)
unfolding group
tuple_undo (x ∷ y ∷ ys) room rest some each =
    let all : Tokens =
    list_tokens element_tokens (y ∷ ys) ++ token.Symbol CloseParenthesis ∷ rest in
    rw (
      append_assoc,
      element_undo x room each.0 (token.Symbol Comma ∷ all) (ends_comma all),
      list_from element_tokens (element room) CloseParenthesis (refl, refl, ends_parenthesis)
          (y ∷ ys) (x ∷ []) rest (λ e. absurd (cc e)) (elements_undo (y ∷ ys) room each.1),
    ) refl
tuple_undo _ room rest some each = absurd (omega arith)

-- an expression that begins with a parenthesis is read on from what stands in it
pub group_undo : (room : ℕ) (e : Expr) (ts rest : Tokens) → Fits 1 e → height_of e ≤ room
    → goes_on rest ≡ false → tokens_of e ++ rest ≡ token.Symbol OpenParenthesis ∷ ts
    → group room ts ≡ Some (Whole e, rest)
unfolding group expression
group_undo room e ts rest fits high ends is =
    let read : climb room 1 (token.Symbol OpenParenthesis ∷ ts) ≡ Some (e, rest) =
    ap (climb room 1) (sym is) ∙ expression_undo e room rest fits high ends in
    let some : 0 < room = room_some room 1 _ (e, rest) read in
    let begun = sym (climb_is room 1 _ some) ∙ read in
    split (climb (room - 1) 1 ts) (λ f. absurd (cc (rw f at begun))) (λ x f.
    split (behind CloseParenthesis x.1) (λ g. absurd (cc (rw (f, g) at begun))) (λ after g.
    let inner = at (climb_sound (room - 1) 1 ts) f in
    let print : ts ≡ tokens_of x.0 ++ token.Symbol CloseParenthesis ∷ after =
    rw (at (symbol_sound CloseParenthesis x.1) g) (sym inner.prints) in
    let found = rw (f, g) at begun in
    rw (
      print,
      element_undo (Some x.0) room (inner.fits, omega (arith, inner.low))
          (token.Symbol CloseParenthesis ∷ after) (ends_parenthesis after),
      le-leb (height_of x.0 + 1) room (omega (arith, inner.low)),
      continued_at room (Parentheses x.0) after some,
      found,
    ) refl))

pub whole_undo : (e : Expr) (room : ℕ) (rest : Tokens) → Fits 1 e → height_of e ≤ room
    → goes_on rest ≡ false → begins OpenParenthesis (tokens_of e ++ rest) ≡ true
    → group room (tail (tokens_of e ++ rest)) ≡ Some (Whole e, rest)
whole_undo e room rest fits high ends opens =
    group_undo room e _ rest fits high ends (begins_is OpenParenthesis _ opens)
