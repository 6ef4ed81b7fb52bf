-- What is read prints the tokens, is shaped, and is low enough.
use Rattle.std.proofs.Common.{◌≡◌, ◌≢◌, ℕ, zero, suc, ◌+◌, ◌<◌, ◌≤◌, max, List, [], ◌∷◌, ◌++◌}
use Rattle.std.proofs.Common.{length, Bool, true, false, refl, ap, arith, append_assoc, None, Some}
use Rattle.std.specs.Prelude.{nat_le}
use Rattle.std.proofs.lemmas.Bool.{leb-true}
use Rattle.cir_token.specs.declared.token.TokenKind.TheVariants as token
use Rattle.cir_token.specs.declared.token.Reserved.TheVariants.{Parallel}
use Rattle.cir_token.specs.declared.token.Symbol.TheVariants.{Comma, Dot, Question, Colon}
use Rattle.cir_token.specs.declared.token.Symbol.TheVariants.{OpenParenthesis, CloseParenthesis}
use Rattle.cir_token.specs.declared.token.Symbol.TheVariants.{OpenBracket, CloseBracket}
use Rattle.cir_token.specs.declared.token.Symbol.{Symbol}
use Rattle.cir_ast.specs.declared.operators.Binary.{Binary as BinaryOp}
use Rattle.cir_ast.specs.Tree as tree
use Rattle.cir_ast.specs.Tree.{as_exprs}
use Rattle.cir_ast.specs.Plain.{PlainExpr as Expr, PlainAccessors as Accessors}
use Rattle.cir_ast.specs.Plain.{PlainInputs as Inputs}
use Rattle.cir_ast.specs.Print.{left_symbol, parallel_tokens, tokens_of, listed, listed_further}
use Rattle.cir_ast.specs.Print.{accessor_tokens, input_tokens, named_tokens, named_further}
use Rattle.cir_ast.specs.Print.{further_tokens, list_tokens, place_tokens}
use Rattle.cir_ast.specs.Shape.{level_of, Fits, AllFit, AreFitAccessors, AreFitInputs, AllNamedFit}
use Rattle.cir_ast.specs.Shape.{Each}
use Rattle.cir_ast.specs.Height.{height_of, exprs_height, accessors_height, inputs_height}
use Rattle.cir_ast.specs.Height.{named_height, place_height}
use Rattle.cir_expression.specs.Front.{Tokens, tail}
use Rattle.cir_expression.specs.Combinators.{next, listed_to}
use Rattle.cir_expression.specs.Reading.{Found, Input, named_input, as_inputs, inputs_by}
use Rattle.cir_expression.specs.Reading.{called_by, continues}
use Rattle.cir_expression.specs.Reading.{arguments_by, accessors_by}
use Rattle.cir_expression.specs.Reading.{place_by, call_by, named_by, grouped_by, operand_by, chain}
use Rattle.cir_expression.specs.Reading.{choice, climb, expression, place, arguments}
use Rattle.cir_expression.proofs.Combinators.{Sound, nothing, gives, Of, reads, at, sound_map}
use Rattle.cir_expression.proofs.Combinators.{and_then, or_else, or_else_is, if_test, if_symbol}
use Rattle.cir_expression.proofs.Combinators.{if_word, symbol_sound, name_sound, closed_sound}
use Rattle.cir_expression.proofs.Combinators.{AreSome, separated_sound}
use Rattle.cir_expression.proofs.Front.{unary_sound, continues_sound, within_sound, input_sound}
use Rattle.cir_expression.proofs.Front.{levels, looser}

-- an expression was read whose operators are of this level or tighter ones, and none is left behind
-- it
pub record IsClimbed (level room : ℕ) (ts : Tokens) (r : Expr × Tokens) : Type 0 where
  pub prints : tokens_of r.0 ++ r.1 ≡ ts
  pub fits : Fits level r.0
  pub low : height_of r.0 ≤ room
  pub ends : 1 < level → continues level r.1 ≡ None

-- an expression that fits and is low enough
abbrev pub IsLow : ℕ → Expr → Type 0
IsLow room e = Fits 1 e × (height_of e ≤ room)

-- one that may stand behind any operator
abbrev IsOperand : ℕ → Tokens → Expr × Tokens → Type 0
IsOperand room = Of tokens_of (λ e. ((level : ℕ) → Fits level e) × (height_of e ≤ room))

-- so far a left operand of what follows was read
pub record Goes (level room : ℕ) (all ts : Tokens) (left : Expr) : Type 0 where
  pub prints : tokens_of left ++ ts ≡ all
  pub fits : Fits (max level 2) left
  pub low : height_of left ≤ room
  pub follows : (op : BinaryOp) → continues level ts ≡ Some op → Fits (level_of op) left

-- and none of its operators follows
abbrev pub IsChained : ℕ → ℕ → Tokens → Expr × Tokens → Type 0
IsChained level room all r = Goes level room all r.1 r.0 × (continues level r.1 ≡ None)

-- what may stand where tight operators may, may stand where looser ones may
fits_looser : (e : Expr) (j k : ℕ) → j ≤ k → Fits k e → Fits j e
fits_looser (tree.Binary op a b) j k low h = (omega (arith, h.0), h.1, h.2)
fits_looser (tree.Choice c a b) j k low h = (omega (arith, h.0), h.1, h.2, h.3)
fits_looser _ j k low h = h

-- lists of the tree print as lists
pub further_as : (es : List Expr)
    → listed_further (as_exprs es) ≡ further_tokens tokens_of es
further_as [] = refl
further_as (e ∷ es) = ap (λ (ts : Tokens). token.Symbol Comma ∷ (tokens_of e ++ ts)) (further_as es)

pub listed_as : (es : List Expr) → listed (as_exprs es) ≡ list_tokens tokens_of es
listed_as [] = refl
listed_as (e ∷ es) = ap (λ (ts : Tokens). tokens_of e ++ ts) (further_as es)

abbrev pub named_input_tokens : Input → Tokens
named_input_tokens i = token.Name i.0.0 ∷ token.Symbol (left_symbol i.0.1) ∷ tokens_of i.1

named_further_as : (is : List Input)
    → named_further (as_inputs is) ≡ further_tokens named_input_tokens is
named_further_as [] = refl
named_further_as (i ∷ is) = ap
    (λ (ts : Tokens). token.Symbol Comma ∷ (named_input_tokens i ++ ts)) (named_further_as is)

pub named_as : (is : List Input) → named_tokens (as_inputs is) ≡ list_tokens named_input_tokens is
named_as [] = refl
named_as (i ∷ is) = ap (λ (ts : Tokens). named_input_tokens i ++ ts) (named_further_as is)

-- expressions that are so
abbrev pub AreLow : ℕ → List Expr → Type 0
AreLow room es = AllFit (as_exprs es) × (exprs_height (as_exprs es) ≤ room)

all_low : (room : ℕ) (es : List Expr) → Each (IsLow room) es → AreLow room es
all_low room [] each = (tt, omega arith)
all_low room (e ∷ es) each =
    let h = all_low room es each.1 in ((each.0.0, h.0), omega (arith, each.0.1, h.1))

all_named_low : (room : ℕ) (is : List Input) → Each (λ i. IsLow room i.1) is
    → AllNamedFit (as_inputs is) × (named_height (as_inputs is) ≤ room)
all_named_low room [] each = (tt, omega arith)
all_named_low room (i ∷ is) each =
    let h = all_named_low room is each.1 in ((each.0.0, h.0), omega (arith, each.0.1, h.1))

-- arguments were read, and `)`
abbrev pub AreArguments : ℕ → Tokens → List Expr × Tokens → Type 0
AreArguments room ts r =
    Of (λ es. listed (as_exprs es)) (AreLow room) ts (r.0, token.Symbol CloseParenthesis ∷ r.1)

-- indices and members were read behind those that were read before
record AreAccessors (room : ℕ) (before : Accessors → Accessors) (ts : Tokens)
    (r : Accessors × Tokens) : Type 0 where
  found : Accessors
  behind : r.0 ≡ before found
  prints : accessor_tokens found ++ r.1 ≡ ts
  fits : AreFitAccessors found
  low : accessors_height found ≤ room

-- a place was read
abbrev pub IsLowPlace : ℕ → List ℕ × Accessors → Type 0
IsLowPlace room p = AreFitAccessors p.1 × (place_height p.1 ≤ room)

abbrev pub IsPlace : ℕ → Tokens → (List ℕ × Accessors) × Tokens → Type 0
IsPlace room = Of (λ p. place_tokens p.0 p.1) (IsLowPlace room)

-- inputs were read, and `)`
abbrev AreInputs : ℕ → Tokens → Inputs × Tokens → Type 0
AreInputs room ts r =
    Of input_tokens (λ given. AreFitInputs given × (inputs_height given ≤ room)) ts
    (r.0, token.Symbol CloseParenthesis ∷ r.1)

-- where what is read with less room is so
module _ (read : ℕ → Tokens → Found) (room : ℕ)
    (each : (k : ℕ) (ts : Tokens) → Sound (IsClimbed k room ts) (read k ts)) where
  chain_sound : (level : ℕ) (all : Tokens) (turns : ℕ) (left : Expr) (ts : Tokens)
      → Goes level (suc room) all ts left
      → Sound (IsChained level (suc room) all) (chain turns read (suc room) level left ts)
  chain_sound level all zero left ts g =
      or_else_is (continues level ts) (λ none. gives (g, none)) (λ op e. nothing)
  chain_sound level all (suc turns) left ts g =
      or_else_is (continues level ts) (λ none. gives (g, none)) (λ op e.
      and_then (each (level_of op + 1) (tail ts)) (λ right r.
      and_then (within_sound (suc room) (tree.Binary op left right.0)) (λ joined j.
      let is = at (continues_sound level ts) e in
      let above : 2 ≤ level_of op = (levels op).0 in
      chain_sound level all turns joined right.1 (rw j.0 record {
        prints = rw (append_assoc, r.prints, is.0) g.prints;
        fits = (omega (arith, is.1), g.follows op e, r.fits);
        low = j.1;
        follows = λ op' e'.
            let low : level_of op' < level_of op + 1 =
            looser (level_of op + 1) level right.1 op' (r.ends (omega arith)) e' in
            (omega arith, g.follows op e, r.fits);
      }))))

  choice_sound : (level : ℕ) (all : Tokens) (c : Expr) (ts : Tokens)
      → IsChained level (suc room) all (c, ts)
      → Sound (IsClimbed level (suc room) all) (choice read (suc room) level c ts)
  choice_sound level all c ts h =
      if_test (nat_le level 1) (λ loose. if_symbol Question ts (λ is.
      and_then (each 1 (tail ts)) (λ a first. and_then (symbol_sound Colon a.1) (λ rest colon.
      and_then (each 1 rest) (λ b second.
      and_then (within_sound (suc room) (tree.Choice c a.0 b.0)) (λ whole w.
      let near : level ≤ 1 = leb-true level 1 loose in
      gives (rw w.0 record {
        prints = rw
            (append_assoc, append_assoc, second.prints, colon, first.prints, is) h.0.prints;
        fits =
            (near, fits_looser c 2 (max level 2) (omega arith) h.0.fits, first.fits, second.fits);
        low = w.1;
        ends = λ far. absurd (omega arith);
      })))))) alone) (λ tight. alone)
    where
      alone : Sound (IsClimbed level (suc room) all) (Some (c, ts))
      alone = gives (record {
        prints = h.0.prints;
        fits = fits_looser c level (max level 2) (omega arith) h.0.fits;
        low = h.0.low;
        ends = λ far. h.1;
      })

  low_sound : (ts : Tokens) → Sound (Of tokens_of (IsLow room) ts) (read 1 ts)
  low_sound ts =
      sound_map (each 1 ts) (λ r h. record { prints = h.prints; fine = (h.fits, h.low) })

  exprs_sound : (close : Symbol) (ts : Tokens)
      → Sound (λ r. Of (list_tokens tokens_of) (AreSome (IsLow room)) ts
      (r.0, token.Symbol close ∷ r.1)) (listed_to close (length ts) (read 1) [] ts)
  exprs_sound close ts = closed_sound close (separated_sound low_sound (length ts) ts)

  arguments_by_sound : (ts : Tokens) → Sound (AreArguments room ts) (arguments_by (read 1) ts)
  arguments_by_sound ts =
      if_symbol CloseParenthesis ts
      (λ is. gives (record { prints = is; fine = (tt, omega arith) }))
      (sound_map (exprs_sound CloseParenthesis ts) (λ r h. record {
        prints = rw (listed_as r.0) h.prints;
        fine = all_low room r.0 h.fine.1;
      }))

  accessors_sound : (n : ℕ) (before : Accessors → Accessors) (ts : Tokens)
      → Sound (AreAccessors room before ts) (accessors_by n (read 1) before ts)
  accessors_sound zero before ts = nothing
  accessors_sound (suc n) before ts =
      if_symbol OpenBracket ts (λ opens. and_then (each 1 (tail ts)) (λ e r.
      and_then (symbol_sound CloseBracket e.1) (λ rest close.
      sound_map (accessors_sound n (λ a. before (tree.index e.0 a)) rest) (λ x h. record {
        found = tree.index e.0 h.found;
        behind = h.behind;
        prints = rw (append_assoc, h.prints, close, r.prints) opens;
        fits = (r.fits, h.fits);
        low = omega (arith, r.low, h.low);
      }))))
      (if_symbol Dot ts (λ dot. and_then (name_sound (tail ts)) (λ name named.
      sound_map (accessors_sound n (λ a. before (tree.member name.0 a)) name.1) (λ x h. record {
        found = tree.member name.0 h.found;
        behind = h.behind;
        prints = rw (h.prints, named) dot;
        fits = h.fits;
        low = h.low;
      })))
      (gives (record {
        found = tree.done;
        behind = refl;
        prints = refl;
        fits = tt;
        low = omega arith;
      })))

  place_by_sound : (name : List ℕ) (ts : Tokens)
      → Sound (IsPlace (suc room) (token.Name name ∷ ts)) (place_by (read 1) name ts)
  place_by_sound name ts =
      and_then (accessors_sound (suc (length ts)) (λ a. a) ts) (λ found h.
      reads (rw (h.behind, h.prints) refl) (rw h.behind h.fits, rw h.behind (omega (arith, h.low))))

  inputs_by_sound : (ts : Tokens) → Sound (AreInputs room ts) (inputs_by (read 1) ts)
  inputs_by_sound ts =
      or_else (input_sound ts)
      (and_then (arguments_by_sound ts) (λ found h.
      gives (record { prints = h.prints; fine = h.fine })))
      (λ i is. and_then (closed_sound CloseParenthesis (separated_sound named_input_sound
      (length ts) ts)) (λ found h.
      gives (record {
        prints = rw (named_as found.0) h.prints;
        fine =
            let low = all_named_low room found.0 h.fine.1 in
            ((some_inputs found.0 h.fine.0, low.0), low.1);
      })))
    where
      named_input_sound : (ts : Tokens)
          → Sound (Of named_input_tokens (λ i. IsLow room i.1) ts) (named_input (read 1) ts)
      named_input_sound ts =
          and_then (input_sound ts) (λ i is. and_then (each 1 i.1) (λ x r.
          reads (rw r.prints is) (r.fits, r.low)))

      some_inputs : (is : List Input) → is ≢ [] → as_inputs is ≢ tree.unnamed
      some_inputs [] some = absurd (some refl)
      some_inputs (i ∷ is) some = λ empty. cc empty

  called_by_sound : (parallel : Bool) (name : List ℕ) (es : List Expr) (ts all : Tokens)
      → parallel_tokens parallel ++ token.Name name ∷ token.Symbol OpenParenthesis
      ∷ (listed (as_exprs es) ++ token.Symbol CloseParenthesis ∷ ts) ≡ all
      → AreLow room es
      → Sound (IsOperand (suc room) all) (called_by (read 1) parallel name es ts)
  called_by_sound parallel name es ts all is low =
      if_symbol OpenParenthesis ts
      (λ opens. and_then (inputs_by_sound (tail ts)) (λ given h.
      reads (simp (append_assoc, h.prints, opens) is)
      ((λ level. (low.0, h.fine.0)), omega (arith, low.1, h.fine.1))))
      (reads (simp append_assoc is) ((λ level. low.0), omega (arith, low.1)))

  call_by_sound : (parallel : Bool) (name : List ℕ) (ts all : Tokens)
      → parallel_tokens parallel ++ token.Name name ∷ ts ≡ all
      → Sound (IsOperand (suc room) all) (call_by (read 1) parallel name ts)
  call_by_sound parallel name ts all is =
      and_then (symbol_sound OpenParenthesis ts) (λ inner opens.
      and_then (arguments_by_sound inner) (λ found h.
      called_by_sound parallel name found.0 found.1 all (rw (h.prints, opens) is) h.fine))

  named_by_sound : (name : List ℕ) (ts : Tokens)
      → Sound (IsOperand (suc room) (token.Name name ∷ ts)) (named_by (read 1) name ts)
  named_by_sound name ts =
      if_symbol OpenParenthesis ts
      (λ opens. call_by_sound false name ts (token.Name name ∷ ts) refl)
      (and_then (place_by_sound name ts) (λ found h.
      reads h.prints ((λ level. h.fine.0), h.fine.1)))

  grouped_by_sound : (ts : Tokens) → Sound (IsOperand (suc room) ts) (grouped_by read ts)
  grouped_by_sound ts =
      if_symbol OpenParenthesis ts (λ opens. and_then (each 1 (tail ts)) (λ inner r.
      and_then (symbol_sound CloseParenthesis inner.1) (λ rest close.
      reads (rw (append_assoc, close, r.prints) opens)
      ((λ level. r.fits), omega (arith, r.low)))))
      (if_symbol OpenBracket ts (λ opens.
      and_then (exprs_sound CloseBracket (tail ts)) (λ found h.
      let low = all_low room found.0 h.fine.1 in
      reads (rw (append_assoc, listed_as found.0, h.prints) opens)
      ((λ level. (some_exprs found.0 h.fine.0, low.0)), omega (arith, low.1))))
      (and_then (unary_sound ts) (λ op is. and_then (each 12 (tail ts)) (λ inner r.
      reads (rw r.prints is) ((λ level. r.fits), omega (arith, r.low))))))
    where
      some_exprs : (es : List Expr) → es ≢ [] → as_exprs es ≢ tree.none
      some_exprs [] some = absurd (some refl)
      some_exprs (e ∷ es) some = λ empty. cc empty

  operand_sound : (ts : Tokens) → Sound (IsOperand (suc room) ts) (operand_by read ts)
  operand_sound (token.Number n ∷ ts) = reads refl ((λ level. tt), omega arith)
  operand_sound (token.Name name ∷ ts) = named_by_sound name ts
  operand_sound (token.Reserved w ∷ ts) =
      if_word Parallel (token.Reserved w ∷ ts) (λ is. and_then (name_sound ts) (λ name named.
      call_by_sound true name.0 name.1 (token.Reserved w ∷ ts) (rw named is))) nothing
  operand_sound (token.Symbol s ∷ ts) = grouped_by_sound (token.Symbol s ∷ ts)
  operand_sound _ = nothing

  -- what follows the first operand
  pub behind_sound : (level : ℕ) (all : Tokens) (left : Expr) (ts : Tokens)
      → Goes level (suc room) all ts left
      → Sound (IsClimbed level (suc room) all)
      (next (chain (suc room) read (suc room) level left ts)
      (λ whole. choice read (suc room) level whole.0 whole.1))
  behind_sound level all left ts g =
      and_then (chain_sound level all (suc room) left ts g) (λ whole h.
      choice_sound level all whole.0 whole.1 h)

pub climb_sound : (room level : ℕ) (ts : Tokens)
    → Sound (IsClimbed level room ts) (climb room level ts)
unfolding climb
climb_sound zero level ts = nothing
climb_sound (suc room) level ts =
    and_then (operand_sound (climb room) room (climb_sound room) ts) (λ left r.
    behind_sound (climb room) room (climb_sound room) level ts left.0 left.1 record {
      prints = r.prints;
      fits = r.fine.0 (max level 2);
      low = r.fine.1;
      follows = λ op e. r.fine.0 (level_of op);
    })

pub expression_sound : (room : ℕ) (ts : Tokens)
    → Sound (Of tokens_of (IsLow room) ts) (expression room ts)
unfolding expression
expression_sound room ts = low_sound (climb room) room (climb_sound room) ts

pub place_sound : (room : ℕ) (ts : Tokens) → Sound (IsPlace room ts) (place room ts)
unfolding place expression
place_sound zero ts = nothing
place_sound (suc room) ts =
    and_then (name_sound ts) (λ name named.
    rw named at (place_by_sound (climb room) room (climb_sound room) name.0 name.1))

pub arguments_sound : (room : ℕ) (ts : Tokens) → Sound (AreArguments room ts) (arguments room ts)
unfolding arguments expression
arguments_sound room ts = arguments_by_sound (climb room) room (climb_sound room) ts
