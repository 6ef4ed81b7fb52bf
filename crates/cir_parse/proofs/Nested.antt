-- Statements: what is read prints its tokens, is shaped and low enough, and leaves no `else` that
-- would be its own.
use Rattle.std.proofs.Common.{◌≡◌, ℕ, zero, suc, ◌≤◌, List, [], ◌∷◌, ◌++◌, length, Option, Some}
use Rattle.std.proofs.Common.{Bool, true, false, refl, ap, ◌∙◌, sym, subst, arith, append_assoc}
use Rattle.std.proofs.Common.{append-nil}
use Rattle.cir_token.specs.declared.token.TokenKind.TheVariants as token
use Rattle.cir_token.specs.declared.token.Reserved.TheVariants as word
use Rattle.cir_token.specs.declared.token.Symbol.TheVariants as symbol
use Rattle.cir_ast.specs.Tree.{as_statements}
use Rattle.cir_ast.specs.Plain.{PlainExpr as Expr, PlainAssign as Assign, PlainFirst as First}
use Rattle.cir_ast.specs.Plain.{PlainLogArgument as LogArgument, PlainStatement as Statement}
use Rattle.cir_ast.specs.Print as print
use Rattle.cir_ast.specs.Shape as shape
use Rattle.cir_ast.specs.Height as height
use Rattle.cir_expression.specs.Front.{Tokens, tail, begins_word}
use Rattle.cir_expression.specs.Combinators.{made}
use Rattle.cir_parse.specs.Marking.{first_on}
use Rattle.cir_parse.specs.Reading.{argument, first, condition, head, plain, statements_by, rest_by}
use Rattle.cir_parse.specs.Reading.{if_by, statement_by, statement, block}
use Rattle.cir_expression.proofs.Combinators.{Sound, nothing, gives, Of, reads, and_then, or_else}
use Rattle.cir_expression.proofs.Combinators.{if_test, begins_word_is, if_symbol, if_word}
use Rattle.cir_expression.proofs.Combinators.{words_sound, closed_sound, after_sound, sound_map}
use Rattle.cir_expression.proofs.Combinators.{enclosed_sound, listed_sound, symbol_sound}
use Rattle.cir_expression.proofs.Combinators.{any_number_sound, each_shaped, each_low}
use Rattle.cir_expression.proofs.Sound.{IsLow, expression_sound}
use Rattle.cir_simple_statement.proofs.Declared.{variable_sound, IsLowAssign, assign_sound}
use Rattle.cir_simple_statement.proofs.Declared.{simple_sound}

abbrev IsLowArgument : ℕ → LogArgument → Type 0
IsLowArgument room a = shape.FitsArgument a × (height.argument_height a ≤ room)

argument_sound : (room : ℕ) (ts : Tokens)
    → Sound (Of print.argument_tokens (IsLowArgument room) ts) (argument room ts)
unfolding argument
argument_sound zero ts = nothing
argument_sound (suc n) ts =
    or_else (words_sound ts)
    (and_then (expression_sound (suc n) ts) λ e h. reads h.prints h.fine)
    (λ words is. reads is (tt, omega arith))

abbrev IsLowFirst : ℕ → First → Type 0
IsLowFirst room f = shape.IsShapedFirst f × (height.first_height f ≤ room)

first_sound : (room : ℕ) (ts : Tokens)
    → Sound (Of print.first_tokens (IsLowFirst room) ts) (first room ts)
unfolding first
first_sound room ts =
    if_word word.Var ts
    (λ is. and_then (listed_sound (variable_sound room) (tail ts)) λ vs h.
    gives record {
      prints = rw h.prints is;
      fine = (
        (h.fine.0, each_shaped shape.IsShapedVariable height.variable_height room vs.0 h.fine.1),
        each_low shape.IsShapedVariable height.variable_height room vs.0 h.fine.1,
      );
    })
    (and_then (assign_sound room ts) λ a h.
    gives record { prints = h.prints; fine = h.fine })

condition_sound : (room : ℕ) (ts : Tokens)
    → Sound (λ r. Of (λ e. token.Symbol symbol.OpenParenthesis ∷ print.tokens_of e) (IsLow room) ts
    (r.0, token.Symbol symbol.CloseParenthesis ∷ r.1)) (condition room ts)
unfolding condition
condition_sound room ts = enclosed_sound (expression_sound room) ts

-- with its mark
marked_sound : {A S : Type 0} {print : A → Tokens} {Fine : A → Type 0} {ts : Tokens}
    {o : Option (A × Tokens)} (spot : S) → Sound (Of print Fine ts) o
    → Sound (Of (λ (x : S × A). print x.1) (λ x. Fine x.1) ts) (made (λ x. (spot, x)) o)
marked_sound spot h = and_then h λ x p. reads p.prints p.fine

-- the head of a `for`, in its parentheses
record IsHead {S : Type 0} (room : ℕ) (ts : Tokens)
    (r : ((S × First) × Expr × (S × Assign)) × Tokens) : Type 0 where
  prints : token.Symbol symbol.OpenParenthesis ∷ first_on r.0.0.1 r.0.1 r.0.2.1 r.1 ≡ ts
  first : IsLowFirst room r.0.0.1
  condition : IsLow room r.0.1
  step : IsLowAssign room r.0.2.1

head_sound : {S : Type 0} (mark : Tokens → S) (room : ℕ) (ts : Tokens)
    → Sound (IsHead room ts) (head mark room ts)
unfolding head
head_sound mark room ts =
    and_then (closed_sound symbol.Semicolon (after_sound
    (λ inner. marked_sound (mark inner) (first_sound room inner)) symbol.OpenParenthesis ts))
    λ f ef.
    and_then (closed_sound symbol.Semicolon (expression_sound room f.1)) λ c ec.
    and_then (closed_sound symbol.CloseParenthesis
    (marked_sound (mark c.1) (assign_sound room c.1))) λ a ea.
    gives record {
      prints = rw (ea.prints, ec.prints, ef.prints) refl;
      first = ef.fine;
      condition = ec.fine;
      step = ea.fine;
    }

-- a statement was read
pub record IsStatement {S : Type 0} (room : ℕ) (ts : Tokens)
    (r : Statement S × Tokens) : Type 0 where
  pub prints : print.statement_tokens r.0 ++ r.1 ≡ ts
  pub shaped : shape.IsShapedStatement r.0
  pub low : height.statement_height r.0 ≤ room
  pub alone : shape.ends_open r.0 ≡ true → begins_word word.Else r.1 ≡ false

taken : {S : Type 0} {room : ℕ} {ts rest : Tokens} {s : Statement S}
    → print.statement_tokens s ++ rest ≡ ts → shape.IsShapedStatement s
    → height.statement_height s ≤ room
    → (shape.ends_open s ≡ true → begins_word word.Else rest ≡ false)
    → Sound (IsStatement room ts) (Some (s, rest))
taken prints shaped low alone =
    gives record { prints = prints; shaped = shaped; low = low; alone = alone }

plain_sound : {S : Type 0} (spot : S) (room : ℕ) (ts : Tokens)
    → Sound (IsStatement (suc room) ts) (plain spot room ts)
unfolding plain
plain_sound spot room ts =
    if_word word.Return ts
    (λ is. and_then (closed_sound symbol.Semicolon (expression_sound room (tail ts))) λ e h.
    taken (simp (append_assoc, h.prints) is) h.fine.0 (omega (arith, h.fine.1)) (λ k. absurd
    (cc k)))
    (if_word word.Assert ts
    (λ is. and_then (closed_sound symbol.Semicolon (condition_sound room (tail ts))) λ e h.
    taken (simp (append_assoc, h.prints) is) h.fine.0 (omega (arith, h.fine.1))
    (λ k. absurd (cc k)))
    (if_word word.Log ts
    (λ is. and_then (closed_sound symbol.Semicolon (enclosed_sound
    (any_number_sound (argument_sound room)) (tail ts))) λ xs h.
    taken (simp (append_assoc, h.prints) is)
    (each_shaped shape.FitsArgument height.argument_height room xs.0 h.fine)
    (omega (arith, each_low shape.FitsArgument height.argument_height room xs.0 h.fine))
    (λ k. absurd (cc k)))
    (and_then (closed_sound symbol.Semicolon (simple_sound room ts)) λ s h.
    taken (simp append_assoc h.prints) h.fine.0 (omega (arith, h.fine.1)) (λ k. absurd (cc k)))))

-- statements that are shaped and low enough, and `}`
abbrev AreLowStatements : {S : Type 0} → ℕ → List (Statement S) → Type 0
AreLowStatements room ss = shape.AreShapedStatements (as_statements ss)
    × (height.statements_height (as_statements ss) ≤ room)

abbrev AreStatements : {S : Type 0} → ℕ → Tokens → List (Statement S) × Tokens → Type 0
AreStatements room ts r =
    Of (λ ss. print.statements_tokens (as_statements ss)) (AreLowStatements room) ts
    (r.0, token.Symbol symbol.CloseBrace ∷ r.1)

-- behind those that were read before
statements_by_sound : {S : Type 0} {room : ℕ} {read : Tokens → Option (Statement S × Tokens)}
    → ((ts : Tokens) → Sound (IsStatement room ts) (read ts))
    → (n : ℕ) (before : List (Statement S)) (ts : Tokens)
    → Sound (λ r. (found : List (Statement S)) × (before ++ found ≡ r.0) × AreStatements room ts
    (found, r.1))
    (statements_by n read before ts)
statements_by_sound each zero before ts = nothing
statements_by_sound each (suc n) before ts =
    if_symbol symbol.CloseBrace ts
    (λ is. gives ([], append-nil before, record { prints = is; fine = (tt, omega arith) }))
    (and_then (each ts) λ s es.
    sound_map (statements_by_sound each n (before ++ s.0 ∷ []) s.1) λ r h. (
      s.0 ∷ h.0,
      sym (append_assoc before (s.0 ∷ []) h.0) ∙ h.1,
      record {
        prints = simp (append_assoc, h.2.prints) es.prints;
        fine = ((es.shaped, h.2.fine.0), omega (arith, es.low, h.2.fine.1));
      },
    ))

rest_sound : {S : Type 0} {room : ℕ} {read : Tokens → Option (Statement S × Tokens)}
    → ((ts : Tokens) → Sound (IsStatement room ts) (read ts))
    → (ts : Tokens) → Sound (AreStatements room ts) (rest_by read ts)
rest_sound {S = S} {room = room} each ts =
    sound_map (statements_by_sound each (length ts) [] ts) λ r h.
    subst (λ (ss : List (Statement S)). AreStatements room ts (ss, r.1)) h.1 h.2

-- no `else` is left behind what ends open
not_open : (b : Bool) (e : Bool) → (b ≡ true → e ≡ false) → e ≡ true → b ≡ false
not_open false e h is = refl
not_open true e h is = absurd (cc (h refl, is))

statement_by_sound : {S : Type 0} (mark : Tokens → S) (room : ℕ)
    (read : Tokens → Option (Statement S × Tokens))
    → ((ts : Tokens) → Sound (IsStatement room ts) (read ts))
    → (ts : Tokens) → Sound (IsStatement (suc room) ts) (statement_by mark room read ts)
unfolding if_by
statement_by_sound mark room read each ts =
    if_symbol symbol.OpenBrace ts
    (λ is. and_then (rest_sound each (tail ts)) λ ss h.
    taken (simp (append_assoc, h.prints) is) h.fine.0 (omega (arith, h.fine.1))
    (λ k. absurd (cc k)))
    (if_word word.If ts
    (λ is. and_then (condition_sound room (tail ts)) λ c ec. and_then (each c.1) λ s es.
    if_test (begins_word word.Else s.1)
    (λ comes. let other = sym (begins_word_is word.Else s.1 comes) in
    and_then (each (tail s.1)) λ t et.
    taken (simp (append_assoc, et.prints, other, es.prints, ec.prints) is) (
      ec.fine.0,
      not_open (shape.ends_open s.0) (begins_word word.Else s.1) es.alone
          (ap (begins_word word.Else) (sym other)),
      es.shaped,
      et.shaped,
    ) (omega (arith, ec.fine.1, es.low, et.low)) et.alone)
    (λ no_other. taken (simp (append_assoc, es.prints, ec.prints) is)
    (ec.fine.0, es.shaped) (omega (arith, ec.fine.1, es.low)) (λ h. no_other)))
    (if_word word.While ts
    (λ is. and_then (condition_sound room (tail ts)) λ c ec. and_then (each c.1) λ s es.
    taken (simp (append_assoc, es.prints, ec.prints) is) (ec.fine.0, es.shaped)
    (omega (arith, ec.fine.1, es.low)) es.alone)
    (if_word word.For ts
    (λ is. and_then (head_sound mark room (tail ts)) λ h eh. and_then (each h.1) λ s es.
    taken (simp (append_assoc, es.prints, eh.prints) is)
    (eh.first.0, eh.condition.0, eh.step.0, es.shaped)
    (omega (arith, eh.first.1, eh.condition.1, eh.step.1, es.low)) es.alone)
    (plain_sound (mark ts) room ts))))

statement_sound : {S : Type 0} (mark : Tokens → S) (room : ℕ) (ts : Tokens)
    → Sound (IsStatement room ts) (statement mark room ts)
unfolding statement
statement_sound mark zero ts = nothing
statement_sound mark (suc room) ts =
    statement_by_sound mark room (statement mark room) (statement_sound mark room) ts

-- a block of a definition
pub block_sound : {S : Type 0} (mark : Tokens → S) (room : ℕ) (ts : Tokens)
    → Sound (λ r. Of (λ (ss : List (Statement S)).
    token.Symbol symbol.OpenBrace ∷ print.statements_tokens (as_statements ss))
    (AreLowStatements room) ts (r.0, token.Symbol symbol.CloseBrace ∷ r.1)) (block mark room ts)
block_sound mark room ts =
    and_then (symbol_sound symbol.OpenBrace ts) λ inner is.
    sound_map (rest_sound (statement_sound mark room) inner) λ r h.
    record { prints = rw h.prints is; fine = h.fine }
