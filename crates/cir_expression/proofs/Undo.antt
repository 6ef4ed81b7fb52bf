-- Reading undoes printing: a tree that is shaped and low enough is read from the tokens that it
-- prints.
use Rattle.std.proofs.Common.{◌≡◌, ◌≢◌, ℕ, zero, suc, ◌+◌, ◌-◌, ◌<◌, ◌≤◌, List, [], ◌∷◌, ◌++◌}
use Rattle.std.proofs.Common.{length, Some, None, Bool, true, false, refl, ap, ◌∙◌, sym}
use Rattle.std.proofs.Common.{arith, append_assoc, length-append}
use Rattle.std.proofs.lemmas.Bool.{le-leb}
use Rattle.cir_token.specs.declared.token.TokenKind.TheVariants as token
use Rattle.cir_token.specs.declared.token.Symbol.{Symbol}
use Rattle.cir_token.specs.declared.token.Symbol.TheVariants.{Dot, Question, Colon, OpenParenthesis}
use Rattle.cir_token.specs.declared.token.Symbol.TheVariants.{CloseParenthesis, OpenBracket}
use Rattle.cir_token.specs.declared.token.Symbol.TheVariants.{CloseBracket}
use Rattle.cir_ast.specs.declared.operators.Unary.{Unary as UnaryOp}
use Rattle.cir_ast.specs.declared.operators.Unary.TheVariants as unary
use Rattle.cir_ast.specs.declared.operators.Binary.{Binary as BinaryOp}
use Rattle.cir_ast.specs.declared.operators.Binary.TheVariants as binary
use Rattle.cir_ast.specs.declared.operators.Arrow.{Arrow}
use Rattle.cir_ast.specs.Tree as tree
use Rattle.cir_ast.specs.Tree.{as_exprs}
use Rattle.cir_ast.specs.Plain.{PlainExpr as Expr, PlainExprs as Exprs, PlainAccessors as Accessors}
use Rattle.cir_ast.specs.Plain.{PlainInputs as Inputs, PlainNamedInputs as NamedInputs}
use Rattle.cir_ast.specs.Print.{unary_symbol, binary_symbol, parallel_tokens, tokens_of, listed}
use Rattle.cir_ast.specs.Print.{accessor_tokens, input_tokens, named_tokens}
use Rattle.cir_ast.specs.Shape.{level_of, Fits, AllFit, AreFitAccessors, AreFitInputs, AllNamedFit}
use Rattle.cir_ast.specs.Shape.{Each}
use Rattle.cir_ast.specs.Height.{height_of, exprs_height, accessors_height, inputs_height}
use Rattle.cir_ast.specs.Height.{named_height}
use Rattle.cir_expression.specs.Front.{Tokens, begins}
use Rattle.cir_expression.specs.Combinators.{next, listed_to}
use Rattle.cir_expression.specs.Reading.{Found, Input, input_at, as_inputs, named_input, inputs_by}
use Rattle.cir_expression.specs.Reading.{named_inputs_by, called_by, continues, arguments_by}
use Rattle.cir_expression.specs.Reading.{accessors_by, operand_by, chain, climb, expression, place}
use Rattle.cir_expression.specs.Reading.{arguments, goes_on, starts}
use Rattle.cir_expression.proofs.Front.{tighter, none_at_all, none_so_tight, no_operator, not_on}
use Rattle.cir_expression.proofs.Front.{not_start, levels, continues_at, expression_starts}
use Rattle.cir_expression.proofs.Front.{input_is, no_input}
use Rattle.cir_expression.proofs.Combinators.{Undoes, ends_parenthesis, ends_bracket, Closes}
use Rattle.cir_expression.proofs.Combinators.{list_undo}
use Rattle.cir_expression.proofs.Steps.{behind_whole, behind_operand, climb_is, chain_is}
use Rattle.cir_expression.proofs.Steps.{chain_ends, choice_ends}
use Rattle.cir_expression.proofs.Sound.{listed_as, named_input_tokens, named_as}

-- an expression whose operators are of this level or tighter ones ends before these tokens: no
-- call, index or member, no such operator and no choice goes on
abbrev Ends : ℕ → Tokens → Type 0
Ends m rest = (begins OpenParenthesis rest ≡ false) × (begins OpenBracket rest ≡ false)
    × (begins Dot rest ≡ false) × (continues (m + 1) rest ≡ None)
    × (m ≤ 1 → begins Question rest ≡ false)

ends_where : (m : ℕ) (rest : Tokens) → goes_on rest ≡ false → Ends m rest
ends_where m rest h = (
  not_on OpenParenthesis rest h refl,
  not_on OpenBracket rest h refl,
  not_on Dot rest h refl,
  no_operator (m + 1) rest h,
  λ low. not_on Question rest h refl,
)

-- an operand ends before an operator
ends_before : (op : BinaryOp) (ts : Tokens)
    → Ends (level_of op) (token.Symbol (binary_symbol op) ∷ ts)
ends_before binary.Pow ts = (refl, refl, refl, refl, λ low. absurd (omega arith))
ends_before _ ts = (refl, refl, refl, refl, λ low. absurd (omega arith))

-- reading at this level comes to this left operand, with turns left
record Climbs (n level : ℕ) (e : Expr) (rest all : Tokens) : Type 0 where
  turns : ℕ
  enough : n ≤ turns + height_of e
  is : climb n level all
      ≡ next (chain turns (climb (n - 1)) (n - 1 + 1) level e rest) (behind_whole (n - 1) level)

settled : (m n k : ℕ) (e : Expr) (rest : Tokens) → Ends m rest → continues k rest ≡ None
    → (k ≤ 1 → begins Question rest ≡ false)
    → (Ends k rest → Climbs n k e rest (tokens_of e ++ rest))
    → climb n k (tokens_of e ++ rest) ≡ Some (e, rest)
settled m n k e rest ends nothing asked so_far =
    let c : Climbs n k e rest (tokens_of e ++ rest) =
    so_far (ends.0, ends.1, ends.2, tighter k (k + 1) rest (omega arith) nothing, asked) in
    c.is ∙ rw (chain_ends c.turns (climb (n - 1)) (n - 1 + 1) k e rest nothing)
    (choice_ends (climb (n - 1)) (n - 1 + 1) k e rest asked)

-- before tokens that don't go on
read_back : (n : ℕ) (e : Expr)
    → ((rest : Tokens) → Ends 1 rest → Climbs n 1 e rest (tokens_of e ++ rest))
    → (rest : Tokens) → goes_on rest ≡ false → climb n 1 (tokens_of e ++ rest) ≡ Some (e, rest)
read_back n e so_far rest ends =
    settled 1 n 1 e rest (ends_where 1 rest ends) (no_operator 1 rest ends)
    (λ l. not_on Question rest ends refl) (so_far rest)

first_operand : (n level : ℕ) (e : Expr) (all rest : Tokens) → 0 < n
    → operand_by (climb (n - 1)) all ≡ Some (e, rest) → Climbs n level e rest all
first_operand n level e all rest pos read = record {
  turns = n - 1 + 1;
  enough = omega arith;
  is = climb_is n level all pos ∙ ap (λ (o : Found). next o (behind_operand (n - 1) level)) read;
}

with_operator : (n level : ℕ) (op : BinaryOp) (a b : Expr) (rest all : Tokens) → level ≤ level_of op
    → height_of (tree.Binary op a b) ≤ n
    → Climbs n level a (token.Symbol (binary_symbol op) ∷ (tokens_of b ++ rest)) all
    → climb (n - 1) (level_of op + 1) (tokens_of b ++ rest) ≡ Some (b, rest)
    → Climbs n level (tree.Binary op a b) rest all
with_operator n level op a b rest all low high left right =
    let some : 0 < left.turns = omega (arith, left.enough) in
    let fits = le-leb (height_of (tree.Binary op a b)) (n - 1 + 1) (omega arith) in
    record {
      turns = left.turns - 1;
      enough = omega (arith, left.enough);
      is = left.is ∙ ap (λ (o : Found). next o (behind_whole (n - 1) level))
          (chain_is left.turns (climb (n - 1)) (n - 1 + 1) level a _ some
          ∙ rw (continues_at op level (tokens_of b ++ rest) low, right, fits) refl);
    }

-- a condition, and what it chooses between
with_choice : (n level : ℕ) (c a b : Expr) (rest all : Tokens) → level ≤ 1
    → height_of (tree.Choice c a b) ≤ n
    → Climbs n level c
    (token.Symbol Question ∷ (tokens_of a ++ token.Symbol Colon ∷ (tokens_of b ++ rest))) all
    → climb (n - 1) 1 (tokens_of a ++ token.Symbol Colon ∷ (tokens_of b ++ rest))
    ≡ Some (a, token.Symbol Colon ∷ (tokens_of b ++ rest))
    → climb (n - 1) 1 (tokens_of b ++ rest) ≡ Some (b, rest)
    → continues level rest ≡ None → (level ≤ 1 → begins Question rest ≡ false)
    → Climbs n level (tree.Choice c a b) rest all
with_choice n level c a b rest all low high condition chosen other nothing asked = record {
  turns = n;
  enough = omega arith;
  is = condition.is
      ∙ rw (
        chain_ends condition.turns (climb (n - 1)) (n - 1 + 1) level c _ refl,
        le-leb level 1 low,
        chosen,
        other,
        le-leb (height_of (tree.Choice c a b)) (n - 1 + 1) (omega arith),
        chain_ends n (climb (n - 1)) (n - 1 + 1) level (tree.Choice c a b) rest nothing,
      ) (sym (choice_ends (climb (n - 1)) (n - 1 + 1) level (tree.Choice c a b) rest asked));
}

-- the trees of a list
abbrev list_of : Exprs → List Expr
list_of tree.none = []
list_of (tree.more e es) = e ∷ list_of es

as_list : (es : Exprs) → as_exprs (list_of es) ≡ es
as_list tree.none = refl
as_list (tree.more e es) = ap (tree.more e) (as_list es)

list_as : (es : List Expr) → list_of (as_exprs es) ≡ es
list_as [] = refl
list_as (e ∷ es) = ap (λ (x : List Expr). e ∷ x) (list_as es)

abbrev inputs_of : NamedInputs → List Input
inputs_of tree.unnamed = []
inputs_of (tree.named name a e is) = ((name, a), e) ∷ inputs_of is

as_inputs_of : (is : NamedInputs) → as_inputs (inputs_of is) ≡ is
as_inputs_of tree.unnamed = refl
as_inputs_of (tree.named name a e is) = ap (tree.named name a e) (as_inputs_of is)

-- what operands are read from what they print
exprs_undo : (close : Symbol) (read : Tokens → Found) → Closes close → (es : Exprs) (rest : Tokens)
    → es ≢ tree.none → Each (Undoes tokens_of read) (list_of es)
    → listed_to close (length (listed es ++ token.Symbol close ∷ rest)) read []
    (listed es ++ token.Symbol close ∷ rest) ≡ Some (list_of es, rest)
exprs_undo close read closes es rest some each =
    rw (ap listed (sym (as_list es)) ∙ listed_as (list_of es))
    (list_undo tokens_of read close closes
    (list_of es) rest (λ empty. some (sym (as_list es) ∙ ap as_exprs empty)) each)

named_undo : (read : Tokens → Found) (is : NamedInputs) (rest : Tokens) → is ≢ tree.unnamed
    → Each (Undoes named_input_tokens (named_input read)) (inputs_of is)
    → named_inputs_by read (named_tokens is ++ token.Symbol CloseParenthesis ∷ rest)
    ≡ Some (inputs_of is, rest)
named_undo read is rest some each =
    rw (ap named_tokens (sym (as_inputs_of is)) ∙ named_as (inputs_of is)) (list_undo
    named_input_tokens (named_input read) CloseParenthesis (refl, refl, ends_parenthesis)
    (inputs_of is) rest (λ empty. some (sym (as_inputs_of is) ∙ ap as_inputs empty)) each)

arguments_found : (es : Exprs) (read : Tokens → Found) (rest : Tokens)
    → Each (Undoes tokens_of read) (list_of es)
    → arguments_by read (listed es ++ token.Symbol CloseParenthesis ∷ rest)
    ≡ Some (list_of es, rest)
arguments_found tree.none read rest each = refl
arguments_found (tree.more e es) read rest each =
    let begun : starts (listed (tree.more e es) ++ token.Symbol CloseParenthesis ∷ rest) ≡ true =
    rw append_assoc (expression_starts e _) in
    rw (not_start CloseParenthesis _ begun refl)
    (exprs_undo CloseParenthesis read (refl, refl, ends_parenthesis) (tree.more e es) rest
    (λ empty. absurd (cc empty)) each)

-- listed inputs don't begin as named ones
no_input_listed : (es : Exprs) (rest : Tokens)
    → input_at (listed es ++ token.Symbol CloseParenthesis ∷ rest) ≡ None
no_input_listed tree.none rest = refl
no_input_listed (tree.more e tree.none) rest = rw append_assoc (no_input e _ refl)
no_input_listed (tree.more e (tree.more f es)) rest = rw append_assoc (no_input e _ refl)

named_found : (is : NamedInputs) (read : Tokens → Found) (rest : Tokens) → is ≢ tree.unnamed
    → Each (Undoes named_input_tokens (named_input read)) (inputs_of is)
    → inputs_by read (named_tokens is ++ token.Symbol CloseParenthesis ∷ rest)
    ≡ Some (tree.Named is, rest)
named_found tree.unnamed read rest some each = absurd (some refl)
named_found (tree.named name a e is) read rest some each =
    from (tree.named name a e is) (named_tokens (tree.named name a e is) ++ _) _
    (input_is name a _) (named_undo read (tree.named name a e is) rest some each)
  where
    from : (is : NamedInputs) (ts : Tokens) (i : (List ℕ × Arrow) × Tokens) → input_at ts ≡ Some i
        → named_inputs_by read ts ≡ Some (inputs_of is, rest)
        → inputs_by read ts ≡ Some (tree.Named is, rest)
    from is ts i e h = rw (e, h, as_inputs_of is) refl

call_found : (parallel : Bool) (name : List ℕ) (es : Exprs) (read : ℕ → Tokens → Found)
    (after : Tokens)
    → arguments_by (read 1) (listed es ++ token.Symbol CloseParenthesis ∷ after)
    ≡ Some (list_of es, after)
    → operand_by read
    (parallel_tokens parallel ++ token.Name name ∷ token.Symbol OpenParenthesis
    ∷ (listed es ++ token.Symbol CloseParenthesis ∷ after))
    ≡ called_by (read 1) parallel name (list_of es) after
call_found true name es read after h = rw h refl
call_found false name es read after h = rw h refl

no_call : (a : Accessors) (rest : Tokens) → begins OpenParenthesis rest ≡ false
    → begins OpenParenthesis (accessor_tokens a ++ rest) ≡ false
no_call tree.done rest h = h
no_call (tree.index e a) rest h = refl
no_call (tree.member name a) rest h = refl

unary_is : (op : UnaryOp) (read : ℕ → Tokens → Found) (ts : Tokens)
    → operand_by read (token.Symbol (unary_symbol op) ∷ ts)
    ≡ next (read 12 ts) (λ inner. Some (tree.Unary op inner.0, inner.1))
unary_is unary.Negate read ts = refl
unary_is _ read ts = refl

mutual
  undo : (e : Expr) (n m level : ℕ) → height_of e ≤ n → Fits m e → level ≤ m → (rest : Tokens)
      → Ends m rest → Climbs n level e rest (tokens_of e ++ rest)
  undo (tree.Number x) n m level high fits low rest ends =
      first_operand n level _ _ rest (omega arith) refl
  undo (tree.Place name _ a) n m level high fits low rest ends =
      let path = undo_accessors a (suc (length (accessor_tokens a ++ rest))) (n - 1) (λ a. a) rest
      (omega arith) fits (omega (arith, length-append (accessor_tokens a) rest)) ends.1 ends.2 in
      first_operand n level _ _ rest (omega arith) (rw (no_call a rest ends.0, path) refl)
  undo (tree.Call parallel name _ es) n m level high fits low rest ends =
      first_operand n level _ _ rest (omega arith) (rw (append_assoc, append_assoc)
      (call_found parallel name es (climb (n - 1)) rest
      (arguments_found es (climb (n - 1) 1) rest (undo_list es (n - 1) (omega arith) fits))
      ∙ rw (ends.0, as_list es) refl))
  undo (tree.Anonymous parallel name _ es given) n m level high fits low rest ends =
      first_operand n level _ _ rest (omega arith) (rw (append_assoc, append_assoc, append_assoc)
      (call_found parallel name es (climb (n - 1)) _
      (arguments_found es (climb (n - 1) 1) _ (undo_list es (n - 1) (omega arith) fits.0))
      ∙ rw (undo_inputs given (n - 1) rest (omega arith) fits.1, as_list es) refl))
  undo (tree.Parentheses e) n m level high fits low rest ends =
      let inner = read_back (n - 1) e (undo e (n - 1) 1 1 (omega arith) fits (omega arith))
      (token.Symbol CloseParenthesis ∷ rest) refl in
      first_operand n level _ _ rest (omega arith) (rw (append_assoc, inner) refl)
  undo (tree.Array es) n m level high fits low rest ends =
      let elements = exprs_undo CloseBracket (climb (n - 1) 1) (refl, refl, ends_bracket) es rest
      fits.0 (undo_list es (n - 1) (omega arith) fits.1) in
      first_operand n level _ _ rest (omega arith) (rw (append_assoc, elements, as_list es) refl)
  undo (tree.Unary op a) n m level high fits low rest ends =
      let operand = settled m (n - 1) 12 a rest ends (none_so_tight 12 rest (omega arith))
      (λ l. absurd (omega arith)) (undo a (n - 1) 12 12 (omega arith) fits (omega arith) rest) in
      first_operand n level _ _ rest (omega arith)
      (unary_is op (climb (n - 1)) (tokens_of a ++ rest) ∙ rw operand refl)
  undo (tree.Binary op a b) n m level high fits low rest ends =
      let above : 2 ≤ level_of op = (levels op).0 in
      let fit : m ≤ level_of op = fits.0 in
      let after : Tokens = tokens_of b ++ rest in
      rw append_assoc (with_operator n level op a b rest _ (omega arith) high
      (undo a n (level_of op) level (omega arith) fits.1 (omega arith) _ (ends_before op after))
      (settled m (n - 1) (level_of op + 1) b rest ends
      (tighter (m + 1) (level_of op + 1) rest (omega arith) ends.3) (λ l. absurd (omega arith))
      (undo b (n - 1) (level_of op + 1) (level_of op + 1) (omega arith) fits.2 (omega arith) rest)))
  undo (tree.Choice c a b) n m level high fits low rest ends =
      let loose : m ≤ 1 = fits.0 in
      let none = λ (k : ℕ). none_at_all (m + 1) k rest (omega arith) ends.3 in
      let chosen : Tokens = token.Symbol Colon ∷ (tokens_of b ++ rest) in
      rw (append_assoc, append_assoc) (with_choice n level c a b rest _ (omega arith) high
      (undo c n 2 level (omega arith) fits.1 (omega arith)
      (token.Symbol Question ∷ (tokens_of a ++ chosen))
      (refl, refl, refl, refl, λ low. absurd (omega arith)))
      (read_back (n - 1) a (undo a (n - 1) 1 1 (omega arith) fits.2 (omega arith)) chosen refl)
      (settled m (n - 1) 1 b rest ends (none 1) (λ l. ends.4 loose)
      (undo b (n - 1) 1 1 (omega arith) fits.3 (omega arith) rest))
      (none level) (λ l. ends.4 loose))

  undo_inputs : (given : Inputs) (room : ℕ) (rest : Tokens) → inputs_height given ≤ room
      → AreFitInputs given
      → inputs_by (climb room 1) (input_tokens given ++ token.Symbol CloseParenthesis ∷ rest)
      ≡ Some (given, rest)
  undo_inputs (tree.Listed es) room rest high fits =
      let found = arguments_found es (climb room 1) rest (undo_list es room high fits) in
      rw (no_input_listed es rest, found, as_list es) refl
  undo_inputs (tree.Named is) room rest high fits =
      named_found is (climb room 1) rest fits.0 (undo_named is room high fits.1)

  undo_named : (is : NamedInputs) (room : ℕ) → named_height is ≤ room → AllNamedFit is
      → Each (Undoes named_input_tokens (named_input (climb room 1))) (inputs_of is)
  undo_named tree.unnamed room high fits = tt
  undo_named (tree.named name a e is) room high fits = (
    λ rest ends.
        let value =
        read_back room e (undo e room 1 1 (omega arith) fits.0 (omega arith)) rest ends.goes in
        rw (input_is name a (tokens_of e ++ rest), value) refl,
    undo_named is room (omega arith) fits.1,
  )

  undo_list : (es : Exprs) (room : ℕ) → exprs_height es ≤ room → AllFit es
      → Each (Undoes tokens_of (climb room 1)) (list_of es)
  undo_list tree.none room high fits = tt
  undo_list (tree.more e es) room high fits = (
    λ rest ends.
        read_back room e (undo e room 1 1 (omega arith) fits.0 (omega arith)) rest ends.goes,
    undo_list es room (omega arith) fits.1,
  )

  undo_accessors : (a : Accessors) (n room : ℕ) (before : Accessors → Accessors) (rest : Tokens)
      → accessors_height a ≤ room → AreFitAccessors a → length (accessor_tokens a) < n
      → begins OpenBracket rest ≡ false → begins Dot rest ≡ false
      → accessors_by n (climb room 1) before (accessor_tokens a ++ rest) ≡ Some (before a, rest)
  undo_accessors a zero room before rest high fits near no_index no_dot = absurd (omega arith)
  undo_accessors tree.done (suc n) room before rest high fits near no_index no_dot =
      rw (no_index, no_dot) refl
  undo_accessors (tree.index e a) (suc n) room before rest high fits near no_index no_dot =
      let inner = read_back room e (undo e room 1 1 (omega arith) fits.0 (omega arith))
      (token.Symbol CloseBracket ∷ (accessor_tokens a ++ rest)) refl in
      rw (append_assoc, inner) (undo_accessors a n room (λ a. before (tree.index e a)) rest
      (omega arith) fits.1
      (omega (arith, length-append (tokens_of e) (token.Symbol CloseBracket ∷ accessor_tokens a)))
      no_index no_dot)
  undo_accessors (tree.member name a) (suc n) room before rest high fits near no_index no_dot =
      undo_accessors a n room (λ a. before (tree.member name a)) rest high fits (omega arith)
      no_index no_dot

-- an expression is read from what it prints, where it doesn't go on
pub expression_undo : (e : Expr) (room : ℕ) (rest : Tokens) → Fits 1 e → height_of e ≤ room
    → goes_on rest ≡ false → expression room (tokens_of e ++ rest) ≡ Some (e, rest)
unfolding expression
expression_undo e room rest fits high ends =
    read_back room e (undo e room 1 1 high fits (omega arith)) rest ends

pub place_undo : (name : List ℕ) (a : Accessors) (room : ℕ) (rest : Tokens) → AreFitAccessors a
    → height_of (tree.Place name tt a) ≤ room → goes_on rest ≡ false
    → place room (tokens_of (tree.Place name tt a) ++ rest) ≡ Some ((name, a), rest)
unfolding place expression
place_undo name a zero rest fits high ends = absurd (omega arith)
place_undo name a (suc room) rest fits high ends =
    rw (undo_accessors a (suc (length (accessor_tokens a ++ rest))) room (λ a. a) rest
    (omega arith) fits (omega (arith, length-append (accessor_tokens a) rest))
    (not_on OpenBracket rest ends refl) (not_on Dot rest ends refl)) refl

pub arguments_undo : (es : List Expr) (room : ℕ) (rest : Tokens) → AllFit (as_exprs es)
    → exprs_height (as_exprs es) ≤ room
    → arguments room (listed (as_exprs es) ++ token.Symbol CloseParenthesis ∷ rest)
    ≡ Some (es, rest)
unfolding arguments expression
arguments_undo es room rest fits high =
    arguments_found (as_exprs es) (climb room 1) rest (undo_list (as_exprs es) room high fits)
    ∙ rw (list_as es) refl
