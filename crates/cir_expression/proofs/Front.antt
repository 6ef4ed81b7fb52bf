-- What stands at the front of tokens, by the tests of the reading.
use Rattle.std.proofs.Common.{◌≡◌, ◌≢◌, ℕ, ◌<◌, ◌≤◌, List, ◌∷◌, ◌++◌, Option, Some, None, Bool}
use Rattle.std.proofs.Common.{true, false, refl, ap, arith, append_assoc}
use Rattle.std.specs.Prelude.{nat_le}
use Rattle.std.proofs.lemmas.Bool.{leb-true, leb-false, le-leb}
use Rattle.cir_token.specs.declared.token.TokenKind.TheVariants as token
use Rattle.cir_token.specs.declared.token.Symbol.{Symbol}
use Rattle.cir_token.specs.declared.token.Symbol.TheVariants as symbol
use Rattle.cir_ast.specs.declared.operators.Unary.TheVariants as unary
use Rattle.cir_ast.specs.declared.operators.Binary.{Binary as BinaryOp}
use Rattle.cir_ast.specs.declared.operators.Binary.TheVariants as binary
use Rattle.cir_ast.specs.declared.operators.Arrow.{Arrow}
use Rattle.cir_ast.specs.declared.operators.Arrow.TheVariants as arrow
use Rattle.cir_ast.specs.Tree as tree
use Rattle.cir_ast.specs.Plain.{PlainExpr as Expr}
use Rattle.cir_ast.specs.Print.{unary_symbol, binary_symbol, left_symbol, tokens_of}
use Rattle.cir_ast.specs.Shape.{level_of}
use Rattle.cir_ast.specs.Height.{height_of}
use Rattle.cir_expression.specs.Front.{Tokens, tail, begins}
use Rattle.cir_expression.specs.Reading.{unary_of, unary_at, binary_of, arrow_of}
use Rattle.cir_expression.specs.Reading.{arrow_at, input_at, continues, within, goes_on, starts}
use Rattle.cir_expression.proofs.Combinators.{Sound, nothing, gives, at, and_then, if_test}
use Rattle.cir_expression.proofs.Combinators.{begins_is, name_sound, meaning_sound, IsMeant}

-- a goal by the cases of a value, each with the equation that it stands for
pub split : {A G : Type 0} (o : Option A) → (o ≡ None → G) → ((x : A) → o ≡ Some x → G) → G
split None none some = none refl
split (Some x) none some = some x refl

pub either : {G : Type 0} (b : Bool) → (b ≡ true → G) → (b ≡ false → G) → G
either true so not_so = so refl
either false so not_so = not_so refl

-- what a symbol at the front stands for
unary_symbol_is : (s : Symbol) → IsMeant unary_symbol s (unary_of s)
unary_symbol_is symbol.Minus = refl
unary_symbol_is _ = assumption

binary_symbol_is : (s : Symbol) → IsMeant binary_symbol s (binary_of s)
binary_symbol_is symbol.Star = refl
binary_symbol_is _ = assumption

arrow_symbol_is : (s : Symbol) → IsMeant left_symbol s (arrow_of s)
arrow_symbol_is symbol.AssignLeft = refl
arrow_symbol_is _ = assumption

-- the operator before an operand
pub unary_sound : (ts : Tokens)
    → Sound (λ op. token.Symbol (unary_symbol op) ∷ tail ts ≡ ts) (unary_at ts)
unary_sound = meaning_sound unary_symbol unary_of unary_symbol_is

-- the arrow to the left at the front
pub arrow_sound : (ts : Tokens)
    → Sound (λ a. token.Symbol (left_symbol a) ∷ tail ts ≡ ts) (arrow_at ts)
arrow_sound = meaning_sound left_symbol arrow_of arrow_symbol_is

-- the operator that continues an expression
pub continues_sound : (level : ℕ) (ts : Tokens)
    → Sound (λ op. (token.Symbol (binary_symbol op) ∷ tail ts ≡ ts) × (level ≤ level_of op))
    (continues level ts)
continues_sound level ts =
    and_then (meaning_sound binary_symbol binary_of binary_symbol_is ts) (λ op is.
    if_test (nat_le level (level_of op))
    (λ low. gives (is, leb-true level (level_of op) low)) (λ high. nothing))

pub within_sound : (room : ℕ) (e : Expr)
    → Sound (λ j. (j ≡ e) × (height_of e ≤ room)) (within room e)
within_sound room e =
    if_test (nat_le (height_of e) room) (λ low. gives (refl, leb-true (height_of e) room low))
    (λ high. nothing)

-- an operator is read from what it prints
binary_is : (op : BinaryOp) → binary_of (binary_symbol op) ≡ Some op
binary_is binary.Pow = refl
binary_is _ = refl

pub continues_at : (op : BinaryOp) (level : ℕ) (ts : Tokens) → level ≤ level_of op
    → continues level (token.Symbol (binary_symbol op) ∷ ts) ≡ Some op
continues_at op level ts low = rw (binary_is op, le-leb level (level_of op) low) refl

-- binary operators are of the levels 2 to 11
pub levels : (op : BinaryOp) → (2 ≤ level_of op) × (level_of op < 12)
levels binary.Pow = omega arith
levels _ = omega arith

-- an operator isn't of a level, so each that comes is looser
pub looser : (k level : ℕ) (ts : Tokens) (op : BinaryOp) → continues k ts ≡ None
    → continues level ts ≡ Some op → level_of op < k
looser k level ts op h e = either (nat_le k (level_of op))
    (λ low. let found = continues_at op k (tail ts) (leb-true k (level_of op) low) in
    absurd (cc (h, found, ap (continues k) (at (continues_sound level ts) e).0)))
    (leb-false k (level_of op))

none_where : (k : ℕ) (ts : Tokens) → ((op : BinaryOp) → continues k ts ≡ Some op → ⊥)
    → continues k ts ≡ None
none_where k ts h = split (continues k ts) (λ e. e) (λ op e. absurd (h op e))

-- where no operator of a level or a tighter one comes, none of a tighter level does, nor any at all
-- if the level is the loosest
pub tighter : (k l : ℕ) (ts : Tokens) → k ≤ l → continues k ts ≡ None → continues l ts ≡ None
tighter k l ts low h = none_where l ts
    (λ op e. omega (arith, looser k l ts op h e, (at (continues_sound l ts) e).1))

pub none_at_all : (k l : ℕ) (ts : Tokens) → k ≤ 2 → continues k ts ≡ None → continues l ts ≡ None
none_at_all k l ts low h =
    none_where l ts (λ op e. omega (arith, looser k l ts op h e, (levels op).0))

-- none is as tight as the operators before an operand
pub none_so_tight : (l : ℕ) (ts : Tokens) → 12 ≤ l → continues l ts ≡ None
none_so_tight l ts low =
    none_where l ts (λ op e. omega (arith, (at (continues_sound l ts) e).1, (levels op).1))

-- an operator goes on with an expression
operator_goes_on : (op : BinaryOp) (ts : Tokens)
    → goes_on (token.Symbol (binary_symbol op) ∷ ts) ≡ true
operator_goes_on binary.Pow ts = refl
operator_goes_on _ ts = refl

-- so none comes where no expression goes on
pub no_operator : (k : ℕ) (ts : Tokens) → goes_on ts ≡ false → continues k ts ≡ None
no_operator k ts h = none_where k ts (λ op e. absurd (cc (
  h,
  ap goes_on (at (continues_sound k ts) e).0,
  operator_goes_on op (tail ts),
)))

-- what a test tells from tokens that begin with a symbol doesn't begin with it
differs : (test : Tokens → Bool) (s : Symbol) (ts : Tokens)
    → test ts ≢ test (token.Symbol s ∷ tail ts) → begins s ts ≡ false
differs test s ts h =
    either (begins s ts) (λ e. absurd (h (ap test (begins_is s ts e)))) (λ e. e)

-- nor a symbol that goes on
pub not_on : (s : Symbol) (ts : Tokens) → goes_on ts ≡ false
    → goes_on (token.Symbol s ∷ tail ts) ≡ true → begins s ts ≡ false
not_on s ts h on = differs goes_on s ts (λ same. cc (same, h, on))

-- what begins as an expression doesn't begin with a symbol that begins none
pub not_start : (s : Symbol) (ts : Tokens) → starts ts ≡ true
    → starts (token.Symbol s ∷ tail ts) ≡ false → begins s ts ≡ false
not_start s ts h off = differs starts s ts (λ same. cc (same, h, off))

pub expression_starts : (e : Expr) (rest : Tokens) → starts (tokens_of e ++ rest) ≡ true
expression_starts (tree.Binary op a b) rest = rw append_assoc (expression_starts a _)
expression_starts (tree.Choice c a b) rest = rw append_assoc (expression_starts c _)
expression_starts (tree.Call true name _ arguments) rest = refl
expression_starts (tree.Anonymous true name _ arguments inputs) rest = refl
expression_starts (tree.Unary unary.Not a) rest = refl
expression_starts _ rest = refl

-- an input's name and its arrow at the front
pub input_sound : (ts : Tokens)
    → Sound (λ r. token.Name r.0.0 ∷ token.Symbol (left_symbol r.0.1) ∷ r.1 ≡ ts) (input_at ts)
input_sound ts =
    and_then (name_sound ts) (λ name is. and_then (arrow_sound name.1) (λ a e. gives (rw e is)))

pub input_is : (name : List ℕ) (a : Arrow) (ts : Tokens)
    → input_at (token.Name name ∷ token.Symbol (left_symbol a) ∷ ts) ≡ Some ((name, a), ts)
input_is name arrow.Assign ts = refl
input_is name arrow.Constrain ts = refl

no_arrow : (op : BinaryOp) (ts : Tokens) → arrow_at (token.Symbol (binary_symbol op) ∷ ts) ≡ None
no_arrow binary.Pow ts = refl
no_arrow _ ts = refl

-- an expression that ends before no arrow doesn't begin as a named input
pub no_input : (e : Expr) (rest : Tokens) → arrow_at rest ≡ None
    → input_at (tokens_of e ++ rest) ≡ None
no_input (tree.Place name _ tree.done) rest h = rw h refl
no_input (tree.Call true name _ arguments) rest h = refl
no_input (tree.Anonymous true name _ arguments inputs) rest h = refl
no_input (tree.Binary op a b) rest h =
    rw append_assoc (no_input a _ (no_arrow op (tokens_of b ++ rest)))
no_input (tree.Choice c a b) rest h = rw append_assoc (no_input c _ refl)
no_input _ rest h = refl
