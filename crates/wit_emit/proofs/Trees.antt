-- What the definitions say of the program's own trees.
use Rattle.std.proofs.Common.{◌≡◌, ◌∙◌, ℕ, zero, suc, List, [], ◌∷◌, ◌++◌, length, refl, ap, sym}
use Rattle.std.specs.Prelude.{Bool, Option, Some, None}
use Rattle.cir_ast.specs.declared.operators.Binary.{Binary as BinaryOp}
use Rattle.gold_field.specs.declared.operators.Op2.{Op2}
use Rattle.cir_meaning.specs.Operators.{Operator, Strict, And, Or, operator_of}
use Rattle.cir_meaning.specs.RunValues.{Numbers}
use Rattle.wit_lower.specs.Pieces.{Code, followed, lazy_code, binary_code, choice_code, decided}
use Rattle.wit_emit.specs.Emitted.{right_code}
use Rattle.wit_emit.proofs.Chained.{then_made}
use Rattle.cir_ast.specs.declared.marked.Expr.{Expr as CodeExpr}
use Rattle.cir_ast.specs.declared.marked.Expr.TheVariants as expr
use Rattle.cir_ast.specs.declared.marked.Place.{Place as CodePlace}
use Rattle.cir_ast.specs.declared.program.Meant.{Meant}
use Rattle.cir_ast.specs.Tree.{Array, Binary, Choice, Expr, Parentheses, bare, bare_exprs}
use Rattle.cir_ast.specs.Tree.{as_accessors, place_accessors}
use Rattle.cir_ast.proofs.Rows.{exprs_are, accessors_are}
use Rattle.wit_lower.specs.Homes as L
use Rattle.wit_lower.specs.Values as V

pub count_is : (es : List (CodeExpr Meant)) → V.count_of (bare_exprs es) ≡ length es
count_is [] = refl
count_is (e ∷ es) = ap suc (count_is es)

pub shape_array : (g : L.Ground) (homes : L.Homes) (es : List (CodeExpr Meant))
    → V.shape_of g homes (bare (expr.Array es)) ≡ V.shape_of g homes (Array (bare_exprs es))
shape_array g homes es = ap (λ a. V.shape_of g homes (Array a)) (exprs_are Meant es)

pub shape_place : (g : L.Ground) (homes : L.Homes) (p : CodePlace Meant)
    → V.shape_of g homes (bare (expr.Place p))
    ≡ V.place_shape g homes (L.Named p.meant) [] (as_accessors p.accessors)
shape_place g homes p =
    ap (V.place_shape g homes (L.Named p.meant) []) (accessors_are Meant p.accessors)

pub code_array : (g : L.Ground) (homes : L.Homes) (top at : ℕ) (es : List (CodeExpr Meant))
    → V.expr_code g homes top at (bare (expr.Array es))
    ≡ V.exprs_code g homes top at (bare_exprs es)
code_array g homes top at es = ap (V.exprs_code g homes top at) (exprs_are Meant es)

pub code_place : (g : L.Ground) (homes : L.Homes) (top at : ℕ) (p : CodePlace Meant)
    → V.expr_code g homes top at (bare (expr.Place p))
    ≡ V.place_code g homes top at (L.Named p.meant) [] (as_accessors p.accessors)
code_place g homes top at p =
    ap (V.place_code g homes top at (L.Named p.meant) []) (accessors_are Meant p.accessors)

pub code_call : (g : L.Ground) (homes : L.Homes) (top at : ℕ) (parallel : Bool)
    (name : List ℕ) (m : Meant) (es : List (CodeExpr Meant)) (called : Option Numbers)
    → called ≡ g.called (bare (expr.Call parallel name m es))
    → V.expr_code g homes top at (bare (expr.Call parallel name m es))
    ≡ V.unless_called called top (V.exprs_code g homes top at (bare_exprs es)
    ++ V.call_code g.keys top m (V.shapes_of g homes (bare_exprs es)))
code_call g homes top at parallel name m es called is =
    ap (λ a. V.unless_called (g.called (bare (expr.Call parallel name m es))) top
    (V.exprs_code g homes top at a ++ V.call_code g.keys top m (V.shapes_of g homes a)))
    (exprs_are Meant es)
    ∙ ap (λ k. V.unless_called k top (V.exprs_code g homes top at (bare_exprs es)
    ++ V.call_code g.keys top m (V.shapes_of g homes (bare_exprs es)))) (sym is)

-- the code of an operator, behind that of its left operand
lazy_is : (g : L.Ground) (homes : L.Homes) (top at : ℕ) (o : Operator) (d : Option ℕ)
    (left : Code) (b : Expr Meant)
    → lazy_code d top left (binary_code o top at left (λ slot p. V.expr_code g homes slot p b))
    ≡ followed at left (λ p. right_code g homes top p d o b)
lazy_is g homes top at o (Some n) left b = refl
lazy_is g homes top at (Strict o) None left b = refl
lazy_is g homes top at And None left b = refl
lazy_is g homes top at Or None left b = refl

pub code_binary : (g : L.Ground) (homes : L.Homes) (top at : ℕ) (o : BinaryOp) (a b : Expr Meant)
    → V.expr_code g homes top at (Binary o a b)
    ≡ followed at (V.expr_code g homes top at a)
    (λ p. right_code g homes top p (decided (operator_of o) (g.known a)) (operator_of o) b)
code_binary g homes top at o a b =
    lazy_is g homes top at (operator_of o) (decided (operator_of o) (g.known a))
    (V.expr_code g homes top at a) b

-- the operator of an assignment evaluates both its operands
pub code_compound : (g : L.Ground) (homes : L.Homes) (top at : ℕ) (c : BinaryOp) (o : Op2)
    (a b : Expr Meant) → operator_of c ≡ Strict o
    → followed at (V.expr_code g homes top at a) (λ p. right_code g homes top p None (Strict o) b)
    ≡ V.expr_code g homes top at (Binary c a (Parentheses b))
code_compound g homes top at c o a b is =
    sym (code_binary g homes top at c a (Parentheses b)
    ∙ ap (λ x. followed at (V.expr_code g homes top at a)
    (λ p. right_code g homes top p (decided x (g.known a)) x (Parentheses b))) is)

-- a piece is that of an expression
pub arm : (g : L.Ground) (homes : L.Homes) (top : ℕ) (old new piece : Code)
    (e x : CodeExpr Meant) → e ≡ x → V.expr_code g homes top (length old) (bare x) ≡ piece
    → new ≡ old ++ piece → new ≡ old ++ V.expr_code g homes top (length old) (bare e)
arm g homes top old new piece e x is code made =
    made ∙ ap (λ (p : Code). old ++ p) (sym code)
    ∙ ap (λ (y : CodeExpr Meant). old ++ V.expr_code g homes top (length old) (bare y)) (sym is)

pub first_side : (n : ℕ) → (n ≡ 0 → ⊥) → (s place : ℕ) (first second : ℕ → Code)
    → choice_code (Some n) s place first second ≡ first place
first_side zero other s place first second = absurd (other refl)
first_side (suc n) other s place first second = refl

-- `?:` behind its condition, whose number may be known
pub choice_made : (g : L.Ground) (homes : L.Homes) (top : ℕ) (old one two : Code)
    (c a b : Expr Meant) (k : Option ℕ) → k ≡ g.known c
    → one ≡ old ++ V.expr_code g homes top (length old) c
    → two ≡ one ++ choice_code k top (length one) (λ q. V.expr_code g homes top q a)
    (λ q. V.expr_code g homes top q b)
    → two ≡ old ++ V.expr_code g homes top (length old) (Choice c a b)
choice_made g homes top old one two c a b k is made more =
    then_made old one two (V.expr_code g homes top (length old) c)
    (λ p. choice_code (g.known c) top p (λ q. V.expr_code g homes top q a)
    (λ q. V.expr_code g homes top q b)) made
    (more ∙ ap (λ (n : Option ℕ). one ++ choice_code n top (length one)
    (λ q. V.expr_code g homes top q a) (λ q. V.expr_code g homes top q b)) is)

pub place_is : (p : CodePlace Meant) → place_accessors p ≡ as_accessors p.accessors
place_is p = accessors_are Meant p.accessors
