-- The code of assignments, declarations and statements, as it is made.
use Rattle.std.proofs.Common.{◌≡◌, ◌∙◌, ℕ, List, ◌++◌, length, ap, sym, refl, subst}
use Rattle.cir_ast.specs.declared.operators.Binary.{Binary as BinaryOp}
use Rattle.cir_ast.specs.declared.marked.Statement.{Statement as CodeStatement}
use Rattle.cir_ast.specs.declared.marked.StatementForm.{StatementForm as CodeForm}
use Rattle.cir_ast.specs.declared.program.Meant.{Meant}
use Rattle.cir_ast.specs.declared.program.Meant.TheVariants as meant
use Rattle.cir_ast.specs.declared.program.Spot.{Spot}
use Rattle.cir_ast.specs.Tree.{Accessors, Binary, Expr, Place, Variable, bare_form, bare_statement}
use Rattle.wit_lower.specs.Homes as L
use Rattle.wit_lower.specs.Pieces.{Code}
use Rattle.wit_lower.specs.Values as V
use Rattle.wit_lower.specs.Statements as S
use Rattle.wit_sourced.specs.declared.homes.Scope.{Scope}
use Rattle.wit_sourced.specs.Behind.{IsBehind}
use Rattle.wit_statements.specs.Parts.{declared_as, write_behind}
use Rattle.wit_emit.proofs.Chained.{then_made}

-- the value that is written is that of an operator on what the place has
pub changed_made : (g : L.Ground) (s : L.Scope) (old one two : Code) (name : List ℕ) (m : Meant)
    (place : Accessors Meant) (c : BinaryOp) (b : Expr Meant)
    → one ≡ old ++ V.expr_code g s.homes s.top (length old) (Binary c (Place name m place) b)
    → two ≡ one ++ write_behind g s (length one) 1 m place
    → two ≡ old ++ S.set_code g s (length old) m place (Binary c (Place name m place) b)
changed_made g s old one two name m place c b made more =
    then_made old one two
    (V.expr_code g s.homes s.top (length old) (Binary c (Place name m place) b))
    (λ p. write_behind g s p 1 m place) made more

pub declared_is : (g : L.Ground) (s : L.Scope) (v : Variable Meant) (m : Meant)
    → declared_as m (S.known_dims g v) s ≡ S.declared_scope g s v m
declared_is g s v meant.Other = refl
declared_is g s v (meant.Variable n) = refl
declared_is g s v (meant.Signal direction n) = refl
declared_is g s v (meant.Component n) = refl
declared_is g s v (meant.Template n) = refl
declared_is g s v (meant.Function n) = refl

-- a piece is that of a statement
pub form_made : (g : L.Ground) (s : L.Scope) (old new piece : Code) (a : CodeStatement Spot Meant)
    (x : CodeForm Spot Meant) → a.form ≡ x
    → S.statement_code g s (length old) (bare_form a.spot x) ≡ piece → new ≡ old ++ piece
    → new ≡ old ++ S.statement_code g s (length old) (bare_statement a)
form_made g s old new piece a x is code made =
    made ∙ ap (λ (p : Code). old ++ p) (sym code)
    ∙ ap (λ (y : CodeForm Spot Meant). old
    ++ S.statement_code g s (length old) (bare_form a.spot y)) (sym is)

pub form_behind : (g : L.Ground) (s : L.Scope) (old new : Scope) (a : CodeStatement Spot Meant)
    (x : CodeForm Spot Meant) → a.form ≡ x
    → IsBehind old new (S.scope_behind g s (bare_form a.spot x))
    → IsBehind old new (S.scope_behind g s (bare_statement a))
form_behind g s old new a x is h =
    subst (λ (y : CodeForm Spot Meant). IsBehind old new (S.scope_behind g s (bare_form a.spot y)))
    (sym is) h
