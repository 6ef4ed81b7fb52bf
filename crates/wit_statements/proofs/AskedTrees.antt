-- The calls that stand in the program's own trees.
use Rattle.std.proofs.Common.{◌≡◌, ◌∷◌, List, ℕ, ap}
use Rattle.std.specs.Prelude.{Bool}
use Rattle.cir_ast.specs.declared.marked.Expr.{Expr as CodeExpr}
use Rattle.cir_ast.specs.declared.marked.Expr.TheVariants as expr
use Rattle.cir_ast.specs.declared.marked.Place.{Place as CodePlace}
use Rattle.cir_ast.specs.declared.program.Meant.{Meant}
use Rattle.cir_ast.specs.Tree.{as_accessors, bare, bare_exprs}
use Rattle.cir_ast.proofs.Rows.{exprs_are, accessors_are}
use Rattle.wit_emit.specs.Asked.{asked, all_asked, place_asked}

pub asked_place : (p : CodePlace Meant)
    → asked (bare (expr.Place p)) ≡ place_asked (as_accessors p.accessors)
asked_place p = ap place_asked (accessors_are Meant p.accessors)

pub asked_call : (parallel : Bool) (name : List ℕ) (m : Meant) (es : List (CodeExpr Meant))
    → asked (bare (expr.Call parallel name m es))
    ≡ bare (expr.Call parallel name m es) ∷ all_asked (bare_exprs es)
asked_call parallel name m es =
    ap (λ row. bare (expr.Call parallel name m es) ∷ all_asked row) (exprs_are Meant es)

pub asked_array : (es : List (CodeExpr Meant))
    → asked (bare (expr.Array es)) ≡ all_asked (bare_exprs es)
asked_array es = ap all_asked (exprs_are Meant es)
