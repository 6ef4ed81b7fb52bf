-- What is read of the program's own trees.
use Rattle.std.proofs.Common.{◌≡◌, ◌∙◌, List, [], ℕ, Bool, true, false, Option, Some, None, ap}
use Rattle.std.proofs.Common.{refl}
use Rattle.std.specs.Prelude.{is_some}
use Rattle.cir_ast.specs.declared.marked.Expr.{Expr as CodeExpr}
use Rattle.cir_ast.specs.declared.marked.Expr.TheVariants as expr
use Rattle.cir_ast.specs.declared.marked.Place.{Place as CodePlace}
use Rattle.cir_ast.specs.declared.program.Meant.{Meant}
use Rattle.cir_ast.specs.Tree.{as_accessors, bare, bare_exprs}
use Rattle.cir_ast.proofs.Rows.{exprs_are, accessors_are}
use Rattle.cir_meaning.specs.RunValues.{Numbers}
use Rattle.wit_lower.specs.Homes as L
use Rattle.cir_emit.specs.Reads as E

module _ (g : L.Ground) (homes : L.Homes) where
  pub reads_place : (p : CodePlace Meant) → E.expr_reads g homes (bare (expr.Place p))
      ≡ E.place_reads g homes (E.Written p.meant) [] (as_accessors p.accessors)
  reads_place p =
      ap (E.place_reads g homes (E.Written p.meant) []) (accessors_are Meant p.accessors)

  pub reads_array : (es : List (CodeExpr Meant)) → E.expr_reads g homes (bare (expr.Array es))
      ≡ E.exprs_reads g homes (bare_exprs es)
  reads_array es = ap (E.exprs_reads g homes) (exprs_are Meant es)

  -- of a call that has its value nothing is read
  valued : (o : Option Numbers) (reads : List E.Reading) → is_some o ≡ true
      → E.unless_called o reads ≡ []
  valued None reads e = cc
  valued (Some d) reads e = refl

  made : (o : Option Numbers) (reads : List E.Reading) → is_some o ≡ false
      → E.unless_called o reads ≡ reads
  made None reads e = refl
  made (Some d) reads e = cc

  pub reads_known_call : (parallel : Bool) (name : List ℕ) (m : Meant) (es : List (CodeExpr Meant))
      → is_some (g.called (bare (expr.Call parallel name m es))) ≡ true
      → E.expr_reads g homes (bare (expr.Call parallel name m es)) ≡ []
  reads_known_call parallel name m es e =
      valued (g.called (bare (expr.Call parallel name m es))) _ e

  pub reads_call : (parallel : Bool) (name : List ℕ) (m : Meant) (es : List (CodeExpr Meant))
      → is_some (g.called (bare (expr.Call parallel name m es))) ≡ false
      → E.expr_reads g homes (bare (expr.Call parallel name m es))
      ≡ E.exprs_reads g homes (bare_exprs es)
  reads_call parallel name m es e =
      made (g.called (bare (expr.Call parallel name m es))) _ e
      ∙ ap (E.exprs_reads g homes) (exprs_are Meant es)
