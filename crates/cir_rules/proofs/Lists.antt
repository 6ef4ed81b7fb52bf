-- What ranks the definitions give to a place and to a literal, and that literals are among
-- arguments as the code lists them.
use Rattle.std.proofs.Common.{◌≡◌, ◌∙◌, ℕ, List, [], ◌∷◌, ◌-◌, ap, refl}
use Rattle.std.specs.Prelude.{◌||◌, map}
use Rattle.std.specs.List.{list_any}
use Rattle.cir_ast.specs.declared.marked.Expr.{Expr as CodeExpr}
use Rattle.cir_ast.specs.declared.marked.Expr.TheVariants as expr
use Rattle.cir_ast.specs.declared.marked.Place.{Place as CodePlace}
use Rattle.cir_ast.specs.declared.program.Meant.{Meant}
use Rattle.cir_ast.specs.declared.program.Meant.TheVariants as meant
use Rattle.cir_ast.specs.Tree.{Place, Array, bare, bare_place, bare_exprs, as_accessors}
use Rattle.cir_ast.proofs.Rows.{exprs_are, accessors_are}
use Rattle.cir_meaning.specs.Evaluate.{is_literal, has_literal}
use Rattle.cir_meaning.specs.Reached.{rank_of, indices_count}

pub rank_place : (ranks : ℕ → ℕ) (p : CodePlace Meant) (n : ℕ) → p.meant ≡ meant.Variable n
    → rank_of ranks (bare_place p) ≡ ranks n - indices_count (as_accessors p.accessors)
rank_place ranks p n e =
    ap (λ a. rank_of ranks (Place p.name p.meant a)) (accessors_are Meant p.accessors)
    ∙ ap (λ m. rank_of ranks (Place p.name m (as_accessors p.accessors))) e

pub rank_array : (ranks : ℕ → ℕ) (es : List (CodeExpr Meant))
    → rank_of ranks (bare (expr.Array es)) ≡ rank_of ranks (Array (bare_exprs es))
rank_array ranks es = ap (λ a. rank_of ranks (Array a)) (exprs_are Meant es)

pub literals : (es : List (CodeExpr Meant))
    → has_literal (bare_exprs es) ≡ list_any is_literal (map bare es)
literals [] = refl
literals (e ∷ es) = ap (λ b. is_literal (bare e) || b) (literals es)
