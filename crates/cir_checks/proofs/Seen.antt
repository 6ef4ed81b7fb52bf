-- What the definitions say of an expression that holds a list.
use Rattle.std.proofs.Common.{◌≡◌, ◌∙◌, ◌+◌, List, [], ◌∷◌, length, refl, ap, arith}
use Rattle.cir_ast.specs.declared.marked.Expr.{Expr as CodeExpr}
use Rattle.cir_ast.specs.declared.marked.NamedInput.{NamedInput as CodeInput}
use Rattle.cir_ast.specs.declared.marked.Place.{Place as CodePlace}
use Rattle.cir_ast.specs.declared.program.Meant.{Meant}
use Rattle.cir_ast.specs.Tree.{bare_exprs, as_accessors, as_named, place_accessors}
use Rattle.cir_ast.proofs.Rows.{exprs_are, accessors_are, named_are, anonymous_is}
use Rattle.cir_checks.specs.Uses.{count, named_count}

pub count_is : (es : List (CodeExpr Meant)) → count (bare_exprs es) ≡ length es
count_is [] = refl
count_is (e ∷ es) = ap (λ n. 1 + n) (count_is es) ∙ grind arith

pub named_count_is : (is : List (CodeInput Meant)) → named_count (as_named is) ≡ length is
named_count_is [] = refl
named_count_is (i ∷ is) = ap (λ n. 1 + n) (named_count_is is) ∙ grind arith

-- the accessors of a place
pub place_is : (p : CodePlace Meant) → place_accessors p ≡ as_accessors p.accessors
place_is p = accessors_are Meant p.accessors

pub ruleset seen =
    (count_is, named_count_is, place_is, exprs_are, accessors_are, named_are, anonymous_is)
