-- Lists without anonymous components stay as they are.
use Rattle.std.proofs.Common.{◌≡◌, ◌∙◌, ℕ, List, ap, sym, subst}
use Rattle.cir_ast.specs.declared.marked.Expr.{Expr as CodeExpr}
use Rattle.cir_ast.specs.declared.marked.Expr.TheVariants as expr
use Rattle.cir_ast.specs.declared.program.Meant.{Meant}
use Rattle.cir_ast.specs.Program.{Program}
use Rattle.cir_ast.specs.Tree.{Exprs, Array, Signal, bare, bare_exprs}
use Rattle.cir_ast.proofs.Rows.{exprs_are}
use Rattle.cir_meaning.specs.Anonymous.{same, then_lift, lift, lift_all, lift_each}
use Rattle.cir_lift.specs.Lifts.{lift_signal}

abbrev pub Without : Exprs Meant → Type 0
Without es = (p : Program) (first n : ℕ) → lift_all p first es n ≡ same es n

abbrev pub SignalsWithout : List (Signal Meant) → Type 0
SignalsWithout ss =
    (p : Program) (first n : ℕ) → lift_each (lift_signal p first) ss n ≡ same ss n

-- an array of such elements
pub array_without : (es slice : List (CodeExpr Meant)) (e : CodeExpr Meant) → e ≡ expr.Array es
    → slice ≡ es → Without (bare_exprs slice) → (p : Program) (first n : ℕ)
    → lift p first (bare e) n ≡ same (bare e) n
array_without es slice e is all none = λ p first n.
    subst (λ x. lift p first x n ≡ same x n)
    (ap (λ l. Array (bare_exprs l)) all
    ∙ sym (ap Array (exprs_are Meant es))
    ∙ sym (ap (λ e'. bare e') is))
    (ap (λ l. then_lift l (λ xs n1. same (Array xs) n1)) (none p first n))
