-- A `for` by its parts.
use Rattle.std.proofs.Common.{◌≡◌, ◌∙◌, ap, sym}
use Rattle.cir_ast.specs.declared.program.Spot.{Spot}
use Rattle.cir_ast.specs.declared.program.Meant.{Meant}
use Rattle.cir_ast.specs.declared.marked.Expr.{Expr as CodeExpr}
use Rattle.cir_ast.specs.declared.marked.First.{First}
use Rattle.cir_ast.specs.declared.marked.Statement.{Statement as CodeStatement}
use Rattle.cir_ast.specs.declared.marked.StatementForm.{StatementForm as CodeForm}
use Rattle.cir_ast.specs.declared.marked.Step.{Step}
use Rattle.cir_ast.specs.Tree.{For, Statement, bare, bare_assign, bare_first, bare_form}
use Rattle.cir_ast.specs.Tree.{bare_statement}

abbrev pub for_by : Spot → First Spot Meant → CodeExpr Meant → Step Spot Meant
    → CodeStatement Spot Meant → Statement Spot Meant
for_by spot first condition step body =
    For spot first.spot (bare_first first.form) (bare condition) step.spot
    (bare_assign step.assign) (bare_statement body)

-- with equal parts in their places
pub for_shown : (a : CodeStatement Spot Meant) (form : CodeForm Spot Meant)
    (first x : First Spot Meant) (condition : CodeExpr Meant) (step y : Step Spot Meant)
    (body z : CodeStatement Spot Meant)
    → a.form ≡ form → bare_form a.spot form ≡ for_by a.spot first condition step body
    → x ≡ first → y ≡ step → z ≡ body → bare_statement a ≡ for_by a.spot x condition y z
for_shown a form first x condition step y body z is shown one two three =
    ap (bare_form a.spot) is ∙ shown
    ∙ ap (λ q. for_by a.spot q condition step body) (sym one)
    ∙ ap (λ q. for_by a.spot x condition q body) (sym two)
    ∙ ap (for_by a.spot x condition y) (sym three)
