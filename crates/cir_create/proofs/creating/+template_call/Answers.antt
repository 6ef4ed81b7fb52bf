use Rattle.std.proofs.Common.{◌∙◌, ap, sym}
use Rattle.cir_ast.specs.declared.program.Meant.{Meant}
use Rattle.cir_ast.specs.Tree.{Call, Exprs, bare, bare_exprs}
use Rattle.cir_ast.proofs.Rows.{exprs_are}
use Rattle.cir_meaning.specs.Declaring.{template_call}
use Rattle.cir_create.proofs.creating.+template_call.Goals as goal

pub returns-in-Call : goal.returns-in-Call
returns-in-Call t c = λ w go.
    let a = c.in-Call in
    ap (λ e. template_call w (bare e) go) a.is
    ∙ (ap (λ (es : Exprs Meant). template_call w (Call a.field-0 a.field-1 a.meant es) go)
    (exprs_are Meant a.arguments ∙ ap (λ l. bare_exprs l) (sym c.as_slice.ensures))
    ∙ c.called_template.ensures w a.field-0 a.field-1 go)
