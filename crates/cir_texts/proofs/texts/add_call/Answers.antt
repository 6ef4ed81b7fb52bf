use Rattle.std.proofs.Common.{◌∙◌, ◌++◌, ◌∷◌, [], ap, sym}
use Rattle.std.specs.Prelude.{map}
use Rattle.std.proofs.lemmas.List.{map-append}
use Rattle.cir_ast.specs.Tree.{bare_exprs}
use Rattle.cir_meaning.specs.Texts.{call_of}
use Rattle.cir_texts.specs.Shown.{called_of}
use Rattle.cir_texts.proofs.Lists.{listed}
use Rattle.cir_texts.proofs.texts.add_call.Goals as goal

pub returns-in_ok-push-in-Function : goal.returns-in_ok-push-in-Function
returns-in_ok-push-in-Function c =
    let old = map called_of c.args.calls.now.items in
    ap (map called_of) c.in_ok-push-in-Function.ensures.items
    ∙ map-append called_of c.args.calls.now.items _
    ∙ ap (λ es. old ++ record { function = c.in-Function.function; arguments = es } ∷ [])
    (sym (listed c.args.arguments.now))
    ∙ ap (λ m. old ++ call_of m (bare_exprs c.args.arguments.now)) (sym c.in-Function.is)
