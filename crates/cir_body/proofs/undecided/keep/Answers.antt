use Rattle.std.proofs.Common.{◌∙◌, Option, ap, slice_set}
use Rattle.cir_meaning.specs.Arrays.{Datum}
use Rattle.cir_meaning.specs.Limits.{nothing}
use Rattle.cir_make.specs.Steps.{put_before}
use Rattle.cir_body.specs.Undone.{put_one}
use Rattle.cir_body.proofs.Undoing.{put_behind}
use Rattle.cir_body.proofs.undecided.keep.Goals as goal

pub returns-in_default : goal.returns-in_default
returns-in_default c = λ ds.
    let now = put_before c.args.befores.now.items ds in
    ap (λ (o : Option Datum). put_one o c.args.n now) (c.in_default.ensures nothing)

pub returns : goal.returns
returns c = λ ds.
    let old = c.args.befores.now.items in
    let n = c.args.n in
    let now = put_before old ds in
    ap (λ bs. put_before bs ds) c.in_ok-push.ensures.items
    ∙ put_behind old record { variable = n; value = c.in_ok-value.value } ds
    ∙ ap (λ (d : Datum). slice_set now n d) c.in_ok-value.ensures
    ∙ ap (λ (o : Option Datum). put_one o n now) (c.in-Some.ensures nothing)
