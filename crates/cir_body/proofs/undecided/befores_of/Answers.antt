use Rattle.std.proofs.Common.{◌∙◌, ap, map, sym}
use Rattle.cir_arrays.specs.Shown.{datum_of}
use Rattle.cir_make.specs.Steps.{put_before}
use Rattle.cir_body.specs.Undone.{put_back}
use Rattle.cir_body.proofs.Undoing.{put_back_both}
use Rattle.cir_body.proofs.undecided.befores_of.Goals as goal

pub returns : goal.returns
returns c = λ ds.
    let before = map datum_of c.args.frame.now.variables.items in
    let assigned = c.args.assigned.now in
    let declared = c.args.declared.now in
    c.in_ok-keep_all-2.ensures ds
    ∙ ap (put_back declared before) (c.in_ok-keep_all.ensures ds
    ∙ ap (λ bs. put_back assigned before (put_before bs ds)) c.new-befores.ensures.items)
    ∙ sym (put_back_both assigned declared before ds)
