use Rattle.std.proofs.Common.{◌∙◌, ◌+◌, drop, map, refl, ap, sym}
use Rattle.cir_arrays.specs.Shown.{datum_of}
use Rattle.cir_make.specs.Steps.{put_before}
use Rattle.cir_body.specs.Undone.{put_back}
use Rattle.cir_body.proofs.Undoing.{put_back_end, put_back_more}
use Rattle.cir_body.proofs.undecided.keep_all.Goals as goal

pub loop-n-init : goal.loop-n-init
loop-n-init c = λ ds. refl

pub loop-n-preserved : goal.loop-n-preserved
loop-n-preserved c = λ ds.
    let ns = c.args.variables.now in
    let i = c.loop-n.n-index in
    let before = map datum_of c.args.frame.now.variables.items in
    ap (put_back (drop (i + 1) ns) before) (c.in_ok-keep.ensures ds)
    ∙ sym (put_back_more ns i before (put_before c.loop-n.befores.items ds) c.loop-n-test.true)
    ∙ c.loop-n.invariant ds

pub returns : goal.returns
returns c = λ ds.
    sym (put_back_end c.args.variables.now c.loop-n.n-index
    (map datum_of c.args.frame.now.variables.items) (put_before c.loop-n.befores.items ds)
    c.loop-n-test.false) ∙ c.loop-n.invariant ds
