use Rattle.std.proofs.Common.{ap, sym, ◌∙◌, arith, take, List}
use Rattle.gold_field.specs.declared.form.Term.{Term}
use Rattle.cir_determined.specs.Marks.{marks_of}
use Rattle.cir_determined.specs.Rules.{with_known, with_all_known}
use Rattle.cir_determined.proofs.Marking.{all_known_more, next_take}
use Rattle.cir_determined.proofs.marks.mark_all_known.Goals as goal

pub loop-t-preserved : goal.loop-t-preserved
loop-t-preserved c =
    let us : List Term = c.args.terms.now in (
      c.mark_known.ensures ∙ ap (with_known c.t-item.result.signal) c.loop-t.invariant.0
          ∙ all_known_more (take c.loop-t.t-index us) c.t-item.result (marks_of c.args.marks.now)
          ∙ ap (λ (vs : List Term). with_all_known vs (marks_of c.args.marks.now))
          (sym (next_take us c.loop-t.t-index c.t-item.result (omega arith) c.t-item.is)),
      omega arith,
    )
