use Rattle.std.proofs.Common.{◌∙◌, ap, sym, subst, slice_set}
use Rattle.cir_meaning.specs.Arrays.{Datum}
use Rattle.cir_meaning.specs.Frame.{Frame, variable_at}
use Rattle.cir_meaning.specs.Writing.{written_datum}
use Rattle.cir_frame.specs.Shown.{frame_of}
use Rattle.cir_arrays.specs.Reached.{IsReach}
use Rattle.cir_assign.specs.Grows.{IsNew}
use Rattle.cir_assign.proofs.Added.{sum_written, whole_is}
use Rattle.cir_assign.proofs.growing.write_assigned.Goals as goal

pub returns-in-Whole : goal.returns-in-Whole
returns-in-Whole c = λ s x is same.
    let n = c.args.n in
    let old = frame_of c.args.frame.now s.frame.added in
    c.write_variable.ensures s.frame.added is.indices x.reach
    (subst (λ (f : Frame). IsReach (variable_at f n).dims is.indices c.args.a.reach x.reach) same
    is.reach)
    ∙ ap (λ (d : Datum). record old {
      variables = slice_set old.variables n (written_datum (variable_at old n) x.reach d);
    }) (sym (whole_is c.args.a.value c.in-Whole.d (variable_at s.frame n) x.value c.in-Whole.is
    is.value))

pub returns : goal.returns
returns c = λ s x is same.
    let n = c.args.n in
    let old = frame_of c.args.frame.now s.frame.added in
    c.set_variable.ensures s.frame.added
    ∙ c.taken-x.ensures.rest s.frame.added _
    ∙ ap (λ (d : Datum). record old { variables = slice_set old.variables n d })
    (sum_written (variable_at old n) x.value c.args.a.value x.reach c.in-Added.y _ _ c.in-Added.is
    (subst (λ (f : Frame). IsNew (variable_at f n) c.args.a.value x.value) same is.value)
    is.written (c.taken-x.ensures.number s.frame.added) c.in_ok-v-in-Added.ensures)
