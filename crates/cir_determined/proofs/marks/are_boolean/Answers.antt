use Rattle.std.proofs.Common.{refl, ap, sym, ◌∙◌, arith, inl, inr}
use Rattle.std.proofs.lemmas.Bool.{false≢true}
use Rattle.gold_field.specs.declared.form.Term.{Term}
use Rattle.cir_determined.specs.Marks.{Marks, marks_of}
use Rattle.cir_determined.proofs.Marking.{none_boolean, boolean_more, boolean_all}
use Rattle.cir_determined.proofs.marks.are_boolean.Goals as goal
use Rattle.cir_determined.proofs.marks.are_boolean.Goals.{then-not-is_known+else-not-is_boolean}
use Rattle.cir_determined.proofs.marks.are_boolean.Goals.{else-not-is_known}

pub returns-then-not-is_boolean : goal.returns-then-not-is_boolean
returns-then-not-is_boolean c =
    let m : Marks = marks_of c.args.marks.now in (
      λ f. absurd (false≢true f),
      λ h. absurd (none_boolean m c.args.terms.now c.loop-t.t-index c.t-item.result (omega arith)
          (ap (λ (t : Term). m.known t.signal) (sym c.t-item.is) ∙ sym c.if-not-is_known.ensures)
          (ap (λ (t : Term). m.boolean t.signal) (sym c.t-item.is)
          ∙ sym c.if-not-is_boolean.ensures) h),
    )

pub loop-t-preserved : goal.loop-t-preserved
loop-t-preserved c =
    boolean_more (marks_of c.args.marks.now) c.args.terms.now c.loop-t.t-index c.t-item.result
    (omega arith) c.t-item.is
    (elim c.if-not-is_known.branch [
      | then-not-is_known+else-not-is_boolean w ↦ inr (sym w.if-not-is_boolean.ensures)
      | else-not-is_known w ↦ inl (sym w.if-not-is_known.ensures)
    ])
    c.loop-t.invariant

pub returns : goal.returns
returns c = (
  λ f. boolean_all (marks_of c.args.marks.now) c.args.terms.now c.loop-t.t-index (omega arith)
      c.loop-t.invariant,
  λ h. refl,
)
