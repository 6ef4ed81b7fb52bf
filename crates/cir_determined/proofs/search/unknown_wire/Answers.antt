use Rattle.std.proofs.Common.{◌≡◌, true, List, All, ap, sym, ◌∙◌, arith, subst}
use Rattle.std.proofs.lemmas.List.{take_all}
use Rattle.std.proofs.lemmas.List.Elements.{All-more}
use Rattle.gold_field.specs.declared.form.Term.{Term}
use Rattle.cir_determined.specs.Marks.{Marks, marks_of}
use Rattle.cir_determined.proofs.search.unknown_wire.Goals as goal

pub loop-t-preserved : goal.loop-t-preserved
loop-t-preserved c =
    let m : Marks = marks_of c.args.marks.now in
    All-more (λ (t : Term). m.known t.signal ≡ true) c.args.terms.now c.loop-t.t-index
    c.t-item.result (omega arith) c.loop-t.invariant
    (ap (λ (t : Term). m.known t.signal) (sym c.t-item.is) ∙ sym c.if-not-is_known.ensures)

pub returns : goal.returns
returns c =
    subst (λ (us : List Term). All (λ t. (marks_of c.args.marks.now).known t.signal ≡ true) us)
    (take_all c.loop-t.t-index c.args.terms.now (omega arith)) c.loop-t.invariant
