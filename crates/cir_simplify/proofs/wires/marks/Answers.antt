use Rattle.std.proofs.Common.{List, ap, ◌∙◌, arith}
use Rattle.gold_field.specs.declared.form.Constraint.{Constraint}
use Rattle.std.proofs.lemmas.List.{take_all}
use Rattle.cir_simplify.specs.Wires.{is_kept}
use Rattle.cir_simplify.proofs.Wiring.{kept_none, kept_more, row_naming}
use Rattle.cir_simplify.proofs.wires.marks.Goals as goal

pub loop-q-init : goal.loop-q-init
loop-q-init c = record {
  len = c.in_ok-marks.ensures.len;
  kept = λ x l. kept_none c.args.rules.level c.args.rules.kept x _ c.args.rows.now
      (c.in_ok-marks.ensures.kept x l);
}

pub mark-requires-clause-a : goal.mark-requires-clause-a
mark-requires-clause-a c =
    (row_naming c.args.rules.bound _ c.args.rows.now _ c.q-item.result c.q-item.is
    c.loop-q-test.true c.requires c.loop-q.invariant.len).0

pub mark-requires-clause-b : goal.mark-requires-clause-b
mark-requires-clause-b c =
    (row_naming c.args.rules.bound _ c.args.rows.now _ c.q-item.result c.q-item.is
    c.loop-q-test.true c.requires c.loop-q.invariant.len).1

pub mark-requires-clause-c : goal.mark-requires-clause-c
mark-requires-clause-c c =
    (row_naming c.args.rules.bound _ c.args.rows.now _ c.q-item.result c.q-item.is
    c.loop-q-test.true c.requires c.loop-q.invariant.len).2

pub loop-q-preserved : goal.loop-q-preserved
loop-q-preserved c = record {
  len = c.mark.ensures.len ∙ c.loop-q.invariant.len;
  kept = λ x l. kept_more c.args.rules.level c.args.rules.kept c.args.rows.now _ x c.q-item.result _
      _ c.loop-q-test.true c.q-item.is (c.loop-q.invariant.kept x l)
      (c.mark.ensures.marks x (omega (arith, c.loop-q.invariant.len)));
}

pub returns-clause-kept : goal.returns-clause-kept
returns-clause-kept c = λ x l.
    c.loop-q.invariant.kept x l
    ∙ ap (λ (v : List Constraint). is_kept c.args.rules.level c.args.rules.kept v x)
    (take_all _ c.args.rows.now c.loop-q-test.false)
