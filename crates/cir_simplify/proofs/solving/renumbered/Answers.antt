use Rattle.std.proofs.Common.{List, slice_index, subst}
use Rattle.std.specs.Prelude.{All}
use Rattle.std.proofs.lemmas.List.Elements.{All-tail}
use Rattle.gold_field.specs.declared.form.Constraint.{Constraint}
use Rattle.cir_simplify.specs.Index.{IsNameable}
use Rattle.cir_simplify.specs.Wires.{renamed_in}
use Rattle.cir_simplify.proofs.Renaming.{stays_more, goes_more}
use Rattle.cir_simplify.proofs.solving.renumbered.Goals as goal

pub loop-q-preserved-in-Continue-1 : goal.loop-q-preserved-in-Continue-1
loop-q-preserved-in-Continue-1 c = record {
  done = stays_more (renamed_in (slice_index c.args.places.now)) c.args.level c.in-Some.q
      c.renamed.result c.next.new.self.rest.items _ c.loop-q.list c.push.new.self _ _
      c.in-Some.ensures.steps.0 c.if-stays.true c.stays.ensures c.renamed.ensures
      c.in_ok-push.ensures.ok c.loop-q.invariant.done;
  nameable = All-tail (IsNameable c.args.places.now) c.in-Some.q c.next.new.self.rest.items
      (subst (λ (ks : List Constraint). All (IsNameable c.args.places.now) ks)
      c.in-Some.ensures.steps.0 c.loop-q.invariant.nameable);
}

pub loop-q-preserved : goal.loop-q-preserved
loop-q-preserved c = record {
  done = goes_more (renamed_in (slice_index c.args.places.now)) c.args.level c.in-Some.q
      c.next.new.self.rest.items _ c.loop-q.list _ _ c.in-Some.ensures.steps.0 c.if-stays.false
      c.stays.ensures c.loop-q.invariant.done;
  nameable = All-tail (IsNameable c.args.places.now) c.in-Some.q c.next.new.self.rest.items
      (subst (λ (ks : List Constraint). All (IsNameable c.args.places.now) ks)
      c.in-Some.ensures.steps.0 c.loop-q.invariant.nameable);
}
