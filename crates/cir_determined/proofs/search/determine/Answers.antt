use Rattle.std.proofs.Common.{◌≡◌, ℕ, ◌*◌, ◌<◌, ◌≤◌, List, All, length, map, drop, arith, ap}
use Rattle.std.proofs.Common.{refl, sym, ◌∙◌, subst}
use Rattle.std.proofs.lemmas.List.{take_at}
use Rattle.gold_field.specs.Form.{ConstraintBelow}
use Rattle.cir_determined.specs.declared.marks.Mark.{Mark}
use Rattle.cir_determined.specs.declared.rule.Rule.{Rule}
use Rattle.cir_determined.specs.Circuit.{Circuit, normalized}
use Rattle.cir_determined.specs.Marks.{marks_of}
use Rattle.cir_determined.specs.Certificate.{IsClosed}
use Rattle.cir_determined.proofs.Verdicts.{HasShown}
use Rattle.cir_determined.proofs.Found.{shown_further, adds_same, few_shown, all_known}
use Rattle.cir_determined.proofs.Found.{least_unshown}
use Rattle.cir_determined.proofs.search.determine.Goals as goal
use Rattle.cir_determined.proofs.search.determine.Goals.{in-Some, in-None}

pub round-requires-clause-below : goal.round-requires-clause-below
round-requires-clause-below c =
    subst (λ (n : ℕ). All (ConstraintBelow n) c.args.constraints.now)
    (sym (ap length c.deref_mut.ensures.value ∙ c.loop-rules.invariant.long)) c.requires.below

pub loop-rules-preserved : goal.loop-rules-preserved
loop-rules-preserved c =
    let k : Circuit = record {
      constraints = c.args.constraints.now;
      wires = c.args.wires;
      outputs = c.args.outputs;
      inputs = c.args.inputs;
    } in
    let new : List Mark = c.round.new.marks in
    let items : List Mark = c.loop-rules.marks.items in
    let wide : length c.deref_mut.result.now ≡ c.args.wires =
    ap length c.deref_mut.ensures.value ∙ c.loop-rules.invariant.long in
    let long : length c.round.new.marks ≡ c.loop-rules.marks.len =
    omega (arith, c.round.auto.marks, c.deref_mut.ensures.len) in
    subst (λ (xs : List Mark). HasShown k c.round.new.rules.items xs)
    (sym (take_at new (drop (length new) items) c.loop-rules.marks.len long))
    (shown_further k c.loop-rules.rules.items c.round.new.rules.items items new
    c.loop-rules.invariant
    (adds_same c.args.constraints.now (length c.deref_mut.result.now) c.args.wires
    c.deref_mut.result.now items (marks_of new) c.loop-rules.rules.items c.round.new.rules.items
    wide c.deref_mut.ensures.value c.in_ok-more.ensures.steps)
    (c.round.auto.marks ∙ ap length c.deref_mut.ensures.value))

pub loop-rules-smaller : goal.loop-rules-smaller
loop-rules-smaller c =
    let k : Circuit = record {
      constraints = c.args.constraints.now;
      wires = c.args.wires;
      outputs = c.args.outputs;
      inputs = c.args.inputs;
    } in
    let new : List Mark = c.round.new.marks in
    let items : List Mark = c.loop-rules.marks.items in
    let wide : length c.deref_mut.result.now ≡ c.args.wires =
    ap length c.deref_mut.ensures.value ∙ c.loop-rules.invariant.long in
    let all : HasShown k c.round.new.rules.items new =
    shown_further k c.loop-rules.rules.items c.round.new.rules.items items new
    c.loop-rules.invariant
    (adds_same c.args.constraints.now (length c.deref_mut.result.now) c.args.wires
    c.deref_mut.result.now items (marks_of new) c.loop-rules.rules.items c.round.new.rules.items
    wide c.deref_mut.ensures.value c.in_ok-more.ensures.steps)
    (c.round.auto.marks ∙ ap length c.deref_mut.ensures.value) in
    let few : length c.round.new.rules.items ≤ 2 * c.args.wires =
    few_shown k c.round.new.rules.items new c.requires.below all in
    let longer : length c.loop-rules.rules.items < length c.round.new.rules.items =
    c.in_ok-more.ensures.more c.if-not-more.false in
    omega (arith, few, longer)

pub returns-then-not-more : goal.returns-then-not-more
returns-then-not-more c =
    let k : Circuit = record {
      constraints = c.args.constraints.now;
      wires = c.args.wires;
      outputs = c.args.outputs;
      inputs = c.args.inputs;
    } in
    let new : List Mark = c.round.new.marks in
    let items : List Mark = c.loop-rules.marks.items in
    let last : List Mark = c.deref.result.now in
    let rs : List Rule = c.round.new.rules.items in
    let wide : length c.deref_mut.result.now ≡ c.args.wires =
    ap length c.deref_mut.ensures.value ∙ c.loop-rules.invariant.long in
    let long : length c.round.new.marks ≡ c.loop-rules.marks.len =
    omega (arith, c.round.auto.marks, c.deref_mut.ensures.len) in
    let same : c.deref.result.now ≡ c.round.new.marks =
    c.deref.ensures.value ∙ take_at new (drop (length new) items) c.loop-rules.marks.len long in
    let all : HasShown k c.round.new.rules.items new =
    shown_further k c.loop-rules.rules.items rs items new c.loop-rules.invariant
    (adds_same c.args.constraints.now (length c.deref_mut.result.now) c.args.wires
    c.deref_mut.result.now items (marks_of new) c.loop-rules.rules.items rs wide
    c.deref_mut.ensures.value c.in_ok-more.ensures.steps)
    (c.round.auto.marks ∙ ap length c.deref_mut.ensures.value) in
    let shown : HasShown k c.round.new.rules.items c.deref.result.now =
    subst (λ (xs : List Mark). HasShown k rs xs) (sym same) all in
    let closed : IsClosed (map (normalized c.args.wires) c.args.constraints.now)
    (marks_of c.deref.result.now) =
    subst (λ (xs : List Mark). IsClosed (map (normalized c.args.wires) c.args.constraints.now)
    (marks_of xs)) (sym same)
    (subst (λ (n : ℕ). IsClosed (map (normalized n) c.args.constraints.now) (marks_of new)) wide
    (c.in_ok-more.ensures.closed c.if-not-more.true)) in
    elim c.match-first_unknown.branch [
      | in-Some w ↦
          rw w.result-is (least_unshown k rs last w.in-Some.wire shown closed
          w.in-Some.ensures.output.0 w.in-Some.ensures.output.1 w.in-Some.ensures.unknown
          w.in-Some.ensures.least)
      | in-None w ↦
          rw w.result-is (
            all_known k rs last shown (w.in-None.ensures.all refl),
            few_shown k rs last c.requires.below shown,
          )
    ]
