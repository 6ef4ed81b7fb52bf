use Rattle.std.proofs.Common.{◌≡◌, ◌↔◌, Bool, IsTrue, Some, length, map, sym, refl}
use Rattle.gold_field.specs.Form.{ConstraintBelow}
use Rattle.cir_determined.specs.Circuit.{normalized}
use Rattle.cir_determined.specs.Marks.{marks_of}
use Rattle.cir_determined.specs.Rules.{Applies, AppliesTo, shown, shown_at}
use Rattle.cir_determined.proofs.Verdicts.{ok_weaker, found, below_at, applies_at, shown_at_place}
use Rattle.cir_determined.proofs.verdict.step_at.Goals as goal

pub step-requires : goal.step-requires
step-requires c =
    below_at (length c.args.marks.now) c.args.constraints.now c.place.result c.in-Some.k.now
    c.requires c.in-Some.ensures.lookup.0 c.in-Some.ensures.lookup.1

pub step-requires-2 : goal.step-requires-2
step-requires-2 c =
    c.in_ok-normal.ensures.below (length c.args.marks.now)
    (below_at (length c.args.marks.now) c.args.constraints.now c.place.result c.in-Some.k.now
    c.requires c.in-Some.ensures.lookup.0 c.in-Some.ensures.lookup.1)

pub returns-then-is_normal-clause-applies : goal.returns-then-is_normal-clause-applies
returns-then-is_normal-clause-applies c =
    let n = length c.args.marks.now in
    let ks = c.args.constraints.now in
    let k = c.in-Some.k.now in
    let below : ConstraintBelow (length c.args.marks.now) c.in-Some.k.now =
    below_at n ks c.place.result k c.requires c.in-Some.ensures.lookup.0
    c.in-Some.ensures.lookup.1 in
    ok_weaker
    (λ (b : Bool). IsTrue b ↔ AppliesTo (Some k) (marks_of c.args.marks.now) c.args.rule)
    (λ (b : Bool). IsTrue b
    ↔ Applies (map (normalized n) ks) (marks_of c.args.marks.now) c.args.rule)
    (λ b h. applies_at n ks c.args.rule (marks_of c.args.marks.now) k k b
    (found ks c.place.result c.args.rule k c.place.ensures c.in-Some.ensures.lookup.0
    c.in-Some.ensures.lookup.1) (sym (c.if-is_normal.ensures refl n below)) h)
    c.step.result c.step.ensures.applies

pub returns-then-is_normal-clause-shows : goal.returns-then-is_normal-clause-shows
returns-then-is_normal-clause-shows c =
    let n = length c.args.marks.now in
    let ks = c.args.constraints.now in
    let k = c.in-Some.k.now in
    let below : ConstraintBelow (length c.args.marks.now) c.in-Some.k.now =
    below_at n ks c.place.result k c.requires c.in-Some.ensures.lookup.0
    c.in-Some.ensures.lookup.1 in
    ok_weaker
    (λ (b : Bool). IsTrue b → marks_of c.step.new.marks
    ≡ shown_at k (marks_of c.args.marks.now) c.args.rule)
    (λ (b : Bool). IsTrue b → marks_of c.step.new.marks
    ≡ shown (map (normalized n) ks) (marks_of c.args.marks.now) c.args.rule)
    (λ b h t. shown_at_place n ks c.args.rule (marks_of c.args.marks.now)
    (marks_of c.step.new.marks) k k
    (found ks c.place.result c.args.rule k c.place.ensures c.in-Some.ensures.lookup.0
    c.in-Some.ensures.lookup.1) (sym (c.if-is_normal.ensures refl n below)) (h t))
    c.step.result c.step.ensures.shows

pub returns-clause-applies : goal.returns-clause-applies
returns-clause-applies c =
    let n = length c.args.marks.now in
    let ks = c.args.constraints.now in
    let k = c.in-Some.k.now in
    let below : ConstraintBelow (length c.args.marks.now) c.in-Some.k.now =
    below_at n ks c.place.result k c.requires c.in-Some.ensures.lookup.0
    c.in-Some.ensures.lookup.1 in
    ok_weaker
    (λ (b : Bool). IsTrue b
    ↔ AppliesTo (Some c.in_ok-normal.normal) (marks_of c.args.marks.now) c.args.rule)
    (λ (b : Bool). IsTrue b
    ↔ Applies (map (normalized n) ks) (marks_of c.args.marks.now) c.args.rule)
    (λ b h. applies_at n ks c.args.rule (marks_of c.args.marks.now) k c.in_ok-normal.normal b
    (found ks c.place.result c.args.rule k c.place.ensures c.in-Some.ensures.lookup.0
    c.in-Some.ensures.lookup.1) (c.in_ok-normal.ensures.form n below) h)
    c.step-2.result c.step-2.ensures.applies

pub returns-clause-shows : goal.returns-clause-shows
returns-clause-shows c =
    let n = length c.args.marks.now in
    let ks = c.args.constraints.now in
    let k = c.in-Some.k.now in
    let below : ConstraintBelow (length c.args.marks.now) c.in-Some.k.now =
    below_at n ks c.place.result k c.requires c.in-Some.ensures.lookup.0
    c.in-Some.ensures.lookup.1 in
    ok_weaker
    (λ (b : Bool). IsTrue b → marks_of c.step-2.new.marks
    ≡ shown_at c.in_ok-normal.normal (marks_of c.args.marks.now) c.args.rule)
    (λ (b : Bool). IsTrue b → marks_of c.step-2.new.marks
    ≡ shown (map (normalized n) ks) (marks_of c.args.marks.now) c.args.rule)
    (λ b h t. shown_at_place n ks c.args.rule (marks_of c.args.marks.now)
    (marks_of c.step-2.new.marks) k c.in_ok-normal.normal
    (found ks c.place.result c.args.rule k c.place.ensures c.in-Some.ensures.lookup.0
    c.in-Some.ensures.lookup.1) (c.in_ok-normal.ensures.form n below) (h t))
    c.step-2.result c.step-2.ensures.shows
