use Rattle.std.proofs.Common.{ℕ, All, map, length, length-append, arith, ap, sym, subst}
use Rattle.std.proofs.lemmas.Bool.{false≢true}
use Rattle.gold_field.specs.Form.{ConstraintBelow}
use Rattle.cir_determined.specs.Circuit.{normalized}
use Rattle.cir_determined.specs.Marks.{marks_of}
use Rattle.cir_determined.specs.Search.{AddsRules}
use Rattle.cir_determined.proofs.Found.{adds_further}
use Rattle.cir_determined.proofs.search.round.Goals as goal

pub chase-requires : goal.chase-requires
chase-requires c =
    subst (λ (n : ℕ). All (ConstraintBelow n) c.args.constraints.now) (sym c.sweep.auto.marks)
    c.requires.below

pub returns-clause-steps : goal.returns-clause-steps
returns-clause-steps c =
    let n : ℕ = length c.args.marks.now in
    adds_further (map (normalized n) c.args.constraints.now) (marks_of c.args.marks.now)
    (marks_of c.sweep.new.marks) (marks_of c.chase.new.marks) c.args.rules.now.items
    c.sweep.new.rules.items c.chase.new.rules.items c.in_ok-more.ensures.steps
    (subst (λ (j : ℕ). AddsRules (map (normalized j) c.args.constraints.now)
    (marks_of c.sweep.new.marks) (marks_of c.chase.new.marks) c.sweep.new.rules.items
    c.chase.new.rules.items) c.sweep.auto.marks c.in_ok-chase.ensures)

pub returns-clause-more : goal.returns-clause-more
returns-clause-more c = λ e.
    omega (
      arith,
      c.in_ok-more.ensures.more c.if-not-more.false,
      ap length c.in_ok-chase.ensures.rules_are,
      length-append c.sweep.new.rules.items c.in_ok-chase.ensures.added,
    )

pub returns-clause-closed : goal.returns-clause-closed
returns-clause-closed c = λ e. absurd (false≢true (sym e))
