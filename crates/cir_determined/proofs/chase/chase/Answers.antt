use Rattle.std.proofs.Common.{ℕ, All, map, length, sym, refl, ◌∙◌, subst}
use Rattle.gold_field.specs.Form.{ConstraintBelow}
use Rattle.cir_determined.specs.Circuit.{normalized}
use Rattle.cir_determined.specs.Marks.{marks_of}
use Rattle.cir_determined.specs.Search.{AddsRules}
use Rattle.cir_determined.proofs.Found.{adds_none, adds_further}
use Rattle.cir_determined.proofs.chase.chase.Goals as goal

pub loop-turn-init : goal.loop-turn-init
loop-turn-init c = (
  adds_none (map (normalized (length c.args.marks.now)) c.args.constraints.now)
      (marks_of c.args.marks.now) c.args.rules.now.items,
  refl,
)

pub look-requires : goal.look-requires
look-requires c =
    subst (λ (n : ℕ). All (ConstraintBelow n) c.args.constraints.now) (sym c.loop-turn.invariant.1)
    c.requires

pub loop-turn-preserved : goal.loop-turn-preserved
loop-turn-preserved c =
    let n : ℕ = length c.args.marks.now in (
      adds_further (map (normalized n) c.args.constraints.now) (marks_of c.args.marks.now)
          (marks_of c.loop-turn.marks) (marks_of c.look.new.marks) c.args.rules.now.items
          c.loop-turn.rules.items c.look.new.rules.items c.loop-turn.invariant.0
          (subst (λ (j : ℕ). AddsRules (map (normalized j) c.args.constraints.now)
          (marks_of c.loop-turn.marks) (marks_of c.look.new.marks) c.loop-turn.rules.items
          c.look.new.rules.items) c.loop-turn.invariant.1 c.in_ok-look.ensures),
      c.look.auto.marks ∙ c.loop-turn.invariant.1,
    )
