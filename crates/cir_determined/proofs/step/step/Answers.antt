use Rattle.std.proofs.Common.{◌↔◌, Some, IfOk, IsTrue, sym, subst}
use Rattle.cir_determined.specs.declared.rule.Rule.{Rule}
use Rattle.cir_determined.specs.Marks.{marks_of}
use Rattle.cir_determined.specs.Rules.{AppliesTo}
use Rattle.cir_determined.proofs.step.step.Goals as goal

pub returns-in-Bits-clause-applies : goal.returns-in-Bits-clause-applies
returns-in-Bits-clause-applies c =
    subst (λ (r : Rule). IfOk c.show_bits.result
    (λ b. IsTrue b ↔ AppliesTo (Some c.args.k.now) (marks_of c.args.marks.now) r))
    (sym c.in-Bits.is) c.show_bits.ensures.applies
