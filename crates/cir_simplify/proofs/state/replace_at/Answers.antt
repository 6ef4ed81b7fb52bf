use Rattle.std.proofs.Common.{sym, subst, set, ap, ◌∙◌}
use Rattle.gold_field.specs.declared.form.Constraint.{Constraint}
use Rattle.cir_simplify.specs.Index.{IsGood}
use Rattle.cir_simplify.proofs.Linear.{empty_good}
use Rattle.cir_simplify.proofs.state.replace_at.Goals as goal

pub set-requires-clause-good : goal.set-requires-clause-good
set-requires-clause-good c =
    subst (IsGood c.args.rules.bound) (sym c.nothing.ensures) (empty_good c.args.rules.bound)

pub returns-then-i-own-clause-rows : goal.returns-then-i-own-clause-rows
returns-then-i-own-clause-rows c = c.in_ok-set.ensures.rows
    ∙ ap (λ (k : Constraint). set c.args.s.now.rows.items c.args.i k)
    (c.nothing.ensures ∙ sym (c.requires.own c.if-i-own.true))
