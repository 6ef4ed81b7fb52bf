use Rattle.std.proofs.Common.{◌%◌, ◌*◌, ◌∙◌, ap, sym, ℕ}
use Rattle.gold_field.specs.declared.gold.TheConstants.{P}
use Rattle.cir_lc.specs.Number.{added, scaled, value_of}
use Rattle.cir_lc.proofs.Normals.{less_none}
use Rattle.cir_lc.proofs.quad.less.Goals as goal

pub returns-then-get-eq0-clause-value : goal.returns-then-get-eq0-clause-value
returns-then-get-eq0-clause-value c = less_none _ _ _ (sym c.get.ensures.value ∙ c.if-get-eq0.true)

pub returns-clause-value : goal.returns-clause-value
returns-clause-value c = c.in_ok-f.ensures.value
    ∙ ap (λ (n : ℕ). added (value_of c.args.rest) (scaled n (value_of c.args.factor.now)))
    (c.mul.ensures ∙ ap (λ (n : ℕ). (c.args.k * n) % P) c.neg.ensures)
