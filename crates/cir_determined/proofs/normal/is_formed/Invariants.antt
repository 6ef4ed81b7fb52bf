use Rattle.std.proofs.Common.{ℕ, ◌<◌, get_or}
use Rattle.gold_field.specs.declared.gold.TheConstants.{P}
use Rattle.gold_field.specs.declared.form.Term.{Term}
use Rattle.cir_determined.proofs.normal.is_formed.Given as goal

abbrev pub invariant-loop-t : goal.invariant-loop-t
invariant-loop-t l = (k : ℕ) (d : Term) → k < l.t-index → (get_or l.t-items k d).coef < P
