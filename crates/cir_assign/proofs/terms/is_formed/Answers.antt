use Rattle.std.proofs.Common.{◌≡◌, ◌<◌, ◌^◌, ℕ, List, length, get_or, ap, arith}
use Rattle.std.proofs.Common.{subst}
use Rattle.std.proofs.lemmas.List.{get_or_read}
use Rattle.gold_field.specs.declared.gold.TheConstants.{P}
use Rattle.gold_field.specs.declared.form.Term.{Term}
use borrow.Author.Count.{below_more}
use Rattle.cir_assign.proofs.terms.is_formed.Goals as goal

pub loop-t-preserved : goal.loop-t-preserved
loop-t-preserved c = λ k d less.
    let ts : List Term = c.as_slice-t-items.result.now in
    let at : c.t-item.result ≡ get_or ts c.loop-t.t-index d =
    get_or_read ts _ _ (omega arith) c.t-item.is d in
    let here : ((get_or ts c.loop-t.t-index d).signal < 2 ^ 32)
    × ((get_or ts c.loop-t.t-index d).coef < P) = (
      omega (arith, c.is_small.ensures.signal, ap (λ (t : Term). t.signal) at),
      omega (arith, c.is_small.ensures.coef, ap (λ (t : Term). t.coef) at),
    ) in
    below_more (λ (j : ℕ). ((get_or ts j d).signal < 2 ^ 32) × ((get_or ts j d).coef < P))
    c.loop-t.t-index (λ j h. c.loop-t.invariant j d h) here k less

pub returns-clause-within : goal.returns-clause-within
returns-clause-within c =
    subst (λ (ts : List Term). (k : ℕ) (d : Term) → k < length ts
    → ((get_or ts k d).signal < 2 ^ 32) × ((get_or ts k d).coef < P))
    c.as_slice-t-items.ensures.terms
    (λ k d h. c.loop-t.invariant k d (omega (arith, h, c.loop-t-test.false)))
