use Rattle.std.proofs.Common.{◌≡◌, ◌<◌, ℕ, List, All, get_or, ap, arith, subst}
use Rattle.std.proofs.lemmas.List.{get_or_read}
use Rattle.gold_field.specs.declared.gold.TheConstants.{P}
use Rattle.gold_field.specs.declared.form.Term.{Term}
use borrow.Author.Count.{below_more}
use Rattle.cir_determined.proofs.Kept.{small_within}
use Rattle.cir_determined.proofs.normal.is_formed.Goals as goal

pub loop-t-preserved : goal.loop-t-preserved
loop-t-preserved c = λ k d less.
    let ts : List Term = c.as_slice-t-items.result.now in
    let at : c.t-item.result ≡ get_or ts c.loop-t.t-index d =
    get_or_read ts _ _ (omega arith) c.t-item.is d in
    below_more (λ (j : ℕ). (get_or ts j d).coef < P) c.loop-t.t-index
    (λ j h. c.loop-t.invariant j d h)
    (omega (arith, c.is_small.ensures, ap (λ (t : Term). t.coef) at)) k less

pub returns-clause-within : goal.returns-clause-within
returns-clause-within c = λ n h.
    small_within n c.args.f.now h
    (subst (λ (ts : List Term). All (λ t. t.coef < P) ts) c.as_slice-t-items.ensures.terms
    (λ k d l. c.loop-t.invariant k d (omega (arith, l, c.loop-t-test.false))))
