use Rattle.std.proofs.Common.{List, sym, subst, ap, ◌∙◌}
use Rattle.gold_field.specs.declared.form.Term.{Term}
use Rattle.cir_lc.specs.Number.{Number, added, scaled, value_of}
use Rattle.cir_lc.specs.Terms.{IsWithin}
use Rattle.cir_lc.proofs.Steps.{within_one}
use Rattle.cir_lc.proofs.Values.{value-single, value-sum}
use Rattle.cir_lc.proofs.sums.signal_and.Goals as goal

pub returns-clause-value : goal.returns-clause-value
returns-clause-value c =
    rw (c.of.ensures, ← c.as_slice.ensures.terms) (value-sum _ _ _ _ c.in_ok-terms.ensures
    ∙ ap (λ (g : Number). added g (scaled c.args.k (value_of c.as_slice.result.now)))
    (value-single c.args.signal c.args.j))

pub returns-clause-within : goal.returns-clause-within
returns-clause-within c = λ n l w.
    subst (λ (ts : List Term). IsWithin n ts) (sym c.of.ensures)
    (c.in_ok-terms.ensures.within n
    (within_one n c.args.signal c.args.j _ l c.get-number.ensures.value c.get-number.ensures.below)
    (subst (λ (ts : List Term). IsWithin n ts) (sym c.as_slice.ensures.terms) w)).0
