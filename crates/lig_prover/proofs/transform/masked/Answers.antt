use Rattle.std.proofs.Common.{◌+◌, ◌-◌, ◌%◌, ◌++◌, ◌∷◌, [], get_or, sym, ap, ◌∙◌, zero-add}
use Rattle.std.proofs.lemmas.List.FromFn.{map-range_with_len_more}
use Rattle.gold_field.specs.declared.gold.TheConstants.{P}
use Rattle.gold_ntt.specs.Polynomial.{shifted_at}
use Rattle.lig_prover.proofs.transform.masked.Goals as goal

pub loop-i-preserved : goal.loop-i-preserved
loop-i-preserved c =
    let l = c.args.l in
    let base = c.args.base.now in
    let mask = c.args.mask.now in
    let i = c.loop-i.i in
    c.in_ok-push.ensures.items
    ∙ ap (λ x. c.loop-i.coefs.items ++ x ∷ []) c.masked_at.ensures
    ∙ ap (λ xs. xs ++ (get_or base i 0 + (shifted_at l mask i + (P - get_or mask i 0))) % P ∷ [])
    c.loop-i.invariant
    ∙ sym (map-range_with_len_more (λ i. (get_or base i 0 +
    (shifted_at l mask i + (P - get_or mask i 0))) % P) 0 i i (zero-add i))
