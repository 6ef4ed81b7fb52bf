use Rattle.std.proofs.Common.{◌≡◌, ◌+◌, ◌-◌, ◌*◌, ◌%◌, List, ℕ, [], ◌∷◌, ◌++◌, get_or, ap, ◌∙◌}
use Rattle.gold_field.specs.declared.gold.TheConstants.{P}
use Rattle.lig_prover.proofs.masks.linear_mask.Goals as goal

pub returns : goal.returns
returns c =
    let l = c.args.params.now.l in
    let others = c.in_ok-others.others.items in
    let made = λ (xs : List ℕ). ((P - get_or xs (l - 1) 0) + (P - get_or xs (2 * l - 1) 0)) % P
    ∷ xs in
    let first : c.number_in-first.result ≡ get_or others (l - 1) 0 =
    c.number_in-first.ensures ∙ ap (λ xs. get_or xs (l - 1) 0) c.deref.ensures.value in
    let second : c.number_in-second.result ≡ get_or others (2 * l - 1) 0 =
    c.number_in-second.ensures ∙ ap (λ xs. get_or xs (2 * l - 1) 0) c.deref-2.ensures.value in
    c.in_ok-extend_from_slice.ensures.items
    ∙ ap (λ xs. xs ++ c.deref-3.result.now) (c.in_ok-push.ensures.items
    ∙ ap (λ xs. xs ++ c.opposite.result ∷ []) c.in_ok-mask.ensures.items)
    ∙ ap (λ xs. c.opposite.result ∷ xs) c.deref-3.ensures.value
    ∙ ap (λ x. x ∷ others) (c.opposite.ensures
    ∙ ap (λ x. ((P - x) + (P - c.number_in-second.result)) % P) first
    ∙ ap (λ x. ((P - get_or others (l - 1) 0) + (P - x)) % P) second)
    ∙ ap made c.in_ok-others.ensures
