use Rattle.std.proofs.Common.{◌≡◌, ◌∙◌, ap, List}
use Rattle.gold_field.specs.declared.form.Term.{Term}
use Rattle.cir_lc.specs.Number.{negated, value_of}
use Rattle.cir_lc.specs.Normal.{IsConstraintWithin}
use Rattle.cir_lc.specs.Sparse.{form_of, normal_of}
use Rattle.cir_lc.specs.Terms.{IsWithin}
use Rattle.cir_lc.proofs.Forms.{form_known, form_value, naming_within, normal_known}
use Rattle.cir_lc.proofs.Changes.{subst_means, normal_form, negative, negative-value}
use Rattle.cir_lc.proofs.Changes.{negative-naming}
use Rattle.cir_lc.proofs.change.subst.Goals as goal

pub returns-clause-value : goal.returns-clause-value
returns-clause-value c =
    let swap = c.in_ok-swap.ensures.value in
    let minus = negative-value c.in_ok-rest.rest in
    subst_means _ _ _ _ _ (negative c.in_ok-rest.rest) _ _ (c.in_ok-a.ensures.value _ swap)
    (c.in_ok-b.ensures.value _ swap) (c.in_ok-rest.ensures.value _ swap) minus
    (c.in_ok-n.ensures.shape _ minus)

pub returns-clause-within : goal.returns-clause-within
returns-clause-within c = λ n l k b.
    let swap = c.in_ok-swap.ensures.within n l b in
    c.in_ok-n.ensures.within n (c.in_ok-a.ensures.within n k.0 swap)
    (c.in_ok-b.ensures.within n k.1 swap) (c.in_ok-rest.ensures.within n k.2 swap)

pub returns-clause-normal : goal.returns-clause-normal
returns-clause-normal c =
    normal_form _ _ (c.in_ok-n.ensures.shape _ (negative-value c.in_ok-rest.rest))

pub returns-clause-form : goal.returns-clause-form
returns-clause-form c = λ n l k b.
    let by = c.in_ok-swap.ensures.value in
    let swap = c.in_ok-swap.ensures.within n l b in
    let wa = c.in_ok-a.ensures.within n k.0 swap in
    let wb = c.in_ok-b.ensures.within n k.1 swap in
    let wr : IsWithin n c.in_ok-rest.rest = c.in_ok-rest.ensures.within n k.2 swap in
    let a = form_known n c.in_ok-a.a _ c.in_ok-a.ensures.rises wa (c.in_ok-a.ensures.value _ by) in
    let e = form_known n c.in_ok-b.b _ c.in_ok-b.ensures.rises wb (c.in_ok-b.ensures.value _ by) in
    let minus = negative-value c.in_ok-rest.rest in
    let m : List Term = form_of n (value_of (negative c.in_ok-rest.rest)) in
    let value : value_of m ≡ negated (value_of c.in_ok-rest.rest) =
    form_value n (negative c.in_ok-rest.rest)
    (negative-naming n c.in_ok-rest.rest (naming_within n c.in_ok-rest.rest wr)) ∙ minus in
    let f = ap (form_of n) (minus ∙ ap negated (c.in_ok-rest.ensures.value _ by)) in
    let within : IsConstraintWithin n c.in_ok-n.n = c.in_ok-n.ensures.within n wa wb wr in
    let known : c.in_ok-n.n
    ≡ normal_of n (record { a = c.in_ok-a.a; b = c.in_ok-b.b; c = m }) =
    normal_known n _ _ (c.in_ok-n.ensures.shape m value) c.in_order.ensures.2 within.2 in
    known ∙ (λ i. normal_of n (record { a = a i; b = e i; c = f i }))
