use Rattle.std.proofs.Common.{◌≡◌, ◌∙◌, ℕ, ◌+◌, ◌++◌, ◌∷◌, [], List, ap, append_assoc, arith, map}
use Rattle.std.proofs.Common.{sym}
use Rattle.std.proofs.lemmas.List.{map-append}
use Rattle.cir_arrays.proofs.Runs.{numbers_more}
use Rattle.cir_meaning.specs.Places.{numbers_from}
use Rattle.cir_emit.specs.Tasks.{elements_at}
use Rattle.wit_lower.specs.Tasks.{Element}
use Rattle.wit_statements.specs.Asked.{element_of}
use Rattle.cir_make.proofs.work.add_elements.Goals as goal

pub loop-element-preserved : goal.loop-element-preserved
loop-element-preserved c =
    let n = c.args.variable in
    let k = c.loop-element.element in
    let zero : 0 + k ≡ k = omega arith in
    let one : ℕ → Element = λ i. record { variable = n; element = i } in
    let had = c.loop-element.elements.items in
    let old : List Element = map element_of c.args.elements.now.items in
    ap (map element_of) c.in_ok-push.ensures.items
    ∙ map-append element_of had (record { variable = n; element = k } ∷ [])
    ∙ ap (λ (l : List Element). l ++ record { variable = n; element = k } ∷ [])
    c.loop-element.invariant
    ∙ append_assoc old (elements_at n (numbers_from 0 k)) _
    ∙ ap (λ (l : List Element). old ++ l)
    (sym (ap (elements_at n) (numbers_more 0 k ∙ ap (λ i. numbers_from 0 k ++ i ∷ []) zero)
    ∙ map-append one (numbers_from 0 k) (k ∷ [])))
