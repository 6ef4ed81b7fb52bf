use Rattle.std.proofs.Common.{◌≡◌, ◌∙◌, ◌+◌, ◌++◌, [], ◌∷◌, ap, sym, append_assoc, arith}
use Rattle.std.specs.Prelude.{map}
use Rattle.cir_arrays.specs.Shown.{datum_of}
use Rattle.cir_arrays.proofs.Runs.{numbers_more}
use Rattle.cir_meaning.specs.Places.{numbers_from}
use Rattle.cir_meaning.specs.Costs as M
use Rattle.cir_cost.specs.Adds.{cell_of}
use Rattle.cir_cost.proofs.Cells.{unknown_append, unknown_all}
use Rattle.cir_cost.proofs.reads.add_all_unknown.Goals as goal

pub loop-element-preserved : goal.loop-element-preserved
loop-element-preserved c =
    let d = datum_of c.args.d.now in
    let n = c.args.variable in
    let i = c.loop-element.element in
    let old = map cell_of c.args.reads.now.items in
    let last : i ≡ 0 + i = omega arith in
    c.in_ok-add_if_unknown.ensures
    ∙ ap (λ cells. cells ++ M.unknown_at n d (i ∷ [])) c.loop-element.invariant
    ∙ append_assoc old (M.unknown_at n d (numbers_from 0 i)) (M.unknown_at n d (i ∷ []))
    ∙ ap (λ cells. old ++ cells) (sym (unknown_append n d (numbers_from 0 i) (i ∷ []))
    ∙ ap (M.unknown_at n d)
    (ap (λ k. numbers_from 0 i ++ k ∷ []) last ∙ sym (numbers_more 0 i)))

pub returns : goal.returns
returns c =
    let n = c.args.variable in
    let d = datum_of c.args.d.now in
    let old = map cell_of c.args.reads.now.items in
    let end : c.loop-element.element ≡ c.item_count-element-end.result = omega arith in
    c.loop-element.invariant
    ∙ ap (λ k. old ++ M.unknown_at n d (numbers_from 0 k)) (end ∙ c.item_count-element-end.ensures)
    ∙ ap (λ cells. old ++ cells) (unknown_all n c.args.d.now)
