use Rattle.std.proofs.Common.{◌∙◌, ℕ, ◌++◌, ◌∷◌, [], List, ap, map, sym}
use Rattle.std.proofs.lemmas.List.{map-append}
use Rattle.cir_meaning.specs.Places.{numbers_from}
use Rattle.cir_steps.specs.Step as S
use Rattle.cir_make.specs.declared.cells.Source.TheVariants as source
use Rattle.cir_make.specs.Cells.{source_by}
use Rattle.cir_write.proofs.Wires.{one_more}
use Rattle.cir_body.specs.Renewed.{cells_from}
use Rattle.cir_body.proofs.renewing.fill.Goals as goal

pub loop-at-init : goal.loop-at-init
loop-at-init c = ap (map source_by) c.clear.ensures.items

pub loop-at-preserved : goal.loop-at-preserved
loop-at-preserved c =
    let first = c.args.first in
    let at = c.loop-at.at in
    let had = c.loop-at.sources.items in
    ap (map source_by) c.in_ok-push.ensures.items
    ∙ map-append source_by had (source.Cell c.in_ok-behind.field-0 ∷ [])
    ∙ ap (λ (l : List S.Source). l ++ S.Cell c.in_ok-behind.field-0 ∷ []) c.loop-at.invariant
    ∙ ap (λ (n : ℕ). cells_from first at ++ S.Cell n ∷ []) c.in_ok-behind.ensures.ok
    ∙ sym (ap (map (λ (n : ℕ). S.Cell n)) (one_more first at)
    ∙ map-append (λ (n : ℕ). S.Cell n) (numbers_from first at) _)
