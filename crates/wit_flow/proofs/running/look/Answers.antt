use Rattle.std.proofs.Common.{arith, ◌≡◌, ◌<◌, ℕ, subst, ◌∷◌, [], ◌++◌, get_or, sym, ◌∙◌, ap}
use Rattle.std.proofs.Common.{unwrap_or, None, Option}
use Rattle.std.specs.Prelude.{All}
use Rattle.gold_field.specs.declared.gold.TheConstants.{P}
use Rattle.std.proofs.lemmas.List.Elements.{All-push}
use Rattle.std.proofs.lemmas.List.{map_more, get_or_read}
use Rattle.flow_core.proofs.Totals.{is_in_at}
use Rattle.wit_flow.specs.Cells.{held, number_at}
use Rattle.wit_flow.proofs.running.look.Goals as goal

pub bounds-held_cells-cell : goal.bounds-held_cells-cell
bounds-held_cells-cell c =
    c.requires (get_or c.args.cells.now c.loop-cell.cell-index 0)
    (is_in_at c.args.cells.now c.loop-cell.cell-index c.loop-cell-test.true)

pub loop-cell-preserved : goal.loop-cell-preserved
loop-cell-preserved c =
    let below = c.loop-cell.invariant.below in
    let cell : ℕ = get_or c.args.cells.now c.loop-cell.cell-index 0 in
    let near =
    c.requires cell (is_in_at c.args.cells.now c.loop-cell.cell-index c.loop-cell-test.true) in
    let is : c.index-held_cells-cell.result ≡ held c.args.held_cells.now cell =
    get_or_read c.args.held_cells.now cell c.index-held_cells-cell.result near
    c.index-held_cells-cell.is None in
    let v : c.unwrap_or-number.result ≡ number_at (held c.args.held_cells.now) cell =
    c.unwrap_or-number.ensures ∙ ap (λ (o : Option ℕ). unwrap_or o 0) is in
    record {
      below =
          subst (All (λ x. x < P)) (sym c.in_ok-push.ensures.items)
          (All-push (λ x. x < P) c.loop-cell.numbers.items c.unwrap_or-number.result below
          (let a = c.get.ensures.value in let b = c.get.ensures.below in omega arith));
      numbers =
          c.in_ok-push.ensures.items ∙ (λ j. c.loop-cell.invariant.numbers j ++ v j ∷ [])
          ∙ sym (map_more (number_at (held c.args.held_cells.now)) c.args.cells.now
          c.loop-cell.cell-index 0 c.loop-cell-test.true);
    }
