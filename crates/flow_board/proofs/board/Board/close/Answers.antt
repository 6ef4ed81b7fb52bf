use Rattle.std.proofs.Common.{◌∙◌, ap, refl, arith}
use Rattle.std.specs.Slots.{slots_items}
use Rattle.flow_board.proofs.Calls.{sits, closes_with, closing_is}
use Rattle.flow_board.proofs.board.Board.close.Goals as goal

pub invariant_of-result : goal.invariant_of-result
invariant_of-result g c = (
  closing_is
      (sits c.self.invariant c.seat.view_is c.self.view_is c.requires.own c.seat.invariant) _
      (slots_items c.close_with-closed.result.words)
      (slots_items c.close_with-closed.result.slots) _ c.requires.free c.requires.whole
      c.close_with-closed.ensures.values.2 refl,
  c.close_with-closed.ensures.values.0,
  (let a = c.self.invariant in let n = c.close_with-closed.ensures.counts.0 in omega arith),
  c.close_with-closed.ensures.counts.1 ∙ c.self.invariant.slots_are,
)

pub returns : goal.returns
returns g c = record {
  closes = closes_with
      (sits c.self.invariant c.seat.view_is c.self.view_is c.requires.own c.seat.invariant) _
      (slots_items c.close_with-closed.result.words)
      (slots_items c.close_with-closed.result.slots) _ c.requires.free c.requires.whole
      c.close_with-closed.ensures.values.2 refl;
  cells_are = c.self.invariant.cells_are ∙ ap (λ x. x.flow.net.cells) c.self.view_is;
  strands_are = c.self.invariant.strands_are ∙ ap (λ x. x.flow.net.strands) c.self.view_is;
}
