use Rattle.std.proofs.Common.{get_or, arith, rules, ap, length, ◌<◌, subst, sym, ◌∙◌, IsTrue, List}
use Rattle.std.proofs.lemmas.Bool.{false≢true}
use Rattle.flow_core.proofs.Totals.{is_in_at}
use Rattle.wit_flow.specs.declared.drafting.Mark.{Mark}
use Rattle.wit_flow.specs.Draft.{number_of_open, Marks}
use Rattle.wit_flow.proofs.Marking.{names_hit, names_miss}
use Rattle.wit_flow.proofs.drafting.Draft.names_written.Goals as goal
use Rattle.wit_flow.proofs.drafting.Draft.names_written.Goals.{
  else-mark-number-via-then-mark-number+else-is_written,
  else-mark-number-via-else-mark-number,
}

pub bounds-as_slice-cell : goal.bounds-as_slice-cell
bounds-as_slice-cell c = let n =
    c.requires.near (get_or c.args.cells.now c.loop-cell.cell-index 0)
    (is_in_at c.args.cells.now c.loop-cell.cell-index c.loop-cell-test.true) in let e =
    ap length c.as_slice.ensures in omega arith

pub returns-then-is_written : goal.returns-then-is_written
returns-then-is_written c =
    let d = c.args.self.now in
    let t : IsTrue c.is_written.result = search rules in
    let n = c.requires.near (get_or c.args.cells.now c.loop-cell.cell-index 0)
    (is_in_at c.args.cells.now c.loop-cell.cell-index c.loop-cell-test.true) in
    let M : List Mark → Type 0 = λ ms. Marks (number_of_open d) ms d.open_reads d.open_writes in
    let near : get_or c.args.cells.now c.loop-cell.cell-index 0 < length c.as_slice.result.now =
    let e = ap length c.as_slice.ensures in omega arith in (
      λ _. names_hit (number_of_open d) c.as_slice.result.now d.open_reads d.open_writes
          (subst M (sym c.as_slice.ensures) c.requires.marked) c.args.cells.now
          c.loop-cell.cell-index c.number-number.result c.loop-cell-test.true near
          c.number-number.ensures _ c.if-mark-number.true (c.is_written.ensures.0 t),
      λ _. search rules,
    )

pub loop-cell-preserved : goal.loop-cell-preserved
loop-cell-preserved c =
    let d = c.args.self.now in
    let n = c.requires.near (get_or c.args.cells.now c.loop-cell.cell-index 0)
    (is_in_at c.args.cells.now c.loop-cell.cell-index c.loop-cell-test.true) in
    let M : List Mark → Type 0 = λ ms. Marks (number_of_open d) ms d.open_reads d.open_writes in
    let near : get_or c.args.cells.now c.loop-cell.cell-index 0 < length c.as_slice.result.now =
    let e = ap length c.as_slice.ensures in omega arith in
    names_miss (number_of_open d) c.as_slice.result.now d.open_reads d.open_writes
    (subst M (sym c.as_slice.ensures) c.requires.marked) c.args.cells.now c.loop-cell.cell-index
    c.number-number.result c.loop-cell-test.true near c.number-number.ensures _
    (λ e w. elim c.else-mark-number.branch [
      | else-mark-number-via-then-mark-number+else-is_written q ↦
          absurd (false≢true (sym q.if-is_written.false ∙ q.is_written.ensures.1 w))
      | else-mark-number-via-else-mark-number q ↦ q.if-mark-number.false e
    ]) c.loop-cell.invariant
