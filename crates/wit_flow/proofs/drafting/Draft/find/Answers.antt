use Rattle.std.proofs.Common.{List, take, ◌+◌, get_or, arith, subst, sym, ap, length}
use Rattle.flow_core.proofs.Totals.{is_in_at}
use Rattle.wit_flow.specs.declared.drafting.Draft.{Draft}
use Rattle.wit_flow.specs.declared.flow.Source.{Source}
use Rattle.wit_flow.specs.Sources.{AreSources}
use Rattle.wit_flow.specs.Draft.{number_of_open}
use Rattle.wit_flow.proofs.Marking.{finds_more}
use Rattle.wit_flow.proofs.drafting.Draft.find.Goals as goal

pub source_of-requires-clause-marked : goal.source_of-requires-clause-marked
source_of-requires-clause-marked c = c.loop-cell.invariant.reads.marked

pub source_of-requires-clause-few : goal.source_of-requires-clause-few
source_of-requires-clause-few c = let e =
    ap (λ (d : Draft). number_of_open d) c.loop-cell.invariant.reads.same in let f =
    c.requires.few in omega arith

pub source_of-requires-clause-near : goal.source_of-requires-clause-near
source_of-requires-clause-near c = let w = c.loop-cell.invariant.reads.wide in
    let n = c.requires.near (get_or c.args.cells.now c.loop-cell.cell-index 0)
    (is_in_at c.args.cells.now c.loop-cell.cell-index c.loop-cell-test.true) in omega arith

pub loop-cell-preserved : goal.loop-cell-preserved
loop-cell-preserved c =
    let m = finds_more c.args.self.now c.loop-cell.self c.source_of.new.self c.args.cells.now
    c.loop-cell.cell-index c.loop-cell.sources c.in_ok-source.source c.loop-cell-test.true
    c.loop-cell.invariant.reads c.loop-cell.invariant.sources c.in_ok-source.ensures.reads
    c.in_ok-source.ensures.source in
    let d = c.source_of.new.self in
    let P : List Source
    → Type 0 =
    λ x. AreSources d.open_reads d.open_writes (length d.open_writes) x
    (take (c.loop-cell.cell-index + 1) c.args.cells.now) in
    record { reads = m.0; sources = subst P (sym c.in_ok-push.ensures.ok) m.1 }
