use Rattle.std.proofs.Common.{length, refl, subst}
use Rattle.std.proofs.lemmas.List.{drop_all, drop_more}
use Rattle.cir_homes.specs.Filled.{IsLeft}
use Rattle.cir_homes.proofs.Filled.{rows_begin, rows_end, rows_go}
use Rattle.cir_homes.proofs.filling.put_all.Goals as goal

pub loop-row-init : goal.loop-row-init
loop-row-init c = λ empty.
    rows_begin c.args.homes.now c.args.first (length c.args.found.now) c.args.found.now empty refl

pub loop-row-preserved : goal.loop-row-preserved
loop-row-preserved c = λ empty.
    let hs = c.args.homes.now in
    rows_go hs _ _ c.args.first (length c.args.found.now) c.loop-row.found c.put.new.found
    (subst (λ l. IsLeft hs l c.args.first (length c.args.found.now) c.loop-row.found)
    (drop_more hs c.loop-row.row-index _ c.loop-row-test.true) (c.loop-row.invariant empty))
    c.in_ok-put.ensures

pub returns : goal.returns
returns c = λ empty.
    let hs = c.args.homes.now in
    rows_end hs c.args.first (length c.args.found.now) c.loop-row.found
    (subst (λ l. IsLeft hs l c.args.first (length c.args.found.now) c.loop-row.found)
    (drop_all c.loop-row.row-index hs c.loop-row-test.false) (c.loop-row.invariant empty))
