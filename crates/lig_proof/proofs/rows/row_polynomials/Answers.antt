use Rattle.std.proofs.Common.{[]}
use Rattle.lig_layout.specs.Layout.{row_at}
use Rattle.lig_proof.specs.Encoding.{Interpolates}
use Rattle.lig_proof.proofs.Collected.{at_first, placed_length}
use Rattle.lig_proof.proofs.rows.row_polynomials.Goals as goal

pub returns-clause-count : goal.returns-clause-count
returns-clause-count g c =
    let p = c.args.params.now in
    placed_length (λ k. Interpolates p (row_at p c.args.values.now k)) 0 p.rows
    c.in_ok-rows.rows.items c.in_ok-rows.ensures

pub returns-clause-rows : goal.returns-clause-rows
returns-clause-rows g c = λ k l.
    let p = c.args.params.now in
    at_first (λ k. Interpolates p (row_at p c.args.values.now k)) p.rows c.in_ok-rows.rows.items []
    c.in_ok-rows.ensures k l
