use Rattle.std.proofs.Common.{◌∙◌, ℕ, refl, ap, arith}
use Rattle.cir_arrays.specs.Counted.{counts_of}
use Rattle.cir_frame.specs.Shown.{frame_of, state_of}
use Rattle.cir_meaning.specs.Limits.{standing}
use Rattle.cir_meaning.specs.Frame.{variable_at}
use Rattle.cir_meaning.specs.Places.{elements}
use Rattle.cir_meaning.specs.Steps.{start_reads}
use Rattle.cir_meaning.specs.Costs.{node}
use Rattle.cir_cost.specs.Adds.{read_alone}
use Rattle.cir_cost.proofs.Adding.{cost_both}
use Rattle.cir_execute.proofs.Leaving.{reads_end, reads_more, sum_more, sum_end}
use Rattle.cir_execute.proofs.undecided.read_before.Goals as goal

pub loop-n-init : goal.loop-n-init
loop-n-init c = record {
  reads = λ w qs new h. cost_both c.new-cost.result new (node 0)
      (read_alone (start_reads c.args.variables.now (state_of c.args.frame.now w qs)))
      c.new-cost.ensures h;
  cells = λ counts. omega arith;
  most = refl;
}

pub loop-n-preserved : goal.loop-n-preserved
loop-n-preserved c =
    let ns = c.args.variables.now in
    let i = c.loop-n.n-index in
    let loop = c.loop-n.invariant in record {
      reads = λ w qs new h. loop.reads w qs new
          (reads_more ns i (state_of c.args.frame.now w qs) c.loop-n.cost c.read_variable.new.self
          new c.loop-n-test.true (c.in_ok-read_variable.ensures (counts_of w.added)) h);
      cells = λ counts.
          let size : ℕ → ℕ = λ n. elements (variable_at (frame_of c.args.frame.now counts) n).dims
          in
          let step = sum_more size ns i c.loop-n-test.true in
          let old = loop.cells counts in
          let dims = c.elements.ensures ∙ ap (λ ds. standing (elements ds))
          (c.variable_dims.ensures counts) in
          omega (arith, step, old, dims, c.saturating_add-cells.ensures);
      most = omega (arith, c.saturating_add-cells.ensures);
    }

pub returns-clause-reads : goal.returns-clause-reads
returns-clause-reads c = λ w qs.
    c.loop-n.invariant.reads w qs c.loop-n.cost
    (reads_end c.args.variables.now c.loop-n.n-index (state_of c.args.frame.now w qs)
    c.loop-n.cost c.loop-n-test.false)

pub returns-clause-cells : goal.returns-clause-cells
returns-clause-cells c = λ counts.
    let size : ℕ → ℕ = λ n. elements (variable_at (frame_of c.args.frame.now counts) n).dims in
    let end = sum_end size c.args.variables.now c.loop-n.n-index c.loop-n-test.false in
    omega (arith, end, c.loop-n.invariant.cells counts, c.loop-n.invariant.most)
