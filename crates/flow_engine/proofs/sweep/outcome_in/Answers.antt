use Rattle.std.proofs.Common.{◌≡◌, ℕ, List, sym, ◌∙◌, ap, subst}
use Rattle.flow_core.specs.Net.{Net}
use Rattle.wit_flow.specs.declared.Outcome.TheVariants.{Done}
use Rattle.wit_flow.specs.OneThread.{IsOutcome, one_thread}
use Rattle.flow_engine.proofs.Whole.{ends_done}
use Rattle.flow_engine.proofs.sweep.outcome_in.Goals as goal

pub returns : goal.returns
returns c =
    let t = c.args.answers.now in
    let O : List ℕ → Type 0 =
    λ xs. IsOutcome t.plan.graph.cells (Done xs) (one_thread t.plan t.start t.fuel) in
    let cells : c.graph.inside.cells ≡ t.plan.graph.cells =
    ap (λ (n : Net). n.cells) (c.graph.view_is ∙ c.graph-graph.ensures) in
    subst O (sym c.of.ensures)
    (ends_done t c.facts.ensures c.args.words.now c.requires.closed c.requires.all
    c.in_ok-numbers.numbers.items (c.in_ok-numbers.ensures.each ∙ cells)
    c.in_ok-numbers.ensures.numbers)
