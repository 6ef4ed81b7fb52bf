-- The ends of many runs of one circuit's code.
use Rattle.std.proofs.Common.{◌≡◌, ℕ, ◌+◌, ◌*◌, ◌<◌, ◌≤◌, List, []}
use Rattle.std.proofs.Common.{◌∷◌, length, All, Vec, Global}
use Rattle.std.proofs.Common.{arith}
use Rattle.std.specs.List.{AllZip}
use Rattle.std.proofs.lemmas.List.Elements.{All-nil, All-cons, All-head, All-tail, All-weaker}
use Rattle.std.proofs.Math.Nat.{mul-le-mul_left}
use Rattle.wit_flow.specs.declared.flow.Outcome.{Outcome}
use Rattle.wit_flow.specs.declared.flow.Strand.{Strand}
use Rattle.wit_flow.specs.Cut.{Follow}
use Rattle.wit_flow.specs.OneThread.{IsOutcome}
use Rattle.wit_flow.specs.Plan.{Plan, IsPlan}
use Rattle.cir_ast.specs.Program.{Program}
use Rattle.flow_batch.specs.Batch.{AreFew}
use Rattle.wit_circuit.specs.declared.code.CircuitCode.{CircuitCode}
use Rattle.wit_circuit.specs.Ending.{code_ending}
use Rattle.wit_run.specs.declared.ending.RunEnd.{RunEnd}
use Rattle.wit_run.specs.Batch.{HasTask, IsRunFrom, most_batch}
use Rattle.wit_run.specs.Task.{EndsBy, HasPlace}
use Rattle.wit_run.proofs.Ends.{starts_each, task_ends, task_has_place}

-- strands that follow one another are no more than their steps
followed : (ss : List Strand) (n end : ℕ) → Follow ss n end → n + length ss ≤ end
followed [] n end h = omega (arith, h)
followed (s ∷ ss) n end h =
    let more = followed ss (n + s.count) end h.2 in
    let some = h.1 in
    omega arith

-- lists that fit by the circuit's steps fit by the flow's strands
pub fit : (p : Plan) → IsPlan p → (lists : ℕ)
    → lists * (p.graph.cells + length p.steps + 64) ≤ most_batch → AreFew p lists
fit p plan lists few =
    let strands = followed p.strands 0 (length p.steps) plan.follow in
    let each = plan.strands_each in
    let le : p.graph.cells + p.graph.strands + 64 ≤ p.graph.cells + length p.steps + 64 =
    omega arith in
    let all = mul-le-mul_left lists le in
    omega arith

module _ (p : Program) (code : CircuitCode) where
  pub each_counted : (ss : List (Vec ℕ Global)) → All (λ s. HasTask p code s.items) ss
      → All (λ s. length s.items ≡ length code.starts) ss
  each_counted ss tasks =
      All-weaker (λ (s : Vec ℕ Global). HasTask p code s.items)
      (λ (s : Vec ℕ Global). length s.items ≡ length code.starts)
      (λ s task. starts_each p code s.items task.0 task.1) ss tasks

  module _ (fuel : ℕ) where
    -- the outcome is that of one thread on the list
    abbrev pub Comes : Vec ℕ Global → Outcome → Type 0
    Comes s o =
        IsOutcome code.cells o (code_ending code.procs fuel code.steps code.starts s.items)

    pub have_places : (ss : List (Vec ℕ Global)) (os : List Outcome)
        → All (λ s. HasTask p code s.items) ss → AllZip Comes ss os → All (HasPlace code) os
    have_places [] [] tasks come = All-nil (HasPlace code)
    have_places [] (o ∷ os) tasks come = absurd come
    have_places (s ∷ ss) [] tasks come = absurd come
    have_places (s ∷ ss) (o ∷ os) tasks come =
        let Has : Vec ℕ Global → Type 0 = λ s. HasTask p code s.items in
        let one = All-head Has s ss tasks in
        All-cons (HasPlace code) o os
        (task_has_place p code s.items one.0 fuel one.1 o come.0)
        (have_places ss os (All-tail Has s ss tasks) come.1)

    pub all_end : (ss : List (Vec ℕ Global)) (os : List Outcome) (es : List RunEnd)
        → AllZip Comes ss os → AllZip (EndsBy code) os es
        → AllZip (λ s e. IsRunFrom p code fuel s.items e) ss es
    all_end [] [] [] come ends = tt
    all_end [] [] (e ∷ es) come ends = absurd ends
    all_end [] (o ∷ os) es come ends = absurd come
    all_end (s ∷ ss) [] es come ends = absurd come
    all_end (s ∷ ss) (o ∷ os) [] come ends = absurd ends
    all_end (s ∷ ss) (o ∷ os) (e ∷ es) come ends = (
      λ inputs task. task_ends p code s.items inputs fuel task o come.0 e ends.0,
      all_end ss os es come.1 ends.1,
    )
