-- What the engine uses of a plan's answers
use Rattle.std.proofs.Common.{◌≡◌, ◌≢◌, ℕ, ◌<◌, ◌≤◌, true, List, [], length, sym, ◌∙◌, ap, subst}
use Rattle.std.proofs.Common.{inl, inr, arith, Some}
use Rattle.std.proofs.lemmas.Bool.{cases_lt}
use Rattle.std.proofs.lemmas.List.{get_or_past}
use Rattle.std.proofs.lemmas.List.FromFn.{get_or-map-range_with_len}
use Rattle.flow_core.specs.Counts.{times, IsIn}
use Rattle.flow_core.specs.Net.{reads_of, writes_of}
use Rattle.flow_core.specs.Flow.{IsFlow, HasValue, Answer, Unreached, Refuses, Gives, answer_of}
use Rattle.wit_code.specs.declared.Stop.{Stop}
use Rattle.wit_code.specs.declared.Step.{Step}
use Rattle.wit_flow.specs.Cells.{Cells, with_values, have_values}
use Rattle.wit_flow.specs.Run.{End, StopsAt, no_step, writes_at}
use Rattle.wit_flow.specs.Answers.{answer_at, answer_end}
use Rattle.wit_flow.specs.OneThread.{one_thread, ending, Ended, Halted}
use Rattle.wit_flow.proofs.Values.{HasOne, have_all}
use Rattle.wit_flow.proofs.Runs.{Fills}
use Rattle.wit_flow.proofs.Cuts.{edge_end, strand_fills, answers_alone, Come, comes, all_run}
use Rattle.wit_flow.proofs.Cuts.{first_stops, reads_filled}
use Rattle.wit_flow.proofs.Shape.{value_held, is_flow}
use Rattle.flow_engine.specs.Task.{Task, IsTask, answers_of, cells_at, end_at}
use Rattle.flow_engine.specs.Sweep.{GiveBelow}

pub record Laws (t : Task) : Type 0 where
  pub flow : IsFlow (answers_of t)
  -- a cell that a strand reads has its value once the strands below it have answered
  pub read : (k c x : ℕ) → k < t.plan.graph.strands → IsIn c (reads_of t.plan.graph k)
      → HasValue (answers_of t) c x → cells_at t k c ≡ Some x
  pub reads_have : (k : ℕ) → k < t.plan.graph.strands → GiveBelow t k
      → have_values (cells_at t k) (reads_of t.plan.graph k) ≡ true
  pub stops_within : (k step : ℕ) (stop : Stop) (before : List ℕ) → k < t.plan.graph.strands
      → GiveBelow t k → end_at t k ≡ StopsAt step stop before
      → length before ≤ length (writes_of t.plan.graph k)
  pub filled : GiveBelow t t.plan.graph.strands → (c : ℕ) → c < t.plan.graph.cells
      → (x : ℕ) × (cells_at t t.plan.graph.strands c ≡ Some x)
  pub one_ends : GiveBelow t t.plan.graph.strands
      → one_thread t.plan t.start t.fuel ≡ Ended (cells_at t t.plan.graph.strands)
  pub one_halts : (k step : ℕ) (stop : Stop) (before : List ℕ) → k < t.plan.graph.strands
      → GiveBelow t k → end_at t k ≡ StopsAt step stop before
      → one_thread t.plan t.start t.fuel
      ≡ Halted step stop (with_values (cells_at t k) (writes_of t.plan.graph k) before)

not_refuses : (a : Answer) (xs : List ℕ) → a ≡ Gives xs → a ≢ Refuses
not_refuses a xs e = λ q. cc

fills_stop : (n : ℕ) (e : End) (s : ℕ) (stop : Stop) (xs : List ℕ) → Fills n e
    → e ≡ StopsAt s stop xs → length xs ≤ n
fills_stop n e s stop xs h is = let F : End → Type 0 = Fills n in subst F is h

module _ (t : Task) (h : IsTask t) where
  answer_here : (j : ℕ) → j < t.plan.graph.strands
      → answer_of (answers_of t) j ≡ answer_at t.plan t.start t.fuel j
  answer_here j near =
      get_or-map-range_with_len (answer_at t.plan t.start t.fuel) 0 t.plan.graph.strands j j
      Unreached near (omega arith)

  none_refuses : (k : ℕ) → k ≤ t.plan.graph.strands → GiveBelow t k
      → (j : ℕ) → j < k → answer_at t.plan t.start t.fuel j ≢ Refuses
  none_refuses k le give j lt =
      let g = give j lt in
      not_refuses (answer_at t.plan t.start t.fuel j) g.0 (sym (answer_here j (omega arith)) ∙ g.1)

  come : (k : ℕ) → k ≤ t.plan.graph.strands → GiveBelow t k
      → Come t.plan h.plan t.start t.fuel h.starts_each k
  come k le give =
      let e = h.plan.strands_each in
      comes t.plan h.plan t.start t.fuel h.starts_each k (omega arith) (none_refuses k le give)

  reads_one : (k : ℕ) → k < t.plan.graph.strands → GiveBelow t k
      → (c : ℕ) → IsIn c (reads_of t.plan.graph k) → HasOne (cells_at t k) c
  reads_one k near give =
      let e = h.plan.strands_each in
      reads_filled t.plan h.plan t.start t.fuel h.starts_each k (omega arith)
      (come k (omega arith) give).filled

  step_near : (q c : ℕ) → IsIn c (writes_at t.plan.steps q) → q < length t.plan.steps
  step_near q c here = elim (cases_lt q (length t.plan.steps)) [
    | inl near ↦ near
    | inr far ↦ (
        let past = get_or_past t.plan.steps q no_step far in
        let W : Step → Type 0 = λ s. IsIn c s.writes in
        let none-in : 0 < times c [] = subst W past here in absurd (omega arith))
  ]

  all_filled : GiveBelow t t.plan.graph.strands → (c : ℕ) → c < t.plan.graph.cells
      → HasOne (cells_at t t.plan.graph.strands) c
  all_filled give c near =
      let e = h.plan.strands_each in
      let last : ℕ = length t.plan.strands in
      let G : ℕ → Type 0 = λ n. GiveBelow t n in
      let done = come last (omega arith) (subst G (sym e) give) in
      let edge-is = edge_end t.plan.strands 0 (length t.plan.steps) h.plan.follow in
      let C : ℕ → Type 0 = λ n. HasOne (cells_at t n) c in
      subst C e (done.filled c (elim (h.plan.can_cut.written c near) [
        | inl begun ↦ inl begun
        | inr by ↦ (let lt = step_near by.0 c by.1 in inr (by.0, (omega arith), by.1))
      ]))

  halts_at : (k step : ℕ) (stop : Stop) (before : List ℕ) → k < t.plan.graph.strands → GiveBelow t k
      → end_at t k ≡ StopsAt step stop before
      → one_thread t.plan t.start t.fuel
      ≡ Halted step stop (with_values (cells_at t k) (writes_of t.plan.graph k) before)
  halts_at k step stop before near give e =
      let n = h.plan.strands_each in
      let near' : k < length t.plan.strands = omega arith in
      let a : Cells = cells_at t k in
      let alone = answers_alone t.plan h.plan t.fuel k near' a (reads_one k near give) in
      let refuses : answer_at t.plan t.start t.fuel k ≡ Refuses = alone ∙ ap answer_end e in
      first_stops t.plan h.plan t.start t.fuel h.starts_each k near' refuses
      (none_refuses k (omega arith) give)
      ∙ ap (ending a (writes_of t.plan.graph k)) e

  ends_all : GiveBelow t t.plan.graph.strands
      → one_thread t.plan t.start t.fuel ≡ Ended (cells_at t t.plan.graph.strands)
  ends_all give =
      let e = h.plan.strands_each in
      all_run t.plan h.plan t.start t.fuel h.starts_each
      (λ k lt. none_refuses t.plan.graph.strands (omega arith) give k (omega arith))
      ∙ ap (λ (n : ℕ). Ended (cells_at t n)) e

pub laws : (t : Task) → IsTask t → Laws t
laws t h = record {
  flow = is_flow t.plan h.plan t.start t.fuel h.starts_each;
  read = λ k c x near here v. value_held t.plan h.plan t.start t.fuel h.starts_each k c x here v;
  reads_have = λ k near give. have_all (cells_at t k) (reads_of t.plan.graph k)
      (reads_one t h k near give);
  stops_within = λ k step stop before near give e.
      let n = h.plan.strands_each in
      fills_stop (length (writes_of t.plan.graph k)) (end_at t k) step stop before
      (strand_fills t.plan h.plan t.fuel k (omega arith) (cells_at t k)
      (reads_one t h k near give)) e;
  filled = all_filled t h;
  one_ends = ends_all t h;
  one_halts = λ k step stop before near give e. halts_at t h k step stop before near give e;
}
