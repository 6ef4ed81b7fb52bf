-- The run of one strand's steps, by the sources of what they read
use Rattle.std.proofs.Common.{◌≡◌, ℕ, suc, ◌+◌, ◌-◌, ◌<◌, ◌≤◌, List, [], ◌∷◌, ◌++◌, map}
use Rattle.std.proofs.Common.{length, take, drop, get_or, sym, ◌∙◌, ap, subst, arith, Option}
use Rattle.std.proofs.Common.{Some, unwrap_or, slice_range, length-append}
use Rattle.std.proofs.lemmas.List.{append-nil, get_or_append_left, get_or-map, drop_more, drop-drop}
use Rattle.std.proofs.lemmas.List.{ext_get_or, length-map}
use Rattle.std.proofs.Math.Seq.{take-add}
use Rattle.wit_code.specs.declared.code.Step.{Step}
use Rattle.wit_code.specs.declared.code.Stop.{Stop}
use Rattle.wit_code.specs.Table.{Outcome, Wrote, Stopped}
use Rattle.flow_core.specs.Counts.{times, IsIn}
use Rattle.flow_core.specs.Net.{reads_of, writes_of}
use Rattle.flow_core.proofs.Totals.{is_in_at}
use Rattle.wit_flow.specs.declared.flow.Source.{Source}
use Rattle.wit_flow.specs.declared.flow.Source.TheVariants.{Read, Written}
use Rattle.wit_flow.specs.Cells.{Cells, no_values, with_values, number_at, numbers_at}
use Rattle.wit_flow.specs.Run.{no_step, step_at, reads_at, writes_at, writes_in, fitted}
use Rattle.wit_flow.specs.Run.{End, Ran, StopsAt, after_values, end_of, run_steps}
use Rattle.wit_flow.specs.Steps.{IsAmid, step_outcome, written_before, strand_cells}
use Rattle.wit_flow.specs.Cut.{strand_at, part}
use Rattle.wit_flow.specs.Plan.{Plan, IsPlan}
use Rattle.wit_flow.specs.Sources.{IsSource, AreSources, source_at, number_of, IsThere, AreThere}
use Rattle.wit_flow.specs.Sources.{sources_of, IsKept}
use Rattle.wit_flow.specs.Answers.{strand_end}
use Rattle.wit_flow.proofs.Values.{with_values-append, with_values_else, with_values_at}
use Rattle.wit_flow.proofs.Values.{times-append, in_left}
use Rattle.wit_flow.proofs.Runs.{fitted_same, after-append, after_none}
use Rattle.wit_flow.proofs.Spans.{strand_within, writes-append}
use Rattle.wit_flow.proofs.Strands.{writes_more, range_none}
use Rattle.wit_flow.proofs.Plans.{reads_no_own}

pub range_next : (steps : List Step) (a b : ℕ) → a < b → b ≤ length steps
    → slice_range steps a b ≡ step_at steps a ∷ slice_range steps (a + 1) b
range_next steps a b less le =
    let n : b - a ≡ suc (b - (a + 1)) = omega arith in
    ap (λ m. take m (drop a steps)) n
    ∙ ap (λ (l : List Step). take (suc (b - (a + 1))) l)
    (drop_more steps a no_step (omega arith))

pub range_split : (steps : List Step) (a b c : ℕ) → a ≤ b → b ≤ c
    → slice_range steps a c ≡ slice_range steps a b ++ slice_range steps b c
range_split steps a b c le le' =
    let n : c - a ≡ b - a + (c - b) = omega arith in let m : a + (b - a) ≡ b = omega arith in
    ap (λ k. take k (drop a steps)) n ∙ take-add (b - a) (c - b) (drop a steps)
    ∙ ap (λ (l : List Step). take (b - a) (drop a steps) ++ take (c - b) l)
    (drop-drop (b - a) a steps ∙ ap (λ k. drop k steps) m)

-- how far the run of a strand has come: its steps before `at` wrote these values
pub record IsRunning (p : Plan) (fuel k : ℕ) (reads : List ℕ) (at : ℕ)
    (written : List ℕ) : Type 0 where
  pub from : (strand_at p.strands k).first ≤ at
  pub wide : length written ≡ length (written_before p k at)
  pub same : strand_end p fuel k reads
      ≡ after_values written (run_steps p.procs fuel at
      (slice_range p.steps at ((strand_at p.strands k).first + (strand_at p.strands k).count))
      (strand_cells p k reads at written))

pub strand_ends : (p : Plan) → IsPlan p → (k : ℕ) → k < length p.strands
    → (strand_at p.strands k).first + (strand_at p.strands k).count ≤ length p.steps
strand_ends p ok k near = (strand_within p.strands 0 (length p.steps) k ok.follow near).1

-- what the next step of a strand reads, by its sources
module _ (p : Plan) (sources : List (List Source)) (kept : IsKept p sources) (k : ℕ)
    (near : k < length p.strands) (reads : List ℕ)
    (each : length reads ≡ length (reads_of p.graph k))
    (at : ℕ) (written : List ℕ) (amid : IsAmid p k at written) where
  pub in_steps : at < length p.steps
  in_steps = let e = strand_ends p kept.plan k near in let less = amid.to in omega arith

  abbrev done : List ℕ
  done = written_before p k at

  abbrev cells : Cells
  cells = strand_cells p k reads at written

  found : AreSources (reads_of p.graph k) (writes_of p.graph k) (length done)
      (sources_of sources at) (reads_at p.steps at)
  found = kept.finds k near at amid.from amid.to

  -- what the strand's steps have written is the front of what the strand writes
  writes_split : (rest : List ℕ) × (writes_of p.graph k ≡ done ++ rest)
  writes_split =
      let s = strand_at p.strands k in let end : ℕ = s.first + s.count in
      let less = amid.to in (
        writes_in (slice_range p.steps at end),
        (kept.plan.draws k near).writes_all
            ∙ ap writes_in (range_split p.steps s.first at end amid.from (omega arith))
            ∙ writes-append (slice_range p.steps s.first at) (slice_range p.steps at end),
      )

  number_here : (x : Source) (c : ℕ)
      → IsSource (reads_of p.graph k) (writes_of p.graph k) (length done) x c
      → number_of reads written x ≡ number_at cells c
  number_here (Read i) c h =
      let R = reads_of p.graph k in let start = with_values no_values R reads in
      let split = writes_split in
      let here : IsIn c R = subst (λ d. IsIn d R) h.1 (is_in_at R i h.0) in
      let apart : IsIn c done → ⊥ =
      λ own. reads_no_own p.graph kept.plan.net k c here
      (subst (IsIn c) (sym split.1) (in_left c done split.0 own)) in
      let v : start (get_or R i 0) ≡ Some (get_or reads i 0) =
      with_values_at no_values R reads i (sym each) h.0
      (kept.plan.net.reads_once k (get_or R i 0)) in
      let w : cells c ≡ Some (get_or reads i 0) =
      with_values_else start done written c apart
      ∙ subst (λ d. start d ≡ Some (get_or reads i 0)) h.1 v in
      sym (ap (λ (o : Option ℕ). unwrap_or o 0) w)
  number_here (Written i) c h =
      let R = reads_of p.graph k in let W = writes_of p.graph k in
      let split = writes_split in let l = h.0 in
      let same : get_or W i 0 ≡ get_or done i 0 =
      ap (λ (x : List ℕ). get_or x i 0) split.1 ∙ get_or_append_left done split.0 0 i l in
      let once : times (get_or done i 0) done ≤ 1 =
      let a = kept.plan.net.writes_once k (get_or done i 0) in
      let b = ap (times (get_or done i 0)) split.1 in
      let d = times-append (get_or done i 0) done split.0 in omega arith in
      let v : cells (get_or done i 0) ≡ Some (get_or written i 0) =
      with_values_at (with_values no_values R reads) done written i (sym amid.wide) l once in
      sym (ap (λ (o : Option ℕ). unwrap_or o 0)
      (subst (λ d. cells d ≡ Some (get_or written i 0)) (sym same ∙ h.1) v))

  -- by its sources the step gets what the cells hold that it reads
  pub numbers_are : map (number_of reads written) (sources_of sources at)
      ≡ numbers_at cells (reads_at p.steps at)
  numbers_are =
      let ss = sources_of sources at in let cs = reads_at p.steps at in
      let f = found in let l = f.each in
      let ls = length-map ss (number_of reads written) in let lc = length-map cs (number_at cells)
      in
      ext_get_or 0 (map (number_of reads written) ss) (numbers_at cells cs) (omega arith)
      (λ i lt. let i-near : i < length cs = omega arith in
      let i-in : i < length ss = omega arith in
      get_or-map (number_of reads written) ss i (Read 0) 0 i-in
      ∙ number_here (source_at ss i) (get_or cs i 0) (f.found i i-near)
      ∙ sym (get_or-map (number_at cells) cs i 0 0 i-near))

  there : (x : Source) (c : ℕ)
      → IsSource (reads_of p.graph k) (writes_of p.graph k) (length done) x c
      → IsThere (length reads) (length written) x
  there (Read i) c h = let l = h.0 in omega arith
  there (Written i) c h = let l = h.0 in let w = amid.wide in omega arith

  pub all_there : AreThere (length reads) (length written) (sources_of sources at)
  all_there i lt = let f = found in let l = f.each in
      there (source_at (sources_of sources at) i) (get_or (reads_at p.steps at) i 0)
      (f.found i (omega arith))

module _ (p : Plan) (ok : IsPlan p) (fuel k : ℕ) (reads : List ℕ)
    (near : k < length p.strands) where
  pub begins : IsRunning p fuel k reads (strand_at p.strands k).first []
  begins =
      let s = strand_at p.strands k in let z : s.first + 0 ≡ s.first = omega arith in
      let none : slice_range p.steps s.first s.first ≡ [] =
      ap (λ n. slice_range p.steps s.first n) (sym z) ∙ range_none p.steps s.first in
      let start = with_values no_values (reads_of p.graph k) reads in
      let P : List Step → Type 0 =
      λ l. strand_end p fuel k reads ≡ after_values []
      (run_steps p.procs fuel s.first (part p.steps s) (with_values start (writes_in l) [])) in
      record {
        from = omega arith;
        wide = sym (ap (λ (l : List Step). length (writes_in l)) none);
        same = subst P (sym none)
            (sym (after_none (run_steps p.procs fuel s.first (part p.steps s) start)));
      }

  module _ (at : ℕ) (written : List ℕ) (run : IsRunning p fuel k reads at written) where
    pub ends : (strand_at p.strands k).first + (strand_at p.strands k).count ≤ at
        → at ≤ (strand_at p.strands k).first + (strand_at p.strands k).count
        → strand_end p fuel k reads ≡ Ran written
    ends ge le =
        let s = strand_at p.strands k in let end : ℕ = s.first + s.count in
        let z : end - at ≡ 0 = omega arith in
        let none : slice_range p.steps at end ≡ [] = ap (λ n. take n (drop at p.steps)) z in
        run.same
        ∙ ap (λ (l : List Step). after_values written
        (run_steps p.procs fuel at l (strand_cells p k reads at written))) none
        ∙ ap Ran (append-nil written)

    module _ (less : at < (strand_at p.strands k).first + (strand_at p.strands k).count) where
      pub amid : IsAmid p k at written
      amid = record { from = run.from; to = less; wide = run.wide }

      abbrev step : Step
      step = step_at p.steps at

      abbrev now : Cells
      now = strand_cells p k reads at written

      abbrev rest : List Step
      rest = slice_range p.steps (at + 1)
          ((strand_at p.strands k).first + (strand_at p.strands k).count)

      -- the run from the step on, by how its code ends
      abbrev goes_by : Outcome → End
      goes_by q = after_values written (end_of q
          (λ ys. after_values (fitted step.writes ys)
          (run_steps p.procs fuel (at + 1) rest
          (with_values now step.writes (fitted step.writes ys))))
          (λ stop. StopsAt at stop []))

      by_step : strand_end p fuel k reads
          ≡ goes_by (step_outcome p at (numbers_at now (reads_at p.steps at)) fuel)
      by_step =
          let end : ℕ = (strand_at p.strands k).first + (strand_at p.strands k).count in
          run.same ∙ ap
          (λ (ss : List Step). after_values written (run_steps p.procs fuel at ss now))
          (range_next p.steps at end less (strand_ends p ok k near))

      pub goes_on : (ys : List ℕ)
          → step_outcome p at (numbers_at now (reads_at p.steps at)) fuel ≡ Wrote ys
          → length ys ≡ length (writes_at p.steps at)
          → IsRunning p fuel k reads (at + 1) (written ++ ys)
      goes_on ys o l =
          let start = with_values no_values (reads_of p.graph k) reads in
          let done = written_before p k at in
          let e = strand_ends p ok k near in
          let next = writes_more p.steps (strand_at p.strands k).first at run.from (omega arith) in
          let w = run.wide in
          let go : Cells → End = λ d. run_steps p.procs fuel (at + 1) rest d in record {
            from = (let f = run.from in omega arith);
            wide = (let a = length-append written ys in let b = length-append done step.writes in
                let d = ap length next in omega arith);
            same = by_step ∙ ap goes_by o
                ∙ ap (λ (zs : List ℕ). after_values written
                (after_values zs (go (with_values now step.writes zs))))
                (fitted_same step.writes ys l)
                ∙ after-append written ys (go (with_values now step.writes ys))
                ∙ ap (λ (d : Cells). after_values (written ++ ys) (go d))
                (sym (with_values-append start done step.writes written ys (sym w)))
                ∙ ap (λ (cs : List ℕ). after_values (written ++ ys)
                (go (with_values start cs (written ++ ys)))) (sym next);
          }

      pub stops_at : (stop : Stop)
          → step_outcome p at (numbers_at now (reads_at p.steps at)) fuel ≡ Stopped stop
          → strand_end p fuel k reads ≡ StopsAt at stop written
      stops_at stop o = by_step ∙ ap goes_by o ∙ ap (StopsAt at stop) (append-nil written)
