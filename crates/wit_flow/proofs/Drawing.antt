-- The reads and writes of what `cut` drafts are those of a graph
use Rattle.std.proofs.Common.{◌≡◌, ℕ, ◌+◌, ◌-◌, ◌<◌, ◌≤◌, List, [], length, sym, ◌∙◌, ap}
use Rattle.std.proofs.Common.{subst, inl, inr, arith}
use Rattle.std.proofs.Common.{drop}
use Rattle.std.proofs.lemmas.Bool.{cases_eq, cases_lt}
use Rattle.std.proofs.lemmas.List.{get_or_past}
use Rattle.wit_code.specs.declared.code.Proc.{Proc}
use Rattle.wit_code.specs.declared.code.Step.{Step}
use Rattle.flow_core.specs.Counts.{times, IsIn}
use Rattle.flow_core.specs.Drawn.{row, IsDrawn}
use Rattle.flow_core.proofs.Nets.{in_range}
use Rattle.wit_flow.specs.declared.drafting.Draft.{Draft}
use Rattle.wit_flow.specs.declared.flow.Strand.{Strand}
use Rattle.wit_flow.specs.Run.{reads_at, writes_at}
use Rattle.wit_flow.specs.Cut.{CanCut, strand_at}
use Rattle.wit_flow.specs.Draft.{HasCome}
use Rattle.wit_flow.proofs.Spans.{part_reads, part_writes, in_order, writes_once_in, take_writes}
use Rattle.wit_flow.proofs.Spans.{drop_writes}

module _ (steps : List Step) (procs : List Proc) (cells : ℕ) (starts : List ℕ) (d : Draft)
    (can : CanCut steps procs cells starts) (come : HasCome steps cells (length steps) d)
    (none : d.count ≡ 0) where
  abbrev at : ℕ → Strand
  at k = strand_at d.strands k

  -- a strand's lists name what its steps name
  reads : (k c : ℕ) → IsIn c (row d.reads k) → (k < length d.strands)
      × ((j : ℕ) × ((at k).first ≤ j) × (j < (at k).first + (at k).count)
      × IsIn c (reads_at steps j))
  reads k c h =
      let e = come.draft.reads_each in let r = in_range d.reads k c h in
      let lt : k < length d.strands = omega arith in
      (lt, part_reads steps (at k) c ((come.draft.closed k lt).reads_read c h))

  writes : (k c : ℕ) → IsIn c (row d.writes k) → (k < length d.strands)
      × ((j : ℕ) × ((at k).first ≤ j) × (j < (at k).first + (at k).count)
      × IsIn c (writes_at steps j))
  writes k c h =
      let e = come.draft.writes_each in let r = in_range d.writes k c h in
      let lt : k < length d.strands = omega arith in (
        lt,
        part_writes steps (at k) c
            (subst (IsIn c) (come.draft.closed k lt).writes_all h),
      )

  reads_once : (k c : ℕ) → times c (row d.reads k) ≤ 1
  reads_once k c = elim (cases_lt k (length d.reads)) [
    | inl near ↦ (let e = come.draft.reads_each in (come.draft.closed k (omega arith)).reads_once c)
    | inr far ↦ (let z = ap (times c) (get_or_past d.reads k [] far) in omega arith)
  ]

  writes_once : (k c : ℕ) → times c (row d.writes k) ≤ 1
  writes_once k c = elim (cases_lt k (length d.writes)) [
    | inl near ↦ (
        let e = come.draft.writes_each in
        let s = at k in let n : ℕ = s.first + s.count - s.first in
        let all =
        writes_once_in c steps (λ j. can.written_once j c) (λ p q. can.one_writer p q c) in
        let some = drop_writes c s.first steps in let part = take_writes c n (drop s.first steps) in
        let is = ap (times c) (come.draft.closed k (omega arith)).writes_all in omega arith)
    | inr far ↦ (let z = ap (times c) (get_or_past d.writes k [] far) in omega arith)
  ]

  -- a strand with an earlier step is an earlier strand, or the same
  before : (p k i j : ℕ) → p < length d.strands → k < length d.strands → (at p).first ≤ i
      → j < (at k).first + (at k).count → i ≤ j → p ≤ k
  before p k i j near-p near-k from to le =
      in_order d.strands 0 d.first p k i j come.draft.follow near-p near-k from to le

  pub drawn : IsDrawn cells d.reads d.writes
  drawn = record {
    each = come.draft.reads_each ∙ sym come.draft.writes_each;
    narrow = (let few = come.draft.few in let n = come.next in let w = come.draft.writes_each in
        let all = can.few in omega arith);
    reads_once = record {
      near = λ k c h. (let r = (reads k c h).1 in can.reads_near r.0 c r.3);
      once = reads_once;
    };
    writes_once = record {
      near = λ k c h. (let w = (writes k c h).1 in can.writes_near w.0 c w.3);
      once = writes_once;
    };
    one_writer = λ p q c hp hq. (
        let w = writes p c hp in let v = writes q c hq in
        let same = can.one_writer w.1.0 v.1.0 c w.1.3 v.1.3 in
        let a = before p q w.1.0 v.1.0 w.0 v.0 w.1.1 v.1.2 (omega arith) in
        let b = before q p v.1.0 w.1.0 v.0 w.0 v.1.1 w.1.2 (omega arith) in omega arith);
    reads_earlier = λ p k c hp hk. (
        let w = writes p c hp in let r = reads k c hk in
        let lt = can.written_first w.1.0 r.1.0 c w.1.3 r.1.3 in
        let le = before p k w.1.0 r.1.0 w.0 r.0 w.1.1 r.1.2 (omega arith) in
        elim (cases_eq p k) [
          | inr ne ↦ omega arith
          | inl same ↦ absurd ((come.draft.closed k r.0).apart c hk
              (subst (λ (n : ℕ). IsIn c (row d.writes n)) same hp))
        ]);
  }
