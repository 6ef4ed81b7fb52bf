-- The run of all steps, strand by strand
use Rattle.std.proofs.Common.{◌≡◌, ◌≢◌, ℕ, zero, suc, ◌+◌, ◌-◌, ◌<◌, ◌≤◌, ◌⊎◌, cond, Bool, List, []}
use Rattle.std.proofs.Common.{◌∷◌, ◌++◌, length, drop, refl, sym, ◌∙◌, ap, subst, inl, inr, arith}
use Rattle.std.proofs.lemmas.List.Folds.{drop_split}
use Rattle.std.proofs.lemmas.Bool.{cases_lt}
use Rattle.wit_code.specs.declared.code.Step.{Step}
use Rattle.flow_core.specs.Counts.{IsIn}
use Rattle.flow_core.specs.Net.{reads_of, writes_of}
use Rattle.flow_core.specs.Flow.{Unreached, Refuses, Gives}
use Rattle.wit_flow.specs.declared.flow.Strand.{Strand}
use Rattle.wit_flow.specs.Cells.{Cells, no_values, with_values, numbers_at}
use Rattle.wit_flow.specs.Run.{reads_at, writes_at, writes_in, End, Ran}
use Rattle.wit_flow.specs.Run.{StopsAt, run_steps}
use Rattle.wit_flow.specs.Cut.{strand_at, part, Follow}
use Rattle.wit_flow.specs.Plan.{Plan, IsPlan}
use Rattle.wit_flow.specs.Answers.{start_cells, strand_end, answer_end, answer_on, with_answer}
use Rattle.wit_flow.specs.Answers.{cells_before, answer_at}
use Rattle.wit_flow.specs.OneThread.{Ended, Halted, ending, one_thread}
use Rattle.wit_flow.proofs.Values.{HasOne, with_values_few, with_values_has, with_values_keep}
use Rattle.wit_flow.proofs.Values.{with_numbers, have_all}
use Rattle.wit_flow.proofs.Runs.{Needs, Fills, run_fills, same_run, run-append, then_end}
use Rattle.wit_flow.proofs.Runs.{ending_after, steps_end}
use Rattle.wit_flow.proofs.Spans.{read_in, wrote_in, writes_of_one, reads_of_one, part_at}
use Rattle.wit_flow.proofs.Spans.{length-part}
use Rattle.wit_flow.proofs.Spans.{strand_within, writes-append}

-- the number of the first step of the strand k, where strands follow one another from the step n on
pub edge : List Strand → ℕ → ℕ → ℕ
edge [] n k = n
edge (s ∷ ss) n zero = n
edge (s ∷ ss) n (suc k) = edge ss (n + s.count) k

edge_zero : (ss : List Strand) (n : ℕ) → edge ss n zero ≡ n
unfolding edge
edge_zero [] n = refl
edge_zero (s ∷ ss) n = refl

edge_first : (ss : List Strand) (n end k : ℕ) → Follow ss n end → k < length ss
    → (strand_at ss k).first ≡ edge ss n k
unfolding edge
edge_first [] n end k h lt = absurd (omega arith)
edge_first (s ∷ ss) n end zero h lt = h.0
edge_first (s ∷ ss) n end (suc k) h lt = edge_first ss (n + s.count) end k h.2 (omega arith)

edge_next : (ss : List Strand) (n end k : ℕ) → Follow ss n end → k < length ss
    → edge ss n (suc k) ≡ edge ss n k + (strand_at ss k).count
unfolding edge
edge_next [] n end k h lt = absurd (omega arith)
edge_next (s ∷ ss) n end zero h lt = edge_zero ss (n + s.count)
edge_next (s ∷ ss) n end (suc k) h lt = edge_next ss (n + s.count) end k h.2 (omega arith)

pub edge_end : (ss : List Strand) (n end : ℕ) → Follow ss n end → edge ss n (length ss) ≡ end
unfolding edge
edge_end [] n end h = h
edge_end (s ∷ ss) n end h = edge_end ss (n + s.count) end h.2

-- a cell that steps need is read by one, and written by none before it
needed : (ss : List Step) (c : ℕ) → Needs c ss → (q : ℕ) × (q < length ss) × IsIn c (reads_at ss q)
    × ((j : ℕ) → j < q → IsIn c (writes_at ss j) → ⊥)
needed [] c h = absurd h
needed (s ∷ ss) c h = elim h [
  | inl here ↦ (0, omega arith, here, λ j lt w. absurd (omega arith))
  | inr later ↦
      (let r = needed ss c later.1
      in (suc r.0, (let l = r.1 in omega arith), r.2, before c s ss r.0 later.0 r.3))
]
  where
    before : (c : ℕ) (s : Step) (ss : List Step) (q : ℕ) → (IsIn c s.writes → ⊥)
        → ((j : ℕ) → j < q → IsIn c (writes_at ss j) → ⊥) → (j : ℕ) → j < suc q
        → IsIn c (writes_at (s ∷ ss) j) → ⊥
    before c s ss q first rest zero lt w = first w
    before c s ss q first rest (suc j) lt w = rest j (omega arith) w

-- what an end leaves
gives_of : (e : End) → answer_end e ≢ Refuses → (vs : List ℕ) × (e ≡ Ran vs)
gives_of (Ran vs) h = (vs, refl)
gives_of (StopsAt n stop vs) h = absurd (h refl)

fills_ran : (n : ℕ) (e : End) (vs : List ℕ) → Fills n e → e ≡ Ran vs → length vs ≡ n
fills_ran n e vs h is = subst (Fills n) is h

-- a run that stops, followed by others
stopped : (a : Cells) (cs ds : List ℕ) (e : End) (go : List ℕ → End) → Fills (length cs) e
    → answer_end e ≡ Refuses → ending a (cs ++ ds) (then_end e go) ≡ ending a cs e
stopped a cs ds (Ran vs) go h is = absurd (given vs is)
  where
    given : (vs : List ℕ) → Gives vs ≡ Refuses → ⊥
    given vs e = cc
stopped a cs ds (StopsAt n stop vs) go h is = ap (Halted n stop) (with_values_few a cs ds vs h)

module _ (p : Plan) (ok : IsPlan p) (fuel : ℕ) (k : ℕ) (near : k < length p.strands) where
  abbrev s : Strand
  s = strand_at p.strands k

  ends_in : s.first + s.count ≤ length p.steps
  ends_in = (strand_within p.strands 0 (length p.steps) k ok.follow near).1

  -- a cell that the strand's steps need is one that the strand reads
  needs_read : (c : ℕ) → Needs c (part p.steps s) → IsIn c (reads_of p.graph k)
  needs_read c h =
      let d = ok.draws k near in let r = needed (part p.steps s) c h in
      let l = length-part p.steps s ends_in in let lt = r.1 in
      let at : IsIn c (reads_at p.steps (s.first + r.0)) =
      subst (λ (x : Step). IsIn c x.reads) (part_at p.steps s r.0 (omega arith)) r.2 in
      (d.reads_others c).1 (
        reads_of_one (part p.steps s) r.0 c r.2,
        λ own.
            let w = wrote_in (part p.steps s) c (subst (IsIn c) d.writes_all own) in
            let lt' = w.1 in
            let by : IsIn c (writes_at p.steps (s.first + w.0)) =
            subst (λ (x : Step). IsIn c x.writes) (part_at p.steps s w.0 (omega arith)) w.2 in
            let before = ok.can_cut.written_first (s.first + w.0) (s.first + r.0) c by at in
            r.3 w.0 (omega arith) w.2,
      )

  -- on cells that have what it reads the strand's steps run as they do on these values alone
  pub runs_alone : (a : Cells) → ((c : ℕ) → IsIn c (reads_of p.graph k) → HasOne a c)
      → run_steps p.procs fuel s.first (part p.steps s) a
      ≡ strand_end p fuel k (numbers_at a (reads_of p.graph k))
  runs_alone a all =
      same_run p.procs fuel s.first (part p.steps s) a
      (with_values no_values (reads_of p.graph k) (numbers_at a (reads_of p.graph k)))
      (λ c h. sym (with_numbers no_values a (reads_of p.graph k) c all (needs_read c h)))

  pub strand_fills : (a : Cells) → ((c : ℕ) → IsIn c (reads_of p.graph k) → HasOne a c)
      → Fills (length (writes_of p.graph k))
      (strand_end p fuel k (numbers_at a (reads_of p.graph k)))
  strand_fills a all =
      let F : ℕ → Type 0 = λ n. Fills n (strand_end p fuel k (numbers_at a (reads_of p.graph k))) in
      subst F (ap length (sym (ok.draws k near).writes_all))
      (subst (Fills (length (writes_in (part p.steps s)))) (runs_alone a all)
      (run_fills p.procs fuel s.first (part p.steps s) a))

  pub answers_alone : (a : Cells) → ((c : ℕ) → IsIn c (reads_of p.graph k) → HasOne a c)
      → answer_on p fuel k a ≡ answer_end (strand_end p fuel k (numbers_at a (reads_of p.graph k)))
  answers_alone a all =
      ap (λ (b : Bool). cond b
      (answer_end (strand_end p fuel k (numbers_at a (reads_of p.graph k)))) Unreached)
      (have_all a (reads_of p.graph k) all)

  -- the steps from the strand's first on: the strand's, and the others
  split_run : (a : Cells) → ((c : ℕ) → IsIn c (reads_of p.graph k) → HasOne a c)
      → ending a (writes_in (drop s.first p.steps))
      (run_steps p.procs fuel s.first (drop s.first p.steps) a)
      ≡ ending a (writes_of p.graph k ++ writes_in (drop (s.first + s.count) p.steps))
      (then_end (strand_end p fuel k (numbers_at a (reads_of p.graph k)))
      (λ vs. run_steps p.procs fuel (s.first + s.count) (drop (s.first + s.count) p.steps)
      (with_values a (writes_of p.graph k) vs)))
  split_run a all =
      let rest = drop (s.first + s.count) p.steps in let seg = part p.steps s in
      let d = drop_split p.steps s.first (s.first + s.count) (omega arith) in
      let n : s.first + length seg ≡ s.first + s.count =
      ap (λ m. s.first + m) (length-part p.steps s ends_in) in
      let w : writes_in seg ≡ writes_of p.graph k = sym (ok.draws k near).writes_all in
      ap (λ (l : List Step). ending a (writes_in l) (run_steps p.procs fuel s.first l a)) d
      ∙ ap (λ (cs : List ℕ). ending a cs (run_steps p.procs fuel s.first (seg ++ rest) a))
      (writes-append seg rest)
      ∙ ap (ending a (writes_in seg ++ writes_in rest)) (run-append p.procs fuel s.first seg rest a)
      ∙ (λ i. ending a (w i ++ writes_in rest)
      (then_end (runs_alone a all i)
      (λ vs. run_steps p.procs fuel (n i) rest (with_values a (w i) vs))))

module _ (p : Plan) (ok : IsPlan p) (start : List ℕ) (fuel : ℕ)
    (each : length start ≡ length p.starts) where
  abbrev pub before : ℕ → Cells
  before k = cells_before p fuel (start_cells p start) k

  abbrev pub at_edge : ℕ → ℕ
  at_edge k = edge p.strands 0 k

  -- start cells and what earlier strands write have values
  abbrev pub Filled : ℕ → Type 0
  Filled k = (c : ℕ) → IsIn c p.starts ⊎ ((j : ℕ) × (j < at_edge k) × IsIn c (writes_at p.steps j))
      → HasOne (before k) c

  -- so has what the strand reads
  pub reads_filled : (k : ℕ) → k < length p.strands → Filled k → (c : ℕ)
      → IsIn c (reads_of p.graph k) → HasOne (before k) c
  reads_filled k near filled c here =
      let s = strand_at p.strands k in let d = ok.draws k near in
      let both = (d.reads_others c).0 here in
      let le = (strand_within p.strands 0 (length p.steps) k ok.follow near).1 in
      let l = length-part p.steps s le in
      let first = edge_first p.strands 0 (length p.steps) k ok.follow near in
      let r = read_in (part p.steps s) c both.0 in let lt = r.1 in
      let at : IsIn c (reads_at p.steps (s.first + r.0)) =
      subst (λ (x : Step). IsIn c x.reads) (part_at p.steps s r.0 (omega arith)) r.2 in
      elim (ok.can_cut.written c (ok.can_cut.reads_near (s.first + r.0) c at)) [
        | inl begun ↦ filled c (inl begun)
        | inr by ↦
            (let less = ok.can_cut.written_first by.0 (s.first + r.0) c by.1 at
            in elim (cases_lt by.0 s.first) [
              | inl early ↦ filled c (inr (by.0, (omega arith), by.1))
              | inr late ↦ (
                  let j : ℕ = by.0 - s.first in let n : s.first + j ≡ by.0 = omega arith in
                  let W : ℕ → Type 0 = λ m. IsIn c (writes_at p.steps m) in
                  let own : IsIn c (writes_at (part p.steps s) j) =
                  subst (λ (x : Step). IsIn c x.writes) (sym (part_at p.steps s j (omega arith)))
                  (subst W (sym n) by.1) in
                  absurd (both.1
                  (subst (IsIn c) (sym d.writes_all) (writes_of_one (part p.steps s) j c own))))
            ])
      ]

  -- after a strand that gives values more cells are filled
  fills_next : (k : ℕ) (vs : List ℕ) → k < length p.strands → Filled k
      → before (suc k) ≡ with_values (before k) (writes_of p.graph k) vs
      → length vs ≡ length (writes_of p.graph k) → Filled (suc k)
  fills_next k vs near filled is wide c h =
      let s = strand_at p.strands k in
      let first = edge_first p.strands 0 (length p.steps) k ok.follow near in
      let next = edge_next p.strands 0 (length p.steps) k ok.follow near in
      let B = with_values (before k) (writes_of p.graph k) vs in
      let kept : HasOne (before k) c → HasOne B c =
      λ o. with_values_keep (before k) (writes_of p.graph k) vs c o in
      subst (λ (a : Cells). HasOne a c) (sym is) (elim h [
        | inl begun ↦ kept (filled c (inl begun))
        | inr by ↦ elim (cases_lt by.0 s.first) [
          | inl early ↦ kept (filled c (inr (by.0, omega arith, by.2)))
          | inr late ↦ (
              let lt = by.1 in let j : ℕ = by.0 - s.first in
              let n : s.first + j ≡ by.0 = omega arith in
              let W : ℕ → Type 0 = λ m. IsIn c (writes_at p.steps m) in
              let own : IsIn c (writes_at (part p.steps s) j) =
              subst (λ (x : Step). IsIn c x.writes) (sym (part_at p.steps s j (omega arith)))
              (subst W (sym n) by.2) in
              let mine =
              subst (IsIn c) (sym (ok.draws k near).writes_all)
              (writes_of_one (part p.steps s) j c own) in
              with_values_has (before k) (writes_of p.graph k) vs c (sym wide) mine)
        ]
      ])

  -- how far the run has come once the strands below k gave values
  pub record Come (k : ℕ) : Type 0 where
    pub filled : Filled k
    pub same : one_thread p start fuel
        ≡ ending (before k) (writes_in (drop (at_edge k) p.steps))
        (run_steps p.procs fuel (at_edge k) (drop (at_edge k) p.steps) (before k))

  comes_zero : Come zero
  comes_zero =
      let z : at_edge 0 ≡ 0 = edge_zero p.strands 0 in let a = start_cells p start in
      let P : ℕ → Type 0 = λ n. one_thread p start fuel
      ≡ ending a (writes_in (drop n p.steps)) (run_steps p.procs fuel n (drop n p.steps) a) in
      record {
        filled = λ c h. elim h [
          | inl begun ↦ with_values_has no_values p.starts start c (sym each) begun
          | inr by ↦ (let lt = by.1 in absurd (omega arith))
        ];
        same = subst P (sym z) refl;
      }

  comes_next : (k : ℕ) → k < length p.strands → Come k → answer_at p start fuel k ≢ Refuses
      → Come (suc k)
  comes_next k near h given =
      let s = strand_at p.strands k in let a = before k in let R = reads_of p.graph k in
      let W = writes_of p.graph k in
      let all = reads_filled k near h.filled in
      let e = strand_end p fuel k (numbers_at a R) in
      let alone = answers_alone p ok fuel k near a all in
      let v = gives_of e (λ q. given (alone ∙ q)) in let vs = v.0 in
      let wide = fills_ran (length W) e vs (strand_fills p ok fuel k near a all) v.1 in
      let is : before (suc k) ≡ with_values a W vs =
      ap (with_answer a W) (alone ∙ ap answer_end v.1) in
      let first = edge_first p.strands 0 (length p.steps) k ok.follow near in
      let next = edge_next p.strands 0 (length p.steps) k ok.follow near in
      let n : s.first + s.count ≡ at_edge (suc k) = omega arith in
      let rest : ℕ → List Step = λ m. drop m p.steps in
      let P : ℕ → Type 0 = λ m. one_thread p start fuel
      ≡ ending a (writes_in (rest m)) (run_steps p.procs fuel m (rest m) a) in
      let go : List ℕ
      → End = λ xs. run_steps p.procs fuel (s.first + s.count) (rest (s.first + s.count))
      (with_values a W xs) in
      let Q : ℕ → Type 0 = λ m. one_thread p start fuel
      ≡ ending (before (suc k)) (writes_in (rest m))
      (run_steps p.procs fuel m (rest m) (before (suc k))) in
      record {
        filled = fills_next k vs near h.filled is wide;
        same = subst Q n (subst P (sym first) h.same ∙ split_run p ok fuel k near a all
            ∙ ap (λ (x : End). ending a (W ++ writes_in (rest (s.first + s.count))) (then_end x go))
            v.1
            ∙ ending_after a W (writes_in (rest (s.first + s.count))) vs (go vs) (sym wide)
            ∙ ap (λ (b : Cells). ending b (writes_in (rest (s.first + s.count)))
            (run_steps p.procs fuel (s.first + s.count) (rest (s.first + s.count)) b))
            (sym is));
      }

  pub comes : (k : ℕ) → k ≤ length p.strands
      → ((j : ℕ) → j < k → answer_at p start fuel j ≢ Refuses) → Come k
  comes zero le h = comes_zero
  comes (suc k) le h =
      comes_next k (omega arith) (comes k (omega arith) (λ j lt. h j (omega arith)))
      (h k (omega arith))

  -- no strand refuses: all steps run
  pub all_run : ((k : ℕ) → k < length p.strands → answer_at p start fuel k ≢ Refuses)
      → one_thread p start fuel ≡ Ended (before (length p.strands))
  all_run h =
      let n = length p.strands in let come = comes n (omega arith) (λ j lt. h j lt) in
      let e : at_edge n ≡ length p.steps = edge_end p.strands 0 (length p.steps) ok.follow in
      come.same ∙ steps_end p.procs fuel (at_edge n) p.steps (before n) (omega arith)

  -- the first strand that refuses is the one whose step stops
  pub first_stops : (k : ℕ) → k < length p.strands → answer_at p start fuel k ≡ Refuses
      → ((j : ℕ) → j < k → answer_at p start fuel j ≢ Refuses)
      → one_thread p start fuel
      ≡ ending (before k) (writes_of p.graph k)
      (strand_end p fuel k (numbers_at (before k) (reads_of p.graph k)))
  first_stops k near refuses h =
      let s = strand_at p.strands k in let a = before k in let W = writes_of p.graph k in
      let come = comes k (omega arith) h in let all = reads_filled k near come.filled in
      let alone = answers_alone p ok fuel k near a all in
      let first = edge_first p.strands 0 (length p.steps) k ok.follow near in
      let P : ℕ → Type 0 = λ m. one_thread p start fuel
      ≡ ending a (writes_in (drop m p.steps)) (run_steps p.procs fuel m (drop m p.steps) a) in
      subst P (sym first) come.same ∙ split_run p ok fuel k near a all
      ∙ stopped a W (writes_in (drop (s.first + s.count) p.steps))
      (strand_end p fuel k (numbers_at a (reads_of p.graph k)))
      (λ vs. run_steps p.procs fuel (s.first + s.count) (drop (s.first + s.count) p.steps)
      (with_values a W vs)) (strand_fills p ok fuel k near a all) (sym alone ∙ refuses)
