-- The code of a circuit's steps can be cut into strands.
use Rattle.std.proofs.Common.{Ok, ◌≡◌, ℕ, zero, suc, ◌+◌, ◌<◌, ◌≤◌, ◌⊎◌, inl, inr, List, [], ◌∷◌}
use Rattle.std.proofs.Common.{◌++◌, length, refl, sym, ◌∙◌, ap, subst, arith, cond, Bool, true}
use Rattle.std.proofs.Common.{false, nat_lt}
use Rattle.std.proofs.lemmas.Bool.{ltb-true, lt-ltb}
use Rattle.wit_code.specs.declared.code.Proc.{Proc}
use Rattle.wit_code.specs.declared.code.Step.{Step as CodeStep}
use Rattle.wit_code.specs.Code.{IsWellFormed}
use Rattle.wit_code.specs.Table.{RunsTo}
use Rattle.wit_code.proofs.Ends.{ends_so}
use Rattle.flow_core.specs.Counts.{times, IsIn}
use Rattle.wit_flow.specs.Run.{step_at, reads_at, writes_at, writes_in}
use Rattle.wit_flow.specs.Cut.{CanCut, WritesEach}
use Rattle.wit_flow.proofs.Values.{times-append, in_either, cases_in}
use Rattle.cir_steps.specs.Step.{Step}
use Rattle.cir_steps.specs.RunSteps.{Calling}
use Rattle.cir_ast.specs.Program.{Program}
use Rattle.cir_meaning.specs.Bodies.{most_open}
use Rattle.cir_meaning.specs.Compile.{group_size}
use Rattle.cir_meaning.specs.RunStatements.{run_call}
use Rattle.cir_meaning.specs.Scoped.{IsResolved}
use Rattle.cir_steps.specs.Circuit.{Circuit, circuit_of}
use Rattle.cir_steps.specs.Places.{ArePlacesMeant}
use Rattle.cir_steps.proofs.OnceLaw.{circuit_once}
use Rattle.cir_steps.proofs.ReadLaw.{circuit_behind}
use Rattle.cir_steps.proofs.Resolved.{templates}
use Rattle.cir_steps.proofs.SmallLaw.{circuit_small}
use Rattle.cir_steps.specs.Read.{AreBehind, EachReadBehind}
use Rattle.cir_steps.specs.Written.{targets_of, EachCellOnce}
use Rattle.wit_circuit.specs.Made.{IsMadeOf, AreMadeOf}
use Rattle.wit_circuit.proofs.Lines.{counts, stands, times_same}
use Rattle.wit_circuit.proofs.Following.{writes_same}

-- where cells are written
somewhere : (ms : List CodeStep) (c : ℕ) → IsIn c (writes_in ms)
    → (k : ℕ) × IsIn c (writes_at ms k)
somewhere [] c h = absurd (omega arith)
somewhere (m ∷ ms) c h = elim (in_either c m.writes (writes_in ms) h) [
  | inl here ↦ (0, here)
  | inr later ↦ (let r = somewhere ms c later in (suc r.0, r.1))
]

times_at : (ms : List CodeStep) (k c : ℕ) → times c (writes_at ms k) ≤ times c (writes_in ms)
times_at [] k c = omega arith
times_at (m ∷ ms) zero c = let sum = times-append c m.writes (writes_in ms) in omega arith
times_at (m ∷ ms) (suc k) c =
    let sum = times-append c m.writes (writes_in ms) in let rest = times_at ms k c in omega arith

one_writer : (ms : List CodeStep) (c : ℕ) → times c (writes_in ms) ≤ 1 → (p q : ℕ)
    → IsIn c (writes_at ms p) → IsIn c (writes_at ms q) → p ≡ q
one_writer [] c once p q h g = absurd (omega arith)
one_writer (m ∷ ms) c once zero zero h g = refl
one_writer (m ∷ ms) c once zero (suc q) h g =
    let sum = times-append c m.writes (writes_in ms) in let rest = times_at ms q c in
    absurd (omega arith)
one_writer (m ∷ ms) c once (suc p) zero h g =
    let sum = times-append c m.writes (writes_in ms) in let rest = times_at ms p c in
    absurd (omega arith)
one_writer (m ∷ ms) c once (suc p) (suc q) h g =
    let sum = times-append c m.writes (writes_in ms) in
    ap suc (one_writer ms c (omega arith) p q h g)

module _ (call : Calling) (procs : List Proc) where
  -- what is read was there before or is written by a step before
  read_from : (ss : List Step) (ms : List CodeStep) (known : List ℕ)
      → AreMadeOf call procs ss ms → AreBehind known ss → (k c : ℕ) → IsIn c (reads_at ms k)
      → IsIn c known ⊎ ((j : ℕ) × (j < k) × IsIn c (writes_at ms j))
  read_from [] [] known made behind k c h = absurd (omega arith)
  read_from [] (m ∷ ms) known made behind k c h = absurd made
  read_from (s ∷ ss) [] known made behind k c h = absurd made
  read_from (s ∷ ss) (m ∷ ms) known made behind zero c h =
      inl (stands c known (behind.0 c (counts c s.reads (made.0.reads c h))))
  read_from (s ∷ ss) (m ∷ ms) known made behind (suc k) c h =
      elim (read_from ss ms (known ++ s.targets) made.1 behind.1 k c h) [
        | inl old ↦ elim (in_either c known s.targets old) [
          | inl before ↦ inl before
          | inr first ↦
              inr (0, omega arith, subst (λ cs. IsIn c cs) (sym made.0.writes) first)
        ]
        | inr later ↦ inr (suc later.0, omega arith, later.2)
      ]

  made_at : (ss : List Step) (ms : List CodeStep) → AreMadeOf call procs ss ms → (k : ℕ)
      → k < length ms → (s : Step) × IsMadeOf call procs s (step_at ms k)
  made_at [] [] made k h = absurd (omega arith)
  made_at [] (m ∷ ms) made k h = absurd made
  made_at (s ∷ ss) [] made k h = absurd made
  made_at (s ∷ ss) (m ∷ ms) made zero h = (s, made.0)
  made_at (s ∷ ss) (m ∷ ms) made (suc k) h = made_at ss ms made.1 k (omega arith)

  as_many : (ss : List Step) (ms : List CodeStep) → AreMadeOf call procs ss ms
      → length ms ≡ length ss
  as_many [] [] made = refl
  as_many [] (m ∷ ms) made = absurd made
  as_many (s ∷ ss) [] made = absurd made
  as_many (s ∷ ss) (m ∷ ms) made = ap suc (as_many ss ms made.1)

  each : (s : Step) (m : CodeStep) → IsMadeOf call procs s m → WritesEach procs m
  each s m made xs ys fuel e below few is =
      made.counted xs ys fuel
      (subst (RunsTo procs m.code xs fuel) is
      (ends_so procs m.code xs fuel (subst (λ k. IsWellFormed procs k m.code) (sym e) made.formed)))
      ∙ ap length (sym made.writes)

nothing : (n : ℕ) → (0 < n → ⊥) → n ≡ 0
nothing zero out = refl
nothing (suc n) out = absurd (out (omega arith))

-- each cell is a start cell or a target, once
module _ (call : Calling) (procs : List Proc) (b : Circuit) (ms : List CodeStep)
    (made : AreMadeOf call procs b.steps ms) (once : EachCellOnce b) where
  writes : writes_in ms ≡ targets_of b.steps
  writes = writes_same call procs b.steps ms made

  share : (c : ℕ) → times c b.starts + times c (writes_in ms) ≡ cond (nat_lt c b.cells) 1 0
  share c =
      sym (times-append c b.starts (writes_in ms))
      ∙ ap (λ cs. times c (b.starts ++ cs)) writes
      ∙ sym (times_same c (b.starts ++ targets_of b.steps)) ∙ once c

  most : (x : Bool) → cond x 1 0 ≤ 1
  most true = omega arith
  most false = omega arith

  inside : (x : Bool) → 1 ≤ cond x 1 0 → x ≡ true
  inside true h = refl
  inside false h = absurd (omega arith)

  near : (c : ℕ) → 1 ≤ times c b.starts + times c (writes_in ms) → c < b.cells
  near c h =
      ltb-true c b.cells (inside (nat_lt c b.cells) (subst (λ n. 1 ≤ n) (share c) h))

  few : (c : ℕ) → times c b.starts + times c (writes_in ms) ≤ 1
  few c = let e = share c in let m = most (nat_lt c b.cells) in omega arith

  full : (c : ℕ) → c < b.cells → times c b.starts + times c (writes_in ms) ≡ 1
  full c h = share c ∙ ap (λ (x : Bool). cond x 1 0) (lt-ltb c b.cells h)

  found : (c : ℕ) → c < b.cells → IsIn c b.starts ⊎ (IsIn c b.starts → ⊥)
      → IsIn c b.starts ⊎ ((k : ℕ) × IsIn c (writes_at ms k))
  found c h (inl start) = inl start
  found c h (inr out) =
      let sum = full c h in let none = nothing (times c b.starts) out in
      inr (somewhere ms c (omega arith))

  pub can_cut : length b.steps < 4294967296 → EachReadBehind b
      → CanCut ms procs b.cells b.starts
  can_cut short behind = record {
    few = subst (λ n. n < 4294967296) (sym (as_many call procs b.steps ms made)) short;
    starts_near = λ c h. near c (omega arith);
    reads_near = λ k c h. elim (read_from call procs b.steps ms b.starts made behind k c h) [
      | inl start ↦ near c (omega arith)
      | inr (j, less, there) ↦ (let l = times_at ms j c in near c (omega arith))
    ];
    writes_near = λ k c h. let l = times_at ms k c in near c (omega arith);
    starts_once = λ c. let f = few c in omega arith;
    starts_unwritten = λ k c h g.
        let l = times_at ms k c in let f = few c in absurd (omega arith);
    written = λ c h. found c h (cases_in c b.starts);
    written_once = λ k c. let l = times_at ms k c in let f = few c in omega arith;
    one_writer = λ p q c h g. let f = few c in one_writer ms c (omega arith) p q h g;
    written_first = λ p k c h g.
        elim (read_from call procs b.steps ms b.starts made behind k c g) [
          | inl start ↦
              (let l = times_at ms p c in let f = few c in absurd (omega arith))
          | inr (j, less, there) ↦
              (let f = few c in let same = one_writer ms c (omega arith) p j h there in
              omega arith)
        ];
    well_formed = λ k h. (made_at call procs b.steps ms made k h).1.formed;
    writes_each = λ k h.
        let at = made_at call procs b.steps ms made k h in
        each call procs at.0 (step_at ms k) at.1;
  }

-- of a program that compiles
pub circuits_cut : (p : Program) (procs : List Proc) (b : Circuit) (ms : List CodeStep)
    → IsResolved p → ArePlacesMeant p → circuit_of p ≡ Ok b
    → AreMadeOf (run_call p most_open) procs b.steps ms → CanCut ms procs b.cells b.starts
circuits_cut p procs b ms resolved places is made =
    let small = (circuit_small group_size p (templates p resolved) b is).1 in
    can_cut (run_call p most_open) procs b ms made
    (circuit_once group_size p (templates p resolved) b is) (omega (arith, small))
    (circuit_behind p resolved places b is)
