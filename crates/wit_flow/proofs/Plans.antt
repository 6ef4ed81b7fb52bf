-- What `cut` builds is a plan
use Rattle.std.proofs.Common.{◌≡◌, ℕ, ◌<◌, List, [], length, get_or, sym, ap, subst, inl, inr}
use Rattle.std.proofs.Common.{arith}
use Rattle.wit_code.specs.declared.code.Proc.{Proc}
use Rattle.wit_code.specs.declared.code.Step.{Step}
use Rattle.flow_core.specs.Counts.{IsIn}
use Rattle.flow_core.specs.Drawn.{row}
use Rattle.flow_core.specs.Net.{Net, IsNet, reads_of, writes_of}
use Rattle.wit_flow.specs.declared.drafting.Draft.{Draft}
use Rattle.wit_flow.specs.Cut.{CanCut, strand_at, Follow}
use Rattle.wit_flow.specs.Plan.{Plan, plan}
use Rattle.wit_flow.specs.Sources.{IsKept}
use Rattle.wit_flow.specs.Draft.{IsStrand, HasCome}

-- a strand of the graph reads nothing that it writes
pub reads_no_own : (n : Net) → IsNet n → (k c : ℕ) → IsIn c (reads_of n k) → IsIn c (writes_of n k)
    → ⊥
reads_no_own n ok k c r w =
    let less = ok.preds_below k k ((ok.preds_feed k k).1 (c, w, r)) in omega arith

-- the graph's lists are the draft's
pub record IsGraphOf (g : Net) (cells : ℕ) (d : Draft) : Type 0 where
  pub cells_same : g.cells ≡ cells
  pub reads_same : g.reads ≡ d.reads
  pub writes_same : g.writes ≡ d.writes

pub kept_plan : (steps : List Step) (procs : List Proc) (cells : ℕ) (starts : List ℕ) (d : Draft)
    (g : Net) → CanCut steps procs cells starts → HasCome steps cells (length steps) d → d.count ≡ 0
    → IsNet g → IsGraphOf g cells d → IsKept (plan d.strands steps procs starts g) d.sources
kept_plan steps procs cells starts d g can come none ok is =
    let r : (k : ℕ) → row d.reads k ≡ reads_of g k =
    λ k. ap (λ x. get_or x k []) (sym is.reads_same) in
    let w : (k : ℕ) → row d.writes k ≡ writes_of g k =
    λ k. ap (λ x. get_or x k []) (sym is.writes_same) in
    let known : (k : ℕ) → k < length d.strands
    → IsStrand steps d.sources (strand_at d.strands k) (reads_of g k) (writes_of g k) =
    λ k lt. let P : List ℕ → Type 0 =
    λ x. IsStrand steps d.sources (strand_at d.strands k) x (row d.writes k) in
    subst (IsStrand steps d.sources (strand_at d.strands k) (reads_of g k)) (w k)
    (subst P (r k) (come.draft.closed k lt)) in
    record {
      plan = record {
        can_cut = subst (λ n. CanCut steps procs n starts) (sym is.cells_same) can;
        net = ok;
        strands_each = (let a = come.draft.reads_each in let b = ok.reads_each in
            let e = ap length is.reads_same in omega arith);
        follow = (let n = come.next in
            let e : d.first ≡ length steps =
            omega arith in subst (Follow d.strands 0) e come.draft.follow);
        draws = λ k lt. (let s = known k lt in record {
          writes_all = s.writes_all;
          reads_others = λ c. (
            (λ here. (s.reads_read c here, reads_no_own g ok k c here)),
            λ both. elim (s.read c both.0) [ inl here ↦ here | inr own ↦ absurd (both.1 own) ],
          );
        });
      };
      by_rule = come.draft.by_rule;
      finds = λ k lt. (known k lt).finds;
      sources_each = (let e = come.draft.sources_each in let n = come.next in omega arith);
    }

-- the same for what `cut` holds
pub kept_flow : (steps : List Step) (procs : List Proc) (cells : ℕ) (starts : List ℕ) (d : Draft)
    (g : Net) (steps' : List Step) (procs' : List Proc) (starts' : List ℕ) → steps' ≡ steps
    → procs' ≡ procs → starts' ≡ starts
    → CanCut steps procs cells starts → HasCome steps cells (length steps) d → d.count ≡ 0 → IsNet g
    → IsGraphOf g cells d → IsKept (plan d.strands steps' procs' starts' g) d.sources
kept_flow steps procs cells starts d g steps' procs' starts' e f h can come none ok is =
    let same : plan d.strands steps procs starts g ≡ plan d.strands steps' procs' starts' g =
    λ i. plan d.strands (sym e i) (sym f i) (sym h i) g in
    subst (λ (p : Plan). IsKept p d.sources) same
    (kept_plan steps procs cells starts d g can come none ok is)
