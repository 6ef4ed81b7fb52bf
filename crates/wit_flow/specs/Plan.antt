-- Steps that are cut into strands, with the graph of these
use Rattle.std.specs.Prelude.{◌≡◌, ℕ, ◌<◌, List, length}
use Rattle.wit_code.specs.declared.code.Proc.{Proc}
use Rattle.wit_code.specs.declared.code.Step.{Step}
use Rattle.flow_core.specs.Net.{Net, IsNet, reads_of, writes_of}
use Rattle.wit_flow.specs.declared.flow.Strand.{Strand}
use Rattle.wit_flow.specs.Cut.{CanCut, strand_at, Follow, Draws, IsByRule}

pub record Plan : Type 0 where
  pub strands : List Strand
  pub steps : List Step
  pub procs : List Proc
  pub starts : List ℕ
  pub graph : Net

abbrev pub plan : List Strand → List Step → List Proc → List ℕ → Net → Plan
plan strands steps procs starts graph =
    record { strands = strands; steps = steps; procs = procs; starts = starts; graph = graph }

-- the steps can be cut, the strands are consecutive and hold them all, and the graph is the
-- strands'
pub record IsPlan (p : Plan) : Type 0 where
  pub can_cut : CanCut p.steps p.procs p.graph.cells p.starts
  pub net : IsNet p.graph
  pub strands_each : length p.strands ≡ p.graph.strands
  pub follow : Follow p.strands 0 (length p.steps)
  pub draws : (k : ℕ) → k < length p.strands
      → Draws p.steps (strand_at p.strands k) (reads_of p.graph k) (writes_of p.graph k)

-- every strand is cut by the rule
abbrev pub AreByRule : Plan → Type 0
AreByRule p = (k : ℕ) → k < length p.strands → IsByRule p.steps (strand_at p.strands k)
