-- Where a step of a strand finds the numbers that it reads
use Rattle.std.specs.Prelude.{◌≡◌, ℕ, ◌+◌, ◌<◌, ◌≤◌, List, [], length, slice_index, slice_index_or}
use Rattle.std.specs.Prelude.{slice_range}
use Rattle.wit_code.specs.declared.code.Step.{Step}
use Rattle.wit_flow.specs.declared.flow.Source.{Source}
use Rattle.wit_flow.specs.declared.flow.Source.TheVariants.{Read, Written}
use Rattle.wit_flow.specs.declared.flow.Strand.{Strand}
use Rattle.flow_core.specs.Net.{reads_of, writes_of}
use Rattle.wit_flow.specs.Run.{reads_at, writes_in}
use Rattle.wit_flow.specs.Cut.{strand_at}
use Rattle.wit_flow.specs.Plan.{Plan, IsPlan, AreByRule}

-- the number at its place among what the strand reads, or among what its steps wrote
abbrev pub number_of : List ℕ → List ℕ → Source → ℕ
number_of reads written (Read p) = slice_index reads p
number_of reads written (Written p) = slice_index written p

-- the place is the cell's: among the cells that the strand reads, or the first n that it writes
abbrev pub IsSource : List ℕ → List ℕ → ℕ → Source → ℕ → Type 0
IsSource reads writes n (Read p) c = (p < length reads) × (slice_index reads p ≡ c)
IsSource reads writes n (Written p) c = (p < n) × (slice_index writes p ≡ c)

abbrev pub source_at : List Source → ℕ → Source
source_at sources i = slice_index_or sources i (Read 0)

-- each place is there, where so many numbers are read and so many are written
abbrev pub IsThere : ℕ → ℕ → Source → Type 0
IsThere reads written (Read p) = p < reads
IsThere reads written (Written p) = p < written

abbrev pub AreThere : ℕ → ℕ → List Source → Type 0
AreThere reads written sources =
    (i : ℕ) → i < length sources → IsThere reads written (source_at sources i)

pub record AreSources (reads writes : List ℕ) (n : ℕ) (sources : List Source)
    (cells : List ℕ) : Type 0 where
  pub each : length sources ≡ length cells
  pub few : n ≤ length writes
  pub found : (i : ℕ) → i < length cells
      → IsSource reads writes n (source_at sources i) (slice_index cells i)

abbrev pub sources_of : List (List Source) → ℕ → List Source
sources_of sources k = slice_index_or sources k []

-- each step of the strand has its sources
abbrev pub Finds : List Step → List (List Source) → Strand → List ℕ → List ℕ → Type 0
Finds steps sources s reads writes =
    (j : ℕ) → s.first ≤ j → j < s.first + s.count
    → AreSources reads writes (length (writes_in (slice_range steps s.first j)))
    (sources_of sources j) (reads_at steps j)

abbrev pub HaveSources : Plan → List (List Source) → Type 0
HaveSources p sources =
    (k : ℕ) → k < length p.strands
    → Finds p.steps sources (strand_at p.strands k) (reads_of p.graph k) (writes_of p.graph k)

-- what a flow keeps
pub record IsKept (p : Plan) (sources : List (List Source)) : Type 0 where
  pub plan : IsPlan p
  pub by_rule : AreByRule p
  pub finds : HaveSources p sources
  pub sources_each : length sources ≡ length p.steps
