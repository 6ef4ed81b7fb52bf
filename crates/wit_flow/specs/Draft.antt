-- The strands that are cut so far, and the open one
use Rattle.std.specs.Prelude.{◌≡◌, ℕ, ◌+◌, ◌<◌, ◌≤◌, ◌⊎◌, List, [], ◌∷◌, ◌++◌, length}
use Rattle.std.specs.Prelude.{slice_index_or}
use Rattle.wit_code.specs.declared.code.Step.{Step}
use Rattle.flow_core.specs.Counts.{times, IsIn}
use Rattle.flow_core.specs.Drawn.{row}
use Rattle.wit_flow.specs.declared.flow.Source.{Source}
use Rattle.wit_flow.specs.declared.flow.Source.TheVariants.{Read, Written}
use Rattle.wit_flow.specs.declared.flow.Strand.{Strand}
use Rattle.wit_flow.specs.declared.drafting.Mark.{Mark}
use Rattle.wit_flow.specs.declared.drafting.Draft.{Draft}
use Rattle.wit_flow.specs.Run.{reads_at, writes_at, reads_in, writes_in}
use Rattle.wit_flow.specs.Cut.{strand_at, part, Follow, IsByRule, Joins}
use Rattle.wit_flow.specs.Sources.{IsSource, Finds}

-- a step that writes a cell comes before each step that reads it
abbrev pub WritesFirst : List Step → Type 0
WritesFirst steps = (p k c : ℕ) → IsIn c (writes_at steps p) → IsIn c (reads_at steps k) → p < k

abbrev pub mark_of : List Mark → ℕ → Mark
mark_of marks c = slice_index_or marks c (record { strand = 0; source = Read 0 })

abbrev pub IsWritten : Source → Type 0
IsWritten (Read p) = ⊥
IsWritten (Written p) = Unit {0}

-- the marks with the open strand's number, counted from 1, are of the cells that it reads or writes
pub record Marks (number : ℕ) (marks : List Mark) (reads writes : List ℕ) : Type 0 where
  pub found : (c : ℕ) → (mark_of marks c).strand ≡ number
      → IsSource reads writes (length writes) (mark_of marks c).source c
  pub read : (c : ℕ) → IsIn c reads → (mark_of marks c).strand ≡ number
  pub written : (c : ℕ) → IsIn c writes → ((mark_of marks c).strand ≡ number)
      × IsWritten (mark_of marks c).source
  pub early : (c : ℕ) → (mark_of marks c).strand ≤ number
  pub once : (c : ℕ) → times c reads ≤ 1

abbrev pub number_of_open : Draft → ℕ
number_of_open d = length d.strands + 1

abbrev pub AreMarked : Draft → Type 0
AreMarked d = Marks (number_of_open d) d.marks d.open_reads d.open_writes

-- what is known of a strand with these reads and writes
pub record IsStrand (steps : List Step) (sources : List (List Source)) (s : Strand)
    (reads writes : List ℕ) : Type 0 where
  pub within : s.first + s.count ≤ length sources
  pub writes_all : writes ≡ writes_in (part steps s)
  pub reads_read : (c : ℕ) → IsIn c reads → IsIn c (reads_in (part steps s))
  pub read : (c : ℕ) → IsIn c (reads_in (part steps s)) → IsIn c reads ⊎ IsIn c writes
  pub reads_once : (c : ℕ) → times c reads ≤ 1
  pub apart : (c : ℕ) → IsIn c reads → IsIn c writes → ⊥
  pub joined : (i : ℕ) → s.first < i → i < s.first + s.count → Joins steps s.first i
  pub finds : Finds steps sources s reads writes

abbrev pub open_of : Draft → Strand
open_of d = record { first = d.first; count = d.count }

pub record IsDraft (steps : List Step) (d : Draft) : Type 0 where
  pub reads_each : length d.reads ≡ length d.strands
  pub writes_each : length d.writes ≡ length d.strands
  pub sources_each : length d.sources ≡ d.first + d.count
  pub follow : Follow d.strands 0 d.first
  pub few : length d.strands ≤ d.first
  pub closed : (k : ℕ) → k < length d.strands
      → IsStrand steps d.sources (strand_at d.strands k) (row d.reads k) (row d.writes k)
  pub by_rule : (k : ℕ) → k < length d.strands → IsByRule steps (strand_at d.strands k)
  pub opened : IsStrand steps d.sources (open_of d) d.open_reads d.open_writes
  pub marked : AreMarked d

-- the same draft but for what the open strand reads and its marks
abbrev pub with_reads : Draft → Draft → Draft
with_reads old new = record old { open_reads = new.open_reads; marks = new.marks }

abbrev pub with_writes : Draft → Draft → Draft
with_writes old new = record old { open_writes = new.open_writes; marks = new.marks }

-- the open strand reads more, and only cells of this list
pub record ReadsMore (old new : Draft) (cells : List ℕ) : Type 0 where
  pub same : new ≡ with_reads old new
  pub wide : length new.marks ≡ length old.marks
  pub more : List ℕ
  pub grown : new.open_reads ≡ old.open_reads ++ more
  pub listed : (c : ℕ) → IsIn c more → IsIn c cells
  pub fresh : (c : ℕ) → IsIn c more → IsIn c old.open_writes → ⊥
  pub marked : AreMarked new

-- the open strand writes these too
pub record WritesMore (old new : Draft) (cells : List ℕ) : Type 0 where
  pub same : new ≡ with_writes old new
  pub wide : length new.marks ≡ length old.marks
  pub grown : new.open_writes ≡ old.open_writes ++ cells
  pub marked : AreMarked new

-- the number of the step behind the open strand
abbrev pub next_of : Draft → ℕ
next_of d = d.first + d.count

-- the next step may be added to the open strand
abbrev pub MayAdd : List Step → Draft → Type 0
MayAdd steps d = (d.count ≡ 0) ⊎ Joins steps d.first (next_of d)

-- the open strand can be closed: it has a step, and the next step, if there is one, doesn't join it
pub record CanClose (steps : List Step) (d : Draft) : Type 0 where
  pub some : 0 < d.count
  pub ended : next_of d < length steps → Joins steps d.first (next_of d) → ⊥

-- a draft that has come to this step, with marks for so many cells
pub record HasCome (steps : List Step) (cells : ℕ) (at : ℕ) (d : Draft) : Type 0 where
  pub draft : IsDraft steps d
  pub next : next_of d ≡ at
  pub wide : length d.marks ≡ cells

-- the open strand is closed, and the next one begins with the next step
pub record IsClosed (old new : Draft) : Type 0 where
  pub strands : new.strands ≡ old.strands ++ open_of old ∷ []
  pub reads : new.reads ≡ old.reads ++ old.open_reads ∷ []
  pub writes : new.writes ≡ old.writes ++ old.open_writes ∷ []
  pub sources : new.sources ≡ old.sources
  pub first : new.first ≡ old.first + old.count
  pub count : new.count ≡ 0
  pub open_reads : new.open_reads ≡ []
  pub open_writes : new.open_writes ≡ []
  pub marks : new.marks ≡ old.marks
