-- What is counted while a program is compiled, and the limits, in the order in which they are
-- tested.
use Rattle.std.specs.Prelude.{ℕ, ◌+◌, ◌-◌, ◌^◌, ◌==◌, max, min, Bool, if◌then◌else◌, nat_lt, nat_le}
use Rattle.std.specs.Prelude.{List, [], ◌∷◌, fold, Ok}
use Rattle.cir_ast.specs.declared.refusal.Kind.TheVariants.{Limit}
use Rattle.cir_ast.specs.declared.refusal.Which.{Which}
use Rattle.cir_ast.specs.declared.refusal.Which.TheVariants.{Signals, Constraints, Terms, Elements}
use Rattle.cir_ast.specs.declared.refusal.Which.TheVariants.{Cells, Steps, Nodes, Reads, Statements}
use Rattle.cir_meaning.specs.Tried.{Where, Tried, refused}
use Rattle.cir_meaning.specs.Places.{elements}

-- `elements` is the size of the first array, or of the first function that runs, that is too large,
-- or 0
pub record Counts : Type 0 where
  pub signals : ℕ
  pub constraints : ℕ
  pub terms : ℕ
  pub elements : ℕ
  pub cells : ℕ
  pub steps : ℕ
  pub nodes : ℕ
  pub reads : ℕ
  pub statements : ℕ

abbrev pub nothing : Counts
nothing =
    record {
      signals = 0;
      constraints = 0;
      terms = 0;
      elements = 0;
      cells = 0;
      steps = 0;
      nodes = 0;
      reads = 0;
      statements = 0;
    }

pub record Limited : Type 0 where
  pub which : Which
  pub count : Counts → ℕ
  pub most : ℕ

abbrev pub limits : List Limited
limits =
    record { which = Signals; count = λ c. c.signals; most = 1048575 } ∷
    record { which = Constraints; count = λ c. c.constraints; most = 1048576 } ∷
    record { which = Terms; count = λ c. c.terms; most = 8388608 } ∷
    record { which = Elements; count = λ c. c.elements; most = 0 } ∷
    record { which = Cells; count = λ c. c.cells; most = 2097152 } ∷
    record { which = Steps; count = λ c. c.steps; most = 2097152 } ∷
    record { which = Nodes; count = λ c. c.nodes; most = 33554432 } ∷
    record { which = Reads; count = λ c. c.reads; most = 16777216 } ∷
    record { which = Statements; count = λ c. c.statements; most = 16777216 } ∷ []

-- a count stands still at the greatest 64-bit number
abbrev pub standing : ℕ → ℕ
standing n = min n (2 ^ 64 - 1)

abbrev pub count_sum : ℕ → ℕ → ℕ
count_sum a b = standing (a + b)

-- what a statement adds is counted at once; its arrays are tested by themselves
abbrev pub plus : Counts → Counts → Counts
plus c d = record {
  signals = count_sum c.signals d.signals;
  constraints = count_sum c.constraints d.constraints;
  terms = count_sum c.terms d.terms;
  elements = d.elements;
  cells = count_sum c.cells d.cells;
  steps = count_sum c.steps d.steps;
  nodes = count_sum c.nodes d.nodes;
  reads = count_sum c.reads d.reads;
  statements = count_sum c.statements d.statements;
}

-- the first limit that is passed is named, with the count that passes it
abbrev pub tested : List Limited → Where → Counts → Tried Counts
tested [] w c = Ok c
tested (l ∷ ls) w c =
    if nat_le (l.count c) l.most then tested ls w c
    else refused w (Limit l.which (standing (l.count c)))

-- the size of an array is the greatest of its number of elements and its dimensions
abbrev pub size_of : List ℕ → ℕ
size_of dims = max (elements dims) (fold max 0 dims)

abbrev pub is_too_large : List ℕ → Bool
is_too_large dims = nat_lt 1048576 (size_of dims)

abbrev pub with_array : List ℕ → Counts → Counts
with_array dims c =
    if is_too_large dims
    then record c { elements = if c.elements == 0 then standing (size_of dims) else c.elements }
    else c
