-- Which signals a number depends on, and which signals are declared.
use Rattle.std.specs.Prelude.{◌≡◌, ℕ, zero, suc, ◌+◌, ◌*◌, ◌<◌, ◌≤◌, List, length, sum_by, ⊤}
use Rattle.std.specs.List.{AllByRecursion}
use Rattle.cir_lc.specs.Number.{Assignment, Number}
use Rattle.cir_meaning.specs.Places.{elements}
use Rattle.cir_meaning.specs.Source.{Equation, all_terms}
use Rattle.cir_meaning.specs.Limits.{standing}
use Rattle.cir_meaning.specs.Frame.{Group, Row, World, before_group, size_in}
use Rattle.cir_meaning.specs.Compile.{rows_of}

-- how many signals the rows of a group declare
abbrev pub declared_in : List Row → Group → ℕ
declared_in rows g = sum_by (λ r. elements r.dims) (rows_of g rows)

-- one of as many numbers of a group, behind those before the group
pub record IsOfGroup (size : ℕ) (count : Group → ℕ) (n : ℕ) : Type 0 where
  pub group : Group
  pub place : ℕ
  pub inside : place < count group
  pub number : n ≡ before_group size group + place

-- a number of a declared signal, where each group has as many; and signal 0
abbrev pub IsDeclared : ℕ → (Group → ℕ) → ℕ → Type 0
IsDeclared size count zero = ⊤
IsDeclared size count (suc n) = IsOfGroup size count n

-- assignments that agree at these signals give it the same number
abbrev pub Depends : (ℕ → Type 0) → Number → Type 0
Depends D f =
    (s t : Assignment) → ((n : ℕ) → D n → s.at n ≡ t.at n) → f s ≡ f t

-- an equation whose parts depend on these signals alone
pub record IsOver (D : ℕ → Type 0) (e : Equation) : Type 0 where
  pub a : Depends D e.parts.a
  pub b : Depends D e.parts.b
  pub c : Depends D e.parts.c

-- the equations of a world are over signals that its rows declare, and its sizes are those of the
-- rows
pub record IsAllDeclared (size : ℕ) (w : World) : Type 0 where
  pub sizes : (g : Group) → size_in g w.sizes ≡ standing (declared_in w.rows g)
  pub equations : AllByRecursion (IsOver (IsDeclared size (declared_in w.rows))) w.equations

-- there are no more signals, equations and terms than the limits
pub record IsFew (size : ℕ) (w : World) : Type 0 where
  pub signals : sum_by (λ r. elements r.dims) w.rows ≤ 1048575
  pub constraints : length w.equations ≤ 1048576
  pub terms : all_terms (4 * size) w.equations ≤ 8388608
