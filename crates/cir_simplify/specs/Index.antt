-- What the index says of the constraints. A place whose constraint is gone has the empty one.
use Rattle.std.specs.Prelude.{◌≡◌, ℕ, ◌<◌, ◌≤◌, true, List, [], length, map}
use Rattle.std.specs.Prelude.{sum_by, slice_index, slice_index_or, Option, Some, None, IsSome}
use Rattle.std.specs.Prelude.{Result, Ok, Err, ◌⊎◌}
use Rattle.std.specs.List.{Contains}
use Rattle.std.specs.BTreeSet.{contains}
use Rattle.std.specs.Ordering.{nat_cmp}
use Rattle.gold_field.specs.declared.form.Term.{Term}
use Rattle.gold_field.specs.declared.form.Constraint.{Constraint}
use Rattle.gold_field.specs.Form.{SignalsBelow}
use Rattle.cir_lc.specs.Normal.{IsConstraintWithin}
use Rattle.cir_lc.specs.Sparse.{IsNormalForm, IsRising}
use Rattle.cir_lc.specs.Substitution.{substitute}
use Rattle.cir_simplify.specs.declared.types.Rules.{Rules}
use Rattle.cir_simplify.specs.declared.types.Solved.{Solved}
use Rattle.cir_simplify.specs.declared.state.Ready.{Ready}
use Rattle.cir_simplify.specs.declared.types.SimpFault.{SimpFault}
use Rattle.cir_simplify.specs.Shape.{names, names_in, pivot, terms_in}
use Rattle.cir_simplify.specs.Answer.{AnswersFault}
use Rattle.cir_simplify.specs.Wires.{renamed_in}
use Rattle.cir_simplify.specs.Turn.{Pick, Simplified, first_pivot, solution, dropped}

abbrev pub empty : Constraint
empty = record { a = []; b = []; c = [] }

abbrev pub row : List Constraint → ℕ → Constraint
row rows i = slice_index_or rows i empty

abbrev pub held : List (List ℕ) → ℕ → List ℕ
held holders x = slice_index_or holders x []

-- the constraint is normal, and its terms rise and name signals below n
pub record IsGood (n : ℕ) (k : Constraint) : Type 0 where
  pub normal : IsNormalForm k
  pub rises : IsRising k
  pub within : IsConstraintWithin n k

-- each signal's list has the places of the constraints that name it, perhaps more
abbrev pub IsNoted : List Constraint → List (List ℕ) → Type 0
IsNoted rows holders = (i x : ℕ) → names_in x (row rows i) ≡ true → Contains (held holders x) i

-- the worklist has all places from one on, and some before it
abbrev pub IsWaiting : Ready → ℕ → Type 0
IsWaiting ready i = (ready.next ≤ i) ⊎ (contains nat_cmp ready.again i ≡ true)

-- the worklist has the places of the constraints that can be solved, perhaps more
abbrev pub IsReady : Rules → List Constraint → Ready → Type 0
IsReady r rows ready = (i : ℕ) → IsSome (pivot r (row rows i)) → IsWaiting ready i

-- no constraint before the place can be solved
abbrev pub IsNoneBefore : Rules → List Constraint → ℕ → Type 0
IsNoneBefore r rows n = (i : ℕ) → i < n → pivot r (row rows i) ≡ None

pub record IsIndexed (r : Rules) (rows : List Constraint) (holders : List (List ℕ))
    (queue : Ready) (count : ℕ) : Type 0 where
  pub noted : IsNoted rows holders
  pub ready : IsReady r rows queue
  pub counted : count ≡ sum_by terms_in rows
  pub good : (i : ℕ) → IsGood r.bound (row rows i)
  pub signals : length holders ≡ r.bound

-- the lists of a form's signals, before and after the place was noted at what the old form lacks
pub record NotesForm (old new : List Term) (i : ℕ) (before now : List (List ℕ)) : Type 0 where
  pub same : length now ≡ length before
  pub grows : (x j : ℕ) → Contains (held before x) j → Contains (held now x) j
  pub notes : (x : ℕ) → names x new ≡ true → Contains (held now x) i ⊎ (names x old ≡ true)

pub record Notes (old new : Constraint) (i : ℕ) (before now : List (List ℕ)) : Type 0 where
  pub same : length now ≡ length before
  pub grows : (x j : ℕ) → Contains (held before x) j → Contains (held now x) j
  pub notes : (x : ℕ) → names_in x new ≡ true → Contains (held now x) i ⊎ (names_in x old ≡ true)

-- the worklist keeps its places, and has the place where the constraint can be solved
pub record Queues (r : Rules) (k : Constraint) (i : ℕ) (before now : Ready) : Type 0 where
  pub keeps : (j : ℕ) → IsWaiting before j → IsWaiting now j
  pub adds : IsSome (pivot r k) → IsWaiting now i

-- the substitution was made at the places of the list, and nowhere else
pub record IsPartly (n x : ℕ) (by : List Term) (before now : List Constraint)
    (numbers : List ℕ) : Type 0 where
  pub same : length now ≡ length before
  pub done : (i : ℕ) → Contains numbers i → row now i ≡ substitute n x by (row before i)
  pub others : (i : ℕ) → (row now i ≡ row before i) ⊎ (row now i ≡ substitute n x by (row before i))
  pub fresh : (i : ℕ) → (Contains numbers i → ⊥) → row now i ≡ row before i

-- the constraint at the place is the first that is solved
pub record IsFirst (r : Rules) (rows : List Constraint) (place : ℕ) (t : Term) : Type 0 where
  pub inside : place < length rows
  pub here : pivot r (row rows place) ≡ Some t
  pub first : first_pivot r rows ≡ Some (record { term = t; form = (row rows place).c })

-- what a turn did: nothing where no constraint can be solved; else it solved the first one, and put
-- the solution in
abbrev pub IsTurn : Rules → List Constraint → List Constraint → Option Solved → Type 0
IsTurn r before now None = (first_pivot r before ≡ None) × (now ≡ before)
IsTurn r before now (Some e) =
    (p : Pick) × (first_pivot r before ≡ Some p)
    × (e ≡ record { signal = p.term.signal; value = solution r.bound p })
    × (now ≡ map (substitute r.bound p.term.signal (solution r.bound p)) before)

-- what the definition has where the code keeps the places of empty constraints
abbrev pub shown : Rules → Simplified → Simplified
shown r s = record { list = dropped r.level s.list; solved = s.solved }

-- what turns answer, where `now` is the list and the equations that they leave
abbrev pub Answers : Result (Unit {0}) SimpFault → Simplified → Result Simplified ℕ → Type 0
Answers (Ok done) now wanted = wanted ≡ Ok now
Answers (Err fault) now wanted = AnswersFault fault wanted

-- the terms of the constraint have places, and rise over them
pub record IsNameable (places : List ℕ) (k : Constraint) : Type 0 where
  pub a : SignalsBelow (length places) k.a
  pub b : SignalsBelow (length places) k.b
  pub c : SignalsBelow (length places) k.c
  pub rises : IsRising (renamed_in (slice_index places) k)
