-- The table of a circuit's signals, from its rows.
use Rattle.std.proofs.Common.{◌≡◌, ℕ, zero, suc, ◌+◌, ◌≤◌, Bool, true, false}
use Rattle.std.proofs.Common.{cond, List, []}
use Rattle.std.proofs.Common.{◌∷◌, ◌++◌, length, map, Ok, refl, subst, arith}
use Rattle.std.specs.Prelude.{filter, sum_by}
use Rattle.std.specs.List.{AllByRecursion}
use Rattle.std.proofs.lemmas.List.Sums.{sum_by-cons}
use Rattle.cir_ast.specs.Program.{Program}
use Rattle.cir_meaning.specs.Places.{elements, brackets, numbers_from}
use Rattle.cir_meaning.specs.Frame.{Outputs, PublicInputs, PrivateInputs, Others, Row, World}
use Rattle.cir_meaning.specs.Compile.{SignalName, Circuit, is_of, rows_of, in_order, names_of_row}
use Rattle.cir_meaning.specs.Compile.{circuit_of, exec_main, the_main, compiled_with, compiled}
use Rattle.cir_meaning.specs.Compile.{group_size}
use Rattle.cir_meaning.proofs.Good.{OnGood, good_ok, good_next, good_on, good_is}
use Rattle.cir_meaning.proofs.Pairs.{good_both}
use Rattle.cir_meaning.proofs.Rows.{all_append, all_joined}
use Rattle.cir_meaning.proofs.CountingBodies.{all_signals, few_signals}
use Rattle.cir_row_names.specs.Rows.{IsLineText, IsNamedProgram, IsNamedRow, IsNamedSignal}
use Rattle.cir_row_names.specs.Rows.{IsNamedCircuit}
use Rattle.cir_row_names.proofs.Bodies.{NamedWorld, main_named}

all_filter : {A : Type 0} (P : A → Type 0) (test : A → Bool) (xs : List A)
    → AllByRecursion P xs → AllByRecursion P (filter test xs)
all_filter P test [] h = tt
all_filter {A} P test (x ∷ xs) h = one (test x) (all_filter P test xs h.1)
  where
    one : (t : Bool) → AllByRecursion P (filter test xs)
        → AllByRecursion P (cond t (x ∷ filter test xs) (filter test xs))
    one true more = (h.0, more)
    one false more = more

module _ (p : List ℕ → Bool) (count : ℕ) where
  -- a row with no more elements than there are signals
  abbrev IsSmallRow : Row → Type 0
  IsSmallRow row = IsNamedRow p count row × (elements row.dims ≤ 1048575)

  small_rows : (most : ℕ) (rows : List Row) → most ≤ 1048575
      → sum_by (λ (r : Row). elements r.dims) rows ≤ most
      → AllByRecursion (IsNamedRow p count) rows → AllByRecursion IsSmallRow rows
  small_rows most [] few l h = tt
  small_rows most (row ∷ rows) few l h =
      let here : elements row.dims + sum_by (λ (r : Row). elements r.dims) rows ≤ most =
      subst (λ (n : ℕ). n ≤ most) (sum_by-cons (λ (r : Row). elements r.dims) row rows) l in
      ((h.0, omega (arith, here)), small_rows most rows few (omega (arith, here)) h.1)

  ordered : (rows : List Row) → AllByRecursion IsSmallRow rows
      → AllByRecursion IsSmallRow (in_order rows)
  ordered rows h =
      all_append IsSmallRow (rows_of Outputs rows) _ (all_filter IsSmallRow (is_of Outputs) rows h)
      (all_append IsSmallRow (rows_of PublicInputs rows) _
      (all_filter IsSmallRow (is_of PublicInputs) rows h)
      (all_append IsSmallRow (rows_of PrivateInputs rows) _
      (all_filter IsSmallRow (is_of PrivateInputs) rows h)
      (all_filter IsSmallRow (is_of Others) rows h)))

  abbrev element_of : Row → ℕ → SignalName
  element_of row place =
      record { instance = row.instance; base = row.name ++ brackets row.dims; place = place }

  places : (row : Row) → IsSmallRow row → (number first : ℕ)
      → first + number ≤ elements row.dims
      → AllByRecursion (IsNamedSignal p count) (map (element_of row) (numbers_from first number))
  places row h zero first l = tt
  places row h (suc number) first l = (
    record {
      declared = row.name;
      dims = row.dims;
      name = h.0.name;
      base = refl;
      inside = omega arith;
      few = h.1;
      instance = h.0.instance;
    },
    places row h number (first + 1) (omega arith),
  )

  each_row : (rows : List Row) → AllByRecursion IsSmallRow rows
      → AllByRecursion (λ row. AllByRecursion (IsNamedSignal p count) (names_of_row row)) rows
  each_row [] h = tt
  each_row (row ∷ rows) h =
      (places row h.0 (elements row.dims) 0 (omega arith), each_row rows h.1)

module _ (p : List ℕ → Bool) (fits : (name : List ℕ) → p name ≡ true → IsLineText name)
  where
    circuit_named : (size : ℕ) (w : World) → NamedWorld p fits w → all_signals w ≤ 1048575
        → IsNamedCircuit p (circuit_of size w)
    circuit_named size w h few =
        let count : ℕ = length w.instances in record {
          signals = all_joined (IsNamedSignal p count) names_of_row (in_order w.rows)
              (each_row p count (in_order w.rows)
              (ordered p count w.rows (small_rows p count 1048575 w.rows (omega arith) few h.0)));
          paths = h.1;
        }

    with_named : (size : ℕ) (program : Program) → IsNamedProgram p program
        → OnGood (IsNamedCircuit p) (compiled_with size program)
    with_named size program named =
        good_on (IsNamedCircuit p) (the_main program) _ (λ m.
        good_next (λ x. NamedWorld p fits x.1 × (all_signals x.1 ≤ 1048575)) (IsNamedCircuit p)
        (exec_main program size m m.meant) _
        (good_both (λ x. NamedWorld p fits x.1) (λ x. all_signals x.1 ≤ 1048575)
        (exec_main program size m m.meant) (main_named p fits program size m m.meant named)
        (few_signals program size m m.meant))
        (λ x g. good_ok (IsNamedCircuit p) (circuit_of size x.1)
        (circuit_named size x.1 g.0 g.1)))

    pub compiled_named : (program : Program) (c : Circuit) → IsNamedProgram p program
        → compiled program ≡ Ok c → IsNamedCircuit p c
    compiled_named program c named e =
        good_is (IsNamedCircuit p) (compiled program) c e (with_named group_size program named)
