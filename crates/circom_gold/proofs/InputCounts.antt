-- The inputs of a program's main component have as many elements as it has input signals.
use Rattle.std.proofs.Common.{◌≡◌, ◌∙◌, ℕ, ◌+◌, ◌≤◌, Bool, true, false}
use Rattle.std.proofs.Common.{cond, List, [], ◌∷◌, ◌++◌}
use Rattle.std.proofs.Common.{length, map, Ok, refl, sym, ap, subst, arith}
use Rattle.std.specs.Prelude.{◌^◌, ◌-◌, min, filter, sum_by}
use Rattle.std.proofs.lemmas.List.Sums.{sum_by-append, sum_by-cons}
use Rattle.cir_ast.specs.Program.{Program, Main}
use Rattle.cir_inst.specs.Table.{shape_of}
use Rattle.cir_values.specs.declared.signals.InputShape.{InputShape}
use Rattle.cir_meaning.specs.Compile as M
use Rattle.cir_meaning.specs.Compile.{Circuit, compiled, circuit_of, exec_main, group_size, is_of}
use Rattle.cir_meaning.specs.Compile.{rows_of, shapes_of, the_main}
use Rattle.cir_meaning.specs.Frame.{Group, PublicInputs, PrivateInputs, Row, Signals, World}
use Rattle.cir_meaning.specs.Places.{elements}
use Rattle.cir_meaning.specs.Scoped.{IsResolved}
use Rattle.cir_meaning.specs.Tried.{Tried, next}
use Rattle.cir_meaning.proofs.MainNames.{counted}
use Rattle.cir_meaning.proofs.RowCounts.{Counted, row_count, names_all}
use Rattle.cir_meaning.proofs.RunLaws.{names_few}
use Rattle.cir_meaning.proofs.ScanPoints.{next_to}

abbrev total : List Row → ℕ
total rows = sum_by (λ r. elements r.dims) rows

abbrev counts : List M.InputShape → ℕ
counts inputs = sum_by (λ i. i.count) inputs

shapes_total : (first : ℕ) (rows : List Row) → counts (shapes_of first rows) ≡ total rows
shapes_total first [] = refl
shapes_total first (row ∷ rows) =
    omega (
      arith,
      shapes_total (first + elements row.dims) rows,
      sum_by-cons (λ (r : Row). elements r.dims) row rows,
      sum_by-cons (λ (i : M.InputShape). i.count)
          (record { name = row.name; first = first; count = elements row.dims })
          (shapes_of (first + elements row.dims) rows),
    )

group_total : (g : Group) (rows : List Row) → total (rows_of g rows) ≡ row_count g rows
group_total g [] = refl
group_total g (row ∷ rows) = at (is_of g row) (group_total g rows)
  where
    at : (b : Bool) → total (filter (is_of g) rows) ≡ row_count g rows
        → total (cond b (row ∷ filter (is_of g) rows) (filter (is_of g) rows))
        ≡ cond b (elements row.dims) 0 + row_count g rows
    at true h =
        sum_by-cons (λ (r : Row). elements r.dims) row (filter (is_of g) rows)
        ∙ ap (λ (n : ℕ). elements row.dims + n) h
    at false h = omega arith

-- few rows are counted as they are
group_below : (g : Group) (rows : List Row) → row_count g rows ≤ total rows
group_below g [] = omega arith
group_below g (row ∷ rows) =
    at (is_of g row) (group_below g rows) (sum_by-cons (λ (r : Row). elements r.dims) row rows)
  where
    at : (b : Bool) → row_count g rows ≤ total rows
        → total (row ∷ rows) ≡ elements row.dims + total rows
        → cond b (elements row.dims) 0 + row_count g rows ≤ total (row ∷ rows)
    at true h e = omega arith
    at false h e = omega arith

exact : (a r n : ℕ) → a ≡ min r (2 ^ 64 - 1) → r ≤ n → n ≤ 1048575 → a ≡ r
exact a r n e less few = omega arith

world_inputs : (size : ℕ) (w : World) → Counted w → length (circuit_of size w).names ≤ 1048575
    → counts (circuit_of size w).inputs ≡ w.sizes.public_inputs + w.sizes.private_inputs
world_inputs size w h few =
    let publics = rows_of PublicInputs w.rows in
    let privates = rows_of PrivateInputs w.rows in
    let small : total w.rows ≤ 1048575 = subst (λ (n : ℕ). n ≤ 1048575) (names_all w.rows) few in
    omega (
      arith,
      shapes_total (1 + w.sizes.outputs) (publics ++ privates),
      sum_by-append (λ (r : Row). elements r.dims) publics privates,
      group_total PublicInputs w.rows,
      group_total PrivateInputs w.rows,
      exact w.sizes.public_inputs (row_count PublicInputs w.rows) (total w.rows) (h PublicInputs)
          (group_below PublicInputs w.rows) small,
      exact w.sizes.private_inputs (row_count PrivateInputs w.rows) (total w.rows)
          (h PrivateInputs) (group_below PrivateInputs w.rows) small,
    )

abbrev circuit : ℕ → Signals × World → Tried Circuit
circuit size x = Ok (circuit_of size x.1)

pub main_inputs : (p : Program) (c : Circuit) → IsResolved p → compiled p ≡ Ok c
    → counts c.inputs ≡ c.public_inputs + c.private_inputs
main_inputs p c resolved e =
    let one : (m : Main) × (the_main p ≡ Ok m)
    × (next (exec_main p group_size m m.meant) (circuit group_size) ≡ Ok c) =
    next_to (the_main p) (λ m. next (exec_main p group_size m m.meant) (circuit group_size)) c e in
    let two : (x : Signals × World) × (exec_main p group_size one.0 one.0.meant ≡ Ok x)
    × (circuit group_size x ≡ Ok c) =
    next_to (exec_main p group_size one.0 one.0.meant) (circuit group_size) c one.2 in
    let is : circuit_of group_size two.0.1 ≡ c = cc in
    subst (λ (d : Circuit). counts d.inputs ≡ d.public_inputs + d.private_inputs) is
    (world_inputs group_size two.0.1 (counted p resolved group_size one.0 two.0 two.1)
    (subst (λ (d : Circuit). length d.names ≤ 1048575) (sym is) (names_few p c e)))

-- by the shapes that stand for them
pub shapes_counted : (inputs : List InputShape)
    → counts (map shape_of inputs) ≡ sum_by (λ i. i.count) inputs
shapes_counted [] = refl
shapes_counted (input ∷ inputs) =
    omega (
      arith,
      shapes_counted inputs,
      sum_by-cons (λ (i : InputShape). i.count) input inputs,
      sum_by-cons (λ (i : M.InputShape). i.count) (shape_of input) (map shape_of inputs),
    )
