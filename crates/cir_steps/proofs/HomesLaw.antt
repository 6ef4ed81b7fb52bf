-- Each signal of a program has a cell in its circuit.
use Rattle.std.proofs.Common.{◌≡◌, ℕ, zero, suc, ◌+◌, ◌-◌, ◌≤◌, ◌<◌, Bool, true, false, cond, List}
use Rattle.std.proofs.Common.{[], ◌∷◌, ◌++◌, map, length, Option, Some, None, Ok, refl, sym, ap}
use Rattle.std.proofs.Common.{subst, ◌∙◌, slice_get, arith}
use Rattle.std.specs.Prelude.{nat_le, nat_lt, ◌&&◌}
use Rattle.std.specs.List.{AllByRecursion}
use Rattle.cir_ast.specs.declared.program.Meant.{Meant}
use Rattle.cir_ast.specs.Program.{Program, Main}
use Rattle.cir_meaning.specs.Frame.{Signals, Group, Outputs, PublicInputs, PrivateInputs, Others}
use Rattle.cir_meaning.specs.Frame.{Sizes, World, before_group, size_in}
use Rattle.cir_meaning.specs.Compile as compile
use Rattle.cir_meaning.specs.Compile.{main_state, exec_main, compiled, group_size}
use Rattle.cir_meaning.specs.Run.{Wires, Table}
use Rattle.cir_meaning.specs.RunBodies.{or_else, signal_wire, table_wire, group_wires}
use Rattle.cir_meaning.specs.Places.{numbers_from}
use Rattle.cir_meaning.proofs.Rows.{all_append}
use Rattle.cir_meaning.specs.Scoped.{IsResolved}
use Rattle.cir_meaning.proofs.GroupSizes.{Fits}
use Rattle.cir_meaning.proofs.Weights.{below, inside, cover_entries, cover_tables, under, Bounded}
use Rattle.cir_meaning.proofs.TableWires.{tables_some}
use Rattle.cir_meaning.proofs.NumberPlaces.{Roomy, group_once, values_count}
use Rattle.cir_meaning.proofs.RowCounts.{sizes_counted}
use Rattle.cir_meaning.proofs.MainNames.{counted, few_names}
use Rattle.cir_meaning.proofs.TemplateRuns.{some_of}
use Rattle.cir_steps.specs.Making.{Cast}
use Rattle.cir_steps.specs.Circuit.{Circuit, all_homes, emit_main, circuit_of}
use Rattle.cir_steps.proofs.Resolved.{templates}
use Rattle.cir_steps.proofs.Mains.{room_top, names_fit, given_twin, Made, made_of}
use Rattle.cir_steps.proofs.Casting.{main_fits, MainGives}
use Rattle.cir_steps.proofs.Housing.{AreCelled, are_full}
use Rattle.cir_steps.proofs.AllCells.{Homed, StaysHoused, GivesHomes, all_cells}

-- no signals
inside_none : (m low : ℕ) → inside m low 0 ≡ 0
inside_none m low =
    let end : low + 0 ≡ low = omega arith in
    ap (λ (k : ℕ). below m k - below m low) end ∙ less (below m low)
  where
    less : (n : ℕ) → n - n ≡ 0
    less n = omega arith

under_none : (size m : ℕ) → under size main_state.world.sizes m ≡ 0
under_none size m =
    sum_of (inside_none m (1 + before_group size Outputs))
    (inside_none m (1 + before_group size PublicInputs))
    (inside_none m (1 + before_group size PrivateInputs))
    (inside_none m (1 + before_group size Others))
  where
    sum_of : {a b c d : ℕ} → a ≡ 0 → b ≡ 0 → c ≡ 0 → d ≡ 0 → a + (b + (c + d)) ≡ 0
    sum_of e f g h = omega arith

none_fits : Fits main_state.world.sizes
none_fits Outputs = omega arith
none_fits PublicInputs = omega arith
none_fits PrivateInputs = omega arith
none_fits Others = omega arith

-- cells of tables
wire_below : (last m n c : ℕ) (xs : Signals) (wires : Wires)
    → ((n k c : ℕ) → wires n k ≡ Some c → c < last) → signal_wire m n xs wires ≡ Some c → c < last
wire_below last m n c [] wires h e = cc
wire_below last m n c (None ∷ xs) wires h e = wire_below last m (suc n) c xs wires h e
wire_below last m n c (Some d ∷ xs) wires h e =
    at (nat_le d.first m && nat_lt m (d.first + length d.written)) e
    (wire_below last m (suc n) c xs wires h)
  where
    at : (b : Bool)
        → cond b (wires n (m - d.first)) (signal_wire m (suc n) xs wires) ≡ Some c
        → (signal_wire m (suc n) xs wires ≡ Some c → c < last) → c < last
    at true f go = h n (m - d.first) c f
    at false f go = go f

table_below : (last m c : ℕ) (ts : List Table) → AreCelled last ts → table_wire ts m ≡ Some c
    → c < last
table_below last m c [] h e = cc
table_below last m c (t ∷ ts) h e =
    at (signal_wire m 0 t.signals t.wires) refl e (table_below last m c ts h.1)
  where
    at : (o : Option ℕ) → signal_wire m 0 t.signals t.wires ≡ o
        → or_else o (table_wire ts m) ≡ Some c → (table_wire ts m ≡ Some c → c < last) → c < last
    at (Some d) is f go =
        let same : d ≡ c = cc in
        wire_below last m 0 c t.signals t.wires h.0.below
        (is ∙ ap (λ (i : ℕ). Some i) same)
    at None is f go = go f

range_all : (P : Option ℕ → Type 0) (f : ℕ → Option ℕ) (a n : ℕ)
    → ((i : ℕ) → i < n → P (f (a + i))) → AllByRecursion P (map f (numbers_from a n))
range_all P f a zero h = tt
range_all P f a (suc n) h = (
  (let number : a + 0 ≡ a = omega arith in
      subst (λ (k : ℕ). P (f k)) number (h 0 (omega arith))),
  range_all P f (a + 1) n (λ i less.
      let number : a + suc i ≡ a + 1 + i = omega arith in
      subst (λ (k : ℕ). P (f k)) number (h (suc i) (omega arith))),
)

-- a cell among the first ones
abbrev pub IsCell : ℕ → Option ℕ → Type 0
IsCell last o = (c : ℕ) × (o ≡ Some c) × (c < last)

module _ (p : Program) (resolved : IsResolved p) (size : ℕ) (m : Main) (t : Meant)
    (x : Signals × World) (exec : exec_main p size m t ≡ Ok x) (o : Cast)
    (made : emit_main p size m t ≡ Ok o) where
  pub gives : MainGives size (StaysHoused size) (GivesHomes size) (all_cells size) p
      (templates p resolved) x o
  gives =
      given_twin (MainGives size (StaysHoused size) (GivesHomes size) (all_cells size) p
      (templates p resolved)) (exec_main p size m t) (emit_main p size m t) x o exec made
      (main_fits size (StaysHoused size) (GivesHomes size) (all_cells size) p
      (templates p resolved) m t)

  pub main_homed : Homed size 1 gives.first.sizes (x.0, gives.last) o
  main_homed = gives.gives (subst Fits (sym gives.begins) none_fits)

  abbrev tables : List Table
  tables = record { signals = x.0; wires = o.own } ∷ o.inside

  module _ (room : Roomy size x.1.sizes) (few : Bounded x.1.sizes) where
    covers : Bounded gives.last.sizes → (k : ℕ)
        → under size gives.last.sizes k ≤ cover_tables k tables + under size gives.first.sizes k
    covers h k =
        let its : under size gives.last.sizes k ≤ cover_entries k x.0
        + (cover_tables k o.inside + under size gives.first.sizes k) =
        main_homed.covers h k in omega arith

    number_covered : (g : Group) (i : ℕ) → i < size_in g x.1.sizes
        → 1 ≤ cover_tables (1 + before_group size g + i) tables
    number_covered g i less =
        let n : ℕ = 1 + before_group size g + i in
        let one : under size x.1.sizes n ≡ 1 = group_once size x.1.sizes g i room less in
        let all : under size x.1.sizes n ≤ cover_tables n tables
        + under size gives.first.sizes n =
        subst (λ s. Bounded s → (k : ℕ) → under size s k
        ≤ cover_tables k tables + under size gives.first.sizes k) gives.ends covers few n in
        let none : under size gives.first.sizes n ≡ 0 =
        ap (λ s. under size s n) gives.begins ∙ under_none size n in
        least _ _ _ one all none
      where
        least : (a c b : ℕ) → a ≡ 1 → a ≤ c + b → b ≡ 0 → 1 ≤ c
        least a c b e h f = omega arith

    pub all_are_cells : AllByRecursion (IsCell o.next) (all_homes size x.1.sizes tables)
    all_are_cells =
        let first : 1 ≤ o.next = main_homed.made in (
          (0, refl, omega arith),
          all_append (IsCell o.next) (homes Outputs)
              (homes PublicInputs ++ (homes PrivateInputs ++ homes Others)) (each Outputs)
              (all_append (IsCell o.next) (homes PublicInputs)
              (homes PrivateInputs ++ homes Others) (each PublicInputs)
              (all_append (IsCell o.next) (homes PrivateInputs) (homes Others)
              (each PrivateInputs) (each Others))),
        )
      where
        homes : Group → List (Option ℕ)
        homes g = group_wires size x.1.sizes tables g

        of_number : (g : Group) (i : ℕ) → i < size_in g x.1.sizes
            → IsCell o.next (table_wire tables (1 + before_group size g + i))
        of_number g i less =
            let celled : AreCelled o.next tables = (main_homed.celled, main_homed.inside) in
            let its : (c : ℕ) × (table_wire tables (1 + before_group size g + i) ≡ Some c) =
            some_of (table_wire tables (1 + before_group size g + i))
            (tables_some (1 + before_group size g + i) tables (number_covered g i less)
            (are_full o.next tables celled)) in (
              its.0,
              its.1,
              table_below o.next (1 + before_group size g + i) its.0 tables celled its.1,
            )

        each : (g : Group) → AllByRecursion (IsCell o.next) (homes g)
        each g =
            range_all (IsCell o.next) (table_wire tables) (1 + before_group size g)
            (size_in g x.1.sizes) (λ i less. of_number g i less)

-- of a whole program
element_of : (P : Option ℕ → Type 0) (xs : List (Option ℕ)) (i : ℕ) → AllByRecursion P xs
    → i < length xs → (o : Option ℕ) × (slice_get xs i ≡ Some o) × P o
element_of P [] i h less = absurd (omega arith)
element_of P (x ∷ xs) zero h less = (x, refl, h.0)
element_of P (x ∷ xs) (suc i) h less = element_of P xs i h.1 (omega arith)

module _ (p : Program) (resolved : IsResolved p) (c : compile.Circuit) (b : Circuit)
    (compiles : compiled p ≡ Ok c) (made : circuit_of p ≡ Ok b) where
  its : Made p c b
  its = made_of p c b compiles made

  names_few : length c.names ≤ 1048575
  names_few = few_names p group_size c compiles

  sizes_are : length c.names ≡ its.given.1.sizes.outputs
      + (its.given.1.sizes.public_inputs + (its.given.1.sizes.private_inputs
      + its.given.1.sizes.others))
  sizes_are =
      ap (λ (d : compile.Circuit). length d.names) (sym its.is_told)
      ∙ sizes_counted its.given.1 group_size
      (counted p resolved group_size its.main its.given its.exec) room_top
      (subst (λ (d : compile.Circuit). length d.names < group_size) (sym its.is_told)
      (names_fit (length c.names) names_few))

  pub homes_counted : length b.homes ≡ 1 + length c.names
  homes_counted =
      ap (λ (d : Circuit). length d.homes) (sym its.is_circuit)
      ∙ values_count group_size its.given.1.sizes
      (record { signals = its.given.0; wires = its.cast.own } ∷ its.cast.inside)
      ∙ ap (λ (n : ℕ). 1 + n) (sym sizes_are)

  pub homes_are_cells : (i : ℕ) → i ≤ length c.names
      → (cell : ℕ) × (slice_get b.homes i ≡ Some (Some cell)) × (cell < b.cells)
  homes_are_cells i less =
      let all : length b.homes ≡ 1 + length c.names = homes_counted in
      let one : (o : Option ℕ) × (slice_get b.homes i ≡ Some o) × IsCell b.cells o =
      element_of (IsCell b.cells) b.homes i are_cells (omega arith) in
      (one.2.0, one.1 ∙ ap (λ o. Some o) one.2.1, one.2.2)
    where
      sizes : Sizes
      sizes = its.given.1.sizes

      room : Roomy group_size sizes
      room g = names_fit (size_in g sizes) (most g)
        where
          most : (g : Group) → size_in g sizes ≤ 1048575
          most Outputs =
              let a : length c.names ≤ 1048575 = names_few in
              let e : length c.names ≡ sizes.outputs + (sizes.public_inputs
              + (sizes.private_inputs + sizes.others)) = sizes_are in omega arith
          most PublicInputs =
              let a : length c.names ≤ 1048575 = names_few in
              let e : length c.names ≡ sizes.outputs + (sizes.public_inputs
              + (sizes.private_inputs + sizes.others)) = sizes_are in omega arith
          most PrivateInputs =
              let a : length c.names ≤ 1048575 = names_few in
              let e : length c.names ≡ sizes.outputs + (sizes.public_inputs
              + (sizes.private_inputs + sizes.others)) = sizes_are in omega arith
          most Others =
              let a : length c.names ≤ 1048575 = names_few in
              let e : length c.names ≡ sizes.outputs + (sizes.public_inputs
              + (sizes.private_inputs + sizes.others)) = sizes_are in omega arith

      few : Bounded sizes
      few g =
          let less : size_in g sizes < group_size = room g in
          let top : group_size ≤ 1048576 = room_top in omega arith

      are_cells : AllByRecursion (IsCell b.cells) b.homes
      are_cells =
          subst (λ (d : Circuit). AllByRecursion (IsCell d.cells) d.homes) its.is_circuit
          (all_are_cells p resolved group_size its.main its.main.meant its.given
          its.exec its.cast its.emitted room few)
