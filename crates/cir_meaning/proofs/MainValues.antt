-- Behind a run of a program that compiles each signal has a value, and the values satisfy it.
use Rattle.std.proofs.Common.{◌≡◌, ◌⊎◌, inl, inr, ℕ, ◌+◌, ◌-◌, ◌≤◌, ◌<◌, true, List, [], ◌∷◌}
use Rattle.std.proofs.Common.{length, Option, Some, is_some, refl, sym, ap, subst, ◌∙◌, slice_get}
use Rattle.std.proofs.Common.{arith}
use Rattle.std.specs.Prelude.{map}
use Rattle.std.specs.List.{AllByRecursion}
use Rattle.cir_lc.specs.Number.{Assignment}
use Rattle.cir_meaning.specs.Source.{Equation, IsEqualAt}
use Rattle.cir_meaning.specs.Frame.{Signals, Outputs, PublicInputs, PrivateInputs, Others, Sizes}
use Rattle.cir_meaning.specs.Frame.{World, before_group}
use Rattle.cir_meaning.specs.Compile.{Circuit, circuit_of, as_executed, renumbered_equation}
use Rattle.cir_meaning.specs.Compile.{final_number, empty_world}
use Rattle.cir_meaning.specs.Run.{Wires, Table}
use Rattle.cir_meaning.specs.RunSimple.{Outcome}
use Rattle.cir_meaning.specs.RunBodies.{all_wires, table_wire, Ending}
use Rattle.cir_meaning.proofs.Holds.{Agrees, Full}
use Rattle.cir_meaning.proofs.Weights.{below, inside, cover_entries, cover_tables, under, Bounded}
use Rattle.cir_meaning.proofs.TableWires.{tables_some, tables_agree}
use Rattle.cir_meaning.proofs.NumberPlaces.{Roomy, group_once, InGroup, in_group, values_count}
use Rattle.cir_meaning.proofs.NumberPlaces.{values_all, value_at}
use Rattle.cir_meaning.proofs.RowCounts.{Counted, sizes_counted}
use Rattle.cir_meaning.proofs.TemplateRuns.{Ran}

-- an assignment of some values
abbrev pub HasValues : Assignment → List (Option ℕ) → Type 0
HasValues s values = (i x : ℕ) → slice_get values i ≡ Some (Some x) → s.at i ≡ x

-- there is a value for signal 0 and each signal, and they make the equations equal, where there
-- are few enough
abbrev pub Fitting : ℕ → Circuit → Ending → Type 0
Fitting size c e =
    size ≤ 1048576 → length c.names < size
    → (length e.values ≡ 1 + length c.names)
    × AllByRecursion (λ o. is_some o ≡ true) e.values
    × ((s : Assignment) → HasValues s e.values → AllByRecursion (IsEqualAt s) c.equations)

without : (a b u w : ℕ) → u ≡ 0 → a + (b + u) ≡ w → a + b ≡ w
without a b u w e f = omega arith

less_of : (size l a b c d : ℕ) → l ≡ 1 + (a + (b + (c + d))) → l ≤ size
    → (a < size) × (b < size) × (c < size) × (d < size)
less_of size l a b c d e f = (omega arith, omega arith, omega arith, omega arith)

-- equations by the final numbers
renumbered_equal : (size : ℕ) (sizes : Sizes) (s : Assignment) (es : List Equation)
    → AllByRecursion (IsEqualAt (as_executed size sizes s)) es
    → AllByRecursion (IsEqualAt s) (map (renumbered_equation size sizes) es)
renumbered_equal size sizes s [] h = tt
renumbered_equal size sizes s (e ∷ es) h = (h.0, renumbered_equal size sizes s es h.1)

-- no signals
inside_none : (m low : ℕ) → inside m low 0 ≡ 0
inside_none m low =
    let end : low + 0 ≡ low = omega arith in
    ap (λ (k : ℕ). below m k - below m low) end ∙ less (below m low)
  where
    less : (n : ℕ) → n - n ≡ 0
    less n = omega arith

under_none : (size m : ℕ) → under size empty_world.sizes m ≡ 0
under_none size m =
    sum_of (inside_none m (1 + before_group size Outputs))
    (inside_none m (1 + before_group size PublicInputs))
    (inside_none m (1 + before_group size PrivateInputs))
    (inside_none m (1 + before_group size Others))
  where
    sum_of : {a b c d : ℕ} → a ≡ 0 → b ≡ 0 → c ≡ 0 → d ≡ 0 → a + (b + (c + d)) ≡ 0
    sum_of e f g h = omega arith

module _ (size : ℕ) (signals : Signals) (first last after : World) (given : Wires) (o : Outcome)
    (ran : Ran size signals given first last o) (none : first.sizes ≡ empty_world.sizes)
    (no_equations : first.equations ≡ []) (sizes_are : after.sizes ≡ last.sizes)
    (equations_are : after.equations ≡ last.equations) (rows : Counted after) where
  abbrev tables : List Table
  tables = record { signals = signals; wires = o.own } ∷ o.inside

  abbrev values : List (Option ℕ)
  values = all_wires size after.sizes tables

  full : AllByRecursion Full tables
  full = ((λ n e there k b at. ran.all n e there k b at), ran.full)

  module _ (few : Bounded after.sizes) (room : Roomy size after.sizes) where
    counted : (m : ℕ) → cover_tables m tables ≡ under size after.sizes m
    counted m =
        without (cover_entries m signals) (cover_tables m o.inside) (under size first.sizes m)
        (under size after.sizes m) (subst (λ s. under size s m ≡ 0) (sym none) (under_none size m))
        ((subst (λ s. Bounded s → (m : ℕ)
        → cover_entries m signals + (cover_tables m o.inside + under size first.sizes m)
        ≡ under size s m) (sym sizes_are) ran.weighs) few m)

    one : (m : ℕ) → cover_tables m tables ≤ 1
    one m = at (in_group size after.sizes m) (counted m)
      where
        at : {c : ℕ} → (under size after.sizes m ≡ 0) ⊎ InGroup size after.sizes m
            → c ≡ under size after.sizes m → c ≤ 1
        at (inl e) f = omega arith
        at (inr (g, i, less, is)) f =
            let all : under size after.sizes m ≡ 1 =
            ap (under size after.sizes) is ∙ group_once size after.sizes g i room less in
            omega arith

    all_there : AllByRecursion (λ o. is_some o ≡ true) values
    all_there =
        values_all size after.sizes tables (λ o. is_some o ≡ true) refl (λ g i less.
        tables_some (1 + before_group size g + i) tables
        (at_least (counted (1 + before_group size g + i)
        ∙ group_once size after.sizes g i room less)) full)
      where
        at_least : {c : ℕ} → c ≡ 1 → 1 ≤ c
        at_least e = omega arith

    agree : (s : Assignment) → HasValues s values
        → AllByRecursion (λ t. Agrees (as_executed size after.sizes s) t.signals t.wires) tables
    agree s has =
        tables_agree (as_executed size after.sizes s) tables one (λ m x some at.
        by_group m x (in_group size after.sizes m) some (counted m) at)
      where
        by_group : (m x : ℕ) → {c : ℕ}
            → (under size after.sizes m ≡ 0) ⊎ InGroup size after.sizes m
            → 1 ≤ c → c ≡ under size after.sizes m → table_wire tables m ≡ Some x
            → s.at (final_number size after.sizes m) ≡ x
        by_group m x (inl e) some f at = absurd (omega arith)
        by_group m x (inr g) some f at =
            has (final_number size after.sizes m) x
            (value_at size after.sizes tables m room g ∙ ap (λ w. Some w) at)

    all_equal : (s : Assignment) → HasValues s values
        → AllByRecursion (IsEqualAt s) (circuit_of size after).equations
    all_equal s has =
        renumbered_equal size after.sizes s after.equations
        (subst (λ es. AllByRecursion (IsEqualAt (as_executed size after.sizes s)) es)
        (sym equations_are)
        (ran.paid (as_executed size after.sizes s) (agree s has).0 (agree s has).1
        (subst (λ es. AllByRecursion (IsEqualAt (as_executed size after.sizes s)) es)
        (sym no_equations) tt)))

  pub fitting : Fitting size (circuit_of size after) record { values = values; log = o.log }
  fitting top short = (
    as_names,
    all_there bounded roomy,
    (λ s has. all_equal bounded roomy s has),
  )
    where
      count : length values ≡ 1 + (after.sizes.outputs + (after.sizes.public_inputs
          + (after.sizes.private_inputs + after.sizes.others)))
      count = values_count size after.sizes tables

      names : length (circuit_of size after).names ≡ after.sizes.outputs
          + (after.sizes.public_inputs + (after.sizes.private_inputs + after.sizes.others))
      names = sizes_counted after size rows top short

      as_names : length values ≡ 1 + length (circuit_of size after).names
      as_names = count ∙ ap (λ (n : ℕ). 1 + n) (sym names)

      all : (after.sizes.outputs < size) × (after.sizes.public_inputs < size)
          × (after.sizes.private_inputs < size) × (after.sizes.others < size)
      all =
          less_of size (length values) after.sizes.outputs after.sizes.public_inputs
          after.sizes.private_inputs after.sizes.others count
          (within (length values) (length (circuit_of size after).names) as_names short)
        where
          within : (n k : ℕ) → n ≡ 1 + k → k < size → n ≤ size
          within n k e h = omega arith

      roomy : Roomy size after.sizes
      roomy Outputs = all.0
      roomy PublicInputs = all.1
      roomy PrivateInputs = all.2
      roomy Others = all.3

      bounded : Bounded after.sizes
      bounded g = less (roomy g)
        where
          less : {n : ℕ} → n < size → n ≤ 1048576
          less h = omega arith
