-- The values that a run leaves satisfy the file of its source.
use Rattle.std.proofs.Common.{◌≡◌, ◌∙◌, ℕ, zero, suc, ◌+◌, ◌<◌, ◌≤◌}
use Rattle.std.proofs.Common.{Bool, true, ◌||◌, nat_le, List}
use Rattle.std.proofs.Common.{[], ◌∷◌, All, map, length, slice_get, slice_index, Some, Ok}
use Rattle.std.proofs.Common.{refl}
use Rattle.std.proofs.Common.{sym, ap, subst, arith}
use Rattle.std.proofs.lemmas.Bool.Decides.{nat_tests}
use Rattle.std.proofs.lemmas.List.{length-map}
use Rattle.gold_field.specs.declared.form.Constraint.{Constraint}
use Rattle.gold_field.specs.declared.gold.TheConstants.{P}
use Rattle.iden_files.specs.File.{File}
use Rattle.cir_ast.specs.Program.{Program}
use Rattle.cir_lc.specs.Number.{Assignment}
use Rattle.cir_inst.specs.Table.{name_of}
use Rattle.cir_meaning.specs.Compile.{Circuit, SignalName, compiled, meaning, shown}
use Rattle.cir_meaning.specs.RunBodies.{Ending}
use Rattle.cir_meaning.specs.Scoped.{IsResolved}
use Rattle.cir_meaning.proofs.RunLaws.{names_few, run_counts, run_satisfies}
use Rattle.cir_meaning.proofs.SmallMains.{values_assigned}
use Rattle.cir_simplify.specs.declared.types.Level.{Level}
use Rattle.cir_simplify.specs.declared.types.Level.TheVariants.{O0, O1, O2}
use Rattle.cir_simplify.specs.Wires.{is_kept, is_left, kept_below}
use Rattle.cir_compile.specs.Compiled.{IsWritten}
use Rattle.cir_compile.specs.Written.{AreValues, Extends, own_count}
use Rattle.cir_compile.proofs.Wires.{Labels, labelled, label_of, place_below, few_kept}
use Rattle.circom_files.specs.Satisfaction.{Satisfies}
use Rattle.circom_gold.specs.Witness.{RunsTo, values_by_wire}

mapped : (f : ℕ → ℕ) (xs : List ℕ) (i : ℕ) → i < length xs
    → slice_index (map f xs) i ≡ f (slice_index xs i)
mapped f [] i h = absurd (omega arith)
mapped f (x ∷ xs) zero h = refl
mapped f (x ∷ xs) (suc i) h = mapped f xs i (omega arith)

there : (xs : List ℕ) (i : ℕ) → i < length xs
    → slice_get (map Some xs) i ≡ Some (Some (slice_index xs i))
there [] i h = absurd (omega arith)
there (x ∷ xs) zero h = refl
there (x ∷ xs) (suc i) h = there xs i (omega arith)

-- a place past the end counts as 0
places : (Q : ℕ → Type 0) (xs : List ℕ) → Q 0 → ((i : ℕ) → i < length xs → Q (slice_index xs i))
    → (i : ℕ) → Q (slice_index xs i)
places Q [] none h i = none
places Q (x ∷ xs) none h zero = h 0 (omega arith)
places Q (x ∷ xs) none h (suc i) = places Q xs none (λ k l. h (suc k) (omega arith)) i

zero_le : (n : ℕ) → nat_le 0 n ≡ true
zero_le n = grind (arith, nat_tests)

kept_zero : (level : Level) (own : ℕ) (list : List Constraint) → is_kept level own list 0 ≡ true
kept_zero O0 own list = refl
kept_zero O1 own list = ap (λ (b : Bool). b || is_left list 0) (zero_le own)
kept_zero O2 own list = ap (λ (b : Bool). b || is_left list 0) (zero_le own)

same_meaning : (p : Program) (c m : Circuit) → compiled p ≡ Ok c → meaning p ≡ Ok m → m ≡ c
same_meaning p c m e f =
    let both : Ok m ≡ Ok c = sym f ∙ ap (shown p) e in
    cc

module _ (p : Program) (level : Level) (f : File) (x : IsWritten p level f)
    (resolved : IsResolved p) (c : Circuit) (made : compiled p ≡ Ok c) (fuel : ℕ)
    (inputs numbers : List ℕ) (log : List (List ℕ))
    (each : length inputs ≡ c.public_inputs + c.private_inputs)
    (small : All (λ n. n < P) inputs) (runs : RunsTo p fuel inputs numbers log) where
  abbrev bound : ℕ
  bound = length x.circuit.signals.names + 1

  abbrev keeps : ℕ → Bool
  keeps = is_kept level (own_count x.circuit) x.simplified.0.list

  names_same : length x.circuit.signals.names ≡ length c.names
  names_same =
      let same : x.instantiated.0 ≡ c = same_meaning p c x.instantiated.0 made x.instantiated.1 in
      sym (length-map x.circuit.signals.names name_of)
      ∙ ap (λ (l : List SignalName). length l) x.instantiated.2.names
      ∙ ap (λ (d : Circuit). length d.names) same

  abbrev end : Ending
  end = record { values = map Some numbers; log = log }

  all_there : length numbers ≡ bound
  all_there =
      let counted : length (map Some numbers) ≡ 1 + length c.names =
      run_counts p c fuel inputs end resolved made each runs in
      omega (arith, counted, length-map numbers (λ (n : ℕ). Some n), names_same)

  labels_kept : f.labels ≡ kept_below keeps bound
  labels_kept = ap (λ (g : File). g.labels) x.file ∙ x.simplified.2.wires

  kept : keeps 0 ≡ true
  kept = kept_zero level (own_count x.circuit) x.simplified.0.list

  wires_are : f.wires ≡ length f.labels
  wires_are =
      ap (λ (g : File). g.wires) x.file ∙ sym (ap (λ (g : File). length g.labels) x.file)

  label_below : (wire : ℕ) → wire < length f.labels → slice_index f.labels wire < length numbers
  label_below wire h =
      let at : Labels keeps bound wire = labelled keeps bound wire
      (subst (λ (l : List ℕ). wire < length l) labels_kept h) in
      let is : slice_index f.labels wire ≡ at.signal =
      ap (λ (l : List ℕ). slice_index l wire) labels_kept
      ∙ ap (λ (i : ℕ). slice_index (kept_below keeps bound) i) (sym at.place)
      ∙ label_of keeps bound at.signal at.below at.kept in
      omega (arith, is, at.below, all_there)

  assigned : (s : Assignment)
      × ((i n : ℕ) → slice_get (map Some numbers) i ≡ Some (Some n) → s.at i ≡ n)
  assigned = values_assigned p fuel inputs end small runs

  number_at : (i : ℕ) → i < length numbers → assigned.0.at i ≡ slice_index numbers i
  number_at i h = assigned.1 i (slice_index numbers i) (there numbers i h)

  by_wire : (wire : ℕ) → wire < length f.labels
      → assigned.0.at (slice_index f.labels wire) ≡ slice_index (values_by_wire f numbers) wire
  by_wire wire h =
      number_at (slice_index f.labels wire) (label_below wire h)
      ∙ sym (mapped (slice_index numbers) f.labels wire h)

  -- wire 0 is signal 0
  some_label : 0 < length f.labels
  some_label =
      subst (λ (l : List ℕ). 0 < length l) (sym labels_kept)
      (place_below keeps bound 0 (omega arith) kept)

  first_label : slice_index f.labels 0 ≡ 0
  first_label =
      ap (λ (l : List ℕ). slice_index l 0) labels_kept ∙ label_of keeps bound 0 (omega arith) kept

  pub values_are : AreValues f (values_by_wire f numbers)
  values_are =
      let many : length (values_by_wire f numbers) ≡ length f.labels =
      length-map f.labels (slice_index numbers) in
      record {
        count = many ∙ sym wires_are;
        one = sym (by_wire 0 some_label) ∙ ap assigned.0.at first_label ∙ assigned.0.one;
        below =
            places (λ n. n < P) (values_by_wire f numbers) (omega arith)
            (λ i h. subst (λ n. n < P) (by_wire i (subst (λ n. i < n) many h))
            (assigned.0.below (slice_index f.labels i)));
      }

  extends : Extends f (values_by_wire f numbers) assigned.0
  extends = record { agrees = λ wire h. by_wire wire (subst (λ n. wire < n) wires_are h) }

  pub satisfied_file : Satisfies f (values_by_wire f numbers)
  satisfied_file = record {
    assignment = record { counts = values_are.count; one = values_are.one };
    holds =
        (x.means (values_by_wire f numbers) values_are).1 (
          assigned.0,
          extends,
          run_satisfies p c fuel inputs end assigned.0 resolved made each runs assigned.1,
        );
  }

  pub few_values : length (values_by_wire f numbers) ≤ 1048576
  few_values =
      omega (
        arith,
        length-map f.labels (slice_index numbers),
        ap (λ (l : List ℕ). length l) labels_kept,
        few_kept keeps bound,
        names_same,
        names_few p c made,
      )
