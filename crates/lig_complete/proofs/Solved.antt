-- The linear system, combined, times the values of the matrix.
use Rattle.std.proofs.Common.{◌≡◌, ℕ, zero, suc, ◌+◌, ◌-◌, ◌*◌, ◌%◌, ◌<◌, ◌≤◌, All, List, [], ◌∷◌}
use Rattle.std.proofs.Common.{◌++◌, length, get_or, slice_index, map, replicate, refl, sym, ap}
use Rattle.std.proofs.Common.{subst, ◌∙◌, arith}
use Rattle.std.specs.List.{AllByRecursion}
use Rattle.std.proofs.lemmas.Nat.{pow_pos}
use Rattle.std.proofs.lemmas.List.{length-append, length-replicate}
use Rattle.std.proofs.lemmas.List.Elements.{All-nil, All-cons, All-head, All-tail, All-append}
use Rattle.std.proofs.lemmas.List.Elements.{All-weaker}
use Rattle.gold_field.specs.declared.gold.TheConstants.{P}
use Rattle.gold_field.specs.declared.form.Term.{Term}
use Rattle.gold_field.specs.declared.form.Constraint.{Constraint}
use Rattle.gold_field.specs.Form.{SignalsBelow, ConstraintBelow, value_at}
use Rattle.gold_ntt.specs.Polynomial.{sum_to}
use Rattle.gold_ntt.proofs.Sums.{sum_same, sum-zero, sum_first}
use Rattle.iden_files.specs.File.{File, IsFile}
use Rattle.lig_layout.specs.declared.params.Params.{Params}
use Rattle.lig_layout.specs.declared.side.Side.{Side}
use Rattle.lig_layout.specs.declared.side.Side.TheVariants.{A, B, C}
use Rattle.lig_layout.specs.Sides.{form_of, forms}
use Rattle.lig_layout.specs.Sizes.{params_of}
use Rattle.lig_layout.specs.Width.{width_exponent}
use Rattle.lig_layout.specs.Layout.{message, x_start, y_start, z_start}
use Rattle.lig_layout.specs.System.{combined, differences, wire_forms, known_wires, left_sides}
use Rattle.lig_layout.specs.System.{public_count, right_sides, equation_count}
use Rattle.lig_layout.specs.Laws.{inner_product, combined_values}
use Rattle.lig_layout.specs.Solutions.{SolvesSystem}
use Rattle.lig_layout.specs.declared.matrix.Vectors.{Vectors}
use Rattle.lig_layout.proofs.Products.{linear}
use Rattle.lig_layout.proofs.Wired.{side_below, ceil_room}
use Rattle.lig_complete.proofs.Hashes.{all_append}
use Rattle.lig_complete.proofs.Sizes.{Fits}
use Rattle.lig_complete.proofs.Matrix.{length-message}

-- the products of two lists, as a sum over their places
pub product_sum : (n : ℕ) (xs ys : List ℕ) → length ys ≤ n
    → inner_product xs ys ≡ sum_to n (λ i. get_or xs i 0 * get_or ys i 0)
product_sum n [] ys fits =
    sym (sum_same n (λ i. 0 * get_or ys i 0) (λ i. 0) (λ i l. omega arith) ∙ sum-zero n)
product_sum n (x ∷ xs) [] fits =
    sym (sum_same n (λ i. get_or (x ∷ xs) i 0 * 0) (λ i. 0) (λ i l. omega arith) ∙ sum-zero n)
product_sum zero (x ∷ xs) (y ∷ ys) fits = absurd (omega arith)
product_sum (suc n) (x ∷ xs) (y ∷ ys) fits =
    ap (λ (s : ℕ). x * y + s) (product_sum n xs ys (omega arith))
    ∙ sym (sum_first n (λ i. get_or (x ∷ xs) i 0 * get_or (y ∷ ys) i 0))

combined_product : (values r : List ℕ) (forms : List (List Term))
    → combined_values values r forms ≡ inner_product r (map (value_at (slice_index values)) forms)
combined_product values [] forms = refl
combined_product values (n ∷ r) [] = refl
combined_product values (n ∷ r) (form ∷ forms) =
    ap (λ (s : ℕ). n * value_at (slice_index values) form + s) (combined_product values r forms)

differences_below : (n m place : ℕ) (side : Side) (ks : List Constraint) → n ≤ m
    → All (ConstraintBelow n) ks → place + length ks ≤ m
    → AllByRecursion (SignalsBelow m) (differences place (forms side ks))
differences_below n m place side [] le wired fits = tt
differences_below n m place side (k ∷ ks) le wired fits =
    let Low : Term → Type 0 = λ t. t.signal < m in
    let form = form_of side k in
    let own : Term = record { signal = place; coef = P - 1 } in
    let here : All Low form =
    All-weaker (λ (t : Term). t.signal < n) Low (λ t l. omega arith) form
    (side_below n side k (All-head (ConstraintBelow n) k ks wired)) in
    let last : All Low (own ∷ []) = All-cons Low own [] (omega arith) (All-nil Low) in (
      All-append Low form (own ∷ []) here last,
      differences_below n m (place + 1) side ks le (All-tail (ConstraintBelow n) k ks wired)
          (omega arith),
    )

wires_below : (m wire count : ℕ) → wire + count ≤ m
    → AllByRecursion (SignalsBelow m) (wire_forms wire count)
wires_below m wire zero fits = tt
wires_below m wire (suc count) fits =
    let Low : Term → Type 0 = λ t. t.signal < m in
    let own : Term = record { signal = wire; coef = 1 } in
    (All-cons Low own [] (omega arith) (All-nil Low), wires_below m (wire + 1) count (omega arith))

-- every place that the system names is one of the matrix
left_below : (p : Params) (f : File) → IsFile f → f.wires ≤ p.wire_rows * p.l
    → length f.constraints ≤ p.constraint_rows * p.l → p.rows ≡ p.wire_rows + 3 * p.constraint_rows
    → AllByRecursion (SignalsBelow (p.rows * p.l)) (left_sides p f)
left_below p f file wires sides rows =
    let m = p.rows * p.l in
    let ks = f.constraints in
    let Low = SignalsBelow m in
    let whole : m ≡ p.wire_rows * p.l + 3 * (p.constraint_rows * p.l) =
    ap (λ (n : ℕ). n * p.l) rows ∙ omega arith in
    let numbered = file.numbered in
    let le : f.wires ≤ m = omega arith in
    let a = differences (x_start p) (forms A ks) in
    let b = differences (y_start p) (forms B ks) in
    let c = differences (z_start p) (forms C ks) in
    let d = wire_forms 0 (known_wires f) in
    all_append Low a (b ++ (c ++ d))
    (differences_below f.wires m (x_start p) A ks le file.wired (omega arith))
    (all_append Low b (c ++ d)
    (differences_below f.wires m (y_start p) B ks le file.wired (omega arith))
    (all_append Low c d (differences_below f.wires m (z_start p) C ks le file.wired (omega arith))
    (wires_below m 0 (known_wires f) (omega arith))))

pub length-right_sides : (f : File) (publics : List ℕ)
    → length publics ≡ public_count f → length (right_sides f publics)
    ≡ equation_count f
length-right_sides f publics count =
    let zeros = replicate {A = ℕ} (3 * length f.constraints) 0 in
    omega (
      arith,
      length-append zeros (1 ∷ publics),
      length-replicate {A = ℕ} (3 * length f.constraints) 0,
    )

-- the combined system, times the values of the matrix of any vectors, is the combination of the
-- values of the left sides
pub combined_system : (f : File) (v : Vectors) (r : List ℕ) → IsFile f → Fits (params_of f) v
    → (let p = params_of f in
    let m = message p v in
    let n = p.rows * p.l in
    sum_to n (λ i. get_or (combined n r (left_sides p f)) i 0 * get_or m i 0) % P
    ≡ combined_values m r (left_sides p f) % P)
combined_system f v r file fits =
    let p = params_of f in
    let m = message p v in
    let n = p.rows * p.l in
    let lefts = left_sides p f in
    let size = length-message p v fits in
    let exponent = width_exponent (f.wires + 3 * length f.constraints) in
    let Within : ℕ → Type 0 = λ k. AllByRecursion (SignalsBelow k) lefts in
    let wires : f.wires ≤ p.wire_rows * p.l = ceil_room f.wires p.l (pow_pos exponent) in
    let sides : length f.constraints ≤ p.constraint_rows * p.l =
    ceil_room (length f.constraints) p.l (pow_pos exponent) in
    let below = subst Within (sym size) (left_below p f file wires sides refl) in
    ap (λ (s : ℕ). s % P) (sym (product_sum n (combined n r lefts) m (omega arith)))
    ∙ ap (λ (k : ℕ). inner_product (combined k r lefts) m % P) (sym size)
    ∙ linear m r lefts below

-- the combination of the left sides' values is that of the right sides where they are equal
pub solved_combined : (f : File) (publics : List ℕ) (v : Vectors) (r : List ℕ)
    → SolvesSystem f publics v
    → combined_values (message (params_of f) v) r (left_sides (params_of f) f) % P
    ≡ inner_product r (right_sides f publics) % P
solved_combined f publics v r solved =
    ap (λ (s : ℕ). s % P)
    (combined_product (message (params_of f) v) r (left_sides (params_of f) f)
    ∙ ap (λ (values : List ℕ). inner_product r values) solved)
