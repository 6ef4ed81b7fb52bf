-- The tables of names and of inputs, row by row.
use Rattle.std.proofs.Common.{◌≡◌, ℕ, suc, ◌+◌, ◌-◌, ◌<◌, Bool, true, false, cond, List, [], ◌∷◌}
use Rattle.std.proofs.Common.{◌++◌, map, refl, sym, ap, ◌∙◌, append_assoc, arith}
use Rattle.std.specs.Prelude.{flat_map, sum_by}
use Rattle.std.proofs.lemmas.List.{map-append}
use Rattle.std.proofs.lemmas.List.Sums.{sum_by-cons}
use Rattle.cir_values.specs.declared.signals.SignalName.{SignalName}
use Rattle.cir_values.specs.declared.signals.InputShape.{InputShape}
use Rattle.cir_meaning.specs.Places.{elements, brackets, numbers_from}
use Rattle.cir_meaning.specs.Frame as F
use Rattle.cir_meaning.specs.Compile as M
use Rattle.cir_meaning.specs.Compile.{is_of, rows_of, names_of_row, shapes_of}
use Rattle.cir_frame.specs.declared.world.Group.{Group}
use Rattle.cir_frame.specs.declared.world.Group.TheVariants.{Outputs, PublicInputs, PrivateInputs}
use Rattle.cir_frame.specs.declared.world.Group.TheVariants.{Others}
use Rattle.cir_frame.specs.declared.world.Row.{Row}
use Rattle.cir_frame.specs.Shown.{group_of, row_of}
use Rattle.cir_inst.specs.Table.{name_of, shape_of}

-- the names of so many elements, from the first on
abbrev pub names_from : F.Row → ℕ → ℕ → List M.SignalName
names_from row first count =
    map (λ place. record {
      instance = row.instance;
      base = row.name ++ brackets row.dims;
      place = place;
    }) (numbers_from first count)

pub append_none : {A : Type 0} (xs : List A) → xs ++ [] ≡ xs
append_none [] = refl
append_none (x ∷ xs) = ap (λ (ys : List _). x ∷ ys) (append_none xs)

shift : {A : Type 0} (a : List A) (x : A) (b : List A) → (a ++ x ∷ []) ++ b ≡ a ++ (x ∷ b)
shift a x b = append_assoc a (x ∷ []) b

pub names_step : (names : List SignalName) (n : SignalName) (row : F.Row) (place end : ℕ)
    → place < end → n.instance ≡ row.instance → n.base ≡ row.name ++ brackets row.dims
    → n.place ≡ place
    → map name_of (names ++ n ∷ []) ++ names_from row (place + 1) (end - (place + 1))
    ≡ map name_of names ++ names_from row place (end - place)
names_step names n row place end h i b p =
    let one : M.SignalName = record {
      instance = row.instance;
      base = row.name ++ brackets row.dims;
      place = place;
    } in
    let same : name_of n ≡ one = λ j. record { instance = i j; base = b j; place = p j } in
    let rest : List M.SignalName = names_from row (place + 1) (end - (place + 1)) in
    let count : suc (end - (place + 1)) ≡ end - place = omega arith in
    ap (λ (xs : List M.SignalName). xs ++ rest) (map-append name_of names (n ∷ []))
    ∙ shift (map name_of names) (name_of n) rest
    ∙ ap (λ (x : M.SignalName). map name_of names ++ (x ∷ rest)) same
    ∙ ap (λ (c : ℕ). map name_of names ++ names_from row place c) count

pub names_end : (names : List M.SignalName) (row : F.Row) (place end : ℕ) → end - place ≡ 0
    → names ++ names_from row place (end - place) ≡ names
names_end names row place end h =
    ap (λ (c : ℕ). names ++ names_from row place c) h ∙ append_none names

-- whether a row is of the group
pub of_group : (g h : Group) → g ≡ h → (row : F.Row) → row.group ≡ group_of g
    → is_of (group_of h) row ≡ true
of_group g h same row e =
    ap (λ (k : F.Group). is_of (group_of h) (record row { group = k })) e
    ∙ ap (λ (k : Group). is_of (group_of h) (record row { group = group_of k })) same ∙ at h
  where
    at : (h : Group) → is_of (group_of h) (record row { group = group_of h }) ≡ true
    at Outputs = refl
    at PublicInputs = refl
    at PrivateInputs = refl
    at Others = refl

pub of_other : (g h : Group) → (g ≡ h → ⊥) → (row : F.Row) → row.group ≡ group_of g
    → is_of (group_of h) row ≡ false
of_other g h ne row e =
    ap (λ (k : F.Group). is_of (group_of h) (record row { group = k })) e ∙ at g h ne
  where
    at : (g h : Group) → (g ≡ h → ⊥)
        → is_of (group_of h) (record row { group = group_of g }) ≡ false
    at Outputs Outputs ne = absurd (ne refl)
    at Outputs PublicInputs ne = refl
    at Outputs PrivateInputs ne = refl
    at Outputs Others ne = refl
    at PublicInputs Outputs ne = refl
    at PublicInputs PublicInputs ne = absurd (ne refl)
    at PublicInputs PrivateInputs ne = refl
    at PublicInputs Others ne = refl
    at PrivateInputs Outputs ne = refl
    at PrivateInputs PublicInputs ne = refl
    at PrivateInputs PrivateInputs ne = absurd (ne refl)
    at PrivateInputs Others ne = refl
    at Others Outputs ne = refl
    at Others PublicInputs ne = refl
    at Others PrivateInputs ne = refl
    at Others Others ne = absurd (ne refl)

-- the rows of a group
abbrev pub rows_in : Group → List Row → List F.Row
rows_in g rows = rows_of (group_of g) (map row_of rows)

pub row_taken : (g : Group) (row : Row) (rows : List Row)
    → is_of (group_of g) (row_of row) ≡ true
    → rows_in g (row ∷ rows) ≡ row_of row ∷ rows_in g rows
row_taken g row rows t =
    ap (λ (b : Bool). cond b (row_of row ∷ rows_in g rows) (rows_in g rows)) t

pub row_passed : (g : Group) (row : Row) (rows : List Row)
    → is_of (group_of g) (row_of row) ≡ false
    → rows_in g (row ∷ rows) ≡ rows_in g rows
row_passed g row rows t =
    ap (λ (b : Bool). cond b (row_of row ∷ rows_in g rows) (rows_in g rows)) t

abbrev pub names_in : Group → List Row → List M.SignalName
names_in g rows = flat_map names_of_row (rows_in g rows)

pub names_taken : (acc more : List M.SignalName) (g : Group) (row : Row) (rows : List Row)
    → is_of (group_of g) (row_of row) ≡ true → more ≡ acc ++ names_of_row (row_of row)
    → more ++ names_in g rows ≡ acc ++ names_in g (row ∷ rows)
names_taken acc more g row rows t e =
    ap (λ (xs : List M.SignalName). xs ++ names_in g rows) e
    ∙ append_assoc acc (names_of_row (row_of row)) (names_in g rows)
    ∙ ap (λ (rs : List F.Row). acc ++ flat_map names_of_row rs) (sym (row_taken g row rows t))

-- inputs
abbrev pub total_of : List F.Row → ℕ
total_of rows = sum_by (λ r. elements r.dims) rows

total_cons : (x : F.Row) (xs : List F.Row) → total_of (x ∷ xs) ≡ elements x.dims + total_of xs
total_cons x xs = sum_by-cons (λ (r : F.Row). elements r.dims) x xs

pub shapes_append : (first : ℕ) (xs ys : List F.Row)
    → shapes_of first (xs ++ ys) ≡ shapes_of first xs ++ shapes_of (first + total_of xs) ys
shapes_append first [] ys = ap (λ (n : ℕ). shapes_of n ys) (omega arith)
shapes_append first (x ∷ xs) ys =
    let n : ℕ = elements x.dims in
    ap (λ (ss : List M.InputShape). record { name = x.name; first = first; count = n } ∷ ss)
    (shapes_append (first + n) xs ys
    ∙ ap (λ (k : ℕ). shapes_of (first + n) xs ++ shapes_of k ys)
    (omega (arith, total_cons x xs)))

pub total_taken : (g : Group) (row : Row) (rows : List Row) (next : ℕ)
    → is_of (group_of g) (row_of row) ≡ true
    → next + total_of (rows_in g (row ∷ rows))
    ≡ next + elements row.dims.items + total_of (rows_in g rows)
total_taken g row rows next t =
    ap (λ (rs : List F.Row). next + total_of rs) (row_taken g row rows t)
    ∙ omega (arith, total_cons (row_of row) (rows_in g rows))

pub shapes_taken : (inputs : List InputShape) (i : InputShape) (g : Group) (row : Row)
    (rows : List Row) (next : ℕ) → is_of (group_of g) (row_of row) ≡ true
    → i ≡ record { name = row.name; first = next; count = elements row.dims.items }
    → map shape_of (inputs ++ i ∷ []) ++ shapes_of (next + elements row.dims.items) (rows_in g rows)
    ≡ map shape_of inputs ++ shapes_of next (rows_in g (row ∷ rows))
shapes_taken inputs i g row rows next t e =
    let rest : List M.InputShape = shapes_of (next + elements row.dims.items) (rows_in g rows) in
    ap (λ (xs : List M.InputShape). xs ++ rest) (map-append shape_of inputs (i ∷ []))
    ∙ shift (map shape_of inputs) (shape_of i) rest
    ∙ ap (λ (x : InputShape). map shape_of inputs ++ (shape_of x ∷ rest)) e
    ∙ ap (λ (rs : List F.Row). map shape_of inputs ++ shapes_of next rs)
    (sym (row_taken g row rows t))
