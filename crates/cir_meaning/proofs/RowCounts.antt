-- The sizes of the groups are those of the rows in the table of all signals.
use Rattle.std.proofs.Common.{◌≡◌, ℕ, zero, suc, ◌+◌, ◌≤◌, ◌<◌, Bool, true, false, cond, List, []}
use Rattle.std.proofs.Common.{◌∷◌, ◌++◌, length, refl, sym, ap, subst, ◌∙◌, arith}
use Rattle.std.specs.Prelude.{◌^◌, ◌-◌, min, map, flat_map, filter, sum_by}
use Rattle.std.proofs.lemmas.List.Sums.{sum_by-append}
use Rattle.cir_meaning.specs.Limits.{count_sum}
use Rattle.cir_meaning.specs.Places.{elements, numbers_from}
use Rattle.cir_meaning.specs.Frame.{Group, Outputs, PublicInputs, PrivateInputs, Others, Sizes, Row}
use Rattle.cir_meaning.specs.Frame.{World, size_in, more_in}
use Rattle.cir_meaning.specs.Compile.{SignalName, is_of, rows_of, in_order, names_of_row}

-- the signals of a group's rows
abbrev pub row_count : Group → List Row → ℕ
row_count g [] = 0
row_count g (row ∷ rows) = cond (is_of g row) (elements row.dims) 0 + row_count g rows

abbrev pub Counted : World → Type 0
Counted w = (g : Group) → size_in g w.sizes ≡ min (row_count g w.rows) (2 ^ 64 - 1)

-- one more row
count_last : (g : Group) (rows : List Row) (row : Row)
    → row_count g (rows ++ row ∷ [])
    ≡ row_count g rows + cond (is_of g row) (elements row.dims) 0
count_last g [] row = omega arith
count_last g (r ∷ rows) row =
    let rest : row_count g (rows ++ row ∷ [])
    ≡ row_count g rows + cond (is_of g row) (elements row.dims) 0 = count_last g rows row in
    omega arith

with_same : (a n r : ℕ) → a ≡ min r (2 ^ 64 - 1) → count_sum a n ≡ min (r + n) (2 ^ 64 - 1)
with_same a n r e = omega arith

with_other : (a r : ℕ) → a ≡ min r (2 ^ 64 - 1) → a ≡ min (r + 0) (2 ^ 64 - 1)
with_other a r e = omega arith

one_more : (row : Row) (h g : Group) (n : ℕ) (s : Sizes) (r : ℕ) → row.group ≡ h
    → size_in g s ≡ min r (2 ^ 64 - 1)
    → size_in g (more_in h n s) ≡ min (r + cond (is_of g row) n 0) (2 ^ 64 - 1)
one_more row h g n s r is e =
    at h g is e
  where
    to : (h g : Group) (b : Bool) → row.group ≡ h → is_of g (record row { group = h }) ≡ b
        → is_of g row ≡ b
    to h g b is e = subst (λ x. is_of g (record row { group = x }) ≡ b) (sym is) e

    same : (h g : Group) (a : ℕ) → row.group ≡ h → is_of g (record row { group = h }) ≡ true
        → a ≡ min r (2 ^ 64 - 1) → count_sum a n ≡ min (r + cond (is_of g row) n 0) (2 ^ 64 - 1)
    same h g a is b e =
        with_same a n r e
        ∙ ap (λ c. min (r + cond c n 0) (2 ^ 64 - 1)) (sym (to h g true is b))

    other : (h g : Group) (a : ℕ) → row.group ≡ h → is_of g (record row { group = h }) ≡ false
        → a ≡ min r (2 ^ 64 - 1) → a ≡ min (r + cond (is_of g row) n 0) (2 ^ 64 - 1)
    other h g a is b e =
        with_other a r e
        ∙ ap (λ c. min (r + cond c n 0) (2 ^ 64 - 1)) (sym (to h g false is b))

    at : (h g : Group) → row.group ≡ h → size_in g s ≡ min r (2 ^ 64 - 1)
        → size_in g (more_in h n s) ≡ min (r + cond (is_of g row) n 0) (2 ^ 64 - 1)
    at Outputs Outputs is e = same Outputs Outputs s.outputs is refl e
    at Outputs PublicInputs is e = other Outputs PublicInputs s.public_inputs is refl e
    at Outputs PrivateInputs is e = other Outputs PrivateInputs s.private_inputs is refl e
    at Outputs Others is e = other Outputs Others s.others is refl e
    at PublicInputs Outputs is e = other PublicInputs Outputs s.outputs is refl e
    at PublicInputs PublicInputs is e = same PublicInputs PublicInputs s.public_inputs is refl e
    at PublicInputs PrivateInputs is e = other PublicInputs PrivateInputs s.private_inputs is refl e
    at PublicInputs Others is e = other PublicInputs Others s.others is refl e
    at PrivateInputs Outputs is e = other PrivateInputs Outputs s.outputs is refl e
    at PrivateInputs PublicInputs is e = other PrivateInputs PublicInputs s.public_inputs is refl e
    at PrivateInputs PrivateInputs is e =
        same PrivateInputs PrivateInputs s.private_inputs is refl e
    at PrivateInputs Others is e = other PrivateInputs Others s.others is refl e
    at Others Outputs is e = other Others Outputs s.outputs is refl e
    at Others PublicInputs is e = other Others PublicInputs s.public_inputs is refl e
    at Others PrivateInputs is e = other Others PrivateInputs s.private_inputs is refl e
    at Others Others is e = same Others Others s.others is refl e

pub row_more : (w : World) (row : Row) → Counted w
    → (g : Group) → size_in g (more_in row.group (elements row.dims) w.sizes)
    ≡ min (row_count g (w.rows ++ row ∷ [])) (2 ^ 64 - 1)
row_more w row h g =
    one_more row row.group g (elements row.dims) w.sizes (row_count g w.rows) refl (h g)
    ∙ ap (λ (n : ℕ). min n (2 ^ 64 - 1)) (sym (count_last g w.rows row))

-- the names of the signals
total : List Row → ℕ
total [] = 0
total (row ∷ rows) = elements row.dims + total rows

total_joined : (xs ys : List Row) → total (xs ++ ys) ≡ total xs + total ys
unfolding total
total_joined [] ys = omega arith
total_joined (x ∷ xs) ys =
    let rest : total (xs ++ ys) ≡ total xs + total ys = total_joined xs ys in omega arith

total_of : (g : Group) (rows : List Row) → total (rows_of g rows) ≡ row_count g rows
unfolding total
total_of g [] = refl
total_of g (row ∷ rows) = at (is_of g row) (total_of g rows)
  where
    at : (b : Bool) → total (filter (is_of g) rows) ≡ row_count g rows
        → total (cond b (row ∷ filter (is_of g) rows) (filter (is_of g) rows))
        ≡ cond b (elements row.dims) 0 + row_count g rows
    at true h = ap (λ (n : ℕ). elements row.dims + n) h
    at false h = omega arith

count_joined : {A : Type 0} (xs ys : List A) → length (xs ++ ys) ≡ length xs + length ys
count_joined [] ys = omega arith
count_joined (x ∷ xs) ys =
    let rest : length (xs ++ ys) ≡ length xs + length ys = count_joined xs ys in omega arith

map_count : (f : ℕ → SignalName) (a n : ℕ) → length (map f (numbers_from a n)) ≡ n
map_count f a zero = refl
map_count f a (suc n) = ap (λ (k : ℕ). suc k) (map_count f (a + 1) n)

names_total : (rows : List Row) → length (flat_map names_of_row rows) ≡ total rows
unfolding total
names_total [] = refl
names_total (row ∷ rows) =
    count_joined (names_of_row row) (flat_map names_of_row rows)
    ∙ both (map_count _ 0 (elements row.dims)) (names_total rows)
  where
    both : {a b c d : ℕ} → a ≡ b → c ≡ d → a + c ≡ b + d
    both e f = omega arith

pub names_count : (rows : List Row) → length (flat_map names_of_row (in_order rows))
    ≡ row_count Outputs rows + (row_count PublicInputs rows + (row_count PrivateInputs rows
    + row_count Others rows))
names_count rows =
    names_total (in_order rows)
    ∙ total_joined (rows_of Outputs rows) (rows_of PublicInputs rows ++
    (rows_of PrivateInputs rows ++ rows_of Others rows))
    ∙ both (total_of Outputs rows)
    (total_joined (rows_of PublicInputs rows) (rows_of PrivateInputs rows ++ rows_of Others rows)
    ∙ both (total_of PublicInputs rows)
    (total_joined (rows_of PrivateInputs rows) (rows_of Others rows)
    ∙ both (total_of PrivateInputs rows) (total_of Others rows)))
  where
    both : {a b c d : ℕ} → a ≡ b → c ≡ d → a + c ≡ b + d
    both e f = omega arith

-- each row is of one group
total_groups : (rows : List Row) → total rows
    ≡ row_count Outputs rows + (row_count PublicInputs rows + (row_count PrivateInputs rows
    + row_count Others rows))
unfolding total
total_groups [] = refl
total_groups (row ∷ rows) =
    one row row.group (total rows) (row_count Outputs rows) (row_count PublicInputs rows)
    (row_count PrivateInputs rows) (row_count Others rows) (total_groups rows)
  where
    one : (row : Row) (g : Group) (n a b c d : ℕ) → n ≡ a + (b + (c + d))
        → elements row.dims + n
        ≡ (cond (is_of Outputs (record row { group = g })) (elements row.dims) 0 + a)
        + ((cond (is_of PublicInputs (record row { group = g })) (elements row.dims) 0 + b)
        + ((cond (is_of PrivateInputs (record row { group = g })) (elements row.dims) 0 + c)
        + (cond (is_of Others (record row { group = g })) (elements row.dims) 0 + d)))
    one row Outputs n a b c d e = omega arith
    one row PublicInputs n a b c d e = omega arith
    one row PrivateInputs n a b c d e = omega arith
    one row Others n a b c d e = omega arith

total_sum : (rows : List Row) → total rows ≡ sum_by (λ r. elements r.dims) rows
unfolding total
total_sum [] = refl
total_sum (row ∷ rows) =
    let one : sum_by (λ (r : Row). elements r.dims) (row ∷ []) ≡ elements row.dims = omega arith in
    let all : sum_by (λ (r : Row). elements r.dims) (row ∷ rows)
    ≡ sum_by (λ (r : Row). elements r.dims) (row ∷ [])
    + sum_by (λ (r : Row). elements r.dims) rows =
    sum_by-append (λ (r : Row). elements r.dims) (row ∷ []) rows in
    let rest : total rows ≡ sum_by (λ (r : Row). elements r.dims) rows = total_sum rows in
    omega arith

pub names_all : (rows : List Row) → length (flat_map names_of_row (in_order rows))
    ≡ sum_by (λ r. elements r.dims) rows
names_all rows = names_count rows ∙ sym (total_groups rows) ∙ total_sum rows

-- few signals are counted as they are
exact : (a r n k : ℕ) → a ≡ min r (2 ^ 64 - 1) → r ≤ n → n < k → k ≤ 1048576 → a ≡ r
exact a r n k e less few top = omega arith

pub sizes_counted : (w : World) (k : ℕ) → Counted w → k ≤ 1048576
    → length (flat_map names_of_row (in_order w.rows)) < k
    → length (flat_map names_of_row (in_order w.rows))
    ≡ w.sizes.outputs + (w.sizes.public_inputs + (w.sizes.private_inputs + w.sizes.others))
sizes_counted w k h top few =
    all (length (flat_map names_of_row (in_order w.rows))) (row_count Outputs w.rows)
    (row_count PublicInputs w.rows) (row_count PrivateInputs w.rows) (row_count Others w.rows)
    w.sizes.outputs w.sizes.public_inputs w.sizes.private_inputs w.sizes.others
    (names_count w.rows) few (h Outputs) (h PublicInputs) (h PrivateInputs) (h Others)
  where
    all : (n a b c d x y z u : ℕ) → n ≡ a + (b + (c + d)) → n < k → x ≡ min a (2 ^ 64 - 1)
        → y ≡ min b (2 ^ 64 - 1) → z ≡ min c (2 ^ 64 - 1) → u ≡ min d (2 ^ 64 - 1)
        → n ≡ x + (y + (z + u))
    all n a b c d x y z u e few ex ey ez eu =
        let one : x ≡ a = exact x a n k ex (omega arith) few top in
        let two : y ≡ b = exact y b n k ey (omega arith) few top in
        let three : z ≡ c = exact z c n k ez (omega arith) few top in
        let four : u ≡ d = exact u d n k eu (omega arith) few top in omega arith
