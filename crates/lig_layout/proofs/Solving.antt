-- The vectors of a file solve its system.
use Rattle.std.proofs.Common.{◌≡◌, ℕ, zero, suc, ◌+◌, ◌-◌, ◌*◌, ◌%◌, ◌<◌, ◌≤◌, List, [], ◌∷◌, ◌++◌}
use Rattle.std.proofs.Common.{All, length, map, replicate, take, drop, slice_index, refl, sym, ap}
use Rattle.std.proofs.Common.{◌∙◌, arith}
use Rattle.std.proofs.Math.Nat.{mod-eq_of_lt}
use Rattle.std.proofs.lemmas.Nat.{pow_pos}
use Rattle.std.proofs.lemmas.List.{length-append, length-replicate, length-map, get_or_append_left}
use Rattle.std.proofs.lemmas.List.{get_or-append-add, map-append, replicate-append-replicate}
use Rattle.std.proofs.lemmas.List.{drop_more, append_assoc}
use Rattle.std.proofs.lemmas.List.Sums.{sum_by-append}
use Rattle.gold_field.specs.declared.gold.TheConstants.{P}
use Rattle.gold_field.specs.declared.form.Term.{Term}
use Rattle.gold_field.specs.declared.form.Constraint.{Constraint}
use Rattle.gold_field.specs.Form.{SignalsBelow, ConstraintBelow, value_at}
use Rattle.iden_files.specs.File.{File}
use Rattle.lig_layout.specs.declared.matrix.Vectors.{Vectors}
use Rattle.lig_layout.specs.declared.side.Side.{Side}
use Rattle.lig_layout.specs.declared.side.Side.TheVariants.{A, B, C}
use Rattle.lig_layout.specs.Sides.{form_of, forms}
use Rattle.lig_layout.specs.Sizes.{params_of}
use Rattle.lig_layout.specs.Width.{width_exponent}
use Rattle.lig_layout.specs.Layout.{padded, message, vectors_of, x_start, y_start, z_start}
use Rattle.lig_layout.specs.System.{differences, wire_forms, known_wires}
use Rattle.lig_layout.specs.Laws.{VectorsSolve, publics_of}
use Rattle.lig_layout.proofs.Wired.{ceil_room, side_below}
use Rattle.lig_layout.proofs.Products.{exact}

pub length-padded : (n : ℕ) (xs : List ℕ) → length xs ≤ n → length (padded n xs) ≡ n
length-padded n xs h =
    omega (
      arith,
      length-append xs (replicate (n - length xs) 0),
      length-replicate {A = ℕ} (n - length xs) 0,
    )

-- within what is padded, with more behind
in_front : (n k : ℕ) (xs ys : List ℕ) → length xs ≤ n → k < length xs
    → slice_index (padded n xs ++ ys) k ≡ slice_index xs k
in_front n k xs ys h within =
    get_or_append_left (padded n xs) ys 0 k (omega (arith, length-padded n xs h))
    ∙ get_or_append_left xs (replicate (n - length xs) 0) 0 k within

-- behind what is padded
behind : (n k : ℕ) (xs ys : List ℕ) → length xs ≤ n → slice_index (padded n xs ++ ys) (n + k)
    ≡ slice_index ys k
behind n k xs ys h = ap (λ a. slice_index (padded n xs ++ ys) (a + k)) (sym (length-padded n xs h))
    ∙ get_or-append-add (padded n xs) ys k 0

-- a form has one value at lists that agree on its signals
pub exact-same : (n : ℕ) (m w : List ℕ) (form : List Term)
    → ((i : ℕ) → i < n → slice_index m i ≡ slice_index w i) → SignalsBelow n form
    → exact m form ≡ exact w form
exact-same n m w [] same below = refl
exact-same n m w (t ∷ form) same below =
    let rest = exact-same n m w form same (λ k d within. below (suc k) d (omega arith)) in
    let here = ap (λ x. t.coef * x) (same t.signal (below 0 t (omega arith))) in
    let in_m = sum_by-append (λ (u : Term). u.coef * slice_index m u.signal) (t ∷ []) form in
    let in_w = sum_by-append (λ (u : Term). u.coef * slice_index w u.signal) (t ∷ []) form in
    omega (arith, rest, here, in_m, in_w)

taken_away : (s r : ℕ) → r ≡ s % P → (s + (0 + (P - 1) * r)) % P ≡ 0
taken_away s r e = omega arith

-- the equations of one side hold
one_side : (n st : ℕ) (m w : List ℕ) (side : Side) (ks : List Constraint)
    → ((i : ℕ) → i < n → slice_index m i ≡ slice_index w i) → All (ConstraintBelow n) ks
    → ((k : ℕ) → k < length ks
    → slice_index m (st + k)
    ≡ slice_index (map (λ c. value_at (slice_index w) (form_of side c)) ks) k)
    → map (value_at (slice_index m)) (differences st (forms side ks)) ≡ replicate (length ks) 0
one_side n st m w side [] same below there = refl
one_side n st m w side (c ∷ ks) same below there =
    let form = form_of side c in
    let unknown : Term = record { signal = st; coef = P - 1 } in
    let sum = sum_by-append (λ (u : Term). u.coef * slice_index m u.signal) form (unknown ∷ []) in
    let agree = exact-same n m w form same (side_below n side c (below 0 c (omega arith))) in
    let place : st ≡ st + 0 = omega arith in
    let known : slice_index m st ≡ exact m form % P =
    ap (slice_index m) place ∙ there 0 (omega arith) ∙ ap (λ x. x % P) (sym agree) in
    let first : value_at (slice_index m) (form ++ unknown ∷ []) ≡ 0 =
    ap (λ x. x % P) sum ∙ taken_away (exact m form) (slice_index m st) known in
    let rest = one_side n (st + 1) m w side ks same (λ k d within. below (suc k) d (omega arith))
    (λ k within. let next : st + 1 + k ≡ st + suc k = omega arith in ap (slice_index m) next
    ∙ there (suc k) (omega arith)) in
    ap (λ x. x ∷ map (value_at (slice_index m)) (differences (st + 1) (forms side ks))) first
    ∙ ap (λ xs. 0 ∷ xs) rest

-- the first wires have their values
pub wires_known : (n i count : ℕ) (m w : List ℕ)
    → ((i : ℕ) → i < n → slice_index m i ≡ slice_index w i)
    → ((i : ℕ) → slice_index w i < P) → n ≤ length w → i + count ≤ n
    → map (value_at (slice_index m)) (wire_forms i count) ≡ take count (drop i w)
wires_known n i zero m w same reduced whole h = refl
wires_known n i (suc count) m w same reduced whole h =
    let first : value_at (slice_index m) (record { signal = i; coef = 1 } ∷ []) ≡ slice_index w i =
    ap (λ x. (0 + 1 * x) % P) (same i (omega arith)) ∙ ap (λ x. x % P) (omega arith)
    ∙ mod-eq_of_lt (reduced i) in
    let rest = wires_known n (i + 1) count m w same reduced whole (omega arith) in
    ap (λ x. x ∷ map (value_at (slice_index m)) (wire_forms (i + 1) count)) first
    ∙ ap (λ xs. slice_index w i ∷ xs) rest
    ∙ ap (take (suc count)) (sym (drop_more w i 0 (omega arith)))

pub zeros : (q : ℕ)
    → replicate {A = ℕ} q 0 ++ (replicate q 0 ++ replicate q 0) ≡ replicate (3 * q) 0
zeros q =
    let two : replicate {A = ℕ} q 0 ++ replicate q 0 ≡ replicate (q + q) 0 =
    replicate-append-replicate q q 0 in
    let three : replicate {A = ℕ} q 0 ++ replicate (q + q) 0 ≡ replicate (q + (q + q)) 0 =
    replicate-append-replicate q (q + q) 0 in
    let count : q + (q + q) ≡ 3 * q = omega arith in
    ap (λ xs. replicate {A = ℕ} q 0 ++ xs) two ∙ three ∙ ap (λ n. replicate {A = ℕ} n 0) count

pub three_maps : (g : List Term → ℕ) (a b c d : List (List Term))
    → map g (a ++ (b ++ (c ++ d))) ≡ map g a ++ (map g b ++ (map g c ++ map g d))
three_maps g a b c d = map-append g a (b ++ (c ++ d))
    ∙ ap (λ x. map g a ++ x) (map-append g b (c ++ d) ∙ ap (λ x. map g b ++ x) (map-append g c d))

pub regroup : (z k : List ℕ) → z ++ (z ++ (z ++ k)) ≡ (z ++ (z ++ z)) ++ k
regroup z k = sym (simp append_assoc)

-- the first wires are wire 0 and the public ones
pub known_taken : (f : File) (w : List ℕ) → 0 < length w
    → take (known_wires f) (drop 0 w) ≡ slice_index w 0 ∷ publics_of f w
known_taken f w some =
    let count : known_wires f ≡ suc (f.outputs + f.public_inputs) = omega arith in
    ap (λ n. take n w) count
    ∙ ap (take (suc (f.outputs + f.public_inputs))) (drop_more w 0 0 some)

-- the places of vectors with a value for each wire and each constraint
module _ (f : File) (v : Vectors) (w_count : length v.w ≡ f.wires)
    (x_count : length v.x ≡ length f.constraints) (y_count : length v.y ≡ length f.constraints)
    (z_count : length v.z ≡ length f.constraints) where
  abbrev wires : ℕ
  wires = (params_of f).wire_rows * (params_of f).l

  abbrev side : ℕ
  side = (params_of f).constraint_rows * (params_of f).l

  abbrev rest_y : List ℕ
  rest_y = padded side v.y ++ padded side v.z

  abbrev rest_x : List ℕ
  rest_x = padded side v.x ++ rest_y

  abbrev values : List ℕ
  values = message (params_of f) v

  pos : 0 < (params_of f).l
  pos = pow_pos (width_exponent (f.wires + 3 * length f.constraints))

  room : length v.w ≤ wires
  room = omega (arith, w_count, ceil_room f.wires (params_of f).l pos)

  side_room : length f.constraints ≤ side
  side_room = ceil_room (length f.constraints) (params_of f).l pos

  pub wires_at : (i : ℕ) → i < f.wires → slice_index values i ≡ slice_index v.w i
  wires_at i h = in_front wires i v.w rest_x room (omega (arith, w_count))

  pub x_at : (k : ℕ) → k < length f.constraints
      → slice_index values (x_start (params_of f) + k) ≡ slice_index v.x k
  x_at k h =
      behind wires k v.w rest_x room
      ∙ in_front side k v.x rest_y (omega (arith, x_count, side_room)) (omega (arith, x_count))

  pub y_at : (k : ℕ) → k < length f.constraints
      → slice_index values (y_start (params_of f) + k) ≡ slice_index v.y k
  y_at k h =
      let place : y_start (params_of f) + k ≡ wires + (side + k) = omega arith in
      ap (slice_index values) place ∙ behind wires (side + k) v.w rest_x room
      ∙ behind side k v.x rest_y (omega (arith, x_count, side_room))
      ∙ in_front side k v.y (padded side v.z) (omega (arith, y_count, side_room))
      (omega (arith, y_count))

  pub z_at : (k : ℕ) → k < length f.constraints
      → slice_index values (z_start (params_of f) + k) ≡ slice_index v.z k
  z_at k h =
      let place : z_start (params_of f) + k ≡ wires + (side + (side + k)) = omega arith in
      ap (slice_index values) place ∙ behind wires (side + (side + k)) v.w rest_x room
      ∙ behind side (side + k) v.x rest_y (omega (arith, x_count, side_room))
      ∙ behind side k v.y (padded side v.z) (omega (arith, y_count, side_room))
      ∙ get_or_append_left v.z (replicate (side - length v.z) 0) 0 k (omega (arith, z_count))

pub solves : VectorsSolve
solves f w file limits len reduced one =
    let ks = f.constraints in
    let q = length ks in
    let p = params_of f in
    let v = vectors_of f w in
    let m = message p v in
    let x_count = length-map ks (λ (k : Constraint). value_at (slice_index w) (form_of A k)) in
    let y_count = length-map ks (λ (k : Constraint). value_at (slice_index w) (form_of B k)) in
    let z_count = length-map ks (λ (k : Constraint). value_at (slice_index w) (form_of C k)) in
    let same = wires_at f v len x_count y_count z_count in
    let g = value_at (slice_index m) in
    let sides_x = one_side f.wires (x_start p) m w A ks same file.wired
    (x_at f v len x_count y_count z_count) in
    let sides_y = one_side f.wires (y_start p) m w B ks same file.wired
    (y_at f v len x_count y_count z_count) in
    let sides_z = one_side f.wires (z_start p) m w C ks same file.wired
    (z_at f v len x_count y_count z_count) in
    let count : known_wires f ≡ suc (f.outputs + f.public_inputs) = omega arith in
    let known : map g (wire_forms 0 (known_wires f)) ≡ 1 ∷ publics_of f w =
    wires_known f.wires 0 (known_wires f) m w same reduced (omega arith)
    (omega (arith, file.numbered))
    ∙ known_taken f w (omega (arith, file.numbered))
    ∙ ap (λ x. x ∷ publics_of f w) one in
    three_maps g (differences (x_start p) (forms A ks)) (differences (y_start p) (forms B ks))
    (differences (z_start p) (forms C ks)) (wire_forms 0 (known_wires f))
    ∙ rw (sides_x, sides_y, sides_z, known) (regroup (replicate q 0) (1 ∷ publics_of f w))
    ∙ ap (λ xs. xs ++ 1 ∷ publics_of f w) (zeros q)
