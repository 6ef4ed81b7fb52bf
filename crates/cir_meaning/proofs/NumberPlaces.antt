-- The numbers of the groups, and the places of their values behind a run.
use Rattle.std.proofs.Common.{◌≡◌, ◌⊎◌, inl, inr, ℕ, zero, suc, ◌+◌, ◌*◌, ◌-◌, ◌≤◌, ◌<◌, List, []}
use Rattle.std.proofs.Common.{◌∷◌, ◌++◌, length, Option, Some, refl, sym, ap, subst, ◌∙◌, slice_get}
use Rattle.std.proofs.Common.{arith}
use Rattle.std.specs.Prelude.{map}
use Rattle.std.specs.List.{AllByRecursion}
use Rattle.cir_meaning.specs.Places.{numbers_from}
use Rattle.cir_meaning.specs.Frame.{Group, Outputs, PublicInputs, PrivateInputs, Others, Sizes}
use Rattle.cir_meaning.specs.Frame.{before_group, size_in}
use Rattle.cir_meaning.specs.Compile.{final_number}
use Rattle.cir_meaning.specs.Run.{Table}
use Rattle.cir_meaning.specs.RunBodies.{table_wire, group_wires, all_wires}
use Rattle.cir_meaning.proofs.Rows.{all_append}
use Rattle.cir_meaning.proofs.Weights.{inside, under}
use Rattle.cir_meaning.proofs.TableWires.{inside_yes, inside_low, inside_high, inside_or}
use Rattle.cir_meaning.proofs.MainInputs.{final_at}

-- few signals in a group
abbrev pub Roomy : ℕ → Sizes → Type 0
Roomy size s = (g : Group) → size_in g s < size

-- a number of a group is counted once
pub group_once : (size : ℕ) (s : Sizes) (g : Group) (i : ℕ) → Roomy size s → i < size_in g s
    → under size s (1 + before_group size g + i) ≡ 1
group_once size s Outputs i room less =
    let a : s.outputs < size = room Outputs in
    let one : inside (1 + i) 1 s.outputs ≡ 1 =
    inside_yes (1 + i) 1 s.outputs (omega arith) (omega arith) in
    let two : inside (1 + i) (1 + size) s.public_inputs ≡ 0 =
    inside_low (1 + i) (1 + size) s.public_inputs (omega arith) in
    let three : inside (1 + i) (1 + 2 * size) s.private_inputs ≡ 0 =
    inside_low (1 + i) (1 + 2 * size) s.private_inputs (omega arith) in
    let four : inside (1 + i) (1 + 3 * size) s.others ≡ 0 =
    inside_low (1 + i) (1 + 3 * size) s.others (omega arith) in
    ap (under size s) (omega arith) ∙ sum_of one two three four
  where
    sum_of : {a b c d : ℕ} → a ≡ 1 → b ≡ 0 → c ≡ 0 → d ≡ 0 → a + (b + (c + d)) ≡ 1
    sum_of e f g h = omega arith
group_once size s PublicInputs i room less =
    let a : s.outputs < size = room Outputs in
    let b : s.public_inputs < size = room PublicInputs in
    let one : inside (1 + size + i) 1 s.outputs ≡ 0 =
    inside_high (1 + size + i) 1 s.outputs (omega arith) in
    let two : inside (1 + size + i) (1 + size) s.public_inputs ≡ 1 =
    inside_yes (1 + size + i) (1 + size) s.public_inputs (omega arith) (omega arith) in
    let three : inside (1 + size + i) (1 + 2 * size) s.private_inputs ≡ 0 =
    inside_low (1 + size + i) (1 + 2 * size) s.private_inputs (omega arith) in
    let four : inside (1 + size + i) (1 + 3 * size) s.others ≡ 0 =
    inside_low (1 + size + i) (1 + 3 * size) s.others (omega arith) in
    sum_of one two three four
  where
    sum_of : {a b c d : ℕ} → a ≡ 0 → b ≡ 1 → c ≡ 0 → d ≡ 0 → a + (b + (c + d)) ≡ 1
    sum_of e f g h = omega arith
group_once size s PrivateInputs i room less =
    let a : s.outputs < size = room Outputs in
    let b : s.public_inputs < size = room PublicInputs in
    let c : s.private_inputs < size = room PrivateInputs in
    let one : inside (1 + 2 * size + i) 1 s.outputs ≡ 0 =
    inside_high (1 + 2 * size + i) 1 s.outputs (omega arith) in
    let two : inside (1 + 2 * size + i) (1 + size) s.public_inputs ≡ 0 =
    inside_high (1 + 2 * size + i) (1 + size) s.public_inputs (omega arith) in
    let three : inside (1 + 2 * size + i) (1 + 2 * size) s.private_inputs ≡ 1 =
    inside_yes (1 + 2 * size + i) (1 + 2 * size) s.private_inputs (omega arith) (omega arith) in
    let four : inside (1 + 2 * size + i) (1 + 3 * size) s.others ≡ 0 =
    inside_low (1 + 2 * size + i) (1 + 3 * size) s.others (omega arith) in
    sum_of one two three four
  where
    sum_of : {a b c d : ℕ} → a ≡ 0 → b ≡ 0 → c ≡ 1 → d ≡ 0 → a + (b + (c + d)) ≡ 1
    sum_of e f g h = omega arith
group_once size s Others i room less =
    let a : s.outputs < size = room Outputs in
    let b : s.public_inputs < size = room PublicInputs in
    let c : s.private_inputs < size = room PrivateInputs in
    let one : inside (1 + 3 * size + i) 1 s.outputs ≡ 0 =
    inside_high (1 + 3 * size + i) 1 s.outputs (omega arith) in
    let two : inside (1 + 3 * size + i) (1 + size) s.public_inputs ≡ 0 =
    inside_high (1 + 3 * size + i) (1 + size) s.public_inputs (omega arith) in
    let three : inside (1 + 3 * size + i) (1 + 2 * size) s.private_inputs ≡ 0 =
    inside_high (1 + 3 * size + i) (1 + 2 * size) s.private_inputs (omega arith) in
    let four : inside (1 + 3 * size + i) (1 + 3 * size) s.others ≡ 1 =
    inside_yes (1 + 3 * size + i) (1 + 3 * size) s.others (omega arith) (omega arith) in
    sum_of one two three four
  where
    sum_of : {a b c d : ℕ} → a ≡ 0 → b ≡ 0 → c ≡ 0 → d ≡ 1 → a + (b + (c + d)) ≡ 1
    sum_of e f g h = omega arith

-- a number that is counted is a group's
abbrev pub InGroup : ℕ → Sizes → ℕ → Type 0
InGroup size s m =
    (g : Group) × (i : ℕ) × (i < size_in g s) × (m ≡ 1 + before_group size g + i)

in_it : (size : ℕ) (s : Sizes) (m : ℕ) (g : Group)
    → 1 + before_group size g ≤ m → m < 1 + before_group size g + size_in g s → InGroup size s m
in_it size s m g from to =
    (g, m - (1 + before_group size g), omega arith, omega arith)

pub in_group : (size : ℕ) (s : Sizes) (m : ℕ) → (under size s m ≡ 0) ⊎ InGroup size s m
in_group size s m =
    at (inside_or m 1 s.outputs) (inside_or m (1 + size) s.public_inputs)
    (inside_or m (1 + 2 * size) s.private_inputs) (inside_or m (1 + 3 * size) s.others)
  where
    sum_of : {a b c d : ℕ} → a ≡ 0 → b ≡ 0 → c ≡ 0 → d ≡ 0 → a + (b + (c + d)) ≡ 0
    sum_of e f g h = omega arith

    at : ((1 ≤ m) × (m < 1 + s.outputs)) ⊎ (inside m 1 s.outputs ≡ 0)
        → ((1 + size ≤ m) × (m < 1 + size + s.public_inputs))
        ⊎ (inside m (1 + size) s.public_inputs ≡ 0)
        → ((1 + 2 * size ≤ m) × (m < 1 + 2 * size + s.private_inputs))
        ⊎ (inside m (1 + 2 * size) s.private_inputs ≡ 0)
        → ((1 + 3 * size ≤ m) × (m < 1 + 3 * size + s.others))
        ⊎ (inside m (1 + 3 * size) s.others ≡ 0)
        → (under size s m ≡ 0) ⊎ InGroup size s m
    at (inl h) b c d = inr (in_it size s m Outputs h.0 h.1)
    at (inr e) (inl h) c d = inr (in_it size s m PublicInputs h.0 h.1)
    at (inr e) (inr f) (inl h) d = inr (in_it size s m PrivateInputs h.0 h.1)
    at (inr e) (inr f) (inr g) (inl h) = inr (in_it size s m Others h.0 h.1)
    at (inr e) (inr f) (inr g) (inr h) = inl (sum_of e f g h)

-- places in lists behind each other
get_front : {A : Type 0} (xs ys : List A) (i : ℕ) → i < length xs
    → slice_get (xs ++ ys) i ≡ slice_get xs i
get_front [] ys i h = absurd (omega arith)
get_front (x ∷ xs) ys zero h = refl
get_front (x ∷ xs) ys (suc i) h = get_front xs ys i (omega arith)

get_back : {A : Type 0} (xs ys : List A) (n i : ℕ) → length xs ≡ n
    → slice_get (xs ++ ys) (n + i) ≡ slice_get ys i
get_back [] ys n i e = ap (slice_get ys) (omega arith)
get_back (x ∷ xs) ys zero i e = cc
get_back (x ∷ xs) ys (suc n) i e =
    ap (slice_get (x ∷ (xs ++ ys))) (next n i) ∙ get_back xs ys n i (omega arith)
  where
    next : (n i : ℕ) → suc n + i ≡ suc (n + i)
    next n i = omega arith

map_count : (f : ℕ → Option ℕ) (a n : ℕ) → length (map f (numbers_from a n)) ≡ n
map_count f a zero = refl
map_count f a (suc n) = ap (λ (k : ℕ). suc k) (map_count f (a + 1) n)

map_at : (f : ℕ → Option ℕ) (a n i : ℕ) → i < n
    → slice_get (map f (numbers_from a n)) i ≡ Some (f (a + i))
map_at f a zero i h = absurd (omega arith)
map_at f a (suc n) zero h = ap (λ (k : ℕ). Some (f k)) (omega arith)
map_at f a (suc n) (suc i) h =
    map_at f (a + 1) n i (omega arith) ∙ ap (λ (k : ℕ). Some (f k)) (omega arith)

map_all : (P : Option ℕ → Type 0) (f : ℕ → Option ℕ) (a n : ℕ)
    → ((i : ℕ) → i < n → P (f (a + i))) → AllByRecursion P (map f (numbers_from a n))
map_all P f a zero h = tt
map_all P f a (suc n) h = (
  subst (λ (k : ℕ). P (f k)) (omega arith) (h 0 (omega arith)),
  map_all P f (a + 1) n (λ i less.
      subst (λ (k : ℕ). P (f k)) (omega arith) (h (suc i) (omega arith))),
)

module _ (size : ℕ) (s : Sizes) (ts : List Table) where
  abbrev group : Group → List (Option ℕ)
  group g = group_wires size s ts g

  group_count : (g : Group) → length (group g) ≡ size_in g s
  group_count g = map_count (table_wire ts) (1 + before_group size g) (size_in g s)

  count_joined : (xs ys : List (Option ℕ)) → length (xs ++ ys) ≡ length xs + length ys
  count_joined [] ys = omega arith
  count_joined (x ∷ xs) ys =
      let rest : length (xs ++ ys) ≡ length xs + length ys = count_joined xs ys in omega arith

  -- so many values
  pub values_count : length (all_wires size s ts)
      ≡ 1 + (s.outputs + (s.public_inputs + (s.private_inputs + s.others)))
  values_count =
      ap (λ (k : ℕ). suc k) (
      count_joined (group Outputs) (group PublicInputs ++ (group PrivateInputs ++ group Others))
      ∙ all (group_count Outputs)
      (count_joined (group PublicInputs) (group PrivateInputs ++ group Others)
      ∙ all (group_count PublicInputs)
      (count_joined (group PrivateInputs) (group Others)
      ∙ all (group_count PrivateInputs) (group_count Others))))
      ∙ one_more
    where
      all : {a b c d : ℕ} → a ≡ b → c ≡ d → a + c ≡ b + d
      all e f = omega arith

      one_more : suc (s.outputs + (s.public_inputs + (s.private_inputs + s.others)))
          ≡ 1 + (s.outputs + (s.public_inputs + (s.private_inputs + s.others)))
      one_more = omega arith

  -- all values are there
  pub values_all : (P : Option ℕ → Type 0) → P (Some 1)
      → ((g : Group) (i : ℕ) → i < size_in g s → P (table_wire ts (1 + before_group size g + i)))
      → AllByRecursion P (all_wires size s ts)
  values_all P first h = (
    first,
    all_append P (group Outputs)
        (group PublicInputs ++ (group PrivateInputs ++ group Others)) (each Outputs)
        (all_append P (group PublicInputs) (group PrivateInputs ++ group Others)
        (each PublicInputs)
        (all_append P (group PrivateInputs) (group Others) (each PrivateInputs) (each Others))),
  )
    where
      each : (g : Group) → AllByRecursion P (group_wires size s ts g)
      each g = map_all P (table_wire ts) (1 + before_group size g) (size_in g s) (h g)

  group_at : (g : Group) (i : ℕ) → i < size_in g s
      → slice_get (group g) i ≡ Some (table_wire ts (1 + before_group size g + i))
  group_at g i less = map_at (table_wire ts) (1 + before_group size g) (size_in g s) i less

  in_front : (g : Group) (ys : List (Option ℕ)) (i : ℕ) → i < size_in g s
      → slice_get (group g ++ ys) i ≡ Some (table_wire ts (1 + before_group size g + i))
  in_front g ys i less =
      get_front (group g) ys i (subst (λ (k : ℕ). i < k) (sym (group_count g)) less)
      ∙ group_at g i less

  -- the place of a number's value
  pub value_at : (m : ℕ) → Roomy size s → InGroup size s m
      → slice_get (all_wires size s ts) (final_number size s m) ≡ Some (table_wire ts m)
  value_at m room (Outputs, i, less, is) =
      let few : s.outputs < size = room Outputs in
      let final : final_number size s m ≡ 1 + (0 + i) =
      final_at size i 0 s m (omega arith) (omega arith) in
      ap (slice_get (all_wires size s ts)) (final ∙ place i)
      ∙ in_front Outputs (group PublicInputs ++ (group PrivateInputs ++ group Others)) i less
      ∙ ap (λ (k : ℕ). Some (table_wire ts k)) (sym is)
    where
      place : (i : ℕ) → 1 + (0 + i) ≡ suc i
      place i = omega arith
  value_at m room (PublicInputs, i, less, is) =
      let few : s.public_inputs < size = room PublicInputs in
      let final : final_number size s m ≡ 1 + (s.outputs + i) =
      final_at size i 1 s m (omega arith) (omega arith) in
      ap (slice_get (all_wires size s ts)) (final ∙ place s.outputs i)
      ∙ get_back (group Outputs) (group PublicInputs ++ (group PrivateInputs ++ group Others))
      s.outputs i (group_count Outputs)
      ∙ in_front PublicInputs (group PrivateInputs ++ group Others) i less
      ∙ ap (λ (k : ℕ). Some (table_wire ts k)) (sym is)
    where
      place : (a i : ℕ) → 1 + (a + i) ≡ suc (a + i)
      place a i = omega arith
  value_at m room (PrivateInputs, i, less, is) =
      let few : s.private_inputs < size = room PrivateInputs in
      let final : final_number size s m ≡ 1 + (s.outputs + s.public_inputs + i) =
      final_at size i 2 s m (omega arith) (omega arith) in
      ap (slice_get (all_wires size s ts)) (final ∙ place s.outputs s.public_inputs i)
      ∙ get_back (group Outputs) (group PublicInputs ++ (group PrivateInputs ++ group Others))
      s.outputs (s.public_inputs + i) (group_count Outputs)
      ∙ get_back (group PublicInputs) (group PrivateInputs ++ group Others)
      s.public_inputs i (group_count PublicInputs)
      ∙ in_front PrivateInputs (group Others) i less
      ∙ ap (λ (k : ℕ). Some (table_wire ts k)) (sym is)
    where
      place : (a b i : ℕ) → 1 + (a + b + i) ≡ suc (a + (b + i))
      place a b i = omega arith
  value_at m room (Others, i, less, is) =
      let few : s.others < size = room Others in
      let final : final_number size s m
      ≡ 1 + (s.outputs + (s.public_inputs + s.private_inputs) + i) =
      final_at size i 3 s m (omega arith) (omega arith) in
      ap (slice_get (all_wires size s ts))
      (final ∙ place s.outputs s.public_inputs s.private_inputs i)
      ∙ get_back (group Outputs) (group PublicInputs ++ (group PrivateInputs ++ group Others))
      s.outputs (s.public_inputs + (s.private_inputs + i)) (group_count Outputs)
      ∙ get_back (group PublicInputs) (group PrivateInputs ++ group Others)
      s.public_inputs (s.private_inputs + i) (group_count PublicInputs)
      ∙ get_back (group PrivateInputs) (group Others) s.private_inputs i
      (group_count PrivateInputs)
      ∙ group_at Others i less
      ∙ ap (λ (k : ℕ). Some (table_wire ts k)) (sym is)
    where
      place : (a b c i : ℕ) → 1 + (a + (b + c) + i) ≡ suc (a + (b + (c + i)))
      place a b c i = omega arith
