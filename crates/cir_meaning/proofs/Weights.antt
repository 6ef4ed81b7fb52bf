-- How often a number is a signal's: once where it is in a group, and not at all elsewhere.
use Rattle.std.proofs.Common.{◌≡◌, ℕ, zero, suc, ◌+◌, ◌-◌, ◌*◌, ◌≤◌, ◌<◌, Bool, true, false, List}
use Rattle.std.proofs.Common.{[], ◌∷◌, ◌++◌, length, Option, Some, None, refl, ap, ◌∙◌, arith}
use Rattle.std.specs.Prelude.{nat_lt}
use Rattle.std.proofs.lemmas.Bool.{ltb-true, lt-ltb}
use Rattle.cir_meaning.specs.Limits.{count_sum}
use Rattle.cir_meaning.specs.Frame.{SignalEntry, Signals, Group, Outputs, PublicInputs}
use Rattle.cir_meaning.specs.Frame.{PrivateInputs, Others, Sizes, before_group, size_in, more_in}
use Rattle.cir_meaning.specs.Frame.{put_at, entry_at}
use Rattle.cir_meaning.specs.Run.{Table}
use Rattle.cir_meaning.proofs.GroupSizes.{Less}

abbrev pub one : Bool → ℕ
one true = 1
one false = 0

-- 1 where m is below x
abbrev pub below : ℕ → ℕ → ℕ
below m x = one (nat_lt m x)

pub below_yes : (m x : ℕ) → m < x → below m x ≡ 1
below_yes m x h = ap one (lt-ltb m x h)

pub below_not : (m x : ℕ) → x ≤ m → below m x ≡ 0
below_not m x h = at (nat_lt m x) refl
  where
    at : (b : Bool) → nat_lt m x ≡ b → one b ≡ 0
    at true e = let less : m < x = ltb-true m x e in absurd (omega arith)
    at false e = refl

pub below_one : (m x : ℕ) → below m x ≤ 1
below_one m x = at (nat_lt m x)
  where
    at : (b : Bool) → one b ≤ 1
    at true = omega arith
    at false = omega arith

pub below_more : (m x y : ℕ) → x ≤ y → below m x ≤ below m y
below_more m x y h = at (nat_lt m x) refl
  where
    at : (b : Bool) → nat_lt m x ≡ b → one b ≤ below m y
    at true e =
        let less : m < x = ltb-true m x e in
        let yes : below m y ≡ 1 = below_yes m y (omega arith) in omega arith
    at false e = omega arith

-- 1 where m is one of so many numbers from the first on
abbrev pub inside : (m low count : ℕ) → ℕ
inside m low count = below m (low + count) - below m low

pub inside_split : (m low a n : ℕ)
    → inside m low (a + n) ≡ inside m low a + inside m (low + a) n
inside_split m low a n =
    let low_a : below m low ≤ below m (low + a) = below_more m low (low + a) (omega arith) in
    let two : below m (low + a) ≤ below m (low + a + n) =
    below_more m (low + a) (low + a + n) (omega arith) in
    let same : below m (low + (a + n)) ≡ below m (low + a + n) =
    ap (below m) (omega arith) in omega arith

pub inside_less : (m low a b : ℕ) → a ≤ b → inside m low a ≤ inside m low b
inside_less m low a b h =
    let ends : below m (low + a) ≤ below m (low + b) =
    below_more m (low + a) (low + b) (omega arith) in omega arith

-- signals
abbrev pub cover : ℕ → SignalEntry → ℕ
cover m e = inside m e.first (length e.written)

abbrev pub cover_entries : ℕ → Signals → ℕ
cover_entries m [] = 0
cover_entries m (None ∷ xs) = cover_entries m xs
cover_entries m (Some e ∷ xs) = cover m e + cover_entries m xs

abbrev pub cover_tables : ℕ → List Table → ℕ
cover_tables m [] = 0
cover_tables m (t ∷ ts) = cover_entries m t.signals + cover_tables m ts

pub cover_join : (m : ℕ) (ts us : List Table)
    → cover_tables m (ts ++ us) ≡ cover_tables m ts + cover_tables m us
cover_join m [] us = omega arith
cover_join m (t ∷ ts) us =
    let rest : cover_tables m (ts ++ us) ≡ cover_tables m ts + cover_tables m us =
    cover_join m ts us in omega arith

-- a new entry
pub cover_put : (m i : ℕ) (a : SignalEntry) (xs : Signals) → entry_at xs i ≡ None
    → cover_entries m (put_at i a xs) ≡ cover_entries m xs + cover m a
cover_put m zero a [] e = omega arith
cover_put m zero a (None ∷ xs) e = omega arith
cover_put m zero a (Some x ∷ xs) e = cc
cover_put m (suc i) a [] e = cover_put m i a [] (nothing i)
  where
    nothing : (i : ℕ) → entry_at {A = SignalEntry} [] i ≡ None
    nothing i = refl
cover_put m (suc i) a (None ∷ xs) e = cover_put m i a xs e
cover_put m (suc i) a (Some x ∷ xs) e =
    let rest : cover_entries m (put_at i a xs) ≡ cover_entries m xs + cover m a =
    cover_put m i a xs e in omega arith

-- entries that stand at the same places
abbrev pub weight_of : ℕ → Option SignalEntry → ℕ
weight_of m None = 0
weight_of m (Some e) = cover m e

pub cover_alike : (m : ℕ) (xs ys : Signals)
    → ((n : ℕ) → weight_of m (entry_at xs n) ≡ weight_of m (entry_at ys n))
    → cover_entries m xs ≡ cover_entries m ys
cover_alike m [] [] h = refl
cover_alike m [] (None ∷ ys) h = cover_alike m [] ys (λ n. h (suc n))
cover_alike m [] (Some e ∷ ys) h =
    let first : 0 ≡ cover m e = h 0 in
    let rest : 0 ≡ cover_entries m ys = cover_alike m [] ys (λ n. h (suc n)) in omega arith
cover_alike m (None ∷ xs) [] h = cover_alike m xs [] (λ n. h (suc n))
cover_alike m (Some e ∷ xs) [] h =
    let first : cover m e ≡ 0 = h 0 in
    let rest : cover_entries m xs ≡ 0 = cover_alike m xs [] (λ n. h (suc n)) in omega arith
cover_alike m (None ∷ xs) (None ∷ ys) h = cover_alike m xs ys (λ n. h (suc n))
cover_alike m (None ∷ xs) (Some e ∷ ys) h =
    let first : 0 ≡ cover m e = h 0 in
    let rest : cover_entries m xs ≡ cover_entries m ys = cover_alike m xs ys (λ n. h (suc n)) in
    omega arith
cover_alike m (Some e ∷ xs) (None ∷ ys) h =
    let first : cover m e ≡ 0 = h 0 in
    let rest : cover_entries m xs ≡ cover_entries m ys = cover_alike m xs ys (λ n. h (suc n)) in
    omega arith
cover_alike m (Some d ∷ xs) (Some e ∷ ys) h =
    let first : cover m d ≡ cover m e = h 0 in
    let rest : cover_entries m xs ≡ cover_entries m ys = cover_alike m xs ys (λ n. h (suc n)) in
    omega arith

-- groups
abbrev pub part_of : ℕ → Sizes → ℕ → Group → ℕ
part_of size s m g = inside m (1 + before_group size g) (size_in g s)

abbrev pub under : ℕ → Sizes → ℕ → ℕ
under size s m =
    part_of size s m Outputs + (part_of size s m PublicInputs + (part_of size s m PrivateInputs
    + part_of size s m Others))

pub under_less : (size : ℕ) (a b : Sizes) (m : ℕ) → Less a b → under size a m ≤ under size b m
under_less size a b m h =
    let o : part_of size a m Outputs ≤ part_of size b m Outputs =
    inside_less m 1 a.outputs b.outputs (h Outputs) in
    let p : part_of size a m PublicInputs ≤ part_of size b m PublicInputs =
    inside_less m (1 + size) a.public_inputs b.public_inputs (h PublicInputs) in
    let q : part_of size a m PrivateInputs ≤ part_of size b m PrivateInputs =
    inside_less m (1 + 2 * size) a.private_inputs b.private_inputs (h PrivateInputs) in
    let r : part_of size a m Others ≤ part_of size b m Others =
    inside_less m (1 + 3 * size) a.others b.others (h Others) in omega arith

more_part : (size m low a n c : ℕ) → c ≡ a + n
    → inside m low c ≡ inside m low a + inside m (low + a) n
more_part size m low a n c e = ap (inside m low) e ∙ inside_split m low a n

pub under_more : (size : ℕ) (g : Group) (n : ℕ) (s : Sizes) (m : ℕ)
    → count_sum (size_in g s) n ≡ size_in g s + n
    → under size (more_in g n s) m
    ≡ under size s m + inside m (1 + before_group size g + size_in g s) n
under_more size Outputs n s m e =
    let more : inside m 1 (count_sum s.outputs n) ≡ inside m 1 s.outputs
    + inside m (1 + s.outputs) n = more_part size m 1 s.outputs n (count_sum s.outputs n) e in
    omega arith
under_more size PublicInputs n s m e =
    let more : inside m (1 + size) (count_sum s.public_inputs n)
    ≡ inside m (1 + size) s.public_inputs + inside m (1 + size + s.public_inputs) n =
    more_part size m (1 + size) s.public_inputs n (count_sum s.public_inputs n) e in omega arith
under_more size PrivateInputs n s m e =
    let more : inside m (1 + 2 * size) (count_sum s.private_inputs n)
    ≡ inside m (1 + 2 * size) s.private_inputs + inside m (1 + 2 * size + s.private_inputs) n =
    more_part size m (1 + 2 * size) s.private_inputs n (count_sum s.private_inputs n) e in
    omega arith
under_more size Others n s m e =
    let more : inside m (1 + 3 * size) (count_sum s.others n)
    ≡ inside m (1 + 3 * size) s.others + inside m (1 + 3 * size + s.others) n =
    more_part size m (1 + 3 * size) s.others n (count_sum s.others n) e in omega arith

-- few signals
abbrev pub Bounded : Sizes → Type 0
Bounded s = (g : Group) → size_in g s ≤ 1048576

pub bounded_before : (a b : Sizes) → Less a b → Bounded b → Bounded a
bounded_before a b h g x =
    let less : size_in x a ≤ size_in x b = h x in
    let two : size_in x b ≤ 1048576 = g x in omega arith

pub sum_exact : (a n : ℕ) → count_sum a n ≤ 1048576 → count_sum a n ≡ a + n
sum_exact a n h = omega arith

-- an array that is too large, but has few elements, has none
