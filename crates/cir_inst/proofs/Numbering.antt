-- Final numbers: they rise where the numbers of declared signals rise.
use Rattle.std.proofs.Common.{◌≡◌, ℕ, zero, suc, ◌+◌, ◌-◌, ◌*◌, ◌<◌, ◌≤◌, ◌==◌, false, List, []}
use Rattle.std.proofs.Common.{◌∷◌, map, get_or, refl, sym, ap, ◌∙◌, arith}
use Rattle.std.specs.Prelude.{◌/◌, ◌%◌, All, slice_set, length}
use Rattle.std.proofs.Math.Dec.{eqb-suc-zero}
use Rattle.std.proofs.lemmas.List.Elements.{All-head, All-tail}
use Rattle.gold_field.specs.declared.form.Term.{Term}
use Rattle.gold_field.specs.Rises.{RisesFrom}
use Rattle.cir_meaning.specs.Frame.{Sizes, Group, Outputs, PublicInputs, PrivateInputs, Others}
use Rattle.cir_meaning.specs.Frame.{size_in, before_group}
use Rattle.cir_meaning.specs.Dependence.{IsDeclared}
use Rattle.cir_meaning.specs.Compile.{group_size, before, final_number}
use Rattle.cir_inst.specs.Renumbered.{IsRoomy, AreDeclared, renumbered_term, renumbered_terms}

pub final_behind : (size : ℕ) (s : Sizes) (n : ℕ) → (n ≡ 0 → ⊥)
    → final_number size s n ≡ 1 + (before s ((n - 1) / size) + (n - 1) % size)
final_behind size s zero h = absurd (h refl)
final_behind size s (suc n) h =
    let same : n ≡ suc n - 1 = omega arith in
    ap (λ (m : ℕ). 1 + (before s (m / size) + m % size)) same

abbrev place_of : Group → ℕ
place_of Outputs = 0
place_of PublicInputs = 1
place_of PrivateInputs = 2
place_of Others = 3

-- the place of the group, and the place in it
parts_at : (g : Group) (i n : ℕ) → n ≡ before_group 1048576 g + i → i < 1048576
    → (n / 1048576 ≡ place_of g) × (n % 1048576 ≡ i)
parts_at Outputs i n e l = (omega arith, omega arith)
parts_at PublicInputs i n e l = (omega arith, omega arith)
parts_at PrivateInputs i n e l = (omega arith, omega arith)
parts_at Others i n e l = (omega arith, omega arith)

abbrev start_of : Sizes → Group → ℕ
start_of s g = before s (place_of g)

roomy : (s : Sizes) → IsRoomy s → (g : Group) → size_in g s < 1048576
roomy s r Outputs = r.outputs
roomy s r PublicInputs = r.public_inputs
roomy s r PrivateInputs = r.private_inputs
roomy s r Others = r.others

abbrev Declared : Sizes → ℕ → Type 0
Declared s n = IsDeclared 1048576 (λ g. size_in g s) n

final_at : (s : Sizes) → IsRoomy s → (n : ℕ) (d : Declared s (suc n))
    → final_number 1048576 s (suc n) ≡ 1 + (start_of s d.group + d.place)
final_at s r n d =
    let at = parts_at d.group d.place n d.number
    (omega (arith, d.inside, roomy s r d.group)) in
    ap (λ (k : ℕ). 1 + (before s k + n % 1048576)) at.0
    ∙ ap (λ (k : ℕ). 1 + (start_of s d.group + k)) at.1

order : (s : Sizes) → IsRoomy s → (g h : Group) (i j : ℕ) → i < size_in g s → j < size_in h s
    → before_group 1048576 g + i < before_group 1048576 h + j
    → start_of s g + i < start_of s h + j
order s r Outputs Outputs i j a b l = omega arith
order s r Outputs PublicInputs i j a b l = omega arith
order s r Outputs PrivateInputs i j a b l = omega arith
order s r Outputs Others i j a b l = omega arith
order s r PublicInputs Outputs i j a b l = absurd (omega (arith, r.outputs))
order s r PublicInputs PublicInputs i j a b l = omega arith
order s r PublicInputs PrivateInputs i j a b l = omega arith
order s r PublicInputs Others i j a b l = omega arith
order s r PrivateInputs Outputs i j a b l = absurd (omega (arith, r.outputs))
order s r PrivateInputs PublicInputs i j a b l = absurd (omega (arith, r.public_inputs))
order s r PrivateInputs PrivateInputs i j a b l = omega arith
order s r PrivateInputs Others i j a b l = omega arith
order s r Others Outputs i j a b l = absurd (omega (arith, r.outputs))
order s r Others PublicInputs i j a b l = absurd (omega (arith, r.public_inputs))
order s r Others PrivateInputs i j a b l = absurd (omega (arith, r.private_inputs))
order s r Others Others i j a b l = omega arith

final_less : (s : Sizes) → IsRoomy s → (m n : ℕ) → Declared s m → Declared s n → m < n
    → final_number 1048576 s m < final_number 1048576 s n
final_less s r m zero d e l = absurd (omega arith)
final_less s r zero (suc n) d e l = omega (arith, final_at s r n e)
final_less s r (suc m) (suc n) d e l =
    omega (
      arith,
      final_at s r m d,
      final_at s r n e,
      order s r d.group e.group d.place e.place d.inside e.inside
          (omega (arith, d.number, e.number)),
    )

last : (s : Sizes) (g : Group) (i : ℕ) → i < size_in g s
    → start_of s g + i < s.outputs + (s.public_inputs + (s.private_inputs + s.others))
last s Outputs i l = omega arith
last s PublicInputs i l = omega arith
last s PrivateInputs i l = omega arith
last s Others i l = omega arith

-- and there are as many as signals
final_small : (s : Sizes) → IsRoomy s → (n : ℕ) → Declared s n → final_number 1048576 s n
    < 1 + (s.outputs + (s.public_inputs + (s.private_inputs + s.others)))
final_small s r zero d = omega arith
final_small s r (suc n) d =
    omega (arith, final_at s r n d, last s d.group d.place d.inside)

pub final_within : (s : Sizes) → IsRoomy s → (n : ℕ)
    → IsDeclared group_size (λ g. size_in g s) n → final_number group_size s n
    < 1 + (s.outputs + (s.public_inputs + (s.private_inputs + s.others)))
unfolding group_size
final_within s r n d = final_small s r n d

below_all : (s : Sizes) → IsRoomy s → (n : ℕ) → Declared s n → n < 4 * 1048576
below_all s r zero d = omega arith
below_all s r (suc n) d = last_place d.group d.place n d.number
    (omega (arith, d.inside, roomy s r d.group)) (omega (arith, d.inside, roomy s r d.group))
  where
    last_place : (g : Group) (i n : ℕ) → n ≡ before_group 1048576 g + i → i < 1048575
        → i < 1048576 → suc n < 4 * 1048576
    last_place Outputs i n e l m = omega arith
    last_place PublicInputs i n e l m = omega arith
    last_place PrivateInputs i n e l m = omega arith
    last_place Others i n e l m = omega arith

pub declared_below : (s : Sizes) → IsRoomy s → (n : ℕ)
    → IsDeclared group_size (λ g. size_in g s) n → n < 4 * group_size
unfolding group_size
declared_below s r n d = below_all s r n d

-- signal 0 keeps its number, and no other gets it
pub final_zero : (s : Sizes) (n : ℕ) → (final_number group_size s n == 0) ≡ (n == 0)
final_zero s zero = refl
final_zero s (suc n) = none (before s (n / group_size) + n % group_size) ∙ sym (eqb-suc-zero n)
  where
    none : (m : ℕ) → (1 + m == 0) ≡ false
    none m =
        let e : 1 + m ≡ suc m = omega arith in
        ap (λ (k : ℕ). k == 0) e ∙ eqb-suc-zero m

rises_from : (s : Sizes) → IsRoomy s → (low next : ℕ) (ts : List Term)
    → ((n : ℕ) → Declared s n → low ≤ n → next ≤ final_number 1048576 s n)
    → RisesFrom low ts → All (λ t. Declared s t.signal) ts
    → RisesFrom next (map (λ t. record {
      signal = final_number 1048576 s t.signal;
      coef = t.coef;
    }) ts)
rises_from s r low next [] up h d = tt
rises_from s r low next (t ∷ ts) up h d =
    let own : Declared s t.signal = All-head (λ (t : Term). Declared s t.signal) t ts d in (
      up t.signal own h.0,
      h.1,
      rises_from s r (t.signal + 1) (final_number 1048576 s t.signal + 1) ts
          (λ n e l. omega (arith, final_less s r t.signal n own e (omega arith))) h.2
          (All-tail (λ (t : Term). Declared s t.signal) t ts d),
    )

pub renumbered_rises : (s : Sizes) → IsRoomy s → (ts : List Term) → RisesFrom 0 ts
    → AreDeclared s ts → RisesFrom 0 (renumbered_terms s ts)
unfolding group_size
renumbered_rises s r ts h d = rises_from s r 0 0 ts (λ n e l. omega arith) h d

-- the terms of which the first k have final numbers
pub mixed : Sizes → ℕ → List Term → List Term
mixed s zero ts = ts
mixed s (suc k) [] = []
mixed s (suc k) (t ∷ ts) = renumbered_term s t ∷ mixed s k ts

mixed_get : (s : Sizes) (k : ℕ) (ts : List Term) (d : Term)
    → get_or (mixed s k ts) k d ≡ get_or ts k d
unfolding mixed
mixed_get s zero ts d = refl
mixed_get s (suc k) [] d = refl
mixed_get s (suc k) (t ∷ ts) d = mixed_get s k ts d

set_mixed : (s : Sizes) (k : ℕ) (ts : List Term) (d : Term) → k < length ts
    → slice_set (mixed s k ts) k (renumbered_term s (get_or ts k d)) ≡ mixed s (suc k) ts
unfolding mixed
set_mixed s zero [] d l = absurd (omega arith)
set_mixed s zero (u ∷ ts) d l = refl
set_mixed s (suc k) [] d l = absurd (omega arith)
set_mixed s (suc k) (u ∷ ts) d l =
    ap (λ (xs : List Term). renumbered_term s u ∷ xs) (set_mixed s k ts d (omega arith))

-- one term more: the one that stands there
pub mixed_more : (s : Sizes) (k : ℕ) (ts : List Term) (t : Term) (n : ℕ) → k < length ts
    → t ≡ get_or (mixed s k ts) k t → n ≡ final_number group_size s t.signal
    → slice_set (mixed s k ts) k record { signal = n; coef = t.coef } ≡ mixed s (k + 1) ts
mixed_more s k ts t n l e f =
    let next : suc k ≡ k + 1 = omega arith in
    let same : t ≡ get_or ts k t = e ∙ mixed_get s k ts t in
    ap (λ (m : ℕ). slice_set (mixed s k ts) k record { signal = m; coef = t.coef }) f
    ∙ ap (λ (u : Term). slice_set (mixed s k ts) k (renumbered_term s u)) same
    ∙ set_mixed s k ts t l ∙ ap (λ (m : ℕ). mixed s m ts) next

pub mixed_none : (s : Sizes) (ts : List Term) → mixed s 0 ts ≡ ts
unfolding mixed
mixed_none s ts = refl

pub mixed_all : (s : Sizes) (k : ℕ) (ts : List Term) → length ts ≤ k
    → mixed s k ts ≡ renumbered_terms s ts
unfolding mixed
mixed_all s zero [] l = refl
mixed_all s zero (t ∷ ts) l = absurd (omega arith)
mixed_all s (suc k) [] l = refl
mixed_all s (suc k) (t ∷ ts) l =
    ap (λ (xs : List Term). renumbered_term s t ∷ xs) (mixed_all s k ts (omega arith))
