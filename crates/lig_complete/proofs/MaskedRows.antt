-- Masked rows and masks at the message points.
use Rattle.std.proofs.Common.{◌≡◌, ℕ, zero, suc, ◌+◌, ◌-◌, ◌*◌, ◌%◌, ◌<◌, ◌≤◌, List, []}
use Rattle.std.proofs.Common.{length, get_or, cond, refl, sym, ap, subst, ◌∙◌, arith, zero-add}
use Rattle.std.proofs.Common.{⊎_elim, lit<}
use Rattle.std.proofs.lemmas.Bool.{cases_lt, le-ltb}
use Rattle.std.proofs.lemmas.Nat.{mod_below}
use Rattle.std.proofs.lemmas.List.{get_or_past}
use Rattle.std.proofs.lemmas.List.FromFn.{length-map-range_with_len, get_or-map-range_with_len}
use Rattle.gold_field.specs.declared.gold.TheConstants.{P}
use Rattle.gold_ntt.specs.Polynomial.{eval_at, shifted_at, IsDivision}
use Rattle.gold_ntt.proofs.Division.{root_value, division_zero}
use Rattle.rand_chacha.specs.ChaCha.{key_of}
use Rattle.lig_layout.specs.declared.params.Params.{Params}
use Rattle.lig_layout.specs.Sizes.{IsParams}
use Rattle.lig_proof.specs.Points.{width_log, message_point}
use Rattle.lig_proof.specs.Drawing.{numbers_of}
use Rattle.lig_proof.specs.Encoding.{IsMaskedRow, masked}
use Rattle.lig_proof.specs.Masks.{row_mask, product_mask, mask_numbers}
use Rattle.lig_proof.proofs.Draws.{length-numbers_of}
use Rattle.lig_proof.proofs.Interpolants.{width_is}

-- numbers of the field
pub numbers_below : (key : List ℕ) (stream place n k : ℕ)
    → get_or (numbers_of key stream place n) k 0 < P
numbers_below key stream place zero k = lit< tt
numbers_below key stream place (suc n) zero = mod_below _ P (lit< tt)
numbers_below key stream place (suc n) (suc k) = numbers_below key stream (place + 2) n k

put_back : (b s m : ℕ) → m < P → ((b + (s + (P - m))) % P + m) % P ≡ (s + b) % P
put_back b s m l = omega arith

-- a masked polynomial divided by X ^ l - 1
masked_division : (l n : ℕ) (base mask : List ℕ) → length base ≤ l → l + length mask ≤ n
    → ((k : ℕ) → get_or mask k 0 < P)
    → IsDivision l (masked l n base mask) mask base
masked_division l n base mask small fits low =
    let at : ℕ → ℕ = λ i. get_or base i 0 + (shifted_at l mask i + (P - get_or mask i 0)) in
    let made = masked l n base mask in
    record {
      small = small;
      coefficient = λ k. ⊎_elim
          (λ inside.
          ap (λ (y : ℕ). (y + get_or mask k 0) % P)
          (get_or-map-range_with_len (λ i. at i % P) 0 n k k 0 inside (zero-add k))
          ∙ put_back (get_or base k 0) (shifted_at l mask k) (get_or mask k 0) (low k))
          (λ past.
          let masked_none =
          get_or_past made k 0 (omega (arith, length-map-range_with_len (λ i. at i % P) 0 n)) in
          let mask_none = get_or_past mask k 0 (omega arith) in
          let base_none = get_or_past base k 0 (omega arith) in
          let shifted_none : shifted_at l mask k ≡ 0 =
          ap (λ b. cond b 0 (get_or mask (k - l) 0)) (le-ltb k l (omega arith))
          ∙ get_or_past mask (k - l) 0 (omega arith) in
          ap (λ (y : ℕ). (y + get_or mask k 0) % P) masked_none
          ∙ ap (λ (y : ℕ). (0 + y) % P) mask_none
          ∙ sym (ap (λ (y : ℕ). (y + get_or base k 0) % P) shifted_none
          ∙ ap (λ (y : ℕ). (0 + y) % P) base_none))
          (cases_lt k n);
    }

-- a masked row has the row's values
pub masked_row_at_message : (p : Params) (row mask masked_row : List ℕ) (j : ℕ) → IsParams p
    → IsMaskedRow p row mask masked_row
    → length mask ≡ p.l → ((k : ℕ) → get_or mask k 0 < P) → j < p.l
    → eval_at masked_row (message_point p j) ≡ get_or row j 0
masked_row_at_message p row mask masked_row j h is count low inside =
    let width = width_is p h in
    let e = width_log p in
    let base = is.polynomial in
    let degree = is.interpolates.degree.count in
    let Divides : ℕ → Type 0 = λ n. IsDivision n (masked p.l (2 * p.l) base mask) mask base in
    let division =
    subst Divides width.power
    (masked_division p.l (2 * p.l) base mask (omega arith) (omega arith) low) in
    ap (λ xs. eval_at xs (message_point p j)) is.sum
    ∙ root_value e (masked p.l (2 * p.l) base mask) mask base j width.small division
    ∙ sym (is.interpolates.values.value j (omega arith))

-- the mask of a row
pub row_mask_count : (p : Params) (seed : List ℕ) (k : ℕ) → length (row_mask p seed k) ≡ p.l
row_mask_count p seed k = length-numbers_of (key_of seed) 0 (2 * (k * p.l)) p.l

pub row_mask_low : (p : Params) (seed : List ℕ) (k i : ℕ) → get_or (row_mask p seed k) i 0 < P
row_mask_low p seed k i = numbers_below (key_of seed) 0 (2 * (k * p.l)) p.l i

-- the mask of the products is 0
pub product_mask_zero : (p : Params) (seed : List ℕ) (t j : ℕ) → IsParams p
    → eval_at (product_mask p seed t) (message_point p j) ≡ 0
product_mask_zero p seed t j h =
    let width = width_is p h in
    let before = (p.rows + 4) * p.l + 2 * (3 * p.l - 1) in
    let mask = mask_numbers seed (before + t * (3 * p.l)) (3 * p.l) in
    let count = length-numbers_of (key_of seed) 0 (2 * (before + t * (3 * p.l))) (3 * p.l) in
    let Divides : ℕ → Type 0 = λ n. IsDivision n (masked p.l (4 * p.l) [] mask) mask [] in
    let division = subst Divides width.power
    (masked_division p.l (4 * p.l) [] mask (omega arith) (omega arith)
    (numbers_below (key_of seed) 0 (2 * (before + t * (3 * p.l))) (3 * p.l))) in
    division_zero (width_log p) (masked p.l (4 * p.l) [] mask) mask [] width.small division
    (λ k. refl) j
