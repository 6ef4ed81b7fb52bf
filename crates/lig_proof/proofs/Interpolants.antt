-- Each row has one polynomial, and each row under a mask one.
use Rattle.std.proofs.Common.{◌≡◌, ℕ, zero, suc, ◌+◌, ◌-◌, ◌*◌, ◌%◌, ◌^◌, ◌<◌, ◌≤◌, List, [], ◌∷◌}
use Rattle.std.proofs.Common.{length, map, get_or, refl, sym, ap, subst, ◌∙◌, arith, zero-add}
use Rattle.std.proofs.Common.{⊎_elim}
use Rattle.std.specs.List.{AllByRecursion, range_with_len}
use Rattle.std.proofs.Math.Nat.{pow-le-pow_right, mod-eq_of_lt}
use Rattle.std.proofs.lemmas.Bool.{cases_lt}
use Rattle.std.proofs.lemmas.Nat.{pow-add, mod_below}
use Rattle.std.proofs.lemmas.List.FromFn.{length-map-range_with_len, get_or-map-range_with_len}
use Rattle.std.proofs.lemmas.List.Elements.{All-from_recursion}
use Rattle.gold_field.specs.declared.gold.TheConstants.{P}
use Rattle.gold_ntt.specs.Polynomial.{eval_at}
use Rattle.gold_ntt.specs.Transform.{root_of, HasValues}
use Rattle.gold_ntt.proofs.Interpolation.{same_coefficients}
use Rattle.gold_ntt.proofs.Transforms.{inverse_undone, halves_cancel, root_unit}
use Rattle.lig_layout.specs.declared.params.Params.{Params}
use Rattle.lig_layout.specs.Sizes.{IsParams}
use Rattle.lig_proof.specs.ProofBytes.{AreValues}
use Rattle.lig_proof.specs.Points.{width_log}
use Rattle.lig_proof.specs.Encoding.{masked, RowsHavePolynomials, PolynomialsAreOne}
use Rattle.lig_proof.specs.Encoding.{MaskedRowsAreOne}

-- numbers of the field, one by one
pub all_below : (xs : List ℕ) → ((k : ℕ) → k < length xs → get_or xs k 0 < P)
    → AllByRecursion (λ x. x < P) xs
all_below [] h = tt
all_below (x ∷ xs) h = (h 0 (omega arith), all_below xs (λ k low. h (suc k) (omega arith)))

-- the width is a power of two
pub record IsWidth (p : Params) : Type 0 where
  pub depth : p.depth ≤ 14
  pub small : width_log p ≤ 32
  pub power : p.l ≡ 2 ^ width_log p
  pub columns : p.depth ≡ width_log p + 3

grown : (i j : ℕ) → i ≤ j → 2 ^ i ≤ 2 ^ j
grown i j l = pow-le-pow_right (omega arith) l

pub width_is : (p : Params) → IsParams p → IsWidth p
width_is p h =
    let least = h.least in
    let greatest = h.greatest in
    let columns = h.depth in
    let three : 3 ≤ p.depth =
    ⊎_elim (λ low. let few = grown p.depth 2 (omega arith) in absurd (omega arith))
    (λ high. high) (cases_lt p.depth 3) in
    let most : p.depth ≤ 14 =
    ⊎_elim (λ low. omega arith) (λ high. let many = grown 15 p.depth high
    in absurd (omega arith)) (cases_lt p.depth 15) in
    let whole : p.depth ≡ width_log p + 3 = omega arith in
    let split : 2 ^ p.depth ≡ 2 ^ width_log p * 8 =
    ap (λ n. 2 ^ n) whole ∙ pow-add 2 (width_log p) 3 in
    record { depth = most; small = omega arith; power = omega arith; columns = whole }

-- equal lists
pub same_lists : (xs ys : List ℕ) → length xs ≡ length ys
    → ((k : ℕ) → k < length xs → get_or xs k 0 ≡ get_or ys k 0) → xs ≡ ys
same_lists [] [] e h = refl
same_lists [] (y ∷ ys) e h = absurd (omega arith)
same_lists (x ∷ xs) [] e h = absurd (omega arith)
same_lists (x ∷ xs) (y ∷ ys) e h =
    ap (λ z. z ∷ xs) (h 0 (omega arith))
    ∙ ap (λ zs. y ∷ zs) (same_lists xs ys (omega arith) (λ k l. h (suc k) (omega arith)))

pub value_below : (n : ℕ) (values : List ℕ) → AreValues n values → (k : ℕ) → k < length values
    → get_or values k 0 < P
value_below n values h k l = All-from_recursion (λ x. x < P) values h.each k 0 l

pub polynomials_are_one : PolynomialsAreOne
polynomials_are_one p row a b h first second =
    let width = width_is p h in
    let size : length row ≡ 2 ^ width_log p =
    first.values.same_length ∙ first.degree.count ∙ width.power in
    same_lists a b (first.degree.count ∙ sym second.degree.count) (λ k l.
    let count = first.degree.count in
    let other = second.degree.count in
    let here = same_coefficients (width_log p) a b row width.small size first.values second.values k
    (omega (arith, width.power)) in
    sym (mod-eq_of_lt {n = get_or a k 0} {m = P} (value_below p.l a first.degree k l)) ∙ here
    ∙ mod-eq_of_lt {n = get_or b k 0} {m = P} (value_below p.l b second.degree k (omega arith)))

-- the numbers that a function gives are a list of the field where it says so
pub made_values : (n : ℕ) (f : ℕ → ℕ) → AreValues n (map (λ k. f k % P) (range_with_len 0 n))
made_values n f =
    record { count = length-map-range_with_len (λ k. f k % P) 0 n; each = each_below 0 n }
  where
    each_below : (a m : ℕ) → AllByRecursion (λ x. x < P) (map (λ k. f k % P) (range_with_len a m))
    each_below a zero = tt
    each_below a (suc m) = (mod_below (f a) P (omega arith), each_below (a + 1) m)

pub rows_have_polynomials : RowsHavePolynomials
rows_have_polynomials p row h values =
    let width = width_is p h in
    let e = width_log p in
    let n = length row in
    let size : n ≡ 2 ^ e = values.count ∙ width.power in
    let v = root_of e ^ (2 ^ e - 1) % P in
    let s = 9223372034707292161 ^ e % P in
    let value = λ (k : ℕ). eval_at row (v ^ k % P) in
    let mid = map value (range_with_len 0 n) in
    let coefficient = λ (k : ℕ). get_or mid k 0 * s in
    let new = map (λ k. coefficient k % P) (range_with_len 0 n) in
    let there : HasValues v row mid = record {
      same_length = length-map-range_with_len value 0 n;
      value = λ j l. get_or-map-range_with_len value 0 n j j 0 l (zero-add j);
    } in
    let made = made_values n coefficient in
    let Values : ℕ → Type 0 = λ m. AreValues m new in (
      new,
      record {
        degree = subst Values values.count made;
        values = inverse_undone row mid new e v s width.small size
            (length-map-range_with_len (λ k. coefficient k % P) 0 n) (root_unit e width.small)
            (halves_cancel s e refl) there
            (value_below p.l row values)
            (λ k l. get_or-map-range_with_len (λ k. coefficient k % P) 0 n k k 0 l
            (zero-add k));
      },
    )

pub masked_rows_are_one : MaskedRowsAreOne
masked_rows_are_one p row mask a b h first second =
    first.sum
    ∙ ap (λ base. masked p.l (2 * p.l) base mask)
    (polynomials_are_one p row first.polynomial second.polynomial h first.interpolates
    second.interpolates) ∙ sym second.sum
