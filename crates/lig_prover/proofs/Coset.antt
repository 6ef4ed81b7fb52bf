-- Values at 7 times the powers of a root, and the polynomial that they determine.
use Rattle.std.proofs.Common.{◌≡◌, ℕ, ◌*◌, ◌%◌, ◌^◌, ◌<◌, List, ◌++◌, length, map, take, drop}
use Rattle.std.proofs.Common.{get_or, sym, ap, subst, ◌∙◌, arith, zero-add, mul_assoc, lit<}
use Rattle.std.specs.List.{range_with_len}
use Rattle.std.proofs.Math.Nat.{mod-mod, mod-eq_of_lt}
use Rattle.std.proofs.lemmas.Nat.{mul-mod_first, mul-mod_second}
use Rattle.std.proofs.lemmas.List.{take-append-le, take_all}
use Rattle.std.proofs.lemmas.List.FromFn.{length-map-range_with_len, get_or-map-range_with_len}
use Rattle.std.proofs.lemmas.List.FromFn.{fill_by_all}
use Rattle.gold_field.specs.declared.gold.TheConstants.{P}
use Rattle.gold_ntt.specs.Polynomial.{eval_at, IsPadded}
use Rattle.gold_ntt.specs.Transform.{root_of, IsTransform, IsCosetTransform}
use Rattle.gold_ntt.proofs.Interpolation.{value_of_padded}
use Rattle.gold_ntt.proofs.Inverse.{both}
use Rattle.gold_ntt.proofs.Transforms.{coset_values}
use Rattle.lig_proof.specs.ProofBytes.{AreValues}
use Rattle.lig_proof.proofs.Interpolants.{same_lists, value_below}
use Rattle.lig_prover.specs.Transform.{values_at}

pub length-values_at : (e : ℕ) (coefs : List ℕ) → length (values_at e coefs) ≡ 2 ^ e
length-values_at e coefs =
    length-map-range_with_len (λ j. eval_at coefs (7 * root_of e ^ j % P)) 0 (2 ^ e)

pub get_or-values_at : (e : ℕ) (coefs : List ℕ) (j : ℕ) → j < 2 ^ e
    → get_or (values_at e coefs) j 0 ≡ eval_at coefs (7 * root_of e ^ j % P)
get_or-values_at e coefs j l =
    get_or-map-range_with_len (λ j. eval_at coefs (7 * root_of e ^ j % P)) 0 (2 ^ e) j j 0 l
    (zero-add j)

-- what the transform of the padded polynomial gives
pub evaluated : (e : ℕ) (coefs all values : List ℕ) → length all ≡ 2 ^ e → IsPadded coefs all
    → IsCosetTransform e all values → values ≡ values_at e coefs
evaluated e coefs all values size pad transform =
    fill_by_all (λ j. eval_at coefs (7 * root_of e ^ j % P)) values (2 ^ e) 0
    (transform.same_length ∙ size)
    (λ k l. transform.value k (let s = size in omega arith)
    ∙ value_of_padded coefs all (7 * root_of e ^ k % P) pad)

-- the coefficients times the powers of 7
abbrev scaled : List ℕ → List ℕ
scaled coefs = map (λ k. get_or coefs k 0 * 7 ^ k % P) (range_with_len 0 (length coefs))

scaled_transform : (e : ℕ) (coefs : List ℕ) → length coefs ≡ 2 ^ e
    → IsTransform e (scaled coefs) (values_at e coefs)
scaled_transform e coefs size =
    let n = length coefs in
    let f = λ (k : ℕ). get_or coefs k 0 * 7 ^ k % P in
    let long : length (scaled coefs) ≡ n = length-map-range_with_len f 0 n in
    let value = λ (j : ℕ). eval_at (scaled coefs) (root_of e ^ j % P) in
    let there = map value (range_with_len 0 n) in
    let transform : IsTransform e (scaled coefs) there = record {
      same_length = length-map-range_with_len value 0 n ∙ sym long;
      value = λ j l. get_or-map-range_with_len value 0 n j j 0 (let s = long in omega arith)
          (zero-add j);
    } in
    record {
      same_length = length-values_at e coefs ∙ sym size ∙ sym long;
      value = λ j l.
          let s = long in
          let low : j < n = omega arith in
          get_or-values_at e coefs j (let t = size in omega arith)
          ∙ sym (coset_values coefs (scaled coefs) there e 7 long
          (λ k m. get_or-map-range_with_len f 0 n k k 0 m (zero-add k)) transform j low)
          ∙ get_or-map-range_with_len value 0 n j j 0 low (zero-add j);
    }

-- the inverse transform, times the powers of the inverse of 7
pub interpolated : (e inverse : ℕ) (coefs values mid new : List ℕ) → AreValues (2 ^ e) coefs
    → values ≡ values_at e coefs → (7 * inverse) % P ≡ 1 → length new ≡ length values
    → ((b : List ℕ) → IsTransform e b values → (k : ℕ) → k < length b
    → get_or mid k 0 ≡ get_or b k 0 % P)
    → ((k : ℕ) → k < length values → get_or new k 0 ≡ get_or mid k 0 * inverse ^ k % P)
    → new ≡ coefs
interpolated e inverse coefs values mid new fits is unit same undoes scales =
    let size : length coefs ≡ 2 ^ e = fits.count in
    let long : length values ≡ 2 ^ e = ap length is ∙ length-values_at e coefs in
    let f = λ (k : ℕ). get_or coefs k 0 * 7 ^ k % P in
    let count : length (scaled coefs) ≡ length coefs = length-map-range_with_len f 0
    (length coefs) in
    same_lists new coefs (same ∙ long ∙ sym size) (λ k l.
    let low : k < length coefs = omega (arith, same, long, size) in
    let v = get_or coefs k 0 in
    let back : get_or mid k 0 ≡ v * 7 ^ k % P =
    undoes (scaled coefs) (let T : List ℕ → Type 0 = λ vs. IsTransform e (scaled coefs) vs in
    subst T (sym is) (scaled_transform e coefs size)) k (omega (arith, count))
    ∙ ap (λ y. y % P) (get_or-map-range_with_len f 0 (length coefs) k k 0 low (zero-add k))
    ∙ mod-mod (v * 7 ^ k) P in
    let one : 7 ^ k * inverse ^ k % P ≡ 1 = both P 7 inverse k (lit< tt) unit in
    let whole : v * 1 ≡ v = omega arith in
    scales k (omega (arith, same)) ∙ ap (λ y. y * inverse ^ k % P) back
    ∙ mul-mod_first (v * 7 ^ k) (inverse ^ k) P
    ∙ ap (λ y. y % P) (mul_assoc v (7 ^ k) (inverse ^ k))
    ∙ sym (mul-mod_second v (7 ^ k * inverse ^ k) P) ∙ ap (λ y. v * y % P) one
    ∙ ap (λ y. y % P) whole
    ∙ mod-eq_of_lt {n = v} {m = P} (value_below (2 ^ e) coefs fits k low))

-- what a `Vec` holds after its slice was written as a whole
pub written_back : (count : ℕ) (new old : List ℕ) → count ≡ length old → length new ≡ length old
    → take count (new ++ drop (length new) old) ≡ new
written_back count new old size same =
    take-append-le count new (drop (length new) old) (omega arith)
    ∙ take_all count new (omega arith)
