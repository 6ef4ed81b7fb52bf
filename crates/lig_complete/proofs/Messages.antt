-- What an encoded matrix of vectors has at the message points.
use Rattle.std.proofs.Common.{◌≡◌, ℕ, zero, suc, ◌+◌, ◌-◌, ◌*◌, ◌%◌, ◌^◌, ◌<◌, List, ◌∷◌}
use Rattle.std.proofs.Common.{length, get_or, drop, sym, ap, subst, ◌∙◌, arith}
use Rattle.std.proofs.lemmas.Nat.{pow_pos}
use Rattle.std.proofs.lemmas.List.{length-take-le, length-drop}
use Rattle.gold_field.specs.declared.gold.TheConstants.{P}
use Rattle.gold_ntt.specs.Polynomial.{sum_to, eval_at}
use Rattle.iden_files.specs.File.{File, IsFile}
use Rattle.lig_layout.specs.declared.params.Params.{Params}
use Rattle.lig_layout.specs.declared.matrix.Vectors.{Vectors}
use Rattle.lig_layout.specs.Sizes.{IsParams, params_of}
use Rattle.lig_layout.specs.Layout.{message, row_at}
use Rattle.lig_layout.specs.System.{combined, left_sides, public_count, equation_count}
use Rattle.lig_layout.specs.Laws.{publics_of}
use Rattle.lig_proof.specs.declared.challenge.Challenges.{Challenges}
use Rattle.lig_proof.specs.Points.{width_log, message_point}
use Rattle.lig_proof.specs.Encoding.{Interpolates}
use Rattle.lig_proof.specs.Masks.{mask_numbers, row_mask, linear_mask}
use Rattle.lig_proof.specs.Columns.{Encoded}
use Rattle.lig_proof.specs.Sent.{r_numbers}
use Rattle.lig_proof.specs.Values.{HasDegrees}
use Rattle.lig_proof.specs.Proving.{IsEncoded, AreSystems}
use Rattle.lig_proof.proofs.Interpolants.{width_is}
use Rattle.rand_chacha.specs.ChaCha.{key_of}
use Rattle.lig_complete.proofs.Matrix.{row_place}
use Rattle.lig_complete.proofs.Folding.{values_cancel}
use Rattle.lig_complete.proofs.MaskedRows.{numbers_below, masked_row_at_message, row_mask_count}
use Rattle.lig_complete.proofs.MaskedRows.{row_mask_low, product_mask_zero}
use Rattle.lig_complete.proofs.AtMessage.{AreMessages}

cancelled : (a b : ℕ) → a < P → b < P → (((P - a) + (P - b)) % P + (a + b)) % P ≡ 0
cancelled a b low_a low_b = omega arith

get_behind : (x : ℕ) (xs : List ℕ) (n : ℕ) → 0 < n → get_or (x ∷ xs) n 0 ≡ get_or xs (n - 1) 0
get_behind x xs zero pos = absurd (omega arith)
get_behind x xs (suc n) pos = ap (λ (k : ℕ). get_or xs k 0) (omega arith)

-- the first coefficient of the linear test's mask makes up for two others
mask_cancels : (p : Params) (seed : List ℕ) (t : ℕ) → 0 < p.l
    → (let mask = linear_mask p seed t
    in (get_or mask 0 0 + (get_or mask p.l 0 + get_or mask (2 * p.l) 0)) % P ≡ 0)
mask_cancels p seed t pos =
    let free = 3 * p.l - 1 in
    let start = (p.rows + 4) * p.l + t * free in
    let others = mask_numbers seed start free in
    let a = get_or others (p.l - 1) 0 in
    let b = get_or others (2 * p.l - 1) 0 in
    let first = ((P - a) + (P - b)) % P in
    ap (λ (y : ℕ). (first + (y + get_or (first ∷ others) (2 * p.l) 0)) % P)
    (get_behind first others p.l pos)
    ∙ ap (λ (y : ℕ). (first + (a + y)) % P) (get_behind first others (2 * p.l) (omega arith))
    ∙ cancelled a b (numbers_below (key_of seed) 0 (2 * start) free (p.l - 1))
    (numbers_below (key_of seed) 0 (2 * start) free (2 * p.l - 1))

linear_cancels : (p : Params) (seed : List ℕ) (t : ℕ) (coefs : List ℕ) → IsParams p
    → length coefs ≡ 3 * p.l → coefs ≡ linear_mask p seed t
    → sum_to p.l (λ j. eval_at coefs (message_point p j)) % P ≡ 0
linear_cancels p seed t coefs h count is =
    let width = width_is p h in
    let least = h.least in
    let n = 2 ^ width_log p in
    let power = width.power in
    let None : List ℕ → Type 0 =
    λ m. (get_or m 0 0 + (get_or m p.l 0 + get_or m (2 * p.l) 0)) % P ≡ 0 in
    let none = subst None (sym is) (mask_cancels p seed t (omega arith)) in
    let None_at : ℕ → Type 0 =
    λ l. (get_or coefs 0 0 + (get_or coefs l 0 + get_or coefs (2 * l) 0)) % P ≡ 0 in
    ap (λ (l : ℕ). sum_to l (λ j. eval_at coefs (message_point p j)) % P) power
    ∙ values_cancel (width_log p) coefs width.small (pow_pos (width_log p)) (omega arith)
    (subst None_at power none)

pub length-publics : (f : File) (w : List ℕ) → IsFile f → length w ≡ f.wires
    → length (publics_of f w) ≡ public_count f
length-publics f w file count =
    let numbered = file.numbered in
    length-take-le (public_count f) (drop 1 w) (omega (arith, length-drop 1 w))

-- the system, combined by the numbers of each repetition
abbrev pub combination : File → Challenges → ℕ → List ℕ
combination f c t =
    let p = params_of f in
    combined (p.rows * p.l) (r_numbers (equation_count f) c t) (left_sides p f)

module _ (f : File) (v : Vectors) (seed : List ℕ) (c : Challenges) (e : Encoded)
    (system : ℕ → ℕ → List ℕ) (h : IsParams (params_of f)) (degrees : HasDegrees (params_of f) e)
    (encoded : IsEncoded (params_of f) v seed e) (systems : AreSystems f c system) where
  abbrev values : List ℕ
  values = message (params_of f) v

  row_has : (k j : ℕ) → k < (params_of f).rows → j < (params_of f).l
      → eval_at (e.row k) (message_point (params_of f) j)
      ≡ get_or values (k * (params_of f).l + j) 0
  row_has k j low inside =
      let p = params_of f in
      masked_row_at_message p (row_at p values k) (row_mask p seed k) (e.row k) j h
      (encoded.row k low)
      (row_mask_count p seed k) (row_mask_low p seed k) inside
      ∙ row_place p values k j inside

  system_has : (t k j : ℕ) → t < 2 → k < (params_of f).rows → j < (params_of f).l
      → eval_at (system t k) (message_point (params_of f) j)
      ≡ get_or (combination f c t) (k * (params_of f).l + j) 0
  system_has t k j low m inside =
      let p = params_of f in
      let is : Interpolates p (row_at p (combination f c t) k) (system t k) = systems t low k m in
      let count = is.degree.count in
      sym (is.values.value j (omega arith)) ∙ row_place p (combination f c t) k j inside

  pub are_messages : AreMessages (params_of f) e system values (combination f c)
  are_messages =
      let p = params_of f in
      record {
        row = row_has;
        combined = system_has;
        linear = λ t low. linear_cancels p seed t (e.linear t) h (degrees.linear t low).count
            (encoded.linear t low);
        product =
            λ t j low. ap (λ (xs : List ℕ). eval_at xs (message_point p j)) (encoded.product t low)
            ∙ product_mask_zero p seed t j h;
      }
