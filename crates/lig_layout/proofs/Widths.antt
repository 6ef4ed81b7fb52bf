-- The width is the least that has room.
use Rattle.std.proofs.Common.{◌≡◌, ℕ, ◌-◌, ◌*◌, ◌%◌, ◌^◌, ◌<◌, ◌≤◌, refl, ap, ◌∙◌, arith, inl, inr}
use Rattle.std.proofs.Common.{⊎_elim, ◌⊎◌}
use Rattle.std.proofs.Math.Nat.{pow-le-pow_right}
use Rattle.std.proofs.lemmas.Bool.{cases_lt, le-leb, lt-leb}
use Rattle.std.proofs.lemmas.Nat.{mul-le}
use Rattle.lig_layout.specs.Width.{width_exponent}
use Rattle.lig_layout.specs.Sizes.{IsLeastWidth}

-- the lesser power has the lesser exponent
less : (k e : ℕ) → k ≤ e → 2 ^ k ≤ 2 ^ e
less k e h = let two : 0 < 2 = omega arith in pow-le-pow_right two h

-- a power of two from 128 on that has room, where each lesser one is below 128 or has none
least_at : (e n : ℕ) → 7 ≤ e → n ≤ 2 ^ e * 2 ^ e → (e ≡ 7) ⊎ (2 ^ (e - 1) * 2 ^ (e - 1) < n)
    → IsLeastWidth n (2 ^ e)
least_at e n low room narrow = record {
  power = (e, refl);
  low = less 7 e low;
  enough = room;
  least = λ m power large fits. ⊎_elim
      (λ seven. let same : 2 ^ e ≡ 128 = ap (λ x. 2 ^ x) seven in omega (arith, same))
      (λ short. ⊎_elim
      (λ below.
      let half : m ≤ 2 ^ (e - 1) = omega (arith, power.1, less power.0 (e - 1) (omega arith)) in
      let square = mul-le m m (2 ^ (e - 1)) (2 ^ (e - 1)) half half in
      absurd (omega arith))
      (λ above. omega (arith, power.1, less e power.0 above))
      (cases_lt power.0 e))
      narrow;
}

pub exponent_small : (n : ℕ) → width_exponent n ≤ 11
exponent_small n = ⊎_elim
    (λ over7. let not7 = lt-leb n 16384 over7 in ⊎_elim
    (λ over8. let not8 = lt-leb n 65536 over8 in ⊎_elim
    (λ over9. let not9 = lt-leb n 262144 over9 in ⊎_elim
    (λ over10. let not10 = lt-leb n 1048576 over10 in ⊎_elim
    (λ over11. let not11 = lt-leb n 4194304 over11
    in rw (not7, not8, not9, not10, not11) (omega arith))
    (λ up11. let is11 = le-leb n 4194304 up11 in rw (not7, not8, not9, not10, is11) (omega arith))
    (cases_lt 4194304 n))
    (λ up10. let is10 = le-leb n 1048576 up10 in rw (not7, not8, not9, is10) (omega arith))
    (cases_lt 1048576 n))
    (λ up9. let is9 = le-leb n 262144 up9 in rw (not7, not8, is9) (omega arith))
    (cases_lt 262144 n))
    (λ up8. let is8 = le-leb n 65536 up8 in rw (not7, is8) (omega arith))
    (cases_lt 65536 n))
    (λ up7. let is7 = le-leb n 16384 up7 in rw is7 (omega arith))
    (cases_lt 16384 n)

pub least_width : (n : ℕ) → n ≤ 4194304 → IsLeastWidth n (2 ^ width_exponent n)
least_width n most = ⊎_elim
    (λ over7. let not7 = lt-leb n 16384 over7 in ⊎_elim
    (λ over8. let not8 = lt-leb n 65536 over8 in ⊎_elim
    (λ over9. let not9 = lt-leb n 262144 over9 in ⊎_elim
    (λ over10. let not10 = lt-leb n 1048576 over10
    in rw (not7, not8, not9, not10) (let is11 = le-leb n 4194304 most
    in rw is11 (least_at 11 n (omega arith) most (inr over10))))
    (λ up10. let is10 = le-leb n 1048576 up10
    in rw (not7, not8, not9, is10) (least_at 10 n (omega arith) up10 (inr over9)))
    (cases_lt 1048576 n))
    (λ up9. let is9 = le-leb n 262144 up9
    in rw (not7, not8, is9) (least_at 9 n (omega arith) up9 (inr over8)))
    (cases_lt 262144 n))
    (λ up8. let is8 = le-leb n 65536 up8
    in rw (not7, is8) (least_at 8 n (omega arith) up8 (inr over7)))
    (cases_lt 65536 n))
    (λ up7. let is7 = le-leb n 16384 up7 in rw is7 (least_at 7 n (omega arith) up7 (inl refl)))
    (cases_lt 16384 n)

-- as the code makes the width
pub width_made : (n e : ℕ) → n ≤ 4194304 → e ≡ width_exponent n
    → IsLeastWidth n (1 * 2 ^ e % 4294967296)
width_made n e most same =
    let small : width_exponent n ≤ 11 = exponent_small n in
    let top : 2 ^ e ≤ 2 ^ 11 = less e 11 (omega (arith, small, same)) in
    let made : 1 * 2 ^ e % 4294967296 ≡ 2 ^ width_exponent n =
    omega (arith, top) ∙ ap (λ x. 2 ^ x) same in
    rw made (least_width n most)
