-- Halving a block of coefficients: the values of its halves are its own.
use Rattle.std.proofs.Common.{◌≡◌, ℕ, zero, suc, ◌+◌, ◌-◌, ◌*◌, ◌/◌, ◌%◌, ◌^◌, ◌<◌, ◌≤◌, ◌⊎◌}
use Rattle.std.proofs.Common.{inl, inr, refl, sym, ◌∙◌, ap, subst, arith, lit<, mod-eq_of_lt}
use Rattle.std.proofs.Common.{mod-lt, List, length, get_or, mul_assoc, mul_comm, pow-suc}
use Rattle.std.proofs.Math.Nat.{mod-mod, mul-le-mul_left, pow-zero, two-pow-succ}
use Rattle.std.proofs.lemmas.Bool.{cases_lt}
use Rattle.std.proofs.lemmas.Grind.{get_or_default_zero}
use Rattle.std.proofs.lemmas.Nat.{mul-mod_first, mul-pow, pow-add, pow_below, pow_pos}
use Rattle.gold_field.specs.declared.gold.TheConstants.{P}
use Rattle.gold_field.proofs.Period.{one_pow}
use Rattle.gold_field.proofs.PowerSteps.{pow_pow}
use Rattle.gold_ntt.specs.Coset.{point_at, AreTwiddles, AreParts, HasSpread}
use Rattle.gold_ntt.specs.Polynomial.{sum_to, poly}
use Rattle.gold_ntt.specs.Reversal.{reversed}
use Rattle.gold_ntt.specs.Transform.{root_of, IsCosetTransform}
use Rattle.gold_ntt.proofs.Butterfly.{negative}
use Rattle.gold_ntt.proofs.Products.{poly-add}
use Rattle.gold_ntt.proofs.ReversalLaws.{top, reversed_below, reversed_twice}
use Rattle.gold_ntt.proofs.RootLaws.{root_one, root_half}
use Rattle.gold_ntt.proofs.Sums.{sum_to-zero, sum_to-suc, sum_same, sum-scale}
use Rattle.gold_ntt.proofs.Values.{poly_coefs, poly-scale, plus_same, times_same, same_times}
use Rattle.gold_ntt.proofs.Values.{pow_same, poly_point}

-- the first terms and the others
sum_parts : (n k : ℕ) (f : ℕ → ℕ) → sum_to (n + k) f ≡ sum_to n f + sum_to k (λ i. f (n + i))
unfolding sum_to
sum_parts n zero f =
    let same : n + 0 ≡ n = omega arith in ap (λ (y : ℕ). sum_to y f) same ∙ omega arith
sum_parts n (suc k) f =
    let next : n + suc k ≡ suc (n + k) = omega arith in
    ap (λ (y : ℕ). sum_to y f) next ∙ omega (arith, sum_parts n k f)

-- a polynomial by its first half of coefficients and its second
poly_halves : (m : ℕ) (c : ℕ → ℕ) (x : ℕ)
    → poly (m + m) c x ≡ poly m c x + x ^ m * poly m (λ i. c (m + i)) x
poly_halves m c x =
    sum_parts m m (λ i. c i * x ^ i)
    ∙ ap (λ (y : ℕ). poly m c x + y)
    (sum_same m (λ i. c (m + i) * x ^ (m + i)) (λ i. x ^ m * (c (m + i) * x ^ i))
    (λ i l. term (c (m + i)) i)
    ∙ sum-scale m (x ^ m) (λ i. c (m + i) * x ^ i))
  where
    term : (a i : ℕ) → a * x ^ (m + i) ≡ x ^ m * (a * x ^ i)
    term a i =
        let y : ℕ = x ^ m in
        let z : ℕ = x ^ i in
        let order : a * (y * z) ≡ y * (a * z) = omega arith in
        ap (λ (w : ℕ). a * w) (pow-add x m i) ∙ order

-- the remainder by X ^ m - t has the same value where x ^ m is t
half_value : (m : ℕ) (c d : ℕ → ℕ) (x t : ℕ)
    → ((i : ℕ) → i < m → d i % P ≡ (c i + t * c (m + i)) % P)
    → x ^ m % P ≡ t % P → poly m d x % P ≡ poly (m + m) c x % P
half_value m c d x t is power =
    let first : ℕ = poly m c x in
    let second : ℕ = poly m (λ i. c (m + i)) x in
    poly_coefs P m d (λ i. c i + t * c (m + i)) x is
    ∙ ap (λ (y : ℕ). y % P) (poly-add m c (λ i. t * c (m + i)) x)
    ∙ ap (λ (y : ℕ). (first + y) % P) (poly-scale m t (λ i. c (m + i)) x)
    ∙ plus_same P first first (t * second) (x ^ m * second) refl
    (same_times P second t (x ^ m) (sym power))
    ∙ ap (λ (y : ℕ). y % P) (sym (poly_halves m c x))

-- the bits of a block and of a place in it, reversed together
joined : (k d e b r : ℕ) → e ≡ k + d → r < 2 ^ k
    → reversed e (b * 2 ^ k + r) ≡ reversed d b + 2 ^ d * reversed k r
joined zero d e b r whole low =
    let same : e ≡ d = omega arith in
    let place : b * 2 ^ 0 + r ≡ b = omega arith in
    ap (λ (y : ℕ). reversed y (b * 2 ^ 0 + r)) same ∙ ap (λ (y : ℕ). reversed d y) place
    ∙ omega arith
joined (suc k) d zero b r whole low = absurd (omega arith)
joined (suc k) d (suc e) b r whole low =
    let double : 2 ^ suc k ≡ 2 ^ k + 2 ^ k = two-pow-succ k in
    let t : ℕ = 2 ^ k in
    let parts : b * 2 ^ suc k ≡ b * t + b * t = ap (λ (y : ℕ). b * y) double ∙ omega arith in
    let n : ℕ = b * 2 ^ suc k + r in
    let rest : n % 2 ≡ r % 2 = omega arith in
    let half : n / 2 ≡ b * t + r / 2 = omega arith in
    let small : r / 2 < 2 ^ k = omega arith in
    let less : e ≡ k + d = omega arith in
    let power : 2 ^ e ≡ t * 2 ^ d = ap (λ (y : ℕ). 2 ^ y) less ∙ pow-add 2 k d in
    let first : n % 2 * 2 ^ e ≡ r % 2 * (t * 2 ^ d) =
    ap (λ (y : ℕ). y * 2 ^ e) rest ∙ ap (λ (y : ℕ). r % 2 * y) power in
    let second : reversed e (n / 2) ≡ reversed d b + 2 ^ d * reversed k (r / 2) =
    ap (λ (y : ℕ). reversed e y) half ∙ joined k d e b (r / 2) less small in
    together (r % 2) t (2 ^ d) (reversed d b) (reversed k (r / 2)) (n % 2 * 2 ^ e)
    (reversed e (n / 2)) first second
  where
    together : (a t u v w x y : ℕ) → x ≡ a * (t * u) → y ≡ v + u * w
        → x + y ≡ v + u * (a * t + w)
    together a t u v w x y first second = rw (first, second) (omega arith)

-- the power of a point that tells the halves of its block apart
turned : (d k e b h p : ℕ) → d + suc k ≡ e → e ≤ 32 → h < 2 → p < 2 ^ k
    → point_at e (b * 2 ^ suc k + (h * 2 ^ k + p)) ^ (2 ^ k) % P
    ≡ (7 * root_of e ^ reversed d b) ^ (2 ^ k) * (P - 1) ^ h % P
turned d k e b h p whole small two low =
    let w : ℕ = root_of e in
    let t : ℕ = 2 ^ k in
    let u : ℕ = 2 ^ d in
    let r : ℕ = reversed k p in
    let front : ℕ = 7 * w ^ reversed d b in
    let double : 2 ^ suc k ≡ t + t = two-pow-succ k in
    let inside : h * t + p < 2 ^ suc k = below_both h t p (2 ^ suc k) two low double in
    let bits : reversed e (b * 2 ^ suc k + (h * t + p)) ≡ reversed d b + u * (2 * r + h) =
    joined (suc k) d e b (h * t + p) (omega arith) inside
    ∙ ap (λ (y : ℕ). reversed d b + u * y) (top k h p two low) in
    let point : point_at e (b * 2 ^ suc k + (h * t + p)) ≡ front * w ^ (u * (2 * r + h)) =
    ap (λ (y : ℕ). 7 * w ^ y) bits
    ∙ ap (λ (y : ℕ). 7 * y) (pow-add w (reversed d b) (u * (2 * r + h)))
    ∙ sym (mul_assoc 7 (w ^ reversed d b) (w ^ (u * (2 * r + h)))) in
    ap (λ (y : ℕ). y ^ t % P) point
    ∙ ap (λ (y : ℕ). y % P) (mul-pow front (w ^ (u * (2 * r + h))) t)
    ∙ times_same P (front ^ t) ((w ^ (u * (2 * r + h))) ^ t) ((P - 1) ^ h)
    (turn d k e h r whole small)
  where
    below_both : (h t p s : ℕ) → h < 2 → p < t → s ≡ t + t → h * t + p < s
    below_both zero t p s two low is = omega arith
    below_both (suc zero) t p s two low is = omega arith
    below_both (suc (suc h)) t p s two low is = absurd (omega arith)

    spelled : (u t r h half full : ℕ) → half ≡ u * t → full ≡ half + half
        → u * (2 * r + h) * t ≡ full * r + half * h
    spelled u t r h half full parts whole = rw (whole, parts) (omega arith)

    turn : (d k e h r : ℕ) → d + suc k ≡ e → e ≤ 32
        → (root_of e ^ (2 ^ d * (2 * r + h))) ^ (2 ^ k) % P ≡ (P - 1) ^ h % P
    turn d k e h r whole small =
        let w : ℕ = root_of e in
        let less : suc (d + k) ≡ e = omega arith in
        let half : ℕ = 2 ^ (d + k) in
        let full : 2 ^ e ≡ half + half =
        ap (λ (y : ℕ). 2 ^ y) (sym less) ∙ two-pow-succ (d + k) in
        let parts : half ≡ 2 ^ d * 2 ^ k = pow-add 2 d k in
        let exponent : 2 ^ d * (2 * r + h) * 2 ^ k ≡ 2 ^ e * r + half * h =
        spelled (2 ^ d) (2 ^ k) r h half (2 ^ e) parts full in
        let one : (w ^ (2 ^ e)) ^ r % P ≡ 1 =
        pow_same P (w ^ (2 ^ e)) 1 r
        (root_one e small ∙ sym (mod-eq_of_lt {n = 1} {m = P} (lit< tt)))
        ∙ ap (λ (y : ℕ). y % P) (one_pow r) ∙ mod-eq_of_lt {n = 1} {m = P} (lit< tt) in
        let minus : (w ^ half) ^ h % P ≡ (P - 1) ^ h % P =
        pow_same P (w ^ half) (P - 1) h
        (ap (λ (y : ℕ). root_of y ^ half % P) (sym less) ∙ root_half (d + k) (omega arith)
        ∙ sym (mod-eq_of_lt {n = P - 1} {m = P} (lit< tt))) in
        let alone : 1 * (w ^ half) ^ h ≡ (w ^ half) ^ h = omega arith in
        ap (λ (y : ℕ). y % P) (pow_pow w (2 ^ d * (2 * r + h)) (2 ^ k)
        ∙ ap (λ (y : ℕ). w ^ y) exponent
        ∙ pow-add w (2 ^ e * r) (half * h)
        ∙ ap (λ (y : ℕ). y * w ^ (half * h)) (sym (pow_pow w (2 ^ e) r))
        ∙ ap (λ (y : ℕ). (w ^ (2 ^ e)) ^ r * y) (sym (pow_pow w half h)))
        ∙ sym (mul-mod_first ((w ^ (2 ^ e)) ^ r) ((w ^ half) ^ h) P)
        ∙ ap (λ (y : ℕ). y * (w ^ half) ^ h % P) one ∙ ap (λ (y : ℕ). y % P) alone ∙ minus

pub turned_low : (d k e b p : ℕ) (twiddles : List ℕ) → d + suc k ≡ e → e ≤ 32 → b < 2 ^ d
    → p < 2 ^ k → AreTwiddles e twiddles
    → point_at e (b * 2 ^ suc k + p) ^ (2 ^ k) % P ≡ get_or twiddles (2 ^ d + b) 0 % P
turned_low d k e b p twiddles whole small block low are =
    let t : ℕ = 2 ^ k in
    let front : ℕ = (7 * root_of e ^ reversed d b) ^ t in
    let none : 0 * t + p ≡ p = omega arith in
    let alone : front * (P - 1) ^ 0 ≡ front =
    ap (λ (y : ℕ). front * y) (pow-zero (P - 1)) ∙ omega arith in
    ap (λ (y : ℕ). point_at e (b * 2 ^ suc k + y) ^ t % P) (sym none)
    ∙ turned d k e b 0 p whole small (lit< tt) low
    ∙ ap (λ (y : ℕ). y % P) alone ∙ sym (mod-mod front P)
    ∙ ap (λ (y : ℕ). y % P) (sym (are.each d k b whole block))

pub turned_high : (d k e b p : ℕ) (twiddles : List ℕ) → d + suc k ≡ e → e ≤ 32 → b < 2 ^ d
    → p < 2 ^ k → AreTwiddles e twiddles
    → point_at e (b * 2 ^ suc k + (2 ^ k + p)) ^ (2 ^ k) % P
    ≡ (P - 1) * get_or twiddles (2 ^ d + b) 0 % P
turned_high d k e b p twiddles whole small block low are =
    let t : ℕ = 2 ^ k in
    let front : ℕ = (7 * root_of e ^ reversed d b) ^ t in
    let once : 1 * t + p ≡ t + p = omega arith in
    let minus : front * (P - 1) ^ 1 ≡ (P - 1) * front =
    ap (λ (y : ℕ). front * y) (first_power (P - 1)) ∙ mul_comm front (P - 1) in
    ap (λ (y : ℕ). point_at e (b * 2 ^ suc k + y) ^ t % P) (sym once)
    ∙ turned d k e b 1 p whole small (lit< tt) low
    ∙ ap (λ (y : ℕ). y % P) minus
    ∙ times_same P (P - 1) front (get_or twiddles (2 ^ d + b) 0)
    (sym (mod-mod front P) ∙ ap (λ (y : ℕ). y % P) (sym (are.each d k b whole block)))
  where
    first_power : (x : ℕ) → x ^ 1 ≡ x
    first_power x = pow-suc x 0 ∙ ap (λ (y : ℕ). y * x) (pow-zero x) ∙ omega arith

-- where the second half is 0, both halves are the first
pub doubled : (old mid : List ℕ) (start m t count : ℕ) → count ≤ m
    → ((i : ℕ) → count ≤ i → i < m + m → get_or old (start + i) 0 ≡ 0)
    → ((j : ℕ) → j < m → get_or mid (start + m + j) 0 ≡ get_or old (start + j) 0)
    → ((p : ℕ) → (p < start + m) ⊎ (start + (m + m) ≤ p) → get_or mid p 0 ≡ get_or old p 0)
    → AreParts old mid start m t count
doubled old mid start m t count few zeros copied others =
    let none : (j : ℕ) → j < m → get_or old (start + m + j) 0 ≡ 0 =
    λ j h. let place : start + m + j ≡ start + (m + j) = omega arith in
    ap (λ (y : ℕ). get_or old y 0) place ∙ zeros (m + j) (omega arith) (omega arith) in
    let same : (s j : ℕ) → j < m
    → get_or old (start + j) 0 ≡ get_or old (start + j) 0 + s * get_or old (start + m + j) 0 =
    λ s j h.
    let nothing : get_or old (start + j) 0 ≡ get_or old (start + j) 0 + s * 0 = omega arith in
    nothing ∙ ap (λ (y : ℕ). get_or old (start + j) 0 + s * y) (sym (none j h)) in
    record {
      low = λ j h. ap (λ (y : ℕ). y % P) (others (start + j) (inl (omega arith)) ∙ same t j h);
      high = λ j h. ap (λ (y : ℕ). y % P) (copied j h ∙ same ((P - 1) * t) j h);
      others = λ p h. others p (elim h [ inl before ↦ inl (omega arith) | inr after ↦ inr after ]);
      low_zeros = λ i h l.
          others (start + i) (inl (omega arith)) ∙ zeros i (omega arith) (omega arith);
      high_zeros = λ i h l. copied i l ∙ zeros i (omega arith) (omega arith);
    }

pub halved : (old mid : List ℕ) (start m t count : ℕ) → m < count
    → ((j : ℕ) → j < m → get_or mid (start + j) 0
    ≡ (get_or old (start + j) 0 + t * get_or old (start + m + j) 0 % P) % P)
    → ((j : ℕ) → j < m → get_or mid (start + m + j) 0
    ≡ (get_or old (start + j) 0 + (P - t * get_or old (start + m + j) 0 % P)) % P)
    → ((p : ℕ) → (p < start) ⊎ (start + (m + m) ≤ p) → get_or mid p 0 ≡ get_or old p 0)
    → AreParts old mid start m t count
halved old mid start m t count many low high others =
    record {
      low = λ j h.
          let o : ℕ = get_or old (start + j) 0 in
          let x : ℕ = t * get_or old (start + m + j) 0 in
          ap (λ (y : ℕ). y % P) (low j h) ∙ mod-mod (o + x % P) P
          ∙ plus_same P o o (x % P) x refl (mod-mod x P);
      high = λ j h.
          let o : ℕ = get_or old (start + j) 0 in
          let v : ℕ = get_or old (start + m + j) 0 in
          let x : ℕ = t * v in
          ap (λ (y : ℕ). y % P) (high j h) ∙ mod-mod (o + (P - x % P)) P
          ∙ plus_same P o o (P - x % P) ((P - 1) * t * v) refl
          (negative P x ((P - 1) * t * v) (lit< tt)
          (ap (λ (y : ℕ). y % P) (mul_assoc (P - 1) t v)));
      others = others;
      low_zeros = λ i h l. absurd (omega arith);
      high_zeros = λ i h l. absurd (omega arith);
    }

-- a block of twice the size, from its halves
pub whole_spread : (old mid one two twiddles : List ℕ) (e d k b start s₁ s₂ m count : ℕ) → m ≡ 2 ^ k
    → start ≡ b * 2 ^ suc k → s₁ ≡ start → s₂ ≡ start + m
    → d + suc k ≡ e → e ≤ 32 → b < 2 ^ d → AreTwiddles e twiddles
    → AreParts old mid start m (get_or twiddles (2 ^ d + b) 0) count
    → HasSpread mid one e s₁ k → HasSpread one two e s₂ k
    → HasSpread old two e start (suc k)
whole_spread old mid one two twiddles e d k b start s₁ s₂ m count size begin first_at second_at
    whole small block are halved first_there second_there =
    let First : ℕ → Type 0 = λ s. HasSpread mid one e s k in
    let first : HasSpread mid one e start k = subst First first_at first_there in
    let Second : ℕ → Type 0 = λ s. HasSpread one two e s k in
    let second : HasSpread one two e (start + m) k = subst Second second_at second_there in
    let double : 2 ^ suc k ≡ m + m = two-pow-succ k ∙ ap (λ (y : ℕ). y + y) (sym size) in
    let t : ℕ = get_or twiddles (2 ^ d + b) 0 in
    let c : ℕ → ℕ = λ i. get_or old (start + i) 0 in
    let up : (i : ℕ) → c (m + i) ≡ get_or old (start + m + i) 0 =
    λ i. let place : start + (m + i) ≡ start + m + i = omega arith in
    ap (λ (y : ℕ). get_or old y 0) place in
    record {
      inside = λ p l.
          elim (cases_lt p m) [
            | inl low ↦
                let x : ℕ = point_at e (start + p) in
                let power : x ^ m % P ≡ t % P =
                ap (λ (y : ℕ). point_at e (y + p) ^ m % P) begin
                ∙ ap (λ (y : ℕ). point_at e (b * 2 ^ suc k + p) ^ y % P) size
                ∙ turned_low d k e b p twiddles whole small block (omega arith) are in
                second.others (start + p) (inl (omega arith)) ∙ first.inside p (omega arith)
                ∙ ap (λ (y : ℕ). poly y (λ i. get_or mid (start + i) 0) x % P) (sym size)
                ∙ half_value m c (λ i. get_or mid (start + i) 0) x t
                (λ i h. halved.low i h
                ∙ ap (λ (y : ℕ). (c i + t * y) % P) (sym (up i))) power
                ∙ ap (λ (y : ℕ). poly y c x % P) (sym double)
            | inr high ↦
                let q : ℕ = p - m in
                let below : q < m = omega arith in
                let place : start + p ≡ start + m + q = omega arith in
                let x : ℕ = point_at e (start + m + q) in
                let s : ℕ = (P - 1) * t in
                let at : start + m + q ≡ start + (m + q) = omega arith in
                let power : x ^ m % P ≡ s % P =
                ap (λ (y : ℕ). point_at e y ^ m % P) at
                ∙ ap (λ (y : ℕ). point_at e (y + (m + q)) ^ m % P) begin
                ∙ ap (λ (y : ℕ). point_at e (b * 2 ^ suc k + (y + q)) ^ y % P) size
                ∙ turned_high d k e b q twiddles whole small block (omega arith) are in
                ap (λ (y : ℕ). get_or two y 0) place ∙ second.inside q (omega arith)
                ∙ ap (λ (y : ℕ). poly y (λ i. get_or one (start + m + i) 0) x % P) (sym size)
                ∙ half_value m c (λ i. get_or one (start + m + i) 0) x s
                (λ i h. ap (λ (y : ℕ). y % P) (first.others (start + m + i) (inr (omega arith)))
                ∙ halved.high i h
                ∙ ap (λ (y : ℕ). (c i + s * y) % P) (sym (up i))) power
                ∙ ap (λ (y : ℕ). poly (m + m) c (point_at e y) % P) (sym place)
                ∙ ap (λ (y : ℕ). poly y c (point_at e (start + p)) % P) (sym double)
          ];
      others = λ p h.
          let halved_out : (p < start) ⊎ (start + (m + m) ≤ p) =
          elim h [ inl before ↦ inl before | inr after ↦ inr (omega arith) ] in
          let second_out : (p < start + m) ⊎ (start + m + 2 ^ k ≤ p) =
          elim h [ inl before ↦ inl (omega arith) | inr after ↦ inr (omega arith) ] in
          let first_out : (p < start) ⊎ (start + 2 ^ k ≤ p) =
          elim h [ inl before ↦ inl before | inr after ↦ inr (omega arith) ] in
          second.others p second_out ∙ first.others p first_out ∙ halved.others p halved_out;
    }

pub first_start : (b k : ℕ) → 2 * b * 2 ^ k ≡ b * 2 ^ suc k
first_start b k =
    let t : ℕ = 2 ^ k in
    let parts : b * 2 ^ suc k ≡ b * (t + t) = ap (λ (y : ℕ). b * y) (two-pow-succ k) in
    omega arith

pub second_start : (b k m : ℕ) → m ≡ 2 ^ k → (2 * b + 1) * 2 ^ k ≡ b * 2 ^ suc k + m
second_start b k m is =
    let t : ℕ = 2 ^ k in
    let parts : b * 2 ^ suc k ≡ b * (t + t) = ap (λ (y : ℕ). b * y) (two-pow-succ k) in
    omega arith

-- the same as the code has it
pub whole_at : (old mid one two twiddles : List ℕ) (d b log m count : ℕ) → 0 < log
    → m ≡ 2 ^ (log - 1) → d + log ≤ 20 → b < 2 ^ d → AreTwiddles (d + log) twiddles
    → AreParts old mid (b * 2 ^ log) m (get_or twiddles (2 ^ d + b) 0) count
    → HasSpread mid one (d + 1 + (log - 1)) (2 * b * 2 ^ (log - 1)) (log - 1)
    → HasSpread one two (d + 1 + (log - 1)) ((2 * b + 1) * 2 ^ (log - 1)) (log - 1)
    → HasSpread old two (d + log) (b * 2 ^ log) log
whole_at old mid one two twiddles d b zero m count pos size small block are halves first second =
    absurd (omega arith)
whole_at old mid one two twiddles d b (suc k) m count pos size small block are halves first second =
    let less : suc k - 1 ≡ k = omega arith in
    let deeper : d + 1 + k ≡ d + suc k = omega arith in
    let First : ℕ → Type 0 = λ y. HasSpread mid one (d + 1 + y) (2 * b * 2 ^ y) y in
    let FirstIn : ℕ → Type 0 = λ y. HasSpread mid one y (2 * b * 2 ^ k) k in
    let Second : ℕ → Type 0 = λ y. HasSpread one two (d + 1 + y) ((2 * b + 1) * 2 ^ y) y in
    let SecondIn : ℕ → Type 0 = λ y. HasSpread one two y ((2 * b + 1) * 2 ^ k) k in
    let at : m ≡ 2 ^ k = size ∙ ap (λ (y : ℕ). 2 ^ y) less in
    whole_spread old mid one two twiddles (d + suc k) d k b (b * 2 ^ suc k) (2 * b * 2 ^ k)
    ((2 * b + 1) * 2 ^ k) m count at refl (first_start b k) (second_start b k m at) refl
    (omega arith) block are halves (subst FirstIn deeper (subst First less first))
    (subst SecondIn deeper (subst Second less second))

-- one place has the value of its only coefficient
pub one_spread : (a : List ℕ) (e start log x : ℕ) → log ≡ 0 → start < length a
    → x ≡ get_or a start x → x < P → HasSpread a a e start log
one_spread a e start log x none low is below =
    record {
      inside = λ p l.
          let one : 2 ^ log ≡ 1 = ap (λ (y : ℕ). 2 ^ y) none in
          let first : p ≡ 0 = omega arith in
          let z : ℕ = point_at e (start + p) in
          let c : ℕ → ℕ = λ i. get_or a (start + i) 0 in
          let zero_there : start + 0 ≡ start = omega arith in
          let read : c 0 ≡ x = ap (λ (y : ℕ). get_or a y 0) zero_there
          ∙ sym (is ∙ get_or_default_zero a start x low) in
          let value : poly (2 ^ log) c z ≡ c 0 =
          ap (λ (y : ℕ). poly y c z) one ∙ sum_to-suc 0 (λ i. c i * z ^ i)
          ∙ omega (arith, sum_to-zero (λ i. c i * z ^ i), ap (λ (y : ℕ). c 0 * y) (pow-zero z)) in
          let self : x % P ≡ x = mod-eq_of_lt {n = x} {m = P} below in
          ap (λ (y : ℕ). c y) first ∙ read ∙ sym self ∙ ap (λ (y : ℕ). y % P) (sym (value ∙ read));
      others = λ p h. refl;
    }

-- the reversal of the places puts the points in order
pub all_spread : (old turned new : List ℕ) (log : ℕ) → length old ≡ 2 ^ log
    → length new ≡ length old → HasSpread old turned (0 + log) (0 * 2 ^ log) log
    → ((p : ℕ) → p < 2 ^ log → get_or new p 0 ≡ get_or turned (reversed log p) 0)
    → IsCosetTransform log old new
all_spread old turned new log size same spread turn = record {
  same_length = same;
  value = λ j l.
      let below : reversed log j < 2 ^ log = reversed_below log j in
      let r : ℕ = reversed log j in
      let w : ℕ = root_of log in
      let none : 0 * 2 ^ log + r ≡ r = omega arith in
      let front : 0 + log ≡ log = omega arith in
      let point : point_at (0 + log) (0 * 2 ^ log + r) ≡ 7 * w ^ j =
      ap (λ (y : ℕ). point_at (0 + log) y) none ∙ ap (λ (y : ℕ). point_at y r) front
      ∙ ap (λ (y : ℕ). 7 * w ^ y) (reversed_twice log j (omega arith)) in
      let c : ℕ → ℕ = λ i. get_or old i 0 in
      turn j (omega arith) ∙ ap (λ (y : ℕ). get_or turned y 0) (sym none)
      ∙ spread.inside r below
      ∙ ap (λ (y : ℕ). y % P) (sum_same (2 ^ log)
      (λ i. get_or old (0 * 2 ^ log + i) 0 * point_at (0 + log) (0 * 2 ^ log + r) ^ i)
      (λ i. c i * point_at (0 + log) (0 * 2 ^ log + r) ^ i)
      (λ i h. let place : 0 * 2 ^ log + i ≡ i = omega arith in
      ap (λ (y : ℕ). get_or old y 0 * point_at (0 + log) (0 * 2 ^ log + r) ^ i) place))
      ∙ ap (λ (y : ℕ). poly (2 ^ log) c y % P) point
      ∙ ap (λ (y : ℕ). poly y c (7 * w ^ j) % P) (sym size)
      ∙ poly_point P (length old) c (7 * w ^ j) (7 * w ^ j % P) (sym (mod-mod (7 * w ^ j) P));
}

-- sizes
pub block_fits : (d k b : ℕ) → b < 2 ^ d → b * 2 ^ k + 2 ^ k ≤ 2 ^ (d + k)
block_fits d k b low =
    let t : ℕ = 2 ^ k in
    let whole : 2 ^ (d + k) ≡ t * 2 ^ d = pow-add 2 d k ∙ mul_comm (2 ^ d) t in
    let next : b + 1 ≤ 2 ^ d = omega arith in
    let fits : t * (b + 1) ≤ t * 2 ^ d = mul-le-mul_left t next in
    let spelled : t * (b + 1) ≡ b * t + t = omega arith in
    omega arith

pub at_most_20 : (k : ℕ) → k ≤ 20 → 2 ^ k ≤ 2 ^ 20
at_most_20 k l =
    elim (cases_lt k 20) [
      | inl low ↦ let grows : 2 ^ k < 2 ^ 20 = pow_below k 20 low in omega arith
      | inr high ↦ let same : 2 ^ k ≡ 2 ^ 20 = let is : k ≡ 20 = omega arith in
          ap (λ (y : ℕ). 2 ^ y) is in omega arith
    ]

pub start_of : (d k b : ℕ) → d + k ≤ 20 → b < 2 ^ d → b * 2 ^ k % 2 ^ 64 ≡ b * 2 ^ k
start_of d k b small low =
    let fits : b * 2 ^ k + 2 ^ k ≤ 2 ^ (d + k) = block_fits d k b low in
    let most : 2 ^ (d + k) ≤ 2 ^ 20 = at_most_20 (d + k) small in
    let large : 2 ^ 20 < 2 ^ 64 = lit< tt in
    mod-eq_of_lt {n = b * 2 ^ k} {m = 2 ^ 64} (omega arith)

pub reversed_step : (k b r : ℕ) → 1 ≤ k → k ≤ 20 → r ≡ reversed (k - 1) (b / 2)
    → b % 2 * 2 ^ (k - 1) % 2 ^ 64 + r ≡ reversed k b
reversed_step zero b r pos small is = absurd (omega arith)
reversed_step (suc k) b r pos small is =
    let less : suc k - 1 ≡ k = omega arith in
    let two : b % 2 < 2 = mod-lt b (lit< tt) in
    let t : ℕ = 2 ^ k in
    let most : t ≤ 2 ^ 20 = at_most_20 k (omega arith) in
    let large : 2 ^ 20 < 2 ^ 64 = lit< tt in
    let fits : b % 2 * t < 2 ^ 64 =
    elim (cases_lt (b % 2) 1) [
      | inl low ↦
          let none : b % 2 * t ≡ 0 =
          let is : b % 2 ≡ 0 = omega arith in ap (λ (y : ℕ). y * t) is ∙ omega arith in
          omega arith
      | inr high ↦
          let one : b % 2 * t ≡ t =
          let is : b % 2 ≡ 1 = omega arith in ap (λ (y : ℕ). y * t) is ∙ omega arith in
          omega arith
    ] in
    ap (λ (y : ℕ). b % 2 * 2 ^ y % 2 ^ 64 + r) less
    ∙ ap (λ (y : ℕ). y + r) (mod-eq_of_lt {n = b % 2 * t} {m = 2 ^ 64} fits)
    ∙ ap (λ (y : ℕ). b % 2 * t + y) (is ∙ ap (λ (y : ℕ). reversed y (b / 2)) less)

pub first_at : (b log : ℕ) → 0 < log → 2 * b * 2 ^ (log - 1) ≡ b * 2 ^ log
first_at b zero pos = absurd (omega arith)
first_at b (suc k) pos =
    let less : suc k - 1 ≡ k = omega arith in
    ap (λ (y : ℕ). 2 * b * 2 ^ y) less ∙ first_start b k

pub second_at : (b log : ℕ) → 0 < log
    → (2 * b + 1) * 2 ^ (log - 1) ≡ b * 2 ^ log + 2 ^ (log - 1)
second_at b zero pos = absurd (omega arith)
second_at b (suc k) pos =
    let less : suc k - 1 ≡ k = omega arith in
    ap (λ (y : ℕ). (2 * b + 1) * 2 ^ y) less ∙ second_start b k (2 ^ k) refl
    ∙ ap (λ (y : ℕ). b * 2 ^ suc k + 2 ^ y) (sym less)

-- a block's factor is in the table
pub in_table : (d log b shifted : ℕ) (twiddles : List ℕ) → 0 < log → b < 2 ^ d → shifted ≡ 2 ^ d
    → AreTwiddles (d + log) twiddles → shifted + b < length twiddles
in_table d log b shifted twiddles pos low is are =
    let k : ℕ = log - 1 in
    let less : d + log ≡ suc (k + d) = omega arith in
    let double : 2 ^ (d + log) ≡ 2 ^ (k + d) + 2 ^ (k + d) =
    ap (λ (y : ℕ). 2 ^ y) less ∙ two-pow-succ (k + d) in
    let fits : 0 * 2 ^ d + 2 ^ d ≤ 2 ^ (k + d) = block_fits k d 0 (pow_pos k) in
    let count : length twiddles ≡ 2 ^ (d + log) = are.count in
    omega arith

-- the halves of two places are their values
pub pair_spread : (old new twiddles : List ℕ) (d b log m : ℕ) → log ≡ 1 → m ≡ 2 ^ (log - 1)
    → d + log ≤ 20 → b < 2 ^ d → AreTwiddles (d + log) twiddles
    → AreParts old new (b * 2 ^ log) m (get_or twiddles (2 ^ d + b) 0) 2
    → b * 2 ^ log + 2 ^ log ≤ length new
    → get_or new (b * 2 ^ log + 0) 0 < P → get_or new (b * 2 ^ log + m + 0) 0 < P
    → HasSpread old new (d + log) (b * 2 ^ log) log
pair_spread old new twiddles d b log m one size small block are parts fits low high =
    let pos : 0 < log = omega arith in
    let none : log - 1 ≡ 0 = omega arith in
    let two : 2 ^ log ≡ 2 = ap (λ (y : ℕ). 2 ^ y) one in
    let unit : 2 ^ (log - 1) ≡ 1 = ap (λ (y : ℕ). 2 ^ y) none in
    let start : ℕ = b * 2 ^ log in
    let first : 2 * b * 2 ^ (log - 1) ≡ start + 0 = first_at b log pos ∙ omega arith in
    let second : (2 * b + 1) * 2 ^ (log - 1) ≡ start + m + 0 =
    second_at b log pos ∙ omega arith in
    let at : ℕ → Type 0 = λ s. HasSpread new new (d + 1 + (log - 1)) s (log - 1) in
    whole_at old new new new twiddles d b log m 2 pos size small block are parts
    (subst at (sym first)
    (one_spread new (d + 1 + (log - 1)) (start + 0) (log - 1) (get_or new (start + 0) 0) none
    (omega arith) (sym (get_or_default_zero new (start + 0) (get_or new (start + 0) 0)
    (omega arith))) low))
    (subst at (sym second)
    (one_spread new (d + 1 + (log - 1)) (start + m + 0) (log - 1) (get_or new (start + m + 0) 0)
    none (omega arith) (sym (get_or_default_zero new (start + m + 0)
    (get_or new (start + m + 0) 0) (omega arith))) high))
