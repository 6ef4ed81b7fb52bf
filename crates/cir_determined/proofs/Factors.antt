-- The numbers by which bits of a number are powers of two.
use Rattle.std.proofs.Common.{◌≡◌, ◌≢◌, ℕ, ◌+◌, ◌*◌, ◌^◌, ◌%◌, ◌<◌, ◌≤◌, List, [], ◌∷◌, map, get_or}
use Rattle.std.proofs.Common.{All}
use Rattle.std.proofs.Common.{arith, refl, ap, sym, ◌∙◌, inl, inr}
use Rattle.std.specs.Prelude.{sum_by}
use Rattle.std.proofs.Math.Pow.{pow_mono}
use Rattle.std.proofs.lemmas.Bool.{cases_lt}
use Rattle.std.proofs.lemmas.Nat.{pow_pos, mul-mod_first, mul-mod_second}
use Rattle.std.proofs.lemmas.List.Elements.{All-head, All-tail}
use Rattle.std.proofs.lemmas.List.Sums.{get_or-le-sum_by}
use Rattle.std.proofs.lemmas.Grind.{pow_more}
use Rattle.gold_field.specs.declared.gold.TheConstants.{P}
use Rattle.gold_field.proofs.FieldLaws.{has_inverse}
use Rattle.cir_determined.specs.Bits.{AreBits, ArePowersBy}
use Rattle.cir_determined.proofs.Powers.{times}

abbrev powers_of : List ℕ → List ℕ
powers_of es = map (λ e. 2 ^ e) es

abbrev pub IsCoef : ℕ → Type 0
IsCoef c = (0 < c) × (c < P)

abbrev pub AreCoefs : List ℕ → Type 0
AreCoefs cs = All (λ c. (0 < c) × (c < P)) cs

-- where g is the inverse of r
back_at : (c g r q : ℕ) → c < P → (g * r) % P ≡ 1 → c * g % P ≡ q → c ≡ r * q % P
back_at c g r q l unit e =
    let order : r * (c * g) ≡ g * r * c = omega arith in
    let one : 1 * c % P ≡ c = omega arith in
    sym one ∙ ap (λ (x : ℕ). x * c % P) (sym unit) ∙ mul-mod_first (g * r) c P
    ∙ ap (λ (x : ℕ). x % P) (sym order) ∙ sym (mul-mod_second r (c * g) P)
    ∙ ap (λ (x : ℕ). r * x % P) e

back : (g r : ℕ) (cs es : List ℕ) → (g * r) % P ≡ 1 → AreCoefs cs → times g cs ≡ powers_of es
    → cs ≡ map (λ e. r * 2 ^ e % P) es
back g r [] [] unit h e = refl
back g r [] (x ∷ es) unit h e = cc
back g r (c ∷ cs) [] unit h e = cc
back g r (c ∷ cs) (x ∷ es) unit h e =
    let first : c * g % P ≡ 2 ^ x = cc in
    let rest : times g cs ≡ powers_of es = cc in
    let here : c ≡ r * 2 ^ x % P =
    back_at c g r (2 ^ x) (All-head (λ (c : ℕ). IsCoef c) c cs h).1 unit first in
    let all : cs ≡ map (λ e. r * 2 ^ e % P) es =
    back g r cs es unit (All-tail (λ (c : ℕ). IsCoef c) c cs h) rest in
    cc

unit_factor : (g : ℕ) (cs es : List ℕ) → cs ≢ [] → times g cs ≡ powers_of es → g % P ≢ 0
unit_factor g [] es some h = absurd (some refl)
unit_factor g (c ∷ cs) [] some h = cc
unit_factor g (c ∷ cs) (x ∷ es) some h = λ z.
    let first : c * g % P ≡ 2 ^ x = cc in
    let none : c * 0 ≡ 0 = omega arith in
    let zero : c * g % P ≡ 0 =
    sym (mul-mod_second c g P) ∙ ap (λ (x : ℕ). c * x % P) z ∙ ap (λ (x : ℕ). x % P) none in
    omega (arith, pow_pos x)

pub bits_found : (cs : List ℕ) (g : ℕ) → cs ≢ [] → AreCoefs cs → ArePowersBy g cs → AreBits cs
bits_found cs g some h p =
    let inverse = has_inverse g (unit_factor g cs p.powers.exponents some p.powers.powers_are) in
    record {
      factor = inverse.0;
      exponents = p.powers.exponents;
      coefficients =
          back g inverse.0 cs p.powers.exponents inverse.1 h p.powers.powers_are;
      distinct = p.powers.distinct;
      below = omega (arith, p.powers.sum_is, p.below);
    }

-- where g is the inverse of f
forth_at : (f g q : ℕ) → q < P → (f * g) % P ≡ 1 → (f * q % P) * g % P ≡ q
forth_at f g q l unit =
    let order : f * q * g ≡ f * g * q = omega arith in
    let one : 1 * q % P ≡ q = omega arith in
    mul-mod_first (f * q) g P ∙ ap (λ (x : ℕ). x % P) order ∙ sym (mul-mod_first (f * g) q P)
    ∙ ap (λ (x : ℕ). x * q % P) unit ∙ one

forth : (f g : ℕ) (es : List ℕ) → (f * g) % P ≡ 1 → All (λ e. 2 ^ e < P) es
    → times g (map (λ e. f * 2 ^ e % P) es) ≡ powers_of es
forth f g [] unit h = refl
forth f g (x ∷ es) unit h =
    let here : (f * 2 ^ x % P) * g % P ≡ 2 ^ x =
    forth_at f g (2 ^ x) (All-head (λ (e : ℕ). 2 ^ e < P) x es h) unit in
    let all : times g (map (λ e. f * 2 ^ e % P) es) ≡ powers_of es =
    forth f g es unit (All-tail (λ (e : ℕ). 2 ^ e < P) x es h) in
    cc

small_exponent : (e : ℕ) → 2 ^ e < P → e < 64
small_exponent e l =
    elim (cases_lt e 64) [
      | inl s ↦ s
      | inr m ↦
          let large : 2 ^ 64 ≤ 2 ^ e = pow_mono m in
          absurd (omega arith)
    ]

unit_of : (f p c inverse : ℕ) → c ≡ f * p % P → (c * inverse) % P ≡ 1
    → (f * ((inverse * p) % P)) % P ≡ 1
unit_of f p c inverse e unit =
    let order : f * (inverse * p) ≡ f * p * inverse = omega arith in
    mul-mod_second f (inverse * p) P ∙ ap (λ (x : ℕ). x % P) order
    ∙ sym (mul-mod_first (f * p) inverse P) ∙ ap (λ (x : ℕ). x * inverse % P) (sym e) ∙ unit

found_by : (cs : List ℕ) (f : ℕ) (es : List ℕ) (inverse d : ℕ) → cs ≢ []
    → cs ≡ map (λ e. f * 2 ^ e % P) es → All (λ e. 2 ^ e < P) es
    → (get_or cs 0 d * inverse) % P ≡ 1
    → (j : ℕ) × (j < 64) × (times ((inverse * 2 ^ j) % P) cs ≡ powers_of es)
found_by [] f es inverse d some e small unit = absurd (some refl)
found_by (c ∷ cs) f [] inverse d some e small unit = cc
found_by (c ∷ cs) f (x ∷ es) inverse d some e small unit =
    let first : c ≡ f * 2 ^ x % P = cc in (
      x,
      small_exponent x (All-head (λ (e : ℕ). 2 ^ e < P) x es small),
      ap (times ((inverse * 2 ^ x) % P)) e
          ∙ forth f ((inverse * 2 ^ x) % P) (x ∷ es) (unit_of f (2 ^ x) c inverse first unit) small,
    )

pub bits_none : (cs : List ℕ) (inverse d : ℕ) → cs ≢ [] → (get_or cs 0 d * inverse) % P ≡ 1
    → ((j : ℕ) → j < 64 → ArePowersBy ((inverse * 2 ^ j) % P) cs → ⊥) → AreBits cs → ⊥
bits_none cs inverse d some unit none h =
    let r = found_by cs h.factor h.exponents inverse d some h.coefficients small unit in
    none r.0 r.1 (record {
      sum = sum_by (λ e. 2 ^ e) h.exponents;
      powers = record {
        exponents = h.exponents;
        powers_are = r.2;
        distinct = h.distinct;
        sum_is = refl;
      };
      below = h.below;
    })
  where
    small : All (λ e. 2 ^ e < P) h.exponents
    small k d l = omega (arith, get_or-le-sum_by (λ (e : ℕ). 2 ^ e) h.exponents k d l, h.below)

-- the next factor is twice as large
pub doubled : (inverse i factor new : ℕ) → factor ≡ (inverse * 2 ^ i) % P
    → new ≡ (factor + factor) % P → new ≡ (inverse * 2 ^ (i + 1)) % P
doubled inverse i factor new e en =
    let two : 2 * (inverse * 2 ^ i) ≡ inverse * 2 ^ (i + 1) =
    omega (arith, ap (λ (x : ℕ). inverse * x) (pow_more 2 i)) in
    let twice : factor + factor ≡ 2 * factor = omega arith in
    en ∙ ap (λ (x : ℕ). x % P) twice ∙ ap (λ (x : ℕ). 2 * x % P) e
    ∙ mul-mod_second 2 (inverse * 2 ^ i) P ∙ ap (λ (x : ℕ). x % P) two
