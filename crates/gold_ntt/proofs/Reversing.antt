-- The loop that reverses places: pairs below i are exchanged, the others are as they were.
use Rattle.std.proofs.Common.{◌≡◌, ◌≢◌, ℕ, ◌+◌, ◌^◌, ◌<◌, ◌≤◌, ◌⊎◌, inl, inr, refl, sym, ◌∙◌, ap}
use Rattle.std.proofs.Common.{arith, List, length, get_or, set}
use Rattle.std.proofs.lemmas.List.{get_or-set_other, get_or-set_same, length-set}
use Rattle.std.proofs.lemmas.Bool.{cases_lt, cases_eq}
use Rattle.std.proofs.lemmas.Grind.{get_or_default_zero}
use Rattle.gold_ntt.specs.Reversal.{reversed}
use Rattle.gold_ntt.proofs.ReversalLaws.{reversed_below, reversed_twice}

pub record IsReversed (old new : List ℕ) (log i : ℕ) : Type 0 where
  pub moved : (p : ℕ) → p < 2 ^ log → (p < i) ⊎ (reversed log p < i)
      → get_or new p 0 ≡ get_or old (reversed log p) 0
  pub kept : (p : ℕ) → p < 2 ^ log → i ≤ p → i ≤ reversed log p → get_or new p 0 ≡ get_or old p 0

pub none_moved : (old : List ℕ) (log : ℕ) → IsReversed old old log 0
none_moved old log = record {
  moved = λ p l h. elim h [ inl below ↦ absurd (omega arith) | inr below ↦ absurd (omega arith) ];
  kept = λ p l h k. refl;
}

-- after place i
pub one_stays : (old new : List ℕ) (log i : ℕ) → i < 2 ^ log → reversed log i ≤ i
    → IsReversed old new log i → IsReversed old new log (i + 1)
one_stays old new log i low stays r =
    let at : get_or new i 0 ≡ get_or old (reversed log i) 0 =
    elim (cases_lt (reversed log i) i) [
      | inl below ↦ r.moved i low (inr below)
      | inr above ↦
          let same : i ≡ reversed log i = omega arith in
          r.kept i low (omega arith) (omega arith) ∙ ap (λ (z : ℕ). get_or old z 0) same
    ] in
    record {
      moved = λ p l h. elim (cases_lt p i) [
        | inl before ↦ r.moved p l (inl before)
        | inr after ↦ elim (cases_lt (reversed log p) i) [
          | inl earlier ↦ r.moved p l (inr earlier)
          | inr later ↦ elim (cases_eq p i) [
            | inl is ↦
                ap (λ (z : ℕ). get_or new z 0) is ∙ at
                ∙ ap (λ (z : ℕ). get_or old (reversed log z) 0) (sym is)
            | inr is_not ↦
                let back : reversed log p ≡ i =
                elim h [ inl here ↦ absurd (omega arith) | inr here ↦ omega arith ] in
                let twice : p ≡ reversed log i =
                sym (reversed_twice log p l) ∙ ap (λ (z : ℕ). reversed log z) back in
                absurd (omega arith)
          ]
        ]
      ];
      kept = λ p l h k. r.kept p l (omega arith) (omega arith);
    }

pub one_moves : (old new : List ℕ) (log i j x y : ℕ) → i < 2 ^ log → 2 ^ log ≡ length new
    → j ≡ reversed log i → i < j
    → x ≡ get_or new j x → y ≡ get_or new i y → IsReversed old new log i
    → IsReversed old (set (set new i x) j y) log (i + 1)
one_moves old new log i j x y low whole is moves first second r =
    let below : reversed log i < 2 ^ log = reversed_below log i in
    let back : reversed log j ≡ i = ap (λ (z : ℕ). reversed log z) is ∙ reversed_twice log i low in
    let is_x : x ≡ get_or old (reversed log i) 0 =
    first ∙ get_or_default_zero new j x (omega arith)
    ∙ r.kept j (omega arith) (omega arith) (omega arith) ∙ ap (λ (z : ℕ). get_or old z 0) is in
    let is_y : y ≡ get_or old (reversed log j) 0 =
    second ∙ get_or_default_zero new i y (omega arith) ∙ r.kept i low (omega arith) (omega arith)
    ∙ ap (λ (z : ℕ). get_or old z 0) (sym back) in
    let long : j < length (set new i x) = omega (arith, length-set new i x) in
    record {
      moved = λ p l h. elim (cases_eq p j) [
        | inl at ↦
            ap (λ (z : ℕ). get_or (set (set new i x) j y) z 0) at
            ∙ get_or-set_same (set new i x) j y 0 long ∙ is_y
            ∙ ap (λ (z : ℕ). get_or old (reversed log z) 0) (sym at)
        | inr not_j ↦ elim (cases_eq p i) [
          | inl at ↦
              ap (λ (z : ℕ). get_or (set (set new i x) j y) z 0) at
              ∙ get_or-set_other (set new i x) j i y 0 (λ e. omega arith)
              ∙ get_or-set_same new i x 0 (omega arith)
              ∙ is_x ∙ ap (λ (z : ℕ). get_or old (reversed log z) 0) (sym at)
          | inr not_i ↦
              let apart : reversed log p ≢ i =
              λ (e : reversed log p ≡ i).
              let twice : p ≡ reversed log i =
              sym (reversed_twice log p l) ∙ ap (λ (z : ℕ). reversed log z) e in
              omega arith in
              get_or-set_other (set new i x) j p y 0 not_j ∙ get_or-set_other new i p x 0 not_i
              ∙ r.moved p l (elim h [ inl here ↦ inl (omega arith) | inr here ↦ inr (omega arith) ])
        ]
      ];
      kept = λ p l h k.
          let not_j : p ≢ j = λ (e : p ≡ j). let same : reversed log p ≡ i =
          ap (λ (z : ℕ). reversed log z) e ∙ back in omega arith in
          let not_i : p ≢ i = omega arith in
          get_or-set_other (set new i x) j p y 0 not_j ∙ get_or-set_other new i p x 0 not_i
          ∙ r.kept p l (omega arith) (omega arith);
    }
