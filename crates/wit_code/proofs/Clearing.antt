-- What isn't noted is 0, whatever a run does to its frames.
use Rattle.std.proofs.Common.{◌≡◌, ℕ, zero, suc, ◌+◌, ◌-◌, ◌≤◌, List, []}
use Rattle.std.proofs.Common.{◌∷◌, ◌++◌, length}
use Rattle.std.proofs.Common.{take, drop, refl, sym, ap, subst, ◌∙◌, arith, Bool, true, false}
use Rattle.std.proofs.Common.{replicate, length-set, length-append, inl, inr}
use Rattle.std.specs.Prelude.{slice_set}
use Rattle.std.proofs.lemmas.Bool.{cases_eq}
use Rattle.std.proofs.lemmas.List.{set-set, set_comm, take-set-le, take-take, take-append-le}
use Rattle.std.proofs.lemmas.List.{take_at}
use Rattle.std.proofs.lemmas.List.{take-replicate, drop-replicate, length-replicate, length-take}
use Rattle.wit_code.specs.declared.frames.Caller.{Caller}
use Rattle.wit_code.specs.Room.{AreZeros, cleared}
use Rattle.wit_code.specs.Frames.{Frames, IsLaid, opened, own_numbers, width_of}
use Rattle.wit_code.proofs.Stack.{width_of_push}

-- zeros

are_zeros : (n : ℕ) (l : List ℕ) → l ≡ replicate n 0 → AreZeros l
are_zeros n l e =
    let same : length l ≡ n = ap length e ∙ length-replicate n 0 in
    e ∙ ap (λ m. replicate m 0) (sym same)

set_replicate : (n at : ℕ) → slice_set {A = ℕ} (replicate n 0) at 0 ≡ replicate n 0
set_replicate zero at = refl
set_replicate (suc n) zero = refl
set_replicate (suc n) (suc at) = ap (λ (l : List ℕ). 0 ∷ l) (set_replicate n at)

zeros_set : (numbers : List ℕ) (at : ℕ) → AreZeros numbers → AreZeros (slice_set numbers at 0)
zeros_set numbers at z =
    are_zeros (length numbers) (slice_set numbers at 0)
    (ap (λ l. slice_set l at 0) z ∙ set_replicate (length numbers) at)

zeros_take : (n : ℕ) (numbers : List ℕ) → n ≤ length numbers → AreZeros numbers
    → AreZeros (take n numbers)
zeros_take n numbers le z =
    are_zeros n (take n numbers) (ap (take n) z ∙ take-replicate n (length numbers) 0 le)

-- one more note

cleared_last : (places : List ℕ) (at : ℕ) (numbers : List ℕ)
    → cleared (places ++ at ∷ []) numbers ≡ slice_set (cleared places numbers) at 0
cleared_last [] at numbers = refl
cleared_last (p ∷ ps) at numbers = cleared_last ps at (slice_set numbers p 0)

cleared_set : (places : List ℕ) (at v : ℕ) (numbers : List ℕ)
    → slice_set (cleared places (slice_set numbers at v)) at 0
    ≡ slice_set (cleared places numbers) at 0
cleared_set [] at v numbers = set-set numbers at v 0
cleared_set (p ∷ ps) at v numbers =
    elim (cases_eq at p) [
      | inl same ↦
          ap (λ l. slice_set (cleared ps l) at 0)
          (ap (λ k. slice_set (slice_set numbers k v) p 0) same ∙ set-set numbers p v 0)
      | inr other ↦
          ap (λ l. slice_set (cleared ps l) at 0) (set_comm numbers at p v 0 other)
          ∙ cleared_set ps at v (slice_set numbers p 0)
    ]

noted_set : (places : List ℕ) (at v : ℕ) (numbers : List ℕ) → AreZeros (cleared places numbers)
    → AreZeros (cleared (places ++ at ∷ []) (slice_set numbers at v))
noted_set places at v numbers z =
    subst AreZeros
    (sym (cleared_last places at (slice_set numbers at v) ∙ cleared_set places at v numbers))
    (zeros_set (cleared places numbers) at z)

-- the step's own frame

own_open : (first : ℕ) (callers : List Caller) (c : Caller) (numbers more : List ℕ)
    → first + width_of (callers ++ c ∷ []) ≡ length numbers
    → own_numbers first (callers ++ c ∷ []) (numbers ++ more)
    ≡ own_numbers first callers numbers
own_open first [] c numbers more h = take_at numbers more (first + c.width) (omega arith)
own_open first (d ∷ ds) c numbers more h =
    take-append-le (first + d.width) numbers more (omega arith)

own_close : (first base : ℕ) (cs : List Caller) (c : Caller) (numbers : List ℕ)
    → base ≡ first + width_of (cs ++ c ∷ [])
    → own_numbers first cs (take base numbers) ≡ own_numbers first (cs ++ c ∷ []) numbers
own_close first base [] c numbers h =
    let same : base ≡ first + c.width = omega arith in ap (λ n. take n numbers) same
own_close first base (d ∷ ds) c numbers h =
    take-take (first + d.width) base numbers (omega arith)

own_below : (first : ℕ) (callers : List Caller) (numbers : List ℕ)
    → take first (own_numbers first callers numbers) ≡ take first numbers
own_below first [] numbers = refl
own_below first (c ∷ cs) numbers = take-take first (first + c.width) numbers (omega arith)

no_callers : (callers : List Caller) → length callers ≤ 0 → callers ≡ []
no_callers [] few = refl
no_callers (c ∷ cs) few = absurd (omega arith)

-- what each call keeps

module _ (first base : ℕ) (is_full : Bool) (callers : List Caller) (places numbers : List ℕ) where
  below_set : (slot v : ℕ) → IsLaid first base is_full callers places numbers
      → AreZeros (take first (slice_set numbers (base + slot) v))
  below_set slot v laid =
      let h = laid.base_is in
      subst AreZeros (sym (take-set-le first numbers (base + slot) v (omega arith))) laid.below

  within_set : (slot v : ℕ) → IsLaid first base is_full callers places numbers
      → base ≤ length (slice_set numbers (base + slot) v)
  within_set slot v laid = omega (arith, laid.within, length-set numbers (base + slot) v)

  pub own_set_noted : (slot v : ℕ) (now_full : Bool) (now_places : List ℕ)
      → IsLaid first base is_full callers places numbers → is_full ≡ false → length callers ≤ 0
      → (now_full ≡ false → now_places ≡ places ++ (base + slot) ∷ [])
      → IsLaid first base now_full callers now_places (slice_set numbers (base + slot) v)
  own_set_noted slot v now_full now_places laid not_full few note =
      let at : ℕ = base + slot in
      let none : callers ≡ [] = no_callers callers few in
      let z : AreZeros (cleared places numbers) =
      subst (λ cs. AreZeros (cleared places (own_numbers first cs numbers))) none
      (laid.noted not_full) in
      record {
        base_is = laid.base_is;
        within = within_set slot v laid;
        below = below_set slot v laid;
        noted = λ e. subst (λ cs. AreZeros (cleared now_places
            (own_numbers first cs (slice_set numbers at v)))) (sym none)
            (subst (λ ps. AreZeros (cleared ps (slice_set numbers at v))) (sym (note e))
            (noted_set places at v numbers z));
      }

  -- frames that aren't complete are cleared whole
  pub laid_more : (more : List ℕ) → IsLaid first base is_full callers places numbers
      → IsLaid first base true callers places (numbers ++ more)
  laid_more more laid =
      let h = laid.base_is in
      let w = laid.within in
      record {
        base_is = laid.base_is;
        within = omega (arith, length-append numbers more);
        below = subst AreZeros (sym (take-append-le first numbers more (omega arith))) laid.below;
        noted = λ not_full. absurd (cc);
      }

  pub laid_open : (c : Caller) (more : List ℕ) → IsLaid first base is_full callers places numbers
      → c.width ≡ length numbers - base
      → IsLaid first (base + c.width) is_full (callers ++ c ∷ []) places (numbers ++ more)
  laid_open c more laid wide =
      let h = laid.base_is in
      let w = laid.within in
      let all : width_of (callers ++ c ∷ []) ≡ width_of callers + c.width =
      width_of_push callers c in
      let end : first + width_of (callers ++ c ∷ []) ≡ length numbers = omega arith in
      record {
        base_is = omega arith;
        within = omega (arith, length-append numbers more);
        below = subst AreZeros (sym (take-append-le first numbers more (omega arith))) laid.below;
        noted = λ not_full. subst (λ l. AreZeros (cleared places l))
            (sym (own_open first callers c numbers more end)) (laid.noted not_full);
      }

  pub laid_close : (cs : List Caller) (c : Caller)
      → IsLaid first base is_full callers places numbers → callers ≡ cs ++ c ∷ []
      → IsLaid first (base - c.width) is_full cs places (take base numbers)
  laid_close cs c laid split =
      let h : base ≡ first + width_of (cs ++ c ∷ []) =
      laid.base_is ∙ ap (λ l. first + width_of l) split in
      let w = laid.within in
      let all : width_of (cs ++ c ∷ []) ≡ width_of cs + c.width = width_of_push cs c in
      record {
        base_is = omega arith;
        within = omega (arith, length-take base numbers);
        below = subst AreZeros (sym (take-take first base numbers (omega arith))) laid.below;
        noted = λ not_full. subst (λ l. AreZeros (cleared places l))
            (sym (own_close first base cs c numbers h))
            (subst (λ l. AreZeros (cleared places (own_numbers first l numbers))) split
            (laid.noted not_full));
      }

  -- what is cleared behind the run
  pub own_front : IsLaid first base is_full callers places numbers
      → AreZeros (take first (own_numbers first callers numbers))
  own_front laid = subst AreZeros (sym (own_below first callers numbers)) laid.below

-- a run begins at the end of the room

pub shown_over : (first slots : ℕ) (callers : List Caller) (numbers : List ℕ) → AreZeros numbers
    → first + slots ≡ length numbers → callers ≡ []
    →
    let shown : Frames =
    record { slots = drop first numbers; open_calls = opened [] callers (drop first numbers) } in
    let fresh : Frames = record { slots = replicate slots 0; open_calls = [] } in shown ≡ fresh
shown_over first slots callers numbers z all none =
    let rest : length numbers - first ≡ slots = omega arith in
    let zeros : drop first numbers ≡ replicate slots 0 =
    ap (drop first) z ∙ drop-replicate first (length numbers) 0
    ∙ ap (λ n. replicate n 0) rest in
    λ j. record { slots = zeros j; open_calls = opened [] (none j) (drop first numbers) }
