-- Steps that write each cell once, from cells of which none has a number yet.
use Rattle.std.proofs.Common.{◌≡◌, ℕ, ◌+◌, ◌≤◌, Bool, cond, List, [], ◌∷◌, ◌++◌, None, refl, sym}
use Rattle.std.proofs.Common.{ap, ◌∙◌, arith}
use Rattle.std.proofs.lemmas.Bool.{eq-eqb}
use Rattle.cir_steps.specs.Step.{Step}
use Rattle.cir_steps.specs.Written.{times, targets_of}
use Rattle.cir_steps.specs.RunSteps.{Cells, put_cells}
use Rattle.cir_steps.proofs.Templates.{Apart, AreApart}
use Rattle.cir_steps.proofs.Counting.{times_more}
use Rattle.cir_steps.proofs.Alike.{AreFree, Fresh, put_aside}

-- what isn't there is apart from all
pub none_apart : (c : ℕ) (xs : List ℕ) → times c xs ≡ 0 → Apart c xs
none_apart c [] h = tt
none_apart c (x ∷ xs) h = (
  (λ same.
      let all : 1 + times c xs ≡ 0 =
      sym (ap (λ (f : Bool). cond {A = ℕ} f 1 0 + times c xs) (eq-eqb x c (sym same))) ∙ h in
      absurd (omega arith)),
  none_apart c xs (omega arith),
)

pub here_once : (x : ℕ) (xs : List ℕ) → times x (x ∷ xs) ≡ 1 + times x xs
here_once x xs = ap (λ (f : Bool). cond {A = ℕ} f 1 0 + times x xs) (eq-eqb x x refl)

pub once_apart : (xs : List ℕ) → ((c : ℕ) → times c xs ≤ 1) → AreApart xs
once_apart [] h = tt
once_apart (x ∷ xs) h =
    let first : times x (x ∷ xs) ≡ 1 + times x xs = here_once x xs in
    let most : times x (x ∷ xs) ≤ 1 = h x in (
      none_apart x xs (omega arith),
      once_apart xs (λ c.
          let all : times c (x ∷ xs) ≤ 1 = h c in omega arith),
    )

free_all : (xs : List ℕ) (cells : Cells) → ((c : ℕ) → 1 ≤ times c xs → cells c ≡ None)
    → AreFree xs cells
free_all [] cells h = tt
free_all (x ∷ xs) cells h =
    let first : times x (x ∷ xs) ≡ 1 + times x xs = here_once x xs in (
      h x (omega arith),
      free_all xs cells (λ c some. h c (
          let more : times c xs ≤ times c (x ∷ xs) = omega arith in omega arith)),
    )

pub fresh_steps : (steps : List Step) (cells : Cells)
    → ((c : ℕ) → times c (targets_of steps) ≤ 1)
    → ((c : ℕ) → 1 ≤ times c (targets_of steps) → cells c ≡ None) → Fresh steps cells
fresh_steps [] cells once free = tt
fresh_steps (s ∷ ss) cells once free = (
  once_apart s.targets (λ c.
      let all : times c (s.targets ++ targets_of ss) ≡ times c s.targets + times c (targets_of ss) =
      times_more c s.targets (targets_of ss) in
      let most : times c (s.targets ++ targets_of ss) ≤ 1 = once c in omega arith),
  free_all s.targets cells (λ c some.
      let all : times c (s.targets ++ targets_of ss) ≡ times c s.targets + times c (targets_of ss) =
      times_more c s.targets (targets_of ss) in free c (omega arith)),
  (λ values. fresh_steps ss (put_cells s.targets values cells) (λ c.
      let all : times c (s.targets ++ targets_of ss) ≡ times c s.targets + times c (targets_of ss) =
      times_more c s.targets (targets_of ss) in
      let most : times c (s.targets ++ targets_of ss) ≤ 1 = once c in omega arith) (λ c some.
      let all : times c (s.targets ++ targets_of ss) ≡ times c s.targets + times c (targets_of ss) =
      times_more c s.targets (targets_of ss) in
      let most : times c (s.targets ++ targets_of ss) ≤ 1 = once c in
      let old : cells c ≡ None = free c (omega arith) in
      put_aside s.targets values cells c (none_apart c s.targets (omega arith)) ∙ old)),
)
