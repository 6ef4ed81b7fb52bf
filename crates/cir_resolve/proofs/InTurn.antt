-- Lists whose elements are given by steps, one by one, where they stand.
use Rattle.std.proofs.Common.{◌≡◌, ◌∙◌, ℕ, ◌+◌, ◌<◌, ◌≤◌, List, [], ◌∷◌, ◌++◌, length, take, drop}
use Rattle.std.proofs.Common.{get_or, refl, ap, sym, arith, subst, Result, Ok, Err, IsErrAnd}
use Rattle.std.specs.Prelude.{map}
use Rattle.std.proofs.Math.ListN.{set}
use Rattle.std.proofs.lemmas.Grind.{common_steps}
use Rattle.cir_resolve.specs.Steps.{Step, made, in_turn}
use Rattle.cir_resolve.specs.declared.stop.Stop.{Stop}
use Rattle.cir_resolve.specs.declared.stop.Stop.TheVariants.{Twice, OutOfMemory}
use Rattle.cir_resolve.specs.Answers.{Gives}

-- a step, in front of whose elements these stand
abbrev pub prefixed : {X E A : Type 0} → List A → Step X E (List A) → Step X E (List A)
prefixed front s = made (λ rest. front ++ rest) s

-- the first elements of a list are what steps gave, the others are as they were, and the steps for
-- those are left
pub record IsGiven {X E A B : Type 0} (see : A → B) (step : X → B → Step X E B) (start now : X)
    (first items : List A) (i : ℕ) : Type 0 where
  pub same_length : length items ≡ length first
  pub rest : (k : ℕ) (d : A) → i ≤ k → get_or items k d ≡ get_or first k d
  pub whole : prefixed (map see (take i items)) (in_turn step now (map see (drop i first)))
      ≡ in_turn step start (map see first)

module _ {X E A B : Type 0} (see : A → B) (step : X → B → Step X E B) (start now : X)
    (first items : List A) where
  pub given_more : (after : X) (next : List A) (i : ℕ) (x y : A)
      → IsGiven see step start now first items i → i < length items → x ≡ get_or items i x
      → next ≡ set items i y → step now (see x) ≡ Ok (see y, after)
      → IsGiven see step start after first next (i + 1)
  given_more after next i x y g below is then gives = grind (arith, common_steps)

  -- a step that stops
  pub given_stop : (i : ℕ) (x : A) (stop : E) → IsGiven see step start now first items i
      → i < length items → x ≡ get_or items i x → step now (see x) ≡ Err stop
      → in_turn step start (map see first) ≡ Err stop
  given_stop i x stop g below is stops = grind (arith, common_steps)

  pub given_all : (i : ℕ) → IsGiven see step start now first items i → length items ≤ i
      → in_turn step start (map see first) ≡ Ok (map see items, now)
  given_all i g all = grind (arith, common_steps)

-- a step that always gives, and keeps no state
abbrev pub steady : {X E A : Type 0} → (A → A) → X → A → Step X E A
steady f x a = Ok (f a, x)

all_steady : {X E A : Type 0} (f : A → A) (x : X) (xs : List A)
    → in_turn {E = E} (steady f) x xs ≡ Ok (map f xs, x)
all_steady f x [] = refl
all_steady f x (a ∷ xs) = ap (made (λ rest. f a ∷ rest)) (all_steady f x xs)

abbrev got : {X A : Type 0} → Step X ⊥ (List A) → List A
got (Ok given) = given.0
got (Err stop) = []

-- the first elements of a list are changed as f does it, and the others are as they were
abbrev pub IsChanged : {A B : Type 0} → (A → B) → (B → B) → (first items : List A) → ℕ → Type 0
IsChanged see f first items i = IsGiven {E = ⊥} see (steady f) (tt {0}) tt first items i

pub changed_all : {A B : Type 0} (see : A → B) (f : B → B) (first items : List A) (i : ℕ)
    → IsChanged see f first items i → length items ≤ i → map see items ≡ map f (map see first)
changed_all see f first items i g all =
    ap got (sym (given_all see (steady f) tt tt first items i g all)
    ∙ all_steady f tt (map see first))

-- steps that give each element of a list again
pub record IsPassed {X E A : Type 0} (step : X → A → Step X E A) (start now : X) (xs : List A)
    (i : ℕ) : Type 0 where
  pub whole : prefixed (take i xs) (in_turn step now (drop i xs)) ≡ in_turn step start xs

pub passed_more : {X E A : Type 0} (step : X → A → Step X E A) (start now after : X) (xs : List A)
    (i : ℕ) (x : A) → IsPassed step start now xs i → i < length xs → x ≡ get_or xs i x
    → step now x ≡ Ok (x, after) → IsPassed step start after xs (i + 1)
passed_more step start now after xs i x p below is gives = grind (arith, common_steps)

-- a part of a step that stops, stops the step
pub stopped : {X Y P A B C D : Type 0} (f : A → B) (g : C → D) (r : Result C (Stop P)) (e : Stop P)
    (x : X) (y : Y) (s : Step X P B) (t : Step Y P D)
    → IsErrAnd r (λ e'. e' ≡ e) → Gives f (Err e) x s → ((p : P) → s ≡ Err p → t ≡ Err p)
    → Gives g r y t
stopped f g (Ok u) e x y s t gone h so = absurd gone
stopped f g (Err (Twice p)) e x y s t is h so = so p (subst (λ d. Gives f (Err d) x s) (sym is) h)
stopped f g (Err OutOfMemory) e x y s t is h so = tt
