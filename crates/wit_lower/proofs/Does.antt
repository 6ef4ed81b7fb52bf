-- The code from a state does what a meaning says: it goes on from a state that shows the meaning's
-- result, or stops as the meaning does.
use Rattle.std.proofs.Common.{◌≡◌, ℕ, suc, ◌+◌, Bool, true, false, cond, List, [], ◌∷◌, ◌++◌}
use Rattle.std.proofs.Common.{length, Option, Some, None, Result, Ok, Err, refl, sym, ap, subst}
use Rattle.std.proofs.Common.{◌∙◌, arith}
use Rattle.std.specs.Prelude.{slice_get, ◌==◌}
use Rattle.wit_code.specs.declared.code.Op.{Op}
use Rattle.wit_code.specs.declared.code.Proc.{Proc}
use Rattle.wit_code.specs.declared.code.Stop.{Stop}
use Rattle.wit_code.specs.declared.code.Stop.TheVariants.{ConstraintFails, AssertFails, ZeroDivisor}
use Rattle.wit_code.specs.declared.code.Stop.TheVariants.{IndexOut, FuelSpent, TooDeep, OutOfMemory}
use Rattle.wit_code.specs.Table.{State, Outcome, Stopped, Next, Goes, Over, exec, step, next_of}
use Rattle.wit_code.specs.Table.{unless, stop_number}
use Rattle.cir_meaning.specs.Tried.{next}
use Rattle.wit_lower.specs.Tasks.{IsStop}

-- what stays the same while a step's code runs
pub record Setting : Type 0 where
  pub procs : List Proc
  pub own : Proc
  pub reads : List ℕ

abbrev pub takes : Setting → State → Next
takes k s = step k.procs k.own k.reads s

abbrev pub Ends : Setting → State → Outcome → Type 0
Ends k s o = (n : ℕ) × (exec k.procs k.own k.reads n s ≡ Over o)

-- what has to be known so that a run ends as the meaning does
abbrev pub After : {A : Type 0} → Setting → Result A ℕ → (A → State → Type 0) → Outcome → Type 0
After k (Ok a) Q o = (t : State) → Q a t → Ends k t o
After k (Err x) Q o = IsStop x o

pub record Does {A : Type 0} (k : Setting) (s : State) (m : Result A ℕ)
    (Q : A → State → Type 0) : Type 0 where
  pub by : (o : Outcome) → After k m Q o → Ends k s o

-- a stop is told by its number
stop_of : Option ℕ → Stop
stop_of None = OutOfMemory
stop_of (Some n) =
    cond (n == 1) ConstraintFails (cond (n == 2) AssertFails (cond (n == 3) ZeroDivisor
    (cond (n == 4) IndexOut (cond (n == 5) FuelSpent TooDeep))))

stop_back : (a : Stop) → stop_of (stop_number a) ≡ a
unfolding stop_of
stop_back ConstraintFails = refl
stop_back AssertFails = refl
stop_back ZeroDivisor = refl
stop_back IndexOut = refl
stop_back FuelSpent = refl
stop_back TooDeep = refl
stop_back OutOfMemory = refl

is_stop : (x : ℕ) (a : Stop) (o : Outcome) → stop_number a ≡ Some x → IsStop x o → o ≡ Stopped a
is_stop x a o e h =
    h.is ∙ ap Stopped (sym (stop_back h.as_stop) ∙ ap stop_of (h.number ∙ sym e) ∙ stop_back a)

never_missing : (a : Stop) → stop_number a ≡ Some 0 → ⊥
never_missing ConstraintFails e = cc
never_missing AssertFails e = cc
never_missing ZeroDivisor e = cc
never_missing IndexOut e = cc
never_missing FuelSpent e = cc
never_missing TooDeep e = cc
never_missing OutOfMemory e = cc

module _ (k : Setting) where
  ends_goes : (s t : State) (o : Outcome) → takes k s ≡ Goes t → Ends k t o → Ends k s o
  ends_goes s t o e (n, h) = (suc n, ap (λ x. next_of x (exec k.procs k.own k.reads n)) e ∙ h)

  pub ends_over : (s : State) (o : Outcome) → takes k s ≡ Over o → Ends k s o
  ends_over s o e = (1, ap (λ x. next_of x (exec k.procs k.own k.reads 0)) e)

module _ {A : Type 0} (k : Setting) (Q : A → State → Type 0) where
  -- the result is there
  pub gives : (s : State) (a : A) → Q a s → Does k s (Ok a) Q
  gives s a q = record { by = λ o h. h s q }

  -- one step, and then
  pub goes : (s t : State) (m : Result A ℕ) → takes k s ≡ Goes t → Does k t m Q → Does k s m Q
  goes s t m e d = record { by = λ o h. ends_goes k s t o e (d.by o h) }

  pub stops : (s : State) (a : Stop) (x : ℕ) → takes k s ≡ Over (Stopped a)
      → stop_number a ≡ Some x → Does k s (Err x) Q
  stops s a x e n = record {
    by = λ o h. ends_over k s o (e ∙ ap Over (sym (is_stop x a o n h)));
  }

  -- of a number that is missing nothing is asked
  pub misses : (s : State) → Does k s (Err 0) Q
  misses s = record { by = λ o h. absurd (never_missing h.as_stop h.number) }

  -- a test of the machine is one of the meaning
  pub does_need : (b : Bool) (stop : Stop) (x : ℕ) (s t : State) (m : Result A ℕ)
      → takes k s ≡ unless stop b (Goes t) → stop_number stop ≡ Some x
      → (b ≡ true → Does k t m Q) → Does k s (cond b m (Err x)) Q
  does_need true stop x s t m e n f = goes s t m e (f refl)
  does_need false stop x s t m e n f = stops s stop x e n

-- a meaning that goes on with a result
pub does_next : {A B : Type 0} (k : Setting) (P : A → State → Type 0) (Q : B → State → Type 0)
    (s : State) (m : Result A ℕ) (go : A → Result B ℕ) → Does k s m P
    → ((a : A) (t : State) → m ≡ Ok a → P a t → Does k t (go a) Q) → Does k s (next m go) Q
does_next k P Q s (Ok a) go d f =
    record { by = λ o h. d.by o (λ t p. (f a t refl p).by o h) }
does_next k P Q s (Err x) go d f = record { by = λ o h. d.by o h }

-- code that goes on where the meaning has its result
pub does_on : {A : Type 0} (k : Setting) (P Q : A → State → Type 0) (s : State) (m : Result A ℕ)
    → Does k s m P → ((a : A) (t : State) → m ≡ Ok a → P a t → Does k t (Ok a) Q) → Does k s m Q
does_on k P Q s (Ok a) d f = record { by = λ o h. d.by o (λ t p. (f a t refl p).by o h) }
does_on k P Q s (Err x) d f = record { by = λ o h. d.by o h }

pub does_weaker : {A : Type 0} (k : Setting) (P Q : A → State → Type 0) (s : State)
    (m : Result A ℕ) → Does k s m P → ((a : A) (t : State) → P a t → Q a t) → Does k s m Q
does_weaker k P Q s m d f = does_on k P Q s m d (λ a t e p. gives k Q t a (f a t p))

pub does_same : {A : Type 0} (k : Setting) (Q : A → State → Type 0) (s : State)
    (m n : Result A ℕ) → m ≡ n → Does k s m Q → Does k s n Q
does_same k Q s m n e d = subst (λ x. Does k s x Q) e d

-- a piece of code stands at a place
abbrev pub HasAt : List Op → ℕ → List Op → Type 0
HasAt body place [] = Unit {0}
HasAt body place (o ∷ os) = (slice_get body place ≡ Some o) × HasAt body (place + 1) os

pub has_front : (body : List Op) (place : ℕ) (xs ys : List Op) → HasAt body place (xs ++ ys)
    → HasAt body place xs
has_front body place [] ys h = tt
has_front body place (x ∷ xs) ys (e, h) = (e, has_front body (place + 1) xs ys h)

pub has_back : (body : List Op) (place : ℕ) (xs ys : List Op) → HasAt body place (xs ++ ys)
    → HasAt body (place + length xs) ys
has_back body place [] ys h = subst (λ n. HasAt body n ys) (omega arith) h
has_back body place (x ∷ xs) ys (e, h) =
    let same : place + 1 + length xs ≡ place + length (x ∷ xs) = omega arith in
    subst (λ n. HasAt body n ys) same (has_back body (place + 1) xs ys h)

-- the code stands in itself
pub has_itself : (before code : List Op) → HasAt (before ++ code) (length before) code
has_itself before [] = tt
has_itself before (o ∷ os) = (
  found before,
  subst (λ n. HasAt (before ++ o ∷ os) n os) (longer before)
      (subst (λ b. HasAt b (length (before ++ o ∷ [])) os) (moved before)
      (has_itself (before ++ o ∷ []) os)),
)
  where
    found : (xs : List Op) → slice_get (xs ++ o ∷ os) (length xs) ≡ Some o
    found [] = refl
    found (x ∷ xs) = found xs

    longer : (xs : List Op) → length (xs ++ o ∷ []) ≡ length xs + 1
    longer [] = refl
    longer (x ∷ xs) = ap (λ n. suc n) (longer xs) ∙ omega arith

    moved : (xs : List Op) → (xs ++ o ∷ []) ++ os ≡ xs ++ o ∷ os
    moved [] = refl
    moved (x ∷ xs) = ap (λ ys. x ∷ ys) (moved xs)
