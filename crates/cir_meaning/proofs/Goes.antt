-- A statement at compile time and in a run: where the first is executed, the second isn't refused,
-- never misses a value, and a relation holds behind it.
use Rattle.std.proofs.Common.{◌≡◌, ◌≢◌, ℕ, Bool, true, false, cond, Result, Ok, Err, refl, subst}
use Rattle.std.specs.Prelude.{⊤}
use Rattle.cir_meaning.specs.Tried.{Where, Refused, Tried, next}
use Rattle.cir_meaning.specs.RunValues.{Ran}
use Rattle.cir_meaning.specs.Run.{Rejected, Stopped, RunTried, refusing, Run, stepping}
use Rattle.cir_meaning.proofs.Pairs.{Pair}
use Rattle.cir_meaning.proofs.RunFree.{NoMiss}

unfoldable pub Goes : {A B : Type 0} → (A → B → Type 0) → Tried A → RunTried B → Type 0
Goes P (Ok a) (Ok b) = P a b
Goes P (Ok a) (Err (Rejected e)) = ⊥
Goes P (Ok a) (Err (Stopped stop w log)) = stop ≢ 0
Goes P (Err e) r = ⊤

pub goes_ok : {A B : Type 0} (P : A → B → Type 0) (a : A) (b : B) → P a b → Goes P (Ok a) (Ok b)
unfolding Goes
goes_ok P a b h = h

pub goes_bad : {A B : Type 0} (P : A → B → Type 0) (e : Refused) (r : RunTried B)
    → Goes P (Err e) r
unfolding Goes
goes_bad P e r = tt

pub goes_next : {A B C D : Type 0} (P : A → C → Type 0) (R : B → D → Type 0) (m : Tried A)
    (r : RunTried C) (go : A → Tried B) (on : C → RunTried D)
    → Goes P m r → ((a : A) (c : C) → P a c → Goes R (go a) (on c))
    → Goes R (next m go) (next r on)
unfolding Goes
goes_next P R (Ok a) (Ok c) go on h f = f a c h
goes_next P R (Ok a) (Err (Rejected e)) go on h f = absurd h
goes_next P R (Ok a) (Err (Stopped stop w log)) go on h f = at (go a)
  where
    at : (m : Tried _) → Goes R m (Err (Stopped stop w log))
    at (Ok b) = h
    at (Err e) = tt
goes_next P R (Err e) r go on h f = tt

pub goes_weaker : {A B : Type 0} (P R : A → B → Type 0) (m : Tried A) (r : RunTried B)
    → ((a : A) (b : B) → P a b → R a b) → Goes P m r → Goes R m r
unfolding Goes
goes_weaker P R (Ok a) (Ok b) f h = f a b h
goes_weaker P R (Ok a) (Err (Rejected e)) f h = h
goes_weaker P R (Ok a) (Err (Stopped stop w log)) f h = h
goes_weaker P R (Err e) r f h = tt

pub goes_if : {A B : Type 0} (P : A → B → Type 0) (b : Bool) (x y : Tried A) (z u : RunTried B)
    → (b ≡ true → Goes P x z) → (b ≡ false → Goes P y u) → Goes P (cond b x y) (cond b z u)
goes_if P true x y z u h g = h refl
goes_if P false x y z u h g = g refl

-- a step of both that is the same at compile time
pub goes_same : {A B C : Type 0} (R : B → C → Type 0) (m : Tried A) (go : A → Tried B)
    (on : A → RunTried C) → ((a : A) → m ≡ Ok a → Goes R (go a) (on a))
    → Goes R (next m go) (next (refusing m) on)
unfolding Goes
goes_same R (Ok a) go on f = f a refl
goes_same R (Err e) go on f = tt

-- and one that the run asks for twice
pub goes_twice : {A B C : Type 0} (R : B → C → Type 0) (m : Tried A) (go : A → Tried B)
    (on : A → B → RunTried C)
    → ((a : A) → m ≡ Ok a → Goes R (go a) (next (refusing (go a)) (on a)))
    → Goes R (next m go) (next (refusing m) (λ a. next (refusing (next m go)) (on a)))
unfolding Goes
goes_twice R (Ok a) go on f = f a refl
goes_twice R (Err e) go on f = tt

-- what is executed at compile time as a whole, before the run goes on
pub goes_refusing : {A B : Type 0} (P : A → B → Type 0) (m : Tried A) (on : A → RunTried B)
    → ((a : A) → m ≡ Ok a → Goes P (Ok a) (on a)) → Goes P m (next (refusing m) on)
unfolding Goes
goes_refusing P (Ok a) on f = f a refl
goes_refusing P (Err e) on f = tt

-- a step with its units
pub goes_step : {A B C : Type 0} (Q : C × ℕ → Type 0) (P : A → B → Type 0) (a : A) (w : Where)
    (r : Run) (ran : Ran C) (on : C → RunTried B)
    → NoMiss Q ran → ((x : C × ℕ) → Q x → Goes P (Ok a) (on x.0))
    → Goes P (Ok a) (next (stepping w r ran) on)
unfolding Goes NoMiss
goes_step Q P a w r (Ok x) on h f = f x h
goes_step Q P a w r (Err stop) on h f = h

-- a pair of which the first is known to answer
pub pair_no : {A B : Type 0} (R : A → B → Type 0) (m : Tried A) (r : Result B ℕ) (a : A)
    → Pair R m r → m ≡ Ok a → NoMiss (R a) r
unfolding Pair NoMiss
pair_no R (Ok b) (Ok c) a h e = let same : b ≡ a = cc in subst (λ x. R x c) same h
pair_no R (Ok b) (Err stop) a h e = h
pair_no R (Err e) r a h g = cc
