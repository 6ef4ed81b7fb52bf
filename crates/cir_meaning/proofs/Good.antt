-- What holds of an answer, unless it is a refusal.
use Rattle.std.proofs.Common.{◌≡◌, refl, subst, Bool, true, false, Option, Some, None, Result, Ok}
use Rattle.std.proofs.Common.{Err, cond}
use Rattle.std.specs.Prelude.{⊤}
use Rattle.cir_ast.specs.declared.refusal.Kind.{Kind}
use Rattle.cir_meaning.specs.Tried.{Where, Refused, Tried, next, needed, found}

unfoldable pub OnGood : {E A : Type 0} → (A → Type 0) → Result A E → Type 0
OnGood Q (Ok a) = Q a
OnGood Q (Err e) = ⊤

pub good_ok : {A : Type 0} (Q : A → Type 0) (a : A) → Q a → OnGood {E = Refused} Q (Ok a)
unfolding OnGood
good_ok Q a h = h

pub good_bad : {E A : Type 0} (Q : A → Type 0) (e : E) → OnGood Q (Err e)
unfolding OnGood
good_bad Q e = tt

pub good_next : {E A B : Type 0} (P : A → Type 0) (Q : B → Type 0) (m : Result A E)
    (go : A → Result B E)
    → OnGood P m → ((a : A) → P a → OnGood Q (go a)) → OnGood Q (next m go)
unfolding OnGood
good_next P Q (Ok a) go h f = f a h
good_next P Q (Err e) go h f = tt

pub good_any : {E A : Type 0} (m : Result A E) → OnGood (λ a. ⊤) m
unfolding OnGood
good_any (Ok a) = tt
good_any (Err e) = tt

-- a step of which nothing is asked
pub good_on : {E A B : Type 0} (Q : B → Type 0) (m : Result A E) (go : A → Result B E)
    → ((a : A) → OnGood Q (go a)) → OnGood Q (next m go)
unfolding OnGood
good_on Q (Ok a) go f = f a
good_on Q (Err e) go f = tt

pub good_needed : {A : Type 0} (Q : A → Type 0) (test : Bool) (w : Where) (kind : Kind)
    (go : Tried A)
    → OnGood Q go → OnGood Q (needed test w kind go)
unfolding OnGood
good_needed Q true w kind go h = h
good_needed Q false w kind go h = tt

-- one of two
pub either : {A : Type 0} (Q : A → Type 0) (b : Bool) (x y : A) → Q x → Q y → Q (cond b x y)
either Q true x y h g = h
either Q false x y h g = g

pub good_weaker : {E A : Type 0} (P Q : A → Type 0) (m : Result A E) → OnGood P m
    → ((a : A) → P a → Q a) → OnGood Q m
unfolding OnGood
good_weaker P Q (Ok a) h f = f a h
good_weaker P Q (Err e) h f = tt

-- what is found is in the list
abbrev pub OnSome' : {A : Type 0} → (A → Type 0) → Option A → Type 0
OnSome' Q None = ⊤
OnSome' Q (Some a) = Q a

pub good_found : {A : Type 0} (Q : A → Type 0) (w : Where) (kind : Kind) (o : Option A)
    → OnSome' Q o → OnGood Q (found w kind o)
unfolding OnGood
good_found Q w kind None h = tt
good_found Q w kind (Some a) h = h

-- what holds of the answer that is given
pub good_is : {E A : Type 0} (Q : A → Type 0) (m : Result A E) (a : A) → m ≡ Ok a → OnGood Q m
    → Q a
unfolding OnGood
good_is Q (Ok b) a e h = let same : b ≡ a = cc in subst Q same h
good_is Q (Err e) a h g = cc

-- a step whose answer is known as such
pub good_as : {E A B : Type 0} (Q : B → Type 0) (m : Result A E) (go : A → Result B E)
    → ((a : A) → m ≡ Ok a → OnGood Q (go a)) → OnGood Q (next m go)
unfolding OnGood
good_as Q (Ok a) go f = f a refl
good_as Q (Err e) go f = tt

pub good_needed_as : {A : Type 0} (Q : A → Type 0) (test : Bool) (w : Where) (kind : Kind)
    (go : Tried A)
    → (test ≡ true → OnGood Q go) → OnGood Q (needed test w kind go)
unfolding OnGood
good_needed_as Q true w kind go h = h refl
good_needed_as Q false w kind go h = tt

pub good_found_as : {A B : Type 0} (Q : B → Type 0) (w : Where) (kind : Kind) (o : Option A)
    (go : A → Tried B)
    → ((a : A) → o ≡ Some a → OnGood Q (go a)) → OnGood Q (next (found w kind o) go)
unfolding OnGood
good_found_as Q w kind None go h = tt
good_found_as Q w kind (Some a) go h = h a refl
