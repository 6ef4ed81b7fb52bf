-- Two computations side by side: where both answer, a relation holds; where the first answers and
-- the second stops, it isn't for a value that is missing.
use Rattle.std.proofs.Common.{◌≡◌, ◌≢◌, ℕ, Bool, true, false, Result, Ok, Err, refl}
use Rattle.std.specs.Prelude.{⊤}
use Rattle.cir_ast.specs.declared.refusal.Kind.{Kind}
use Rattle.cir_meaning.specs.Tried.{Where, Refused, Tried, next, needed}
use Rattle.cir_meaning.proofs.Good.{OnGood}

unfoldable pub Pair : {A B : Type 0} → (A → B → Type 0) → Tried A → Result B ℕ → Type 0
Pair R (Ok a) (Ok b) = R a b
Pair R (Ok a) (Err stop) = stop ≢ 0
Pair R (Err e) r = ⊤

pub pair_ok : {A B : Type 0} (R : A → B → Type 0) (a : A) (b : B) → R a b → Pair R (Ok a) (Ok b)
unfolding Pair
pair_ok R a b h = h

pub pair_bad : {A B : Type 0} (R : A → B → Type 0) (e : Refused) (r : Result B ℕ) → Pair R (Err e) r
unfolding Pair
pair_bad R e r = tt

pub pair_stop : {A B : Type 0} (R : A → B → Type 0) (m : Tried A) (stop : ℕ) → stop ≢ 0
    → Pair R m (Err stop)
unfolding Pair
pair_stop R (Ok a) stop h = h
pair_stop R (Err e) stop h = tt

pub pair_next : {A B C D : Type 0} (P : A → C → Type 0) (R : B → D → Type 0) (m : Tried A)
    (r : Result C ℕ)
    (go : A → Tried B) (on : C → Result D ℕ) → Pair P m r
    → ((a : A) (c : C) → P a c → Pair R (go a) (on c))
    → Pair R (next m go) (next r on)
unfolding Pair
pair_next P R (Ok a) (Ok c) go on h f = f a c h
pair_next P R (Ok a) (Err stop) go on h f = pair_stop R (go a) stop h
pair_next P R (Err e) r go on h f = tt

-- a step of the first alone
pub pair_left : {A B D : Type 0} (P : A → Type 0) (R : B → D → Type 0) (m : Tried A)
    (r : Result D ℕ) (go : A → Tried B)
    → OnGood P m → ((a : A) → P a → Pair R (go a) r) → Pair R (next m go) r
unfolding Pair OnGood
pair_left P R (Ok a) r go h f = f a h
pair_left P R (Err e) r go h f = tt

-- and of the second
pub pair_right : {A C D : Type 0} (P : C → Type 0) (R : A → D → Type 0) (m : Tried A)
    (r : Result C ℕ) (on : C → Result D ℕ)
    → Pair (λ a c. P c) m r → ((c : C) → P c → Pair R m (on c)) → Pair R m (next r on)
unfolding Pair
pair_right P R (Ok a) (Ok c) on h f = f c h
pair_right P R (Ok a) (Err stop) on h f = h
pair_right P R (Err e) r on h f = tt

pub pair_needed : {A B : Type 0} (R : A → B → Type 0) (test : Bool) (w : Where) (kind : Kind)
    (go : Tried A) (r : Result B ℕ)
    → (test ≡ true → Pair R go r) → Pair R (needed test w kind go) r
unfolding Pair
pair_needed R true w kind go r h = h refl
pair_needed R false w kind go r h = tt

-- what holds of the first besides
pub pair_good : {A B : Type 0} (P : A → Type 0) (R : A → B → Type 0) (m : Tried A) (r : Result B ℕ)
    → OnGood P m → Pair R m r
    → Pair (λ a b. P a × R a b) m r
unfolding Pair OnGood
pair_good P R (Ok a) (Ok b) h g = (h, g)
pair_good P R (Ok a) (Err stop) h g = g
pair_good P R (Err e) r h g = tt

pub pair_weaker : {A B : Type 0} (P R : A → B → Type 0) (m : Tried A) (r : Result B ℕ)
    → ((a : A) (b : B) → P a b → R a b)
    → Pair P m r → Pair R m r
unfolding Pair
pair_weaker P R (Ok a) (Ok b) f h = f a b h
pair_weaker P R (Ok a) (Err stop) f h = h
pair_weaker P R (Err e) r f h = tt

-- the answer of the first is changed
pub pair_map : {A B D : Type 0} (P : A → B → Type 0) (R : D → B → Type 0) (m : Tried A)
    (r : Result B ℕ) (g : A → D)
    → Pair P m r
    → ((a : A) (b : B) → P a b → R (g a) b) → Pair R (next m (λ a. Ok (g a))) r
unfolding Pair
pair_map P R (Ok a) (Ok b) g h f = f a b h
pair_map P R (Ok a) (Err stop) g h f = h
pair_map P R (Err e) r g h f = tt

pub good_both : {A : Type 0} (P Q : A → Type 0) (m : Tried A) → OnGood P m → OnGood Q m
    → OnGood (λ a. P a × Q a) m
unfolding OnGood
good_both P Q (Ok a) h g = (h, g)
good_both P Q (Err e) h g = tt

pub good_changed : {A : Type 0} (P Q : A → Type 0) (m : Tried A) → OnGood P m
    → ((a : A) → P a → Q a) → OnGood Q m
unfolding OnGood
good_changed P Q (Ok a) h f = f a h
good_changed P Q (Err e) h f = tt
