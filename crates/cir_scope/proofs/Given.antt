-- What holds of what steps give and leave, where they don't stop.
use Rattle.std.proofs.Common.{ℕ, Bool, true, false, cond, List, Ok, Err}
use Rattle.std.specs.Prelude.{is_some, ⊤}
use Rattle.cir_ast.specs.declared.program.Spot.{Spot}
use Rattle.cir_ast.specs.declared.program.Meant.{Meant}
use Rattle.cir_resolve.specs.Steps.{Step, behind, made}
use Rattle.cir_resolve.specs.Scope.{State, Naming, entered, left, closed, within, declared, counted}
use Rattle.cir_resolve.specs.Scope.{with_name}

abbrev pub OnGiven : {X E A : Type 0} → (A → X → Type 0) → Step X E A → Type 0
OnGiven P (Ok given) = P given.0 given.1
OnGiven P (Err stop) = ⊤

pub given_behind : {X E A B : Type 0} (P : A → X → Type 0) (Q : B → X → Type 0)
    (first : Step X E A) (rest : A → X → Step X E B) → OnGiven P first
    → ((a : A) (x : X) → P a x → OnGiven Q (rest a x)) → OnGiven Q (behind first rest)
given_behind P Q (Ok given) rest h so = so given.0 given.1 h
given_behind P Q (Err stop) rest h so = tt

pub given_made : {X E A B : Type 0} (P : A → X → Type 0) (Q : B → X → Type 0) (make : A → B)
    (s : Step X E A) → OnGiven P s → ((a : A) (x : X) → P a x → Q (make a) x)
    → OnGiven Q (made make s)
given_made P Q make (Ok given) h so = so given.0 given.1 h
given_made P Q make (Err stop) h so = tt

given_closed : {A : Type 0} (P Q : A → State → Type 0) (st : State) (s : Naming A) → OnGiven P s
    → ((a : A) (x : State) → P a x → Q a (left st x)) → OnGiven Q (closed st s)
given_closed P Q st (Ok given) h so = so given.0 given.1 h
given_closed P Q st (Err spot) h so = tt

pub given_within : {A : Type 0} (P Q : A → State → Type 0) (st : State) (part : State → Naming A)
    → OnGiven P (part (entered st)) → ((a : A) (x : State) → P a x → Q a (left st x))
    → OnGiven Q (within st part)
given_within P Q st part h so = given_closed P Q st (part (entered st)) h so

given_unless : {X E A : Type 0} (Q : A → X → Type 0) (b : Bool) (stop : E) (a : A) (x : X) → Q a x
    → OnGiven Q (cond b (Err stop) (Ok (a, x)))
given_unless Q true stop a x h = tt
given_unless Q false stop a x h = h

pub given_declared : (Q : Meant → State → Type 0) (spot : Spot) (st : State) (name : List ℕ)
    (m : Meant) → Q m (with_name (counted st m) name m) → OnGiven Q (declared spot st name m)
given_declared Q spot st name m h =
    given_unless Q (is_some (st.inner name)) spot m (with_name (counted st m) name m) h

pub given_any : {X E A : Type 0} (s : Step X E A) → OnGiven (λ a x. ⊤) s
given_any (Ok given) = tt
given_any (Err stop) = tt

pub given_less : {X E A : Type 0} (P Q : A → X → Type 0) (s : Step X E A) → OnGiven P s
    → ((a : A) (x : X) → P a x → Q a x) → OnGiven Q s
given_less P Q (Ok given) h so = so given.0 given.1 h
given_less P Q (Err stop) h so = tt

pub given_both : {X E A : Type 0} (P Q : A → X → Type 0) (s : Step X E A) → OnGiven P s
    → OnGiven Q s → OnGiven (λ a x. P a x × Q a x) s
given_both P Q (Ok given) h k = (h, k)
given_both P Q (Err stop) h k = tt
