-- Indices first, and what follows them after.
use Rattle.std.proofs.Common.{◌≡◌, ℕ, Bool, List, [], ◌∷◌, ◌++◌, Option, Ok, Err}
use Rattle.std.proofs.Common.{refl}
use Rattle.cir_ast.specs.declared.program.Meant.{Meant}
use Rattle.cir_ast.specs.Tree.{Accessors, done, index, member}
use Rattle.cir_meaning.specs.Tried.{Where, Tried, next}
use Rattle.cir_meaning.specs.Arrays.{Datum, Scalar, the_item}
use Rattle.cir_meaning.specs.Values.{Value, known_number}
use Rattle.cir_meaning.specs.Frame.{State, Context}
use Rattle.cir_meaning.specs.Evaluate.{scalar, value_in, indices_in}
use Rattle.cir_evaluate.specs.Parts.{indexed}

scalar_next : {A B : Type 0} (m : Tried (Datum × State)) (f : Value → State → Tried A)
    (g : Value → State → Tried B) (h : B → Tried A) → ((v : Value) (s : State)
    → f v s ≡ next (g v s) h) → scalar m f ≡ next (scalar m g) h
scalar_next (Ok x) f g h e = e (the_item x.0) x.1
scalar_next (Err x) f g h e = refl

pub indices_first : {A : Type 0} (k : Context) (w : Where) (dark : Bool) (is : List (Option ℕ))
    (accessors : Accessors Meant) (s : State)
    (go : List (Option ℕ) → Accessors Meant → State → Tried A)
    → indices_in k w dark is accessors s go
    ≡ next (indices_in k w dark is accessors s indexed) (λ (is, (rest, s)). go is rest s)
indices_first k w dark is done s go = refl
indices_first k w dark is (member name rest) s go = refl
indices_first k w dark is (index e rest) s go =
    scalar_next (value_in k w dark Scalar e s)
    (λ x s1. indices_in k w dark (is ++ known_number x ∷ []) rest s1 go)
    (λ x s1. indices_in k w dark (is ++ known_number x ∷ []) rest s1 indexed)
    (λ (is, (rest, s)). go is rest s)
    (λ x s1. indices_first k w dark (is ++ known_number x ∷ []) rest s1 go)
