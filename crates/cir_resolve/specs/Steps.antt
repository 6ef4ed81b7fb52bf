-- Steps that keep a state, each from what the one before it left, up to the first that stops.
use Rattle.std.specs.Prelude.{List, [], ◌∷◌, Result, Ok, Err}

-- what a step gives and the state that it leaves, or why it stops
abbrev pub Step : (X E A : Type 0) → Type 0
Step X E A = Result (A × X) E

-- a step, and the rest from what it gives and leaves
abbrev pub behind : {X E A B : Type 0} → Step X E A → (A → X → Step X E B) → Step X E B
behind (Ok given) rest = rest given.0 given.1
behind (Err stop) rest = Err stop

-- the same step, which gives what is made of that
abbrev pub made : {X E A B : Type 0} → (A → B) → Step X E A → Step X E B
made make (Ok given) = Ok (make given.0, given.1)
made make (Err stop) = Err stop

-- a step for each of a list, in order
abbrev pub in_turn : {X E A B : Type 0} → (X → A → Step X E B) → X → List A → Step X E (List B)
in_turn step x [] = Ok ([], x)
in_turn step x (a ∷ rest) = behind (step x a) (λ b y. made (λ bs. b ∷ bs) (in_turn step y rest))
