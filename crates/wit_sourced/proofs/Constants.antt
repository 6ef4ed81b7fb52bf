-- The last source of an element counts.
use Rattle.std.proofs.Common.{◌≡◌, ◌∙◌, ℕ, Bool, true, false, List, [], ◌∷◌, refl, sym}
use Rattle.std.specs.Prelude.{◌==◌, ◌&&◌, if◌then◌else◌, Option, Some, None}
use Rattle.cir_meaning.specs.RunBodies.{or_else}
use Rattle.wit_lower.specs.Known.{constant_of}
use Rattle.wit_lower.specs.Homes.{Name, same_name}
use Rattle.wit_lower.specs.Sources.{Input, Constant, Cell, Source, input_of}

-- what is found behind counts, or else what was found before
abbrev pub constant_or : Option Input → Option ℕ → Option ℕ
constant_or None found = found
constant_or (Some (Constant v)) found = Some v
constant_or (Some (Cell c)) found = None

one_more : (behind : Option Input) (b : Bool) (x : Input) (found : Option ℕ)
    → constant_or (or_else behind (if b then Some x else None)) found
    ≡ constant_or behind (if b then constant_of (Some x) else found)
one_more None true (Constant v) found = refl
one_more None true (Cell c) found = refl
one_more None false x found = refl
one_more (Some (Constant v)) b x found = refl
one_more (Some (Cell c)) b x found = refl

none_before : (o : Option Input) → constant_or o None ≡ constant_of o
none_before None = refl
none_before (Some (Constant v)) = refl
none_before (Some (Cell c)) = refl

-- the constant as it is found so far
abbrev pub constant_from : Option ℕ → Name → List Source → (element : ℕ) → Option ℕ
constant_from found name [] k = found
constant_from found name (x ∷ xs) k =
    constant_from (if same_name name x.name && (k == x.element) then constant_of (Some x.input)
    else found) name xs k

last_counts : (found : Option ℕ) (name : Name) (xs : List Source) (k : ℕ)
    → constant_from found name xs k ≡ constant_or (input_of name xs k) found
last_counts found name [] k = refl
last_counts found name (x ∷ xs) k =
    let b = same_name name x.name && (k == x.element) in
    last_counts (if b then constant_of (Some x.input) else found) name xs k
    ∙ sym (one_more (input_of name xs k) b x.input found)

pub last_constant : (name : Name) (xs : List Source) (k : ℕ)
    → constant_from None name xs k ≡ constant_of (input_of name xs k)
last_constant name xs k = last_counts None name xs k ∙ none_before (input_of name xs k)
