-- The turns of reading lists, where a number stands in place of its successor.
use Rattle.std.proofs.Common.{◌≡◌, ℕ, zero, suc, ◌-◌, ◌<◌, List, [], ◌∷◌, ◌++◌, length, Option}
use Rattle.std.proofs.Common.{Some, None, Result, Ok, Err, true, false, refl, ap, ◌∙◌, sym, arith}
use Rattle.std.proofs.Common.{sub-one, subst, append_assoc, append-nil}
use Rattle.std.specs.Prelude.{IsErrAnd}
use Rattle.cir_token.specs.declared.token.Symbol.TheVariants.{Comma}
use Rattle.cir_token.specs.declared.token.Symbol.{Symbol}
use Rattle.cir_token.specs.declared.token.Token.{Token}
use Rattle.std.proofs.lemmas.List.{length-map}
use Rattle.cir_expression.specs.declared.reader.Stop.{Stop}
use Rattle.cir_expression.specs.declared.reader.Stop.TheVariants.{NoTree, OutOfMemory}
use Rattle.cir_expression.specs.Answers.{Stops, Reads, kinds}
use Rattle.cir_expression.specs.Front.{Tokens, tail, begins}
use Rattle.cir_expression.specs.Combinators.{next, parted_by, separated_by, separated}
use Rattle.cir_simple_statement.specs.Reading.{each_of}

-- a refusal that is handed on
pub exits : {X Y : Type 0} (view : X → Y) (r : Result X Stop) (stop : Stop) (rest : Tokens)
    (reading : Option (Y × Tokens)) → IsErrAnd r (λ e. e ≡ stop)
    → Stops stop reading → Reads view r rest reading
exits view (Ok x) stop rest reading h s = absurd h
exits view (Err e) stop rest reading h s = subst (λ (x : Stop). Stops x reading) (sym h) s

pub minus_none : {n : ℕ} → n ≡ n - 0
minus_none = omega arith

pub begun_list : {A : Type 0} (read : Tokens → Option (A × Tokens)) (ts : List Token)
    → separated read (kinds ts) ≡ separated_by (length ts - 0) read [] (kinds ts)
unfolding separated
begun_list read ts =
    ap (λ (n : ℕ). separated_by n read [] (kinds ts)) (length-map ts (λ t. t.kind) ∙ minus_none)

pub none_parted : {A : Type 0} (mark : Symbol) (stop : Stop) (n : ℕ)
    (read : Tokens → Option (A × Tokens)) (before : List A) (ts : Tokens)
    (all : Option (List A × Tokens)) → 0 < n
    → all ≡ parted_by mark n read before ts → Stops stop (read ts) → Stops stop all
none_parted mark OutOfMemory n read before ts all h e s = tt
none_parted mark NoTree zero read before ts all h e s = absurd (omega arith)
none_parted mark NoTree (suc n) read before ts all h e s = e ∙ rw s refl

pub last_parted : {A : Type 0} (mark : Symbol) (n : ℕ) (read : Tokens → Option (A × Tokens))
    (before : List A) (ts rest : Tokens) (x : A) (all : Option (List A × Tokens)) → 0 < n
    → all ≡ parted_by mark n read before ts → read ts ≡ Some (x, rest) → begins mark rest ≡ false
    → all ≡ Some (before ++ x ∷ [], rest)
last_parted mark zero read before ts rest x all h e one none = absurd (omega arith)
last_parted mark (suc n) read before ts rest x all h e one none = e ∙ rw (one, none) refl

pub more_parted : {A : Type 0} (mark : Symbol) (n m : ℕ) (read : Tokens → Option (A × Tokens))
    (before : List A) (ts rest : Tokens) (x : A) (all : Option (List A × Tokens)) → 0 < n
    → n - 1 ≡ m → all ≡ parted_by mark n read before ts → read ts ≡ Some (x, rest)
    → begins mark rest ≡ true → all ≡ parted_by mark m read (before ++ x ∷ []) (tail rest)
more_parted mark zero m read before ts rest x all h same e one marked = absurd (omega arith)
more_parted mark (suc n) m read before ts rest x all h same e one marked =
    e ∙ rw (one, marked, ← same, sub-one) refl

pub no_element_left : {A : Type 0} (mark : Symbol) (n : ℕ) (read : Tokens → Option (A × Tokens))
    (before : List A) (ts : Tokens) → n ≡ 0 → parted_by mark n read before ts ≡ None
no_element_left mark n read before ts h = ap (λ (n : ℕ). parted_by mark n read before ts) h

-- so with commas
pub no_element : {A : Type 0} (stop : Stop) (n : ℕ) (read : Tokens → Option (A × Tokens))
    (before : List A) (ts : Tokens) (all : Option (List A × Tokens)) → 0 < n
    → all ≡ separated_by n read before ts → Stops stop (read ts) → Stops stop all
no_element = none_parted Comma

pub last_element : {A : Type 0} (n : ℕ) (read : Tokens → Option (A × Tokens)) (before : List A)
    (ts rest : Tokens) (x : A) (all : Option (List A × Tokens)) → 0 < n
    → all ≡ separated_by n read before ts → read ts ≡ Some (x, rest) → begins Comma rest ≡ false
    → all ≡ Some (before ++ x ∷ [], rest)
last_element = last_parted Comma

pub more_elements : {A : Type 0} (n m : ℕ) (read : Tokens → Option (A × Tokens)) (before : List A)
    (ts rest : Tokens) (x : A) (all : Option (List A × Tokens)) → 0 < n → n - 1 ≡ m
    → all ≡ separated_by n read before ts → read ts ≡ Some (x, rest) → begins Comma rest ≡ true
    → all ≡ separated_by m read (before ++ x ∷ []) (tail rest)
more_elements = more_parted Comma

-- these and more, if there are more
abbrev pub with_before : {B : Type 0} → List B → Option (List B) → Option (List B)
with_before before more = next more (λ ys. Some (before ++ ys))

one_more : {B : Type 0} (before : List B) (y : B) (more : Option (List B))
    → with_before before (next more (λ ys. Some (y ∷ ys))) ≡ with_before (before ++ y ∷ []) more
one_more before y None = refl
one_more before y (Some ys) = ap (λ (zs : List _). Some zs) (sym (append_assoc before (y ∷ []) ys))

pub keeps : {A B : Type 0} (f : A → Option B) (before : List B) (rest more : List A) (x : A) (y : B)
    (all : Option (List B)) → all ≡ with_before before (each_of f rest)
    → rest ≡ x ∷ more → f x ≡ Some y → all ≡ with_before (before ++ y ∷ []) (each_of f more)
keeps f before rest more x y all h e is =
    h ∙ rw (e, is) (one_more before y (each_of f more))

pub ends : {A B : Type 0} (f : A → Option B) (before : List B) (rest : List A)
    (all : Option (List B)) → all ≡ with_before before (each_of f rest) → rest ≡ []
    → all ≡ Some before
ends f before rest all h e = h ∙ rw (e, append-nil) refl
