-- What an input gives: as many numbers of the field as main's inputs have elements.
use Rattle.std.proofs.Common.{sym, ◌≡◌, ◌∙◌, ◌==◌, ℕ, ◌+◌, ◌-◌, ◌%◌, ◌<◌, suc, Bool, true, false}
use Rattle.std.proofs.Common.{List, [], ◌∷◌, ◌++◌, All, length, Option, Some, None, Result, Ok, Err}
use Rattle.std.proofs.Common.{refl, ap, subst, if◌then◌else◌, length-append, arith, ℤ, pos, negsuc}
use Rattle.std.proofs.Common.{ok_or}
use Rattle.std.proofs.lemmas.Bool.Decides.{Decides-eqb}
use Rattle.std.proofs.lemmas.List.Elements.{All-nil, All-cons, All-append}
use Rattle.std.specs.Prelude.{sum_by}
use Rattle.std.specs.Option.{option_or, option_map, option_and_then}
use Rattle.std.proofs.lemmas.List.Sums.{sum_by-cons}
use Rattle.binary_format.specs.Reading.{◌>>=◌}
use Rattle.gold_field.specs.declared.gold.TheConstants.{P}
use Rattle.cir_values.specs.declared.signals.InputShape.{InputShape}
use Rattle.serde_json.specs.Data.{Data, null, boolean, number, string, array, object, Members}
use Rattle.serde_json.specs.Find.{as_integer, as_object}
use Rattle.wit_input.specs.Document.{json_of}
use Rattle.wit_input.specs.Numbers.{number_of, text_number, whole_of, residue, reduced, negated}
use Rattle.wit_input.specs.Input.{first_fault, unless, missing, unknown, is_input, values_for}
use Rattle.wit_input.specs.Input.{wrong_count, numbers_from, all_numbers, given, input_of}
use Rattle.wit_input.specs.declared.fault.InputFault.{InputFault}
use Rattle.wit_input.specs.declared.fault.InputFault.TheVariants.{BadNumber, NotJson}

abbrev Below : ℕ → Type 0
Below n = n < P

-- what is read in two steps is read by both
two_steps : {A B : Type 0} (x : Result A InputFault) (g : A → Result B InputFault) (b : B)
    → (x >>= g) ≡ Ok b → (a : A) × (x ≡ Ok a) × (g a ≡ Ok b)
two_steps (Ok a) g b e = (a, refl, e)
two_steps (Err r) g b e = let bad : ⊥ = cc in absurd bad

one_ok : {A : Type 0} (a b : A) (x : Result A InputFault) → x ≡ Ok a → x ≡ Ok b → a ≡ b
one_ok a b x e f = cc

small : (n : ℕ) → n % 18446744069414584321 < P
small n = omega arith

residue_small : (z : ℤ) → Below (residue z)
residue_small (pos n) = small n
residue_small (negsuc n) = small (18446744069414584321 - reduced (suc n))

mapped : {A : Type 0} (f : A → ℕ) (o : Option A) (n : ℕ) → ((a : A) → Below (f a))
    → option_map f o ≡ Some n → Below n
mapped f None n h e = let bad : ⊥ = cc in absurd bad
mapped f (Some a) n h e = let same : f a ≡ n = cc in subst Below same (h a)

text_small : (text : List ℕ) (n : ℕ) → text_number text ≡ Some n → Below n
text_small [] n e = let bad : ⊥ = cc in absurd bad
text_small (c ∷ cs) n e = at (c == 45) e
  where
    at : (b : Bool)
        → (if b then option_map negated (whole_of cs) else option_map reduced (whole_of (c ∷ cs)))
        ≡ Some n → Below n
    at true e =
        mapped negated (whole_of cs) n (λ k. small (18446744069414584321 - reduced k)) e
    at false e = mapped reduced (whole_of (c ∷ cs)) n small e

number_small : (d : Data) (n : ℕ) → number_of d ≡ Some n → Below n
number_small (number x) n e = mapped residue (as_integer x) n residue_small e
number_small (string text) n e = text_small text n e
number_small null n e = let bad : ⊥ = cc in absurd bad
number_small (boolean b) n e = let bad : ⊥ = cc in absurd bad
number_small (array ds) n e = let bad : ⊥ = cc in absurd bad
number_small (object ms) n e = let bad : ⊥ = cc in absurd bad

was_some : (o : Option ℕ) (fault : InputFault) (n : ℕ) → ok_or o fault ≡ Ok n → o ≡ Some n
was_some None fault n e = let bad : ⊥ = cc in absurd bad
was_some (Some m) fault n e = let same : m ≡ n = cc in ap Some same

-- so many numbers of the field
pub record Counted (count : ℕ) (ns : List ℕ) : Type 0 where
  pub many : length ns ≡ count
  pub below : All Below ns

values_counted : (input place : ℕ) (values : List Data) (ns : List ℕ)
    → numbers_from input place values ≡ Ok ns → Counted (length values) ns
values_counted input place [] ns e =
    let none : [] ≡ ns = cc in
    subst (Counted 0) none (record { many = refl; below = All-nil Below })
values_counted input place (value ∷ values) ns e =
    let first = two_steps (ok_or (number_of value) (BadNumber input place))
    (λ n. numbers_from input (place + 1) values >>= λ others. Ok (n ∷ others)) ns e in
    let rest = two_steps (numbers_from input (place + 1) values) (λ others. Ok (first.0 ∷ others))
    ns first.2 in
    let others = values_counted input (place + 1) values rest.0 rest.1 in
    let all : first.0 ∷ rest.0 ≡ ns = cc in
    subst (Counted (suc (length values))) all
    (record {
      many = ap (λ (n : ℕ). suc n) others.many;
      below = All-cons Below first.0 rest.0
          (number_small value first.0 (was_some (number_of value) (BadNumber input place) first.0
          first.1)) others.below;
    })

-- the elements of all inputs
abbrev pub counts : List InputShape → ℕ
counts inputs = sum_by (λ i. i.count) inputs

module _ (members : Members) where
  neither : (a b : Option InputFault) → option_or a b ≡ None → (a ≡ None) × (b ≡ None)
  neither None b e = (refl, e)
  neither (Some fault) b e = let bad : ⊥ = cc in absurd bad

  right_count : (place : ℕ) (input : InputShape) → wrong_count members place input ≡ None
      → length (values_for members input) ≡ input.count
  right_count place input e =
      at _ (length (values_for members input) == input.count) refl e
    where
      at : (fault : InputFault) (b : Bool)
          → (length (values_for members input) == input.count) ≡ b
          → (if b then None else Some fault) ≡ None
          → length (values_for members input) ≡ input.count
      at fault true is e = (Decides-eqb _ _).0 is
      at fault false is e = let bad : ⊥ = cc in absurd bad

  inputs_counted : (place : ℕ) (inputs : List InputShape) (ns : List ℕ)
      → first_fault (wrong_count members) place inputs ≡ None
      → all_numbers members place inputs ≡ Ok ns → Counted (counts inputs) ns
  inputs_counted place [] ns none e =
      let nothing : [] ≡ ns = cc in
      subst (Counted 0) nothing (record { many = refl; below = All-nil Below })
  inputs_counted place (input ∷ inputs) ns none e =
      let right = neither (wrong_count members place input)
      (first_fault (wrong_count members) (place + 1) inputs) none in
      let first = two_steps (numbers_from place 0 (values_for members input))
      (λ xs. all_numbers members (place + 1) inputs >>= λ others. Ok (xs ++ others)) ns e in
      let rest = two_steps (all_numbers members (place + 1) inputs)
      (λ others. Ok (first.0 ++ others)) ns first.2 in
      let here = values_counted place 0 (values_for members input) first.0 first.1 in
      let others = inputs_counted (place + 1) inputs rest.0 right.1 rest.1 in
      let all : first.0 ++ rest.0 ≡ ns = cc in
      subst (Counted (counts (input ∷ inputs))) all
      (record {
        many = omega (
          arith,
          length-append first.0 rest.0,
          here.many,
          others.many,
          right_count place input right.0,
          sum_by-cons (λ (i : InputShape). i.count) input inputs,
        );
        below = All-append Below first.0 rest.0 here.below others.below;
      })

  was_none : (o : Option InputFault) (u : Unit {0}) → unless o ≡ Ok u → o ≡ None
  was_none None u e = refl
  was_none (Some fault) u e = let bad : ⊥ = cc in absurd bad

  pub given_counted : (inputs : List InputShape) (ns : List ℕ) → given inputs members ≡ Ok (1 ∷ ns)
      → Counted (counts inputs) ns
  given_counted inputs ns e =
      let known = λ (u : Unit {0}). unless (unknown (is_input inputs) members) >>= λ v.
      unless (first_fault (wrong_count members) 0 inputs) >>= λ w.
      all_numbers members 0 inputs >>= λ numbers. Ok (1 ∷ numbers) in
      let a = two_steps (unless (first_fault (missing members) 0 inputs)) known (1 ∷ ns) e in
      let b = two_steps (unless (unknown (is_input inputs) members))
      (λ v. unless (first_fault (wrong_count members) 0 inputs) >>= λ w.
      all_numbers members 0 inputs >>= λ numbers. Ok (1 ∷ numbers)) (1 ∷ ns) a.2 in
      let c = two_steps (unless (first_fault (wrong_count members) 0 inputs))
      (λ w. all_numbers members 0 inputs >>= λ numbers. Ok (1 ∷ numbers)) (1 ∷ ns) b.2 in
      let d = two_steps (all_numbers members 0 inputs) (λ numbers. Ok (1 ∷ numbers)) (1 ∷ ns)
      c.2 in
      let same : d.0 ≡ ns = cc in
      inputs_counted 0 inputs ns
      (was_none (first_fault (wrong_count members) 0 inputs) c.0 c.1) (d.1 ∙ ap Ok same)

pub input_counted : (bytes : List ℕ) (inputs : List InputShape) (ns : List ℕ)
    → input_of bytes inputs ≡ Ok (1 ∷ ns) → Counted (counts inputs) ns
unfolding input_of
input_counted bytes inputs ns e =
    let found = two_steps (ok_or (option_and_then as_object (json_of bytes)) NotJson)
    (λ members. given inputs members) (1 ∷ ns) e in
    given_counted found.0 inputs ns found.2

-- the first number is 1
module _ (members : Members) where
  given_first : (inputs : List InputShape) (ns : List ℕ) → given inputs members ≡ Ok ns
      → (ms : List ℕ) × (ns ≡ 1 ∷ ms)
  given_first inputs ns e =
      let known = λ (u : Unit {0}). unless (unknown (is_input inputs) members) >>= λ v.
      unless (first_fault (wrong_count members) 0 inputs) >>= λ w.
      all_numbers members 0 inputs >>= λ numbers. Ok (1 ∷ numbers) in
      let a = two_steps (unless (first_fault (missing members) 0 inputs)) known ns e in
      let b = two_steps (unless (unknown (is_input inputs) members))
      (λ v. unless (first_fault (wrong_count members) 0 inputs) >>= λ w.
      all_numbers members 0 inputs >>= λ numbers. Ok (1 ∷ numbers)) ns a.2 in
      let c = two_steps (unless (first_fault (wrong_count members) 0 inputs))
      (λ w. all_numbers members 0 inputs >>= λ numbers. Ok (1 ∷ numbers)) ns b.2 in
      let d = two_steps (all_numbers members 0 inputs) (λ numbers. Ok (1 ∷ numbers)) ns c.2 in
      let same : 1 ∷ d.0 ≡ ns = cc in
      (d.0, sym same)

pub input_first : (bytes : List ℕ) (inputs : List InputShape) (ns : List ℕ)
    → input_of bytes inputs ≡ Ok ns → (ms : List ℕ) × (ns ≡ 1 ∷ ms)
unfolding input_of
input_first bytes inputs ns e =
    let found = two_steps (ok_or (option_and_then as_object (json_of bytes)) NotJson)
    (λ members. given inputs members) ns e in
    given_first found.0 inputs ns found.2
