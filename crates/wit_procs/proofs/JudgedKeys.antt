-- Where no rule is broken in what calls reach, none is broken in the functions that they call.
use Rattle.std.proofs.Common.{◌≡◌, ◌∙◌, ℕ, zero, suc, Bool, true, false, List, [], ◌∷◌, ◌++◌}
use Rattle.std.proofs.Common.{length, refl, ap, subst}
use Rattle.std.specs.Prelude.{◌==◌, ◌||◌, not, if◌then◌else◌, map, flat_map, Option, Some, None}
use Rattle.std.specs.Prelude.{is_none, slice_get, option_map, bytes_eq}
use Rattle.std.specs.List.{list_any, AllByRecursion}
use Rattle.std.specs.Cmp.Lexicographic.{bytes_decides}
use Rattle.std.proofs.lemmas.Bool.{or_parts, and_parts, and_from, eqb-true, eq-eqb}
use Rattle.std.proofs.lemmas.Option.{slice_get-map}
use Rattle.cir_ast.specs.declared.refusal.Kind.{Kind}
use Rattle.cir_ast.specs.declared.refusal.Form.TheVariants.{RunArray, RunDimension, LiteralPlace}
use Rattle.cir_ast.specs.declared.refusal.Kind.TheVariants.{NotInProfile, ShapeDiffers}
use Rattle.cir_ast.specs.Program.{Program, Function}
use Rattle.cir_meaning.specs.Costs.{Made}
use Rattle.cir_meaning.specs.Functions as F
use Rattle.cir_meaning.specs.Reached as R
use Rattle.cir_meaning.specs.Texts.{list_of, all_wanted, all_variables, all_returned, calls_in}
use Rattle.cir_meaning.specs.Texts.{literal_number}
use Rattle.wit_lower.proofs.Depth.{body_is}
use Rattle.wit_procs.specs.Rules.{KeepsRules}
use Rattle.cir_rules.proofs.Placing.{same_is, same_itself}
use Rattle.wit_procs.proofs.KeyLists.{all_new}

-- ---- what is told of all that is reached is told of the first
front_false : {A : Type 0} (test : A → Bool) (xs ys : List A) → list_any test (xs ++ ys) ≡ false
    → list_any test xs ≡ false
front_false test [] ys h = refl
front_false test (x ∷ xs) ys h = at (front_false test xs ys) (test x) h
  where
    at : (list_any test (xs ++ ys) ≡ false → list_any test xs ≡ false) → (b : Bool)
        → (b || list_any test (xs ++ ys)) ≡ false → (b || list_any test xs) ≡ false
    at rest true e = cc
    at rest false e = rest e

reached_front : {A : Type 0} (rounds : ℕ) (same : A → A → Bool) (calls : A → List A)
    (known latest : List A) (test : A → Bool)
    → list_any test (R.reached rounds same calls known latest) ≡ false
    → list_any test known ≡ false
reached_front zero same calls known latest test h = h
reached_front (suc rounds) same calls known [] test h = h
reached_front (suc rounds) same calls known (a ∷ as') test h =
    let fresh = R.new_ones same known (flat_map calls (a ∷ as')) in
    front_false test known fresh
    (reached_front rounds same calls (known ++ fresh) fresh test h)

found_false : {A : Type 0} (test among : A → Bool) (c : A) (ys : List A)
    → ((y : A) → among y ≡ true → test c ≡ test y) → list_any among ys ≡ true
    → list_any test ys ≡ false → test c ≡ false
found_false test among c [] respects there h = cc
found_false test among c (y ∷ ys) respects there h =
    let parts = or_parts (test y) (list_any test ys) h in
    at (λ e. found_false test among c ys respects e parts.1) parts.0 (among y) refl there
  where
    at : (list_any among ys ≡ true → test c ≡ false) → test y ≡ false → (b : Bool)
        → among y ≡ b → (b || list_any among ys) ≡ true → test c ≡ false
    at rest none true e there = respects y e ∙ none
    at rest none false e there = rest there

module _ {A : Type 0} (same : A → A → Bool) (calls : A → List A) (test : A → Bool)
    (itself : (a : A) → same a a ≡ true) (are : (a b : A) → same a b ≡ true → a ≡ b) where
  told_first : (first : List A) → list_any test (R.all_reached same calls first) ≡ false
      → AllByRecursion (λ a. test a ≡ false) first
  told_first first h = each first (all_new same itself first [])
    where
      none : list_any test (R.new_ones same [] first) ≡ false
      none = reached_front R.rounds same calls (R.new_ones same [] first)
          (R.new_ones same [] first) test h

      each : (xs : List A)
          → AllByRecursion (λ c. list_any (same c) (R.new_ones same [] first) ≡ true) xs
          → AllByRecursion (λ a. test a ≡ false) xs
      each [] there = tt
      each (x ∷ xs) there = (
        found_false test (same x) x (R.new_ones same [] first) (λ y e. ap test (are x y e))
            there.0 none,
        each xs there.1,
      )

some_is : {A : Type 0} (a b : A) → Some a ≡ Some b → a ≡ b
some_is a b e = cc

pub each_at : {A : Type 0} (P : A → Type 0) (xs : List A) (n : ℕ) (x : A) → AllByRecursion P xs
    → slice_get xs n ≡ Some x → P x
each_at P [] n x h there = cc
each_at P (y ∷ ys) zero x h there = subst P (some_is y x there) h.0
each_at P (y ∷ ys) (suc n) x h there = each_at P ys n x h.1 there

told_at : {A B : Type 0} (of : B → A) (P : A → Type 0) (xs : List B) (n : ℕ) (x : B)
    → AllByRecursion P (map of xs) → slice_get xs n ≡ Some x → P (of x)
told_at of P xs n x h there =
    each_at P (map of xs) n (of x) h (slice_get-map of xs n ∙ ap (option_map of) there)

-- ---- calls with ranks, and functions
same_call_is : (a b : R.RankedCall) → R.same_call a b ≡ true → a ≡ b
same_call_is a b h =
    let parts = and_parts (a.function == b.function) (bytes_eq a.ranks b.ranks) h in
    both (eqb-true a.function b.function parts.0) ((bytes_decides a.ranks b.ranks).0 parts.1)
  where
    both : a.function ≡ b.function → a.ranks ≡ b.ranks → a ≡ b
    both e f = ap (λ x. record { function = x; ranks = a.ranks }) e
        ∙ ap (λ x. record { function = b.function; ranks = x }) f

same_call_itself : (a : R.RankedCall) → R.same_call a a ≡ true
same_call_itself a =
    and_from (a.function == a.function) (bytes_eq a.ranks a.ranks)
    (eq-eqb a.function a.function refl) ((bytes_decides a.ranks a.ranks).1 refl)

-- ---- no rule is broken
record IsNone (b : Bool) (rest : Option Kind) : Type 0 where
  no : b ≡ false
  rest_no : rest ≡ None

none_told : (b : Bool) (kind : Kind) (rest : Option Kind)
    → (if b then Some kind else rest) ≡ None → IsNone b rest
none_told true kind rest h = cc
none_told false kind rest h = record { no = refl; rest_no = h }

pub not_not : (b : Bool) → not b ≡ false → b ≡ true
not_not true h = refl
not_not false h = cc

pub keeps_rules : (p : Program) (made : List Made) → F.function_fault p made ≡ None → (n : ℕ)
    (key : Made) → slice_get made n ≡ Some key → (f : Function)
    → slice_get p.functions key.function ≡ Some f → KeepsRules f key.shapes
keeps_rules p made h n key there f is =
    let misplaced : Option Kind = if R.has_misplaced p made then Some (NotInProfile LiteralPlace)
    else (if F.has_misfit p made then Some ShapeDiffers else None) in
    let dimension : Option Kind =
    if R.has_run_dimension p made then Some (NotInProfile RunDimension) else misplaced in
    let one = none_told (R.has_run_array p made) (NotInProfile RunArray) dimension h in
    let two = none_told (R.has_run_dimension p made) (NotInProfile RunDimension) misplaced
    one.rest_no in
    let three = none_told (R.has_misplaced p made) (NotInProfile LiteralPlace)
    (if F.has_misfit p made then Some ShapeDiffers else None) two.rest_no in
    let four = none_told (F.has_misfit p made) ShapeDiffers None three.rest_no in
    let body : R.body_of p key.function ≡ f.body = body_is p key.function f is in
    let arrays : R.returns_array p record {
      function = key.function;
      ranks = map length key.shapes;
    } ≡ false =
    told_at (λ m. record { function = m.function; ranks = map length m.shapes })
    (λ c. R.returns_array p c ≡ false) made n key
    (told_first R.same_call (R.ranked_calls p) (R.returns_array p) same_call_itself same_call_is
    (map (λ m. record { function = m.function; ranks = map length m.shapes }) made) one.no)
    there in
    let written = told_at (λ m. m.function)
    (λ g. list_any (λ v. list_any (λ e. is_none (literal_number e)) (list_of v.dimensions))
    (all_variables (R.body_of p g)) ≡ false) made n key
    (told_first ◌==◌ (λ g. map (λ c. c.function) (calls_in (R.body_of p g)))
    (λ g. list_any (λ v. list_any (λ e. is_none (literal_number e)) (list_of v.dimensions))
    (all_variables (R.body_of p g))) (λ a. eq-eqb a a refl) eqb-true
    (map (λ m. m.function) made) two.no) there in
    let placed = told_at (λ m. m.function)
    (λ g. list_any (λ x. R.is_misplaced x.want x.expr) (all_wanted (R.body_of p g)) ≡ false)
    made n key
    (told_first ◌==◌ (λ g. map (λ c. c.function) (calls_in (R.body_of p g)))
    (λ g. list_any (λ x. R.is_misplaced x.want x.expr) (all_wanted (R.body_of p g)))
    (λ a. eq-eqb a a refl) eqb-true (map (λ m. m.function) made) three.no) there in
    let fits = each_at
    (λ m. not (F.body_fits (F.call_dims p m) (R.body_of p m.function)) ≡ false) made n key
    (told_first F.same_made (F.shaped_calls p)
    (λ m. not (F.body_fits (F.call_dims p m) (R.body_of p m.function))) same_itself same_is
    made four.no) there in
    record {
      fit = subst (λ b. F.body_fits (F.variable_dims key.shapes (all_variables b)) b ≡ true) body
          (not_not (F.body_fits (F.call_dims p key) (R.body_of p key.function)) fits);
      written = subst (λ b. list_any
          (λ v. list_any (λ e. is_none (literal_number e)) (list_of v.dimensions))
          (all_variables b) ≡ false) body written;
      placed = subst (λ b. list_any (λ x. R.is_misplaced x.want x.expr) (all_wanted b) ≡ false)
          body placed;
      numbers = subst (λ b. list_any (λ e. not (R.rank_of
          (R.variable_rank (map length key.shapes) (all_variables b)) e == 0)) (all_returned b)
          ≡ false) body arrays;
    }
