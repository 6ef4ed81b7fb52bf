-- The task of a step means what the step does, wherever both read the same.
use Rattle.std.proofs.Common.{◌≡◌, ℕ, Bool, true, false, cond, List, [], ◌∷◌, ◌++◌, map, Ok, Err}
use Rattle.std.proofs.Common.{refl, ap, ap₂, ◌∙◌}
use Rattle.std.specs.Prelude.{slice_index, ◌==◌}
use Rattle.cir_ast.specs.declared.program.Spot.{Spot}
use Rattle.cir_ast.specs.declared.program.Meant.{Meant}
use Rattle.cir_ast.specs.declared.program.Meant.TheVariants as meant
use Rattle.cir_ast.specs.Tree.{LogArgument, Words, LogValue}
use Rattle.cir_meaning.specs.Tried.{next}
use Rattle.cir_meaning.specs.Places.{numbers_from}
use Rattle.cir_meaning.specs.RunValues.{Ran, Numbers, Environment, Store, stored, gives, number}
use Rattle.cir_meaning.specs.RunValues.{number_in, the_number, assert_fails}
use Rattle.cir_meaning.specs.RunStatements.{StepGoing, step_set, step_statement}
use Rattle.cir_meaning.specs.RunBodies.{store_in}
use Rattle.cir_steps.specs.Step.{Elements, Work, Valuing, Assigning, Comparing, Asserting, Logging}
use Rattle.cir_steps.specs.Step.{Deciding}
use Rattle.cir_steps.specs.RunSteps.{log_numbers, elements_of, work_numbers}
use Rattle.wit_lower.specs.Tasks.{logged, numbers_wanted, element_in, done_by}
use Rattle.cir_emit.specs.Tasks.{elements_at, all_elements, work_task}
use Rattle.cir_emit.proofs.Lists.{next_same}

line_same : (env : Environment) (store : Store) (arguments : List (LogArgument Meant)) (u : ℕ)
    → numbers_wanted env store (logged arguments) u ≡ log_numbers env store arguments u
line_same env store [] u = refl
line_same env store (Words text ∷ rest) u = line_same env store rest u
line_same env store (LogValue e ∷ rest) u =
    next_same (number_in env store e u) (number_in env store e u)
    (λ x. next (numbers_wanted env store (logged rest) x.1) (λ y. gives (the_number x.0 ∷ y.0) y.1))
    (λ x. next (log_numbers env store rest x.1) (λ y. gives (the_number x.0 ∷ y.0) y.1)) refl
    (λ x ex. ap (λ m. next m (λ y. gives (the_number x.0 ∷ y.0) y.1))
    (line_same env store rest x.1))

at_same : (store : Store) (n : ℕ) (places : List ℕ)
    → map (element_in store) (elements_at n places)
    ≡ map (slice_index (stored store n).items) places
at_same store n [] = refl
at_same store n (k ∷ ks) = ap (λ xs. slice_index (stored store n).items k ∷ xs) (at_same store n ks)

map_append : {A B : Type 0} (f : A → B) (xs ys : List A) → map f (xs ++ ys) ≡ map f xs ++ map f ys
map_append f [] ys = refl
map_append f (x ∷ xs) ys = ap (λ zs. f x ∷ zs) (map_append f xs ys)

all_same : (store : Store) (wanted : List Elements)
    → map (element_in store) (all_elements wanted) ≡ elements_of store wanted
all_same store [] = refl
all_same store (x ∷ xs) =
    map_append (element_in store) (elements_at x.variable (numbers_from 0 x.count))
    (all_elements xs) ∙
    ap₂ (λ ys zs. ys ++ zs) (at_same store x.variable (numbers_from 0 x.count)) (all_same store xs)

pub work_same : (env : Environment) (store : Store) (spot : Spot) (work : Work) (u : ℕ)
    → done_by env store (work_task spot work) u ≡ work_numbers env store work u
work_same env store spot (Valuing e) u = refl
work_same env store spot (Assigning n accessors e places) u =
    at (step_set env (meant.Variable n) accessors e store u)
  where
    at : (m : Ran Store)
        → next (next m (λ x. gives (StepGoing x.0) x.1))
        (λ x. gives (map (element_in (store_in x.0 store)) (elements_at n places)) x.1)
        ≡ next m (λ x. gives (map (slice_index (stored x.0 n).items) places) x.1)
    at (Ok x) = ap (λ xs. gives xs x.1) (at_same x.0 n places)
    at (Err s) = refl
work_same env store spot (Comparing a b) u = refl
work_same env store spot (Asserting e) u = at (number_in env store e u)
  where
    tested : (b : Bool) (v : ℕ)
        → next (cond b (Err assert_fails) (gives (StepGoing store) v))
        (λ x. gives {A = List ℕ} [] x.1)
        ≡ next {A = Unit {0} × ℕ} (cond b (Err assert_fails) (Ok (tt, v)))
        (λ x. gives {A = List ℕ} [] x.1)
    tested true v = refl
    tested false v = refl

    at : (m : Ran Numbers)
        → next (number m (λ n v. cond (n == 0) (Err assert_fails) (gives (StepGoing store) v)))
        (λ x. gives {A = List ℕ} [] x.1)
        ≡ next (number {A = Unit {0}} m (λ n v. cond (n == 0) (Err assert_fails) (Ok (tt, v))))
        (λ x. gives {A = List ℕ} [] x.1)
    at (Ok x) = tested (the_number x.0 == 0) x.1
    at (Err s) = refl
work_same env store spot (Logging arguments) u = line_same env store arguments u
work_same env store spot (Deciding a wanted) u =
    next_same (step_statement env a store u) (step_statement env a store u)
    (λ x. gives (map (element_in (store_in x.0 store)) (all_elements wanted)) x.1)
    (λ x. gives (elements_of (store_in x.0 store) wanted) x.1) refl
    (λ x ex. ap (λ xs. gives xs x.1) (all_same (store_in x.0 store) wanted))
