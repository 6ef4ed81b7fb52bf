-- The statements for anonymous components declare no signals, and what is left of a declaration of
-- signals declares the same.
use Rattle.std.proofs.Common.{◌≡◌, ℕ, ◌-◌, Bool, List, [], ◌∷◌, refl, ap}
use Rattle.std.specs.Prelude.{⊤}
use Rattle.std.specs.List.{AllByRecursion}
use Rattle.cir_ast.specs.declared.program.Meant.{Meant}
use Rattle.cir_ast.specs.declared.operators.Arrow.TheVariants as arrows
use Rattle.cir_ast.specs.declared.operators.Direction.TheVariants.{Input}
use Rattle.cir_ast.specs.Program.{Program}
use Rattle.cir_ast.specs.Tree.{Expr, Number, Place, Call, Anonymous, Parentheses, Array, Unary}
use Rattle.cir_ast.specs.Tree.{Binary, Choice, Exprs, none, more, Inputs, Listed, Named}
use Rattle.cir_ast.specs.Tree.{NamedInputs, unnamed, named, SignalValue, Nothing, Given, Signal}
use Rattle.cir_ast.specs.Tree.{Set, Compound, Left, Increment, Decrement, Target, Discard, Slots}
use Rattle.cir_ast.specs.Tree.{Source, One, Values, Simple, Vars, Signals, Declared, Created}
use Rattle.cir_ast.specs.Tree.{Assigned, Constrain, Right, TargetLeft, TargetRight, Alone}
use Rattle.cir_meaning.specs.Anonymous.{Lifted, then_lift, same, names_of, only, listed_writes}
use Rattle.cir_meaning.specs.Anonymous.{named_writes, input_writes, created, lift, lift_all}
use Rattle.cir_meaning.specs.Anonymous.{lift_inputs, lift_named, lift_values, lift_each}
use Rattle.cir_meaning.specs.Anonymous.{lift_source, lift_value, lift_simple}
use Rattle.cir_meaning.proofs.Rows.{all_append}
use Rattle.cir_steps.specs.Places.{IsAssignPlace, IsTargetPlace}
use Rattle.cir_steps.proofs.Templates.{told, told_all, simple_told}

-- no declaration of signals, and what is assigned is a place
abbrev pub IsOther : Simple Meant → Type 0
IsOther (Signals direction ds) = ⊥
IsOther (Assigned a) = IsAssignPlace a
IsOther (TargetLeft target arrow source) = IsTargetPlace target
IsOther (Right e arrow name m accessors) = ⊥
IsOther (TargetRight source arrow target) = ⊥
IsOther _ = ⊤

abbrev Others : {A : Type 0} → Lifted A → Type 0
Others l = AllByRecursion IsOther l.before

then_others : {A B : Type 0} (l : Lifted A) (go : A → ℕ → Lifted B) → Others l
    → ((a : A) (n : ℕ) → Others (go a n)) → Others (then_lift l go)
then_others l go h g =
    all_append IsOther l.before (go l.value l.next).before h (g l.value l.next)

then_same : {A B : Type 0} (l : Lifted A) (f : A → B) → Others l
    → Others (then_lift l (λ a n. same (f a) n))
then_same l f h = then_others l (λ a n. same (f a) n) h (λ a n. tt)

listed_other : (k n : ℕ) (names : List (List ℕ)) (es : Exprs Meant)
    → AllByRecursion IsOther (listed_writes k n names es)
listed_other k n [] es = tt
listed_other k n (name ∷ names) none = tt
listed_other k n (name ∷ names) (more e es) = (tt, listed_other k n names es)

named_other : (k n : ℕ) (is : NamedInputs Meant) → AllByRecursion IsOther (named_writes k n is)
named_other k n unnamed = tt
named_other k n (named name arrow e is) = (tt, named_other k n is)

module _ (p : Program) (first : ℕ) where
  inputs_other : (k n : ℕ) (t : Meant) (is : Inputs Meant)
      → AllByRecursion IsOther (input_writes p k n t is)
  inputs_other k n t (Listed es) = listed_other k n (names_of Input p t) es
  inputs_other k n t (Named is) = named_other k n is

  created_other : (parallel : Bool) (name : List ℕ) (t : Meant) (arguments : Exprs Meant)
      (is : Inputs Meant) (n : ℕ) → Others (created p first parallel name t arguments is n)
  created_other parallel name t arguments is n = (tt, inputs_other (n - first) n t is)

  mutual
    lift_other : (e : Expr Meant) (n : ℕ) → Others (lift p first e n)
    lift_other (Number i) n = tt
    lift_other (Place name m accessors) n = tt
    lift_other (Call parallel name m arguments) n = tt
    lift_other (Anonymous parallel name m arguments inputs) n =
        then_others (lift_inputs p first inputs n) (λ is n1.
        then_lift (created p first parallel name m arguments is n1)
        (λ outputs n2. same (only outputs) n2)) (inputs_lift_other inputs n) (λ is n1.
        then_same (created p first parallel name m arguments is n1) only
        (created_other parallel name m arguments is n1))
    lift_other (Parentheses e) n =
        then_same (lift p first e n) (λ x. Parentheses x) (lift_other e n)
    lift_other (Array es) n =
        then_same (lift_all p first es n) (λ xs. Array xs) (all_other es n)
    lift_other (Unary op a) n = then_same (lift p first a n) (λ x. Unary op x) (lift_other a n)
    lift_other (Binary op a b) n =
        then_others (lift p first a n) (λ x n1. then_lift (lift p first b n1)
        (λ y n2. same (Binary op x y) n2)) (lift_other a n) (λ x n1.
        then_same (lift p first b n1) (λ y. Binary op x y) (lift_other b n1))
    lift_other (Choice c a b) n =
        then_same (lift p first c n) (λ x. Choice x a b) (lift_other c n)

    all_other : (es : Exprs Meant) (n : ℕ) → Others (lift_all p first es n)
    all_other none n = tt
    all_other (more e es) n =
        then_others (lift p first e n) (λ x n1. then_lift (lift_all p first es n1)
        (λ xs n2. same (more x xs) n2)) (lift_other e n) (λ x n1.
        then_same (lift_all p first es n1) (λ xs. more x xs) (all_other es n1))

    inputs_lift_other : (is : Inputs Meant) (n : ℕ) → Others (lift_inputs p first is n)
    inputs_lift_other (Listed es) n =
        then_same (lift_all p first es n) (λ xs. Listed xs) (all_other es n)
    inputs_lift_other (Named is) n =
        then_same (lift_named p first is n) (λ xs. Named xs) (named_lift_other is n)

    named_lift_other : (is : NamedInputs Meant) (n : ℕ) → Others (lift_named p first is n)
    named_lift_other unnamed n = tt
    named_lift_other (named name arrow e is) n =
        then_others (lift p first e n) (λ x n1. then_lift (lift_named p first is n1)
        (λ xs n2. same (named name arrow x xs) n2)) (lift_other e n) (λ x n1.
        then_same (lift_named p first is n1) (λ xs. named name arrow x xs)
        (named_lift_other is n1))

  abbrev one : Expr Meant → List (Expr Meant)
  one x = x ∷ []

  values_other : (e : Expr Meant) (n : ℕ) → Others (lift_values p first e n)
  values_other (Parentheses e) n = values_other e n
  values_other (Anonymous parallel name m arguments inputs) n =
      then_others (lift_inputs p first inputs n)
      (λ is n1. created p first parallel name m arguments is n1) (inputs_lift_other inputs n)
      (λ is n1. created_other parallel name m arguments is n1)
  values_other (Number i) n = tt
  values_other (Place name m accessors) n = tt
  values_other (Call parallel name m arguments) n = tt
  values_other (Array es) n =
      then_same (lift p first (Array es) n) one (lift_other (Array es) n)
  values_other (Unary op a) n =
      then_same (lift p first (Unary op a) n) one (lift_other (Unary op a) n)
  values_other (Binary op a b) n =
      then_same (lift p first (Binary op a b) n) one (lift_other (Binary op a b) n)
  values_other (Choice c a b) n =
      then_same (lift p first (Choice c a b) n) one (lift_other (Choice c a b) n)

  each_other : {A : Type 0} (f : A → ℕ → Lifted A) (as' : List A) (n : ℕ)
      → ((a : A) (n : ℕ) → Others (f a n)) → Others (lift_each f as' n)
  each_other f [] n h = tt
  each_other f (a ∷ as') n h =
      then_others (f a n) (λ x n1. then_lift (lift_each f as' n1) (λ xs n2. same (x ∷ xs) n2))
      (h a n) (λ x n1. then_same (lift_each f as' n1) (λ xs. x ∷ xs) (each_other f as' n1 h))

  source_other : (target : Target Meant) (source : Source Meant) (n : ℕ)
      → Others (lift_source p first target source n)
  source_other Discard (Values es) n =
      then_same (lift_each (lift p first) es n) (λ xs. Values xs)
      (each_other (lift p first) es n lift_other)
  source_other (Slots slots) (Values es) n =
      then_same (lift_each (lift p first) es n) (λ xs. Values xs)
      (each_other (lift p first) es n lift_other)
  source_other (Slots slots) (One e) n =
      then_same (lift_values p first e n) (λ xs. Values xs) (values_other e n)
  source_other Discard (One e) n =
      all_append IsOther (lift p first e n).before [] (lift_other e n) tt

  value_other : (v : SignalValue Meant) (n : ℕ) → Others (lift_value p first v n)
  value_other Nothing n = tt
  value_other (Given arrow e) n =
      then_same (lift p first e n) (λ x. Given arrow x) (lift_other e n)

  abbrev lifted_signal : Signal Meant → ℕ → Lifted (Signal Meant)
  lifted_signal s n1 =
      then_lift (lift_value p first s.value n1) (λ v n2. same (record s { value = v }) n2)

  pub lifts_simple : (a : Simple Meant) (n : ℕ)
      → AllByRecursion IsOther (lift_simple p first a n).before
  lifts_simple (Vars vs) n = tt
  lifts_simple (Signals d signals) n =
      then_same (lift_each lifted_signal signals n) (λ xs. Signals d xs)
      (each_other lifted_signal signals n (λ s n1.
      then_same (lift_value p first s.value n1) (λ v. record s { value = v })
      (value_other s.value n1)))
  lifts_simple (Declared cs) n = tt
  lifts_simple (Created name m e) n = tt
  lifts_simple (Assigned (Left name m accessors arrow e)) n =
      then_same (lift p first e n) (λ x. Assigned (Left name m accessors arrow x)) (lift_other e n)
  lifts_simple (Assigned (Set name m accessors e)) n = tt
  lifts_simple (Assigned (Compound name m accessors op e)) n = tt
  lifts_simple (Assigned (Increment name m accessors)) n = tt
  lifts_simple (Assigned (Decrement name m accessors)) n = tt
  lifts_simple (Constrain a b) n =
      then_others (lift p first a n) (λ x n1. then_lift (lift p first b n1)
      (λ y n2. same (Constrain x y) n2)) (lift_other a n) (λ x n1.
      then_same (lift p first b n1) (λ y. Constrain x y) (lift_other b n1))
  lifts_simple (Right e arrow name m accessors) n =
      then_same (lift p first e n) (λ x. Assigned (Left name m accessors arrow x)) (lift_other e n)
  lifts_simple (TargetLeft target arrow source) n =
      then_same (lift_source p first target source n) (λ x. TargetLeft target arrow x)
      (source_other target source n)
  lifts_simple (TargetRight source arrow target) n =
      then_same (lift_source p first target source n) (λ x. TargetLeft target arrow x)
      (source_other target source n)
  lifts_simple (Alone parallel name m arguments inputs) n =
      then_others {B = Simple Meant} (lift_inputs p first inputs n) (λ is n1.
      then_lift (created p first parallel name m arguments is n1)
      (λ outputs n2. same (TargetLeft Discard arrows.Constrain (Values [])) n2))
      (inputs_lift_other inputs n) (λ is n1.
      then_same {B = Simple Meant} (created p first parallel name m arguments is n1)
      (λ outputs. TargetLeft Discard arrows.Constrain (Values []))
      (created_other parallel name m arguments is n1))

pub other_told : (a : Simple Meant) (ns : List ℕ) → IsOther a → simple_told a ns ≡ ns
other_told (Signals direction ds) ns h = absurd h
other_told (Vars vs) ns h = refl
other_told (Declared cs) ns h = refl
other_told (Created name m e) ns h = refl
other_told (Assigned a) ns h = refl
other_told (Constrain a b) ns h = refl
other_told (Right e arrow name m accessors) ns h = refl
other_told (TargetLeft target arrow source) ns h = refl
other_told (TargetRight source arrow target) ns h = refl
other_told (Alone parallel name m arguments inputs) ns h = refl

module _ (p : Program) (first : ℕ) where
  signals_told : (signals : List (Signal Meant)) (n : ℕ) (ns : List ℕ)
      → told_all (lift_each (lifted_signal p first) signals n).value ns ≡ told_all signals ns
  signals_told [] n ns = refl
  signals_told (s ∷ signals) n ns =
      ap (told s.meant) (signals_told signals (lifted_signal p first s n).next ns)

  pub lifted_told : (a : Simple Meant) (n : ℕ) (ns : List ℕ)
      → simple_told (lift_simple p first a n).value ns ≡ simple_told a ns
  lifted_told (Signals d signals) n ns = signals_told signals n ns
  lifted_told (Vars vs) n ns = refl
  lifted_told (Declared cs) n ns = refl
  lifted_told (Created name m e) n ns = refl
  lifted_told (Assigned (Left name m accessors arrow e)) n ns = refl
  lifted_told (Assigned (Set name m accessors e)) n ns = refl
  lifted_told (Assigned (Compound name m accessors op e)) n ns = refl
  lifted_told (Assigned (Increment name m accessors)) n ns = refl
  lifted_told (Assigned (Decrement name m accessors)) n ns = refl
  lifted_told (Constrain a b) n ns = refl
  lifted_told (Right e arrow name m accessors) n ns = refl
  lifted_told (TargetLeft target arrow source) n ns = refl
  lifted_told (TargetRight source arrow target) n ns = refl
  lifted_told (Alone parallel name m arguments inputs) n ns = refl
