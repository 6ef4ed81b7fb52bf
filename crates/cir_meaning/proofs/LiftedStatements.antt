-- What is lifted out of a statement, and what is left, names what the statement names.
use Rattle.std.proofs.Common.{◌≡◌, ℕ, ◌-◌, Bool, List, [], ◌∷◌, map, Some, refl}
use Rattle.std.specs.Prelude.{⊤}
use Rattle.std.specs.List.{AllByRecursion}
use Rattle.cir_ast.specs.declared.operators.Arrow.TheVariants.{Constrain as ConstrainArrow}
use Rattle.cir_ast.specs.declared.operators.Direction.TheVariants as direction
use Rattle.cir_ast.specs.declared.program.Meant.{Meant}
use Rattle.cir_ast.specs.Program.{Program}
use Rattle.cir_ast.specs.Tree.{Expr, Number, Place, Call, Anonymous, Parentheses, Array, Unary}
use Rattle.cir_ast.specs.Tree.{Binary, Choice, Exprs, none, more, done, Inputs, Listed, Named}
use Rattle.cir_ast.specs.Tree.{NamedInputs, unnamed, named, SignalValue, Nothing, Given, Signal}
use Rattle.cir_ast.specs.Tree.{Set, Compound, Left, Increment, Decrement, Target, Discard, Slots}
use Rattle.cir_ast.specs.Tree.{Source, One, Values, Simple, Vars, Signals, Declared, Created}
use Rattle.cir_ast.specs.Tree.{Assigned, Constrain, Right, TargetLeft, TargetRight, Alone}
use Rattle.cir_meaning.specs.Scoped.{Scope, AreCallsMeant, AreAllMeant, AreInputsMeant}
use Rattle.cir_meaning.specs.Scoped.{AreNamedMeant, IsSetMeant, IsAssignMeant, IsSignalValueMeant}
use Rattle.cir_meaning.specs.Scoped.{IsSourceMeant}
use Rattle.cir_meaning.specs.Anonymous.{Lifted, same, then_lift, names_of, signal_of, listed_writes}
use Rattle.cir_meaning.specs.Anonymous.{named_writes, input_writes, created, only, lift, lift_all}
use Rattle.cir_meaning.specs.Anonymous.{lift_inputs, lift_named, lift_values, lift_each}
use Rattle.cir_meaning.specs.Anonymous.{lift_source, lift_value, lift_simple}
use Rattle.cir_meaning.proofs.Rows.{all_append}

-- statements that are lifted create components and write their inputs
abbrev pub IsLifted : Scope → Simple Meant → Type 0
IsLifted s (Created name m e) = ⊤
IsLifted s (Assigned (Left name m accessors arrow e)) = AreCallsMeant s e
IsLifted s _ = ⊥

module _ (s : Scope) (p : Program) (first : ℕ) where
  abbrev AreLifted : List (Simple Meant) → Type 0
  AreLifted xs = AllByRecursion (IsLifted s) xs

  -- what is left, and what comes before
  abbrev pub LiftsTo : {A : Type 0} → (A → Type 0) → Lifted A → Type 0
  LiftsTo Q l = AllByRecursion (IsLifted s) l.before × Q l.value

  pub lifts_then : {A B : Type 0} (Q : A → Type 0) (R : B → Type 0) (l : Lifted A)
      (go : A → ℕ → Lifted B) → LiftsTo Q l → ((a : A) (n : ℕ) → Q a → LiftsTo R (go a n))
      → LiftsTo R (then_lift l go)
  lifts_then Q R l go h f =
      let after : LiftsTo R (go l.value l.next) = f l.value l.next h.1 in
      (all_append (IsLifted s) l.before (go l.value l.next).before h.0 after.0, after.1)

  listed_lifted : (k n : ℕ) (names : List (List ℕ)) (es : Exprs Meant) → AreAllMeant s es
      → AreLifted (listed_writes k n names es)
  listed_lifted k n [] es h = tt
  listed_lifted k n (name ∷ names) none h = tt
  listed_lifted k n (name ∷ names) (more e es) h = (h.0, listed_lifted k n names es h.1)

  named_lifted : (k n : ℕ) (is : NamedInputs Meant) → AreNamedMeant s is
      → AreLifted (named_writes k n is)
  named_lifted k n unnamed h = tt
  named_lifted k n (named name arrow e is) h = (h.0, named_lifted k n is h.1)

  inputs_lifted : (k n : ℕ) (m : Meant) (is : Inputs Meant) → AreInputsMeant s is
      → AreLifted (input_writes p k n m is)
  inputs_lifted k n m (Listed es) h = listed_lifted k n (names_of direction.Input p m) es h
  inputs_lifted k n m (Named is) h = named_lifted k n is h

  outputs_meant : (k n : ℕ) (names : List (List ℕ))
      → AllByRecursion (AreCallsMeant s) (map (signal_of k n) names)
  outputs_meant k n [] = tt
  outputs_meant k n (name ∷ names) = ((tt, tt), outputs_meant k n names)

  created_lifted : (parallel : Bool) (name : List ℕ) (m : Meant) (arguments : Exprs Meant)
      (is : Inputs Meant) (n : ℕ) → AreInputsMeant s is
      → LiftsTo (AllByRecursion (AreCallsMeant s)) (created p first parallel name m arguments is n)
  created_lifted parallel name m arguments is n h = (
    (tt, inputs_lifted (n - first) n m is h),
    outputs_meant (n - first) n (names_of direction.Output p m),
  )

  only_meant : (es : List (Expr Meant)) → AllByRecursion (AreCallsMeant s) es
      → AreCallsMeant s (only es)
  only_meant [] h = tt
  only_meant (e ∷ es) h = h.0

  -- where nothing else is lifted
  pub lifts_map : {A B : Type 0} (Q : A → Type 0) (R : B → Type 0) (l : Lifted A) (f : A → B)
      → LiftsTo Q l → ((a : A) → Q a → R (f a))
      → LiftsTo R (then_lift l (λ a n. same (f a) n))
  lifts_map Q R l f h g =
      lifts_then Q R l (λ a n. same (f a) n) h (λ a n q. (tt, g a q))

  mutual
    pub lift_meant : (e : Expr Meant) (n : ℕ) → AreCallsMeant s e
        → LiftsTo (AreCallsMeant s) (lift p first e n)
    lift_meant (Number i) n h = (tt, tt)
    lift_meant (Place name m accessors) n h = (tt, h)
    lift_meant (Call parallel name m arguments) n h = (tt, h)
    lift_meant (Anonymous parallel name m arguments inputs) n h =
        lifts_then (AreInputsMeant s) (AreCallsMeant s) (lift_inputs p first inputs n)
        (λ is n1. then_lift (created p first parallel name m arguments is n1)
        (λ outputs n2. same (only outputs) n2)) (lift_inputs_meant inputs n h) (λ is n1 g.
        lifts_map (AllByRecursion (AreCallsMeant s)) (AreCallsMeant s)
        (created p first parallel name m arguments is n1) only
        (created_lifted parallel name m arguments is n1 g) only_meant)
    lift_meant (Parentheses e) n h =
        lifts_map (AreCallsMeant s) (AreCallsMeant s) (lift p first e n) (λ x. Parentheses x)
        (lift_meant e n h) (λ x g. g)
    lift_meant (Array es) n h =
        lifts_map (AreAllMeant s) (AreCallsMeant s) (lift_all p first es n) (λ xs. Array xs)
        (lift_all_meant es n h) (λ x g. g)
    lift_meant (Unary op a) n h =
        lifts_map (AreCallsMeant s) (AreCallsMeant s) (lift p first a n) (λ x. Unary op x)
        (lift_meant a n h) (λ x g. g)
    lift_meant (Binary op a b) n h =
        lifts_then (AreCallsMeant s) (AreCallsMeant s) (lift p first a n)
        (λ x n1. then_lift (lift p first b n1) (λ y n2. same (Binary op x y) n2))
        (lift_meant a n h.0) (λ x n1 g.
        lifts_map (AreCallsMeant s) (AreCallsMeant s) (lift p first b n1) (λ y. Binary op x y)
        (lift_meant b n1 h.1) (λ y i. (g, i)))
    lift_meant (Choice c a b) n h =
        lifts_map (AreCallsMeant s) (AreCallsMeant s) (lift p first c n) (λ x. Choice x a b)
        (lift_meant c n h.0) (λ x g. (g, h.1, h.2))

    pub lift_all_meant : (es : Exprs Meant) (n : ℕ) → AreAllMeant s es
        → LiftsTo (AreAllMeant s) (lift_all p first es n)
    lift_all_meant none n h = (tt, tt)
    lift_all_meant (more e es) n h =
        lifts_then (AreCallsMeant s) (AreAllMeant s) (lift p first e n)
        (λ x n1. then_lift (lift_all p first es n1) (λ xs n2. same (more x xs) n2))
        (lift_meant e n h.0) (λ x n1 g.
        lifts_map (AreAllMeant s) (AreAllMeant s) (lift_all p first es n1) (λ xs. more x xs)
        (lift_all_meant es n1 h.1) (λ xs i. (g, i)))

    pub lift_inputs_meant : (is : Inputs Meant) (n : ℕ) → AreInputsMeant s is
        → LiftsTo (AreInputsMeant s) (lift_inputs p first is n)
    lift_inputs_meant (Listed es) n h =
        lifts_map (AreAllMeant s) (AreInputsMeant s) (lift_all p first es n) (λ xs. Listed xs)
        (lift_all_meant es n h) (λ xs g. g)
    lift_inputs_meant (Named is) n h =
        lifts_map (AreNamedMeant s) (AreInputsMeant s) (lift_named p first is n) (λ xs. Named xs)
        (lift_named_meant is n h) (λ xs g. g)

    lift_named_meant : (is : NamedInputs Meant) (n : ℕ) → AreNamedMeant s is
        → LiftsTo (AreNamedMeant s) (lift_named p first is n)
    lift_named_meant unnamed n h = (tt, tt)
    lift_named_meant (named name arrow e is) n h =
        lifts_then (AreCallsMeant s) (AreNamedMeant s) (lift p first e n)
        (λ x n1. then_lift (lift_named p first is n1) (λ xs n2. same (named name arrow x xs) n2))
        (lift_meant e n h.0) (λ x n1 g.
        lifts_map (AreNamedMeant s) (AreNamedMeant s) (lift_named p first is n1)
        (λ xs. named name arrow x xs) (lift_named_meant is n1 h.1) (λ xs i. (g, i)))

  -- values of tuples
  one_meant : (e : Expr Meant) (n : ℕ) → AreCallsMeant s e
      → LiftsTo (AllByRecursion (AreCallsMeant s))
      (then_lift (lift p first e n) (λ x n1. same (x ∷ []) n1))
  one_meant e n h =
      lifts_map (AreCallsMeant s) (AllByRecursion (AreCallsMeant s)) (lift p first e n)
      (λ x. x ∷ []) (lift_meant e n h) (λ x g. (g, tt))

  values_meant : (e : Expr Meant) (n : ℕ) → AreCallsMeant s e
      → LiftsTo (AllByRecursion (AreCallsMeant s)) (lift_values p first e n)
  values_meant (Parentheses e) n h = values_meant e n h
  values_meant (Anonymous parallel name m arguments inputs) n h =
      lifts_then (AreInputsMeant s) (AllByRecursion (AreCallsMeant s))
      (lift_inputs p first inputs n)
      (λ is n1. created p first parallel name m arguments is n1) (lift_inputs_meant inputs n h)
      (λ is n1 g. created_lifted parallel name m arguments is n1 g)
  values_meant (Number i) n h = one_meant (Number i) n h
  values_meant (Place name m accessors) n h = one_meant (Place name m accessors) n h
  values_meant (Call parallel name m arguments) n h =
      one_meant (Call parallel name m arguments) n h
  values_meant (Array es) n h = one_meant (Array es) n h
  values_meant (Unary op a) n h = one_meant (Unary op a) n h
  values_meant (Binary op a b) n h = one_meant (Binary op a b) n h
  values_meant (Choice c a b) n h = one_meant (Choice c a b) n h

  pub each_lifted : {A : Type 0} (Q : A → Type 0) (f : A → ℕ → Lifted A) (xs : List A) (n : ℕ)
      → ((x : A) (n : ℕ) → Q x → LiftsTo Q (f x n)) → AllByRecursion Q xs
      → LiftsTo (AllByRecursion Q) (lift_each f xs n)
  each_lifted Q f [] n go h = (tt, tt)
  each_lifted Q f (x ∷ xs) n go h =
      lifts_then Q (AllByRecursion Q) (f x n)
      (λ y n1. then_lift (lift_each f xs n1) (λ ys n2. same (y ∷ ys) n2)) (go x n h.0) (λ y n1 g.
      lifts_map (AllByRecursion Q) (AllByRecursion Q) (lift_each f xs n1) (λ ys. y ∷ ys)
      (each_lifted Q f xs n1 go h.1) (λ ys i. (g, i)))

  -- what `_` drops isn't read of an anonymous component
  abbrev kept : Expr Meant → Expr Meant → List (Expr Meant)
  kept (Parentheses e) x = kept e x
  kept (Anonymous parallel name m arguments inputs) x = []
  kept _ x = x ∷ []

  kept_meant : (e x : Expr Meant) → AreCallsMeant s x
      → AllByRecursion (AreCallsMeant s) (kept e x)
  kept_meant (Parentheses e) x h = kept_meant e x h
  kept_meant (Anonymous parallel name m arguments inputs) x h = tt
  kept_meant (Number i) x h = (h, tt)
  kept_meant (Place name m accessors) x h = (h, tt)
  kept_meant (Call parallel name m arguments) x h = (h, tt)
  kept_meant (Array es) x h = (h, tt)
  kept_meant (Unary op a) x h = (h, tt)
  kept_meant (Binary op a b) x h = (h, tt)
  kept_meant (Choice c a b) x h = (h, tt)

  pub lift_source_meant : (target : Target Meant) (source : Source Meant) (n : ℕ)
      → IsSourceMeant s source → LiftsTo (IsSourceMeant s) (lift_source p first target source n)
  lift_source_meant target (Values es) n h =
      lifts_map (AllByRecursion (AreCallsMeant s)) (IsSourceMeant s)
      (lift_each (lift p first) es n) (λ xs. Values xs)
      (each_lifted (AreCallsMeant s) (lift p first) es n lift_meant h) (λ xs g. g)
  lift_source_meant (Slots slots) (One e) n h =
      lifts_map (AllByRecursion (AreCallsMeant s)) (IsSourceMeant s) (lift_values p first e n)
      (λ xs. Values xs) (values_meant e n h) (λ xs g. g)
  lift_source_meant Discard (One e) n h =
      lifts_map (AreCallsMeant s) (IsSourceMeant s) (lift p first e n) (λ x. Values (kept e x))
      (lift_meant e n h) (kept_meant e)

  pub lift_value_meant : (v : SignalValue Meant) (n : ℕ) → IsSignalValueMeant s v
      → LiftsTo (IsSignalValueMeant s) (lift_value p first v n)
  lift_value_meant Nothing n h = (tt, tt)
  lift_value_meant (Given arrow e) n h =
      lifts_map (AreCallsMeant s) (IsSignalValueMeant s) (lift p first e n) (λ x. Given arrow x)
      (lift_meant e n h) (λ x g. g)

  -- statements
  abbrev pub IsWide : Simple Meant → Type 0
  IsWide (Vars vs) =
      AllByRecursion (λ v. (e : Expr Meant) → v.value ≡ Some e → IsSetMeant s v.meant done e) vs
  IsWide (Signals d xs) = AllByRecursion (λ x. IsSignalValueMeant s x.value) xs
  IsWide (Assigned a) = IsAssignMeant s a
  IsWide (Constrain a b) = AreCallsMeant s a × AreCallsMeant s b
  IsWide (Right e arrow name m accessors) = AreCallsMeant s e
  IsWide (TargetLeft target arrow source) = IsSourceMeant s source
  IsWide (TargetRight source arrow target) = IsSourceMeant s source
  IsWide (Alone parallel name m arguments inputs) = AreInputsMeant s inputs
  IsWide _ = ⊤

  -- the signals that are declared stay the same
  abbrev pub SameMeants : List (Signal Meant) → List (Signal Meant) → Type 0
  SameMeants [] [] = ⊤
  SameMeants (x ∷ xs) (y ∷ ys) = (y.meant ≡ x.meant) × SameMeants xs ys
  SameMeants _ _ = ⊥

  abbrev pub SameSignals : Simple Meant → Simple Meant → Type 0
  SameSignals (Signals d xs) (Signals e ys) = (e ≡ d) × SameMeants xs ys
  SameSignals (Signals d xs) _ = ⊥
  SameSignals x (Signals e ys) = ⊥
  SameSignals x y = ⊤

  abbrev pub LiftedAs : Simple Meant → Simple Meant → Type 0
  LiftedAs x y = IsWide y × SameSignals x y

  signals_lifted : (xs : List (Signal Meant)) (n : ℕ)
      → AllByRecursion (λ x. IsSignalValueMeant s x.value) xs
      → LiftsTo (λ ys. AllByRecursion (λ x. IsSignalValueMeant s x.value) ys × SameMeants xs ys)
      (lift_each (λ x n1. then_lift (lift_value p first x.value n1)
      (λ v n2. same (record x { value = v }) n2)) xs n)
  signals_lifted [] n h = (tt, (tt, tt))
  signals_lifted (x ∷ xs) n h =
      lifts_then (λ y. IsSignalValueMeant s y.value × (y.meant ≡ x.meant))
      (λ ys. AllByRecursion (λ x. IsSignalValueMeant s x.value) ys × SameMeants (x ∷ xs) ys)
      (then_lift (lift_value p first x.value n) (λ v n2. same (record x { value = v }) n2))
      (λ y n1. then_lift (lift_each (λ x n1. then_lift (lift_value p first x.value n1)
      (λ v n2. same (record x { value = v }) n2)) xs n1) (λ ys n2. same (y ∷ ys) n2))
      (lifts_map (IsSignalValueMeant s)
      (λ y. IsSignalValueMeant s y.value × (y.meant ≡ x.meant))
      (lift_value p first x.value n) (λ v. record x { value = v })
      (lift_value_meant x.value n h.0) (λ v g. (g, refl))) (λ y n1 g.
      lifts_map
      (λ ys. AllByRecursion (λ x. IsSignalValueMeant s x.value) ys × SameMeants xs ys)
      (λ ys. AllByRecursion (λ x. IsSignalValueMeant s x.value) ys × SameMeants (x ∷ xs) ys)
      (lift_each (λ x n1. then_lift (lift_value p first x.value n1)
      (λ v n2. same (record x { value = v }) n2)) xs n1) (λ ys. y ∷ ys)
      (signals_lifted xs n1 h.1) (λ ys i. ((g.0, i.0), (g.1, i.1))))

  pub simple_lifted : (x : Simple Meant) (n : ℕ) → IsWide x
      → LiftsTo (LiftedAs x) (lift_simple p first x n)
  simple_lifted (Vars vs) n h = (tt, (h, tt))
  simple_lifted (Signals d xs) n h =
      lifts_map
      (λ ys. AllByRecursion (λ x. IsSignalValueMeant s x.value) ys × SameMeants xs ys)
      (LiftedAs (Signals d xs)) (lift_each (λ x n1. then_lift (lift_value p first x.value n1)
      (λ v n2. same (record x { value = v }) n2)) xs n) (λ ys. Signals d ys)
      (signals_lifted xs n h) (λ ys g. (g.0, (refl, g.1)))
  simple_lifted (Declared cs) n h = (tt, (tt, tt))
  simple_lifted (Created name m e) n h = (tt, (tt, tt))
  simple_lifted (Assigned (Left name m accessors arrow e)) n h =
      lifts_map (AreCallsMeant s) (LiftedAs (Assigned (Left name m accessors arrow e)))
      (lift p first e n) (λ x. Assigned (Left name m accessors arrow x)) (lift_meant e n h)
      (λ x g. (g, tt))
  simple_lifted (Assigned (Set name m accessors e)) n h = (tt, (h, tt))
  simple_lifted (Assigned (Compound name m accessors op e)) n h = (tt, (h, tt))
  simple_lifted (Assigned (Increment name m accessors)) n h = (tt, (h, tt))
  simple_lifted (Assigned (Decrement name m accessors)) n h = (tt, (h, tt))
  simple_lifted (Constrain a b) n h =
      lifts_then (AreCallsMeant s) (LiftedAs (Constrain a b)) (lift p first a n)
      (λ x n1. then_lift (lift p first b n1) (λ y n2. same (Constrain x y) n2))
      (lift_meant a n h.0) (λ x n1 g.
      lifts_map (AreCallsMeant s) (LiftedAs (Constrain a b)) (lift p first b n1)
      (λ y. Constrain x y) (lift_meant b n1 h.1) (λ y i. ((g, i), tt)))
  simple_lifted (Right e arrow name m accessors) n h =
      lifts_map (AreCallsMeant s) (LiftedAs (Right e arrow name m accessors))
      (lift p first e n) (λ x. Assigned (Left name m accessors arrow x)) (lift_meant e n h)
      (λ x g. (g, tt))
  simple_lifted (TargetLeft target arrow source) n h =
      lifts_map (IsSourceMeant s) (LiftedAs (TargetLeft target arrow source))
      (lift_source p first target source n) (λ x. TargetLeft target arrow x)
      (lift_source_meant target source n h) (λ x g. (g, tt))
  simple_lifted (TargetRight source arrow target) n h =
      lifts_map (IsSourceMeant s) (LiftedAs (TargetRight source arrow target))
      (lift_source p first target source n) (λ x. TargetLeft target arrow x)
      (lift_source_meant target source n h) (λ x g. (g, tt))
  simple_lifted (Alone parallel name m arguments inputs) n h =
      lifts_then (AreInputsMeant s) (LiftedAs (Alone parallel name m arguments inputs))
      (lift_inputs p first inputs n) (λ is n1.
      then_lift (created p first parallel name m arguments is n1)
      (λ outputs n2. same (TargetLeft Discard ConstrainArrow (Values [])) n2))
      (lift_inputs_meant inputs n h) (λ is n1 g.
      lifts_map (AllByRecursion (AreCallsMeant s))
      (LiftedAs (Alone parallel name m arguments inputs))
      (created p first parallel name m arguments is n1)
      (λ outputs. TargetLeft Discard ConstrainArrow (Values []))
      (created_lifted parallel name m arguments is n1 g) (λ outputs i. (tt, tt)))
