-- The run of statements that declare signals, where what is given has the numbers of the inputs.
use Rattle.std.proofs.Common.{◌≡◌, ◌⊎◌, inl, inr, ℕ, ◌+◌, ◌<◌, ◌≤◌, Bool, true, false, cond, List}
use Rattle.std.proofs.Common.{[], ◌∷◌, Some, None, Ok, Err, refl, sym, ap, subst, ◌∙◌, slice_get}
use Rattle.std.proofs.Common.{arith}
use Rattle.std.specs.Prelude.{⊤, ◌==◌, nat_lt}
use Rattle.std.specs.List.{AllByRecursion}
use Rattle.std.proofs.lemmas.Bool.{ltb-true, ltb-false}
use Rattle.cir_ast.specs.declared.operators.Arrow.{Arrow}
use Rattle.cir_ast.specs.declared.operators.Direction.{Direction}
use Rattle.cir_ast.specs.declared.program.Spot.{Spot}
use Rattle.cir_ast.specs.declared.program.Meant.{Meant}
use Rattle.cir_ast.specs.declared.program.Meant.TheVariants as meant
use Rattle.cir_ast.specs.Tree.{Expr, SignalValue, Given, Signal}
use Rattle.cir_meaning.specs.Scoped.{AreCallsMeant, IsSignalValueMeant}
use Rattle.cir_meaning.specs.Tried.{Tried, next}
use Rattle.cir_meaning.specs.Values.{Value, Known, Linear, Quadratic, Opaque}
use Rattle.cir_meaning.specs.Frame.{SignalEntry, State, at, entry_at, is_input, counted}
use Rattle.cir_meaning.specs.Simple as simple
use Rattle.cir_meaning.specs.Statement.{Flow, Going, decided, condition}
use Rattle.cir_meaning.specs.Run.{Wires, Run, RunTried, refusing, Rejected, Stopped}
use Rattle.cir_meaning.specs.RunSimple.{Running, with_known, run_signal, run_each, run_counted}
use Rattle.cir_meaning.proofs.Good.{good_is}
use Rattle.cir_meaning.proofs.Likes.{Like, like_itself}
use Rattle.cir_meaning.proofs.Standing.{Stands, SameEntry, Start}
use Rattle.cir_meaning.proofs.SignalWrites.{same_itself}
use Rattle.cir_meaning.proofs.VariableRuns.{Soundly, After}
use Rattle.cir_meaning.proofs.StepRuns.{counted_like, counted_goes}
use Rattle.cir_meaning.proofs.Starting.{BodiesRun}
use Rattle.cir_meaning.proofs.Goes.{Goes, goes_ok, goes_same}
use Rattle.cir_meaning.proofs.Keeping.{NotNumber, signal_kept, each_signal_kept}
use Rattle.cir_meaning.proofs.Entries.{Entry, entry_closed}
use Rattle.cir_meaning.proofs.SignalDeclarations.{IsShape, Stays, stays_marked, IsNone, none_marked}
use Rattle.cir_meaning.proofs.SignalDeclarations.{same_place, goes_if_ok, declaration_goes}
use Rattle.cir_meaning.proofs.BranchRuns.{AfterFlow, condition_like, condition_stands}
use Rattle.cir_meaning.proofs.ScopedQuiet.{everything}

-- a step of which the answer is told
pub goes_as : {A B C D : Type 0} (P : A → C → Type 0) (R : B → D → Type 0) (m : Tried A)
    (r : RunTried C) (go : A → Tried B) (on : C → RunTried D)
    → Goes P m r → ((a : A) (c : C) → m ≡ Ok a → P a c → Goes R (go a) (on c))
    → Goes R (next m go) (next r on)
unfolding Goes
goes_as P R (Ok a) (Ok c) go on h f = f a c refl h
goes_as P R (Ok a) (Err (Rejected e)) go on h f = absurd h
goes_as P R (Ok a) (Err (Stopped stop w log)) go on h f = at (go a)
  where
    at : (m : Tried _) → Goes R m (Err (Stopped stop w log))
    at (Ok b) = h
    at (Err e) = tt
goes_as P R (Err e) r go on h f = tt

-- no signal of these numbers is declared yet
abbrev pub Fresh : ℕ → State → Type 0
Fresh i s = (n : ℕ) → i ≤ n → entry_at s.frame.signals n ≡ None

-- what is given has the numbers of the inputs that are declared
abbrev pub Shapes : Wires → State → Type 0
Shapes given s =
    (n : ℕ) (e : SignalEntry) → entry_at s.frame.signals n ≡ Some e → IsShape given n e

pub fresh_like : (i : ℕ) (f s : State) → Like f s → Fresh i f → Fresh i s
fresh_like i f s l h n le = ap (λ xs. entry_at xs n) l.1 ∙ h n le

-- a shape that an entry keeps
pub shape_before : (given : Wires) (n : ℕ) (e x : SignalEntry) → SameEntry e x → IsShape given n x
    → IsShape given n e
shape_before given n e x same shape p b at =
    let there : (c : Bool) × (slice_get x.written p ≡ Some c) =
    same_place e.written x.written p b same.2 at in
    shape p there.0 there.1 ∙ ap is_input (sym same.0)

-- entries that stay through what declares others
abbrev pub Through : ℕ → State → State → Type 0
Through i s t =
    (n : ℕ) (e : SignalEntry) → n < i → entry_at s.frame.signals n ≡ Some e
    → Stays e (entry_at t.frame.signals n)

pub shapes_before : (given : Wires) (i : ℕ) (s t : State) → Fresh i s → Through i s t
    → Shapes given t → Shapes given s
shapes_before given i s t fresh through shapes n e there = at (nat_lt n i) refl
  where
    at : (b : Bool) → nat_lt n i ≡ b → IsShape given n e
    at true less =
        let stays : Stays e (entry_at t.frame.signals n) = through n e (ltb-true n i less) there in
        shape_before given n e stays.0 stays.2 (shapes n stays.0 stays.1)
    at false le =
        let none : entry_at s.frame.signals n ≡ None = fresh n (ltb-false n i le) in
        let no : Some e ≡ None = sym there ∙ none in cc

-- signals with numbers in turn
abbrev pub InTurn : Direction → ℕ → List (Signal Meant) → Type 0
InTurn d i [] = ⊤
InTurn d i (x ∷ xs) = (x.meant ≡ meant.Signal d i) × InTurn d (i + 1) xs

abbrev pub turn_end : ℕ → List (Signal Meant) → ℕ
turn_end i [] = i
turn_end i (x ∷ xs) = turn_end (i + 1) xs

pub turn_more : (i : ℕ) (xs : List (Signal Meant)) → i ≤ turn_end i xs
turn_more i [] = omega arith
turn_more i (x ∷ xs) =
    let more : i + 1 ≤ turn_end (i + 1) xs = turn_more (i + 1) xs in omega arith

pub turn_not : (d : Direction) (i n : ℕ) (xs : List (Signal Meant)) → InTurn d i xs
    → (n < i) ⊎ (turn_end i xs ≤ n) → AllByRecursion (λ x. NotNumber n x.meant) xs
turn_not d i n [] is out = tt
turn_not d i n (x ∷ xs) is out =
    let more : i + 1 ≤ turn_end (i + 1) xs = turn_more (i + 1) xs in (
      subst (λ m. NotNumber n m) (sym is.0) (λ e. apart out e more),
      turn_not d (i + 1) n xs is.1 (later out),
    )
  where
    apart : (n < i) ⊎ (turn_end (i + 1) xs ≤ n) → i ≡ n → i + 1 ≤ turn_end (i + 1) xs → ⊥
    apart (inl h) e more = absurd (omega arith)
    apart (inr h) e more = absurd (omega arith)

    later : (n < i) ⊎ (turn_end (i + 1) xs ≤ n) → (n < i + 1) ⊎ (turn_end (i + 1) xs ≤ n)
    later (inl h) = inl (omega arith)
    later (inr h) = inr h

module _ (given : Wires) (start : Start) (functions : ℕ) (q : Running)
    (sounds : Soundly (everything functions) q)
    (bodies : BodiesRun start.size q.context.make q.body)
    (sized : q.context.group_size ≡ start.size) where
  abbrev Then : State → Run → Type 0
  Then = After q.context.make given start (everything functions) q sounds

  abbrev Flow' : Flow → Run → Type 0
  Flow' = AfterFlow q.context.make given start (everything functions) q sounds

  value_meant : (v : SignalValue Meant) → IsSignalValueMeant (everything functions) v
      → (arrow : Arrow) (e : Expr Meant) → v ≡ Given arrow e
      → AreCallsMeant (everything functions) e
  value_meant v h arrow e is = subst (IsSignalValueMeant (everything functions)) is h

  -- what a declaration leaves
  one_through : (spot : Spot) (d : Direction) (i : ℕ) (xs : List (Signal Meant)) (s t : State)
      → InTurn d i xs → simple.each (simple.signal_declaration q.context spot d) xs s ≡ Ok t
      → Through i s t
  one_through spot d i xs s t is es n e less there =
      good_is (Entry n (Stays e) (stays_marked e))
      (simple.each (simple.signal_declaration q.context spot d) xs s) t es
      (each_signal_kept q.context sounds.keeps n (Entry n (Stays e) (stays_marked e))
      (entry_closed n (Stays e) (stays_marked e) q.context) spot d xs s
      (turn_not d i n xs is (inl less)) (e, there, same_itself e))

  one_fresh : (spot : Spot) (d : Direction) (i : ℕ) (x : Signal Meant) (s t : State)
      → x.meant ≡ meant.Signal d i → simple.signal_declaration q.context spot d x s ≡ Ok t
      → Fresh i s → Fresh (i + 1) t
  one_fresh spot d i x s t is es fresh n le =
      good_is (Entry n IsNone none_marked) (simple.signal_declaration q.context spot d x s) t es
      (signal_kept q.context sounds.keeps n (Entry n IsNone none_marked)
      (entry_closed n IsNone none_marked q.context) spot d x s
      (subst (λ m. NotNumber n m) (sym is) (λ e. absurd (omega arith))) (fresh n (omega arith)))

  pub signals_goes : (spot : Spot) (d : Direction) (i : ℕ) (xs : List (Signal Meant)) (r : Run)
      → InTurn d i xs
      → AllByRecursion (λ x. IsSignalValueMeant (everything functions) x.value) xs
      → Stands q.context.make given start None r → Fresh i r.known
      → ((t : State) → simple.each (simple.signal_declaration q.context spot d) xs r.known ≡ Ok t
      → Shapes given t)
      → Goes Then (simple.each (simple.signal_declaration q.context spot d) xs r.known)
      (run_each (run_signal q spot d) xs r)
  signals_goes spot d i [] r is values st fresh shapes = goes_ok Then r.known r (refl, st)
  signals_goes spot d i (x ∷ xs) r is values st fresh shapes =
      goes_if_ok Then
      (simple.each (simple.signal_declaration q.context spot d) (x ∷ xs) r.known) _ (λ z ez.
      goes_as Then Then (simple.signal_declaration q.context spot d x r.known)
      (run_signal q spot d x r) (simple.each (simple.signal_declaration q.context spot d) xs)
      (run_each (run_signal q spot d) xs)
      (declaration_goes given start (everything functions) q sounds bodies sized spot d x i r d is.0
      (value_meant x.value values.0) st (fresh i (omega arith)) (λ s es e there.
      shape_of z ez s es e there)) (λ s r1 es p.
      subst (λ t. Goes Then (simple.each (simple.signal_declaration q.context spot d) xs t)
      (run_each (run_signal q spot d) xs r1)) p.0
      (signals_goes spot d (i + 1) xs r1 is.1 values.1 p.1
      (subst (Fresh (i + 1)) (sym p.0) (one_fresh spot d i x r.known s is.0 es fresh))
      (λ t et. shapes t (ap (λ m. next m
      (simple.each (simple.signal_declaration q.context spot d) xs)) es
      ∙ subst (λ u. simple.each (simple.signal_declaration q.context spot d) xs u ≡ Ok t) p.0
      et)))))
    where
      shape_of : (z : State)
          → simple.each (simple.signal_declaration q.context spot d) (x ∷ xs) r.known ≡ Ok z
          → (s : State) → simple.signal_declaration q.context spot d x r.known ≡ Ok s
          → (e : SignalEntry) → entry_at s.frame.signals i ≡ Some e → IsShape given i e
      shape_of z ez s es e there =
          let rest : simple.each (simple.signal_declaration q.context spot d) xs s ≡ Ok z =
          sym (ap (λ m. next m (simple.each (simple.signal_declaration q.context spot d) xs)) es)
          ∙ ez in
          let stays : Stays e (entry_at z.frame.signals i) =
          one_through spot d (i + 1) xs s z is.1 rest i e (omega arith) there in
          shape_before given i e stays.0 stays.2 (shapes z ez i stays.0 stays.1)

  -- statements from a state in which later signals are undeclared, where the state behind them has
  -- the inputs that are given
  abbrev pub Flows : ℕ → (State → Tried Flow) → (Run → RunTried Run) → Type 0
  Flows i go on =
      (r : Run) → Stands q.context.make given start None r → Fresh i r.known
      → ((t : State) → go r.known ≡ Ok (Going t) → Shapes given t)
      → Goes Flow' (go r.known) (on r)

  pub counted_flow : (i : ℕ) (spot : Spot) (go : State → Tried Flow) (on : Run → RunTried Run)
      → Flows i go on
      → Flows i (λ s. next (counted (at q.context spot) s) go)
      (λ r. next (run_counted q spot r) on)
  counted_flow i spot go on h r st fresh shapes =
      goes_as Then Flow' (counted (at q.context spot) r.known) (run_counted q spot r) go on
      (counted_goes q.context.make given start (everything functions) q sounds spot r st)
      (λ s r1 es p.
      subst (λ t. Goes Flow' (go t) (on r1)) p.0
      (h r1 p.1 (subst (Fresh i) (sym p.0) (fresh_like i r.known s
      (good_is (λ t. Like r.known t) (counted (at q.context spot) r.known) s es
      (counted_like r.known (at q.context spot) r.known (like_itself r.known))) fresh))
      (λ t et. shapes t (ap (λ m. next m go) es
      ∙ subst (λ u. go u ≡ Ok (Going t)) p.0 et))))

  decided_flow : (i : ℕ) (v : Value) (f t u : State → Tried Flow) (g j l : Run → RunTried Run)
      → Flows i f g → Flows i t j → Flows i u l → Flows i (decided v f t u) (decided v g j l)
  decided_flow i (Known n) f t u g j l hf ht hu = one (n == 0)
    where
      one : (b : Bool) → Flows i (cond b f t) (cond b g j)
      one true = hf
      one false = ht
  decided_flow i (Linear a) f t u g j l hf ht hu = hu
  decided_flow i (Quadratic a b c) f t u g j l hf ht hu = hu
  decided_flow i Opaque f t u g j l hf ht hu = hu

  pub condition_flow : (i : ℕ) (spot : Spot) (c : Expr Meant) (f t u : State → Tried Flow)
      (g j l : Run → RunTried Run) → Flows i f g → Flows i t j → Flows i u l
      → Flows i (λ s. next (condition q.context spot c s) (λ (v, s1). decided v f t u s1))
      (λ r. next (refusing (condition q.context spot c r.known))
      (λ (v, s). decided v g j l (with_known s r)))
  condition_flow i spot c f t u g j l hf ht hu r st fresh shapes =
      goes_same Flow' (condition q.context spot c r.known) _ _ (λ x e.
      decided_flow i x.0 f t u g j l hf ht hu (with_known x.1 r)
      (condition_stands q.context.make given start (everything functions) q sounds spot c r st x e)
      (fresh_like i r.known x.1
      (good_is (λ y. Like r.known y.1) (condition q.context spot c r.known) x e
      (condition_like q.context.make given start (everything functions) q sounds spot c r.known))
      fresh)
      (λ z ez. shapes z (ap (λ m. next m (λ y. decided y.0 f t u y.1)) e ∙ ez)))
