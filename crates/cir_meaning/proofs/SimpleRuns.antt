-- Declarations of variables and assignments in a run.
use Rattle.std.proofs.Common.{◌≡◌, ℕ, false, List, [], ◌∷◌, Option, Some, None, refl, sym, ap}
use Rattle.std.proofs.Common.{subst, slice_get, slice_set}
use Rattle.std.specs.List.{AllByRecursion}
use Rattle.cir_ast.specs.declared.program.Meant.{Meant}
use Rattle.cir_ast.specs.declared.program.Meant.TheVariants as meant
use Rattle.cir_ast.specs.declared.operators.Arrow.{Arrow}
use Rattle.cir_ast.specs.Tree.{Expr, Exprs, Accessors, done, Variable, Assign, Set, Compound, Left}
use Rattle.cir_ast.specs.Tree.{Increment, Decrement, Slot, SlotPlace, SlotDiscard, Target, Discard}
use Rattle.cir_ast.specs.Tree.{Slots}
use Rattle.cir_meaning.specs.Scoped.{Scope, AreCallsMeant, IsSetMeant, IsAssignMeant}
use Rattle.cir_meaning.specs.Tried.{Where, Tried, next}
use Rattle.cir_meaning.specs.Limits.{with_array}
use Rattle.cir_meaning.specs.Arrays.{filled}
use Rattle.cir_meaning.specs.Values.{Known}
use Rattle.cir_meaning.specs.Frame.{State, Context}
use Rattle.cir_meaning.specs.Evaluate.{dims_in}
use Rattle.cir_meaning.specs.Writing.{plain}
use Rattle.cir_meaning.specs.Declaring.{declare_variable}
use Rattle.cir_meaning.specs.Simple as simple
use Rattle.cir_meaning.specs.Run.{Wires, Run, RunTried}
use Rattle.cir_meaning.specs.RunSimple.{Running, with_known, run_known, run_each, run_set_place}
use Rattle.cir_meaning.specs.RunSimple.{run_assigned, run_initial, run_number, run_variable}
use Rattle.cir_meaning.specs.RunSimple.{run_slots, run_tuple}
use Rattle.cir_meaning.proofs.Good.{OnGood, good_is}
use Rattle.cir_meaning.proofs.ValueKeepings.{dims_kept}
use Rattle.cir_meaning.proofs.Likes.{valued_like, CallKeeps, Like, like_itself}
use Rattle.cir_meaning.proofs.FineValues.{Fine, filled_datum, zero_value, dims_fine}
use Rattle.cir_meaning.proofs.FineWriting.{set_fine}
use Rattle.cir_meaning.proofs.Holds.{Extends}
use Rattle.cir_meaning.proofs.KnownValues.{known_filled}
use Rattle.cir_meaning.proofs.Settling.{known_same, set_variables}
use Rattle.cir_meaning.proofs.Goes.{Goes, goes_ok, goes_bad, goes_next, goes_same}
use Rattle.cir_meaning.proofs.Standing.{Stands, changed, stands_changed, Start}
use Rattle.cir_meaning.proofs.VariableRuns.{Soundly, like_changed, set_variable_goes, After}
use Rattle.cir_meaning.proofs.StepRuns.{dropped_goes}
use Rattle.cir_meaning.proofs.ScopeLaws.{set_meant}
use Rattle.cir_meaning.proofs.Starting.{BodiesRun}
use Rattle.cir_meaning.proofs.SetSignal.{set_signal_goes}
use Rattle.cir_meaning.proofs.CreateRuns.{create_goes}

pub dims_like : (k : Context) (keeps : CallKeeps k.call) (f : State) (w : Where)
    (es : Exprs Meant) (s : State) → Like f s
    → OnGood (λ x. Like f x.1) (dims_in k w false es s)
dims_like k keeps f = dims_kept k (Like f) false (valued_like f k keeps false)

module _ (given : Wires) (start : Start) (scope : Scope) (q : Running)
    (sound : Soundly scope q) (bodies : BodiesRun start.size q.context.make q.body) where
  abbrev Then : State → Run → Type 0
  Then = After q.context.make given start scope q sound

  -- from a state that stands on, in a run with that state
  pub goes_on : (P : State → Run → Type 0) (m : Tried State) (r : RunTried Run)
      (go : State → Tried State) (on : Run → RunTried Run) → Goes Then m r
      → ((r1 : Run) → Stands q.context.make given start None r1
      → Goes P (go r1.known) (on r1))
      → Goes P (next m go) (next r on)
  goes_on P m r go on h f =
      goes_next Then P m r go on h (λ s r1 p. subst (λ t. Goes P (go t) (on r1)) p.0 (f r1 p.1))

  pub each_goes : {A : Type 0} (Q : A → Type 0) (f : A → State → Tried State)
      (g : A → Run → RunTried Run) (xs : List A) (r : Run) → AllByRecursion Q xs
      → ((x : A) (r : Run) → Q x → Stands q.context.make given start None r
      → Goes Then (f x r.known) (g x r))
      → Stands q.context.make given start None r
      → Goes Then (simple.each f xs r.known) (run_each g xs r)
  each_goes Q f g [] r is h st = goes_ok Then r.known r (refl, st)
  each_goes Q f g (x ∷ xs) r is h st =
      goes_on Then (f x r.known) (g x r) (simple.each f xs) (run_each g xs)
      (h x r is.0 st) (λ r1 st1. each_goes Q f g xs r1 is.1 h st1)

  -- `=`
  pub set_goes : (w : Where) (written : Assign Meant) (m : Meant) (accessors : Accessors Meant)
      (e : Expr Meant) (r : Run) → IsSetMeant scope m accessors e
      → Stands q.context.make given start None r
      → Goes Then (simple.set q.context w written m accessors e r.known)
      (run_set_place q w written m accessors e r)
  set_goes w written (meant.Variable n) accessors e r is st =
      set_variable_goes q.context.make given start scope q sound w written n accessors e r is st
  set_goes w written (meant.Component n) accessors e r is st =
      create_goes given start scope q sound bodies w n accessors e r st
  set_goes w written meant.Other accessors e r is st = goes_bad Then _ _
  set_goes w written (meant.Signal direction n) accessors e r is st = goes_bad Then _ _
  set_goes w written (meant.Template n) accessors e r is st = goes_bad Then _ _
  set_goes w written (meant.Function n) accessors e r is st = goes_bad Then _ _

  pub assign_goes : (w : Where) (a : Assign Meant) (r : Run) → IsAssignMeant scope a
      → Stands q.context.make given start None r
      → Goes Then (simple.assign q.context w a r.known) (run_assigned q w a (plain a) r)
  assign_goes w (Set name m accessors e) r is st =
      set_goes w (Set name m accessors e) m accessors e r is st
  assign_goes w (Compound name m accessors op e) r is st =
      set_goes w (Compound name m accessors op e) m accessors _ r
      (set_meant scope m accessors _ is.0 is.1 ((is.0, is.1), is.2)) st
  assign_goes w (Increment name m accessors) r is st =
      set_goes w (Increment name m accessors) m accessors _ r
      (set_meant scope m accessors _ is.0 is.1 ((is.0, is.1), tt)) st
  assign_goes w (Decrement name m accessors) r is st =
      set_goes w (Decrement name m accessors) m accessors _ r
      (set_meant scope m accessors _ is.0 is.1 ((is.0, is.1), tt)) st
  assign_goes w (Left name m accessors arrow e) r is st =
      set_signal_goes q.context.make given start scope q sound bodies w
      (Left name m accessors arrow e) m accessors arrow e r is st

  -- a variable that is declared
  declared_stands : (n : ℕ) (dims : List ℕ) (s : State) (r : Run)
      → Stands q.context.make given start None r → Like r.known s → Fine s
      → Stands q.context.make given start None (with_known (declare_variable n dims s) r)
  declared_stands n dims s r st l fine =
      let same : declare_variable n dims s ≡ changed r.known (slice_set r.known.frame.variables n
      (filled dims (Known 0))) (with_array dims s.frame.added) s.world.counts =
      ap (λ (t : State). declare_variable n dims t) (like_changed r.known s l) in
      subst (λ t. Stands q.context.make given start None (record r { known = t })) (sym same)
      (stands_changed q.context.make given start None r (slice_set r.known.frame.variables n
      (filled dims (Known 0))) (with_array dims s.frame.added) s.world.counts r.numbers st
      (subst Fine same (set_fine n (filled dims (Known 0)) s (filled_datum dims (Known 0)
      zero_value) fine))
      (set_variables (Extends r) r.known.frame.variables r.numbers n (filled dims (Known 0))
      (λ old there. known_same (Extends r) (filled dims (Known 0)) (slice_get r.numbers n)
      (known_filled dims)) st.variables))

  initial_goes : (w : Where) (m : Meant) (o : Option (Expr Meant)) (r : Run)
      → ((e : Expr Meant) → o ≡ Some e → IsSetMeant scope m done e)
      → Stands q.context.make given start None r
      → Goes Then (simple.initial q.context w m o r.known) (run_initial q w m o r)
  initial_goes w m None r is st = goes_ok Then r.known r (refl, st)
  initial_goes w m (Some e) r is st =
      set_goes w (Set [] m done e) m done e r (is e refl) st

  pub number_goes : (w : Where) (m : Meant) (go : ℕ → Tried State) (on : ℕ → RunTried Run)
      → ((n : ℕ) → Goes Then (go n) (on n))
      → Goes Then (simple.declared_number w m go) (run_number w m on)
  number_goes w (meant.Variable n) go on h = h n
  number_goes w (meant.Signal direction n) go on h = h n
  number_goes w (meant.Component n) go on h = h n
  number_goes w meant.Other go on h = goes_bad Then _ _
  number_goes w (meant.Template n) go on h = goes_bad Then _ _
  number_goes w (meant.Function n) go on h = goes_bad Then _ _

  pub variable_goes : (w : Where) (v : Variable Meant) (r : Run)
      → ((e : Expr Meant) → v.value ≡ Some e → IsSetMeant scope v.meant done e)
      → Stands q.context.make given start None r
      → Goes Then (simple.variable_declaration q.context w v r.known) (run_variable q w v r)
  variable_goes w v r is st =
      number_goes w v.meant _ _ (λ n.
      goes_same Then (dims_in q.context w false v.dimensions r.known) _ _ (λ x ex.
      initial_goes w v.meant v.value (with_known (declare_variable n x.0 x.1) r) is
      (declared_stands n x.0 x.1 r st
      (good_is (λ y. Like r.known y.1) (dims_in q.context w false v.dimensions r.known) x ex
      (dims_like q.context sound.keeps r.known w v.dimensions r.known (like_itself r.known)))
      (good_is (λ y. Fine y.1) (dims_in q.context w false v.dimensions r.known) x ex
      (dims_fine q.context sound.fine w false v.dimensions r.known st.fine)))))

  -- tuples
  abbrev pub IsSlotMeant : Expr Meant → Type 0
  IsSlotMeant e = AreCallsMeant scope e

  pub slots_goes : (w : Where) (arrow : Arrow) (xs : List (Slot Meant)) (es : List (Expr Meant))
      (r : Run) → AllByRecursion (AreCallsMeant scope) es
      → Stands q.context.make given start None r
      → Goes Then (simple.slots q.context w arrow xs es r.known) (run_slots q w arrow xs es r)
  slots_goes w arrow [] es r is st = goes_ok Then r.known r (refl, st)
  slots_goes w arrow (x ∷ xs) [] r is st = goes_ok Then r.known r (refl, st)
  slots_goes w arrow (SlotPlace name m accessors ∷ xs) (e ∷ es) r is st =
      goes_on Then
      (simple.set_signal q.context w (Left name m accessors arrow e) m accessors arrow e r.known) _
      (simple.slots q.context w arrow xs es) (run_slots q w arrow xs es)
      (set_signal_goes q.context.make given start scope q sound bodies w
      (Left name m accessors arrow e) m accessors arrow e r is.0 st)
      (λ r1 st1. slots_goes w arrow xs es r1 is.1 st1)
  slots_goes w arrow (SlotDiscard ∷ xs) (e ∷ es) r is st =
      goes_on Then (simple.dropped q.context w e r.known)
      (run_known (simple.dropped q.context w e) r) (simple.slots q.context w arrow xs es)
      (run_slots q w arrow xs es)
      (dropped_goes q.context.make given start scope q sound w e r st)
      (λ r1 st1. slots_goes w arrow xs es r1 is.1 st1)

  pub tuple_goes : (w : Where) (arrow : Arrow) (target : Target Meant) (es : List (Expr Meant))
      (r : Run) → AllByRecursion (AreCallsMeant scope) es
      → Stands q.context.make given start None r
      → Goes Then (simple.tuple q.context w arrow target es r.known)
      (run_tuple q w arrow target es r)
  tuple_goes w arrow Discard es r is st =
      each_goes (AreCallsMeant scope) (simple.dropped q.context w)
      (λ e. run_known (simple.dropped q.context w e)) es r is
      (λ e r1 te st1. dropped_goes q.context.make given start scope q sound w e r1 st1) st
  tuple_goes w arrow (Slots xs) es r is st = slots_goes w arrow xs es r is st
