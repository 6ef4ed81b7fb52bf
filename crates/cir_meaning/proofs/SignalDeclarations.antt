-- The run of a declaration of signals, where what is given has their numbers in the end.
use Rattle.std.proofs.Common.{◌≡◌, ℕ, zero, suc, Bool, true, false, cond, List, [], ◌∷◌, length}
use Rattle.std.proofs.Common.{replicate, Option, Some, None, is_some, Ok, Err, refl, sym, ap, subst}
use Rattle.std.proofs.Common.{◌∙◌, slice_get, slice_set}
use Rattle.cir_ast.specs.declared.program.Spot.{Spot}
use Rattle.cir_ast.specs.declared.program.Meant.{Meant}
use Rattle.cir_ast.specs.declared.program.Meant.TheVariants as meant
use Rattle.cir_ast.specs.declared.operators.Arrow.{Arrow}
use Rattle.cir_ast.specs.declared.operators.Direction.{Direction}
use Rattle.cir_ast.specs.Tree.{Expr, done, SignalValue, Nothing, Given, Signal, Left}
use Rattle.cir_meaning.specs.Scoped.{Scope, AreCallsMeant}
use Rattle.cir_meaning.specs.Tried.{Where, Tried, next}
use Rattle.cir_meaning.specs.Places.{elements}
use Rattle.cir_meaning.specs.Limits.{is_too_large}
use Rattle.cir_meaning.specs.Frame.{SignalEntry, World, State, Context, at, is_input, entry_at}
use Rattle.cir_meaning.specs.Evaluate.{dims_in}
use Rattle.cir_meaning.specs.Writing.{marked}
use Rattle.cir_meaning.specs.Declaring.{new_signal, declare_signal}
use Rattle.cir_meaning.specs.Simple as simple
use Rattle.cir_meaning.specs.Run.{Wires, Run, RunTried, refusing}
use Rattle.cir_meaning.specs.RunSimple.{Running, with_known, run_number, run_initial_signal}
use Rattle.cir_meaning.specs.RunSimple.{run_signal}
use Rattle.cir_meaning.proofs.Good.{good_is}
use Rattle.cir_meaning.proofs.Likes.{Like, like_itself}
use Rattle.cir_meaning.proofs.FineValues.{Fine, dims_fine}
use Rattle.cir_meaning.proofs.Goes.{Goes, goes_ok, goes_bad, goes_same}
use Rattle.cir_meaning.proofs.Standing.{Stands, SameEntry, Start}
use Rattle.cir_meaning.proofs.VariableRuns.{Soundly, After}
use Rattle.cir_meaning.proofs.SignalWrites.{put_here, same_itself}
use Rattle.cir_meaning.proofs.Starting.{BodiesRun}
use Rattle.cir_meaning.proofs.SetSignal.{set_signal_goes}
use Rattle.cir_meaning.proofs.DeclareRuns.{IsGiven, declare_stands}
use Rattle.cir_meaning.proofs.SimpleRuns.{dims_like}
use Rattle.cir_meaning.proofs.Keeping.{initial_signal_kept}
use Rattle.cir_meaning.proofs.Entries.{Entry, entry_closed}

-- what is given has the numbers of inputs, and none of other signals
abbrev pub IsShape : Wires → ℕ → SignalEntry → Type 0
IsShape given n e =
    (p : ℕ) (b : Bool) → slice_get e.written p ≡ Some b → is_some (given n p) ≡ is_input e.direction

-- an entry that may be written meanwhile
abbrev pub Stays : SignalEntry → Option SignalEntry → Type 0
Stays e o = (x : SignalEntry) × (o ≡ Some x) × SameEntry e x

set_count : (xs : List Bool) (k : ℕ) (b : Bool) → length (slice_set xs k b) ≡ length xs
set_count [] k b = refl
set_count (x ∷ xs) zero b = refl
set_count (x ∷ xs) (suc k) b = ap (λ (n : ℕ). suc n) (set_count xs k b)

pub stays_marked : (e x : SignalEntry) (place : ℕ) → Stays e (Some x) → Stays e (Some
    (marked x place))
stays_marked e x place h =
    let same : h.0 ≡ x = let both : Some x ≡ Some h.0 = h.1 in cc in
    let to_x : SameEntry e x = subst (λ y. SameEntry e y) same h.2 in (
      marked x place,
      refl,
      (to_x.0, to_x.1, to_x.2 ∙ sym (set_count x.written place true)),
    )

-- no entry
abbrev pub IsNone : Option SignalEntry → Type 0
IsNone o = o ≡ None

pub none_marked : (e : SignalEntry) (place : ℕ) → IsNone (Some e) → IsNone (Some (marked e place))
none_marked e place h = cc

all_one : (m p : ℕ) (b c : Bool) → slice_get (replicate m c) p ≡ Some b → c ≡ b
all_one zero p b c e = cc
all_one (suc m) zero b c e = let same : c ≡ b = cc in same
all_one (suc m) (suc p) b c e = all_one m p b c e

pub same_place : (xs ys : List Bool) (k : ℕ) (b : Bool) → length xs ≡ length ys
    → slice_get xs k ≡ Some b → (c : Bool) × (slice_get ys k ≡ Some c)
same_place [] ys k b e at = cc
same_place (x ∷ xs) [] k b e at = cc
same_place (x ∷ xs) (y ∷ ys) zero b e at = (y, refl)
same_place (x ∷ xs) (y ∷ ys) (suc k) b e at = same_place xs ys k b (cc) at

-- a new signal has what is given, if it has it in the end
given_new : (given : Wires) (k : Context) (spot : Spot) (direction : Direction) (n : ℕ)
    (name dims : List ℕ) (world : World) (o : Option SignalEntry)
    → Stays (new_signal k spot direction name dims world) o
    → ((e : SignalEntry) → o ≡ Some e → IsShape given n e)
    → IsGiven given n (new_signal k spot direction name dims world)
given_new given k spot direction n name dims world o stays shape p b at =
    let there : (c : Bool) × (slice_get stays.0.written p ≡ Some c) =
    same_place (new_signal k spot direction name dims world).written stays.0.written p b stays.2.2
    at in
    shape stays.0 stays.1 p there.0 there.1
    ∙ ap is_input (sym stays.2.0) ∙ by_size (is_too_large dims) at
  where
    by_size : (c : Bool)
        → slice_get (cond c [] (replicate (elements dims) (is_input direction))) p ≡ Some b
        → is_input direction ≡ b
    by_size true e = cc
    by_size false e = all_one (elements dims) p b (is_input direction) e

-- where the first is refused nothing is asked
pub goes_if_ok : {A B : Type 0} (P : A → B → Type 0) (m : Tried A) (r : RunTried B)
    → ((z : A) → m ≡ Ok z → Goes P m r) → Goes P m r
goes_if_ok P (Ok a) r h = h a refl
goes_if_ok P (Err e) r h = goes_bad P e r

module _ (given : Wires) (start : Start) (scope : Scope) (q : Running)
    (sound : Soundly scope q) (bodies : BodiesRun start.size q.context.make q.body)
    (sized : q.context.group_size ≡ start.size) where
  abbrev Then : State → Run → Type 0
  Then = After q.context.make given start scope q sound

  abbrev pub IsValueMeant : Signal Meant → Type 0
  IsValueMeant d =
      (arrow : Arrow) (e : Expr Meant) → d.value ≡ Given arrow e → AreCallsMeant scope e

  initial_signal_goes : (w : Where) (m : Meant) (value : SignalValue Meant) (r : Run)
      → ((arrow : Arrow) (e : Expr Meant) → value ≡ Given arrow e → AreCallsMeant scope e)
      → Stands q.context.make given start None r
      → Goes Then (simple.initial_signal q.context w m value r.known)
      (run_initial_signal q w m value r)
  initial_signal_goes w m Nothing r is st = goes_ok Then r.known r (refl, st)
  initial_signal_goes w m (Given arrow e) r is st =
      set_signal_goes q.context.make given start scope q sound bodies w
      (Left [] m done arrow e) m done arrow e r (is arrow e refl) st

  -- one declaration
  module _ (spot : Spot) (direction : Direction) (d : Signal Meant) (n : ℕ) (r : Run) where
    abbrev declare : ℕ → Tried State
    declare i =
        next (dims_in q.context (at q.context spot) false d.dimensions r.known) (λ (dims, s1).
        simple.initial_signal q.context (at q.context spot) d.meant d.value
        (declare_signal q.context spot direction i d.name dims s1))

    abbrev run_declare : ℕ → RunTried Run
    run_declare i =
        next (refusing (dims_in q.context (at q.context spot) false d.dimensions r.known))
        (λ (dims, s). run_initial_signal q (at q.context spot) d.meant d.value
        (with_known (declare_signal q.context spot direction i d.name dims s) r))

    numbered_goes : IsValueMeant d → Stands q.context.make given start None r
        → entry_at r.known.frame.signals n ≡ None
        → ((s : State) → declare n ≡ Ok s → (e : SignalEntry)
        → entry_at s.frame.signals n ≡ Some e → IsShape given n e)
        → Goes Then (declare n) (run_declare n)
    numbered_goes is st undeclared shape =
        goes_if_ok Then (declare n) (run_declare n) (λ s es.
        goes_same Then (dims_in q.context (at q.context spot) false d.dimensions r.known) _ _
        (λ x ex.
        initial_signal_goes (at q.context spot) d.meant d.value
        (with_known (declare_signal q.context spot direction n d.name x.0 x.1) r) is
        (declare_stands q.context.make given start None r q.context spot direction n d.name x.0 x.1
        sized st (like_of x ex) undeclared (gives x ex s es) (fine_of x ex))))
      where
        like_of : (x : List ℕ × State)
            → dims_in q.context (at q.context spot) false d.dimensions r.known ≡ Ok x
            → Like r.known x.1
        like_of x ex =
            good_is (λ y. Like r.known y.1)
            (dims_in q.context (at q.context spot) false d.dimensions r.known) x ex
            (dims_like q.context sound.keeps r.known (at q.context spot) d.dimensions r.known
            (like_itself r.known))

        fine_of : (x : List ℕ × State)
            → dims_in q.context (at q.context spot) false d.dimensions r.known ≡ Ok x
            → Fine x.1
        fine_of x ex =
            good_is (λ y. Fine y.1)
            (dims_in q.context (at q.context spot) false d.dimensions r.known) x ex
            (dims_fine q.context sound.fine (at q.context spot) false d.dimensions r.known st.fine)

        gives : (x : List ℕ × State)
            → dims_in q.context (at q.context spot) false d.dimensions r.known ≡ Ok x
            → (s : State) → declare n ≡ Ok s
            → IsGiven given n (new_signal q.context spot direction d.name x.0 x.1.world)
        gives x ex s es =
            let behind : simple.initial_signal q.context (at q.context spot) d.meant d.value
            (declare_signal q.context spot direction n d.name x.0 x.1) ≡ Ok s = sym
            (ap (λ (m : Tried (List ℕ × State)). next m (λ (dims, s1).
            simple.initial_signal q.context (at q.context spot) d.meant d.value
            (declare_signal q.context spot direction n d.name dims s1))) ex) ∙ es in
            given_new given q.context spot direction n d.name x.0 x.1.world
            (entry_at s.frame.signals n)
            (good_is (Entry n (Stays (new_signal q.context spot direction d.name x.0 x.1.world))
            (stays_marked (new_signal q.context spot direction d.name x.0 x.1.world)))
            (simple.initial_signal q.context (at q.context spot) d.meant d.value
            (declare_signal q.context spot direction n d.name x.0 x.1)) s behind
            (initial_signal_kept q.context sound.keeps n
            (Entry n (Stays (new_signal q.context spot direction d.name x.0 x.1.world))
            (stays_marked (new_signal q.context spot direction d.name x.0 x.1.world)))
            (entry_closed n (Stays (new_signal q.context spot direction d.name x.0 x.1.world))
            (stays_marked (new_signal q.context spot direction d.name x.0 x.1.world)) q.context)
            (at q.context spot) d.meant d.value
            (declare_signal q.context spot direction n d.name x.0 x.1) (
              new_signal q.context spot direction d.name x.0 x.1.world,
              put_here n (new_signal q.context spot direction d.name x.0 x.1.world)
                  x.1.frame.signals,
              same_itself (new_signal q.context spot direction d.name x.0 x.1.world),
            )))
            (λ e there. shape s es e there)

    pub declaration_goes : (sort : Direction) → d.meant ≡ meant.Signal sort n → IsValueMeant d
        → Stands q.context.make given start None r → entry_at r.known.frame.signals n ≡ None
        → ((s : State) → simple.signal_declaration q.context spot direction d r.known ≡ Ok s
        → (e : SignalEntry) → entry_at s.frame.signals n ≡ Some e → IsShape given n e)
        → Goes Then (simple.signal_declaration q.context spot direction d r.known)
        (run_signal q spot direction d r)
    declaration_goes sort em is st undeclared shape =
        subst (λ m. Goes Then (simple.declared_number (at q.context spot) m declare)
        (run_number (at q.context spot) m run_declare)) (sym em)
        (numbered_goes is st undeclared (λ s es e there. shape s
        (ap (λ (m : Meant). simple.declared_number (at q.context spot) m declare) em ∙ es) e there))
