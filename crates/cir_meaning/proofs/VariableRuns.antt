-- Assignments to variables in a run.
use Rattle.std.proofs.Common.{◌≡◌, ℕ, zero, suc, Bool, true, false, not, cond, List, [], ◌∷◌}
use Rattle.std.proofs.Common.{Option, Some, None, Ok, refl, sym, ap, subst, ◌∙◌, slice_get}
use Rattle.std.proofs.Common.{slice_set}
use Rattle.cir_meaning.proofs.GroupSizes.{IsGrowing}
use Rattle.std.specs.Prelude.{◌==◌, unwrap_or}
use Rattle.cir_ast.specs.declared.program.Meant.{Meant}
use Rattle.cir_ast.specs.declared.program.Meant.TheVariants as meant
use Rattle.cir_ast.specs.declared.refusal.Kind.{Kind}
use Rattle.cir_ast.specs.Tree.{Expr, Accessors, Assign}
use Rattle.cir_lc.specs.Number.{Assignment}
use Rattle.cir_meaning.specs.Scoped.{Scope, IsSetMeant}
use Rattle.cir_meaning.specs.Tried.{Where, Tried, next}
use Rattle.cir_meaning.specs.Places.{elements}
use Rattle.cir_meaning.specs.Limits.{Counts}
use Rattle.cir_meaning.specs.Arrays.{Datum, single, forgotten, is_known, is_all_known, put_items}
use Rattle.cir_meaning.specs.Values.{Known, Opaque}
use Rattle.cir_meaning.specs.Frame.{Signals, Part, ComponentEntry, World, State, Context, Maker}
use Rattle.cir_meaning.specs.Frame.{variable_at}
use Rattle.cir_meaning.specs.Evaluate.{indices_in}
use Rattle.cir_meaning.specs.Writing.{put_variable, written_datum, VariableAssignment}
use Rattle.cir_meaning.specs.Writing.{variable_assignment, write_variable, is_unknown}
use Rattle.cir_meaning.specs.Costs.{Cost}
use Rattle.cir_meaning.specs.Steps.{stepped, unless_faulty, variable_cost, new_cells, with_step}
use Rattle.cir_meaning.specs.Functions.{function_fault, function_elements}
use Rattle.cir_meaning.specs.Simple as simple
use Rattle.cir_meaning.specs.RunValues.{Numbers, Store, stored}
use Rattle.cir_meaning.specs.RunStatements.{step_set}
use Rattle.cir_meaning.specs.Run.{Wires, Run, refusing, settled_store, store_of, environment}
use Rattle.cir_meaning.specs.Run.{put_numbers}
use Rattle.cir_meaning.specs.RunSimple.{Running, with_known, variable_step, run_set_variable}
use Rattle.cir_meaning.proofs.Good.{OnGood, good_ok, good_bad, good_is, OnSome'}
use Rattle.cir_meaning.proofs.Likes.{CallKeeps, Like, like_itself, valued_like}
use Rattle.cir_meaning.proofs.ValueKeepings.{indices_kept, assignment_kept}
use Rattle.cir_meaning.proofs.FineValues.{FineContext, Fine}
use Rattle.cir_meaning.proofs.FineStatements.{set_variable_fine}
use Rattle.cir_meaning.proofs.Same.{Same}
use Rattle.cir_meaning.proofs.Sound.{Fitting}
use Rattle.cir_meaning.proofs.Assigning.{Writes, assignment_pair}
use Rattle.cir_meaning.proofs.Rows.{all_map}
use Rattle.cir_meaning.proofs.RunFree.{Calls}
use Rattle.cir_meaning.proofs.Writing.{get_set}
use Rattle.cir_meaning.proofs.Holds.{Extends, own_fit, part_fit}
use Rattle.cir_meaning.proofs.KnownValues.{all_pass}
use Rattle.cir_meaning.proofs.KnownCalls.{CallBoth}
use Rattle.cir_meaning.proofs.CallsTold.{call_told}
use Rattle.cir_meaning.proofs.Goes.{Goes, goes_ok, goes_twice, goes_refusing, goes_step, pair_no}
use Rattle.cir_meaning.proofs.Standing.{Stands, holds_of, changed, stands_changed, Start}
use Rattle.cir_meaning.proofs.Settling.{settle_of, same_settled, opaque_same, put_same, Variable}
use Rattle.cir_meaning.proofs.Settling.{variable_of, set_variables, put_variables}

-- what is known of the functions of a run
pub record Soundly (scope : Scope) (q : Running) : Type 0 where
  pub fine : FineContext q.context
  pub both : CallBoth q.context.call
  pub keeps : CallKeeps q.context.call
  pub calls : Calls scope.functions q.call
  pub grows : OnSome' IsGrowing q.context.make

-- a state that differs in counts alone
pub like_changed : (f s : State) → Like f s
    → s ≡ changed f f.frame.variables s.frame.added s.world.counts
like_changed f s l =
    ap (λ (vs : List Datum). whole vs s.frame.signals s.frame.components s.frame.parts s.world) l.0
    ∙ ap (λ (x : Signals). whole f.frame.variables x s.frame.components s.frame.parts s.world) l.1
    ∙ ap (λ (x : List (Option ComponentEntry)).
    whole f.frame.variables f.frame.signals x s.frame.parts s.world) l.2
    ∙ ap (λ (x : List Part).
    whole f.frame.variables f.frame.signals f.frame.components x s.world) l.3
    ∙ ap (λ (v : World).
    whole f.frame.variables f.frame.signals f.frame.components f.frame.parts v) l.4
  where
    whole : List Datum → Signals → List (Option ComponentEntry) → List Part → World → State
    whole variables signals components parts world = record {
      frame = record {
        variables = variables;
        signals = signals;
        components = components;
        parts = parts;
        added = s.frame.added;
      };
      world = world;
    }

-- the environment of a run between statements
pub fits : (make : Option Maker) (given : Wires) (start : Start) (scope : Scope) (q : Running)
    (r : Run) → Soundly scope q → Stands make given start None r → (w : Where)
    → Fitting (Extends r) q.context w scope r.known (environment q.context w q.call r.known r)
    (store_of r.known r.numbers)
fits make given start scope q r sound h w = record {
  variables = λ n seen. h.variables n;
  signals = own_fit r (holds_of make given start r h);
  parts = part_fit r (holds_of make given start r h) w;
  keeps = sound.keeps;
  known = call_told (Extends r) q.context sound.both w r.known;
  calls = sound.calls;
}

-- a step that is counted
abbrev pub with_added : State → Counts → State
with_added s x = record s { frame = record (s.frame) { added = x } }

abbrev pub IsAdded : State → State → Type 0
IsAdded s t = (x : Counts) × (t ≡ with_added s x)

pub stepped_adds : (k : Context) (w : Where) (cost : Cost) (cells : ℕ) (s : State)
    → OnGood (IsAdded s) (stepped k w cost cells s)
stepped_adds k w cost cells s = at (function_fault k.program cost.calls)
  where
    at : (o : Option Kind)
        → OnGood (IsAdded s) (unless_faulty w o (Ok (with_added s
        (with_step cost cells (function_elements k.program cost.calls) s.frame.added))))
    at None = good_ok (IsAdded s) _ (_, refl)
    at (Some kind) = good_bad (IsAdded s) _

-- indices change nothing but what is counted
module _ (k : Context) (keeps : CallKeeps k.call) (f : State) (w : Where) where
  pub indices_like : {A : Type 0} (Q : A → Type 0) (os : List (Option ℕ))
      (accessors : Accessors Meant) (s : State)
      (go : List (Option ℕ) → Accessors Meant → State → Tried A) → Like f s
      → ((os : List (Option ℕ)) (rest : Accessors Meant) (s : State) → Like f s
      → OnGood Q (go os rest s)) → OnGood Q (indices_in k w false os accessors s go)
  indices_like Q = indices_kept k (Like f) false (valued_like f k keeps false) Q w

  pub assignment_like : (n : ℕ) (accessors : Accessors Meant) (e : Expr Meant) (s : State)
      → Like f s → OnGood (λ a. Like f a.state) (variable_assignment k w n accessors e s)
  assignment_like = assignment_kept k (Like f) (valued_like f k keeps false) w

-- the state behind an assignment
abbrev new_datum : State → ℕ → VariableAssignment → Datum
new_datum f n a = written_datum (variable_at f.frame n) a.reach a.value

written_state : (f : State) (n : ℕ) (a : VariableAssignment) → Like f a.state
    → write_variable n a
    ≡ changed f (slice_set f.frame.variables n (new_datum f n a)) a.state.frame.added
    a.state.world.counts
written_state f n a l =
    ap (λ (t : State). put_variable n (written_datum (variable_at t.frame n) a.reach a.value) t)
    (like_changed f a.state l)

-- a variable that is there has numbers
pub settled_there : (vs : List Datum) (ms : Store) (n : ℕ) (d : Datum) → slice_get vs n ≡ Some d
    → (m : Numbers) × (slice_get (settled_store vs ms) n ≡ Some m)
settled_there [] ms n d e = cc
settled_there (v ∷ vs) [] zero d e = (_, refl)
settled_there (v ∷ vs) (m ∷ ms) zero d e = (_, refl)
settled_there (v ∷ vs) [] (suc n) d e = settled_there vs [] n d e
settled_there (v ∷ vs) (m ∷ ms) (suc n) d e = settled_there vs ms n d e

pub stored_set : (store : Store) (n : ℕ) (m x : Numbers) → slice_get store n ≡ Some m
    → stored (slice_set store n x) n ≡ x
stored_set store n m x e =
    ap (λ (o : Option Numbers). unwrap_or o (single 0)) (get_set store n m x e)

module _ (make : Option Maker) (given : Wires) (start : Start) (scope : Scope) (q : Running)
    (sound : Soundly scope q) where
  abbrev pub After : State → Run → Type 0
  After s r = (r.known ≡ s) × Stands make given start None r

  -- an element that is written without a step is known, and the others are opaque
  unstepped : (E : Assignment → Type 0) (old : Datum) (a : VariableAssignment) (o : Option Numbers)
      (sure z : Bool) → a.reach.is_sure ≡ sure
      → cond sure (not (is_all_known a.value)) z ≡ false → Same E old (settle_of old o)
      → Same E (written_datum old a.reach a.value)
      (settle_of (written_datum old a.reach a.value) o)
  unstepped E old a o sure z e known h =
      subst (λ b. Same E (cond b
      record { dims = old.dims; items = put_items a.reach.places a.value.items old.items }
      (forgotten old)) (settle_of (cond b
      record { dims = old.dims; items = put_items a.reach.places a.value.items old.items }
      (forgotten old)) o)) (sym e) (at sure known)
    where
      not_false : (b : Bool) → not b ≡ false → b ≡ true
      not_false true h = refl
      not_false false h = cc

      at : (b : Bool) → cond b (not (is_all_known a.value)) z ≡ false
          → Same E (cond b
          record { dims = old.dims; items = put_items a.reach.places a.value.items old.items }
          (forgotten old)) (settle_of (cond b
          record { dims = old.dims; items = put_items a.reach.places a.value.items old.items }
          (forgotten old)) o)
      at true f =
          put_same E a.reach.places a.value.items old o
          (all_pass is_known a.value.items (not_false (is_all_known a.value) f)) h
      at false f =
          opaque_same E (forgotten old) o
          (all_map (λ v. v ≡ Opaque) (λ v. Opaque) old.items (λ v. refl))

  module _ (w : Where) (written : Assign Meant) (n : ℕ) (accessors : Accessors Meant)
      (e : Expr Meant) (r : Run) (h : Stands make given start None r)
      (a : VariableAssignment) (is : variable_assignment q.context w n accessors e r.known ≡ Ok a)
    where
      -- what is executed at compile time
      abbrev compiled : Tried State
      compiled =
          cond (is_unknown n a)
          (stepped q.context w (variable_cost q.context w written n accessors e a r.known)
          (new_cells n a) (write_variable n a)) (Ok (write_variable n a))

      like_a : Like r.known a.state
      like_a =
          good_is (λ x. Like r.known x.state)
          (variable_assignment q.context w n accessors e r.known)
          a is (assignment_like q.context sound.keeps r.known w n accessors e r.known
          (like_itself r.known))

      fine_after : (s : State) → compiled ≡ Ok s → Fine s
      fine_after s es =
          good_is Fine (next (variable_assignment q.context w n accessors e r.known) (λ x.
          cond (is_unknown n x)
          (stepped q.context w (variable_cost q.context w written n accessors e x r.known)
          (new_cells n x) (write_variable n x)) (Ok (write_variable n x)))) s
          (ap (λ (m : Tried VariableAssignment). next m (λ x.
          cond (is_unknown n x)
          (stepped q.context w (variable_cost q.context w written n accessors e x r.known)
          (new_cells n x) (write_variable n x)) (Ok (write_variable n x)))) is ∙ es)
          (set_variable_fine q.context sound.fine w written n accessors e r.known h.fine)

      -- the run behind it
      stands_after : (s : State) (x : Counts) (numbers : Store)
          → s ≡ with_added (write_variable n a) x → Fine s
          → ((m : ℕ) → Variable (Extends r)
          (slice_set r.known.frame.variables n (new_datum r.known n a)) numbers m)
          → Stands make given start None (record r { known = s; numbers = numbers })
      stands_after s x numbers es fine variables =
          let as_changed : s ≡ changed r.known
          (slice_set r.known.frame.variables n (new_datum r.known n a)) x a.state.world.counts =
          es ∙
          ap (λ (t : State). with_added t x) (written_state r.known n a like_a) in
          subst (λ t. Stands make given start None (record r { known = t; numbers = numbers }))
          (sym as_changed)
          (stands_changed make given start None r
          (slice_set r.known.frame.variables n (new_datum r.known n a)) x a.state.world.counts
          numbers
          h (subst Fine as_changed fine) variables)

      -- a step
      step_goes' : IsSetMeant scope (meant.Variable n) accessors e → (s : State)
          → IsAdded (write_variable n a) s → Fine s
          → Goes After (Ok s) (next (variable_step q w r.known (meant.Variable n) accessors e r)
          (λ store. Ok record r {
            known = s;
            numbers = put_numbers n (stored store n) r.numbers;
          }))
      step_goes' is_set s adds fine =
          goes_step (λ y. Writes (Extends r) q.context sound.fine w scope r.known
          (environment q.context w q.call r.known r) (store_of r.known r.numbers)
          (fits make given start scope q r sound h w) n a y.0) After s w r
          (step_set (environment q.context w q.call r.known r) (meant.Variable n) accessors e
          (store_of r.known r.numbers) q.fuel) _
          (pair_no (λ x y. Writes (Extends r) q.context sound.fine w scope r.known
          (environment q.context w q.call r.known r) (store_of r.known r.numbers)
          (fits make given start scope q r sound h w) n x y.0)
          (variable_assignment q.context w n accessors e r.known) _ a
          (assignment_pair (Extends r) q.context sound.fine w scope r.known
          (environment q.context w q.call r.known r) (store_of r.known r.numbers)
          (fits make given start scope q r sound h w) n accessors e r.known q.fuel is_set
          (like_itself r.known, h.fine)) is) (λ y wr.
          goes_ok After s _ (
            refl,
            stands_after s adds.0
                (put_numbers n (stored y.0 n) r.numbers) adds.1 fine
                (put_variables (Extends r) r.known.frame.variables r.numbers n
                (new_datum r.known n a)
                (stored y.0 n) (λ old there.
                let has : (m : Numbers) × (slice_get (store_of r.known r.numbers) n ≡ Some m) =
                settled_there r.known.frame.variables r.numbers n old there in
                subst (λ x. Same (Extends r) (new_datum r.known n a)
                (settle_of (new_datum r.known n a)
                (Some x)))
                (sym (ap (λ (st : Store). stored st n) wr.stores ∙
                stored_set (store_of r.known r.numbers) n has.0 wr.numbers has.1))
                (same_settled (Extends r) (new_datum r.known n a) wr.numbers wr.same)) h.variables),
          ))

      -- no step
      known_goes : (s : State) → is_unknown n a ≡ false → write_variable n a ≡ s → Fine s
          → Goes After (Ok s) (Ok (with_known s r))
      known_goes s known same fine =
          goes_ok After s (with_known s r) (
            refl,
            stands_after s a.state.frame.added r.numbers
                (sym same) fine (set_variables (Extends r) r.known.frame.variables r.numbers n
                (new_datum r.known n a) (λ old there.
                let is_old : variable_at r.known.frame n ≡ old =
                ap (λ (o : Option Datum). unwrap_or o (single (Known 0))) there in
                unstepped (Extends r) (variable_at r.known.frame n) a (slice_get r.numbers n)
                a.reach.is_sure (not (elements (variable_at a.state.frame n).dims == 0)) refl known
                (subst (λ d. Same (Extends r) d (settle_of d (slice_get r.numbers n))) (sym is_old)
                (variable_of (Extends r) r.known.frame.variables r.numbers n old there
                (h.variables n))))
                h.variables),
          )

      pub assigned_goes : IsSetMeant scope (meant.Variable n) accessors e
          → Goes After compiled (next (refusing compiled) (λ s.
          cond (is_unknown n a) (next (variable_step q w r.known (meant.Variable n) accessors e r)
          (λ store. Ok record r {
            known = s;
            numbers = put_numbers n (stored store n) r.numbers;
          })) (Ok (with_known s r))))
      assigned_goes is_set =
          goes_refusing After compiled _ (λ s es. at (is_unknown n a) refl s es (fine_after s es))
        where
          at : (b : Bool) → is_unknown n a ≡ b → (s : State)
              → cond b
              (stepped q.context w (variable_cost q.context w written n accessors e a r.known)
              (new_cells n a) (write_variable n a)) (Ok (write_variable n a)) ≡ Ok s → Fine s
              → Goes After (Ok s) (cond b
              (next (variable_step q w r.known (meant.Variable n) accessors e r) (λ store.
              Ok record r { known = s; numbers = put_numbers n (stored store n) r.numbers }))
              (Ok (with_known s r)))
          at true b s es fine =
              step_goes' is_set s (good_is (IsAdded (write_variable n a))
              (stepped q.context w (variable_cost q.context w written n accessors e a r.known)
              (new_cells n a) (write_variable n a)) s es
              (stepped_adds q.context w (variable_cost q.context w written n accessors e a r.known)
              (new_cells n a) (write_variable n a))) fine
          at false b s es fine = let same : write_variable n a ≡ s = cc in known_goes s b same fine

  pub set_variable_goes : (w : Where) (written : Assign Meant) (n : ℕ) (accessors : Accessors Meant)
      (e : Expr Meant) (r : Run) → IsSetMeant scope (meant.Variable n) accessors e
      → Stands make given start None r
      → Goes After (simple.set_variable q.context w written n accessors e r.known)
      (run_set_variable q w written n accessors e r)
  set_variable_goes w written n accessors e r is_set h =
      goes_twice After (variable_assignment q.context w n accessors e r.known) _ _
      (λ a is. assigned_goes w written n accessors e r h a is is_set)
