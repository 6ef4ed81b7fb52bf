-- The step of a statement under an unknown condition misses no value.
use Rattle.std.proofs.Common.{◌≡◌, ◌⊎◌, inl, inr, ℕ, ◌<◌, ◌≤◌, Bool, true, false, List, length}
use Rattle.std.proofs.Common.{Option, Some, None, Ok, refl, sym, ap, subst, ◌∙◌, slice_get, arith}
use Rattle.std.specs.Prelude.{⊤, ◌==◌, unwrap_or}
use Rattle.std.specs.List.{list_any}
use Rattle.cir_ast.specs.declared.program.Spot.{Spot}
use Rattle.cir_ast.specs.declared.program.Meant.{Meant}
use Rattle.cir_ast.specs.Tree.{Statement}
use Rattle.cir_meaning.specs.Scoped.{Scope, IsScoped, behind}
use Rattle.cir_meaning.specs.Tried.{Where, next}
use Rattle.cir_meaning.specs.Limits.{Counts}
use Rattle.cir_meaning.specs.Arrays.{Datum, single, filled}
use Rattle.cir_meaning.specs.Values.{Known, Opaque}
use Rattle.cir_meaning.specs.Frame.{World, State, Context, Maker, at, settle, variable_at}
use Rattle.cir_meaning.specs.Frame.{uncounted}
use Rattle.cir_meaning.specs.Unknown.{Fault, outer_assigned, writes, declares}
use Rattle.cir_meaning.specs.Scan.{forget, scan, undecided}
use Rattle.cir_meaning.specs.Steps.{stepped, undecided_cost, undecided_cells}
use Rattle.cir_meaning.specs.RunValues.{Numbers, Ran, Store, stored}
use Rattle.cir_meaning.specs.RunStatements.{step_statement}
use Rattle.cir_meaning.specs.Run.{Wires, Run, store_of, environment}
use Rattle.cir_meaning.specs.RunSimple.{Running}
use Rattle.cir_meaning.proofs.Good.{good_is}
use Rattle.cir_meaning.proofs.Likes.{CallKeeps, Like, like_itself}
use Rattle.cir_meaning.proofs.FineValues.{FineContext, Fine}
use Rattle.cir_meaning.proofs.FineStatements.{undecided_fine}
use Rattle.cir_meaning.proofs.Same.{Same}
use Rattle.cir_meaning.proofs.Sound.{Fitting}
use Rattle.cir_meaning.proofs.KnownCalls.{CallBoth}
use Rattle.cir_meaning.proofs.CallsTold.{call_told}
use Rattle.cir_meaning.proofs.RunFree.{NoMiss, Any, Calls, no_weaker}
use Rattle.cir_meaning.proofs.Fading.{IsOpaque, Rest, scan_rest}
use Rattle.cir_meaning.proofs.Scans.{may_any, like_valued, scan_kept}
use Rattle.cir_meaning.proofs.Holds.{Extends, Holds, own_fit, part_fit}
use Rattle.cir_meaning.proofs.Standing.{Stands, holds_of, changed, Start}
use Rattle.cir_meaning.proofs.PartWrites.{set_count}
use Rattle.cir_meaning.proofs.VariableRuns.{IsAdded, stepped_adds}
use Rattle.cir_meaning.proofs.StepRuns.{settle_like, added_like}
use Rattle.cir_meaning.proofs.UndecidedRuns.{rest_changed, forget_rest}
use Rattle.cir_meaning.proofs.ScopeLaws.{IsSound, grows, later}
use Rattle.cir_meaning.proofs.ScanPoints.{next_to, get_there}
use Rattle.cir_meaning.proofs.StepReal.{Flows, Steps, statement_part, ends_before}
use Rattle.cir_meaning.proofs.StepStatements.{statement_real}
use Rattle.cir_meaning.proofs.ScanStarts.{Contains, assigned_outside, forget_count, forget_opaque}
use Rattle.cir_meaning.proofs.ScanStarts.{forget_same, settled_count, rest_between}

-- the states of a statement that is scanned
pub record Scanned (k : Context) (w : Where) (a : Statement Spot Meant) (f s : State)
    : Type 0 where
  pub after : State
  pub scans : scan k w a (forget (outer_assigned a) f) ≡ Ok after
  pub like : Like after s

pub scanned : (k : Context) (spot : Spot) (fault : Option Fault) (a : Statement Spot Meant)
    (f s : State) → undecided k spot fault a f ≡ Ok s → Scanned k (at k spot) a f s
scanned k spot (Some x) a f s e = cc
scanned k spot None a f s e =
    let one : (s1 : State) × (scan k (at k spot) a (forget (outer_assigned a) f) ≡ Ok s1)
    × (next (stepped k (at k spot) (undecided_cost k (at k spot) a f s1) (undecided_cells a f) s1)
    (settle (at k spot)) ≡ Ok s) =
    next_to (scan k (at k spot) a (forget (outer_assigned a) f)) (λ s1.
    next (stepped k (at k spot) (undecided_cost k (at k spot) a f s1) (undecided_cells a f) s1)
    (settle (at k spot))) s e in
    let two : (s2 : State)
    × (stepped k (at k spot) (undecided_cost k (at k spot) a f one.0) (undecided_cells a f) one.0
    ≡ Ok s2) × (settle (at k spot) s2 ≡ Ok s) =
    next_to (stepped k (at k spot) (undecided_cost k (at k spot) a f one.0) (undecided_cells a f)
    one.0) (settle (at k spot)) s one.2 in record {
      after = one.0;
      scans = one.1;
      like = good_is (λ t. Like one.0 t) (settle (at k spot) two.0) s two.2
          (settle_like one.0 (at k spot) two.0
          (added_like one.0 one.0 two.0 (like_itself one.0)
          (good_is (IsAdded one.0) (stepped k (at k spot)
          (undecided_cost k (at k spot) a f one.0) (undecided_cells a f) one.0) two.0 two.1
          (stepped_adds k (at k spot) (undecided_cost k (at k spot) a f one.0)
          (undecided_cells a f) one.0))));
    }

-- how many variables there are
scan_count : (k : Context) (keeps : CallKeeps k.call) (w : Where) (a : Statement Spot Meant)
    (t t1 : State) → scan k w a t ≡ Ok t1
    → length t1.frame.variables ≡ length t.frame.variables
scan_count k keeps w a t t1 e =
    good_is (λ u. length u.frame.variables ≡ length t.frame.variables) (scan k w a t) t1 e
    (scan_kept k (λ u. length u.frame.variables ≡ length t.frame.variables)
    (like_valued k keeps (λ u. length u.frame.variables ≡ length t.frame.variables)
    (λ f u l h. ap (λ (vs : List Datum). length vs) l.0 ∙ h) true) (λ n. ⊤)
    (λ n dims u m h. set_count u.frame.variables n (filled dims Opaque) ∙ h) w a
    (may_any (declares a)) t refl)

same_variable : (f s : State) (n : ℕ) → Like f s → variable_at s.frame n ≡ variable_at f.frame n
same_variable f s n l =
    ap (λ (vs : List Datum). unwrap_or (slice_get vs n) (single (Known 0))) l.0

-- what the step reads, where other variables stand
fit_changed : (r : Run) (holds : Holds r) (k : Context) (keeps : CallKeeps k.call)
    (both : CallBoth k.call) (call : ℕ → List Numbers → ℕ → Ran Numbers) (w : Where)
    (vs : List Datum) (a c : Counts) (scope : Scope) (store : Store)
    → Calls scope.functions call
    → ((n : ℕ) → scope.seen n ≡ true
    → Same (Extends r) (variable_at (changed r.known vs a c).frame n) (stored store n))
    → Fitting (Extends r) k w scope (uncounted (changed r.known vs a c))
    (environment k w call (changed r.known vs a c) r) store
fit_changed r holds k keeps both call w vs a c scope store calls variables = record {
  variables = variables;
  signals = own_fit r holds;
  parts = part_fit r holds w;
  keeps = keeps;
  known = call_told (Extends r) k both w (uncounted (changed r.known vs a c));
  calls = calls;
}

module _ (make : Option Maker) (given : Wires) (start : Start) (q : Running)
    (fine : FineContext q.context) (both : CallBoth q.context.call)
    (keeps : CallKeeps q.context.call) (functions : ℕ) (calls : Calls functions q.call)
    (spot : Spot) (fault : Option Fault) (a : Statement Spot Meant) (scope : Scope)
    (sounds : IsSound functions scope) (is : IsScoped scope a) (r : Run)
    (h : Stands make given start None r) (s : State)
    (es : undecided q.context spot fault a r.known ≡ Ok s) where
  abbrev place : Where
  place = at q.context spot

  finely : Fine s
  finely =
      good_is Fine (undecided q.context spot fault a r.known) s es
      (undecided_fine q.context fine spot fault a r.known h.fine)

  its : Scanned q.context place a r.known s
  its = scanned q.context spot fault a r.known s es

  abbrev begun : State
  begun = forget (outer_assigned a) r.known

  rest_begun : Rest r.known begun
  rest_begun = forget_rest (outer_assigned a) r.known r.known (refl, refl, refl, refl)

  rest_after : Rest r.known its.after
  rest_after =
      good_is (Rest r.known) (scan q.context place a begun) its.after its.scans
      (scan_rest r.known q.context keeps place a begun rest_begun)

  rest_s : Rest r.known s
  rest_s = (
    its.like.1 ∙ rest_after.0,
    its.like.2 ∙ rest_after.1,
    its.like.3 ∙ rest_after.2,
    its.like.4 ∙ ap (λ (v : World). record v { counts = s.world.counts }) rest_after.3,
  )

  fit : (scope : Scope) (store : Store) → scope.functions ≡ functions
      → ((n : ℕ) → scope.seen n ≡ true
      → Same (Extends r) (variable_at s.frame n) (stored store n))
      → Fitting (Extends r) q.context place scope (uncounted s)
      (environment q.context place q.call s r) store
  fit scope store count variables =
      subst (λ t. ((n : ℕ) → scope.seen n ≡ true
      → Same (Extends r) (variable_at t.frame n) (stored store n))
      → Fitting (Extends r) q.context place scope (uncounted t)
      (environment q.context place q.call t r) store) (sym (rest_changed r.known s rest_s))
      (fit_changed r (holds_of make given start r h) q.context keeps both q.call place
      s.frame.variables s.frame.added s.world.counts scope store
      (subst (λ n. Calls n q.call) (sym count) calls)) variables

  lengths : length begun.frame.variables ≡ length s.frame.variables
  lengths =
      sym (scan_count q.context keeps place a begun its.after its.scans)
      ∙ ap (λ (vs : List Datum). length vs) (sym its.like.0)

  final_after : (n : ℕ) → n < (behind scope a).variables
      → variable_at its.after.frame n ≡ variable_at s.frame n
  final_after n less = sym (same_variable its.after s n its.like)

  final_begun : (n : ℕ) → n < scope.variables
      → variable_at begun.frame n ≡ variable_at s.frame n
  final_begun =
      ends_before (Extends r) q.context fine both keeps place functions s finely
      (environment q.context place q.call s r) fit scope.variables (scan q.context place a) scope
      (behind scope a)
      (statement_part (Extends r) q.context fine both keeps place functions s finely
      (environment q.context place q.call s r) fit scope.variables scope a is) begun its.after
      its.scans (grows scope a) final_after

  -- what it may assign isn't known
  assigned_fades : (n : ℕ) → Contains n (writes a) → n < scope.variables
      → (slice_get s.frame.variables n ≡ None) ⊎ IsOpaque (variable_at s.frame n)
  assigned_fades n wr less = in_range (slice_get s.frame.variables n) refl
    where
      outside : (b : Bool) → list_any (λ m. m == n) (declares a) ≡ b → b ≡ false
      outside true e =
          let least : scope.variables ≤ n = later scope a is n e in
          absurd (omega arith)
      outside false e = refl

      in_range : (o : Option Datum) → slice_get s.frame.variables n ≡ o
          → (slice_get s.frame.variables n ≡ None) ⊎ IsOpaque (variable_at s.frame n)
      in_range None e = inl e
      in_range (Some x) e =
          let there : (y : Datum) × (slice_get r.known.frame.variables n ≡ Some y) =
          get_there s.frame.variables r.known.frame.variables n x
          (sym lengths ∙ forget_count (outer_assigned a) r.known) e in
          inr (subst IsOpaque (final_begun n less)
          (forget_opaque (outer_assigned a) r.known n there.0 there.1
          (assigned_outside n a
          (outside (list_any (λ m. m == n) (declares a)) refl) wr)))

  pub undecided_real : NoMiss Any (step_statement (environment q.context place q.call s r) a
      (store_of r.known r.numbers) q.fuel)
  undecided_real =
      let steps : Steps (Extends r) q.context fine both keeps place functions s finely
      (environment q.context place q.call s r) fit scope.variables scope (behind scope a)
      (step_statement (environment q.context place q.call s r) a) =
      statement_real (Extends r) q.context fine both keeps place functions s finely
      (environment q.context place q.call s r) fit scope.variables scope a begun its.after sounds
      (rest_between r.known s begun rest_s rest_begun, lengths) is its.scans final_after
      (λ n seen le. absurd (let less : n < scope.variables = sounds.below n seen in omega arith))
      assigned_fades in
      no_weaker (Flows (Extends r) q.context fine both keeps place functions s finely
      (environment q.context place q.call s r) fit scope.variables (behind scope a)) Any _
      (λ y p. tt)
      (steps.real (store_of r.known r.numbers) q.fuel (
        settled_count r.known.frame.variables r.numbers
            ∙ sym (forget_count (outer_assigned a) r.known) ∙ lengths,
        (λ n seen. subst (λ d. Same (Extends r) d (stored (store_of r.known r.numbers) n))
            (final_begun n (sounds.below n seen))
            (forget_same (Extends r) (outer_assigned a) r.known n
            (stored (store_of r.known r.numbers) n) (h.variables n))),
      ))
