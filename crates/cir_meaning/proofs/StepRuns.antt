-- Statements of a run that write no variable: what is dropped, `assert`, `log` and `===`.
use Rattle.std.proofs.Common.{◌≡◌, ℕ, Bool, true, false, cond, List, ◌++◌, Option, None, Result, Ok}
use Rattle.std.proofs.Common.{Err, refl, sym, ap, subst, slice_index}
use Rattle.std.specs.Prelude.{◌==◌}
use Rattle.std.specs.List.{AllByRecursion}
use Rattle.cir_ast.specs.declared.refusal.Kind.TheVariants.{AssertFalse}
use Rattle.cir_ast.specs.declared.program.Spot.{Spot}
use Rattle.cir_ast.specs.declared.program.Meant.{Meant}
use Rattle.cir_ast.specs.Tree.{Expr}
use Rattle.cir_lc.specs.Number.{Assignment}
use Rattle.cir_meaning.specs.Scoped.{Scope, AreCallsMeant}
use Rattle.cir_meaning.specs.Tried.{Where, Tried, next, refused}
use Rattle.cir_meaning.specs.Limits.{Counts, nothing}
use Rattle.cir_meaning.specs.Arrays.{Scalar, Whole, the_item}
use Rattle.cir_meaning.specs.Source.{Equation, IsEqualAt}
use Rattle.cir_meaning.specs.Values.{Value, Known, Linear, Quadratic, Opaque}
use Rattle.cir_meaning.specs.Frame.{World, State, Maker, at, settle, counted}
use Rattle.cir_meaning.specs.Evaluate.{scalar, value_in}
use Rattle.cir_meaning.specs.Steps.{assert_cost}
use Rattle.cir_meaning.specs.Simple as simple
use Rattle.cir_meaning.specs.Statement.{decided, assert_value}
use Rattle.cir_meaning.specs.RunValues.{Numbers, Environment, Store, number_in, assert_fails}
use Rattle.cir_meaning.specs.Run.{Wires, Run, RunTried, store_of, environment}
use Rattle.cir_meaning.specs.RunSimple.{Running, with_known, run_known, run_counted}
use Rattle.cir_meaning.specs.RunBodies.{asserted, assert_step, run_assert}
use Rattle.cir_meaning.proofs.Good.{OnGood, good_ok, good_bad, good_next, good_on, good_is}
use Rattle.cir_meaning.proofs.Rows.{all_append}
use Rattle.cir_meaning.proofs.Pairs.{Pair}
use Rattle.cir_meaning.proofs.Likes.{Like, like_itself, value_like}
use Rattle.cir_meaning.proofs.FineValues.{Fine, FineAnswer, value_fine}
use Rattle.cir_meaning.proofs.FineStatements.{dropped_fine, assert_fine}
use Rattle.cir_meaning.proofs.FineWriting.{counted_fine}
use Rattle.cir_meaning.proofs.Sound.{Answers}
use Rattle.cir_meaning.proofs.Numbered.{value_pair}
use Rattle.cir_meaning.proofs.RunFree.{NoMiss, Any, no_ok, no_stop, no_next, no_if, no_weaker}
use Rattle.cir_meaning.proofs.Holds.{Extends}
use Rattle.cir_meaning.proofs.Goes.{Goes, goes_ok, goes_same, goes_refusing, goes_step, pair_no}
use Rattle.cir_meaning.proofs.Standing.{Stands, changed, stands_changed, Start}
use Rattle.cir_meaning.proofs.VariableRuns.{Soundly, like_changed, fits, IsAdded, stepped_adds}
use Rattle.cir_meaning.proofs.VariableRuns.{After}

-- where nothing is new but what is counted
pub stands_like : (make : Option Maker) (given : Wires) (start : Start) (late : Option ℕ) (r : Run)
    (s : State) → Stands make given start late r → Like r.known s → Fine s
    → Stands make given start late (with_known s r)
stands_like make given start late r s h l fine =
    let same : s ≡ changed r.known r.known.frame.variables s.frame.added s.world.counts =
    like_changed r.known s l in
    subst (λ t. Stands make given start late (record r { known = t })) (sym same)
    (stands_changed make given start late r r.known.frame.variables s.frame.added s.world.counts
    r.numbers h (subst Fine same fine) h.variables)

-- and where equations are new
abbrev pub with_equations : State → List Equation → State
with_equations s es =
    record s { world = record (s.world) { equations = s.world.equations ++ es } }

pub stands_equations : (make : Option Maker) (given : Wires) (start : Start) (late : Option ℕ)
    (r : Run) (es : List Equation) → Stands make given start late r
    → Fine (with_equations r.known es)
    → ((v : Assignment) → Extends r v → AllByRecursion (IsEqualAt v) es)
    → Stands make given start late (with_known (with_equations r.known es) r)
stands_equations make given start late r es h fine holds = record {
  variables = h.variables;
  own = h.own;
  blank = h.blank;
  kept = h.kept;
  parts = h.parts;
  count = h.count;
  fine = fine;
  equations = λ v ex debts old.
      all_append (IsEqualAt v) r.known.world.equations es (h.equations v ex debts old)
      (holds v ex);
  numbered = h.numbered;
}

-- a pair of which the first goes on alone
pub pair_then : {A B C : Type 0} (P : A → B → Type 0) (R : C → B → Type 0) (m : Tried A)
    (r : Result B ℕ) (go : A → Tried C) → Pair P m r
    → ((a : A) (b : B) → P a b → OnGood (λ c. R c b) (go a)) → Pair R (next m go) r
unfolding Pair OnGood
pair_then P R (Ok a) (Ok b) go h f = from (go a) (f a b h)
  where
    from : (m : Tried _) → OnGood (λ c. R c b) m → Pair R m (Ok b)
    from (Ok c) h = h
    from (Err e) h = tt
pair_then P R (Ok a) (Err stop) go h f = from (go a)
  where
    from : (m : Tried _) → Pair R m (Err stop)
    from (Ok c) = h
    from (Err e) = tt
pair_then P R (Err e) r go h f = tt

-- what is counted leaves the rest
like_counts : (f s : State) (a c : Counts) → Like f s
    → Like f (record {
      frame = record (s.frame) { added = a };
      world = record (s.world) { counts = c };
    })
like_counts f s a c l =
    (l.0, l.1, l.2, l.3, ap (λ (v : World). record v { counts = c }) l.4)

pub counted_like : (f : State) (w : Where) (s : State) → Like f s
    → OnGood (λ t. Like f t) (counted w s)
counted_like f w s l =
    good_on (λ t. Like f t) _ _ (λ c. good_ok (λ t. Like f t) _ (like_counts f s nothing _ l))

pub settle_like : (f : State) (w : Where) (s : State) → Like f s
    → OnGood (λ t. Like f t) (settle w s)
settle_like f w s l =
    good_on (λ t. Like f t) _ _ (λ c. good_ok (λ t. Like f t) _ (like_counts f s nothing _ l))

pub added_like : (f s t : State) → Like f s → IsAdded s t → Like f t
added_like f s t l h = subst (λ x. Like f x) (sym h.1) l

module _ (make : Option Maker) (given : Wires) (start : Start) (scope : Scope) (q : Running)
    (sound : Soundly scope q) where
  abbrev Then : State → Run → Type 0
  Then = After make given start scope q sound

  -- what is known at compile time alone
  pub known_goes : (r : Run) (go : State → Tried State) → Stands make given start None r
      → OnGood (λ s. Like r.known s) (go r.known) → OnGood Fine (go r.known)
      → Goes Then (go r.known) (run_known go r)
  known_goes r go h like fine =
      goes_refusing Then (go r.known) (λ s. Ok (with_known s r)) (λ s e.
      goes_ok Then s (with_known s r) (
        refl,
        stands_like make given start None r s h
            (good_is (λ x. Like r.known x) (go r.known) s e like)
            (good_is Fine (go r.known) s e fine),
      ))

  pub counted_goes : (spot : Spot) (r : Run) → Stands make given start None r
      → Goes Then (counted (at q.context spot) r.known) (run_counted q spot r)
  counted_goes spot r h =
      known_goes r (counted (at q.context spot)) h
      (counted_like r.known (at q.context spot) r.known (like_itself r.known))
      (counted_fine (at q.context spot) r.known h.fine)

  pub dropped_goes : (w : Where) (e : Expr Meant) (r : Run) → Stands make given start None r
      → Goes Then (simple.dropped q.context w e r.known)
      (run_known (simple.dropped q.context w e) r)
  dropped_goes w e r h =
      known_goes r (simple.dropped q.context w e) h
      (good_next (λ x. Like r.known x.1) (λ s. Like r.known s)
      (value_in q.context w false Whole e r.known) _
      (value_like r.known q.context sound.keeps w false Whole e r.known (like_itself r.known))
      (λ x p. good_ok (λ s. Like r.known s) x.1 p))
      (dropped_fine q.context sound.fine w e r.known h.fine)

  -- an expression of a step has a number, or stops
  value_real : (w : Where) (e : Expr Meant) (r : Run) → AreCallsMeant scope e
      → (h : Stands make given start None r)
      → Pair (Answers (Extends r) r.known) (value_in q.context w false Scalar e r.known)
      (number_in (environment q.context w q.call r.known r) (store_of r.known r.numbers) e q.fuel)
  value_real w e r te h =
      value_pair (Extends r) q.context sound.fine w scope r.known
      (environment q.context w q.call r.known r) (store_of r.known r.numbers)
      (fits make given start scope q r sound h w) false Scalar e r.known q.fuel te
      (like_itself r.known, h.fine)

  -- `assert`
  asserted_real : (env : Environment) (store : Store) (e : Expr Meant) (units : ℕ)
      → NoMiss Any (number_in env store e units) → NoMiss Any (asserted env store e units)
  asserted_real env store e units h =
      no_next Any Any (number_in env store e units) _ h (λ x p.
      no_if Any (the_zero x) (Err assert_fails) (Ok (tt, x.1))
      (no_stop Any assert_fails (λ no. cc)) (no_ok Any _ tt))
    where
      the_zero : Numbers × ℕ → Bool
      the_zero x = slice_index x.0.items 0 == 0

  assert_adds : (w : Where) (e : Expr Meant) (before : State) (v : Value) (s : State)
      → OnGood (IsAdded s) (assert_value q.context w e before v s)
  assert_adds w e before (Known n) s = at (n == 0)
    where
      at : (b : Bool) → OnGood (IsAdded s) (cond b (refused w AssertFalse) (Ok s))
      at true = good_bad (IsAdded s) _
      at false = good_ok (IsAdded s) s (s.frame.added, refl)
  assert_adds w e before (Linear f) s =
      stepped_adds q.context w (assert_cost q.context w e before) 0 s
  assert_adds w e before (Quadratic a b c) s =
      stepped_adds q.context w (assert_cost q.context w e before) 0 s
  assert_adds w e before Opaque s =
      stepped_adds q.context w (assert_cost q.context w e before) 0 s

  assert_decided : (w : Where) (e : Expr Meant) (r : Run) (v : Value) (s : State)
      → NoMiss Any (number_in (environment q.context w q.call r.known r)
      (store_of r.known r.numbers) e q.fuel)
      → Then s (with_known s r)
      → Goes Then (Ok s) (next (decided v (Ok tt) (Ok tt) (assert_step q w e r))
      (λ u. Ok (with_known s r)))
  assert_decided w e r (Known n) s real h = at (n == 0)
    where
      at : (b : Bool)
          → Goes Then (Ok s) (next (cond {A = RunTried (Unit {0})} b (Ok tt) (Ok tt))
          (λ u. Ok (with_known s r)))
      at true = goes_ok Then s (with_known s r) h
      at false = goes_ok Then s (with_known s r) h
  assert_decided w e r (Linear f) s real h =
      goes_step Any Then s w r (asserted (environment q.context w q.call r.known r)
      (store_of r.known r.numbers) e q.fuel) _ (asserted_real _ _ e q.fuel real)
      (λ x p. goes_ok Then s (with_known s r) h)
  assert_decided w e r (Quadratic a b c) s real h =
      goes_step Any Then s w r (asserted (environment q.context w q.call r.known r)
      (store_of r.known r.numbers) e q.fuel) _ (asserted_real _ _ e q.fuel real)
      (λ x p. goes_ok Then s (with_known s r) h)
  assert_decided w e r Opaque s real h =
      goes_step Any Then s w r (asserted (environment q.context w q.call r.known r)
      (store_of r.known r.numbers) e q.fuel) _ (asserted_real _ _ e q.fuel real)
      (λ x p. goes_ok Then s (with_known s r) h)

  pub assert_goes : (w : Where) (e : Expr Meant) (r : Run) → AreCallsMeant scope e
      → Stands make given start None r
      → Goes Then (scalar (value_in q.context w false Scalar e r.known)
      (λ v s. assert_value q.context w e r.known v s)) (run_assert q w e r)
  assert_goes w e r te h =
      goes_same Then (value_in q.context w false Scalar e r.known) _ _ (λ x is.
      goes_refusing Then (assert_value q.context w e r.known (the_item x.0) x.1) _ (λ s es.
      assert_decided w e r (the_item x.0) s
      (no_weaker (λ y. Answers (Extends r) r.known x y) Any _ (λ y p. tt)
      (pair_no (Answers (Extends r) r.known) (value_in q.context w false Scalar e r.known) _ x
      (value_real w e r te h) is)) (
        refl,
        stands_like make given start None r s h
            (added_like r.known x.1 s
            (good_is (λ y. Like r.known y.1) (value_in q.context w false Scalar e r.known) x is
            (value_like r.known q.context sound.keeps w false Scalar e r.known
            (like_itself r.known)))
            (good_is (IsAdded x.1) (assert_value q.context w e r.known (the_item x.0) x.1) s es
            (assert_adds w e r.known (the_item x.0) x.1)))
            (good_is Fine (assert_value q.context w e r.known (the_item x.0) x.1) s es
            (assert_fine q.context sound.fine w e r.known (the_item x.0) x.1
            (good_is FineAnswer (value_in q.context w false Scalar e r.known) x is
            (value_fine q.context sound.fine w false Scalar e r.known h.fine)).1)),
      )))
