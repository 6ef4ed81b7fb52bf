-- A statement under an unknown condition runs without a missing value, where it has been scanned.
use Rattle.std.proofs.Common.{◌≡◌, ℕ, suc, true, List, ◌++◌, Ok}
use Rattle.std.specs.Prelude.{◌==◌}
use Rattle.cir_ast.specs.declared.program.Spot.{Spot}
use Rattle.cir_ast.specs.declared.program.Meant.{Meant}
use Rattle.cir_ast.specs.Tree.{Expr, Statement, Block, If, IfElse, While, For, Return, Assert, Log}
use Rattle.cir_ast.specs.Tree.{Ended, Statements, empty, then_more}
use Rattle.cir_lc.specs.Number.{Assignment}
use Rattle.cir_meaning.specs.Scoped.{Scope, AreCallsMeant, behind_first, closed, behind, behind_all}
use Rattle.cir_meaning.specs.Scoped.{IsScoped, AreScoped}
use Rattle.cir_meaning.specs.Tried.{Where, Tried, next}
use Rattle.cir_meaning.specs.Frame.{State, Context, variable_at, uncounted}
use Rattle.cir_meaning.specs.Unknown.{assign_writes, first_writes, writes, all_writes}
use Rattle.cir_meaning.specs.Scan.{scan_test, scan_assign, scan_first, scan, scan_all}
use Rattle.cir_meaning.specs.RunValues.{Ran, Environment, Store, stored, number_in, gives}
use Rattle.cir_meaning.specs.RunValues.{the_number, assert_fails}
use Rattle.cir_meaning.specs.RunStatements.{StepFlow, StepGoing, step_goes, step_going, step_assign}
use Rattle.cir_meaning.specs.RunStatements.{step_first, step_statement, step_statements}
use Rattle.cir_meaning.proofs.Likes.{CallKeeps}
use Rattle.cir_meaning.proofs.FineValues.{FineContext, Fine}
use Rattle.cir_meaning.proofs.Same.{Same}
use Rattle.cir_meaning.proofs.Sound.{Fitting}
use Rattle.cir_meaning.proofs.KnownCalls.{CallBoth}
use Rattle.cir_meaning.proofs.RunFree.{NoMiss, Any, no_ok, no_stop, no_next, no_if}
use Rattle.cir_meaning.proofs.Scans.{may_left, may_right}
use Rattle.cir_meaning.proofs.ScopeLaws.{Grows, grows_itself, grows_first, grows, grows_all}
use Rattle.cir_meaning.proofs.ScopeLaws.{IsSound, sound_first, sound_closed, sound}
use Rattle.cir_meaning.proofs.ScanPoints.{next_to, Stay, Final, Point, Has}
use Rattle.cir_meaning.proofs.StepScans.{Declares, Assigns, test_real, Declared'}
use Rattle.cir_meaning.proofs.StepReal.{Part, test_part, stays_behind, ends_before, assign_part}
use Rattle.cir_meaning.proofs.StepReal.{first_part, statement_part, statements_part, assign_real}
use Rattle.cir_meaning.proofs.StepReal.{first_real, flow_less, going_real, goes_real, turns_real}
use Rattle.cir_meaning.proofs.StepReal.{simple_real, Flows, Steps}

module _ (E : Assignment → Type 0) (k : Context) (fine : FineContext k) (both : CallBoth k.call)
    (keeps : CallKeeps k.call) (w : Where) (functions : ℕ) (s : State) (finely : Fine s)
    (env : Environment)
    (fit : (scope : Scope) (store : Store) → scope.functions ≡ functions
    → ((n : ℕ) → scope.seen n ≡ true → Same E (variable_at s.frame n) (stored store n))
    → Fitting E k w scope (uncounted s) env store) (base : ℕ) where
  abbrev Stays : State → Type 0
  Stays = Stay E k fine both keeps w functions s finely env fit

  abbrev Ends : Scope → State → Type 0
  Ends = Final E k fine both keeps w functions s finely env fit

  abbrev At : Scope → State → Type 0
  At = Point E k fine both keeps w functions s finely env fit

  abbrev Numbered : Scope → Store → Type 0
  Numbered = Has E k fine both keeps w functions s finely env fit

  abbrev Told : Scope → Type 0
  Told = Declares E k fine both keeps w functions s finely env fit base

  abbrev Writes : List ℕ → Type 0
  Writes = Assigns E k fine both keeps w functions s finely env fit base

  abbrev Runs : Scope → Scope → (Store → ℕ → Ran StepFlow) → Type 0
  Runs = Steps E k fine both keeps w functions s finely env fit base

  abbrev Flowed : Scope → StepFlow × ℕ → Type 0
  Flowed = Flows E k fine both keeps w functions s finely env fit base

  less : (scope after : Scope) → Grows scope after → (m : Ran StepFlow) → NoMiss (Flowed after) m
      → NoMiss (Flowed scope) m
  less = flow_less E k fine both keeps w functions s finely env fit base

  -- where a part of a scan begins and ends
  leaves : (scan_part : State → Tried State) (scope : Scope)
      → Part E k fine both keeps w functions s finely env fit base scan_part scope.variables
      → (t t1 : State) → scan_part t ≡ Ok t1 → Stays t → Stays t1
  leaves scan_part scope part =
      stays_behind E k fine both keeps w functions s finely env fit base scan_part scope.variables
      part

  before : (scan_part : State → Tried State) (scope after : Scope)
      → Part E k fine both keeps w functions s finely env fit base scan_part scope.variables
      → (t t1 : State) → scan_part t ≡ Ok t1 → Grows scope after → Ends after t1 → Ends scope t
  before = ends_before E k fine both keeps w functions s finely env fit base

  starts : (scope : Scope) (a : Statement Spot Meant) (t t1 : State) → IsSound functions scope
      → Stays t → IsScoped scope a → scan k w a t ≡ Ok t1 → Ends (behind scope a) t1 → At scope t
  starts scope a t t1 sounds stays is ex ends = record {
    sound = sounds;
    stay = stays;
    final = before (scan k w a) scope (behind scope a)
        (statement_part E k fine both keeps w functions s finely env fit base scope a is) t t1 ex
        (grows scope a) ends;
  }

  -- a condition
  tested : (scope : Scope) (c : Expr Meant) (t t1 : State) → At scope t
      → AreCallsMeant scope c → scan_test k w c t ≡ Ok t1
      → (At scope t1) × ((store : Store) (u : ℕ) → Numbered scope store
      → NoMiss Any (number_in env store c u))
  tested = test_real E k fine both keeps w functions s finely env fit base

  mutual
    pub statement_real : (scope : Scope) (a : Statement Spot Meant) (t t1 : State)
        → IsSound functions scope → Stays t → IsScoped scope a → scan k w a t ≡ Ok t1
        → Ends (behind scope a) t1 → Told scope → Writes (writes a)
        → Runs scope (behind scope a) (step_statement env a)
    statement_real scope (Block spot ss) t t1 sounds stays is ex ends told ws =
        let inner : Runs scope (behind_all scope ss) (step_statements env ss) =
        statements_real scope ss t t1 sounds stays is ex ends told ws in record {
          declares = told;
          real = λ store u has.
              less scope (behind_all scope ss) (grows_all scope ss) (step_statements env ss store u)
              (inner.real store u has);
        }
    statement_real scope (If spot c a) t t1 sounds stays is ex ends told ws =
        let one : (t2 : State) × (scan_test k w c t ≡ Ok t2) × (scan k w a t2 ≡ Ok t1) =
        next_to (scan_test k w c t) (scan k w a) t1 ex in
        let test : (At scope one.0) × ((store : Store) (u : ℕ) → Numbered scope store
        → NoMiss Any (number_in env store c u)) =
        tested scope c t one.0 (starts scope (If spot c a) t t1 sounds stays is ex ends) is.0 one.1
        in
        let inner : Runs scope (behind scope a) (step_statement env a) =
        statement_real scope a one.0 t1 sounds test.0.stay is.1 one.2 ends told ws in record {
          declares = told;
          real = λ store u has.
              no_next Any (Flowed scope) (number_in env store c u) _ (test.1 store u has) (λ y p.
              no_if (Flowed scope) (the_number y.0 == 0) (gives (StepGoing store) y.1)
              (step_statement env a store y.1) (no_ok (Flowed scope) (StepGoing store, y.1) has)
              (less scope (behind scope a) (grows scope a) (step_statement env a store y.1)
              (inner.real store y.1 has)));
        }
    statement_real scope (IfElse spot c a b) t t1 sounds stays is ex ends told ws =
        let between : Scope = closed scope (behind scope a) in
        let one : (t2 : State) × (scan_test k w c t ≡ Ok t2)
        × (next (scan k w a t2) (scan k w b) ≡ Ok t1) =
        next_to (scan_test k w c t) (λ t2. next (scan k w a t2) (scan k w b)) t1 ex in
        let two : (t3 : State) × (scan k w a one.0 ≡ Ok t3) × (scan k w b t3 ≡ Ok t1) =
        next_to (scan k w a one.0) (scan k w b) t1 one.2 in
        let test : (At scope one.0) × ((store : Store) (u : ℕ) → Numbered scope store
        → NoMiss Any (number_in env store c u)) =
        tested scope c t one.0 (starts scope (IfElse spot c a b) t t1 sounds stays is ex ends) is.0
        one.1 in
        let stays_two : Stays two.0 =
        leaves (scan k w a) scope
        (statement_part E k fine both keeps w functions s finely env fit base scope a is.1) one.0
        two.0 two.1 test.0.stay in
        let first : Runs scope (behind scope a) (step_statement env a) =
        statement_real scope a one.0 two.0 sounds test.0.stay is.1 two.1
        (before (scan k w b) between (behind between b)
        (statement_part E k fine both keeps w functions s finely env fit base between b is.2) two.0
        t1 two.2 (grows between b) ends) told
        (may_left _ (writes a) (writes b) ws) in
        let second : Runs between (behind between b) (step_statement env b) =
        statement_real between b two.0 t1
        (sound_closed functions scope (behind scope a) (grows scope a) sounds) stays_two is.2 two.2
        ends told (may_right _ (writes a) (writes b) ws) in record {
          declares = told;
          real = λ store u has.
              no_next Any (Flowed scope) (number_in env store c u) _ (test.1 store u has) (λ y p.
              no_if (Flowed scope) (the_number y.0 == 0) (step_statement env b store y.1)
              (step_statement env a store y.1)
              (less between (behind between b) (grows between b)
              (step_statement env b store y.1) (second.real store y.1 has))
              (less scope (behind scope a) (grows scope a) (step_statement env a store y.1)
              (first.real store y.1 has)));
        }
    statement_real scope (While spot c a) t t1 sounds stays is ex ends told ws =
        let one : (t2 : State) × (scan_test k w c t ≡ Ok t2) × (scan k w a t2 ≡ Ok t1) =
        next_to (scan_test k w c t) (scan k w a) t1 ex in
        let test : (At scope one.0) × ((store : Store) (u : ℕ) → Numbered scope store
        → NoMiss Any (number_in env store c u)) =
        tested scope c t one.0 (starts scope (While spot c a) t t1 sounds stays is ex ends) is.0
        one.1 in
        let inner : Runs scope (behind scope a) (step_statement env a) =
        statement_real scope a one.0 t1 sounds test.0.stay is.1 one.2 ends told ws in record {
          declares = told;
          real = λ store u has.
              turns_real E k fine both keeps w functions s finely env fit base scope c
              (step_statement env a) test.1 (λ store1 u1 has1.
              less scope (behind scope a) (grows scope a) (step_statement env a store1 u1)
              (inner.real store1 u1 has1)) (suc u) store u has;
        }
    statement_real scope (For spot first_spot f c step_spot a body) t t1 sounds stays is ex
        ends told ws =
        let inside : Scope = behind_first scope f in
        let after : Scope = behind inside body in
        let one : (t2 : State) × (scan_first k w f t ≡ Ok t2)
        × (next (scan_test k w c t2) (λ t3. next (scan k w body t3) (scan_assign k w a)) ≡ Ok t1) =
        next_to (scan_first k w f t)
        (λ t2. next (scan_test k w c t2) (λ t3. next (scan k w body t3) (scan_assign k w a))) t1 ex
        in
        let two : (t3 : State) × (scan_test k w c one.0 ≡ Ok t3)
        × (next (scan k w body t3) (scan_assign k w a) ≡ Ok t1) =
        next_to (scan_test k w c one.0) (λ t3. next (scan k w body t3) (scan_assign k w a)) t1
        one.2 in
        let three : (t4 : State) × (scan k w body two.0 ≡ Ok t4) × (scan_assign k w a t4 ≡ Ok t1) =
        next_to (scan k w body two.0) (scan_assign k w a) t1 two.2 in
        let ends_three : Ends after three.0 =
        before (scan_assign k w a) after after
        (assign_part E k fine both keeps w functions s finely env fit base after a) three.0 t1
        three.2 (grows_itself after) ends in
        let ends_two : Ends inside two.0 =
        before (scan k w body) inside after
        (statement_part E k fine both keeps w functions s finely env fit base inside body is.2)
        two.0 three.0 three.1 (grows inside body) ends_three in
        let stays_one : Stays one.0 =
        leaves (scan_first k w f) scope
        (first_part E k fine both keeps w functions s finely env fit base scope f is.0) t one.0
        one.1 stays in
        let sounds_one : IsSound functions inside = sound_first functions scope f sounds in
        let test : (At inside two.0) × ((store : Store) (u : ℕ) → Numbered inside store
        → NoMiss Any (number_in env store c u)) =
        tested inside c one.0 two.0 record {
          sound = sounds_one;
          stay = stays_one;
          final = before (scan_test k w c) inside inside
              (test_part E k fine both keeps w functions s finely env fit base inside c) one.0 two.0
              two.1
              (grows_itself inside) ends_two;
        } is.1 two.1 in
        let made : Declared' E k fine both keeps w functions s finely env fit base scope inside t
        one.0 (step_first env f) =
        first_real E k fine both keeps w functions s finely env fit base scope f t one.0 sounds
        stays is.0 one.1
        (before (scan_test k w c) inside inside
        (test_part E k fine both keeps w functions s finely env fit base inside c) one.0 two.0 two.1
        (grows_itself inside) ends_two) told
        (may_left _ (first_writes f) (assign_writes a ++ writes body) ws) in
        let inner : Runs inside after (step_statement env body) =
        statement_real inside body two.0 three.0 sounds_one test.0.stay is.2 three.1 ends_three
        made.declares
        (may_right _ (assign_writes a) (writes body)
        (may_right _ (first_writes f) (assign_writes a ++ writes body) ws)) in
        let stays_three : Stays three.0 =
        leaves (scan k w body) inside
        (statement_part E k fine both keeps w functions s finely env fit base inside body is.2)
        two.0 three.0 three.1 test.0.stay in
        let step : (store : Store) (u : ℕ) → Numbered after store
        → NoMiss (λ y. Numbered after y.0) (step_assign env a store u) =
        assign_real E k fine both keeps w functions s finely env fit base after a three.0 t1
        record {
          sound = sound functions inside body sounds_one;
          stay = stays_three;
          final = ends_three;
        } is.3 inner.declares
        (may_left _ (assign_writes a) (writes body)
        (may_right _ (first_writes f) (assign_writes a ++ writes body) ws)) three.2 in record {
          declares = told;
          real = λ store u has.
              no_next (λ y. Numbered inside y.0) (Flowed scope) (step_first env f store u) _
              (made.real store u has) (λ y p.
              less scope inside (grows_first scope f) _
              (turns_real E k fine both keeps w functions s finely env fit base inside c
              (λ store2 u2. next (step_statement env body store2 u2) (λ (flow, u3).
              step_going flow u3 (λ store3 u4. step_goes (step_assign env a store3 u4)))) test.1
              (λ store2 u2 has2.
              no_next (Flowed after) (Flowed inside) (step_statement env body store2 u2) _
              (inner.real store2 u2 has2) (λ z q.
              going_real E k fine both keeps w functions s finely env fit base after inside z.0 z.1
              (λ store3 u4. step_goes (step_assign env a store3 u4)) q (λ store3 u4 has3.
              less inside after (grows inside body) (step_goes (step_assign env a store3 u4))
              (goes_real E k fine both keeps w functions s finely env fit base after
              (step_assign env a store3 u4) (step store3 u4 has3))))) (suc y.1) y.0 y.1 p));
        }
    statement_real scope (Return spot e) t t1 sounds stays is ex ends told ws = absurd is
    statement_real scope (Assert spot e) t t1 sounds stays is ex ends told ws =
        let test : (At scope t1) × ((store : Store) (u : ℕ) → Numbered scope store
        → NoMiss Any (number_in env store e u)) =
        tested scope e t t1 (starts scope (Assert spot e) t t1 sounds stays is ex ends) is ex in
        record {
          declares = told;
          real = λ store u has.
              no_next Any (Flowed scope) (number_in env store e u) _ (test.1 store u has) (λ y p.
              no_if (Flowed scope) (the_number y.0 == 0) _ (gives (StepGoing store) y.1)
              (no_stop (Flowed scope) assert_fails (λ no. cc))
              (no_ok (Flowed scope) (StepGoing store, y.1) has));
        }
    statement_real scope (Log spot arguments) t t1 sounds stays is ex ends told ws = cc
    statement_real scope (Ended spot x) t t1 sounds stays is ex ends told ws =
        simple_real E k fine both keeps w functions s finely env fit base scope x t t1 sounds stays
        is ex ends told ws

    pub statements_real : (scope : Scope) (ss : Statements Spot Meant) (t t1 : State)
        → IsSound functions scope → Stays t → AreScoped scope ss → scan_all k w ss t ≡ Ok t1
        → Ends (behind_all scope ss) t1 → Told scope → Writes (all_writes ss)
        → Runs scope (behind_all scope ss) (step_statements env ss)
    statements_real scope empty t t1 sounds stays is ex ends told ws = record {
      declares = told;
      real = λ store u has. no_ok (Flowed scope) (StepGoing store, u) has;
    }
    statements_real scope (then_more a rest) t t1 sounds stays is ex ends told ws =
        let one : (t2 : State) × (scan k w a t ≡ Ok t2) × (scan_all k w rest t2 ≡ Ok t1) =
        next_to (scan k w a t) (scan_all k w rest) t1 ex in
        let first : Runs scope (behind scope a) (step_statement env a) =
        statement_real scope a t one.0 sounds stays is.0 one.1
        (before (scan_all k w rest) (behind scope a) (behind_all (behind scope a) rest)
        (statements_part E k fine both keeps w functions s finely env fit base (behind scope a) rest
        is.1) one.0 t1 one.2 (grows_all (behind scope a) rest) ends) told
        (may_left _ (writes a) (all_writes rest) ws) in
        let others : Runs (behind scope a) (behind_all (behind scope a) rest)
        (step_statements env rest) =
        statements_real (behind scope a) rest one.0 t1 (sound functions scope a sounds)
        (leaves (scan k w a) scope
        (statement_part E k fine both keeps w functions s finely env fit base scope a is.0) t one.0
        one.1 stays) is.1 one.2 ends first.declares
        (may_right _ (writes a) (all_writes rest) ws) in record {
          declares = others.declares;
          real = λ store u has.
              no_next (Flowed (behind scope a)) (Flowed (behind_all (behind scope a) rest))
              (step_statement env a store u) _ (first.real store u has) (λ z q.
              going_real E k fine both keeps w functions s finely env fit base (behind scope a)
              (behind_all (behind scope a) rest) z.0 z.1 (step_statements env rest) q others.real);
        }
