-- `log` and `===` in a run.
use Rattle.std.proofs.Common.{◌≡◌, ◌≢◌, ℕ, Bool, true, false, cond, List, [], ◌∷◌, Option, Some}
use Rattle.std.proofs.Common.{None, Ok, Err, refl, sym, ap, subst, ◌∙◌}
use Rattle.std.specs.Prelude.{⊤, ◌==◌}
use Rattle.std.specs.Fmt.{decimal}
use Rattle.std.specs.List.{AllByRecursion}
use Rattle.std.proofs.lemmas.Bool.{eqb-true}
use Rattle.cir_ast.specs.declared.program.Meant.{Meant}
use Rattle.cir_ast.specs.Tree.{Expr, LogArgument, Words, LogValue}
use Rattle.cir_lc.specs.Number.{Assignment}
use Rattle.cir_meaning.specs.declared.class.Class.TheVariants as Class'
use Rattle.cir_meaning.specs.Scoped.{Scope, AreCallsMeant, IsArgumentMeant}
use Rattle.cir_meaning.specs.Tried.{Where, Tried, next}
use Rattle.cir_meaning.specs.Arrays.{Scalar}
use Rattle.cir_meaning.specs.Source.{Equation, IsEqualAt}
use Rattle.cir_meaning.specs.Values.{Value, Known, Linear, Quadratic, Opaque, Parts, number_of}
use Rattle.cir_meaning.specs.Values.{parts_of, difference_of, class_of}
use Rattle.cir_meaning.specs.Frame.{State, Context, Maker}
use Rattle.cir_meaning.specs.Evaluate.{value_in}
use Rattle.cir_meaning.specs.Writing.{appended, constrained}
use Rattle.cir_meaning.specs.Steps.{stepped, log_cost, logged_cells, equal_cost}
use Rattle.cir_meaning.specs.Simple as simple
use Rattle.cir_meaning.specs.Statement.{logged, log_values}
use Rattle.cir_meaning.specs.RunValues.{Ran, number_in, gives, constraint_fails}
use Rattle.cir_meaning.specs.Run.{Wires, Run, store_of, environment}
use Rattle.cir_meaning.specs.RunSimple.{Running, with_known, sides, run_equal}
use Rattle.cir_meaning.specs.RunBodies.{log_words, run_log}
use Rattle.cir_meaning.proofs.Good.{OnGood, good_ok, good_bad, good_any, good_next, good_is}
use Rattle.cir_meaning.proofs.Good.{good_weaker}
use Rattle.cir_meaning.proofs.Pairs.{Pair, pair_stop, pair_right, pair_good}
use Rattle.cir_meaning.proofs.Likes.{Like, like_itself, value_like}
use Rattle.cir_meaning.proofs.FineValues.{Fine, FineAnswer, value_fine}
use Rattle.cir_meaning.proofs.FineStatements.{equal_fine, log_fine}
use Rattle.cir_meaning.proofs.Meaning.{Means, number_at}
use Rattle.cir_meaning.proofs.Sound.{Answers, Ready, Whole', number_pair}
use Rattle.cir_meaning.proofs.Numbered.{value_pair, pair_gives}
use Rattle.cir_meaning.proofs.RunFree.{Any}
use Rattle.cir_meaning.proofs.Holds.{Extends, pair_assoc}
use Rattle.cir_meaning.proofs.Goes.{Goes, goes_ok, goes_refusing, goes_step, pair_no}
use Rattle.cir_meaning.proofs.Standing.{Stands, changed, stands_changed, Start}
use Rattle.cir_meaning.proofs.VariableRuns.{Soundly, like_changed, fits, with_added, IsAdded}
use Rattle.cir_meaning.proofs.VariableRuns.{stepped_adds, After}
use Rattle.cir_meaning.proofs.StepRuns.{stands_like, with_equations, stands_equations, pair_then}
use Rattle.cir_meaning.proofs.StepRuns.{added_like}

pair_done : {A B : Type 0} (m : Tried A) (b : B) → Pair (λ x y. ⊤) m (Ok b)
unfolding Pair
pair_done (Ok a) b = tt
pair_done (Err e) b = tt

pub each_stays : {A : Type 0} (Q : State → Type 0) (f : A → State → Tried State) (xs : List A)
    (s : State) → ((x : A) (s : State) → Q s → OnGood Q (f x s)) → Q s
    → OnGood Q (simple.each f xs s)
each_stays Q f [] s h g = good_ok Q s g
each_stays Q f (x ∷ xs) s h g =
    good_next Q Q (f x s) (simple.each f xs) (h x s g) (λ s1 g1. each_stays Q f xs s1 h g1)

-- lines that are put have no part in what holds
pub stands_log : (make : Option Maker) (given : Wires) (start : Start) (late : Option ℕ) (r : Run)
    (lines : List (List ℕ)) → Stands make given start late r
    → Stands make given start late (record r { log = lines })
stands_log make given start late r lines h = record {
  variables = h.variables;
  own = h.own;
  blank = h.blank;
  kept = h.kept;
  parts = h.parts;
  count = h.count;
  fine = h.fine;
  equations = h.equations;
  numbered = h.numbered;
}

-- sides of which a difference is told aren't opaque
clear_left : (x y : Value) (p : Parts) → parts_of (difference_of x y) ≡ Some p
    → class_of x ≢ Class'.Opaque
clear_left (Known n) y p e = λ no. cc
clear_left (Linear f) y p e = λ no. cc
clear_left (Quadratic a b c) y p e = λ no. cc
clear_left Opaque y p e = cc

clear_right : (x y : Value) (p : Parts) → parts_of (difference_of x y) ≡ Some p
    → class_of y ≢ Class'.Opaque
clear_right x (Known n) p e = λ no. cc
clear_right x (Linear f) p e = λ no. cc
clear_right x (Quadratic a b c) p e = λ no. cc
clear_right (Known n) Opaque p e = cc
clear_right (Linear f) Opaque p e = cc
clear_right (Quadratic a b c) Opaque p e = cc
clear_right Opaque Opaque p e = cc

-- one more equation
pub record Constrains (x y : Value) (s t : State) : Type 0 where
  pub parts : Parts
  pub told : parts_of (difference_of x y) ≡ Some parts
  pub adds : IsAdded (with_equations s
      (record { left = number_of x; right = number_of y; parts = parts } ∷ [])) t

pub constrained_adds : (k : Context) (w : Where) (x y : Value) (s : State)
    → OnGood (Constrains x y s) (constrained k w x y s)
constrained_adds k w x y s = at (parts_of (difference_of x y)) refl
  where
    at : (o : Option Parts) → parts_of (difference_of x y) ≡ o
        → OnGood (Constrains x y s) (appended k w x y s o)
    at None e = good_bad (Constrains x y s) _
    at (Some p) e =
        good_ok (Constrains x y s) _ record { parts = p; told = e; adds = (_, refl) }

-- where both sides have one number, it holds
pub equation_holds : (E : Assignment → Type 0) (x y : Value) (m n : ℕ) (p : Parts)
    → parts_of (difference_of x y) ≡ Some p → Means E x m → Means E y n → m ≡ n
    → (v : Assignment) → E v
    → IsEqualAt v record { left = number_of x; right = number_of y; parts = p }
equation_holds E x y m n p e mx my same v ev =
    number_at E x m v mx (clear_left x y p e) ev ∙ same ∙ sym
    (number_at E y n v my (clear_right x y p e) ev)

module _ (make : Option Maker) (given : Wires) (start : Start) (scope : Scope) (q : Running)
    (sound : Soundly scope q) where
  abbrev Then : State → Run → Type 0
  Then = After make given start scope q sound

  module _ (w : Where) (r : Run) (h : Stands make given start None r) where
    whole : (e : Expr Meant) (s : State) (u : ℕ) → AreCallsMeant scope e
        → Ready (Extends r) q.context sound.fine r.known s
        → Pair (Whole' (Extends r) q.context sound.fine r.known)
        (value_in q.context w false Scalar e s)
        (number_in (environment q.context w q.call r.known r) (store_of r.known r.numbers) e u)
    whole e s u te l =
        pair_good FineAnswer (Answers (Extends r) r.known) (value_in q.context w false Scalar e s) _
        (value_fine q.context sound.fine w false Scalar e s l.1)
        (value_pair (Extends r) q.context sound.fine w scope r.known
        (environment q.context w q.call r.known r) (store_of r.known r.numbers)
        (fits make given start scope q r sound h w) false Scalar e s u te l)

    -- `log`
    log_pair : (arguments : List (LogArgument Meant)) (s : State) (u : ℕ)
        → AllByRecursion (IsArgumentMeant scope) arguments
        → Ready (Extends r) q.context sound.fine r.known s
        → Pair (λ x y. ⊤) (simple.each (logged q.context w) arguments s)
        (log_words (environment q.context w q.call r.known r) (store_of r.known r.numbers) arguments
        u)
    log_pair [] s u is l = pair_done (Ok s) _
    log_pair (Words text ∷ rest) s u is l =
        pair_right (λ y. ⊤) (λ x y. ⊤) (simple.each (logged q.context w) rest s)
        (log_words (environment q.context w q.call r.known r) (store_of r.known r.numbers) rest u) _
        (log_pair rest s u is.1 l)
        (λ y p. pair_done (simple.each (logged q.context w) rest s) _)
    log_pair (LogValue e ∷ rest) s u is l =
        pair_assoc (λ x y. ⊤) (value_in q.context w false Scalar e s) _
        (simple.each (logged q.context w) rest) _
        (number_pair (Extends r) q.context sound.fine r.known (λ x y. ⊤)
        (value_in q.context w false Scalar e s)
        (number_in (environment q.context w q.call r.known r) (store_of r.known r.numbers) e u)
        (λ x s1. simple.each (logged q.context w) rest s1) (λ n u1.
        next (log_words (environment q.context w q.call r.known r) (store_of r.known r.numbers) rest
        u1) (λ (ws, u2). gives (decimal n ∷ ws) u2)) (whole e s u is.0 l)
        (λ x s1 n u1 hx mx l1.
        pair_right (λ y. ⊤) (λ x y. ⊤) (simple.each (logged q.context w) rest s1)
        (log_words (environment q.context w q.call r.known r) (store_of r.known r.numbers) rest u1)
        (λ (ws, u2). gives (decimal n ∷ ws) u2) (log_pair rest s1 u1 is.1 l1)
        (λ y p. pair_done (simple.each (logged q.context w) rest s1) _)))

    logged_like : (a : LogArgument Meant) (s : State) → Like r.known s
        → OnGood (λ t. Like r.known t) (logged q.context w a s)
    logged_like (Words text) s l = good_ok (λ t. Like r.known t) s l
    logged_like (LogValue e) s l =
        good_next (λ x. Like r.known x.1) (λ t. Like r.known t)
        (value_in q.context w false Scalar e s) _
        (value_like r.known q.context sound.keeps w false Scalar e s l)
        (λ x p. good_ok (λ t. Like r.known t) x.1 p)

    pub log_goes : (arguments : List (LogArgument Meant))
        → AllByRecursion (IsArgumentMeant scope) arguments
        → Goes Then (log_values q.context w arguments r.known) (run_log q w arguments r)
    log_goes arguments is =
        goes_refusing Then (log_values q.context w arguments r.known) _ (λ s es.
        goes_step Any Then s w r (log_words (environment q.context w q.call r.known r)
        (store_of r.known r.numbers) arguments q.fuel) _
        (pair_no (λ x y. ⊤) (log_values q.context w arguments r.known) _ s
        (pair_then (λ x y. ⊤) (λ x y. ⊤) (simple.each (logged q.context w) arguments r.known) _
        (stepped q.context w (log_cost q.context w arguments r.known) (logged_cells arguments))
        (log_pair arguments r.known q.fuel is (like_itself r.known, h.fine))
        (λ x y p. good_any _)) es) (λ y p.
        goes_ok Then s _ (
          refl,
          stands_log make given start None (with_known s r) _
              (stands_like make given start None r s h
              (good_is (λ t. Like r.known t) (log_values q.context w arguments r.known) s es
              (good_next (λ t. Like r.known t) (λ t. Like r.known t)
              (simple.each (logged q.context w) arguments r.known) _
              (each_stays (λ t. Like r.known t) (logged q.context w) arguments r.known logged_like
              (like_itself r.known)) (λ t l.
              good_weaker (IsAdded t) (λ u. Like r.known u)
              (stepped q.context w (log_cost q.context w arguments r.known)
              (logged_cells arguments) t)
              (stepped_adds q.context w (log_cost q.context w arguments r.known)
              (logged_cells arguments)
              t) (λ u g. added_like r.known t u l g))))
              (good_is Fine (log_values q.context w arguments r.known) s es
              (log_fine q.context sound.fine w arguments r.known h.fine))),
        )))

    -- `===`
    record Equals (s : State) : Type 0 where
      pub before : State
      pub like : Like r.known before
      pub equation : Equation
      pub adds : IsAdded (with_equations before (equation ∷ [])) s
      pub holds : (v : Assignment) → Extends r v → IsEqualAt v equation

    equals : (a b : Expr Meant) (x y : Value) (m n : ℕ) (s : State) → Like r.known s
        → Means (Extends r) x m → Means (Extends r) y n → m ≡ n
        → OnGood Equals (next (constrained q.context w x y s) (λ t.
        stepped q.context w (equal_cost q.context w a b r.known) 0 t))
    equals a b x y m n s l mx my same =
        good_next (Constrains x y s) Equals (constrained q.context w x y s) _
        (constrained_adds q.context w x y s) (λ t c.
        good_weaker (IsAdded t) Equals
        (stepped q.context w (equal_cost q.context w a b r.known) 0 t)
        (stepped_adds q.context w (equal_cost q.context w a b r.known) 0 t) (λ u g. record {
          before = s;
          like = l;
          equation = record { left = number_of x; right = number_of y; parts = c.parts };
          adds = (g.0, g.1 ∙ ap (λ (z : State). with_added z g.0) c.adds.1);
          holds = equation_holds (Extends r) x y m n c.parts c.told mx my same;
        }))

    equal_numbers : (a b : Expr Meant) (x y : Value) (m n u : ℕ) (s : State) → Like r.known s
        → Means (Extends r) x m → Means (Extends r) y n
        → Pair (λ t z. Equals t) (next (constrained q.context w x y s) (λ t.
        stepped q.context w (equal_cost q.context w a b r.known) 0 t))
        (cond {A = Ran (Unit {0})} (m == n) (Ok (tt, u)) (Err constraint_fails))
    equal_numbers a b x y m n u s l mx my = at (m == n) refl
      where
        at : (c : Bool) → (m == n) ≡ c
            → Pair (λ t z. Equals t) (next (constrained q.context w x y s) (λ t.
            stepped q.context w (equal_cost q.context w a b r.known) 0 t))
            (cond {A = Ran (Unit {0})} c (Ok (tt, u)) (Err constraint_fails))
        at true e =
            pair_gives Equals (λ t z. Equals t) (next (constrained q.context w x y s) (λ t.
            stepped q.context w (equal_cost q.context w a b r.known) 0 t)) (tt, u)
            (equals a b x y m n s l mx my (eqb-true m n e)) (λ t p. p)
        at false e = pair_stop (λ t z. Equals t) _ constraint_fails (λ no. cc)

    equal_pair : (a b : Expr Meant) → AreCallsMeant scope a → AreCallsMeant scope b
        → Pair (λ t z. Equals t) (simple.equal q.context w a b r.known)
        (sides (environment q.context w q.call r.known r) (store_of r.known r.numbers) a b q.fuel)
    equal_pair a b ta tb =
        number_pair (Extends r) q.context sound.fine r.known (λ t z. Equals t)
        (value_in q.context w false Scalar a r.known)
        (number_in (environment q.context w q.call r.known r) (store_of r.known r.numbers) a q.fuel)
        _ _ (whole a r.known q.fuel ta (like_itself r.known, h.fine)) (λ x s1 m u1 hx mx l1.
        number_pair (Extends r) q.context sound.fine r.known (λ t z. Equals t)
        (value_in q.context w false Scalar b s1)
        (number_in (environment q.context w q.call r.known r) (store_of r.known r.numbers) b u1) _ _
        (whole b s1 u1 tb l1)
        (λ y s2 n u2 hy my l2. equal_numbers a b x y m n u2 s2 l2.0 mx my))

    -- the run behind it
    stands_equal : (s : State) → Equals s → Fine s
        → Stands make given start None (with_known s r)
    stands_equal s g fine =
        let same : s ≡ changed (with_equations r.known (g.equation ∷ []))
        r.known.frame.variables g.adds.0 g.before.world.counts = g.adds.1 ∙
        ap (λ (t : State). with_added (with_equations t (g.equation ∷ [])) g.adds.0)
        (like_changed r.known g.before g.like) in
        subst (λ t. Stands make given start None (record r { known = t })) (sym same)
        (stands_changed make given start None
        (with_known (with_equations r.known (g.equation ∷ [])) r) r.known.frame.variables g.adds.0
        g.before.world.counts r.numbers
        (stands_equations make given start None r (g.equation ∷ []) h (subst Fine same fine)
        (λ v ex. (g.holds v ex, tt))) (subst Fine same fine) h.variables)

    pub equal_goes : (a b : Expr Meant) → AreCallsMeant scope a → AreCallsMeant scope b
        → Goes Then (simple.equal q.context w a b r.known) (run_equal q w a b r)
    equal_goes a b ta tb =
        goes_refusing Then (simple.equal q.context w a b r.known) _ (λ s es.
        goes_step (λ z. Equals s) Then s w r
        (sides (environment q.context w q.call r.known r) (store_of r.known r.numbers) a b q.fuel) _
        (pair_no (λ t z. Equals t) (simple.equal q.context w a b r.known) _ s
        (equal_pair a b ta tb) es)
        (λ y g. goes_ok Then s (with_known s r) (
          refl,
          stands_equal s g
              (good_is Fine (simple.equal q.context w a b r.known) s es
              (equal_fine q.context sound.fine w a b r.known h.fine)),
        )))
