-- Assertions and logs: what is known of them, and what is left to the run.
use Rattle.std.proofs.Common.{cond, ◌≡◌, ◌∙◌, ℕ, ◌+◌, ◌<◌, ◌≤◌, false, List, [], ◌∷◌, length}
use Rattle.std.proofs.Common.{get_or, drop, map, Ok, ap, sym, refl}
use Rattle.std.proofs.lemmas.List.{drop_all, drop_more}
use Rattle.std.proofs.lemmas.List.Sums.{sum_by-cons}
use Rattle.cir_ast.specs.declared.program.Meant.{Meant}
use Rattle.cir_ast.specs.declared.refusal.Kind.TheVariants.{AssertFalse}
use Rattle.cir_ast.specs.declared.marked.Expr.{Expr as CodeExpr}
use Rattle.cir_ast.specs.declared.marked.LogArgument.{LogArgument as CodeArgument}
use Rattle.cir_ast.specs.declared.marked.LogArgument.TheVariants as argument
use Rattle.cir_ast.specs.Tree.{Expr, LogArgument, Words, LogValue, bare, bare_argument}
use Rattle.cir_values.specs.declared.operators.Side.{Side as CodeSide}
use Rattle.cir_values.specs.Meant.{meant_side}
use Rattle.cir_meaning.specs.Tried.{Where, Tried, next, refused}
use Rattle.cir_meaning.specs.Limits.{standing}
use Rattle.cir_meaning.specs.Values.{Value, side_of}
use Rattle.cir_meaning.specs.Arrays.{Scalar, single}
use Rattle.cir_meaning.specs.Frame.{State, Context, uncounted}
use Rattle.cir_meaning.specs.Evaluate.{scalar, value_in}
use Rattle.cir_meaning.specs.Costs.{Cost, both, cost_of, node}
use Rattle.cir_meaning.specs.Simple.{each}
use Rattle.cir_meaning.specs.Steps.{is_value, argument_cost, arguments_cost, assert_cost, log_cost}
use Rattle.cir_meaning.specs.Steps.{logged_cells, stepped}
use Rattle.cir_meaning.specs.Statement.{assert_value, log_values, logged}
use Rattle.cir_arrays.specs.declared.stop.Fault.{Fault}
use Rattle.cir_arrays.specs.Stopped.{IsRefusal}
use Rattle.cir_arrays.proofs.Exits.{exits}
use Rattle.cir_cost.specs.declared.cost.Cost.{Cost as CodeCost}
use Rattle.cir_cost.specs.Adds.{Adds, IsCost}
use Rattle.cir_cost.proofs.Adding.{cost_both}
use Rattle.cir_assign.proofs.Assignments.{stepped_standing}
use Rattle.cir_assign.proofs.CostStates.{both_same, cost_same}
use Rattle.cir_execute.proofs.Branching.{pick, decided_is}
use Rattle.cir_execute.proofs.Scanning.{each_first, each_end}

-- ---- an assertion
module _ (k : Context) (w : Where) (e : Expr Meant) (s s1 : State) (v : Value)
    (h : value_in k w false Scalar e s ≡ Ok (single v, s1)) where
  pub assert_told : (told side : CodeSide) → told ≡ side → meant_side told ≡ side_of v
      → scalar (value_in k w false Scalar e s) (assert_value k w e s)
      ≡ pick (meant_side side) (Ok s1) (refused w AssertFalse)
      (stepped k w (assert_cost k w e s) 0 s1)
  assert_told told side is tells =
      ap (λ z. scalar z (assert_value k w e s)) h
      ∙ decided_is v (refused w AssertFalse) (Ok s1) (stepped k w (assert_cost k w e s) 0 s1)
      ∙ ap (λ x. pick x (Ok s1) (refused w AssertFalse) (stepped k w (assert_cost k w e s) 0 s1))
      (sym tells ∙ ap meant_side is)

-- a node, and what the condition costs in another state
pub assert_paid : (k : Context) (w : Where) (e : Expr Meant) (s t : State) (x y z : CodeCost)
    → uncounted t ≡ uncounted s → IsCost x (node 0) → Adds x y (node 1)
    → Adds y z (cost_of k w false e t) → IsCost z (assert_cost k w e s)
assert_paid k w e s t x y z same h one more =
    cost_both y z (node 1) (cost_of k w false e s) (cost_both x y (node 0) (node 1) h one)
    (rw (cost_same k w t s same false e) at more)

-- ---- a log
module _ (k : Context) (w : Where) where
  argument_same : (a : LogArgument Meant) (s t : State) → uncounted s ≡ uncounted t
      → argument_cost k w a s ≡ argument_cost k w a t
  argument_same (Words text) s t same = refl
  argument_same (LogValue e) s t same = cost_same k w s t same false e

  arguments_same : (as' : List (LogArgument Meant)) (s t : State) → uncounted s ≡ uncounted t
      → arguments_cost k w as' s ≡ arguments_cost k w as' t
  arguments_same [] s t same = refl
  arguments_same (a ∷ as') s t same =
      both_same _ _ _ _ (argument_same a s t same) (arguments_same as' s t same)

  pub log_same : (as' : List (LogArgument Meant)) (s t : State) → uncounted s ≡ uncounted t
      → log_cost k w as' s ≡ log_cost k w as' t
  log_same as' s t same = ap (λ (c : Cost). both (node 1) c) (arguments_same as' s t same)

  -- as many cells as stand still at the same number
  pub cells_same : (cost : Cost) (a b : ℕ) (s : State) → standing a ≡ standing b
      → stepped k w cost a s ≡ stepped k w cost b s
  cells_same cost a b s h =
      sym (stepped_standing k w cost a s) ∙ ap (λ (n : ℕ). stepped k w cost n s) h
      ∙ stepped_standing k w cost b s

module _ (xs : List (CodeArgument Meant)) where
  abbrev pub cells_from : ℕ → ℕ
  cells_from i = logged_cells (map bare_argument (drop i xs))

  cells_at : (i : ℕ) (x a : CodeArgument Meant) → i < length xs → x ≡ get_or xs i x → x ≡ a
      → cells_from i ≡ logged_cells (bare_argument a ∷ map bare_argument (drop (i + 1) xs))
  cells_at i x a h is to =
      ap (λ ys. logged_cells (map bare_argument ys)) (drop_more xs i x h)
      ∙ ap (λ y. logged_cells (bare_argument y ∷ map bare_argument (drop (i + 1) xs)))
      (sym is ∙ to)

  pub cells_value : (i : ℕ) (x : CodeArgument Meant) (e : CodeExpr Meant) → i < length xs
      → x ≡ get_or xs i x → x ≡ argument.Value e → cells_from i ≡ 1 + cells_from (i + 1)
  cells_value i x e h is to =
      cells_at i x (argument.Value e) h is to
      ∙ sum_by-cons (λ a. cond (is_value a) 1 0) (LogValue (bare e))
      (map bare_argument (drop (i + 1) xs))

  pub cells_words : (i : ℕ) (x : CodeArgument Meant) (t : List ℕ) → i < length xs
      → x ≡ get_or xs i x → x ≡ argument.Words t → cells_from i ≡ 0 + cells_from (i + 1)
  cells_words i x t h is to =
      cells_at i x (argument.Words t) h is to
      ∙ sum_by-cons (λ a. cond (is_value a) 1 0) (Words t) (map bare_argument (drop (i + 1) xs))

  pub cells_end : (i : ℕ) → length xs ≤ i → cells_from i ≡ 0
  cells_end i h = ap (λ ys. logged_cells (map bare_argument ys)) (drop_all i xs h)

module _ (k : Context) (w : Where) (xs : List (CodeArgument Meant)) where
  abbrev pub logged_from : ℕ → State → Tried State
  logged_from i s = each (logged k w) (map bare_argument (drop i xs)) s

  pub logged_at : (i : ℕ) (x a : CodeArgument Meant) (s : State) → i < length xs
      → x ≡ get_or xs i x → x ≡ a
      → logged_from i s ≡ next (logged k w (bare_argument a) s) (logged_from (i + 1))
  logged_at i x a s h is to =
      each_first (logged k w) bare_argument xs i x s h is
      ∙ ap (λ y. next (logged k w (bare_argument y) s) (logged_from (i + 1))) to

  pub logged_value : (i : ℕ) (x : CodeArgument Meant) (e : CodeExpr Meant) (s s1 : State)
      (v : Value) → i < length xs → x ≡ get_or xs i x → x ≡ argument.Value e
      → value_in k w false Scalar (bare e) s ≡ Ok (single v, s1)
      → logged_from i s ≡ logged_from (i + 1) s1
  logged_value i x e s s1 v h is to told =
      logged_at i x (argument.Value e) s h is to
      ∙ ap (λ z. next (scalar z (λ v s. Ok s)) (logged_from (i + 1))) told

  pub logged_words : (i : ℕ) (x : CodeArgument Meant) (t : List ℕ) (s : State) → i < length xs
      → x ≡ get_or xs i x → x ≡ argument.Words t → logged_from i s ≡ logged_from (i + 1) s
  logged_words i x t s h is to = logged_at i x (argument.Words t) s h is to

  pub logged_end : (i : ℕ) (s : State) → length xs ≤ i → logged_from i s ≡ Ok s
  logged_end i s h = each_end (logged k w) bare_argument xs i s h

  pub logs_are : (s s1 : State) → logged_from 0 s ≡ Ok s1
      → log_values k w (map bare_argument xs) s
      ≡ stepped k w (log_cost k w (map bare_argument xs) s) (cells_from xs 0) s1
  logs_are s s1 h =
      ap (λ z. next z (stepped k w (log_cost k w (map bare_argument xs) s) (cells_from xs 0))) h

  pub logs_stop : (s : State) (e : Fault) → IsRefusal e (logged_from 0 s)
      → IsRefusal e (log_values k w (map bare_argument xs) s)
  logs_stop s e h =
      exits e (logged_from 0 s)
      (stepped k w (log_cost k w (map bare_argument xs) s) (cells_from xs 0)) h
