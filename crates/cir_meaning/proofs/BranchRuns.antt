-- Conditions, branches and loops in a run.
use Rattle.std.proofs.Common.{◌≡◌, ℕ, zero, suc, Bool, true, false, cond, Option, None, Ok, Err}
use Rattle.std.proofs.Common.{refl, subst}
use Rattle.std.specs.Prelude.{◌==◌}
use Rattle.cir_ast.specs.declared.program.Spot.{Spot}
use Rattle.cir_ast.specs.declared.program.Meant.{Meant}
use Rattle.cir_ast.specs.Tree.{Expr}
use Rattle.cir_meaning.specs.Scoped.{Scope}
use Rattle.cir_meaning.specs.Tried.{Tried, next}
use Rattle.cir_meaning.specs.Arrays.{Scalar, the_item}
use Rattle.cir_meaning.specs.Values.{Value, Known, Linear, Quadratic, Opaque}
use Rattle.cir_meaning.specs.Frame.{State, Maker, at, settle, counted}
use Rattle.cir_meaning.specs.Evaluate.{value_in}
use Rattle.cir_meaning.specs.Statement.{Flow, Going, Returned, going, goes, decided, condition}
use Rattle.cir_meaning.specs.Statement.{branch, turns}
use Rattle.cir_meaning.specs.Run.{Rejected, Stopped, Wires, Run, RunTried, refusing}
use Rattle.cir_meaning.specs.RunSimple.{Running, with_known, run_counted}
use Rattle.cir_meaning.specs.RunBodies.{run_branch, run_turns}
use Rattle.cir_meaning.proofs.Good.{OnGood, good_ok, good_next, good_is}
use Rattle.cir_meaning.proofs.Likes.{Like, like_itself, value_like}
use Rattle.cir_meaning.proofs.FineValues.{Fine}
use Rattle.cir_meaning.proofs.FineStatements.{condition_fine}
use Rattle.cir_meaning.proofs.Goes.{Goes, goes_ok, goes_bad, goes_next, goes_same}
use Rattle.cir_meaning.proofs.Standing.{Stands, Start}
use Rattle.cir_meaning.proofs.VariableRuns.{Soundly, After}
use Rattle.cir_meaning.proofs.StepRuns.{stands_like, settle_like, counted_goes}

module _ (make : Option Maker) (given : Wires) (start : Start) (scope : Scope) (q : Running)
    (sound : Soundly scope q) where
  abbrev Then : State → Run → Type 0
  Then = After make given start scope q sound

  -- a statement of a template goes on
  abbrev pub AfterFlow : Flow → Run → Type 0
  AfterFlow (Going s) r = After make given start scope q sound s r
  AfterFlow (Returned d world) r = ⊥

  abbrev pub Flows : (State → Tried Flow) → (Run → RunTried Run) → Type 0
  Flows go on = (r : Run) → Stands make given start None r → Goes AfterFlow (go r.known) (on r)

  pub goes_flow : (m : Tried State) (r : RunTried Run) → Goes Then m r
      → Goes AfterFlow (goes m) r
  unfolding Goes
  goes_flow (Ok s) (Ok r) h = h
  goes_flow (Ok s) (Err (Rejected e)) h = h
  goes_flow (Ok s) (Err (Stopped stop w log)) h = h
  goes_flow (Err e) r h = tt

  -- from a state that stands on
  pub then_flow : (m : Tried State) (r : RunTried Run) (go : State → Tried Flow)
      (on : Run → RunTried Run) → Goes Then m r → Flows go on
      → Goes AfterFlow (next m go) (next r on)
  then_flow m r go on h f =
      goes_next Then AfterFlow m r go on h
      (λ s r1 p. subst (λ t. Goes AfterFlow (go t) (on r1)) p.0 (f r1 p.1))

  pub going_flow : (f : Flow) (r : Run) (go : State → Tried Flow) (on : Run → RunTried Run)
      → AfterFlow f r → Flows go on → Goes AfterFlow (going f go) (on r)
  going_flow (Going s) r go on p f =
      subst (λ t. Goes AfterFlow (go t) (on r)) p.0 (f r p.1)
  going_flow (Returned d world) r go on p f = absurd p

  -- a condition changes nothing but what is counted
  pub condition_like : (spot : Spot) (c : Expr Meant) (s : State)
      → OnGood (λ x. Like s x.1) (condition q.context spot c s)
  condition_like spot c s =
      good_next (λ x. Like s x.1) (λ x. Like s x.1)
      (value_in q.context (at q.context spot) false Scalar c s) _
      (value_like s q.context sound.keeps (at q.context spot) false Scalar c s (like_itself s))
      (λ x l.
      good_next (λ t. Like s t) (λ y. Like s y.1) (settle (at q.context spot) x.1) _
      (settle_like s (at q.context spot) x.1 l)
      (λ t g. good_ok (λ y. Like s y.1) (the_item x.0, t) g))

  pub condition_stands : (spot : Spot) (c : Expr Meant) (r : Run) → Stands make given start None r
      → (x : Value × State) → condition q.context spot c r.known ≡ Ok x
      → Stands make given start None (with_known x.1 r)
  condition_stands spot c r h x e =
      stands_like make given start None r x.1 h
      (good_is (λ y. Like r.known y.1) (condition q.context spot c r.known) x e
      (condition_like spot c r.known))
      (good_is (λ y. Fine y.1) (condition q.context spot c r.known) x e
      (condition_fine q.context sound.fine spot c r.known h.fine))

  decided_flow : (v : Value) (f t u : State → Tried Flow) (g i j : Run → RunTried Run) → Flows f g
      → Flows t i → Flows u j → Flows (decided v f t u) (decided v g i j)
  decided_flow (Known n) f t u g i j hf ht hu = one (n == 0)
    where
      one : (b : Bool) → Flows (cond b f t) (cond b g i)
      one true = hf
      one false = ht
  decided_flow (Linear l) f t u g i j hf ht hu = hu
  decided_flow (Quadratic a b c) f t u g i j hf ht hu = hu
  decided_flow Opaque f t u g i j hf ht hu = hu

  pub condition_flow : (spot : Spot) (c : Expr Meant) (f t u : State → Tried Flow)
      (g i j : Run → RunTried Run) → Flows f g → Flows t i → Flows u j
      → Flows (λ s. next (condition q.context spot c s) (λ (v, s1). decided v f t u s1))
      (λ r. next (refusing (condition q.context spot c r.known))
      (λ (v, s). decided v g i j (with_known s r)))
  condition_flow spot c f t u g i j hf ht hu r h =
      goes_same AfterFlow (condition q.context spot c r.known) _ _ (λ x e.
      decided_flow x.0 f t u g i j hf ht hu (with_known x.1 r) (condition_stands spot c r h x e))

  pub branch_flow : (spot : Spot) (c : Expr Meant) (f t u : State → Tried Flow)
      (g i j : Run → RunTried Run) → Flows f g → Flows t i → Flows u j
      → Flows (branch q.context spot c f t u) (run_branch q spot c g i j)
  branch_flow spot c f t u g i j hf ht hu r h =
      then_flow (counted (at q.context spot) r.known) (run_counted q spot r) _ _
      (counted_goes make given start scope q sound spot r h)
      (condition_flow spot c f t u g i j hf ht hu)

  -- turns
  pub turns_flow : (n : ℕ) (spot : Spot) (c : Expr Meant) (body unknown : State → Tried Flow)
      (run_body run_unknown : Run → RunTried Run) → Flows body run_body
      → Flows unknown run_unknown
      → Flows (turns n q.context spot c body unknown)
      (run_turns n q spot c run_body run_unknown)
  turns_flow zero spot c body unknown run_body run_unknown hb hu r h = goes_bad AfterFlow _ _
  turns_flow (suc n) spot c body unknown run_body run_unknown hb hu r h =
      condition_flow spot c (λ s2. Ok (Going s2)) (λ s2.
      next (counted (at q.context spot) s2) (λ s3. next (body s3)
      (λ f. going f (turns n q.context spot c body unknown)))) unknown (λ r1. Ok r1) (λ r1.
      next (run_counted q spot r1) (λ r2. next (run_body r2)
      (run_turns n q spot c run_body run_unknown))) run_unknown
      (λ r1 h1. goes_ok AfterFlow (Going r1.known) r1 (refl, h1)) (λ r1 h1.
      then_flow (counted (at q.context spot) r1.known) (run_counted q spot r1) _ _
      (counted_goes make given start scope q sound spot r1 h1) (λ r2 h2.
      goes_next AfterFlow AfterFlow (body r2.known) (run_body r2) _ _ (hb r2 h2)
      (λ f r3 p. going_flow f r3 (turns n q.context spot c body unknown)
      (run_turns n q spot c run_body run_unknown) p
      (turns_flow n spot c body unknown run_body run_unknown hb hu)))) hu r h
