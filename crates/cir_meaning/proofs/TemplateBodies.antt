-- The execution of a template's body, where its names are in template_scope.
use Rattle.std.proofs.Common.{◌≡◌, inr, ℕ, List, length, Option, Some, None, Ok, refl, sym, ap}
use Rattle.std.proofs.Common.{subst, ◌∙◌, slice_get, arith}
use Rattle.std.specs.Prelude.{nat_lt}
use Rattle.std.proofs.lemmas.Bool.{ltb-true}
use Rattle.cir_ast.specs.declared.operators.Direction.{Direction}
use Rattle.cir_ast.specs.declared.refusal.Kind.TheVariants.{WrongKind}
use Rattle.cir_ast.specs.Program.{Program, Template}
use Rattle.cir_meaning.specs.Scoped.{Scope, IsTemplateScoped, IsResolved, AreScoped, behind_all}
use Rattle.cir_meaning.specs.Tried.{Where, Tried, next, found}
use Rattle.cir_meaning.specs.Arrays.{Datum}
use Rattle.cir_meaning.specs.Frame.{Signals, Group, World, State, Context, Maker}
use Rattle.cir_meaning.specs.Statement.{Flow, Going, exec_all}
use Rattle.cir_meaning.specs.Bodies.{all_written, all_fed, ended, ended_flow, template_context}
use Rattle.cir_meaning.specs.Bodies.{template_state, exec_template, call_at, most_open}
use Rattle.cir_meaning.specs.RunStatements.{run_call}
use Rattle.cir_meaning.specs.RunSimple.{Runner, Running}
use Rattle.cir_meaning.proofs.Good.{OnSome', good_is}
use Rattle.cir_meaning.proofs.Keeping.{Closed}
use Rattle.cir_meaning.proofs.KeepingStatements.{FlowKept, exec_all_kept}
use Rattle.cir_meaning.proofs.Undeclared.{none_declared}
use Rattle.cir_meaning.proofs.FineValues.{FineMake}
use Rattle.cir_meaning.proofs.FineBodies.{calls_fine}
use Rattle.cir_meaning.proofs.KnownCalls.{all_get, calls_both, calls_keep}
use Rattle.cir_meaning.proofs.RunFree.{run_calls}
use Rattle.cir_meaning.proofs.Standing.{Start}
use Rattle.cir_meaning.proofs.GroupSizes.{IsGrowing}
use Rattle.cir_meaning.proofs.Starting.{BodiesRun}
use Rattle.cir_meaning.proofs.VariableRuns.{Soundly}
use Rattle.cir_meaning.proofs.ScopeLaws.{IsSound}
use Rattle.cir_meaning.proofs.ScanPoints.{next_to}
use Rattle.cir_meaning.proofs.ScopedQuiet.{everything}
use Rattle.cir_meaning.proofs.BodyFlows.{goes_on_all}

abbrev Ok' : Signals → World → Tried (Signals × World)
Ok' xs v = Ok (xs, v)

both_are : (xs ys : Signals) (v u : World) → Ok' xs v ≡ Ok' ys u → (xs ≡ ys) × (v ≡ u)
both_are xs ys v u e =
    let same : (xs, v) ≡ (ys, u) = cc in
    (ap (λ (x : Signals × World). x.0) same, ap (λ (x : Signals × World). x.1) same)

module _ (p : Program) (resolved : IsResolved p) (size fuel : ℕ) (make : Option Maker)
    (makes : OnSome' FineMake make) (growing : OnSome' IsGrowing make)
    (group : Direction → List ℕ → Group) (body : Runner) (bodies : BodiesRun size make body) (n : ℕ)
    (t : Template) (is : slice_get p.templates n ≡ Some t)
    (path : List ℕ) (world : World) where
  abbrev pub functions : ℕ
  functions = length p.functions

  abbrev pub context : Context
  context = template_context p size (call_at p size most_open) make group t path world

  abbrev pub q : Running
  q = record { context = context; fuel = fuel; call = run_call p most_open; body = body }

  pub template_sounds : Soundly (everything functions) q
  template_sounds = record {
    fine = record { call = calls_fine p size most_open; make = makes };
    both = calls_both p size most_open resolved.functions;
    keeps = calls_keep p size most_open;
    calls = run_calls p most_open resolved.functions;
    grows = growing;
  }

  abbrev pub template_scope : Scope
  template_scope = record {
    functions = functions;
    seen = λ n. nat_lt n (length t.parameters);
    variables = length t.parameters;
    signals = 0;
  }

  pub template_sound_scope : IsSound functions template_scope
  template_sound_scope = record { count = refl; below = λ i e. ltb-true i (length t.parameters) e }

  pub template_scoped : AreScoped template_scope t.body
  template_scoped = all_get (IsTemplateScoped functions) p.templates n t resolved.templates is

  module _ (w : Where) (arguments : List Datum) (signals : Signals) (after : World)
      (made : exec_template p size (call_at p size most_open) make group w n arguments path world
      ≡ Ok (signals, after)) where
    abbrev pub first : State
    first = template_state t arguments path world

    abbrev pub begin : Start
    begin = record { world = first.world; size = size }

    pub template_body_is : next (exec_all context t.body first) (ended_flow context) ≡ Ok
        (signals, after)
    template_body_is =
        sym (ap (λ o. next (found w WrongKind o) (λ t.
        next (exec_all (template_context p size (call_at p size most_open) make group t path world)
        t.body (template_state t arguments path world))
        (ended_flow (template_context p size (call_at p size most_open) make group t path world))))
        is) ∙ made

    pub template_flow : (z : Flow) × (exec_all context t.body first ≡ Ok z)
        × (ended_flow context z ≡ Ok (signals, after))
    template_flow = next_to (exec_all context t.body first) (ended_flow context)
        (signals, after) template_body_is

    pub template_last : (u : State) × (template_flow.0 ≡ Going u)
    template_last =
        goes_on_all (λ n k. None) begin functions q template_sounds bodies refl template_scope
        t.body first template_flow.0 template_sound_scope
        template_scoped template_flow.1

    pub template_ends : (u : State) → ended context u ≡ Ok (signals, after)
        → (a : Unit {0}) × (b : Unit {0}) × (all_written context u.frame.signals ≡ Ok a)
        × (all_fed context u.frame.parts ≡ Ok b) × (u.frame.signals ≡ signals)
        × (u.world ≡ after)
    template_ends u e =
        let one : (a : Unit {0}) × (all_written context u.frame.signals ≡ Ok a)
        × (next (all_fed context u.frame.parts) (λ v. Ok (u.frame.signals, u.world))
        ≡ Ok (signals, after)) =
        next_to (all_written context u.frame.signals)
        (λ a. next (all_fed context u.frame.parts) (λ v. Ok (u.frame.signals, u.world)))
        (signals, after) e in
        let two : (b : Unit {0}) × (all_fed context u.frame.parts ≡ Ok b)
        × (Ok' u.frame.signals u.world ≡ Ok (signals, after)) =
        next_to (all_fed context u.frame.parts) (λ v. Ok' u.frame.signals u.world)
        (signals, after) one.2 in
        let same : (u.frame.signals ≡ signals) × (u.world ≡ after) =
        both_are u.frame.signals signals u.world after two.2 in
        (one.0, two.0, one.1, two.1, same.0, same.1)

    -- what each statement keeps holds in the end
    pub template_kept : (Q : State → Type 0)
        → Closed context (behind_all template_scope t.body).signals Q → Q first
        → (u : State) × Q u × (u.frame.signals ≡ signals) × (u.world ≡ after)
    template_kept Q closed h =
        let done : ended context template_last.0 ≡ Ok (signals, after) =
        subst (λ z. ended_flow context z ≡ Ok (signals, after)) template_last.1 template_flow.2 in
        let its : (a : Unit {0}) × (b : Unit {0})
        × (all_written context template_last.0.frame.signals ≡ Ok a)
        × (all_fed context template_last.0.frame.parts ≡ Ok b) × (template_last.0.frame.signals
        ≡ signals)
        × (template_last.0.world ≡ after) = template_ends template_last.0 done in (
          template_last.0,
          good_is (FlowKept context template_sounds.keeps (behind_all template_scope t.body).signals
              Q closed)
              (exec_all context t.body first) (Going template_last.0) (template_flow.1 ∙ ap
              (λ x. Ok x) template_last.1)
              (exec_all_kept context template_sounds.keeps
              (behind_all template_scope t.body).signals Q closed t.body
              (none_declared (λ n k. None) begin functions q template_sounds bodies
              template_scope t.body
              (behind_all template_scope t.body).signals template_sound_scope template_scoped (inr
              (omega arith))) first h),
          its.4,
          its.5,
        )
