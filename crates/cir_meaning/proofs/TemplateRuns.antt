-- A template's body runs to its end, with a number for each signal, or stops as a program may.
use Rattle.std.proofs.Common.{◌≡◌, ℕ, ◌+◌, zero, suc, ◌-◌, Bool, true, false, ◌||◌, List, [], ◌∷◌}
use Rattle.std.proofs.Common.{◌++◌, length, replicate, Option, Some, None, is_some, Ok, Err, refl}
use Rattle.std.proofs.Common.{sym, ap, subst, ◌∙◌, slice_get, arith}
use Rattle.std.specs.List.{AllByRecursion}
use Rattle.cir_ast.specs.declared.operators.Direction.{Direction}
use Rattle.cir_ast.specs.declared.refusal.Kind.TheVariants.{WrongKind, NeverWritten, InputsMissing}
use Rattle.cir_ast.specs.Program.{Program, Template}
use Rattle.cir_lc.specs.Number.{Assignment}
use Rattle.cir_meaning.specs.Scoped.{Scope, IsResolved}
use Rattle.cir_meaning.specs.Tried.{Where, next, found}
use Rattle.cir_meaning.specs.Arrays.{Datum}
use Rattle.cir_meaning.specs.Frame.{SignalEntry, Signals, Part, Group, World, State, Context, Maker}
use Rattle.cir_meaning.specs.Frame.{at, entry_at, is_input, is_all_written, is_fed}
use Rattle.cir_meaning.specs.Statement.{Flow, Going, exec_all}
use Rattle.cir_meaning.specs.Bodies.{all_written, all_fed, ended, ended_flow, template_context}
use Rattle.cir_meaning.specs.Bodies.{template_state, exec_template, call_at, most_open}
use Rattle.cir_meaning.specs.RunStatements.{run_call}
use Rattle.cir_meaning.specs.Run.{Wires, RunPart, Run, RunTried, Rejected, Stopped, refusing}
use Rattle.cir_meaning.specs.RunSimple.{Outcome, Runner, Running}
use Rattle.cir_meaning.specs.RunBodies.{run_all, port_tables, run_begun, run_ended}
use Rattle.cir_meaning.specs.RunBodies.{run_template_body}
use Rattle.cir_meaning.proofs.Good.{OnSome'}
use Rattle.cir_meaning.proofs.Rows.{all_append}
use Rattle.cir_meaning.proofs.FineValues.{IsDatum, FineWorld, FineMake}
use Rattle.cir_meaning.proofs.FineBodies.{begun_fine}
use Rattle.cir_meaning.proofs.KnownValues.{KnownDatum, KnownStore}
use Rattle.cir_meaning.proofs.KnownCalls.{all_get, begun_known}
use Rattle.cir_meaning.proofs.Marking.{KeepsWires}
use Rattle.cir_meaning.proofs.Holds.{Agrees, PartAgrees, Full, Extends}
use Rattle.cir_meaning.proofs.Settling.{Variable, known_same}
use Rattle.cir_meaning.proofs.Goes.{Goes}
use Rattle.cir_meaning.proofs.GroupSizes.{Fits, IsGrowing}
use Rattle.cir_meaning.proofs.Weights.{cover_entries, cover_tables, under, Bounded}
use Rattle.cir_meaning.proofs.PartWeights.{parts_weigh}
use Rattle.cir_meaning.proofs.Standing.{Start, Numbered, parts_weight, PartStands, Stands, Adds}
use Rattle.cir_meaning.proofs.Starting.{Ends, BodiesRun, all_true}
use Rattle.cir_meaning.proofs.VariableRuns.{Soundly}
use Rattle.cir_meaning.proofs.UndecidedRuns.{variable_from}
use Rattle.cir_meaning.proofs.BranchRuns.{AfterFlow}
use Rattle.cir_meaning.proofs.SignalDeclarations.{IsShape}
use Rattle.cir_meaning.proofs.ScanPoints.{needed_to}
use Rattle.cir_meaning.proofs.ScopedQuiet.{everything}
use Rattle.cir_meaning.proofs.SignalFlows.{Shapes}
use Rattle.cir_meaning.proofs.BodyFlows.{statements_flow}
use Rattle.cir_meaning.proofs.TemplateBodies.{template_sounds, template_scope, template_sound_scope}
use Rattle.cir_meaning.proofs.TemplateBodies.{template_scoped, template_body_is, template_flow}
use Rattle.cir_meaning.proofs.TemplateBodies.{template_last, template_ends}

-- what ends after a run that goes on
ends_of : {A B C : Type 0} (P : A → B → Type 0) (Q : C → Type 0) (a : A) (m : RunTried B)
    (on : B → RunTried C) → Goes P (Ok a) m → ((b : B) → P a b → Ends Q (on b))
    → Ends Q (next m on)
unfolding Goes Ends
ends_of P Q a (Ok b) on h f = f b h
ends_of P Q a (Err (Rejected e)) on h f = absurd h
ends_of P Q a (Err (Stopped stop w log)) on h f = h

pub ends_ok : {A : Type 0} (Q : A → Type 0) (a : A) → Q a → Ends Q (Ok a)
unfolding Ends
ends_ok Q a h = h

-- the first signals of a body
pub none_entry : (count n : ℕ) → entry_at {A = SignalEntry} (replicate count None) n ≡ None
none_entry zero n = refl
none_entry (suc count) zero = refl
none_entry (suc count) (suc n) = none_entry count n

none_covered : (m count : ℕ) → cover_entries m (replicate count None) ≡ 0
none_covered m zero = refl
none_covered m (suc count) = none_covered m count

none_first : (c u : ℕ) → c ≡ 0 → c + (0 + u) ≡ u
none_first c u e = omega arith

-- two lists behind each other
all_front : {A : Type 0} (P : A → Type 0) (xs ys : List A) → AllByRecursion P (xs ++ ys)
    → AllByRecursion P xs
all_front P [] ys h = tt
all_front P (x ∷ xs) ys h = (h.0, all_front P xs ys h.1)

all_back : {A : Type 0} (P : A → Type 0) (xs ys : List A) → AllByRecursion P (xs ++ ys)
    → AllByRecursion P ys
all_back P [] ys h = h
all_back P (x ∷ xs) ys h = all_back P xs ys h.1

parts_agree : (v : Assignment) (ps : List Part) (qs : List RunPart)
    → AllByRecursion (λ t. Agrees v t.signals t.wires) (port_tables ps qs)
    → (j : ℕ) (p : Part) (q : RunPart) → slice_get ps j ≡ Some p → slice_get qs j ≡ Some q
    → PartAgrees v p q
parts_agree v [] qs h j p q ep eq = cc
parts_agree v (x ∷ ps) [] h j p q ep eq = cc
parts_agree v (x ∷ ps) (y ∷ qs) h zero p q ep eq =
    let same_p : x ≡ p = cc in
    let same_q : y ≡ q = cc in
    subst (λ a. PartAgrees v a q) same_p (subst (λ b. PartAgrees v x b) same_q (
      h.0,
      all_front (λ t. Agrees v t.signals t.wires) y.inside (port_tables ps qs) h.1,
    ))
parts_agree v (x ∷ ps) (y ∷ qs) h (suc j) p q ep eq =
    parts_agree v ps qs
    (all_back (λ t. Agrees v t.signals t.wires) y.inside (port_tables ps qs) h.1) j p q ep eq

parts_full : (ps : List Part) (qs : List RunPart)
    → ((j : ℕ) (p : Part) → slice_get ps j ≡ Some p
    → (q : RunPart) × (slice_get qs j ≡ Some q)
    × Full record { signals = p.signals; wires = q.ports } × AllByRecursion Full q.inside)
    → AllByRecursion Full (port_tables ps qs)
parts_full [] qs h = tt
parts_full (p ∷ ps) [] h = tt
parts_full (p ∷ ps) (q ∷ qs) h =
    let first : (x : RunPart) × (Some q ≡ Some x)
    × Full record { signals = p.signals; wires = x.ports } × AllByRecursion Full x.inside =
    h 0 p refl in
    let same : first.0 ≡ q = let both : Some q ≡ Some first.0 = first.1 in cc in (
      subst (λ (x : RunPart). Full record { signals = p.signals; wires = x.ports }) same first.2,
      all_append Full q.inside (port_tables ps qs)
          (subst (λ (x : RunPart). AllByRecursion Full x.inside) same first.3)
          (parts_full ps qs (λ j x e. h (suc j) x e)),
    )

-- the ends of a body
either_written : (a b : Bool) → (a || b) ≡ true → a ≡ false → b ≡ true
either_written true b h e = cc
either_written false b h e = h

written_of : (k : Context) (xs : Signals) (u : Unit {0}) → all_written k xs ≡ Ok u → (n : ℕ)
    (e : SignalEntry) → entry_at xs n ≡ Some e → is_input e.direction ≡ false
    → is_all_written e ≡ true
written_of k [] u h n e there i = cc
written_of k (None ∷ xs) u h zero e there i = cc
written_of k (None ∷ xs) u h (suc n) e there i = written_of k xs u h n e there i
written_of k (Some d ∷ xs) u h zero e there i =
    let both : ((is_input d.direction || is_all_written d) ≡ true) × (all_written k xs ≡ Ok u) =
    needed_to (is_input d.direction || is_all_written d) (at k d.spot) NeverWritten
    (all_written k xs) u h in
    let same : d ≡ e = cc in
    subst (λ x. is_all_written x ≡ true) same
    (either_written (is_input d.direction) (is_all_written d) both.0
    (subst (λ x. is_input x.direction ≡ false) (sym same) i))
written_of k (Some d ∷ xs) u h (suc n) e there i =
    let both : ((is_input d.direction || is_all_written d) ≡ true) × (all_written k xs ≡ Ok u) =
    needed_to (is_input d.direction || is_all_written d) (at k d.spot) NeverWritten
    (all_written k xs) u h in
    written_of k xs u both.1 n e there i

fed_of : (k : Context) (ps : List Part) (u : Unit {0}) → all_fed k ps ≡ Ok u → (j : ℕ) (p : Part)
    → slice_get ps j ≡ Some p → is_fed p.signals ≡ true
fed_of k [] u h j p e = cc
fed_of k (x ∷ ps) u h zero p e =
    let both : (is_fed x.signals ≡ true) × (all_fed k ps ≡ Ok u) =
    needed_to (is_fed x.signals) (at k x.spot) InputsMissing (all_fed k ps) u h in
    let same : x ≡ p = cc in subst (λ y. is_fed y.signals ≡ true) same both.0
fed_of k (x ∷ ps) u h (suc j) p e =
    let both : (is_fed x.signals ≡ true) × (all_fed k ps ≡ Ok u) =
    needed_to (is_fed x.signals) (at k x.spot) InputsMissing (all_fed k ps) u h in
    fed_of k ps u both.1 j p e

-- what the run of a body has made
pub record Ran (size : ℕ) (signals : Signals) (given : Wires) (before after : World) (o : Outcome)
    : Type 0 where
  pub keeps : KeepsWires given o.own
  pub all : (n : ℕ) (e : SignalEntry) → entry_at signals n ≡ Some e → (k : ℕ) (b : Bool)
      → slice_get e.written k ≡ Some b → is_some (o.own n k) ≡ true
  pub full : AllByRecursion Full o.inside
  pub paid : (v : Assignment) → Agrees v signals o.own
      → AllByRecursion (λ t. Agrees v t.signals t.wires) o.inside → Adds v before after
  pub weighs : Bounded after.sizes → (m : ℕ)
      → cover_entries m signals + (cover_tables m o.inside + under size before.sizes m)
      ≡ under size after.sizes m

pub some_of : (o : Option ℕ) → is_some o ≡ true → (x : ℕ) × (o ≡ Some x)
some_of None e = cc
some_of (Some x) e = (x, refl)

module _ (p : Program) (resolved : IsResolved p) (size fuel : ℕ) (make : Option Maker)
    (makes : OnSome' FineMake make) (growing : OnSome' IsGrowing make)
    (group : Direction → List ℕ → Group) (body : Runner)
    (bodies : BodiesRun size make body) (w : Where) (n : ℕ) (t : Template)
    (is : slice_get p.templates n ≡ Some t) (arguments : List Datum) (path : List ℕ)
    (world : World) (given : Wires) (log : List (List ℕ)) (known : KnownStore arguments)
    (data' : AllByRecursion IsDatum arguments) (fine : FineWorld world) (fits : Fits world.sizes)
    (signals : Signals)
    (after : World) where
  abbrev functions : ℕ
  functions = length p.functions

  abbrev context : Context
  context = template_context p size (call_at p size most_open) make group t path world

  abbrev q : Running
  q = record { context = context; fuel = fuel; call = run_call p most_open; body = body }

  sounds : Soundly (everything functions) q
  sounds = template_sounds p resolved size fuel make makes growing group body bodies n t is path
      world

  abbrev scope : Scope
  scope = template_scope p resolved size fuel make makes growing group body bodies n t is path world

  abbrev first : State
  first = template_state t arguments path world

  abbrev begin : Start
  begin = record { world = first.world; size = size }

  abbrev begun : Run
  begun = run_begun t arguments path world given log

  variables_known : (E : Assignment → Type 0) (i : ℕ) → Variable E first.frame.variables [] i
  variables_known E i =
      variable_from E first.frame.variables [] i (λ d there.
      known_same E d None (all_get KnownDatum first.frame.variables i d
      (begun_known arguments (t.variables - length arguments) known) there))

  stands : Stands make given begin None begun
  stands = record {
    variables = variables_known (Extends begun);
    own = λ i e there k b at.
        let no : None ≡ Some e = sym (none_entry t.signals i) ∙ there in cc;
    blank = λ i none k. refl;
    kept = λ i k x e. e;
    parts = λ j x e. cc;
    count = refl;
    fine = (
      begun_fine arguments (t.variables - length arguments) t.signals t.components data',
      fine,
    );
    equations = λ v ex debts before. before;
    numbered = (
      fits,
      tt,
      (λ few m. none_first (cover_entries m (replicate t.signals None))
          (under size world.sizes m) (none_covered m t.signals)),
    );
  }

  module _ (made : exec_template p size (call_at p size most_open) make group w n arguments path
      world ≡ Ok (signals, after))
      (shapes : (i : ℕ) (e : SignalEntry) → entry_at signals i ≡ Some e → IsShape given i e) where
    abbrev flow : (z : Flow) × (exec_all context t.body first ≡ Ok z)
        × (ended_flow context z ≡ Ok (signals, after))
    flow =
        template_flow p resolved size fuel make makes growing group body bodies n t is path world w
        arguments signals after made

    last : (u : State) × (flow.0 ≡ Going u)
    last =
        template_last p resolved size fuel make makes growing group body bodies n t is path world w
        arguments signals after made

    ends : (u : State) → ended context u ≡ Ok (signals, after)
        → (a : Unit {0}) × (b : Unit {0}) × (all_written context u.frame.signals ≡ Ok a)
        × (all_fed context u.frame.parts ≡ Ok b) × (u.frame.signals ≡ signals)
        × (u.world ≡ after)
    ends =
        template_ends p resolved size fuel make makes growing group body bodies n t is path world w
        arguments signals after made

    shapes_of : (u : State) → exec_all context t.body first ≡ Ok (Going u) → Shapes given u
    shapes_of u e i x there =
        let its : (a : Unit {0}) × (b : Unit {0}) × (all_written context u.frame.signals ≡ Ok a)
        × (all_fed context u.frame.parts ≡ Ok b) × (u.frame.signals ≡ signals)
        × (u.world ≡ after) =
        ends u (sym (ap (λ m. next m (ended_flow context)) e)
        ∙ template_body_is p resolved size fuel make makes growing group body bodies n t is path
        world w
        arguments signals after made) in
        shapes i x (subst (λ xs. entry_at xs i ≡ Some x) its.4 there)

    goes : Goes (AfterFlow make given begin (everything functions) q sounds)
        (exec_all context t.body first) (run_all q t.body begun)
    goes =
        statements_flow given begin functions q sounds bodies refl scope t.body
        (template_sound_scope p resolved size fuel make makes growing group body bodies n t is path
        world)
        (template_scoped p resolved size fuel make makes growing group body bodies n t is path
        world)
        begun stands (λ i le. none_entry t.signals i) shapes_of

    -- behind its last statement
    ran : (r : Run) → Stands make given begin None r
        → ended context r.known ≡ Ok (signals, after)
        → Ran size signals given world after record {
          own = r.own;
          inside = port_tables r.known.frame.parts r.parts;
          log = r.log;
        }
    ran r h e = record {
      keeps = h.kept;
      all = λ i x there k b at. all_of i x there k b at (is_input x.direction) refl;
      full = parts_full r.known.frame.parts r.parts (λ j x e.
          let there : (y : RunPart) × (slice_get r.parts j ≡ Some y)
          × PartStands size make (is_fed x.signals) x y = h.parts j x e in
          let fed : is_fed x.signals ≡ true = fed_of context r.known.frame.parts its.1 its.3 j x e
          in (
            there.0,
            there.1,
            (λ i z at k b mark. there.2.outputs fed i z at k b mark),
            there.2.full fed,
          ));
      paid = λ v agrees inside. subst (λ u. Adds v world u) its.5
          (h.equations v (
            subst (λ xs. Agrees v xs r.own) (sym its.4) agrees,
            parts_agree v r.known.frame.parts r.parts inside,
          ) (λ j x y ex ey undone.
          let fed : is_fed x.signals ≡ true = fed_of context r.known.frame.parts its.1 its.3 j x ex
          in
          cc));
      weighs = weighs;
    }
      where
        its : (a : Unit {0}) × (b : Unit {0})
            × (all_written context r.known.frame.signals ≡ Ok a)
            × (all_fed context r.known.frame.parts ≡ Ok b) × (r.known.frame.signals ≡ signals)
            × (r.known.world ≡ after)
        its = ends r.known e

        weighs : Bounded after.sizes → (m : ℕ)
            → cover_entries m signals
            + (cover_tables m (port_tables r.known.frame.parts r.parts)
            + under size world.sizes m) ≡ under size after.sizes m
        weighs few m =
            let numbers : Numbered make begin after.sizes signals r.parts =
            subst (λ (u : World). Numbered make begin u.sizes signals r.parts) its.5
            (subst (λ xs. Numbered make begin r.known.world.sizes xs r.parts) its.4 h.numbered) in
            let tables : cover_tables m (port_tables r.known.frame.parts r.parts)
            ≡ parts_weight make size m r.parts =
            parts_weigh make size after.sizes r.known.frame.parts r.parts m few h.count numbers.1
            (λ j x e.
            let there : (y : RunPart) × (slice_get r.parts j ≡ Some y)
            × PartStands size make (is_fed x.signals) x y = h.parts j x e in (
              there.0,
              there.1,
              there.2.weighs
                  (fed_of context r.known.frame.parts its.1 its.3 j x e),
            )) in
            ap (λ (n : ℕ). cover_entries m signals + (n + under size world.sizes m)) tables
            ∙ numbers.2 few m

        all_of : (i : ℕ) (x : SignalEntry) → entry_at signals i ≡ Some x → (k : ℕ) (b : Bool)
            → slice_get x.written k ≡ Some b → (c : Bool) → is_input x.direction ≡ c
            → is_some (r.own i k) ≡ true
        all_of i x there k b at true input =
            let has : (y : ℕ) × (given i k ≡ Some y) =
            some_of (given i k) (shapes i x there k b at ∙ input) in
            ap is_some (h.kept i k has.0 has.1)
        all_of i x there k b at false input =
            let known_there : entry_at r.known.frame.signals i ≡ Some x =
            subst (λ xs. entry_at xs i ≡ Some x) (sym its.4) there in
            h.own i x known_there k b at
            ∙ all_true x.written k b
            (written_of context r.known.frame.signals its.0 its.2 i x known_there input) at

    pub template_runs : Ends (Ran size signals given world after)
        (run_template_body p size fuel (call_at p size most_open) make group body w n arguments path
        world given log)
    template_runs =
        subst (λ o. Ends (Ran size signals given world after)
        (next (refusing (found w WrongKind o)) (λ t.
        next (run_all record {
          context = template_context p size (call_at p size most_open) make group t path world;
          fuel = fuel;
          call = run_call p most_open;
          body = body;
        } t.body (run_begun t arguments path world given log))
        (run_ended (template_context p size (call_at p size most_open) make group t path world)))))
        (sym is)
        (ends_of (AfterFlow make given begin (everything functions) q sounds)
        (Ran size signals given world after) (Going last.0) (run_all q t.body begun)
        (run_ended context)
        (subst (λ m. Goes (AfterFlow make given begin (everything functions) q sounds) m
        (run_all q t.body begun)) (flow.1 ∙ ap (λ x. Ok x) last.1) goes) (λ r after_r.
        let done : ended context r.known ≡ Ok (signals, after) =
        subst (λ u. ended context u ≡ Ok (signals, after)) (sym after_r.0)
        (subst (λ z. ended_flow context z ≡ Ok (signals, after)) last.1 flow.2) in
        subst (λ m. Ends (Ran size signals given world after) (next (refusing m) (λ u. Ok record {
          own = r.own;
          inside = port_tables r.known.frame.parts r.parts;
          log = r.log;
        }))) (sym done)
        (ends_ok (Ran size signals given world after) record {
          own = r.own;
          inside = port_tables r.known.frame.parts r.parts;
          log = r.log;
        } (ran r after_r.1 done))))
