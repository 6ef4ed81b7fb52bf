-- The equations of a program depend on declared signals alone, and the sizes of the groups are
-- those of the rows.
use Rattle.std.proofs.Common.{◌≡◌, ℕ, zero, suc, ◌-◌, List, [], length, replicate, Option, None, Ok}
use Rattle.std.proofs.Common.{refl, slice_get, codes}
use Rattle.cir_ast.specs.declared.program.Meant.{Meant}
use Rattle.cir_ast.specs.declared.program.Meant.TheVariants as meant
use Rattle.cir_ast.specs.declared.operators.Direction.{Direction}
use Rattle.cir_ast.specs.declared.refusal.Kind.TheVariants.{WrongKind}
use Rattle.cir_ast.specs.Program.{Program, Main, Template}
use Rattle.cir_meaning.specs.Dependence.{IsAllDeclared}
use Rattle.cir_meaning.specs.SignalFree.{AreFunctionsFree}
use Rattle.cir_meaning.specs.Tried.{Where, found}
use Rattle.cir_meaning.specs.Limits.{limits, tested, plus}
use Rattle.cir_meaning.specs.Arrays.{Datum, single}
use Rattle.cir_meaning.specs.Values.{Known}
use Rattle.cir_meaning.specs.Frame.{Signals, Group, Outputs, PublicInputs, PrivateInputs, Others}
use Rattle.cir_meaning.specs.Frame.{World, State, Caller, Maker, Context, at, settle}
use Rattle.cir_meaning.specs.Evaluate.{arguments_in}
use Rattle.cir_meaning.specs.Statement.{Flow, Going, Returned, exec_all}
use Rattle.cir_meaning.specs.Bodies.{numbered_others, all_written, all_fed, ended, ended_flow}
use Rattle.cir_meaning.specs.Bodies.{template_context, template_state, exec_template, call_at}
use Rattle.cir_meaning.specs.Bodies.{most_open, make_at}
use Rattle.cir_meaning.specs.Compile.{main_group, main_context, main_state, empty_world, exec_main}
use Rattle.cir_meaning.proofs.Good.{OnGood, good_ok, good_bad, good_next, good_on, good_is, OnSome'}
use Rattle.cir_meaning.proofs.Pairs.{good_both}
use Rattle.cir_meaning.proofs.Rows.{all_append, all_replicate}
use Rattle.cir_meaning.proofs.Likes.{CallKeeps, Like, like_itself}
use Rattle.cir_meaning.proofs.KnownValues.{KnownDatum, KnownStore, CallKnown}
use Rattle.cir_meaning.proofs.KnownCalls.{both_known, calls_both, calls_keep}
use Rattle.cir_meaning.proofs.Creating.{arguments_known, arguments_like}
use Rattle.cir_meaning.proofs.DependingValues.{DatumOver, known_over}
use Rattle.cir_meaning.proofs.DependingWriting.{AtRows, SizesAre, WorldOver, StateOver, MadeOver}
use Rattle.cir_meaning.proofs.DependingWriting.{MakeOver, own_base, counts_over, like_over}
use Rattle.cir_meaning.proofs.DependingWriting.{all_more}
use Rattle.cir_meaning.proofs.Keepings.{FlowIs}
use Rattle.cir_meaning.proofs.DependingStatements.{exec_all_over}

module _ (size : ℕ) where
  begun_over : (t : Template) (arguments : List Datum) (path : List ℕ) (world : World)
      → KnownStore arguments → WorldOver size world.rows world
      → StateOver size world.rows (template_state t arguments path world)
  begun_over t arguments path world known h = record {
    frame = record {
      variables = all_append (DatumOver (AtRows size world.rows)) arguments
          (replicate (t.variables - length arguments) (single (Known 0)))
          (all_more KnownDatum (DatumOver (AtRows size world.rows)) arguments
          (λ d k. known_over (AtRows size world.rows) d.items k) known)
          (all_replicate (DatumOver (AtRows size world.rows)) (t.variables - length arguments)
          (single (Known 0)) (tt, tt));
      signals = all_replicate (OnSome' _) t.signals None tt;
      parts = tt;
    };
    world = record { sizes = h.sizes; equations = h.equations; grows = h.grows };
  }

  ended_over : (world : World) (k : Context) (s : State) → StateOver size world.rows s
      → OnGood (MadeOver size world.rows) (ended k s)
  ended_over world k s g =
      good_on (MadeOver size world.rows) (all_written k s.frame.signals) _ (λ u.
      good_on (MadeOver size world.rows) (all_fed k s.frame.parts) _ (λ v.
      good_ok (MadeOver size world.rows) (s.frame.signals, s.world)
      record { world = g.world; signals = g.frame.signals }))

  ended_flow_over : (world : World) (k : Context) (f : Flow)
      → FlowIs (StateOver size world.rows) (λ d after. WorldOver size world.rows after) f
      → OnGood (MadeOver size world.rows) (ended_flow k f)
  ended_flow_over world k (Going s) h = ended_over world k s h
  ended_flow_over world k (Returned d after) h =
      good_ok (MadeOver size world.rows) ([], after) record { world = h; signals = tt }

  template_over : (p : Program) (call : Caller) (make : Option Maker)
      (group : Direction → List ℕ → Group) → CallKeeps call → CallKnown call
      → OnSome' (MakeOver size) make → MakeOver size (exec_template p size call make group)
  template_over p call make group keeps known makes w n arguments path world given h =
      good_on (MadeOver size world.rows) (found w WrongKind (slice_get p.templates n)) _ (λ t.
      let k : Context = template_context p size call make group t path world in
      good_next (FlowIs (StateOver size world.rows) (λ d after. WorldOver size world.rows after))
      (MadeOver size world.rows)
      (exec_all k t.body (template_state t arguments path world)) _
      (exec_all_over size world.rows k
      record { same = refl; calls = record { keeps = keeps; known = known }; makes = makes }
      t.body (template_state t arguments path world) (begun_over t arguments path world given h))
      (ended_flow_over world k))

  calls_known : (p : Program) (room : ℕ) → AreFunctionsFree p → CallKnown (call_at p size room)
  calls_known p room free = both_known (call_at p size room) (calls_both p size room free)

  makes_over : (p : Program) (room : ℕ) → AreFunctionsFree p
      → OnSome' (MakeOver size) (make_at p size room)
  makes_over p zero free = tt
  makes_over p (suc room) free =
      template_over p (call_at p size most_open) (make_at p size room) numbered_others
      (calls_keep p size most_open) (calls_known p most_open free) (makes_over p room free)

  empty_over : WorldOver size [] empty_world
  empty_over = record { sizes = sizes; equations = tt; grows = λ n h. h }
    where
      sizes : SizesAre empty_world.sizes []
      sizes Outputs = refl
      sizes PublicInputs = refl
      sizes PrivateInputs = refl
      sizes Others = refl

  main_begun : StateOver size [] main_state
  main_begun = record {
    frame = record { variables = tt; signals = tt; parts = tt };
    world = empty_over;
  }

  abbrev pub MainOver : Signals × World → Type 0
  MainOver x = WorldOver size x.1.rows x.1

  settled : (w : Where) (s : State) → WorldOver size s.world.rows s.world
      → OnGood (λ t. WorldOver size t.world.rows t.world) (settle w s)
  settled w s h =
      good_on (λ t. WorldOver size t.world.rows t.world)
      (tested limits w (plus s.world.counts s.frame.added)) _
      (λ c. good_ok (λ t. WorldOver size t.world.rows t.world) _
      (counts_over size s.world.rows s.world (record c { elements = 0 }) h))

  pub main_over : (p : Program) (m : Main) (t : Meant) → AreFunctionsFree p
      → OnGood MainOver (exec_main p size m t)
  main_over p m (meant.Template t) free =
      let k : Context = main_context p size m in
      good_next (λ x. KnownStore x.0 × Like main_state x.1) MainOver
      (arguments_in k (at k m.spot) m.arguments main_state) _
      (good_both (λ x. KnownStore x.0) (λ x. Like main_state x.1)
      (arguments_in k (at k m.spot) m.arguments main_state)
      (arguments_known k (at k m.spot) m.arguments main_state)
      (arguments_like k (calls_keep p size most_open) main_state (at k m.spot) m.arguments
      main_state (like_itself main_state)))
      (λ x q.
      let start : StateOver size [] x.1 = like_over size [] main_state x.1 q.1 main_begun in
      good_next (MadeOver size x.1.world.rows) MainOver
      (exec_template p size (call_at p size most_open) (make_at p size 255)
      (main_group m.public_names) (at k m.spot) t x.0 (codes "main") x.1.world) _
      (template_over p (call_at p size most_open) (make_at p size 255)
      (main_group m.public_names) (calls_keep p size most_open) (calls_known p most_open free)
      (makes_over p 255 free) (at k m.spot) t x.0 (codes "main") x.1.world q.0
      (own_base size [] x.1.world start.world))
      (λ y r. good_next (λ t. WorldOver size t.world.rows t.world) MainOver
      (settle (at k m.spot) record { frame = x.1.frame; world = y.1 }) _
      (settled (at k m.spot) record { frame = x.1.frame; world = y.1 }
      (own_base size x.1.world.rows y.1 r.world))
      (λ t f. good_ok MainOver (y.0, t.world) f)))
  main_over p m meant.Other free = good_bad MainOver _
  main_over p m (meant.Variable n) free = good_bad MainOver _
  main_over p m (meant.Signal direction n) free = good_bad MainOver _
  main_over p m (meant.Component n) free = good_bad MainOver _
  main_over p m (meant.Function n) free = good_bad MainOver _

pub all_declared : (p : Program) (size : ℕ) (m : Main) (t : Meant) (signals : Signals) (w : World)
    → AreFunctionsFree p → exec_main p size m t ≡ Ok (signals, w) → IsAllDeclared size w
all_declared p size m t signals w free e =
    let over : WorldOver size w.rows w =
    good_is (MainOver size) (exec_main p size m t) (signals, w) e (main_over size p m t free) in
    record { sizes = over.sizes; equations = over.equations }
