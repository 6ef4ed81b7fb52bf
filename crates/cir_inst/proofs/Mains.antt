-- The execution of main, step by step.
use Rattle.std.proofs.Common.{◌≡◌, ℕ, List, [], Option, Some, None, Result, Ok, Err, sym, ap, subst}
use Rattle.std.proofs.Common.{◌∙◌, slice_get}
use Rattle.std.specs.Prelude.{◌^◌, codes, IsErrAnd}
use Rattle.std.specs.Borrow.{MutBor}
use Rattle.std.specs.declared.vec.Vec.{Vec}
use Rattle.std.specs.declared.alloc.Global.{Global}
use Rattle.gold_field.specs.declared.form.Constraint.{Constraint}
use Rattle.cir_ast.specs.declared.program.Meant.TheVariants as meant
use Rattle.cir_ast.specs.declared.refusal.Kind.TheVariants.{WrongKind}
use Rattle.cir_ast.specs.declared.program.Meant.{Meant}
use Rattle.cir_ast.specs.declared.program.Spot.{Spot}
use Rattle.cir_ast.specs.Program.{Program, Main, Template, bare_program}
use Rattle.cir_meaning.specs.Tried.{Where, Tried, next, found}
use Rattle.cir_meaning.specs.Arrays.{Datum}
use Rattle.cir_meaning.specs.Limits.{Counts, nothing}
use Rattle.cir_meaning.specs.Source.{Equation, IsSource}
use Rattle.cir_meaning.specs.Frame as F
use Rattle.cir_meaning.specs.Frame.{Caller, Context, State, World, at, begun, settle}
use Rattle.cir_meaning.specs.Evaluate.{arguments_in}
use Rattle.cir_meaning.specs.Bodies.{call_at, make_at, most_open, exec_template}
use Rattle.cir_meaning.specs.SignalFree.{AreFunctionsFree}
use Rattle.cir_meaning.specs.Compile.{empty_world, exec_main, group_size, main_context, main_group}
use Rattle.cir_meaning.specs.Compile.{main_state}
use Rattle.cir_meaning.proofs.CountingBodies.{all_few}
use Rattle.cir_meaning.proofs.DependingBodies.{all_declared}
use Rattle.cir_arrays.specs.declared.arrays.Datum.{Datum as CodeDatum}
use Rattle.cir_frame.specs.declared.frame.Frame.{Frame}
use Rattle.cir_frame.specs.declared.signal.SignalEntry.{SignalEntry}
use Rattle.cir_frame.specs.declared.world.World.{World as CodeWorld}
use Rattle.cir_arrays.specs.declared.stop.Fault.{Fault}
use Rattle.cir_arrays.specs.Counted.{counts_of}
use Rattle.cir_arrays.specs.Stopped.{IsRefusal}
use Rattle.cir_frame.specs.Shown.{frame_of, signals_of, state_of, world_of}
use Rattle.cir_arrays.proofs.Exits.{exits}
use Rattle.cir_evaluate.specs.declared.context.Context.{Context as CodeContext}
use Rattle.cir_evaluate.specs.Within.{Called, Kept, Means, at_spot, context_of, kept_of}
use Rattle.cir_assign.specs.Leads.{IsListed}
use Rattle.cir_create.specs.Makes.{Creates}
use Rattle.cir_inst.specs.Made.{Makes}
use Rattle.cir_inst.specs.Opened.{template_made}
use Rattle.cir_inst.proofs.Openings.{Answers, calls_mean}

-- a fault that is handed on
pub exit_makes : (r : Result CodeWorld Fault) (e : Fault) (m : Tried (F.Signals × World))
    → IsErrAnd r (λ x. x ≡ e) → IsRefusal e m → Makes r m
exit_makes (Ok w) e m is h = absurd is
exit_makes (Err f) e m is h = subst (λ (x : Fault). IsRefusal x m) (sym is) h

-- main's template in a world
abbrev pub opening : Program → List (List ℕ) → Where → ℕ → List Datum → World
    → Tried (F.Signals × World)
opening p public_names w t ds world =
    exec_template p group_size (call_at p group_size most_open) (make_at p group_size 255)
    (main_group public_names) w t ds (codes "main") world

pub opening_found : (p : Program) (names : List (List ℕ)) (w : Where) (n : ℕ) (t : Template)
    (ds : List Datum) (world : World) → slice_get p.templates n ≡ Some t
    → opening p names w n ds world
    ≡ template_made p (call_at p group_size most_open) (make_at p group_size 255)
    (main_group names) t ds (codes "main") world
opening_found p names w n t ds world e =
    ap (λ (o : Option Template). next (found w WrongKind o) (λ t.
    template_made p (call_at p group_size most_open) (make_at p group_size 255)
    (main_group names) t ds (codes "main") world)) e

-- main in a context, behind its arguments and from its beginning
abbrev behind : Program → Main → Context → ℕ → List Datum → State → Tried (F.Signals × World)
behind p m k t ds s =
    next (opening p m.public_names (at k m.spot) t ds s.world) (λ (signals, world).
    next (settle (at k m.spot) record { frame = s.frame; world = world })
    (λ s1. Ok (signals, s1.world)))

abbrev within : Program → Main → Context → ℕ → Tried (F.Signals × World)
within p m k t =
    next (arguments_in k (at k m.spot) m.arguments main_state) (λ (ds, s). behind p m k t ds s)

within_is : (p : Program) (m : Main) (k : Context) (t : ℕ) → k ≡ main_context p group_size m
    → exec_main p group_size m (meant.Template t) ≡ within p m k t
within_is p m k t e = ap (λ (j : Context). within p m j t) (sym e)

-- the state in which main begins
pub main_begun : (frame : Frame) (w : CodeWorld)
    → ((c : Counts) → frame_of frame c ≡ record (begun [] 0 0 0) { added = c })
    → counts_of w.added ≡ nothing → world_of w [] ≡ empty_world
    → state_of frame w [] ≡ main_state
main_begun frame w e f g =
    let first : frame_of frame (counts_of w.added) ≡ begun [] 0 0 0 =
    e (counts_of w.added) ∙ ap (λ (c : Counts). record (begun [] 0 0 0) { added = c }) f in
    λ i. record { frame = first i; world = g i }

module _ (p : Program) (m : Main) (k : Context) (t : ℕ) (is : k ≡ main_context p group_size m)
    (s : State) (first : s ≡ main_state) where
  abbrev main : Tried (F.Signals × World)
  main = exec_main p group_size m (meant.Template t)

  pub arguments_stop : (f : Fault) → IsRefusal f (arguments_in k (at k m.spot) m.arguments s)
      → IsRefusal f main
  arguments_stop f h =
      subst (λ (x : Tried (F.Signals × World)). IsRefusal f x) (sym (within_is p m k t is))
      (exits f (arguments_in k (at k m.spot) m.arguments main_state) (λ (ds, s).
      behind p m k t ds s)
      (subst (λ (x : State). IsRefusal f (arguments_in k (at k m.spot) m.arguments x)) first h))

  module _ (ds : List Datum) (s1 : State)
      (given : arguments_in k (at k m.spot) m.arguments s ≡ Ok (ds, s1)) where
    goes : main ≡ behind p m k t ds s1
    goes =
        within_is p m k t is
        ∙ ap (λ (x : State). next (arguments_in k (at k m.spot) m.arguments x)
        (λ (ds, s). behind p m k t ds s)) (sym first)
        ∙ ap (λ (x : Tried (List Datum × State)). next x (λ (ds, s). behind p m k t ds s)) given

    pub opening_stop : (f : Fault)
        → IsRefusal f (opening p m.public_names (at k m.spot) t ds s1.world)
        → IsRefusal f main
    opening_stop f h =
        subst (λ (x : Tried (F.Signals × World)). IsRefusal f x) (sym goes)
        (exits f (opening p m.public_names (at k m.spot) t ds s1.world) (λ (signals, world).
        next (settle (at k m.spot) record { frame = s1.frame; world = world })
        (λ s1. Ok (signals, s1.world))) h)

    module _ (signals : F.Signals) (world : World)
        (made : opening p m.public_names (at k m.spot) t ds s1.world ≡ Ok (signals, world)) where
      settles : main
          ≡ next (settle (at k m.spot) record { frame = s1.frame; world = world })
          (λ s1. Ok (signals, s1.world))
      settles =
          goes ∙ ap (λ (x : Tried (F.Signals × World)). next x (λ (signals, world).
          next (settle (at k m.spot) record { frame = s1.frame; world = world })
          (λ s1. Ok (signals, s1.world)))) made

      pub settle_stop : (f : Fault)
          → IsRefusal f (settle (at k m.spot) record { frame = s1.frame; world = world })
          → IsRefusal f main
      settle_stop f h =
          subst (λ (x : Tried (F.Signals × World)). IsRefusal f x) (sym settles)
          (exits f (settle (at k m.spot) record { frame = s1.frame; world = world })
          (λ s1. Ok (signals, s1.world)) h)

      pub main_goes : (s2 : State)
          → settle (at k m.spot) record { frame = s1.frame; world = world } ≡ Ok s2
          → main ≡ Ok (signals, s2.world)
      main_goes s2 e = settles ∙ ap (λ (x : Tried State). next x (λ s1. Ok (signals, s1.world))) e

-- the same state by what is added
pub same_added : (frame : Frame) (w v : CodeWorld) (es : List Equation) → v.added ≡ w.added
    → state_of frame v es
    ≡ record { frame = frame_of frame (counts_of w.added); world = world_of v es }
same_added frame w v es e =
    ap (λ (c : Counts). record { frame = frame_of frame c; world = world_of v es }) (ap counts_of e)

-- the world that is made is the meaning's
module _ (p : Program) (m : Main) (k : Context) (t : ℕ) (free : AreFunctionsFree p)
    (is : k ≡ main_context p group_size m) (frame : Frame) (w0 w1 w2 : CodeWorld)
    (first : state_of frame w0 [] ≡ main_state) (ds : List Datum)
    (given : arguments_in k (at k m.spot) m.arguments (state_of frame w0 [])
    ≡ Ok (ds, state_of frame w1 []))
    (added : w2.added ≡ w1.added) where
  pub limit_stop : (signals : Vec (Option SignalEntry) Global) (f : Fault)
      → Creates [] w1 w2 (Ok signals)
      (opening p m.public_names (at k m.spot) t ds (world_of w1 []))
      → ((es : List Equation) → IsRefusal f (settle (at k m.spot) (state_of frame w2 es)))
      → IsRefusal f (exec_main p group_size m (meant.Template t))
  limit_stop signals f (es, e, lists) h =
      settle_stop p m k t is (state_of frame w0 []) first ds (state_of frame w1 []) given
      (signals_of signals.items) (world_of w2 es) e f
      (subst (λ (s : State). IsRefusal f (settle (at k m.spot) s))
      (same_added frame w1 w2 es added) (h es))

  pub world_made : (w3 : CodeWorld) (signals : Vec (Option SignalEntry) Global)
      → Creates [] w1 w2 (Ok signals)
      (opening p m.public_names (at k m.spot) t ds (world_of w1 []))
      → ((es : List Equation) → settle (at k m.spot) (state_of frame w2 es)
      ≡ Ok (state_of frame w3 es))
      → w0.constraints.items ≡ [] → kept_of w1 ≡ kept_of w0 → kept_of w3 ≡ kept_of w2
      → Makes (Ok w3) (exec_main p group_size m (meant.Template t))
  world_made w3 signals (es, e, lists) h none same later =
      let whole : exec_main p group_size m (meant.Template t)
      ≡ Ok (signals_of signals.items, world_of w3 es) =
      main_goes p m k t is (state_of frame w0 []) first ds (state_of frame w1 []) given
      (signals_of signals.items) (world_of w2 es) e (state_of frame w3 es)
      (subst (λ (s : State). settle (at k m.spot) s ≡ Ok (state_of frame w3 es))
      (same_added frame w1 w2 es added) (h es)) in
      let start : IsListed [] w1 =
      subst (λ (ks : List Constraint). IsSource (2 ^ 32) [] ks)
      (sym (ap (λ (x : Kept). x.constraints) same ∙ none)) tt in (
        es,
        signals_of signals.items,
        whole,
        record {
          listed = subst (λ (ks : List Constraint). IsSource (2 ^ 32) es ks)
              (sym (ap (λ (x : Kept). x.constraints) later)) (lists.listed start);
          declared = all_declared p group_size m (meant.Template t) (signals_of signals.items)
              (world_of w3 es) free whole;
          few = all_few p group_size m (meant.Template t) (signals_of signals.items)
              (world_of w3 es) whole;
        },
      )

-- main in a context whose closure calls functions as the meaning does
pub ran_in : {C : Type 0} (post : Called) (x y : CodeContext C) (m : Main) (t : Meant)
    (r : Result CodeWorld Fault) → x ≡ y
    → ((means : Means post x) → context_of x means.call means.make
    ≡ main_context (bare_program x.program.now) group_size m
    → Makes r (exec_main (bare_program x.program.now) group_size m t))
    → (call : Caller)
    → context_of y call None ≡ main_context (bare_program y.program.now) group_size m
    → ((spot : Spot) (f : ℕ) (ds : Vec CodeDatum Global) (old new : MutBor CodeWorld)
    (a : Result CodeDatum Fault) → post spot f ds old a new
    → Answers call (at_spot y spot) f ds.items old.now new.now a)
    → Makes r (exec_main (bare_program y.program.now) group_size m t)
ran_in {C} post x y m t r e ran call is answers =
    subst (λ (z : CodeContext C). Makes r (exec_main (bare_program z.program.now) group_size m t))
    e (ran (calls_mean post x call None (at_spot y) (λ spot. ap (λ (z : CodeContext C).
    at_spot z spot) e) answers)
    (subst (λ (z : CodeContext C). context_of z call None
    ≡ main_context (bare_program z.program.now) group_size m) (sym e) is))
