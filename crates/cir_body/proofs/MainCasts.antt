-- The execution of main with its steps.
use Rattle.std.proofs.Common.{◌≡◌, ◌∙◌, ℕ, List, [], Option, Some, None, Result, Ok, Err, refl, sym}
use Rattle.std.proofs.Common.{ap, subst, slice_get}
use Rattle.std.specs.Prelude.{◌^◌, codes, IsErrAnd}
use Rattle.std.specs.Borrow.{MutBor}
use Rattle.std.specs.declared.vec.Vec.{Vec}
use Rattle.std.specs.declared.alloc.Global.{Global}
use Rattle.gold_field.specs.declared.form.Constraint.{Constraint}
use Rattle.cir_ast.specs.declared.program.Meant.{Meant}
use Rattle.cir_ast.specs.declared.program.Meant.TheVariants as meant
use Rattle.cir_ast.specs.declared.program.Spot.{Spot}
use Rattle.cir_ast.specs.declared.refusal.Kind.TheVariants.{WrongKind}
use Rattle.cir_ast.specs.Program.{Main, Program, Template, bare_program}
use Rattle.cir_meaning.specs.Tried.{Tried, Where, found, next}
use Rattle.cir_meaning.specs.Arrays.{Datum}
use Rattle.cir_meaning.specs.Source.{Equation, IsSource}
use Rattle.cir_meaning.specs.Frame as F
use Rattle.cir_meaning.specs.Frame.{Caller, Context, Signals, State, World, at, settle}
use Rattle.cir_meaning.specs.Evaluate.{arguments_in}
use Rattle.cir_meaning.specs.Statement.{exec_all}
use Rattle.cir_meaning.specs.Bodies.{call_at, ended_flow, make_at, most_open, template_context}
use Rattle.cir_meaning.specs.Bodies.{template_state}
use Rattle.cir_meaning.specs.Compile.{exec_main, group_size, main_context, main_group, main_state}
use Rattle.cir_meaning.specs.SignalFree.{AreFunctionsFree}
use Rattle.cir_arrays.specs.declared.arrays.Datum.{Datum as CodeDatum}
use Rattle.cir_arrays.specs.declared.stop.Fault.{Fault}
use Rattle.cir_arrays.specs.Stopped.{IsRefusal}
use Rattle.cir_frame.specs.declared.frame.Frame.{Frame}
use Rattle.cir_frame.specs.declared.world.World.{World as CodeWorld}
use Rattle.cir_frame.specs.Shown.{signals_of, state_of, world_of}
use Rattle.cir_evaluate.specs.declared.context.Context.{Context as CodeContext}
use Rattle.cir_evaluate.specs.Within.{Called, Kept, Means, at_spot, context_of, kept_of}
use Rattle.cir_assign.specs.Leads.{IsListed}
use Rattle.cir_create.specs.Makes.{Creates}
use Rattle.cir_inst.proofs.Mains.{main_goes, opening, same_added, world_made}
use Rattle.cir_inst.proofs.Openings.{Answers, calls_mean}
use Rattle.cir_inst.specs.Made.{Makes}
use Rattle.cir_steps.specs.Circuit.{emit_main}
use Rattle.cir_steps.specs.Making as S
use Rattle.cir_steps.specs.Statements.{cast_at, emit_all, emit_begun, emit_body, emit_ended}
use Rattle.cir_steps.proofs.Templates.{AreTemplates}
use Rattle.cir_make.specs.declared.whole.Cast.{Cast}
use Rattle.cir_make.specs.declared.whole.Whole.{Whole}
use Rattle.cir_make.specs.Means.{Casts, IsCast}
use Rattle.cir_body.specs.declared.mains.Executed.{Executed}
use Rattle.cir_body.specs.Bodies.{template_cast}
use Rattle.cir_body.specs.Mains.{Executes, IsExecuted, main_cast}
use Rattle.cir_body.proofs.Casting.{agree_at, body_agrees}

-- a fault that is handed on
pub exit_executes : (p : Program) (m : Main) (r : Result Executed Fault) (e : Fault)
    → IsErrAnd r (λ x. x ≡ e) → IsRefusal e (exec_main p group_size m m.meant) → Executes p m r
exit_executes p m (Ok x) e is h = absurd is
exit_executes p m (Err f) e is h =
    subst (λ (x : Fault). IsRefusal x (exec_main p group_size m m.meant)) (sym is) h

-- ---- main's template
pub main_found : (p : Program) (names : List (List ℕ)) (w : Where) (n : ℕ) (t : Template)
    (ds : List Datum) (world : World) (start : ℕ) → slice_get p.templates n ≡ Some t
    → main_cast p names w n ds world start
    ≡ template_cast p (call_at p group_size most_open) (make_at p group_size 255)
    (main_group names) (cast_at p group_size 255) t ds (codes "main") world start
main_found p names w n t ds world start e =
    ap (λ (o : Option Template). next (next (found w WrongKind o) (λ t.
    next (exec_all (here t) t.body (template_state t ds (codes "main") world))
    (ended_flow (here t)))) (λ made. next (next (found w WrongKind o) (λ t.
    next (emit_all record { context = here t; cast = cast_at p group_size 255 } t.body
    (emit_begun t ds (codes "main") world start)) (emit_ended (here t)))) (λ o. Ok (made, o)))) e
  where
    here : Template → Context
    here t =
        template_context p group_size (call_at p group_size most_open)
        (make_at p group_size 255) (main_group names) t (codes "main") world

-- both give something, or what comes first refuses
split : {A B : Type 0} (m : Tried A) (r : Tried B) (x : A × B)
    → next m (λ a. next r (λ b. Ok (a, b))) ≡ Ok x → (m ≡ Ok x.0) × (r ≡ Ok x.1)
split {A} {B} (Ok a) (Ok b) x h =
    let same : (a, b) ≡ x = cc in
    (ap (λ (z : A × B). Ok z.0) same, ap (λ (z : A × B). Ok z.1) same)
split (Ok a) (Err e) x h = absurd (cc)
split (Err e) r x h = absurd (cc)

stops : {A B : Type 0} (f : Fault) (m : Tried A) (r : Tried B)
    → ((a : A) → m ≡ Ok a → (b : B) × (r ≡ Ok b))
    → IsRefusal {A = A × B} f (next m (λ a. next r (λ b. Ok (a, b)))) → IsRefusal f m
stops {A} {B} f (Ok a) r total h =
    let its : (b : B) × (r ≡ Ok b) = total a refl in
    let P : Tried (A × B) → Type 0 = IsRefusal f in
    subst (λ (z : Tried B). P (next z (λ b. Ok (a, b)))) its.1 h
stops f (Err e) r total h = h

module _ (p : Program) (plain : AreTemplates p) (names : List (List ℕ)) (w : Where) (t : ℕ)
    (ds : List Datum) (world : World) (start : ℕ) where
  abbrev emission : Tried S.Cast
  emission =
      emit_body p group_size (call_at p group_size most_open) (make_at p group_size 255)
      (main_group names) (cast_at p group_size 255) w t ds (codes "main") world start

  pub main_stops : (f : Fault) → IsRefusal f (main_cast p names w t ds world start)
      → IsRefusal f (opening p names w t ds world)
  main_stops f h =
      stops f (opening p names w t ds world) emission
      (λ a made. body_agrees p plain 255 (main_group names) (agree_at p plain 255) w t ds
      (codes "main") world start a made) h

  pub main_made : (x : (Signals × World) × S.Cast) → main_cast p names w t ds world start ≡ Ok x
      → (opening p names w t ds world ≡ Ok x.0) × (emission ≡ Ok x.1)
  main_made x h = split (opening p names w t ds world) emission x h

-- its signals are created, as without steps
pub main_creates : (p : Program) (plain : AreTemplates p) (names : List (List ℕ)) (w : Where)
    (t : ℕ) (ds : List Datum) (old new : Whole) (c : Cast)
    → Casts [] old new (Ok c) (main_cast p names w t ds (world_of old.world []) old.made.next)
    → Creates [] old.world new.world (Ok c.signals)
    (opening p names w t ds (world_of old.world []))
main_creates p plain names w t ds old new c (es, o, h, listed, is) = (
  es,
  (main_made p plain names w t ds (world_of old.world []) old.made.next
      ((signals_of c.signals.items, world_of new.world es), o) h).0,
  record { listed = λ before. listed },
)

-- ---- main, behind its arguments
pub begins_listed : (w0 w1 : CodeWorld) → w0.constraints.items ≡ [] → kept_of w1 ≡ kept_of w0
    → IsListed [] w1
begins_listed w0 w1 none same =
    subst (λ (ks : List Constraint). IsSource (2 ^ 32) [] ks)
    (sym (ap (λ (x : Kept). x.constraints) same ∙ none)) tt

emits : (p : Program) (m : Main) (k : Context) (t : ℕ) → k ≡ main_context p group_size m
    → (s : State) → s ≡ main_state → (ds : List Datum) (s1 : State)
    → arguments_in k (at k m.spot) m.arguments s ≡ Ok (ds, s1) → (o : S.Cast)
    → emit_body p group_size (call_at p group_size most_open) (make_at p group_size 255)
    (main_group m.public_names) (cast_at p group_size 255) (at k m.spot) t ds (codes "main")
    s1.world 1 ≡ Ok o
    → emit_main p group_size m (meant.Template t) ≡ Ok o
emits p m k t is s first ds s1 given o h =
    ap (λ (j : Context). next (arguments_in j (at j m.spot) m.arguments main_state) (body j))
    (sym is)
    ∙ ap (λ (x : State). next (arguments_in k (at k m.spot) m.arguments x) (body k)) (sym first)
    ∙ ap (λ (x : Tried (List Datum × State)). next x (body k)) given
    ∙ h
  where
    body : Context → List Datum × State → Tried S.Cast
    body j (ds, s) =
        emit_body p group_size (call_at p group_size most_open) (make_at p group_size 255)
        (main_group m.public_names) (cast_at p group_size 255) (at j m.spot) t ds (codes "main")
        s.world 1

-- the cast is that of the program behind main's limits
cast_behind : (old new : Whole) (w : CodeWorld) (c : Cast) (o : S.Cast) → IsCast old new c o
    → IsCast old (record new { world = w }) c o
cast_behind old new w c o is = record {
  ports = is.ports;
  inside = is.inside;
  steps = is.steps;
  next = is.next;
  later = is.later;
  keys = is.keys;
}

same_signals : (x y : Signals × World) (m : Tried (Signals × World)) → m ≡ Ok x → m ≡ Ok y
    → x.0 ≡ y.0
same_signals x y m e f =
    let same : x ≡ y = cc in ap (λ (z : Signals × World). z.0) same

module _ (p : Program) (plain : AreTemplates p) (m : Main) (k : Context) (t : ℕ)
    (free : AreFunctionsFree p) (is : k ≡ main_context p group_size m) (frame : Frame)
    (w0 : CodeWorld) (old new : Whole) (first : state_of frame w0 [] ≡ main_state)
    (ds : List Datum)
    (given : arguments_in k (at k m.spot) m.arguments (state_of frame w0 [])
    ≡ Ok (ds, state_of frame old.world []))
    (added : new.world.added ≡ old.world.added) (begins : old.made.next ≡ 1) (c : Cast) where
  pub executed : (w3 : CodeWorld)
      → Casts [] old new (Ok c) (main_cast p m.public_names (at k m.spot) t ds
      (world_of old.world []) old.made.next)
      → ((es : List Equation) → settle (at k m.spot) (state_of frame new.world es)
      ≡ Ok (state_of frame w3 es))
      → w0.constraints.items ≡ [] → kept_of old.world ≡ kept_of w0
      → kept_of w3 ≡ kept_of new.world → m.meant ≡ meant.Template t
      → IsExecuted p m record { whole = record new { world = w3 }; cast = c }
  executed w3 (es, o, h, listed, cast) settles none same later means =
      let w : Where = at k m.spot in
      let both = main_made p plain m.public_names w t ds (world_of old.world []) old.made.next
      ((signals_of c.signals.items, world_of new.world es), o) h in
      let made : Makes (Ok w3) (exec_main p group_size m (meant.Template t)) =
      world_made p m k t free is frame w0 old.world new.world first ds given added w3 c.signals
      (main_creates p plain m.public_names w t ds old new c (es, o, h, listed, cast)) settles none
      same later in
      let goes : exec_main p group_size m (meant.Template t)
      ≡ Ok (signals_of c.signals.items, world_of w3 es) =
      main_goes p m k t is (state_of frame w0 []) first ds (state_of frame old.world []) given
      (signals_of c.signals.items) (world_of new.world es) both.0 (state_of frame w3 es)
      (subst (λ (s : State). settle w s ≡ Ok (state_of frame w3 es))
      (same_added frame old.world new.world es added) (settles es)) in
      let signals : made.1 ≡ signals_of c.signals.items =
      same_signals (made.1, world_of w3 made.0) (signals_of c.signals.items, world_of w3 es)
      (exec_main p group_size m (meant.Template t)) made.2 goes in
      record {
        equations = made.0;
        executes = ap (λ (x : Meant). exec_main p group_size m x) means
            ∙ made.2
            ∙ ap (λ (xs : Signals). Ok (xs, world_of w3 made.0)) signals;
        is_made = made.3;
        emitted = o;
        emits = ap (λ (x : Meant). emit_main p group_size m x) means
            ∙ emits p m k t is (state_of frame w0 []) first ds (state_of frame old.world []) given
            o
            (ap (λ (n : ℕ). emit_body p group_size (call_at p group_size most_open)
            (make_at p group_size 255) (main_group m.public_names) (cast_at p group_size 255) w t
            ds (codes "main") (world_of old.world []) n) (sym begins)
            ∙ both.1);
        first = old;
        is_cast = cast_behind old new w3 c o cast;
      }

-- ---- main in a context whose closure calls functions as the meaning does
pub executed_in : {C : Type 0} (post : Called) (x y : CodeContext C) (m : Main)
    (r : Result Executed Fault) → x ≡ y
    → ((means : Means post x) → context_of x means.call means.make
    ≡ main_context (bare_program x.program.now) group_size m
    → Executes (bare_program x.program.now) m r)
    → (call : Caller)
    → context_of y call None ≡ main_context (bare_program y.program.now) group_size m
    → ((spot : Spot) (f : ℕ) (ds : Vec CodeDatum Global) (old new : MutBor CodeWorld)
    (a : Result CodeDatum Fault) → post spot f ds old a new
    → Answers call (at_spot y spot) f ds.items old.now new.now a)
    → Executes (bare_program y.program.now) m r
executed_in {C} post x y m r e ran call is answers =
    subst (λ (z : CodeContext C). Executes (bare_program z.program.now) m r)
    e (ran (calls_mean post x call None (at_spot y) (λ spot. ap (λ (z : CodeContext C).
    at_spot z spot) e) answers)
    (subst (λ (z : CodeContext C). context_of z call None
    ≡ main_context (bare_program z.program.now) group_size m) (sym e) is))
