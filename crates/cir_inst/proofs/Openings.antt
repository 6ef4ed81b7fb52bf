-- What a body's flow tells of the function or template.
use Rattle.std.proofs.Common.{◌≡◌, ℕ, zero, suc, ◌-◌, Bool, false, cond, ltb, List, [], ◌∷◌, ◌++◌}
use Rattle.std.proofs.Common.{length, map, Option, Some, None, Result, Ok, Err, refl, sym, ap}
use Rattle.std.proofs.Common.{subst, ◌∙◌, slice_get, arith, Bor}
use Rattle.std.specs.Prelude.{◌^◌, OnOk, IsErrAnd}
use Rattle.std.proofs.lemmas.Bool.Decides.{Decides-ltb}
use Rattle.std.specs.Borrow.{MutBor}
use Rattle.std.specs.declared.vec.Vec.{Vec}
use Rattle.std.specs.declared.alloc.Global.{Global}
use Rattle.gold_field.specs.declared.form.Constraint.{Constraint}
use Rattle.cir_ast.specs.declared.marked.Block.{Block as CodeBlock, out-Block}
use Rattle.cir_ast.specs.declared.marked.Statement.{Statement as CodeStatement}
use Rattle.cir_ast.proofs.Rows.{block_is}
use Rattle.cir_ast.specs.declared.operators.Direction.{Direction}
use Rattle.cir_ast.specs.declared.program.Spot.{Spot}
use Rattle.cir_ast.specs.declared.program.Meant.{Meant}
use Rattle.cir_ast.specs.declared.refusal.Kind.TheVariants.{WrongKind, TooDeep}
use Rattle.cir_ast.specs.Tree.{Statements, as_statements, bare_block, bare_statement}
use Rattle.cir_ast.specs.Program.{Program, Function, Template}
use Rattle.cir_meaning.specs.Tried.{Where, Tried, next, found, refused}
use Rattle.cir_meaning.specs.Arrays.{Datum, single}
use Rattle.cir_meaning.specs.Values.{Known}
use Rattle.cir_meaning.specs.Source.{Equation, IsSource}
use Rattle.cir_meaning.specs.Frame as F
use Rattle.cir_meaning.specs.Limits.{Counts, nothing}
use Rattle.cir_meaning.specs.Frame.{World, State, Caller, Maker, begun}
use Rattle.cir_meaning.specs.Statement as X
use Rattle.cir_meaning.specs.Bodies.{answer_of, call_at, counted_in, emptied, ended, ended_flow}
use Rattle.cir_meaning.specs.Bodies.{function_context, make_at, most_open, numbered_others}
use Rattle.cir_meaning.specs.Bodies.{template_context}
use Rattle.cir_meaning.specs.Compile.{group_size}
use Rattle.cir_arrays.specs.declared.arrays.Datum.{Datum as CodeDatum}
use Rattle.cir_arrays.specs.declared.counts.Counts.{Counts as CodeCounts}
use Rattle.cir_frame.specs.declared.frame.Frame.{Frame}
use Rattle.cir_frame.specs.declared.signal.SignalEntry.{SignalEntry}
use Rattle.cir_frame.specs.declared.world.World.{World as CodeWorld}
use Rattle.cir_arrays.specs.declared.stop.Fault.{Fault}
use Rattle.cir_arrays.specs.declared.stop.Fault.TheVariants as fault
use Rattle.cir_arrays.specs.Counted.{counts_of}
use Rattle.cir_arrays.specs.Stopped.{Gives, IsRefusal}
use Rattle.cir_arrays.specs.Shown.{datum_of}
use Rattle.cir_frame.specs.Shown.{frame_of, signals_of, state_of, world_of}
use Rattle.cir_arrays.proofs.Exits.{exits}
use Rattle.cir_evaluate.specs.declared.context.Context.{Context as CodeContext}
use Rattle.cir_evaluate.specs.Within.{Called, Means, at_spot, context_of, kept_of}
use Rattle.cir_create.specs.declared.body.Body.{Body}
use Rattle.cir_assign.specs.Leads.{Lists}
use Rattle.cir_create.specs.Makes.{BodyMeans, Creates, Creating, Made, context_in}
use Rattle.cir_execute.specs.declared.statement.Flow.{Flow}
use Rattle.cir_execute.specs.declared.statement.Flow.TheVariants as flow
use Rattle.cir_execute.specs.Flows.{Flows}
use Rattle.cir_inst.specs.Opened.{function_answer, maker_of, template_made}

-- the same execution
pub same_body : (k j : F.Context) (ss ts : Statements Spot Meant) (s t : State) → k ≡ j → ss ≡ ts
    → s ≡ t → X.exec_all k ss s ≡ X.exec_all j ts t
same_body k j ss ts s t e f g =
    ap (λ (x : F.Context). X.exec_all x ss s) e
    ∙ ap (λ (x : Statements Spot Meant). X.exec_all j x s) f
    ∙ ap (λ (x : State). X.exec_all j ts x) g

-- a function that is found, and one that isn't
pub call_found : (p : Program) (room n : ℕ) (w : Where) (f : Function) (ds : List Datum)
    (world : World) → (room ≡ 0 → ⊥) → slice_get p.functions n ≡ Some f
    → call_at p group_size room w n ds world
    ≡ function_answer p (call_at p group_size (room - 1)) w f ds world
call_found p zero n w f ds world h e = absurd (h refl)
call_found p (suc room) n w f ds world h e =
    let less : room ≡ suc room - 1 = omega arith in
    ap (λ (o : Option Function). next (found w WrongKind o)
    (λ f. function_answer p (call_at p group_size room) w f ds world)) e
    ∙ ap (λ (r : ℕ). function_answer p (call_at p group_size r) w f ds world) less

-- and a template
pub made_found : (p : Program) (room n : ℕ) (w : Where) (t : Template) (ds : List Datum)
    (path : List ℕ) (world : World) → (room ≡ 0 → ⊥) → slice_get p.templates n ≡ Some t
    → maker_of (make_at p group_size room) w n ds path world
    ≡ template_made p (call_at p group_size most_open) (make_at p group_size (room - 1))
    numbered_others t ds path world
made_found p zero n w t ds path world h e = absurd (h refl)
made_found p (suc room) n w t ds path world h e =
    let less : room ≡ suc room - 1 = omega arith in
    ap (λ (o : Option Template). next (found w WrongKind o)
    (λ t. template_made p (call_at p group_size most_open) (make_at p group_size room)
    numbered_others t ds path world)) e
    ∙ ap (λ (r : ℕ). template_made p (call_at p group_size most_open) (make_at p group_size r)
    numbered_others t ds path world) less

pub made_room : (p : Program) (room : ℕ) (b : Bool) → b ≡ ltb 0 room
    → make_at p group_size room
    ≡ cond b (Some (maker_of (make_at p group_size room))) None
made_room p zero b e =
    sym (ap (λ (x : Bool). cond x (Some (maker_of (make_at p group_size zero))) None) e)
made_room p (suc room) b e =
    sym (ap (λ (x : Bool). cond x (Some (maker_of (make_at p group_size (suc room)))) None)
    (e ∙ (Decides-ltb 0 (suc room)).1 (omega arith)))

-- an answer in a world with its equations
pub creates_by : (qs es : List Equation) (old new : CodeWorld) (r : Made)
    (m : Tried (F.Signals × World))
    → Gives (λ signals. (signals_of signals.items, world_of new es)) r m → Lists qs old es new
    → Creates qs old new r m
creates_by qs es old new (Ok signals) m g l = (es, g, l)
creates_by qs es old new (Err f) m g l = g

-- the same constraints
pub creates_same : (qs : List Equation) (old new start end : CodeWorld) (r : Made)
    (m : Tried (F.Signals × World)) → old.constraints.items ≡ start.constraints.items
    → new.constraints.items ≡ end.constraints.items
    → ((es : List Equation) → world_of new es ≡ world_of end es) → Creates qs old new r m
    → Creates qs start end r m
creates_same qs old new start end (Ok signals) m e f g (es, h, l) = (
  es,
  h ∙ ap (λ (w : World). Ok (signals_of signals.items, w)) (g es),
  record {
    listed = λ before. subst (λ (ks : List Constraint). IsSource (2 ^ 32) es ks) f
        (l.listed (subst (λ (ks : List Constraint). IsSource (2 ^ 32) qs ks) (sym e) before));
  },
)
creates_same qs old new start end (Err fault) m e f g h = h

-- a closure that calls functions as the meaning does
pub record Answers (call : Caller) (w : Where) (f : ℕ) (ds : List CodeDatum) (old new : CodeWorld)
    (r : Result CodeDatum Fault) : Type 0 where
  pub gives : (qs : List Equation) → Gives (λ d. (datum_of d, world_of new qs)) r
      (call w f (map datum_of ds) (world_of old qs))
  pub added : new.added ≡ old.added
  pub keeps : kept_of new ≡ kept_of old

pub on_ok : {A E : Type 0} (r : Result A E) (P : Type 0) → P → OnOk r P
on_ok (Ok a) P h = h
on_ok (Err e) P h = tt

-- at each place
abbrev pub AllAnswer : Called → Caller → (Spot → Where) → Type 0
AllAnswer post call place =
    (spot : Spot) (f : ℕ) (ds : Vec CodeDatum Global) (old new : MutBor CodeWorld)
    (r : Result CodeDatum Fault) → post spot f ds old r new
    → Answers call (place spot) f ds.items old.now new.now r

abbrev pub calls_mean : {C : Type 0} (post : Called) (b : CodeContext C) (call : Caller)
    (make : Option Maker) (place : Spot → Where) → ((spot : Spot) → at_spot b spot ≡ place spot)
    → AllAnswer post call place → Means post b
calls_mean post b call make place same answers = record {
  call = call;
  make = make;
  gives = λ spot f ds old new r qs h.
      subst (λ (w : Where). Gives (λ d. (datum_of d, world_of new.now qs)) r
      (call w f (map datum_of ds.items) (world_of old.now qs))) (sym (same spot))
      ((answers spot f ds old new r h).gives qs);
  added = λ spot f ds old new r h. on_ok r _ (answers spot f ds old new r h).added;
  keeps = λ spot f ds old new r h. (answers spot f ds old new r h).keeps;
}

-- a closure that makes nothing
abbrev pub AllFail : Creating → Type 0
AllFail makes =
    (spot : Spot) (t : ℕ) (ds : Vec CodeDatum Global) (path : Bor (List ℕ))
    (old new : MutBor CodeWorld) (r : Made) → makes spot t ds path old r new
    → r ≡ Err fault.OutOfMemory

pub none_made : (qs : List Equation) (old new : CodeWorld) (r : Made)
    (m : Tried (F.Signals × World)) → r ≡ Err fault.OutOfMemory → Creates qs old new r m
none_made qs old new r m e = subst (λ (x : Made). Creates qs old new x m) (sym e) tt

pub none_added : (r : Made) (P : Type 0) → r ≡ Err fault.OutOfMemory → OnOk r P
none_added r P e = subst (λ (x : Made). OnOk x P) (sym e) tt

-- no component is created in a function
abbrev pub function_means : {C M : Type 0} (post : Called) (makes : Creating) (b : Body C M)
    (call : Caller) (place : Spot → Where)
    → ((spot : Spot) → at_spot b.context.now spot ≡ place spot) → b.may_make ≡ false
    → AllAnswer post call place → AllFail makes → BodyMeans post makes b
function_means post makes b call place same none answers fails = record {
  means = calls_mean post b.context.now call None place same answers;
  maker = λ w n ds path world. refused w TooDeep;
  room = ap (λ (x : Bool). cond x (Some (maker_of None)) None) (sym none);
  creates = λ spot t ds path old new r qs h.
      none_made qs old.now new.now r _ (fails spot t ds path old new r h);
  added = λ spot t ds path old new r h. none_added r _ (fails spot t ds path old new r h);
}

-- the state in which a body begins
pub begun_is : (frame : Frame) (inside : CodeWorld) (es : List Equation) (ds : List Datum)
    (n m signals components : ℕ) (world : World)
    → ((c : Counts) → frame_of frame c ≡ record (begun ds n signals components) { added = c })
    → n ≡ m → counts_of inside.added ≡ nothing → world_of inside es ≡ world
    → state_of frame inside es
    ≡ record { frame = begun ds m signals components; world = world }
begun_is frame inside es ds n m signals components world e f g h =
    let first : frame_of frame (counts_of inside.added) ≡ begun ds m signals components =
    e (counts_of inside.added)
    ∙ ap (λ (c : Counts). record (begun ds n signals components) { added = c }) g
    ∙ ap (λ (k : ℕ). begun ds k signals components) f in
    λ i. record { frame = first i; world = h i }

-- the statements of a body
pub statements_are : (b : CodeBlock Spot Meant) (statements : List (CodeStatement Spot Meant))
    → statements ≡ (out-Block Spot Meant b).statements
    → as_statements (map bare_statement statements) ≡ bare_block b
statements_are b statements e =
    ap (λ (ss : List (CodeStatement Spot Meant)). as_statements (map bare_statement ss)) e
    ∙ sym (block_is Spot Meant b)

-- a body's statements in the state in which it begins
pub body_begins : (k : F.Context) (b : CodeBlock Spot Meant)
    (statements : List (CodeStatement Spot Meant)) (frame : Frame) (inside : CodeWorld)
    (es : List Equation) (ds : List Datum) (n m signals components : ℕ) (world : World)
    → statements ≡ (out-Block Spot Meant b).statements
    → ((c : Counts) → frame_of frame c ≡ record (begun ds n signals components) { added = c })
    → n ≡ m → counts_of inside.added ≡ nothing → world_of inside es ≡ world
    → X.exec_all k (as_statements (map bare_statement statements)) (state_of frame inside es)
    ≡ X.exec_all k (bare_block b) record { frame = begun ds m signals components; world = world }
body_begins k b statements frame inside es ds n m signals components world is f g h e =
    same_body k k _ (bare_block b) _ _ refl (statements_are b statements is)
    (begun_is frame inside es ds n m signals components world f g h e)

-- what a function answers by its flow
abbrev pub Answered : World → CodeWorld → Result Flow Fault → Tried (Datum × World) → Type 0
Answered world after (Ok flow.Going) m =
    m ≡ Ok (single (Known 0), record world { counts = counts_of after.counts })
Answered world after (Ok (flow.Returned d)) m =
    m ≡ Ok (datum_of d, record world { counts = counts_of after.counts })
Answered world after (Err f) m = IsRefusal f m

pub flow_answer : (old after : CodeWorld) (frame : Frame) (r : Result Flow Fault)
    (m : Tried X.Flow) (world : World) → Flows [] old frame after r m
    → Answered world after r (next m (λ flow. Ok (counted_in world (answer_of flow))))
flow_answer old after frame (Ok flow.Going) m world (es, e, lists) =
    ap (λ (x : Tried X.Flow). next x (λ flow. Ok (counted_in world (answer_of flow)))) e
flow_answer old after frame (Ok (flow.Returned d)) m world (es, e, lists) =
    ap (λ (x : Tried X.Flow). next x (λ flow. Ok (counted_in world (answer_of flow)))) e
flow_answer old after frame (Err f) m world h = exits f m _ h

pub body_answers : (k : F.Context) (b : CodeBlock Spot Meant)
    (statements : List (CodeStatement Spot Meant)) (frame new : Frame) (inside after : CodeWorld)
    (ds : List Datum) (n m : ℕ) (world : World) (r : Result Flow Fault)
    → Flows [] inside new after r (X.exec_all k (as_statements (map bare_statement statements))
    (state_of frame inside []))
    → statements ≡ (out-Block Spot Meant b).statements
    → ((c : Counts) → frame_of frame c ≡ record (begun ds n 0 0) { added = c }) → n ≡ m
    → counts_of inside.added ≡ nothing → world_of inside [] ≡ emptied world
    → Answered world after r (next (X.exec_all k (bare_block b) record {
      frame = begun ds m 0 0;
      world = emptied world;
    }) (λ flow. Ok (counted_in world (answer_of flow))))
body_answers k b statements frame new inside after ds n m world r flows is begins count added
    empty =
    subst (λ (x : Tried X.Flow). Answered world after r
    (next x (λ flow. Ok (counted_in world (answer_of flow)))))
    (body_begins k b statements frame inside [] ds n m 0 0 (emptied world) is begins count added
    empty) (flow_answer inside after new r _ world flows)

-- a function that is executed with closures that call as the meaning does
pub function_ran : {C M : Type 0} (post : Called) (makes : Creating) (b : Body C M) (p : Program)
    (room n : ℕ) (w : Where) (f : Function) (ds : List Datum) (world : World)
    (r : Result (CodeDatum × CodeCounts) Fault)
    → ((m : BodyMeans post makes b) → Gives (λ x. (
      datum_of x.0,
      record world { counts = counts_of x.1 },
    )) r (next (X.exec_all (context_in b m) f.body record {
      frame = begun ds n 0 0;
      world = emptied world;
    }) (λ flow. Ok (counted_in world (answer_of flow)))))
    → ((call : Caller) → context_of b.context.now call None
    ≡ function_context p group_size call w f)
    → b.may_make ≡ false
    → AllAnswer post (call_at p group_size room) (λ spot. record w { file = f.file; spot = spot })
    → AllFail makes → n ≡ f.variables - length ds
    → Gives (λ x. (datum_of x.0, record world { counts = counts_of x.1 })) r
    (function_answer p (call_at p group_size room) w f ds world)
function_ran post makes b p room n w f ds world r gives same none answers fails count =
    let call : Caller = call_at p group_size room in
    let here : F.Context = function_context p group_size call w f in
    let m : BodyMeans post makes b =
    function_means post makes b call (λ spot. record w { file = f.file; spot = spot })
    (λ spot. ap (λ (k : F.Context). F.at k spot) (same call)) none answers fails in
    let run : F.Context → ℕ → Tried (Datum × World) = (λ k n.
    next (X.exec_all k f.body record { frame = begun ds n 0 0; world = emptied world })
    (λ flow. Ok (counted_in world (answer_of flow)))) in
    subst (λ (x : Tried (Datum × World)). Gives (λ x. (
      datum_of x.0,
      record world { counts = counts_of x.1 },
    )) r x)
    (ap (λ (k : F.Context). run k n) (same call) ∙ ap (λ (n : ℕ). run here n) count) (gives m)

-- the signals of a template
pub body_going : (k : F.Context) (qs : List Equation) (old new : CodeWorld) (frame : Frame)
    (r : Made) (m : Tried X.Flow) → Flows qs old frame new (Ok flow.Going) m
    → ((es : List Equation) → Gives (λ signals. (signals_of signals.items, world_of new es)) r
    (ended k (state_of frame new es)))
    → Creates qs old new r (next m (ended_flow k))
body_going k qs old new frame r m (es, e, l) g =
    subst (λ (x : Tried X.Flow). Creates qs old new r (next x (ended_flow k))) (sym e)
    (creates_by qs es old new r (ended k (state_of frame new es)) (g es) l)

pub body_returned : (k : F.Context) (qs : List Equation) (old new : CodeWorld) (frame : Frame)
    (signals : Vec (Option SignalEntry) Global) (m : Tried X.Flow) (d : CodeDatum)
    → Flows qs old frame new (Ok (flow.Returned d)) m → signals.items ≡ []
    → Creates qs old new (Ok signals) (next m (ended_flow k))
body_returned k qs old new frame signals m d (es, e, l) none = (
  es,
  ap (λ (x : Tried X.Flow). next x (ended_flow k)) e
      ∙ ap (λ (xs : List (Option SignalEntry)). Ok (signals_of xs, world_of new es)) (sym none),
  l,
)

-- a fault that is handed on
pub exit_creates : (qs : List Equation) (old new : CodeWorld) (r : Made) (e : Fault)
    (m : Tried (F.Signals × World)) → IsErrAnd r (λ x. x ≡ e) → IsRefusal e m
    → Creates qs old new r m
exit_creates qs old new (Ok a) e m is h = absurd is
exit_creates qs old new (Err x) e m is h =
    subst (λ (f : Fault). IsRefusal f m) (sym is) h

pub all_open : 256 ≡ most_open
unfolding most_open
all_open = refl

-- components are created as the meaning does
abbrev pub AllCreate : Creating → Maker → (Spot → Where) → Type 0
AllCreate makes maker place =
    (spot : Spot) (t : ℕ) (ds : Vec CodeDatum Global) (path : Bor (List ℕ))
    (old new : MutBor CodeWorld) (r : Made) (qs : List Equation) → makes spot t ds path old r new
    → Creates qs old.now new.now r (maker (place spot) t (map datum_of ds.items) path.now
    (world_of old.now qs))

abbrev pub AllKeepAdded : Creating → Type 0
AllKeepAdded makes =
    (spot : Spot) (t : ℕ) (ds : Vec CodeDatum Global) (path : Bor (List ℕ))
    (old new : MutBor CodeWorld) (r : Made) → makes spot t ds path old r new
    → OnOk r (new.now.added ≡ old.now.added)

abbrev pub template_means : {C M : Type 0} (post : Called) (makes : Creating) (b : Body C M)
    (p : Program) (room : ℕ) (call : Caller) (place : Spot → Where)
    → ((spot : Spot) → at_spot b.context.now spot ≡ place spot) → b.may_make ≡ ltb 0 room
    → AllAnswer post call place → AllCreate makes (maker_of (make_at p group_size room)) place
    → AllKeepAdded makes → BodyMeans post makes b
template_means post makes b p room call place same may answers creates added = record {
  means = calls_mean post b.context.now call (make_at p group_size room) place same answers;
  maker = maker_of (make_at p group_size room);
  room = made_room p room b.may_make may;
  creates = λ spot t ds path old new r qs h.
      subst (λ (w : Where). Creates qs old.now new.now r (maker_of (make_at p group_size room) w t
      (map datum_of ds.items) path.now (world_of old.now qs))) (sym (same spot))
      (creates spot t ds path old new r qs h);
  added = added;
}

-- a template that is executed with such closures, in a world with its instance
pub template_ran : {C M : Type 0} (post : Called) (makes : Creating) (b : Body C M) (p : Program)
    (room calls n instance : ℕ) (group : Direction → List ℕ → F.Group) (t : Template)
    (ds : List Datum) (path : List ℕ) (qs : List Equation) (old start new end : CodeWorld)
    (r : Made)
    → ((m : BodyMeans post makes b) (qs : List Equation) → Creates qs start new r
    (next (X.exec_all (context_in b m) t.body record {
      frame = begun ds n t.signals t.components;
      world = world_of start qs;
    }) (ended_flow (context_in b m))))
    → ((call : Caller) (make : Option Maker) → context_of b.context.now call make
    ≡ record (template_context p group_size call make group t path (world_of old qs)) {
      instance = instance;
    })
    → instance ≡ length old.instances.items → b.may_make ≡ ltb 0 room → calls ≡ most_open
    → AllAnswer post (call_at p group_size calls)
    (λ spot. record { file = t.file; spot = spot; instance = instance; path = path })
    → AllCreate makes (maker_of (make_at p group_size room))
    (λ spot. record { file = t.file; spot = spot; instance = instance; path = path })
    → AllKeepAdded makes → n ≡ t.variables - length ds
    → world_of start qs
    ≡ record (world_of old qs) { instances = (world_of old qs).instances ++ path ∷ [] }
    → start.constraints.items ≡ old.constraints.items
    → new.constraints.items ≡ end.constraints.items
    → ((es : List Equation) → world_of new es ≡ world_of end es)
    → Creates qs old end r (template_made p (call_at p group_size most_open)
    (make_at p group_size room) group t ds path (world_of old qs))
template_ran post makes b p room calls n instance group t ds path qs old start new end r made same
    number may all answers creates added count begins before behind world =
    let call : Caller = call_at p group_size most_open in
    let make : Option Maker = make_at p group_size room in
    let here : F.Context =
    template_context p group_size call make group t path (world_of old qs) in
    let place : Spot → Where =
    (λ spot. record { file = t.file; spot = spot; instance = instance; path = path }) in
    let m : BodyMeans post makes b =
    template_means post makes b p room call place
    (λ spot. ap (λ (k : F.Context). F.at k spot) (same call make)) may
    (subst (λ (n : ℕ). AllAnswer post (call_at p group_size n) place) all answers) creates added in
    let run : F.Context → ℕ → World → Tried (F.Signals × World) = (λ k m w.
    next (X.exec_all k t.body record {
      frame = begun ds m t.signals t.components;
      world = w;
    }) (ended_flow k)) in
    creates_same qs start new old end r _ before behind world
    (subst (λ (x : Tried (F.Signals × World)). Creates qs start new r x)
    (ap (λ (k : F.Context). run k n (world_of start qs))
    (same call make ∙ ap (λ (i : ℕ). record here { instance = i }) number)
    ∙ ap (λ (m : ℕ). run here m (world_of start qs)) count
    ∙ ap (λ (w : World). run here (t.variables - length ds) w) begins) (made m qs))
