-- Bodies with their steps: how they begin, and what they give when they end.
use Rattle.std.proofs.Common.{◌≡◌, ◌∙◌, ℕ, zero, suc, ◌-◌, ◌^◌, ltb, List, [], ◌∷◌, ◌++◌, length}
use Rattle.std.proofs.Common.{map, Option, Some, None, Result, Ok, Err, refl, sym, ap, subst}
use Rattle.std.proofs.Common.{slice_get, arith, Bor}
use Rattle.std.specs.Prelude.{OnOk, IsErrAnd}
use Rattle.std.specs.Borrow.{MutBor}
use Rattle.std.specs.declared.vec.Vec.{Vec}
use Rattle.std.specs.declared.alloc.Global.{Global}
use Rattle.std.proofs.lemmas.List.{append-nil}
use Rattle.gold_field.specs.declared.form.Constraint.{Constraint}
use Rattle.cir_ast.specs.declared.operators.Direction.{Direction}
use Rattle.cir_ast.specs.declared.program.Spot.{Spot}
use Rattle.cir_ast.specs.declared.program.Meant.{Meant}
use Rattle.cir_ast.specs.declared.refusal.Kind.TheVariants.{WrongKind}
use Rattle.cir_ast.specs.Tree.{Statements}
use Rattle.cir_ast.specs.Program.{Program, Template}
use Rattle.cir_meaning.specs.Tried.{Where, Tried, next, found}
use Rattle.cir_meaning.specs.Arrays.{Datum}
use Rattle.cir_meaning.specs.Costs.{Made as Key}
use Rattle.cir_meaning.specs.Source.{Equation, IsSource}
use Rattle.cir_meaning.specs.Frame as F
use Rattle.cir_meaning.specs.Frame.{Caller, Maker, Signals, State, World, at, begun}
use Rattle.cir_meaning.specs.Statement.{Flow, Going, exec_all}
use Rattle.cir_meaning.specs.Bodies.{call_at, ended, ended_flow, make_at, most_open, exec_template}
use Rattle.cir_meaning.specs.Bodies.{numbered_others, template_context, template_state}
use Rattle.cir_meaning.specs.Compile.{group_size}
use Rattle.cir_arrays.specs.declared.arrays.Datum.{Datum as CodeDatum}
use Rattle.cir_arrays.specs.declared.stop.Fault.{Fault}
use Rattle.cir_arrays.specs.Stopped.{IsRefusal}
use Rattle.cir_arrays.specs.Shown.{datum_of}
use Rattle.cir_arrays.proofs.Exits.{exits}
use Rattle.cir_frame.specs.declared.frame.Frame.{Frame}
use Rattle.cir_frame.specs.declared.world.World.{World as CodeWorld}
use Rattle.cir_frame.specs.Shown.{part_of, signals_of, state_of, world_of}
use Rattle.cir_evaluate.specs.Within.{Called, at_spot, context_of}
use Rattle.cir_assign.specs.Leads.{IsListed}
use Rattle.cir_inst.specs.Opened.{maker_of}
use Rattle.cir_inst.proofs.Openings.{AllAnswer, calls_mean, made_room}
use Rattle.cir_meaning.specs.RunBodies.{port_tables}
use Rattle.cir_steps.specs.Emission.{Emission, Emitted, known_in}
use Rattle.cir_steps.specs.Making as S
use Rattle.cir_steps.specs.Making.{Caster, Emitting}
use Rattle.cir_steps.specs.Statements.{cast_at, emit_all, emit_begun, emit_body, emit_ended}
use Rattle.cir_steps.proofs.Templates.{ArePlain, AreTemplates}
use Rattle.cir_make.specs.declared.whole.Body.{Body}
use Rattle.cir_make.specs.declared.whole.Cast.{Cast}
use Rattle.cir_make.specs.declared.whole.Inside.{Inside}
use Rattle.cir_make.specs.declared.whole.Made.{Made}
use Rattle.cir_make.specs.declared.whole.Whole.{Whole}
use Rattle.cir_body.specs.Bodies.{AreWithoutCells, Follows, body_cast, emission_at}
use Rattle.cir_body.specs.Bodies.{template_cast}
use Rattle.cir_make.specs.Cells.{source_by, wires_by}
use Rattle.cir_make.specs.declared.cells.Homes.{Homes}
use Rattle.cir_make.specs.declared.cells.VariableCells.{VariableCells}
use Rattle.cir_make.specs.Emits.{go_on}
use Rattle.cir_make.specs.Housed.{AreHomes}
use Rattle.cir_make.specs.Means.{BodyMeans, Casting, Casts, emitting_in, made_by}
use Rattle.cir_make.specs.Shows.{Shows, equations_in, keys_of, source_in}
use Rattle.cir_make.proofs.Going.{behind_none}
use Rattle.cir_homes.specs.Homed.{part_homes}
use Rattle.cir_homes.proofs.Housed.{parts_housed}
use Rattle.cir_body.proofs.Mirroring.{Agree}
use Rattle.cir_body.proofs.Walking.{all_flow}

-- what a body gives whose steps are made
abbrev pub cast_of : Emitted → S.Cast
cast_of y = record {
  own = y.state.cells.own;
  inside = port_tables (known_in y.state).frame.parts y.state.cells.parts;
  steps = y.steps;
  next = y.state.next;
}

-- ---- a component is cast where it is made
ended_casts : (q : Emitting) (m : Tried Flow) (r : Tried Emitted)
    → m ≡ next r (λ y. Ok (Going (known_in y.state))) → (a : Signals × World)
    → next m (ended_flow q.context) ≡ Ok a
    → (o : S.Cast) × (next r (emit_ended q.context) ≡ Ok o)
ended_casts q m (Err e) is a made =
    absurd (let no : Err e ≡ Ok a = sym (ap (λ z. next z (ended_flow q.context)) is) ∙ made in cc)
ended_casts q m (Ok y) is a made = at (ended q.context (known_in y.state)) refl
  where
    at : (t : Tried (Signals × World)) → ended q.context (known_in y.state) ≡ t
        → (o : S.Cast) × (emit_ended q.context y ≡ Ok o)
    at (Ok b) h =
        (cast_of y, ap (λ (t : Tried (Signals × World)). next t (λ u. Ok (cast_of y))) h)
    at (Err e) h =
        absurd (let no : Err e ≡ Ok a = sym h
        ∙ sym (ap (λ z. next z (ended_flow q.context)) is) ∙ made in cc)

-- a template whose body is executed has a cast, where components have that are made in it
pub body_agrees : (p : Program) → AreTemplates p → (room : ℕ)
    (group : Direction → List ℕ → F.Group)
    → Agree (make_at p group_size room) (cast_at p group_size room) → (w : Where) (n : ℕ)
    (ds : List Datum) (path : List ℕ) (world : World) (start : ℕ) (a : Signals × World)
    → exec_template p group_size (call_at p group_size most_open) (make_at p group_size room)
    group w n ds path world ≡ Ok a
    → (o : S.Cast) × (emit_body p group_size (call_at p group_size most_open)
    (make_at p group_size room) group (cast_at p group_size room) w n ds path world start ≡ Ok o)
body_agrees p plain room group agree w n ds path world start a made =
    at (slice_get p.templates n) refl made
  where
    here : Template → F.Context
    here t =
        template_context p group_size (call_at p group_size most_open)
        (make_at p group_size room) group t path world

    make : Tried Template → Tried (Signals × World)
    make x =
        next x (λ t. next (exec_all (here t) t.body (template_state t ds path world))
        (ended_flow (here t)))

    cast : Tried Template → Tried S.Cast
    cast x =
        next x (λ t. next (emit_all record {
          context = here t;
          cast = cast_at p group_size room;
        } t.body (emit_begun t ds path world start)) (emit_ended (here t)))

    at : (o : Option Template) → slice_get p.templates n ≡ o
        → make (found w WrongKind (slice_get p.templates n)) ≡ Ok a
        → (o : S.Cast) × (cast (found w WrongKind (slice_get p.templates n)) ≡ Ok o)
    at None none h =
        absurd (let no : make (found w WrongKind None) ≡ Ok a =
        sym (ap (λ z. make (found w WrongKind z)) none) ∙ h in cc)
    at (Some t) there h =
        let q : Emitting = record { context = here t; cast = cast_at p group_size room } in
        let x : Emission = emit_begun t ds path world start in
        let z : (o : S.Cast) × (cast (Ok t) ≡ Ok o) = ended_casts q
        (exec_all q.context t.body (known_in x)) (emit_all q t.body x)
        (all_flow q agree t.body (plain n t there).0 x) a
        (sym (ap (λ z. make (found w WrongKind z)) there) ∙ h) in
        (z.0, ap (λ z. cast (found w WrongKind z)) there ∙ z.1)

pub agree_at : (p : Program) → AreTemplates p → (room : ℕ)
    → Agree (make_at p group_size room) (cast_at p group_size room)
agree_at p plain zero m none w n ds path world start a made = absurd (cc)
agree_at p plain (suc room) m is w n ds path world start a made =
    body_agrees p plain room numbered_others (agree_at p plain room) w n ds path world start a
    (ap (λ (z : Option Maker). maker_of z w n ds path world) is ∙ made)

-- ---- how a body begins
pub none_without : AreWithoutCells []
none_without n v is = absurd (cc)

pub without_more : (vs : List VariableCells) (w : VariableCells) → AreWithoutCells vs
    → w.sources.items ≡ [] → AreWithoutCells (vs ++ w ∷ [])
without_more [] w h none zero v is =
    let e : w ≡ v = cc in ap (λ (z : VariableCells). z.sources.items) (sym e) ∙ none
without_more [] w h none (suc n) v is = absurd (cc)
without_more (x ∷ xs) w h none zero v is = h zero v is
without_more (x ∷ xs) w h none (suc n) v is =
    without_more xs w (λ m y there. h (suc m) y there) none n v is

pub shows_begun : (first : List Key) (frame : Frame) (w : Whole) (qs : List Equation) (s : State)
    (i : Inside) → i.frame ≡ frame → s ≡ state_of frame w.world qs → first ≡ keys_of w.made
    → IsListed qs w.world → s.frame.parts ≡ [] → AreWithoutCells i.cells.variables.items
    → i.cells.signals.items ≡ [] → i.cells.parts.items ≡ [] → i.cells.steps.items ≡ []
    → Shows first i w record { state = emission_at s w.made.next; steps = [] }
shows_begun first frame w qs s i same is keys listed none variables signals parts steps =
    let known : s ≡ state_of i.frame w.world qs =
    is ∙ ap (λ f. state_of f w.world qs) (sym same) in
    let equations : s.world.equations ≡ qs = ap (λ (z : State). z.world.equations) known in
    let no_parts : map part_of i.frame.parts.items ≡ [] =
    sym (ap (λ (z : State). z.frame.parts) known) ∙ none in
    record {
      state = known ∙ ap (λ es. state_of i.frame w.world es) (sym equations);
      are_listed = subst (λ es. IsListed es w.world) (sym equations) listed;
      kept = record {
        next = refl;
        own = λ n k. ap (λ rows. wires_by rows n k) (sym signals);
        parts = rw parts tt;
        sources = record {
          each = λ n d v there here found k u item unknown.
              ap (λ xs. source_in (map source_by xs) k) (sym (variables n v here));
        };
        waiting = rw (no_parts, parts) tt;
        steps_made = rw steps tt;
        later = [];
        keys = sym keys ∙ sym (append-nil first);
      };
    }

-- ---- what it gives
pub casts_refused : (qs : List Equation) (old new : Whole) (r : Result Cast Fault) (e : Fault)
    (m : Tried ((Signals × World) × S.Cast)) → IsErrAnd r (λ x. x ≡ e) → IsRefusal e m
    → Casts qs old new r m
casts_refused qs old new (Ok a) e m is h = absurd is
casts_refused qs old new (Err x) e m is h = rw is h

module _ (q : Emitting) (ss : Statements Spot Meant) (s : State) (start : ℕ)
    (follows : Follows q ss s start) where
  abbrev begins : Emitted
  begins = record { state = emission_at s start; steps = [] }

  emitted_is : go_on begins (emit_all q ss) ≡ emit_all q ss (emission_at s start)
  emitted_is = behind_none (emit_all q ss (emission_at s start))

  pub body_stops : (e : Fault) → IsRefusal e (go_on begins (emit_all q ss))
      → IsRefusal e (body_cast q ss s start)
  body_stops e h =
      let P : Tried Emitted → Type 0 = IsRefusal e in
      let Q : Tried Flow → Type 0 = IsRefusal e in
      exits e (next (exec_all q.context ss s) (ended_flow q.context)) _
      (exits e (exec_all q.context ss s) (ended_flow q.context)
      (subst Q (sym follows) (exits e (emit_all q ss (emission_at s start)) _
      (subst P emitted_is h))))

  module _ (y : Emitted) (is : go_on begins (emit_all q ss) ≡ Ok y) where
    emitted : emit_all q ss (emission_at s start) ≡ Ok y
    emitted = sym emitted_is ∙ is

    executed : exec_all q.context ss s ≡ Ok (Going (known_in y.state))
    executed =
        follows ∙ ap (λ (m : Tried Emitted). next m (λ y. Ok (Going (known_in y.state)))) emitted

    ended_as : body_cast q ss s start
        ≡ next (ended q.context (known_in y.state)) (λ made.
        next (emit_ended q.context y) (λ o. Ok (made, o)))
    ended_as =
        ap (λ (m : Tried Flow). next (next m (ended_flow q.context)) (λ made.
        next (next (emit_all q ss (emission_at s start)) (emit_ended q.context)) (λ o.
        Ok (made, o)))) executed
        ∙ ap (λ (m : Tried Emitted). next (ended q.context (known_in y.state)) (λ made.
        next (next m (emit_ended q.context)) (λ o. Ok (made, o)))) emitted

    pub end_stops : (e : Fault) → IsRefusal e (ended q.context (known_in y.state))
        → IsRefusal e (body_cast q ss s start)
    end_stops e h =
        let P : Tried ((Signals × World) × S.Cast) → Type 0 = IsRefusal e in
        subst P (sym ended_as) (exits e (ended q.context (known_in y.state)) _ h)

    pub end_casts : (qs : List Equation) (old new : Whole) (i : Inside) (c : Cast)
        → Shows (keys_of old.made) i new y
        → ended q.context (known_in y.state)
        ≡ Ok (signals_of c.signals.items, world_of new.world (equations_in y.state))
        → c.ports ≡ i.cells.signals
        → c.inside.items ≡ part_homes i.frame.parts.items i.cells.parts.items
        → c.steps ≡ i.cells.steps → Casts qs old new (Ok c) (body_cast q ss s start)
    end_casts qs old new i c shows end ports homes steps = (
      equations_in y.state,
      cast_of y,
      ended_as
          ∙ ap (λ (m : Tried (Signals × World)). next m (λ made.
          next (next m (λ u. Ok (cast_of y))) (λ o. Ok (made, o)))) end,
      shows.are_listed,
      record {
        ports = λ n k. shows.kept.own n k ∙ ap (λ z. wires_by z.items n k) (sym ports);
        inside = subst (λ (hs : List Homes). AreHomes (port_tables (known_in y.state).frame.parts
            y.state.cells.parts) hs) (sym homes)
            (subst (λ (ps : List F.Part). AreHomes (port_tables ps y.state.cells.parts)
            (part_homes i.frame.parts.items i.cells.parts.items))
            (sym (ap (λ (z : State). z.frame.parts) shows.state))
            (parts_housed y.state.cells.parts i.frame.parts.items i.cells.parts.items
            shows.kept.parts));
        steps = rw steps shows.kept.steps_made;
        next = shows.kept.next;
        later = shows.kept.later;
        keys = shows.kept.keys;
      },
    )

-- ---- a template
pub cast_found : (p : Program) (room n : ℕ) (w : Where) (t : Template) (ds : List Datum)
    (path : List ℕ) (world : World) (start : ℕ) → (room ≡ 0 → ⊥)
    → slice_get p.templates n ≡ Some t
    → made_by (maker_of (make_at p group_size room)) (cast_at p group_size room) w n ds path world
    start
    ≡ template_cast p (call_at p group_size most_open) (make_at p group_size (room - 1))
    numbered_others (cast_at p group_size (room - 1)) t ds path world start
cast_found p zero n w t ds path world start h e = absurd (h refl)
cast_found p (suc room) n w t ds path world start h e =
    let less : room ≡ suc room - 1 = omega arith in
    let call : Caller = call_at p group_size most_open in
    let here : Template → F.Context = λ t. template_context p group_size call
    (make_at p group_size room) numbered_others t path world in
    ap (λ (o : Option Template). next (next (found w WrongKind o) (λ t.
    next (exec_all (here t) t.body (template_state t ds path world)) (ended_flow (here t))))
    (λ made. next (next (found w WrongKind o) (λ t.
    next (emit_all record { context = here t; cast = cast_at p group_size room } t.body
    (emit_begun t ds path world start)) (emit_ended (here t)))) (λ o. Ok (made, o)))) e
    ∙ ap (λ (r : ℕ). template_cast p call (make_at p group_size r) numbered_others
    (cast_at p group_size r) t ds path world start) less

-- the same constraints
casts_same : (qs : List Equation) (a b : Made) (start new old end : CodeWorld)
    (r : Result Cast Fault) (m : Tried ((Signals × World) × S.Cast))
    → new.constraints.items ≡ end.constraints.items
    → ((es : List Equation) → world_of new es ≡ world_of end es)
    → Casts qs record { world = start; made = a } record { world = new; made = b } r m
    → Casts qs record { world = old; made = a } record { world = end; made = b } r m
casts_same qs a b start new old end (Ok c) m f g (es, o, h, listed, is) = (
  es,
  o,
  h ∙ ap (λ (w : World). Ok ((signals_of c.signals.items, w), o)) (g es),
  subst (λ (ks : List Constraint). IsSource (2 ^ 32) es ks) f listed,
  record {
    ports = is.ports;
    inside = is.inside;
    steps = is.steps;
    next = is.next;
    later = is.later;
    keys = is.keys;
  },
)
casts_same qs a b start new old end (Err fault) m f g h = h

-- components are created as the meaning does, with their steps
abbrev pub AllCast : Casting → Maker → Caster → (Spot → Where) → Type 0
AllCast makes maker cast place =
    (spot : Spot) (t : ℕ) (ds : Vec CodeDatum Global) (path : Bor (List ℕ))
    (old new : MutBor Whole) (r : Result Cast Fault) (qs : List Equation)
    → makes spot t ds path old r new → IsListed qs old.now.world → Casts qs old.now new.now r
    (made_by maker cast (place spot) t (map datum_of ds.items) path.now
    (world_of old.now.world qs) old.now.made.next)

abbrev pub AllKeepAdded : Casting → Type 0
AllKeepAdded makes =
    (spot : Spot) (t : ℕ) (ds : Vec CodeDatum Global) (path : Bor (List ℕ))
    (old new : MutBor Whole) (r : Result Cast Fault) → makes spot t ds path old r new
    → OnOk r (new.now.world.added ≡ old.now.world.added)

abbrev pub template_means : {C M : Type 0} (post : Called) (makes : Casting) (b : Body C M)
    (p : Program) (room : ℕ) (call : Caller) (first : List Key) (place : Spot → Where)
    → ((spot : Spot) → at_spot b.context.now spot ≡ place spot) → b.may_make ≡ ltb 0 room
    → AllAnswer post call place
    → AllCast makes (maker_of (make_at p group_size room)) (cast_at p group_size room) place
    → AllKeepAdded makes → BodyMeans post makes b
template_means post makes b p room call first place same may answers casts added = record {
  means = calls_mean post b.context.now call (make_at p group_size room) place same answers;
  maker = maker_of (make_at p group_size room);
  cast = cast_at p group_size room;
  first = first;
  room = made_room p room b.may_make may;
  casts = λ spot t ds path old new r qs h listed.
      subst (λ (w : Where). Casts qs old.now new.now r
      (made_by (maker_of (make_at p group_size room)) (cast_at p group_size room) w t
      (map datum_of ds.items) path.now (world_of old.now.world qs) old.now.made.next))
      (sym (same spot)) (casts spot t ds path old new r qs h listed);
  added = added;
}

-- a template that is executed with such closures, in a world with its instance
pub template_casts : {C M : Type 0} (post : Called) (makes : Casting) (b : Body C M) (p : Program)
    (room calls n instance : ℕ) (group : Direction → List ℕ → F.Group) (t : Template)
    (ds : List Datum) (path : List ℕ) (qs : List Equation) (x y : Made)
    (old start new end : CodeWorld) (r : Result Cast Fault)
    → AreTemplates p → ArePlain t.body
    → ((m : BodyMeans post makes b) (s : State)
    → s ≡ record { frame = begun ds n t.signals t.components; world = world_of start qs }
    → m.first ≡ keys_of x → Follows (emitting_in b m) t.body s x.next
    → Casts qs record { world = start; made = x } record { world = new; made = y } r
    (body_cast (emitting_in b m) t.body s x.next))
    → ((call : Caller) (make : Option Maker) → context_of b.context.now call make
    ≡ record (template_context p group_size call make group t path (world_of old qs)) {
      instance = instance;
    })
    → instance ≡ length old.instances.items → b.may_make ≡ ltb 0 room → calls ≡ most_open
    → AllAnswer post (call_at p group_size calls)
    (λ spot. record { file = t.file; spot = spot; instance = instance; path = path })
    → AllCast makes (maker_of (make_at p group_size room)) (cast_at p group_size room)
    (λ spot. record { file = t.file; spot = spot; instance = instance; path = path })
    → AllKeepAdded makes → n ≡ t.variables - length ds
    → world_of start qs
    ≡ record (world_of old qs) { instances = (world_of old qs).instances ++ path ∷ [] }
    → new.constraints.items ≡ end.constraints.items
    → ((es : List Equation) → world_of new es ≡ world_of end es)
    → Casts qs record { world = old; made = x } record { world = end; made = y } r
    (template_cast p (call_at p group_size most_open) (make_at p group_size room) group
    (cast_at p group_size room) t ds path (world_of old qs) x.next)
template_casts post makes b p room calls n instance group t ds path qs x y old start new end r
    templates plain made same number may all answers casts added count begins behind world =
    let call : Caller = call_at p group_size most_open in
    let make : Option Maker = make_at p group_size room in
    let here : F.Context =
    template_context p group_size call make group t path (world_of old qs) in
    let place : Spot → Where =
    (λ spot. record { file = t.file; spot = spot; instance = instance; path = path }) in
    let m : BodyMeans post makes b =
    template_means post makes b p room call (keys_of x) place
    (λ spot. ap (λ (k : F.Context). at k spot) (same call make)) may
    (subst (λ (n : ℕ). AllAnswer post (call_at p group_size n) place) all answers) casts added in
    let s : State = template_state t ds path (world_of old qs) in
    let begin : ℕ → World → State = λ k w. record {
      frame = begun ds k t.signals t.components;
      world = w;
    } in
    let is : s ≡ begin n (world_of start qs) =
    ap (begin (t.variables - length ds)) (sym begins)
    ∙ ap (λ (k : ℕ). begin k (world_of start qs)) (sym count) in
    let run : F.Context → Tried ((Signals × World) × S.Cast) = λ k.
    body_cast record { context = k; cast = cast_at p group_size room } t.body s x.next in
    casts_same qs x y start new old end r _ behind world
    (subst (λ (z : Tried ((Signals × World) × S.Cast)).
    Casts qs record { world = start; made = x } record { world = new; made = y } r z)
    (ap run (same call make ∙ ap (λ (i : ℕ). record here { instance = i }) number))
    (made m s is refl
    (all_flow (emitting_in b m) (agree_at p templates room) t.body plain
    (emission_at s x.next))))
