-- Each step of a circuit stands in an instance of its program, which has the step's path.
use Rattle.std.proofs.Common.{◌≡◌, ◌∙◌, ℕ, zero, suc, Bool, false, List, [], ◌∷◌, ◌++◌, length}
use Rattle.std.proofs.Common.{Option, Some, None, Ok, refl, sym, ap, subst, slice_get}
use Rattle.std.specs.Prelude.{not, ◌&&◌, codes}
use Rattle.std.specs.List.{AllByRecursion}
use Rattle.std.proofs.lemmas.List.{append-nil, append_assoc}
use Rattle.cir_ast.specs.declared.program.Meant.{Meant}
use Rattle.cir_ast.specs.declared.program.Meant.TheVariants as meant
use Rattle.cir_ast.specs.declared.operators.Arrow.{Arrow}
use Rattle.cir_ast.specs.declared.operators.Direction.{Direction}
use Rattle.cir_ast.specs.declared.refusal.Kind.TheVariants.{WrongKind}
use Rattle.cir_ast.specs.Tree.{Expr, Accessors, Assign}
use Rattle.cir_ast.specs.Program.{Program, Template, Main}
use Rattle.cir_meaning.specs.Tried.{Tried, Where, next, found}
use Rattle.cir_meaning.specs.Arrays.{Datum}
use Rattle.cir_meaning.specs.Frame.{Caller, Context, Group, Maker, Part, Signals, State, World, at}
use Rattle.cir_meaning.specs.Frame.{is_fed, settle}
use Rattle.cir_meaning.specs.Evaluate.{arguments_in}
use Rattle.cir_meaning.specs.Writing.{SignalAssignment, signals_of}
use Rattle.cir_meaning.specs.Simple.{set_signal}
use Rattle.cir_meaning.specs.Declaring.{Creation}
use Rattle.cir_meaning.specs.Statement.{exec_all}
use Rattle.cir_meaning.specs.Bodies.{all_fed, all_written, call_at, ended, ended_flow}
use Rattle.cir_meaning.specs.Bodies.{exec_template, make_at, most_open, numbered_others}
use Rattle.cir_meaning.specs.Bodies.{template_context, template_state}
use Rattle.cir_meaning.specs.Compile as compile
use Rattle.cir_meaning.specs.Compile.{compiled, exec_main, group_size, main_context, main_group}
use Rattle.cir_meaning.specs.Compile.{main_state}
use Rattle.cir_meaning.specs.RunBodies.{port_tables}
use Rattle.cir_meaning.specs.Scoped.{IsResolved}
use Rattle.cir_meaning.proofs.Good.{either, good_is}
use Rattle.cir_meaning.proofs.KnownCalls.{all_get}
use Rattle.cir_meaning.proofs.Likes.{Like, like_itself}
use Rattle.cir_meaning.proofs.Rows.{all_append}
use Rattle.cir_meaning.proofs.ScanPoints.{next_to}
use Rattle.cir_meaning.proofs.StepRuns.{settle_like}
use Rattle.cir_meaning.proofs.Twins.{Twin, twin_bad}
use Rattle.cir_steps.specs.Step.{Step}
use Rattle.cir_steps.specs.Emission.{Emission, Emitted, known_in, with_state, waiting_steps}
use Rattle.cir_steps.specs.Emission.{steps_in}
use Rattle.cir_steps.specs.Making.{Cast, Caster, Emitting, wiring, freed, freed_at}
use Rattle.cir_steps.specs.Emit.{make_wiring}
use Rattle.cir_steps.specs.Statements.{cast_at, emit_all, emit_begun, emit_body, emit_ended}
use Rattle.cir_steps.specs.Circuit.{Circuit, circuit_of, emit_main}
use Rattle.cir_steps.proofs.Templates.{AreTemplates, all_declare}
use Rattle.cir_steps.proofs.Resolved.{templates}
use Rattle.cir_steps.proofs.Sized.{IsSized, arguments_sized}
use Rattle.cir_steps.proofs.Rising.{Calls}
use Rattle.cir_steps.proofs.Emptied.{body_empties}
use Rattle.cir_steps.proofs.CallsRise.{calls_rise}
use Rattle.cir_steps.proofs.Moving.{Moves}
use Rattle.cir_steps.proofs.Following.{Keeps, still_at}
use Rattle.cir_steps.proofs.Walk.{IsFresh, IsHere, all_follow, one_step}
use Rattle.cir_steps.proofs.Casting.{Fits, Giving, Touching, Written, blank_clear, cast_made}
use Rattle.cir_steps.proofs.Casting.{ended_fits, set_signal_written, touching_leaves}
use Rattle.cir_steps.proofs.Wiring.{wired_to}
use Rattle.cir_steps.proofs.Mains.{Made, given_twin, made_of}

-- the list goes on as the other
abbrev IsFront : List (List ℕ) → List (List ℕ) → Type 0
IsFront xs ys = (more : List (List ℕ)) × (ys ≡ xs ++ more)

front_same : (xs ys : List (List ℕ)) → ys ≡ xs → IsFront xs ys
front_same xs ys e = ([], e ∙ sym (append-nil xs))

front_on : (xs ys zs : List (List ℕ)) → IsFront xs ys → IsFront ys zs → IsFront xs zs
front_on xs ys zs (more, e) (others, f) =
    (more ++ others, f ∙ ap (λ l. l ++ others) e ∙ append_assoc xs more others)

at_end : (xs : List (List ℕ)) (path : List ℕ) (more : List (List ℕ))
    → slice_get ((xs ++ path ∷ []) ++ more) (length xs) ≡ Some path
at_end [] path more = refl
at_end (x ∷ xs) path more = at_end xs path more

-- no instances are added where the state stays like it was
front_like : (f s : State) (end : World) (final : List (List ℕ)) → Like f s → s.world ≡ end
    → end.instances ≡ final → IsFront f.world.instances final
front_like f s end final like ends are =
    front_same f.world.instances final
    (sym are ∙ sym (ap (λ (v : World). v.instances) ends)
    ∙ ap (λ (v : World). v.instances) like.4)

abbrev instances_in : Emission → List (List ℕ)
instances_in x = (known_in x).world.instances

-- what a write of signals keeps
abbrev SameInstances : State → State → Type 0
SameInstances f s = s.world.instances ≡ f.world.instances

same_instances : Written SameInstances
same_instances = record {
  still = λ f s h. h.3;
  element = λ part n place e s there. refl;
  joins = λ f s t a b. b ∙ a;
}

-- signals and a world, as an answer
abbrev given : Signals → World → Tried (Signals × World)
given signals w = Ok (signals, w)

given_world : (signals : Signals) (w : World) (z : Signals × World) → given signals w ≡ Ok z
    → w ≡ z.1
given_world signals w z e = cc

-- a body ends in the world in which it is
ended_world : (k : Context) (s : State) (z : Signals × World) → ended k s ≡ Ok z → s.world ≡ z.1
ended_world k s z is =
    let one = next_to (all_written k s.frame.signals) fed z is in
    let two = next_to (all_fed k s.frame.parts) last z one.2 in
    given_world s.frame.signals s.world z two.2
  where
    last : Unit {0} → Tried (Signals × World)
    last u = given s.frame.signals s.world

    fed : Unit {0} → Tried (Signals × World)
    fed u = next (all_fed k s.frame.parts) last

-- all instances that a program has in the end
module _ (final : List (List ℕ)) where
  abbrev Stands : Step → Type 0
  Stands s = slice_get final s.place.instance ≡ Some s.place.path

  abbrev pub AllStand : List Step → Type 0
  AllStand steps = AllByRecursion Stands steps

  abbrev AreWaiting : Emission → Type 0
  AreWaiting x = AllByRecursion AllStand x.bodies

  freed_stand : (part : Option ℕ) (was : Bool) (x : Emission) → AreWaiting x
      → AllStand (freed_at part was x)
  freed_stand None was x h = tt
  freed_stand (Some j) was x h = at (slice_get (known_in x).frame.parts j)
    where
      waiting : (o : Option (List Step)) → slice_get x.bodies j ≡ o → AllStand (steps_in o)
      waiting None is = tt
      waiting (Some steps) is = all_get AllStand x.bodies j steps h is

      at : (o : Option Part) → AllStand (freed j was o x)
      at None = tt
      at (Some p) =
          either AllStand (not was && is_fed p.signals) (waiting_steps x j) []
          (waiting (slice_get x.bodies j) refl) tt

  -- instances are added, and steps stand where the context's instance is there in the end
  abbrev Places : Context → Emission → Emitted → Type 0
  Places k x y = IsFront (instances_in x) (instances_in y.state)
      × (IsFront (instances_in y.state) final → slice_get final k.instance ≡ Some k.path
      → AreWaiting x → AllStand y.steps × AreWaiting y.state)

  abbrev pub GivesPlaces : Giving
  GivesPlaces start world z o =
      IsFront world.instances z.1.instances × (IsFront z.1.instances final → AllStand o.steps)

  places_keep : (k : Context) → Keeps (Places k)
  places_keep k = record {
    still = λ x s h. (
      front_same (instances_in x) s.world.instances h.0.3,
      λ front there waits. (tt, waits),
    );
    joins = λ x y z f g. (
      front_on (instances_in x) (instances_in y.state) (instances_in z.state) f.0 g.0,
      λ front there waits.
          let first = f.1 (front_on (instances_in y.state) (instances_in z.state) final g.0 front)
          there waits in
          let second = g.1 front there first.1 in
          (all_append Stands y.steps z.steps first.0 second.0, second.1),
    );
  }

  fresh_places : (k : Context) (x y : Emission) (step : Step) → IsFresh x y step
      → IsHere k step.place → Places k x (one_step step y)
  fresh_places k x y step f here = (
    front_same (instances_in x) (instances_in y) f.still.3,
    λ front there waits. (
      (ap (slice_get final) here.0 ∙ there ∙ ap (λ (p : List ℕ). Some p) (sym here.1), tt),
      subst (AllByRecursion AllStand) (sym f.bodies) waits,
    ),
  )

  module _ (q : Emitting) (calls : Calls q.context.call) where
    wiring_places : (w : Where) → IsHere q.context w → (written : Assign Meant) (m : Meant)
        (accessors : Accessors Meant) (a : Arrow) (e : Expr Meant) (x : Emission)
        (b : SignalAssignment) (s : State) (y : Emitted) (places : List ℕ)
        → set_signal q.context w written m accessors a e (known_in x) ≡ Ok s
        → make_wiring q w written accessors e b s places x ≡ Ok y → Places q.context x y
    wiring_places w here written m accessors a e x b s y places set made = by places made
      where
        kept : s.world.instances ≡ instances_in x
        kept =
            good_is (SameInstances (known_in x))
            (set_signal q.context w written m accessors a e (known_in x)) s set
            (set_signal_written SameInstances same_instances q.context w calls.keeps written m
            accessors a e (known_in x))

        steps : List Step
        steps =
            freed_at b.target.part (is_fed (signals_of b.target.part (known_in x).frame))
            (with_state s x)

        by : (places : List ℕ) → make_wiring q w written accessors e b s places x ≡ Ok y
            → Places q.context x y
        by [] is =
            let same : still_at s x ≡ y = cc in
            subst (Places q.context x) same (
              front_same (instances_in x) s.world.instances kept,
              λ front there waits. (tt, waits),
            )
        by (place ∷ others) is =
            let same : wired_to q w written accessors e x b s ≡ y = cc in
            subst (Places q.context x) same (
              front_same (instances_in x) s.world.instances kept,
              λ front there waits. (
                all_append Stands (wiring q.context w written accessors e b x ∷ steps) [] (
                  ap (slice_get final) here.0 ∙ there
                      ∙ ap (λ (p : List ℕ). Some p) (sym here.1),
                  freed_stand b.target.part
                      (is_fed (signals_of b.target.part (known_in x).frame)) (with_state s x)
                      waits,
                ) tt,
                waits,
              ),
            )

    creating_places : (w : Where) (c : Creation) (place : ℕ) (a : Signals × World) (o : Cast)
        (x : Emission) → Moves (known_in x) c.state → GivesPlaces x.next c.state.world a o
        → Places q.context x (cast_made q w c place a o x)
    creating_places w c place a o x moves gives = (
      subst (λ (l : List (List ℕ)). IsFront l a.1.instances) moves.0.3 gives.0,
      λ front there waits.
          let y : Emission = (cast_made q w c place a o x).state in
          let all : AreWaiting y =
          all_append AllStand x.bodies (o.steps ∷ []) waits (gives.1 front, tt) in (
            all_append Stands (freed_at (Some (length x.bodies)) false y) []
                (freed_stand (Some (length x.bodies)) false y all) tt,
            all,
          ),
    )

    touches : Touching q (Places q.context) GivesPlaces
    touches = record {
      still = (places_keep q.context).still;
      wiring = λ w here written m accessors a e x b s y is set made.
          wiring_places w here written m accessors a e x b s y b.target.reach.places set made;
      creating = creating_places;
    }

  -- the end of a body
  ends_placed : (k : Context) (t : Template) (ds : List Datum) (path : List ℕ) (world : World)
      (start : ℕ) → k.instance ≡ length world.instances → k.path ≡ path
      → (y : Emitted) (z : Signals × World) → Places k (emit_begun t ds path world start) y
      → ended k (known_in y.state) ≡ Ok z → (o : Cast) → o.steps ≡ y.steps
      → GivesPlaces start world z o
  ends_placed k t ds path world start number named y z places is o same =
      let now : instances_in y.state ≡ z.1.instances =
      ap (λ (v : World). v.instances) (ended_world k (known_in y.state) z is) in (
        front_on world.instances begun z.1.instances (path ∷ [], refl)
            (subst (IsFront begun) now places.0),
        λ front.
            let all : IsFront (instances_in y.state) final =
            subst (λ l. IsFront l final) (sym now) front in
            let whole : IsFront begun final =
            front_on begun (instances_in y.state) final places.0 all in
            subst AllStand (sym same)
            (places.1 all
            (ap (slice_get final) number
            ∙ ap (λ l. slice_get l (length world.instances)) whole.1
            ∙ at_end world.instances path whole.0 ∙ ap (λ (p : List ℕ). Some p) (sym named))
            tt).0,
      )
    where
      begun : List (List ℕ)
      begun = world.instances ++ path ∷ []

  module _ (size : ℕ) (p : Program) (plain : AreTemplates p) where
    body_placed : (call : Caller) (make : Option Maker) (group : Direction → List ℕ → Group)
        (cast : Caster) → Calls call → Fits GivesPlaces make cast → (w : Where) (n : ℕ)
        (ds : List Datum) (path : List ℕ) (world : World) (start : ℕ) → AllByRecursion IsSized ds
        → Twin (GivesPlaces start world) (exec_template p size call make group w n ds path world)
        (emit_body p size call make group cast w n ds path world start)
    body_placed call make group cast calls fits w n ds path world start sized =
        at (slice_get p.templates n) refl
      where
        k_of : Template → Context
        k_of t = template_context p size call make group t path world

        at : (o : Option Template) → slice_get p.templates n ≡ o
            → Twin (GivesPlaces start world) (next (found w WrongKind o) (λ t.
            next (exec_all (k_of t) t.body (template_state t ds path world)) (ended_flow (k_of t))))
            (next (found w WrongKind o) (λ t.
            next (emit_all record { context = k_of t; cast = cast } t.body
            (emit_begun t ds path world start)) (emit_ended (k_of t))))
        at None e = twin_bad (GivesPlaces start world) _ _
        at (Some t) e =
            let k : Context = k_of t in
            let q : Emitting = record { context = k; cast = cast } in
            ended_fits (Places k) (places_keep k) GivesPlaces k t ds path world start
            (λ y z places each empty is.
            ends_placed k t ds path world start refl refl y z places is record {
              own = y.state.cells.own;
              inside = port_tables (known_in y.state).frame.parts y.state.cells.parts;
              steps = y.steps;
              next = y.state.next;
            } refl)
            (exec_all k t.body (template_state t ds path world))
            (emit_all q t.body (emit_begun t ds path world start)) sized
            (body_empties k t.body (template_state t ds path world) refl)
            (all_follow q calls (Places k) (places_keep k)
            (touching_leaves (Places k) GivesPlaces q calls fits (touches q calls)
            (fresh_places k)
            (λ spot direction number name dims x clear.
            (front_same (instances_in x) _ refl, λ front there waits. (tt, waits))))
            t.body (plain n t e).0 [] (emit_begun t ds path world start)
            (blank_clear (all_declare t.body []) t.signals (plain n t e).1))

    casts_placed : (room : ℕ) → Fits GivesPlaces (make_at p size room) (cast_at p size room)
    casts_placed zero m e w n ds path world start sized = cc
    casts_placed (suc room) m e w n ds path world start sized =
        subst (λ f. Twin (GivesPlaces start world) (f w n ds path world)
        (cast_at p size (suc room) w n ds path world start)) (some_maker _ m e)
        (body_placed (call_at p size most_open) (make_at p size room) numbered_others
        (cast_at p size room) (calls_rise p size most_open) (casts_placed room) w n ds path world
        start sized)
      where
        some_maker : (f m : Maker) → Some f ≡ Some m → f ≡ m
        some_maker f m e = cc

    main_placed : (m : Main) (t : Meant) (z : Signals × World) (o : Cast)
        → exec_main p size m t ≡ Ok z → emit_main p size m t ≡ Ok o → z.1.instances ≡ final
        → AllStand o.steps
    main_placed m (meant.Template t) z o ex em same =
        let one = next_to arguments body z ex in
        let two = next_to (made one.0) (settled one.0) z one.2 in
        let three = next_to (settle w (record one.0.1 { world = two.0.1 })) (last two.0) z two.2 in
        let four = next_to arguments emitted o em in
        let again : four.0 ≡ one.0 = let both : Ok four.0 ≡ Ok one.0 = sym four.1 ∙ one.1 in cc in
        let gives : GivesPlaces 1 one.0.1.world two.0 o =
        given_twin (GivesPlaces 1 one.0.1.world) (made one.0) (emitted one.0) two.0 o two.1
        (ap emitted (sym again) ∙ four.2)
        (body_placed (call_at p size most_open) (make_at p size 255) (main_group m.public_names)
        (cast_at p size 255) (calls_rise p size most_open) (casts_placed 255) w t one.0.0
        (codes "main") one.0.1.world 1
        (good_is (λ (a : List Datum × State). AllByRecursion IsSized a.0) arguments one.0 one.1
        (arguments_sized (main_context p size m) (calls_rise p size most_open).sized w m.arguments
        main_state))) in
        let like : Like (record one.0.1 { world = two.0.1 }) three.0 =
        good_is (Like (record one.0.1 { world = two.0.1 }))
        (settle w (record one.0.1 { world = two.0.1 })) three.0 three.1
        (settle_like (record one.0.1 { world = two.0.1 }) w (record one.0.1 { world = two.0.1 })
        (like_itself (record one.0.1 { world = two.0.1 }))) in
        let ends : three.0.world ≡ z.1 = given_world two.0.0 three.0.world z three.2 in
        gives.1 (front_like (record one.0.1 { world = two.0.1 }) three.0 z.1 final like ends same)
      where
        w : Where
        w = at (main_context p size m) m.spot

        arguments : Tried (List Datum × State)
        arguments = arguments_in (main_context p size m) w m.arguments main_state

        made : List Datum × State → Tried (Signals × World)
        made a =
            exec_template p size (call_at p size most_open) (make_at p size 255)
            (main_group m.public_names) w t a.0 (codes "main") a.1.world

        last : Signals × World → State → Tried (Signals × World)
        last g s = given g.0 s.world

        settled : List Datum × State → Signals × World → Tried (Signals × World)
        settled a g = next (settle w (record (a.1) { world = g.1 })) (last g)

        body : List Datum × State → Tried (Signals × World)
        body a = next (made a) (settled a)

        emitted : List Datum × State → Tried Cast
        emitted a =
            emit_body p size (call_at p size most_open) (make_at p size 255)
            (main_group m.public_names) (cast_at p size 255) w t a.0 (codes "main") a.1.world 1
    main_placed m meant.Other z o ex em same = let no : ⊥ = cc in absurd no
    main_placed m (meant.Variable n) z o ex em same = let no : ⊥ = cc in absurd no
    main_placed m (meant.Signal direction n) z o ex em same = let no : ⊥ = cc in absurd no
    main_placed m (meant.Component n) z o ex em same = let no : ⊥ = cc in absurd no
    main_placed m (meant.Function n) z o ex em same = let no : ⊥ = cc in absurd no

pub instances_stand : (p : Program) (c : compile.Circuit) (b : Circuit) → IsResolved p
    → compiled p ≡ Ok c → circuit_of p ≡ Ok b → (i : ℕ) (s : Step) → slice_get b.steps i ≡ Some s
    → slice_get c.instances s.place.instance ≡ Some s.place.path
instances_stand p c b resolved compiles emitted i s there =
    let made : Made p c b = made_of p c b compiles emitted in
    let steps : made.cast.steps ≡ b.steps = ap (λ (d : Circuit). d.steps) made.is_circuit in
    all_get (Stands c.instances) b.steps i s
    (subst (AllStand c.instances) steps
    (main_placed c.instances group_size p (templates p resolved) made.main made.main.meant
    made.given made.cast made.exec made.emitted
    (ap (λ (d : compile.Circuit). d.instances) made.is_told))) there
