-- Each step of a circuit is lowered and fits, whatever shows its sources.
use Rattle.std.proofs.Common.{◌≡◌, ℕ, zero, suc, List, [], ◌∷◌, length, replicate, Option, Some}
use Rattle.std.proofs.Common.{None, Ok, refl, sym, ap, subst, arith, slice_get, length-append}
use Rattle.std.proofs.lemmas.List.{length-replicate}
use Rattle.std.specs.Prelude.{codes, ◌-◌, ⊤}
use Rattle.std.specs.List.{AllByRecursion}
use Rattle.cir_ast.specs.declared.operators.Direction.{Direction}
use Rattle.cir_ast.specs.declared.program.Meant.{Meant}
use Rattle.cir_ast.specs.declared.program.Meant.TheVariants as meant
use Rattle.cir_ast.specs.declared.refusal.Kind.TheVariants.{WrongKind}
use Rattle.cir_ast.specs.Program.{Program, Template, Main}
use Rattle.cir_meaning.specs.Tried.{Where, Tried, next, found}
use Rattle.cir_meaning.specs.Arrays.{Datum, single}
use Rattle.cir_meaning.specs.Values.{Known}
use Rattle.cir_meaning.specs.Frame.{Signals, Group, World, State, Caller, Maker, Context, at, Sizes}
use Rattle.cir_meaning.specs.Statement.{exec_all}
use Rattle.cir_meaning.specs.Evaluate.{arguments_in}
use Rattle.cir_meaning.specs.Bodies.{numbered_others, ended, template_context, call_at, make_at}
use Rattle.cir_meaning.specs.Bodies.{most_open, all_written, all_fed, ended_flow, template_state}
use Rattle.cir_meaning.specs.Bodies.{exec_template}
use Rattle.cir_meaning.specs.Compile.{group_size, main_group, main_context, main_state, the_main}
use Rattle.cir_meaning.specs.Compile.{exec_main}
use Rattle.cir_meaning.specs.Scoped.{IsResolved, IsTemplateScoped}
use Rattle.cir_meaning.proofs.FineBodies.{begun_fine, calls_fine, makes_fine}
use Rattle.cir_meaning.proofs.FineValues.{FineContext, FineWorld, FineMake, FineAnswers, IsDatum}
use Rattle.cir_meaning.proofs.FineValues.{arguments_fine}
use Rattle.cir_meaning.proofs.Good.{OnSome', good_is}
use Rattle.cir_meaning.proofs.KnownCalls.{CallBoth, all_get, calls_both, calls_keep}
use Rattle.cir_meaning.proofs.Likes.{CallKeeps}
use Rattle.cir_meaning.proofs.ScanPoints.{next_to}
use Rattle.cir_meaning.proofs.GroupSizes.{Fits, Less}
use Rattle.cir_meaning.proofs.NumberPlaces.{Roomy}
use Rattle.cir_meaning.proofs.Weights.{Bounded}
use Rattle.cir_scope.specs.Counted.{IsCounted, AreCounted}
use Rattle.cir_steps.specs.Emission.{Emission, Emitted, known_in}
use Rattle.cir_steps.specs.Making.{Cast, Caster, Emitting}
use Rattle.cir_steps.specs.Places.{AllHavePlaces, ArePlacesMeant}
use Rattle.cir_steps.specs.Statements.{emit_all, emit_begun, emit_ended, emit_body, cast_at}
use Rattle.cir_steps.specs.Circuit.{Circuit, circuit_with, emit_main, start_cells, all_homes}
use Rattle.cir_steps.proofs.CallsRise.{calls_rise}
use Rattle.cir_steps.proofs.Casting.{Fits as FitsAs, blank_clear, casts_fit}
use Rattle.cir_steps.proofs.ReadBodies.{cast_of, begun_holds, leaves_of, body_ends, casts_well}
use Rattle.cir_steps.proofs.ReadBodies.{parameters_scope, parameters_sound}
use Rattle.cir_steps.proofs.ReadCreated.{CastsWell}
use Rattle.cir_steps.proofs.ReadLaw.{MainBody, main_body, main_few}
use Rattle.cir_steps.proofs.ReadLeaves.{same_ok, Moves}
use Rattle.cir_steps.proofs.ReadWalk.{Quiet, Leaves, Gives, go_all}
use Rattle.cir_steps.proofs.Resolved.{templates}
use Rattle.cir_steps.proofs.Sized.{SizedCall}
use Rattle.cir_steps.proofs.Still.{Still}
use Rattle.cir_steps.proofs.Templates.{all_declare}
use Rattle.cir_steps.proofs.Total.{anything}
use Rattle.cir_emit.proofs.Leaves.{AllSound, IsPrepared, CastsSound, Turns, quiet_turns, MovesSound}
use Rattle.cir_emit.proofs.Leaves.{sound_leaves}

-- the numbers of signals are the state's
ended_sizes : (k : Context) (s : State) (z : Signals × World) → ended k s ≡ Ok z
    → z.1.sizes ≡ s.world.sizes
ended_sizes k s z e =
    let one : (u : Unit {0}) × (all_written k s.frame.signals ≡ Ok u) × (fed u ≡ Ok z) =
    next_to (all_written k s.frame.signals) fed z e in
    let two : (u : Unit {0}) × (all_fed k s.frame.parts ≡ Ok u) × (last u ≡ Ok z) =
    next_to (all_fed k s.frame.parts) last z one.2 in
    ap (λ (v : Signals × World). v.1.sizes) (sym (same_ok (s.frame.signals, s.world) z two.2))
  where
    last : Unit {0} → Tried (Signals × World)
    last u = Ok (s.frame.signals, s.world)

    fed : Unit {0} → Tried (Signals × World)
    fed u = next (all_fed k s.frame.parts) last

module _ (p : Program) (resolved : IsResolved p) (places : ArePlacesMeant p)
    (counts : AreCounted p) (size : ℕ) (final : Sizes) (few : Bounded final)
    (roomy : Roomy size final) where
  abbrev functions : ℕ
  functions = length p.functions

  abbrev call : Caller
  call = call_at p size most_open

  abbrev keeps : CallKeeps call
  keeps = calls_keep p size most_open

  abbrev both : CallBoth call
  both = calls_both p size most_open resolved.functions

  abbrev sized : SizedCall call
  sized = (calls_rise p size most_open).sized

  abbrev Any : Emission → Emitted → Type 0
  Any x y = ⊤

  abbrev AnyCast : (start : ℕ) → World → Signals × World → Cast → Type 0
  AnyCast start world z o = ⊤

  module _ (make : Option Maker) (fine_make : OnSome' FineMake make)
      (group : Direction → List ℕ → Group) (cast : Caster) (fits : FitsAs AnyCast make cast)
      (well : (m : Maker) → make ≡ Some m → CastsWell size final m cast)
      (casts : (m : Maker) → make ≡ Some m → CastsSound final m cast) where
    template_sound : (n : ℕ) (t : Template) → slice_get p.templates n ≡ Some t → (ds : List Datum)
        (path : List ℕ) (world : World) (start : ℕ) (z : Signals × World) (o : Cast)
        → next (exec_all (template_context p size call make group t path world) t.body
        (template_state t ds path world)) (ended_flow (template_context p size call make group t
        path world)) ≡ Ok z
        → next (emit_all record {
          context = template_context p size call make group t path world;
          cast = cast;
        } t.body (emit_begun t ds path world start)) (emit_ended (template_context p size call make
        group t path world)) ≡ Ok o → Fits world.sizes → Less z.1.sizes final
        → AllByRecursion IsDatum ds → FineWorld world → AllSound o.steps
    template_sound n t there ds path world start z o ex em fit less args fine_world =
        let its : (y : Emitted) × (emit_all q t.body begun ≡ Ok y)
        × (ended k (known_in y.state) ≡ Ok z) × (cast_of y ≡ o) =
        body_ends p resolved places size final few roomy make group cast fits well n t there ds path
        world start z o ex em in
        let makes : Gives functions t.variables q Turning quiet Making leaves [] begun its.0 =
        good_is (Gives functions t.variables q Turning quiet Making leaves [] begun)
        (emit_all q t.body begun) its.0 its.1
        (go_all functions t.variables q Turning quiet Making leaves t.body
        (templates p resolved n t there).0
        (parameters_scope p resolved places size final few roomy t)
        (parameters_sound p resolved places size final few roomy t)
        (all_get (IsTemplateScoped functions) p.templates n t resolved.templates there)
        (all_get (IsCounted functions) p.templates n t counts there)
        (all_get (λ (t : Template). AllHavePlaces t.body) p.templates n t places there) [] begun
        (blank_clear (all_declare t.body []) t.signals (templates p resolved n t there).1)) in
        subst (λ c. AllSound c.steps) its.3
        (makes.0.1 (subst (λ z. Less z final) (ended_sizes k (known_in its.0.state) z its.2) less)
        fit world.sizes [] (begun_holds size final t ds path world start) prepared).1
      where
        k : Context
        k = template_context p size call make group t path world

        q : Emitting
        q = record { context = k; cast = cast }

        fine : FineContext k
        fine = record { call = calls_fine p size most_open; make = fine_make }

        begun : Emission
        begun = emit_begun t ds path world start

        Turning : State → State → Type 0
        Turning = Turns functions t.variables final q keeps both fine sized casts

        quiet : Quiet q Turning
        quiet = quiet_turns functions t.variables final q keeps both fine sized casts

        moves : Leaves functions t.variables q Still (Moves size final)
        moves =
            leaves_of p resolved places size final few roomy t.variables q both keeps refl well

        Making : Emission → Emitted → Type 0
        Making =
            MovesSound functions t.variables final q keeps both fine sized casts size roomy moves

        leaves : Leaves functions t.variables q Turning Making
        leaves =
            sound_leaves functions t.variables final q keeps both fine sized casts size roomy moves

        prepared : IsPrepared t.variables begun
        prepared = record {
          fine = (
            begun_fine ds (t.variables - length ds) t.signals t.components args,
            fine_world,
          );
          long = omega (
            arith,
            length-append ds (replicate (t.variables - length ds) (single (Known 0))),
            length-replicate (t.variables - length ds) (single (Known 0)),
          );
          runs = refl;
          waiting = tt;
        }

    body_sound : CastsSound final (exec_template p size call make group)
        (emit_body p size call make group cast)
    body_sound w n ds path world start z o ex em fit less args fine_world =
        by (slice_get p.templates n) refl ex em
      where
        k_of : Template → Context
        k_of t = template_context p size call make group t path world

        by : (o' : Option Template) → slice_get p.templates n ≡ o'
            → next (found w WrongKind o') (λ t.
            next (exec_all (k_of t) t.body (template_state t ds path world)) (ended_flow (k_of t)))
            ≡ Ok z
            → next (found w WrongKind o') (λ t.
            next (emit_all record { context = k_of t; cast = cast } t.body
            (emit_begun t ds path world start)) (emit_ended (k_of t))) ≡ Ok o
            → AllSound o.steps
        by None there ex em = cc
        by (Some t) there ex em =
            template_sound n t there ds path world start z o ex em fit less args fine_world

  abbrev casts_follow : (rooms : ℕ) → FitsAs AnyCast (make_at p size rooms) (cast_at p size rooms)
  casts_follow rooms =
      casts_fit size Any AnyCast (anything size) p (templates p resolved) rooms

  abbrev casts_cover : (rooms : ℕ) (m : Maker) → make_at p size rooms ≡ Some m
      → CastsWell size final m (cast_at p size rooms)
  casts_cover rooms = casts_well p resolved places size final few roomy rooms

  casts_sound : (rooms : ℕ) (m : Maker) → make_at p size rooms ≡ Some m
      → CastsSound final m (cast_at p size rooms)
  casts_sound zero m e = cc
  casts_sound (suc rooms) m e =
      subst (λ f. CastsSound final f (cast_at p size (suc rooms))) (some_maker _ m e)
      (body_sound (make_at p size rooms) (makes_fine p size rooms) numbered_others
      (cast_at p size rooms) (casts_follow rooms) (casts_cover rooms) (casts_sound rooms))
    where
      some_maker : (f m : Maker) → Some f ≡ Some m → f ≡ m
      some_maker f m e = cc

module _ (p : Program) (resolved : IsResolved p) (places : ArePlacesMeant p)
    (counts : AreCounted p) where
  main_sound : (m : Main) (t : Meant) (signals : Signals) (world : World) (o : Cast)
      → exec_main p group_size m t ≡ Ok (signals, world) → emit_main p group_size m t ≡ Ok o
      → Bounded world.sizes → Roomy group_size world.sizes → AllSound o.steps
  main_sound m (meant.Template t) signals world o ex em few roomy =
      let its : MainBody p resolved places m t signals world o =
      main_body p resolved places m t signals world o ex em in
      let args : FineAnswers its.begun =
      good_is FineAnswers
      (arguments_in (main_context p group_size m) place m.arguments main_state) its.begun its.args
      (arguments_fine (main_context p group_size m)
      record { call = calls_fine p group_size most_open; make = tt } place m.arguments main_state
      (tt, tt)) in
      body_sound p resolved places counts group_size world.sizes few roomy
      (make_at p group_size 255) (makes_fine p group_size 255) (main_group m.public_names)
      (cast_at p group_size 255)
      (casts_follow p resolved places counts group_size world.sizes few roomy 255)
      (casts_cover p resolved places counts group_size world.sizes few roomy 255)
      (casts_sound p resolved places counts group_size world.sizes few roomy 255) place t
      its.begun.0 (codes "main") its.begun.1.world 1 its.end o its.executes its.emits its.fits
      its.less args.0 args.1.1
    where
      place : Where
      place = at (main_context p group_size m) m.spot
  main_sound m meant.Other signals world o ex em few roomy = cc
  main_sound m (meant.Variable n) signals world o ex em few roomy = cc
  main_sound m (meant.Signal direction n) signals world o ex em few roomy = cc
  main_sound m (meant.Component n) signals world o ex em few roomy = cc
  main_sound m (meant.Function n) signals world o ex em few roomy = cc

  pub circuit_sound : (b : Circuit) → circuit_with group_size p ≡ Ok b → AllSound b.steps
  circuit_sound b is =
      let one : (m : Main) × (the_main p ≡ Ok m) × (of_main m ≡ Ok b) =
      next_to (the_main p) of_main b is in
      let two : (z : Signals × World) × (exec_main p group_size one.0 one.0.meant ≡ Ok z)
      × (with_signals one.0 z ≡ Ok b) =
      next_to (exec_main p group_size one.0 one.0.meant) (with_signals one.0) b one.2 in
      let three : (o : Cast) × (emit_main p group_size one.0 one.0.meant ≡ Ok o)
      × (Ok (circuit_at one.0 two.0 o) ≡ Ok b) =
      next_to (emit_main p group_size one.0 one.0.meant)
      (λ o. Ok (circuit_at one.0 two.0 o)) b two.2 in
      let few : Bounded two.0.1.sizes × Roomy group_size two.0.1.sizes =
      main_few p resolved places one.0 two.0.0 two.0.1 two.1 in
      subst (λ (c : Circuit). AllSound c.steps) {x = circuit_at one.0 two.0 three.0}
      (same_ok (circuit_at one.0 two.0 three.0) b three.2)
      (main_sound one.0 one.0.meant two.0.0 two.0.1 three.0 two.1 three.1 few.0 few.1)
    where
      circuit_at : Main → Signals × World → Cast → Circuit
      circuit_at m z o = record {
        steps = o.steps;
        cells = o.next;
        starts = start_cells m o.own z.0;
        homes = all_homes group_size z.1.sizes (record { signals = z.0; wires = o.own }
            ∷ o.inside);
      }

      with_signals : Main → Signals × World → Tried Circuit
      with_signals m z =
          next (emit_main p group_size m m.meant) (λ o. Ok (circuit_at m z o))

      of_main : Main → Tried Circuit
      of_main m = next (exec_main p group_size m m.meant) (with_signals m)
