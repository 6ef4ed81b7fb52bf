-- The body of main runs as its steps do, from cells that have the numbers of its inputs.
use Rattle.std.proofs.Common.{◌≡◌, ℕ, List, [], ◌∷◌, length, Some, None, Ok, true, refl, sym, subst}
use Rattle.std.proofs.Common.{slice_get}
use Rattle.std.specs.Prelude.{codes}
use Rattle.std.specs.List.{AllByRecursion}
use Rattle.cir_ast.specs.declared.program.Meant.TheVariants as meant
use Rattle.cir_ast.specs.declared.refusal.Kind.TheVariants.{WrongKind}
use Rattle.cir_ast.specs.Program.{Program, Main, Template}
use Rattle.cir_meaning.specs.Tried.{Where, Tried, next, found}
use Rattle.cir_meaning.specs.Arrays.{Datum, is_known, is_all_known}
use Rattle.cir_meaning.specs.Frame.{State, Context, at as place_at}
use Rattle.cir_meaning.specs.Evaluate.{arguments_in}
use Rattle.cir_meaning.specs.Bodies.{template_context, call_at, make_at, most_open}
use Rattle.cir_meaning.specs.Compile.{main_group, main_context, main_state}
use Rattle.cir_meaning.specs.Scoped.{IsResolved}
use Rattle.cir_meaning.specs.Run.{Wires, RunTried, refusing, RunPart}
use Rattle.cir_meaning.specs.RunSimple.{Outcome}
use Rattle.cir_meaning.specs.RunStatements.{run_call}
use Rattle.cir_meaning.specs.RunBodies.{run_all, run_begun, run_ended, body_at, run_program}
use Rattle.cir_meaning.proofs.Good.{good_is}
use Rattle.cir_meaning.proofs.Creating.{arguments_known}
use Rattle.cir_meaning.proofs.FineValues.{FineAnswers, arguments_fine}
use Rattle.cir_meaning.proofs.FineBodies.{calls_fine, makes_fine}
use Rattle.cir_meaning.proofs.KnownValues.{KnownStore, pass_all}
use Rattle.cir_meaning.proofs.KnownCalls.{calls_keep}
use Rattle.cir_meaning.proofs.ScanPoints.{next_to, found_to}
use Rattle.cir_meaning.proofs.ScopedQuiet.{everything}
use Rattle.cir_meaning.proofs.VariableRuns.{Soundly}
use Rattle.cir_meaning.proofs.DepthRuns.{makes_grow, bodies_run}
use Rattle.cir_meaning.proofs.TemplateBodies.{template_sounds, template_scope, template_sound_scope}
use Rattle.cir_meaning.proofs.TemplateBodies.{template_scoped}
use Rattle.cir_steps.specs.Running.{Wired}
use Rattle.cir_steps.specs.RunSteps.{Progress, run_steps}
use Rattle.cir_steps.specs.Making.{Cast}
use Rattle.cir_steps.specs.Statements.{emit_all, emit_begun, emit_ended, emit_body, cast_at}
use Rattle.cir_steps.specs.Circuit.{emit_main}
use Rattle.cir_steps.proofs.Alike.{Alike, Fresh}
use Rattle.cir_steps.proofs.Related.{OwnGrows, Ran}
use Rattle.cir_steps.proofs.Resolved.{templates}
use Rattle.cir_steps.proofs.SimBodies.{calling, body_runs, casts_run}
use Rattle.cir_steps.proofs.SimLeaves.{statements_mean}

all_known_of : (ds : List Datum) → KnownStore ds → AllByRecursion (λ d. is_all_known d ≡ true) ds
all_known_of [] h = tt
all_known_of (d ∷ ds) h = (pass_all is_known d.items h.0, all_known_of ds h.1)

module _ (p : Program) (resolved : IsResolved p) (size fuel : ℕ) (m : Main) (t : ℕ) where
  abbrev place : Where
  place = place_at (main_context p size m) m.spot

  abbrev pub part_of : Cast → Wires → RunPart
  part_of o final = record {
    where_made = place;
    template = t;
    arguments = [];
    path = [];
    before = main_state.world;
    ports = final;
    inside = o.inside;
  }

  main_body : (ds : List Datum) (s : State)
      → arguments_in (main_context p size m) place m.arguments main_state ≡ Ok (ds, s)
      → (x : Template) → slice_get p.templates t ≡ Some x → (o : Cast)
      → next (emit_all record {
        context = template_context p size (call_at p size most_open) (make_at p size 255)
            (main_group m.public_names) x (codes "main") s.world;
        cast = cast_at p size 255;
      } x.body (emit_begun x ds (codes "main") s.world 1))
      (emit_ended (template_context p size (call_at p size most_open) (make_at p size 255)
      (main_group m.public_names) x (codes "main") s.world)) ≡ Ok o
      → (final : Wires) → OwnGrows o.own final → (given : Wires) (q : Progress)
      → q.cells 0 ≡ Some 1 → Wired q.cells given final → Fresh o.steps q.cells
      → Alike (Ran (calling p resolved size fuel) fuel (body_at p size fuel 255)
      (part_of o final))
      (next (run_all record {
        context = template_context p size (call_at p size most_open) (make_at p size 255)
            (main_group m.public_names) x (codes "main") s.world;
        fuel = fuel;
        call = run_call p most_open;
        body = body_at p size fuel 255;
      } x.body (run_begun x ds (codes "main") s.world given q.log))
      (run_ended (template_context p size (call_at p size most_open) (make_at p size 255)
      (main_group m.public_names) x (codes "main") s.world)))
      (run_steps (run_call p most_open) fuel o.steps q)
  main_body ds s evaluated x there o made final grows given q one wired fresh =
      body_runs p resolved size fuel (length p.functions) k (calls_keep p size most_open) record {
        fine = sounds.fine;
        both = sounds.both;
        keeps = sounds.keeps;
        calls = sounds.calls;
        grows = sounds.grows;
      } (body_at p size fuel 255) (cast_at p size 255) (casts_run p resolved size fuel 255) x ds
      (codes "main") s.world 1 (all_known_of ds known) (fine.0, fine.1.1)
      (statements_mean (λ n k. None) record { world = s.world; size = size } (length p.functions)
      record {
        context = k;
        fuel = fuel;
        call = run_call p most_open;
        body = body_at p size fuel 255;
      } sounds (bodies_run p resolved size fuel 255) (calls_keep p size most_open)
      (cast_at p size 255)
      (template_scope p resolved size fuel (make_at p size 255) (makes_fine p size 255)
      (makes_grow p resolved size fuel 255) (main_group m.public_names) (body_at p size fuel 255)
      (bodies_run p resolved size fuel 255) t x there (codes "main") s.world) x.body
      (template_sound_scope p resolved size fuel (make_at p size 255) (makes_fine p size 255)
      (makes_grow p resolved size fuel 255) (main_group m.public_names) (body_at p size fuel 255)
      (bodies_run p resolved size fuel 255) t x there (codes "main") s.world)
      (template_scoped p resolved size fuel (make_at p size 255) (makes_fine p size 255)
      (makes_grow p resolved size fuel 255) (main_group m.public_names) (body_at p size fuel 255)
      (bodies_run p resolved size fuel 255) t x there (codes "main") s.world))
      (templates p resolved t x there).0
      (emit_all record { context = k; cast = cast_at p size 255 } x.body
      (emit_begun x ds (codes "main") s.world 1)) refl o made final grows (part_of o final) refl
      refl given q one wired fresh
    where
      k : Context
      k =
          template_context p size (call_at p size most_open) (make_at p size 255)
          (main_group m.public_names) x (codes "main") s.world

      known : KnownStore ds
      known =
          good_is (λ x. KnownStore x.0) (arguments_in (main_context p size m) place m.arguments
          main_state) (ds, s) evaluated
          (arguments_known (main_context p size m) place m.arguments main_state)

      fine : FineAnswers (ds, s)
      fine =
          good_is FineAnswers (arguments_in (main_context p size m) place m.arguments main_state)
          (ds, s) evaluated
          (arguments_fine (main_context p size m) record {
            call = calls_fine p size most_open;
            make = tt;
          } place m.arguments main_state (tt, tt))

      sounds : Soundly (everything (length p.functions)) record {
        context = k;
        fuel = fuel;
        call = run_call p most_open;
        body = body_at p size fuel 255;
      }
      sounds =
          template_sounds p resolved size fuel (make_at p size 255) (makes_fine p size 255)
          (makes_grow p resolved size fuel 255) (main_group m.public_names)
          (body_at p size fuel 255) (bodies_run p resolved size fuel 255) t x there (codes "main")
          s.world

  pub main_alike : (o : Cast) → emit_main p size m (meant.Template t) ≡ Ok o → (final : Wires)
      → OwnGrows o.own final → (given : Wires) (q : Progress) → q.cells 0 ≡ Some 1
      → Wired q.cells given final → Fresh o.steps q.cells → q.log ≡ []
      → Alike (Ran (calling p resolved size fuel) fuel (body_at p size fuel 255)
      (part_of o final)) (run_program p size fuel m (meant.Template t) given)
      (run_steps (run_call p most_open) fuel o.steps q)
  main_alike o made final grows given q one wired fresh log =
      let first : (x : List Datum × State)
      × (arguments_in (main_context p size m) place m.arguments main_state ≡ Ok x)
      × (emit_it x ≡ Ok o) =
      next_to (arguments_in (main_context p size m) place m.arguments main_state) emit_it o made in
      let second : (x : Template) × (found place WrongKind (slice_get p.templates t) ≡ Ok x)
      × (emit_body_of first.0 x ≡ Ok o) =
      next_to (found place WrongKind (slice_get p.templates t)) (emit_body_of first.0) o first.2 in
      let there : slice_get p.templates t ≡ Some second.0 =
      found_to place WrongKind (slice_get p.templates t) second.0 second.1 in
      subst (λ a. Alike (Ran (calling p resolved size fuel) fuel (body_at p size fuel 255)
      (part_of o final)) (next (refusing a) run_it)
      (run_steps (run_call p most_open) fuel o.steps q)) (sym first.1)
      (subst (λ a. Alike (Ran (calling p resolved size fuel) fuel (body_at p size fuel 255)
      (part_of o final)) (next (refusing (found place WrongKind a)) (run_body_of first.0 []))
      (run_steps (run_call p most_open) fuel o.steps q)) (sym there)
      (subst (λ l. Alike (Ran (calling p resolved size fuel) fuel (body_at p size fuel 255)
      (part_of o final)) (run_body_of first.0 l second.0)
      (run_steps (run_call p most_open) fuel o.steps q)) log
      (main_body first.0.0 first.0.1 first.1 second.0 there o second.2 final grows given q one
      wired fresh)))
    where
      emit_body_of : List Datum × State → Template → Tried Cast
      emit_body_of y x =
          next (emit_all record {
            context = template_context p size (call_at p size most_open) (make_at p size 255)
                (main_group m.public_names) x (codes "main") y.1.world;
            cast = cast_at p size 255;
          } x.body (emit_begun x y.0 (codes "main") y.1.world 1))
          (emit_ended (template_context p size (call_at p size most_open) (make_at p size 255)
          (main_group m.public_names) x (codes "main") y.1.world))

      emit_it : List Datum × State → Tried Cast
      emit_it y =
          emit_body p size (call_at p size most_open) (make_at p size 255)
          (main_group m.public_names) (cast_at p size 255) place t y.0 (codes "main") y.1.world 1

      run_body_of : List Datum × State → List (List ℕ) → Template → RunTried Outcome
      run_body_of y log x =
          next (run_all record {
            context = template_context p size (call_at p size most_open) (make_at p size 255)
                (main_group m.public_names) x (codes "main") y.1.world;
            fuel = fuel;
            call = run_call p most_open;
            body = body_at p size fuel 255;
          } x.body (run_begun x y.0 (codes "main") y.1.world given log))
          (run_ended (template_context p size (call_at p size most_open) (make_at p size 255)
          (main_group m.public_names) x (codes "main") y.1.world))

      run_it : List Datum × State → RunTried Outcome
      run_it y =
          next (refusing (found place WrongKind (slice_get p.templates t))) (run_body_of y [])
