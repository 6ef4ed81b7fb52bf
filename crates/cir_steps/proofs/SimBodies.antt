-- Whole bodies run as their steps do, by the number of templates that may be open yet.
use Rattle.std.proofs.Common.{◌≡◌, ℕ, zero, suc, ◌-◌, Bool, true, false, cond, List, [], ◌∷◌, ◌++◌}
use Rattle.std.proofs.Common.{length, replicate, Option, Some, None, Ok, Err, refl, sym, ap, subst}
use Rattle.std.proofs.Common.{◌∙◌, slice_get, arith}
use Rattle.std.specs.List.{AllByRecursion}
use Rattle.cir_ast.specs.declared.refusal.Kind.TheVariants.{WrongKind, InputsMissing}
use Rattle.cir_ast.specs.Program.{Program, Template}
use Rattle.cir_meaning.specs.Tried.{Where, Tried, next, refused, found}
use Rattle.cir_meaning.specs.Arrays.{Datum, single, is_known, is_all_known}
use Rattle.cir_meaning.specs.Values.{Known}
use Rattle.cir_meaning.specs.Frame.{Signals, Part, World, State, Context, at as place_at, is_fed}
use Rattle.cir_meaning.specs.Bodies.{template_context, ended, all_written, all_fed, call_at}
use Rattle.cir_meaning.specs.Bodies.{make_at, most_open, numbered_others}
use Rattle.cir_meaning.specs.RunStatements.{run_call}
use Rattle.cir_meaning.specs.Run.{RunTried, refusing, Wires, RunPart, Run}
use Rattle.cir_meaning.specs.RunSimple.{Outcome, Runner}
use Rattle.cir_meaning.specs.RunBodies.{run_all, port_tables, run_begun, run_ended, body_at}
use Rattle.cir_meaning.proofs.Likes.{CallKeeps}
use Rattle.cir_meaning.proofs.KnownCalls.{calls_keep, all_get, begun_known}
use Rattle.cir_steps.specs.Running.{Wired, TablesWired}
use Rattle.cir_steps.specs.Step.{Step}
use Rattle.cir_steps.specs.RunSteps.{Cells, Calling, Progress, run_steps}
use Rattle.cir_steps.specs.Emission.{Emitted, known_in}
use Rattle.cir_steps.specs.Making.{Cast, Caster}
use Rattle.cir_steps.specs.Statements.{emit_all, emit_begun, emit_ended, cast_at}
use Rattle.cir_steps.proofs.Alike.{Alike, alike_then, Fresh}
use Rattle.cir_steps.proofs.Related.{tables_more, Ran, Runs, Found, Beside, Nowhere, Knows}
use Rattle.cir_steps.proofs.Related.{OwnGrows}
use Rattle.cir_meaning.specs.Scoped.{IsResolved}
use Rattle.cir_meaning.proofs.FineValues.{IsDatum, FineWorld}
use Rattle.cir_meaning.proofs.FineBodies.{begun_fine, makes_fine}
use Rattle.cir_meaning.proofs.KnownValues.{KnownDatum, KnownStore, all_pass}
use Rattle.cir_meaning.proofs.Settling.{known_same}
use Rattle.cir_meaning.proofs.UndecidedRuns.{variable_from}
use Rattle.cir_meaning.proofs.ScopedQuiet.{everything}
use Rattle.cir_meaning.proofs.VariableRuns.{Soundly}
use Rattle.cir_meaning.proofs.DepthRuns.{makes_grow, bodies_run}
use Rattle.cir_meaning.proofs.TemplateBodies.{template_sounds, template_scope, template_sound_scope}
use Rattle.cir_meaning.proofs.TemplateBodies.{template_scoped}
use Rattle.cir_steps.proofs.Templates.{ArePlain}
use Rattle.cir_steps.proofs.Resolved.{templates}
use Rattle.cir_steps.proofs.Knowing.{IsSound}
use Rattle.cir_steps.proofs.SimLeaves.{all_leaves, statements_mean}
use Rattle.cir_steps.proofs.Simulation.{After}
use Rattle.cir_steps.proofs.SimWalk.{AllMean, statements_sim}
use Rattle.cir_steps.proofs.SimCreated.{Casts}
use Rattle.cir_steps.proofs.Casting.{blank_at}

-- arguments are known, and other variables are 0 at first
known_store : (ds : List Datum) → AllByRecursion (λ d. is_all_known d ≡ true) ds → KnownStore ds
known_store [] h = tt
known_store (d ∷ ds) h = (all_pass is_known d.items h.0, known_store ds h.1)

begun_told : (ds : List Datum) (count : ℕ) → AllByRecursion (λ d. is_all_known d ≡ true) ds
    → Knows (ds ++ replicate count (single (Known 0))) []
begun_told ds count h n =
    variable_from Nowhere (ds ++ replicate count (single (Known 0))) [] n (λ d there.
    known_same Nowhere d None
    (all_get KnownDatum (ds ++ replicate count (single (Known 0))) n d
    (begun_known ds count (known_store ds h)) there))

-- all components have run
parts_fed : (k : Context) (ps : List Part) → all_fed k ps ≡ Ok tt → (j : ℕ) (p : Part)
    → slice_get ps j ≡ Some p → is_fed p.signals ≡ true
parts_fed k [] h j p there = cc
parts_fed k (q ∷ ps) h j p there =
    at (is_fed q.signals) refl h j there (λ rest i here. parts_fed k ps rest i p here)
  where
    at : (f : Bool) → is_fed q.signals ≡ f
        → cond f (all_fed k ps) (refused (place_at k q.spot) InputsMissing) ≡ Ok tt → (j : ℕ)
        → slice_get (q ∷ ps) j ≡ Some p
        → (all_fed k ps ≡ Ok tt → (i : ℕ) → slice_get ps i ≡ Some p → is_fed p.signals ≡ true)
        → is_fed p.signals ≡ true
    at true is rest zero there go =
        let same : q ≡ p = cc in subst (λ (a : Part). is_fed a.signals ≡ true) same is
    at true is rest (suc j) there go = go rest j there
    at false is rest j there go = cc

module _ (call : Calling) (fuel : ℕ) (body : Runner) where
  tables_found : (cells : Cells) (ps : List Part) (rs xs : List RunPart) (bs : List (List Step))
      → length ps ≡ length rs → length rs ≡ length xs
      → ((j : ℕ) (p : Part) → slice_get ps j ≡ Some p
      → Found call fuel body cells true rs xs bs j)
      → TablesWired cells (port_tables ps rs) (port_tables ps xs)
  tables_found cells [] rs xs bs h g f = tt
  tables_found cells (p ∷ ps) [] xs bs h g f = cc
  tables_found cells (p ∷ ps) (r ∷ rs) [] bs h g f = cc
  tables_found cells (p ∷ ps) (r ∷ rs) (x ∷ xs) bs h g f =
      let its : Found call fuel body cells true (r ∷ rs) (x ∷ xs) bs 0 = f 0 p refl in
      let is_r : its.run ≡ r =
      let both : Some r ≡ Some its.run = its.run_there in cc in
      let is_x : its.cast ≡ x =
      let both : Some x ≡ Some its.cast = its.cast_there in cc in (
        refl,
        subst (λ (a : RunPart). Wired cells a.ports x.ports) is_r
            (subst (λ (a : RunPart). Wired cells its.run.ports a.ports) is_x its.runs.wired),
        tables_more cells r.inside x.inside (port_tables ps rs) (port_tables ps xs)
            (subst (λ (a : RunPart). TablesWired cells a.inside x.inside) is_r
            (subst (λ (a : RunPart). TablesWired cells its.run.inside a.inside) is_x
            (its.runs.inside refl)))
            (tables_found cells ps rs xs (later bs)
            (let more : suc (length ps) ≡ suc (length rs) = h in omega arith)
            (let more : suc (length rs) ≡ suc (length xs) = g in omega arith)
            (λ j q there. shifted (f (suc j) q there))),
      )
    where
      later : List (List Step) → List (List Step)
      later [] = []
      later (b ∷ bs) = bs

      shifted : {j : ℕ} → Found call fuel body cells true (r ∷ rs) (x ∷ xs) bs (suc j)
          → Found call fuel body cells true rs xs (later bs) j
      shifted {j} a = record {
        run = a.run;
        cast = a.cast;
        steps = a.steps;
        run_there = a.run_there;
        cast_there = a.cast_there;
        steps_there = at bs a.steps_there;
        runs = a.runs;
      }
        where
          at : (bs : List (List Step)) → slice_get bs (suc j) ≡ Some a.steps
              → slice_get (later bs) j ≡ Some a.steps
          at [] h = cc
          at (b ∷ bs) h = h

module _ (p : Program) (resolved : IsResolved p) (size fuel : ℕ) where
  abbrev pub calling : Calling
  calling = run_call p most_open

  module _ (functions : ℕ) (k : Context) (keeps : CallKeeps k.call)
      (sound : IsSound functions k calling) (body : Runner) (cast : Caster)
      (casts : Casts k keeps fuel calling body cast) (t : Template) (ds : List Datum)
      (path : List ℕ) (world : World) (start : ℕ)
      (known : AllByRecursion (λ d. is_all_known d ≡ true) ds)
      (begins : AllByRecursion IsDatum ds × FineWorld world)
      (means : AllMean k keeps fuel calling body cast functions t.body) (plain : ArePlain t.body)
    where
      abbrev ended_cast : Emitted → Cast
      ended_cast z = record {
        own = z.state.cells.own;
        inside = port_tables (known_in z.state).frame.parts z.state.cells.parts;
        steps = z.steps;
        next = z.state.next;
      }

      begun : (final given : Wires) (q : Progress) → q.cells 0 ≡ Some 1 → Wired q.cells given final
          → Beside calling fuel body final (run_begun t ds path world given q.log)
          (emit_begun t ds path world start) q
      begun final given q one wired = record {
        zero = one;
        wired = wired;
        made = λ n e i there less.
            let no : Some e ≡ None = sym there ∙ blank_at t.signals n in cc;
        stored = λ n i. refl;
        told = begun_told ds (t.variables - length ds) known;
        fine = (
          begun_fine ds (t.variables - length ds) t.signals t.components begins.0,
          begins.1,
        );
        parts = λ j part there. cc;
        ports = λ j a there. cc;
        count = refl;
        casts = refl;
        bodies = refl;
        log = refl;
      }

      body_ends : (final : Wires) (z : Emitted) (r : Run) (q : Progress)
          → (known_in z.state ≡ r.known) → Beside calling fuel body final r z.state q
          → (m : Tried (Signals × World)) → ended k (known_in z.state) ≡ m → (o : Cast)
          → next m (λ u. Ok (ended_cast z)) ≡ Ok o
          → (x : RunPart) → x.ports ≡ final → x.inside ≡ o.inside
          → (out : Outcome) × (run_ended k r ≡ Ok out) × Ran calling fuel body x out q
      body_ends final z r q same b (Err e) is o made x ports inside = cc
      body_ends final z r q same b (Ok u) is o made x ports inside =
          let is_o : ended_cast z ≡ o = cc in (
            record {
              own = r.own;
              inside = port_tables r.known.frame.parts r.parts;
              log = r.log;
            },
            ap (λ n. next (refusing n) (λ u. Ok record {
              own = r.own;
              inside = port_tables r.known.frame.parts r.parts;
              log = r.log;
            })) (ap (ended k) (sym same) ∙ is),
            (
              subst (Wired q.cells r.own) (sym ports) b.wired,
              subst (TablesWired q.cells (port_tables r.known.frame.parts r.parts))
                  (sym (inside ∙ ap (λ (c : Cast). c.inside) (sym is_o)
                  ∙ ap (λ (s : State). port_tables s.frame.parts z.state.cells.parts) same))
                  (tables_found calling fuel body q.cells r.known.frame.parts r.parts
                  z.state.cells.parts z.state.bodies b.count b.casts (λ j part there.
                  subst (λ f. Found calling fuel body q.cells f r.parts z.state.cells.parts
                  z.state.bodies j) (all_fed_of j part there) (b.parts j part there))),
              b.log,
            ),
          )
        where
          fed_is : (a : Tried (Unit {0})) (c : Tried (Unit {0}))
              → all_written k (known_in z.state).frame.signals ≡ a
              → all_fed k (known_in z.state).frame.parts ≡ c
              → next a (λ v. next c (λ w. Ok (
                (known_in z.state).frame.signals,
                (known_in z.state).world,
              ))) ≡ Ok u
              → all_fed k (known_in z.state).frame.parts ≡ Ok tt
          fed_is (Ok a) (Ok c) e f h = f
          fed_is (Ok a) (Err c) e f h = cc
          fed_is (Err a) c e f h = cc

          all_fed_of : (j : ℕ) (part : Part) → slice_get r.known.frame.parts j ≡ Some part
              → is_fed part.signals ≡ true
          all_fed_of j part there =
              parts_fed k (known_in z.state).frame.parts
              (fed_is (all_written k (known_in z.state).frame.signals)
              (all_fed k (known_in z.state).frame.parts) refl refl is) j part
              (ap (λ (s : State). slice_get s.frame.parts j) same ∙ there)

      -- a body that is given its template
      pub body_runs : (m : Tried Emitted)
          → emit_all record { context = k; cast = cast } t.body (emit_begun t ds path world start)
          ≡ m → (o : Cast) → next m (emit_ended k) ≡ Ok o → (final : Wires)
          → OwnGrows o.own final → (x : RunPart) → x.ports ≡ final → x.inside ≡ o.inside
          → (given : Wires) (q : Progress) → q.cells 0 ≡ Some 1
          → Wired q.cells given x.ports → Fresh o.steps q.cells
          → Alike (Ran calling fuel body x)
          (next (run_all record { context = k; fuel = fuel; call = calling; body = body } t.body
          (run_begun t ds path world given q.log)) (run_ended k)) (run_steps calling fuel o.steps q)
      body_runs (Err e) is o made final grows x ports inside given q one wired fresh = cc
      body_runs (Ok z) is o made final grows x ports inside given q one wired fresh =
          ends (run_all record { context = k; fuel = fuel; call = calling; body = body } t.body
          (run_begun t ds path world given q.log))
          (subst (λ ss. Alike (After k fuel calling body cast final z)
          (run_all record { context = k; fuel = fuel; call = calling; body = body } t.body
          (run_begun t ds path world given q.log)) (run_steps calling fuel ss q)) steps_are
          ((statements_sim k keeps fuel calling body cast functions
          (all_leaves functions k keeps fuel calling body cast sound casts) t.body means plain
          (run_begun t ds path world given q.log) (emit_begun t ds path world start) z is).1
          final (subst (λ a. OwnGrows a final) (sym own_is) grows) q
          (begun final given q one (subst (Wired q.cells given) ports wired))
          (subst (λ ss. Fresh ss q.cells) (sym steps_are) fresh)))
        where
          cast_is : (m : Tried (Signals × World)) → next m (λ u. Ok (ended_cast z)) ≡ Ok o
              → ended_cast z ≡ o
          cast_is (Ok u) h = cc
          cast_is (Err e) h = cc

          steps_are : z.steps ≡ o.steps
          steps_are = ap (λ (c : Cast). c.steps) (cast_is (ended k (known_in z.state)) made)

          own_is : z.state.cells.own ≡ o.own
          own_is = ap (λ (c : Cast). c.own) (cast_is (ended k (known_in z.state)) made)

          ends : (m : RunTried Run)
              → Alike (After k fuel calling body cast final z) m
              (run_steps calling fuel o.steps q)
              → Alike (Ran calling fuel body x) (next m (run_ended k))
              (run_steps calling fuel o.steps q)
          ends m h =
              alike_then
              (After k fuel calling body cast final z) (Ran calling fuel body x) m
              (run_steps calling fuel o.steps q) (run_ended k) h (λ r q' e after.
              body_ends final z r q' after.0 after.1 (ended k (known_in z.state)) refl
              o made x ports
              inside)

  pub casts_run : (room : ℕ) (w : Where) (n : ℕ) (ds : List Datum) (path : List ℕ)
      (world : World) (start : ℕ) (o : Cast) → AllByRecursion (λ d. is_all_known d ≡ true) ds
      → AllByRecursion IsDatum ds × FineWorld world
      → cast_at p size room w n ds path world start ≡ Ok o
      → Runs calling fuel (body_at p size fuel room)
      record {
        where_made = w;
        template = n;
        arguments = ds;
        path = path;
        before = world;
        ports = o.own;
        inside = o.inside;
      } o.steps
  casts_run zero w n ds path world start o known begins made given q one wired fresh = cc
  casts_run (suc room) w n ds path world start o known begins made given q one wired fresh =
      at (slice_get p.templates n) refl made (casts_run room)
    where
      x : RunPart
      x = record {
        where_made = w;
        template = n;
        arguments = ds;
        path = path;
        before = world;
        ports = o.own;
        inside = o.inside;
      }

      k_of : Template → Context
      k_of t =
          template_context p size (call_at p size most_open) (make_at p size room)
          numbered_others t path world

      at : (a : Option Template) → slice_get p.templates n ≡ a
          → next (found w WrongKind a) (λ t. next (emit_all record {
            context = k_of t;
            cast = cast_at p size room;
          } t.body (emit_begun t ds path world start)) (emit_ended (k_of t))) ≡ Ok o
          → ((w : Where) (n : ℕ) (ds : List Datum) (path : List ℕ) (world : World) (start : ℕ)
          (o : Cast) → AllByRecursion (λ d. is_all_known d ≡ true) ds
          → AllByRecursion IsDatum ds × FineWorld world
          → cast_at p size room w n ds path world start ≡ Ok o
          → Runs calling fuel (body_at p size fuel room) record {
            where_made = w;
            template = n;
            arguments = ds;
            path = path;
            before = world;
            ports = o.own;
            inside = o.inside;
          } o.steps)
          → Alike (Ran calling fuel (body_at p size fuel room) x)
          (next (refusing (found w WrongKind a)) (λ t. next (run_all record {
            context = k_of t;
            fuel = fuel;
            call = calling;
            body = body_at p size fuel room;
          } t.body (run_begun t ds path world given q.log)) (run_ended (k_of t))))
          (run_steps calling fuel o.steps q)
      at None there is casts = cc
      at (Some t) there is casts =
          body_runs (length p.functions) (k_of t) (calls_keep p size most_open) record {
            fine = sounds.fine;
            both = sounds.both;
            keeps = sounds.keeps;
            calls = sounds.calls;
            grows = sounds.grows;
          } (body_at p size fuel room)
          (cast_at p size room) casts t ds path world start known begins
          (statements_mean (λ n k. None) record { world = world; size = size }
          (length p.functions) record {
            context = k_of t;
            fuel = fuel;
            call = calling;
            body = body_at p size fuel room;
          } sounds (bodies_run p resolved size fuel room) (calls_keep p size most_open)
          (cast_at p size room)
          (template_scope p resolved size fuel (make_at p size room) (makes_fine p size room)
          (makes_grow p resolved size fuel room) numbered_others (body_at p size fuel room)
          (bodies_run p resolved size fuel room) n t there path world) t.body
          (template_sound_scope p resolved size fuel (make_at p size room) (makes_fine p size room)
          (makes_grow p resolved size fuel room) numbered_others (body_at p size fuel room)
          (bodies_run p resolved size fuel room) n t there path world)
          (template_scoped p resolved size fuel (make_at p size room) (makes_fine p size room)
          (makes_grow p resolved size fuel room) numbered_others (body_at p size fuel room)
          (bodies_run p resolved size fuel room) n t there path world))
          (templates p resolved n t there).0
          (emit_all record { context = k_of t; cast = cast_at p size room } t.body
          (emit_begun t ds path world start)) refl o is o.own (λ n i c e. e) x refl refl given q one
          wired fresh
        where
          sounds : Soundly (everything (length p.functions)) record {
            context = k_of t;
            fuel = fuel;
            call = calling;
            body = body_at p size fuel room;
          }
          sounds =
              template_sounds p resolved size fuel (make_at p size room) (makes_fine p size room)
              (makes_grow p resolved size fuel room) numbered_others (body_at p size fuel room)
              (bodies_run p resolved size fuel room) n t there path world
