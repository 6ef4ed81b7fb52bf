-- The run of a program that compiles: main's body runs on its inputs.
use Rattle.std.proofs.Common.{◌≡◌, ℕ, ◌+◌, ◌<◌, ◌≤◌, List, [], ◌∷◌, length, Some, None, Ok, Err}
use Rattle.std.proofs.Common.{refl, sym, ap, subst, ◌∙◌, slice_get, arith}
use Rattle.std.specs.Prelude.{◌^◌, ◌-◌, codes}
use Rattle.cir_ast.specs.declared.program.Meant.{Meant}
use Rattle.cir_ast.specs.declared.program.Meant.TheVariants as meant
use Rattle.cir_ast.specs.declared.refusal.Kind.TheVariants.{WrongKind}
use Rattle.cir_ast.specs.Program.{Program, Main, Template}
use Rattle.cir_meaning.specs.Scoped.{IsResolved, behind_all}
use Rattle.cir_meaning.specs.Tried.{Where, Tried, next, found}
use Rattle.cir_meaning.specs.Arrays.{Datum}
use Rattle.cir_meaning.specs.Frame.{SignalEntry, Signals, Outputs, PublicInputs, PrivateInputs}
use Rattle.cir_meaning.specs.Frame.{Others, World, State, at, entry_at, settle}
use Rattle.cir_meaning.specs.Evaluate.{arguments_in}
use Rattle.cir_meaning.specs.Statement.{exec_all}
use Rattle.cir_meaning.specs.Bodies.{template_context, template_state, ended_flow, exec_template}
use Rattle.cir_meaning.specs.Bodies.{call_at, make_at, most_open}
use Rattle.cir_meaning.specs.Compile.{main_group, main_context, main_state, exec_main, the_main}
use Rattle.cir_meaning.specs.Compile.{Circuit, circuit_of, compiled_with}
use Rattle.cir_meaning.specs.Run.{Wires, RunTried, Rejected, Stopped, refusing}
use Rattle.cir_meaning.specs.RunSimple.{Outcome}
use Rattle.cir_meaning.specs.RunBodies.{body_at, input_wires, run_program, all_wires, Ending}
use Rattle.cir_meaning.specs.RunBodies.{run_with}
use Rattle.cir_meaning.proofs.Good.{good_is}
use Rattle.cir_meaning.proofs.Likes.{Like, like_itself}
use Rattle.cir_meaning.proofs.FineValues.{FineAnswers, arguments_fine}
use Rattle.cir_meaning.proofs.FineBodies.{calls_fine, makes_fine}
use Rattle.cir_meaning.proofs.KnownCalls.{calls_keep}
use Rattle.cir_meaning.proofs.KnownValues.{KnownStore}
use Rattle.cir_meaning.proofs.Creating.{arguments_known, arguments_like}
use Rattle.cir_meaning.proofs.Starting.{Ends}
use Rattle.cir_meaning.proofs.StepRuns.{settle_like}
use Rattle.cir_meaning.proofs.SignalDeclarations.{IsShape}
use Rattle.cir_meaning.proofs.ScanPoints.{next_to, found_to}
use Rattle.cir_meaning.proofs.TemplateBodies.{context, template_scope, template_kept}
use Rattle.cir_meaning.proofs.TemplateRuns.{Ran, ends_ok, template_runs, none_entry}
use Rattle.cir_meaning.proofs.GroupSizes.{Fits}
use Rattle.cir_meaning.proofs.DepthRuns.{makes_grow, bodies_run}
use Rattle.cir_meaning.proofs.MainPlaces.{Place, Placed, placed_closed}
use Rattle.cir_meaning.proofs.MainInputs.{inputs_shape}
use Rattle.cir_meaning.proofs.MainValues.{Fitting, fitting}
use Rattle.cir_meaning.proofs.RowCounts.{Counted}

ends_refusing : {A B : Type 0} (Q : B → Type 0) (m : Tried A) (on : A → RunTried B) (a : A)
    → m ≡ Ok a → Ends Q (on a) → Ends Q (next (refusing m) on)
ends_refusing Q (Ok b) on a e h = let same : b ≡ a = cc in subst (λ x. Ends Q (on x)) (sym same) h
ends_refusing Q (Err x) on a e h = cc

pub ends_next : {A B : Type 0} (P : A → Type 0) (Q : B → Type 0) (m : RunTried A)
    (on : A → RunTried B) → Ends P m → ((a : A) → P a → Ends Q (on a)) → Ends Q (next m on)
unfolding Ends
ends_next P Q (Ok a) on h f = f a h
ends_next P Q (Err (Rejected e)) on h f = h
ends_next P Q (Err (Stopped stop w log)) on h f = h

-- main, as it is executed
pub record Executed (p : Program) (size : ℕ) (m : Main) (t : ℕ) (signals : Signals) (after : World)
    : Type 0 where
  pub arguments : List Datum
  pub state : State
  pub evaluated : arguments_in (main_context p size m) (at (main_context p size m) m.spot)
      m.arguments main_state ≡ Ok (arguments, state)
  pub world : World
  pub made : exec_template p size (call_at p size most_open) (make_at p size 255)
      (main_group m.public_names) (at (main_context p size m) m.spot) t arguments (codes "main")
      state.world ≡ Ok (signals, world)
  pub like : (after.sizes ≡ world.sizes) × (after.equations ≡ world.equations)
      × (after.rows ≡ world.rows)

pub executed : (p : Program) (size : ℕ) (m : Main) (t : ℕ) (signals : Signals) (after : World)
    → exec_main p size m (meant.Template t) ≡ Ok (signals, after)
    → Executed p size m t signals after
executed p size m t signals after e =
    let one : (x : List Datum × State)
    × (arguments_in (main_context p size m) (at (main_context p size m) m.spot) m.arguments
    main_state ≡ Ok x) × (body x ≡ Ok (signals, after)) =
    next_to (arguments_in (main_context p size m) (at (main_context p size m) m.spot) m.arguments
    main_state) body (signals, after) e in
    let two : (y : Signals × World) × (template one.0 ≡ Ok y)
    × (counted one.0 y ≡ Ok (signals, after)) =
    next_to (template one.0) (counted one.0) (signals, after) one.2 in
    let three : (s1 : State)
    × (settle (at (main_context p size m) m.spot)
    record { frame = one.0.1.frame; world = two.0.1 } ≡ Ok s1)
    × (answer two.0.0 s1 ≡ Ok (signals, after)) =
    next_to (settle (at (main_context p size m) m.spot)
    record { frame = one.0.1.frame; world = two.0.1 }) (answer two.0.0) (signals, after) two.2 in
    let same : (two.0.0, three.0.world) ≡ (signals, after) = cc in
    let like : Like record { frame = one.0.1.frame; world = two.0.1 } three.0 =
    good_is (λ s. Like record { frame = one.0.1.frame; world = two.0.1 } s)
    (settle (at (main_context p size m) m.spot)
    record { frame = one.0.1.frame; world = two.0.1 }) three.0 three.1
    (settle_like record { frame = one.0.1.frame; world = two.0.1 }
    (at (main_context p size m) m.spot) record { frame = one.0.1.frame; world = two.0.1 }
    (like_itself record { frame = one.0.1.frame; world = two.0.1 })) in record {
      arguments = one.0.0;
      state = one.0.1;
      evaluated = one.1;
      world = two.0.1;
      made = subst (λ (x : Signals). template one.0 ≡ Ok (x, two.0.1))
          (ap (λ (x : Signals × World). x.0) same) two.1;
      like = (
        ap (λ (x : Signals × World). x.1.sizes) (sym same)
            ∙ ap (λ (v : World). v.sizes) like.4,
        ap (λ (x : Signals × World). x.1.equations) (sym same)
            ∙ ap (λ (v : World). v.equations) like.4,
        ap (λ (x : Signals × World). x.1.rows) (sym same)
            ∙ ap (λ (v : World). v.rows) like.4,
      );
    }
  where
    template : List Datum × State → Tried (Signals × World)
    template x =
        exec_template p size (call_at p size most_open) (make_at p size 255)
        (main_group m.public_names) (at (main_context p size m) m.spot) t x.0 (codes "main")
        x.1.world

    answer : Signals → State → Tried (Signals × World)
    answer xs s1 = Ok (xs, s1.world)

    counted : List Datum × State → Signals × World → Tried (Signals × World)
    counted x y =
        next (settle (at (main_context p size m) m.spot)
        record { frame = x.1.frame; world = y.1 }) (answer y.0)

    body : List Datum × State → Tried (Signals × World)
    body x = next (template x) (counted x)

module _ (p : Program) (resolved : IsResolved p) (size fuel : ℕ) (m : Main) (t : ℕ)
    (signals : Signals) (after : World) (its : Executed p size m t signals after)
    (inputs : List ℕ) (small : size ≤ 2 ^ 64 - 1) (few : length inputs < size)
    (count : length inputs ≡ after.sizes.public_inputs + after.sizes.private_inputs) where
  abbrev place : Where
  place = at (main_context p size m) m.spot

  abbrev given : Wires
  given = input_wires size after.sizes inputs signals

  known : KnownStore its.arguments
  known =
      good_is (λ x. KnownStore x.0) (arguments_in (main_context p size m) place m.arguments
      main_state) (its.arguments, its.state) its.evaluated
      (arguments_known (main_context p size m) place m.arguments main_state)

  fine : FineAnswers (its.arguments, its.state)
  fine =
      good_is FineAnswers (arguments_in (main_context p size m) place m.arguments main_state)
      (its.arguments, its.state) its.evaluated
      (arguments_fine (main_context p size m) record {
        call = calls_fine p size most_open;
        make = tt;
      }
      place m.arguments main_state (tt, tt))

  like : Like main_state its.state
  like =
      good_is (λ x. Like main_state x.1)
      (arguments_in (main_context p size m) place m.arguments main_state)
      (its.arguments, its.state) its.evaluated
      (arguments_like (main_context p size m) (calls_keep p size most_open) main_state place
      m.arguments main_state (like_itself main_state))

  sizes_are : its.state.world.sizes ≡ main_state.world.sizes
  sizes_are = ap (λ (v : World). v.sizes) like.4

  found_template : (x : Template) × (slice_get p.templates t ≡ Some x)
  found_template =
      let one : (x : Template) × (found place WrongKind (slice_get p.templates t) ≡ Ok x)
      × (made_by x ≡ Ok (signals, its.world)) =
      next_to (found place WrongKind (slice_get p.templates t)) made_by
      (signals, its.world) its.made
      in (one.0, found_to place WrongKind (slice_get p.templates t) one.0 one.1)
    where
      made_by : Template → Tried (Signals × World)
      made_by x =
          next (exec_all (template_context p size (call_at p size most_open) (make_at p size 255)
          (main_group m.public_names) x (codes "main") its.state.world) x.body
          (template_state x its.arguments (codes "main") its.state.world))
          (ended_flow (template_context p size (call_at p size most_open) (make_at p size 255)
          (main_group m.public_names) x (codes "main") its.state.world))

  first_sizes : Fits its.state.world.sizes
  first_sizes = subst Fits (sym sizes_are) none
    where
      none : Fits main_state.world.sizes
      none Outputs = omega arith
      none PublicInputs = omega arith
      none PrivateInputs = omega arith
      none Others = omega arith

  shapes : (n : ℕ) (e : SignalEntry) → entry_at signals n ≡ Some e → IsShape given n e
  shapes n e there =
      let x : Template = found_template.0 in
      let last : (u : State)
      × Placed (context p resolved size fuel (make_at p size 255) (makes_fine p size 255)
      (makes_grow p resolved size fuel 255) (main_group m.public_names) (body_at p size fuel 255)
      (bodies_run p resolved size fuel 255) t
      x
      found_template.1 (codes "main") its.state.world) its.state.world.sizes u
      × (u.frame.signals ≡ signals) × (u.world ≡ its.world) =
      template_kept p resolved size fuel (make_at p size 255) (makes_fine p size 255)
      (makes_grow p resolved size fuel 255) (main_group m.public_names) (body_at p size fuel 255)
      (bodies_run p resolved size fuel 255) t
      x
      found_template.1 (codes "main") its.state.world place its.arguments signals its.world its.made
      (Placed (context p resolved size fuel (make_at p size 255) (makes_fine p size 255)
      (makes_grow p resolved size fuel 255) (main_group m.public_names) (body_at p size fuel 255)
      (bodies_run p resolved size fuel 255) t
      x
      found_template.1 (codes "main") its.state.world) its.state.world.sizes)
      (placed_closed its.state.world.sizes
      (context p resolved size fuel (make_at p size 255) (makes_fine p size 255)
      (makes_grow p resolved size fuel 255) (main_group m.public_names) (body_at p size fuel 255)
      (bodies_run p resolved size fuel 255) t
      x
      found_template.1 (codes "main") its.state.world) (makes_grow p resolved size fuel 255)
      (behind_all (template_scope p resolved size fuel (make_at p size 255) (makes_fine p size 255)
      (makes_grow p resolved size fuel 255) (main_group m.public_names) (body_at p size fuel 255)
      (bodies_run p resolved size fuel 255) t
      x
      found_template.1 (codes "main") its.state.world) x.body).signals) (
        (first_sizes, (λ g. omega arith)),
        (λ i d at. let no : None ≡ Some d = sym (none_entry x.signals i) ∙ at in cc),
      ) in
      inputs_shape (context p resolved size fuel (make_at p size 255) (makes_fine p size 255)
      (makes_grow p resolved size fuel 255) (main_group m.public_names) (body_at p size fuel 255)
      (bodies_run p resolved size fuel 255) t
      x
      found_template.1 (codes "main") its.state.world) size m.public_names after.sizes inputs refl
      refl small few count signals n e there
      (subst (λ z. Place (context p resolved size fuel (make_at p size 255) (makes_fine p size 255)
      (makes_grow p resolved size fuel 255) (main_group m.public_names) (body_at p size fuel 255)
      (bodies_run p resolved size fuel 255) t
      x
      found_template.1 (codes "main") its.state.world) z e)
      (ap (λ (v : World). v.sizes) last.3 ∙ sym its.like.0)
      (last.1.1 n e (subst (λ xs. entry_at xs n ≡ Some e) (sym last.2) there)))

  pub main_runs : Ends (Ran size signals given its.state.world its.world)
      (run_program p size fuel m (meant.Template t) given)
  main_runs =
      ends_refusing (Ran size signals given its.state.world its.world)
      (arguments_in (main_context p size m) place m.arguments main_state) _
      (its.arguments, its.state) its.evaluated
      (template_runs p resolved size fuel (make_at p size 255) (makes_fine p size 255)
      (makes_grow p resolved size fuel 255) (main_group m.public_names) (body_at p size fuel 255)
      (bodies_run p resolved size fuel 255)
      place t found_template.0 found_template.1 its.arguments
      (codes "main") its.state.world given []
      known fine.0 fine.1.1 first_sizes signals its.world its.made shapes)

  pub main_fits : Counted after → (o : Outcome) → Ran size signals given its.state.world its.world o
      → Fitting size (circuit_of size after) record {
        values = all_wires size after.sizes (record { signals = signals; wires = o.own } ∷
            o.inside);
        log = o.log;
      }
  main_fits rows o r =
      fitting size signals its.state.world its.world after given o r sizes_are
      (ap (λ (v : World). v.equations) like.4) its.like.0 its.like.1 rows

-- all numbers of a program's run
abbrev pub ending : ℕ → Signals × World → Outcome → RunTried Ending
ending size x o =
    Ok record {
      values = all_wires size x.1.sizes (record { signals = x.0; wires = o.own } ∷ o.inside);
      log = o.log;
    }

-- a program that compiles, as it runs: its values satisfy it
pub runs : (p : Program) (resolved : IsResolved p) (size fuel : ℕ) (c : Circuit) (inputs : List ℕ)
    → size ≤ 2 ^ 64 - 1 → compiled_with size p ≡ Ok c
    → length inputs ≡ c.public_inputs + c.private_inputs → length inputs < size
    → ((m : Main) (x : Signals × World) → exec_main p size m m.meant ≡ Ok x → Counted x.1)
    → Ends (Fitting size c) (run_with size p fuel inputs)
runs p resolved size fuel c inputs small e count few counted =
    let one : (m : Main) × (the_main p ≡ Ok m)
    × (next (exec_main p size m m.meant) circuit ≡ Ok c) =
    next_to (the_main p) (λ m. next (exec_main p size m m.meant) circuit) c e in
    let two : (x : Signals × World) × (exec_main p size one.0 one.0.meant ≡ Ok x)
    × (circuit x ≡ Ok c) = next_to (exec_main p size one.0 one.0.meant) circuit c one.2 in
    let is : circuit_of size two.0.1 ≡ c = cc in
    ends_refusing (Fitting size c) (the_main p) _ one.0 one.1
    (ends_refusing (Fitting size c) (exec_main p size one.0 one.0.meant) _ two.0 two.1
    (subst (λ d. Ends (Fitting size d) (next (run_program p size fuel one.0 one.0.meant
    (input_wires size two.0.1.sizes inputs two.0.0)) (ending size two.0))) is
    (by_meant one.0 two.0 (counted one.0 two.0 two.1) one.0.meant refl two.1
    (count ∙ ap (λ (x : Circuit). x.public_inputs + x.private_inputs) (sym is)))))
  where
    circuit : Signals × World → Tried Circuit
    circuit x = Ok (circuit_of size x.1)

    by_meant : (m : Main) (x : Signals × World) → Counted x.1 → (t : Meant) → m.meant ≡ t
        → exec_main p size m m.meant ≡ Ok x
        → length inputs ≡ x.1.sizes.public_inputs + x.1.sizes.private_inputs
        → Ends (Fitting size (circuit_of size x.1)) (next (run_program p size fuel m m.meant
        (input_wires size x.1.sizes inputs x.0)) (ending size x))
    by_meant m x rows (meant.Template t) same ex count =
        let at_t : exec_main p size m (meant.Template t) ≡ Ok (x.0, x.1) =
        subst (λ y. exec_main p size m y ≡ Ok x) same ex in
        subst (λ y. Ends (Fitting size (circuit_of size x.1)) (next (run_program p size fuel m y
        (input_wires size x.1.sizes inputs x.0)) (ending size x))) (sym same)
        (ends_next (Ran size x.0 (input_wires size x.1.sizes inputs x.0)
        (executed p size m t x.0 x.1 at_t).state.world (executed p size m t x.0 x.1 at_t).world)
        (Fitting size (circuit_of size x.1)) (run_program p size fuel m (meant.Template t)
        (input_wires size x.1.sizes inputs x.0)) (ending size x)
        (main_runs p resolved size fuel m t x.0 x.1 (executed p size m t x.0 x.1 at_t) inputs small
        few count) (λ o r. ends_ok (Fitting size (circuit_of size x.1)) _
        (main_fits p resolved size fuel m t x.0 x.1 (executed p size m t x.0 x.1 at_t) inputs small
        few count rows o r)))
    by_meant m x rows meant.Other same ex count =
        let no : exec_main p size m meant.Other ≡ Ok x =
        subst (λ y. exec_main p size m y ≡ Ok x) same ex in cc
    by_meant m x rows (meant.Variable n) same ex count =
        let no : exec_main p size m (meant.Variable n) ≡ Ok x =
        subst (λ y. exec_main p size m y ≡ Ok x) same ex in cc
    by_meant m x rows (meant.Signal direction n) same ex count =
        let no : exec_main p size m (meant.Signal direction n) ≡ Ok x =
        subst (λ y. exec_main p size m y ≡ Ok x) same ex in cc
    by_meant m x rows (meant.Component n) same ex count =
        let no : exec_main p size m (meant.Component n) ≡ Ok x =
        subst (λ y. exec_main p size m y ≡ Ok x) same ex in cc
    by_meant m x rows (meant.Function n) same ex count =
        let no : exec_main p size m (meant.Function n) ≡ Ok x =
        subst (λ y. exec_main p size m y ≡ Ok x) same ex in cc
