-- Bodies of templates make rows of declared names and instances of whole paths.
use Rattle.std.proofs.Common.{◌≡◌, ℕ, zero, suc, ◌+◌, ◌<◌, ◌≤◌, Bool, true}
use Rattle.std.proofs.Common.{List, [], ◌∷◌, ◌++◌}
use Rattle.std.proofs.Common.{length, replicate, Option, Some, None, refl, sym, subst, arith}
use Rattle.std.proofs.Common.{slice_get, length-append, codes}
use Rattle.std.specs.Prelude.{⊤}
use Rattle.std.specs.List.{AllByRecursion}
use Rattle.cir_ast.specs.declared.operators.Direction.{Direction}
use Rattle.cir_ast.specs.declared.program.Meant.{Meant}
use Rattle.cir_ast.specs.declared.program.Meant.TheVariants as meant
use Rattle.cir_ast.specs.declared.refusal.Kind.TheVariants.{WrongKind}
use Rattle.cir_ast.specs.Program.{Program, Template, Main}
use Rattle.cir_meaning.specs.Tried.{Where}
use Rattle.cir_meaning.specs.Places.{brackets}
use Rattle.cir_meaning.specs.Arrays.{Datum}
use Rattle.cir_meaning.specs.Frame.{Signals, Part, ComponentEntry, Frame, Group, Row, World, State}
use Rattle.cir_meaning.specs.Frame.{Caller, Maker, Context, at, put_at, entry_at, settle}
use Rattle.cir_meaning.specs.Evaluate.{arguments_in}
use Rattle.cir_meaning.specs.Writing.{with_part_signals, with_signals}
use Rattle.cir_meaning.specs.Declaring.{Creation, path_of}
use Rattle.cir_meaning.specs.Statement.{Flow, Going, Returned, exec_all}
use Rattle.cir_meaning.specs.Bodies.{numbered_others, all_written, all_fed, ended_flow}
use Rattle.cir_meaning.specs.Bodies.{template_context, template_state, exec_template, call_at}
use Rattle.cir_meaning.specs.Bodies.{most_open, make_at}
use Rattle.cir_meaning.specs.Compile.{main_group, main_context, main_state, exec_main}
use Rattle.cir_meaning.proofs.Good.{OnGood, good_ok, good_bad, good_next, good_on, good_is}
use Rattle.cir_meaning.proofs.Good.{good_found_as, OnSome'}
use Rattle.cir_meaning.proofs.Rows.{all_append}
use Rattle.cir_meaning.proofs.Likes.{CallKeeps, Like, like_itself}
use Rattle.cir_meaning.proofs.StepRuns.{settle_like}
use Rattle.cir_meaning.proofs.Creating.{Created as IsCreated, arguments_like}
use Rattle.cir_meaning.proofs.GrowingSizes.{constrained_kept}
use Rattle.cir_meaning.proofs.KnownCalls.{calls_keep}
use Rattle.cir_row_names.specs.Rows.{IsLineText, IsNamedTemplate, IsNamedProgram, IsNamedRow}
use Rattle.cir_row_names.proofs.Texts.{line_append, brackets_line, dot_line, main_line}
use Rattle.cir_row_names.proofs.Closing.{IsOfEntry, Closes}
use Rattle.cir_row_names.proofs.StatementRows.{FlowKept, exec_all_kept}

-- components are declared under text of one line
abbrev AreHeld : List (Option ComponentEntry) → Type 0
AreHeld [] = ⊤
AreHeld (None ∷ cs) = AreHeld cs
AreHeld (Some c ∷ cs) = IsLineText c.name × AreHeld cs

held_at : (cs : List (Option ComponentEntry)) (n : ℕ) (c : ComponentEntry) → AreHeld cs
    → entry_at cs n ≡ Some c → IsLineText c.name
held_at [] n c h e = cc
held_at (None ∷ cs) zero c h e = cc
held_at (None ∷ cs) (suc n) c h e = held_at cs n c h e
held_at (Some d ∷ cs) zero c h e =
    let same : d ≡ c = cc in subst (λ (x : ComponentEntry). IsLineText x.name) same h.0
held_at (Some d ∷ cs) (suc n) c h e = held_at cs n c h.1 e

held_put : (n : ℕ) (c : ComponentEntry) (cs : List (Option ComponentEntry)) → AreHeld cs
    → IsLineText c.name → AreHeld (put_at n c cs)
held_put zero c [] h line = (line, tt)
held_put zero c (None ∷ cs) h line = (line, h)
held_put zero c (Some d ∷ cs) h line = (line, h.1)
held_put (suc n) c [] h line = held_put n c [] tt line
held_put (suc n) c (None ∷ cs) h line = held_put n c cs h line
held_put (suc n) c (Some d ∷ cs) h line = (h.0, held_put n c cs h.1 line)

held_blank : (n : ℕ) → AreHeld (replicate n None)
held_blank zero = tt
held_blank (suc n) = held_blank n

part_apart : (j : ℕ) (signals : Signals) (o : Option Part) (f : Frame)
    → (with_part_signals j signals o f).components ≡ f.components
part_apart j signals None f = refl
part_apart j signals (Some p) f = refl

components_apart : (part : Option ℕ) (signals : Signals) (f : Frame)
    → (with_signals part signals f).components ≡ f.components
components_apart None signals f = refl
components_apart (Some j) signals f = part_apart j signals (slice_get f.parts j) f

item_at : {A : Type 0} (P : A → Type 0) (xs : List A) (n : ℕ) (x : A) → AllByRecursion P xs
    → slice_get xs n ≡ Some x → P x
item_at P [] n x h e = cc
item_at P (y ∷ ys) zero x h e = let same : y ≡ x = cc in subst P same h.0
item_at P (y ∷ ys) (suc n) x h e = item_at P ys n x h.1 e

module _ (p : List ℕ → Bool) (fits : (name : List ℕ) → p name ≡ true → IsLineText name)
  where
    -- rows, and the paths of the instances
    abbrev Named : (rows : List Row) → (paths : List (List ℕ)) → Type 0
    Named rows paths =
        AllByRecursion (IsNamedRow p (length paths)) rows × AllByRecursion IsLineText paths

    abbrev pub NamedWorld : World → Type 0
    NamedWorld w = Named w.rows w.instances

    wider : (n m : ℕ) (rows : List Row) → n ≤ m → AllByRecursion (IsNamedRow p n) rows
        → AllByRecursion (IsNamedRow p m) rows
    wider n m [] l h = tt
    wider n m (row ∷ rows) l h = (
      record { name = h.0.name; instance = omega (arith, h.0.instance) },
      wider n m rows l h.1,
    )

    -- as it is left, no instance having been given up
    abbrev Over : ℕ → World → Type 0
    Over least w = NamedWorld w × (least ≤ length w.instances)

    abbrev IsNaming : Maker → Type 0
    IsNaming make =
        (w : Where) (t : ℕ) (ds : List Datum) (path : List ℕ) (world : World)
        → NamedWorld world
        → IsLineText path
        → OnGood (λ x. Over (length world.instances) x.1) (make w t ds path world)

    module _ (k : Context) (path : IsLineText k.path) (makes : OnSome' IsNaming k.make) where
      abbrev NamedState : State → Type 0
      NamedState s =
          NamedWorld s.world × (k.instance < length s.world.instances)
          × AreHeld s.frame.components

      like_named : (f s : State) → Like f s → NamedState f → NamedState s
      like_named f s l h =
          let now : NamedWorld s.world × (k.instance < length s.world.instances) =
          subst (λ (v : World). NamedWorld v × (k.instance < length v.instances)) (sym l.4)
          (h.0, h.1) in
          (now.0, now.1, subst AreHeld (sym l.2) h.2)

      created_named : (w : Where) (c : Creation) (place : ℕ) (s : State)
          → IsCreated k w c place s → IsOfEntry c → NamedState c.state → NamedState s
      created_named w c place s made entry h =
          let name : IsLineText c.entry.name =
          held_at c.state.frame.components c.component c.entry h.2 entry in
          let line : IsLineText (path_of k c.entry c.indices) =
          line_append k.path _ path (line_append (codes ".") _ dot_line
          (line_append c.entry.name (brackets c.indices) name (brackets_line c.indices))) in
          let naming : IsNaming made.make = subst (λ o. OnSome' IsNaming o) made.is_make makes in
          let after : Over (length c.state.world.instances) made.world =
          good_is (λ x. Over (length c.state.world.instances) x.1)
          (made.make w c.template c.arguments (path_of k c.entry c.indices) c.state.world)
          (made.signals, made.world) made.made
          (naming w c.template c.arguments (path_of k c.entry c.indices) c.state.world h.0 line) in
          subst NamedState (sym made.state) (
            after.0,
            omega (arith, after.1, h.1),
            held_put c.component _ c.state.frame.components h.2 name,
          )

      closes : Closes p k NamedState
      closes = record {
        like = like_named;
        added = λ s t i h. subst NamedState (sym i.1) h;
        variable = λ i d s h. h;
        array = λ dims s h. h;
        component = λ i c s line h. (h.0, h.1, held_put i c s.frame.components h.2 line);
        written = λ part number place e s h. (
          h.0,
          h.1,
          subst AreHeld (sym (components_apart part _ s.frame)) h.2,
        );
        equation = constrained_kept NamedState
            (λ x y s t c h. subst NamedState (sym c.adds.1) h) k;
        signal = λ spot direction i name dims s passes h. (
          (
            all_append (IsNamedRow p (length s.world.instances)) s.world.rows _ h.0.0
                (record { name = passes; instance = h.1 }, tt),
            h.0.1,
          ),
          h.1,
          h.2,
        );
        created = created_named;
      }

    begun_named : (t : Template) (ds : List Datum) (path : List ℕ) (world : World) (k : Context)
        (line : IsLineText k.path) (makes : OnSome' IsNaming k.make)
        → k.instance ≡ length world.instances → IsLineText path → NamedWorld world
        → NamedState k line makes (template_state t ds path world)
    begun_named t ds path world k line makes same whole h =
        let long : length (world.instances ++ path ∷ []) ≡ length world.instances + 1 =
        length-append world.instances (path ∷ []) in (
          (
            wider (length world.instances) (length (world.instances ++ path ∷ [])) world.rows
                (omega (arith, long)) h.0,
            all_append IsLineText world.instances (path ∷ []) h.1 (whole, tt),
          ),
          omega (arith, long, same),
          held_blank t.components,
        )

    template_naming : (program : Program) (size : ℕ) (call : Caller) → CallKeeps call
        → (make : Option Maker) → OnSome' IsNaming make
        → (group : Direction → List ℕ → Group)
        → IsNamedProgram p program → IsNaming (exec_template program size call make group)
    template_naming program size call keeps make makes group named w n ds path world h line =
        good_found_as (λ x. Over (length world.instances) x.1) w WrongKind
        (slice_get program.templates n) _ (λ t there.
        let k : Context = template_context program size call make group t path world in
        good_next (FlowKept p fits k keeps (NamedState k line makes)
        (Over (length world.instances)) (closes k line makes) (worlds t))
        (λ x. Over (length world.instances) x.1)
        (exec_all k t.body (template_state t ds path world)) (ended_flow k)
        (exec_all_kept p fits k keeps (NamedState k line makes) (Over (length world.instances))
        (closes k line makes) (worlds t) t.body
        (item_at (IsNamedTemplate p) program.templates n t named there)
        (template_state t ds path world) (begun_named t ds path world k line makes refl line h))
        (ends t))
      where
        worlds : (t : Template) (s : State)
            → NamedState (template_context program size call make group t path world) line makes s
            → Over (length world.instances) s.world
        worlds t s g = (g.0, omega (arith, g.1))

        ends : (t : Template) (f : Flow)
            → FlowKept p fits (template_context program size call make group t path world) keeps
            (NamedState (template_context program size call make group t path world) line makes)
            (Over (length world.instances))
            (closes (template_context program size call make group t path world) line makes)
            (worlds t) f
            → OnGood (λ x. Over (length world.instances) x.1)
            (ended_flow (template_context program size call make group t path world) f)
        ends t (Going s) g =
            let k : Context = template_context program size call make group t path world in
            good_on (λ x. Over (length world.instances) x.1) (all_written k s.frame.signals) _
            (λ u.
            good_on (λ x. Over (length world.instances) x.1) (all_fed k s.frame.parts) _
            (λ v. good_ok (λ x. Over (length world.instances) x.1) (s.frame.signals, s.world)
            (worlds t s g)))
        ends t (Returned d after) g =
            good_ok (λ x. Over (length world.instances) x.1) ([], after) g

    makes_naming : (program : Program) (size room : ℕ) → IsNamedProgram p program
        → OnSome' IsNaming (make_at program size room)
    makes_naming program size zero named = tt
    makes_naming program size (suc room) named =
        template_naming program size (call_at program size most_open)
        (calls_keep program size most_open) (make_at program size room)
        (makes_naming program size room named) numbered_others named

    pub main_named : (program : Program) (size : ℕ) (m : Main) (t : Meant)
        → IsNamedProgram p program → OnGood (λ x. NamedWorld x.1) (exec_main program size m t)
    main_named program size m (meant.Template t) named =
        let k : Context = main_context program size m in
        let call : Caller = call_at program size most_open in
        good_next (λ x. Like main_state x.1) (λ x. NamedWorld x.1)
        (arguments_in k (at k m.spot) m.arguments main_state) _
        (arguments_like k (calls_keep program size most_open) main_state (at k m.spot) m.arguments
        main_state (like_itself main_state)) (λ x l.
        let empty : NamedWorld x.1.world = subst NamedWorld (sym l.4) (tt, tt) in
        good_next (λ y. Over (length x.1.world.instances) y.1) (λ y. NamedWorld y.1)
        (exec_template program size call (make_at program size 255) (main_group m.public_names)
        (at k m.spot) t x.0 (codes "main") x.1.world) _
        (template_naming program size call (calls_keep program size most_open)
        (make_at program size 255) (makes_naming program size 255 named)
        (main_group m.public_names) named (at k m.spot) t x.0 (codes "main") x.1.world empty
        main_line) (λ y g.
        let s : State = record { frame = x.1.frame; world = y.1 } in
        good_next (λ u. Like s u) (λ z. NamedWorld z.1) (settle (at k m.spot) s) _
        (settle_like s (at k m.spot) s (like_itself s)) (λ u i.
        good_ok (λ z. NamedWorld z.1) (y.0, u.world) (subst NamedWorld (sym i.4) g.0))))
    main_named program size m meant.Other named = good_bad (λ x. NamedWorld x.1) _
    main_named program size m (meant.Variable n) named = good_bad (λ x. NamedWorld x.1) _
    main_named program size m (meant.Signal direction n) named =
        good_bad (λ x. NamedWorld x.1) _
    main_named program size m (meant.Component n) named = good_bad (λ x. NamedWorld x.1) _
    main_named program size m (meant.Function n) named = good_bad (λ x. NamedWorld x.1) _
