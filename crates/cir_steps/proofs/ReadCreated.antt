-- A component that is created has cells and numbers of its own, and its steps read what is there
-- once its inputs are written.
use Rattle.std.proofs.Common.{◌≡◌, ◌⊎◌, inl, inr, ℕ, zero, suc, ◌+◌, ◌<◌, Bool, true}
use Rattle.std.proofs.Common.{false, cond, List, [], ◌∷◌, ◌++◌, length, replicate, Some, None, Ok}
use Rattle.std.proofs.Common.{refl, sym, ap, subst, ◌∙◌, arith, slice_get}
use Rattle.std.specs.Prelude.{is_none}
use Rattle.std.proofs.lemmas.List.{append-nil}
use Rattle.cir_ast.specs.declared.program.Meant.{Meant}
use Rattle.cir_ast.specs.declared.refusal.Kind.TheVariants.{SecondWrite, TooDeep, NotInProfile}
use Rattle.cir_ast.specs.declared.refusal.Form.TheVariants.{MixedComponents}
use Rattle.cir_ast.specs.Tree.{Expr, Accessors}
use Rattle.cir_meaning.specs.Tried.{Where, Tried, next, needed, found}
use Rattle.cir_meaning.specs.Places.{elements}
use Rattle.cir_meaning.specs.Arrays.{Datum}
use Rattle.cir_meaning.specs.Frame.{SignalEntry, Signals, Part, Sizes, World, State, Maker, Context}
use Rattle.cir_meaning.specs.Frame.{entry_at, is_input, is_fed}
use Rattle.cir_meaning.specs.Declaring.{may_be, template_of, opened, path_of, Creation, creation}
use Rattle.cir_meaning.specs.Declaring.{create_each, create}
use Rattle.cir_meaning.specs.Run.{RunPart}
use Rattle.cir_meaning.specs.RunSimple.{waiting}
use Rattle.cir_meaning.specs.RunBodies.{port_tables}
use Rattle.cir_meaning.proofs.Good.{OnGood, good_ok, good_next, good_as, good_weaker}
use Rattle.cir_meaning.proofs.Likes.{CallKeeps, Like, like_itself}
use Rattle.cir_meaning.proofs.KnownCalls.{CallBoth}
use Rattle.cir_meaning.proofs.GroupSizes.{Less, Fits}
use Rattle.cir_meaning.proofs.Weights.{inside, cover, cover_entries, cover_tables, cover_join}
use Rattle.cir_meaning.proofs.Weights.{under}
use Rattle.cir_meaning.proofs.NumberPlaces.{Roomy}
use Rattle.cir_meaning.proofs.Creating.{get_more, get_last, get_either, one_longer, creation_like}
use Rattle.cir_meaning.proofs.ScanPoints.{next_to, needed_to, found_to}
use Rattle.cir_steps.specs.Step.{Step}
use Rattle.cir_steps.specs.Emission.{Emission, Emitted, quiet, known_in, with_state, steps_in}
use Rattle.cir_steps.specs.Making.{Cast, Caster, Emitting, freed, freed_at, with_cast}
use Rattle.cir_steps.specs.Emit.{emit_created, emit_create}
use Rattle.cir_steps.specs.Written.{targets_of}
use Rattle.cir_steps.proofs.Casting.{created_state}
use Rattle.cir_steps.proofs.Still.{still_like, Still, still_itself}
use Rattle.cir_steps.proofs.Walk.{still_clear}
use Rattle.cir_steps.proofs.ReadWalk.{Leaf}
use Rattle.cir_steps.proofs.ReadCells.{In, in_left, in_right, Behind, behind_weaker, Given}
use Rattle.cir_steps.proofs.ReadCells.{PartHolds, Holding, Holds, holding_more, part_more}
use Rattle.cir_steps.proofs.ReadLeaves.{same_ok, GivenOf, Moved, Moves, moves_still, stays_clear}
use Rattle.cir_steps.proofs.ReadLeaves.{Good}
use Rattle.cir_steps.proofs.ReadWired.{Entries, fed_behind}

-- what holds of the steps of a body, and of its cells and numbers
pub record Covers (size : ℕ) (world : World) (z : Signals × World) (o : Cast) : Type 0 where
  pub exact : Entries (λ e. length e.written ≡ elements e.dims) z.0
  pub covered : (m : ℕ)
      → cover_entries m z.0 + (cover_tables m o.inside + under size world.sizes m)
      ≡ under size z.1.sizes m
  pub ports : (n : ℕ) (e : SignalEntry) → entry_at z.0 n ≡ Some e → (i : ℕ)
      → i < length e.written → (c : ℕ) × (o.own n i ≡ Some c)
      × (is_input e.direction ≡ false → In c (targets_of o.steps))
  pub body : Behind (Given z.0 o.own) [] o.steps

-- a body as it is executed, and as its steps are made
abbrev pub CastsWell : (size : ℕ) → (final : Sizes) → Maker → Caster → Type 0
CastsWell size final make cast =
    (w : Where) (n : ℕ) (ds : List Datum) (path : List ℕ) (world : World) (start : ℕ)
    (z : Signals × World) (o : Cast) → make w n ds path world ≡ Ok z
    → cast w n ds path world start ≡ Ok o → Fits world.sizes
    → (Fits z.1.sizes × Less world.sizes z.1.sizes)
    × (Less z.1.sizes final → Covers size world z o)

-- the inputs of a component aren't written when it is created
record OpenedFrom (e d : SignalEntry) : Type 0 where
  direction : is_input d.direction ≡ is_input e.direction
  count : length d.written ≡ length e.written
  dims : d.dims ≡ e.dims
  first : d.first ≡ e.first
  blank : is_input d.direction ≡ true → (i : ℕ) → slice_get d.written i ≡ Some true → ⊥

as_many : (n : ℕ) (b : Bool) → length (replicate n b) ≡ n
as_many zero b = refl
as_many (suc n) b = ap (λ (m : ℕ). suc m) (as_many n b)

never : (n i : ℕ) → slice_get (replicate n false) i ≡ Some true → ⊥
never zero i e = cc
never (suc n) zero e = cc
never (suc n) (suc i) e = never n i e

opened_one : (e : SignalEntry) → OpenedFrom e (cond (is_input e.direction)
    (record e { written = replicate (length e.written) false }) e)
opened_one e = at (is_input e.direction) refl
  where
    at : (b : Bool) → is_input e.direction ≡ b → OpenedFrom e (cond b
        (record e { written = replicate (length e.written) false }) e)
    at true input = record {
      direction = refl;
      count = as_many (length e.written) false;
      dims = refl;
      first = refl;
      blank = λ yes i mark. never (length e.written) i mark;
    }
    at false input = record {
      direction = refl;
      count = refl;
      dims = refl;
      first = refl;
      blank = λ yes i mark. let no : true ≡ false = sym yes ∙ input in cc;
    }

opened_from : (xs : Signals) (n : ℕ) (d : SignalEntry) → entry_at (opened xs) n ≡ Some d
    → (e : SignalEntry) × (entry_at xs n ≡ Some e) × OpenedFrom e d
opened_from [] n d there = cc
opened_from (None ∷ xs) zero d there = cc
opened_from (None ∷ xs) (suc n) d there = opened_from xs n d there
opened_from (Some e ∷ xs) zero d there =
    let same : cond (is_input e.direction) (record e {
      written = replicate (length e.written) false;
    }) e ≡ d = cc in
    (e, refl, subst (OpenedFrom e) same (opened_one e))
opened_from (Some e ∷ xs) (suc n) d there = opened_from xs n d there

opened_there : (xs : Signals) (n : ℕ) (e : SignalEntry) → entry_at xs n ≡ Some e
    → (d : SignalEntry) × (entry_at (opened xs) n ≡ Some d) × OpenedFrom e d
opened_there [] n e there = cc
opened_there (None ∷ xs) zero e there = cc
opened_there (None ∷ xs) (suc n) e there = opened_there xs n e there
opened_there (Some o ∷ xs) zero e there =
    let same : o ≡ e = cc in
    subst (λ (z : SignalEntry). (d : SignalEntry)
    × (entry_at (opened (Some o ∷ xs)) 0 ≡ Some d) × OpenedFrom z d) same
    (_, refl, opened_one o)
opened_there (Some o ∷ xs) (suc n) e there = opened_there xs n e there

opened_cover : (m : ℕ) (xs : Signals) → cover_entries m (opened xs) ≡ cover_entries m xs
opened_cover m [] = refl
opened_cover m (None ∷ xs) = opened_cover m xs
opened_cover m (Some e ∷ xs) = sum (at (opened_one e)) (opened_cover m xs)
  where
    at : {d : SignalEntry} → OpenedFrom e d → cover m d ≡ cover m e
    at {d} h =
        ap (λ (a : ℕ). inside m a (length d.written)) h.first ∙ ap (inside m e.first) h.count

    sum : {a b c d : ℕ} → a ≡ b → c ≡ d → a + c ≡ b + d
    sum h g = omega arith

tables_last : (m : ℕ) (ps : List Part) (rs : List RunPart) (p : Part) (r : RunPart)
    → length ps ≡ length rs
    → cover_tables m (port_tables (ps ++ p ∷ []) (rs ++ r ∷ []))
    ≡ cover_tables m (port_tables ps rs) + (cover_entries m p.signals + cover_tables m r.inside)
tables_last m [] [] p r h =
    let join : cover_tables m (r.inside ++ []) ≡ cover_tables m r.inside + 0 =
    cover_join m r.inside [] in
    omega arith
tables_last m [] (s ∷ rs) p r h = cc
tables_last m (q ∷ ps) [] p r h = cc
tables_last m (q ∷ ps) (s ∷ rs) p r h =
    let rest : cover_tables m (port_tables (ps ++ p ∷ []) (rs ++ r ∷ []))
    ≡ cover_tables m (port_tables ps rs) + (cover_entries m p.signals + cover_tables m r.inside) =
    tables_last m ps rs p r (let more : suc (length ps) ≡ suc (length rs) = h in omega arith) in
    let new : cover_tables m (s.inside ++ port_tables (ps ++ p ∷ []) (rs ++ r ∷ []))
    ≡ cover_tables m s.inside
    + cover_tables m (port_tables (ps ++ p ∷ []) (rs ++ r ∷ [])) = cover_join m s.inside _ in
    let old : cover_tables m (s.inside ++ port_tables ps rs)
    ≡ cover_tables m s.inside + cover_tables m (port_tables ps rs) =
    cover_join m s.inside (port_tables ps rs) in
    omega arith

-- what is to be created leaves signals, components and sizes
creation_still : (k : Context) (keeps : CallKeeps k.call) (w : Where) (f : State) (n : ℕ)
    (accessors : Accessors Meant) (e : Expr Meant)
    → OnGood (λ c. Still f c.state) (creation k w n accessors e f)
creation_still k keeps w f n accessors e =
    good_weaker (λ c. Like f c.state) (λ c. Still f c.state) (creation k w n accessors e f)
    (creation_like k keeps f w n accessors e f (like_itself f))
    (λ c l. still_like f f c.state (still_itself f) l)

-- with a component that is new
module _ (size : ℕ) (final : Sizes) (q : Emitting) (w : Where) (c : Creation) (place : ℕ)
    (a : Signals × World) (o : Cast) (x : Emission) (rests : Still (known_in x) c.state)
    (grows : Fits c.state.world.sizes → (Fits a.1.sizes × Less c.state.world.sizes a.1.sizes)
    × (Less a.1.sizes final → Covers size c.state.world a o)) where
  abbrev f : State
  f = known_in x

  abbrev part : Part
  part = record { spot = w.spot; template = c.template; signals = opened a.0 }

  abbrev run : RunPart
  run = record (waiting q.context w c) { ports = o.own; inside = o.inside }

  abbrev y : Emission
  y = with_cast q.context w c o (created_state w c place a) x

  abbrev pub made : Emitted
  made = record { state = y; steps = freed_at (Some (length x.bodies)) false y ++ [] }

  abbrev freed_now : List Step
  freed_now = cond (is_fed (opened a.0)) o.steps []

  module _ (first : Sizes) (before : List ℕ) (h : Holds size first before x)
      (covers : Covers size c.state.world a o) where
    freed_are : freed_at (Some (length x.bodies)) false y ++ [] ≡ freed_now
    freed_are =
        append-nil (freed_at (Some (length x.bodies)) false y)
        ∙ ap (λ p. freed (length x.bodies) false p y) its_part
        ∙ ap (λ b. cond (is_fed (opened a.0)) (steps_in b) []) (get_last x.bodies o.steps)
      where
        its_part : slice_get (c.state.frame.parts ++ part ∷ []) (length x.bodies) ≡ Some part
        its_part =
            ap (λ (n : ℕ). slice_get (c.state.frame.parts ++ part ∷ []) n)
            (h.bodies_count ∙ sym (ap length rests.1)) ∙ get_last c.state.frame.parts part

    abbrev all : List ℕ
    all = before ++ targets_of freed_now

    old_in : (d : ℕ) → In d before → In d all
    old_in d i = in_left d before (targets_of freed_now) i

    open_given : (d : ℕ) → Given a.0 o.own d ⊎ In d [] → Given (opened a.0) o.own d ⊎ In d []
    open_given d (inl (n, e, there, input, i, less, own)) =
        let its : (z : SignalEntry) × (entry_at (opened a.0) n ≡ Some z) × OpenedFrom e z =
        opened_there a.0 n e there in
        inl (
          n,
          its.0,
          its.1,
          its.2.direction ∙ input,
          i,
          subst (λ (m : ℕ). i < m) (sym its.2.count) less,
          own,
        )
    open_given d (inr i) = inr i

    body : Behind (Given (opened a.0) o.own) [] o.steps
    body =
        behind_weaker (Given a.0 o.own) (Given (opened a.0) o.own) [] [] o.steps open_given
        covers.body

    part_holds : PartHolds all part run o.steps
    part_holds = record {
      exact = λ n d there.
          let its : (e : SignalEntry) × (entry_at a.0 n ≡ Some e) × OpenedFrom e d =
          opened_from a.0 n d there in
          its.2.count ∙ covers.exact n its.0 its.1 ∙ ap elements (sym its.2.dims);
      ports = λ n d there i less.
          let its : (e : SignalEntry) × (entry_at a.0 n ≡ Some e) × OpenedFrom e d =
          opened_from a.0 n d there in
          let port : (c : ℕ) × (o.own n i ≡ Some c)
          × (is_input its.0.direction ≡ false → In c (targets_of o.steps)) =
          covers.ports n its.0 its.1 i (subst (λ (m : ℕ). i < m) its.2.count less) in (
            port.0,
            port.1,
            (λ input mark. absurd (its.2.blank input i mark)),
            (λ input fed. in_right port.0 before (targets_of freed_now)
                (subst (λ (b : Bool). In port.0 (targets_of (cond b o.steps []))) (sym fed)
                (port.2 (sym its.2.direction ∙ input)))),
            (λ input. port.2 (sym its.2.direction ∙ input)),
          );
      body = body;
    }

    part_at_i : (i : ℕ) (z : Part) → slice_get (f.frame.parts ++ part ∷ []) i ≡ Some z
        → (r : RunPart) × (slice_get (x.cells.parts ++ run ∷ []) i ≡ Some r)
        × (steps : List Step) × (slice_get (x.bodies ++ o.steps ∷ []) i ≡ Some steps)
        × PartHolds all z r steps
    part_at_i i z there = by (get_either f.frame.parts part i z there)
      where
        by : (slice_get f.frame.parts i ≡ Some z) ⊎ ((length f.frame.parts ≡ i) × (part ≡ z))
            → (r : RunPart) × (slice_get (x.cells.parts ++ run ∷ []) i ≡ Some r)
            × (steps : List Step) × (slice_get (x.bodies ++ o.steps ∷ []) i ≡ Some steps)
            × PartHolds all z r steps
        by (inl old) =
            let its : (r : RunPart) × (slice_get x.cells.parts i ≡ Some r)
            × (steps : List Step) × (slice_get x.bodies i ≡ Some steps)
            × PartHolds before z r steps = h.part i z old in (
              its.0,
              get_more x.cells.parts (run ∷ []) i its.0 its.1,
              its.2,
              get_more x.bodies (o.steps ∷ []) i its.2 its.3,
              part_more before all z its.0 its.2 old_in its.4,
            )
        by (inr new) = (
          run,
          ap (λ (n : ℕ). slice_get (x.cells.parts ++ run ∷ []) n)
              (sym (h.runs_count ∙ new.0)) ∙ get_last x.cells.parts run,
          o.steps,
          ap (λ (n : ℕ). slice_get (x.bodies ++ o.steps ∷ []) n)
              (sym (h.bodies_count ∙ new.0)) ∙ get_last x.bodies o.steps,
          subst (λ (p : Part). PartHolds all p run o.steps) new.1 part_holds,
        )

    sum_new : (s t u v w p i last : ℕ) → s + (t + u) ≡ v → p + (i + w) ≡ last → w ≡ v
        → s + ((t + (p + i)) + u) ≡ last
    sum_new s t u v w p i last g k e = omega arith

    covered : (m : ℕ) → cover_entries m f.frame.signals
        + (cover_tables m (port_tables (f.frame.parts ++ part ∷ []) (x.cells.parts ++ run ∷ []))
        + under size first m) ≡ under size a.1.sizes m
    covered m =
        ap (λ (n : ℕ). cover_entries m f.frame.signals + (n + under size first m))
        (tables_last m f.frame.parts x.cells.parts part run (sym h.runs_count)
        ∙ ap (λ (n : ℕ). cover_tables m (port_tables f.frame.parts x.cells.parts)
        + (n + cover_tables m o.inside)) (opened_cover m a.0))
        ∙ sum_new (cover_entries m f.frame.signals)
        (cover_tables m (port_tables f.frame.parts x.cells.parts)) (under size first m)
        (under size f.world.sizes m) (under size c.state.world.sizes m) (cover_entries m a.0)
        (cover_tables m o.inside) (under size a.1.sizes m) (h.covered m) (covers.covered m)
        (ap (λ (z : Sizes). under size z m) rests.2)

    holds : Holds size first all y
    holds =
        subst (λ ps. Holding size first all c.state.frame.signals (ps ++ part ∷ []) a.1.sizes
        x.cells.own (x.cells.parts ++ run ∷ []) x.sources (x.bodies ++ o.steps ∷ []))
        (sym rests.1)
        (subst (λ xs. Holding size first all xs (f.frame.parts ++ part ∷ []) a.1.sizes
        x.cells.own (x.cells.parts ++ run ∷ []) x.sources (x.bodies ++ o.steps ∷ []))
        (sym rests.0) record {
          sourced = λ n i d g. old_in d (h.sourced n i d g);
          exact = h.exact;
          owned = (holding_more size first before all _ _ _ _ _ _ _ old_in h).owned;
          part = part_at_i;
          runs_count = one_longer x.cells.parts run ∙ ap (λ (n : ℕ). suc n) h.runs_count
              ∙ sym (one_longer f.frame.parts part);
          bodies_count = one_longer x.bodies o.steps ∙ ap (λ (n : ℕ). suc n) h.bodies_count
              ∙ sym (one_longer f.frame.parts part);
          covered = covered;
        })

    given : (d : ℕ) → GivenOf x d → GivenOf y d
    given d g = subst (λ xs. Given xs x.cells.own d) (sym rests.0) g

    reads : Behind (GivenOf y) before freed_now
    reads = by (is_fed (opened a.0)) refl
      where
        by : (b : Bool) → is_fed (opened a.0) ≡ b
            → Behind (GivenOf y) before (cond b o.steps [])
        by true fed =
            fed_behind (GivenOf y) before (opened a.0) o.own o.steps
            (λ n d there i e less own input mark.
            absurd ((opened_from a.0 n d there).2.blank input i mark)) fed body
        by false fed = tt

    moved : Moved size first before x made
    moved =
        subst (λ (ss : List Step). Moved size first before x record { state = y; steps = ss })
        (sym freed_are) record { behind = reads; holds = holds; given = given }

  pub created_moves : Moves size final x made
  created_moves fits =
      let its : (Fits a.1.sizes × Less c.state.world.sizes a.1.sizes)
      × (Less a.1.sizes final → Covers size c.state.world a o) =
      grows (subst Fits (sym rests.2) fits) in (
        (its.0.0, subst (λ z. Less z a.1.sizes) rests.2 its.0.1),
        (λ less first before h. moved first before h (its.1 less)),
      )

module _ (size : ℕ) (final : Sizes) (room : Roomy size final) (q : Emitting)
    (twice : CallBoth q.context.call) (keeps : CallKeeps q.context.call)
    (well : (make : Maker) → q.context.make ≡ Some make → CastsWell size final make q.cast) where
  pub created_leaf : (w : Where) (n : ℕ) (accessors : Accessors Meant) (e : Expr Meant)
      (x : Emission) → Good size final room q twice keeps x (emit_create q w n accessors e x)
  created_leaf w n accessors e x =
      good_next (λ c. Still (known_in x) c.state) (Leaf (Moves size final) x)
      (creation q.context w n accessors e (known_in x)) _
      (creation_still q.context keeps w (known_in x) n accessors e) (λ c h.
      good_as (Leaf (Moves size final) x) (create q.context w c) _ (λ s es.
      at c h s c.places es))
    where
      still : (s : State) → Still (known_in x) s
          → Good size final room q twice keeps x (quiet (with_state s x))
      still s h =
          good_ok (Leaf (Moves size final) x) _
          (moves_still size final x s h, stays_clear (known_in x) s h)

      at : (c : Creation) → Still (known_in x) c.state → (s : State) → (places : List ℕ)
          → create_each q.context w c places ≡ Ok s
          → Good size final room q twice keeps x (emit_created q w c places s x)
      at c h s [] es = still s (subst (Still (known_in x)) (same_ok c.state s es) h)
      at c h s (place ∷ places) es =
          let one : (is_none (entry_at c.entry.parts place) ≡ true) × (with_make ≡ Ok s) =
          needed_to (is_none (entry_at c.entry.parts place)) w SecondWrite with_make s es in
          let two : (make : Maker) × (found w TooDeep q.context.make ≡ Ok make)
          × (mixed make ≡ Ok s) =
          next_to (found w TooDeep q.context.make) mixed s one.1 in
          let three : (may_be c.template (template_of c.state.frame.parts c.entry.parts) ≡ true)
          × (next (two.0 w c.template c.arguments (path_of q.context c.entry c.indices)
          c.state.world) last ≡ Ok s) =
          needed_to (may_be c.template (template_of c.state.frame.parts c.entry.parts)) w
          (NotInProfile MixedComponents) _ s two.2 in
          let four : (a : Signals × World)
          × (two.0 w c.template c.arguments (path_of q.context c.entry c.indices)
          c.state.world ≡ Ok a) × (last a ≡ Ok s) =
          next_to (two.0 w c.template c.arguments (path_of q.context c.entry c.indices)
          c.state.world) last s three.1 in
          with_body two.0 (found_to w TooDeep q.context.make two.0 two.1) four.0 four.1
          (same_ok _ s four.2)
        where
          last : Signals × World → Tried State
          last a = Ok (created_state w c place a)

          mixed : Maker → Tried State
          mixed make =
              needed (may_be c.template (template_of c.state.frame.parts c.entry.parts)) w
              (NotInProfile MixedComponents)
              (next (make w c.template c.arguments (path_of q.context c.entry c.indices)
              c.state.world) last)

          with_make : Tried State
          with_make = next (found w TooDeep q.context.make) mixed

          with_body : (make : Maker) → q.context.make ≡ Some make → (a : Signals × World)
              → make w c.template c.arguments (path_of q.context c.entry c.indices) c.state.world
              ≡ Ok a
              → created_state w c place a ≡ s
              → Good size final room q twice keeps x (emit_created q w c (place ∷ places) s x)
          with_body make there a ea same = subst (λ t.
              Good size final room q twice keeps x (emit_created q w c (place ∷ places) t x)) same
              (good_as (Leaf (Moves size final) x)
              (q.cast w c.template c.arguments (path_of q.context c.entry c.indices)
              c.state.world x.next) _ (λ o eo.
              good_ok (Leaf (Moves size final) x) _ (
                created_moves size final q w c place a o x h
                    (well make there w c.template c.arguments
                    (path_of q.context c.entry c.indices) c.state.world x.next a o ea eo),
                (λ ns p. still_clear ns (known_in x) c.state h p),
              )))
