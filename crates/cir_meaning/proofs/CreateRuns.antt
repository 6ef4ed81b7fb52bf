-- The run behind the creation of a component.
use Rattle.std.proofs.Common.{◌≡◌, ◌⊎◌, inl, inr, ℕ, suc, false, List, [], ◌∷◌, ◌++◌, length}
use Rattle.std.proofs.Common.{Option, Some, None, Ok, refl, sym, ap, subst, ◌∙◌, slice_get}
use Rattle.cir_meaning.proofs.PartWeights.{last_numbered}
use Rattle.cir_meaning.proofs.GroupSizes.{IsGrowing, Fits, Less}
use Rattle.std.specs.List.{AllByRecursion}
use Rattle.cir_ast.specs.declared.program.Meant.{Meant}
use Rattle.cir_ast.specs.Tree.{Expr, Accessors}
use Rattle.cir_lc.specs.Number.{Assignment}
use Rattle.cir_meaning.specs.Scoped.{Scope}
use Rattle.cir_meaning.specs.Tried.{Where, next}
use Rattle.cir_meaning.specs.Source.{IsEqualAt}
use Rattle.cir_meaning.specs.Frame.{Part, World, State, Maker, variable_at, in_frame}
use Rattle.cir_meaning.specs.Declaring.{opened, add_part, Creation, creation, create_at}
use Rattle.cir_meaning.specs.Declaring.{create_each, create}
use Rattle.cir_meaning.specs.RunValues.{stored}
use Rattle.cir_meaning.specs.Run.{Wires, RunPart, Run, store_of}
use Rattle.cir_meaning.specs.RunSimple.{Running, with_known, started, waiting, run_created}
use Rattle.cir_meaning.specs.RunSimple.{run_create}
use Rattle.cir_meaning.proofs.Good.{good_is, OnSome'}
use Rattle.cir_meaning.proofs.Likes.{Like, like_itself}
use Rattle.cir_meaning.proofs.FineValues.{Fine}
use Rattle.cir_meaning.proofs.FineWriting.{FineCreation, creation_fine, create_fine}
use Rattle.cir_meaning.proofs.KnownValues.{KnownStore}
use Rattle.cir_meaning.proofs.Holds.{Extends}
use Rattle.cir_meaning.proofs.Goes.{Goes, goes_ok, goes_same, goes_refusing}
use Rattle.cir_meaning.proofs.Standing.{PartStands, Stands, Adds, Debts, Pays, made_of, world_of}
use Rattle.cir_meaning.proofs.Standing.{is_done, changed, Start, Numbered}
use Rattle.cir_meaning.proofs.OwnWrites.{same_in}
use Rattle.cir_meaning.proofs.PartWrites.{other_done, itself_late}
use Rattle.cir_meaning.proofs.VariableRuns.{Soundly, like_changed, After}
use Rattle.cir_meaning.proofs.StepRuns.{stands_like}
use Rattle.cir_meaning.proofs.Starting.{BodiesRun, started_goes}
use Rattle.cir_meaning.proofs.Creating.{get_more, get_last, get_either, get_below, one_longer}
use Rattle.cir_meaning.proofs.Creating.{opened_shapes, opened_shapes_back, opened_marks}
use Rattle.cir_meaning.proofs.Creating.{creation_like, creation_known, Created, create_at_is}

module _ (given : Wires) (start : Start) (scope : Scope) (q : Running)
    (sound : Soundly scope q) (bodies : BodiesRun start.size q.context.make q.body) where
  abbrev Then : State → Run → Type 0
  Then = After q.context.make given start scope q sound

  module _ (w : Where) (r : Run) (h : Stands q.context.make given start None r) (c : Creation)
      (place : ℕ) (like : Like r.known c.state) (known : KnownStore c.arguments)
      (finely : FineCreation c) (s : State) (fine : Fine s)
      (made : Created q.context w c place s) where
    abbrev part : Part
    part = record {
      spot = w.spot;
      template = c.template;
      signals = opened made.signals;
    }

    abbrev new_run : RunPart
    new_run = waiting q.context w c

    abbrev state : State
    state =
        in_frame (add_part c.component c.entry place part)
        (record (changed r.known r.known.frame.variables c.state.frame.added
        c.state.world.counts) { world = made.world })

    as_state : s ≡ state
    as_state =
        made.state ∙ ap (λ (t : State). in_frame (add_part c.component c.entry place part)
        (record t { world = made.world })) (like_changed r.known c.state like)

    abbrev after : Run
    after = record r { known = state; parts = r.parts ++ new_run ∷ [] }

    made_is : made_of q.context.make new_run ≡ Ok (made.signals, made.world)
    made_is =
        ap (λ (o : Option Maker). made_of o new_run) made.is_make ∙ made.made

    before : (v : Assignment) → Extends after v → Extends r v
    before v ex = (
      ex.0,
      (λ j p x hp hx. ex.1 j p x (get_more r.known.frame.parts (part ∷ []) j p hp)
          (get_more r.parts (new_run ∷ []) j x hx)),
    )

    -- its numbers are those that follow
    c_sizes : c.state.world.sizes ≡ r.known.world.sizes
    c_sizes = ap (λ (v : World). v.sizes) like.4

    fits : Fits c.state.world.sizes
    fits = subst Fits (sym c_sizes) h.numbered.0

    grown : Fits made.world.sizes × Less c.state.world.sizes made.world.sizes
    grown =
        (subst (λ o. OnSome' IsGrowing o) made.is_make sound.grows) w c.template c.arguments _
        c.state.world made.signals made.world made.made fits

    more : Less r.known.world.sizes made.world.sizes
    more = subst (λ x. Less x made.world.sizes) c_sizes grown.1

    numbered : Numbered q.context.make start made.world.sizes r.known.frame.signals
        (r.parts ++ new_run ∷ [])
    numbered =
        last_numbered q.context.make start r.known.world.sizes made.world.sizes
        r.known.frame.signals r.parts new_run h.numbered grown.0 more c_sizes
        (ap (λ t. (world_of c.state.world t).sizes) made_is)

    new_stands : PartStands start.size q.context.make false part new_run
    new_stands = record {
      signals = made.signals;
      after = made.world;
      made = made_is;
      begins = (known, finely.0, finely.1.1, fits);
      shapes = opened_shapes made.signals;
      shapes_back = opened_shapes_back made.signals;
      inputs = opened_marks made.signals;
      others = λ d n k x at. cc;
      empty = λ d. refl;
      outputs = λ d n e there k b at. cc;
      full = λ d. cc;
      paid = λ d v ex. cc;
      weighs = λ d. cc;
    }

    late : ℕ
    late = length r.parts

    part_of : (i : ℕ) (p : Part)
        → (slice_get r.known.frame.parts i ≡ Some p)
        ⊎ ((length r.known.frame.parts ≡ i) × (part ≡ p))
        → (x : RunPart) × (slice_get (r.parts ++ new_run ∷ []) i ≡ Some x)
        × PartStands start.size q.context.make (is_done (Some (length r.parts)) i p) p x
    part_of i p (inl e) =
        let there : (x : RunPart) × (slice_get r.parts i ≡ Some x)
        × PartStands start.size q.context.make (is_done None i p) p x = h.parts i p e in (
          there.0,
          get_more r.parts (new_run ∷ []) i there.0 there.1,
          subst (λ b. PartStands start.size q.context.make b p there.0)
              (sym (other_done false (length r.parts) i p
              (λ n. get_below r.known.frame.parts p i e (sym h.count ∙ n)))) there.2,
        )
    part_of i p (inr e) = (
      new_run,
      ap (slice_get (r.parts ++ new_run ∷ [])) (sym e.0 ∙ sym h.count)
          ∙ get_last r.parts new_run,
      subst (λ y. PartStands start.size q.context.make
          (is_done (Some (length r.parts)) i y) y new_run) e.1
          (subst (λ m. PartStands start.size q.context.make
          (is_done (Some (length r.parts)) m part) part new_run) (h.count ∙ e.0)
          (subst (λ b. PartStands start.size q.context.make b part new_run)
          (sym (itself_late (length r.parts) part)) new_stands)),
    )

    last_part : slice_get (r.known.frame.parts ++ part ∷ []) (length r.parts) ≡ Some part
    last_part =
        ap (slice_get (r.known.frame.parts ++ part ∷ [])) h.count
        ∙ get_last r.known.frame.parts part

    equations_of : (v : Assignment) → Extends after v
        → Debts q.context.make (Some (length r.parts)) after v → Adds v start.world made.world
    equations_of v ex debts first =
        let owes : Pays v q.context.make new_run = debts (length r.parts) part new_run last_part
        (get_last r.parts new_run) (itself_late (length r.parts) part) in
        let pays : Adds v c.state.world made.world = subst (λ m. Adds v c.state.world
        (world_of c.state.world m)) made_is owes in
        pays (subst (λ es. AllByRecursion (IsEqualAt v) es)
        (sym (ap (λ (x : World). x.equations) like.4))
        (h.equations v (before v ex) (λ j p x hp hx e.
        debts j p x (get_more r.known.frame.parts (part ∷ []) j p hp)
        (get_more r.parts (new_run ∷ []) j x hx)
        (other_done false (length r.parts) j p
        (λ n. get_below r.known.frame.parts p j hp (sym h.count ∙ n)) ∙ e)) first))

    after_stands : Stands q.context.make given start (Some (length r.parts)) after
    after_stands = record {
      variables = λ n. same_in (Extends r) (Extends after) before (variable_at r.known.frame n)
          (stored (store_of r.known r.numbers) n) (h.variables n);
      own = h.own;
      blank = h.blank;
      kept = h.kept;
      parts = λ i p e. part_of i p (get_either r.known.frame.parts part i p e);
      count = one_longer r.parts new_run ∙ ap (λ (n : ℕ). suc n) h.count ∙ sym
          (one_longer r.known.frame.parts part);
      fine = subst Fine as_state fine;
      equations = equations_of;
      numbered = numbered;
    }

    pub created_goes : Goes Then (Ok s) (started q (length r.parts) false
        (slice_get s.frame.parts (length r.parts)) (record r {
          known = s;
          parts = r.parts ++ new_run ∷ [];
        }))
    created_goes =
        subst (λ t. Goes Then (Ok t) (started q (length r.parts) false
        (slice_get t.frame.parts (length r.parts)) (record r {
          known = t;
          parts = r.parts ++ new_run ∷ [];
        }))) (sym as_state)
        (subst (λ o. Goes Then (Ok state) (started q (length r.parts) false o after))
        (sym last_part)
        (started_goes q.context.make given start scope q sound bodies after (length r.parts)
        part new_run false last_part (get_last r.parts new_run) after_stands))

  pub create_goes : (w : Where) (n : ℕ) (accessors : Accessors Meant) (e : Expr Meant) (r : Run)
      → Stands q.context.make given start None r
      → Goes Then (next (creation q.context w n accessors e r.known) (create q.context w))
      (run_create q w n accessors e r)
  create_goes w n accessors e r h =
      goes_same Then (creation q.context w n accessors e r.known) (create q.context w) _ (λ c ec.
      goes_refusing Then (create q.context w c) _ (λ s es.
      by_places c (good_is (λ x. KnownStore x.arguments)
      (creation q.context w n accessors e r.known) c ec
      (creation_known q.context w n accessors e r.known))
      (good_is FineCreation (creation q.context w n accessors e r.known) c ec
      (creation_fine q.context sound.fine w n accessors e r.known h.fine))
      (good_is (λ x. Like r.known x.state)
      (creation q.context w n accessors e r.known) c ec
      (creation_like q.context sound.keeps r.known w n accessors e r.known (like_itself r.known)))
      s (good_is Fine (create q.context w c) s es (create_fine q.context sound.fine w c
      (good_is FineCreation (creation q.context w n accessors e r.known) c ec
      (creation_fine q.context sound.fine w n accessors e r.known h.fine)))) c.places es))
    where
      by_places : (c : Creation) → KnownStore c.arguments → FineCreation c
          → Like r.known c.state → (s : State) → Fine s
          → (places : List ℕ) → create_each q.context w c places ≡ Ok s
          → Goes Then (Ok s) (run_created q w c places s r)
      by_places c known finely like s fine [] es =
          let same : c.state ≡ s = cc in
          goes_ok Then s (with_known s r) (
            refl,
            stands_like q.context.make given start None r s h
                (subst (λ t. Like r.known t) same like) fine,
          )
      by_places c known finely like s fine (place ∷ places) es =
          created_goes w r h c place like known finely s fine
          (good_is (Created q.context w c place) (create_at q.context w c place) s es
          (create_at_is q.context w c place))
