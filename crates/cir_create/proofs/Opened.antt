-- A component that is created at its place.
use Rattle.std.proofs.Common.{◌≡◌, ℕ, Bool, true, false, cond, List, [], ◌∷◌}
use Rattle.std.proofs.Common.{◌++◌, length, Option, Some, None, Result, Ok, Err, refl, ap, sym}
use Rattle.std.proofs.Common.{subst, ◌∙◌, arith}
use Rattle.std.specs.Prelude.{IsErrAnd, is_none, is_some, map, not, slice_set}
use Rattle.cir_ast.specs.declared.refusal.Form.TheVariants.{MixedComponents}
use Rattle.cir_ast.specs.declared.refusal.Kind.TheVariants.{SecondWrite, TooDeep, NotInProfile}
use Rattle.cir_meaning.specs.Tried.{Where, Tried, next, refused}
use Rattle.cir_meaning.specs.Places.{all_known, elements, numbers_from}
use Rattle.cir_meaning.specs.Limits.{is_too_large, standing}
use Rattle.cir_meaning.specs.Arrays.{Datum, Reach, Scalar, fits, reach}
use Rattle.cir_meaning.specs.Frame.{Part as PartOf, Frame, Signals, World, State, Context, Maker}
use Rattle.cir_meaning.specs.Frame.{ComponentEntry, entry_at, in_frame, put_at}
use Rattle.cir_meaning.specs.Source.{Equation}
use Rattle.cir_meaning.specs.Declaring.{Creation, add_part, create, create_at, may_be, opened}
use Rattle.cir_meaning.specs.Declaring.{path_of, template_of}
use Rattle.cir_arrays.specs.declared.reach.Part.{Part}
use Rattle.cir_arrays.specs.declared.reach.Part.TheVariants as part
use Rattle.cir_arrays.specs.declared.reach.Reach.{Reach as CodeReach}
use Rattle.cir_arrays.specs.Made.{made_count}
use Rattle.cir_arrays.specs.Reached.{IsReach}
use Rattle.cir_arrays.specs.declared.counts.Counts.{Counts as CodeCounts}
use Rattle.cir_frame.specs.declared.frame.Frame.{Frame as CodeFrame}
use Rattle.cir_frame.specs.declared.world.World.{World as CodeWorld}
use Rattle.cir_arrays.specs.Counted.{counts_of}
use Rattle.cir_frame.specs.Shown.{frame_of, state_of, world_of}
use Rattle.cir_arrays.specs.declared.stop.Fault.{Fault}
use Rattle.cir_arrays.specs.Stopped.{IsRefusal}
use Rattle.cir_arrays.proofs.Exits.{exits}
use Rattle.cir_create.specs.declared.creating.Creation.{Creation as CodeCreation}
use Rattle.cir_create.specs.Declares.{Creates, IsCreation, IsPlaceIn, place_by}
use Rattle.cir_arrays.specs.Shown.{datum_of}
use Rattle.cir_create.proofs.Creations.{one_place, reach_inside, scalar_left}

pub is_place : (w : Where) (dims : List ℕ) (is : List (Option ℕ)) (numbers : List ℕ)
    (c : CodeReach) (r : Reach) → reach w false Scalar dims is ≡ Ok r
    → all_known is ≡ Some numbers → fits Scalar c.left.items ≡ true → IsReach dims is c r
    → IsPlaceIn dims (place_by c.part) r.places
is_place w dims is numbers c r h known scalar reached = at c.part refl
  where
    none_left : r.left ≡ []
    none_left = scalar_left r.left (ap (fits Scalar) (sym reached.left) ∙ scalar)

    at : (p : Part) → c.part ≡ p → IsPlaceIn dims (place_by p) r.places
    at (part.Known first count) e =
        let sure : r.is_sure ≡ true = sym (rw e at reached.sure) in
        let single : length r.places ≡ 1 = reached.whole sure ∙ ap elements none_left in
        let one = one_place r.places single in
        let counted : count ≡ 1 = rw e at reached.count ∙ ap standing single in
        record {
          known = first;
          there = refl;
          meant = one.0;
          one = one.1;
          same = λ small.
              let places : numbers_from first count ≡ one.0 ∷ [] =
              rw e at (reached.places small) ∙ one.1 in
              cc (ap (numbers_from first) counted, places);
        }
    at part.Unknown e =
        let kind = rw e at reached.kind in
        absurd (cc (kind.1, ap is_some known))
    at part.Outside e =
        let kind = rw e at reached.kind in
        absurd (cc (kind, reach_inside w Scalar dims is r h))

no_parts : (ps : List (Option ℕ)) (dims : List ℕ) → length ps ≡ made_count dims
    → is_too_large dims ≡ true → ps ≡ []
no_parts [] dims h large = refl
no_parts (p ∷ ps) dims h large =
    absurd (omega (arith, h, ap (λ (t : Bool). cond t 0 (elements dims)) large))

-- of an array that is too large any place will do
pub same_part : (dims : List ℕ) (ps : List (Option ℕ)) (p q : ℕ)
    → length ps ≡ made_count dims
    → (is_too_large dims ≡ false → p ≡ q) → entry_at ps p ≡ entry_at ps q
same_part dims ps p q h same = at (is_too_large dims) refl
  where
    at : (b : Bool) → is_too_large dims ≡ b → entry_at ps p ≡ entry_at ps q
    at false small = ap (entry_at ps) (same small)
    at true large =
        let none : ps ≡ [] = no_parts ps dims h large in
        ap (λ (xs : List (Option ℕ)). entry_at xs p) none
        ∙ sym (ap (λ (xs : List (Option ℕ)). entry_at xs q) none)

pub same_set : (dims : List ℕ) (ps : List (Option ℕ)) (p q : ℕ) (x : Option ℕ)
    → length ps ≡ made_count dims → (is_too_large dims ≡ false → p ≡ q)
    → slice_set ps p x ≡ slice_set ps q x
same_set dims ps p q x h same = at (is_too_large dims) refl
  where
    at : (b : Bool) → is_too_large dims ≡ b → slice_set ps p x ≡ slice_set ps q x
    at false small = ap (λ (n : ℕ). slice_set ps n x) (same small)
    at true large =
        let none : ps ≡ [] = no_parts ps dims h large in
        ap (λ (xs : List (Option ℕ)). slice_set xs p x) none
        ∙ sym (ap (λ (xs : List (Option ℕ)). slice_set xs q x) none)

-- what becomes of a component that may be created
abbrev pub making : Context → Where → Creation → ℕ → Maker → Tried State
making k w c place make =
    next (make w c.template c.arguments (path_of k c.entry c.indices) c.state.world)
    (λ (signals, world). Ok (in_frame (add_part c.component c.entry place record {
      spot = w.spot;
      template = c.template;
      signals = opened signals;
    }) (record (c.state) { world = world })))

pub created_once : (k : Context) (w : Where) (c : Creation) (q : ℕ) → c.places ≡ q ∷ []
    → create k w c ≡ create_at k w c q
created_once k w c q h = rw h refl

pub second_write : (k : Context) (w : Where) (c : Creation) (q : ℕ) → c.places ≡ q ∷ []
    → is_none (entry_at c.entry.parts q) ≡ false → create k w c ≡ refused w SecondWrite
second_write k w c q h e = created_once k w c q h ∙ rw e refl

pub too_deep : (k : Context) (w : Where) (c : Creation) (q : ℕ) → c.places ≡ q ∷ []
    → is_none (entry_at c.entry.parts q) ≡ true → k.make ≡ None
    → create k w c ≡ refused w TooDeep
too_deep k w c q h e m = created_once k w c q h ∙ rw (e, m) refl

pub mixed : (k : Context) (w : Where) (c : Creation) (q : ℕ) (maker : Maker)
    → c.places ≡ q ∷ [] → is_none (entry_at c.entry.parts q) ≡ true
    → k.make ≡ Some maker
    → may_be c.template (template_of c.state.frame.parts c.entry.parts) ≡ false
    → create k w c ≡ refused w (NotInProfile MixedComponents)
mixed k w c q maker h e m b = created_once k w c q h ∙ rw (e, m, b) refl

pub is_made : (k : Context) (w : Where) (c : Creation) (q : ℕ) (maker : Maker)
    → c.places ≡ q ∷ [] → is_none (entry_at c.entry.parts q) ≡ true
    → k.make ≡ Some maker
    → may_be c.template (template_of c.state.frame.parts c.entry.parts) ≡ true
    → create k w c ≡ making k w c q maker
is_made k w c q maker h e m b = created_once k w c q h ∙ rw (e, m, b) refl

pub creates_exit : {X : Type 0} (s : State) (r : Result CodeCreation Fault) (e : Fault)
    (m : Tried X) (go : X → Tried Creation) {n : Tried Creation} → n ≡ next m go
    → IsErrAnd r (λ x. x ≡ e) → IsRefusal e m → Creates s r n
creates_exit s (Ok c) e m go is err h = absurd err
creates_exit s (Err x) e m go is err h =
    subst (λ z. IsRefusal x z) (sym is) (exits x m go (rw err h))

pub some_same : {A : Type 0} (a b : A) → Some a ≡ Some b → a ≡ b
some_same a b h = cc

pub none_by : (o : Option ℕ) (b : Bool) → is_some o ≡ b → is_none o ≡ not b
none_by None b h = ap not h
none_by (Some n) b h = ap not h

-- the component that the code finds is the meaning's
module _ (s : State) (c : CodeCreation) (x : Creation) (e : ComponentEntry) (place : ℕ)
    (is : IsCreation s c x) (there : Some e ≡ entry_at s.frame.components c.component)
    (sized : length e.parts ≡ made_count e.dims) (at : c.place ≡ Some place) where
  entry : e ≡ x.entry
  entry = some_same _ _ (there ∙ is.entry)

  known : is.place.known ≡ place
  known = some_same _ _ (sym is.place.there ∙ at)

  made : length x.entry.parts ≡ made_count x.entry.dims
  made = subst (λ e. length e.parts ≡ made_count e.dims) entry sized

  pub part_found : (got : Option ℕ) (t : Bool) → got ≡ entry_at e.parts place
      → is_some got ≡ t → is_none (entry_at x.entry.parts is.place.meant) ≡ not t
  part_found got t found told =
      let part : got ≡ entry_at x.entry.parts is.place.meant =
      found ∙ ap (λ (e : ComponentEntry). entry_at e.parts place) entry
      ∙ ap (λ (n : ℕ). entry_at x.entry.parts n) (sym known)
      ∙ same_part x.entry.dims x.entry.parts is.place.known is.place.meant made is.place.same in
      none_by _ t (ap (λ (o : Option ℕ). is_some o) (sym part) ∙ told)

  pub part_put : (j : Option ℕ)
      → slice_set x.entry.parts place j ≡ slice_set x.entry.parts is.place.meant j
  part_put j =
      ap (λ (n : ℕ). slice_set x.entry.parts n j) (sym known)
      ∙ same_set x.entry.dims x.entry.parts is.place.known is.place.meant j made is.place.same

  pub template_found : (b : Bool) → b ≡ may_be c.template (template_of s.frame.parts e.parts)
      → may_be x.template (template_of x.state.frame.parts x.entry.parts) ≡ b
  template_found b h =
      ap (λ (z : State). may_be x.template (template_of z.frame.parts x.entry.parts)) is.state
      ∙ (ap (λ (e : ComponentEntry). may_be x.template (template_of s.frame.parts e.parts))
      (sym entry) ∙ (ap (λ (n : ℕ). may_be n (template_of s.frame.parts e.parts)) is.template
      ∙ sym h))

  pub made_at : (k : Context) (w : Where) (make : Maker) (path : List ℕ)
      → path ≡ path_of k e c.indices.items
      → make w x.template x.arguments (path_of k x.entry x.indices) x.state.world
      ≡ make w c.template (map datum_of c.arguments.items) path s.world
  made_at k w make path h =
      let ds : List Datum = map datum_of c.arguments.items in
      let full : path_of k x.entry x.indices ≡ path =
      ap (λ (e : ComponentEntry). path_of k e x.indices) (sym entry)
      ∙ ap (λ (l : List ℕ). path_of k e l) is.indices ∙ sym h in
      ap (λ (n : ℕ). make w n x.arguments (path_of k x.entry x.indices) x.state.world)
      is.template
      ∙ ap (λ (l : List Datum). make w c.template l (path_of k x.entry x.indices) x.state.world)
      is.arguments ∙ ap (λ (p : List ℕ). make w c.template ds p x.state.world) full
      ∙ ap (λ (z : State). make w c.template ds path z.world) is.state

pub made_goes : (k : Context) (w : Where) (x : Creation) (q p : ℕ) (make : Maker)
    (f new : CodeFrame) (old world : CodeWorld) (qs es : List Equation) (signals : Signals)
    (part : PartOf) → create k w x ≡ making k w x q make → x.state ≡ state_of f old qs
    → make w x.template x.arguments (path_of k x.entry x.indices) x.state.world
    ≡ Ok (signals, world_of world es)
    → part ≡ record { spot = w.spot; template = x.template; signals = opened signals }
    → ((j : Option ℕ) → slice_set x.entry.parts p j ≡ slice_set x.entry.parts q j)
    → world.added ≡ old.added
    → frame_of new (counts_of old.added)
    ≡ add_part x.component x.entry p part (frame_of f (counts_of old.added))
    → create k w x ≡ Ok (state_of new world es)
made_goes k w x q p make f new old world qs es signals part making_it state made parts same added
    frame =
    let fr : Frame = frame_of f (counts_of old.added) in
    let own : PartOf =
    record { spot = w.spot; template = x.template; signals = opened signals } in
    let placed : add_part x.component x.entry q own fr ≡ frame_of new (counts_of world.added) =
    ap (λ (ps : List (Option ℕ)). record fr {
      parts = fr.parts ++ own ∷ [];
      components = put_at x.component (record (x.entry) { parts = ps }) fr.components;
    }) (sym (same (Some (length fr.parts))))
    ∙ ap (λ (y : PartOf). add_part x.component x.entry p y fr) (sym parts)
    ∙ sym frame ∙ ap (λ (c : CodeCounts). frame_of new (counts_of c)) (sym added) in
    making_it
    ∙ ap (λ (z : Tried (Signals × World)). next {B = State} z (λ (signals, world).
    Ok (in_frame (add_part x.component x.entry q record {
      spot = w.spot;
      template = x.template;
      signals = opened signals;
    }) (record (x.state) { world = world })))) made
    ∙ ap (λ (s : State). Ok (in_frame (add_part x.component x.entry q own)
    (record s { world = world_of world es }))) state
    ∙ ap (λ (z : Frame). with_frame z) placed
  where
    with_frame : Frame → Tried State
    with_frame z = Ok record { frame = z; world = world_of world es }
