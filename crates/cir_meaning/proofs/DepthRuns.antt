-- The bodies of components run, however deep they stand.
use Rattle.std.proofs.Common.{◌≡◌, ℕ, ◌+◌, zero, suc, Bool, true, false, Option, Some, None}
use Rattle.std.proofs.Common.{is_some, Ok, Err, refl, sym, ap, subst, ◌∙◌, slice_get}
use Rattle.cir_ast.specs.Program.{Program, Template}
use Rattle.cir_meaning.specs.Scoped.{IsResolved}
use Rattle.cir_ast.specs.declared.refusal.Kind.TheVariants.{WrongKind}
use Rattle.cir_meaning.specs.Tried.{next, found}
use Rattle.cir_meaning.specs.Statement.{exec_all}
use Rattle.cir_meaning.specs.Frame.{SignalEntry, Part, Maker, entry_at, is_input, is_fed}
use Rattle.cir_meaning.specs.Bodies.{template_context, template_state, ended_flow, call_at, make_at}
use Rattle.cir_meaning.specs.Bodies.{most_open, numbered_others}
use Rattle.cir_meaning.specs.Run.{RunPart, RunTried, Rejected, Stopped}
use Rattle.cir_meaning.specs.RunSimple.{Outcome}
use Rattle.cir_meaning.specs.RunBodies.{body_at}
use Rattle.cir_meaning.proofs.FineBodies.{makes_fine}
use Rattle.cir_meaning.proofs.Good.{OnSome'}
use Rattle.cir_meaning.proofs.GroupSizes.{IsGrowing}
use Rattle.cir_meaning.proofs.MadeSizes.{template_grows}
use Rattle.cir_meaning.proofs.Weights.{cover_entries, cover_tables, under, Bounded}
use Rattle.cir_meaning.proofs.PartWeights.{same_cover}
use Rattle.cir_meaning.proofs.Standing.{SameEntry, PartStands, Adds, world_of, made_of}
use Rattle.cir_meaning.proofs.OwnWrites.{agrees_before}
use Rattle.cir_meaning.proofs.Starting.{BodyRan, Ends, BodiesRun, fed_marks}
use Rattle.cir_meaning.proofs.SignalDeclarations.{IsShape, same_place}
use Rattle.cir_meaning.proofs.TemplateRuns.{Ran, template_runs}

pub ends_weaker : {A : Type 0} (P Q : A → Type 0) (m : RunTried A) → ((a : A) → P a → Q a)
    → Ends P m → Ends Q m
unfolding Ends
ends_weaker P Q (Ok a) f h = f a h
ends_weaker P Q (Err (Rejected e)) f h = h
ends_weaker P Q (Err (Stopped stop w log)) f h = h

not_some : (o : Option ℕ) → ((x : ℕ) → o ≡ Some x → ⊥) → is_some o ≡ false
not_some None h = refl
not_some (Some x) h = absurd (h x refl)

module _ (size : ℕ) (part : Part) (x : RunPart) where
  -- a component that waits has the numbers of its inputs, and no others
  ports_shape : (make : Option Maker) (h : PartStands size make false part x)
      → is_fed part.signals ≡ true
      → (n : ℕ) (e : SignalEntry) → entry_at h.signals n ≡ Some e → IsShape x.ports n e
  ports_shape make h fed n e there k b at =
      let d : (d : SignalEntry) × (entry_at part.signals n ≡ Some d) × SameEntry e d =
      h.shapes n e there in
      let mark : (c : Bool) × (slice_get d.0.written k ≡ Some c) =
      same_place e.written d.0.written k b d.2.2 at in
      by_input d.0 d.1 mark.0 mark.1 (is_input d.0.direction) refl
      ∙ ap is_input (sym d.2.0)
    where
      by_input : (d : SignalEntry) → entry_at part.signals n ≡ Some d → (c : Bool)
          → slice_get d.written k ≡ Some c → (i : Bool) → is_input d.direction ≡ i
          → is_some (x.ports n k) ≡ is_input d.direction
      by_input d there c at true i =
          h.inputs n d there i k c at ∙ fed_marks part.signals n d fed there i k c at ∙ sym i
      by_input d there c at false i =
          not_some (x.ports n k) (λ y e.
          let other : (z : SignalEntry) × (entry_at part.signals n ≡ Some z)
          × (is_input z.direction ≡ true) = h.others refl n k y e in
          let both : Some other.0 ≡ Some d = sym other.1 ∙ there in
          let same : other.0 ≡ d = cc in
          let yes : is_input d.direction ≡ true =
          subst (λ z. is_input z.direction ≡ true) same other.2 in cc) ∙ sym i

  body_ran : (make : Option Maker) (h : PartStands size make false part x) (o : Outcome)
      → Ran size h.signals x.ports x.before h.after o → BodyRan size make part x o
  body_ran make h o r = record {
    keeps = r.keeps;
    full = r.full;
    all = λ n e there k b at.
        let d : (d : SignalEntry) × (entry_at h.signals n ≡ Some d) × SameEntry e d =
        h.shapes_back n e there in
        let mark : (c : Bool) × (slice_get d.0.written k ≡ Some c) =
        same_place e.written d.0.written k b d.2.2 at in
        r.all n d.0 d.1 k mark.0 mark.1;
    paid = λ v agrees inside.
        subst (λ m. Adds v x.before (world_of x.before m)) (sym h.made)
        (r.paid v (agrees_before v h.signals part.signals o.own o.own h.shapes
        (λ n k y e. e) agrees) inside);
    weighs =
        subst (λ t. Bounded (world_of x.before t).sizes → (m : ℕ)
        → cover_entries m part.signals
        + (cover_tables m o.inside + under size x.before.sizes m)
        ≡ under size (world_of x.before t).sizes m) (sym h.made) (λ few m.
        ap (λ (n : ℕ). n + (cover_tables m o.inside + under size x.before.sizes m))
        (sym (same_cover m h.signals part.signals h.shapes h.shapes_back)) ∙ r.weighs few m);
  }

module _ (p : Program) (resolved : IsResolved p) (size fuel : ℕ) where
  -- the body of a component, where those of the components in it run
  bodies_next : (room : ℕ) → OnSome' IsGrowing (make_at p size room)
      → BodiesRun size (make_at p size room) (body_at p size fuel room)
      → BodiesRun size (make_at p size (suc room)) (body_at p size fuel (suc room))
  bodies_next room growing inner part x log h fed = at (slice_get p.templates x.template) refl
    where
      at : (o : Option Template) → slice_get p.templates x.template ≡ o
          → Ends (BodyRan size (make_at p size (suc room)) part x)
          (body_at p size fuel (suc room) x.where_made x.template x.arguments x.path x.before
          x.ports log)
      at None e =
          let no : next (found x.where_made WrongKind (slice_get p.templates x.template)) (λ t.
          next (exec_all (template_context p size (call_at p size most_open) (make_at p size room)
          numbered_others t x.path x.before) t.body (template_state t x.arguments x.path x.before))
          (ended_flow (template_context p size (call_at p size most_open) (make_at p size room)
          numbered_others t x.path x.before))) ≡ Ok (h.signals, h.after) = h.made in
          cc
      at (Some t) e =
          ends_weaker (Ran size h.signals x.ports x.before h.after)
          (BodyRan size (make_at p size (suc room)) part x)
          (body_at p size fuel (suc room) x.where_made x.template x.arguments x.path x.before
          x.ports log) (body_ran size part x (make_at p size (suc room)) h)
          (template_runs p resolved size fuel (make_at p size room) (makes_fine p size room)
          growing numbered_others (body_at p size fuel room) inner
          x.where_made x.template t e x.arguments x.path x.before x.ports log h.begins.0 h.begins.1
          h.begins.2 h.begins.3 h.signals h.after h.made
          (ports_shape size part x (make_at p size (suc room)) h fed))

  bodies_none : BodiesRun size (make_at p size zero) (body_at p size fuel zero)
  bodies_none part x log h fed =
      let no : made_of None x ≡ Ok (h.signals, h.after) = h.made in cc

  depths : (room : ℕ) → OnSome' IsGrowing (make_at p size room)
      × BodiesRun size (make_at p size room) (body_at p size fuel room)
  depths zero = (tt, bodies_none)
  depths (suc room) = (
    template_grows p resolved size fuel (make_at p size room) (makes_fine p size room)
        (depths room).0 numbered_others (body_at p size fuel room) (depths room).1,
    bodies_next room (depths room).0 (depths room).1,
  )

  pub makes_grow : (room : ℕ) → OnSome' IsGrowing (make_at p size room)
  makes_grow room = (depths room).0

  pub bodies_run : (room : ℕ) → BodiesRun size (make_at p size room) (body_at p size fuel room)
  bodies_run room = (depths room).1
