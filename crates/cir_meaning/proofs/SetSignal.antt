-- An assignment to signals in a run, from its value on.
use Rattle.std.proofs.Common.{◌≡◌, ℕ, true, false, List, [], ◌∷◌, Option, Some, None, Ok, refl, sym}
use Rattle.std.proofs.Common.{ap, subst, ◌∙◌, slice_get}
use Rattle.cir_ast.specs.declared.program.Meant.{Meant}
use Rattle.cir_ast.specs.declared.operators.Arrow.{Arrow}
use Rattle.cir_ast.specs.declared.refusal.Kind.TheVariants.{ShapeDiffers}
use Rattle.cir_ast.specs.Tree.{Expr, Accessors, Assign}
use Rattle.cir_meaning.specs.Scoped.{Scope, AreCallsMeant}
use Rattle.cir_meaning.specs.Tried.{Where, Tried, next}
use Rattle.cir_meaning.specs.Arrays.{Whole, same_dims}
use Rattle.cir_meaning.specs.Frame.{SignalEntry, Part, State, Maker, entry_at, is_input, is_fed}
use Rattle.cir_meaning.specs.Evaluate.{value_in}
use Rattle.cir_meaning.specs.Writing.{signals_of, part_signals, target_in, write_elements}
use Rattle.cir_meaning.specs.Writing.{SignalAssignment, signal_assignment, write_signal}
use Rattle.cir_meaning.specs.Steps.{signal_cost}
use Rattle.cir_meaning.specs.Simple as simple
use Rattle.cir_meaning.specs.RunValues.{Ran, Numbers, number_in}
use Rattle.cir_meaning.specs.Run.{Wires, RunPart, Run, refusing, store_of, environment, stepping}
use Rattle.cir_meaning.specs.Run.{put_ports, write_wires}
use Rattle.cir_meaning.specs.RunSimple.{Running, with_known, started, started_at, signal_step}
use Rattle.cir_meaning.specs.RunSimple.{run_set_signal}
use Rattle.cir_meaning.proofs.Good.{good_ok, good_on, good_needed, good_is}
use Rattle.cir_meaning.proofs.Pairs.{Pair}
use Rattle.cir_meaning.proofs.Likes.{Like, like_itself}
use Rattle.cir_meaning.proofs.FineValues.{Fine}
use Rattle.cir_meaning.proofs.FineStatements.{set_signal_fine}
use Rattle.cir_meaning.proofs.Same.{Same}
use Rattle.cir_meaning.proofs.Sound.{Answers}
use Rattle.cir_meaning.proofs.Numbered.{value_pair}
use Rattle.cir_meaning.proofs.Marking.{MarksOf}
use Rattle.cir_meaning.proofs.Holds.{Extends}
use Rattle.cir_meaning.proofs.Goes.{Goes, goes_ok, goes_twice, goes_refusing, goes_step, pair_no}
use Rattle.cir_meaning.proofs.Standing.{PartStands, Stands, Start}
use Rattle.cir_meaning.proofs.VariableRuns.{Soundly, fits, After}
use Rattle.cir_meaning.proofs.StepRuns.{stands_like, pair_then}
use Rattle.cir_meaning.proofs.Starting.{BodiesRun}
use Rattle.cir_meaning.proofs.SignalTargets.{SignalLike, assignment_target, Written, Condition}
use Rattle.cir_meaning.proofs.SignalTargets.{written_good}
use Rattle.cir_meaning.proofs.SignalRuns.{own_goes, part_goes}

no_entry : (n : ℕ) (e : SignalEntry) → entry_at [] n ≡ Some e → ⊥
no_entry n e h = cc

module _ (make : Option Maker) (given : Wires) (start : Start) (scope : Scope) (q : Running)
    (sound : Soundly scope q) (bodies : BodiesRun start.size make q.body) where
  abbrev Then : State → Run → Type 0
  Then = After make given start scope q sound

  module _ (w : Where) (written : Assign Meant) (m : Meant) (accessors : Accessors Meant)
      (arrow : Arrow) (e : Expr Meant) (r : Run) (te : AreCallsMeant scope e)
      (h : Stands make given start None r) where
    abbrev ran : Ran Numbers
    ran =
        number_in (environment q.context w q.call r.known r) (store_of r.known r.numbers) e q.fuel

    abbrev compiled : SignalAssignment → Tried State
    compiled a =
        next (write_signal q.context w arrow a)
        (simple.wired q.context w (signal_cost q.context w written accessors e r.known)
        a.target.reach.places)

    value_of_signal : Pair (λ a y. Same (Extends r) a.value y.0)
        (signal_assignment q.context w m accessors e r.known) ran
    value_of_signal =
        pair_then (Answers (Extends r) r.known) (λ a y. Same (Extends r) a.value y.0)
        (value_in q.context w false Whole e r.known) ran _
        (value_pair (Extends r) q.context sound.fine w scope r.known
        (environment q.context w q.call r.known r) (store_of r.known r.numbers)
        (fits make given start scope q r sound h w) false Whole e r.known q.fuel te
        (like_itself r.known, h.fine)) (λ x y p.
        good_on (λ a. Same (Extends r) a.value y.0) (target_in q.context w m accessors x.1) _ (λ z.
        good_needed (λ a. Same (Extends r) a.value y.0) (same_dims z.0.reach.left x.0.dims) w
        ShapeDiffers _ (good_ok (λ a. Same (Extends r) a.value y.0) _ p.0)))

    module _ (a : SignalAssignment)
        (ea : signal_assignment q.context w m accessors e r.known ≡ Ok a) where
      its : SignalLike q.context sound.keeps r.known w a
      its =
          good_is (SignalLike q.context sound.keeps r.known w)
          (signal_assignment q.context w m accessors e r.known) a ea
          (assignment_target q.context sound.keeps r.known w m accessors e r.known
          (like_itself r.known))

      fine_after : (s : State) → compiled a ≡ Ok s → Fine s
      fine_after s es =
          good_is Fine (next (signal_assignment q.context w m accessors e r.known) compiled) s
          (ap (λ (x : Tried SignalAssignment). next x compiled) ea ∙ es)
          (set_signal_fine q.context sound.fine w written m accessors arrow e r.known h.fine)

      -- nothing is written
      none_goes : a.target.reach.places ≡ [] → (s : State) → compiled a ≡ Ok s
          → Goes Then (Ok s) (Ok (with_known s r))
      none_goes none s es =
          let at_none : Ok a.state ≡ Ok s = subst (λ places.
          next (write_elements q.context w arrow a.target places a.value.items a.state)
          (simple.wired q.context w (signal_cost q.context w written accessors e r.known) places)
          ≡ Ok s) none es in
          let same : a.state ≡ s = cc in
          goes_ok Then s (with_known s r) (
            refl,
            stands_like make given start None r s h
                (subst (λ t. Like r.known t) same its.0) (fine_after s es),
          )

      -- something is
      some_goes : (s : State) → compiled a ≡ Ok s
          → Goes Then (Ok s) (next (stepping w r ran) (λ d.
          started_at q a.target.part (is_fed (signals_of a.target.part r.known.frame))
          (with_known s (write_wires a.target.part a.target.number a.target.reach.places d.items
          r))))
      some_goes s es =
          goes_step (λ y. Same (Extends r) a.value y.0) Then s w r ran _
          (pair_no (λ b y. Same (Extends r) b.value y.0)
          (signal_assignment q.context w m accessors e r.known) ran a value_of_signal ea)
          (λ y same. by_part y same a.target.part refl)
        where
          by_part : (y : Numbers × ℕ) → Same (Extends r) a.value y.0 → (part : Option ℕ)
              → a.target.part ≡ part
              → Goes Then (Ok s) (started_at q part (is_fed (signals_of part r.known.frame))
              (with_known s (write_wires part a.target.number a.target.reach.places y.0.items r)))
          by_part y same None ep =
              own_goes make given start scope q sound bodies r h a its.1 y.0.items s
              (fine_after s es) false ep
              (good_is (Written (Condition (Extends r) its.1.entry.first a.target.reach.places
              y.0.items) (λ d. true) a.target y.0.items r.own r.known) (compiled a) s es
              (written_good (Extends r) (λ d. true) q.context w arrow
              (signal_cost q.context w written accessors e r.known) r.known a y.0.items r.own its.0
              its.1 refl
              (subst (λ part. MarksOf (λ d. true) (signals_of part r.known.frame) r.own) (sym ep)
              (λ n d there t p b at. h.own n d there p b at)) same.1))
          by_part y same (Some j) ep =
              by_old (slice_get r.known.frame.parts j) refl
            where
              in_part : entry_at (part_signals (slice_get r.known.frame.parts j)) a.target.number
                  ≡ Some its.1.entry
              in_part =
                  ap (λ (o : Option ℕ). entry_at (signals_of o r.known.frame) a.target.number)
                  (sym ep) ∙ its.1.there

              by_ports : (p : Part) → slice_get r.known.frame.parts j ≡ Some p → (x : RunPart)
                  → slice_get r.parts j ≡ Some x → PartStands start.size make (is_fed p.signals) p x
                  → Goes Then (Ok s) (started q j (is_fed p.signals) (slice_get s.frame.parts j)
                  (with_known s (record r {
                    parts = put_ports a.target.number a.target.reach.places y.0.items
                        (slice_get r.parts j) r.parts j;
                  })))
              by_ports p hp x hx old =
                  subst (λ o. Goes Then (Ok s)
                  (started q j (is_fed p.signals) (slice_get s.frame.parts j)
                  (with_known s (record r {
                    parts = put_ports a.target.number a.target.reach.places y.0.items o r.parts j;
                  })))) (sym hx)
                  (part_goes make given start scope q sound bodies r h a its.1 y.0.items s
                  (fine_after s es) j p x ep hp hx old
                  (good_is (Written (Condition (Extends r) its.1.entry.first
                  a.target.reach.places y.0.items) is_input a.target y.0.items x.ports r.known)
                  (compiled a) s es
                  (written_good (Extends r) is_input q.context w arrow
                  (signal_cost q.context w written accessors e r.known) r.known a y.0.items x.ports
                  its.0 its.1 (its.1.input j ep)
                  (subst (λ xs. MarksOf is_input xs x.ports) (sym
                  (ap (λ (o : Option ℕ). signals_of o r.known.frame) ep ∙ ap part_signals hp))
                  old.inputs) same.1)))

              by_old : (o : Option Part) → slice_get r.known.frame.parts j ≡ o
                  → Goes Then (Ok s)
                  (started q j (is_fed (part_signals (slice_get r.known.frame.parts j)))
                  (slice_get s.frame.parts j) (with_known s (record r {
                    parts = put_ports a.target.number a.target.reach.places y.0.items
                        (slice_get r.parts j) r.parts j;
                  })))
              by_old None eo =
                  absurd (no_entry a.target.number its.1.entry
                  (subst (λ o. entry_at (part_signals o) a.target.number ≡ Some its.1.entry) eo
                  in_part))
              by_old (Some p) eo =
                  let there : (x : RunPart) × (slice_get r.parts j ≡ Some x)
                  × PartStands start.size make (is_fed p.signals) p x = h.parts j p eo in
                  subst (λ o. Goes Then (Ok s) (started q j (is_fed (part_signals o))
                  (slice_get s.frame.parts j) (with_known s (record r {
                    parts = put_ports a.target.number a.target.reach.places y.0.items
                        (slice_get r.parts j) r.parts j;
                  })))) (sym eo) (by_ports p eo there.0 there.1 there.2)

      pub written_goes : Goes Then (compiled a) (next (refusing (compiled a))
          (λ s. signal_step q w e a s a.target.reach.places r))
      written_goes =
          goes_refusing Then (compiled a) _ (λ s es. by_places a.target.reach.places refl s es)
        where
          by_places : (places : List ℕ) → a.target.reach.places ≡ places → (s : State)
              → compiled a ≡ Ok s → Goes Then (Ok s) (signal_step q w e a s places r)
          by_places [] none s es = none_goes none s es
          by_places (place ∷ places) some s es = some_goes s es

  pub set_signal_goes : (w : Where) (written : Assign Meant) (m : Meant)
      (accessors : Accessors Meant) (arrow : Arrow) (e : Expr Meant) (r : Run)
      → AreCallsMeant scope e → Stands make given start None r
      → Goes Then (simple.set_signal q.context w written m accessors arrow e r.known)
      (run_set_signal q w written m accessors arrow e r)
  set_signal_goes w written m accessors arrow e r te h =
      goes_twice Then (signal_assignment q.context w m accessors e r.known) _ _
      (λ a ea. written_goes w written m accessors arrow e r te h a ea)
