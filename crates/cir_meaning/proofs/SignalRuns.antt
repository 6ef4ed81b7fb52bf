-- An assignment to signals in a run.
use Rattle.std.proofs.Common.{◌≡◌, ◌≢◌, ◌⊎◌, inl, inr, ℕ, Bool, true, List, Option, Some, None, Ok}
use Rattle.std.proofs.Common.{refl, sym, ap, subst, ◌∙◌, slice_get, slice_set}
use Rattle.cir_lc.specs.Number.{Assignment}
use Rattle.cir_meaning.specs.Scoped.{Scope}
use Rattle.cir_meaning.specs.Frame.{SignalEntry, Part, State, Maker, entry_at, is_input, is_fed}
use Rattle.cir_meaning.specs.Writing.{signals_of, part_signals, SignalAssignment}
use Rattle.cir_meaning.specs.Run.{Wires, RunPart, Run, put_wires}
use Rattle.cir_meaning.specs.RunSimple.{Running, with_known, started}
use Rattle.cir_meaning.proofs.FineValues.{Fine}
use Rattle.cir_meaning.proofs.Writing.{get_set, AllBelow}
use Rattle.cir_meaning.proofs.Holds.{Agrees, Extends}
use Rattle.cir_meaning.proofs.Goes.{Goes, goes_ok}
use Rattle.cir_meaning.proofs.Standing.{PartStands, Stands, SameEntry, SameShapes, Start}
use Rattle.cir_meaning.proofs.VariableRuns.{Soundly, After}
use Rattle.cir_meaning.proofs.SignalWrites.{wrote, AllAt}
use Rattle.cir_meaning.proofs.OwnWrites.{wires_else, all_at, own_stands}
use Rattle.cir_meaning.proofs.PartWrites.{part_stands, part_written, part_state, wrote_part}
use Rattle.cir_meaning.proofs.PartWrites.{same_or_not}
use Rattle.cir_meaning.proofs.Starting.{BodiesRun, started_goes}
use Rattle.cir_meaning.proofs.SignalTargets.{TargetIs, Written, Condition}

-- numbers that are put come from somewhere
put_from : (n : ℕ) (places values : List ℕ) (wires : Wires) (m k x : ℕ)
    → put_wires n places values wires m k ≡ Some x → (n ≡ m) ⊎ (wires m k ≡ Some x)
put_from n places values wires m k x e = at (same_or_not n m)
  where
    at : (n ≡ m) ⊎ (n ≢ m) → (n ≡ m) ⊎ (wires m k ≡ Some x)
    at (inl s) = inl s
    at (inr ne) = inr (sym (wires_else n places values wires m k ne) ∙ e)

module _ (make : Option Maker) (given : Wires) (start : Start) (scope : Scope) (q : Running)
    (sound : Soundly scope q) (bodies : BodiesRun start.size make q.body) where
  abbrev Then : State → Run → Type 0
  Then = After make given start scope q sound

  module _ (r : Run) (h : Stands make given start None r) (a : SignalAssignment)
      (is : TargetIs r.known a.target) (values : List ℕ) (s : State) (fine : Fine s) where
    -- own signals
    pub own_goes : (was_fed : Bool) → a.target.part ≡ None
        → Written (Condition (Extends r) is.entry.first a.target.reach.places values) (λ d. true)
        a.target values r.own r.known s
        → Goes Then (Ok s) (Ok (with_known s
        (record r { own = put_wires a.target.number a.target.reach.places values r.own })))
    own_goes was_fed e g =
        goes_ok Then s _ (
          refl,
          subst (λ t. Stands make given start None (record r {
            known = t;
            own = put_wires a.target.number a.target.reach.places values r.own;
          })) (sym as_own)
              (own_stands make given start r g.wrote.signals g.wrote.equations g.wrote.added
              g.wrote.counts (put_wires a.target.number a.target.reach.places values r.own) h
              (λ n d there p b at. g.marks n d there refl p b at) g.keeps shapes back blank
              (subst Fine as_own fine)
              (λ v ex agrees. g.wrote.holds v (ex, at_first v agrees))),
        )
      where
        as_own : s ≡ wrote r.known None g.wrote.signals g.wrote.equations g.wrote.added
            g.wrote.counts
        as_own =
            subst (λ part. s ≡ wrote r.known part g.wrote.signals g.wrote.equations g.wrote.added
            g.wrote.counts) e g.wrote.is

        shapes : SameShapes r.known.frame.signals g.wrote.signals
        shapes =
            subst (λ part. SameShapes (signals_of part r.known.frame) g.wrote.signals) e
            g.wrote.shapes

        back : SameShapes g.wrote.signals r.known.frame.signals
        back =
            subst (λ part. SameShapes g.wrote.signals (signals_of part r.known.frame)) e
            g.wrote.shapes_back

        entry_now : (d : SignalEntry) × (entry_at g.wrote.signals a.target.number ≡ Some d)
            × SameEntry is.entry d
        entry_now = g.wrote.shapes a.target.number is.entry is.there

        blank : (n : ℕ) → entry_at g.wrote.signals n ≡ None → (p : ℕ)
            → put_wires a.target.number a.target.reach.places values r.own n p ≡ r.own n p
        blank n none p =
            wires_else a.target.number a.target.reach.places values r.own n p (λ same.
            let now : entry_at g.wrote.signals n ≡ Some entry_now.0 = ap
            (λ (m : ℕ). entry_at g.wrote.signals m) (sym same) ∙ entry_now.1 in
            let no : Some entry_now.0 ≡ None = sym now ∙ none in cc)

        at_first : (v : Assignment)
            → Agrees v g.wrote.signals
            (put_wires a.target.number a.target.reach.places values r.own)
            → AllAt v is.entry.first a.target.reach.places values
        at_first v agrees =
            subst (λ n. AllAt v n a.target.reach.places values) (sym entry_now.2.1)
            (all_at v g.wrote.signals
            (put_wires a.target.number a.target.reach.places values r.own) a.target.number
            entry_now.0 entry_now.1 agrees a.target.reach.places values g.placed
            (subst (λ (n : ℕ). AllBelow n a.target.reach.places values) entry_now.2.2
            (g.inside is.entry is.there)))

    -- a component's input
    pub part_goes : (j : ℕ) (p : Part) (x : RunPart) → a.target.part ≡ Some j
        → slice_get r.known.frame.parts j ≡ Some p → slice_get r.parts j ≡ Some x
        → PartStands start.size make (is_fed p.signals) p x
        → Written (Condition (Extends r) is.entry.first a.target.reach.places values) is_input
        a.target values x.ports r.known s
        → Goes Then (Ok s) (started q j (is_fed p.signals) (slice_get s.frame.parts j)
        (record r {
          known = s;
          parts = slice_set r.parts j (record x {
            ports = put_wires a.target.number a.target.reach.places values x.ports;
          });
        }))
    part_goes j p x e hp hx old g =
        subst (λ t. Goes Then (Ok t) (started q j (is_fed p.signals) (slice_get t.frame.parts j)
        (record r {
          known = t;
          parts = slice_set r.parts j (record x {
            ports = put_wires a.target.number a.target.reach.places values x.ports;
          });
        }))) (sym as_part)
        (subst (λ o. Goes Then (Ok state) (started q j (is_fed p.signals) o after))
        (sym (get_set r.known.frame.parts j p (record p { signals = g.wrote.signals }) hp))
        (started_goes make given start scope q sound bodies after j
        (record p { signals = g.wrote.signals })
        (record x { ports = put_wires a.target.number a.target.reach.places values x.ports })
        (is_fed p.signals)
        (get_set r.known.frame.parts j p (record p { signals = g.wrote.signals }) hp)
        (get_set r.parts j x (record x {
          ports = put_wires a.target.number a.target.reach.places values x.ports;
        }) hx)
        (part_stands make given start r j p x hp hx g.wrote.signals g.wrote.equations g.wrote.added
        g.wrote.counts (put_wires a.target.number a.target.reach.places values x.ports) h g.keeps
        shapes shapes_back g.marks fed from old (is_fed p.signals) refl (subst Fine as_part fine)
        (λ v ex agrees. g.wrote.holds v (ex, at_first v agrees)))))
      where
        state : State
        state =
            part_state make given start r j p x hp hx g.wrote.signals g.wrote.equations
            g.wrote.added g.wrote.counts
            (put_wires a.target.number a.target.reach.places values x.ports)

        after : Run
        after =
            part_written make given start r j p x hp hx g.wrote.signals g.wrote.equations
            g.wrote.added g.wrote.counts
            (put_wires a.target.number a.target.reach.places values x.ports)

        as_part : s ≡ state
        as_part =
            subst (λ part. s ≡ wrote r.known part g.wrote.signals g.wrote.equations g.wrote.added
            g.wrote.counts) e g.wrote.is
            ∙ wrote_part make given start r j p x hp hx g.wrote.signals g.wrote.equations
            g.wrote.added g.wrote.counts
            (put_wires a.target.number a.target.reach.places values x.ports)

        its_signals : signals_of a.target.part r.known.frame ≡ p.signals
        its_signals =
            ap (λ (o : Option ℕ). signals_of o r.known.frame) e ∙ ap part_signals hp

        shapes : SameShapes p.signals g.wrote.signals
        shapes = subst (λ xs. SameShapes xs g.wrote.signals) its_signals g.wrote.shapes

        shapes_back : SameShapes g.wrote.signals p.signals
        shapes_back = subst (λ xs. SameShapes g.wrote.signals xs) its_signals g.wrote.shapes_back

        fed : is_fed p.signals ≡ true → is_fed g.wrote.signals ≡ true
        fed before = g.wrote.fed (ap is_fed its_signals ∙ before)

        entry_now : (d : SignalEntry) × (entry_at g.wrote.signals a.target.number ≡ Some d)
            × SameEntry is.entry d
        entry_now = g.wrote.shapes a.target.number is.entry is.there

        from : (n k y : ℕ)
            → put_wires a.target.number a.target.reach.places values x.ports n k ≡ Some y
            → (x.ports n k ≡ Some y)
            ⊎ ((d : SignalEntry) × (entry_at g.wrote.signals n ≡ Some d)
            × (is_input d.direction ≡ true))
        from n k y at =
            by_place (put_from a.target.number a.target.reach.places values x.ports n k y at)
          where
            by_place : (a.target.number ≡ n) ⊎ (x.ports n k ≡ Some y)
                → (x.ports n k ≡ Some y)
                ⊎ ((d : SignalEntry) × (entry_at g.wrote.signals n ≡ Some d)
                × (is_input d.direction ≡ true))
            by_place (inl same) =
                inr (
                  entry_now.0,
                  ap (λ (m : ℕ). entry_at g.wrote.signals m) (sym same) ∙ entry_now.1,
                  ap is_input (sym entry_now.2.0) ∙ is.input j e,
                )
            by_place (inr old) = inl old

        at_first : (v : Assignment)
            → Agrees v g.wrote.signals
            (put_wires a.target.number a.target.reach.places values x.ports)
            → AllAt v is.entry.first a.target.reach.places values
        at_first v agrees =
            subst (λ n. AllAt v n a.target.reach.places values) (sym entry_now.2.1)
            (all_at v g.wrote.signals
            (put_wires a.target.number a.target.reach.places values x.ports) a.target.number
            entry_now.0 entry_now.1 agrees a.target.reach.places values g.placed
            (subst (λ (n : ℕ). AllBelow n a.target.reach.places values) entry_now.2.2
            (g.inside is.entry is.there)))
