-- A write of a component's inputs in a run.
use Rattle.std.proofs.Common.{◌≡◌, ◌≢◌, ◌⊎◌, inl, inr, ℕ, zero, suc, Bool, true, false, not, ◌&&◌}
use Rattle.std.proofs.Common.{nat_eq, List, [], ◌∷◌, ◌++◌, length, Option, Some, None, is_some}
use Rattle.std.proofs.Common.{refl, sym, ap, subst, ◌∙◌, slice_get, slice_set}
use Rattle.cir_meaning.proofs.PartWeights.{put_numbered, ports_weigh, weigh_shapes}
use Rattle.std.specs.List.{AllByRecursion}
use Rattle.std.proofs.lemmas.Bool.{ne_eqb, eq-eqb, eqb-true}
use Rattle.cir_lc.specs.Number.{Assignment}
use Rattle.cir_meaning.specs.Limits.{Counts}
use Rattle.cir_meaning.specs.Source.{Equation, IsEqualAt}
use Rattle.cir_meaning.specs.Frame.{SignalEntry, Signals, Part, State, Maker, variable_at, entry_at}
use Rattle.cir_meaning.specs.Frame.{is_input, is_fed}
use Rattle.cir_meaning.specs.RunValues.{stored}
use Rattle.cir_meaning.specs.Writing.{with_part_signals}
use Rattle.cir_meaning.specs.Run.{Wires, RunPart, Run, store_of}
use Rattle.cir_meaning.proofs.Rows.{all_append}
use Rattle.cir_meaning.proofs.FineValues.{Fine}
use Rattle.cir_meaning.proofs.Marking.{MarksOf, KeepsWires, set_at}
use Rattle.cir_meaning.proofs.Writing.{get_set}
use Rattle.cir_meaning.proofs.Holds.{Agrees, PartAgrees, Extends}
use Rattle.cir_meaning.proofs.Standing.{PartStands, Stands, SameEntry, SameShapes, Debts, Pays}
use Rattle.cir_meaning.proofs.Standing.{made_ports, pays_ports, ports_pay, is_done, Start}
use Rattle.cir_meaning.proofs.SignalWrites.{wrote, shapes_then}
use Rattle.cir_meaning.proofs.OwnWrites.{same_in, agrees_before}

pub get_other : {A : Type 0} (xs : List A) (j i : ℕ) (x : A) → j ≢ i
    → slice_get (slice_set xs j x) i ≡ slice_get xs i
get_other [] j i x ne = refl
get_other (y ∷ ys) zero zero x ne = absurd (ne refl)
get_other (y ∷ ys) zero (suc i) x ne = refl
get_other (y ∷ ys) (suc j) zero x ne = refl
get_other (y ∷ ys) (suc j) (suc i) x ne =
    get_other ys j i x (λ s. ne (ap (λ (k : ℕ). suc k) s))

pub set_count : {A : Type 0} (xs : List A) (j : ℕ) (x : A) → length (slice_set xs j x) ≡ length xs
set_count [] j x = refl
set_count (y ∷ ys) zero x = refl
set_count (y ∷ ys) (suc j) x = ap (λ (k : ℕ). suc k) (set_count ys j x)

pub same_or_not : (n m : ℕ) → (n ≡ m) ⊎ (n ≢ m)
same_or_not n m = at (nat_eq n m) refl
  where
    at : (b : Bool) → nat_eq n m ≡ b → (n ≡ m) ⊎ (n ≢ m)
    at true e = inl (eqb-true n m e)
    at false e = inr (λ s. let yes : nat_eq n m ≡ true = eq-eqb n m s in cc)

-- a component that was fed isn't late
abbrev pub late_of : (was_fed : Bool) → ℕ → Option ℕ
late_of true j = None
late_of false j = Some j

pub other_done : (was_fed : Bool) (j i : ℕ) (p : Part) → j ≢ i
    → is_done (late_of was_fed j) i p ≡ is_done None i p
other_done true j i p ne = refl
other_done false j i p ne = ap (λ (b : Bool). not b && is_fed p.signals) (ne_eqb j i ne)

pub itself_late : (j : ℕ) (p : Part) → is_done (Some j) j p ≡ false
itself_late j p = ap (λ (b : Bool). not b && is_fed p.signals) (eq-eqb j j refl)

module _ (make : Option Maker) (given : Wires) (start : Start) (r : Run) (j : ℕ) (p : Part)
    (q : RunPart) (hp : slice_get r.known.frame.parts j ≡ Some p)
    (hq : slice_get r.parts j ≡ Some q) (signals : Signals) (es : List Equation) (a c : Counts)
    (wires : Wires) where
  abbrev new_part : Part
  new_part = record p { signals = signals }

  abbrev new_ports : RunPart
  new_ports = record q { ports = wires }

  abbrev pub part_state : State
  part_state = record {
    frame = record (r.known.frame) {
      parts = slice_set r.known.frame.parts j new_part;
      added = a;
    };
    world = record (r.known.world) { equations = r.known.world.equations ++ es; counts = c };
  }

  pub wrote_part : wrote r.known (Some j) signals es a c ≡ part_state
  wrote_part =
      ap (λ (o : Option Part). record {
        frame = record (with_part_signals j signals o r.known.frame) { added = a };
        world = record (r.known.world) {
          equations = r.known.world.equations ++ es;
          counts = c;
        };
      }) hp

  -- the run behind it
  abbrev pub part_written : Run
  part_written =
      record r { known = part_state; parts = slice_set r.parts j new_ports }

  module _ (h : Stands make given start None r) (keeps : KeepsWires q.ports wires)
      (shapes : SameShapes p.signals signals) (shapes_back : SameShapes signals p.signals) where
    agrees_part : (v : Assignment) → PartAgrees v new_part new_ports → PartAgrees v p q
    agrees_part v ex = (agrees_before v p.signals signals q.ports wires shapes keeps ex.0, ex.1)

    pub before : (v : Assignment) → Extends part_written v → Extends r v
    before v ex =
        (ex.0, (λ i p0 q0 tp tq. at i p0 q0 tp tq (same_or_not j i)))
      where
        at : (i : ℕ) (p0 : Part) (q0 : RunPart) → slice_get r.known.frame.parts i ≡ Some p0
            → slice_get r.parts i ≡ Some q0 → (j ≡ i) ⊎ (j ≢ i) → PartAgrees v p0 q0
        at i p0 q0 tp tq (inl s) =
            let is_p : Some p ≡ Some p0 = sym hp ∙ ap (slice_get r.known.frame.parts) s ∙ tp in
            let is_q : Some q ≡ Some q0 = sym hq ∙ ap (slice_get r.parts) s ∙ tq in
            let same_p : p ≡ p0 = cc in
            let same_q : q ≡ q0 = cc in
            subst (λ x. PartAgrees v x q0) same_p (subst (λ y. PartAgrees v p y) same_q
            (agrees_part v (ex.1 j new_part new_ports
            (get_set r.known.frame.parts j p new_part hp) (get_set r.parts j q new_ports hq))))
        at i p0 q0 tp tq (inr ne) =
            ex.1 i p0 q0 (get_other r.known.frame.parts j i new_part ne ∙ tp)
            (get_other r.parts j i new_ports ne ∙ tq)

    -- the component itself
    module _ (marks : MarksOf is_input signals wires)
        (fed : is_fed p.signals ≡ true → is_fed signals ≡ true)
        (from : (n k x : ℕ) → wires n k ≡ Some x
        → (q.ports n k ≡ Some x)
        ⊎ ((e : SignalEntry) × (entry_at signals n ≡ Some e) × (is_input e.direction ≡ true)))
        (old : PartStands start.size make (is_fed p.signals) p q) where
      written_mark : (n : ℕ) (e : SignalEntry) → entry_at signals n ≡ Some e → (k : ℕ)
          → is_fed p.signals ≡ true → (b : Bool) → slice_get e.written k ≡ Some b
          → is_some (wires n k) ≡ true
      written_mark n e there k done b at =
          let d : (d : SignalEntry) × (entry_at p.signals n ≡ Some d) × SameEntry e d =
          shapes_back n e there in
          let mark : (b : Bool) × (slice_get d.0.written k ≡ Some b) =
          same_place e.written d.0.written k b d.2.2 at in
          some_kept (q.ports n k) (old.outputs done n d.0 d.1 k mark.0 mark.1)
          (λ x s. keeps n k x s)
        where
          same_place : (xs ys : List Bool) (k : ℕ) (b : Bool) → length xs ≡ length ys
              → slice_get xs k ≡ Some b → (c : Bool) × (slice_get ys k ≡ Some c)
          same_place [] ys k b e at = cc
          same_place (x ∷ xs) [] k b e at = cc
          same_place (x ∷ xs) (y ∷ ys) zero b e at = (y, refl)
          same_place (x ∷ xs) (y ∷ ys) (suc k) b e at = same_place xs ys k b (cc) at

          some_kept : (o : Option ℕ) → is_some o ≡ true
              → ((x : ℕ) → o ≡ Some x → wires n k ≡ Some x) → is_some (wires n k) ≡ true
          some_kept None h g = cc
          some_kept (Some x) h g = ap is_some (g x refl)

      part_new : (done : Bool) → (done ≡ true → is_fed p.signals ≡ true)
          → (done ≡ false → is_fed p.signals ≡ false)
          → PartStands start.size make done new_part new_ports
      part_new done when_done unless_done = record {
        signals = old.signals;
        after = old.after;
        made = made_ports make q wires q.inside ∙ old.made;
        shapes = shapes_then old.signals p.signals signals old.shapes shapes;
        shapes_back = shapes_then signals p.signals old.signals shapes_back old.shapes_back;
        inputs = marks;
        others = λ d n k x at. others_at (unless_done d) n k x (from n k x at);
        begins = old.begins;
        empty = λ d. old.empty (unless_done d);
        outputs = λ d n e there k b at. written_mark n e there k (when_done d) b at;
        full = λ d. old.full (when_done d);
        paid = λ d v ex. pays_ports v make q wires q.inside
            (old.paid (when_done d) v (agrees_part v ex));
        weighs = λ d. ports_weigh start.size make signals q.inside q wires q.inside
            (weigh_shapes start.size make p.signals signals q.inside q shapes shapes_back
            (old.weighs (when_done d)));
      }
        where
          others_at : is_fed p.signals ≡ false → (n k x : ℕ)
              → (q.ports n k ≡ Some x)
              ⊎ ((e : SignalEntry) × (entry_at signals n ≡ Some e)
              × (is_input e.direction ≡ true))
              → (e : SignalEntry) × (entry_at signals n ≡ Some e) × (is_input e.direction ≡ true)
          others_at unfed n k x (inl e) =
              let d : (d : SignalEntry) × (entry_at p.signals n ≡ Some d)
              × (is_input d.direction ≡ true) = old.others unfed n k x e in
              let m : (m : SignalEntry) × (entry_at signals n ≡ Some m) × SameEntry d.0 m =
              shapes n d.0 d.1 in
              (m.0, m.1, ap is_input (sym m.2.0) ∙ d.2)
          others_at unfed n k x (inr e) = e

      new_at : (was_fed : Bool) → is_fed p.signals ≡ was_fed
          → PartStands start.size make (is_done (late_of was_fed j) j new_part) new_part new_ports
      new_at true e = part_new (is_fed signals) (λ d. e) (λ d. cannot d)
        where
          cannot : is_fed signals ≡ false → is_fed p.signals ≡ false
          cannot d = let yes : is_fed signals ≡ true = fed e in cc
      new_at false e =
          subst (λ b. PartStands start.size make b new_part new_ports)
          (sym (itself_late j new_part))
          (part_new false (λ d. cc) (λ d. e))

      pub part_stands : (was_fed : Bool) → is_fed p.signals ≡ was_fed → Fine part_state
          → ((v : Assignment) → Extends r v → Agrees v signals wires
          → AllByRecursion (IsEqualAt v) es)
          → Stands make given start (late_of was_fed j) part_written
      part_stands was_fed is fine holds = record {
        variables = λ n. same_in (Extends r) (Extends part_written) before (variable_at
            r.known.frame n) (stored (store_of r.known r.numbers) n) (h.variables n);
        own = h.own;
        blank = h.blank;
        kept = h.kept;
        parts = λ i p0 tp. part_of i p0 (set_at r.known.frame.parts j i new_part p0 tp);
        count = set_count r.parts j new_ports ∙ h.count ∙ sym
            (set_count r.known.frame.parts j new_part);
        fine = fine;
        equations = λ v ex debts first. all_append (IsEqualAt v) r.known.world.equations es
            (h.equations v (before v ex) (old_debts v debts) first) (holds v (before v ex)
            (ex.1 j new_part new_ports (get_set r.known.frame.parts j p new_part hp)
            (get_set r.parts j q new_ports hq)).0);
        numbered = put_numbered make start r.known.world.sizes r.known.frame.signals r.parts j q
            wires q.inside hq h.numbered;
      }
        where
          part_of : (i : ℕ) (p0 : Part)
              → ((j ≡ i) × (new_part ≡ p0)) ⊎ ((j ≢ i) × (slice_get r.known.frame.parts i
              ≡ Some p0))
              → (q0 : RunPart) × (slice_get (slice_set r.parts j new_ports) i ≡ Some q0)
              × PartStands start.size make (is_done (late_of was_fed j) i p0) p0 q0
          part_of i p0 (inl s) = (
            new_ports,
            ap (slice_get (slice_set r.parts j new_ports)) (sym s.0) ∙
                get_set r.parts j q new_ports hq,
            subst (λ m. PartStands start.size make (is_done (late_of was_fed j) m p0) p0 new_ports)
                s.0
                (subst (λ x. PartStands start.size make
                (is_done (late_of was_fed j) j x) x new_ports) s.1
                (new_at was_fed is)),
          )
          part_of i p0 (inr s) =
              let there : (q0 : RunPart) × (slice_get r.parts i ≡ Some q0)
              × PartStands start.size make (is_done None i p0) p0 q0 = h.parts i p0 s.1 in (
                there.0,
                get_other r.parts j i new_ports s.0 ∙ there.1,
                subst (λ b. PartStands start.size make b p0 there.0)
                    (sym (other_done was_fed j i p0 s.0))
                    there.2,
              )

          old_debts : (v : Assignment) → Debts make (late_of was_fed j) part_written v
              → Debts make None r v
          old_debts v debts i p0 q0 tp tq unfed = at (same_or_not j i)
            where
              own_debt : (was_fed : Bool) → is_fed p.signals ≡ was_fed
                  → is_fed p.signals ≡ false
                  → Debts make (late_of was_fed j) part_written v → Pays v make q
              own_debt true fed_now unfed_now debts = cc
              own_debt false fed_now unfed_now debts =
                  ports_pay v make q wires q.inside (debts j new_part new_ports
                  (get_set r.known.frame.parts j p new_part hp)
                  (get_set r.parts j q new_ports hq) (itself_late j new_part))

              at : (j ≡ i) ⊎ (j ≢ i) → Pays v make q0
              at (inl s) =
                  let is_p : Some p ≡ Some p0 = sym hp ∙ ap (slice_get r.known.frame.parts) s ∙ tp
                  in
                  let is_q : Some q ≡ Some q0 = sym hq ∙ ap (slice_get r.parts) s ∙ tq in
                  let same_p : p ≡ p0 = cc in
                  let same_q : q ≡ q0 = cc in
                  subst (λ y. Pays v make y) same_q (own_debt was_fed is
                  (subst (λ x. is_fed x.signals ≡ false) (sym same_p) unfed) debts)
              at (inr ne) =
                  debts i p0 q0 (get_other r.known.frame.parts j i new_part ne ∙ tp)
                  (get_other r.parts j i new_ports ne ∙ tq) (other_done was_fed j i p0 ne ∙ unfed)
