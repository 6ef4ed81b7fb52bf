-- An assignment to signals keeps the account of cells.
use Rattle.std.proofs.Common.{◌≡◌, ℕ, zero, suc, ◌+◌, Bool, true, false, cond, List, [], ◌∷◌, ◌++◌}
use Rattle.std.proofs.Common.{map, length, Option, Some, None, is_some, Ok, refl, sym, ap, subst}
use Rattle.std.proofs.Common.{◌∙◌, slice_get, slice_set, arith}
use Rattle.std.proofs.lemmas.List.{append-nil}
use Rattle.std.specs.Prelude.{not, ◌&&◌}
use Rattle.cir_ast.specs.declared.program.Meant.{Meant}
use Rattle.cir_ast.specs.declared.operators.Arrow.{Arrow}
use Rattle.cir_ast.specs.Tree.{Expr, Accessors, Assign}
use Rattle.cir_meaning.specs.Tried.{Where, Tried, next}
use Rattle.cir_meaning.specs.Values.{Value, Known, Linear, Quadratic, Opaque}
use Rattle.cir_meaning.specs.Frame.{SignalEntry, Signals, Part, State, Context, entry_at, is_input}
use Rattle.cir_meaning.specs.Frame.{is_fed}
use Rattle.cir_meaning.specs.Writing.{signals_of, part_signals, with_part_signals, with_signals}
use Rattle.cir_meaning.specs.Writing.{marked, SignalAssignment, write_signal}
use Rattle.cir_meaning.specs.Costs.{Cost}
use Rattle.cir_meaning.specs.Simple.{wired}
use Rattle.cir_meaning.specs.Run.{RunPart, settled}
use Rattle.cir_meaning.proofs.Good.{OnGood, good_ok, good_next, good_weaker, good_is}
use Rattle.cir_meaning.proofs.Likes.{Like}
use Rattle.cir_meaning.proofs.Same.{Rows}
use Rattle.cir_meaning.proofs.Marking.{MarksOf}
use Rattle.cir_meaning.proofs.Writing.{get_set}
use Rattle.cir_meaning.proofs.Standing.{SameShapes}
use Rattle.cir_meaning.proofs.OwnWrites.{none_before}
use Rattle.cir_meaning.proofs.PartWrites.{set_count}
use Rattle.cir_meaning.proofs.SignalTargets.{TargetIs, Written, Condition, written_good}
use Rattle.cir_steps.specs.Step.{Step}
use Rattle.cir_steps.specs.Written.{times}
use Rattle.cir_steps.specs.Emission.{Emission, Emitted, known_in, with_state, wire_cell, ports_of}
use Rattle.cir_steps.specs.Emission.{part_ports, steps_in}
use Rattle.cir_steps.specs.Making.{Emitting, written_elements, wiring, freed, freed_at}
use Rattle.cir_steps.proofs.Still.{Still, still_itself, still_like, stepped_still}
use Rattle.cir_steps.proofs.Counting.{writes, over, own_entry, port_entry, part_weight}
use Rattle.cir_steps.proofs.Counting.{parts_weight, weight, weight_of}
use Rattle.cir_steps.proofs.Once.{Laid, Accounts}
use Rattle.cir_steps.proofs.Spending.{Falls, own_falls, port_falls, AreGiven, Chosen, Spent}
use Rattle.cir_steps.proofs.Spending.{elements_spent}

-- the state behind the write
abbrev pub flag : Option Bool → Option ℕ
flag (Some true) = Some 0
flag (Some false) = None
flag None = None

abbrev pub marks_at : Option SignalEntry → ℕ → Option ℕ
marks_at None k = None
marks_at (Some e) k = flag (slice_get e.written k)

marked_so : (xs : Signals) → MarksOf (λ d. true) xs (λ n k. marks_at (entry_at xs n) k)
marked_so xs n e there t p b at =
    ap (λ o. is_some (marks_at o p)) there ∙ ap (λ o. is_some (flag o)) at ∙ of_bool b
  where
    of_bool : (b : Bool) → is_some (flag (Some b)) ≡ b
    of_bool true = refl
    of_bool false = refl

nothing_rows : (vs : List Value) → Rows (λ v. ⊥) vs (map (λ v. settled v 0) vs)
nothing_rows [] = tt
nothing_rows (Known k ∷ vs) = (refl, nothing_rows vs)
nothing_rows (Linear f ∷ vs) = ((λ v no. absurd no), nothing_rows vs)
nothing_rows (Quadratic a b c ∷ vs) = ((λ v no. absurd no), nothing_rows vs)
nothing_rows (Opaque ∷ vs) = (tt, nothing_rows vs)

signals_same : (part : Option ℕ) (f s : State) → Still f s
    → signals_of part s.frame ≡ signals_of part f.frame
signals_same None f s h = h.0
signals_same (Some j) f s h = ap (λ (ps : List Part). signals_of (Some j)
    record f.frame { parts = ps }) h.1

module _ (k : Context) (w : Where) (arrow : Arrow) (cost : Cost) (f : State)
    (b : SignalAssignment) (like : Like f b.state) (is : TargetIs f b.target) where
  abbrev pub values : List ℕ
  values = map (λ v. settled v 0) b.value.items

  abbrev pub Behind : State → Type 0
  Behind s =
      Written (Condition (λ v. ⊥) is.entry.first b.target.reach.places values) (λ d. true) b.target
      values (λ n k. marks_at (entry_at (signals_of b.target.part f.frame) n) k) f s

  abbrev pub result : Tried State
  result = next (write_signal k w arrow b) (wired k w cost b.target.reach.places)

  pub behind : (s : State) → result ≡ Ok s → Behind s
  behind s e =
      good_is Behind result s e
      (written_good (λ v. ⊥) (λ d. true) k w arrow cost f b values
      (λ n k. marks_at (entry_at (signals_of b.target.part f.frame) n) k) like is refl
      (marked_so (signals_of b.target.part f.frame)) (nothing_rows b.value.items))

  module _ (c : ℕ) (weigh : ℕ → SignalEntry → ℕ) (cell : ℕ → ℕ → ℕ) (P : SignalEntry → Type 0)
      (falls : Falls c weigh cell P) (marks : (e : SignalEntry) (k : ℕ) → P e → P (marked e k))
      (chosen : P is.entry) where
    abbrev Takes : Signals → State → Type 0
    Takes xs s =
        Spent c weigh cell P falls marks b.target
        (written_elements b.target.reach.places b.value.items) xs (signals_of b.target.part s.frame)

    pub spent : (s : State) → result ≡ Ok s → Takes (signals_of b.target.part f.frame) s
    spent s e =
        subst (λ xs. Takes xs s)
        (signals_same b.target.part f b.state (still_like f f b.state (still_itself f) like))
        (good_is (Takes (signals_of b.target.part b.state.frame)) result s e
        (good_next (Takes (signals_of b.target.part b.state.frame))
        (Takes (signals_of b.target.part b.state.frame)) (write_signal k w arrow b) _
        (elements_spent c weigh cell P falls marks b.target k w arrow b.target.reach.places
        b.value.items b.state at_first) (λ t h.
        good_weaker (Still t) (Takes (signals_of b.target.part b.state.frame))
        (wired k w cost b.target.reach.places t) (wired_still b.target.reach.places t)
        (λ u i. subst (Spent c weigh cell P falls marks b.target
        (written_elements b.target.reach.places b.value.items)
        (signals_of b.target.part b.state.frame)) (sym (signals_same b.target.part t u i)) h))))
      where
        wired_still : (places : List ℕ) (t : State) → OnGood (Still t) (wired k w cost places t)
        wired_still [] t = good_ok (Still t) t (still_itself t)
        wired_still (place ∷ places) t = stepped_still t k w cost 0 t (still_itself t)

        at_first : Chosen c weigh cell P falls marks b.target
            (signals_of b.target.part b.state.frame)
        at_first e there =
            let in_f : entry_at (signals_of b.target.part f.frame) b.target.number ≡ Some e =
            ap (λ (xs : Signals). entry_at xs b.target.number)
            (sym (signals_same b.target.part f b.state
            (still_like f f b.state (still_itself f) like)))
            ∙ there in
            let both : Some is.entry ≡ Some e = sym is.there ∙ in_f in
            let same : is.entry ≡ e = cc in
            subst P same chosen

-- a part with its ports and its waiting steps
pub partner : {A B : Type 0} (xs : List A) (ys : List B) (j : ℕ) (a : A) → length xs ≡ length ys
    → slice_get xs j ≡ Some a → (b : B) × (slice_get ys j ≡ Some b)
partner [] ys j a same h = cc
partner (x ∷ xs) [] j a same h = cc
partner (x ∷ xs) (y ∷ ys) zero a same h = (y, refl)
partner (x ∷ xs) (y ∷ ys) (suc j) a same h =
    partner xs ys j a (let more : suc (length xs) ≡ suc (length ys) = same in omega arith) h

parts_set : (c j v : ℕ) (p p' : Part) (r : RunPart) (steps : List Step) (ps : List Part)
    (rs : List RunPart) (bs : List (List Step)) → slice_get ps j ≡ Some p
    → slice_get rs j ≡ Some r → slice_get bs j ≡ Some steps
    → part_weight c p' r steps + v ≡ part_weight c p r steps
    → parts_weight c (slice_set ps j p') rs bs + v ≡ parts_weight c ps rs bs
parts_set c j v p p' r steps [] rs bs hp hr hb h = cc
parts_set c j v p p' r steps (x ∷ ps) [] bs hp hr hb h = cc
parts_set c j v p p' r steps (x ∷ ps) (y ∷ rs) [] hp hr hb h = cc
parts_set c zero v p p' r steps (x ∷ ps) (y ∷ rs) (z ∷ bs) hp hr hb h =
    let same_p : p ≡ x = cc in
    let same_r : r ≡ y = cc in
    let same_b : steps ≡ z = cc in
    let new : part_weight c p' r steps ≡ part_weight c p' y z =
    ap (λ (a : RunPart). part_weight c p' a steps) same_r
    ∙ ap (λ (a : List Step). part_weight c p' y a) same_b in
    let old : part_weight c p r steps ≡ part_weight c x y z =
    ap (λ (a : Part). part_weight c a r steps) same_p
    ∙ ap (λ (a : RunPart). part_weight c x a steps) same_r
    ∙ ap (λ (a : List Step). part_weight c x y a) same_b in
    omega arith
parts_set c (suc j) v p p' r steps (x ∷ ps) (y ∷ rs) (z ∷ bs) hp hr hb h =
    let rest : parts_weight c (slice_set ps j p') rs bs + v ≡ parts_weight c ps rs bs =
    parts_set c j v p p' r steps ps rs bs hp hr hb h in
    omega arith

-- steps that wait are to be written yet, until their component is fed
pub freed_weight : (c : ℕ) (was now : Bool) (steps : List Step) → (was ≡ true → now ≡ true)
    → writes c (cond (not was && now) steps []) + cond now 0 (writes c steps)
    ≡ cond was 0 (writes c steps)
freed_weight c true true steps h = omega arith
freed_weight c true false steps h = let no : false ≡ true = h refl in cc
freed_weight c false true steps h = omega arith
freed_weight c false false steps h = omega arith

pub freed_steps : (x : Emission) (s : State) (j : ℕ) (p : Part) (steps : List Step)
    (signals : Signals) → slice_get (known_in x).frame.parts j ≡ Some p
    → slice_get x.bodies j ≡ Some steps
    → s.frame.parts ≡ slice_set (known_in x).frame.parts j (record p { signals = signals })
    → freed_at (Some j) (is_fed p.signals) (with_state s x)
    ≡ cond (not (is_fed p.signals) && is_fed signals) steps []
freed_steps x s j p steps signals hp hb parts =
    ap (λ o. freed j (is_fed p.signals) o (with_state s x)) its_part
    ∙ ap (λ o. cond (not (is_fed p.signals) && is_fed signals) (steps_in o) []) hb
  where
    its_part : slice_get s.frame.parts j ≡ Some (record p { signals = signals })
    its_part = ap (λ (ps : List Part). slice_get ps j) parts
        ∙ get_set (known_in x).frame.parts j p (record p { signals = signals }) hp

module _ (c : ℕ) (x : Emission) (s : State) (b : SignalAssignment) (j : ℕ) (p : Part)
    (r : RunPart) (steps : List Step) (signals : Signals)
    (hp : slice_get (known_in x).frame.parts j ≡ Some p)
    (hr : slice_get x.cells.parts j ≡ Some r) (hb : slice_get x.bodies j ≡ Some steps)
    (own : s.frame.signals ≡ (known_in x).frame.signals)
    (parts : s.frame.parts
    ≡ slice_set (known_in x).frame.parts j (record p { signals = signals }))
    (fed : is_fed p.signals ≡ true → is_fed signals ≡ true) where
  -- a component's inputs are written
  part_sum : (v : ℕ) → over (port_entry c r.ports) 0 signals + v
      ≡ over (port_entry c r.ports) 0 p.signals
      → v + (writes c (freed_at (Some j) (is_fed p.signals) (with_state s x))
      + weight c (with_state s x)) ≡ weight c x
  part_sum v less =
      let freed : writes c (freed_at (Some j) (is_fed p.signals) (with_state s x))
      ≡ writes c (cond (not (is_fed p.signals) && is_fed signals) steps []) = ap (writes c)
      (freed_steps x s j p steps signals hp hb parts) in
      let waits : writes c (cond (not (is_fed p.signals) && is_fed signals) steps [])
      + cond (is_fed signals) 0 (writes c steps) ≡ cond (is_fed p.signals) 0 (writes c steps) =
      freed_weight c (is_fed p.signals) (is_fed signals) steps fed in
      let part : parts_weight c
      (slice_set (known_in x).frame.parts j (record p { signals = signals })) x.cells.parts x.bodies
      + (v + writes c (cond (not (is_fed p.signals) && is_fed signals) steps []))
      ≡ parts_weight c (known_in x).frame.parts x.cells.parts x.bodies =
      parts_set c j _ p (record p { signals = signals }) r steps (known_in x).frame.parts
      x.cells.parts x.bodies hp hr hb (omega arith) in
      let whole : weight c (with_state s x) ≡ weight_of c x.cells.own (known_in x).frame.signals
      (slice_set (known_in x).frame.parts j (record p { signals = signals })) x.cells.parts
      x.bodies x.next =
      (λ i. weight_of c x.cells.own (own i) (parts i) x.cells.parts x.bodies x.next) in
      omega arith

-- own signals are written
own_sum : (c v : ℕ) (x : Emission) (s : State) → s.frame.parts ≡ (known_in x).frame.parts
    → over (own_entry c x.cells.own) 0 s.frame.signals + v
    ≡ over (own_entry c x.cells.own) 0 (known_in x).frame.signals
    → v + weight c (with_state s x) ≡ weight c x
own_sum c v x s parts less =
    let whole : weight c (with_state s x) ≡ weight_of c x.cells.own s.frame.signals
    (known_in x).frame.parts x.cells.parts x.bodies x.next =
    (λ i. weight_of c x.cells.own s.frame.signals (parts i) x.cells.parts x.bodies x.next) in
    omega arith

module _ (q : Emitting) (w : Where) (written : Assign Meant) (accessors : Accessors Meant)
    (e : Expr Meant) (x : Emission) (b : SignalAssignment) (s : State) where
  abbrev pub wired_to : Emitted
  wired_to = record {
    state = with_state s x;
    steps = (wiring q.context w written accessors e b x ∷ freed_at b.target.part
        (is_fed (signals_of b.target.part (known_in x).frame)) (with_state s x)) ++ [];
  }

  abbrev written_now : List ℕ
  written_now = written_elements b.target.reach.places b.value.items

  abbrev targets_to : Option ℕ → List ℕ
  targets_to part = map (wire_cell (ports_of part x) b.target.number) written_now

  abbrev freed_to : Option ℕ → List Step
  freed_to part =
      freed_at part (is_fed (signals_of part (known_in x).frame)) (with_state s x)

  -- what is written is what the targets name, and what is freed
  written_sum : (c : ℕ) (part : Option ℕ) → b.target.part ≡ part
      → writes c wired_to.steps ≡ times c (targets_to part) + writes c (freed_to part)
  written_sum c part same =
      let one_list : wired_to.steps ≡ wiring q.context w written accessors e b x
      ∷ freed_to b.target.part =
      append-nil (wiring q.context w written accessors e b x ∷ freed_to b.target.part) in
      let all : writes c wired_to.steps ≡ writes c (wiring q.context w written accessors e b x
      ∷ freed_to b.target.part) = ap (λ ss. writes c ss) one_list in
      let targets : times c (targets_to b.target.part) ≡ times c (targets_to part) =
      ap (λ o. times c (targets_to o)) same in
      let freed : writes c (freed_to b.target.part) ≡ writes c (freed_to part) =
      ap (λ o. writes c (freed_to o)) same in
      omega arith

  module _ (cost : Cost) (a : Arrow) (like : Like (known_in x) b.state)
      (is : TargetIs (known_in x) b.target)
      (done : result q.context w a cost (known_in x) b like is ≡ Ok s) where
    abbrev pub wrote : Behind q.context w a cost (known_in x) b like is s
    wrote = behind q.context w a cost (known_in x) b like is s done

    pub own_parts : b.target.part ≡ None → s.frame.parts ≡ (known_in x).frame.parts
    own_parts same =
        ap (λ (t : State). t.frame.parts) wrote.wrote.is
        ∙ ap (λ (o : Option ℕ). (with_signals o wrote.wrote.signals (known_in x).frame).parts) same

    pub part_parts : (j : ℕ) (p : Part) → b.target.part ≡ Some j
        → slice_get (known_in x).frame.parts j ≡ Some p
        → s.frame.parts ≡ slice_set (known_in x).frame.parts j
        (record p { signals = wrote.wrote.signals })
    part_parts j p same hp =
        ap (λ (t : State). t.frame.parts) wrote.wrote.is
        ∙ ap (λ (o : Option ℕ). (with_signals o wrote.wrote.signals (known_in x).frame).parts) same
        ∙ ap (λ (o : Option Part). (with_part_signals j wrote.wrote.signals o
        (known_in x).frame).parts) hp

    pub own_wired : b.target.part ≡ None → Accounts x wired_to
    own_wired same h = (
      record {
        parts = ap length parts ∙ h.parts;
        bodies = h.bodies;
        inputs = subst AreGiven (ap (λ o. signals_of o s.frame) same) ((spent_at 0).given
            (subst AreGiven (sym (ap (λ o. signals_of o (known_in x).frame) same)) h.inputs));
        blank = λ n k free. h.blank n k (none_before (known_in x).frame.signals
            after.wrote.signals n (subst (λ o. SameShapes (signals_of o (known_in x).frame)
            after.wrote.signals) same after.wrote.shapes)
            (ap (λ xs. entry_at xs n) (sym after.wrote.now
            ∙ ap (λ o. signals_of o s.frame) same) ∙ free));
      },
      sum,
    )
      where
        after : Behind q.context w a cost (known_in x) b like is s
        after = behind q.context w a cost (known_in x) b like is s done

        parts : s.frame.parts ≡ (known_in x).frame.parts
        parts = own_parts same

        spent_at : (c : ℕ) → Spent c (own_entry c x.cells.own) (wire_cell x.cells.own)
            (λ e. Unit {0}) (own_falls c x.cells.own) (λ e k p. tt) b.target written_now
            (signals_of b.target.part (known_in x).frame) (signals_of b.target.part s.frame)
        spent_at c =
            spent q.context w a cost (known_in x) b like is c (own_entry c x.cells.own)
            (wire_cell x.cells.own) (λ e. Unit {0}) (own_falls c x.cells.own) (λ e k p. tt) tt s
            done

        sum : (c : ℕ) → writes c wired_to.steps + weight c (with_state s x) ≡ weight c x
        sum c =
            let less : over (own_entry c x.cells.own) 0 s.frame.signals
            + times c (targets_to None) ≡ over (own_entry c x.cells.own) 0
            (known_in x).frame.signals =
            subst (λ o. over (own_entry c x.cells.own) 0 (signals_of o s.frame)
            + times c (targets_to None) ≡ over (own_entry c x.cells.own) 0
            (signals_of o (known_in x).frame)) same (spent_at c).sum in
            let wrote : writes c wired_to.steps ≡ times c (targets_to None) + 0 =
            written_sum c None same in
            let whole : times c (targets_to None) + weight c (with_state s x) ≡ weight c x =
            own_sum c (times c (targets_to None)) x s parts less in
            omega arith

    pub part_wired : (j : ℕ) → b.target.part ≡ Some j → Accounts x wired_to
    part_wired j same h = at (slice_get (known_in x).frame.parts j) refl
      where
        after : Behind q.context w a cost (known_in x) b like is s
        after = behind q.context w a cost (known_in x) b like is s done

        own : s.frame.signals ≡ (known_in x).frame.signals
        own =
            ap (λ (t : State). t.frame.signals) after.wrote.is
            ∙ ap (λ (o : Option ℕ). (with_signals o after.wrote.signals (known_in x).frame).signals)
            same ∙ kept (slice_get (known_in x).frame.parts j)
          where
            kept : (o : Option Part) → (with_part_signals j after.wrote.signals o
                (known_in x).frame).signals ≡ (known_in x).frame.signals
            kept None = refl
            kept (Some p) = refl

        at : (o : Option Part) → slice_get (known_in x).frame.parts j ≡ o
            → Laid wired_to.state
            × ((c : ℕ) → writes c wired_to.steps + weight c (with_state s x) ≡ weight c x)
        at None hp =
            let none : signals_of b.target.part (known_in x).frame ≡ [] =
            ap (λ o. signals_of o (known_in x).frame) same ∙ ap part_signals hp in
            let no : entry_at [] b.target.number ≡ Some is.entry =
            ap (λ xs. entry_at xs b.target.number) (sym none) ∙ is.there in cc
        at (Some p) hp = (
          record {
            parts = ap length parts ∙ set_count (known_in x).frame.parts j _ ∙ h.parts;
            bodies = h.bodies;
            inputs = subst AreGiven (sym own) h.inputs;
            blank = λ n k free. h.blank n k (ap (λ xs. entry_at xs n) (sym own) ∙ free);
          },
          sum,
        )
          where
            parts : s.frame.parts ≡ slice_set (known_in x).frame.parts j
                (record p { signals = after.wrote.signals })
            parts =
                part_parts j p same hp

            r : (r : RunPart) × (slice_get x.cells.parts j ≡ Some r)
            r = partner (known_in x).frame.parts x.cells.parts j p h.parts hp

            steps : (steps : List Step) × (slice_get x.bodies j ≡ Some steps)
            steps = partner x.cells.parts x.bodies j r.0 h.bodies r.1

            old : signals_of b.target.part (known_in x).frame ≡ p.signals
            old = ap (λ o. signals_of o (known_in x).frame) same ∙ ap part_signals hp

            sum : (c : ℕ) → writes c wired_to.steps + weight c (with_state s x) ≡ weight c x
            sum c =
                let taken : over (port_entry c r.0.ports) 0 (signals_of b.target.part s.frame)
                + times c (map (wire_cell r.0.ports b.target.number) written_now)
                ≡ over (port_entry c r.0.ports) 0 (signals_of b.target.part (known_in x).frame) =
                (spent q.context w a cost (known_in x) b like is c (port_entry c r.0.ports)
                (wire_cell r.0.ports) (λ e. is_input e.direction ≡ true)
                (port_falls c r.0.ports) (λ e k i. i) (is.input j same) s done).sum in
                let new : over (port_entry c r.0.ports) 0 (signals_of b.target.part s.frame)
                ≡ over (port_entry c r.0.ports) 0 after.wrote.signals =
                ap (over (port_entry c r.0.ports) 0) after.wrote.now in
                let before : over (port_entry c r.0.ports) 0
                (signals_of b.target.part (known_in x).frame)
                ≡ over (port_entry c r.0.ports) 0 p.signals =
                ap (over (port_entry c r.0.ports) 0) old in
                let cells : times c (targets_to (Some j))
                ≡ times c (map (wire_cell r.0.ports b.target.number) written_now) =
                ap (λ o. times c (map (wire_cell (part_ports o) b.target.number) written_now))
                r.1 in
                let wrote : writes c wired_to.steps ≡ times c (targets_to (Some j))
                + writes c (freed_to (Some j)) = written_sum c (Some j) same in
                let was : writes c (freed_to (Some j))
                ≡ writes c (freed_at (Some j) (is_fed p.signals) (with_state s x)) =
                ap (λ o. writes c (freed_at (Some j) (is_fed (part_signals o)) (with_state s x)))
                hp in
                let whole : times c (map (wire_cell r.0.ports b.target.number) written_now)
                + (writes c (freed_at (Some j) (is_fed p.signals) (with_state s x))
                + weight c (with_state s x)) ≡ weight c x =
                part_sum c x s b j p r.0 steps.0 after.wrote.signals hp r.1 steps.1 own parts
                (λ f. after.wrote.fed (ap is_fed old ∙ f)) _ (omega arith) in
                omega arith
