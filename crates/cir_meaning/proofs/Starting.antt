-- A component's body runs once its inputs are there.
use Rattle.std.proofs.Common.{◌≡◌, ◌≢◌, ◌⊎◌, inl, inr, ℕ, zero, suc, Bool, true, false, cond, List}
use Rattle.std.proofs.Common.{[], ◌∷◌, Option, Some, None, is_some, Ok, Err, refl, sym, ap, subst}
use Rattle.std.proofs.Common.{◌∙◌, slice_get, slice_set}
use Rattle.cir_meaning.proofs.PartWeights.{put_numbered, ports_weigh}
use Rattle.std.specs.List.{AllByRecursion, list_all}
use Rattle.cir_lc.specs.Number.{Assignment}
use Rattle.cir_meaning.specs.Scoped.{Scope}
use Rattle.cir_meaning.specs.Tried.{next}
use Rattle.cir_meaning.specs.Frame.{SignalEntry, Signals, Part, State, Maker, variable_at, entry_at}
use Rattle.cir_meaning.specs.Frame.{is_input, is_all_written, is_fed}
use Rattle.cir_meaning.specs.RunValues.{stored}
use Rattle.cir_meaning.specs.Run.{Rejected, Stopped, RunTried, Wires, RunPart, Run, store_of}
use Rattle.cir_meaning.specs.RunSimple.{Outcome, Runner, Running, with_outcome, run_part, started}
use Rattle.cir_meaning.proofs.Reaching.{and_true}
use Rattle.cir_meaning.proofs.Marking.{KeepsWires}
use Rattle.cir_meaning.proofs.Writing.{get_set}
use Rattle.cir_meaning.proofs.Holds.{Agrees, PartAgrees, Full, Extends}
use Rattle.cir_meaning.proofs.Goes.{Goes, goes_ok}
use Rattle.cir_meaning.proofs.Standing.{PartStands, Stands, Debts, Pays, made_ports, pays_ports}
use Rattle.cir_meaning.proofs.Standing.{is_done, PartWeighs, Start}
use Rattle.cir_meaning.proofs.SignalWrites.{shapes_itself}
use Rattle.cir_meaning.proofs.OwnWrites.{same_in, agrees_before}
use Rattle.cir_meaning.proofs.PartWrites.{get_other, set_count, same_or_not, late_of, other_done}
use Rattle.cir_meaning.proofs.PartWrites.{itself_late}
use Rattle.cir_meaning.proofs.VariableRuns.{Soundly, After}

-- a body that runs ends with a number for each signal, and pays what it owes
pub record BodyRan (size : ℕ) (make : Option Maker) (p : Part) (q : RunPart)
    (o : Outcome) : Type 0 where
  pub keeps : KeepsWires q.ports o.own
  pub all : (n : ℕ) (e : SignalEntry) → entry_at p.signals n ≡ Some e → (k : ℕ) (b : Bool)
      → slice_get e.written k ≡ Some b → is_some (o.own n k) ≡ true
  pub full : AllByRecursion Full o.inside
  pub paid : (v : Assignment) → Agrees v p.signals o.own
      → AllByRecursion (λ t. Agrees v t.signals t.wires) o.inside → Pays v make q
  pub weighs : PartWeighs size make p.signals o.inside q

unfoldable pub Ends : {A : Type 0} → (A → Type 0) → RunTried A → Type 0
Ends Q (Ok a) = Q a
Ends Q (Err (Rejected e)) = ⊥
Ends Q (Err (Stopped stop w log)) = stop ≢ 0

pub ends_goes : {A B C : Type 0} (Q : A → Type 0) (P : B → C → Type 0) (b : B) (m : RunTried A)
    (on : A → RunTried C) → Ends Q m → ((a : A) → Q a → Goes P (Ok b) (on a))
    → Goes P (Ok b) (next m on)
unfolding Ends Goes
ends_goes Q P b (Ok a) on h f = f a h
ends_goes Q P b (Err (Rejected e)) on h f = absurd h
ends_goes Q P b (Err (Stopped stop w log)) on h f = h

abbrev pub BodiesRun : ℕ → Option Maker → Runner → Type 0
BodiesRun size make body =
    (p : Part) (q : RunPart) (log : List (List ℕ)) → PartStands size make false p q
    → is_fed p.signals ≡ true
    → Ends (BodyRan size make p q)
    (body q.where_made q.template q.arguments q.path q.before q.ports log)

-- inputs that are fed are written
pub all_true : (xs : List Bool) (k : ℕ) (b : Bool) → list_all (λ b. b) xs ≡ true
    → slice_get xs k ≡ Some b → b ≡ true
all_true [] k b h e = cc
all_true (x ∷ xs) zero b h e =
    let same : x ≡ b = cc in sym same ∙ (and_true x _ h).0
all_true (x ∷ xs) (suc k) b h e = all_true xs k b (and_true x _ h).1 e

input_all : (input : Bool) (e : SignalEntry) → cond input (is_all_written e) true ≡ true
    → input ≡ true → is_all_written e ≡ true
input_all true e h i = h
input_all false e h i = cc

pub fed_marks : (xs : Signals) (n : ℕ) (e : SignalEntry) → is_fed xs ≡ true
    → entry_at xs n ≡ Some e → is_input e.direction ≡ true → (k : ℕ) (b : Bool)
    → slice_get e.written k ≡ Some b → b ≡ true
fed_marks [] n e h there i k b at = cc
fed_marks (None ∷ xs) zero e h there i k b at = cc
fed_marks (None ∷ xs) (suc n) e h there i k b at = fed_marks xs n e h there i k b at
fed_marks (Some d ∷ xs) zero e h there i k b at =
    let same : d ≡ e = cc in
    all_true e.written k b (input_all (is_input e.direction) e
    (subst (λ x. cond (is_input x.direction) (is_all_written x) true ≡ true) same
    (and_true _ (is_fed xs) h).0) i) at
fed_marks (Some d ∷ xs) (suc n) e h there i k b at =
    fed_marks xs n e (and_true _ (is_fed xs) h).1 there i k b at

module _ (make : Option Maker) (given : Wires) (start : Start) (scope : Scope) (q : Running)
    (sound : Soundly scope q) (bodies : BodiesRun start.size make q.body) where
  abbrev Then : State → Run → Type 0
  Then = After make given start scope q sound

  module _ (r : Run) (j : ℕ) (p : Part) (x : RunPart)
      (hp : slice_get r.known.frame.parts j ≡ Some p) (hx : slice_get r.parts j ≡ Some x)
      (h : Stands make given start (Some j) r) where
    late_part : PartStands start.size make false p x
    late_part =
        let there : (y : RunPart) × (slice_get r.parts j ≡ Some y)
        × PartStands start.size make (is_done (Some j) j p) p y = h.parts j p hp in
        let both : Some there.0 ≡ Some x = sym there.1 ∙ hx in
        let same : there.0 ≡ x = cc in
        subst (λ y. PartStands start.size make false p y) same
        (subst (λ b. PartStands start.size make b p there.0) (itself_late j p) there.2)

    -- nothing starts
    pub unfed_stands : is_fed p.signals ≡ false → Stands make given start None r
    unfed_stands unfed = record {
      variables = h.variables;
      own = h.own;
      blank = h.blank;
      kept = h.kept;
      parts = λ i p0 tp. part_of i p0 tp (same_or_not j i);
      count = h.count;
      fine = h.fine;
      equations = λ v ex debts. h.equations v ex (λ i p0 q0 tp tq e.
          debts i p0 q0 tp tq (undone i p0 tp e (same_or_not j i)));
      numbered = h.numbered;
    }
      where
        is_p : (i : ℕ) (p0 : Part) → slice_get r.known.frame.parts i ≡ Some p0 → j ≡ i → p ≡ p0
        is_p i p0 tp s =
            let both : Some p ≡ Some p0 = sym hp ∙ ap (slice_get r.known.frame.parts) s ∙ tp in cc

        undone : (i : ℕ) (p0 : Part) → slice_get r.known.frame.parts i ≡ Some p0
            → is_done (Some j) i p0 ≡ false → (j ≡ i) ⊎ (j ≢ i) → is_done None i p0 ≡ false
        undone i p0 tp e (inl s) =
            subst (λ y. is_fed y.signals ≡ false) (is_p i p0 tp s) unfed
        undone i p0 tp e (inr ne) = sym (other_done false j i p0 ne) ∙ e

        part_of : (i : ℕ) (p0 : Part) → slice_get r.known.frame.parts i ≡ Some p0
            → (j ≡ i) ⊎ (j ≢ i)
            → (q0 : RunPart) × (slice_get r.parts i ≡ Some q0)
            × PartStands start.size make (is_done None i p0) p0 q0
        part_of i p0 tp (inl s) = (
          x,
          ap (slice_get r.parts) (sym s) ∙ hx,
          subst (λ y. PartStands start.size make (is_done None i y) y x) (is_p i p0 tp s)
              (subst (λ b. PartStands start.size make b p x) (sym unfed) late_part),
        )
        part_of i p0 tp (inr ne) =
            let there : (q0 : RunPart) × (slice_get r.parts i ≡ Some q0)
            × PartStands start.size make (is_done (Some j) i p0) p0 q0 = h.parts i p0 tp in (
              there.0,
              there.1,
              subst (λ b. PartStands start.size make b p0 there.0)
                  (other_done false j i p0 ne) there.2,
            )

    -- the body runs
    module _ (o : Outcome) (fed : is_fed p.signals ≡ true)
        (ran : BodyRan start.size make p x o) where
      abbrev ran_part : RunPart
      ran_part = record x { ports = o.own; inside = o.inside }

      ran_before : (v : Assignment) → Extends (with_outcome j o x r) v → Extends r v
      ran_before v ex = (ex.0, (λ i p0 q0 tp tq. at i p0 q0 tp tq (same_or_not j i)))
        where
          at : (i : ℕ) (p0 : Part) (q0 : RunPart) → slice_get r.known.frame.parts i ≡ Some p0
              → slice_get r.parts i ≡ Some q0 → (j ≡ i) ⊎ (j ≢ i) → PartAgrees v p0 q0
          at i p0 q0 tp tq (inl s) =
              let both_p : Some p ≡ Some p0 = sym hp ∙ ap (slice_get r.known.frame.parts) s ∙ tp in
              let both_q : Some x ≡ Some q0 = sym hx ∙ ap (slice_get r.parts) s ∙ tq in
              let same_p : p ≡ p0 = cc in
              let same_q : x ≡ q0 = cc in
              subst (λ y. PartAgrees v y q0) same_p (subst (λ y. PartAgrees v p y) same_q (
                agrees_before v p.signals p.signals x.ports o.own (shapes_itself p.signals)
                    ran.keeps (ex.1 j p ran_part hp (get_set r.parts j x ran_part hx)).0,
                subst (λ ts. AllByRecursion (λ t. Agrees v t.signals t.wires) ts)
                    (sym (late_part.empty refl)) tt,
              ))
          at i p0 q0 tp tq (inr ne) =
              ex.1 i p0 q0 tp (get_other r.parts j i ran_part ne ∙ tq)

      ran_stands : Stands make given start None (with_outcome j o x r)
      ran_stands = record {
        variables = λ n. same_in (Extends r) (Extends (with_outcome j o x r)) ran_before
            (variable_at r.known.frame n) (stored (store_of r.known r.numbers) n) (h.variables n);
        own = h.own;
        blank = h.blank;
        kept = h.kept;
        parts = λ i p0 tp. part_of i p0 tp (same_or_not j i);
        count = set_count r.parts j ran_part ∙ h.count;
        fine = h.fine;
        equations = λ v ex debts. h.equations v (ran_before v ex) (λ i p0 q0 tp tq e.
            owed v ex debts i p0 q0 tp tq e (same_or_not j i));
        numbered = put_numbered make start r.known.world.sizes r.known.frame.signals r.parts j x
            o.own o.inside hx h.numbered;
      }
        where
          is_p : (i : ℕ) (p0 : Part) → slice_get r.known.frame.parts i ≡ Some p0 → j ≡ i → p ≡ p0
          is_p i p0 tp s =
              let both : Some p ≡ Some p0 = sym hp ∙ ap (slice_get r.known.frame.parts) s ∙ tp in
              cc

          part_done : PartStands start.size make true p ran_part
          part_done = record {
            signals = late_part.signals;
            after = late_part.after;
            made = made_ports make x o.own o.inside ∙ late_part.made;
            shapes = late_part.shapes;
            shapes_back = late_part.shapes_back;
            inputs = λ n e there i k b at. ran.all n e there k b at ∙ sym
                (fed_marks p.signals n e fed there i k b at);
            others = λ d n k y at. cc;
            begins = late_part.begins;
            empty = λ d. cc;
            outputs = λ d n e there k b at. ran.all n e there k b at;
            full = λ d. ran.full;
            paid = λ d v ex. pays_ports v make x o.own o.inside (ran.paid v ex.0 ex.1);
            weighs = λ d. ports_weigh start.size make p.signals o.inside x o.own o.inside
                ran.weighs;
          }

          part_of : (i : ℕ) (p0 : Part) → slice_get r.known.frame.parts i ≡ Some p0
              → (j ≡ i) ⊎ (j ≢ i)
              → (q0 : RunPart) × (slice_get (slice_set r.parts j ran_part) i ≡ Some q0)
              × PartStands start.size make (is_done None i p0) p0 q0
          part_of i p0 tp (inl s) = (
            ran_part,
            ap (slice_get (slice_set r.parts j ran_part)) (sym s) ∙
                get_set r.parts j x ran_part hx,
            subst (λ y. PartStands start.size make (is_done None i y) y ran_part) (is_p i p0 tp s)
                (subst (λ b. PartStands start.size make b p ran_part) (sym fed) part_done),
          )
          part_of i p0 tp (inr ne) =
              let there : (q0 : RunPart) × (slice_get r.parts i ≡ Some q0)
              × PartStands start.size make (is_done (Some j) i p0) p0 q0 = h.parts i p0 tp in (
                there.0,
                get_other r.parts j i ran_part ne ∙ there.1,
                subst (λ b. PartStands start.size make b p0 there.0)
                    (other_done false j i p0 ne) there.2,
              )

          owed : (v : Assignment) → Extends (with_outcome j o x r) v
              → Debts make None (with_outcome j o x r) v → (i : ℕ) (p0 : Part) (q0 : RunPart)
              → slice_get r.known.frame.parts i ≡ Some p0 → slice_get r.parts i ≡ Some q0
              → is_done (Some j) i p0 ≡ false → (j ≡ i) ⊎ (j ≢ i) → Pays v make q0
          owed v ex debts i p0 q0 tp tq e (inl s) =
              let both_q : Some x ≡ Some q0 = sym hx ∙ ap (slice_get r.parts) s ∙ tq in
              let same_q : x ≡ q0 = cc in
              let agrees : PartAgrees v p ran_part =
              ex.1 j p ran_part hp (get_set r.parts j x ran_part hx) in
              subst (λ y. Pays v make y) same_q (ran.paid v agrees.0 agrees.1)
          owed v ex debts i p0 q0 tp tq e (inr ne) =
              debts i p0 q0 tp (get_other r.parts j i ran_part ne ∙ tq)
              (sym (other_done false j i p0 ne) ∙ e)

    pub part_goes : is_fed p.signals ≡ true → Goes Then (Ok r.known) (run_part q j (Some x) r)
    part_goes fed =
        ends_goes (BodyRan start.size make p x) Then r.known
        (q.body x.where_made x.template x.arguments x.path x.before x.ports r.log) _
        (bodies p x r.log late_part fed)
        (λ o ran. goes_ok Then r.known (with_outcome j o x r) (refl, ran_stands o fed ran))

  -- after a write, and after a creation
  pub started_goes : (r : Run) (j : ℕ) (p : Part) (x : RunPart) (was_fed : Bool)
      → slice_get r.known.frame.parts j ≡ Some p → slice_get r.parts j ≡ Some x
      → Stands make given start (late_of was_fed j) r
      → Goes Then (Ok r.known) (started q j was_fed (Some p) r)
  started_goes r j p x true hp hx h = goes_ok Then r.known r (refl, h)
  started_goes r j p x false hp hx h = at (is_fed p.signals) refl
    where
      at : (b : Bool) → is_fed p.signals ≡ b
          → Goes Then (Ok r.known) (cond b (run_part q j (slice_get r.parts j) r) (Ok r))
      at true e =
          subst (λ o. Goes Then (Ok r.known) (run_part q j o r)) (sym hx)
          (part_goes r j p x hp hx h e)
      at false e = goes_ok Then r.known r (refl, unfed_stands r j p x hp hx h e)
