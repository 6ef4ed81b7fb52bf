-- Creations and the ends of bodies keep the account of cells: in a whole body each cell is an input
-- of it, or is written once.
use Rattle.std.proofs.Common.{◌≡◌, ℕ, zero, suc, ◌+◌, Bool, true, false, cond, List, [], ◌∷◌, ◌++◌}
use Rattle.std.proofs.Common.{length, replicate, Some, None, Ok, Err, refl, sym, ap, subst, ◌∙◌}
use Rattle.std.proofs.Common.{slice_get, arith}
use Rattle.std.specs.Prelude.{◌||◌}
use Rattle.std.proofs.lemmas.List.{append-nil}
use Rattle.cir_ast.specs.declared.refusal.Kind.TheVariants.{NeverWritten, InputsMissing}
use Rattle.cir_ast.specs.Program.{Template}
use Rattle.cir_meaning.specs.Tried.{Where, Tried, next, refused}
use Rattle.cir_meaning.specs.Arrays.{Datum}
use Rattle.cir_meaning.specs.Frame.{SignalEntry, Signals, Part, World, Context, at as place_at}
use Rattle.cir_meaning.specs.Frame.{entry_at, is_input, is_all_written, is_fed}
use Rattle.cir_meaning.specs.Declaring.{Creation, opened}
use Rattle.cir_meaning.specs.Bodies.{ended, all_written, all_fed}
use Rattle.cir_meaning.specs.Run.{Wires, RunPart}
use Rattle.cir_meaning.specs.RunSimple.{waiting}
use Rattle.cir_meaning.specs.RunBodies.{port_tables}
use Rattle.cir_meaning.proofs.Reaching.{and_true}
use Rattle.cir_meaning.proofs.Creating.{get_last, one_longer}
use Rattle.cir_steps.specs.Step.{Step}
use Rattle.cir_steps.specs.Emission.{Emission, Emitted, known_in, wire_cell, steps_in}
use Rattle.cir_steps.specs.Making.{Emitting, Cast, freed, freed_at}
use Rattle.cir_steps.specs.Statements.{emit_begun}
use Rattle.cir_steps.proofs.Still.{Still}
use Rattle.cir_steps.proofs.Counting.{writes, past, unwritten, whole, over, inputs_entry, own_entry}
use Rattle.cir_steps.proofs.Counting.{port_entry, part_weight, parts_weight, weight, weight_of}
use Rattle.cir_steps.proofs.Once.{Laid, Accounts, accounts_keep, fresh_accounts}
use Rattle.cir_steps.proofs.Spending.{AreGiven}
use Rattle.cir_steps.proofs.Wiring.{freed_weight}
use Rattle.cir_steps.proofs.OnceLeaves.{unwritten_none, declared_accounts, wiring_accounts}
use Rattle.cir_steps.proofs.Casting.{Bodies, cast_made, blank_at}

-- of a body's cells, from one on, those of its inputs are written from outside, and each other one
-- by one of its steps
abbrev pub Counted : (start : ℕ) → Signals × World → Cast → Type 0
Counted start z o =
    (c : ℕ) → writes c o.steps + (over (inputs_entry c o.own) 0 z.0 + past o.next c)
    ≡ past start c

-- a component
opened_entry : (c i : ℕ) (cell : ℕ → ℕ) (bs : List Bool)
    → unwritten c cell i (replicate (length bs) false) ≡ whole c cell i bs
opened_entry c i cell [] = refl
opened_entry c i cell (b ∷ bs) =
    let rest : unwritten c cell (suc i) (replicate (length bs) false) ≡ whole c cell (suc i) bs =
    opened_entry c (suc i) cell bs in
    omega arith

opened_over : (c i : ℕ) (wires : Wires) (xs : Signals)
    → over (port_entry c wires) i (opened xs) ≡ over (inputs_entry c wires) i xs
opened_over c i wires [] = refl
opened_over c i wires (None ∷ xs) = opened_over c (suc i) wires xs
opened_over c i wires (Some e ∷ xs) =
    let first : port_entry c wires i (cond (is_input e.direction)
    (record e { written = replicate (length e.written) false }) e) ≡ inputs_entry c wires i e =
    at (is_input e.direction) refl in
    let rest : over (port_entry c wires) (suc i) (opened xs)
    ≡ over (inputs_entry c wires) (suc i) xs =
    opened_over c (suc i) wires xs in
    omega arith
  where
    at : (b : Bool) → is_input e.direction ≡ b
        → port_entry c wires i (cond b
        (record e { written = replicate (length e.written) false }) e)
        ≡ cond b (whole c (wire_cell wires i) 0 e.written) 0
    at true input =
        ap (λ (b : Bool). cond b (unwritten c (wire_cell wires i) 0
        (replicate (length e.written) false)) 0) input
        ∙ opened_entry c 0 (wire_cell wires i) e.written
    at false input =
        ap (λ (b : Bool). cond b (unwritten c (wire_cell wires i) 0 e.written) 0) input

parts_more : (c : ℕ) (ps : List Part) (rs : List RunPart) (bs : List (List Step)) (p : Part)
    (r : RunPart) (b : List Step) → length ps ≡ length rs → length rs ≡ length bs
    → parts_weight c (ps ++ p ∷ []) (rs ++ r ∷ []) (bs ++ b ∷ [])
    ≡ parts_weight c ps rs bs + part_weight c p r b
parts_more c [] [] [] p r b h g = omega arith
parts_more c [] [] (z ∷ bs) p r b h g = cc
parts_more c [] (y ∷ rs) bs p r b h g = cc
parts_more c (x ∷ ps) [] bs p r b h g = cc
parts_more c (x ∷ ps) (y ∷ rs) [] p r b h g = cc
parts_more c (x ∷ ps) (y ∷ rs) (z ∷ bs) p r b h g =
    let rest : parts_weight c (ps ++ p ∷ []) (rs ++ r ∷ []) (bs ++ b ∷ [])
    ≡ parts_weight c ps rs bs + part_weight c p r b =
    parts_more c ps rs bs p r b
    (let same : suc (length ps) ≡ suc (length rs) = h in omega arith)
    (let same : suc (length rs) ≡ suc (length bs) = g in omega arith) in
    omega arith

pub created_steps : (q : Emitting) (w : Where) (d : Creation) (place : ℕ)
    (a : Signals × World) (o : Cast) (x : Emission)
    → length d.state.frame.parts ≡ length x.bodies
    → (cast_made q w d place a o x).steps ≡ cond (is_fed (opened a.0)) o.steps []
created_steps q w d place a o x same =
    append-nil (freed_at (Some (length x.bodies)) false y)
    ∙ ap (λ p. freed (length x.bodies) false p y) its_part
    ∙ ap (λ b. cond (is_fed (opened a.0)) (steps_in b) []) (get_last x.bodies o.steps)
  where
    y : Emission
    y = (cast_made q w d place a o x).state

    part : Part
    part = record { spot = w.spot; template = d.template; signals = opened a.0 }

    its_part : slice_get (d.state.frame.parts ++ part ∷ []) (length x.bodies) ≡ Some part
    its_part =
        ap (λ (n : ℕ). slice_get (d.state.frame.parts ++ part ∷ []) n) (sym same)
        ∙ get_last d.state.frame.parts part

pub creating_accounts : (q : Emitting) (w : Where) (c : Creation) (place : ℕ)
    (a : Signals × World) (o : Cast) (x : Emission) → Still (known_in x) c.state
    → Counted x.next a o → Accounts x (cast_made q w c place a o x)
creating_accounts q w d place a o x still counted h = (
  record {
    parts = ap length parts ∙ one_longer (known_in x).frame.parts part
        ∙ ap (λ (n : ℕ). suc n) h.parts ∙ sym (one_longer x.cells.parts run);
    bodies = one_longer x.cells.parts run ∙ ap (λ (n : ℕ). suc n) h.bodies
        ∙ sym (one_longer x.bodies o.steps);
    inputs = subst AreGiven (sym still.0) h.inputs;
    blank = λ n k free. h.blank n k (ap (λ xs. entry_at xs n) (sym still.0) ∙ free);
  },
  sum,
)
  where
    y : Emission
    y = (cast_made q w d place a o x).state

    part : Part
    part = record { spot = w.spot; template = d.template; signals = opened a.0 }

    run : RunPart
    run = record (waiting q.context w d) { ports = o.own; inside = o.inside }

    parts : d.state.frame.parts ++ part ∷ [] ≡ (known_in x).frame.parts ++ part ∷ []
    parts = ap (λ (ps : List Part). ps ++ part ∷ []) still.1

    steps : freed_at (Some (length x.bodies)) false y ++ []
        ≡ cond (is_fed (opened a.0)) o.steps []
    steps = created_steps q w d place a o x (ap length still.1 ∙ h.parts ∙ h.bodies)

    sum : (c : ℕ) → writes c (freed_at (Some (length x.bodies)) false y ++ []) + weight c y
        ≡ weight c x
    sum c =
        let whole : weight c y ≡ weight_of c x.cells.own (known_in x).frame.signals
        ((known_in x).frame.parts ++ part ∷ []) (x.cells.parts ++ run ∷ [])
        (x.bodies ++ o.steps ∷ [])
        o.next =
        (λ i. weight_of c x.cells.own (still.0 i) (parts i) (x.cells.parts ++ run ∷ [])
        (x.bodies ++ o.steps ∷ []) o.next) in
        let more : parts_weight c ((known_in x).frame.parts ++ part ∷ [])
        (x.cells.parts ++ run ∷ [])
        (x.bodies ++ o.steps ∷ [])
        ≡ parts_weight c (known_in x).frame.parts x.cells.parts x.bodies
        + part_weight c part run o.steps =
        parts_more c (known_in x).frame.parts x.cells.parts x.bodies part run o.steps h.parts
        h.bodies in
        let ports : over (port_entry c o.own) 0 (opened a.0) ≡ over (inputs_entry c o.own) 0 a.0 =
        opened_over c 0 o.own a.0 in
        let out : writes c (freed_at (Some (length x.bodies)) false y ++ [])
        ≡ writes c (cond (is_fed (opened a.0)) o.steps []) = ap (λ ss. writes c ss) steps in
        let waits : writes c (cond (is_fed (opened a.0)) o.steps [])
        + cond (is_fed (opened a.0)) 0 (writes c o.steps) ≡ writes c o.steps =
        freed_weight c false (is_fed (opened a.0)) o.steps (λ no. cc) in
        let given : writes c o.steps + (over (inputs_entry c o.own) 0 a.0 + past o.next c)
        ≡ past x.next c = counted c in
        omega arith

-- the end of a body: all that isn't an input is written, and all components are fed
ended_over : (c i : ℕ) (wires : Wires) (k : Context) (xs : Signals) → AreGiven xs
    → all_written k xs ≡ Ok tt
    → over (own_entry c wires) i xs ≡ over (inputs_entry c wires) i xs
ended_over c i wires k [] given h = refl
ended_over c i wires k (None ∷ xs) given h =
    ended_over c (suc i) wires k xs (λ n e there input. given (suc n) e there input) h
ended_over c i wires k (Some e ∷ xs) given h =
    at (is_input e.direction || is_all_written e) refl h (λ rest.
    ended_over c (suc i) wires k xs (λ n d there input. given (suc n) d there input) rest)
  where
    written : (b : Bool) → is_input e.direction ≡ b → (b || is_all_written e) ≡ true
        → is_all_written e ≡ true
    written true input either = given 0 e refl input
    written false input either = either

    at : (b : Bool) → (is_input e.direction || is_all_written e) ≡ b
        → cond b (all_written k xs) (refused (place_at k e.spot) NeverWritten) ≡ Ok tt
        → (all_written k xs ≡ Ok tt
        → over (own_entry c wires) (suc i) xs ≡ over (inputs_entry c wires) (suc i) xs)
        → own_entry c wires i e + over (own_entry c wires) (suc i) xs
        ≡ inputs_entry c wires i e + over (inputs_entry c wires) (suc i) xs
    at true is rest go =
        let all : is_all_written e ≡ true = written (is_input e.direction) refl is in
        let none : unwritten c (wire_cell wires i) 0 e.written ≡ 0 =
        unwritten_none c 0 (wire_cell wires i) e.written all in
        let others : over (own_entry c wires) (suc i) xs ≡ over (inputs_entry c wires) (suc i) xs =
        go rest in
        omega arith
    at false is rest go = cc

fed_over : (c i : ℕ) (wires : Wires) (xs : Signals) → is_fed xs ≡ true
    → over (port_entry c wires) i xs ≡ 0
fed_over c i wires [] h = refl
fed_over c i wires (None ∷ xs) h = fed_over c (suc i) wires xs h
fed_over c i wires (Some e ∷ xs) h =
    let both : (cond (is_input e.direction) (is_all_written e) true ≡ true) × (is_fed xs ≡ true) =
    and_true (cond (is_input e.direction) (is_all_written e) true) (is_fed xs) h in
    let first : port_entry c wires i e ≡ 0 = at (is_input e.direction) both.0 in
    let rest : over (port_entry c wires) (suc i) xs ≡ 0 = fed_over c (suc i) wires xs both.1 in
    omega arith
  where
    at : (b : Bool) → cond b (is_all_written e) true ≡ true
        → cond b (unwritten c (wire_cell wires i) 0 e.written) 0 ≡ 0
    at true all = unwritten_none c 0 (wire_cell wires i) e.written all
    at false all = refl

fed_parts : (c : ℕ) (k : Context) (ps : List Part) (rs : List RunPart) (bs : List (List Step))
    → all_fed k ps ≡ Ok tt → parts_weight c ps rs bs ≡ 0
fed_parts c k [] rs bs h = refl
fed_parts c k (p ∷ ps) [] bs h = refl
fed_parts c k (p ∷ ps) (r ∷ rs) [] h = refl
fed_parts c k (p ∷ ps) (r ∷ rs) (b ∷ bs) h =
    at (is_fed p.signals) refl h (λ rest. fed_parts c k ps rs bs rest)
  where
    at : (f : Bool) → is_fed p.signals ≡ f
        → cond f (all_fed k ps) (refused (place_at k p.spot) InputsMissing) ≡ Ok tt
        → (all_fed k ps ≡ Ok tt → parts_weight c ps rs bs ≡ 0)
        → over (port_entry c r.ports) 0 p.signals + cond (is_fed p.signals) 0 (writes c b)
        + parts_weight c ps rs bs ≡ 0
    at true is rest go =
        let none : over (port_entry c r.ports) 0 p.signals ≡ 0 =
        fed_over c 0 r.ports p.signals is in
        let ran : cond (is_fed p.signals) 0 (writes c b) ≡ 0 =
        ap (λ (f : Bool). cond f 0 (writes c b)) is in
        let others : parts_weight c ps rs bs ≡ 0 = go rest in
        omega arith
    at false is rest go = cc

blank_over : (f : ℕ → SignalEntry → ℕ) (i count : ℕ) → over f i (replicate count None) ≡ 0
blank_over f i zero = refl
blank_over f i (suc count) = blank_over f (suc i) count

pub ends_accounts : (k : Context) (t : Template) (ds : List Datum) (path : List ℕ)
    (world : World) (start : ℕ) (y : Emitted) (z : Signals × World)
    → Accounts (emit_begun t ds path world start) y → ended k (known_in y.state) ≡ Ok z
    → Counted start z record {
      own = y.state.cells.own;
      inside = port_tables (known_in y.state).frame.parts y.state.cells.parts;
      steps = y.steps;
      next = y.state.next;
    }
ends_accounts k t ds path world start y z accounts e c =
    at (all_written k (known_in y.state).frame.signals)
    (all_fed k (known_in y.state).frame.parts) refl refl e
  where
    laid : Laid (emit_begun t ds path world start)
    laid = record {
      parts = refl;
      bodies = refl;
      inputs = λ n e there input.
          let no : Some e ≡ None = sym there ∙ blank_at t.signals n in cc;
      blank = λ n k free. refl;
    }

    begun : weight c (emit_begun t ds path world start) ≡ past start c
    begun =
        let none : over (own_entry c (λ n k. None)) 0 (replicate t.signals None) ≡ 0 =
        blank_over (own_entry c (λ n k. None)) 0 t.signals in
        omega arith

    at : (m : Tried (Unit {0})) (r : Tried (Unit {0}))
        → all_written k (known_in y.state).frame.signals ≡ m
        → all_fed k (known_in y.state).frame.parts ≡ r
        → next m (λ u. next r
        (λ v. Ok ((known_in y.state).frame.signals, (known_in y.state).world)))
        ≡ Ok z
        → writes c y.steps + (over (inputs_entry c y.state.cells.own) 0 z.0 + past y.state.next c)
        ≡ past start c
    at (Ok u) (Ok v) written fed out =
        let is_z : (known_in y.state).frame.signals ≡ z.0 = cc in
        let same : over (inputs_entry c y.state.cells.own) 0 (known_in y.state).frame.signals
        ≡ over (inputs_entry c y.state.cells.own) 0 z.0 =
        ap (λ xs. over (inputs_entry c y.state.cells.own) 0 xs) is_z in
        let own : over (own_entry c y.state.cells.own) 0 (known_in y.state).frame.signals
        ≡ over (inputs_entry c y.state.cells.own) 0 (known_in y.state).frame.signals =
        ended_over c 0 y.state.cells.own k (known_in y.state).frame.signals
        (accounts laid).0.inputs written in
        let parts : parts_weight c (known_in y.state).frame.parts y.state.cells.parts y.state.bodies
        ≡ 0 = fed_parts c k (known_in y.state).frame.parts y.state.cells.parts y.state.bodies fed in
        let sum : writes c y.steps + weight c y.state
        ≡ weight c (emit_begun t ds path world start) = (accounts laid).1 c in
        let from : weight c (emit_begun t ds path world start) ≡ past start c = begun in
        omega arith
    at (Ok u) (Err f) written fed out = cc
    at (Err f) r written fed out = cc

pub accounts : (size : ℕ) → Bodies size Accounts (λ start world. Counted start)
accounts size = record {
  keeps = accounts_keep;
  fresh = fresh_accounts;
  declared = λ k sized spot direction n name dims x clear.
      declared_accounts k spot direction n name dims x (clear n (omega arith));
  wiring = λ q calls. wiring_accounts q calls.keeps;
  creating = λ q w c place a o x moves given.
      creating_accounts q w c place a o x moves.0 given;
  ends = λ k t ds path world start y z h sized empty is.
      ends_accounts k t ds path world start y z h is;
}
