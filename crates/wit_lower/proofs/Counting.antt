-- Code whose jumps pass no Write writes as many numbers as it has Writes, where it doesn't stop.
use Rattle.std.proofs.Common.{◌≡◌, ℕ, zero, suc, ◌+◌, ◌-◌, Bool, true, false, cond, not, List, []}
use Rattle.std.proofs.Common.{◌∷◌, length, Option, Some, None, refl, sym, ap, subst, ◌∙◌, arith}
use Rattle.std.proofs.Common.{length-append}
use Rattle.std.specs.Prelude.{slice_get, slice_index, unwrap_or, nat_lt, ◌==◌}
use Rattle.gold_field.specs.Operators.{binary_of}
use Rattle.wit_code.specs.declared.code.Op.{Op}
use Rattle.wit_code.specs.declared.code.Op.TheVariants as op
use Rattle.wit_code.specs.declared.code.Proc.{Proc}
use Rattle.wit_code.specs.declared.code.Stop.{Stop}
use Rattle.wit_code.specs.declared.code.Stop.TheVariants.{ConstraintFails, AssertFails, IndexOut}
use Rattle.wit_code.specs.declared.code.Stop.TheVariants.{FuelSpent, TooDeep}
use Rattle.wit_code.specs.declared.frames.Running.{Running}
use Rattle.wit_code.specs.declared.frames.Running.TheVariants.{Own, Called}
use Rattle.wit_code.specs.Code.{IsWellFormed}
use Rattle.wit_code.specs.Frames.{Open}
use Rattle.wit_code.specs.Table.{State, Wrote, Stopped, Next, Goes, Over, RunsTo, act, step, exec}
use Rattle.wit_code.specs.Table.{next_of, start_of, unless, put_result, in_frame, proc_at, no_code}
use Rattle.wit_code.specs.Table.{go_on, jump_to, call, frame_of}
use Rattle.wit_lower.specs.Pieces.{Code}

abbrev pub writes_in : Op → ℕ
writes_in (op.Write s) = 1
writes_in _ = 0

-- how many Writes stand before a place
abbrev pub before : Code → (place : ℕ) → ℕ
before [] p = 0
before (o ∷ os) zero = 0
before (o ∷ os) (suc p) = writes_in o + before os p

abbrev pub all_writes : Code → ℕ
all_writes body = before body (length body)

pub before_none : (body : Code) → before body 0 ≡ 0
before_none [] = refl
before_none (o ∷ os) = refl

pub before_next : (body : Code) (p : ℕ) (o : Op) → slice_get body p ≡ Some o
    → before body (p + 1) ≡ before body p + writes_in o
before_next [] p o e = cc
before_next (x ∷ xs) zero o e =
    let same : x ≡ o = cc in
    let z : writes_in x + before xs 0 ≡ 0 + writes_in x = omega (arith, before_none xs) in
    z ∙ ap (λ i. 0 + writes_in i) same
before_next (x ∷ xs) (suc p) o e =
    let on : suc p + 1 ≡ suc (p + 1) = omega arith in
    let rest : before xs (p + 1) ≡ before xs p + writes_in o = before_next xs p o e in
    let sum : writes_in x + before xs (p + 1) ≡ writes_in x + before xs p + writes_in o =
    omega (arith, rest) in
    ap (before (x ∷ xs)) on ∙ sum

before_past : (body : Code) (p : ℕ) → slice_get body p ≡ None → before body p ≡ all_writes body
before_past [] p e = refl
before_past (x ∷ xs) zero e = cc
before_past (x ∷ xs) (suc p) e = ap (λ n. writes_in x + n) (before_past xs p e)

-- a jump passes no Write
abbrev pub Level : (body : Code) → (place : ℕ) → Op → Type 0
Level body place (op.Jump to) = before body to ≡ before body place
Level body place (op.JumpZero s to) = before body to ≡ before body place
Level body place _ = Unit {0}

abbrev pub IsLevel : Code → Type 0
IsLevel body = (place : ℕ) (o : Op) → slice_get body place ≡ Some o → Level body place o

module _ (procs : List Proc) (reads : ℕ) (own : Proc) (formed : IsWellFormed procs reads own)
    (level : IsLevel own.body) (numbers : List ℕ) where
  -- so much was written; the outermost of the calls that wait tells at which place
  abbrev Counted : Running → List Open → (count place : ℕ) → Type 0
  Counted Own [] n p = n ≡ before own.body p
  Counted Own (o ∷ os) n p = ⊥
  Counted (Called f) [] n p = ⊥
  Counted (Called f) (o ∷ os) n p = Counted o.resume.running os n o.resume.place

  abbrev Counts : State → Type 0
  Counts s = Counted s.running s.frames.open_calls (length s.written) s.place

  abbrev CountsNext : Next → Type 0
  CountsNext (Goes s) = Counts s
  CountsNext (Over (Wrote values)) = length values ≡ all_writes own.body
  CountsNext (Over (Stopped stop)) = Unit {0}

  if_test : (stop : Stop) (b : Bool) (next : Next) → CountsNext next
      → CountsNext (unless stop b next)
  if_test stop true next h = h
  if_test stop false next h = tt

  if_called : (callee : Proc) (g first d u : ℕ) (s : State)
      → Counted s.running s.frames.open_calls (length s.written) (s.place + 1)
      → CountsNext (call callee g first d s u)
  if_called callee g first d u s h =
      if_test TooDeep (nat_lt (length s.frames.open_calls) 256) (Goes record {
        running = Called g;
        place = 0;
        frames = record {
          slots = frame_of callee s.frames.slots first;
          open_calls =
              record {
                resume = record { running = s.running; place = s.place + 1; answer = d };
                slots = s.frames.slots;
              } ∷ s.frames.open_calls;
        };
        units = u;
        written = s.written;
      }) h

  -- in the step's own code
  module _ (p u : ℕ) (f written : List ℕ) (count : length written ≡ before own.body p) where
    abbrev here : State
    here = record {
      running = Own;
      place = p;
      frames = record { slots = f; open_calls = [] };
      units = u;
      written = written;
    }

    on : (o : Op) → slice_get own.body p ≡ Some o → writes_in o ≡ 0
        → length written ≡ before own.body (p + 1)
    on o e quiet = omega (arith, count, before_next own.body p o e, quiet)

    result : (r : Option ℕ) (d : ℕ) → length written ≡ before own.body (p + 1)
        → CountsNext (put_result d r here)
    result None d h = tt
    result (Some v) d h = h

    jumped : (b : Bool) (to : ℕ) → length written ≡ before own.body to
        → length written ≡ before own.body (p + 1)
        → CountsNext (cond b (jump_to to here) (go_on here))
    jumped true to a h = a
    jumped false to a h = h

    own_counts : (o : Option Op) → slice_get own.body p ≡ o
        → CountsNext (act procs numbers o here)
    own_counts None e = count ∙ before_past own.body p e
    own_counts (Some (op.Const d v)) e = on (op.Const d v) e refl
    own_counts (Some (op.Move d s)) e = on (op.Move d s) e refl
    own_counts (Some (op.Read d i)) e = on (op.Read d i) e refl
    own_counts (Some (op.Un o d a)) e = on (op.Un o d a) e refl
    own_counts (Some (op.Bin o d a b)) e =
        result (binary_of o (slice_index f a) (slice_index f b)) d (on (op.Bin o d a b) e refl)
    own_counts (Some (op.Bound s n)) e =
        if_test IndexOut (nat_lt (slice_index f s) n) (go_on here) (on (op.Bound s n) e refl)
    own_counts (Some (op.Load d base s)) e =
        if_test IndexOut (in_frame here (base + slice_index f s)) _ (on (op.Load d base s) e refl)
    own_counts (Some (op.Store base s a)) e =
        if_test IndexOut (in_frame here (base + slice_index f s)) _
        (on (op.Store base s a) e refl)
    own_counts (Some (op.Jump to)) e = count ∙ sym (level p (op.Jump to) e)
    own_counts (Some (op.JumpZero s to)) e =
        jumped (slice_index f s == 0) to (count ∙ sym (level p (op.JumpZero s to) e))
        (on (op.JumpZero s to) e refl)
    own_counts (Some op.Turn) e =
        if_test FuelSpent (nat_lt 0 u) _ (on op.Turn e refl)
    own_counts (Some (op.Call g first d)) e =
        if_test FuelSpent (nat_lt 0 u) (call (proc_at procs g) g first d here (u - 1))
        (if_called (proc_at procs g) g first d (u - 1) here (on (op.Call g first d) e refl))
    own_counts (Some (op.Return s)) e = absurd (formed.own.each p (op.Return s) e).names.1
    own_counts (Some (op.Check a b)) e =
        if_test ConstraintFails (slice_index f a == slice_index f b) (go_on here)
        (on (op.Check a b) e refl)
    own_counts (Some (op.Assert s)) e =
        if_test AssertFails (not (slice_index f s == 0)) (go_on here) (on (op.Assert s) e refl)
    own_counts (Some (op.Write s)) e = omega (
      arith,
      count,
      before_next own.body p (op.Write s) e,
      length-append written (slice_index f s ∷ []),
    )

  -- in a procedure nothing is written
  module _ (g p u : ℕ) (f written : List ℕ) (o : Open) (os : List Open)
      (count : Counted o.resume.running os (length written) o.resume.place) where
    abbrev there : State
    there = record {
      running = Called g;
      place = p;
      frames = record { slots = f; open_calls = o ∷ os };
      units = u;
      written = written;
    }

    proc_result : (r : Option ℕ) (d : ℕ) → CountsNext (put_result d r there)
    proc_result None d = tt
    proc_result (Some v) d = count

    proc_jumped : (b : Bool) (to : ℕ) → CountsNext (cond b (jump_to to there) (go_on there))
    proc_jumped true to = count
    proc_jumped false to = count

    no_write : (c : Option Proc) → slice_get procs g ≡ c → (s : ℕ)
        → slice_get (unwrap_or c no_code).body p ≡ Some (op.Write s) → ⊥
    no_write None ec s e = cc
    no_write (Some callee) ec s e = ((formed.called g callee ec).each p (op.Write s) e).names.1

    proc_counts : (i : Option Op) → slice_get (proc_at procs g).body p ≡ i
        → CountsNext (act procs numbers i there)
    proc_counts None e = count
    proc_counts (Some (op.Const d v)) e = count
    proc_counts (Some (op.Move d s)) e = count
    proc_counts (Some (op.Read d i)) e = count
    proc_counts (Some (op.Un i d a)) e = count
    proc_counts (Some (op.Bin i d a b)) e =
        proc_result (binary_of i (slice_index f a) (slice_index f b)) d
    proc_counts (Some (op.Bound s n)) e =
        if_test IndexOut (nat_lt (slice_index f s) n) (go_on there) count
    proc_counts (Some (op.Load d base s)) e =
        if_test IndexOut (in_frame there (base + slice_index f s)) _ count
    proc_counts (Some (op.Store base s a)) e =
        if_test IndexOut (in_frame there (base + slice_index f s)) _ count
    proc_counts (Some (op.Jump to)) e = count
    proc_counts (Some (op.JumpZero s to)) e = proc_jumped (slice_index f s == 0) to
    proc_counts (Some op.Turn) e = if_test FuelSpent (nat_lt 0 u) _ count
    proc_counts (Some (op.Call h first d)) e =
        if_test FuelSpent (nat_lt 0 u) (call (proc_at procs h) h first d there (u - 1))
        (if_called (proc_at procs h) h first d (u - 1) there count)
    proc_counts (Some (op.Return s)) e = count
    proc_counts (Some (op.Check a b)) e =
        if_test ConstraintFails (slice_index f a == slice_index f b) (go_on there) count
    proc_counts (Some (op.Assert s)) e =
        if_test AssertFails (not (slice_index f s == 0)) (go_on there) count
    proc_counts (Some (op.Write s)) e = absurd (no_write (slice_get procs g) refl s e)

  step_counts : (running : Running) (others : List Open) (p u : ℕ) (f written : List ℕ)
      → Counted running others (length written) p
      → CountsNext (step procs own numbers record {
        running = running;
        place = p;
        frames = record { slots = f; open_calls = others };
        units = u;
        written = written;
      })
  step_counts Own [] p u f written h = own_counts p u f written h (slice_get own.body p) refl
  step_counts Own (o ∷ os) p u f written h = absurd h
  step_counts (Called g) [] p u f written h = absurd h
  step_counts (Called g) (o ∷ os) p u f written h =
      proc_counts g p u f written o os h (slice_get (proc_at procs g).body p) refl

  exec_counts : (n : ℕ) (s : State) (values : List ℕ) → Counts s
      → exec procs own numbers n s ≡ Over (Wrote values)
      → length values ≡ all_writes own.body
  exec_counts zero s values h e = cc
  exec_counts (suc n) s values h e =
      at (step procs own numbers s) (λ t c. exec_counts n t values c)
      (step_counts s.running s.frames.open_calls s.place s.units s.frames.slots s.written h) e
    where
      at : (x : Next) → ((t : State) → Counts t → exec procs own numbers n t ≡ Over (Wrote values)
          → length values ≡ all_writes own.body) → CountsNext x
          → next_of x (exec procs own numbers n) ≡ Over (Wrote values)
          → length values ≡ all_writes own.body
      at (Goes t) go c e = go t c e
      at (Over (Wrote ws)) go c e =
          let same : ws ≡ values = cc in subst (λ z. length z ≡ all_writes own.body) same c
      at (Over (Stopped stop)) go c e = cc

  pub writes_all : (fuel : ℕ) (values : List ℕ) → RunsTo procs own numbers fuel (Wrote values)
      → length values ≡ all_writes own.body
  writes_all fuel values (n, e) =
      exec_counts n (start_of own fuel) values (sym (before_none own.body)) e
