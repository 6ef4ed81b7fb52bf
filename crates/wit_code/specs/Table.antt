-- What the machine does: the table of its instructions as one step, and a run as a list of steps.
use Rattle.std.specs.Prelude.{◌≡◌, ℕ, zero, suc, ◌+◌, ◌*◌, ◌-◌, max, Bool, true, false, not, ◌==◌}
use Rattle.std.specs.Prelude.{nat_lt, if◌then◌else◌, List, [], ◌∷◌, ◌++◌, Option, Some, None}
use Rattle.std.specs.Prelude.{unwrap_or, slice_get, slice_index, slice_set, slice_range, replicate}
use Rattle.std.specs.Prelude.{length}
use Rattle.gold_field.specs.Operators.{unary_of, binary_of}
use Rattle.wit_code.specs.declared.code.Op.{Op}
use Rattle.wit_code.specs.declared.code.Op.TheVariants.{Const, Move, Read, Un, Bin, Bound, Load}
use Rattle.wit_code.specs.declared.code.Op.TheVariants.{Store, Jump, JumpZero, Turn, Call, Return}
use Rattle.wit_code.specs.declared.code.Op.TheVariants.{Check, Assert, Write}
use Rattle.wit_code.specs.declared.code.Proc.{Proc}
use Rattle.wit_code.specs.declared.code.Stop.{Stop}
use Rattle.wit_code.specs.declared.code.Stop.TheVariants.{ConstraintFails, AssertFails, ZeroDivisor}
use Rattle.wit_code.specs.declared.code.Stop.TheVariants.{IndexOut, FuelSpent, TooDeep, OutOfMemory}
use Rattle.wit_code.specs.declared.frames.Running.{Running}
use Rattle.wit_code.specs.declared.frames.Running.TheVariants.{Own, Called}
use Rattle.wit_code.specs.Frames.{Open, Frames}

-- the code that runs and its next place, the frames, the units left, and what was written
pub record State : Type 0 where
  pub running : Running
  pub place : ℕ
  pub frames : Frames
  pub units : ℕ
  pub written : List ℕ

-- the numbers of the stops; want of memory is none of them
abbrev pub stop_number : Stop → Option ℕ
stop_number ConstraintFails = Some 1
stop_number AssertFails = Some 2
stop_number ZeroDivisor = Some 3
stop_number IndexOut = Some 4
stop_number FuelSpent = Some 5
stop_number TooDeep = Some 6
stop_number OutOfMemory = None

-- how a run ends
pub data Outcome : Type 0 where
  Wrote : List ℕ → Outcome
  Stopped : Stop → Outcome

-- what an instruction leads to
pub data Next : Type 0 where
  Goes : State → Next
  Over : Outcome → Next

abbrev pub slot_of : State → ℕ → ℕ
slot_of s i = slice_index s.frames.slots i

-- on at a place of the running code
abbrev pub jump_to : ℕ → State → Next
jump_to to s =
    Goes record {
      running = s.running;
      place = to;
      frames = s.frames;
      units = s.units;
      written = s.written;
    }

abbrev pub go_on : State → Next
go_on s = jump_to (s.place + 1) s

-- a number into a slot, and on
abbrev pub put : ℕ → ℕ → State → Next
put d v s =
    Goes record {
      running = s.running;
      place = s.place + 1;
      frames = record { slots = slice_set s.frames.slots d v; open_calls = s.frames.open_calls };
      units = s.units;
      written = s.written;
    }

-- the same with a quotient, which a zero divisor hasn't
abbrev pub put_result : ℕ → Option ℕ → State → Next
put_result d None s = Over (Stopped ZeroDivisor)
put_result d (Some v) s = put d v s

-- what follows where a test holds, else a stop
abbrev pub unless : Stop → Bool → Next → Next
unless stop true next = next
unless stop false next = Over (Stopped stop)

-- a unit is paid, if there is one
abbrev pub pay : State → (ℕ → Next) → Next
pay s go = unless FuelSpent (nat_lt 0 s.units) (go (s.units - 1))

abbrev pub in_frame : State → ℕ → Bool
in_frame s i = nat_lt i (length s.frames.slots)

-- the frame of a call: the parameters, and then zeros
abbrev pub frame_of : Proc → List ℕ → ℕ → List ℕ
frame_of callee slots first =
    slice_range slots first (first + callee.params) ++ replicate (callee.slots - callee.params) 0

abbrev pub turn_of : State → Next
turn_of s =
    pay s (λ units. Goes record {
      running = s.running;
      place = s.place + 1;
      frames = s.frames;
      units = units;
      written = s.written;
    })

-- one more number written, and on
abbrev pub written_with : ℕ → State → Next
written_with v s =
    Goes record {
      running = s.running;
      place = s.place + 1;
      frames = s.frames;
      units = s.units;
      written = s.written ++ v ∷ [];
    }

-- a call of procedure f, if fewer than 256 are open
abbrev pub call : Proc → ℕ → ℕ → ℕ → State → ℕ → Next
call callee f first d s units =
    unless TooDeep (nat_lt (length s.frames.open_calls) 256) (Goes record {
      running = Called f;
      place = 0;
      frames = record {
        slots = frame_of callee s.frames.slots first;
        open_calls =
            record {
              resume = record { running = s.running; place = s.place + 1; answer = d };
              slots = s.frames.slots;
            } ∷ s.frames.open_calls;
      };
      units = units;
      written = s.written;
    })

-- an answer goes to the innermost call that waits; where none does, the run is over
abbrev pub answer : ℕ → State → List Open → Next
answer v s [] = Over (Wrote s.written)
answer v s (o ∷ os) =
    Goes record {
      running = o.resume.running;
      place = o.resume.place;
      frames = record { slots = slice_set o.slots o.resume.answer v; open_calls = os };
      units = s.units;
      written = s.written;
    }

abbrev pub leave : ℕ → State → Next
leave v s = answer v s s.frames.open_calls

-- no code: for a procedure that isn't there, which well-formed code doesn't call
abbrev pub no_code : Proc
no_code = record { params = 0; slots = 0; body = [] }

abbrev pub proc_at : List Proc → ℕ → Proc
proc_at procs f = unwrap_or (slice_get procs f) no_code

-- the table. Where the code has ended, a call answers 0
abbrev pub act : List Proc → List ℕ → Option Op → State → Next
act procs reads None s = leave 0 s
act procs reads (Some (Const d v)) s = put d v s
act procs reads (Some (Move d a)) s = put d (slot_of s a) s
act procs reads (Some (Read d i)) s = put d (slice_index reads i) s
act procs reads (Some (Un op d a)) s = put d (unary_of op (slot_of s a)) s
act procs reads (Some (Bin op d a b)) s = put_result d (binary_of op (slot_of s a) (slot_of s b)) s
act procs reads (Some (Bound a n)) s = unless IndexOut (nat_lt (slot_of s a) n) (go_on s)
act procs reads (Some (Load d base a)) s =
    unless IndexOut (in_frame s (base + slot_of s a)) (put d (slot_of s (base + slot_of s a)) s)
act procs reads (Some (Store base a b)) s =
    unless IndexOut (in_frame s (base + slot_of s a)) (put (base + slot_of s a) (slot_of s b) s)
act procs reads (Some (Jump to)) s = jump_to to s
act procs reads (Some (JumpZero a to)) s = if slot_of s a == 0 then jump_to to s else go_on s
act procs reads (Some Turn) s = turn_of s
act procs reads (Some (Call f first d)) s = pay s (call (proc_at procs f) f first d s)
act procs reads (Some (Return a)) s = leave (slot_of s a) s
act procs reads (Some (Check a b)) s = unless ConstraintFails (slot_of s a == slot_of s b) (go_on s)
act procs reads (Some (Assert a)) s = unless AssertFails (not (slot_of s a == 0)) (go_on s)
act procs reads (Some (Write a)) s = written_with (slot_of s a) s

abbrev pub code_of : List Proc → Proc → Running → Proc
code_of procs own Own = own
code_of procs own (Called f) = proc_at procs f

abbrev pub step : List Proc → Proc → List ℕ → State → Next
step procs own reads s = act procs reads (slice_get (code_of procs own s.running).body s.place) s

abbrev pub next_of : Next → (State → Next) → Next
next_of (Goes s) go = go s
next_of (Over o) go = Over o

-- at most n steps
abbrev pub exec : List Proc → Proc → List ℕ → ℕ → State → Next
exec procs own reads zero s = Goes s
exec procs own reads (suc n) s = next_of (step procs own reads s) (exec procs own reads n)

abbrev pub start_of : Proc → ℕ → State
start_of own fuel =
    record {
      running = Own;
      place = 0;
      frames = record { slots = replicate own.slots 0; open_calls = [] };
      units = fuel;
      written = [];
    }

-- the step's code, run on these reads with so many units, ends so
abbrev pub RunsTo : List Proc → Proc → List ℕ → ℕ → Outcome → Type 0
RunsTo procs own reads fuel outcome =
    (n : ℕ) × (exec procs own reads n (start_of own fuel) ≡ Over outcome)

abbrev pub longest : List Proc → ℕ
longest [] = 0
longest (p ∷ ps) = max (length p.body) (longest ps)

-- more steps than well-formed code takes: with each unit it goes through one code at most once more
abbrev pub most_steps : List Proc → Proc → ℕ → ℕ
most_steps procs own fuel = fuel * (max (length own.body) (longest procs) + 2) + length own.body + 2

abbrev pub outcome_or : Outcome → Next → Outcome
outcome_or d (Goes s) = d
outcome_or d (Over o) = o

-- the one outcome of well-formed code
unfoldable pub outcome_of : List Proc → Proc → List ℕ → ℕ → Outcome
outcome_of procs own reads fuel =
    outcome_or (Stopped FuelSpent)
    (exec procs own reads (most_steps procs own fuel) (start_of own fuel))
