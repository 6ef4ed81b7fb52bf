-- What well-formed code writes are numbers of the field, where those that it reads are.
use Rattle.std.proofs.Common.{◌≡◌, ℕ, zero, suc, ◌+◌, ◌-◌, ◌<◌, Bool, true, false, cond, List, []}
use Rattle.std.proofs.Common.{◌∷◌, ◌++◌, length, All, replicate, Option, Some, None, refl, subst}
use Rattle.std.proofs.Common.{arith, drop}
use Rattle.std.specs.Prelude.{slice_get, slice_index, slice_range, unwrap_or, ◌==◌, nat_lt, not}
use Rattle.std.proofs.lemmas.List.Elements.{All-head, All-tail, All-nil, All-cons, All-append}
use Rattle.std.proofs.lemmas.List.Elements.{All-take, All-drop, All-replicate, All-set}
use Rattle.gold_field.specs.declared.gold.TheConstants.{P}
use Rattle.gold_field.specs.Operators.{binary_of, unary_of}
use Rattle.gold_field.proofs.Answers.{binary_below, unary_below}
use Rattle.wit_code.specs.declared.code.Op.{Op}
use Rattle.wit_code.specs.declared.code.Op.TheVariants.{Const, Move, Read, Un, Bin, Bound, Load}
use Rattle.wit_code.specs.declared.code.Op.TheVariants.{Store, Jump, JumpZero, Turn, Call, Return}
use Rattle.wit_code.specs.declared.code.Op.TheVariants.{Check, Assert, Write}
use Rattle.wit_code.specs.declared.code.Proc.{Proc}
use Rattle.wit_code.specs.declared.code.Stands.{Stands}
use Rattle.wit_code.specs.declared.code.Stands.TheVariants.{InStep, InProc}
use Rattle.wit_code.specs.declared.code.Stop.{Stop}
use Rattle.wit_code.specs.declared.code.Stop.TheVariants.{ConstraintFails, AssertFails, IndexOut}
use Rattle.wit_code.specs.declared.code.Stop.TheVariants.{FuelSpent, TooDeep}
use Rattle.wit_code.specs.declared.frames.Running.{Running}
use Rattle.wit_code.specs.declared.frames.Running.TheVariants.{Own, Called}
use Rattle.wit_code.specs.Code.{IsWellFormed, Names}
use Rattle.wit_code.specs.Frames.{Open}
use Rattle.wit_code.specs.Table.{State, Wrote, Stopped, Next, Goes, Over, RunsTo, act, answer, call}
use Rattle.wit_code.specs.Table.{code_of, exec, frame_of, go_on, in_frame, jump_to, next_of}
use Rattle.wit_code.specs.Table.{no_code, proc_at, put, put_result, slot_of, start_of, step, unless}

abbrev AreNumbers : List ℕ → Type 0
AreNumbers xs = All (λ v. v < P) xs

abbrev AreOpen : List Open → Type 0
AreOpen [] = Unit {0}
AreOpen (o ∷ os) = AreNumbers o.slots × AreOpen os

-- all numbers of the state are of the field
record HasNumbers (s : State) : Type 0 where
  slots : AreNumbers s.frames.slots
  open_calls : AreOpen s.frames.open_calls
  written : AreNumbers s.written

abbrev Gives : Next → Type 0
Gives (Goes t) = HasNumbers t
Gives (Over (Wrote values)) = AreNumbers values
Gives (Over (Stopped stop)) = Unit {0}

abbrev HasConstant : Option Op → Type 0
HasConstant (Some (Const d v)) = v < P
HasConstant _ = Unit {0}

index_below : (xs : List ℕ) (i : ℕ) → AreNumbers xs → slice_index xs i < P
index_below [] i all = omega arith
index_below (x ∷ xs) zero all = All-head (λ v. v < P) x xs all
index_below (x ∷ xs) (suc i) all = index_below xs i (All-tail (λ v. v < P) x xs all)

unless_gives : (stop : Stop) (b : Bool) (n : Next) → Gives n → Gives (unless stop b n)
unless_gives stop true n g = g
unless_gives stop false n g = tt

either_gives : (b : Bool) (n m : Next) → Gives n → Gives m → Gives (cond b n m)
either_gives true n m g h = g
either_gives false n m g h = h

slot_below : (s : State) (i : ℕ) → HasNumbers s → slot_of s i < P
slot_below s i h = index_below s.frames.slots i h.slots

put_gives : (d v : ℕ) (s : State) → HasNumbers s → v < P → Gives (put d v s)
put_gives d v s h small = record {
  slots = All-set (λ v. v < P) s.frames.slots d v small h.slots;
  open_calls = h.open_calls;
  written = h.written;
}

put_result_gives : (d : ℕ) (o : Option ℕ) (s : State) → HasNumbers s
    → ((v : ℕ) → o ≡ Some v → v < P) → Gives (put_result d o s)
put_result_gives d None s h small = tt
put_result_gives d (Some v) s h small = put_gives d v s h (small v refl)

go_gives : (s : State) (running : Running) (place units : ℕ) → HasNumbers s
    → Gives (Goes
    (record {
      running = running;
      place = place;
      frames = s.frames;
      units = units;
      written = s.written;
    }))
go_gives s running place units h =
    record { slots = h.slots; open_calls = h.open_calls; written = h.written }

answer_gives : (v : ℕ) (s : State) (os : List Open) → HasNumbers s → AreOpen os → v < P
    → Gives (answer v s os)
answer_gives v s [] h all small = h.written
answer_gives v s (o ∷ os) h all small = record {
  slots = All-set (λ v. v < P) o.slots o.resume.answer v small all.0;
  open_calls = all.1;
  written = h.written;
}

leave_gives : (v : ℕ) (s : State) → HasNumbers s → v < P → Gives (answer v s s.frames.open_calls)
leave_gives v s h small = answer_gives v s s.frames.open_calls h h.open_calls small

frame_numbers : (callee : Proc) (slots : List ℕ) (first : ℕ) → AreNumbers slots
    → AreNumbers (frame_of callee slots first)
frame_numbers callee slots first all =
    let Q : ℕ → Type 0 = λ v. v < P in
    All-append Q (slice_range slots first (first + callee.params))
    (replicate (callee.slots - callee.params) 0)
    (All-take Q (first + callee.params - first) (drop first slots) (All-drop Q first slots all))
    (All-replicate Q (callee.slots - callee.params) 0 (omega arith))

written_more : (s : State) (v : ℕ) → HasNumbers s → v < P → AreNumbers (s.written ++ v ∷ [])
written_more s v h small =
    let Q : ℕ → Type 0 = λ n. n < P in
    All-append Q s.written (v ∷ []) h.written (All-cons Q v [] small (All-nil Q))

enter_gives : (s : State) (f units : ℕ) (slots : List ℕ) (os : List Open) → HasNumbers s
    → AreNumbers slots → AreOpen os
    → Gives (Goes
    (record {
      running = Called f;
      place = 0;
      frames = record { slots = slots; open_calls = os };
      units = units;
      written = s.written;
    }))
enter_gives s f units slots os h all open_all =
    record { slots = all; open_calls = open_all; written = h.written }

call_gives : (callee : Proc) (f first d : ℕ) (s : State) (units : ℕ) → HasNumbers s
    → Gives (call callee f first d s units)
call_gives callee f first d s units h =
    let waits : Open =
    record {
      resume = record { running = s.running; place = s.place + 1; answer = d };
      slots = s.frames.slots;
    } in
    let slots = frame_of callee s.frames.slots first in
    let open_calls = waits ∷ s.frames.open_calls in
    let entered : State =
    record {
      running = Called f;
      place = 0;
      frames = record { slots = slots; open_calls = open_calls };
      units = units;
      written = s.written;
    } in
    let all = frame_numbers callee s.frames.slots first h.slots in
    unless_gives TooDeep (nat_lt (length s.frames.open_calls) 256) (Goes entered)
    (enter_gives s f units slots open_calls h all (h.slots, h.open_calls))

module _ (procs : List Proc) (own : Proc) (reads : List ℕ) (numbers : AreNumbers reads) where
  act_gives : (o : Option Op) (s : State) → HasNumbers s → HasConstant o
      → Gives (act procs reads o s)
  act_gives None s h k = leave_gives 0 s h (omega arith)
  act_gives (Some (Const d v)) s h k = put_gives d v s h k
  act_gives (Some (Move d a)) s h k = put_gives d (slot_of s a) s h (slot_below s a h)
  act_gives (Some (Read d i)) s h k =
      put_gives d (slice_index reads i) s h (index_below reads i numbers)
  act_gives (Some (Un op d a)) s h k =
      put_gives d (unary_of op (slot_of s a)) s h (unary_below op (slot_of s a))
  act_gives (Some (Bin op d a b)) s h k =
      put_result_gives d (binary_of op (slot_of s a) (slot_of s b)) s h
      (λ v. binary_below op (slot_of s a) (slot_of s b) v (slot_below s a h))
  act_gives (Some (Bound a n)) s h k =
      unless_gives IndexOut (nat_lt (slot_of s a) n) (go_on s)
      (go_gives s s.running (s.place + 1) s.units h)
  act_gives (Some (Load d base a)) s h k =
      let at = base + slot_of s a in
      unless_gives IndexOut (in_frame s at) (put d (slot_of s at) s)
      (put_gives d (slot_of s at) s h (slot_below s at h))
  act_gives (Some (Store base a b)) s h k =
      let at = base + slot_of s a in
      unless_gives IndexOut (in_frame s at) (put at (slot_of s b) s)
      (put_gives at (slot_of s b) s h (slot_below s b h))
  act_gives (Some (Jump to)) s h k = go_gives s s.running to s.units h
  act_gives (Some (JumpZero a to)) s h k =
      either_gives (slot_of s a == 0) (jump_to to s) (go_on s) (go_gives s s.running to s.units h)
      (go_gives s s.running (s.place + 1) s.units h)
  act_gives (Some Turn) s h k =
      let paid : State =
      record {
        running = s.running;
        place = s.place + 1;
        frames = s.frames;
        units = s.units - 1;
        written = s.written;
      } in
      unless_gives FuelSpent (nat_lt 0 s.units) (Goes paid)
      (go_gives s s.running (s.place + 1) (s.units - 1) h)
  act_gives (Some (Call f first d)) s h k =
      unless_gives FuelSpent (nat_lt 0 s.units) (call (proc_at procs f) f first d s (s.units - 1))
      (call_gives (proc_at procs f) f first d s (s.units - 1) h)
  act_gives (Some (Return a)) s h k = leave_gives (slot_of s a) s h (slot_below s a h)
  act_gives (Some (Check a b)) s h k =
      unless_gives ConstraintFails (slot_of s a == slot_of s b) (go_on s)
      (go_gives s s.running (s.place + 1) s.units h)
  act_gives (Some (Assert a)) s h k =
      unless_gives AssertFails (not (slot_of s a == 0)) (go_on s)
      (go_gives s s.running (s.place + 1) s.units h)
  act_gives (Some (Write a)) s h k = record {
    slots = h.slots;
    open_calls = h.open_calls;
    written = written_more s (slot_of s a) h (slot_below s a h);
  }

  named_constant : (stands : Stands) (slots : ℕ) (op : Op) → Names procs stands slots op
      → HasConstant (Some op)
  named_constant stands slots (Const d v) names = names.1
  named_constant stands slots _ names = tt

  module _ (w : IsWellFormed procs (length reads) own) where
    called_constant : (f place : ℕ) (p : Option Proc) (o : Option Op) → slice_get procs f ≡ p
        → slice_get (unwrap_or p no_code).body place ≡ o → HasConstant o
    called_constant f place p None there at = tt
    called_constant f place None (Some op) there at = cc
    called_constant f place (Some callee) (Some op) there at =
        named_constant InProc callee.slots op ((w.called f callee there).each place op at).names

    constant_at : (running : Running) (place : ℕ) (o : Option Op)
        → slice_get (code_of procs own running).body place ≡ o → HasConstant o
    constant_at running place None at = tt
    constant_at Own place (Some op) at =
        named_constant (InStep (length reads)) own.slots op (w.own.each place op at).names
    constant_at (Called f) place (Some op) at =
        called_constant f place (slice_get procs f) (Some op) refl at

    step_gives : (s : State) → HasNumbers s → Gives (step procs own reads s)
    step_gives s h =
        let o = slice_get (code_of procs own s.running).body s.place in
        act_gives o s h (constant_at s.running s.place o refl)

    next_gives : (n : ℕ) (x : Next)
        → ((t : State) → HasNumbers t → Gives (exec procs own reads n t)) → Gives x
        → Gives (next_of x (exec procs own reads n))
    next_gives n (Goes t) later g = later t g
    next_gives n (Over o) later g = g

    exec_gives : (n : ℕ) (s : State) → HasNumbers s → Gives (exec procs own reads n s)
    exec_gives zero s h = h
    exec_gives (suc n) s h =
        next_gives n (step procs own reads s) (λ t k. exec_gives n t k) (step_gives s h)

    start_numbers : (fuel : ℕ) → HasNumbers (start_of own fuel)
    start_numbers fuel = record {
      slots = All-replicate (λ v. v < P) own.slots 0 (omega arith);
      open_calls = tt;
      written = All-nil (λ v. v < P);
    }

    pub writes_numbers : (fuel : ℕ) (values : List ℕ) → RunsTo procs own reads fuel (Wrote values)
        → AreNumbers values
    writes_numbers fuel values runs =
        subst Gives runs.1 (exec_gives runs.0 (start_of own fuel) (start_numbers fuel))
