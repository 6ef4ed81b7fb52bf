-- What the lines of a batch come to.
use Rattle.std.proofs.Common.{◌≡◌, ◌∙◌, ℕ, zero, suc, ◌+◌, ◌*◌, ◌<◌}
use Rattle.std.proofs.Common.{◌≤◌, List, [], ◌∷◌, ◌++◌, length}
use Rattle.std.proofs.Common.{append_assoc, Some, Result, Ok, Err, All, Vec, Global, refl, ap}
use Rattle.std.proofs.Common.{arith, sym}
use Rattle.std.proofs.Common.{map, slice_get, subst, inl, inr}
use Rattle.std.specs.Prelude.{IsSomeAnd}
use Rattle.std.specs.List.{AllZip}
use Rattle.std.proofs.lemmas.List.{append-nil, length-map}
use Rattle.std.proofs.lemmas.List.Elements.{All-cons, All-nil, All-tail, All-weaker}
use Rattle.std.proofs.lemmas.Slice.Zip.{AllZip-long, all_zipped_more}
use Rattle.std.proofs.Math.Nat.{mul-le-mul_left, mul-le-mul_right}
use Rattle.text_lines.specs.Lines.{lines_of}
use Rattle.out_io.specs.Contents.{Contents}
use Rattle.iden_files.specs.File.{File}
use Rattle.cir_ast.specs.Program.{Program}
use Rattle.cir_meaning.specs.RunBodies.{ran}
use Rattle.cir_simplify.specs.declared.types.Level.{Level}
use Rattle.cir_steps.specs.Step.{Step}
use Rattle.cir_values.specs.declared.signals.InputShape.{InputShape}
use Rattle.wit_circuit.specs.Made.{AreMadeOf}
use Rattle.cir_steps.specs.RunSteps.{Calling}
use Rattle.wit_code.specs.declared.code.Proc.{Proc}
use Rattle.wit_code.specs.declared.code.Step.{Step as CodeStep}
use Rattle.wit_circuit.specs.Whole.{IsCircuitOf}
use Rattle.wit_circuit.specs.declared.code.CircuitCode.{CircuitCode}
use Rattle.wit_input.specs.Input.{input_of}
use Rattle.wit_run.specs.Batch.{HasTask, IsRunFrom, batch_size, most_batch}
use Rattle.wit_run.specs.Task.{IsTask}
use Rattle.wit_run.specs.declared.ending.RunEnd.{RunEnd}
use Rattle.wit_run.specs.declared.ending.RunEnd.TheVariants as end
use Rattle.circom_words.specs.Words.{Options}
use Rattle.circom_lines.specs.declared.answer.Refusal.{Refusal}
use Rattle.circom_lines.specs.declared.answer.Refusal.TheVariants.{LargeBatch}
use Rattle.out_io.specs.Held.{OfAll}
use Rattle.circom_files.specs.Files.{bytes_in}
use Rattle.circom_files.specs.Running.{accepted_input, input_in}
use Rattle.circom_files.specs.Steps.{Steps, StepsTo}
use Rattle.circom_files.specs.declared.outcome.Ran.{Ran}
use Rattle.circom_files.specs.declared.outcome.Ran.TheVariants.{Ended, Halted}
use Rattle.circom_files.specs.declared.stop.Stop.{Stop}
use Rattle.circom_files.specs.declared.stop.Stop.TheVariants as stops
use Rattle.circom_batch.specs.Inputs.{IsEntry, IsInput}
use Rattle.circom_batch.specs.declared.inputs.Entry.{Entry}
use Rattle.circom_batch.specs.declared.inputs.Entry.TheVariants as entry
use Rattle.circom_batch.specs.declared.item.Item.{Item}
use Rattle.circom_batch.specs.declared.item.Item.TheVariants.{Refused}
use Rattle.circom_gold.specs.Batch.{Batches, Counts, GivesLine, IsItem, batched, item_of}
use Rattle.circom_gold.specs.Batching.{BatchesOn, IsEntryItem, IsWithin, end_item}
use Rattle.circom_gold.specs.Running.{EndsIn, shown_place}
use Rattle.circom_gold.specs.Source.{IsCoded, IsLoadedFrom, program_of}
use Rattle.circom_gold.specs.Witness.{GivesInput, IsRunOf, IsSource, values_by_wire}
use Rattle.circom_gold.specs.declared.source.Coded.{Coded}
use Rattle.circom_gold.proofs.Sourcing.{Compiling, input_is}
use Rattle.circom_gold.proofs.Witnessing.{first, has_inputs, run_of, same_instances, source_of}
use Rattle.circom_gold.proofs.Witnessing.{task}
use Rattle.circom_gold.proofs.Witnessing.{task_of_first}

-- ---- a list that is taken one by one

-- the first ones are done, and each of the others is such
pub record Left {A B : Type 0} (R : A → B → Type 0) (P : A → Type 0) (all left : List A)
    (ys : List B) : Type 0 where
  pub done : List A
  pub whole : all ≡ done ++ left
  pub zipped : AllZip R done ys
  pub still : All P left

module _ {A B : Type 0} (R : A → B → Type 0) (P : A → Type 0) where
  pub left_first : (xs : List A) → All P xs → Left R P xs xs []
  left_first xs all = record { done = []; whole = refl; zipped = tt; still = all }

  pub left_next : (all left : List A) (x : A) (ys : List B) (y : B) → Left R P all (x ∷ left) ys
      → R x y → Left R P all left (ys ++ y ∷ [])
  left_next all left x ys y l here = record {
    done = l.done ++ x ∷ [];
    whole = l.whole ∙ sym (append_assoc l.done (x ∷ []) left);
    zipped = all_zipped_more R l.done ys x y l.zipped here;
    still = All-tail P x left l.still;
  }

  pub left_none : (all left : List A) (ys : List B) → Left R P all left ys → length left ≡ 0
      → AllZip R all ys
  left_none all [] ys l none =
      subst (λ (xs : List A). AllZip R xs ys) (sym (l.whole ∙ append-nil l.done)) l.zipped
  left_none all (x ∷ left) ys l none = absurd (omega (arith, none))

-- ---- how much lines count

as_many : (call : Calling) (procs : List Proc) (ss : List Step) (ms : List CodeStep)
    → AreMadeOf call procs ss ms → length ms ≡ length ss
as_many call procs [] [] made = refl
as_many call procs [] (m ∷ ms) made = absurd made
as_many call procs (s ∷ ss) [] made = absurd made
as_many call procs (s ∷ ss) (m ∷ ms) made = ap suc (as_many call procs ss ms made.1)

pub counts : (p : Program) (code : CircuitCode) → IsCircuitOf p code → (lines : ℕ)
    → Counts p lines (batch_size code lines)
counts p code made lines = record {
  circuit = made.circuit;
  emitted = made.emitted;
  counted =
      ap (λ (cells : ℕ). lines * (cells + length code.steps + 64)) made.made.cells
      ∙ ap (λ (steps : ℕ). lines * (made.circuit.cells + steps + 64))
      (as_many _ code.procs made.circuit.steps code.steps made.made.steps);
}

-- fewer lists count less
pub few_lists : (code : CircuitCode) (lists lines : ℕ) → lists ≤ lines
    → batch_size code lines ≤ most_batch → batch_size code lists ≤ most_batch
few_lists code lists lines few small =
    let less = mul-le-mul_right (code.cells + length code.steps + 64) few in
    omega arith

-- so many lines are few
few_lines : (cells steps lines : ℕ) → lines * (cells + steps + 64) ≤ most_batch
    → lines < 4294967296
few_lines cells steps lines small =
    let each : 1 ≤ cells + steps + 64 = omega arith in
    let less : lines * 1 ≤ lines * (cells + steps + 64) = mul-le-mul_left lines each in
    omega arith

-- ---- what a line comes to

-- a line as a file alone
abbrev pub alone : List ℕ → Contents
alone line name = Some line

pub as_given : (line : List ℕ) (p : Program) (found : Result (List ℕ) Refusal)
    → GivesLine line p found → GivesInput (alone line) [] p found
as_given line p found g = record {
  inputs = g.inputs;
  has = g.has;
  reads = input_is (alone line) [] g.inputs ∙ g.reads;
}

abbrev ran_of : (files instances : List (List ℕ)) → File → RunEnd → Ran
ran_of files instances file (end.Ended numbers log) = Ended (values_by_wire file numbers) log
ran_of files instances file (end.Stopped stop place log) =
    Halted record { stop = stop; place = shown_place files instances place; log = log }

ends_in : (files instances : List (List ℕ)) (file : File) (e : RunEnd)
    → EndsIn files instances file e (ran_of files instances file e)
ends_in files instances file (end.Ended numbers log) = (refl, refl)
ends_in files instances file (end.Stopped stop place log) =
    record { stops = refl; there = refl; behind = refl }

module _ (level : Level) (x : Coded) (coded : IsCoded level x) (fuel : ℕ)
    (starts : List (Vec ℕ Global)) (ends : List RunEnd)
    (runs : AllZip (λ s e. IsRunFrom (program_of x) x.code fuel s.items e) starts ends) where
  abbrev p : Program
  p = program_of x

  abbrev inputs : List InputShape
  inputs = x.circuit.signals.inputs

  abbrev instances : List (List ℕ)
  instances = x.circuit.instances

  abbrev shown_end : RunEnd → Item
  shown_end e = end_item p.files instances x.file e

  given : (line : List ℕ) (found : Result (List ℕ) Refusal)
      → accepted_input inputs (input_of line inputs) ≡ found → GivesLine line p found
  given line found reads =
      record { inputs = inputs; has = has_inputs level x coded; reads = reads }

  module _ (line : List ℕ) (start : List ℕ)
      (reads : accepted_input inputs (input_of line inputs) ≡ Ok start) where
    read : input_in (alone line) [] inputs ≡ Ok start
    read = input_is (alone line) [] inputs ∙ reads

    ran_on : (e : RunEnd) → IsRunFrom p x.code fuel start e
        → IsItem p x.file fuel line (shown_end e)
    ran_on e run = (Ok ran, (numbers, gives, runs_so), is e)
      where
        ran : Ran
        ran = ran_of p.files instances x.file e

        numbers : List ℕ
        numbers = (first level x coded (alone line) [] start read).0

        begins : start ≡ 1 ∷ numbers
        begins = (first level x coded (alone line) [] start read).1

        gives : GivesLine line p (Ok (1 ∷ numbers))
        gives = given line (Ok (1 ∷ numbers)) (reads ∙ ap Ok begins)

        its : IsTask p x.code start numbers
        its = task_of_first level x coded (alone line) [] start read

        runs_so : IsRunOf p x.file fuel numbers ran
        runs_so = run_of p x.file fuel numbers its.meaning.instances instances
            (same_instances level x coded start numbers its) e ran (run numbers its)
            (ends_in p.files instances x.file e)

        is : (e : RunEnd) → shown_end e ≡ item_of (Ok (ran_of p.files instances x.file e))
        is (end.Ended numbers log) = refl
        is (end.Stopped stop place log) = refl

  -- the list at a place, and its end
  ended_at : (line : List ℕ) (item : Item) (ss : List (Vec ℕ Global)) (es : List RunEnd)
      (k : ℕ) → AllZip (λ s e. IsRunFrom p x.code fuel s.items e) ss es
      → IsSomeAnd (slice_get ss k)
      (λ s. accepted_input inputs (input_of line inputs) ≡ Ok s.items)
      → IsSomeAnd (slice_get es k) (λ e. item ≡ shown_end e) → IsItem p x.file fuel line item
  ended_at line item [] es k zip there is = absurd there
  ended_at line item (s ∷ ss) [] k zip there is = absurd is
  ended_at line item (s ∷ ss) (e ∷ es) zero zip there is =
      subst (IsItem p x.file fuel line) (sym is) (ran_on line s.items there e zip.0)
  ended_at line item (s ∷ ss) (e ∷ es) (suc k) zip there is =
      ended_at line item ss es k zip.1 there is

  comes : (line : List ℕ) (e : Entry) (item : Item) → IsEntry inputs starts line e
      → IsEntryItem p.files instances x.file ends e item → IsItem p x.file fuel line item
  comes line (entry.Start place) item there is =
      ended_at line item starts ends place runs there is
  comes line (entry.Refused text) item (refusal, reads, says) is =
      (Err refusal, given line (Err refusal) reads, is ∙ ap Refused says)

  pub all_come : {A : Type 0} (text : A → List ℕ) (lines : List A) (entries : List Entry)
      (items : List Item)
      → AllZip (λ (l : A) (e : Entry). IsEntry inputs starts (text l) e) lines entries
      → AllZip (IsEntryItem p.files instances x.file ends) entries items
      → AllZip (IsItem p x.file fuel) (map text lines) items
  all_come text [] [] [] a b = tt
  all_come text [] [] (i ∷ items) a b = absurd b
  all_come text [] (e ∷ es) items a b = absurd a
  all_come text (l ∷ ls) [] items a b = absurd a
  all_come text (l ∷ ls) (e ∷ es) [] a b = absurd b
  all_come text (l ∷ ls) (e ∷ es) (i ∷ items) a b =
      (comes (text l) e i a.0 b.0, all_come text ls es items a.1 b.1)

  within : (line : List ℕ) (e : Entry) (ss : List (Vec ℕ Global)) (es : List RunEnd)
      → AllZip (λ s e. IsRunFrom p x.code fuel s.items e) ss es → IsEntry inputs ss line e
      → IsWithin (length es) e
  within line (entry.Refused text) ss es zip is = tt
  within line (entry.Start k) ss es zip is = below k ss es zip is
    where
      below : (k : ℕ) (ss : List (Vec ℕ Global)) (es : List RunEnd)
          → AllZip (λ s e. IsRunFrom p x.code fuel s.items e) ss es
          → IsSomeAnd (slice_get ss k)
          (λ s. accepted_input inputs (input_of line inputs) ≡ Ok s.items) → k < length es
      below k [] es zip is = absurd is
      below k (s ∷ ss) [] zip is = absurd zip
      below zero (s ∷ ss) (e ∷ es) zip is = omega arith
      below (suc k) (s ∷ ss) (e ∷ es) zip is =
          let rest = below k ss es zip.1 is in omega arith

  pub all_within : {A : Type 0} (text : A → List ℕ) (lines : List A) (entries : List Entry)
      → AllZip (λ (l : A) (e : Entry). IsEntry inputs starts (text l) e) lines entries
      → All (IsWithin (length ends)) entries
  all_within text [] [] h = All-nil (IsWithin (length ends))
  all_within text [] (e ∷ es) h = absurd h
  all_within text (l ∷ ls) [] h = absurd h
  all_within text (l ∷ ls) (e ∷ es) h =
      All-cons (IsWithin (length ends)) e es (within (text l) e starts ends runs h.0)
      (all_within text ls es h.1)

-- lists of numbers that lines gave are tasks
pub all_tasks : (level : Level) (x : Coded) → IsCoded level x → (starts : List (Vec ℕ Global))
    → All (λ s. IsInput x.circuit.signals.inputs s.items) starts
    → All (λ s. HasTask (program_of x) x.code s.items) starts
all_tasks level x coded starts given =
    All-weaker (λ (s : Vec ℕ Global). IsInput x.circuit.signals.inputs s.items)
    (λ (s : Vec ℕ Global). HasTask (program_of x) x.code s.items)
    (λ s gives. task level x coded s.items gives) starts given

-- the items of lines that count no more than a batch may
pub all_batched : (level : Level) (x : Coded) → IsCoded level x → (fuel : ℕ) (text : List ℕ)
    (starts : List (Vec ℕ Global)) (ends : List RunEnd)
    → AllZip (λ s e. IsRunFrom (program_of x) x.code fuel s.items e) starts ends
    → {A : Type 0} (of : A → List ℕ) (lines : List A) (entries : List Entry)
    (items : List Item) → map of lines ≡ lines_of text
    → AllZip (λ (l : A) (e : Entry). IsEntry x.circuit.signals.inputs starts (of l) e) lines
    entries
    → AllZip (IsEntryItem (program_of x).files x.circuit.instances x.file ends) entries items
    → batch_size x.code (length lines) ≤ most_batch
    → BatchesOn (program_of x) x.file fuel text (Ok items)
all_batched level x coded fuel text starts ends runs of lines entries items are a b small =
    let many : length (lines_of text) ≡ length lines =
    sym (ap length are) ∙ length-map lines of in (
      batch_size x.code (length (lines_of text)),
      counts (program_of x) x.code coded.made (length (lines_of text)),
      subst (λ (n : ℕ). batch_size x.code n ≤ most_batch) (sym many) small,
      subst (λ (ls : List (List ℕ)). AllZip (IsItem (program_of x) x.file fuel) ls items) are
          (all_come level x coded fuel starts ends runs of lines entries items a b),
    )

-- lines that count more
pub too_large : (level : Level) (x : Coded) → IsCoded level x → (fuel : ℕ) (text : List ℕ)
    {A : Type 0} (of : A → List ℕ) (lines : List A) (size : ℕ)
    → map of lines ≡ lines_of text → size ≡ batch_size x.code (length lines)
    → most_batch < size
    → BatchesOn (program_of x) x.file fuel text (Err (stops.Refused (LargeBatch size)))
too_large level x coded fuel text of lines size are is many =
    let same : size ≡ batch_size x.code (length (lines_of text)) =
    is ∙ ap (batch_size x.code) (sym (length-map lines of) ∙ ap length are) in (
      size,
      subst (Counts (program_of x) (length (lines_of text))) (sym same)
          (counts (program_of x) x.code coded.made (length (lines_of text))),
      many,
      refl,
    )

pub few_items : (p : Program) (file : File) (fuel : ℕ) (text : List ℕ) (items : List Item)
    → BatchesOn p file fuel text (Ok items) → length items < 4294967296
few_items p file fuel text items on =
    let long = AllZip-long (IsItem p file fuel) (lines_of text) items on.3 in
    let small = on.2 in
    let counted = on.1.counted in
    let few = few_lines on.1.circuit.cells (length on.1.circuit.steps) (length (lines_of text))
    (omega arith) in
    omega arith

-- ---- the steps of `batch`

module _ (held : Contents → Type 0) (source name : List ℕ) (options : Options) (fuel : ℕ)
    (failed : Type 0) where
  abbrev Finds : Contents → Result (List Item) Refusal → Type 0
  Finds files found = Batches files source name options fuel found

  pub unsourced_batch : (stop : Stop) → Compiling held source options failed (Err stop)
      → StepsTo (λ (items : List Item). items) held Finds failed (Err stop)
  unsourced_batch (stops.Refused r) step = λ files may. inl (step files may)
  unsourced_batch stops.StoreFailed step = step
  unsourced_batch stops.OutOfMemory step = tt

  module _ (level : Level) (x : Coded) (coded : IsCoded level x) (same : options.level ≡ level)
      (before : Contents → Type 0) (still : OfAll held before)
      (loaded : IsLoadedFrom before source options x.loaded) where
    is_source : (files : Contents) → held files
        → IsSource files source options (program_of x) x.file
    is_source files may =
        source_of level x coded files source options same (loaded files (still files may)).loaded

    pub unread_batch : (fails : Type 0) (stop : Stop) → (fails → failed)
        → Steps (λ (v : Vec ℕ Global). v.items) held (λ files. bytes_in files name) fails
        (Err stop)
        → StepsTo (λ (items : List Item). items) held Finds failed (Err stop)
    unread_batch fails (stops.Refused r) rose step = λ files may. inr record {
      program = program_of x;
      file = x.file;
      compiled = is_source files may;
      why = inl (step files may);
    }
    unread_batch fails stops.StoreFailed rose step = rose step
    unread_batch fails stops.OutOfMemory rose step = tt

    pub batch_found : (text : List ℕ) (result : Result (List Item) Stop)
        → OfAll held (λ files. bytes_in files name ≡ Ok text)
        → BatchesOn (program_of x) x.file fuel text result
        → StepsTo (λ (items : List Item). items) held Finds failed result
    batch_found text (Ok items) there on = λ files may. record {
      program = program_of x;
      file = x.file;
      compiled = is_source files may;
      text = text;
      read = there files may;
      size = on.0;
      counts = on.1;
      few = on.2;
      each = on.3;
    }
    batch_found text (Err (stops.Refused r)) there on = λ files may. inr record {
      program = program_of x;
      file = x.file;
      compiled = is_source files may;
      why = inr record {
        text = text;
        read = there files may;
        size = on.0;
        counts = on.1;
        many = on.2;
        is = on.3;
      };
    }
    batch_found text (Err stops.StoreFailed) there on = absurd on
    batch_found text (Err stops.OutOfMemory) there on = tt

pub batched_below : (out : List ℕ) (items : List Item) → (batched out items).status < 3
batched_below out items = omega arith
