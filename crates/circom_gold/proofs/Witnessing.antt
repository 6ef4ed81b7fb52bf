-- The numbers that a run starts from fit the program, and its end is what a command finds.
use Rattle.std.proofs.Common.{◌≡◌, ◌∙◌, ℕ, ◌∷◌, ◌+◌, List, [], length}
use Rattle.std.proofs.Common.{Some, Result}
use Rattle.std.proofs.Common.{Ok, Err, Vec, sym, ap, subst, slice_get, inl, inr}
use Rattle.std.specs.Prelude.{unwrap_or}
use Rattle.std.specs.declared.alloc.Global.{Global}
use Rattle.out_io.specs.Contents.{Contents}
use Rattle.iden_files.specs.File.{File}
use Rattle.cir_ast.specs.Program.{Program}
use Rattle.cir_meaning.specs.Compile.{Circuit, compiled, shown}
use Rattle.cir_meaning.specs.Run.{Stopped}
use Rattle.cir_meaning.specs.RunBodies.{ran}
use Rattle.cir_meaning.specs.Tried.{Tried, Where}
use Rattle.cir_compile.specs.Compiled.{IsWritten}
use Rattle.cir_names.specs.Loading.{IsLoaded}
use Rattle.cir_simplify.specs.declared.types.Level.{Level}
use Rattle.wit_circuit.specs.Whole.{place_of as step_place}
use Rattle.wit_circuit.specs.declared.code.StepPlace.{StepPlace}
use Rattle.wit_code.specs.Table.{stop_number}
use Rattle.wit_code.specs.declared.code.Stop.{Stop as CodeStop}
use Rattle.wit_input.specs.Input.{input_of}
use Rattle.wit_input.proofs.InputNumbers.{input_first}
use Rattle.wit_run.specs.Ending.{IsEndOf}
use Rattle.wit_run.specs.Task.{IsTask}
use Rattle.wit_run.specs.declared.ending.RunEnd.{RunEnd}
use Rattle.wit_run.specs.declared.ending.RunEnd.TheVariants as end
use Rattle.circom_words.specs.Words.{Options}
use Rattle.circom_lines.specs.declared.answer.Refusal.{Refusal}
use Rattle.circom_files.specs.Files.{bytes_in}
use Rattle.out_io.specs.Held.{OfAll}
use Rattle.circom_files.specs.Running.{input_in}
use Rattle.circom_files.specs.Satisfaction.{Satisfies}
use Rattle.circom_files.specs.Steps.{StepsTo}
use Rattle.circom_files.specs.declared.outcome.Halt.{Halt}
use Rattle.circom_files.specs.declared.outcome.Ran.{Ran}
use Rattle.circom_files.specs.declared.outcome.Ran.TheVariants.{Ended, Halted}
use Rattle.circom_files.specs.declared.outcome.Generated.{Generated}
use Rattle.circom_files.specs.declared.outcome.Generated.TheVariants as made
use Rattle.circom_files.specs.declared.stop.Stop.{Stop}
use Rattle.circom_files.specs.declared.stop.Stop.TheVariants.{Refused, StoreFailed, OutOfMemory}
use Rattle.circom_gold.specs.Running.{EndsIn, GeneratesIn, IsHaltAt, shown_place}
use Rattle.circom_gold.specs.Source.{AreInputs, IsCoded, IsLoadedFrom, LoadedFrom, program_of}
use Rattle.circom_gold.specs.Witness.{GivesInput, HaltsBy, HasInputs, IsGeneratedRun, IsRunOf}
use Rattle.circom_gold.specs.Witness.{IsInputRefused, IsSource, IsWitnessed, RunsTo, Witnesses}
use Rattle.circom_gold.specs.Witness.{values_by_wire}
use Rattle.circom_gold.specs.declared.source.Coded.{Coded}
use Rattle.circom_gold.proofs.Sourcing.{Compiling, Starting, input_is}
use Rattle.circom_gold.proofs.WitnessLaws.{input_read, many}

shown_ok : (p : Program) (r : Tried Circuit) (m : Circuit) → shown p r ≡ Ok m → r ≡ Ok m
shown_ok p (Ok c) m e = let same : c ≡ m = cc in ap Ok same
shown_ok p (Err r) m e = cc

module _ (level : Level) (x : Coded) (coded : IsCoded level x) where
  abbrev p : Program
  p = program_of x

  abbrev main : Circuit
  main = coded.instantiated.0

  compiles : compiled p ≡ Ok main
  compiles = shown_ok p (compiled p) main coded.instantiated.1

  pub has_inputs : HasInputs p x.circuit.signals.inputs
  has_inputs =
      record { meaning = main; compiles = compiles; are = coded.instantiated.2.inputs }

  pub task_of_start : (start inputs : List ℕ) → start ≡ 1 ∷ inputs
      → length inputs ≡ main.public_inputs + main.private_inputs
      → IsTask p x.code start inputs
  task_of_start start inputs begins each = record {
    resolved = coded.resolved;
    places = coded.places;
    meaning = main;
    compiles = compiles;
    made = coded.made;
    begins = begins;
    each = each;
  }

  pub source_of : (files : Contents) (source : List ℕ) (options : Options)
      → options.level ≡ level → IsLoaded files source options.folder p
      → IsSource files source options p x.file
  source_of files source options same loaded = record {
    loaded = loaded;
    written = subst (λ (l : Level). IsWritten p l x.file) (sym same) coded.written;
  }

  -- an input that is read
  module _ (files : Contents) (name start : List ℕ)
      (read : input_in files name x.circuit.signals.inputs ≡ Ok start) where
    pub first : (ms : List ℕ) × (start ≡ 1 ∷ ms)
    first =
        let bytes : (bytes : List ℕ) × (input_of bytes x.circuit.signals.inputs ≡ Ok start) =
        input_read x.circuit.signals.inputs (bytes_in files name) start
        (sym (input_is files name x.circuit.signals.inputs) ∙ read) in
        input_first bytes.0 x.circuit.signals.inputs start bytes.1

    pub gives : GivesInput files name p (Ok (1 ∷ first.0))
    gives = record {
      inputs = x.circuit.signals.inputs;
      has = has_inputs;
      reads = read ∙ ap Ok first.1;
    }

    pub task_of_first : IsTask p x.code start first.0
    unfolding gives has_inputs
    task_of_first =
        task_of_start start first.0 first.1 (many files name p coded.resolved first.0 gives)

    pub witnessed_by : (source : List ℕ) (options : Options) (fuel : ℕ) (r : Ran)
        → options.level ≡ level → IsLoaded files source options.folder p
        → ((inputs : List ℕ) → IsTask p x.code start inputs
        → IsRunOf p x.file fuel inputs r)
        → IsWitnessed files source name options fuel r
    witnessed_by source options fuel r same loaded runs = record {
      program = p;
      file = x.file;
      compiled = source_of files source options same loaded;
      inputs = first.0;
      given = gives;
      run = runs first.0 task_of_first;
    }

  -- the numbers that some bytes give are a task
  pub task : (start : List ℕ) → AreInputs x start
      → (inputs : List ℕ) × IsTask p x.code start inputs
  task start (bytes, is) =
      let files : Contents = λ name. Some bytes in
      let read : input_in files [] x.circuit.signals.inputs ≡ Ok start =
      input_is files [] x.circuit.signals.inputs ∙ is in
      ((first files [] start read).0, task_of_first files [] start read)

  pub refused_by : (files : Contents) (source : List ℕ) (options : Options) (name : List ℕ)
      (refusal : Refusal) → options.level ≡ level → IsLoaded files source options.folder p
      → input_in files name x.circuit.signals.inputs ≡ Err refusal
      → IsInputRefused files source name options refusal
  refused_by files source options name refusal same loaded read = record {
    program = p;
    file = x.file;
    compiled = source_of files source options same loaded;
    given = record { inputs = x.circuit.signals.inputs; has = has_inputs; reads = read };
  }

  pub same_instances : (start inputs : List ℕ) (task : IsTask p x.code start inputs)
      → x.circuit.instances ≡ task.meaning.instances
  same_instances start inputs task =
      let both : Ok main ≡ Ok task.meaning = sym compiles ∙ task.compiles in
      let same : main ≡ task.meaning = cc in
      coded.instantiated.2.instances ∙ ap (λ (c : Circuit). c.instances) same

-- ---- the end of a run

shown_at : (files instances : List (List ℕ)) (there : StepPlace) (at : Where)
    → there ≡ step_place at → slice_get instances there.instance ≡ Some at.path
    → shown_place files instances there ≡ record {
      file = unwrap_or (slice_get files at.file) [];
      line = at.spot.line;
      column = at.spot.column;
      path = at.path;
    }
shown_at files instances there at same path = λ i. record {
  file = unwrap_or (slice_get files (same i).file) [];
  line = (same i).spot.line;
  column = (same i).spot.column;
  path = unwrap_or (path i) [];
}

module _ (p : Program) (file : File) (fuel : ℕ) (inputs : List ℕ)
    (instances others : List (List ℕ)) (same : others ≡ instances) where
  halts : (stop : CodeStop) (place : StepPlace) (log : List (List ℕ)) (h : Halt)
      → IsEndOf instances (end.Stopped stop place log) (ran p fuel inputs)
      → IsHaltAt p.files others stop place log h → HaltsBy p fuel inputs h
  halts stop place log h ends is = record {
    number = ends.number;
    at = ends.at;
    runs = ends.run ∙ ap (λ (l : List (List ℕ)). Err (Stopped ends.number ends.at l))
        (sym is.behind);
    stop = ap stop_number is.stops ∙ ends.stop;
    place =
        is.there ∙ ap (λ (l : List (List ℕ)). shown_place p.files l place) same
        ∙ shown_at p.files instances place ends.at ends.place ends.path;
  }

  runs_to : (numbers : List ℕ) (log lines : List (List ℕ)) → lines ≡ log
      → IsEndOf instances (end.Ended numbers log) (ran p fuel inputs)
      → RunsTo p fuel inputs numbers lines
  runs_to numbers log lines e ends =
      subst (λ (l : List (List ℕ)). RunsTo p fuel inputs numbers l) (sym e) ends

  pub run_of : (e : RunEnd) (r : Ran) → IsEndOf instances e (ran p fuel inputs)
      → EndsIn p.files others file e r → IsRunOf p file fuel inputs r
  run_of (end.Ended numbers log) (Ended values lines) ends is =
      (numbers, runs_to numbers log lines is.1 ends, is.0)
  run_of (end.Ended numbers log) (Halted h) ends is = absurd is
  run_of (end.Stopped stop place log) (Ended values lines) ends is = absurd is
  run_of (end.Stopped stop place log) (Halted h) ends is = halts stop place log h ends is

  pub generated_run_of : ((numbers : List ℕ) (log : List (List ℕ))
      → RunsTo p fuel inputs numbers log → Satisfies file (values_by_wire file numbers))
      → (e : RunEnd) (r : Generated) → IsEndOf instances e (ran p fuel inputs)
      → GeneratesIn p.files others file e r → IsGeneratedRun p file fuel inputs r
  generated_run_of satisfied (end.Ended numbers log) (made.Ended w c out lines) ends is =
      let runs : RunsTo p fuel inputs numbers lines = runs_to numbers log lines is.3 ends in
      (numbers, runs, is.0, is.1, is.2, satisfied numbers lines runs)
  generated_run_of satisfied (end.Ended numbers log) (made.Halted h) ends is = absurd is
  generated_run_of satisfied (end.Stopped stop place log) (made.Ended w c out lines) ends is =
      absurd is
  generated_run_of satisfied (end.Stopped stop place log) (made.Halted h) ends is =
      halts stop place log h ends is

-- ---- the steps of `witness`

module _ (held : Contents → Type 0) (source name : List ℕ) (options : Options) (fuel : ℕ)
    (failed : Type 0) where
  abbrev Finds : Contents → Result Ran Refusal → Type 0
  Finds files found = Witnesses files source name options fuel found

  pub unsourced : (stop : Stop) → Compiling held source options failed (Err stop)
      → StepsTo (λ (r : Ran). r) held Finds failed (Err stop)
  unsourced (Refused r) step = λ files may. inl (step files may)
  unsourced StoreFailed step = step
  unsourced OutOfMemory step = tt

  module _ (level : Level) (x : Coded) (coded : IsCoded level x) (same : options.level ≡ level)
      (before : Contents → Type 0) (still : OfAll held before)
      (loaded : IsLoadedFrom before source options x.loaded) where
    -- the program is loaded from these contents still
    known : OfAll held (LoadedFrom held source options x.loaded)
    known = λ files may. (may, loaded files (still files may))

    pub unstarted : (fails : Type 0) (stop : Stop) → (fails → failed)
        → Starting (LoadedFrom held source options x.loaded) x name fails (Err stop)
        → StepsTo (λ (r : Ran). r) held Finds failed (Err stop)
    unstarted fails (Refused r) rose step = λ files may.
        let k = known files may in
        inr (refused_by level x coded files source options name r same k.1.loaded (step files k))
    unstarted fails StoreFailed rose step = rose step
    unstarted fails OutOfMemory rose step = tt

    pub found : (v : Vec ℕ Global) (start : List ℕ) (r : Ran) → start ≡ v.items
        → OfAll (LoadedFrom held source options x.loaded)
        (λ files. input_in files name x.circuit.signals.inputs ≡ Ok v.items)
        → ((inputs : List ℕ) → IsTask (program_of x) x.code start inputs
        → IsRunOf (program_of x) x.file fuel inputs r)
        → OfAll held (λ files. Finds files (Ok r))
    found v start r is step runs = λ files may.
        let k = known files may in
        witnessed_by level x coded files name start (step files k ∙ ap Ok (sym is)) source options
        fuel r same k.1.loaded runs
