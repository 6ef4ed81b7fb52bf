-- What a source comes to, and what is read as its program's input.
use Rattle.std.proofs.Common.{◌≡◌, ◌∙◌, ℕ, List, Option, None, Some, Result, Ok, Err}
use Rattle.std.proofs.Common.{Vec, true}
use Rattle.std.proofs.Common.{refl, sym, ap, subst, inl, inr}
use Rattle.std.specs.declared.alloc.Global.{Global}
use Rattle.std.specs.Str.{IsUtf8}
use Rattle.std.specs.BTreeSet.{contains_text}
use Rattle.out_io.specs.Contents.{Contents}
use Rattle.binary_format.specs.Reading.{◌>>=◌}
use Rattle.iden_files.specs.File.{File}
use Rattle.cir_ast.specs.Program.{Program, bare_program}
use Rattle.cir_sources.specs.Includes.{is_among}
use Rattle.cir_sources.proofs.Searching.{held_at}
use Rattle.cir_compile.specs.Compiled.{NotCompiled, Writes}
use Rattle.cir_compile.specs.declared.fault.CompileFault.{CompileFault}
use Rattle.cir_compile.specs.declared.fault.CompileFault.TheVariants as fault
use Rattle.cir_compile.specs.Faults.{of_instance}
use Rattle.cir_inst.specs.Compiled.{Instantiates}
use Rattle.cir_inst.specs.declared.circuit.InstFault.{InstFault}
use Rattle.cir_inst.specs.declared.circuit.InstFault.TheVariants as instance
use Rattle.cir_names.specs.declared.loading.Loaded.{Loaded}
use Rattle.cir_names.proofs.Resting.{file_read}
use Rattle.cir_simplify.specs.declared.types.Level.{Level}
use Rattle.cir_values.specs.declared.signals.InputShape.{InputShape}
use Rattle.wit_input.specs.Input.{input_of}
use Rattle.circom_words.specs.Words.{Options}
use Rattle.circom_lines.specs.declared.answer.Refusal.{Refusal}
use Rattle.circom_lines.specs.declared.answer.Refusal.TheVariants.{NoSuchFile, BadInput}
use Rattle.circom_lines.specs.declared.answer.BadInput.TheVariants.{NotJson}
use Rattle.circom_files.specs.Files.{bytes_in}
use Rattle.out_io.specs.Held.{OfAll}
use Rattle.circom_files.specs.Running.{accepted_input, input_in}
use Rattle.circom_files.specs.Steps.{Gets, Steps, StepsTo}
use Rattle.circom_files.specs.declared.stop.Stop.{Stop}
use Rattle.circom_files.specs.declared.stop.Stop.TheVariants.{Refused, StoreFailed, OutOfMemory}
use Rattle.circom_gold.specs.Compile.{CompilesTo, task_of}
use Rattle.circom_gold.specs.Source.{Codes, IsLoadedFrom, IsStopOf, LoadedFrom, Sources}
use Rattle.circom_gold.specs.Source.{program_of}
use Rattle.circom_gold.specs.declared.source.Coded.{Coded}
use Rattle.circom_gold.proofs.NoInput.{source_no_input}

-- what reading and compiling a source gave
abbrev pub Compiling : (Contents → Type 0) → List ℕ → Options → (failed : Type 0)
    → Result File Stop → Type 0
Compiling held source options failed =
    StepsTo (λ (f : File). f) held (λ files found. CompilesTo files source options found) failed

module _ (held : Contents → Type 0) (source : List ℕ) (options : Options)
    (failed : Type 0) where
  -- a source that doesn't compile
  pub stopped_so : (e : CompileFault) (stop : Stop)
      → NotCompiled held (task_of source options) failed e
      → IsStopOf source e stop → Compiling held source options failed (Err stop)
  stopped_so fault.Missing (Refused r) none is = λ files may. inl (is, none files may)
  stopped_so (fault.Refused x) (Refused r) refused is = λ files may.
      inr (x, is, refused files may)
  stopped_so fault.Fault (Refused r) told is = absurd is
  stopped_so fault.OutOfMemory (Refused r) told is = absurd is
  stopped_so fault.Fault StoreFailed told is = told
  stopped_so fault.Missing StoreFailed told is = absurd is
  stopped_so (fault.Refused x) StoreFailed told is = absurd is
  stopped_so fault.OutOfMemory StoreFailed told is = absurd is
  stopped_so e OutOfMemory told is = tt

  -- a loaded program
  pub sourced : (loaded : Loaded) (result : Result Coded CompileFault)
      → IsLoadedFrom held source options loaded → Codes loaded options.level result
      → Sources held source options failed result
  sourced loaded (Ok x) knows codes =
      subst (IsLoadedFrom held source options) (sym codes) knows
  sourced loaded (Err fault.Missing) knows codes = absurd codes
  sourced loaded (Err fault.Fault) knows codes = absurd codes
  sourced loaded (Err (fault.Refused r)) knows codes = λ files may.
      inr (bare_program loaded.program, (knows files may).loaded, codes)
  sourced loaded (Err fault.OutOfMemory) knows codes = tt

-- a program whose meaning refuses it isn't written
pub unwritten : (p : Program) (level : Level) (f : InstFault) → Instantiates p (Err f)
    → Writes p level (Err (of_instance f))
unwritten p level (instance.Refused r) h = inl (record { instantiated = h })
unwritten p level instance.OutOfMemory h = tt

-- what is read as an input
pub input_is : (files : Contents) (name : List ℕ) (inputs : List InputShape)
    → input_in files name inputs
    ≡ (bytes_in files name >>= λ bytes. accepted_input inputs (input_of bytes inputs))
unfolding input_in
input_is files name inputs = refl

abbrev taken : List InputShape → Result (List ℕ) Refusal → Result (List ℕ) Refusal
taken inputs b = b >>= λ bytes. accepted_input inputs (input_of bytes inputs)

-- what is under the name
by_bytes : (files : Contents) (name : List ℕ) (inputs : List InputShape)
    (there : Option (List ℕ)) → files name ≡ there
    → input_in files name inputs ≡ taken inputs (bytes_in (λ n. there) name)
by_bytes files name inputs there is =
    input_is files name inputs
    ∙ ap (λ (o : Option (List ℕ)). taken inputs (bytes_in (λ n. o) name)) is

-- what reading a loaded program's input gave
abbrev pub Starting : (Contents → Type 0) → Coded → List ℕ → (failed : Type 0)
    → Result (Vec ℕ Global) Stop → Type 0
Starting held x name failed =
    Steps (λ (v : Vec ℕ Global). v.items) held
    (λ files. input_in files name x.circuit.signals.inputs) failed

module _ (held : Contents → Type 0) (source : List ℕ) (options : Options) (x : Coded)
    (name : List ℕ) (utf8 : IsUtf8 name) where
  abbrev inputs : List InputShape
  inputs = x.circuit.signals.inputs

  -- one of the source's own files
  pub input_read : is_among (program_of x).files name ≡ true
      → OfAll (LoadedFrom held source options x.loaded)
      (λ files. input_in files name inputs ≡ Err (BadInput NotJson))
  input_read among = λ files known.
      let one =
      file_read files source options.folder (program_of x) known.1.loaded name utf8 among in
      by_bytes files name inputs (Some one.1) one.2
      ∙ ap (accepted_input inputs) (source_no_input one.1 one.0.tree inputs one.3)

  -- one that it asked for, and is missing
  pub input_missing : (said : List ℕ) → said ≡ name
      → contains_text x.loaded.missing name ≡ true
      → OfAll (LoadedFrom held source options x.loaded)
      (λ files. input_in files name inputs ≡ Err (NoSuchFile said))
  input_missing said same asked = λ files known.
      by_bytes files name inputs None
      (sym (held_at files name utf8) ∙ known.1.missing_are name asked)
      ∙ ap (λ (n : List ℕ). Err (NoSuchFile n)) (sym same)

  module _ (failed : Type 0) where
    -- one that isn't read
    pub input_unread : (stop : Stop)
        → Steps (λ (v : Vec ℕ Global). v.items) held (λ files. bytes_in files name) failed
        (Err stop)
        → Starting (LoadedFrom held source options x.loaded) x name failed (Err stop)
    input_unread (Refused r) step = λ files known.
        input_is files name inputs ∙ ap (taken inputs) (step files known.0)
    input_unread StoreFailed step = step
    input_unread OutOfMemory step = tt

    pub input_given : (bytes text : List ℕ) (result : Result (Vec ℕ Global) Stop)
        → text ≡ bytes
        → OfAll held (λ files. bytes_in files name ≡ Ok bytes)
        → Gets (λ (v : Vec ℕ Global). v.items)
        (accepted_input inputs (input_of text inputs)) result
        → Starting (LoadedFrom held source options x.loaded) x name failed result
    input_given bytes text result same there gets = by result gets
      where
        given : (answer : Result (List ℕ) Refusal)
            → accepted_input inputs (input_of text inputs) ≡ answer
            → OfAll (LoadedFrom held source options x.loaded)
            (λ files. input_in files name inputs ≡ answer)
        given answer is = λ files known.
            input_is files name inputs ∙ ap (taken inputs) (there files known.0)
            ∙ ap (λ (b : List ℕ). accepted_input inputs (input_of b inputs)) (sym same) ∙ is

        by : (r : Result (Vec ℕ Global) Stop)
            → Gets (λ (v : Vec ℕ Global). v.items)
            (accepted_input inputs (input_of text inputs)) r
            → Starting (LoadedFrom held source options x.loaded) x name failed r
        by (Ok v) is = given (Ok v.items) is
        by (Err (Refused refusal)) is = given (Err refusal) is
        by (Err StoreFailed) is = absurd is
        by (Err OutOfMemory) is = tt
