-- What `generate` finds, from what its source comes to.
use Rattle.std.proofs.Common.{◌≡◌, ◌+◌, ◌<◌, ℕ, List, [], ◌∷◌, All, map}
use Rattle.std.proofs.Common.{length}
use Rattle.std.proofs.Common.{Result, Ok, Err, IfOk, ◌∙◌, ap, refl, subst, arith}
use Rattle.std.proofs.lemmas.List.Elements.{All-nil, All-cons}
use Rattle.std.specs.Prelude.{◌^◌, ⊤}
use Rattle.gold_field.specs.declared.gold.TheConstants.{P}
use Rattle.out_io.specs.Contents.{Contents}
use Rattle.out_io.specs.Faults.{Rose}
use Rattle.out_io.specs.declared.fault.IoFault.{IoFault}
use Rattle.cir_simplify.specs.declared.types.Level.TheVariants.{O1}
use Rattle.wit_run.specs.Task.{IsTask}
use Rattle.circom_lines.specs.Generated.{generated_input, generated_text}
use Rattle.circom_files.specs.Reply.{Says}
use Rattle.circom_files.specs.Running.{generated}
use Rattle.circom_files.specs.Shown.{shown}
use Rattle.circom_files.specs.Stops.{EndsBy}
use Rattle.circom_files.specs.declared.outcome.Generated.{Generated}
use Rattle.circom_files.specs.declared.reply.Reply.{Reply as CodeReply}
use Rattle.circom_files.specs.declared.stop.Stop.{Stop}
use Rattle.circom_files.specs.declared.stop.Stop.TheVariants.{Refused, StoreFailed, OutOfMemory}
use Rattle.circom_gold.specs.Generate.{MakesGenerated, SourcesGenerated}
use Rattle.circom_gold.specs.Source.{IsCoded, SourcesBy, program_of}
use Rattle.circom_gold.specs.Witness.{Generates, IsGeneratedRun, generated_name, generated_options}
use Rattle.circom_gold.specs.Witness.{generated_files, one_file}
use Rattle.circom_gold.specs.declared.source.Coded.{Coded}
use Rattle.circom_gold.proofs.Witnessing.{task_of_start}

never_rose : Rose 0 0 → ⊥
never_rose rose = omega (arith, rose)

-- over the store of the made source, which holds what it held
pub sources_made : (size : ℕ) (text : List ℕ) (now : Contents) (result : Result Coded Stop)
    → now ≡ one_file text → text ≡ generated_text size
    → SourcesBy (λ files. files ≡ now) generated_name generated_options (Rose 0 0) result
    → SourcesGenerated size result
sources_made size text now result still same by =
    go result
    (subst
    (λ (made : Contents).
    SourcesBy (λ files. files ≡ made) generated_name generated_options (Rose 0 0) result)
    (still ∙ ap one_file same) by)
  where
    go : (r : Result Coded Stop)
        → SourcesBy (λ files. files ≡ generated_files size) generated_name generated_options
        (Rose 0 0) r → SourcesGenerated size r
    go (Ok x) h = h
    go (Err (Refused r)) h = h (generated_files size) refl
    go (Err StoreFailed) h = absurd (never_rose h)
    go (Err OutOfMemory) h = tt

pub unmade : (seed size fuel : ℕ) (stop : Stop) → SourcesGenerated size (Err stop)
    → MakesGenerated seed size fuel (Err stop)
unmade seed size fuel (Refused r) h = h
unmade seed size fuel StoreFailed h = h
unmade seed size fuel OutOfMemory h = tt

-- its numbers are of the field
abbrev AreFew : List ℕ → Type 0
AreFew [] = ⊤
AreFew (j ∷ js) = (j < 9) × AreFew js

small_sums : (seed : ℕ) (js : List ℕ) → seed < 2 ^ 32 → AreFew js
    → All (λ n. n < P) (map (λ j. seed + j) js)
small_sums seed [] few h = All-nil (λ n. n < P)
small_sums seed (j ∷ js) few h =
    All-cons (λ n. n < P) (seed + j) (map (λ i. seed + i) js) (omega (arith, h.0))
    (small_sums seed js few h.1)

small_input : (seed : ℕ) → seed < 2 ^ 32 → All (λ n. n < P) (generated_input seed)
small_input seed few =
    small_sums seed (0 ∷ 1 ∷ 2 ∷ 3 ∷ 4 ∷ 5 ∷ 6 ∷ 7 ∷ 8 ∷ []) few (
      omega arith,
      (
        omega arith,
        (
          omega arith,
          (
            omega arith,
            (
              omega arith,
              (
                omega arith,
                (omega arith, (omega arith, (omega arith, tt))),
              ),
            ),
          ),
        ),
      ),
    )

module _ (x : Coded) (coded : IsCoded O1 x) (seed : ℕ) (start : List ℕ)
    (begins : start ≡ 1 ∷ generated_input seed)
    (publics : x.circuit.signals.public_inputs ≡ 0)
    (privates : x.circuit.signals.private_inputs ≡ 9) where
  pub made_task : IsTask (program_of x) x.code start (generated_input seed)
  made_task =
      let main = coded.instantiated.0 in
      let circuit = coded.instantiated.2 in
      let nine : length (generated_input seed) ≡ 9 = refl in
      task_of_start O1 x coded start (generated_input seed) begins
      (omega (
        arith,
        nine,
        publics,
        privates,
        circuit.public_inputs,
        circuit.private_inputs,
      ))

  pub made_so : (size fuel : ℕ) (found : Generated) → seed < 2 ^ 32
      → SourcesGenerated size (Ok x)
      → ((inputs : List ℕ) → IsTask (program_of x) x.code start inputs
      → All (λ n. n < P) inputs → IsGeneratedRun (program_of x) x.file fuel inputs found)
      → Generates seed size fuel (Ok found)
  made_so size fuel found few knows runs = record {
    program = program_of x;
    file = x.file;
    compiled = record {
      loaded =
          (knows (generated_files size) refl).loaded;
      written = coded.written;
    };
    run = runs (generated_input seed) made_task (small_input seed few);
  }

module _ (seed size fuel : ℕ) where
  pub generate_stopped : (stop : Stop) (result : Result CodeReply IoFault)
      → MakesGenerated seed size fuel (Err stop) → EndsBy stop result
      → IfOk result (λ r. Says (generated size) (λ found. Generates seed size fuel found)
      (shown r))
  generate_stopped (Refused refusal) (Ok r) h e = (Err refusal, h, e)
  generate_stopped StoreFailed (Ok r) h e = absurd e
  generate_stopped OutOfMemory (Ok r) h e = absurd e
  generate_stopped stop (Err fault) h e = tt
