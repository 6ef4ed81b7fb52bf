-- What lines give as inputs.
use Rattle.std.specs.Prelude.{◌≡◌, ℕ, ◌≤◌, List, ◌++◌, length, All, slice_get}
use Rattle.std.specs.Prelude.{IsSomeAnd, Ok, Err}
use Rattle.std.specs.declared.alloc.Global.{Global}
use Rattle.std.specs.declared.vec.Vec.{Vec}
use Rattle.cir_values.specs.declared.signals.InputShape.{InputShape}
use Rattle.wit_input.specs.Input.{input_of}
use Rattle.circom_lines.specs.Lines.{refusal_line}
use Rattle.circom_lines.specs.declared.answer.Refusal.{Refusal}
use Rattle.circom_files.specs.Running.{accepted_input}
use Rattle.circom_files.specs.declared.stop.Stop.{Stop}
use Rattle.circom_files.specs.declared.stop.Stop.TheVariants as ends
use Rattle.circom_batch.specs.Items.{without_feed}
use Rattle.circom_batch.specs.declared.inputs.Entry.{Entry}
use Rattle.circom_batch.specs.declared.inputs.Entry.TheVariants.{Start, Refused}

-- some line gives these numbers
abbrev pub IsInput : List InputShape → List ℕ → Type 0
IsInput inputs start =
    (line : List ℕ) × (accepted_input inputs (input_of line inputs) ≡ Ok start)

-- the line gives the numbers at this place, or is refused so
abbrev pub IsEntry : List InputShape → (starts : List (Vec ℕ Global)) → (line : List ℕ)
    → Entry → Type 0
IsEntry inputs starts line (Start place) =
    IsSomeAnd (slice_get starts place)
    (λ start. accepted_input inputs (input_of line inputs) ≡ Ok start.items)
IsEntry inputs starts line (Refused text) =
    (refusal : Refusal) × (accepted_input inputs (input_of line inputs) ≡ Err refusal)
    × (text ≡ without_feed (refusal_line refusal))

-- it is the line of the refusal, without its line feed
abbrev pub IsLineOf : Stop → List ℕ → Type 0
IsLineOf stop text =
    (refusal : Refusal) × (stop ≡ ends.Refused refusal)
    × (text ≡ without_feed (refusal_line refusal))

-- what the line gives went behind the lists of numbers
pub record IsTaken (inputs : List InputShape) (before : List (Vec ℕ Global)) (line : List ℕ)
    (after : List (Vec ℕ Global)) (entry : Entry) : Type 0 where
  pub more : List (Vec ℕ Global)
  pub behind : after ≡ before ++ more
  pub one : length more ≤ 1
  pub inputs_each : All (λ start. IsInput inputs start.items) more
  pub taken : IsEntry inputs after line entry
