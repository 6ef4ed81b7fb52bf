-- What one step of a command did.
use Rattle.std.specs.Prelude.{◌≡◌, ℕ, List, Option, IfSome, Result, Ok, Err, ⊤}
use Rattle.out_io.specs.Contents.{Contents}
use Rattle.iden_files.specs.declared.fault.FileFault.{FileFault}
use Rattle.iden_files.specs.declared.fault.FileFault.TheVariants as file
use Rattle.text_lines.specs.declared.reading.LineFault.{LineFault}
use Rattle.text_lines.specs.declared.reading.LineFault.TheVariants as lines
use Rattle.circom_lines.specs.declared.answer.Refusal.{Refusal}
use Rattle.circom_lines.specs.declared.answer.Refusal.TheVariants.{BadFile, BadInput, BadLines}
use Rattle.circom_lines.specs.declared.answer.LineKind.{LineKind}
use Rattle.circom_lines.specs.declared.answer.LineCause.TheVariants.{BadLine, Limit}
use Rattle.wit_input.specs.declared.fault.InputFault.{InputFault}
use Rattle.wit_input.specs.declared.fault.InputFault.TheVariants as input
use Rattle.circom_files.specs.Files.{bad_publics, bytes_in}
use Rattle.out_io.specs.Held.{OfAll}
use Rattle.circom_files.specs.declared.inputs.Read.{Read}
use Rattle.circom_files.specs.declared.stop.Stop.{Stop}
use Rattle.circom_files.specs.declared.stop.Stop.TheVariants.{Refused, StoreFailed, OutOfMemory}

-- The step gave what the definition gives over all contents that there may be, or its refusal. It
-- failed only where the store did; want of memory is free.
abbrev pub Steps : {X Y : Type 0} → (X → Y) → (held : Contents → Type 0)
    → (Contents → Result Y Refusal) → (failed : Type 0) → Result X Stop → Type 0
Steps view held meaning failed (Ok x) = OfAll held (λ files. meaning files ≡ Ok (view x))
Steps view held meaning failed (Err (Refused refusal)) =
    OfAll held (λ files. meaning files ≡ Err refusal)
Steps view held meaning failed (Err StoreFailed) = failed
Steps view held meaning failed (Err OutOfMemory) = ⊤

-- The same where what the command finds is a relation.
abbrev pub StepsTo : {X Y : Type 0} → (X → Y) → (held : Contents → Type 0)
    → (Contents → Result Y Refusal → Type 0) → (failed : Type 0) → Result X Stop
    → Type 0
StepsTo view held Finds failed (Ok x) = OfAll held (λ files. Finds files (Ok (view x)))
StepsTo view held Finds failed (Err (Refused refusal)) =
    OfAll held (λ files. Finds files (Err refusal))
StepsTo view held Finds failed (Err StoreFailed) = failed
StepsTo view held Finds failed (Err OutOfMemory) = ⊤

-- what a step over bytes that were read gave: the store has no part in it
abbrev pub Gets : {X Y : Type 0} → (X → Y) → Result Y Refusal → Result X Stop → Type 0
Gets view meaning (Ok x) = meaning ≡ Ok (view x)
Gets view meaning (Err (Refused refusal)) = meaning ≡ Err refusal
Gets view meaning (Err StoreFailed) = ⊥
Gets view meaning (Err OutOfMemory) = ⊤

-- these bytes are there under the name
abbrev pub WasRead : Contents → Read → Type 0
WasRead files read = bytes_in files read.name.now ≡ Ok read.bytes.now

-- these contents may be there, and this was read before, and that if there is one
abbrev pub HeldWith : (Contents → Type 0) → Read → Option Read → Contents → Type 0
HeldWith held first second files =
    held files × WasRead files first × IfSome second (WasRead files)

-- the command ends for this fault of the file under the name; memory may lack for the name
abbrev pub Refuses : List ℕ → FileFault → Stop → Type 0
Refuses name (file.At cause offset) (Refused refusal) = refusal ≡ BadFile name cause offset
Refuses name fault OutOfMemory = ⊤
Refuses name fault stop = ⊥

-- and for this fault of a text of such lines under the name
abbrev pub RefusesLines : LineKind → List ℕ → LineFault → Stop → Type 0
RefusesLines kind name (lines.BadLine line) (Refused refusal) =
    refusal ≡ BadLines name kind BadLine line
RefusesLines kind name (lines.Limit line) (Refused refusal) =
    refusal ≡ BadLines name kind Limit line
RefusesLines kind name fault OutOfMemory = ⊤
RefusesLines kind name fault stop = ⊥

-- and for this fault of a public file
abbrev pub RefusesPublics : InputFault → Stop → Type 0
RefusesPublics input.OutOfMemory (Refused refusal) = ⊥
RefusesPublics fault (Refused refusal) = refusal ≡ BadInput (bad_publics fault)
RefusesPublics fault OutOfMemory = ⊤
RefusesPublics fault StoreFailed = ⊥
