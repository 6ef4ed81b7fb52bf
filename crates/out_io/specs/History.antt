-- What was asked of a store or a sink, and what there may be by its answers.
use Rattle.std.specs.Prelude.{◌≡◌, ℕ, List, [], ◌∷◌, ◌++◌, take, Option, Result, Ok, Err}
use Rattle.std.specs.Prelude.{IfOk, OnOk, OnErr, Vec, ⊤}
use Rattle.std.specs.declared.alloc.Global.{Global}
use Rattle.out_io.specs.Contents.{Contents, Replaces, ReplacesInPart, bytes_of}
use Rattle.out_io.specs.declared.fault.IoFault.{IoFault}

-- a call and its answer
pub data Call : Type 0 where
  -- asks for the bytes under the name: None where it isn't there
  Read : (name : List ℕ) → (found : Result (Option (List ℕ)) IoFault) → Call
  -- puts these bytes under the name
  Write : (name : List ℕ) → (bytes : List ℕ) → (done : Result (Unit {0}) IoFault) → Call
  -- appends these bytes
  Put : (bytes : List ℕ) → (done : Result (Unit {0}) IoFault) → Call

-- what a reading answered, as plain data
abbrev pub found_of : Result (Option (Vec ℕ Global)) IoFault → Result (Option (List ℕ)) IoFault
found_of (Ok found) = Ok (bytes_of found)
found_of (Err fault) = Err fault

-- what a write does to the files: the name holds these bytes, or after an error it is as before or
-- holds a prefix of them, and every other name is as before
pub record Wrote (done : Result (Unit {0}) IoFault) (name bytes : List ℕ) (files after : Contents)
    : Type 0 where
  pub ok : OnOk done (Replaces name bytes files after)
  pub err : OnErr done (ReplacesInPart name bytes files after)

-- what a put does to the text: these bytes are appended, or after an error a prefix of them
pub record Appended (done : Result (Unit {0}) IoFault) (bytes before text : List ℕ) : Type 0 where
  pub ok : OnOk done (text ≡ before ++ bytes)
  pub err : OnErr done ((count : ℕ) × (text ≡ before ++ take count bytes))

-- These files may be there after the calls, of which the last one stands first: each reading found
-- what was there, and each write did to the files what it does.
abbrev pub MayHold : List Call → Contents → Type 0
MayHold [] files = ⊤
MayHold (Read name found ∷ calls) files = IfOk found (λ f. f ≡ files name) × MayHold calls files
MayHold (Write name bytes done ∷ calls) after =
    (files : Contents) × MayHold calls files × Wrote done name bytes files after
MayHold (Put bytes done ∷ calls) files = MayHold calls files

-- This text may have been put by the calls, of which the last one stands first.
abbrev pub MayHave : List Call → List ℕ → Type 0
MayHave [] text = text ≡ []
MayHave (Put bytes done ∷ calls) text =
    (before : List ℕ) × MayHave calls before × Appended done bytes before text
MayHave (Read name found ∷ calls) text = MayHave calls text
MayHave (Write name bytes done ∷ calls) text = MayHave calls text
