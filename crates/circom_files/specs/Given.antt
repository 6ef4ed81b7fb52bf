-- What the store and the sink hold once a reply was given.
use Rattle.std.specs.Prelude.{◌≡◌, ◌⊎◌, ◌++◌, ℕ, List, take, Option, Some, None}
use Rattle.std.specs.Prelude.{Result, IfOk}
use Rattle.std.specs.declared.alloc.AllocError.{AllocError}
use Rattle.out_io.specs.Contents.{Contents, Replaces, ReplacesInPart}
use Rattle.out_io.specs.declared.fault.IoFault.{IoFault}
use Rattle.out_io.specs.declared.fault.IoFault.TheVariants.{Failed}
use Rattle.circom_files.specs.Reply.{Reply, NewFile, store_failed}

-- the files after it are the reply's: no file, or this one, was written
abbrev pub Leaves : Option NewFile → Contents → Contents → Type 0
Leaves None files after = after ≡ files
Leaves (Some f) files after = Replaces f.name f.bytes files after

-- no file was written, or the reply's file is as before or holds a prefix of the reply's bytes
abbrev pub LeavesInPart : Option NewFile → Contents → Contents → Type 0
LeavesInPart None files after = after ≡ files
LeavesInPart (Some f) files after = ReplacesInPart f.name f.bytes files after

-- a prefix of these bytes was put
abbrev pub IsFront : List ℕ → (before text : List ℕ) → Type 0
IsFront bytes before text = (count : ℕ) × (text ≡ before ++ take count bytes)

-- the status is this one, or it is 3 and the sink failed
abbrev pub Exits : (status : ℕ) → (failed : Type 0) → (exit : ℕ) → Type 0
Exits status failed exit = (exit ≡ status) ⊎ ((exit ≡ 3) × failed)

-- The status is the reply's and its text was put, or the status is 3 and the sink failed; a prefix
-- of the text was put whatever comes.
pub record Puts (r : Reply) (failed : Type 0) (result : Result ℕ AllocError)
    (before text : List ℕ) : Type 0 where
  pub whole : IfOk result
      (λ exit. ((exit ≡ r.status) × (text ≡ before ++ r.text)) ⊎ ((exit ≡ 3) × failed))
  pub front : IsFront r.text before text

-- The store failed: that line was put, or a prefix of it where the sink failed too. Nothing was put
-- where memory is wanted for it.
pub record PutsFault (fault : IoFault) (failed : Type 0) (result : Result ℕ AllocError)
    (before text : List ℕ) : Type 0 where
  pub whole : IfOk result (λ exit. (text ≡ before ++ store_failed.text) ⊎ failed)
  pub front : (text ≡ before) ⊎ ((fault ≡ Failed) × IsFront store_failed.text before text)
