-- What is done for a command before its text is put.
use Rattle.std.specs.Prelude.{◌≡◌, ◌<◌, ◌⊎◌, List, ℕ, Option, None, Some, Result}
use Rattle.std.specs.Prelude.{Ok, Err, IfOk}
use Rattle.std.specs.Prelude.{IfSome, OnErr, IsErrOf, ⊤}
use Rattle.std.specs.declared.alloc.AllocError.{AllocError}
use Rattle.out_io.specs.Contents.{Contents}
use Rattle.out_io.specs.declared.fault.IoFault.{IoFault}
use Rattle.out_io.specs.declared.fault.IoFault.TheVariants.{Failed}
use Rattle.circom_words.specs.Words.{Command, Options, compile, confirm, determine}
use Rattle.circom_words.specs.Words.{name_signals, prove}
use Rattle.circom_files.specs.Accepted.{WritesProof}
use Rattle.circom_files.specs.Determining.{HasDetermined, WritesCertificate}
use Rattle.circom_files.specs.Given.{Exits, Leaves, LeavesInPart, Puts, PutsFault}
use Rattle.out_io.specs.Held.{Becomes}
use Rattle.circom_files.specs.Reply.{Reply, usage}
use Rattle.circom_files.specs.Shown.{shown}
use Rattle.circom_files.specs.declared.reply.Reply.{Reply as CodeReply}
use Rattle.circom_gold.specs.Compile.{AreConstraintsOf}
use Rattle.circom_gold.specs.Course.{Device, HasFailed, IsUnasked}
use Rattle.circom_gold.specs.Means.{Means}
use Rattle.circom_gold.specs.Reply.{Answers}
use Rattle.circom_gold.specs.Symbols.{WritesNames}

-- the reply writes a file of the source's constraints under the name
pub record WritesConstraintsOf (files : Contents) (source : List ℕ) (options : Options)
    (out : List ℕ) (r : Reply) : Type 0 where
  pub bytes : List ℕ
  pub file : r.file ≡ Some (record { name = out; bytes = bytes })
  pub constraints : AreConstraintsOf files source options bytes

-- what else is known of a successful reply to the command
abbrev pub Assures : Command → Contents → Reply → Type 0
Assures (compile source out options) files r =
    r.status ≡ 0 → WritesConstraintsOf files source options out r
Assures (prove r1cs wtns out options) files r = r.status ≡ 0 → WritesProof files r1cs wtns out r
Assures (name_signals source out options) files r =
    r.status ≡ 0 → WritesNames files source options out r
Assures (determine r1cs out) files r = r.status ≡ 0 → WritesCertificate files r1cs out r
Assures (confirm r1cs certificate) files r = r.status ≡ 0 → HasDetermined files r1cs
Assures _ files r = ⊤

-- it is the usage line where words have no reading, and else the status is below 3
abbrev pub Fits : Option Command → Reply → Type 0
Fits None r = r ≡ usage
Fits (Some command) r = r.status < 3

-- nothing was written, or a prefix of the file of a reply to the command
abbrev pub Writing : Option Command → (files after : Contents) → Type 0
Writing command files after =
    (after ≡ files) ⊎ ((r : Reply) × Answers files command r
    × LeavesInPart r.file files after)

-- the reply answers the command, its file is written, and it means what is said of the command
pub record IsReply (command : Option Command) (r : Reply) (files after : Contents) : Type 0 where
  pub answers : Answers files command r
  pub leaves : Leaves r.file files after
  pub means : IfSome command (λ c. Means c files after r.status r.text)

-- the reply to the command was made and its file written, or a call of the store failed, or memory
-- is wanted
pub record IsAnswered (command : Option Command) (store : Device Contents)
    (result : Result CodeReply IoFault) : Type 0 where
  pub replied : IfOk result (λ r. Becomes (IsReply command (shown r)) store.old store.new)
  pub kept : OnErr result (Becomes (Writing command) store.old store.new)
  pub fits : IfOk result (λ r. Fits command (shown r))
  pub fault : IsErrOf result Failed → HasFailed store
  pub unread : command ≡ None → IsUnasked store × ¬ IsErrOf result Failed

-- the status of what is put of an answer
abbrev pub ExitsBy : Result CodeReply IoFault → (failed : Type 0) → (exit : ℕ) → Type 0
ExitsBy (Ok r) failed exit = Exits (shown r).status failed exit
ExitsBy (Err fault) failed exit = (fault ≡ Failed) × (exit ≡ 3)

-- what is put of an answer
abbrev pub PutsAnswer : Result CodeReply IoFault → (failed : Type 0) → Result ℕ AllocError
    → (before text : List ℕ) → Type 0
PutsAnswer (Ok r) failed result before text = Puts (shown r) failed result before text
PutsAnswer (Err fault) failed result before text = PutsFault fault failed result before text
