-- What a run of the program does to the store and the sink.
use Rattle.std.specs.Prelude.{◌≡◌, ◌≢◌, ℕ, List, ◌++◌, ◌⊎◌, Option}
use Rattle.std.specs.Prelude.{None, Result, Ok}
use Rattle.std.specs.Prelude.{Err, IfSome}
use Rattle.std.specs.declared.alloc.AllocError.{AllocError}
use Rattle.out_io.specs.Contents.{Contents}
use Rattle.out_io.specs.Faults.{one_more_fault}
use Rattle.circom_lines.specs.Lines.{fault_line}
use Rattle.circom_words.specs.Words.{Command}
use Rattle.circom_files.specs.Asked.{PutsOnce}
use Rattle.circom_files.specs.Given.{IsFront, Leaves, LeavesInPart}
use Rattle.circom_files.specs.Reply.{Reply}
use Rattle.circom_gold.specs.Asking.{Asked}
use Rattle.circom_gold.specs.Course.{Course, Device, HasFailed, IsUnasked, course}
use Rattle.circom_gold.specs.Means.{Means}
use Rattle.circom_gold.specs.Reply.{Answers}

-- the status, the whole text and the files are the reply's
pub record Gives (r : Reply) (store : Course Contents) (sink : Course (List ℕ)) (exit : ℕ)
    : Type 0 where
  pub status : exit ≡ r.status
  pub text : sink.new ≡ sink.old ++ r.text
  pub files : Leaves r.file store.old store.new

-- the sink failed, where the files are the reply's
pub record LosesText (r : Reply) (store : Course Contents) (sink : Course (List ℕ)) (exit : ℕ)
    : Type 0 where
  pub status : exit ≡ 3
  pub failed : sink.failed
  pub files : Leaves r.file store.old store.new

-- the store failed, and the line that says so was put whole, or the sink failed too
pub record SaysFault (store : Course Contents) (sink : Course (List ℕ))
    (exit : ℕ) : Type 0 where
  pub status : exit ≡ 3
  pub failed : store.failed
  pub text : (sink.new ≡ sink.old ++ fault_line) ⊎ sink.failed

-- how a run ends that doesn't want memory
abbrev pub Ends : Option Command → Course Contents → Course (List ℕ) → ℕ → Type 0
Ends command store sink exit =
    ((r : Reply) × Answers store.old command r
    × (Gives r store sink exit ⊎ LosesText r store sink exit))
    ⊎ SaysFault store sink exit

-- what was put is a front of the reply's text, or of the fault's line where the store failed; and
-- no file but the reply's has changed, which is as before or holds a prefix of the reply's bytes
pub record GivesInPart (r : Reply) (store : Course Contents)
    (sink : Course (List ℕ)) : Type 0 where
  pub text : IsFront r.text sink.old sink.new
      ⊎ (store.failed × IsFront fault_line sink.old sink.new)
  pub files : LeavesInPart r.file store.old store.new

-- nothing was put, or a front of the fault's line where the store failed, and no file has changed
pub record GivesNothing (store : Course Contents) (sink : Course (List ℕ)) : Type 0 where
  pub text : (sink.new ≡ sink.old) ⊎ (store.failed × IsFront fault_line sink.old sink.new)
  pub files : store.new ≡ store.old

-- what holds whatever comes, want of memory included
abbrev pub Stays : Option Command → Course Contents → Course (List ℕ) → Type 0
Stays command store sink =
    GivesNothing store sink
    ⊎ ((r : Reply) × Answers store.old command r × GivesInPart r store sink)

-- the status and what was put mean what is said of the command
abbrev pub MeansIn : Command → Course Contents → Course (List ℕ) → ℕ → Type 0
MeansIn command store sink exit =
    (text : List ℕ) × (sink.new ≡ sink.old ++ text)
    × Means command store.old store.new exit text

-- What a run did, given the files and the text before it and after it.
pub record Did (command : Option Command) (store : Course Contents) (sink : Course (List ℕ))
    (status : Option ℕ) : Type 0 where
  -- The status, the whole text and the files are those of a reply to the command over the files; or
  -- the status is 3, and the store failed, which the text says unless the sink failed too; or the
  -- sink alone failed, and the files are the reply's.
  pub ended : IfSome status (Ends command store sink)
  -- Whatever comes, for want of memory too, what was put is a front of that text, and no file has
  -- changed but the reply's, which is as before or holds a prefix of the reply's bytes.
  pub kept : Stays command store sink
  -- a status that isn't 3 means what is said of the command
  pub means : IfSome status
      (λ exit. IfSome command (λ c. exit ≢ 3 → MeansIn c store sink exit))

-- The store's first fault ends the run: its count of faults is as before, or it is one more and the
-- status is 3.
abbrev pub StopsAtFault : Device Contents → (status : Option ℕ) → Type 0
StopsAtFault store status =
    (store.faults_after ≡ store.faults)
    ⊎ ((store.faults_after ≡ one_more_fault store.faults)
    × IfSome status (λ exit. exit ≡ 3))

-- What a run does, given the command that its words ask for, None where they have no reading, and
-- the exit status, None where it wants memory.
pub record Does (command : Option Command) (store : Device Contents) (sink : Device (List ℕ))
    (status : Option ℕ) : Type 0 where
  -- Whatever files and text there may be after it, by the answers of the store and the sink: they
  -- came so from files and text that there may have been before it.
  pub does : (after : Contents) → store.new after → (text : List ℕ) → sink.new text
      → (files : Contents) × store.old files × (before : List ℕ) × sink.old before
      × Did command (course store files after) (course sink before text) status
  -- the status is 3 only where the store or the sink failed: its count of faults rose
  pub fault : IfSome status (λ exit. exit ≡ 3 → HasFailed store ⊎ HasFailed sink)
  -- for words without a reading the store isn't asked, and the status is 64, unless the sink failed
  pub unread : command ≡ None
      → IsUnasked store × IfSome status (λ exit. (exit ≡ 64) ⊎ HasFailed sink)
  -- The names of the command's words are read, in their order and each at most once, then a file is
  -- written at most once, and nothing else is asked of the store.
  pub asks : Asked command store.calls store.calls_after
  -- the first fault of the store ends the run
  pub first : StopsAtFault store status
  -- what is put is put at once
  pub puts : PutsOnce sink.calls sink.calls_after
  -- it is 64 only there
  pub only_unread : IfSome status (λ exit. exit ≡ 64 → command ≡ None)

-- the status of the part that waits for nobody
abbrev pub plain_status : Result (Option ℕ) AllocError → Option ℕ
plain_status (Ok status) = status
plain_status (Err e) = None

-- a reply to the command over these files is given, and no call fails: the status and what is put
-- are the reply's, and they mean what is said of the command
pub record IsReplied (command : Option Command) (files after : Contents) (exit : ℕ)
    (text : List ℕ) : Type 0 where
  pub reply : Reply
  pub answers : Answers files command reply
  pub status : exit ≡ reply.status
  pub said : text ≡ reply.text
  pub leaves : Leaves reply.file files after
  pub means : IfSome command (λ c. Means c files after exit text)
