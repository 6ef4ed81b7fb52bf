-- What the program asks of the store for a command, by the history of its calls.
use Rattle.std.specs.Prelude.{◌≡◌, ◌∷◌, List, [], Option, None, Some, ⊤}
use Rattle.out_io.specs.History.{Call}
use Rattle.circom_words.specs.Words.{Command, audit, batch, check, check_named, compile}
use Rattle.circom_words.specs.Words.{confirm, determine, generate, name_signals, prove, public}
use Rattle.circom_words.specs.Words.{witness}
use Rattle.circom_files.specs.Asked.{Asks, WritesOnce}

-- The names that the command's words give were read, in their order and each at most once, and
-- nothing else was asked. Of the files that a source includes nothing is said here.
abbrev pub Reads : Command → (before after : List Call) → Type 0
Reads (check r1cs wtns) before after = Asks (r1cs ∷ wtns ∷ []) before after
Reads (check_named r1cs wtns names) before after =
    Asks (r1cs ∷ wtns ∷ names ∷ []) before after
Reads (prove r1cs wtns out options) before after = Asks (r1cs ∷ wtns ∷ []) before after
Reads (public r1cs wtns out) before after = Asks (r1cs ∷ wtns ∷ []) before after
Reads (audit r1cs publics proof) before after =
    Asks (r1cs ∷ publics ∷ proof ∷ []) before after
Reads (determine r1cs out) before after = Asks (r1cs ∷ []) before after
Reads (confirm r1cs certificate) before after = Asks (r1cs ∷ certificate ∷ []) before after
Reads (generate seed size running) before after = after ≡ before
Reads (compile source out options) before after = ⊤
Reads (name_signals source out options) before after = ⊤
Reads (witness source input out options running) before after = ⊤
Reads (batch source inputs out options running) before after = ⊤

-- the same of words, for which nothing is asked where they have no reading
abbrev pub ReadsFor : Option Command → (before after : List Call) → Type 0
ReadsFor None before after = after ≡ before
ReadsFor (Some command) before after = Reads command before after

-- the names were read, and then a file was written at most once
abbrev pub Asked : Option Command → (before after : List Call) → Type 0
Asked command before after =
    (between : List Call) × ReadsFor command before between × WritesOnce between after
