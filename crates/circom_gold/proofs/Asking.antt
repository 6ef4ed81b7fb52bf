-- Nothing is asked of the store.
use Rattle.std.proofs.Common.{◌∷◌, [], List, None, Option, Some, refl}
use Rattle.out_io.specs.History.{Call}
use Rattle.circom_words.specs.Words.{Command, audit, batch, check, check_named, compile}
use Rattle.circom_words.specs.Words.{confirm, determine, generate, name_signals, prove, public}
use Rattle.circom_words.specs.Words.{witness}
use Rattle.circom_files.proofs.Asking.{asks_none}
use Rattle.circom_gold.specs.Asking.{ReadsFor}

pub reads_nothing : (command : Option Command) (calls : List Call)
    → ReadsFor command calls calls
reads_nothing None calls = refl
reads_nothing (Some (check r1cs wtns)) calls = asks_none (r1cs ∷ wtns ∷ []) calls
reads_nothing (Some (check_named r1cs wtns names)) calls =
    asks_none (r1cs ∷ wtns ∷ names ∷ []) calls
reads_nothing (Some (prove r1cs wtns out options)) calls = asks_none (r1cs ∷ wtns ∷ []) calls
reads_nothing (Some (public r1cs wtns out)) calls = asks_none (r1cs ∷ wtns ∷ []) calls
reads_nothing (Some (audit r1cs publics proof)) calls =
    asks_none (r1cs ∷ publics ∷ proof ∷ []) calls
reads_nothing (Some (determine r1cs out)) calls = asks_none (r1cs ∷ []) calls
reads_nothing (Some (confirm r1cs certificate)) calls =
    asks_none (r1cs ∷ certificate ∷ []) calls
reads_nothing (Some (generate seed size running)) calls = refl
reads_nothing (Some (compile source out options)) calls = tt
reads_nothing (Some (witness source input out options running)) calls = tt
reads_nothing (Some (name_signals source out options)) calls = tt
reads_nothing (Some (batch source inputs out options running)) calls = tt
