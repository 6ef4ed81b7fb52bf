-- What is known of a reply whose file is written.
use Rattle.std.proofs.Common.{◌≡◌, Option, Some, None, Ok, IfSome, option_map}
use Rattle.out_io.specs.Contents.{Contents}
use Rattle.circom_words.specs.Words.{Command, meant_circuit}
use Rattle.circom_words.specs.declared.circuit.CircuitCommand.{CircuitCommand}
use Rattle.circom_words.specs.declared.circuit.CircuitCommand.TheVariants.{Witness, Batch, Generate}
use Rattle.circom_files.specs.Given.{Leaves}
use Rattle.out_io.specs.Held.{Becomes, OfAll}
use Rattle.circom_files.specs.Shown.{shown}
use Rattle.circom_files.specs.Reply.{Reply}
use Rattle.circom_files.specs.declared.reply.Reply.{Reply as CodeReply}
use Rattle.circom_gold.specs.Answering.{Assures, Fits, IsAnswered}
use Rattle.circom_gold.specs.Course.{Device, IsUnasked}
use Rattle.circom_gold.specs.Reply.{Answers}
use Rattle.circom_gold.proofs.Meanings.{has_meaning}

-- nothing else is known of the replies of commands that run a circuit
pub assures_nothing : (command : Option CircuitCommand) (files : Contents) (r : Reply)
    → IfSome (option_map meant_circuit command) (λ c. Assures c files r)
assures_nothing None files r = tt
assures_nothing (Some (Witness source input out options running)) files r = tt
assures_nothing (Some (Batch source inputs out options running)) files r = tt
assures_nothing (Some (Generate seed size running)) files r = tt

-- the reply was made of what there may be then, by reading alone, and its file was written
pub is_answered : (command : Option Command) (store : Device Contents) (reply : CodeReply)
    (held : Contents → Type 0) → OfAll held store.old
    → OfAll held (λ files. Answers files command (shown reply))
    → OfAll held (λ files. IfSome command (λ c. Assures c files (shown reply)))
    → Fits command (shown reply) → Becomes (Leaves (shown reply).file) held store.new
    → (command ≡ None → IsUnasked store) → IsAnswered command store (Ok reply)
is_answered command store reply held still answers assures fits leaves unread = record {
  replied = λ after may.
      let w = leaves after may in (
        w.0,
        still w.0 w.1,
        record {
          answers = answers w.0 w.1;
          leaves = w.2;
          means = has_meaning command w.0 after (shown reply) (answers w.0 w.1) w.2
              (assures w.0 w.1);
        },
      );
  kept = tt;
  fits = fits;
  fault = λ is. let bad : ⊥ = cc in absurd bad;
  unread = λ none. (unread none, λ is. cc);
}
