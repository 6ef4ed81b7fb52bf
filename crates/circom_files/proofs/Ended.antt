-- What a command says where it was stopped.
use Rattle.std.proofs.Common.{Result, Ok, Err, IfOk, ◌≡◌, ◌<◌, ap, arith}
use Rattle.out_io.specs.Contents.{Contents}
use Rattle.out_io.specs.declared.fault.IoFault.{IoFault}
use Rattle.circom_lines.specs.declared.answer.Refusal.{Refusal}
use Rattle.out_io.specs.Held.{OfAll}
use Rattle.circom_files.specs.Reply.{Reply, Says}
use Rattle.circom_files.specs.Shown.{shown}
use Rattle.circom_files.specs.Steps.{Steps, StepsTo}
use Rattle.circom_files.specs.Stops.{EndsBy}
use Rattle.circom_files.specs.declared.reply.Reply.{Reply as CodeReply}
use Rattle.circom_files.specs.declared.stop.Stop.{Stop}
use Rattle.circom_files.specs.declared.stop.Stop.TheVariants.{Refused, StoreFailed, OutOfMemory}

-- a command that was stopped says its refusal, which is not a success
pub ended_to : {X : Type 0} (held : Contents → Type 0) (reply : X → Reply)
    (Finds : Contents → Result X Refusal → Type 0) (failed : Type 0) (stop : Stop)
    (result : Result CodeReply IoFault) → StepsTo (λ (x : X). x) held Finds failed (Err stop)
    → EndsBy stop result
    → IfOk result (λ r. OfAll held (λ files. Says reply (Finds files) (shown r)))
ended_to held reply Finds failed (Refused refusal) (Ok r) step e = λ files may.
    (Err refusal, step files may, e)
ended_to held reply Finds failed StoreFailed (Ok r) step e = absurd e
ended_to held reply Finds failed OutOfMemory (Ok r) step e = absurd e
ended_to held reply Finds failed stop (Err fault) step e = tt

pub ended : {X : Type 0} (held : Contents → Type 0) (reply : X → Reply)
    (meaning : Contents → Result X Refusal) (failed : Type 0) (stop : Stop)
    (result : Result CodeReply IoFault) → Steps (λ (x : X). x) held meaning failed (Err stop)
    → EndsBy stop result
    → IfOk result (λ r. OfAll held
    (λ files. Says reply (λ found. meaning files ≡ found) (shown r)))
ended held reply meaning failed (Refused refusal) (Ok r) step e = λ files may.
    (Err refusal, step files may, e)
ended held reply meaning failed StoreFailed (Ok r) step e = absurd e
ended held reply meaning failed OutOfMemory (Ok r) step e = absurd e
ended held reply meaning failed stop (Err fault) step e = tt

pub ended_below : (stop : Stop) (result : Result CodeReply IoFault) → EndsBy stop result
    → IfOk result (λ r. r.status < 3)
ended_below (Refused refusal) (Ok r) e = omega (arith, ap (λ (x : Reply). x.status) e)
ended_below StoreFailed (Ok r) e = absurd e
ended_below OutOfMemory (Ok r) e = absurd e
ended_below stop (Err fault) e = tt
