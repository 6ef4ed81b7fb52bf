use Rattle.std.proofs.Common.{◌≡◌, ◌∙◌, List, ℕ, refl}
use Rattle.out_io.specs.Contents.{Contents}
use Rattle.out_io.specs.Memory.{files_of}
use Rattle.circom_words.specs.Words.{command_of, texts}
use Rattle.circom_gold.specs.Course.{Device, device}
use Rattle.circom_gold.proofs.Doing.{no_threes, replies}
use Rattle.circom_gold.proofs.program.run_in_memory.Goals as goal

pub returns-clause-reply : goal.returns-clause-reply
returns-clause-reply g c =
    let files = files_of c.args.store.now.files in
    let after = files_of c.run.new.store.files in
    let was = c.args.out.now.bytes.items in
    let now = c.run.new.out.bytes.items in
    let store : Device Contents =
    device (λ f. f ≡ files) (λ f. f ≡ after) c.args.store.now.history.calls
    c.run.new.store.history.calls c.args.store.now.faults c.run.new.store.faults in
    let sink : Device (List ℕ) =
    device (λ t. t ≡ was) (λ t. t ≡ now) c.args.out.now.history.calls
    c.run.new.out.history.calls c.args.out.now.faults c.run.new.out.faults in
    replies (command_of (texts c.args.words.now)) store sink c.requires.store_faults
    (c.run.ensures.store.steady c.requires.store).1 c.requires.out_faults
    (c.run.ensures.sink.steady c.requires.out).1 after files now was refl refl
    (λ f is. is) (λ t is. is) c.run.result c.run.ensures.does

pub returns-clause-no_fault : goal.returns-clause-no_fault
returns-clause-no_fault g c =
    let store : Device Contents =
    device (λ f. f ≡ files_of c.args.store.now.files)
    (λ f. f ≡ files_of c.run.new.store.files) c.args.store.now.history.calls
    c.run.new.store.history.calls c.args.store.now.faults
    c.run.new.store.faults in
    let sink : Device (List ℕ) =
    device (λ t. t ≡ c.args.out.now.bytes.items) (λ t. t ≡ c.run.new.out.bytes.items)
    c.args.out.now.history.calls c.run.new.out.history.calls c.args.out.now.faults
    c.run.new.out.faults in
    no_threes (command_of (texts c.args.words.now)) store sink c.requires.store_faults
    (c.run.ensures.store.steady c.requires.store).1 c.requires.out_faults
    (c.run.ensures.sink.steady c.requires.out).1 c.run.result c.run.ensures.does

pub returns-clause-store : goal.returns-clause-store
returns-clause-store g c =
    let quiet = c.run.ensures.store.steady c.requires.store in
    (quiet.0, quiet.1 ∙ c.requires.store_faults)

pub returns-clause-out : goal.returns-clause-out
returns-clause-out g c =
    let quiet = c.run.ensures.sink.steady c.requires.out in
    (quiet.0, quiet.1 ∙ c.requires.out_faults)
