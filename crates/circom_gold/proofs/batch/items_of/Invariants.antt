use Rattle.std.proofs.Common.{length}
use Rattle.circom_gold.specs.Batching.{IsEntryItem, IsWithin}
use Rattle.circom_gold.proofs.Batching.{Left}
use Rattle.circom_gold.proofs.batch.items_of.Given as goal

abbrev pub invariant-loop-entry : goal.invariant-loop-entry
invariant-loop-entry l =
    Left (IsEntryItem l.built.loaded.program.files l.built.circuit.instances l.built.file l.ends)
    (IsWithin (length l.ends)) l.fn.entries.items l.entry-iterator.rest.items l.items.items
