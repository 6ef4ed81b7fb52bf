use Rattle.std.proofs.Common.{◌≡◌, ◌++◌, length, take}
use Rattle.std.specs.List.{flat_map}
use Rattle.std.specs.Prelude.{codes}
use Rattle.iden_files.specs.Spelling.{header_bytes}
use Rattle.circom_batch.specs.Items.{item_bytes}
use Rattle.circom_batch.proofs.file.batch_bytes.Given as goal

abbrev pub invariant-loop-item : goal.invariant-loop-item
invariant-loop-item l =
    l.out.items ≡ header_bytes (codes "wtnb") 1 (length l.items)
    ++ flat_map item_bytes (take l.item-index l.items)
