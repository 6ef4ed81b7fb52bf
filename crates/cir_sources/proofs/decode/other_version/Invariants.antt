use Rattle.std.proofs.Common.{◌≡◌, drop}
use Rattle.cir_sources.specs.Includes.{seen_items, other_version}
use Rattle.cir_sources.proofs.decode.other_version.Given as goal

-- the items that are left lead to the same
abbrev pub invariant-loop-item : goal.invariant-loop-item
invariant-loop-item l =
    other_version (seen_items (drop l.item-index l.items)) ≡ other_version (seen_items l.items)
