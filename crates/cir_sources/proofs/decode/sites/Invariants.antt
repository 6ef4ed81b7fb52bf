use Rattle.std.proofs.Common.{◌≡◌, ◌++◌, drop}
use Rattle.cir_sources.specs.Includes.{seen, seen_items, includes_of, includes_in}
use Rattle.cir_sources.proofs.decode.sites.Given as goal

-- what is found, and what is found in the items that are left, are the whole
abbrev pub invariant-loop-item : goal.invariant-loop-item
invariant-loop-item l =
    l.sites.items ++ includes_in l.source.name (seen_items (drop l.item-index l.item-items))
    ≡ includes_of (seen l.fn.source)
