use Rattle.std.proofs.Common.{◌≡◌, ◌++◌, map}
use Rattle.serde_json.specs.View.{view, items_of}
use Rattle.wit_input.specs.Values.{values_in}
use Rattle.wit_input.proofs.Nested.{due, weight}
use Rattle.wit_input.proofs.values.values_in.Given as goal

-- the values found, and those of the lists that wait, the last first, are all
abbrev pub invariant-loop-items : goal.invariant-loop-items
invariant-loop-items l =
    map (λ v. view v.now) l.found.items ++ due (map (λ s. map view s.now) l.pending.items)
    ≡ values_in (items_of (map view l.fn.items))

abbrev pub decreases-loop-items : goal.decreases-loop-items
decreases-loop-items l = weight (map (λ s. map view s.now) l.pending.items)
