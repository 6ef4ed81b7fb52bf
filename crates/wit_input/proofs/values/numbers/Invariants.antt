use Rattle.std.proofs.Common.{◌≡◌, drop, map}
use Rattle.serde_json.specs.View.{view}
use Rattle.wit_input.specs.Input.{numbers_from}
use Rattle.wit_input.proofs.Steps.{behind}
use Rattle.wit_input.proofs.values.numbers.Given as goal

-- the numbers so far, and those of the values that are left, are all
abbrev pub invariant-loop-place : goal.invariant-loop-place
invariant-loop-place l =
    behind l.numbers.items
    (numbers_from l.input l.place (map (λ x. view x.now) (drop l.place l.values)))
    ≡ numbers_from l.input 0 (map (λ x. view x.now) l.values)
