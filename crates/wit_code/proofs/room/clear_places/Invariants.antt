use Rattle.std.proofs.Common.{◌≡◌, drop}
use Rattle.wit_code.specs.Room.{cleared}
use Rattle.wit_code.proofs.room.clear_places.Given as goal

abbrev pub invariant-loop-place : goal.invariant-loop-place
invariant-loop-place l =
    cleared (drop l.place-index l.places) l.numbers.items
    ≡ cleared l.places l.initial.numbers.items
