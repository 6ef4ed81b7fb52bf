use Rattle.std.proofs.Common.{◌≡◌, ℕ, length, map, take, arith}
use Rattle.std.proofs.lemmas.List.{length-map, length-take}
use Rattle.cir_make.specs.Arrays.{array_key}
use Rattle.cir_make.proofs.Offering.{more_noted}
use Rattle.cir_make.proofs.offered.Offered.of.Goals as goal

pub loop-place-preserved : goal.loop-place-preserved
loop-place-preserved c =
    let list = c.args.arrays.now in
    let n = c.loop-place.place in
    let mapped = length-map (take n list) array_key in
    let taken = length-take n list in
    let size : n ≡ length (map array_key (take n list)) =
    omega (arith, mapped, taken, c.loop-place-test.true) in
    more_noted c.note.new.self list n _ c.key.result c.loop-place-test.true c.key.ensures
    (c.in_ok-note.ensures.more (map array_key (take n list)) c.loop-place.invariant size)
