use Rattle.wit_sourced.specs.Shown.{homes_of}
use Rattle.wit_emit.specs.Grounds.{ground_of}
use Rattle.wit_emit.proofs.Trees.{shape_array, shape_place}
use Rattle.wit_emit.proofs.shapes.+shaping.Goals as goal

pub shape_of-returns-in-Place : goal.shape_of-returns-in-Place
shape_of-returns-in-Place t c =
    rw (
      c.in-Place.is,
      shape_place (ground_of c.args.ground.now) (homes_of c.args.scope.now.homes.items)
          c.in-Place.place,
    ) (rw c.as_slice.ensures at c.place_shape.ensures)

pub shape_of-returns-in-Array : goal.shape_of-returns-in-Array
shape_of-returns-in-Array t c =
    rw (
      c.in-Array.is,
      shape_array (ground_of c.args.ground.now) (homes_of c.args.scope.now.homes.items)
          c.in-Array.elements,
    ) (rw c.as_slice-in-Array.ensures at c.literal_shape.ensures)
