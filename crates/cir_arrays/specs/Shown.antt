-- What the code's numbers and arrays stand for.
use Rattle.std.specs.Prelude.{[], ◌∷◌, List, map}
use Rattle.cir_values.specs.Meant.{meant}
use Rattle.cir_meaning.specs.Values.{Value, Known, Opaque}
use Rattle.cir_meaning.specs.Arrays.{Datum, single}
use Rattle.cir_arrays.specs.declared.arrays.Datum.{Datum as CodeDatum}
use Rattle.cir_arrays.specs.declared.arrays.Datum.TheVariants as datum
use Rattle.cir_arrays.specs.declared.arrays.Contents.{Contents}
use Rattle.cir_arrays.specs.declared.arrays.Contents.TheVariants as contents
use Rattle.cir_arrays.specs.declared.arrays.Filling.{Filling}
use Rattle.cir_arrays.specs.declared.arrays.Filling.TheVariants as filling

abbrev pub datum_of : CodeDatum → Datum
datum_of (datum.Number v) = single (meant v)
datum_of (datum.Array a) = record { dims = a.dims.items; items = map meant a.items.items }

abbrev pub contents_of : Contents → List Value
contents_of (contents.Number v) = meant v ∷ []
contents_of (contents.Items items) = map meant items.items

abbrev pub filling_of : Filling → Value
filling_of filling.Zero = Known 0
filling_of filling.Opaque = Opaque
