-- The rows of cells in which the signals of components stand, as they are listed.
use Rattle.std.specs.Prelude.{ℕ, List, [], ◌∷◌, ◌++◌, map, min, length, Option, Some, None}
use Rattle.std.specs.declared.vec.Vec.{Vec}
use Rattle.std.specs.declared.alloc.Global.{Global}
use Rattle.cir_frame.specs.declared.frame.Part.{Part}
use Rattle.cir_frame.specs.declared.signal.SignalEntry.{SignalEntry}
use Rattle.cir_make.specs.declared.cells.Homes.{Homes}
use Rattle.cir_make.specs.declared.cells.PartCells.{PartCells}
use Rattle.cir_make.specs.declared.cells.Run.{Run}

abbrev pub row_homes : SignalEntry → Run → Homes
row_homes e r = record {
  number = e.first;
  count = min r.count (length e.written.items);
  cell = r.first;
}

abbrev pub entry_homes : SignalEntry → List Run → List Homes
entry_homes e rows = map (row_homes e) rows

abbrev pub declared_homes : Option SignalEntry → List Run → List Homes
declared_homes None rows = []
declared_homes (Some e) rows = entry_homes e rows

abbrev pub signal_homes : List (Option SignalEntry) → List (Vec Run Global) → List Homes
signal_homes [] ps = []
signal_homes (s ∷ ss) [] = []
signal_homes (s ∷ ss) (p ∷ ps) = declared_homes s p.items ++ signal_homes ss ps

abbrev pub part_homes : List Part → List PartCells → List Homes
part_homes [] cs = []
part_homes (p ∷ ps) [] = []
part_homes (p ∷ ps) (c ∷ cs) =
    signal_homes p.signals.items c.ports.items ++ (c.inside.items ++ part_homes ps cs)
