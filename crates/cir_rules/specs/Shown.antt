-- What the code's calls stand for.
use Rattle.std.specs.Prelude.{map}
use Rattle.cir_meaning.specs.Costs as C
use Rattle.cir_rules.specs.declared.made.Made.{Made}

abbrev pub made_of : Made → C.Made
made_of m = record { function = m.function; shapes = map (λ d. d.items) m.shapes.items }
