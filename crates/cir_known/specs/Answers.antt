-- What the answers of this crate say of statements under a condition that isn't known.
use Rattle.std.specs.Prelude.{◌≡◌, Option, Some, None, Result, Ok, Err}
use Rattle.cir_ast.specs.declared.refusal.Form.TheVariants.{LogPlace}
use Rattle.cir_ast.specs.declared.refusal.Kind.TheVariants.{UnknownControl, NotInProfile}
use Rattle.cir_meaning.specs.Unknown.{Fault}
use Rattle.cir_known.specs.declared.faults.UnknownFault.{UnknownFault}
use Rattle.cir_known.specs.declared.faults.UnknownFault.TheVariants.{Control, Log, OutOfMemory}

-- an answer tells this fault with its line and column, or that there is none; it never wants memory
abbrev pub Tells : Result (Unit {0}) UnknownFault → Option Fault → Type 0
Tells (Ok u) fault = fault ≡ None
Tells (Err (Control line column)) fault =
    fault ≡ Some record { spot = record { line = line; column = column }; kind = UnknownControl }
Tells (Err (Log line column)) fault =
    fault ≡ Some record {
      spot = record { line = line; column = column };
      kind = NotInProfile LogPlace;
    }
Tells (Err OutOfMemory) fault = ⊥
