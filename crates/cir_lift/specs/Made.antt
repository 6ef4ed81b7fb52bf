-- The body of the template that a name means.
use Rattle.std.specs.Prelude.{Option, Some, None, slice_get}
use Rattle.cir_ast.specs.declared.program.Spot.{Spot}
use Rattle.cir_ast.specs.declared.program.Meant.{Meant}
use Rattle.cir_ast.specs.declared.program.Meant.TheVariants as meant
use Rattle.cir_ast.specs.Program.{Program, Template}
use Rattle.cir_ast.specs.Tree.{Statements, empty}

abbrev pub body_of : Option Template → Statements Spot Meant
body_of None = empty
body_of (Some t) = t.body

abbrev pub body_at : Program → Meant → Statements Spot Meant
body_at p (meant.Template t) = body_of (slice_get p.templates t)
body_at p _ = empty
