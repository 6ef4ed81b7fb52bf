-- A statement with those that are lifted before it, each as it is executed.
use Rattle.std.specs.Prelude.{map}
use Rattle.cir_ast.specs.declared.program.Meant.{Meant}
use Rattle.cir_ast.specs.Tree.{Simple}
use Rattle.cir_meaning.specs.Anonymous.{Lifted}
use Rattle.cir_lift.specs.Turned.{turned}

abbrev pub turned_all : Lifted (Simple Meant) → Lifted (Simple Meant)
turned_all l = record l { before = map turned l.before; value = turned l.value }
