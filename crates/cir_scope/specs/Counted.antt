-- Templates that have as many variables as their parameters and bodies declare, or more.
use Rattle.std.specs.Prelude.{ℕ, ◌≤◌, length}
use Rattle.std.specs.List.{AllByRecursion}
use Rattle.cir_ast.specs.Program.{Program, Template}
use Rattle.cir_meaning.specs.Scoped.{behind_all}
use Rattle.cir_scope.specs.Runnable.{body_scope}

abbrev pub IsCounted : (functions : ℕ) → Template → Type 0
IsCounted functions t =
    (behind_all (body_scope functions (length t.parameters)) t.body).variables ≤ t.variables

abbrev pub AreCounted : Program → Type 0
AreCounted p = AllByRecursion (IsCounted (length p.functions)) p.templates
