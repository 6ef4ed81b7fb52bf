-- Definitions by their kinds, and those that are left.
use Rattle.std.proofs.Common.{◌≡◌, List, ◌++◌}
use Rattle.std.specs.Prelude.{map}
use Rattle.cir_ast.specs.Program.{bare_template, bare_function, bare_main}
use Rattle.cir_resolve.specs.Definitions.{Definition}
use Rattle.cir_checks.specs.Heads.{templates_among, functions_among}
use Rattle.cir_checks.specs.Checks.{mains_among}
use Rattle.cir_names.specs.declared.splitting.Kinds.{Kinds}

-- those found so far, and those among the rest, are the whole
pub record IsSplit (whole : List Definition) (k : Kinds) (rest : List Definition) : Type 0 where
  pub templates : map bare_template k.templates.items ++ templates_among rest
      ≡ templates_among whole
  pub functions : map bare_function k.functions.items ++ functions_among rest
      ≡ functions_among whole
  pub mains : map bare_main k.mains.items ++ mains_among rest ≡ mains_among whole
