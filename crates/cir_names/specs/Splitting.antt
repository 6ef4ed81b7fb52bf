-- Definitions by their kinds, from one to the next.
use Rattle.std.specs.Prelude.{◌≡◌, [], ◌∷◌, ◌++◌, map}
use Rattle.cir_ast.specs.Program.{bare_template, bare_function, bare_main}
use Rattle.cir_resolve.specs.Definitions.{Definition}
use Rattle.cir_checks.specs.Heads.{templates_among, functions_among}
use Rattle.cir_checks.specs.Checks.{mains_among}
use Rattle.cir_names.specs.declared.splitting.Kinds.{Kinds}

-- one more definition is among those of its kind
pub record IsMore (old new : Kinds) (definition : Definition) : Type 0 where
  pub templates : map bare_template new.templates.items ≡ map bare_template old.templates.items
      ++ templates_among (definition ∷ [])
  pub functions : map bare_function new.functions.items ≡ map bare_function old.functions.items
      ++ functions_among (definition ∷ [])
  pub mains : map bare_main new.mains.items ≡ map bare_main old.mains.items
      ++ mains_among (definition ∷ [])
