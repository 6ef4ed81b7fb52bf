use Rattle.std.specs.Option.{option_copied}
use Rattle.cir_ast.specs.Program.{bare_program}
use Rattle.cir_names.specs.Resting.{IsLoadedWithout}
use Rattle.cir_names.proofs.loading.load.Goals as goal

pub returns-in-Ok-clause-loads : goal.returns-in-Ok-clause-loads
returns-in-Ok-clause-loads g c = λ files held.
    let all : IsLoadedWithout files c.args.name.now (option_copied c.args.library)
    c.in-Ok.loaded.missing (bare_program c.in-Ok.loaded.program) =
    c.in-Ok.ensures.loads files held in all.loaded
