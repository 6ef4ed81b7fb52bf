use Rattle.std.proofs.lemmas.Result.{err_from_is_err_and}
use Rattle.cir_ast.specs.Program.{bare_program}
use Rattle.cir_scope.proofs.Loaded.{of_sources}
use Rattle.cir_compile.proofs.Meaning.{unloaded, unwritten}
use Rattle.cir_compile.proofs.compiling.compile.Goals as goal

pub written-requires-clause-free : goal.written-requires-clause-free
written-requires-clause-free g c = (of_sources _ c.in_ok-program.ensures.theirs).0.functions

pub returns-in_err-program-clause-compiles : goal.returns-in_err-program-clause-compiles
returns-in_err-program-clause-compiles g c =
    let p = err_from_is_err_and c.from_residual.result c.from_residual.ensures.1 in
    rw (p.1, p.2) (unloaded _ _ _ c.in_err-program.field-0.0 c.in_err-program.ensures.loads)

pub returns-in_err-file-clause-compiles : goal.returns-in_err-file-clause-compiles
returns-in_err-file-clause-compiles g c =
    let p = err_from_is_err_and c.from_residual-in_err-file.result
    c.from_residual-in_err-file.ensures.1 in
    rw (p.1, p.2)
    (unwritten _ _ _ _ c.in_err-file.field-0.0 c.in_ok-program.ensures.loads
    c.in_err-file.ensures.writes)

pub returns-clause-compiles : goal.returns-clause-compiles
returns-clause-compiles g c = λ files may. record {
  program = bare_program c.in_ok-program.program;
  loaded = c.in_ok-program.ensures.loads files may;
  written = c.in_ok-file.ensures.writes;
}
