use Rattle.std.proofs.Common.{rules, inr, sym, subst}
use Rattle.iden_files.specs.File.{InLimits}
use Rattle.cir_ast.specs.Program.{bare_program}
use Rattle.cir_compile.specs.Written.{Means}
use Rattle.cir_compile.proofs.Circuits.{circuit_good, is_file, in_limits}
use Rattle.cir_compile.proofs.Meaning.{means}
use Rattle.cir_compile.proofs.compiling.file_from.Goals as goal

pub simple_of-requires-clause-good : goal.simple_of-requires-clause-good
simple_of-requires-clause-good c =
    circuit_good (bare_program c.args.program.now) c.args.circuit.now
    c.requires.meaning

pub file_of-requires-clause-file : goal.file_of-requires-clause-file
file_of-requires-clause-file c =
    let circuit = c.args.circuit.now in
    let known = c.in-Ok.ensures in
    is_file c.args.level circuit c.in-Ok.simple known.0
    (circuit_good (bare_program c.args.program.now) circuit c.requires.meaning)
    c.requires.fits known.1 known.2

pub file_of-requires-clause-limits : goal.file_of-requires-clause-limits
file_of-requires-clause-limits c =
    let circuit = c.args.circuit.now in
    let known = c.in-Ok.ensures in
    in_limits c.args.level circuit c.in-Ok.simple known.0
    (circuit_good (bare_program c.args.program.now) circuit c.requires.meaning)
    c.requires.fits known.1 known.2

pub returns-in-Err-Terms-clause-writes : goal.returns-in-Err-Terms-clause-writes
returns-in-Err-Terms-clause-writes c =
    inr (record {
      circuit = c.args.circuit.now;
      instantiated = c.requires.meaning;
      count = c.in-Err-Terms.count;
      terms = search rules;
      refusal = search rules;
    })

pub returns-clause-writes : goal.returns-clause-writes
returns-clause-writes c =
    let circuit = c.args.circuit.now in
    let known = c.in-Ok.ensures in
    record {
      circuit = circuit;
      instantiated = c.requires.meaning;
      simple = c.in-Ok.simple;
      simplified = known;
      file = c.in_ok-file.ensures;
      means = subst (Means (bare_program c.args.program.now)) (sym c.in_ok-file.ensures)
          (means (bare_program c.args.program.now) c.args.level circuit c.in-Ok.simple known.0
          (circuit_good (bare_program c.args.program.now) circuit c.requires.meaning)
          c.requires.fits.below known.1 known.2 c.requires.satisfied);
    }

pub returns-clause-limits : goal.returns-clause-limits
returns-clause-limits c =
    let circuit = c.args.circuit.now in
    let known = c.in-Ok.ensures in
    subst InLimits (sym c.in_ok-file.ensures)
    (in_limits c.args.level circuit c.in-Ok.simple known.0
    (circuit_good (bare_program c.args.program.now) circuit c.requires.meaning)
    c.requires.fits known.1 known.2)
