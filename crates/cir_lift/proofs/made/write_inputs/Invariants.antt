use Rattle.std.proofs.Common.{◌≡◌, ◌++◌}
use Rattle.std.specs.Prelude.{map}
use Rattle.cir_ast.specs.Tree.{bare_exprs, bare_inputs, as_named, bare_simple}
use Rattle.cir_ast.specs.Program.{bare_program}
use Rattle.cir_meaning.specs.Anonymous.{listed_writes, named_writes, input_writes}
use Rattle.cir_lift.proofs.made.write_inputs.Given as goal

abbrev pub invariant-loop-e : goal.invariant-loop-e
invariant-loop-e l =
    map bare_simple l.before.items
    ++ listed_writes l.own.index l.own.number l.names.rest.items
    (bare_exprs l.e-iterator.rest.items)
    ≡ map bare_simple l.fn.before.items
    ++ input_writes (bare_program l.program) l.own.index l.own.number l.fn.meant
    (bare_inputs l.fn.inputs)

abbrev pub invariant-loop-i : goal.invariant-loop-i
invariant-loop-i l =
    map bare_simple l.before.items
    ++ named_writes l.own.index l.own.number (as_named l.i-iterator.rest.items)
    ≡ map bare_simple l.fn.before.items
    ++ input_writes (bare_program l.program) l.own.index l.own.number l.fn.meant
    (bare_inputs l.fn.inputs)
