use Rattle.std.proofs.Common.{◌≡◌, drop}
use Rattle.cir_ast.specs.Tree.{bare}
use Rattle.wit_sourced.specs.Loaded.{called_in}
use Rattle.wit_sourced.proofs.loaded.Loaded.called.Given as goal

abbrev pub invariant-loop-known : goal.invariant-loop-known
invariant-loop-known l =
    called_in (drop l.known-index l.known-items) (bare l.call)
    ≡ called_in l.self.calls.now (bare l.call)
