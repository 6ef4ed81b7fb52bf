use Rattle.std.proofs.Common.{◌≡◌, drop}
use Rattle.cir_ast.specs.Tree.{bare}
use Rattle.wit_sourced.specs.Loaded.{has_call}
use Rattle.wit_sourced.proofs.known.is_listed.Given as goal

abbrev pub invariant-loop-known : goal.invariant-loop-known
invariant-loop-known l =
    has_call (drop l.known-index l.calls) (bare l.call) ≡ has_call l.calls (bare l.call)
