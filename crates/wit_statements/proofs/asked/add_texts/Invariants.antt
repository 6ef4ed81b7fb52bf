use Rattle.std.proofs.Common.{◌≡◌, ◌++◌, drop}
use Rattle.std.specs.Prelude.{map, flat_map}
use Rattle.cir_ast.specs.Tree.{bare}
use Rattle.cir_texts.specs.Shown.{wanted_of}
use Rattle.wit_emit.specs.Asked.{asked}
use Rattle.wit_statements.proofs.asked.add_texts.Given as goal

abbrev pub invariant-loop-each : goal.invariant-loop-each
invariant-loop-each l =
    map (λ c. bare c.now) l.calls.items
    ++ flat_map (λ x. asked x.expr) (map wanted_of (drop l.each-index l.wanted))
    ≡ map (λ c. bare c.now) l.fn.calls.items
    ++ flat_map (λ x. asked x.expr) (map wanted_of l.wanted)
