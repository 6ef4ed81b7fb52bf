use Rattle.std.proofs.Common.{◌≡◌, ◌++◌, drop}
use Rattle.cir_meaning.specs.Anonymous.{declared_in}
use Rattle.cir_lift.proofs.Declared.{body_list}
use Rattle.cir_lift.proofs.made.declared_names.Given as goal

abbrev pub invariant-loop-statement : goal.invariant-loop-statement
invariant-loop-statement l =
    l.names.items
    ++ declared_in l.direction (body_list (drop l.statement-index l.statement-items))
    ≡ declared_in l.direction (body_list l.statement-items)
