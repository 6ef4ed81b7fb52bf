use Rattle.std.proofs.Common.{◌≡◌, ◌+◌, ◌<◌, drop}
use Rattle.std.specs.Prelude.{map, sum_by, ◌^◌}
use Rattle.cir_ast.specs.Tree.{bare_variable}
use Rattle.cir_meaning.specs.Limits.{standing, size_of}
use Rattle.cir_rules.specs.Shaped.{written_size}
use Rattle.cir_rules.proofs.shapes.Shapes.elements.Given as goal

abbrev pub invariant-loop-dims : goal.invariant-loop-dims
invariant-loop-dims l = record {
  fits : l.count < 2 ^ 64;
  counted : standing (l.count
      + sum_by size_of (map (λ d. d.items) (drop l.dims-index l.dims-items)))
      ≡ standing (sum_by size_of (map (λ d. d.items) l.self.arguments.now));
}

abbrev pub invariant-loop-variable : goal.invariant-loop-variable
invariant-loop-variable l = record {
  fits : l.count < 2 ^ 64;
  counted : standing (l.count + sum_by written_size
      (map (λ v. bare_variable v.now) (drop l.variable-index l.variable-items)))
      ≡ standing (sum_by size_of (map (λ d. d.items) l.self.arguments.now)
      + sum_by written_size (map (λ v. bare_variable v.now) l.self.texts.now.variables.items));
}
