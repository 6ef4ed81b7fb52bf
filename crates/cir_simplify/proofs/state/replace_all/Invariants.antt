use Rattle.std.proofs.Common.{take}
use Rattle.cir_simplify.specs.Index.{IsIndexed, IsPartly}
use Rattle.cir_simplify.proofs.state.replace_all.Given as goal

abbrev pub invariant-loop-i : goal.invariant-loop-i
invariant-loop-i l = record {
  indexed : IsIndexed l.rules l.s.rows.items l.s.holders.items l.s.ready l.s.terms;
  partly : IsPartly l.rules.bound l.x l.by l.initial.s.rows.items l.s.rows.items
      (take l.i-index l.i-items);
}
