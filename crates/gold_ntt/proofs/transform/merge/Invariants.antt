use Rattle.std.proofs.Common.{◌≡◌, ◌%◌, ◌^◌}
use Rattle.gold_field.specs.declared.gold.TheConstants.{P}
use Rattle.gold_ntt.proofs.Merging.{IsMerged}
use Rattle.gold_ntt.proofs.transform.merge.Given as goal

abbrev pub invariant-loop-j : goal.invariant-loop-j
invariant-loop-j l = record {
  merged : IsMerged l.fn.a l.a l.start l.half (λ k. l.root ^ k) l.j;
  power : l.twiddle ≡ l.root ^ l.j % P;
}
