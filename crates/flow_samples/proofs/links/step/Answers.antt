use Rattle.std.proofs.Common.{arith, refl}
use Rattle.flow_samples.proofs.links.step.Goals as goal

pub returns : goal.returns
returns c = record {
  from = c.args.from;
  earlier = omega (arith, c.if-from-at.false);
  reads = c.in_ok-from_slice.ensures;
  writes = c.in_ok-from_slice-2.ensures;
  code = c.requires.sample;
  well_formed = c.if-not-is_well_formed.ensures.0 refl;
}
