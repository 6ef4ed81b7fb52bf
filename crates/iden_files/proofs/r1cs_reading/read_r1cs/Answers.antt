use Rattle.iden_files.proofs.r1cs_reading.read_r1cs.Goals as goal

pub invariant_of-result : goal.invariant_of-result
invariant_of-result c = record {
  labelled = rw c.of.ensures c.in_ok-labels.ensures.len;
  wired = rw c.of-2.ensures c.in_ok-constraints.ensures.wired;
  numbered = c.in_ok-sizes.ensures.allowed.numbered;
}
