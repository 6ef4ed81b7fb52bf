use Rattle.cir_steps.proofs.ReadLaw.{circuit_behind, circuit_near}
use Rattle.cir_steps.proofs.laws.cells_are_read_behind_their_writes.Goals as goal

pub returns : goal.returns
returns c = record {
  behind = λ p b resolved places is. circuit_behind p resolved places b is;
  near = λ p b i step c resolved places is there some.
      circuit_near p resolved places b is i step c there some;
}
