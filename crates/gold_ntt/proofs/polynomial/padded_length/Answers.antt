use Rattle.gold_ntt.proofs.Evaluation.{small_log}
use Rattle.gold_ntt.proofs.polynomial.padded_length.Goals as goal

pub returns-clause-length : goal.returns-clause-length
returns-clause-length c = record {
  log = c.next_power_of_two.ensures.power.0;
  small =
      small_log c.next_power_of_two.ensures.power.0 c.next_power_of_two.result c.args.places
      c.next_power_of_two.ensures.power.1
      c.next_power_of_two.ensures.upper_bound c.requires.some c.requires.small;
  power = c.next_power_of_two.ensures.power.1;
}
