use Rattle.std.proofs.Common.{refl}
use Rattle.flow_board.proofs.laws.each_call_counts_one_step.Goals as goal

pub returns : goal.returns
returns c = λ v. record {
  take = λ i n k got. refl;
  publish = λ i n. refl;
  release = λ i n. refl;
  read = λ i n. refl;
  look = λ i n. refl;
  finish = λ i n. refl;
  refuse = λ i n l. refl;
  split = refl;
  join = λ w. refl;
}
