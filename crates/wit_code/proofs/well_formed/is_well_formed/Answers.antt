use Rattle.std.proofs.Common.{arith}
use Rattle.wit_code.proofs.well_formed.is_well_formed.Goals as goal

pub returns-then-is_code : goal.returns-then-is_code
returns-then-is_code c = (
  λ e. record {
    no_params = omega arith;
    own = c.is_code.ensures.0 c.if-is_code.true;
    called = c.are_procs.ensures.0 e;
  },
  λ w. c.are_procs.ensures.1 w.called,
)
