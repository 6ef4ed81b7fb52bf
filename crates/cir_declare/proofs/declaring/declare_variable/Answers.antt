use Rattle.std.proofs.Common.{refl}
use Rattle.cir_declare.proofs.declaring.declare_variable.Goals as goal

pub returns-clause-state : goal.returns-clause-state
returns-clause-state c =
    λ qs. rw (
      c.set_variable.ensures _,
      c.in_ok-value.ensures,
      c.add_array.ensures,
      c.as_slice.ensures.value,
    ) refl
