use Rattle.std.proofs.Common.{◌≡◌, take, slice_index}
use Rattle.gold_field.specs.Form.{value_at}
use Rattle.gold_field.proofs.form.value_of.Given as goal

abbrev pub invariant-loop-term : goal.invariant-loop-term
invariant-loop-term l = l.sum ≡ value_at (slice_index l.w) (take l.term-index l.terms)
