use Rattle.std.proofs.Common.{◌≡◌, ℕ, Option, None, length, ap, sym, ◌∙◌, refl}
use Rattle.std.specs.Prelude.{replicate}
use Rattle.std.proofs.lemmas.List.{length-replicate}
use Rattle.cir_arrays.specs.Made.{made_count}
use Rattle.cir_frame.proofs.Numbered.{none_first, made_same}
use Rattle.cir_declare.proofs.declaring.declare_component.Goals as goal

pub invariant_of-entry : goal.invariant_of-entry
invariant_of-entry c =
    let e : c.in_ok-parts.parts.items ≡ replicate (made_count c.args.dims.items) None =
    rw c.as_slice-2.ensures.value at c.in_ok-parts.ensures in
    record {
      sized = ap length e ∙ length-replicate (made_count c.args.dims.items) None;
      led = sym (rw e (none_first 0 (made_count c.args.dims.items)));
    }

pub returns-clause-state : goal.returns-clause-state
returns-clause-state c =
    let e : c.in_ok-parts.parts.items ≡ replicate (made_count c.args.dims.items) None =
    rw c.as_slice-2.ensures.value at c.in_ok-parts.ensures in
    λ qs. rw (
      c.in_ok-put_component.ensures _,
      c.add_array.ensures,
      c.as_slice.ensures.value,
      c.in_ok-from_slice.ensures,
      e,
      made_same {X = Option ℕ} c.args.dims.items None,
    ) refl
