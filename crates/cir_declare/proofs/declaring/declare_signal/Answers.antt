use Rattle.std.proofs.Common.{◌≡◌, ℕ, ◌+◌, List, ap, ◌∙◌, refl}
use Rattle.std.specs.Prelude.{replicate}
use Rattle.std.proofs.lemmas.List.{map_push}
use Rattle.cir_meaning.specs.Frame.{is_input}
use Rattle.cir_meaning.specs.Limits.{standing}
use Rattle.cir_meaning.specs.Places.{elements}
use Rattle.cir_arrays.specs.Made.{made_count}
use Rattle.cir_frame.specs.Shown.{group_of, row_of, sizes_of}
use Rattle.cir_frame.specs.declared.world.Row.{Row}
use Rattle.cir_frame.proofs.Numbered.{made_same, more_standing, standing_sum}
use Rattle.cir_declare.proofs.declaring.declare_signal.Goals as goal

pub returns-clause-state : goal.returns-clause-state
returns-clause-state c =
    let dims : List ℕ = c.args.dims.items in
    let sized : c.elements-count.result ≡ standing (elements dims) =
    c.elements-count.ensures ∙ ap (λ ds. standing (elements ds)) c.as_slice.ensures.value in
    let signals : c.saturating_add-world.result
    ≡ standing (c.args.world.now.added.signals + elements dims) =
    c.saturating_add-world.ensures
    ∙ (ap (λ n. standing (c.args.world.now.added.signals + n)) sized
    ∙ standing_sum c.args.world.now.added.signals (elements dims)) in
    let cells : c.saturating_add-world-2.result
    ≡ standing (c.args.world.now.added.cells + elements dims) =
    c.saturating_add-world-2.ensures
    ∙ (ap (λ n. standing (c.args.world.now.added.cells + n)) sized
    ∙ standing_sum c.args.world.now.added.cells (elements dims)) in
    let row : Row = record {
      group = c.of-group.result;
      instance = c.args.new.now.instance;
      name = c.in_ok-from_slice-2.field-0;
      dims = c.in_ok-row_dims.row_dims;
    } in
    let written : c.in_ok-written.written.items
    ≡ replicate (made_count dims) (is_input c.args.new.now.direction) =
    rw c.as_slice-4.ensures.value at c.in_ok-written.ensures in
    λ k qs d. rw (
      c.in_ok-put_signal.ensures _,
      c.add_array.ensures,
      c.as_slice-2.ensures.value,
      c.add.ensures,
      c.in_ok-push.ensures.items,
      map_push row_of c.args.world.now.rows.items row,
      signals,
      cells,
      sized,
      c.in_ok-from_slice.ensures,
      c.in_ok-from_slice-2.ensures,
      c.in_ok-row_dims.ensures.items,
      c.as_slice-3.ensures.value,
      written,
      made_same dims (is_input c.args.new.now.direction),
      more_standing (group_of c.of-group.result) (elements dims) (sizes_of c.args.world.now.sizes),
      c.next_number-first.ensures,
      d.size,
      d.group,
      d.same_instance,
      ← c.of-group.ensures,
    ) refl
