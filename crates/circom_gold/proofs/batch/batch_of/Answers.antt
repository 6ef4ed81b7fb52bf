use Rattle.std.proofs.Common.{◌≡◌, ◌∙◌, ap, arith, length}
use Rattle.std.proofs.Common.{subst, sym}
use Rattle.wit_circuit.specs.Whole.{IsCircuitOf}
use Rattle.wit_run.specs.Batch.{batch_size}
use Rattle.wit_run.specs.Task.{code_in}
use Rattle.circom_gold.specs.Source.{program_of}
use Rattle.circom_gold.proofs.Batching.{all_batched, all_tasks, all_within, few_items, few_lists}
use Rattle.circom_gold.proofs.Batching.{too_large}
use Rattle.circom_gold.proofs.batch.batch_of.Goals as goal

pub of-requires : goal.of-requires
of-requires g c =
    let x = c.args.coded in
    let coded = c.requires.coded.1 in (
      program_of x,
      coded.resolved,
      coded.places,
      subst (IsCircuitOf (program_of x)) (sym c.take_code-code.ensures.code) coded.made,
    )

pub run_batch-requires-clause-tasks : goal.run_batch-requires-clause-tasks
run_batch-requires-clause-tasks g c κs within =
    let x = c.args.coded in (
      program_of x,
      rw (
        c.as_slice-2.ensures.value,
        c.in_ok-cut.ensures,
        c.take_code-code.ensures.code,
      )
          (all_tasks c.requires.coded.0 x c.requires.coded.1 c.in_ok-starts.field-0.starts.items
          (rw c.take_code-code.ensures.circuit at c.in_ok-starts.ensures.starts)),
    )

pub run_batch-requires-clause-small : goal.run_batch-requires-clause-small
run_batch-requires-clause-small g c κs within =
    let lines = c.in_ok-lines.lines in
    let code = code_in c.in_ok-cut.cut in
    let many : c.len.result ≡ length lines.items =
    (let len = c.len.ensures in omega (arith, lines.ok.0, len)) in
    let size : c.batch_size-size.result ≡ batch_size code (length lines.items) =
    c.batch_size-size.ensures ∙ ap (batch_size code) many in
    let small = c.if-size-gt-MOST_BATCH.false in
    rw c.as_slice-2.ensures.value
    (few_lists code (length c.in_ok-starts.field-0.starts.items) (length lines.items)
    (rw c.as_slice.ensures.value at c.in_ok-starts.ensures.few) (omega (arith, size, small)))

pub items_of-requires-clause-limits : goal.items_of-requires-clause-limits
items_of-requires-clause-limits g c =
    rw c.take_code-code.ensures.file c.requires.coded.1.limits

pub items_of-requires-clause-within : goal.items_of-requires-clause-within
items_of-requires-clause-within g c =
    let x = c.args.coded in
    let given = c.in_ok-starts.field-0 in
    rw c.as_slice-3.ensures.value
    (all_within c.requires.coded.0 x c.requires.coded.1 c.args.running.fuel given.starts.items
    c.in_ok-ends.ends.items
    (rw (
      c.as_slice-2.ensures.value,
      c.in_ok-cut.ensures,
      c.take_code-code.ensures.code,
      c.from-fuel.ensures,
    ) at c.in_ok-ends.ensures (program_of x))
    (λ line. line.now) c.in_ok-lines.lines.items given.entries.items
    (rw (c.as_slice.ensures.value, c.take_code-code.ensures.circuit)
    at c.in_ok-starts.ensures.entries))

pub returns-then-size-gt-MOST_BATCH-clause-batches :
    goal.returns-then-size-gt-MOST_BATCH-clause-batches
returns-then-size-gt-MOST_BATCH-clause-batches g c =
    let x = c.args.coded in
    let lines = c.in_ok-lines.lines in
    let many : c.len.result ≡ length lines.items =
    (let len = c.len.ensures in omega (arith, lines.ok.0, len)) in
    too_large c.requires.coded.0 x c.requires.coded.1 c.args.running.fuel c.args.text.now
    (λ line. line.now) lines.items c.batch_size-size.result c.in_ok-lines.ensures
    (c.batch_size-size.ensures ∙ ap (batch_size (code_in c.in_ok-cut.cut)) many
    ∙ ap (λ code. batch_size code (length lines.items))
    (c.in_ok-cut.ensures ∙ c.take_code-code.ensures.code)) c.if-size-gt-MOST_BATCH.true

pub returns-clause-batches : goal.returns-clause-batches
returns-clause-batches g c =
    let x = c.args.coded in
    let lines = c.in_ok-lines.lines in
    let code = code_in c.in_ok-cut.cut in
    let given = c.in_ok-starts.field-0 in
    let many : c.len.result ≡ length lines.items =
    (let len = c.len.ensures in omega (arith, lines.ok.0, len)) in
    let same = c.in_ok-cut.ensures ∙ c.take_code-code.ensures.code in
    let size : c.batch_size-size.result ≡ batch_size x.code (length lines.items) =
    c.batch_size-size.ensures ∙ ap (batch_size code) many
    ∙ ap (λ code. batch_size code (length lines.items)) same in
    let small = c.if-size-gt-MOST_BATCH.false in
    rw c.of-2.ensures
    (all_batched c.requires.coded.0 x c.requires.coded.1 c.args.running.fuel c.args.text.now
    given.starts.items c.in_ok-ends.ends.items
    (rw (
      c.as_slice-2.ensures.value,
      c.in_ok-cut.ensures,
      c.take_code-code.ensures.code,
      c.from-fuel.ensures,
    ) at c.in_ok-ends.ensures (program_of x))
    (λ line. line.now) lines.items given.entries.items c.in_ok-items.items.items
    c.in_ok-lines.ensures
    (rw (c.as_slice.ensures.value, c.take_code-code.ensures.circuit)
    at c.in_ok-starts.ensures.entries)
    (rw (
      c.as_slice-3.ensures.value,
      c.take_code-code.ensures.loaded,
      c.take_code-code.ensures.circuit,
      c.take_code-code.ensures.file,
    )
    at c.in_ok-items.ensures)
    (omega (arith, size, small)))

pub returns-clause-few : goal.returns-clause-few
returns-clause-few g c =
    let x = c.args.coded in
    few_items (program_of x) x.file c.args.running.fuel c.args.text.now c.of-2.result
    (returns-clause-batches g c)
