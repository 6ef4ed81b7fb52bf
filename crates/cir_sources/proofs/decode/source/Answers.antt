use Rattle.std.proofs.Common.{ap, arith, length}
use Rattle.std.proofs.lemmas.Result.{err_from_is_err_and}
use Rattle.cir_sources.specs.Faults.{IsFault, IsUnfit, Unfit}
use Rattle.cir_sources.proofs.Decoding.{refuses_on, token_count}
use Rattle.cir_sources.proofs.decode.source.Goals as goal

pub file_of-requires : goal.file_of-requires
file_of-requires c =
    let few = token_count c.as_slice-text.result.now c.in_ok-tokens.tokens.items
    c.in_ok-tokens.ensures.1 in
    omega (arith, few, c.in_ok-tokens.ensures.0, ap length c.as_slice-tokens.ensures.value)

pub returns-in_err-file : goal.returns-in_err-file
returns-in_err-file c =
    let p = err_from_is_err_and c.from_residual-in_err-file.result
    c.from_residual-in_err-file.ensures.1 in
    rw (p.1, p.2)
    (refuses_on (IsUnfit c.args.name.now c.as_slice-tokens.result.now c.as_slice.result.now)
    (IsFault c.args.name.now c.args.bytes.items) c.in_err-file.field-0.0
    (λ r unfit. rw (← c.as_slice-text.ensures.value)
    (Unfit c.in_ok-tokens.tokens.items r c.in_ok-tokens.ensures.0 c.in_ok-tokens.ensures.1
    (rw (c.as_slice.ensures.value, c.in_ok-spots.ensures, c.as_slice-tokens.ensures.value)
    at unfit)))
    c.in_err-file.ensures)
