use Rattle.cir_sources.specs.Faults.{IsFault, Long, NoTokens}
use Rattle.cir_sources.proofs.Decoding.{refuses_by}
use Rattle.cir_sources.proofs.decode.tokens_of.Goals as goal

pub returns-then-bytes-gt-MAX_SOURCE : goal.returns-then-bytes-gt-MAX_SOURCE
returns-then-bytes-gt-MAX_SOURCE c =
    refuses_by (IsFault c.args.name.now c.args.bytes.now) _ _ (Long c.if-bytes-gt-MAX_SOURCE.true)
    c.refusal.ensures

pub returns-in-Err-At : goal.returns-in-Err-At
returns-in-Err-At c =
    refuses_by (IsFault c.args.name.now c.args.bytes.now) _ _
    (rw (c.of_offset-spot.ensures.spot, c.new.ensures.bytes)
    (NoTokens c.in-Err-At.cause c.in-Err-At.offset c.if-bytes-gt-MAX_SOURCE.false
    (rw c.in-Err-At.field-0-is at c.in-Err-At.ensures)))
    c.refusal-in-Err-At.ensures
