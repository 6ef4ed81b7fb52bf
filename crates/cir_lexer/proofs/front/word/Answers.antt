use Rattle.std.proofs.Common.{arith}
use Rattle.cir_lexer.proofs.Taking.{word_is, takes_front}
use Rattle.cir_lexer.proofs.front.word.Goals as goal

pub word_kind-requires : goal.word_kind-requires
word_kind-requires c =
    word_is c.args.text.now c.identifier_len-len.result c.identifier_len-len.ensures.value
    c.if-len-eq0.false

pub returns : goal.returns
returns c =
    takes_front c.args.text.now c.args.offset _ _ c.identifier_len-len.result _
    c.identifier_len-len.ensures.within c.requires.here.class
    (omega (arith, c.identifier_len-len.ensures.value)) (λ h. omega (arith, c.if-len-eq0.false))
    c.in_ok-kind.ensures.ok.0 c.in_ok-kind.ensures.ok.1 c.in_ok-push.ensures.ok
