use Rattle.std.proofs.Common.{drop, ◌≡◌, ◌+◌, ◌*◌, ◌<◌, ◌^◌}
use Rattle.std.specs.Prelude.{fold}
use Rattle.cir_lexer.specs.Bytes.{digit_value}
use Rattle.cir_lexer.specs.Spelling.{number_in}
use Rattle.cir_lexer.proofs.scan.number_in.Given as goal

-- the digits that are left lead to the number
abbrev pub invariant-loop-digit : goal.invariant-loop-digit
invariant-loop-digit l = (l.value < 2 ^ 128)
    × (fold (λ n c. n * l.base + digit_value c) l.value (drop l.digit-index l.digits)
    ≡ number_in l.base l.digits)
