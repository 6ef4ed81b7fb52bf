use Rattle.std.proofs.Common.{◌≡◌, ◌<◌, ◌^◌, drop}
use Rattle.circom_words.specs.Numbers.{within, digits_from}
use Rattle.circom_words.proofs.number.digits_in.Given as goal

-- the digits that are left lead to the number
abbrev pub invariant-loop-byte : goal.invariant-loop-byte
invariant-loop-byte l = (l.number < 2 ^ 32)
    × (within l.low l.high (digits_from l.number (drop l.byte-index l.word))
    ≡ within l.low l.high (digits_from 0 l.word))
