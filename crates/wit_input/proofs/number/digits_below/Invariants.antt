use Rattle.std.proofs.Common.{◌≡◌, ◌<◌, ◌^◌, drop}
use Rattle.wit_input.specs.Numbers.{limited, digits_from}
use Rattle.wit_input.proofs.number.digits_below.Given as goal

-- the digits that are left lead to the number
abbrev pub invariant-loop-byte : goal.invariant-loop-byte
invariant-loop-byte l = (l.number < 2 ^ 128)
    × (limited (digits_from l.base l.number (drop l.byte-index l.text))
    ≡ limited (digits_from l.base 0 l.text))
