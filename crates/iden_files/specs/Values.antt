-- Numbers of the field in a file.
use Rattle.std.specs.Prelude.{ℕ, ◌-◌, List, length, Result, nat_lt}
use Rattle.std.specs.Int.{w64}
use Rattle.gold_field.specs.declared.gold.TheConstants.{P}
use Rattle.binary_format.specs.Reading.{number_of, or_short, tested}
use Rattle.iden_files.specs.declared.fault.FileCause.TheVariants.{ValueTooLarge, BadCount}
use Rattle.iden_files.specs.Refusal.{Refusal, refusal}

-- a number below the field's order, of bytes that end at this place
unfoldable pub number_at : ℕ → List ℕ → Result (ℕ × List ℕ) Refusal
number_at end bytes =
    tested (λ n. nat_lt n P) (refusal ValueTooLarge (end - length bytes))
    (or_short (number_of w64 bytes) (refusal BadCount end))
