-- The values of a .wtns file's bytes, or the first refusal in the order of the checks.
use Rattle.std.specs.Prelude.{◌==◌, ℕ, ◌-◌, ◌+◌, ◌*◌, List, length, Result, Ok, nat_le}
use Rattle.binary_format.specs.Reading.{◌>>=◌, required, repeated}
use Rattle.iden_files.specs.declared.fault.FileCause.TheVariants.{BadCount, Limit}
use Rattle.iden_files.specs.declared.sections.Format.TheVariants.{Wtns}
use Rattle.iden_files.specs.Limits.{most_wires}
use Rattle.iden_files.specs.Refusal.{Refusal, refusal}
use Rattle.iden_files.specs.Sections.{Section, u32_at, sections_of, needed}
use Rattle.iden_files.specs.Values.{number_at}
use Rattle.iden_files.specs.ReadR1cs.{field_of}

-- section 1: how many values there are
unfoldable pub value_count : Section → Result ℕ Refusal
value_count s = do
  field ← field_of 16 s
  few ← required (nat_le (u32_at 12 s.body) most_wires) (refusal Limit (s.end - length s.body + 12))
  Ok (u32_at 12 s.body)

-- section 2
unfoldable pub values_of : ℕ → Section → Result (List ℕ) Refusal
values_of count s = do
  size ← required (length s.body == 8 * count) (refusal BadCount (s.end - length s.body))
  found ← repeated (number_at s.end) count s.body
  Ok found.0

unfoldable pub wtns_of : List ℕ → Result (List ℕ) Refusal
wtns_of bytes = do
  sections ← sections_of Wtns bytes
  first ← needed 1 (length bytes) sections
  second ← needed 2 (length bytes) sections
  count ← value_count first
  values_of count second
