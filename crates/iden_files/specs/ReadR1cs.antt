-- The meaning of an .r1cs file's bytes, or the first refusal in the order of the checks.
use Rattle.std.specs.Prelude.{◌==◌, ℕ, zero, suc, ◌-◌, ◌+◌, ◌*◌, List, [], ◌∷◌, length, map, Option}
use Rattle.std.specs.Prelude.{Some, None, Result, Ok, nat_lt, nat_le}
use Rattle.std.specs.List.{range_with_len}
use Rattle.std.specs.Int.{w32, w64}
use Rattle.gold_field.specs.declared.form.Term.{Term}
use Rattle.gold_field.specs.declared.form.Constraint.{Constraint}
use Rattle.gold_field.specs.declared.gold.TheConstants.{P}
use Rattle.binary_format.specs.Reading.{◌>>=◌, number_of, or_short, required, tested, repeated}
use Rattle.iden_files.specs.declared.fault.FileCause.TheVariants.{WrongPrime, WireOutOfRange}
use Rattle.iden_files.specs.declared.fault.FileCause.TheVariants.{BadCount, Limit}
use Rattle.iden_files.specs.declared.sections.Format.TheVariants.{R1cs}
use Rattle.iden_files.specs.declared.sizes.Sizes.{Sizes}
use Rattle.iden_files.specs.Limits.{most_wires, most_constraints, most_terms}
use Rattle.iden_files.specs.Refusal.{Refusal, refusal}
use Rattle.iden_files.specs.File.{File}
use Rattle.iden_files.specs.Meaning.{meaning}
use Rattle.iden_files.specs.Values.{number_at}
use Rattle.iden_files.specs.Sections.{Section, u32_at, u64_at, section_of, sections_of, needed}

-- the field of section 1, whose body has this length where it is whole
unfoldable pub field_of : ℕ → Section → Result (Unit {0}) Refusal
field_of size s = do
  let place = s.end - length s.body
  width ← required (nat_le 4 (length s.body)) (refusal BadCount place)
  eight ← required (u32_at 0 s.body == 8) (refusal WrongPrime place)
  whole ← required (length s.body == size) (refusal BadCount place)
  required (u64_at 4 s.body == P) (refusal WrongPrime (place + 4))

-- check 4
unfoldable pub sizes_of : Section → Result Sizes Refusal
sizes_of s = do
  let body = s.body
  let place = s.end - length s.body
  field ← field_of 40 s
  wires ← required (nat_le (u32_at 12 body) most_wires) (refusal Limit (place + 12))
  inputs ← required (nat_le (1 + u32_at 16 body + u32_at 20 body + u32_at 24 body) (u32_at 12 body))
      (refusal BadCount (place + 12))
  constraints ← required (nat_le (u32_at 36 body) most_constraints) (refusal Limit (place + 36))
  Ok (record {
    wires = u32_at 12 body;
    outputs = u32_at 16 body;
    public_inputs = u32_at 20 body;
    private_inputs = u32_at 24 body;
    label_count = u64_at 28 body;
    constraints = u32_at 36 body;
  })

-- a term as it is written: a wire and a value
unfoldable pub term_at : ℕ → ℕ → List ℕ → Result (Term × List ℕ) Refusal
term_at wires end bytes = do
  wire ← tested (λ n. nat_lt n wires) (refusal WireOutOfRange (end - length bytes))
      (or_short (number_of w32 bytes) (refusal BadCount end))
  value ← number_at end wire.1
  Ok (record { signal = wire.0; coef = value.0 }, value.1)

-- a count, and so many terms, of which there is room for this many
unfoldable pub terms_at : ℕ → ℕ → ℕ → List ℕ → Result (List Term × List ℕ) Refusal
terms_at wires end room bytes = do
  count ← tested (λ n. nat_le n room) (refusal Limit (end - length bytes))
      (or_short (number_of w32 bytes) (refusal BadCount end))
  repeated (term_at wires end) count.0 count.1

-- a constraint as it is written
unfoldable pub constraint_at : ℕ → ℕ → ℕ → List ℕ → Result (Constraint × List ℕ) Refusal
constraint_at wires end room bytes = do
  a ← terms_at wires end room bytes
  b ← terms_at wires end (room - length a.0) a.1
  c ← terms_at wires end (room - length a.0 - length b.0) b.1
  Ok (record { a = a.0; b = b.0; c = c.0 }, c.1)

unfoldable pub constraints_at : ℕ → ℕ → ℕ → ℕ → List ℕ → Result (List Constraint × List ℕ) Refusal
constraints_at wires end room zero bytes = Ok ([], bytes)
constraints_at wires end room (suc n) bytes = do
  first ← constraint_at wires end room bytes
  others ← constraints_at wires end (room - length first.0.a - length first.0.b - length first.0.c)
      n first.1
  Ok (first.0 ∷ others.0, others.1)

-- what they mean
abbrev pub meant : {R : Type 0} → ℕ → Result (List Constraint × List ℕ) R
    → Result (List Constraint × List ℕ) R
meant wires reading = do
  x ← reading
  Ok (map (meaning wires) x.0, x.1)

-- check 5
unfoldable pub constraints_of : Sizes → Section → Result (List Constraint) Refusal
constraints_of sizes s = do
  found ← meant sizes.wires (constraints_at sizes.wires s.end most_terms sizes.constraints s.body)
  all ← required (length found.1 == 0) (refusal BadCount (s.end - length found.1))
  Ok found.0

abbrev pub label_at : ℕ → List ℕ → Result (ℕ × List ℕ) Refusal
label_at end bytes = or_short (number_of w64 bytes) (refusal BadCount end)

-- check 6: a label for each wire, which is the wire's own number where no section says it
unfoldable pub labels_of : ℕ → Option Section → Result (List ℕ) Refusal
labels_of wires None = Ok (range_with_len 0 wires)
labels_of wires (Some s) = do
  size ← required (length s.body == 8 * wires) (refusal BadCount (s.end - length s.body))
  found ← repeated (label_at s.end) wires s.body
  Ok found.0

-- the file
unfoldable pub r1cs_of : List ℕ → Result File Refusal
r1cs_of bytes = do
  sections ← sections_of R1cs bytes
  first ← needed 1 (length bytes) sections
  second ← needed 2 (length bytes) sections
  sizes ← sizes_of first
  constraints ← constraints_of sizes second
  labels ← labels_of sizes.wires (section_of 3 sections)
  Ok (record {
    wires = sizes.wires;
    outputs = sizes.outputs;
    public_inputs = sizes.public_inputs;
    private_inputs = sizes.private_inputs;
    label_count = sizes.label_count;
    labels = labels;
    constraints = constraints;
  })
