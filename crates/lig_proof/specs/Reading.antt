-- The proof that bytes spell, or the place of the first byte that is wrong.
use Rattle.std.specs.Prelude.{◌==◌, ℕ, zero, suc, ◌+◌, ◌-◌, ◌*◌, List, [], ◌∷◌, length, take, drop}
use Rattle.std.specs.Prelude.{◌≢◌, codes, IfErr}
use Rattle.std.specs.Prelude.{Option, Some, None, Result, Ok, nat_lt, nat_le}
use Rattle.std.specs.Int.{w32, w64, from_le_bytes}
use Rattle.binary_format.specs.Reading.{◌>>=◌, front_of, number_of, or_short, required, tested}
use Rattle.binary_format.specs.Reading.{repeated}
use Rattle.gold_field.specs.declared.gold.TheConstants.{P}
use Rattle.lig_layout.specs.declared.params.Params.{Params}
use Rattle.lig_proof.specs.declared.proof.Proof.{Proof}
use Rattle.lig_proof.specs.declared.fault.ProofFault.{ProofFault}
use Rattle.lig_proof.specs.declared.fault.ProofFault.TheVariants as faults
use Rattle.lig_proof.specs.ProofBytes.{opened_count}

-- The place that a fault names: none where memory ran out.
abbrev pub refused : ProofFault → Option ℕ
refused (faults.Malformed offset) = Some offset
refused faults.OutOfMemory = None

-- want of memory isn't the answer of a call that takes none
abbrev pub TakesNoMemory : {T : Type 0} → Result T ProofFault → Type 0
TakesNoMemory result = IfErr result (λ fault. fault ≢ faults.OutOfMemory)

-- the number that follows the name
abbrev pub version_at : List ℕ → ℕ
version_at bytes = from_le_bytes w32 (take 4 (drop 4 bytes))

-- The name and this version. Fewer bytes than both have are refused before either is looked at.
unfoldable pub head_of : ℕ → List ℕ → Result (Unit {0} × List ℕ) ℕ
head_of version bytes = do
  long ← required (nat_le 8 (length bytes)) (length bytes)
  name ← required (from_le_bytes w32 (take 4 bytes) == from_le_bytes w32 (codes "ligg")) 0
  version ← required (version_at bytes == version) 4
  Ok (tt, drop 8 bytes)

-- A number of the field, in bytes that end at this place. A number of P or more is refused at its
-- first byte.
unfoldable pub next_value : ℕ → List ℕ → Result (ℕ × List ℕ) ℕ
next_value end bytes =
    tested (λ n. nat_lt n P) (end - length bytes) (or_short (number_of w64 bytes) end)

unfoldable pub next_hash : ℕ → List ℕ → Result (List ℕ × List ℕ) ℕ
next_hash end bytes = or_short (front_of 32 bytes) end

-- So many opened columns, each with its path behind it.
unfoldable pub next_openings : Params → ℕ → ℕ → List ℕ
    → Result ((List (List ℕ) × List (List (List ℕ))) × List ℕ) ℕ
next_openings p end zero bytes = Ok (([], []), bytes)
next_openings p end (suc n) bytes = do
  column ← repeated (next_value end) (p.rows + 6) bytes
  path ← repeated (next_hash end) p.depth column.1
  others ← next_openings p end n path.1
  Ok ((column.0 ∷ others.0.0, path.0 ∷ others.0.1), others.1)

-- All of the bytes.
unfoldable pub proof_of : Params → List ℕ → Result Proof ℕ
proof_of p bytes = do
  let end = length bytes
  head ← head_of 1 bytes
  root ← next_hash end head.1
  polys ← repeated (next_value end) (18 * p.l) root.1
  openings ← next_openings p end opened_count polys.1
  whole ← required (length openings.1 == 0) (end - length openings.1)
  Ok (record { root = root.0; polys = polys.0; columns = openings.0.0; paths = openings.0.1 })
