-- The lines of `prove`, `public` and `audit`, and the exit status of an audit.
use Rattle.std.specs.Prelude.{ℕ, List, [], ◌∷◌, codes, decimal}
use Rattle.lig_proof.specs.declared.verdict.Verdict.{Verdict}
use Rattle.lig_proof.specs.declared.verdict.Verdict.TheVariants.{Accepted, PublicCount, Malformed}
use Rattle.lig_proof.specs.declared.verdict.Verdict.TheVariants.{BadPath, Proximity, LinearSum}
use Rattle.lig_proof.specs.declared.verdict.Verdict.TheVariants.{LinearColumn, QuadZero, QuadColumn}
use Rattle.circom_lines.specs.Lines.{line}

abbrev pub proved_line : ℕ → List ℕ
proved_line bytes = line (codes "proved: bytes " ∷ decimal bytes ∷ [])

abbrev pub public_line : ℕ → List ℕ
public_line values = line (codes "public: values " ∷ decimal values ∷ [])

-- 0 for a proof that is accepted, 2 for one that is rejected
abbrev pub audit_status : Verdict → ℕ
audit_status Accepted = 0
audit_status _ = 2

abbrev pub audit_line : Verdict → List ℕ
audit_line Accepted = line (codes "accepted" ∷ [])
audit_line PublicCount = line (codes "rejected: 1 PublicCount" ∷ [])
audit_line (Malformed offset) =
    line (codes "rejected: 2 Malformed at byte " ∷ decimal offset ∷ [])
audit_line (BadPath opened) = line (codes "rejected: 3 BadPath " ∷ decimal opened ∷ [])
audit_line Proximity = line (codes "rejected: 4 Proximity" ∷ [])
audit_line LinearSum = line (codes "rejected: 5 LinearSum" ∷ [])
audit_line LinearColumn = line (codes "rejected: 6 LinearColumn" ∷ [])
audit_line QuadZero = line (codes "rejected: 7 QuadZero" ∷ [])
audit_line QuadColumn = line (codes "rejected: 8 QuadColumn" ∷ [])
