-- The lines of `determine` and `confirm`, and the exit status of `confirm`.
use Rattle.std.specs.Prelude.{ℕ, List, [], ◌∷◌, codes, decimal}
use Rattle.cir_determined.specs.declared.rule.Confirm.{Confirm}
use Rattle.cir_determined.specs.declared.rule.Confirm.TheVariants.{Confirmed, BadRule, Short}
use Rattle.circom_lines.specs.Lines.{line}

abbrev pub determined_line : List ℕ
determined_line = line (codes "determined" ∷ [])

abbrev pub undetermined_line : ℕ → List ℕ
undetermined_line wire = line (codes "undetermined: wire " ∷ decimal wire ∷ [])

-- 0 for rules that are a certificate, 2 for others
abbrev pub confirmed_status : Confirm → ℕ
confirmed_status Confirmed = 0
confirmed_status _ = 2

abbrev pub confirmed_line : Confirm → List ℕ
confirmed_line Confirmed = line (codes "confirmed" ∷ [])
confirmed_line (BadRule index) = line (codes "unconfirmed: rule " ∷ decimal index ∷ [])
confirmed_line (Short wire) = line (codes "unconfirmed: wire " ∷ decimal wire ∷ [])
