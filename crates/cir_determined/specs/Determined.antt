-- What a certificate is for: the inputs determine the outputs.
use Rattle.std.specs.Prelude.{◌≡◌, ℕ, true, All}
use Rattle.gold_field.specs.Form.{Holds}
use Rattle.cir_lc.specs.Number.{Assignment}
use Rattle.cir_determined.specs.Circuit.{Circuit, IsOutput, is_input}

abbrev pub Satisfies : Circuit → Assignment → Type 0
Satisfies c s = All (λ k. Holds s.at k) c.constraints

-- two assignments of numbers of the field to the wires, with 1 at wire 0, that satisfy every
-- constraint and agree on the inputs agree on the outputs
abbrev pub Determines : Circuit → Type 0
Determines c = (s t : Assignment) → Satisfies c s → Satisfies c t
    → ((w : ℕ) → is_input c w ≡ true → s.at w ≡ t.at w)
    → (w : ℕ) → IsOutput c w → s.at w ≡ t.at w
