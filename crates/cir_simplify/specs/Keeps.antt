-- What simplification keeps of the assignments that satisfy a list.
use Rattle.std.specs.Prelude.{◌≡◌, ℕ, ◌<◌, Bool, List, All, true, ◌↔◌}
use Rattle.gold_field.specs.declared.form.Constraint.{Constraint}
use Rattle.gold_field.specs.declared.gold.TheConstants.{P}
use Rattle.gold_field.specs.Form.{Holds}
use Rattle.cir_lc.specs.Number.{Assignment}
use Rattle.cir_simplify.specs.declared.types.Level.{Level}
use Rattle.cir_simplify.specs.Wires.{is_kept, wire_of}

-- the assignment satisfies each constraint of the list
abbrev pub HoldAll : Assignment → List Constraint → Type 0
HoldAll s list = All (λ k. Holds s.at k) list

-- the two agree on the signals that are kept
abbrev pub Agree : Level → ℕ → List Constraint → Assignment → Assignment → Type 0
Agree level kept list s t = (x : ℕ) → is_kept level kept list x ≡ true → t.at x ≡ s.at x

-- what satisfies the list after simplification is what extends to an assignment that satisfies the
-- one before
abbrev pub KeepsSolutions : Level → ℕ → List Constraint → List Constraint → Type 0
KeepsSolutions level kept before now =
    (s : Assignment)
    → HoldAll s now ↔ ((t : Assignment) × Agree level kept now s t × HoldAll t before)

-- values of the wires satisfy the constraints over wires exactly when they extend to an assignment
-- that satisfies the list given; wire 0 has the number 1
abbrev pub WiresKeepSolutions : (ℕ → Bool) → List Constraint → List Constraint → Type 0
WiresKeepSolutions keeps before over =
    (w : ℕ → ℕ) → w 0 ≡ 1 → ((i : ℕ) → w i < P)
    → All (λ k. Holds w k) over
    ↔ ((t : Assignment) × ((x : ℕ) → keeps x ≡ true → t.at x ≡ w (wire_of keeps x))
    × HoldAll t before)
