-- Lists of rules as certificates that the inputs determine the outputs. The circuit's constraints
-- are in normal form.
use Rattle.std.specs.Prelude.{◌≡◌, ℕ, ◌*◌, ◌<◌, ◌≤◌, true, false, List, [], ◌∷◌, length, take}
use Rattle.std.specs.Prelude.{Some, slice_get}
use Rattle.gold_field.specs.declared.form.Constraint.{Constraint}
use Rattle.cir_determined.specs.declared.rule.Rule.{Rule}
use Rattle.cir_determined.specs.declared.rule.Confirm.{Confirm}
use Rattle.cir_determined.specs.declared.rule.Confirm.TheVariants.{Confirmed, BadRule, Short}
use Rattle.cir_determined.specs.declared.rule.Answer.{Answer}
use Rattle.cir_determined.specs.declared.rule.Answer.TheVariants.{Shown, NotShown}
use Rattle.cir_determined.specs.Circuit.{Circuit, IsOutput}
use Rattle.cir_determined.specs.Marks.{Marks, opening}
use Rattle.cir_determined.specs.Rules.{Applies, shown}

-- each rule applies to what the rules before it have shown
abbrev pub AllApply : List Constraint → Marks → List Rule → Type 0
AllApply ks m [] = Unit {0}
AllApply ks m (r ∷ rs) = Applies ks m r × AllApply ks (shown ks m r) rs

abbrev pub shown_by : List Constraint → Marks → List Rule → Marks
shown_by ks m [] = m
shown_by ks m (r ∷ rs) = shown_by ks (shown ks m r) rs

-- no rule applies any more
abbrev pub IsClosed : List Constraint → Marks → Type 0
IsClosed ks m = (r : Rule) → Applies ks m r → ⊥

-- the rules apply one after the other, and make all outputs known
pub record IsCertificate (c : Circuit) (rs : List Rule) : Type 0 where
  pub apply : AllApply c.constraints (opening c) rs
  pub outputs : (w : ℕ) → IsOutput c w → (shown_by c.constraints (opening c) rs).known w ≡ true

-- the rule at the place is the first that doesn't apply
pub record IsFirstBad (c : Circuit) (rs : List Rule) (index : ℕ) : Type 0 where
  pub rule : Rule
  pub there : slice_get rs index ≡ Some rule
  pub before : AllApply c.constraints (opening c) (take index rs)
  pub not_here : Applies c.constraints (shown_by c.constraints (opening c) (take index rs)) rule → ⊥

-- all rules apply, and the wire is the least output that they leave unknown
pub record IsShort (c : Circuit) (rs : List Rule) (wire : ℕ) : Type 0 where
  pub apply : AllApply c.constraints (opening c) rs
  pub output : IsOutput c wire
  pub not_known : (shown_by c.constraints (opening c) rs).known wire ≡ false
  pub least : (w : ℕ) → IsOutput c w → w < wire
      → (shown_by c.constraints (opening c) rs).known w ≡ true

abbrev pub IsVerdict : Circuit → List Rule → Confirm → Type 0
IsVerdict c rs Confirmed = IsCertificate c rs
IsVerdict c rs (BadRule index) = IsFirstBad c rs index
IsVerdict c rs (Short wire) = IsShort c rs wire

-- some rules that apply one after the other make the wire known
pub record CanBeShown (c : Circuit) (wire : ℕ) : Type 0 where
  pub rules : List Rule
  pub apply : AllApply c.constraints (opening c) rules
  pub known : (shown_by c.constraints (opening c) rules).known wire ≡ true

-- the wire is the least output that no rules make known
pub record IsLeastUnshown (c : Circuit) (wire : ℕ) : Type 0 where
  pub output : IsOutput c wire
  pub never : CanBeShown c wire → ⊥
  pub least : (w : ℕ) → IsOutput c w → w < wire → CanBeShown c w

-- a certificate with at most two rules a wire, or the least output that no rules make known
abbrev pub IsAnswer : Circuit → Answer → Type 0
IsAnswer c (Shown rules) = IsCertificate c rules.items × (length rules.items ≤ 2 * c.wires)
IsAnswer c (NotShown wire) = IsLeastUnshown c wire

-- there is a certificate
abbrev pub IsShown : Answer → Type 0
IsShown (Shown rules) = Unit {0}
IsShown (NotShown wire) = ⊥
