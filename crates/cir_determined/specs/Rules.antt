-- The three rules by which a constraint in normal form shows something of its wires.
use Rattle.std.specs.Prelude.{◌≡◌, ◌≢◌, ℕ, ◌-◌, ◌<◌, ◌⊎◌, Bool, true, false, not, ◌||◌, ◌==◌}
use Rattle.std.specs.Prelude.{List, [], ◌∷◌, All, filter, map, Option, Some, None, slice_get}
use Rattle.std.specs.List.{list_any}
use Rattle.gold_field.specs.declared.form.Term.{Term}
use Rattle.gold_field.specs.declared.form.Constraint.{Constraint}
use Rattle.gold_field.specs.declared.gold.TheConstants.{P}
use Rattle.cir_determined.specs.declared.rule.Rule.{Rule}
use Rattle.cir_determined.specs.declared.rule.Rule.TheVariants.{Solve, Bool as Boolean, Bits}
use Rattle.cir_determined.specs.Marks.{Marks}
use Rattle.cir_determined.specs.Bits.{AreBits}

-- whether the wire stands in one of the terms
abbrev pub is_named : (wire : ℕ) → List Term → Bool
is_named wire terms = list_any (λ t. t.signal == wire) terms

-- every wire of the terms is known, or is this one
abbrev pub AreKnownBut : Marks → (wire : ℕ) → List Term → Type 0
AreKnownBut m wire terms = All (λ t. (t.signal ≡ wire) ⊎ (m.known t.signal ≡ true)) terms

-- Solve: the wire stands in C alone and isn't known, and every other wire of the constraint is
pub record Solves (m : Marks) (k : Constraint) (wire : ℕ) : Type 0 where
  pub fresh : m.known wire ≡ false
  pub named : is_named wire k.c ≡ true
  pub not_left : is_named wire k.a ≡ false
  pub not_right : is_named wire k.b ≡ false
  pub left : AreKnownBut m wire k.a
  pub right : AreKnownBut m wire k.b
  pub rest : AreKnownBut m wire k.c

-- the terms are a multiple of the wire
pub record IsMultiple (wire : ℕ) (terms : List Term) : Type 0 where
  pub factor : ℕ
  pub positive : 0 < factor
  pub below : factor < P
  pub terms_are : terms ≡ record { signal = wire; coef = factor } ∷ []

-- the terms are a multiple of the wire less 1
pub record IsMultipleLessOne (wire : ℕ) (terms : List Term) : Type 0 where
  pub factor : ℕ
  pub positive : 0 < factor
  pub below : factor < P
  pub terms_are : terms ≡ record { signal = 0; coef = P - factor }
      ∷ (record { signal = wire; coef = factor } ∷ [])

-- the constraint says that the wire is 0 or 1
pub record SaysBoolean (k : Constraint) (wire : ℕ) : Type 0 where
  pub empty : k.c ≡ []
  pub factors : (IsMultiple wire k.a × IsMultipleLessOne wire k.b)
      ⊎ (IsMultipleLessOne wire k.a × IsMultiple wire k.b)

-- Bool: the constraint says that the wire is 0 or 1, which isn't shown yet
pub record ShowsBoolean (m : Marks) (k : Constraint) (wire : ℕ) : Type 0 where
  pub positive : 0 < wire
  pub fresh : m.boolean wire ≡ false
  pub says : SaysBoolean k wire

-- the terms whose wires aren't known, and their coefficients
abbrev pub unknown : Marks → List Term → List Term
unknown m terms = filter (λ t. not (m.known t.signal)) terms

abbrev pub unknown_coefs : Marks → List Term → List ℕ
unknown_coefs m terms = map (λ t. t.coef) (unknown m terms)

-- Bits: a linear constraint whose unknown wires are 0 or 1 each, and bits of one number
pub record ShowsBits (m : Marks) (k : Constraint) : Type 0 where
  pub left : k.a ≡ []
  pub right : k.b ≡ []
  pub some : unknown m k.c ≢ []
  pub booleans : All (λ t. m.boolean t.signal ≡ true) (unknown m k.c)
  pub bits : AreBits (unknown_coefs m k.c)

-- whether a rule applies to the constraint at its place, if there is one
abbrev pub AppliesTo : Option Constraint → Marks → Rule → Type 0
AppliesTo None m r = ⊥
AppliesTo (Some k) m (Solve _ wire) = Solves m k wire
AppliesTo (Some k) m (Boolean _ wire) = ShowsBoolean m k wire
AppliesTo (Some k) m (Bits _) = ShowsBits m k

abbrev pub place_of : Rule → ℕ
place_of (Solve constraint _) = constraint
place_of (Boolean constraint _) = constraint
place_of (Bits constraint) = constraint

-- a rule applies where there is its constraint and it says what the rule needs
abbrev pub Applies : List Constraint → Marks → Rule → Type 0
Applies ks m r = AppliesTo (slice_get ks (place_of r)) m r

-- the wire is known too
abbrev pub with_known : (wire : ℕ) → Marks → Marks
with_known wire m = record { known = λ w. (w == wire) || m.known w; boolean = m.boolean }

-- the wire is shown to be 0 or 1 too
abbrev pub with_boolean : (wire : ℕ) → Marks → Marks
with_boolean wire m = record { known = m.known; boolean = λ w. (w == wire) || m.boolean w }

-- the wires of the terms are known too
abbrev pub with_all_known : List Term → Marks → Marks
with_all_known terms m = record { known = λ w. is_named w terms || m.known w; boolean = m.boolean }

-- what has been shown behind a rule that applies to the constraint
abbrev pub shown_at : Constraint → Marks → Rule → Marks
shown_at k m (Solve _ wire) = with_known wire m
shown_at k m (Boolean _ wire) = with_boolean wire m
shown_at k m (Bits _) = with_all_known k.c m

abbrev pub shown_from : Option Constraint → Marks → Rule → Marks
shown_from None m r = m
shown_from (Some k) m r = shown_at k m r

-- what has been shown behind a rule for the constraint at its place
abbrev pub shown : List Constraint → Marks → Rule → Marks
shown ks m r = shown_from (slice_get ks (place_of r)) m r
