-- What terms mean that stand in any order, with repeated wires and values 0.
use Rattle.std.specs.Prelude.{◌==◌, ℕ, zero, suc, ◌+◌, ◌%◌, ◌<◌, List, [], ◌∷◌, All, sum_by}
use Rattle.std.specs.Prelude.{if◌then◌else◌}
use Rattle.gold_field.specs.declared.form.Term.{Term}
use Rattle.gold_field.specs.declared.form.Constraint.{Constraint}
use Rattle.gold_field.specs.declared.gold.TheConstants.{P}

-- a term whose signal is one of so many wires
pub record IsTermOver (wires : ℕ) (t : Term) : Type 0 where
  pub signal : t.signal < wires
  pub coef : t.coef < P

pub record IsOver (wires : ℕ) (k : Constraint) : Type 0 where
  pub a : All (IsTermOver wires) k.a
  pub b : All (IsTermOver wires) k.b
  pub c : All (IsTermOver wires) k.c

-- the sum of the values that stand with this wire, as a number of the field
abbrev pub coefficient : ℕ → List Term → ℕ
coefficient wire terms = sum_by (λ t. if t.signal == wire then t.coef else 0) terms % P

-- the terms of n wires, this one first: a wire whose values add up to 0 has none
abbrev pub form_from : ℕ → ℕ → List Term → List Term
form_from wire zero terms = []
form_from wire (suc n) terms =
    if coefficient wire terms == 0
    then form_from (wire + 1) n terms
    else record { signal = wire; coef = coefficient wire terms } ∷ form_from (wire + 1) n terms

-- the linear combination over so many wires
unfoldable pub form_of : ℕ → List Term → List Term
form_of wires terms = form_from 0 wires terms

abbrev pub meaning : ℕ → Constraint → Constraint
meaning wires k = record { a = form_of wires k.a; b = form_of wires k.b; c = form_of wires k.c }
