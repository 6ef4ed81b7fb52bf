-- What the values of expressions stand for.
use Rattle.std.specs.Prelude.{ℕ, ◌<◌, Option, Some, None}
use Rattle.gold_field.specs.declared.gold.TheConstants.{P}
use Rattle.cir_lc.specs.Number.{value_of}
use Rattle.cir_lc.specs.Terms.{IsWithin}
use Rattle.cir_lc.specs.Normal.{IsQuadWithin}
use Rattle.cir_lc.specs.declared.quad.Quad.{Quad}
use Rattle.cir_values.specs.declared.value.Value.{Value}
use Rattle.cir_values.specs.declared.value.Value.TheVariants.{Known, Linear, Quadratic, Opaque}
use Rattle.cir_values.specs.declared.operators.Lazy.{Lazy}
use Rattle.cir_values.specs.declared.operators.Lazy.TheVariants.{Decided, Right, Shaded}
use Rattle.cir_values.specs.declared.operators.Strict.{Strict}
use Rattle.cir_values.specs.declared.operators.Strict.TheVariants.{Sum, Difference, Product}
use Rattle.cir_values.specs.declared.operators.Strict.TheVariants.{Quotient, Power, Division, Plain}
use Rattle.cir_values.specs.declared.operators.Side.{Side}
use Rattle.cir_values.specs.declared.operators.Side.TheVariants.{First, Second, Both}
use Rattle.cir_meaning.specs.Source.{parts_from}
use Rattle.cir_meaning.specs.Values as M

abbrev pub meant : Value → M.Value
meant (Known k) = M.Known k
meant (Linear f) = M.Linear (value_of f)
meant (Quadratic q) = M.Quadratic (value_of q.a) (value_of q.b) (value_of q.c)
meant Opaque = M.Opaque

-- names signals below n alone, with numbers of the field
abbrev pub IsValueWithin : ℕ → Value → Type 0
IsValueWithin n (Known k) = k < P
IsValueWithin n (Linear f) = IsWithin n f
IsValueWithin n (Quadratic q) = IsQuadWithin n q
IsValueWithin n Opaque = Unit {0}

abbrev pub meant_option : Option Value → Option M.Value
meant_option None = None
meant_option (Some v) = Some (meant v)

abbrev pub meant_parts : Option Quad → Option M.Parts
meant_parts None = None
meant_parts (Some q) = Some (parts_from q)

abbrev pub meant_lazy : Lazy → M.Lazy
meant_lazy (Decided n) = M.Decided n
meant_lazy Right = M.Right
meant_lazy Shaded = M.Shaded

abbrev pub meant_side : Side → M.Side
meant_side First = M.First
meant_side Second = M.Second
meant_side Both = M.Both

abbrev pub strict_result : Strict → M.Value → M.Value → Option M.Value
strict_result Sum x y = Some (M.sum_of x y)
strict_result Difference x y = Some (M.difference_of x y)
strict_result Product x y = Some (M.product_of x y)
strict_result Quotient x y = M.divided y (M.quotient_of x y)
strict_result Power x y = Some (M.power_of x y)
strict_result (Division op) x y = M.divided y (M.known_of op x y)
strict_result (Plain op) x y = Some (M.known_of op x y)
