-- Which constraint is solved, and for which of its signals.
use Rattle.std.specs.Prelude.{ℕ, ◌+◌, ◌%◌, Bool, true, false, ◌&&◌, ◌||◌, not, ◌==◌, nat_lt, nat_le}
use Rattle.std.specs.Prelude.{List, [], ◌∷◌, length, Option, Some, None, if◌then◌else◌}
use Rattle.std.specs.List.{list_any}
use Rattle.gold_field.specs.declared.form.Term.{Term}
use Rattle.gold_field.specs.declared.form.Constraint.{Constraint}
use Rattle.gold_field.specs.declared.gold.TheConstants.{P}
use Rattle.cir_simplify.specs.declared.types.Level.{Level}
use Rattle.cir_simplify.specs.declared.types.Level.TheVariants.{O0, O1, O2}
use Rattle.cir_simplify.specs.declared.types.Rules.{Rules}

abbrev pub has_no_terms : List Term → Bool
has_no_terms [] = true
has_no_terms (t ∷ ts) = false

-- A, B and C are empty
abbrev pub is_empty : Constraint → Bool
is_empty k = has_no_terms k.a && has_no_terms k.b && has_no_terms k.c

abbrev pub terms_in : Constraint → ℕ
terms_in k = length k.a + length k.b + length k.c

-- whether a term of the signal is among the terms
abbrev pub names : ℕ → List Term → Bool
names signal terms = list_any (λ t. t.signal == signal) terms

abbrev pub names_in : ℕ → Constraint → Bool
names_in signal k = names signal k.a || names signal k.b || names signal k.c

-- one signal, with or without signal 0, or two signals with opposite coefficients and no signal 0;
-- signals rise, so signal 0 stands first
abbrev pub is_short : List Term → Bool
is_short [] = false
is_short (t ∷ []) = not (t.signal == 0)
is_short (t ∷ (u ∷ [])) = (t.signal == 0) || ((t.coef + u.coef) % P == 0)
is_short (t ∷ (u ∷ (v ∷ ts))) = false

abbrev pub fits : Level → List Term → Bool
fits O0 c = false
fits O1 c = is_short c
fits O2 c = true

-- the term, where none behind it is taken and its signal is eliminable
abbrev pub unless_later : ℕ → Term → Option Term → Option Term
unless_later kept t (Some u) = Some u
unless_later kept t None = if nat_lt kept t.signal then Some t else None

-- the term of the greatest signal above `kept`; signals rise, so it is the last one
abbrev pub greatest : ℕ → List Term → Option Term
greatest kept [] = None
greatest kept (t ∷ ts) = unless_later kept t (greatest kept ts)

-- the term for whose signal the constraint is solved, where it is linear, not too long and fits
abbrev pub pivot : Rules → Constraint → Option Term
pivot r k =
    if has_no_terms k.a && nat_le (length k.c) 1024 && fits r.level k.c then greatest r.kept k.c
    else None
