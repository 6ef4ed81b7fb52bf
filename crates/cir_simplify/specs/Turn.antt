-- Simplification: the first constraint that fits is solved, and what it says of a signal is put in
-- everywhere.
use Rattle.std.specs.Prelude.{ℕ, zero, suc, ◌-◌, ◌%◌, not, nat_le, List, [], ◌∷◌, ◌++◌, length, map}
use Rattle.std.specs.Prelude.{sum_by, Option, Some, None, Result, Ok, Err, if◌then◌else◌}
use Rattle.std.specs.List.{filter}
use Rattle.gold_field.specs.declared.form.Term.{Term}
use Rattle.gold_field.specs.declared.form.Constraint.{Constraint}
use Rattle.gold_field.specs.declared.gold.TheConstants.{P}
use Rattle.gold_field.specs.Operators.{inverse_of}
use Rattle.cir_lc.specs.Number.{value_of, signal, added, scaled}
use Rattle.cir_lc.specs.Sparse.{form_of}
use Rattle.cir_lc.specs.Substitution.{substitute}
use Rattle.cir_simplify.specs.declared.types.Level.{Level}
use Rattle.cir_simplify.specs.declared.types.Level.TheVariants.{O0, O1, O2}
use Rattle.cir_simplify.specs.declared.types.Rules.{Rules}
use Rattle.cir_simplify.specs.declared.types.Solved.{Solved}
use Rattle.cir_simplify.specs.Shape.{is_empty, terms_in, pivot}

-- a constraint's C, and the term for whose signal it is solved
pub record Pick : Type 0 where
  pub term : Term
  pub form : List Term

-- the constraints that are left, and the equations so far, in the order in which they were solved
pub record Simplified : Type 0 where
  pub list : List Constraint
  pub solved : List Solved

-- at O0 the list stays as it is; else empty constraints go
abbrev pub dropped : Level → List Constraint → List Constraint
dropped O0 list = list
dropped O1 list = filter (λ k. not (is_empty k)) list
dropped O2 list = filter (λ k. not (is_empty k)) list

abbrev pub or_later : Option Term → List Term → Option Pick → Option Pick
or_later (Some t) c later = Some (record { term = t; form = c })
or_later None c later = later

-- the first constraint of the list that is solved
abbrev pub first_pivot : Rules → List Constraint → Option Pick
first_pivot r [] = None
first_pivot r (k ∷ ks) = or_later (pivot r k) k.c (first_pivot r ks)

-- what C = 0 says of the signal: it is the signal less C divided by its coefficient
abbrev pub solution : ℕ → Pick → List Term
solution n p =
    form_of n
    (added (signal p.term.signal) (scaled ((P - inverse_of p.term.coef) % P) (value_of p.form)))

-- the solution put into every constraint, the solved one included, which thereby becomes empty
abbrev pub after : Rules → Simplified → Pick → Simplified
after r s p = record {
  list = dropped r.level (map (substitute r.bound p.term.signal (solution r.bound p)) s.list);
  solved = s.solved ++ (record { signal = p.term.signal; value = solution r.bound p } ∷ []);
}

-- a list has at most 8,388,608 terms; else their count is the answer
abbrev pub limited : (Simplified → Result Simplified ℕ) → Simplified → Result Simplified ℕ
limited next s =
    if nat_le (sum_by terms_in s.list) 8388608 then next s else Err (sum_by terms_in s.list)

abbrev pub turn : (Simplified → Result Simplified ℕ) → Rules → Simplified → Option Pick
    → Result Simplified ℕ
turn next r s None = Ok s
turn next r s (Some p) = limited next (after r s p)

-- at most n turns
abbrev pub turns : Rules → ℕ → Simplified → Result Simplified ℕ
turns r zero s = Ok s
turns r (suc n) s = turn (turns r n) r s (first_pivot r s.list)

-- each turn takes a constraint away, so there are no more turns than constraints
abbrev pub simplified : Rules → List Constraint → Result Simplified ℕ
simplified r list =
    limited (turns r (length list)) (record { list = dropped r.level list; solved = [] })
