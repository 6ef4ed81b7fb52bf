-- The code of a step writes as many numbers as the step has targets.
use Rattle.std.proofs.Common.{◌≡◌, ℕ, suc, ◌+◌, Bool, true, false, cond, List, [], ◌∷◌, length}
use Rattle.std.proofs.Common.{refl, sym, ap, ap₂, ◌∙◌, arith, length-append}
use Rattle.cir_ast.specs.declared.program.Meant.{Meant}
use Rattle.cir_ast.specs.Tree.{LogArgument, Words, LogValue}
use Rattle.cir_meaning.specs.Limits.{is_too_large}
use Rattle.cir_meaning.specs.Places.{elements, numbers_from}
use Rattle.cir_meaning.specs.Steps.{is_value, logged_cells}
use Rattle.std.proofs.lemmas.List.Sums.{sum_by-cons}
use Rattle.cir_meaning.specs.Values.{Value}
use Rattle.cir_steps.specs.Step.{Elements}
use Rattle.cir_steps.specs.Making.{written_elements, count_of}
use Rattle.wit_lower.specs.Homes.{slots_of}
use Rattle.wit_lower.specs.Tasks.{logged}
use Rattle.cir_emit.specs.Tasks.{elements_at, all_elements}
use Rattle.cir_emit.proofs.Lists.{from_long, map_long}

-- an assignment
pub assigned_count : (n next : ℕ) (places : List ℕ)
    → length (elements_at n places) ≡ length (numbers_from next (length places))
assigned_count n next places =
    map_long (λ k. record { variable = n; element = k }) places ∙
    sym (from_long next (length places))

-- a log line
logged_long : (arguments : List (LogArgument Meant))
    → length (logged arguments) ≡ logged_cells arguments
logged_long [] = refl
logged_long (Words text ∷ rest) = logged_long rest
logged_long (LogValue e ∷ rest) =
    omega (
      arith,
      logged_long rest,
      sum_by-cons (λ x. cond (is_value x) 1 0) (LogValue e) rest,
    )

pub logged_count : (next : ℕ) (arguments : List (LogArgument Meant))
    → length (logged arguments) ≡ length (numbers_from next (logged_cells arguments))
logged_count next arguments =
    logged_long arguments ∙ sym (from_long next (logged_cells arguments))

-- what a condition left
wanted_long : (wanted : List Elements) → length (all_elements wanted) ≡ count_of wanted
wanted_long [] = refl
wanted_long (x ∷ xs) =
    length-append (elements_at x.variable (numbers_from 0 x.count)) (all_elements xs) ∙
    ap₂ (λ a b. a + b)
    (map_long (λ k. record { variable = x.variable; element = k }) (numbers_from 0 x.count) ∙
    from_long 0 x.count) (wanted_long xs)

pub wanted_count : (next : ℕ) (wanted : List Elements)
    → length (all_elements wanted) ≡ length (numbers_from next (count_of wanted))
wanted_count next wanted = wanted_long wanted ∙ sym (from_long next (count_of wanted))

-- the elements of a signal that are written: all of the value's, or none where it is too large
pub written_count : (places : List ℕ) (dims : List ℕ) (items : List Value)
    → length items ≡ slots_of dims
    → (is_too_large dims ≡ false → length places ≡ elements dims)
    → length (written_elements places items) ≡ slots_of dims
written_count places dims items count h = at (is_too_large dims) refl count
  where
    none : (ps : List ℕ) (vs : List Value) → length vs ≡ 0
        → length (written_elements ps vs) ≡ 0
    none [] vs e = refl
    none (p ∷ ps) [] e = refl
    none (p ∷ ps) (v ∷ vs) e = cc

    all : (ps : List ℕ) (vs : List Value) → length ps ≡ length vs
        → length (written_elements ps vs) ≡ length vs
    all [] [] e = refl
    all [] (v ∷ vs) e = cc
    all (p ∷ ps) [] e = cc
    all (p ∷ ps) (v ∷ vs) e = ap (λ n. suc n) (all ps vs (omega (arith, e)))

    at : (b : Bool) → is_too_large dims ≡ b → length items ≡ cond b 0 (elements dims)
        → length (written_elements places items) ≡ cond b 0 (elements dims)
    at true e c = none places items c
    at false e c = all places items (h e ∙ sym c) ∙ c
