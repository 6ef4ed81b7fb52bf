-- The first number of elements that is too large, one function after the other.
use Rattle.std.proofs.Common.{◌≡◌, ℕ, zero, suc, ◌<◌, List, [], ◌∷◌, ◌++◌, length, take, refl, ap}
use Rattle.std.proofs.Common.{sym, arith}
use Rattle.std.specs.Prelude.{Bool, true, false, ◌==◌, if◌then◌else◌, nat_lt, map, slice_get}
use Rattle.std.proofs.lemmas.Bool.Decides.{nat_tests}
use Rattle.cir_ast.specs.Program.{Program}
use Rattle.cir_meaning.specs.Costs.{Made}
use Rattle.cir_meaning.specs.Functions.{elements_of, first_too_large}
use Rattle.cir_meaning.specs.Limits.{standing}
use Rattle.cir_rules.specs.Judged.{too_many, too_large}

stood : (b c : Bool) (n : ℕ) → nat_lt 65536 n ≡ b → nat_lt 65536 (standing n) ≡ c
    → (if c then standing n else 0) ≡ standing (if b then n else 0)
stood true true n e f = refl
stood false false n e f = refl
stood true false n e f = absurd (grind (arith, nat_tests))
stood false true n e f = absurd (grind (arith, nat_tests))

pub too_many_stands : (n : ℕ) → too_many (standing n) ≡ standing (too_many n)
too_many_stands n = stood (nat_lt 65536 n) (nat_lt 65536 (standing n)) n refl refl

first_of_all : (b : Bool) (n later all y : ℕ) → nat_lt 65536 n ≡ b
    → standing all ≡ (if standing later == 0 then y else standing later)
    → standing (if b then n else all)
    ≡ (if standing (if b then n else later) == 0 then y else standing (if b then n else later))
first_of_all true n later all y e h =
    let some : (standing n == 0) ≡ false = grind (arith, nat_tests) in
    ap (λ c. if c then y else standing n) (sym some)
first_of_all false n later all y e h = h

pub elements_more : (p : Program) (known more : List Made) (n : ℕ) → n < length known
    → standing (first_too_large (map (elements_of p) (take (suc n) (known ++ more))))
    ≡ (if standing (first_too_large (map (elements_of p) (take n known))) == 0
    then standing (too_large p (slice_get known n))
    else standing (first_too_large (map (elements_of p) (take n known))))
elements_more p [] more n lt = absurd (omega arith)
elements_more p (m ∷ ms) more zero lt = refl
elements_more p (m ∷ ms) more (suc n) lt =
    first_of_all (nat_lt 65536 (elements_of p m)) (elements_of p m)
    (first_too_large (map (elements_of p) (take n ms)))
    (first_too_large (map (elements_of p) (take (suc n) (ms ++ more))))
    (standing (too_large p (slice_get ms n))) refl (elements_more p ms more n (omega arith))
