use Rattle.std.proofs.Common.{◌≡◌, ℕ, ◌-◌, List, [], ◌∷◌, ◌++◌, ap, sym, arith}
use Rattle.std.specs.Fmt.{decimal}
use Rattle.std.proofs.lemmas.Fmt.{decimal_digit}
use Rattle.std.specs.Prelude.{slice_get}
use Rattle.language_tests.proofs.values.an_element_has_its_indices.Goals as goal

pub name-requires : goal.name-requires
name-requires g c =
    let two : decimal 2 ≡ 50 ∷ [] = decimal_digit 2 (omega arith) in
    let declared : List ℕ = 105 ∷ 110 ∷ [] in
    let spelled-with : List ℕ → List ℕ =
    λ d. 105 ∷ 110 ∷ 91 ∷ (d ++ (93 ∷ 91 ∷ (d ++ (93 ∷ [])))) in
    record {
      first = omega arith;
      entry = record { instance = 0; base = spelled-with (50 ∷ []); place = 2 };
      there = ap (λ ns. slice_get ns (1 - 1)) c.one_signal-signals.ensures;
      named = record {
        declared = declared;
        dims = 2 ∷ 2 ∷ [];
        base = record {
          spelled = ap spelled-with (sym two);
          plain = (λ e. omega (arith, e), (λ e. omega (arith, e), tt));
          small = (omega arith, (omega arith, tt));
        };
        inside = omega arith;
      };
    }
