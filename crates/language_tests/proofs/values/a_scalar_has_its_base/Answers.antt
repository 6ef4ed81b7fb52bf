use Rattle.std.proofs.Common.{◌-◌, [], ◌∷◌, ap, refl, arith}
use Rattle.std.specs.Prelude.{slice_get}
use Rattle.language_tests.proofs.values.a_scalar_has_its_base.Goals as goal

pub name-requires : goal.name-requires
name-requires g c =
    record {
      first = omega arith;
      entry = record { instance = 0; base = 99 ∷ []; place = 0 };
      there = ap (λ ns. slice_get ns (1 - 1)) c.one_signal-signals.ensures;
      named = record {
        declared = 99 ∷ [];
        dims = [];
        base = record { spelled = refl; plain = (λ e. omega (arith, e), tt); small = tt };
        inside = omega arith;
      };
    }
