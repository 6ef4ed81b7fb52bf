-- A polynomial's values, place by place.
use Rattle.std.specs.Prelude.{ℕ, ◌*◌, ◌%◌, ◌^◌, List, map}
use Rattle.std.specs.List.{range_with_len}
use Rattle.gold_field.specs.declared.gold.TheConstants.{P}
use Rattle.gold_ntt.specs.Polynomial.{eval_at}
use Rattle.gold_ntt.specs.Transform.{root_of}

-- at 7 times the powers of the root of order 2 ^ e
abbrev pub values_at : ℕ → List ℕ → List ℕ
values_at e coefs = map (λ j. eval_at coefs (7 * root_of e ^ j % P)) (range_with_len 0 (2 ^ e))
