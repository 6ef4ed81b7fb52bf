-- A call that has its value has numbers of the field, as many as its dimensions say.
use Rattle.std.proofs.Common.{◌≡◌, ℕ, zero, suc, ◌<◌, Bool, true, cond, List, [], ◌∷◌, length, Some}
use Rattle.std.proofs.Common.{None, Ok, Err, refl, ap, subst, ◌∙◌, arith}
use Rattle.std.specs.Prelude.{slice_index_or, false}
use Rattle.std.specs.List.{AllByRecursion, list_all}
use Rattle.gold_field.specs.declared.gold.TheConstants.{P}
use Rattle.cir_ast.specs.declared.program.Meant.{Meant}
use Rattle.cir_ast.specs.Tree.{Expr}
use Rattle.cir_meaning.specs.Tried.{Where, Tried}
use Rattle.cir_meaning.specs.Arrays.{Datum, Whole, is_known, is_all_known}
use Rattle.cir_meaning.specs.Values.{Value, Known, Linear, Quadratic, Opaque, IsValue}
use Rattle.cir_meaning.specs.Frame.{State, Context, uncounted}
use Rattle.cir_meaning.specs.Evaluate.{value_in}
use Rattle.cir_meaning.specs.RunValues.{Numbers}
use Rattle.cir_meaning.specs.Run.{settled_items, known_numbers, known_value}
use Rattle.cir_meaning.proofs.Good.{OnGood}
use Rattle.cir_meaning.proofs.Pairs.{good_both}
use Rattle.cir_meaning.proofs.FineValues.{FineContext, Fine, FineAnswer, IsDatum, value_fine}
use Rattle.cir_steps.proofs.Sized.{SizedCall, value_sized}
use Rattle.wit_lower.specs.Homes.{slots_of}
use Rattle.wit_lower.specs.Fits.{AreNumbers}

settled_long : (vs : List Value) → length (settled_items vs []) ≡ length vs
settled_long [] = refl
settled_long (v ∷ vs) = ap (λ n. suc n) (settled_long vs)

numbers_below : (vs : List Value) → list_all is_known vs ≡ true → AllByRecursion IsValue vs
    → (k d : ℕ) → k < length (settled_items vs []) → slice_index_or (settled_items vs []) k d < P
numbers_below [] e h k d l = absurd (omega (arith, l))
numbers_below (Known n ∷ vs) e h zero d l = h.0
numbers_below (Known n ∷ vs) e h (suc k) d l = numbers_below vs e h.1 k d (omega (arith, l))
numbers_below (Linear f ∷ vs) e h k d l = cc
numbers_below (Quadratic a b c ∷ vs) e h k d l = cc
numbers_below (Opaque ∷ vs) e h k d l = cc

datum_numbers : (d : Datum) (m : Numbers) → IsDatum d → length d.items ≡ slots_of d.dims
    → known_numbers d ≡ Some m → AreNumbers m
datum_numbers d m fine count e = at (is_all_known d) refl e
  where
    at : (b : Bool) → is_all_known d ≡ b
        → cond b (Some record { dims = d.dims; items = settled_items d.items [] }) None ≡ Some m
        → AreNumbers m
    at true eb es =
        let same : record { dims = d.dims; items = settled_items d.items [] } ≡ m = cc in
        subst AreNumbers same record {
          count = settled_long d.items ∙ count;
          numbers = numbers_below d.items eb fine;
        }
    at false eb es = cc

answer_numbers : (r : Tried (Datum × State)) (m : Numbers)
    → OnGood (λ x. (length x.0.items ≡ slots_of x.0.dims) × FineAnswer x) r
    → known_value r ≡ Some m → AreNumbers m
unfolding OnGood
answer_numbers (Ok x) m h e = datum_numbers x.0 m h.1.0 h.0 e
answer_numbers (Err y) m h e = cc

pub known_are_numbers : (k : Context) (fine : FineContext k) (sized : SizedCall k.call) (w : Where)
    (s : State) → Fine s → (e : Expr Meant) (m : Numbers)
    → known_value (value_in k w true Whole e (uncounted s)) ≡ Some m → AreNumbers m
known_are_numbers k fine sized w s i e m is =
    answer_numbers (value_in k w true Whole e (uncounted s)) m
    (good_both (λ x. length x.0.items ≡ slots_of x.0.dims) FineAnswer
    (value_in k w true Whole e (uncounted s)) (value_sized k sized w true Whole e (uncounted s))
    (value_fine k fine w true Whole e (uncounted s) i)) is
