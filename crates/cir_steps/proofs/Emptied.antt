-- At the end of each statement all that it adds is counted.
use Rattle.std.proofs.Common.{◌≡◌, false, refl}
use Rattle.std.specs.Prelude.{⊤}
use Rattle.cir_ast.specs.declared.program.Spot.{Spot}
use Rattle.cir_ast.specs.declared.program.Meant.{Meant}
use Rattle.cir_ast.specs.Tree.{Statements}
use Rattle.cir_meaning.specs.Tried.{Where}
use Rattle.cir_meaning.specs.Limits.{nothing}
use Rattle.cir_meaning.specs.Arrays.{Datum, Whole}
use Rattle.cir_meaning.specs.Frame.{World, State, Context, settle, counted}
use Rattle.cir_meaning.specs.Evaluate.{value_in}
use Rattle.cir_meaning.specs.Statement.{Flow, Returned, exec_all}
use Rattle.cir_meaning.proofs.Good.{OnGood, good_ok, good_on, good_any}
use Rattle.cir_meaning.proofs.Keepings.{FlowIs, Keeping, exec_all_keeps}

abbrev pub IsEmptied : State → Type 0
IsEmptied s = s.frame.added ≡ nothing

pub settle_empties : (w : Where) (s : State) → OnGood IsEmptied (settle w s)
settle_empties w s = good_on IsEmptied _ _ (λ c. good_ok IsEmptied _ refl)

abbrev pub FlowEmptied : Flow → Type 0
FlowEmptied = FlowIs IsEmptied (λ (d : Datum) (world : World). ⊤)

module _ (k : Context) where
  abbrev emptying : Keeping k
  emptying = record {
    Kept = λ s. ⊤;
    Done = IsEmptied;
    Gone = λ d world. ⊤;
    done = λ s h. tt;
    value = λ w shaded want e s h. good_any _;
    settle = λ w s h. settle_empties w s;
    statement = λ s h. tt;
    step = λ w cost cells s h. good_any _;
    variable = λ n dims s h. tt;
    scanned = λ n dims s h. tt;
    forgotten = λ n s h. tt;
    signal = λ spot direction n name dims s h. tt;
    component = λ n name dims s h. tt;
    set_variable = λ w written n accessors e s h. good_any _;
    set_signal = λ w written m accessors arrow e s h. good_any _;
    equal = λ w a b s h. good_any _;
    create = λ w n accessors e s h. good_any _;
    returns = λ w e s h.
        good_on FlowEmptied (value_in k w false Whole e s) _ (λ x.
        good_on FlowEmptied (counted w x.1) _ (λ s2.
        good_ok FlowEmptied (Returned x.0 s2.world) tt));
  }

  pub body_empties : (ss : Statements Spot Meant) (s : State) → IsEmptied s
      → OnGood FlowEmptied (exec_all k ss s)
  body_empties ss s h = exec_all_keeps k emptying ss s h
