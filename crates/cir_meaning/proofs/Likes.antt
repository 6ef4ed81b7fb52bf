-- The evaluation of an expression changes nothing but what is counted.
use Rattle.std.proofs.Common.{◌≡◌, ℕ, Bool, List, refl, ap, ◌∙◌}
use Rattle.cir_ast.specs.declared.program.Meant.{Meant}
use Rattle.cir_ast.specs.Tree.{Expr, Exprs}
use Rattle.cir_meaning.specs.Tried.{Where}
use Rattle.cir_meaning.specs.Limits.{with_array}
use Rattle.cir_meaning.specs.Arrays.{Datum, Want}
use Rattle.cir_meaning.specs.Frame.{World, State, Context, Caller, adding}
use Rattle.cir_meaning.specs.Evaluate.{value_in, all_in}
use Rattle.cir_meaning.proofs.Good.{OnGood, good_weaker}
use Rattle.cir_meaning.proofs.ValueKeepings.{Valued, value_keeps, all_keeps}

-- the world behind a call
abbrev pub CallKeeps : Caller → Type 0
CallKeeps call =
    (w : Where) (n : ℕ) (ds : List Datum) (world : World)
    → OnGood (λ x. x.1 ≡ record world { counts = x.1.counts }) (call w n ds world)

-- a state that differs in counts alone
abbrev pub Like : State → State → Type 0
Like f s = (s.frame.variables ≡ f.frame.variables) × (s.frame.signals ≡ f.frame.signals)
    × (s.frame.components ≡ f.frame.components) × (s.frame.parts ≡ f.frame.parts)
    × (s.world ≡ record (f.world) { counts = s.world.counts })

pub like_itself : (s : State) → Like s s
like_itself s = (refl, refl, refl, refl, refl)

module _ (f : State) where
  abbrev pub Stays : {A : Type 0} → A × State → Type 0
  Stays x = Like f x.1

  arrays_like : (dims : List ℕ) (s : State) → Like f s → Like f (adding (with_array dims) s)
  arrays_like dims s l = l

  module _ (k : Context) (keeps : CallKeeps k.call) where
    calls_like : (w : Where) (n : ℕ) (ds : List Datum) (s : State) → Like f s
        → OnGood (λ x. Like f (record s { world = x.1 })) (k.call w n ds s.world)
    calls_like w n ds s l =
        good_weaker (λ x. x.1 ≡ record (s.world) { counts = x.1.counts })
        (λ x. Like f (record s { world = x.1 })) (k.call w n ds s.world) (keeps w n ds s.world)
        (λ x e.
        (l.0, l.1, l.2, l.3, e ∙ ap (λ (v : World). record v { counts = x.1.counts }) l.4))

    pub value_like : (w : Where) (shaded : Bool) (want : Want) (e : Expr Meant) (s : State)
        → Like f s → OnGood Stays (value_in k w shaded want e s)
    value_like w shaded want e s l =
        value_keeps (Like f) k arrays_like calls_like w shaded want e s l

    pub all_like : (w : Where) (shaded : Bool) (es : Exprs Meant) (s : State) → Like f s
        → OnGood Stays (all_in k w shaded es s)
    all_like w shaded es s l = all_keeps (Like f) k arrays_like calls_like w shaded es s l

    pub valued_like : (shaded : Bool) → Valued k (Like f) shaded
    valued_like shaded w want e s l = value_like w shaded want e s l
