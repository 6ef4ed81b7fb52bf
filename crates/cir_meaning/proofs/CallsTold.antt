-- In a run's environment a call that is known has its numbers already, and another one is opaque.
use Rattle.std.proofs.Common.{◌≡◌, ◌⊎◌, inl, inr, ℕ, Bool, true, false, cond, List, [], ◌∷◌, Option}
use Rattle.std.proofs.Common.{Some, None, Ok, Err, refl, ap, subst, ◌∙◌}
use Rattle.std.specs.List.{list_all}
use Rattle.cir_ast.specs.declared.program.Meant.{Meant}
use Rattle.cir_ast.specs.declared.program.Meant.TheVariants as meant
use Rattle.cir_ast.specs.declared.refusal.Form.TheVariants.{LiteralPlace}
use Rattle.cir_ast.specs.declared.refusal.Kind.TheVariants.{ShapeDiffers, NotInProfile}
use Rattle.cir_ast.specs.Tree.{Call, Exprs}
use Rattle.cir_lc.specs.Number.{Assignment}
use Rattle.cir_meaning.specs.Tried.{Where, Tried, refused}
use Rattle.cir_meaning.specs.Limits.{nothing}
use Rattle.cir_meaning.specs.Arrays.{Datum, Want, Scalar, Whole, fits, single, is_known}
use Rattle.cir_meaning.specs.Arrays.{is_all_known}
use Rattle.cir_meaning.specs.Values.{Value, Known, Linear, Quadratic, Opaque}
use Rattle.cir_meaning.specs.Frame.{Signals, Part, ComponentEntry, World, State, Context, uncounted}
use Rattle.cir_meaning.specs.Evaluate.{answered, has_literal, call_known, called, value_in, all_in}
use Rattle.cir_meaning.specs.RunValues.{Numbers}
use Rattle.cir_meaning.specs.Run.{settled_items, known_numbers, known_value}
use Rattle.cir_meaning.proofs.Good.{OnGood, good_ok, good_bad, good_next, good_on, good_needed}
use Rattle.cir_meaning.proofs.Good.{good_weaker}
use Rattle.cir_meaning.proofs.Pairs.{good_both}
use Rattle.cir_meaning.proofs.Same.{Rows, Same}
use Rattle.cir_meaning.proofs.Likes.{Like}
use Rattle.cir_meaning.proofs.Sound.{Told}
use Rattle.cir_meaning.proofs.Twins.{Twin, nothing_below, counted_as}
use Rattle.cir_meaning.proofs.ValueTwins.{Darker, Wider, Answers, value_twin}
use Rattle.cir_meaning.proofs.KnownValues.{KnownDatum, pass_all}
use Rattle.cir_meaning.proofs.KnownCalls.{CallBoth, both_twin, both_known}

-- what is known is told by its numbers
known_rows : (E : Assignment → Type 0) (vs : List Value) → list_all is_known vs ≡ true
    → Rows E vs (settled_items vs [])
known_rows E [] h = tt
known_rows E (Known n ∷ vs) h = (refl, known_rows E vs h)
known_rows E (Linear f ∷ vs) h = cc
known_rows E (Quadratic a b c ∷ vs) h = cc
known_rows E (Opaque ∷ vs) h = cc

told : (E : Assignment → Type 0) (d : Datum) (o : Option Numbers) → known_numbers d ≡ o
    → (is_all_known d ≡ true) ⊎ (d ≡ single Opaque) → Told E d o
told E d o e h = at (is_all_known d) refl o e h
  where
    at : (b : Bool) → is_all_known d ≡ b → (o : Option Numbers)
        → cond b (Some record { dims = d.dims; items = settled_items d.items [] }) None ≡ o
        → (b ≡ true) ⊎ (d ≡ single Opaque) → Told E d o
    at true k None e h = cc
    at true k (Some m) e h =
        let same : record { dims = d.dims; items = settled_items d.items [] } ≡ m = cc in
        subst (λ a. Same E d a) same (refl, known_rows E d.items k)
    at false k None e (inl h) = cc
    at false k None e (inr h) = h
    at false k (Some m) e h = cc

-- a call's answer is known, or opaque
abbrev IsEither : Datum × State → Type 0
IsEither x = (is_all_known x.0 ≡ true) ⊎ (x.0 ≡ single Opaque)

module _ (k : Context) (both : CallBoth k.call) where
  known_either : (w : Where) (want : Want) (m : Meant) (ds : List Datum) (s : State)
      → list_all is_all_known ds ≡ true → OnGood IsEither (call_known k w want m ds s)
  known_either w want (meant.Function n) ds s h =
      good_next (λ x. KnownDatum x.0) IsEither (k.call w n ds s.world) _
      (both_known k.call both w n ds s.world h) (λ x p.
      good_needed IsEither (fits want x.0.dims) w ShapeDiffers _
      (good_ok IsEither _ (inl (pass_all is_known x.0.items p))))
  known_either w want meant.Other ds s h = good_bad IsEither _
  known_either w want (meant.Variable n) ds s h = good_bad IsEither _
  known_either w want (meant.Signal direction n) ds s h = good_bad IsEither _
  known_either w want (meant.Component n) ds s h = good_bad IsEither _
  known_either w want (meant.Template n) ds s h = good_bad IsEither _

  called_either : (w : Where) (want : Want) (m : Meant) (arguments : Exprs Meant)
      (ds : List Datum) (s : State) → OnGood IsEither (called k w want m arguments ds s)
  called_either w want m arguments ds s = at (list_all is_all_known ds) refl
    where
      literal : (b : Bool)
          → OnGood IsEither (cond b (refused w (NotInProfile LiteralPlace)) (answered Opaque s))
      literal true = good_bad IsEither _
      literal false = good_ok IsEither _ (inr refl)

      at : (b : Bool) → list_all is_all_known ds ≡ b
          → OnGood IsEither (cond b (call_known k w want m ds s)
          (cond (has_literal arguments) (refused w (NotInProfile LiteralPlace))
          (answered Opaque s)))
      at true e = known_either w want m ds s e
      at false e = literal (has_literal arguments)

  call_either : (w : Where) (shaded : Bool) (want : Want) (parallel : Bool) (name : List ℕ)
      (m : Meant) (arguments : Exprs Meant) (s : State)
      → OnGood IsEither (value_in k w shaded want (Call parallel name m arguments) s)
  call_either w shaded want parallel name m arguments s =
      good_on IsEither (all_in k w shaded arguments s) _
      (λ x. called_either w want m arguments x.0 x.1)

-- the numbers that the second answer has are those of the first
twin_numbers : (m r : Tried (Datum × State)) (o : Option Numbers) → Twin Answers m r
    → known_value r ≡ o → OnGood (λ x. known_numbers x.0 ≡ o) m
unfolding Twin OnGood
twin_numbers (Ok a) (Ok b) o h e = subst (λ d. known_numbers d ≡ o) h.0 e
twin_numbers (Ok a) (Err e) o h g = absurd h
twin_numbers (Err e) r o h g = tt

-- a state with nothing counted, by one that differs in counts
uncounted_like : (f s : State) → Like f s → counted_as s nothing nothing ≡ uncounted f
uncounted_like f s l =
    ap (λ (vs : List Datum). whole vs s.frame.signals s.frame.components s.frame.parts s.world) l.0
    ∙ ap (λ (x : Signals). whole f.frame.variables x s.frame.components s.frame.parts s.world) l.1
    ∙ ap (λ (x : List (Option ComponentEntry)).
    whole f.frame.variables f.frame.signals x s.frame.parts s.world) l.2
    ∙ ap (λ (x : List Part).
    whole f.frame.variables f.frame.signals f.frame.components x s.world) l.3
    ∙ ap (λ (v : World).
    whole f.frame.variables f.frame.signals f.frame.components f.frame.parts v) l.4
  where
    whole : List Datum → Signals → List (Option ComponentEntry) → List Part → World → State
    whole variables signals components parts world = record {
      frame = record {
        variables = variables;
        signals = signals;
        components = components;
        parts = parts;
        added = nothing;
      };
      world = record world { counts = nothing };
    }

-- wider and darker
deepest : (shaded : Bool) → Darker shaded true
deepest true = refl
deepest false = tt

widest : (want : Want) → Wider want Whole
widest Scalar = tt
widest Whole = tt

pub call_told : (E : Assignment → Type 0) (k : Context) (both : CallBoth k.call) (w : Where)
    (f : State) (shaded : Bool) (want : Want) (parallel : Bool) (name : List ℕ) (m : Meant)
    (arguments : Exprs Meant) (s : State) → Like f s
    → OnGood (λ x. Told E x.0
    (known_value (value_in k w true Whole (Call parallel name m arguments) (uncounted f))))
    (value_in k w shaded want (Call parallel name m arguments) s)
call_told E k both w f shaded want parallel name m arguments s l =
    good_weaker (λ x. (known_numbers x.0 ≡ known_value
    (value_in k w true Whole (Call parallel name m arguments) (uncounted f))) × IsEither x)
    (λ x. Told E x.0
    (known_value (value_in k w true Whole (Call parallel name m arguments) (uncounted f))))
    (value_in k w shaded want (Call parallel name m arguments) s)
    (good_both (λ x. known_numbers x.0 ≡ known_value
    (value_in k w true Whole (Call parallel name m arguments) (uncounted f))) IsEither
    (value_in k w shaded want (Call parallel name m arguments) s)
    (twin_numbers (value_in k w shaded want (Call parallel name m arguments) s)
    (value_in k w true Whole (Call parallel name m arguments) (uncounted f)) _
    (subst (λ t. Twin Answers (value_in k w shaded want (Call parallel name m arguments) s)
    (value_in k w true Whole (Call parallel name m arguments) t)) (uncounted_like f s l)
    (value_twin k (both_twin k.call both) w shaded true want Whole
    (Call parallel name m arguments) s nothing nothing (deepest shaded) (widest want)
    (nothing_below s.frame.added) (nothing_below s.world.counts))) refl)
    (call_either k both w shaded want parallel name m arguments s))
    (λ x p. told E x.0 _ p.0 p.1)
