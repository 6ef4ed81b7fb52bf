-- All values that are computed are numbers of the field, and all equations are of differences.
use Rattle.std.specs.Prelude.{⊤}
use Rattle.std.proofs.Common.{◌≡◌, ℕ, ◌+◌, ◌%◌, Bool, true, false, List, [], ◌∷◌, ◌++◌, map}
use Rattle.std.proofs.Common.{flat_map, length, replicate, Option, Some, None, Ok, refl, is_some}
use Rattle.std.proofs.Common.{slice_get, mod-lt, lit<}
use Rattle.std.specs.List.{AllByRecursion, list_all}
use Rattle.gold_field.specs.declared.gold.TheConstants.{P}
use Rattle.gold_field.specs.declared.operators.Op2.{Op2}
use Rattle.cir_ast.specs.declared.program.Meant.{Meant}
use Rattle.cir_ast.specs.declared.program.Meant.TheVariants as meant
use Rattle.cir_ast.specs.declared.refusal.Kind.TheVariants.{UnknownIndex, ShapeDiffers}
use Rattle.cir_ast.specs.declared.refusal.Kind.TheVariants.{ReadBeforeWrite}
use Rattle.cir_ast.specs.Tree.{Expr, Number, Place, Call, Anonymous, Parentheses, Array, Unary}
use Rattle.cir_ast.specs.Tree.{Binary, Choice, Exprs, none, more, Accessors, done, index, member}
use Rattle.cir_lc.specs.Number.{signal}
use Rattle.cir_meaning.specs.Tried.{Where, Tried, found}
use Rattle.cir_meaning.specs.Places.{elements}
use Rattle.cir_meaning.specs.Limits.{is_too_large}
use Rattle.cir_meaning.specs.Values.{Value, Known, Linear, Opaque, IsValue, result_of, chosen}
use Rattle.cir_meaning.specs.Values.{side_of, known_number, unary_result}
use Rattle.cir_meaning.specs.Source.{IsDifference}
use Rattle.cir_meaning.specs.Arrays.{Datum, Want, Scalar, Whole, fits, single, made, filled}
use Rattle.cir_meaning.specs.Arrays.{item_at, the_item, is_all_known, same_dims, Reach, reach}
use Rattle.cir_meaning.specs.Arrays.{read_part}
use Rattle.cir_meaning.specs.Operators.{Operator, Strict, And, Or, operator_of, unary_of}
use Rattle.cir_meaning.specs.Operators.{left_tells, applied, divided_at, shading, first_shading}
use Rattle.cir_meaning.specs.Operators.{second_shading}
use Rattle.cir_meaning.specs.Frame.{SignalEntry, Part, Frame, World, State, Context, Caller, Maker}
use Rattle.cir_meaning.specs.Frame.{signal_item, variable_at, entry_at}
use Rattle.cir_meaning.specs.Reading.{Origin, Stored, Wired, Lost, Root, Named, Found, is_readable}
use Rattle.cir_meaning.specs.Reading.{read_origin, origin_of, inner_origin, part_at, part_origin}
use Rattle.cir_meaning.specs.Reading.{located, named_signal}
use Rattle.cir_meaning.specs.Evaluate.{scalar, answered, looked_at, has_literal, gathered}
use Rattle.cir_meaning.specs.Evaluate.{call_known, called, value_in, all_in, read_in, dims_in}
use Rattle.cir_meaning.specs.Evaluate.{arguments_in, indices_in}
use Rattle.cir_meaning.proofs.ValueLaws.{result_value, unary_value}
use Rattle.cir_meaning.proofs.LazyLaws.{and_value, or_value, chosen_value}
use Rattle.cir_meaning.proofs.Good.{OnGood, good_ok, good_bad, good_next, good_on, good_needed}
use Rattle.cir_meaning.proofs.Good.{good_weaker, either, OnSome'}
use Rattle.cir_meaning.proofs.ValueKeepings.{Valued, dims_kept, indices_kept}
use Rattle.cir_meaning.proofs.Rows.{at_or, all_replicate, all_map, all_joined}

abbrev pub IsDatum : Datum → Type 0
IsDatum d = AllByRecursion IsValue d.items

abbrev pub FineFrame : Frame → Type 0
FineFrame f = AllByRecursion IsDatum f.variables

abbrev pub FineWorld : World → Type 0
FineWorld w = AllByRecursion IsDifference w.equations

abbrev pub Fine : State → Type 0
Fine s = FineFrame s.frame × FineWorld s.world

-- an answer with the state behind it
abbrev pub FineAnswer : Datum × State → Type 0
FineAnswer x = IsDatum x.0 × Fine x.1

abbrev pub FineAnswers : List Datum × State → Type 0
FineAnswers x = AllByRecursion IsDatum x.0 × Fine x.1

abbrev pub FineCall : Caller → Type 0
FineCall call =
    (w : Where) (n : ℕ) (ds : List Datum) (world : World) → AllByRecursion IsDatum ds → FineWorld
    world
    → OnGood (λ x. IsDatum x.0 × FineWorld x.1) (call w n ds world)

abbrev pub FineMake : Maker → Type 0
FineMake make =
    (w : Where) (n : ℕ) (ds : List Datum) (path : List ℕ) (world : World) → AllByRecursion IsDatum
    ds → FineWorld world
    → OnGood (λ x. FineWorld x.1) (make w n ds path world)

pub record FineContext (k : Context) : Type 0 where
  pub call : FineCall k.call
  pub make : OnSome' FineMake k.make

pub zero_value : IsValue (Known 0)
zero_value = lit< tt

pub single_datum : (v : Value) → IsValue v → IsDatum (single v)
single_datum v h = (h, tt)

pub the_value : (d : Datum) → IsDatum d → IsValue (the_item d)
the_value d h = at_or IsValue d.items 0 (Known 0) h zero_value

pub made_datum : (dims : List ℕ) (items : List Value) → AllByRecursion IsValue items
    → IsDatum (made dims items)
made_datum dims items h = either (AllByRecursion IsValue) (is_too_large dims) [] items tt h

pub filled_datum : (dims : List ℕ) (v : Value) → IsValue v → IsDatum (filled dims v)
filled_datum dims v h =
    either (AllByRecursion IsValue) (is_too_large dims) [] (replicate (elements dims) v) tt
    (all_replicate IsValue (elements dims) v h)

pub part_datum : (r : Reach) (item : ℕ → Value) → ((k : ℕ) → IsValue (item k))
    → IsDatum (read_part r item)
part_datum r item h =
    either IsDatum r.is_sure (made r.left (map item r.places)) (filled r.left Opaque)
    (made_datum r.left (map item r.places) (all_map IsValue item r.places h))
    (filled_datum r.left Opaque tt)

pub signal_value : (n : ℕ) → IsValue (Linear (signal n))
unfolding signal
signal_value n = λ s. s.below n

pub signal_item_value : (e : SignalEntry) (k : ℕ) → IsValue (signal_item e k)
signal_item_value e k =
    either IsValue (is_some (slice_get e.written k)) (Linear (signal (e.first + k))) (Known 0)
    (signal_value (e.first + k)) zero_value

abbrev pub FineSource : Origin → Type 0
FineSource (Stored d) = IsDatum d
FineSource (Wired may_read e) = ⊤
FineSource Lost = ⊤

abbrev pub FineRoot : Root → Type 0
FineRoot (Named m) = ⊤
FineRoot (Found source) = FineSource source

pub variable_datum : (f : Frame) (n : ℕ) → FineFrame f → IsDatum (variable_at f n)
variable_datum f n h = at_or IsDatum f.variables n (single (Known 0)) h (zero_value, tt)

read_source_fine : (w : Where) (shaded : Bool) (want : Want) (indices : List (Option ℕ))
    (source : Origin)
    → FineSource source → OnGood IsDatum (read_origin w shaded want indices source)
read_source_fine w shaded want indices (Stored d) h =
    good_on IsDatum (reach w shaded want d.dims indices) (λ r. Ok (read_part r (item_at d.items)))
    (λ r. good_ok IsDatum _ (part_datum r (item_at d.items)
    (λ k. at_or IsValue d.items k (Known 0) h zero_value)))
read_source_fine w shaded want indices (Wired may_read e) h =
    good_on IsDatum (reach w shaded want e.dims indices) _
    (λ r. good_needed IsDatum (is_readable may_read e indices r.places) w
    ReadBeforeWrite (Ok (read_part r (signal_item e)))
    (good_ok IsDatum _ (part_datum r (signal_item e) (signal_item_value e))))
read_source_fine w shaded want indices Lost h = good_ok IsDatum _ (tt, tt)

source_fine : (w : Where) (root : Root) (f : Frame) → FineRoot root → FineFrame f
    → OnGood FineSource (origin_of w root f)
source_fine w (Found source) f r h = good_ok FineSource _ r
source_fine w (Named (meant.Variable n)) f r h = good_ok FineSource _ (variable_datum f n h)
source_fine w (Named (meant.Signal direction n)) f r h =
    good_on FineSource (found w ReadBeforeWrite (entry_at f.signals n)) (λ e. Ok (Wired true e))
    (λ e. good_ok FineSource _ tt)
source_fine w (Named meant.Other) f r h = good_bad FineSource _
source_fine w (Named (meant.Component n)) f r h = good_bad FineSource _
source_fine w (Named (meant.Template n)) f r h = good_bad FineSource _
source_fine w (Named (meant.Function n)) f r h = good_bad FineSource _

-- a signal of a component holds no value
part_source_fine : (w : Where) (name : List ℕ) (p : Part) → OnGood FineSource (part_origin w name p)
part_source_fine w name p =
    good_on FineSource (named_signal w name p.signals) _ (λ e. good_ok FineSource _ tt)

located_fine : (w : Where) (name : List ℕ) (j : Option ℕ) (parts : List Part)
    → OnGood FineSource (located w name j parts)
located_fine w name None parts = good_ok FineSource _ tt
located_fine w name (Some j) parts =
    good_on FineSource (found w ReadBeforeWrite (slice_get parts j)) (part_origin w name)
    (part_source_fine w name)

inner_fine : (w : Where) (shaded : Bool) (root : Root) (indices : List (Option ℕ)) (name : List ℕ)
    (f : Frame)
    → OnGood FineSource (inner_origin w shaded root indices name f)
inner_fine w shaded (Named (meant.Component n)) indices name f =
    good_on FineSource (part_at w shaded n indices f) _
    (λ j. located_fine w name j f.parts)
inner_fine w shaded (Named (meant.Variable n)) indices name f = good_bad FineSource _
inner_fine w shaded (Named (meant.Signal direction n)) indices name f = good_bad FineSource _
inner_fine w shaded (Named meant.Other) indices name f = good_bad FineSource _
inner_fine w shaded (Named (meant.Template n)) indices name f = good_bad FineSource _
inner_fine w shaded (Named (meant.Function n)) indices name f = good_bad FineSource _
inner_fine w shaded (Found source) indices name f = good_bad FineSource _

-- operators
divided_fine : (w : Where) (shaded : Bool) (op : Op2) (x y : Value) (o : Option Value)
    → result_of op x y ≡ o → IsValue x → IsValue y → OnGood IsValue (divided_at w shaded o)
divided_fine w shaded op x y (Some v) e h g = good_ok IsValue v (result_value op x y v h g e)
divided_fine w true op x y None e h g = good_ok IsValue Opaque tt
divided_fine w false op x y None e h g = good_bad IsValue _

applied_fine : (w : Where) (shaded : Bool) (op : Operator) (x y : Value) → IsValue x → IsValue y
    → OnGood IsValue (applied w shaded op x y)
applied_fine w shaded (Strict op) x y h g = divided_fine w shaded op x y (result_of op x y) refl h g
applied_fine w shaded And x y h g = good_ok IsValue _ (and_value x y)
applied_fine w shaded Or x y h g = good_ok IsValue _ (or_value x y)

answered_fine : (v : Value) (s : State) → IsValue v → Fine s → OnGood FineAnswer (answered v s)
answered_fine v s h g = good_ok FineAnswer _ ((h, tt), g)

-- steps of an evaluation
pub scalar_fine : {A : Type 0} (Q : A → Type 0) (m : Tried (Datum × State))
    (go : Value → State → Tried A)
    → OnGood FineAnswer m
    → ((v : Value) (s : State) → IsValue v → Fine s → OnGood Q (go v s)) → OnGood Q (scalar m go)
scalar_fine Q m go h f =
    good_next FineAnswer Q m (λ (d, s). go (the_item d) s) h
    (λ x p. f (the_item x.0) x.1 (the_value x.0 p.0) p.1)

looked_fine : {A : Type 0} (Q : A → Type 0) (o : Option Bool) (s : State)
    (value : Bool → Tried (Datum × State)) (go : Value → State → Tried A)
    → Fine s → ((dark : Bool) → OnGood FineAnswer (value dark)) →
    ((v : Value) (s : State) → IsValue v → Fine s → OnGood Q (go v s))
    → OnGood Q (looked_at o s value go)
looked_fine Q None s value go g h f = f (Known 0) s zero_value g
looked_fine Q (Some dark) s value go g h f = scalar_fine Q (value dark) go (h dark) f

module _ (k : Context) (fine : FineContext k) where
  call_known_fine : (w : Where) (want : Want) (m : Meant) (ds : List Datum) (s : State)
      → AllByRecursion IsDatum ds → Fine s → OnGood FineAnswer (call_known k w want m ds s)
  call_known_fine w want (meant.Function f) ds s h g =
      good_next (λ x. IsDatum x.0 × FineWorld x.1) FineAnswer (k.call w f ds s.world) _
      (fine.call w f ds s.world h g.1)
      (λ x p. good_needed FineAnswer (fits want x.0.dims) w ShapeDiffers _
      (good_ok FineAnswer _ (p.0, (g.0, p.1))))
  call_known_fine w want meant.Other ds s h g = good_bad FineAnswer _
  call_known_fine w want (meant.Variable n) ds s h g = good_bad FineAnswer _
  call_known_fine w want (meant.Signal direction n) ds s h g = good_bad FineAnswer _
  call_known_fine w want (meant.Component n) ds s h g = good_bad FineAnswer _
  call_known_fine w want (meant.Template n) ds s h g = good_bad FineAnswer _

  called_fine : (w : Where) (want : Want) (m : Meant) (arguments : Exprs Meant) (ds : List Datum)
      (s : State)
      → AllByRecursion IsDatum ds → Fine s → OnGood FineAnswer (called k w want m arguments ds s)
  called_fine w want m arguments ds s h g =
      either (OnGood FineAnswer) (list_all is_all_known ds) (call_known k w want m ds s) _
      (call_known_fine w want m ds s h g)
      (either (OnGood FineAnswer) (has_literal arguments) _ (answered Opaque s)
      (good_bad FineAnswer _) (answered_fine Opaque s tt g))

  gathered_fine : (w : Where) (ds : List Datum) (s : State) → AllByRecursion IsDatum ds → Fine s
      → OnGood FineAnswer (gathered w ds s)
  gathered_fine w [] s h g = answered_fine Opaque s tt g
  gathered_fine w (d ∷ ds) s h g =
      good_needed FineAnswer (list_all (λ e. same_dims e.dims d.dims) ds) w ShapeDiffers _
      (good_ok FineAnswer _ (
        made_datum (length (d ∷ ds) ∷ d.dims)
            (flat_map (λ e. e.items) (d ∷ ds)) (all_joined IsValue (λ e. e.items) (d ∷ ds) h),
        g,
      ))

  mutual
    pub value_fine : (w : Where) (shaded : Bool) (want : Want) (e : Expr Meant) (s : State) → Fine s
        → OnGood FineAnswer (value_in k w shaded want e s)
    value_fine w shaded want (Number n) s g = answered_fine (Known (n % P)) s (mod-lt n (lit< tt)) g
    value_fine w shaded want (Place name m accessors) s g =
        read_fine w shaded want (Named m) [] accessors s tt g
    value_fine w shaded want (Call parallel name m arguments) s g =
        good_next FineAnswers FineAnswer (all_in k w shaded arguments s) _
        (all_fine w shaded arguments s g)
        (λ x p. called_fine w want m arguments x.0 x.1 p.0 p.1)
    value_fine w shaded want (Anonymous parallel name m arguments inputs) s g =
        good_bad FineAnswer _
    value_fine w shaded want (Parentheses e) s g = value_fine w shaded want e s g
    value_fine w shaded Scalar (Array items) s g = good_bad FineAnswer _
    value_fine w shaded Whole (Array items) s g =
        good_next FineAnswers FineAnswer (all_in k w shaded items s) _ (all_fine w shaded items s g)
        (λ x p. gathered_fine w x.0 x.1 p.0 p.1)
    value_fine w shaded want (Unary op a) s g =
        scalar_fine FineAnswer (value_in k w shaded Scalar a s) _ (value_fine w shaded Scalar a s g)
        (λ x s1 h g1. answered_fine (unary_result (unary_of op) x) s1
        (unary_value (unary_of op) x h) g1)
    value_fine w shaded want (Binary op a b) s g =
        scalar_fine FineAnswer (value_in k w shaded Scalar a s) _ (value_fine w shaded Scalar a s g)
        (λ x s1 h g1.
        looked_fine FineAnswer (shading (left_tells (operator_of op) x) shaded) s1 _ _ g1
        (λ dark. value_fine w dark Scalar b s1 g1) (λ y s2 i g2.
        good_next IsValue FineAnswer (applied w shaded (operator_of op) x y) _
        (applied_fine w shaded (operator_of op) x y h i) (λ v p. answered_fine v s2 p g2)))
    value_fine w shaded want (Choice c a b) s g =
        scalar_fine FineAnswer (value_in k w shaded Scalar c s) _ (value_fine w shaded Scalar c s g)
        (λ x s1 h g1.
        looked_fine FineAnswer (first_shading (side_of x) shaded) s1 _ _ g1
        (λ dark. value_fine w dark Scalar a s1 g1) (λ y s2 i g2.
        looked_fine FineAnswer (second_shading (side_of x) shaded) s2 _ _ g2
        (λ dark. value_fine w dark Scalar b s2 g2) (λ z s3 j g3.
        answered_fine (chosen (side_of x) y z) s3 (chosen_value (side_of x) y z i j) g3)))

    pub all_fine : (w : Where) (shaded : Bool) (es : Exprs Meant) (s : State) → Fine s
        → OnGood FineAnswers (all_in k w shaded es s)
    all_fine w shaded none s g = good_ok FineAnswers _ (tt, g)
    all_fine w shaded (more e es) s g =
        good_next FineAnswer FineAnswers (value_in k w shaded Whole e s) _
        (value_fine w shaded Whole e s g) (λ x p.
        good_next FineAnswers FineAnswers (all_in k w shaded es x.1) _
        (all_fine w shaded es x.1 p.1) (λ y q. good_ok FineAnswers _ ((p.0, q.0), q.1)))

    read_fine : (w : Where) (shaded : Bool) (want : Want) (root : Root) (indices : List (Option ℕ))
        (accessors : Accessors Meant) (s : State)
        → FineRoot root → Fine s → OnGood FineAnswer (read_in k w shaded want root indices accessors
        s)
    read_fine w shaded want root indices done s r g =
        good_next FineSource FineAnswer (origin_of w root s.frame) _
        (source_fine w root s.frame r g.0) (λ source p.
        good_next IsDatum FineAnswer (read_origin w shaded want indices source) _
        (read_source_fine w shaded want indices source p) (λ d q. good_ok FineAnswer _ (q, g)))
    read_fine w shaded want root indices (index e rest) s r g =
        scalar_fine FineAnswer (value_in k w shaded Scalar e s) _ (value_fine w shaded Scalar e s g)
        (λ x s1 h g1. read_fine w shaded want root (indices ++ known_number x ∷ []) rest s1 r g1)
    read_fine w shaded want root indices (member name rest) s r g =
        good_next FineSource FineAnswer (inner_origin w shaded root indices name s.frame) _
        (inner_fine w shaded root indices name s.frame)
        (λ source p. read_fine w shaded want (Found source) [] rest s p g)

  pub known_fine : (shaded : Bool) → Valued k Fine shaded
  known_fine shaded w want e s g =
      good_weaker FineAnswer (λ x. Fine x.1) (value_in k w shaded want e s)
      (value_fine w shaded want e s g) (λ x p. p.1)

  pub dims_fine : (w : Where) (shaded : Bool) (es : Exprs Meant) (s : State) → Fine s
      → OnGood (λ x. Fine x.1) (dims_in k w shaded es s)
  dims_fine w shaded = dims_kept k Fine shaded (known_fine shaded) w

  pub arguments_fine : (w : Where) (es : Exprs Meant) (s : State) → Fine s
      → OnGood FineAnswers (arguments_in k w es s)
  arguments_fine w none s g = good_ok FineAnswers _ (tt, g)
  arguments_fine w (more e es) s g =
      good_next FineAnswer FineAnswers (value_in k w false Whole e s) _
      (value_fine w false Whole e s g) (λ x p.
      good_needed FineAnswers (is_all_known x.0) w UnknownIndex _
      (good_next FineAnswers FineAnswers (arguments_in k w es x.1) _ (arguments_fine w es x.1 p.1)
      (λ y q. good_ok FineAnswers _ ((p.0, q.0), q.1))))

  pub indices_fine : {A : Type 0} (Q : A → Type 0) (w : Where) (shaded : Bool)
      (indices : List (Option ℕ)) (accessors : Accessors Meant) (s : State)
      (go : List (Option ℕ) → Accessors Meant → State → Tried A) → Fine s
      → ((indices : List (Option ℕ)) (rest : Accessors Meant) (s : State) → Fine s → OnGood Q
      (go indices rest s))
      → OnGood Q (indices_in k w shaded indices accessors s go)
  indices_fine Q w shaded = indices_kept k Fine shaded (known_fine shaded) Q w
