-- Values depend on those signals alone that the frame knows.
use Rattle.std.specs.Prelude.{⊤, ◌&&◌, bytes_eq}
use Rattle.std.proofs.Common.{◌≡◌, ℕ, zero, suc, ◌+◌, ◌%◌, Bool, true, false, cond, List, [], ◌∷◌}
use Rattle.std.proofs.Common.{◌++◌, map, flat_map, length, replicate, Option, Some, None, Ok, refl}
use Rattle.std.proofs.Common.{sym, subst, is_some, slice_get}
use Rattle.std.specs.List.{AllByRecursion, list_all}
use Rattle.gold_field.specs.declared.gold.TheConstants.{P}
use Rattle.gold_field.specs.declared.operators.Op2.{Op2}
use Rattle.cir_ast.specs.declared.program.Meant.{Meant}
use Rattle.cir_ast.specs.declared.program.Meant.TheVariants as meant
use Rattle.cir_ast.specs.declared.refusal.Kind.TheVariants.{ShapeDiffers, ReadBeforeWrite}
use Rattle.cir_ast.specs.Tree.{Expr, Number, Place, Call, Anonymous, Parentheses, Array, Unary}
use Rattle.cir_ast.specs.Tree.{Binary, Choice, Exprs, none, more, Accessors, done, index, member}
use Rattle.cir_lc.specs.Number.{signal}
use Rattle.cir_meaning.specs.Tried.{Where, Tried, found}
use Rattle.cir_meaning.specs.Places.{elements}
use Rattle.cir_meaning.specs.Limits.{is_too_large}
use Rattle.cir_meaning.specs.Values.{Value, Known, Linear, Quadratic, Opaque, result_of, chosen}
use Rattle.cir_meaning.specs.Values.{side_of, known_number, unary_result}
use Rattle.cir_meaning.specs.Arrays.{Datum, Want, Scalar, Whole, fits, single, made, filled}
use Rattle.cir_meaning.specs.Arrays.{item_at, the_item, is_all_known, same_dims, Reach, reach}
use Rattle.cir_meaning.specs.Arrays.{read_part}
use Rattle.cir_meaning.specs.Operators.{Operator, Strict, And, Or, operator_of, unary_of}
use Rattle.cir_meaning.specs.Operators.{left_tells, applied, divided_at, shading, first_shading}
use Rattle.cir_meaning.specs.Operators.{second_shading}
use Rattle.cir_meaning.specs.Frame.{SignalEntry, Signals, Part, Frame, State, Context, signal_item}
use Rattle.cir_meaning.specs.Frame.{variable_at, entry_at}
use Rattle.cir_meaning.specs.Reading.{Origin, Stored, Wired, Lost, Root, Named, Found, is_readable}
use Rattle.cir_meaning.specs.Reading.{read_origin, origin_of, inner_origin, part_at, part_origin}
use Rattle.cir_meaning.specs.Reading.{located, named_signal, find_signal, told_signal}
use Rattle.cir_meaning.specs.Evaluate.{scalar, answered, looked_at, has_literal, gathered}
use Rattle.cir_meaning.specs.Evaluate.{call_known, called, value_in, all_in, read_in}
use Rattle.cir_meaning.proofs.Depending.{Over, signal_over, result_over, unary_over, and_over}
use Rattle.cir_meaning.proofs.Depending.{or_over, chosen_over}
use Rattle.cir_meaning.proofs.Good.{OnGood, good_ok, good_bad, good_next, good_on, good_needed}
use Rattle.cir_meaning.proofs.Good.{good_found, either, OnSome'}
use Rattle.cir_meaning.proofs.Rows.{at_or, all_replicate, all_map, all_joined}
use Rattle.cir_meaning.proofs.Pairs.{good_both}
use Rattle.cir_meaning.proofs.Likes.{CallKeeps, Like, value_like}
use Rattle.cir_meaning.proofs.KnownValues.{KnownValue, KnownDatum, CallKnown}

-- one of two, by the test
pub either_as : {A : Type 0} (Q : A → Type 0) (b : Bool) (x y : A) → (b ≡ true → Q x) → Q y
    → Q (cond b x y)
either_as Q true x y h g = h refl
either_as Q false x y h g = g

pub some_at : {A : Type 0} (Q : A → Type 0) (xs : List A) (k : ℕ) → AllByRecursion Q xs
    → OnSome' Q (slice_get xs k)
some_at Q [] k h = tt
some_at Q (x ∷ xs) zero h = h.0
some_at Q (x ∷ xs) (suc k) h = some_at Q xs k h.1

pub record CallsOver (k : Context) : Type 0 where
  pub keeps : CallKeeps k.call
  pub known : CallKnown k.call

module _ (D : ℕ → Type 0) where
  abbrev pub DatumOver : Datum → Type 0
  DatumOver d = AllByRecursion (Over D) d.items

  -- the elements that can be written and read
  abbrev pub EntryOver : SignalEntry → Type 0
  EntryOver e = (k : ℕ) → is_some (slice_get e.written k) ≡ true → D (e.first + k)

  abbrev pub SignalsOver : Signals → Type 0
  SignalsOver signals = AllByRecursion (OnSome' EntryOver) signals

  abbrev pub PartOver : Part → Type 0
  PartOver p = SignalsOver p.signals

  pub record FrameOver (f : Frame) : Type 0 where
    pub variables : AllByRecursion DatumOver f.variables
    pub signals : SignalsOver f.signals
    pub parts : AllByRecursion PartOver f.parts

  pub known_value_over : (v : Value) → KnownValue v → Over D v
  known_value_over (Known k) h = tt
  known_value_over (Linear f) h = cc
  known_value_over (Quadratic a b c) h = cc
  known_value_over Opaque h = tt

  pub known_over : (vs : List Value) → AllByRecursion KnownValue vs
      → AllByRecursion (Over D) vs
  known_over [] h = tt
  known_over (v ∷ vs) h = (known_value_over v h.0, known_over vs h.1)

  pub the_over : (d : Datum) → DatumOver d → Over D (the_item d)
  the_over d h = at_or (Over D) d.items 0 (Known 0) h tt

  pub made_over : (dims : List ℕ) (items : List Value) → AllByRecursion (Over D) items
      → DatumOver (made dims items)
  made_over dims items h = either (AllByRecursion (Over D)) (is_too_large dims) [] items tt h

  pub filled_over : (dims : List ℕ) (v : Value) → Over D v → DatumOver (filled dims v)
  filled_over dims v h =
      either (AllByRecursion (Over D)) (is_too_large dims) [] (replicate (elements dims) v) tt
      (all_replicate (Over D) (elements dims) v h)

  part_over : (r : Reach) (item : ℕ → Value) → ((k : ℕ) → Over D (item k))
      → DatumOver (read_part r item)
  part_over r item h =
      either DatumOver r.is_sure (made r.left (map item r.places)) (filled r.left Opaque)
      (made_over r.left (map item r.places) (all_map (Over D) item r.places h))
      (filled_over r.left Opaque tt)

  item_over : (e : SignalEntry) → EntryOver e → (k : ℕ) → Over D (signal_item e k)
  item_over e h k =
      either_as (Over D) (is_some (slice_get e.written k)) (Linear (signal (e.first + k)))
      (Known 0) (λ t. signal_over D (e.first + k) (h k t)) tt

  abbrev pub SourceOver : Origin → Type 0
  SourceOver (Stored d) = DatumOver d
  SourceOver (Wired may_read e) = EntryOver e
  SourceOver Lost = ⊤

  abbrev pub RootOver : Root → Type 0
  RootOver (Named m) = ⊤
  RootOver (Found source) = SourceOver source

  pub variable_over : (f : Frame) (n : ℕ) → FrameOver f → DatumOver (variable_at f n)
  variable_over f n h = at_or DatumOver f.variables n (single (Known 0)) h.variables (tt, tt)

  pub entry_over : (signals : Signals) (n : ℕ) → SignalsOver signals
      → OnSome' EntryOver (entry_at signals n)
  entry_over signals n h = at_or (OnSome' EntryOver) signals n None h tt

  read_source_over : (w : Where) (shaded : Bool) (want : Want) (indices : List (Option ℕ))
      (source : Origin) → SourceOver source
      → OnGood DatumOver (read_origin w shaded want indices source)
  read_source_over w shaded want indices (Stored d) h =
      good_on DatumOver (reach w shaded want d.dims indices)
      (λ r. Ok (read_part r (item_at d.items)))
      (λ r. good_ok DatumOver _ (part_over r (item_at d.items)
      (λ k. at_or (Over D) d.items k (Known 0) h tt)))
  read_source_over w shaded want indices (Wired may_read e) h =
      good_on DatumOver (reach w shaded want e.dims indices) _
      (λ r. good_needed DatumOver (is_readable may_read e indices r.places) w
      ReadBeforeWrite (Ok (read_part r (signal_item e)))
      (good_ok DatumOver _ (part_over r (signal_item e) (item_over e h))))
  read_source_over w shaded want indices Lost h = good_ok DatumOver _ (tt, tt)

  source_over : (w : Where) (root : Root) (f : Frame) → RootOver root → FrameOver f
      → OnGood SourceOver (origin_of w root f)
  source_over w (Found source) f r h = good_ok SourceOver _ r
  source_over w (Named (meant.Variable n)) f r h = good_ok SourceOver _ (variable_over f n h)
  source_over w (Named (meant.Signal direction n)) f r h =
      good_next EntryOver SourceOver (found w ReadBeforeWrite (entry_at f.signals n))
      (λ e. Ok (Wired true e))
      (good_found EntryOver w ReadBeforeWrite (entry_at f.signals n)
      (entry_over f.signals n h.signals))
      (λ e g. good_ok SourceOver _ g)
  source_over w (Named meant.Other) f r h = good_bad SourceOver _
  source_over w (Named (meant.Component n)) f r h = good_bad SourceOver _
  source_over w (Named (meant.Template n)) f r h = good_bad SourceOver _
  source_over w (Named (meant.Function n)) f r h = good_bad SourceOver _

  -- a signal that is found by its name
  abbrev pub FoundOver : ℕ × SignalEntry → Type 0
  FoundOver x = EntryOver x.1

  find_over : (test : SignalEntry → Bool) (name : List ℕ) (n : ℕ) (signals : Signals)
      → SignalsOver signals → OnSome' FoundOver (find_signal test name n signals)
  find_over test name n [] h = tt
  find_over test name n (None ∷ rest) h = find_over test name (suc n) rest h.1
  find_over test name n (Some e ∷ rest) h =
      either (OnSome' FoundOver) (bytes_eq e.name name && test e) (Some (n, e))
      (find_signal test name (suc n) rest) h.0 (find_over test name (suc n) rest h.1)

  told_over : (w : Where) (inner : Bool) (o : Option (ℕ × SignalEntry)) → OnSome' FoundOver o
      → OnGood FoundOver (told_signal w inner o)
  told_over w inner None h = good_bad FoundOver _
  told_over w inner (Some x) h = good_ok FoundOver x h

  pub named_over : (w : Where) (name : List ℕ) (signals : Signals) → SignalsOver signals
      → OnGood FoundOver (named_signal w name signals)
  named_over w name signals h =
      told_over w _ _ (find_over _ name 0 signals h)

  part_source_over : (w : Where) (name : List ℕ) (p : Part) → PartOver p
      → OnGood SourceOver (part_origin w name p)
  part_source_over w name p h =
      good_next FoundOver SourceOver (named_signal w name p.signals) _
      (named_over w name p.signals h) (λ x g. good_ok SourceOver _ g)

  located_over : (w : Where) (name : List ℕ) (j : Option ℕ) (parts : List Part)
      → AllByRecursion PartOver parts → OnGood SourceOver (located w name j parts)
  located_over w name None parts h = good_ok SourceOver _ tt
  located_over w name (Some j) parts h =
      good_next PartOver SourceOver (found w ReadBeforeWrite (slice_get parts j))
      (part_origin w name)
      (good_found PartOver w ReadBeforeWrite (slice_get parts j) (some_at PartOver parts j h))
      (part_source_over w name)

  inner_over : (w : Where) (shaded : Bool) (root : Root) (indices : List (Option ℕ))
      (name : List ℕ) (f : Frame) → FrameOver f
      → OnGood SourceOver (inner_origin w shaded root indices name f)
  inner_over w shaded (Named (meant.Component n)) indices name f h =
      good_on SourceOver (part_at w shaded n indices f) _
      (λ j. located_over w name j f.parts h.parts)
  inner_over w shaded (Named (meant.Variable n)) indices name f h = good_bad SourceOver _
  inner_over w shaded (Named (meant.Signal direction n)) indices name f h =
      good_bad SourceOver _
  inner_over w shaded (Named meant.Other) indices name f h = good_bad SourceOver _
  inner_over w shaded (Named (meant.Template n)) indices name f h = good_bad SourceOver _
  inner_over w shaded (Named (meant.Function n)) indices name f h = good_bad SourceOver _
  inner_over w shaded (Found source) indices name f h = good_bad SourceOver _

  -- operators
  divided_over : (w : Where) (shaded : Bool) (op : Op2) (x y : Value) (o : Option Value)
      → result_of op x y ≡ o → Over D x → Over D y → OnGood (Over D) (divided_at w shaded o)
  divided_over w shaded op x y (Some v) e h g =
      good_ok (Over D) v (result_over D op x y v h g e)
  divided_over w true op x y None e h g = good_ok (Over D) Opaque tt
  divided_over w false op x y None e h g = good_bad (Over D) _

  applied_over : (w : Where) (shaded : Bool) (op : Operator) (x y : Value) → Over D x → Over D y
      → OnGood (Over D) (applied w shaded op x y)
  applied_over w shaded (Strict op) x y h g =
      divided_over w shaded op x y (result_of op x y) refl h g
  applied_over w shaded And x y h g = good_ok (Over D) _ (and_over D x y)
  applied_over w shaded Or x y h g = good_ok (Over D) _ (or_over D x y)

  module _ (f : State) (over : FrameOver f.frame) (k : Context) (calls : CallsOver k) where
    -- an answer, with a state that differs in counts alone
    abbrev AnswerOver : Datum × State → Type 0
    AnswerOver x = DatumOver x.0

    abbrev AnswersOver : List Datum × State → Type 0
    AnswersOver x = AllByRecursion DatumOver x.0

    abbrev Told : Datum × State → Type 0
    Told x = DatumOver x.0 × Like f x.1

    frame_like : (s : State) → Like f s → FrameOver s.frame
    frame_like s l = record {
      variables = subst (AllByRecursion DatumOver) (sym l.0) over.variables;
      signals = subst SignalsOver (sym l.1) over.signals;
      parts = subst (AllByRecursion PartOver) (sym l.3) over.parts;
    }

    told : (w : Where) (shaded : Bool) (want : Want) (e : Expr Meant) (s : State) → Like f s
        → OnGood AnswerOver (value_in k w shaded want e s)
        → OnGood Told (value_in k w shaded want e s)
    told w shaded want e s l h =
        good_both AnswerOver (λ x. Like f x.1) (value_in k w shaded want e s) h
        (value_like f k calls.keeps w shaded want e s l)

    scalar_over : {A : Type 0} (Q : A → Type 0) (m : Tried (Datum × State))
        (go : Value → State → Tried A) → OnGood Told m
        → ((v : Value) (s : State) → Over D v → Like f s → OnGood Q (go v s))
        → OnGood Q (scalar m go)
    scalar_over Q m go h g =
        good_next Told Q m (λ (d, s). go (the_item d) s) h
        (λ x p. g (the_item x.0) x.1 (the_over x.0 p.0) p.1)

    looked_over : {A : Type 0} (Q : A → Type 0) (o : Option Bool) (s : State)
        (value : Bool → Tried (Datum × State)) (go : Value → State → Tried A)
        → Like f s → ((dark : Bool) → OnGood Told (value dark))
        → ((v : Value) (s : State) → Over D v → Like f s → OnGood Q (go v s))
        → OnGood Q (looked_at o s value go)
    looked_over Q None s value go l h g = g (Known 0) s tt l
    looked_over Q (Some dark) s value go l h g = scalar_over Q (value dark) go (h dark) g

    answered_over : (v : Value) (s : State) → Over D v → OnGood AnswerOver (answered v s)
    answered_over v s h = good_ok AnswerOver _ (h, tt)

    call_over : (w : Where) (want : Want) (m : Meant) (ds : List Datum) (s : State)
        → list_all is_all_known ds ≡ true → OnGood AnswerOver (call_known k w want m ds s)
    call_over w want (meant.Function n) ds s t =
        good_next (λ x. KnownDatum x.0) AnswerOver (k.call w n ds s.world) _
        (calls.known w n ds s.world t)
        (λ x p. good_needed AnswerOver (fits want x.0.dims) w ShapeDiffers _
        (good_ok AnswerOver _ (known_over x.0.items p)))
    call_over w want meant.Other ds s t = good_bad AnswerOver _
    call_over w want (meant.Variable n) ds s t = good_bad AnswerOver _
    call_over w want (meant.Signal direction n) ds s t = good_bad AnswerOver _
    call_over w want (meant.Component n) ds s t = good_bad AnswerOver _
    call_over w want (meant.Template n) ds s t = good_bad AnswerOver _

    called_over : (w : Where) (want : Want) (m : Meant) (arguments : Exprs Meant)
        (ds : List Datum) (s : State) → OnGood AnswerOver (called k w want m arguments ds s)
    called_over w want m arguments ds s =
        either_as (OnGood AnswerOver) (list_all is_all_known ds) (call_known k w want m ds s) _
        (call_over w want m ds s)
        (either (OnGood AnswerOver) (has_literal arguments) _ (answered Opaque s)
        (good_bad AnswerOver _) (answered_over Opaque s tt))

    gathered_over : (w : Where) (ds : List Datum) (s : State) → AllByRecursion DatumOver ds
        → OnGood AnswerOver (gathered w ds s)
    gathered_over w [] s h = answered_over Opaque s tt
    gathered_over w (d ∷ ds) s h =
        good_needed AnswerOver (list_all (λ e. same_dims e.dims d.dims) ds) w ShapeDiffers _
        (good_ok AnswerOver _ (made_over (length (d ∷ ds) ∷ d.dims)
        (flat_map (λ e. e.items) (d ∷ ds)) (all_joined (Over D) (λ e. e.items) (d ∷ ds) h)))

    mutual
      pub value_over : (w : Where) (shaded : Bool) (want : Want) (e : Expr Meant) (s : State)
          → Like f s → OnGood AnswerOver (value_in k w shaded want e s)
      value_over w shaded want (Number n) s l = answered_over (Known (n % P)) s tt
      value_over w shaded want (Place name m accessors) s l =
          read_over w shaded want (Named m) [] accessors s tt l
      value_over w shaded want (Call parallel name m arguments) s l =
          good_on AnswerOver (all_in k w shaded arguments s) _
          (λ x. called_over w want m arguments x.0 x.1)
      value_over w shaded want (Anonymous parallel name m arguments inputs) s l =
          good_bad AnswerOver _
      value_over w shaded want (Parentheses e) s l = value_over w shaded want e s l
      value_over w shaded Scalar (Array items) s l = good_bad AnswerOver _
      value_over w shaded Whole (Array items) s l =
          good_next AnswersOver AnswerOver (all_in k w shaded items s) _
          (all_over w shaded items s l) (λ x p. gathered_over w x.0 x.1 p)
      value_over w shaded want (Unary op a) s l =
          scalar_over AnswerOver (value_in k w shaded Scalar a s) _
          (told w shaded Scalar a s l (value_over w shaded Scalar a s l))
          (λ x s1 h l1. answered_over (unary_result (unary_of op) x) s1
          (unary_over D (unary_of op) x h))
      value_over w shaded want (Binary op a b) s l =
          scalar_over AnswerOver (value_in k w shaded Scalar a s) _
          (told w shaded Scalar a s l (value_over w shaded Scalar a s l)) (λ x s1 h l1.
          looked_over AnswerOver (shading (left_tells (operator_of op) x) shaded) s1 _ _ l1
          (λ dark. told w dark Scalar b s1 l1 (value_over w dark Scalar b s1 l1)) (λ y s2 i l2.
          good_next (Over D) AnswerOver (applied w shaded (operator_of op) x y) _
          (applied_over w shaded (operator_of op) x y h i) (λ v p. answered_over v s2 p)))
      value_over w shaded want (Choice c a b) s l =
          scalar_over AnswerOver (value_in k w shaded Scalar c s) _
          (told w shaded Scalar c s l (value_over w shaded Scalar c s l)) (λ x s1 h l1.
          looked_over AnswerOver (first_shading (side_of x) shaded) s1 _ _ l1
          (λ dark. told w dark Scalar a s1 l1 (value_over w dark Scalar a s1 l1)) (λ y s2 i l2.
          looked_over AnswerOver (second_shading (side_of x) shaded) s2 _ _ l2
          (λ dark. told w dark Scalar b s2 l2 (value_over w dark Scalar b s2 l2)) (λ z s3 j l3.
          answered_over (chosen (side_of x) y z) s3 (chosen_over D (side_of x) y z i j))))

      all_over : (w : Where) (shaded : Bool) (es : Exprs Meant) (s : State) → Like f s
          → OnGood AnswersOver (all_in k w shaded es s)
      all_over w shaded none s l = good_ok AnswersOver _ tt
      all_over w shaded (more e es) s l =
          good_next Told AnswersOver (value_in k w shaded Whole e s) _
          (told w shaded Whole e s l (value_over w shaded Whole e s l)) (λ x p.
          good_next AnswersOver AnswersOver (all_in k w shaded es x.1) _
          (all_over w shaded es x.1 p.1) (λ y q. good_ok AnswersOver _ (p.0, q)))

      read_over : (w : Where) (shaded : Bool) (want : Want) (root : Root)
          (indices : List (Option ℕ)) (accessors : Accessors Meant) (s : State)
          → RootOver root → Like f s
          → OnGood AnswerOver (read_in k w shaded want root indices accessors s)
      read_over w shaded want root indices done s r l =
          good_next SourceOver AnswerOver (origin_of w root s.frame) _
          (source_over w root s.frame r (frame_like s l)) (λ source p.
          good_next DatumOver AnswerOver (read_origin w shaded want indices source) _
          (read_source_over w shaded want indices source p)
          (λ d q. good_ok AnswerOver _ q))
      read_over w shaded want root indices (index e rest) s r l =
          scalar_over AnswerOver (value_in k w shaded Scalar e s) _
          (told w shaded Scalar e s l (value_over w shaded Scalar e s l))
          (λ x s1 h l1.
          read_over w shaded want root (indices ++ known_number x ∷ []) rest s1 r l1)
      read_over w shaded want root indices (member name rest) s r l =
          good_next SourceOver AnswerOver (inner_origin w shaded root indices name s.frame) _
          (inner_over w shaded root indices name s.frame (frame_like s l))
          (λ source p. read_over w shaded want (Found source) [] rest s p l)
