-- A value has as many items as its dimensions say, or none where it is too large to be made.
use Rattle.std.proofs.Common.{◌≡◌, ℕ, suc, ◌+◌, ◌*◌, ◌≤◌, Bool, true, false, cond, List, []}
use Rattle.std.proofs.Common.{◌∷◌, ◌++◌, map, flat_map, length, replicate, Option, Some, None}
use Rattle.std.proofs.Common.{is_some, refl, sym, ap, ◌∙◌, length-append, slice_set, arith}
use Rattle.std.proofs.Math.Nat.{suc-mul, zero-mul}
use Rattle.std.proofs.lemmas.Bool.{ltb-false, le-ltb}
use Rattle.std.proofs.lemmas.List.{length-replicate}
use Rattle.std.proofs.lemmas.Slice.Eq.{bytes_eq-Decides}
use Rattle.std.specs.Prelude.{fold, max}
use Rattle.std.specs.List.{AllByRecursion, list_all}
use Rattle.cir_ast.specs.declared.program.Meant.{Meant}
use Rattle.cir_ast.specs.declared.program.Meant.TheVariants as meant
use Rattle.cir_ast.specs.declared.refusal.Kind.TheVariants.{ReadBeforeWrite, ShapeDiffers}
use Rattle.cir_ast.specs.declared.refusal.Kind.TheVariants.{UnknownIndex}
use Rattle.cir_ast.specs.Tree.{Expr, Number, Place, Call, Anonymous, Parentheses, Array, Unary}
use Rattle.cir_ast.specs.Tree.{Binary, Choice, Exprs, none, more, Accessors, done, index, member}
use Rattle.cir_meaning.specs.Tried.{Where, Tried, found}
use Rattle.cir_meaning.specs.Places.{elements, left_of, is_inside, followed, all_known, places_of}
use Rattle.cir_meaning.specs.Limits.{is_too_large, size_of}
use Rattle.cir_meaning.specs.Arrays.{Datum, Want, Scalar, Whole, Reach, fits, reach, single, made}
use Rattle.cir_meaning.specs.Arrays.{filled, the_item, item_at, is_all_known, same_dims, read_part}
use Rattle.cir_meaning.specs.Arrays.{put_items, forgotten}
use Rattle.cir_meaning.specs.Values.{Value, Known, Opaque, known_number, side_of, chosen}
use Rattle.cir_meaning.specs.Operators.{applied, operator_of, left_tells, shading, first_shading}
use Rattle.cir_meaning.specs.Operators.{second_shading}
use Rattle.cir_meaning.specs.Frame.{World, State, Context, Caller, signal_item, entry_at}
use Rattle.cir_meaning.specs.Declaring.{Creation, creation}
use Rattle.cir_meaning.specs.Reading.{Origin, Stored, Wired, Lost, Root, Found, is_readable}
use Rattle.cir_meaning.specs.Reading.{read_origin, origin_of, inner_origin}
use Rattle.cir_meaning.specs.Evaluate.{answered, looked_at, has_literal, gathered, call_known}
use Rattle.cir_meaning.specs.Evaluate.{called, value_in, all_in, read_in, arguments_in}
use Rattle.cir_meaning.proofs.Good.{OnGood, good_ok, good_bad, good_next, good_on, good_needed}
use Rattle.cir_meaning.proofs.Good.{good_needed_as, good_found_as, either}
use Rattle.cir_meaning.proofs.ValueKeepings.{indices_any, template_call_good}
use Rattle.cir_meaning.proofs.PartWrites.{set_count}
use Rattle.cir_meaning.proofs.Reaching.{map_count, reached_count, and_true}
use Rattle.cir_steps.specs.Emission.{made_elements}

abbrev pub IsSized : Datum → Type 0
IsSized d = length d.items ≡ made_elements d.dims

pub single_sized : (v : Value) → IsSized (single v)
single_sized v = refl

pub filled_sized : (dims : List ℕ) (v : Value) → IsSized (filled dims v)
filled_sized dims v = at (is_too_large dims)
  where
    at : (b : Bool) → length (cond b [] (replicate (elements dims) v)) ≡ cond b 0 (elements dims)
    at true = refl
    at false = length-replicate (elements dims) v

made_sized : (dims : List ℕ) (items : List Value)
    → (is_too_large dims ≡ false → length items ≡ elements dims) → IsSized (made dims items)
made_sized dims items h = at (is_too_large dims) refl
  where
    at : (b : Bool) → is_too_large dims ≡ b → length (cond b [] items) ≡ cond b 0 (elements dims)
    at true e = refl
    at false e = h e

-- what changes no number of items
pub put_count : {A : Type 0} (places : List ℕ) (new xs : List A)
    → length (put_items places new xs) ≡ length xs
put_count [] new xs = refl
put_count (k ∷ ks) [] xs = refl
put_count (k ∷ ks) (a ∷ new) xs = put_count ks new (slice_set xs k a) ∙ set_count xs k a

pub forgotten_sized : (d : Datum) → IsSized d → IsSized (forgotten d)
forgotten_sized d h = map_count (λ v. Opaque) d.items ∙ h

-- a part where it is known which one is meant
pub known_are : (os : List (Option ℕ)) → is_some (all_known os) ≡ true
    → (ns : List ℕ) × (os ≡ map Some ns)
known_are [] h = ([], refl)
known_are (None ∷ os) h = cc
known_are (Some k ∷ os) h =
    let rest : (ns : List ℕ) × (os ≡ map Some ns) = known_are os (fewer (all_known os) h) in
    (k ∷ rest.0, ap (λ (is : List (Option ℕ)). Some k ∷ is) rest.1)
  where
    fewer : (o : Option (List ℕ)) → is_some (followed k o) ≡ true → is_some o ≡ true
    fewer None h = h
    fewer (Some is) h = refl

abbrev pub IsReach : List ℕ → Reach → Type 0
IsReach dims r =
    r.is_sure ≡ true → (ns : List ℕ) × (left_of dims (map Some ns) ≡ Some r.left)
    × (is_inside dims (map Some ns) ≡ true) × (r.places ≡ places_of dims (map Some ns))

pub reach_is : (w : Where) (shaded : Bool) (want : Want) (dims : List ℕ)
    (indices : List (Option ℕ)) → OnGood (IsReach dims) (reach w shaded want dims indices)
reach_is w shaded want dims indices =
    good_found_as (IsReach dims) w ShapeDiffers (left_of dims indices) _ (λ left there.
    good_needed (IsReach dims) _ w _ _ (good_needed (IsReach dims) (fits want left) w ShapeDiffers _
    (good_ok (IsReach dims) _ (at left there (is_inside dims indices) refl))))
  where
    at : (left : List ℕ) → left_of dims indices ≡ Some left → (b : Bool)
        → is_inside dims indices ≡ b → IsReach dims (cond b record {
          left = left;
          is_sure = is_some (all_known indices);
          places = places_of dims indices;
        } record { left = left; is_sure = false; places = [] })
    at left there true inside sure =
        let are : (ns : List ℕ) × (indices ≡ map Some ns) = known_are indices sure in (
          are.0,
          sym (ap (left_of dims) are.1) ∙ there,
          sym (ap (is_inside dims) are.1) ∙ inside,
          ap (places_of dims) are.1,
        )
    at left there false inside sure = cc

pub reach_count : (dims : List ℕ) (r : Reach) → IsReach dims r → r.is_sure ≡ true
    → length r.places ≡ elements r.left
reach_count dims r is sure =
    let its : (ns : List ℕ) × (left_of dims (map Some ns) ≡ Some r.left)
    × (is_inside dims (map Some ns) ≡ true) × (r.places ≡ places_of dims (map Some ns)) =
    is sure in
    ap length its.3 ∙ reached_count dims its.0 r.left its.1

part_sized : (dims : List ℕ) (r : Reach) (item : ℕ → Value) → IsReach dims r
    → IsSized (read_part r item)
part_sized dims r item is = at r.is_sure refl
  where
    at : (b : Bool) → r.is_sure ≡ b
        → IsSized (cond b (made r.left (map item r.places)) (filled r.left Opaque))
    at true sure =
        made_sized r.left (map item r.places)
        (λ small. map_count item r.places ∙ reach_count dims r is sure)
    at false sure = filled_sized r.left Opaque

-- an array of arrays
fold_more : (a b : ℕ) (xs : List ℕ) → a ≤ b → fold max a xs ≤ fold max b xs
fold_more a b [] h = h
fold_more a b (x ∷ xs) h = fold_more (max a x) (max b x) xs (omega arith)

pub inner_small : (n : ℕ) (dims : List ℕ) → is_too_large (suc n ∷ dims) ≡ false
    → is_too_large dims ≡ false
inner_small n dims h =
    let most : size_of (suc n ∷ dims) ≤ 1048576 = ltb-false 1048576 (size_of (suc n ∷ dims)) h in
    let rows : suc n * elements dims ≡ n * elements dims + elements dims =
    suc-mul n (elements dims) in
    let others : fold max 0 dims ≤ fold max (max 0 (suc n)) dims =
    fold_more 0 (max 0 (suc n)) dims (omega arith) in
    le-ltb 1048576 (size_of dims) (within (elements dims) (n * elements dims) (fold max 0 dims)
    (fold max (max 0 (suc n)) dims) (suc n * elements dims) rows others most)
  where
    within : (e others a b all : ℕ) → all ≡ others + e → a ≤ b → max all b ≤ 1048576
        → max e a ≤ 1048576
    within e others a b all x y z = omega arith

abbrev IsLike : List ℕ → Datum → Type 0
IsLike dims d = length d.items ≡ elements dims

joined_count : (dims : List ℕ) (ds : List Datum) → AllByRecursion (IsLike dims) ds
    → length (flat_map (λ (e : Datum). e.items) ds) ≡ length ds * elements dims
joined_count dims [] h = sym (zero-mul (elements dims))
joined_count dims (d ∷ ds) h =
    length-append d.items (flat_map (λ (e : Datum). e.items) ds)
    ∙ sum (length d.items) (length (flat_map (λ (e : Datum). e.items) ds)) h.0
    (joined_count dims ds h.1)
  where
    sum : (a b : ℕ) → a ≡ elements dims → b ≡ length ds * elements dims
        → a + b ≡ suc (length ds) * elements dims
    sum a b x y =
        let rows : suc (length ds) * elements dims ≡ length ds * elements dims + elements dims =
        suc-mul (length ds) (elements dims) in
        omega arith

like_all : (dims : List ℕ) → is_too_large dims ≡ false → (ds : List Datum)
    → list_all (λ (e : Datum). same_dims e.dims dims) ds ≡ true → AllByRecursion IsSized ds
    → AllByRecursion (IsLike dims) ds
like_all dims small [] same h = tt
like_all dims small (d ∷ ds) same h =
    let both : (same_dims d.dims dims ≡ true)
    × (list_all (λ (e : Datum). same_dims e.dims dims) ds ≡ true) =
    and_true (same_dims d.dims dims) _ same in
    let are : d.dims ≡ dims = (bytes_eq-Decides d.dims dims).0 both.0 in (
      h.0 ∙ ap made_elements are ∙ ap (λ (b : Bool). cond b 0 (elements dims)) small,
      like_all dims small ds both.1 h.1,
    )

-- the value of an expression
abbrev SizedAnswer : Datum × State → Type 0
SizedAnswer x = IsSized x.0

abbrev SizedAnswers : List Datum × State → Type 0
SizedAnswers x = AllByRecursion IsSized x.0

abbrev pub SizedCall : Caller → Type 0
SizedCall call =
    (w : Where) (n : ℕ) (ds : List Datum) (world : World)
    → OnGood (λ x. IsSized x.0) (call w n ds world)

answered_sized : (v : Value) (s : State) → OnGood SizedAnswer (answered v s)
answered_sized v s = good_ok SizedAnswer (single v, s) (single_sized v)

source_sized : (w : Where) (shaded : Bool) (want : Want) (indices : List (Option ℕ))
    (source : Origin) → OnGood IsSized (read_origin w shaded want indices source)
source_sized w shaded want indices (Stored d) =
    good_next (IsReach d.dims) IsSized (reach w shaded want d.dims indices) _
    (reach_is w shaded want d.dims indices)
    (λ r is. good_ok IsSized _ (part_sized d.dims r (item_at d.items) is))
source_sized w shaded want indices (Wired may_read e) =
    good_next (IsReach e.dims) IsSized (reach w shaded want e.dims indices) _
    (reach_is w shaded want e.dims indices)
    (λ r is. good_needed IsSized (is_readable may_read e indices r.places) w ReadBeforeWrite _
    (good_ok IsSized _ (part_sized e.dims r (signal_item e) is)))
source_sized w shaded want indices Lost = good_ok IsSized (single Opaque) (single_sized Opaque)

looked_any : (o : Option Bool) (s : State) (value : Bool → Tried (Datum × State))
    (go : Value → State → Tried (Datum × State))
    → ((v : Value) (s : State) → OnGood SizedAnswer (go v s))
    → OnGood SizedAnswer (looked_at o s value go)
looked_any None s value go h = h (Known 0) s
looked_any (Some dark) s value go h =
    good_on SizedAnswer (value dark) (λ (d, s). go (the_item d) s) (λ x. h (the_item x.0) x.1)

gathered_sized : (w : Where) (ds : List Datum) (s : State) → AllByRecursion IsSized ds
    → OnGood SizedAnswer (gathered w ds s)
gathered_sized w [] s h = answered_sized Opaque s
gathered_sized w (d ∷ ds) s h =
    good_needed_as SizedAnswer (list_all (λ e. same_dims e.dims d.dims) ds) w ShapeDiffers _
    (λ same. good_ok SizedAnswer _ (made_sized (length (d ∷ ds) ∷ d.dims)
    (flat_map (λ (e : Datum). e.items) (d ∷ ds)) (λ small. joined_count d.dims (d ∷ ds) (
      first (inner_small (length ds) d.dims small),
      like_all d.dims (inner_small (length ds) d.dims small) ds same h.1,
    ))))
  where
    first : is_too_large d.dims ≡ false → IsLike d.dims d
    first small = h.0 ∙ ap (λ (b : Bool). cond b 0 (elements d.dims)) small

module _ (k : Context) (calls : SizedCall k.call) where
  call_known_sized : (w : Where) (want : Want) (m : Meant) (ds : List Datum) (s : State)
      → OnGood SizedAnswer (call_known k w want m ds s)
  call_known_sized w want (meant.Function f) ds s =
      good_next (λ x. IsSized x.0) SizedAnswer (k.call w f ds s.world) _ (calls w f ds s.world)
      (λ x h. good_needed SizedAnswer (fits want x.0.dims) w ShapeDiffers _
      (good_ok SizedAnswer _ h))
  call_known_sized w want meant.Other ds s = good_bad SizedAnswer _
  call_known_sized w want (meant.Variable n) ds s = good_bad SizedAnswer _
  call_known_sized w want (meant.Signal direction n) ds s = good_bad SizedAnswer _
  call_known_sized w want (meant.Component n) ds s = good_bad SizedAnswer _
  call_known_sized w want (meant.Template n) ds s = good_bad SizedAnswer _

  called_sized : (w : Where) (want : Want) (m : Meant) (arguments : Exprs Meant) (ds : List Datum)
      (s : State) → OnGood SizedAnswer (called k w want m arguments ds s)
  called_sized w want m arguments ds s =
      either (OnGood SizedAnswer) (list_all is_all_known ds) (call_known k w want m ds s) _
      (call_known_sized w want m ds s)
      (either (OnGood SizedAnswer) (has_literal arguments) _ (answered Opaque s)
      (good_bad SizedAnswer _) (answered_sized Opaque s))

  mutual
    pub value_sized : (w : Where) (shaded : Bool) (want : Want) (e : Expr Meant) (s : State)
        → OnGood (λ x. IsSized x.0) (value_in k w shaded want e s)
    value_sized w shaded want (Number n) s = answered_sized (Known _) s
    value_sized w shaded want (Place name m accessors) s =
        read_sized w shaded want _ [] accessors s
    value_sized w shaded want (Call parallel name m arguments) s =
        good_on SizedAnswer (all_in k w shaded arguments s) _
        (λ x. called_sized w want m arguments x.0 x.1)
    value_sized w shaded want (Anonymous parallel name m arguments inputs) s =
        good_bad SizedAnswer _
    value_sized w shaded want (Parentheses e) s = value_sized w shaded want e s
    value_sized w shaded Scalar (Array items) s = good_bad SizedAnswer _
    value_sized w shaded Whole (Array items) s =
        good_next SizedAnswers SizedAnswer (all_in k w shaded items s) _
        (all_sized w shaded items s)
        (λ x h. gathered_sized w x.0 x.1 h)
    value_sized w shaded want (Unary op a) s =
        good_on SizedAnswer (value_in k w shaded Scalar a s) _ (λ x. answered_sized _ x.1)
    value_sized w shaded want (Binary op a b) s =
        good_on SizedAnswer (value_in k w shaded Scalar a s) _ (λ x.
        looked_any (shading (left_tells (operator_of op) (the_item x.0)) shaded) x.1
        (λ dark. value_in k w dark Scalar b x.1) _ (λ y s2.
        good_on SizedAnswer (applied w shaded (operator_of op) (the_item x.0) y) _
        (λ v. answered_sized v s2)))
    value_sized w shaded want (Choice c a b) s =
        good_on SizedAnswer (value_in k w shaded Scalar c s) _ (λ x.
        looked_any (first_shading (side_of (the_item x.0)) shaded) x.1
        (λ dark. value_in k w dark Scalar a x.1) _ (λ y s2.
        looked_any (second_shading (side_of (the_item x.0)) shaded) s2
        (λ dark. value_in k w dark Scalar b s2) _
        (λ z s3. answered_sized (chosen (side_of (the_item x.0)) y z) s3)))

    all_sized : (w : Where) (shaded : Bool) (es : Exprs Meant) (s : State)
        → OnGood SizedAnswers (all_in k w shaded es s)
    all_sized w shaded none s = good_ok SizedAnswers ([], s) tt
    all_sized w shaded (more e es) s =
        good_next SizedAnswer SizedAnswers (value_in k w shaded Whole e s) _
        (value_sized w shaded Whole e s) (λ x h.
        good_next SizedAnswers SizedAnswers (all_in k w shaded es x.1) _ (all_sized w shaded es x.1)
        (λ y g. good_ok SizedAnswers (x.0 ∷ y.0, y.1) (h, g)))

    read_sized : (w : Where) (shaded : Bool) (want : Want) (root : Root)
        (indices : List (Option ℕ)) (accessors : Accessors Meant) (s : State)
        → OnGood SizedAnswer (read_in k w shaded want root indices accessors s)
    read_sized w shaded want root indices done s =
        good_on SizedAnswer (origin_of w root s.frame) _ (λ source.
        good_next IsSized SizedAnswer (read_origin w shaded want indices source) _
        (source_sized w shaded want indices source) (λ d h. good_ok SizedAnswer (d, s) h))
    read_sized w shaded want root indices (index e rest) s =
        good_on SizedAnswer (value_in k w shaded Scalar e s) _ (λ x.
        read_sized w shaded want root (indices ++ known_number (the_item x.0) ∷ []) rest x.1)
    read_sized w shaded want root indices (member name rest) s =
        good_on SizedAnswer (inner_origin w shaded root indices name s.frame) _
        (λ source. read_sized w shaded want (Found source) [] rest s)

  -- the arguments of a template
  pub arguments_sized : (w : Where) (es : Exprs Meant) (s : State)
      → OnGood (λ x. AllByRecursion IsSized x.0) (arguments_in k w es s)
  arguments_sized w none s = good_ok SizedAnswers ([], s) tt
  arguments_sized w (more e es) s =
      good_next SizedAnswer SizedAnswers (value_in k w false Whole e s) _
      (value_sized w false Whole e s) (λ x h.
      good_needed SizedAnswers (is_all_known x.0) w UnknownIndex _
      (good_next SizedAnswers SizedAnswers (arguments_in k w es x.1) _ (arguments_sized w es x.1)
      (λ y g. good_ok SizedAnswers (x.0 ∷ y.0, y.1) (h, g))))

  abbrev SizedCreation : Creation → Type 0
  SizedCreation c = AllByRecursion IsSized c.arguments

  pub creation_sized : (w : Where) (n : ℕ) (accessors : Accessors Meant) (e : Expr Meant)
      (s : State) → OnGood SizedCreation (creation k w n accessors e s)
  creation_sized w n accessors e s =
      template_call_good SizedCreation w e _ (λ t arguments.
      good_next SizedAnswers SizedCreation (arguments_in k w arguments s) _
      (arguments_sized w arguments s) (λ x h.
      indices_any SizedCreation k w false [] accessors x.1 _ (λ indices rest s2.
      good_on SizedCreation (found w ReadBeforeWrite (entry_at s2.frame.components n)) _ (λ c.
      good_on SizedCreation (found w UnknownIndex (all_known indices)) _ (λ ns.
      good_on SizedCreation (reach w false Scalar c.dims indices) _
      (λ r. good_ok SizedCreation _ h))))))
