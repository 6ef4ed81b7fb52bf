-- What stands where an expression is accepted, and what is told of its value.
use Rattle.std.proofs.Common.{cond, Ok, ◌≡◌, ℕ, suc, ◌<◌, ◌≤◌, Bool, true, false, List, [], ◌∷◌}
use Rattle.std.proofs.Common.{length, map, drop, Option, Some, refl, sym, ap, ap₂, subst, ◌∙◌}
use Rattle.std.proofs.Common.{arith}
use Rattle.cir_ast.specs.declared.refusal.Form.TheVariants.{LiteralPlace}
use Rattle.cir_ast.specs.declared.refusal.Kind.TheVariants.{NotInProfile, ShapeDiffers}
use Rattle.cir_meaning.specs.Tried.{next, refused, Where}
use Rattle.cir_meaning.specs.Arrays.{is_all_known, single, Datum, Want, Scalar, Whole, Reach, fits}
use Rattle.cir_meaning.specs.Arrays.{read_part, filled, made, item_at, the_item, same_dims}
use Rattle.cir_meaning.specs.Frame.{Context, SignalEntry, Part, ComponentEntry, State, entry_at}
use Rattle.cir_meaning.specs.Frame.{variable_at, signal_item}
use Rattle.cir_meaning.specs.Evaluate.{all_in, called, answered, call_known, has_literal}
use Rattle.cir_meaning.proofs.Good.{OnGood, good_ok, good_bad, good_on}
use Rattle.cir_emit.proofs.Reached.{good_needs, Sharper, sharper_long, Reaches, ReadsKnown}
use Rattle.cir_emit.proofs.Reached.{read_known, scalar_left}
use Rattle.std.specs.List.{list_all, list_any}
use Rattle.std.proofs.lemmas.Bool.{and_parts}
use Rattle.wit_lower.specs.Values.{shapes_of, shape_of, count_of}
use Rattle.wit_lower.specs.Fits.{HaveShape, IsCalled}
use Rattle.std.specs.Prelude.{slice_get, ◌==◌}
use Rattle.std.specs.Cmp.Lexicographic.{bytes_decides}
use Rattle.cir_ast.specs.declared.program.Meant.{Meant}
use Rattle.cir_ast.specs.declared.program.Meant.TheVariants as meant
use Rattle.cir_ast.specs.Tree.{Exprs, none, more}
use Rattle.cir_meaning.specs.Limits.{is_too_large}
use Rattle.cir_meaning.specs.Places.{is_inside}
use Rattle.cir_meaning.specs.Values.{Value, Known, Linear, Quadratic, Opaque, known_number}
use Rattle.cir_emit.proofs.KnownOperators.{Tells}
use Rattle.cir_meaning.specs.Reading.{named_signal}
use Rattle.wit_lower.specs.Homes.{Name, Variable, Signal, Port, Home, Homes, Ground, find, offset}
use Rattle.wit_lower.specs.Homes.{slots_of}
use Rattle.cir_meaning.specs.Costs.{Made}
use Rattle.cir_meaning.specs.SignalFree.{IsFunction}
use Rattle.cir_emit.specs.Sourced.{KeyHas}
use Rattle.wit_lower.specs.Sources.{Constant, Sources, scope_of, input_of}
use Rattle.cir_emit.specs.Lowered.{IsLoaded}
use Rattle.cir_emit.proofs.Values.{reading}

-- a signal of these dimensions, none of whose elements is known
pub record IsWired (e : SignalEntry) (dims : List ℕ) : Type 0 where
  pub dims_are : e.dims ≡ dims
  pub unknown : (k v : ℕ) → k < slots_of dims → signal_item e k ≡ Known v → ⊥

-- what stands in the frame of a body is what the homes and the sources have
pub record IsStanding (There : Name → Type 0) (w : Where) (f : State) (sources : Sources)
    (changed : List ℕ) (homes : Homes) : Type 0 where
  pub small : (x : Name) (h : Home) → find x homes ≡ Some h → is_too_large h.dims ≡ false
  pub variable : (n : ℕ) (h : Home) → find (Variable n) homes ≡ Some h
      → (variable_at f.frame n).dims ≡ h.dims
  pub known : (n : ℕ) (h : Home) (k v : ℕ) → find (Variable n) homes ≡ Some h
      → k < slots_of h.dims → item_at (variable_at f.frame n).items k ≡ Known v
      → (list_any (λ m. m == n) changed ≡ false)
      × (find (Variable n) (scope_of sources).homes ≡ Some h)
      × (IsLoaded sources (reading (Variable n) k)
      → input_of (Variable n) sources.list k ≡ Some (Constant v))
  pub signal : (n : ℕ) (h : Home) (e : SignalEntry) → find (Signal n) homes ≡ Some h
      → entry_at f.frame.signals n ≡ Some e → IsWired e h.dims
  pub component : (n : ℕ) (c : ComponentEntry) → entry_at f.frame.components n ≡ Some c
      → (indices : List ℕ) → is_inside (sources.components n) (map Some indices)
      ≡ is_inside c.dims (map Some indices)
  pub port : (n : ℕ) (c : ComponentEntry) (indices name : List ℕ) (h : Home) (j : ℕ) (p : Part)
      (x : ℕ × SignalEntry) → entry_at f.frame.components n ≡ Some c
      → is_inside c.dims (map Some indices) ≡ true → length indices ≡ length c.dims
      → entry_at c.parts (offset c.dims indices) ≡ Some j
      → slice_get f.frame.parts j ≡ Some p → named_signal w name p.signals ≡ Ok x
      → find (Port n (offset c.dims indices) name) homes ≡ Some h → IsWired x.1 h.dims
  pub signal_there : (n : ℕ) (e : SignalEntry) → entry_at f.frame.signals n ≡ Some e
      → There (Signal n)
  pub port_there : (n : ℕ) (c : ComponentEntry) (indices name : List ℕ) (j : ℕ) (p : Part)
      (x : ℕ × SignalEntry) → entry_at f.frame.components n ≡ Some c
      → is_inside c.dims (map Some indices) ≡ true → length indices ≡ length c.dims
      → entry_at c.parts (offset c.dims indices) ≡ Some j
      → slice_get f.frame.parts j ≡ Some p → named_signal w name p.signals ≡ Ok x
      → There (Port n (offset c.dims indices) name)

-- what is told of an answer: its dimensions are wanted and are the shape's, and a number that is
-- known is told
pub record Told (want : Want) (dims : List ℕ) (Tells : ℕ → Type 0) (d : Datum) : Type 0 where
  pub wanted : fits want d.dims ≡ true
  pub shape : dims ≡ d.dims
  pub tells : (v : ℕ) → d.dims ≡ [] → the_item d ≡ Known v → Tells v

pub told_nothing : (want : Want) (dims : List ℕ) (Tells : ℕ → Type 0) (d : Datum)
    → Told want dims (λ v. ⊥) d → Told want dims Tells d
told_nothing want dims Tells d t = record {
  wanted = t.wanted;
  shape = t.shape;
  tells = λ v e i. absurd (t.tells v e i);
}

pub any_number : (want : Want) → fits want [] ≡ true
any_number Scalar = refl
any_number Whole = refl

pub single_told : (want : Want) (Tells : ℕ → Type 0) (x : Value) → ((v : ℕ) → x ≡ Known v → Tells v)
    → Told want [] Tells (single x)
single_told want Tells x h =
    record { wanted = any_number want; shape = refl; tells = λ v e i. h v i }

pub never_known : {A : Type 0} {v : ℕ} → Opaque ≡ Known v → A
never_known e = cc

-- a part that is read
pub part_told_by : (want : Want) (dims home : List ℕ) (os ks : List (Option ℕ)) (r : Reach)
    (item : ℕ → Value) (Tells : ℕ → Type 0) → Reaches want dims os r → dims ≡ home
    → Sharper os ks
    → ((v : ℕ) → ReadsKnown dims os item v → Tells v)
    → (length ks ≤ length home) × Told want (drop (length ks) home) Tells (read_part r item)
part_told_by want dims home os ks r item Tells h same sharp known =
    let count : length os ≡ length ks = sharper_long os ks sharp in (
      omega (arith, h.left.rank, count, ap length same),
      record {
        wanted = subst (λ ds. fits want ds ≡ true) (sym (dims_of r.is_sure)) h.fit;
        shape = ap₂ (λ c ds. drop c ds) (sym count) (sym same) ∙ sym h.left.is ∙
            sym (dims_of r.is_sure);
        tells = λ v e i. known v
            (read_known want dims os r item v h (sym (dims_of r.is_sure) ∙ e) i);
      },
    )
  where
    dims_of : (b : Bool) → (cond b (made r.left (map item r.places)) (filled r.left Opaque)).dims
        ≡ r.left
    dims_of true = refl
    dims_of false = refl

pub known_is : (x : Value) (n : ℕ) → known_number x ≡ Some n → x ≡ Known n
known_is (Known m) n e = let same : m ≡ n = cc in ap Known same
known_is (Linear f) n e = cc
known_is (Quadratic p q r) n e = cc
known_is Opaque n e = cc

pub no_dims : (dims : List ℕ) (Tells : ℕ → Type 0) (d : Datum) → Told Scalar dims Tells d
    → d.dims ≡ []
no_dims dims Tells d t = scalar_left d.dims t.wanted

pub no_shape : (dims : List ℕ) (Tells : ℕ → Type 0) (d : Datum) → Told Scalar dims Tells d
    → dims ≡ []
no_shape dims Tells d t = t.shape ∙ no_dims dims Tells d t

pub all_dropped : (xs : List ℕ) → drop (length xs) xs ≡ []
all_dropped [] = refl
all_dropped (x ∷ xs) = all_dropped xs

-- the shapes of the elements of a literal
pub same_shapes : (xs ys : List ℕ) → same_dims xs ys ≡ true → xs ≡ ys
same_shapes xs ys e = (bytes_decides xs ys).0 e

module _ (g : Ground) (homes : Homes) where
  -- literals
  pub have_shape : (dims : List ℕ) (es : Exprs Meant) (ds : List Datum)
      → shapes_of g homes es ≡ map (λ d. d.dims) ds
      → list_all (λ e. same_dims e.dims dims) ds ≡ true → HaveShape g homes dims es
  have_shape dims none ds shapes same = tt
  have_shape dims (more e es) [] shapes same = cc
  have_shape dims (more e es) (d ∷ ds) shapes same =
      let one : shape_of g homes e ≡ d.dims = cc in
      let rest : shapes_of g homes es ≡ map (λ d. d.dims) ds = cc in
      let parts : (same_dims d.dims dims ≡ true)
      × (list_all (λ e. same_dims e.dims dims) ds ≡ true) =
      and_parts (same_dims d.dims dims) _ same in
      (one ∙ same_shapes d.dims dims parts.0, have_shape dims es ds rest parts.1)

  pub shapes_count : (es : Exprs Meant) (ds : List Datum)
      → shapes_of g homes es ≡ map (λ d. d.dims) ds → count_of es ≡ length ds
  shapes_count none [] e = refl
  shapes_count none (d ∷ ds) e = cc
  shapes_count (more e es) [] h = cc
  shapes_count (more e es) (d ∷ ds) h =
      let rest : shapes_of g homes es ≡ map (λ d. d.dims) ds = cc in
      ap (λ n. suc n) (shapes_count es ds rest)

-- a call that has its key means a function
pub is_called : (functions : ℕ) (keys : List Made) (m : Meant) (shapes : List (List ℕ))
    → IsFunction functions m → KeyHas keys m shapes → IsCalled keys m shapes
is_called functions keys (meant.Function f) shapes is has = has
is_called functions keys meant.Other shapes is has = absurd is
is_called functions keys (meant.Variable n) shapes is has = absurd is
is_called functions keys (meant.Signal direction n) shapes is has = absurd is
is_called functions keys (meant.Component n) shapes is has = absurd is
is_called functions keys (meant.Template n) shapes is has = absurd is

module _ (k : Context) (w : Where) where
  -- a call has its value, or is an opaque number
  pub call_wanted : (m : Meant) (arguments : Exprs Meant) (shaded : Bool) (want : Want) (s : State)
      → OnGood (λ x. fits want x.0.dims ≡ true)
      (next (all_in k w shaded arguments s) (λ x. called k w want m arguments x.0 x.1))
  call_wanted m arguments shaded want s =
      good_on Q (all_in k w shaded arguments s) _ (λ x. by x.0 x.1 (list_all is_all_known x.0))
    where
      Q : Datum × State → Type 0
      Q x = fits want x.0.dims ≡ true

      literal : (b : Bool) (s : State) → OnGood Q (cond b (refused w (NotInProfile LiteralPlace))
          (answered Opaque s))
      literal true s = good_bad Q _
      literal false s = good_ok Q (single Opaque, s) (any_number want)

      known_call : (m : Meant) (ds : List Datum) (s : State) → OnGood Q (call_known k w want m ds s)
      known_call (meant.Function n) ds s =
          good_on Q (k.call w n ds s.world) _ (λ x.
          good_needs Q (fits want x.0.dims) w ShapeDiffers _
          (λ e. good_ok Q (x.0, record s { world = x.1 }) e))
      known_call meant.Other ds s = good_bad Q _
      known_call (meant.Variable n) ds s = good_bad Q _
      known_call (meant.Signal d n) ds s = good_bad Q _
      known_call (meant.Component n) ds s = good_bad Q _
      known_call (meant.Template n) ds s = good_bad Q _

      by : (ds : List Datum) (s : State) (b : Bool)
          → OnGood Q (cond b (call_known k w want m ds s)
          (cond (has_literal arguments) (refused w (NotInProfile LiteralPlace))
          (answered Opaque s)))
      by ds s true = known_call m ds s
      by ds s false = literal (has_literal arguments) s
