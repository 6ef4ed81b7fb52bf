-- The number of an expression when it runs is what its value at compile time means, whatever is
-- read.
use Rattle.std.proofs.Common.{◌≡◌, ℕ, ◌%◌, Bool, true, List, [], ◌∷◌, ◌++◌, Option, Some, None, Ok}
use Rattle.std.proofs.Common.{Result, Err, refl, sym, ap, subst, ◌∙◌, slice_get}
use Rattle.std.specs.Prelude.{unwrap_or}
use Rattle.gold_field.specs.declared.gold.TheConstants.{P}
use Rattle.cir_ast.specs.declared.program.Meant.{Meant}
use Rattle.cir_ast.specs.declared.program.Meant.TheVariants as meant
use Rattle.cir_ast.specs.Tree.{Expr, Number, Place, Call, Anonymous, Parentheses, Array, Unary}
use Rattle.cir_ast.specs.Tree.{Binary, Choice, Exprs, none, more, Accessors, done, index, member}
use Rattle.cir_lc.specs.Number.{Assignment}
use Rattle.cir_ast.specs.declared.refusal.Kind.TheVariants.{ReadBeforeWrite}
use Rattle.cir_meaning.specs.Tried.{Where, Tried, next, found}
use Rattle.cir_meaning.specs.Arrays.{Shaped, Datum, Want, Scalar, Whole, single}
use Rattle.cir_meaning.specs.Values.{Known, Opaque, known_number, unary_result}
use Rattle.cir_meaning.specs.SignalFree.{IsFunction}
use Rattle.cir_meaning.specs.Scoped.{Scope, IsSeen, AreCallsMeant, AreAllMeant, AreIndicesMeant}
use Rattle.cir_meaning.specs.Operators.{operator_of, unary_of}
use Rattle.cir_meaning.specs.Frame.{SignalEntry, Frame, State, Context, variable_at, entry_at}
use Rattle.cir_meaning.specs.Reading.{Stored, Wired, Lost, read_origin, origin_of, inner_origin}
use Rattle.cir_meaning.specs.Reading as reading
use Rattle.cir_meaning.specs.Evaluate.{called, value_in, all_in, read_in}
use Rattle.cir_meaning.specs.RunValues as run
use Rattle.cir_meaning.specs.RunValues.{Numbers, Ran, Environment, Store, stored, number_in}
use Rattle.cir_meaning.specs.RunValues.{numbers_in, place_in, read_root, inner_root, read_stored}
use Rattle.cir_meaning.specs.RunValues.{read_wired}
use Rattle.gold_field.specs.Operators.{unary_of as number_by}
use Rattle.cir_meaning.proofs.Good.{OnGood}
use Rattle.cir_meaning.proofs.Likes.{Like, value_like}
use Rattle.cir_meaning.proofs.FineValues.{FineContext, FineAnswer, value_fine}
use Rattle.cir_meaning.proofs.Strict.{unary_sound}
use Rattle.cir_meaning.proofs.Pairs.{Pair, pair_ok, pair_bad, pair_next, pair_good, pair_weaker}
use Rattle.cir_meaning.proofs.Pairs.{pair_map, good_both, good_changed}
use Rattle.cir_meaning.proofs.RunFree.{NoMiss, IsNumber'}
use Rattle.cir_meaning.proofs.Reaching.{IndicesSame, indices_more}
use Rattle.cir_meaning.proofs.Same.{Same, Wire, index_same, stored_pair, wired_pair}
use Rattle.cir_meaning.proofs.Sound.{Told, SourceSame, IsRootSeen, RootSame, Fitting, Answers}
use Rattle.cir_meaning.proofs.Sound.{Ready, Whole', number_pair, single_pair, binary_pair}
use Rattle.cir_meaning.proofs.Sound.{choice_pair, AllAnswers, gathered_pair}

-- a component's signals depend on components and parts alone
inner_frame : (w : Where) (shaded : Bool) (n : ℕ) (os : List (Option ℕ)) (name : List ℕ)
    (g f : Frame)
    → g.components ≡ f.components → g.parts ≡ f.parts
    → inner_origin w shaded (reading.Named (meant.Component n)) os name g ≡ inner_origin w shaded
    (reading.Named (meant.Component n)) os name f
inner_frame w shaded n os name g f c p =
    ap (λ cs. inner_origin w shaded (reading.Named (meant.Component n)) os name
    (record g { components = cs })) c
    ∙ ap (λ ps. inner_origin w shaded (reading.Named (meant.Component n)) os name
    (record g { components = f.components; parts = ps })) p

-- a stop that isn't for a missing value, beside an answer
pub pair_real : {A B : Type 0} (P : B → Type 0) (m : Tried A) (r : Result B ℕ) → NoMiss P r
    → Pair (λ a b. P b) m r
unfolding Pair NoMiss
pair_real P (Ok a) (Ok b) h = h
pair_real P (Ok a) (Err stop) h = h
pair_real P (Err e) r h = tt

pub pair_gives : {A B : Type 0} (P : A → Type 0) (R : A → B → Type 0) (m : Tried A) (b : B)
    → OnGood P m → ((a : A) → P a → R a b) → Pair R m (Ok b)
unfolding Pair OnGood
pair_gives P R (Ok a) b h g = g a h
pair_gives P R (Err e) b h g = tt

module _ (E : Assignment → Type 0) (k : Context) (fine : FineContext k) (w : Where)
    (scope : Scope) (f : State) (env : Environment) (store : Store)
    (fit : Fitting E k w scope f env store) where
  abbrev Answered : Datum × State → Numbers × ℕ → Type 0
  Answered = Answers E f

  -- a name that is read with all its indices
  variable_pair : (shaded : Bool) (want : Want) (n : ℕ) (os : List (Option ℕ))
      (ns : List ℕ) (s : State) (u : ℕ) → scope.seen n ≡ true
      → IndicesSame os ns → Like f s
      → Pair Answered (next (read_origin w shaded want os (Stored (variable_at s.frame n)))
      (λ d. Ok (d, s))) (read_stored (stored store n) ns u)
  variable_pair shaded want n os ns s u seen h l =
      pair_map (λ x y. Same E x y.0) Answered (read_origin w shaded want os
      (Stored (variable_at s.frame n))) (read_stored (stored store n) ns u) (λ d. (d, s))
      (stored_pair E w shaded want os ns (variable_at s.frame n) (stored store n) u
      (subst (λ vs. Same E (unwrap_or (slice_get vs n) (single (Known 0))) (stored store n))
      (sym l.0) (fit.variables n seen)) h) (λ d y p. (p, l))

  entry_pair : (shaded : Bool) (want : Want) (n : ℕ) (os : List (Option ℕ))
      (ns : List ℕ) (s : State) (u : ℕ) (o : Option SignalEntry)
      → entry_at f.frame.signals n ≡ o
      → IndicesSame os ns → Like f s
      → Pair Answered (next (next (found w ReadBeforeWrite o) (λ e. Ok (Wired true e)))
      (λ source. next (read_origin w shaded want os source) (λ d. Ok (d, s))))
      (run.read_option (env.signal n) ns u)
  entry_pair shaded want n os ns s u None e h l = pair_bad Answered _ _
  entry_pair shaded want n os ns s u (Some x) e h l =
      let there : (d : Shaped (Option ℕ)) × (env.signal n ≡ Some d) × Wire E true x d = fit.signals
      n x e in
      subst (λ o. Pair Answered (next (read_origin w shaded want os (Wired true x))
      (λ d. Ok (d, s))) (run.read_option o ns u)) (sym there.1)
      (pair_map (λ a y. Same E a y.0) Answered (read_origin w shaded want os (Wired true x))
      (read_wired there.0 ns u) (λ d. (d, s))
      (wired_pair E w shaded want os ns true x there.0 u there.2 h) (λ d y p. (p, l)))

  named_pair : (shaded : Bool) (want : Want) (m : Meant) (os : List (Option ℕ))
      (ns : List ℕ) (s : State) (u : ℕ) → IsSeen scope m
      → IndicesSame os ns → Like f s
      → Pair Answered (next (origin_of w (reading.Named m) s.frame)
      (λ source. next (read_origin w shaded want os source) (λ d. Ok (d, s))))
      (read_root env store (run.RunNamed m) ns u)
  named_pair shaded want (meant.Variable n) os ns s u seen h l =
      variable_pair shaded want n os ns s u seen h l
  named_pair shaded want (meant.Signal direction n) os ns s u seen h l =
      entry_pair shaded want n os ns s u (entry_at s.frame.signals n)
      (ap (λ entries. entry_at entries n) (sym l.1)) h l
  named_pair shaded want meant.Other os ns s u seen h l = pair_bad Answered _ _
  named_pair shaded want (meant.Component n) os ns s u seen h l = pair_bad Answered _ _
  named_pair shaded want (meant.Template n) os ns s u seen h l = pair_bad Answered _ _
  named_pair shaded want (meant.Function n) os ns s u seen h l = pair_bad Answered _ _

  done_pair : (shaded : Bool) (want : Want) (root : reading.Root) (on : run.RunRoot)
      (os : List (Option ℕ)) (ns : List ℕ) (s : State) (u : ℕ) → IsRootSeen scope root
      → RootSame E root on → IndicesSame os ns → Like f s
      → Pair Answered (next (origin_of w root s.frame) (λ source. next
      (read_origin w shaded want os source) (λ d. Ok (d, s)))) (read_root env store on ns u)
  done_pair shaded want (reading.Named m) (run.RunNamed n) os ns s u seen e h l =
      subst (λ a. Pair Answered (next (origin_of w (reading.Named m) s.frame)
      (λ source. next (read_origin w shaded want os source) (λ d. Ok (d, s))))
      (read_root env store (run.RunNamed a) ns u)) e
      (named_pair shaded want m os ns s u seen h l)
  done_pair shaded want (reading.Named m) (run.RunFound d) os ns s u seen e h l = absurd e
  done_pair shaded want (reading.Found source) (run.RunNamed n) os ns s u seen e h l = absurd e
  done_pair shaded want (reading.Found (Stored x)) (run.RunFound d) os ns s u seen e h l = absurd e
  done_pair shaded want (reading.Found Lost) (run.RunFound d) os ns s u seen e h l = absurd e
  done_pair shaded want (reading.Found (Wired may x)) (run.RunFound d) os ns s u seen e h l =
      pair_map (λ a y. Same E a y.0) Answered (read_origin w shaded want os (Wired may x))
      (read_wired d ns u) (λ a. (a, s))
      (wired_pair E w shaded want os ns may x d u e h) (λ a y p. (p, l))

  -- the signal of a component
  component_pair : (shaded : Bool) (m : Meant) (os : List (Option ℕ)) (ns : List ℕ)
      (name : List ℕ) (s : State)
      → IndicesSame os ns → Like f s
      → Pair (SourceSame E) (inner_origin w shaded (reading.Named m) os name s.frame)
      (inner_root env (run.RunNamed m) ns name)
  component_pair shaded (meant.Component n) os ns name s h l =
      subst (λ q. Pair (SourceSame E) q (env.part n ns name))
      (sym (inner_frame w shaded n os name s.frame f.frame l.2 l.3))
      (fit.parts shaded n os ns name h)
  component_pair shaded meant.Other os ns name s h l = pair_bad (SourceSame E) _ _
  component_pair shaded (meant.Variable n) os ns name s h l = pair_bad (SourceSame E) _ _
  component_pair shaded (meant.Signal direction n) os ns name s h l = pair_bad (SourceSame E) _ _
  component_pair shaded (meant.Template n) os ns name s h l = pair_bad (SourceSame E) _ _
  component_pair shaded (meant.Function n) os ns name s h l = pair_bad (SourceSame E) _ _

  inner_pair : (shaded : Bool) (root : reading.Root) (on : run.RunRoot)
      (os : List (Option ℕ)) (ns : List ℕ) (name : List ℕ) (s : State)
      → RootSame E root on → IndicesSame os ns → Like f s → Pair (SourceSame E)
      (inner_origin w shaded root os name s.frame) (inner_root env on ns name)
  inner_pair shaded (reading.Named m) (run.RunNamed n) os ns name s e h l =
      subst (λ a. Pair (SourceSame E) (inner_origin w shaded (reading.Named m) os name s.frame)
      (inner_root env (run.RunNamed a) ns name)) e (component_pair shaded m os ns name s h l)
  inner_pair shaded (reading.Named m) (run.RunFound d) os ns name s e h l = absurd e
  inner_pair shaded (reading.Found source) on os ns name s e h l = pair_bad (SourceSame E) _ _

  whole : (m : Tried (Datum × State)) (r : Ran Numbers) → OnGood FineAnswer m → Pair Answered m r
      → Pair (Whole' E k fine f) m r
  whole m r g h = pair_good FineAnswer Answered m r g h

  ready_good : (m : Tried (Datum × State)) → OnGood (λ x. Like f x.1) m → OnGood FineAnswer m
      → OnGood (λ x. Ready E k fine f x.1) m
  ready_good m l g =
      good_changed (λ x. Like f x.1 × FineAnswer x) (λ x. Ready E k fine f x.1) m
      (good_both (λ x. Like f x.1) FineAnswer m l g) (λ x p. (p.0, p.1.1))

  -- calls
  call_number : (m : Meant) (ds : List Numbers) (u : ℕ) → IsFunction scope.functions m
      → NoMiss IsNumber' (run.call_function env m ds u)
  call_number (meant.Function n) ds u is = fit.calls n ds u is
  call_number meant.Other ds u is = absurd is
  call_number (meant.Variable n) ds u is = absurd is
  call_number (meant.Signal direction n) ds u is = absurd is
  call_number (meant.Component n) ds u is = absurd is
  call_number (meant.Template n) ds u is = absurd is

  one_opaque : (d : Datum) (m : Numbers) → d ≡ single Opaque → (n : ℕ) × (m ≡ single n)
      → Same E d m
  one_opaque d m e g =
      subst (λ a. Same E a m) (sym e)
      (subst (λ a. Same E (single Opaque) a) (sym g.1) (refl, (tt, tt)))

  called_pair : (shaded : Bool) (want : Want) (parallel : Bool) (name : List ℕ) (m : Meant)
      (arguments : Exprs Meant) (s : State) (u : ℕ) (o : Option Numbers)
      → IsFunction scope.functions m
      → OnGood (λ x. Told E x.0 o) (value_in k w shaded want (Call parallel name m arguments) s)
      → OnGood (λ x. Like f x.1) (value_in k w shaded want (Call parallel name m arguments) s)
      → Pair (AllAnswers E k fine f) (all_in k w shaded arguments s)
      (numbers_in env store arguments u)
      → Pair Answered (value_in k w shaded want (Call parallel name m arguments) s)
      (run.unless_known o u (next (numbers_in env store arguments u)
      (λ (ds, u1). run.call_function env m ds u1)))
  called_pair shaded want parallel name m arguments s u (Some d) is told like pairs =
      pair_gives (λ x. Told E x.0 (Some d) × Like f x.1) Answered
      (value_in k w shaded want (Call parallel name m arguments) s) (d, u)
      (good_both (λ x. Told E x.0 (Some d)) (λ x. Like f x.1)
      (value_in k w shaded want (Call parallel name m arguments) s) told like) (λ x p. p)
  called_pair shaded want parallel name m arguments s u None is told like pairs =
      pair_weaker (λ x y. (Told E x.0 None × Like f x.1) × IsNumber' y) Answered
      (value_in k w shaded want (Call parallel name m arguments) s) _
      (λ x y p. (one_opaque x.0 y.0 p.0.0 p.1, p.0.1))
      (pair_good (λ x. Told E x.0 None × Like f x.1) (λ x y. IsNumber' y)
      (value_in k w shaded want (Call parallel name m arguments) s) _
      (good_both (λ x. Told E x.0 None) (λ x. Like f x.1)
      (value_in k w shaded want (Call parallel name m arguments) s) told like)
      (pair_next (AllAnswers E k fine f) (λ x y. IsNumber' y) (all_in k w shaded arguments s)
      (numbers_in env store arguments u) _ _ pairs
      (λ x y q. pair_real IsNumber' (called k w want m arguments x.0 x.1)
      (run.call_function env m y.0 y.1) (call_number m y.0 y.1 is))))

  mutual
    pub value_pair : (shaded : Bool) (want : Want) (e : Expr Meant) (s : State) (u : ℕ)
        → AreCallsMeant scope e → Ready E k fine f s
        → Pair Answered (value_in k w shaded want e s) (number_in env store e u)
    value_pair shaded want (Number n) s u t l =
        single_pair E k fine f (Known (n % P)) s (n % P) u refl l.0
    value_pair shaded want (Place name m accessors) s u t l =
        place_pair shaded want (reading.Named m) (run.RunNamed m) [] [] accessors s u t.0 t.1 refl
        tt l
    value_pair shaded want (Call parallel name m arguments) s u t l =
        called_pair shaded want parallel name m arguments s u
        (env.known (Call parallel name m arguments)) t.0
        (fit.known shaded want parallel name m arguments s l.0)
        (value_like f k fit.keeps w shaded want (Call parallel name m arguments) s l.0)
        (all_pair shaded arguments s u t.1 l)
    value_pair shaded want (Anonymous parallel name m arguments inputs) s u t l =
        pair_bad Answered _ _
    value_pair shaded want (Parentheses e) s u t l = value_pair shaded want e s u t l
    value_pair shaded Scalar (Array items) s u t l = pair_bad Answered _ _
    value_pair shaded Whole (Array items) s u t l =
        pair_next (AllAnswers E k fine f) Answered (all_in k w shaded items s)
        (numbers_in env store items u) _ _ (all_pair shaded items s u t l)
        (λ x y p. gathered_pair E k fine f w x.0 y.0 x.1 y.1 p.0 p.1)
    value_pair shaded want (Unary op a) s u t l =
        number_pair E k fine f Answered (value_in k w shaded Scalar a s) (number_in env store a u) _
        _
        (whole _ _ (value_fine k fine w shaded Scalar a s l.1)
        (value_pair shaded Scalar a s u t l))
        (λ x s1 n u1 h m l1. single_pair E k fine f (unary_result (unary_of op) x) s1
        (number_by (unary_of op) n) u1 (unary_sound E (unary_of op) x n h m) l1.0)
    value_pair shaded want (Binary op a b) s u t l =
        number_pair E k fine f Answered (value_in k w shaded Scalar a s) (number_in env store a u) _
        _
        (whole _ _ (value_fine k fine w shaded Scalar a s l.1)
        (value_pair shaded Scalar a s u t.0 l))
        (λ x s1 n u1 h m l1. binary_pair E k fine f w shaded s1 u1 l1
        (λ dark. value_in k w dark Scalar b s1) (number_in env store b u1)
        (λ dark. whole _ _ (value_fine k fine w dark Scalar b s1 l1.1)
        (value_pair dark Scalar b s1 u1 t.1 l1))
        (λ dark. value_like f k fit.keeps w dark Scalar b s1 l1.0) (operator_of op) x n h m)
    value_pair shaded want (Choice c a b) s u t l =
        number_pair E k fine f Answered (value_in k w shaded Scalar c s) (number_in env store c u) _
        _
        (whole _ _ (value_fine k fine w shaded Scalar c s l.1)
        (value_pair shaded Scalar c s u t.0 l))
        (λ x s1 n u1 h m l1. choice_pair E k fine f shaded s1 u1 l1
        (λ dark. value_in k w dark Scalar a s1) (λ dark s2. value_in k w dark Scalar b s2)
        (number_in env store a u1) (number_in env store b u1)
        (λ dark. whole _ _ (value_fine k fine w dark Scalar a s1 l1.1)
        (value_pair dark Scalar a s1 u1 t.1 l1))
        (λ dark s2 l2. whole _ _ (value_fine k fine w dark Scalar b s2 l2.1)
        (value_pair dark Scalar b s2 u1 t.2 l2))
        (λ dark. ready_good _ (value_like f k fit.keeps w dark Scalar a s1 l1.0)
        (value_fine k fine w dark Scalar a s1 l1.1))
        (λ dark s2 l2. value_like f k fit.keeps w dark Scalar b s2 l2) x n m)

    all_pair : (shaded : Bool) (es : Exprs Meant) (s : State) (u : ℕ)
        → AreAllMeant scope es → Ready E k fine f s
        → Pair (AllAnswers E k fine f) (all_in k w shaded es s) (numbers_in env store es u)
    all_pair shaded none s u t l = pair_ok (AllAnswers E k fine f) _ _ (tt, l.0)
    all_pair shaded (more e es) s u t l =
        pair_next (Whole' E k fine f) (AllAnswers E k fine f) (value_in k w shaded Whole e s)
        (number_in env store e u) _ _
        (whole _ _ (value_fine k fine w shaded Whole e s l.1)
        (value_pair shaded Whole e s u t.0 l))
        (λ x y p. pair_next (AllAnswers E k fine f) (AllAnswers E k fine f)
        (all_in k w shaded es x.1) (numbers_in env store es y.1) _ _
        (all_pair shaded es x.1 y.1 t.1 (p.1.1, p.0.1))
        (λ xs ys q. pair_ok (AllAnswers E k fine f) _ _ ((p.1.0, q.0), q.1)))

    place_pair : (shaded : Bool) (want : Want) (root : reading.Root) (on : run.RunRoot)
        (os : List (Option ℕ)) (ns : List ℕ) (accessors : Accessors Meant)
        (s : State) (u : ℕ) → IsRootSeen scope root → AreIndicesMeant scope accessors
        → RootSame E root on
        → IndicesSame os ns → Ready E k fine f s
        → Pair Answered (read_in k w shaded want root os accessors s)
        (place_in env store on ns accessors u)
    place_pair shaded want root on os ns done s u seen t r h l =
        done_pair shaded want root on os ns s u seen r h l.0
    place_pair shaded want root on os ns (index e rest) s u seen t r h l =
        number_pair E k fine f Answered (value_in k w shaded Scalar e s) (number_in env store e u) _
        _
        (whole _ _ (value_fine k fine w shaded Scalar e s l.1)
        (value_pair shaded Scalar e s u t.0 l))
        (λ x s1 n u1 i m l1. place_pair shaded want root on (os ++ known_number x ∷ [])
        (ns ++ n ∷ []) rest s1 u1 seen t.1 r
        (indices_more os ns (known_number x) n h (index_same E x n m)) l1)
    place_pair shaded want root on os ns (member name rest) s u seen t r h l =
        pair_next (SourceSame E) Answered (inner_origin w shaded root os name s.frame)
        (inner_root env on ns name) _ _ (inner_pair shaded root on os ns name s r h l.0)
        (λ source d p. place_pair shaded want (reading.Found source) (run.RunFound d) [] [] rest s
        u tt t p tt l)
