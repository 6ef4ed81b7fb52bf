-- The number of an expression when it runs is what its value at compile time means.
use Rattle.std.proofs.Common.{◌≡◌, ℕ, suc, Bool, true, false, not, cond, List, [], ◌∷◌, flat_map}
use Rattle.std.proofs.Common.{length, Option, Some, None, Ok, refl, sym, ap, subst, ◌∙◌}
use Rattle.std.specs.Prelude.{⊤, ◌==◌}
use Rattle.std.specs.List.{list_all}
use Rattle.gold_field.specs.declared.operators.Op2.{Op2}
use Rattle.gold_field.specs.Operators.{binary_of}
use Rattle.cir_ast.specs.declared.program.Meant.{Meant}
use Rattle.cir_ast.specs.declared.program.Meant.TheVariants as meant
use Rattle.cir_ast.specs.declared.refusal.Kind.TheVariants.{ShapeDiffers}
use Rattle.cir_ast.specs.Tree.{Call, Exprs}
use Rattle.cir_lc.specs.Number.{Assignment}
use Rattle.cir_meaning.specs.Tried.{Where, Tried, next}
use Rattle.cir_meaning.specs.Arrays.{Shaped, Datum, Want, single, made, the_item, same_dims}
use Rattle.cir_meaning.specs.Limits.{with_array}
use Rattle.cir_meaning.specs.Values.{Value, Known, Linear, Quadratic, Opaque, IsValue, result_of}
use Rattle.cir_meaning.specs.Values.{lazy_result, side_of, chosen, truth_number, and_number}
use Rattle.cir_meaning.specs.Values.{or_number, Decided, Second, truth_of, Right, First}
use Rattle.cir_meaning.specs.Operators.{Operator, Strict, And, Or, left_tells, applied, divided_at}
use Rattle.cir_meaning.specs.Operators.{shading, first_shading, second_shading}
use Rattle.cir_meaning.specs.Frame.{SignalEntry, State, Context, variable_at, entry_at, adding}
use Rattle.cir_meaning.specs.Reading.{Origin, Stored, Wired, Lost, inner_origin}
use Rattle.cir_meaning.specs.Reading as reading
use Rattle.cir_meaning.specs.Evaluate.{scalar, answered, looked_at, gathered, value_in}
use Rattle.cir_meaning.specs.RunValues as run
use Rattle.cir_meaning.specs.Scoped.{Scope, IsSeen}
use Rattle.cir_meaning.specs.RunValues.{Numbers, Ran, Environment, Store, stored, needs_right}
use Rattle.cir_meaning.specs.RunValues.{result_number, zero_divisor}
use Rattle.cir_meaning.proofs.Good.{OnGood}
use Rattle.cir_meaning.proofs.Likes.{CallKeeps, Like}
use Rattle.cir_meaning.proofs.RunFree.{Calls}
use Rattle.cir_meaning.proofs.FineValues.{FineContext, Fine, FineAnswer, the_value}
use Rattle.cir_meaning.proofs.Meaning.{Means}
use Rattle.cir_meaning.proofs.Strict.{strict_sound}
use Rattle.cir_meaning.proofs.Pairs.{Pair, pair_ok, pair_bad, pair_stop, pair_next, pair_left}
use Rattle.cir_meaning.proofs.Pairs.{pair_needed}
use Rattle.cir_meaning.proofs.Reaching.{IndicesSame}
use Rattle.cir_meaning.proofs.Same.{Rows, Same, Wire, rows_at, rows_join, rows_made}

-- a relation between what a name is read as
abbrev pub SourceSame : (Assignment → Type 0) → Origin → Shaped (Option ℕ) → Type 0
SourceSame E (Stored d) m = ⊥
SourceSame E (Wired may e) m = Wire E may e m
SourceSame E Lost m = ⊥

-- what stands in front of indices is in scope
abbrev pub IsRootSeen : Scope → reading.Root → Type 0
IsRootSeen scope (reading.Named m) = IsSeen scope m
IsRootSeen scope (reading.Found source) = ⊤

abbrev pub RootSame : (Assignment → Type 0) → reading.Root → run.RunRoot → Type 0
RootSame E (reading.Named m) (run.RunNamed n) = m ≡ n
RootSame E (reading.Named m) (run.RunFound d) = ⊥
RootSame E (reading.Found source) (run.RunNamed n) = ⊥
RootSame E (reading.Found source) (run.RunFound d) = SourceSame E source d

-- what is told of a call by the value that it has already
abbrev pub Told : (Assignment → Type 0) → Datum → Option Numbers → Type 0
Told E d None = d ≡ single Opaque
Told E d (Some m) = Same E d m

-- the environment of a run has the numbers of what stands in a frame
pub record Fitting (E : Assignment → Type 0) (k : Context) (w : Where) (scope : Scope) (f : State)
    (env : Environment) (store : Store) : Type 0 where
  pub variables : (n : ℕ) → scope.seen n ≡ true → Same E (variable_at f.frame n) (stored store n)
  pub signals : (n : ℕ) (e : SignalEntry) → entry_at f.frame.signals n ≡ Some e
      → (d : Shaped (Option ℕ)) × (env.signal n ≡ Some d) × Wire E true e d
  pub parts : (shaded : Bool) (n : ℕ) (os : List (Option ℕ)) (ns : List ℕ)
      (name : List ℕ)
      → IndicesSame os ns
      → Pair (SourceSame E) (inner_origin w shaded (reading.Named (meant.Component n)) os name
      f.frame) (env.part n ns name)
  pub keeps : CallKeeps k.call
  -- a call that has its value already has it here, and another one is opaque
  pub known : (shaded : Bool) (want : Want) (parallel : Bool) (name : List ℕ) (m : Meant)
      (arguments : Exprs Meant) (s : State) → Like f s
      → OnGood (λ x. Told E x.0 (env.known (Call parallel name m arguments)))
      (value_in k w shaded want (Call parallel name m arguments) s)
  -- and gives a number when it is made
  pub calls : Calls scope.functions env.call

-- where both answer, the answer has the numbers, and the frame is the same
abbrev pub Answers : (Assignment → Type 0) → State → Datum × State → Numbers × ℕ → Type 0
Answers E f x y = Same E x.0 y.0 × Like f x.1

module _ (E : Assignment → Type 0) (k : Context) (fine : FineContext k) (f : State) where
  abbrev pub Ready : State → Type 0
  Ready s = Like f s × Fine s

  -- what is carried along: the answer is of the field, its numbers are the run's, and the frame
  -- stays
  abbrev pub Whole' : Datum × State → Numbers × ℕ → Type 0
  Whole' x y = FineAnswer x × Answers E f x y

  -- numbers that were wanted
  pub number_pair : {A B : Type 0} (R : A → B × ℕ → Type 0) (m : Tried (Datum × State))
      (r : Ran Numbers) (go : Value → State → Tried A)
      (on : ℕ → ℕ → Ran B) → Pair Whole' m r
      → ((v : Value) (s : State) (n u : ℕ) → IsValue v → Means E v n → Ready s → Pair R (go v s)
      (on n u)) → Pair R (scalar m go) (run.number r on)
  number_pair R m r go on h g =
      pair_next Whole' R m r (λ (d, s). go (the_item d) s) (λ (d, u). on (run.the_number d) u) h
      (λ x y p. g (the_item x.0) x.1 (run.the_number y.0) y.1 (the_value x.0 p.0.0)
      (rows_at E x.0.items y.0.items 0 p.1.0.1) (p.1.1, p.0.1))

  pub single_pair : (v : Value) (s : State) (n u : ℕ) → Means E v n → Like f s
      → Pair (Answers E f) (answered v s) (run.gives (single n) u)
  single_pair v s n u h l = pair_ok (Answers E f) _ _ ((refl, (h, tt)), l)

  -- operators
  strict_pair : (w : Where) (shaded : Bool) (op : Op2) (x y : Value) (m n : ℕ) (o : Option Value)
      (z : Option ℕ)
      → result_of op x y ≡ o → binary_of op m n ≡ z
      → IsValue x → IsValue y → Means E x m → Means E y n → Pair (Means E) (divided_at w shaded o)
      (run.unless_zero_divisor z)
  strict_pair w shaded op x y m n o None e b hx hy mx my =
      pair_stop (Means E) _ zero_divisor (λ no. cc)
  strict_pair w shaded op x y m n (Some v) (Some z) e b hx hy mx my =
      pair_ok (Means E) v z (strict_sound E op x y v m n z hx hy mx my e b)
  strict_pair w true op x y m n None (Some z) e b hx hy mx my = pair_ok (Means E) Opaque z tt
  strict_pair w false op x y m n None (Some z) e b hx hy mx my = pair_bad (Means E) _ _

  truth_sound : (y : Value) (n : ℕ) → Means E y n → Means E (truth_of y) (truth_number n)
  truth_sound (Known j) n h = ap truth_number h
  truth_sound (Linear g) n h = tt
  truth_sound (Quadratic a b c) n h = tt
  truth_sound Opaque n h = tt

  -- what stands left of an operator is known, and the right side is given by what it is and what it
  -- runs as
  module _ (w : Where) (shaded : Bool) (s : State) (u : ℕ) (ready : Ready s)
      (value : Bool → Tried (Datum × State)) (r : Ran Numbers)
      (pair : (dark : Bool) → Pair Whole' (value dark) r)
      (good : (dark : Bool) → OnGood (λ x. Like f x.1) (value dark)) where
    -- the left side isn't known
    unknown_pair : (needed_right : Bool) (result : ℕ → ℕ)
        → Pair (Answers E f) (looked_at (Some true) s value
        (λ y s2. next (Ok Opaque) (λ v. answered v s2)))
        (run.number (run.when needed_right u r) (λ n u2. next (Ok (result n))
        (λ z. run.gives (single z) u2)))
    unknown_pair true result =
        number_pair (Answers E f) (value true) r _ _ (pair true)
        (λ y s2 n u2 h m l. single_pair Opaque s2 (result n) u2 tt l.0)
    unknown_pair false result =
        pair_left (λ x. Like f x.1) (Answers E f) (value true) _ _ (good true)
        (λ x l. single_pair Opaque x.1 (result 0) u tt l)

    and_pair : (zero_left : Bool)
        → Pair (Answers E f) (looked_at (shading (cond zero_left (Decided 0) Right) shaded) s value
        (λ y s2. next (Ok (lazy_result (cond zero_left (Decided 0) Right) y))
        (λ v. answered v s2)))
        (run.number (run.when (not zero_left) u r) (λ n u2. next
        (Ok (cond zero_left 0 (truth_number n))) (λ z. run.gives (single z) u2)))
    and_pair true = single_pair (Known 0) s 0 u refl ready.0
    and_pair false =
        number_pair (Answers E f) (value shaded) r _ _ (pair shaded)
        (λ y s2 n u2 h m l. single_pair (truth_of y) s2 (truth_number n) u2 (truth_sound y n m)
        l.0)

    or_pair : (zero_left : Bool)
        → Pair (Answers E f) (looked_at (shading (cond zero_left Right (Decided 1)) shaded) s value
        (λ y s2. next (Ok (lazy_result (cond zero_left Right (Decided 1)) y))
        (λ v. answered v s2)))
        (run.number (run.when zero_left u r) (λ n u2. next (Ok (cond zero_left (truth_number n) 1))
        (λ z. run.gives (single z) u2)))
    or_pair false = single_pair (Known 1) s 1 u refl ready.0
    or_pair true =
        number_pair (Answers E f) (value shaded) r _ _ (pair shaded)
        (λ y s2 n u2 h m l. single_pair (truth_of y) s2 (truth_number n) u2 (truth_sound y n m)
        l.0)

    pub binary_pair : (op : Operator) (x : Value) (m : ℕ) → IsValue x → Means E x m
        → Pair (Answers E f) (looked_at (shading (left_tells op x) shaded) s value
        (λ y s2. next (applied w shaded op x y) (λ v. answered v s2)))
        (run.number (run.when (needs_right op m) u r) (λ n u2. next (result_number op m n)
        (λ z. run.gives (single z) u2)))
    binary_pair (Strict op) x m hx mx =
        number_pair (Answers E f) (value shaded) r _ _ (pair shaded) (λ y s2 n u2 hy my l.
        pair_next (Means E) (Answers E f) (divided_at w shaded (result_of op x y))
        (run.unless_zero_divisor (binary_of op m n)) _ _
        (strict_pair w shaded op x y m n (result_of op x y) (binary_of op m n) refl refl hx hy mx
        my)
        (λ v z mv. single_pair v s2 z u2 mv l.0))
    binary_pair And (Known j) m hx mx =
        subst (λ a. Pair (Answers E f) (looked_at (shading (cond (j == 0) (Decided 0) Right) shaded)
        s value (λ y s2. next (Ok (lazy_result (cond (j == 0) (Decided 0) Right) y))
        (λ v. answered v s2)))
        (run.number (run.when (not (a == 0)) u r) (λ n u2. next
        (Ok (cond (a == 0) 0 (truth_number n))) (λ z. run.gives (single z) u2)))) mx
        (and_pair (j == 0))
    binary_pair And (Linear g) m hx mx = unknown_pair (not (m == 0)) (and_number m)
    binary_pair And (Quadratic a b c) m hx mx = unknown_pair (not (m == 0)) (and_number m)
    binary_pair And Opaque m hx mx = unknown_pair (not (m == 0)) (and_number m)
    binary_pair Or (Known j) m hx mx =
        subst (λ a. Pair (Answers E f) (looked_at (shading (cond (j == 0) Right (Decided 1)) shaded)
        s value (λ y s2. next (Ok (lazy_result (cond (j == 0) Right (Decided 1)) y))
        (λ v. answered v s2)))
        (run.number (run.when (a == 0) u r) (λ n u2. next (Ok (cond (a == 0) (truth_number n) 1))
        (λ z. run.gives (single z) u2)))) mx (or_pair (j == 0))
    binary_pair Or (Linear g) m hx mx = unknown_pair (m == 0) (or_number m)
    binary_pair Or (Quadratic a b c) m hx mx = unknown_pair (m == 0) (or_number m)
    binary_pair Or Opaque m hx mx = unknown_pair (m == 0) (or_number m)

  -- `?:`
  module _ (shaded : Bool) (s : State) (u : ℕ) (ready : Ready s)
      (first : Bool → Tried (Datum × State)) (second : Bool → State → Tried (Datum × State))
      (r q : Ran Numbers)
      (first_pair : (dark : Bool) → Pair Whole' (first dark) r)
      (second_pair : (dark : Bool) (s1 : State) → Ready s1 → Pair Whole' (second dark s1) q)
      (first_good : (dark : Bool) → OnGood (λ x. Ready x.1) (first dark))
      (second_good : (dark : Bool) (s1 : State) → Like f s1 → OnGood (λ x. Like f x.1)
      (second dark s1)) where
    known_choice : (zero_left : Bool)
        → Pair (Answers E f) (looked_at (first_shading (cond zero_left Second First) shaded) s first
        (λ y s2.
        looked_at (second_shading (cond zero_left Second First) shaded) s2 (λ dark. second dark s2)
        (λ z s3. answered (chosen (cond zero_left Second First) y z) s3)))
        (run.number (cond zero_left q r) (λ n u2. run.gives (single n) u2))
    known_choice true =
        number_pair (Answers E f) (second shaded s) q _ _ (second_pair shaded s ready)
        (λ z s3 n u2 h m l. single_pair z s3 n u2 m l.0)
    known_choice false =
        number_pair (Answers E f) (first shaded) r _ _ (first_pair shaded)
        (λ y s2 n u2 h m l. single_pair y s2 n u2 m l.0)

    unknown_choice : (zero_left : Bool)
        → Pair (Answers E f) (looked_at (Some true) s first
        (λ y s2. looked_at (Some true) s2 (λ dark. second dark s2)
        (λ z s3. answered Opaque s3)))
        (run.number (cond zero_left q r) (λ n u2. run.gives (single n) u2))
    unknown_choice true =
        pair_left (λ x. Ready x.1) (Answers E f) (first true) _ _ (first_good true) (λ x l.
        number_pair (Answers E f) (second true x.1) q _ _ (second_pair true x.1 l)
        (λ z s3 n u2 h m l3. single_pair Opaque s3 n u2 tt l3.0))
    unknown_choice false =
        number_pair (Answers E f) (first true) r _ _ (first_pair true) (λ y s2 n u2 h m l.
        pair_left (λ x. Like f x.1) (Answers E f) (second true s2) _ _ (second_good true s2 l.0)
        (λ x l3. single_pair Opaque x.1 n u2 tt l3))

    pub choice_pair : (x : Value) (m : ℕ) → Means E x m
        → Pair (Answers E f) (looked_at (first_shading (side_of x) shaded) s first (λ y s2.
        looked_at (second_shading (side_of x) shaded) s2 (λ dark. second dark s2)
        (λ z s3. answered (chosen (side_of x) y z) s3)))
        (run.number (cond (m == 0) q r) (λ n u2. run.gives (single n) u2))
    choice_pair (Known j) m mx =
        subst (λ a. Pair (Answers E f) (looked_at (first_shading (cond (j == 0) Second First)
        shaded) s first (λ y s2.
        looked_at (second_shading (cond (j == 0) Second First) shaded) s2 (λ dark. second dark s2)
        (λ z s3. answered (chosen (cond (j == 0) Second First) y z) s3)))
        (run.number (cond (a == 0) q r) (λ n u2. run.gives (single n) u2))) mx
        (known_choice (j == 0))
    choice_pair (Linear g) m mx = unknown_choice (m == 0)
    choice_pair (Quadratic a b c) m mx = unknown_choice (m == 0)
    choice_pair Opaque m mx = unknown_choice (m == 0)

  -- lists of arguments and of elements
  abbrev pub AllSame : List Datum → List Numbers → Type 0
  AllSame [] [] = ⊤
  AllSame [] (m ∷ ms) = ⊥
  AllSame (d ∷ ds) [] = ⊥
  AllSame (d ∷ ds) (m ∷ ms) = Same E d m × AllSame ds ms

  abbrev pub AllAnswers : List Datum × State → List Numbers × ℕ → Type 0
  AllAnswers x y = AllSame x.0 y.0 × Like f x.1

  joined_rows : (ds : List Datum) (ms : List Numbers) → AllSame ds ms
      → Rows E (flat_map (λ d. d.items) ds) (flat_map (λ m. m.items) ms)
  joined_rows [] [] h = tt
  joined_rows [] (m ∷ ms) h = absurd h
  joined_rows (d ∷ ds) [] h = absurd h
  joined_rows (d ∷ ds) (m ∷ ms) h =
      rows_join E d.items (flat_map (λ d. d.items) ds) m.items (flat_map (λ m. m.items) ms) h.0.1
      (joined_rows ds ms h.1)

  joined_count : (ds : List Datum) (ms : List Numbers) → AllSame ds ms → length ms ≡ length ds
  joined_count [] [] h = refl
  joined_count [] (m ∷ ms) h = absurd h
  joined_count (d ∷ ds) [] h = absurd h
  joined_count (d ∷ ds) (m ∷ ms) h = ap (λ (a : ℕ). suc a) (joined_count ds ms h.1)

  pub gathered_pair : (w : Where) (ds : List Datum) (ms : List Numbers) (s : State) (u : ℕ)
      → AllSame ds ms → Like f s
      → Pair (Answers E f) (gathered w ds s) (run.gives (run.gathered_numbers ms) u)
  gathered_pair w [] [] s u h l = single_pair Opaque s 0 u tt l
  gathered_pair w [] (m ∷ ms) s u h l = absurd h
  gathered_pair w (d ∷ ds) [] s u h l = absurd h
  gathered_pair w (d ∷ ds) (m ∷ ms) s u h l =
      pair_needed (Answers E f) (list_all (λ e. same_dims e.dims d.dims) ds) w ShapeDiffers _ _
      (λ t.
      subst (λ dims. Pair (Answers E f) (Ok (
        made (length (d ∷ ds) ∷ d.dims)
            (flat_map (λ e. e.items) (d ∷ ds)),
        adding (with_array (length (d ∷ ds) ∷ d.dims)) s,
      ))
      (run.gives (made dims (flat_map (λ m. m.items) (m ∷ ms))) u))
      (sym (same_head (length (m ∷ ms)) (length (d ∷ ds)) m.dims d.dims
      (joined_count (d ∷ ds) (m ∷ ms) h) h.0.0))
      (pair_ok (Answers E f) _ _ (
        rows_made E (length (d ∷ ds) ∷ d.dims)
            (flat_map (λ d. d.items) (d ∷ ds)) (flat_map (λ m. m.items) (m ∷ ms))
            (joined_rows (d ∷ ds) (m ∷ ms) h),
        l,
      )))
    where
      same_head : (a b : ℕ) (as' bs : List ℕ) → a ≡ b → as' ≡ bs → a ∷ as' ≡ b ∷ bs
      same_head a b as' bs e g = ap (λ x. x ∷ as') e ∙ ap (λ xs. b ∷ xs) g
