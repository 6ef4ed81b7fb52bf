-- What is known at compile time has its number in a run, whatever numbers its signals have.
use Rattle.std.proofs.Common.{◌≡◌, inl, inr, ℕ, zero, suc, ◌+◌, Bool, true, false, ◌||◌, not, cond}
use Rattle.std.proofs.Common.{List, [], ◌∷◌, map, length, Option, Some, None, is_some, slice_get}
use Rattle.std.proofs.Common.{slice_index, Result, Ok, Err, refl, sym, ap, subst, ◌∙◌}
use Rattle.std.specs.Prelude.{unwrap_or}
use Rattle.cir_lc.specs.Number.{Assignment, signal}
use Rattle.cir_ast.specs.declared.program.Meant.{Meant}
use Rattle.cir_ast.specs.declared.program.Meant.TheVariants as meant
use Rattle.cir_ast.specs.declared.refusal.Kind.TheVariants.{ReadBeforeWrite, ShapeDiffers}
use Rattle.cir_ast.specs.declared.refusal.Kind.TheVariants.{UnknownIndex}
use Rattle.cir_ast.specs.Tree.{Expr, Accessors}
use Rattle.cir_meaning.specs.Tried.{Where, Tried, next, found, needed}
use Rattle.cir_meaning.specs.Places.{elements, all_known, numbers_from, is_inside, places_of}
use Rattle.cir_meaning.specs.Arrays.{Shaped, Datum, Want, Whole, Scalar, fits, same_dims, reach}
use Rattle.cir_meaning.specs.Values.{Known, Linear}
use Rattle.cir_meaning.specs.Frame.{SignalEntry, Part, ComponentEntry, State, Context, entry_at}
use Rattle.cir_meaning.specs.Frame.{is_input, is_inner, is_fed}
use Rattle.cir_meaning.specs.Reading as reading
use Rattle.cir_meaning.specs.Reading.{Wired, find_signal, told_signal, part_in, part_origin}
use Rattle.cir_meaning.specs.Reading.{located, inner_origin}
use Rattle.cir_meaning.specs.Evaluate.{value_in}
use Rattle.cir_meaning.specs.Writing.{Target, SignalAssignment, signal_assignment, target_in}
use Rattle.cir_meaning.specs.Scoped.{Scope, AreCallsMeant}
use Rattle.cir_meaning.specs.RunValues.{Ran, Numbers, missing, index_out, number_in, option_at}
use Rattle.cir_meaning.specs.Run.{Wires, RunPart, Run, store_of, wires_of, entry_wires, found_port}
use Rattle.cir_meaning.specs.Run.{port_of, part_signal, component_signal, environment}
use Rattle.cir_meaning.proofs.Likes.{CallKeeps, like_itself}
use Rattle.cir_meaning.proofs.FineValues.{FineContext, Fine}
use Rattle.cir_meaning.proofs.KnownCalls.{CallBoth}
use Rattle.cir_meaning.proofs.GroupSizes.{IsGrowing}
use Rattle.cir_meaning.proofs.Good.{OnSome'}
use Rattle.cir_meaning.proofs.CallsTold.{call_told}
use Rattle.cir_meaning.proofs.Meaning.{Means}
use Rattle.cir_meaning.proofs.Pairs.{Pair, pair_ok, pair_bad}
use Rattle.cir_meaning.proofs.Reaching.{IndicesSame, all_same, reached_count}
use Rattle.cir_meaning.proofs.RunFree.{Calls}
use Rattle.cir_meaning.proofs.Same.{Same, Wire, rows_count, needed_next, reach_pair}
use Rattle.cir_meaning.proofs.Sound.{SourceSame, Fitting, Answers}
use Rattle.cir_meaning.proofs.Numbered.{value_pair}
use Rattle.cir_meaning.proofs.Holds.{pair_assoc}
use Rattle.cir_meaning.proofs.ScopedQuiet.{everything}
use Rattle.cir_meaning.proofs.ScanPoints.{next_to, needed_to}
use Rattle.cir_steps.proofs.Unless.{Unless, More, MoreOf, MoreFrom, Richer, value_unless}
use Rattle.cir_steps.proofs.Related.{Nowhere, Knows}

-- each element of each signal has a number
abbrev whole : Wires → Wires
whole wires n k = Some (unwrap_or (wires n k) 0)

abbrev whole_part : RunPart → RunPart
whole_part q = record q { ports = whole q.ports }

abbrev pub whole_run : Run → Run
whole_run r = record r { own = whole r.own; parts = map whole_part r.parts }

item_there : (f : ℕ → Option ℕ) → ((i : ℕ) → (x : ℕ) × (f i ≡ Some x)) → (written : List Bool)
    (first p : ℕ) (g : Assignment → ℕ)
    → (x : ℕ) × (option_at (map f (numbers_from first (length written))) p ≡ Some x)
    × Means Nowhere (cond (is_some (slice_get written p)) (Linear g) (Known 0)) x
item_there f total [] first p g = (0, refl, refl)
item_there f total (b ∷ bs) first zero g =
    ((total first).0, (total first).1, λ v no. absurd no)
item_there f total (b ∷ bs) first (suc p) g = item_there f total bs (first + 1) p g

wire_any : (may : Bool) (n : ℕ) (e : SignalEntry) (wires : Wires)
    → Wire Nowhere may e (wires_of (whole wires) n e)
wire_any may n e wires = (
  refl,
  (λ p t. item_there (whole wires n) (λ i. (unwrap_or (wires n i) 0, refl)) e.written 0 p
      (signal (e.first + p))),
)

get_map : {A B : Type 0} (f : A → B) (xs : List A) (j : ℕ) (x : A) → slice_get xs j ≡ Some x
    → slice_get (map f xs) j ≡ Some (f x)
get_map f [] j x e = cc
get_map f (y ∷ ys) zero x e = let same : y ≡ x = cc in ap (λ z. Some (f z)) same
get_map f (y ∷ ys) (suc j) x e = get_map f ys j x e

scalar_left : (left : List ℕ) → fits Scalar left ≡ true → left ≡ []
scalar_left [] h = refl
scalar_left (d ∷ ds) h = cc

-- and this is an environment with more numbers
more_items : (f : ℕ → Option ℕ) (first count k x : ℕ)
    → option_at (map f (numbers_from first count)) k ≡ Some x
    → option_at (map (λ i. Some (unwrap_or (f i) 0)) (numbers_from first count)) k ≡ Some x
more_items f first zero k x e = e
more_items f first (suc count) zero x e = ap (λ o. Some (unwrap_or o 0)) e
more_items f first (suc count) (suc k) x e = more_items f (first + 1) count k x e

more_wires : (wires : Wires) (n : ℕ) (e : SignalEntry)
    → More (wires_of wires n e) (wires_of (whole wires) n e)
more_wires wires n e = (refl, λ k x. more_items (wires n) 0 (length e.written) k x)

more_entry : (wires : Wires) (n : ℕ) (o : Option SignalEntry)
    → MoreOf (entry_wires wires n o) (entry_wires (whole wires) n o)
more_entry wires n None = tt
more_entry wires n (Some e) = more_wires wires n e

more_found : (wires : Wires) (o : Option (ℕ × SignalEntry))
    → MoreFrom (found_port wires o) (found_port (whole wires) o)
more_found wires None = inl refl
more_found wires (Some (n, e)) = more_wires wires n e

more_port : (name : List ℕ) (p : Option Part) (rs : List RunPart) (j : ℕ) (o : Option RunPart)
    → slice_get rs j ≡ o
    → MoreFrom (port_of name p o) (port_of name p (slice_get (map whole_part rs) j))
more_port name None rs j o e = inl refl
more_port name (Some p) rs j None e = inl refl
more_port name (Some p) rs j (Some r) e =
    subst (λ o. MoreFrom (port_of name (Some p) (Some r)) (port_of name (Some p) o))
    (sym (get_map whole_part rs j r e))
    (more_found r.ports (find_signal (λ e. not (is_inner e.direction)) name 0 p.signals))

more_part : (s : State) (rs : List RunPart) (name : List ℕ) (o : Option ℕ)
    → MoreFrom (part_signal s rs name o) (part_signal s (map whole_part rs) name o)
more_part s rs name None = inl refl
more_part s rs name (Some j) =
    more_port name (slice_get s.frame.parts j) rs j (slice_get rs j) refl

more_component : (s : State) (rs : List RunPart) (c : Option ComponentEntry)
    (indices name : List ℕ)
    → MoreFrom (component_signal s rs c indices name)
    (component_signal s (map whole_part rs) c indices name)
more_component s rs None indices name = inl refl
more_component s rs (Some c) indices name = at (is_inside c.dims (map (λ i. Some i) indices))
  where
    place : Option ℕ
    place = entry_at c.parts
        (slice_index (places_of c.dims (map (λ i. Some i) indices)) 0)

    at : (b : Bool) → MoreFrom (cond b (part_signal s rs name place) (Err index_out))
        (cond b (part_signal s (map whole_part rs) name place) (Err index_out))
    at true = more_part s rs name place
    at false = inr refl

pub whole_richer : (k : Context) (w : Where) (call : ℕ → List Numbers → ℕ → Ran Numbers)
    (s : State) (r : Run)
    → Richer (environment k w call s r) (environment k w call s (whole_run r))
whole_richer k w call s r = record {
  signal = λ n. more_entry r.own n (entry_at s.frame.signals n);
  part = λ n indices name.
      more_component s r.parts (entry_at s.frame.components n) indices name;
  known = λ e. refl;
  call = λ n ds u. refl;
}

-- what the functions of a program keep
pub record IsSound (functions : ℕ) (k : Context) (call : ℕ → List Numbers → ℕ → Ran Numbers)
    : Type 0 where
  pub fine : FineContext k
  pub both : CallBoth k.call
  pub keeps : CallKeeps k.call
  pub calls : Calls functions call
  pub grows : OnSome' IsGrowing k.make

pub pair_is : {A B : Type 0} (R : A → B → Type 0) (m : Tried A) (r : Result B ℕ) (a : A) (b : B)
    → Pair R m r → m ≡ Ok a → r ≡ Ok b → R a b
unfolding Pair
pair_is R (Ok c) (Ok d) a b h e f =
    let same : c ≡ a = cc in
    let same' : d ≡ b = cc in
    subst (λ x. R x b) same (subst (λ y. R c y) same' h)
pair_is R (Ok c) (Err stop) a b h e f = cc
pair_is R (Err x) r a b h e f = cc

pub unless_ok : {A : Type 0} (m n : Result A ℕ) (a : A) → Unless m n → m ≡ Ok a → n ≡ Ok a
unless_ok m n a (inl e) h = let no : ◌≡◌ {A = Result _ ℕ} (Err missing) (Ok a) = sym e ∙ h in cc
unless_ok m n a (inr e) h = sym e ∙ h

module _ (functions : ℕ) (k : Context) (call : ℕ → List Numbers → ℕ → Ran Numbers)
    (sound : IsSound functions k call) (r : Run)
    (there : (j : ℕ) (p : Part) → slice_get r.known.frame.parts j ≡ Some p
    → (q : RunPart) × (slice_get r.parts j ≡ Some q))
    (told : Knows r.known.frame.variables r.numbers) (fine : Fine r.known) where
  abbrev pub All : Scope
  All = everything functions

  abbrev Is : reading.Origin → Shaped (Option ℕ) → Type 0
  Is = SourceSame Nowhere

  port_any : (w : Where) (p : Part) (q : RunPart) (b : Bool) (o : Option (ℕ × SignalEntry))
      → Pair Is (next (told_signal w b o)
      (λ (n, e). Ok (Wired (is_input e.direction || is_fed p.signals) e)))
      (found_port (whole q.ports) o)
  port_any w p q b None = pair_bad Is _ _
  port_any w p q b (Some x) =
      pair_ok Is (Wired (is_input x.1.direction || is_fed p.signals) x.1)
      (wires_of (whole q.ports) x.0 x.1)
      (wire_any (is_input x.1.direction || is_fed p.signals) x.0 x.1 q.ports)

  part_any : (w : Where) (name : List ℕ) (j : ℕ) (o : Option Part)
      → slice_get r.known.frame.parts j ≡ o
      → Pair Is (next (found w ReadBeforeWrite o) (part_origin w name))
      (port_of name o (slice_get (map whole_part r.parts) j))
  part_any w name j None e = pair_bad Is _ _
  part_any w name j (Some p) e =
      let its : (q : RunPart) × (slice_get r.parts j ≡ Some q) = there j p e in
      subst (λ o. Pair Is (part_origin w name p) (port_of name (Some p) o))
      (sym (get_map whole_part r.parts j its.0 its.1))
      (port_any w p its.0
      (is_some (find_signal (λ a. is_inner a.direction) name 0 p.signals))
      (find_signal (λ a. not (is_inner a.direction)) name 0 p.signals))

  element_any : (w : Where) (name : List ℕ) (o : Option ℕ)
      → Pair Is (next (next (found w ReadBeforeWrite o) (λ j. Ok (Some j)))
      (λ j. located w name j r.known.frame.parts))
      (part_signal r.known (map whole_part r.parts) name o)
  element_any w name None = pair_bad Is _ _
  element_any w name (Some j) = part_any w name j (slice_get r.known.frame.parts j) refl

  one_any : (w : Where) (name : List ℕ) (c : ComponentEntry) (places : List ℕ)
      → length places ≡ 1
      → Pair Is (next (part_in w c places) (λ j. located w name j r.known.frame.parts))
      (part_signal r.known (map whole_part r.parts) name
      (entry_at c.parts (slice_index places 0)))
  one_any w name c [] e = cc
  one_any w name c (k ∷ ks) e = element_any w name (entry_at c.parts k)

  component_any : (w : Where) (shaded : Bool) (n : ℕ) (os : List (Option ℕ)) (ns : List ℕ)
      (name : List ℕ) → IndicesSame os ns
      → Pair Is (inner_origin w shaded (reading.Named (meant.Component n)) os name r.known.frame)
      (component_signal r.known (map whole_part r.parts) (entry_at r.known.frame.components n) ns
      name)
  component_any w shaded n os ns name same = at (entry_at r.known.frame.components n)
    where
      at : (o : Option ComponentEntry)
          → Pair Is (next
          (next (found w ReadBeforeWrite o) (λ c. needed (is_some (all_known os)) w UnknownIndex
          (next (reach w shaded Scalar c.dims os) (λ q. part_in w c q.places))))
          (λ j. located w name j r.known.frame.parts))
          (component_signal r.known (map whole_part r.parts) o ns name)
      at None = pair_bad Is _ _
      at (Some c) =
          needed_next Is (is_some (all_known os)) w UnknownIndex
          (next (reach w shaded Scalar c.dims os) (λ q. part_in w c q.places))
          (λ j. located w name j r.known.frame.parts) _ (λ sure.
          pair_assoc Is (reach w shaded Scalar c.dims os)
          (λ q. part_in w c q.places) (λ j. located w name j r.known.frame.parts) _
          (reach_pair Nowhere Is w shaded Scalar c.dims os ns
          (λ q. next (part_in w c q.places) (λ j. located w name j r.known.frame.parts))
          (λ left places. part_signal r.known (map whole_part r.parts) name
          (entry_at c.parts (slice_index places 0))) same (λ left q f.
          subst (λ a. Pair Is (next (part_in w c a.places)
          (λ j. located w name j r.known.frame.parts))
          (part_signal r.known (map whole_part r.parts) name (entry_at c.parts
          (slice_index (places_of c.dims (map (λ i. Some i) ns)) 0)))) (sym f.is)
          (subst (λ is. Pair Is (next (part_in w c (places_of c.dims is))
          (λ j. located w name j r.known.frame.parts))
          (part_signal r.known (map whole_part r.parts) name (entry_at c.parts
          (slice_index (places_of c.dims (map (λ i. Some i) ns)) 0))))
          (sym (all_same os ns same sure))
          (one_any w name c (places_of c.dims (map (λ i. Some i) ns))
          (reached_count c.dims ns left f.left_is ∙ ap elements (scalar_left left f.fit)))))))

  pub fit : (w : Where)
      → Fitting Nowhere k w All r.known (environment k w call r.known (whole_run r))
      (store_of r.known r.numbers)
  fit w = record {
    variables = λ n seen. told n;
    signals = λ n e at. (
      wires_of (whole r.own) n e,
      ap (entry_wires (whole r.own) n) at,
      wire_any true n e r.own,
    );
    parts = component_any w;
    keeps = sound.keeps;
    known = call_told Nowhere k sound.both w r.known;
    calls = sound.calls;
  }

  pub value_known : (w : Where) (want : Want) (e : Expr Meant) (u v : ℕ) (x : Datum) (s : State)
      (d : Numbers) → AreCallsMeant All e → value_in k w false want e r.known ≡ Ok (x, s)
      → number_in (environment k w call r.known r) (store_of r.known r.numbers) e u ≡ Ok (d, v)
      → Same Nowhere x d
  value_known w want e u v x s d te is ran =
      (pair_is (Answers Nowhere r.known) (value_in k w false want e r.known)
      (number_in (environment k w call r.known (whole_run r)) (store_of r.known r.numbers) e u)
      (x, s) (d, v)
      (value_pair Nowhere k sound.fine w All r.known
      (environment k w call r.known (whole_run r)) (store_of r.known r.numbers) (fit w) false want
      e r.known u te (like_itself r.known, fine)) is
      (unless_ok (number_in (environment k w call r.known r) (store_of r.known r.numbers) e u) _
      (d, v)
      (value_unless _ _ (store_of r.known r.numbers) (whole_richer k w call r.known r) e u)
      ran)).0

  -- a value that is written has as many numbers as items
  pub sized : (w : Where) (m : Meant) (accessors : Accessors Meant) (e : Expr Meant) (u v : ℕ)
      (b : SignalAssignment) (d : Numbers) → AreCallsMeant All e
      → signal_assignment k w m accessors e r.known ≡ Ok b
      → number_in (environment k w call r.known r) (store_of r.known r.numbers) e u ≡ Ok (d, v)
      → length d.items ≡ length b.value.items
  sized w m accessors e u v b d te is ran =
      let one : (x : Datum × State) × (value_in k w false Whole e r.known ≡ Ok x)
      × (rest x ≡ Ok b) = next_to (value_in k w false Whole e r.known) rest b is in
      let two : (y : Target × State) × (target_in k w m accessors one.0.1 ≡ Ok y)
      × (last one.0 y ≡ Ok b) = next_to (target_in k w m accessors one.0.1) (last one.0) b one.2 in
      let same : record { value = one.0.0; target = two.0.0; state = two.0.1 } ≡ b =
      (let both : (same_dims two.0.0.reach.left one.0.0.dims ≡ true)
      × (Ok record { value = one.0.0; target = two.0.0; state = two.0.1 } ≡ Ok b) =
      needed_to (same_dims two.0.0.reach.left one.0.0.dims) w ShapeDiffers _ b two.2 in cc) in
      rows_count Nowhere one.0.0.items d.items
      (value_known w Whole e u v one.0.0 one.0.1 d te one.1 ran).1
      ∙ ap (λ (a : SignalAssignment). length a.value.items) same
    where
      last : Datum × State → Target × State → Tried SignalAssignment
      last x y =
          needed (same_dims y.0.reach.left x.0.dims) w ShapeDiffers
          (Ok record { value = x.0; target = y.0; state = y.1 })

      rest : Datum × State → Tried SignalAssignment
      rest x = next (target_in k w m accessors x.1) (last x)
