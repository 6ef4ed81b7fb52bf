-- In a circuit what a step reads is a start cell, or is written by an earlier step.
use Rattle.std.proofs.Common.{◌≡◌, ◌⊎◌, inl, inr, ℕ, zero, suc, ◌+◌, ◌<◌, ◌≤◌, Bool, true, false}
use Rattle.std.proofs.Common.{cond, List, [], ◌∷◌, ◌++◌, length, Some, None, Ok, refl, sym, ap}
use Rattle.std.proofs.Common.{subst, ◌∙◌, arith, nat_eq, nat_lt, zero-le, slice_get}
use Rattle.std.proofs.lemmas.List.{append_assoc}
use Rattle.std.proofs.lemmas.List.Sums.{sum_by-cons}
use Rattle.std.specs.Prelude.{⊤, not, ◌&&◌, unwrap_or, sum_by, filter, codes}
use Rattle.std.specs.List.{AllByRecursion}
use Rattle.std.proofs.lemmas.Bool.{eqb-true, ltb-true}
use Rattle.cir_ast.specs.declared.program.Meant.{Meant}
use Rattle.cir_ast.specs.declared.program.Meant.TheVariants as meant
use Rattle.cir_ast.specs.Program.{Program, Main}
use Rattle.cir_meaning.specs.Scoped.{IsResolved}
use Rattle.cir_meaning.specs.Tried.{Where, Tried, next}
use Rattle.cir_meaning.specs.Places.{elements, numbers_from}
use Rattle.cir_meaning.specs.Limits.{standing}
use Rattle.cir_meaning.specs.Arrays.{Datum}
use Rattle.cir_meaning.specs.Frame.{SignalEntry, Signals, Group, Outputs, PublicInputs}
use Rattle.cir_meaning.specs.Frame.{PrivateInputs, Others, Row, World, State, at, settle, size_in}
use Rattle.cir_meaning.specs.Frame.{entry_at, is_input}
use Rattle.cir_meaning.specs.Evaluate.{arguments_in}
use Rattle.cir_meaning.specs.Bodies.{exec_template, call_at, make_at, most_open}
use Rattle.cir_meaning.specs.Compile.{main_group, main_context, main_state, the_main, exec_main}
use Rattle.cir_meaning.specs.Compile.{group_size, is_of}
use Rattle.cir_meaning.specs.Dependence.{declared_in, IsAllDeclared, IsFew}
use Rattle.cir_meaning.specs.Run.{Wires}
use Rattle.cir_meaning.proofs.Good.{good_is}
use Rattle.cir_meaning.proofs.KnownCalls.{calls_keep}
use Rattle.cir_meaning.proofs.GroupSizes.{Less, Fits, less_itself}
use Rattle.cir_meaning.proofs.Weights.{Bounded}
use Rattle.cir_meaning.proofs.NumberPlaces.{Roomy}
use Rattle.cir_meaning.proofs.DependingBodies.{all_declared}
use Rattle.cir_meaning.proofs.CountingBodies.{all_few}
use Rattle.cir_meaning.proofs.ScanPoints.{next_to}
use Rattle.cir_steps.specs.Step.{Step}
use Rattle.cir_steps.specs.Emission.{wire_cell}
use Rattle.cir_steps.specs.Making.{Cast}
use Rattle.cir_steps.specs.Statements.{emit_body, cast_at}
use Rattle.cir_steps.specs.Circuit.{Circuit, entry_cells, input_cells, is_public, start_cells}
use Rattle.cir_steps.specs.Circuit.{emit_main, circuit_with, all_homes}
use Rattle.cir_steps.specs.Written.{times, targets_of}
use Rattle.cir_steps.proofs.OnceLaw.{circuit_once}
use Rattle.cir_steps.specs.Places.{ArePlacesMeant}
use Rattle.cir_steps.specs.Read.{AreBehind, EachReadBehind}
use Rattle.cir_steps.proofs.Resolved.{templates}
use Rattle.cir_steps.proofs.Casting.{casts_fit}
use Rattle.cir_steps.proofs.Total.{anything}
use Rattle.cir_steps.proofs.Still.{Still, still_itself, settle_still}
use Rattle.cir_steps.proofs.ReadCells.{In, in_left, in_right, in_rest, Behind, behind_weaker, Given}
use Rattle.cir_steps.proofs.ReadSources.{in_from}
use Rattle.cir_steps.proofs.ReadLeaves.{same_ok}
use Rattle.cir_steps.proofs.ReadWired.{in_map}
use Rattle.cir_meaning.proofs.Likes.{Like, like_itself}
use Rattle.cir_meaning.proofs.Creating.{arguments_like}
use Rattle.cir_steps.proofs.ReadBodies.{body_well, casts_well}

-- the inputs of main are start cells
inputs_there : (test : SignalEntry → Bool) (wires : Wires) (n : ℕ) (xs : Signals) (m : ℕ)
    (e : SignalEntry) (i c : ℕ) → entry_at xs m ≡ Some e → is_input e.direction ≡ true
    → test e ≡ true → i < length e.written → wires (n + m) i ≡ Some c
    → In c (input_cells test wires n xs)
inputs_there test wires n [] m e i c there input t less own = cc
inputs_there test wires n (None ∷ xs) zero e i c there input t less own = cc
inputs_there test wires n (None ∷ xs) (suc m) e i c there input t less own =
    let number : n + suc m ≡ suc n + m = omega arith in
    inputs_there test wires (suc n) xs m e i c there input t less
    (ap (λ (k : ℕ). wires k i) (sym number) ∙ own)
inputs_there test wires n (Some d ∷ xs) zero e i c there input t less own =
    let same : d ≡ e = cc in
    let number : n + 0 ≡ n = omega arith in
    in_left c (cond (is_input d.direction && test d) (entry_cells wires n d) [])
    (input_cells test wires (suc n) xs)
    (subst (λ (z : SignalEntry). In c (cond (is_input z.direction && test z)
    (entry_cells wires n z) [])) (sym same)
    (subst (λ (b : Bool). In c (cond b (entry_cells wires n e) []))
    (sym (ap (λ (b : Bool). b && test e) input ∙ t))
    (subst (λ (k : ℕ). In k (entry_cells wires n e))
    (ap (λ (k : ℕ). unwrap_or (wires k i) 0) (sym number) ∙ ap (λ o. unwrap_or o 0) own)
    (in_map (wire_cell wires n) i (numbers_from 0 (length e.written))
    (in_from i 0 (length e.written) zero-le (omega arith))))))
inputs_there test wires n (Some d ∷ xs) (suc m) e i c there input t less own =
    let number : n + suc m ≡ suc n + m = omega arith in
    in_right c (cond (is_input d.direction && test d) (entry_cells wires n d) [])
    (input_cells test wires (suc n) xs)
    (inputs_there test wires (suc n) xs m e i c there input t less
    (ap (λ (k : ℕ). wires k i) (sym number) ∙ own))

starts_there : (m : Main) (wires : Wires) (xs : Signals) (c : ℕ) → Given xs wires c
    → In c (start_cells m wires xs)
starts_there m wires xs c (n, e, there, input, i, less, own) =
    in_rest c 0 (input_cells (is_public m) wires 0 xs
    ++ input_cells (λ e. not (is_public m e)) wires 0 xs) (at (is_public m e) refl)
  where
    number : 0 + n ≡ n
    number = omega arith

    in_wires : wires (0 + n) i ≡ Some c
    in_wires = ap (λ (k : ℕ). wires k i) number ∙ own

    at : (b : Bool) → is_public m e ≡ b → In c (input_cells (is_public m) wires 0 xs
        ++ input_cells (λ e. not (is_public m e)) wires 0 xs)
    at true is =
        in_left c (input_cells (is_public m) wires 0 xs)
        (input_cells (λ e. not (is_public m e)) wires 0 xs)
        (inputs_there (is_public m) wires 0 xs n e i c there input is less in_wires)
    at false is =
        in_right c (input_cells (is_public m) wires 0 xs)
        (input_cells (λ e. not (is_public m e)) wires 0 xs)
        (inputs_there (λ e. not (is_public m e)) wires 0 xs n e i c there input (ap not is) less
        in_wires)

-- where nothing is given
reads_there : (before cs : List ℕ) → AllByRecursion (λ c. ⊥ ⊎ In c before) cs → (c : ℕ)
    → 1 ≤ times c cs → 1 ≤ times c before
reads_there before [] h c some = absurd (omega arith)
reads_there before (d ∷ cs) h c some = at (nat_eq d c) refl h.0 some (reads_there before cs h.1 c)
  where
    at : (b : Bool) → nat_eq d c ≡ b → ⊥ ⊎ In d before → 1 ≤ cond b 1 0 + times c cs
        → (1 ≤ times c cs → 1 ≤ times c before) → 1 ≤ times c before
    at true e (inl never) g go = absurd never
    at true e (inr i) g go = subst (λ (z : ℕ). In z before) (eqb-true d c e) i
    at false e i g go = go (omega arith)

as_behind : (before : List ℕ) (ss : List Step) → Behind (λ c. ⊥) before ss → AreBehind before ss
as_behind before [] h = tt
as_behind before (s ∷ ss) h =
    (reads_there before s.reads h.0, as_behind (before ++ s.targets) ss h.1)

-- no group has more signals than the program
sum_filtered : {A : Type 0} (test : A → Bool) (f : A → ℕ) (xs : List A)
    → sum_by f (filter test xs) ≤ sum_by f xs
sum_filtered test f [] = omega arith
sum_filtered test f (x ∷ xs) = at (test x) (sum_filtered test f xs)
  where
    at : (b : Bool) → sum_by f (filter test xs) ≤ sum_by f xs
        → sum_by f (cond b (x ∷ filter test xs) (filter test xs)) ≤ sum_by f (x ∷ xs)
    at true h =
        let new : sum_by f (x ∷ filter test xs) ≡ f x + sum_by f (filter test xs) =
        sum_by-cons f x (filter test xs) in
        let all : sum_by f (x ∷ xs) ≡ f x + sum_by f xs = sum_by-cons f x xs in omega arith
    at false h =
        let all : sum_by f (x ∷ xs) ≡ f x + sum_by f xs = sum_by-cons f x xs in omega arith

size_few : (size : ℕ) (w : World) → IsAllDeclared size w → IsFew size w → (g : Group)
    → size_in g w.sizes ≤ 1048575
size_few size w h few g =
    let all : sum_by (λ (r : Row). elements r.dims) w.rows ≤ 1048575 = few.signals in
    let part : declared_in w.rows g ≤ sum_by (λ (r : Row). elements r.dims) w.rows =
    sum_filtered (is_of g) (λ (r : Row). elements r.dims) w.rows in
    let is : size_in g w.sizes ≡ standing (declared_in w.rows g) = h.sizes g in
    most (size_in g w.sizes) (declared_in w.rows g) is (omega arith)
  where
    most : (a r : ℕ) → a ≡ standing r → r ≤ 1048575 → a ≤ 1048575
    most a r e l = omega arith

module _ (p : Program) (resolved : IsResolved p) (places : ArePlacesMeant p) where
  -- behind its last limits
  settled : (z : Signals × World) (t : State) (signals : Signals) (world : World)
      → ◌≡◌ {A = Tried (Signals × World)} (Ok (z.0, t.world)) (Ok (signals, world))
      → t.world.sizes ≡ z.1.sizes → (z.0 ≡ signals) × (z.1.sizes ≡ world.sizes)
  settled z t signals world e same =
      let both : (z.0, t.world) ≡ (signals, world) =
      same_ok (z.0, t.world) (signals, world) e in
      (ap (λ v. v.0) both, sym same ∙ ap (λ v. v.1.sizes) both)

  abbrev main_place : Main → Where
  main_place m = at (main_context p group_size m) m.spot

  -- main as it is executed, and as its steps are made
  pub record MainBody (m : Main) (t : ℕ) (signals : Signals) (world : World) (o : Cast)
      : Type 0 where
    pub begun : List Datum × State
    pub args : arguments_in (main_context p group_size m) (main_place m) m.arguments main_state
        ≡ Ok begun
    pub end : Signals × World
    pub executes : exec_template p group_size (call_at p group_size most_open)
        (make_at p group_size 255) (main_group m.public_names) (main_place m) t begun.0
        (codes "main") begun.1.world ≡ Ok end
    pub emits : emit_body p group_size (call_at p group_size most_open) (make_at p group_size 255)
        (main_group m.public_names) (cast_at p group_size 255) (main_place m) t begun.0
        (codes "main") begun.1.world 1 ≡ Ok o
    pub fits : Fits begun.1.world.sizes
    pub same : end.0 ≡ signals
    pub less : Less end.1.sizes world.sizes

  pub main_body : (m : Main) (t : ℕ) (signals : Signals) (world : World) (o : Cast)
      → exec_main p group_size m (meant.Template t) ≡ Ok (signals, world)
      → emit_main p group_size m (meant.Template t) ≡ Ok o → MainBody m t signals world o
  main_body m t signals world o ex em =
      let one : (x : List Datum × State)
      × (arguments_in (main_context p group_size m) place m.arguments main_state ≡ Ok x)
      × (executed x ≡ Ok (signals, world)) =
      next_to (arguments_in (main_context p group_size m) place m.arguments main_state) executed
      (signals, world) ex in
      let two : (x : List Datum × State)
      × (arguments_in (main_context p group_size m) place m.arguments main_state ≡ Ok x)
      × (emitted x ≡ Ok o) =
      next_to (arguments_in (main_context p group_size m) place m.arguments main_state) emitted o
      em in
      let same : two.0 ≡ one.0 = same_ok two.0 one.0 (sym two.1 ∙ one.1) in
      let three : (z : Signals × World)
      × (exec_template p group_size (call_at p group_size most_open) (make_at p group_size 255)
      (main_group m.public_names) place t one.0.0 (codes "main") one.0.1.world ≡ Ok z)
      × (ends one.0 z ≡ Ok (signals, world)) =
      next_to (exec_template p group_size (call_at p group_size most_open)
      (make_at p group_size 255) (main_group m.public_names) place t one.0.0 (codes "main")
      one.0.1.world) (ends one.0) (signals, world) one.2 in
      let four : (s : State)
      × (settle place record { frame = one.0.1.frame; world = three.0.1 } ≡ Ok s)
      × (last three.0 s ≡ Ok (signals, world)) =
      next_to (settle place record { frame = one.0.1.frame; world = three.0.1 }) (last three.0)
      (signals, world) three.2 in
      let result : (three.0.0 ≡ signals) × (three.0.1.sizes ≡ world.sizes) =
      settled three.0 four.0 signals world four.2
      (good_is (Still record { frame = one.0.1.frame; world = three.0.1 })
      (settle place record { frame = one.0.1.frame; world = three.0.1 }) four.0 four.1
      (settle_still record { frame = one.0.1.frame; world = three.0.1 } place
      record { frame = one.0.1.frame; world = three.0.1 }
      (still_itself record { frame = one.0.1.frame; world = three.0.1 }))).2 in
      let begun : one.0.1.world.sizes ≡ main_state.world.sizes =
      ap (λ (v : World). v.sizes)
      (good_is (λ (x : List Datum × State). Like main_state x.1)
      (arguments_in (main_context p group_size m) place m.arguments main_state) one.0 one.1
      (arguments_like (main_context p group_size m) (calls_keep p group_size most_open) main_state
      place m.arguments main_state (like_itself main_state))).4 in record {
        begun = one.0;
        args = one.1;
        end = three.0;
        executes = three.1;
        emits = subst (λ (x : List Datum × State). emitted x ≡ Ok o) same two.2;
        fits = subst Fits (sym begun) none;
        same = result.0;
        less = subst (λ z. Less z world.sizes) (sym result.1) (less_itself world.sizes);
      }
    where
      place : Where
      place = main_place m

      last : Signals × World → State → Tried (Signals × World)
      last z s1 = Ok (z.0, s1.world)

      ends : List Datum × State → Signals × World → Tried (Signals × World)
      ends x z = next (settle place record { frame = x.1.frame; world = z.1 }) (last z)

      executed : List Datum × State → Tried (Signals × World)
      executed x =
          next (exec_template p group_size (call_at p group_size most_open)
          (make_at p group_size 255) (main_group m.public_names) place t x.0 (codes "main")
          x.1.world) (ends x)

      emitted : List Datum × State → Tried Cast
      emitted x =
          emit_body p group_size (call_at p group_size most_open) (make_at p group_size 255)
          (main_group m.public_names) (cast_at p group_size 255) place t x.0 (codes "main")
          x.1.world 1

      none : Fits main_state.world.sizes
      none Outputs = omega arith
      none PublicInputs = omega arith
      none PrivateInputs = omega arith
      none Others = omega arith

  main_covers : (m : Main) (t : Meant) (signals : Signals) (world : World) (o : Cast)
      → exec_main p group_size m t ≡ Ok (signals, world) → emit_main p group_size m t ≡ Ok o
      → Bounded world.sizes → Roomy group_size world.sizes
      → Behind (Given signals o.own) [] o.steps
  main_covers m (meant.Template t) signals world o ex em few room =
      let its : MainBody m t signals world o = main_body m t signals world o ex em in
      subst (λ xs. Behind (Given xs o.own) [] o.steps) its.same
      ((body_well p resolved places group_size world.sizes few room (make_at p group_size 255)
      (main_group m.public_names) (cast_at p group_size 255)
      (casts_fit group_size (λ x y. ⊤) (λ start world z o. ⊤) (anything group_size) p
      (templates p resolved) 255)
      (casts_well p resolved places group_size world.sizes few room 255) (main_place m) t
      its.begun.0 (codes "main") its.begun.1.world 1 its.end o its.executes its.emits its.fits).1
      its.less).body
  main_covers m meant.Other signals world o ex em few room = cc
  main_covers m (meant.Variable n) signals world o ex em few room = cc
  main_covers m (meant.Signal direction n) signals world o ex em few room = cc
  main_covers m (meant.Component n) signals world o ex em few room = cc
  main_covers m (meant.Function n) signals world o ex em few room = cc

  -- no group has more signals than numbers
  pub main_few : (m : Main) (signals : Signals) (world : World)
      → exec_main p group_size m m.meant ≡ Ok (signals, world)
      → Bounded world.sizes × Roomy group_size world.sizes
  unfolding group_size
  main_few m signals world ex = (
    (λ g. let all : size_in g world.sizes ≤ 1048575 = few g in omega arith),
    (λ g. let all : size_in g world.sizes ≤ 1048575 = few g in omega arith),
  )
    where
      few : (g : Group) → size_in g world.sizes ≤ 1048575
      few g =
          size_few group_size world
          (all_declared p group_size m m.meant signals world resolved.functions ex)
          (all_few p group_size m m.meant signals world ex) g

  main_behind : (m : Main) (signals : Signals) (world : World) (o : Cast)
      → exec_main p group_size m m.meant ≡ Ok (signals, world)
      → emit_main p group_size m m.meant ≡ Ok o
      → AreBehind (start_cells m o.own signals) o.steps
  main_behind m signals world o ex em =
      let few : Bounded world.sizes × Roomy group_size world.sizes =
      main_few m signals world ex in
      as_behind (start_cells m o.own signals) o.steps
      (behind_weaker (Given signals o.own) (λ c. ⊥) [] (start_cells m o.own signals) o.steps given
      (main_covers m m.meant signals world o ex em few.0 few.1))
    where
      given : (c : ℕ) → Given signals o.own c ⊎ In c []
          → ⊥ ⊎ In c (start_cells m o.own signals)
      given c (inl g) = inr (starts_there m o.own signals c g)
      given c (inr i) = absurd (omega arith)

  pub circuit_behind : (b : Circuit) → circuit_with group_size p ≡ Ok b → EachReadBehind b
  circuit_behind b is =
      let one : (m : Main) × (the_main p ≡ Ok m) × (of_main m ≡ Ok b) =
      next_to (the_main p) of_main b is in
      let two : (z : Signals × World) × (exec_main p group_size one.0 one.0.meant ≡ Ok z)
      × (with_signals one.0 z ≡ Ok b) =
      next_to (exec_main p group_size one.0 one.0.meant) (with_signals one.0) b one.2 in
      let three : (o : Cast) × (emit_main p group_size one.0 one.0.meant ≡ Ok o)
      × (Ok (circuit_at one.0 two.0 o) ≡ Ok b) =
      next_to (emit_main p group_size one.0 one.0.meant)
      (λ o. Ok (circuit_at one.0 two.0 o)) b two.2 in
      subst EachReadBehind (same_ok (circuit_at one.0 two.0 three.0) b three.2)
      (main_behind one.0 two.0.0 two.0.1 three.0 two.1 three.1)
    where
      circuit_at : Main → Signals × World → Cast → Circuit
      circuit_at m z o = record {
        steps = o.steps;
        cells = o.next;
        starts = start_cells m o.own z.0;
        homes = all_homes group_size z.1.sizes (record { signals = z.0; wires = o.own }
            ∷ o.inside);
      }

      with_signals : Main → Signals × World → Tried Circuit
      with_signals m z =
          next (emit_main p group_size m m.meant) (λ o. Ok (circuit_at m z o))

      of_main : Main → Tried Circuit
      of_main m = next (exec_main p group_size m m.meant) (with_signals m)

-- a cell that is read behind some is one of them, or is written
read_there : (before : List ℕ) (ss : List Step) (i : ℕ) (step : Step) (c : ℕ)
    → AreBehind before ss → slice_get ss i ≡ Some step → 1 ≤ times c step.reads
    → 1 ≤ times c (before ++ targets_of ss)
read_there before [] i step c h there some = cc
read_there before (s ∷ ss) zero step c h there some =
    let same : s ≡ step = cc in
    in_left c before (s.targets ++ targets_of ss)
    (h.0 c (subst (λ (z : Step). 1 ≤ times c z.reads) (sym same) some))
read_there before (s ∷ ss) (suc i) step c h there some =
    subst (λ (cs : List ℕ). 1 ≤ times c cs) (append_assoc before s.targets (targets_of ss))
    (read_there (before ++ s.targets) ss i step c h.1 there some)

pub circuit_near : (p : Program) → IsResolved p → ArePlacesMeant p → (b : Circuit)
    → circuit_with group_size p ≡ Ok b → (i : ℕ) (step : Step) (c : ℕ)
    → slice_get b.steps i ≡ Some step → 1 ≤ times c step.reads → c < b.cells
circuit_near p resolved places b is i step c there some =
    at (nat_lt c b.cells) refl (circuit_once group_size p (templates p resolved) b is c)
    (read_there b.starts b.steps i step c (circuit_behind p resolved places b is) there some)
  where
    at : (less : Bool) → nat_lt c b.cells ≡ less
        → times c (b.starts ++ targets_of b.steps) ≡ cond less 1 0
        → 1 ≤ times c (b.starts ++ targets_of b.steps) → c < b.cells
    at true e count all = ltb-true c b.cells e
    at false e count all = absurd (omega arith)
