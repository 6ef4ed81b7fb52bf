-- What the run of a body has, beside what the compile meaning has there: numbers of its variables,
-- signals and components.
use Rattle.std.proofs.Common.{◌≡◌, ℕ, zero, suc, ◌+◌, ◌<◌, Bool, true, false, ◌&&◌, ◌||◌, not, cond}
use Rattle.std.proofs.Common.{List, [], ◌∷◌, map, length, Option, Some, None, is_some, slice_get}
use Rattle.std.proofs.Common.{slice_index, Result, Ok, Err, refl, sym, ap, subst, ◌∙◌, ◌⊎◌, inl}
use Rattle.std.proofs.Common.{inr, arith}
use Rattle.std.specs.Prelude.{⊤, unwrap_or, bytes_eq}
use Rattle.std.specs.List.{AllByRecursion}
use Rattle.cir_ast.specs.declared.program.Meant.TheVariants as meant
use Rattle.cir_lc.specs.Number.{Assignment, signal}
use Rattle.cir_ast.specs.declared.refusal.Kind.TheVariants.{ReadBeforeWrite, UnknownIndex}
use Rattle.cir_meaning.specs.Tried.{Where, Tried, next, needed, found}
use Rattle.cir_meaning.specs.Places.{elements, all_known, numbers_from, places_of}
use Rattle.cir_meaning.specs.Arrays.{Shaped, Scalar, fits, reach}
use Rattle.cir_meaning.specs.Values.{Known, Linear}
use Rattle.cir_meaning.specs.Frame.{SignalEntry, Signals, Part, ComponentEntry, variable_at}
use Rattle.cir_meaning.specs.Frame.{entry_at, is_input, is_inner, is_fed}
use Rattle.cir_meaning.specs.Reading as reading
use Rattle.cir_meaning.specs.Reading.{Wired, find_signal, told_signal, part_in, part_origin}
use Rattle.cir_meaning.specs.Reading.{located, inner_origin}
use Rattle.cir_meaning.specs.RunValues.{stored}
use Rattle.cir_meaning.specs.Run.{Wires, Table, RunPart, Run, store_of, wires_of, entry_wires}
use Rattle.cir_meaning.specs.Run.{own_signal, found_port, port_of, part_signal, component_signal}
use Rattle.cir_meaning.proofs.Meaning.{Means}
use Rattle.cir_meaning.proofs.Pairs.{Pair, pair_ok, pair_bad}
use Rattle.cir_meaning.proofs.Reaching.{IndicesSame, all_same, reached_count}
use Rattle.cir_meaning.proofs.Same.{Same, Wire, needed_next, reach_pair}
use Rattle.cir_meaning.proofs.Sound.{SourceSame}

-- an assignment has the numbers of a table of signals
abbrev pub Agrees : Assignment → Signals → Wires → Type 0
Agrees v signals wires =
    (n : ℕ) (e : SignalEntry) → entry_at signals n ≡ Some e → (p x : ℕ) → p < length e.written
    → wires n p ≡ Some x → v.at (e.first + p) ≡ x

abbrev pub PartAgrees : Assignment → Part → RunPart → Type 0
PartAgrees v p r =
    Agrees v p.signals r.ports × AllByRecursion (λ t. Agrees v t.signals t.wires) r.inside

-- all numbers that a run has
abbrev pub Extends : Run → Assignment → Type 0
Extends r v = Agrees v r.known.frame.signals r.own
    × ((j : ℕ) (p : Part) (q : RunPart) → slice_get r.known.frame.parts j ≡ Some p → slice_get
    r.parts j ≡ Some q → PartAgrees v p q)

-- a table with a number for each element
abbrev pub Full : Table → Type 0
Full t =
    (n : ℕ) (e : SignalEntry) → entry_at t.signals n ≡ Some e → (k : ℕ) (b : Bool)
    → slice_get e.written k ≡ Some b → is_some (t.wires n k) ≡ true

-- what is written has a number
abbrev pub MarksSame : Signals → Wires → Type 0
MarksSame signals wires =
    (n : ℕ) (e : SignalEntry) → entry_at signals n ≡ Some e → (p : ℕ) (b : Bool) → slice_get
    e.written p ≡ Some b → is_some (wires n p) ≡ b

-- a component's inputs have numbers where they are written, and all its signals once its inputs are
pub record PartHolds (p : Part) (q : RunPart) : Type 0 where
  pub inputs : (n : ℕ) (e : SignalEntry) → entry_at p.signals n ≡ Some e
      → is_input e.direction ≡ true
      → (k : ℕ) (b : Bool) → slice_get e.written k ≡ Some b → is_some (q.ports n k) ≡ b
  pub outputs : is_fed p.signals ≡ true → (n : ℕ) (e : SignalEntry) → entry_at p.signals n ≡ Some e
      → (k : ℕ) (b : Bool) → slice_get e.written k ≡ Some b → is_some (q.ports n k) ≡ true

pub record Holds (r : Run) : Type 0 where
  pub variables : (n : ℕ)
      → Same (Extends r) (variable_at r.known.frame n) (stored (store_of r.known r.numbers) n)
  pub own : MarksSame r.known.frame.signals r.own
  pub parts : (j : ℕ) (p : Part) → slice_get r.known.frame.parts j ≡ Some p
      → (q : RunPart) × (slice_get r.parts j ≡ Some q) × PartHolds p q

pub get_less : {A : Type 0} (xs : List A) (i : ℕ) (x : A) → slice_get xs i ≡ Some x → i < length xs
get_less [] i x e = cc
get_less (y ∷ ys) zero x e = omega arith
get_less (y ∷ ys) (suc i) x e =
    let less : i < length ys = get_less ys i x e in omega arith

-- the numbers of a signal's elements, by place
some_at : (written : List Bool) (f : ℕ → Option ℕ) (first p : ℕ) (b : Bool)
    → slice_get written p ≡ Some b
    → slice_get (map f (numbers_from first (length written))) p ≡ Some (f (first + p))
some_at [] f first p b e = cc
some_at (c ∷ cs) f first zero b e = ap (λ (a : ℕ). Some (f a)) (omega arith)
some_at (c ∷ cs) f first (suc p) b e =
    let next_place : first + 1 + p ≡ first + suc p = omega arith in
    some_at cs f (first + 1) p b e ∙ ap (λ (a : ℕ). Some (f a)) next_place

none_at : (written : List Bool) (f : ℕ → Option ℕ) (first p : ℕ) → slice_get written p ≡ None
    → slice_get (map f (numbers_from first (length written))) p ≡ None
none_at [] f first p e = refl
none_at (c ∷ cs) f first zero e = cc
none_at (c ∷ cs) f first (suc p) e = none_at cs f (first + 1) p e

some_pair : (a b : ℕ × SignalEntry) → Some a ≡ Some b → a ≡ b
some_pair a b e = cc

some_value : (o : Option ℕ) → is_some o ≡ true → (x : ℕ) × (o ≡ Some x)
some_value None e = cc
some_value (Some x) e = (x, refl)

-- a signal of a table, where what may be read has a number
wire_at : (E : Assignment → Type 0) (may : Bool) (n : ℕ) (e : SignalEntry) (wires : Wires) (p : ℕ)
    (o : Option Bool)
    → slice_get e.written p ≡ o
    → ((b : Bool) → slice_get e.written p ≡ Some b → (may && b) ≡ true → is_some (wires n p) ≡ true)
    → ((x : ℕ) → p < length e.written → wires n p ≡ Some x → (v : Assignment) → E v
    → v.at (e.first + p) ≡ x)
    → (may && unwrap_or o true) ≡ true
    → (x : ℕ) × (unwrap_or (slice_get (map (wires n) (numbers_from 0 (length e.written))) p)
    (Some 0) ≡ Some x) × Means E (cond (is_some o) (Linear (signal (e.first + p))) (Known 0)) x
unfolding signal
wire_at E may n e wires p None eq there agrees t = (
  0,
  ap (λ (o : Option (Option ℕ)). unwrap_or o (Some 0)) (none_at e.written (wires n) 0 p eq),
  refl,
)
wire_at E may n e wires p (Some b) eq there agrees t =
    let number : (x : ℕ) × (wires n p ≡ Some x) = some_value (wires n p) (there b eq t) in
    let place : 0 + p ≡ p = omega arith in (
      number.0,
      ap (λ (o : Option (Option ℕ)). unwrap_or o (Some 0)) (some_at e.written (wires n) 0 p b eq) ∙
          ap (λ (a : ℕ). wires n a) place ∙ number.1,
      agrees number.0 (get_less e.written p b eq) number.1,
    )

wire : (E : Assignment → Type 0) (may : Bool) (n : ℕ) (e : SignalEntry) (wires : Wires)
    → ((p : ℕ) (b : Bool) → slice_get e.written p ≡ Some b → (may && b) ≡ true → is_some (wires n p)
    ≡ true)
    → ((p x : ℕ) → p < length e.written → wires n p ≡ Some x → (v : Assignment) → E v
    → v.at (e.first + p) ≡ x) → Wire E
    may e (wires_of wires n e)
wire E may n e wires there agrees =
    (refl, (λ p t. wire_at E may n e wires p (slice_get e.written p) refl (there p) (agrees p) t))

-- a signal that is found by its name stands in the table
pub found_entry : (test : SignalEntry → Bool) (name : List ℕ) (start : ℕ) (signals : Signals)
    (x : ℕ × SignalEntry)
    → find_signal test name start signals ≡ Some x
    → (i : ℕ) × (x.0 ≡ start + i) × (entry_at signals i ≡ Some x.1)
found_entry test name start [] x e = cc
found_entry test name start (None ∷ rest) x e =
    let later : (i : ℕ) × (x.0 ≡ suc start + i) × (entry_at rest i ≡ Some x.1) = found_entry test
    name (suc start) rest x e in (
      suc later.0,
      (let place : suc start + later.0 ≡ start + suc later.0 = omega arith in later.1 ∙
          place),
      later.2,
    )
found_entry test name start (Some a ∷ rest) x e =
    at (bytes_eq a.name name && test a) e (λ l. found_entry test name (suc start) rest x l)
  where
    at : (b : Bool) → cond b (Some (start, a)) (find_signal test name (suc start) rest) ≡ Some x
        → (find_signal test name (suc start) rest ≡ Some x → (i : ℕ) × (x.0 ≡ suc start + i) ×
        (entry_at rest i ≡ Some x.1))
        → (i : ℕ) × (x.0 ≡ start + i) × (entry_at (Some a ∷ rest) i ≡ Some x.1)
    at true h go =
        let same : (start, a) ≡ x = some_pair (start, a) x h in
        let number : x.0 ≡ start = ap (λ (p : ℕ × SignalEntry). p.0) (sym same) in
        let place : start ≡ start + 0 = omega arith in
        (0, number ∙ place, ap (λ (p : ℕ × SignalEntry). Some p.1) same)
    at false h go =
        let later : (i : ℕ) × (x.0 ≡ suc start + i) × (entry_at rest i ≡ Some x.1) = go h in (
          suc later.0,
          (let place : suc start + later.0 ≡ start + suc later.0 = omega arith
              in later.1 ∙ place),
          later.2,
        )

pub pair_assoc : {A B C D : Type 0} (R : C → D → Type 0) (m : Tried A) (first : A → Tried B)
    (go : B → Tried C) (r : Result D ℕ)
    → Pair R (next m (λ a. next (first a) go)) r → Pair R (next (next m first) go) r
pair_assoc R (Ok a) first go r h = h
pair_assoc R (Err e) first go r h = pair_bad R e r

scalar_left : (left : List ℕ) → fits Scalar left ≡ true → left ≡ []
scalar_left [] h = refl
scalar_left (d ∷ ds) h = cc

may_read : (input fed b : Bool) → ((input || fed) && b) ≡ true → (input ≡ true → b ≡ true → ⊤)
    → ((input ≡ true) × (b ≡ true)) ⊎ ((fed ≡ true) × (b ≡ true))
may_read true fed true h u = inl (refl, refl)
may_read true fed false h u = cc
may_read false true true h u = inr (refl, refl)
may_read false true false h u = cc
may_read false false b h u = cc

module _ (r : Run) (holds : Holds r) where
  pub own_fit : (n : ℕ) (e : SignalEntry) → entry_at r.known.frame.signals n ≡ Some e
      → (d : Shaped (Option ℕ)) × (own_signal r.known r.own n ≡ Some d) × Wire (Extends r) true e d
  own_fit n e there = (
    wires_of r.own n e,
    ap (entry_wires r.own n) there,
    wire (Extends r) true n e r.own (λ p b at t. holds.own n e there p b at ∙ t)
        (λ p x less at v ex. ex.0 n e there p x less at),
  )

  -- the signal of this name of a part
  port_pair : (w : Where) (name : List ℕ) (j : ℕ) (p : Part) (q : RunPart)
      → slice_get r.known.frame.parts j ≡ Some p → slice_get r.parts j ≡ Some q → PartHolds p q
      → (told : Bool) (o : Option (ℕ × SignalEntry)) → find_signal (λ e. not (is_inner e.direction))
      name 0 p.signals ≡ o
      → Pair (SourceSame (Extends r)) (next (told_signal w told o)
      (λ (n, e). Ok (Wired (is_input e.direction || is_fed p.signals) e)))
      (found_port q.ports o)
  port_pair w name j p q hp hq h told None e = pair_bad (SourceSame (Extends r)) _ _
  port_pair w name j p q hp hq h told (Some x) e =
      let place : (i : ℕ) × (x.0 ≡ 0 + i) × (entry_at p.signals i ≡ Some x.1) = found_entry
      (λ a. not (is_inner a.direction)) name 0 p.signals x e in
      let number : 0 + place.0 ≡ place.0 = omega arith in
      let there : entry_at p.signals x.0 ≡ Some x.1 = ap (λ (a : ℕ). entry_at p.signals a)
      (place.1 ∙ number) ∙ place.2 in
      pair_ok (SourceSame (Extends r)) (Wired (is_input x.1.direction || is_fed p.signals) x.1)
      (wires_of q.ports x.0 x.1)
      (wire (Extends r) (is_input x.1.direction || is_fed p.signals) x.0 x.1 q.ports
      (λ k b at t. readable k b at there (may_read (is_input x.1.direction) (is_fed p.signals) b t
      (λ a c. tt)))
      (λ k y less at v ex. (ex.1 j p q hp hq).0 x.0 x.1 there k y less at))
    where
      readable : (k : ℕ) (b : Bool) → slice_get x.1.written k ≡ Some b
          → entry_at p.signals x.0 ≡ Some x.1
          → ((is_input x.1.direction ≡ true) × (b ≡ true)) ⊎
          ((is_fed p.signals ≡ true) × (b ≡ true)) → is_some (q.ports x.0 k) ≡ true
      readable k b at there (inl i) = h.inputs x.0 x.1 there i.0 k b at ∙ i.1
      readable k b at there (inr f) = h.outputs f.0 x.0 x.1 there k b at

  part_pair : (w : Where) (name : List ℕ) (j : ℕ) (o : Option Part)
      → slice_get r.known.frame.parts j ≡ o
      → Pair (SourceSame (Extends r)) (next (found w ReadBeforeWrite o) (part_origin w name))
      (port_of name o (slice_get r.parts j))
  part_pair w name j None e = pair_bad (SourceSame (Extends r)) _ _
  part_pair w name j (Some p) e =
      let there : (q : RunPart) × (slice_get r.parts j ≡ Some q) × PartHolds p q = holds.parts j p e
      in
      subst (λ o. Pair (SourceSame (Extends r)) (part_origin w name p) (port_of name (Some p) o))
      (sym there.1)
      (port_pair w name j p there.0 e there.1 there.2 (is_some
      (find_signal (λ a. is_inner a.direction) name 0 p.signals))
      (find_signal (λ a. not (is_inner a.direction)) name 0 p.signals) refl)

  element_pair : (w : Where) (name : List ℕ) (o : Option ℕ)
      → Pair (SourceSame (Extends r)) (next (next (found w ReadBeforeWrite o) (λ j. Ok (Some j)))
      (λ j. located w name j r.known.frame.parts)) (part_signal r.known r.parts name o)
  element_pair w name None = pair_bad (SourceSame (Extends r)) _ _
  element_pair w name (Some j) = part_pair w name j (slice_get r.known.frame.parts j) refl

  one_place : (w : Where) (name : List ℕ) (c : ComponentEntry) (places : List ℕ) → length places ≡ 1
      → Pair (SourceSame (Extends r)) (next (part_in w c places)
      (λ j. located w name j r.known.frame.parts)) (part_signal r.known r.parts name
      (entry_at c.parts (slice_index places 0)))
  one_place w name c [] e = cc
  one_place w name c (k ∷ ks) e = element_pair w name (entry_at c.parts k)

  pub part_fit : (w : Where) (shaded : Bool) (n : ℕ) (os : List (Option ℕ)) (ns : List ℕ)
      (name : List ℕ)
      → IndicesSame os ns
      → Pair (SourceSame (Extends r)) (inner_origin w shaded (reading.Named (meant.Component n)) os
      name r.known.frame)
      (component_signal r.known r.parts (entry_at r.known.frame.components n) ns name)
  part_fit w shaded n os ns name same = at (entry_at r.known.frame.components n)
    where
      at : (o : Option ComponentEntry)
          → Pair (SourceSame (Extends r)) (next
          (next (found w ReadBeforeWrite o) (λ c. needed (is_some (all_known os)) w UnknownIndex
          (next (reach w shaded Scalar c.dims os) (λ q. part_in w c q.places))))
          (λ j. located w name j r.known.frame.parts)) (component_signal r.known r.parts o ns name)
      at None = pair_bad (SourceSame (Extends r)) _ _
      at (Some c) =
          needed_next (SourceSame (Extends r)) (is_some (all_known os)) w UnknownIndex
          (next (reach w shaded Scalar c.dims os) (λ q. part_in w c q.places))
          (λ j. located w name j r.known.frame.parts) _ (λ sure.
          pair_assoc (SourceSame (Extends r)) (reach w shaded Scalar c.dims os)
          (λ q. part_in w c q.places) (λ j. located w name j r.known.frame.parts) _
          (reach_pair (Extends r) (SourceSame (Extends r)) w shaded Scalar c.dims os ns
          (λ q. next (part_in w c q.places) (λ j. located w name j r.known.frame.parts))
          (λ left places. part_signal r.known r.parts name
          (entry_at c.parts (slice_index places 0))) same (λ left q f.
          subst (λ a. Pair (SourceSame (Extends r)) (next (part_in w c a.places)
          (λ j. located w name j r.known.frame.parts))
          (part_signal r.known r.parts name (entry_at c.parts
          (slice_index (places_of c.dims (map Some ns)) 0)))) (sym f.is)
          (subst (λ is. Pair (SourceSame (Extends r)) (next (part_in w c (places_of c.dims is))
          (λ j. located w name j r.known.frame.parts))
          (part_signal r.known r.parts name (entry_at c.parts
          (slice_index (places_of c.dims (map Some ns)) 0)))) (sym (all_same os ns same sure))
          (one_place w name c (places_of c.dims (map Some ns))
          (reached_count c.dims ns left f.left_is ∙ ap elements (scalar_left left f.fit)))))))
