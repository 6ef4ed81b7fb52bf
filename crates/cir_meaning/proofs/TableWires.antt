-- A number that is one signal's is found in the tables of a run.
use Rattle.std.proofs.Common.{◌≡◌, ◌⊎◌, inl, inr, ℕ, zero, suc, ◌+◌, ◌-◌, ◌≤◌, ◌<◌, Bool, true}
use Rattle.std.proofs.Common.{false, cond, ◌&&◌, List, [], ◌∷◌, length, Option, Some, None, is_some}
use Rattle.std.proofs.Common.{refl, ap, ◌∙◌, slice_get, arith}
use Rattle.std.specs.Prelude.{nat_lt, nat_le}
use Rattle.std.specs.List.{AllByRecursion}
use Rattle.std.proofs.lemmas.Bool.{le-leb, leb-true, ltb-true, ltb-false, lt-ltb}
use Rattle.cir_lc.specs.Number.{Assignment}
use Rattle.cir_meaning.specs.Frame.{SignalEntry, Signals, entry_at}
use Rattle.cir_meaning.specs.Run.{Wires, Table}
use Rattle.cir_meaning.specs.RunBodies.{or_else, signal_wire, table_wire}
use Rattle.cir_meaning.proofs.Holds.{Agrees, Full}
use Rattle.cir_meaning.proofs.Weights.{below, below_yes, below_not, inside, cover, cover_entries}
use Rattle.cir_meaning.proofs.Weights.{cover_tables}

-- a number is one of so many from the first on, or isn't
pub inside_yes : (m low count : ℕ) → low ≤ m → m < low + count → inside m low count ≡ 1
inside_yes m low count from to =
    let high : below m (low + count) ≡ 1 = below_yes m (low + count) to in
    let first : below m low ≡ 0 = below_not m low from in omega arith

pub inside_low : (m low count : ℕ) → m < low → inside m low count ≡ 0
inside_low m low count h =
    let high : below m (low + count) ≡ 1 = below_yes m (low + count) (omega arith) in
    let first : below m low ≡ 1 = below_yes m low h in omega arith

pub inside_high : (m low count : ℕ) → low + count ≤ m → inside m low count ≡ 0
inside_high m low count h =
    let high : below m (low + count) ≡ 0 = below_not m (low + count) h in omega arith

pub inside_or : (m low count : ℕ)
    → ((low ≤ m) × (m < low + count)) ⊎ (inside m low count ≡ 0)
inside_or m low count = at (nat_lt m low) refl (nat_lt m (low + count)) refl
  where
    at : (b : Bool) → nat_lt m low ≡ b → (c : Bool) → nat_lt m (low + count) ≡ c
        → ((low ≤ m) × (m < low + count)) ⊎ (inside m low count ≡ 0)
    at true e c f = inr (inside_low m low count (ltb-true m low e))
    at false e true f =
        let from : low ≤ m = ltb-false m low e in
        inl (from, ltb-true m (low + count) f)
    at false e false f = inr (inside_high m low count (ltb-false m (low + count) f))

-- the numbers of one signal
abbrev covers : ℕ → SignalEntry → Bool
covers m e = nat_le e.first m && nat_lt m (e.first + length e.written)

covers_yes : (m : ℕ) (e : SignalEntry) → e.first ≤ m → m < e.first + length e.written
    → covers m e ≡ true
covers_yes m e from to =
    ap (λ b. b && nat_lt m (e.first + length e.written)) (le-leb e.first m from)
    ∙ lt-ltb m (e.first + length e.written) to

covers_no : (m : ℕ) (e : SignalEntry) → cover m e ≡ 0 → covers m e ≡ false
covers_no m e h = at (covers m e) refl
  where
    at : (b : Bool) → covers m e ≡ b → b ≡ false
    at false s = refl
    at true s = both (nat_le e.first m) refl (nat_lt m (e.first + length e.written)) refl s
      where
        both : (a : Bool) → nat_le e.first m ≡ a → (c : Bool)
            → nat_lt m (e.first + length e.written) ≡ c → (a && c) ≡ true → true ≡ false
        both false f c g s = cc
        both true f false g s = cc
        both true f true g s =
            let from : e.first ≤ m = leb-true e.first m f in
            let to : m < e.first + length e.written =
            ltb-true m (e.first + length e.written) g in
            let one : inside m e.first (length e.written) ≡ 1 =
            inside_yes m e.first (length e.written) (omega arith) to in absurd (omega arith)

-- the signals of a table
pub wire_none : (m n : ℕ) (xs : Signals) (wires : Wires) → cover_entries m xs ≡ 0
    → signal_wire m n xs wires ≡ None
wire_none m n [] wires h = refl
wire_none m n (None ∷ xs) wires h = wire_none m (suc n) xs wires h
wire_none m n (Some e ∷ xs) wires h =
    let own : cover m e ≡ 0 = omega arith in
    ap (λ b. cond b (wires n (m - e.first)) (signal_wire m (suc n) xs wires)) (covers_no m e own)
    ∙ wire_none m (suc n) xs wires (omega arith)

-- where a number is found
pub record Found (m n : ℕ) (xs : Signals) (wires : Wires) : Type 0 where
  pub number : ℕ
  pub entry : SignalEntry
  pub there : entry_at xs number ≡ Some entry
  pub place : ℕ
  pub less : place < length entry.written
  pub is : m ≡ entry.first + place
  pub wire : signal_wire m n xs wires ≡ wires (n + number) place

pub wire_found : (m n : ℕ) (xs : Signals) (wires : Wires) → 1 ≤ cover_entries m xs
    → Found m n xs wires
wire_found m n [] wires h = absurd (omega arith)
wire_found m n (None ∷ xs) wires h = later m n xs wires (wire_found m (suc n) xs wires h)
  where
    later : (m n : ℕ) (xs : Signals) (wires : Wires) → Found m (suc n) xs wires
        → Found m n (None ∷ xs) wires
    later m n xs wires f = record {
      number = suc f.number;
      entry = f.entry;
      there = f.there;
      place = f.place;
      less = f.less;
      is = f.is;
      wire = f.wire ∙ ap (λ (k : ℕ). wires k f.place) (omega arith);
    }
wire_found m n (Some e ∷ xs) wires h =
    at (inside_or m e.first (length e.written)) (wire_found m (suc n) xs wires)
  where
    at : ((e.first ≤ m) × (m < e.first + length e.written))
        ⊎ (inside m e.first (length e.written) ≡ 0)
        → (1 ≤ cover_entries m xs → Found m (suc n) xs wires) → Found m n (Some e ∷ xs) wires
    at (inl b) go =
        let from : e.first ≤ m = b.0 in
        let to : m < e.first + length e.written = b.1 in record {
          number = 0;
          entry = e;
          there = refl;
          place = m - e.first;
          less = omega arith;
          is = omega arith;
          wire = ap (λ b. cond b (wires n (m - e.first)) (signal_wire m (suc n) xs wires))
              (covers_yes m e from to) ∙ ap (λ (k : ℕ). wires k (m - e.first)) (omega arith);
        }
    at (inr none) go =
        let f : Found m (suc n) xs wires = go (omega arith) in record {
          number = suc f.number;
          entry = f.entry;
          there = f.there;
          place = f.place;
          less = f.less;
          is = f.is;
          wire = ap (λ b. cond b (wires n (m - e.first)) (signal_wire m (suc n) xs wires))
              (covers_no m e none) ∙ f.wire ∙ ap (λ (k : ℕ). wires k f.place) (omega arith);
        }

-- the one signal that has it
pub entry_covers : (m : ℕ) (xs : Signals) (i : ℕ) (e : SignalEntry) (p : ℕ)
    → entry_at xs i ≡ Some e → p < length e.written → m ≡ e.first + p → 1 ≤ cover_entries m xs
entry_covers m [] i e p there less is = cc
entry_covers m (None ∷ xs) zero e p there less is = cc
entry_covers m (None ∷ xs) (suc i) e p there less is = entry_covers m xs i e p there less is
entry_covers m (Some d ∷ xs) zero e p there less is =
    let same : d ≡ e = cc in
    let one : inside m e.first (length e.written) ≡ 1 =
    inside_yes m e.first (length e.written) (omega arith) (omega arith) in
    let own : cover m d ≡ 1 = ap (cover m) same ∙ one in omega arith
entry_covers m (Some d ∷ xs) (suc i) e p there less is =
    let rest : 1 ≤ cover_entries m xs = entry_covers m xs i e p there less is in omega arith

pub wire_only : (m n : ℕ) (xs : Signals) (wires : Wires) (i : ℕ) (e : SignalEntry) (p : ℕ)
    → entry_at xs i ≡ Some e → p < length e.written → m ≡ e.first + p → cover_entries m xs ≤ 1
    → signal_wire m n xs wires ≡ wires (n + i) p
wire_only m n [] wires i e p there less is one = cc
wire_only m n (None ∷ xs) wires zero e p there less is one = cc
wire_only m n (None ∷ xs) wires (suc i) e p there less is one =
    wire_only m (suc n) xs wires i e p there less is one
    ∙ ap (λ (k : ℕ). wires k p) (omega arith)
wire_only m n (Some d ∷ xs) wires zero e p there less is one =
    let same : d ≡ e = cc in
    let place : m - e.first ≡ p = omega arith in
    ap (λ (x : SignalEntry). cond (covers m x) (wires n (m - x.first))
    (signal_wire m (suc n) xs wires)) same
    ∙ ap (λ b. cond b (wires n (m - e.first)) (signal_wire m (suc n) xs wires))
    (covers_yes m e (omega arith) (omega arith))
    ∙ ap (wires n) place ∙ ap (λ (k : ℕ). wires k p) (omega arith)
wire_only m n (Some d ∷ xs) wires (suc i) e p there less is one =
    let rest : 1 ≤ cover_entries m xs = entry_covers m xs i e p there less is in
    let own : cover m d ≡ 0 = omega arith in
    ap (λ b. cond b (wires n (m - d.first)) (signal_wire m (suc n) xs wires)) (covers_no m d own)
    ∙ wire_only m (suc n) xs wires i e p there less is (omega arith)
    ∙ ap (λ (k : ℕ). wires k p) (omega arith)

-- all tables
get_here : {A : Type 0} (xs : List A) (i : ℕ) → i < length xs → (x : A) × (slice_get xs i ≡ Some x)
get_here [] i h = absurd (omega arith)
get_here (x ∷ xs) zero h = (x, refl)
get_here (x ∷ xs) (suc i) h = get_here xs i (omega arith)

else_some : (a b : Option ℕ) → is_some a ≡ true → is_some (or_else a b) ≡ true
else_some (Some a) b h = refl
else_some None b h = cc

else_none : (a b : Option ℕ) → a ≡ None → or_else a b ≡ b
else_none a b h = ap (λ x. or_else x b) h

pub tables_some : (m : ℕ) (ts : List Table) → 1 ≤ cover_tables m ts → AllByRecursion Full ts
    → is_some (table_wire ts m) ≡ true
tables_some m [] h full = absurd (omega arith)
tables_some m (t ∷ ts) h full = at (cover_entries m t.signals) refl (tables_some m ts)
  where
    at : (c : ℕ) → cover_entries m t.signals ≡ c
        → (1 ≤ cover_tables m ts → AllByRecursion Full ts → is_some (table_wire ts m) ≡ true)
        → is_some (or_else (signal_wire m 0 t.signals t.wires) (table_wire ts m)) ≡ true
    at zero e go =
        ap is_some (else_none (signal_wire m 0 t.signals t.wires) (table_wire ts m)
        (wire_none m 0 t.signals t.wires e)) ∙ go (omega arith) full.1
    at (suc c) e go =
        let f : Found m 0 t.signals t.wires =
        wire_found m 0 t.signals t.wires (omega arith) in
        let mark : (b : Bool) × (slice_get f.entry.written f.place ≡ Some b) =
        get_here f.entry.written f.place f.less in
        else_some (signal_wire m 0 t.signals t.wires) (table_wire ts m)
        (ap is_some (f.wire ∙ ap (λ (k : ℕ). t.wires k f.place) (omega arith))
        ∙ full.0 f.number f.entry f.there f.place mark.0 mark.1)

pub tables_agree : (v : Assignment) (ts : List Table) → ((m : ℕ) → cover_tables m ts ≤ 1)
    → ((m x : ℕ) → 1 ≤ cover_tables m ts → table_wire ts m ≡ Some x → v.at m ≡ x)
    → AllByRecursion (λ t. Agrees v t.signals t.wires) ts
tables_agree v [] one has = tt
tables_agree v (t ∷ ts) one has = (
  own,
  tables_agree v ts (λ m. let all : cover_tables m (t ∷ ts) ≤ 1 = one m in omega arith) rest,
)
  where
    own : Agrees v t.signals t.wires
    own n e there p x less at =
        let covered : 1 ≤ cover_entries (e.first + p) t.signals =
        entry_covers (e.first + p) t.signals n e p there less refl in
        let all : cover_tables (e.first + p) (t ∷ ts) ≤ 1 = one (e.first + p) in
        has (e.first + p) x (omega arith)
        (ap (λ o. or_else o (table_wire ts (e.first + p)))
        (wire_only (e.first + p) 0 t.signals t.wires n e p there less refl (omega arith)
        ∙ ap (λ (k : ℕ). t.wires k p) (omega arith) ∙ at))

    rest : (m x : ℕ) → 1 ≤ cover_tables m ts → table_wire ts m ≡ Some x → v.at m ≡ x
    rest m x some at =
        let all : cover_tables m (t ∷ ts) ≤ 1 = one m in
        let none : cover_entries m t.signals ≡ 0 = omega arith in
        has m x (omega arith)
        (else_none (signal_wire m 0 t.signals t.wires) (table_wire ts m)
        (wire_none m 0 t.signals t.wires none) ∙ at)
