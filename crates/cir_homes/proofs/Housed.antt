-- The rows of cells that are listed for the signals of components are where these stand.
use Rattle.std.proofs.Common.{◌≡◌, ◌∙◌, ℕ, suc, ◌+◌, ◌-◌, ◌<◌, ◌≤◌, Bool, true, false, cond, List}
use Rattle.std.proofs.Common.{[], ◌∷◌, ◌++◌, map, length, min, Option, Some, None, is_some, refl}
use Rattle.std.proofs.Common.{sym, ap, slice_get, append_assoc, arith, get_or, drop, ◌⊎◌, inl, inr}
use Rattle.std.proofs.lemmas.List.{append-nil, drop_all, drop_more}
use Rattle.std.specs.Prelude.{nat_le, nat_lt, ◌&&◌}
use Rattle.std.specs.List.{AllByRecursion}
use Rattle.std.specs.declared.vec.Vec.{Vec}
use Rattle.std.specs.declared.alloc.Global.{Global}
use Rattle.std.proofs.lemmas.Bool.{cases_lt, leb-true, ltb-true, ltb-false}
use Rattle.cir_meaning.specs.Frame as F
use Rattle.cir_meaning.specs.Frame.{entry_at}
use Rattle.cir_meaning.specs.Run.{RunPart, Table, Wires}
use Rattle.cir_meaning.specs.RunBodies.{or_else, port_tables, signal_wire, table_wire}
use Rattle.cir_frame.specs.declared.frame.Part.{Part}
use Rattle.cir_frame.specs.declared.signal.SignalEntry.{SignalEntry}
use Rattle.cir_frame.specs.Shown.{part_of, signal_of, signals_of}
use Rattle.cir_make.specs.declared.cells.Homes.{Homes}
use Rattle.cir_make.specs.declared.cells.PartCells.{PartCells}
use Rattle.cir_make.specs.declared.cells.Run.{Run}
use Rattle.cir_make.specs.Cells.{cell_at, cell_in, wires_by}
use Rattle.cir_make.specs.Housed.{AreHomes, HasCells, home_in}
use Rattle.cir_make.specs.Shows.{HavePorts, SameWires}
use Rattle.cir_homes.specs.Homed.{declared_homes, entry_homes, part_homes, signal_homes}

-- ---- lists of rows and of tables
or_assoc : (a b c : Option ℕ) → or_else (or_else a b) c ≡ or_else a (or_else b c)
or_assoc None b c = refl
or_assoc (Some x) b c = refl

pub homes_append : (xs ys : List Homes) (j : ℕ)
    → home_in (xs ++ ys) j ≡ or_else (home_in xs j) (home_in ys j)
homes_append [] ys j = refl
homes_append (x ∷ xs) ys j =
    at (nat_le x.number j && nat_lt j (x.number + x.count)) (homes_append xs ys j)
  where
    at : (b : Bool) → home_in (xs ++ ys) j ≡ or_else (home_in xs j) (home_in ys j)
        → cond b (Some (x.cell + (j - x.number))) (home_in (xs ++ ys) j)
        ≡ or_else (cond b (Some (x.cell + (j - x.number))) (home_in xs j)) (home_in ys j)
    at true later = refl
    at false later = later

tables_append : (ts us : List Table) (j : ℕ)
    → table_wire (ts ++ us) j ≡ or_else (table_wire ts j) (table_wire us j)
tables_append [] us j = refl
tables_append (t ∷ ts) us j =
    ap (λ o. or_else (signal_wire j 0 t.signals t.wires) o) (tables_append ts us j)
    ∙ sym (or_assoc (signal_wire j 0 t.signals t.wires) (table_wire ts j) (table_wire us j))

all_left : {A : Type 0} (P : A → Type 0) (xs ys : List A) → AllByRecursion P (xs ++ ys)
    → AllByRecursion P xs
all_left P [] ys h = tt
all_left P (x ∷ xs) ys h = (h.0, all_left P xs ys h.1)

all_right : {A : Type 0} (P : A → Type 0) (xs ys : List A) → AllByRecursion P (xs ++ ys)
    → AllByRecursion P ys
all_right P [] ys h = h
all_right P (x ∷ xs) ys h = all_right P xs ys h.1

-- ---- a signal
abbrev has_number : SignalEntry → ℕ → Bool
has_number e j = nat_le e.first j && nat_lt j (e.first + length e.written.items)

entry_housed : (e : SignalEntry) (rows : List Run) (hs : List Homes) (j : ℕ)
    → home_in (entry_homes e rows ++ hs) j
    ≡ cond (has_number e j) (or_else (cell_in rows (j - e.first)) (home_in hs j)) (home_in hs j)
entry_housed e [] hs j = at (has_number e j)
  where
    at : (b : Bool) → home_in hs j ≡ cond b (home_in hs j) (home_in hs j)
    at true = refl
    at false = refl
entry_housed e (r ∷ rs) hs j =
    at (nat_le e.first j) (nat_lt j (e.first + count)) (nat_lt j (e.first + min r.count count))
    (nat_lt (j - e.first) r.count) refl refl refl refl (entry_housed e rs hs j)
  where
    count : ℕ
    count = length e.written.items

    rest : Option ℕ
    rest = home_in (entry_homes e rs ++ hs) j

    at : (a b c d : Bool) → nat_le e.first j ≡ a → nat_lt j (e.first + count) ≡ b
        → nat_lt j (e.first + min r.count count) ≡ c → nat_lt (j - e.first) r.count ≡ d
        → rest ≡ cond (a && b) (or_else (cell_in rs (j - e.first)) (home_in hs j)) (home_in hs j)
        → cond (a && c) (Some (r.first + (j - e.first))) rest
        ≡ cond (a && b) (or_else (cond d (Some (r.first + (j - e.first)))
        (cell_in rs (j - e.first))) (home_in hs j)) (home_in hs j)
    at true true true true f g h i later = refl
    at true true true false f g h i later =
        absurd (omega (
          arith,
          leb-true e.first j f,
          ltb-true j (e.first + min r.count count) h,
          ltb-false (j - e.first) r.count i,
        ))
    at true true false true f g h i later =
        absurd (omega (
          arith,
          leb-true e.first j f,
          ltb-true j (e.first + count) g,
          ltb-false j (e.first + min r.count count) h,
          ltb-true (j - e.first) r.count i,
        ))
    at true true false false f g h i later = later
    at true false true d f g h i later =
        absurd (omega (
          arith,
          ltb-false j (e.first + count) g,
          ltb-true j (e.first + min r.count count) h,
        ))
    at true false false d f g h i later = later
    at false b c d f g h i later = later

-- ---- the signals of a body
behind : (n i : ℕ) → n + suc i ≡ suc n + i
behind n i = omega arith

none_wired : (j n : ℕ) (ss : F.Signals) (wires : Wires) → ((i k : ℕ) → wires (n + i) k ≡ None)
    → signal_wire j n ss wires ≡ None
none_wired j n [] wires none = refl
none_wired j n (s ∷ ss) wires none =
    at s (none_wired j (suc n) ss wires (λ i k.
    ap (λ (m : ℕ). wires m k) (sym (behind n i)) ∙ none (suc i) k))
  where
    first : n + 0 ≡ n
    first = omega arith

    at : (o : Option F.SignalEntry) → signal_wire j (suc n) ss wires ≡ None
        → signal_wire j n (o ∷ ss) wires ≡ None
    at None later = later
    at (Some e) later = of_entry (nat_le e.first j && nat_lt j (e.first + length e.written))
      where
        of_entry : (b : Bool)
            → cond b (wires n (j - e.first)) (signal_wire j (suc n) ss wires) ≡ None
        of_entry true = ap (λ (m : ℕ). wires m (j - e.first)) (sym first) ∙ none 0 (j - e.first)
        of_entry false = later

-- a signal before others
wired_first : (j : ℕ) (e : SignalEntry) (rows : List Run) (hs : List Homes) (own : ℕ → Option ℕ)
    (later last : Option ℕ) → ((k : ℕ) → own k ≡ cell_in rows k)
    → ((k : ℕ) → k < length e.written.items → is_some (own k) ≡ true)
    → home_in hs j ≡ or_else later last
    → home_in (entry_homes e rows ++ hs) j
    ≡ or_else (cond (has_number e j) (own (j - e.first)) later) last
wired_first j e rows hs own later last same has rest =
    entry_housed e rows hs j
    ∙ at (nat_le e.first j) (nat_lt j (e.first + length e.written.items)) refl refl
  where
    at : (a b : Bool) → nat_le e.first j ≡ a → nat_lt j (e.first + length e.written.items) ≡ b
        → cond (a && b) (or_else (cell_in rows (j - e.first)) (home_in hs j)) (home_in hs j)
        ≡ or_else (cond (a && b) (own (j - e.first)) later) last
    at true true f g =
        some (own (j - e.first)) (cell_in rows (j - e.first)) (same (j - e.first))
        (has (j - e.first) (omega (
          arith,
          leb-true e.first j f,
          ltb-true j (e.first + length e.written.items) g,
        )))
      where
        some : (o u : Option ℕ) → o ≡ u → is_some o ≡ true
            → or_else u (home_in hs j) ≡ or_else o last
        some None u e h = cc
        some (Some c) u e h = ap (λ z. or_else z (home_in hs j)) (sym e)
    at true false f g = rest
    at false b f g = rest

signals_housed : (j n : ℕ) (ss : List (Option SignalEntry)) (ps : List (Vec Run Global))
    (wires : Wires) (hs : List Homes) → ((i k : ℕ) → wires (n + i) k ≡ cell_at (slice_get ps i) k)
    → ((i : ℕ) (e : F.SignalEntry) (k : ℕ) → entry_at (signals_of ss) i ≡ Some e
    → k < length e.written → is_some (wires (n + i) k) ≡ true)
    → home_in (signal_homes ss ps ++ hs) j
    ≡ or_else (signal_wire j n (signals_of ss) wires) (home_in hs j)
signals_housed j n [] ps wires hs same has = refl
signals_housed j n (s ∷ ss) [] wires hs same has =
    ap (λ o. or_else o (home_in hs j))
    (sym (none_wired j n (signals_of (s ∷ ss)) wires same))
signals_housed j n (None ∷ ss) (p ∷ ps) wires hs same has =
    signals_housed j (suc n) ss ps wires hs
    (λ i k. ap (λ (m : ℕ). wires m k) (sym (behind n i)) ∙ same (suc i) k)
    (λ i e k there less.
    ap (λ (m : ℕ). is_some (wires m k)) (sym (behind n i)) ∙ has (suc i) e k there less)
signals_housed j n (Some e ∷ ss) (p ∷ ps) wires hs same has =
    let first : n + 0 ≡ n = omega arith in
    ap (λ l. home_in l j) (append_assoc (entry_homes e p.items) (signal_homes ss ps) hs)
    ∙ wired_first j e p.items (signal_homes ss ps ++ hs) (wires n)
    (signal_wire j (suc n) (signals_of ss) wires) (home_in hs j)
    (λ k. ap (λ (m : ℕ). wires m k) (sym first) ∙ same 0 k)
    (λ k less. ap (λ (m : ℕ). is_some (wires m k)) (sym first)
    ∙ has 0 (signal_of e) k refl less)
    (signals_housed j (suc n) ss ps wires hs
    (λ i k. ap (λ (m : ℕ). wires m k) (sym (behind n i)) ∙ same (suc i) k)
    (λ i d k there less.
    ap (λ (m : ℕ). is_some (wires m k)) (sym (behind n i)) ∙ has (suc i) d k there less))

-- ---- a body, and the components in it
pub table_housed : (j : ℕ) (ss : List (Option SignalEntry)) (ps : List (Vec Run Global))
    (wires : Wires) (hs : List Homes) → SameWires wires (wires_by ps)
    → HasCells record { signals = signals_of ss; wires = wires }
    → home_in (signal_homes ss ps ++ hs) j
    ≡ or_else (signal_wire j 0 (signals_of ss) wires) (home_in hs j)
table_housed j ss ps wires hs same has =
    signals_housed j 0 ss ps wires hs
    (λ i k. ap (λ (m : ℕ). wires m k) (none_more i) ∙ same i k)
    (λ i e k there less.
    ap (λ (m : ℕ). is_some (wires m k)) (none_more i) ∙ has i e k there less)
  where
    none_more : (i : ℕ) → 0 + i ≡ i
    none_more i = omega arith

pub parts_housed : (rs : List RunPart) (ds : List Part) (cs : List PartCells) → HavePorts rs cs
    → AreHomes (port_tables (map part_of ds) rs) (part_homes ds cs)
parts_housed rs [] cs h all j = refl
parts_housed [] (d ∷ ds) [] h all j = refl
parts_housed [] (d ∷ ds) (c ∷ cs) h all j = absurd h
parts_housed (r ∷ rs) (d ∷ ds) [] h all j = absurd h
parts_housed (r ∷ rs) (d ∷ ds) (c ∷ cs) h all j =
    let rest : List Table = port_tables (map part_of ds) rs in
    ap (λ o. or_else (signal_wire j 0 (signals_of d.signals.items) r.ports) o)
    (tables_append r.inside rest j
    ∙ ap (λ o. or_else o (table_wire rest j))
    (h.1 (all_left HasCells r.inside rest all.1) j)
    ∙ ap (λ o. or_else (home_in c.inside.items j) o)
    (parts_housed rs ds cs h.2 (all_right HasCells r.inside rest all.1) j)
    ∙ sym (homes_append c.inside.items (part_homes ds cs) j))
    ∙ sym (table_housed j d.signals.items c.ports.items r.ports
    (c.inside.items ++ part_homes ds cs) h.0 all.0)

-- ---- as they are listed
pub parts_next : (homes more then : List Homes) (ps : List Part) (cs : List PartCells) (j : ℕ)
    (p : Part) (c : PartCells) → j < min (length ps) (length cs) → p ≡ get_or ps j p
    → c ≡ get_or cs j c → more ≡ homes ++ signal_homes p.signals.items c.ports.items
    → then ≡ more ++ c.inside.items
    → then ++ part_homes (drop (j + 1) ps) (drop (j + 1) cs)
    ≡ homes ++ part_homes (drop j ps) (drop j cs)
parts_next homes more then ps cs j p c less is at first second =
    let own : List Homes = signal_homes p.signals.items c.ports.items in
    let rest : List Homes = part_homes (drop (j + 1) ps) (drop (j + 1) cs) in
    ap (λ l. l ++ rest) (second ∙ ap (λ l. l ++ c.inside.items) first)
    ∙ append_assoc (homes ++ own) c.inside.items rest
    ∙ append_assoc homes own (c.inside.items ++ rest)
    ∙ ap (λ x. homes ++ part_homes (x ∷ drop (j + 1) ps) (c ∷ drop (j + 1) cs)) is
    ∙ ap (λ l. homes ++ part_homes l (c ∷ drop (j + 1) cs))
    (sym (drop_more ps j p (omega arith)))
    ∙ ap (λ x. homes ++ part_homes (drop j ps) (x ∷ drop (j + 1) cs)) at
    ∙ ap (λ l. homes ++ part_homes (drop j ps) l) (sym (drop_more cs j c (omega arith)))

pub parts_end : (homes : List Homes) (ps : List Part) (cs : List PartCells) (j : ℕ)
    → min (length ps) (length cs) ≤ j → homes ≡ homes ++ part_homes (drop j ps) (drop j cs)
parts_end homes ps cs j h =
    sym (append-nil homes) ∙ ap (λ l. homes ++ l) (sym (at (cases_lt j (length ps))))
  where
    none : (l : List Part) → part_homes l [] ≡ []
    none [] = refl
    none (p ∷ l) = refl

    at : (j < length ps) ⊎ (length ps ≤ j) → part_homes (drop j ps) (drop j cs) ≡ []
    at (inl f) =
        ap (λ l. part_homes (drop j ps) l) (drop_all j cs (omega arith)) ∙ none (drop j ps)
    at (inr f) = ap (λ l. part_homes l (drop j cs)) (drop_all j ps f)

pub signals_next : (homes more : List Homes) (ss : List (Option SignalEntry))
    (ps : List (Vec Run Global)) (n : ℕ) (s : Option SignalEntry) (p : Vec Run Global)
    → n < min (length ss) (length ps) → s ≡ get_or ss n s → p ≡ get_or ps n p
    → more ≡ homes ++ declared_homes s p.items
    → more ++ signal_homes (drop (n + 1) ss) (drop (n + 1) ps)
    ≡ homes ++ signal_homes (drop n ss) (drop n ps)
signals_next homes more ss ps n s p less is at pushed =
    let rest : List Homes = signal_homes (drop (n + 1) ss) (drop (n + 1) ps) in
    ap (λ l. l ++ rest) pushed
    ∙ append_assoc homes (declared_homes s p.items) rest
    ∙ ap (λ x. homes ++ signal_homes (x ∷ drop (n + 1) ss) (p ∷ drop (n + 1) ps)) is
    ∙ ap (λ l. homes ++ signal_homes l (p ∷ drop (n + 1) ps))
    (sym (drop_more ss n s (omega arith)))
    ∙ ap (λ x. homes ++ signal_homes (drop n ss) (x ∷ drop (n + 1) ps)) at
    ∙ ap (λ l. homes ++ signal_homes (drop n ss) l) (sym (drop_more ps n p (omega arith)))

pub signals_end : (homes : List Homes) (ss : List (Option SignalEntry))
    (ps : List (Vec Run Global)) (n : ℕ) → min (length ss) (length ps) ≤ n
    → homes ≡ homes ++ signal_homes (drop n ss) (drop n ps)
signals_end homes ss ps n h =
    sym (append-nil homes) ∙ ap (λ l. homes ++ l) (sym (at (cases_lt n (length ss))))
  where
    none : (l : List (Option SignalEntry)) → signal_homes l [] ≡ []
    none [] = refl
    none (s ∷ l) = refl

    at : (n < length ss) ⊎ (length ss ≤ n) → signal_homes (drop n ss) (drop n ps) ≡ []
    at (inl f) =
        ap (λ l. signal_homes (drop n ss) l) (drop_all n ps (omega arith)) ∙ none (drop n ss)
    at (inr f) = ap (λ l. signal_homes l (drop n ps)) (drop_all n ss f)
