-- Tables of signals whose elements have cells: those of a body and of the components in it.
use Rattle.std.proofs.Common.{◌≡◌, ℕ, zero, suc, ◌+◌, ◌≤◌, ◌<◌, Bool, List, [], ◌∷◌, ◌++◌, length}
use Rattle.std.proofs.Common.{Option, Some, None, refl, sym, ap, subst, ◌∙◌, slice_get, slice_set}
use Rattle.std.proofs.Common.{arith, true}
use Rattle.std.specs.Prelude.{⊤, nat_lt}
use Rattle.std.specs.List.{AllByRecursion}
use Rattle.std.proofs.lemmas.Bool.{lt-ltb}
use Rattle.cir_meaning.specs.Frame.{SignalEntry, Signals, Part, entry_at, put_at}
use Rattle.cir_meaning.specs.Writing.{marked}
use Rattle.cir_meaning.specs.Declaring.{opened}
use Rattle.cir_meaning.specs.Run.{Wires, Table, RunPart}
use Rattle.cir_meaning.specs.RunBodies.{port_tables}
use Rattle.cir_meaning.proofs.Rows.{all_append}
use Rattle.cir_meaning.proofs.Holds.{Full, get_less}
use Rattle.cir_meaning.proofs.PartWrites.{set_count}
use Rattle.cir_meaning.proofs.Creating.{opened_shapes, opened_shapes_back}
use Rattle.cir_meaning.proofs.Standing.{SameEntry}
use Rattle.cir_meaning.proofs.Weights.{inside, cover, cover_entries, cover_tables, cover_join}
use Rattle.cir_steps.proofs.OwnCells.{HaveCells, is_element}

-- a cell below `next` for each element
pub record Celled (next : ℕ) (t : Table) : Type 0 where
  pub have : HaveCells t.signals t.wires
  pub below : (n k c : ℕ) → t.wires n k ≡ Some c → c < next

abbrev pub AreCelled : ℕ → List Table → Type 0
AreCelled next ts = AllByRecursion (Celled next) ts

pub celled_more : (old new : ℕ) (t : Table) → old ≤ new → Celled old t → Celled new t
celled_more old new t more h = record {
  have = h.have;
  below = λ n k c at.
      let less : c < old = h.below n k c at in omega arith;
}

pub are_celled_more : (old new : ℕ) (ts : List Table) → old ≤ new → AreCelled old ts
    → AreCelled new ts
are_celled_more old new [] more h = tt
are_celled_more old new (t ∷ ts) more h =
    (celled_more old new t more h.0, are_celled_more old new ts more h.1)

pub celled_full : (next : ℕ) (t : Table) → Celled next t → Full t
celled_full next t h n e there k b at =
    h.have n k ∙ ap (λ o. is_element o k) there
    ∙ lt-ltb k (length e.written) (get_less e.written k b at)

pub are_full : (next : ℕ) (ts : List Table) → AreCelled next ts → AllByRecursion Full ts
are_full next [] h = tt
are_full next (t ∷ ts) h = (celled_full next t h.0, are_full next ts h.1)

-- the signals of components, as their parent sees them
abbrev pub PartsCelled : ℕ → List Part → List RunPart → Type 0
PartsCelled next [] rs = ⊤
PartsCelled next (p ∷ ps) [] = ⊤
PartsCelled next (p ∷ ps) (r ∷ rs) =
    Celled next record { signals = p.signals; wires = r.ports } × AreCelled next r.inside
    × PartsCelled next ps rs

pub parts_celled : (next : ℕ) (ps : List Part) (rs : List RunPart) → PartsCelled next ps rs
    → AreCelled next (port_tables ps rs)
parts_celled next [] rs h = tt
parts_celled next (p ∷ ps) [] h = tt
parts_celled next (p ∷ ps) (r ∷ rs) h =
    (h.0, all_append (Celled next) r.inside (port_tables ps rs) h.1 (parts_celled next ps rs h.2))

pub parts_celled_more : (old new : ℕ) (ps : List Part) (rs : List RunPart) → old ≤ new
    → PartsCelled old ps rs → PartsCelled new ps rs
parts_celled_more old new [] rs more h = tt
parts_celled_more old new (p ∷ ps) [] more h = tt
parts_celled_more old new (p ∷ ps) (r ∷ rs) more h = (
  celled_more old new record { signals = p.signals; wires = r.ports } more h.0,
  are_celled_more old new r.inside more h.1,
  parts_celled_more old new ps rs more h.2,
)

-- one more component
pub parts_celled_last : (next : ℕ) (ps : List Part) (rs : List RunPart) (p : Part) (r : RunPart)
    → length ps ≡ length rs → PartsCelled next ps rs
    → Celled next record { signals = p.signals; wires = r.ports } → AreCelled next r.inside
    → PartsCelled next (ps ++ p ∷ []) (rs ++ r ∷ [])
parts_celled_last next [] [] p r count h c i = (c, i, tt)
parts_celled_last next [] (y ∷ rs) p r count h c i = cc
parts_celled_last next (x ∷ ps) [] p r count h c i = cc
parts_celled_last next (x ∷ ps) (y ∷ rs) p r count h c i =
    let same : suc (length ps) ≡ suc (length rs) = count in
    (h.0, h.1, parts_celled_last next ps rs p r (omega arith) h.2 c i)

pub tables_last : (m : ℕ) (ps : List Part) (rs : List RunPart) (p : Part) (r : RunPart)
    → length ps ≡ length rs
    → cover_tables m (port_tables (ps ++ p ∷ []) (rs ++ r ∷ []))
    ≡ cover_tables m (port_tables ps rs)
    + (cover_entries m p.signals + cover_tables m r.inside)
tables_last m [] [] p r h =
    let one : cover_tables m (r.inside ++ []) ≡ cover_tables m r.inside + 0 =
    cover_join m r.inside [] in omega arith
tables_last m [] (y ∷ rs) p r h = cc
tables_last m (x ∷ ps) [] p r h = cc
tables_last m (x ∷ ps) (y ∷ rs) p r h =
    let rest : cover_tables m (port_tables (ps ++ p ∷ []) (rs ++ r ∷ []))
    ≡ cover_tables m (port_tables ps rs)
    + (cover_entries m p.signals + cover_tables m r.inside) =
    tables_last m ps rs p r
    (let same : suc (length ps) ≡ suc (length rs) = h in omega arith) in
    let new : cover_tables m (y.inside ++ port_tables (ps ++ p ∷ []) (rs ++ r ∷ []))
    ≡ cover_tables m y.inside + cover_tables m (port_tables (ps ++ p ∷ []) (rs ++ r ∷ [])) =
    cover_join m y.inside (port_tables (ps ++ p ∷ []) (rs ++ r ∷ [])) in
    let old : cover_tables m (y.inside ++ port_tables ps rs)
    ≡ cover_tables m y.inside + cover_tables m (port_tables ps rs) =
    cover_join m y.inside (port_tables ps rs) in omega arith

-- a component whose inputs are written
abbrev pub with_part : Part → Signals → Part
with_part p xs = record p { signals = xs }

pub parts_celled_set : (next j : ℕ) (p : Part) (xs : Signals) (ps : List Part)
    (rs : List RunPart) → slice_get ps j ≡ Some p
    → ((wires : Wires) → HaveCells p.signals wires → HaveCells xs wires)
    → PartsCelled next ps rs → PartsCelled next (slice_set ps j (with_part p xs)) rs
parts_celled_set next j p xs [] rs there f h = cc
parts_celled_set next zero p xs (x ∷ ps) [] there f h = tt
parts_celled_set next (suc j) p xs (x ∷ ps) [] there f h = tt
parts_celled_set next zero p xs (x ∷ ps) (r ∷ rs) there f h =
    let same : x ≡ p = cc in (
      record {
        have = f r.ports (subst (λ (y : Part). HaveCells y.signals r.ports) same h.0.have);
        below = h.0.below;
      },
      h.1,
      h.2,
    )
parts_celled_set next (suc j) p xs (x ∷ ps) (r ∷ rs) there f h =
    (h.0, h.1, parts_celled_set next j p xs ps rs there f h.2)

pub tables_set : (m j : ℕ) (p : Part) (xs : Signals) (ps : List Part) (rs : List RunPart)
    → slice_get ps j ≡ Some p → cover_entries m xs ≡ cover_entries m p.signals
    → cover_tables m (port_tables (slice_set ps j (with_part p xs)) rs)
    ≡ cover_tables m (port_tables ps rs)
tables_set m j p xs [] rs there e = cc
tables_set m zero p xs (x ∷ ps) [] there e = refl
tables_set m (suc j) p xs (x ∷ ps) [] there e = refl
tables_set m zero p xs (x ∷ ps) (r ∷ rs) there e =
    let same : x ≡ p = cc in
    ap (λ (k : ℕ). k + cover_tables m (r.inside ++ port_tables ps rs))
    (e ∙ ap (λ (y : Part). cover_entries m y.signals) (sym same))
tables_set m (suc j) p xs (x ∷ ps) (r ∷ rs) there e =
    let rest : cover_tables m (port_tables (slice_set ps j (with_part p xs)) rs)
    ≡ cover_tables m (port_tables ps rs) = tables_set m j p xs ps rs there e in
    let new : cover_tables m (r.inside ++ port_tables (slice_set ps j (with_part p xs)) rs)
    ≡ cover_tables m r.inside
    + cover_tables m (port_tables (slice_set ps j (with_part p xs)) rs) =
    cover_join m r.inside (port_tables (slice_set ps j (with_part p xs)) rs) in
    let old : cover_tables m (r.inside ++ port_tables ps rs)
    ≡ cover_tables m r.inside + cover_tables m (port_tables ps rs) =
    cover_join m r.inside (port_tables ps rs) in omega arith

-- an element that is written
pub cover_marked : (m n place : ℕ) (e : SignalEntry) (xs : Signals) → entry_at xs n ≡ Some e
    → cover_entries m (put_at n (marked e place) xs) ≡ cover_entries m xs
cover_marked m n place e [] there = let no : None ≡ Some e = sym (none_at n) ∙ there in cc
  where
    none_at : (n : ℕ) → entry_at {A = SignalEntry} [] n ≡ None
    none_at n = refl
cover_marked m zero place e (None ∷ xs) there = cc
cover_marked m zero place e (Some d ∷ xs) there =
    let same : d ≡ e = cc in
    let count : length (marked e place).written ≡ length e.written =
    set_count e.written place true in
    ap (λ (k : ℕ). k + cover_entries m xs)
    (covered e (marked e place).written count ∙ ap (cover m) (sym same))
  where
    covered : (e : SignalEntry) (bs : List Bool) → length bs ≡ length e.written
        → cover m (record e { written = bs }) ≡ cover m e
    covered e bs h = ap (λ (k : ℕ). inside m e.first k) h
cover_marked m (suc n) place e (None ∷ xs) there = cover_marked m n place e xs there
cover_marked m (suc n) place e (Some d ∷ xs) there =
    ap (λ (k : ℕ). cover m d + k) (cover_marked m n place e xs there)

-- the signals of a component as its parent sees them first
pub opened_have : (xs : Signals) (own : Wires) → HaveCells xs own → HaveCells (opened xs) own
opened_have xs own h n k =
    h n k ∙ at (entry_at xs n) refl (entry_at (opened xs) n) refl
  where
    at : (o : Option SignalEntry) → entry_at xs n ≡ o → (p : Option SignalEntry)
        → entry_at (opened xs) n ≡ p → is_element o k ≡ is_element p k
    at None e None f = refl
    at None e (Some d) f =
        let there : (x : SignalEntry) × (entry_at xs n ≡ Some x) × SameEntry d x =
        opened_shapes_back xs n d f in
        let bad : Some there.0 ≡ None = sym there.1 ∙ e in cc
    at (Some d) e p f =
        let there : (x : SignalEntry) × (entry_at (opened xs) n ≡ Some x) × SameEntry d x =
        opened_shapes xs n d e in
        ap (nat_lt k) there.2.2 ∙ ap (λ o. is_element o k) (sym there.1 ∙ f)
