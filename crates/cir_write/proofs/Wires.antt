-- The cells of signals, as more of them are declared.
use Rattle.std.proofs.Common.{◌≡◌, ℕ, ◌+◌, zero, suc, ◌<◌, Bool, true, false, cond, nat_eq, nat_lt}
use Rattle.std.proofs.Common.{List, [], ◌∷◌, ◌++◌, arith, length, min, set, Option, Some, None}
use Rattle.std.proofs.Common.{refl, sym, ap, ◌∙◌, inl, inr}
use Rattle.std.specs.Prelude.{◌&&◌, ◌≢◌, ◌⊎◌, if◌then◌else◌, slice_get}
use Rattle.std.proofs.lemmas.Bool.{eq-eqb, ne_eqb}
use Rattle.std.specs.declared.vec.Vec.{Vec}
use Rattle.std.specs.declared.alloc.Global.{Global}
use Rattle.cir_meaning.specs.Run.{Wires, RunPart}
use Rattle.cir_meaning.specs.RunBodies.{or_else}
use Rattle.cir_meaning.specs.Places.{numbers_from}
use Rattle.cir_meaning.specs.Values.{Value}
use Rattle.cir_meaning.proofs.PartWrites.{get_other, same_or_not}
use Rattle.cir_meaning.proofs.Writing.{get_set}
use Rattle.cir_steps.specs.Emission.{Emission, part_ports, ports_of, put_signal}
use Rattle.cir_steps.specs.Making.{written_elements}
use Rattle.cir_make.specs.declared.cells.Cells.{Cells}
use Rattle.cir_make.specs.declared.cells.PartCells.{PartCells}
use Rattle.cir_make.specs.declared.cells.Run.{Run}
use Rattle.cir_make.specs.Cells.{cell_at, cell_in, wires_by}
use Rattle.cir_make.specs.Shows.{HaveCells, HavePorts, SameWires}
use Rattle.cir_write.specs.Waiting.{part_rows, rows_at, rows_of}

-- one more row of a signal
abbrev row_cell : (first count k : ℕ) → Option ℕ
row_cell first count k = if nat_lt k count then Some (first + k) else None

cell_behind : (rows : List Run) (r : Run) (k : ℕ)
    → cell_in (rows ++ r ∷ []) k ≡ or_else (cell_in rows k) (row_cell r.first r.count k)
cell_behind [] r k = refl
cell_behind (x ∷ rows) r k = at (nat_lt k x.count) (cell_behind rows r k)
  where
    at : (b : Bool) → cell_in (rows ++ r ∷ []) k ≡ or_else (cell_in rows k)
        (row_cell r.first r.count k) → cond b (Some (x.first + k)) (cell_in (rows ++ r ∷ []) k)
        ≡ or_else (cond b (Some (x.first + k)) (cell_in rows k)) (row_cell r.first r.count k)
    at true go = refl
    at false go = go

-- a list without rows
pub wires_longer : (rows : List (Vec Run Global)) (v : Vec Run Global) → v.items ≡ []
    → (n k : ℕ) → wires_by rows n k ≡ wires_by (rows ++ v ∷ []) n k
wires_longer [] v e zero k = sym (ap (λ (l : List Run). cell_in l k) e)
wires_longer [] v e (suc n) k = refl
wires_longer (r ∷ rows) v e zero k = refl
wires_longer (r ∷ rows) v e (suc n) k = wires_longer rows v e n k

or_none : (o : Option ℕ) → o ≡ or_else o None
or_none None = refl
or_none (Some c) = refl

put_row : (rows : List (Vec Run Global)) (v old : Vec Run Global) (r : Run) (n : ℕ)
    → slice_get rows n ≡ Some old → v.items ≡ old.items ++ r ∷ [] → (m k : ℕ)
    → or_else (wires_by rows m k) (if nat_eq n m && nat_lt k r.count then Some (r.first + k)
    else None) ≡ wires_by (set rows n v) m k
put_row rows v old r n there is m k = at (same_or_not n m)
  where
    at : (n ≡ m) ⊎ (n ≢ m)
        → or_else (wires_by rows m k) (if nat_eq n m && nat_lt k r.count then Some (r.first + k)
        else None) ≡ wires_by (set rows n v) m k
    at (inl e) =
        ap (λ (b : Bool). or_else (wires_by rows m k) (if b && nat_lt k r.count then
        Some (r.first + k) else None)) (eq-eqb n m e)
        ∙ ap (λ (o : Option (Vec Run Global)). or_else (cell_at o k)
        (row_cell r.first r.count k)) (ap (slice_get rows) (sym e) ∙ there)
        ∙ sym (cell_behind old.items r k)
        ∙ ap (λ (l : List Run). cell_in l k) (sym is)
        ∙ sym (ap (λ (o : Option (Vec Run Global)). cell_at o k)
        (ap (slice_get (set rows n v)) (sym e) ∙ get_set rows n old v there))
    at (inr ne) =
        ap (λ (b : Bool). or_else (wires_by rows m k) (if b && nat_lt k r.count then
        Some (r.first + k) else None)) (ne_eqb n m ne)
        ∙ sym (or_none (wires_by rows m k))
        ∙ ap (λ (o : Option (Vec Run Global)). cell_at o k) (sym (get_other rows n m v ne))

pub wires_put : (rows : List (Vec Run Global)) (v old : Vec Run Global) (n first count : ℕ)
    → slice_get rows n ≡ Some old
    → v.items ≡ old.items ++ record { first = first; count = count } ∷ [] → (own : Wires)
    → SameWires own (wires_by rows)
    → SameWires (put_signal n first count own) (wires_by (set rows n v))
wires_put rows v old n first count there is own same m k =
    ap (λ (o : Option ℕ). or_else o (if nat_eq n m && nat_lt k count then Some (first + k)
    else None)) (same m k)
    ∙ put_row rows v old record { first = first; count = count } n there is m k

-- ---- where a cell stands
rows_cell : (o : Option (Vec Run Global)) (k : ℕ) → cell_at o k ≡ cell_in (rows_of o) k
rows_cell None k = refl
rows_cell (Some rows) k = refl

part_cell : (rs : List RunPart) (cs : List PartCells) (j n k : ℕ) → HavePorts rs cs
    → part_ports (slice_get rs j) n k ≡ cell_in (part_rows (slice_get cs j) n) k
part_cell [] [] j n k h = refl
part_cell [] (c ∷ cs) j n k h = absurd h
part_cell (r ∷ rs) [] j n k h = absurd h
part_cell (r ∷ rs) (c ∷ cs) zero n k h =
    h.0 n k ∙ rows_cell (slice_get c.ports.items n) k
part_cell (r ∷ rs) (c ∷ cs) (suc j) n k h = part_cell rs cs j n k h.2

pub cell_is : (x : Emission) (c : Cells) (part : Option ℕ) (n k : ℕ) → HaveCells x c
    → ports_of part x n k ≡ cell_in (rows_at c part n) k
cell_is x c None n k h = h.own n k ∙ rows_cell (slice_get c.signals.items n) k
cell_is x c (Some j) n k h = part_cell x.cells.parts c.parts.items j n k h.parts

-- ---- numbers in a row
pub one_more : (first count : ℕ)
    → numbers_from first (count + 1) ≡ numbers_from first count ++ (first + count) ∷ []
one_more first zero = ap (λ (n : ℕ). n ∷ []) (omega arith)
one_more first (suc count) =
    let more : suc count + 1 ≡ suc (count + 1) = omega arith in
    let last : first + 1 + count ≡ first + suc count = omega arith in
    ap (λ (n : ℕ). numbers_from first n) more
    ∙ ap (λ (l : List ℕ). first ∷ l) (one_more (first + 1) count
    ∙ ap (λ (n : ℕ). numbers_from (first + 1) count ++ n ∷ []) last)

-- elements for which there is a value
pub written_are : (first count : ℕ) (vs : List Value)
    → written_elements (numbers_from first count) vs ≡ numbers_from first (min count (length vs))
written_are first zero vs =
    let none : 0 ≡ min 0 (length vs) = omega arith in ap (λ (n : ℕ). numbers_from first n) none
written_are first (suc count) [] =
    let none : 0 ≡ min (suc count) 0 = omega arith in ap (λ (n : ℕ). numbers_from first n) none
written_are first (suc count) (v ∷ vs) =
    let more : suc (min count (length vs)) ≡ min (suc count) (length (v ∷ vs)) = omega arith in
    ap (λ (l : List ℕ). first ∷ l) (written_are (first + 1) count vs)
    ∙ ap (λ (n : ℕ). numbers_from first n) more
