-- A body's signals have a cell for each of their elements, and no others.
use Rattle.std.proofs.Common.{zero, suc, ◌≡◌, ◌≢◌, ◌⊎◌, inl, inr, ℕ, ◌+◌, Bool, true, false, cond}
use Rattle.std.proofs.Common.{nat_eq, List, [], length, replicate, Option, Some, None, is_some}
use Rattle.std.proofs.Common.{refl, sym, ap, ◌∙◌}
use Rattle.std.specs.Prelude.{nat_lt, ◌&&◌}
use Rattle.std.proofs.lemmas.Bool.{eq-eqb, ne_eqb}
use Rattle.cir_ast.specs.declared.program.Spot.{Spot}
use Rattle.cir_ast.specs.declared.operators.Direction.{Direction}
use Rattle.cir_meaning.specs.Places.{elements}
use Rattle.cir_meaning.specs.Limits.{is_too_large}
use Rattle.cir_meaning.specs.Frame.{SignalEntry, Signals, Context, entry_at, put_at, is_input}
use Rattle.cir_meaning.specs.Writing.{marked}
use Rattle.cir_meaning.specs.Declaring.{new_signal}
use Rattle.cir_meaning.specs.Run.{Wires}
use Rattle.cir_meaning.specs.RunBodies.{or_else}
use Rattle.cir_meaning.proofs.SignalWrites.{put_here}
use Rattle.cir_meaning.proofs.PartWrites.{same_or_not, set_count}
use Rattle.cir_meaning.proofs.Entries.{put_else}
use Rattle.cir_steps.specs.Emission.{Emission, known_in, made_elements, put_signal}

abbrev pub is_element : Option SignalEntry → ℕ → Bool
is_element None k = false
is_element (Some e) k = nat_lt k (length e.written)

abbrev pub HaveCells : Signals → Wires → Type 0
HaveCells signals own = (n k : ℕ) → is_some (own n k) ≡ is_element (entry_at signals n) k

-- a signal that is declared
replicated : (n : ℕ) (b : Bool) → length (replicate n b) ≡ n
replicated zero b = refl
replicated (suc n) b = ap (λ (m : ℕ). suc m) (replicated n b)

new_elements : (dims : List ℕ) (b : Bool)
    → length (cond (is_too_large dims) [] (replicate (elements dims) b)) ≡ made_elements dims
new_elements dims b = at (is_too_large dims)
  where
    at : (c : Bool) → length (cond c [] (replicate (elements dims) b))
        ≡ cond c 0 (elements dims)
    at true = refl
    at false = replicated (elements dims) b

put_cells_at : (n first count m k : ℕ) (own : Wires) → own n k ≡ None → n ≡ m
    → is_some (put_signal n first count own m k) ≡ nat_lt k count
put_cells_at n first count m k own none same =
    ap (λ (i : ℕ). is_some (put_signal n first count own i k)) (sym same)
    ∙ ap (λ o. is_some (or_else o (cond (nat_eq n n && nat_lt k count) (Some (first + k)) None)))
    none
    ∙ ap (λ (b : Bool). is_some (cond (b && nat_lt k count) (Some (first + k)) None))
    (eq-eqb n n refl)
    ∙ at (nat_lt k count)
  where
    at : (b : Bool) → is_some (cond b (Some (first + k)) None) ≡ b
    at true = refl
    at false = refl

put_cells_aside : (n first count m k : ℕ) (own : Wires) → n ≢ m
    → is_some (put_signal n first count own m k) ≡ is_some (own m k)
put_cells_aside n first count m k own ne =
    ap (λ (b : Bool). is_some (or_else (own m k) (cond (b && nat_lt k count) (Some (first + k))
    None))) (ne_eqb n m ne)
    ∙ at (own m k)
  where
    at : (o : Option ℕ) → is_some (or_else o None) ≡ is_some o
    at None = refl
    at (Some c) = refl

pub declared_have : (k : Context) (spot : Spot) (direction : Direction) (n : ℕ) (name dims : List ℕ)
    (x : Emission) → entry_at (known_in x).frame.signals n ≡ None
    → HaveCells (known_in x).frame.signals x.cells.own
    → HaveCells (put_at n (new_signal k spot direction name dims (known_in x).world)
    (known_in x).frame.signals) (put_signal n x.next (made_elements dims) x.cells.own)
declared_have k spot direction n name dims x none h m i = at (same_or_not n m)
  where
    entry : SignalEntry
    entry = new_signal k spot direction name dims (known_in x).world

    at : (n ≡ m) ⊎ (n ≢ m)
        → is_some (put_signal n x.next (made_elements dims) x.cells.own m i)
        ≡ is_element (entry_at (put_at n entry (known_in x).frame.signals) m) i
    at (inl same) =
        put_cells_at n x.next (made_elements dims) m i x.cells.own
        (free (x.cells.own n i) (h n i
        ∙ ap (λ o. is_element o i) none)) same
        ∙ ap (nat_lt i) (sym (new_elements dims (is_input direction)))
        ∙ ap (λ o. is_element o i) (sym (put_here n entry (known_in x).frame.signals))
        ∙ ap (λ (j : ℕ). is_element (entry_at (put_at n entry (known_in x).frame.signals) j) i)
        same
      where
        free : (o : Option ℕ) → is_some o ≡ false → o ≡ None
        free None e = refl
        free (Some c) e = cc
    at (inr ne) =
        put_cells_aside n x.next (made_elements dims) m i x.cells.own ne
        ∙ h m i
        ∙ ap (λ o. is_element o i) (sym (put_else n m entry (known_in x).frame.signals ne))

-- an element that is written
pub own_element : (own : Wires) (n place : ℕ) (e : SignalEntry) (xs : Signals)
    → entry_at xs n ≡ Some e → HaveCells xs own → HaveCells (put_at n (marked e place) xs) own
own_element own n place e xs there h m i = at (same_or_not n m)
  where
    at : (n ≡ m) ⊎ (n ≢ m)
        → is_some (own m i) ≡ is_element (entry_at (put_at n (marked e place) xs) m) i
    at (inl same) =
        h m i
        ∙ ap (λ o. is_element o i) (ap (entry_at xs) (sym same) ∙ there)
        ∙ ap (nat_lt i) (sym (set_count e.written place true))
        ∙ ap (λ o. is_element o i) (sym (put_here n (marked e place) xs))
        ∙ ap (λ (j : ℕ). is_element (entry_at (put_at n (marked e place) xs) j) i) same
    at (inr ne) =
        h m i ∙ ap (λ o. is_element o i) (sym (put_else n m (marked e place) xs ne))
