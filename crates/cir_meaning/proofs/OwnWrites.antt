-- A write of a body's own signals in a run.
use Rattle.std.proofs.Common.{◌≡◌, ◌≢◌, ℕ, ◌+◌, List, [], ◌∷◌, Option, Some, None, refl, sym, ap}
use Rattle.std.proofs.Common.{◌∙◌, subst, length, ◌<◌}
use Rattle.cir_meaning.proofs.PartWeights.{same_cover}
use Rattle.cir_meaning.proofs.Weights.{under}
use Rattle.std.specs.List.{AllByRecursion}
use Rattle.cir_lc.specs.Number.{Assignment}
use Rattle.cir_meaning.specs.Limits.{Counts}
use Rattle.cir_meaning.specs.Source.{Equation, IsEqualAt}
use Rattle.cir_meaning.specs.Arrays.{Datum}
use Rattle.cir_meaning.specs.Values.{Value}
use Rattle.cir_meaning.specs.Frame.{SignalEntry, Signals, Maker, variable_at, entry_at}
use Rattle.cir_meaning.specs.RunValues.{Numbers, stored}
use Rattle.cir_meaning.specs.Run.{Wires, Run, store_of, put_wire, put_wires}
use Rattle.cir_meaning.proofs.Rows.{all_append}
use Rattle.cir_meaning.proofs.FineValues.{Fine}
use Rattle.cir_meaning.proofs.Meaning.{means_in}
use Rattle.cir_meaning.proofs.Same.{Rows, Same}
use Rattle.cir_meaning.proofs.Marking.{KeepsWires, wire_row}
use Rattle.cir_meaning.proofs.Holds.{Agrees, Extends, MarksSame}
use Rattle.cir_meaning.proofs.Standing.{Stands, SameEntry, SameShapes, Start, parts_weight}
use Rattle.cir_meaning.proofs.SignalWrites.{wrote, AllAt}
use Rattle.cir_meaning.proofs.Writing.{Placed, AllBelow}

-- fewer assignments
rows_in : (E F : Assignment → Type 0) → ((v : Assignment) → F v → E v) → (vs : List Value)
    (ns : List ℕ) → Rows E vs ns → Rows F vs ns
rows_in E F i [] [] h = tt
rows_in E F i [] (n ∷ ns) h = absurd h
rows_in E F i (v ∷ vs) [] h = absurd h
rows_in E F i (v ∷ vs) (n ∷ ns) h = (means_in E F v n i h.0, rows_in E F i vs ns h.1)

pub same_in : (E F : Assignment → Type 0) → ((v : Assignment) → F v → E v) → (d : Datum)
    (m : Numbers) → Same E d m → Same F d m
same_in E F i d m h = (h.0, rows_in E F i d.items m.items h.1)

-- more numbers of the same signals
pub agrees_before : (v : Assignment) (old new : Signals) (wires more : Wires)
    → SameShapes old new → KeepsWires wires more → Agrees v new more → Agrees v old wires
agrees_before v old new wires more shapes keeps agrees n e there p x less at =
    let d : (d : SignalEntry) × (entry_at new n ≡ Some d) × SameEntry e d = shapes n e there in
    ap (λ (k : ℕ). v.at (k + p)) d.2.1
    ∙ agrees n d.0 d.1 p x (subst (λ (k : ℕ). p < k) d.2.2 less) (keeps n p x at)

pub none_before : (old new : Signals) (n : ℕ) → SameShapes old new → entry_at new n ≡ None
    → entry_at old n ≡ None
none_before old new n shapes none = at (entry_at old n) refl
  where
    at : (o : Option SignalEntry) → entry_at old n ≡ o → o ≡ None
    at None e = refl
    at (Some d) e =
        let there : (x : SignalEntry) × (entry_at new n ≡ Some x) × SameEntry d x = shapes n d e in
        let no : Some there.0 ≡ None = sym there.1 ∙ none in
        cc

-- where the numbers of other signals stay
pub wires_else : (n : ℕ) (places values : List ℕ) (wires : Wires) (m p : ℕ) → n ≢ m
    → put_wires n places values wires m p ≡ wires m p
wires_else n [] values wires m p ne = refl
wires_else n (place ∷ places) [] wires m p ne = refl
wires_else n (place ∷ places) (value ∷ values) wires m p ne =
    wires_else n places values (put_wire n place value wires) m p ne
    ∙ wire_row n place value m p wires ne

-- the numbers that were put
pub all_at : (v : Assignment) (signals : Signals) (wires : Wires) (n : ℕ) (e : SignalEntry)
    → entry_at signals n ≡ Some e → Agrees v signals wires → (places values : List ℕ)
    → Placed wires n places values → AllBelow (length e.written) places values
    → AllAt v e.first places values
all_at v signals wires n e there agrees [] values h g = tt
all_at v signals wires n e there agrees (place ∷ places) [] h g = tt
all_at v signals wires n e there agrees (place ∷ places) (value ∷ values) h g = (
  agrees n e there place value g.0 h.0,
  all_at v signals wires n e there agrees places values h.1 g.1,
)

module _ (make : Option Maker) (given : Wires) (start : Start) (r : Run) (signals : Signals)
    (es : List Equation) (a c : Counts) (wires : Wires) where
  -- the run behind it
  abbrev pub own_written : Run
  own_written = record r { known = wrote r.known None signals es a c; own = wires }

  pub own_stands : Stands make given start None r → MarksSame signals wires
      → KeepsWires r.own wires → SameShapes r.known.frame.signals signals
      → SameShapes signals r.known.frame.signals
      → ((n : ℕ) → entry_at signals n ≡ None → (p : ℕ) → wires n p ≡ r.own n p)
      → Fine (wrote r.known None signals es a c)
      → ((v : Assignment) → Extends r v → Agrees v signals wires
      → AllByRecursion (IsEqualAt v) es)
      → Stands make given start None own_written
  own_stands h marks keeps shapes shapes_back blank fine holds =
      let before : (v : Assignment) → Extends own_written v → Extends r v = λ v ex.
      (agrees_before v r.known.frame.signals signals r.own wires shapes keeps ex.0, ex.1) in
      record {
        variables = λ n. same_in (Extends r) (Extends own_written) before (variable_at r.known.frame
            n) (stored (store_of r.known r.numbers) n) (h.variables n);
        own = marks;
        blank = λ n none p. blank n none p ∙ h.blank n (none_before r.known.frame.signals signals n
            shapes none) p;
        kept = λ n p x e. keeps n p x (h.kept n p x e);
        parts = h.parts;
        count = h.count;
        fine = fine;
        equations = λ v ex debts old. all_append (IsEqualAt v) r.known.world.equations es
            (h.equations v (before v ex) debts old) (holds v (before v ex) ex.0);
        numbered = (
          h.numbered.0,
          h.numbered.1,
          (λ few m. ap (λ (c : ℕ). c + (parts_weight make start.size m r.parts
              + under start.size start.world.sizes m)) (sym (same_cover m r.known.frame.signals
              signals shapes shapes_back)) ∙ h.numbered.2 few m),
        );
      }
