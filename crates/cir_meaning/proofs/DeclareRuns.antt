-- The declaration of a signal in a run.
use Rattle.std.proofs.Common.{◌≡◌, ◌≢◌, ◌⊎◌, inl, inr, ℕ, Bool, List, Option, Some, None, is_some}
use Rattle.std.proofs.Common.{refl, sym, ap, subst, ◌∙◌, slice_get}
use Rattle.cir_meaning.proofs.NewSignals.{new_numbered}
use Rattle.std.specs.List.{AllByRecursion}
use Rattle.cir_meaning.specs.Source.{IsEqualAt}
use Rattle.cir_ast.specs.declared.program.Spot.{Spot}
use Rattle.cir_ast.specs.declared.operators.Direction.{Direction}
use Rattle.cir_lc.specs.Number.{Assignment}
use Rattle.cir_meaning.specs.Limits.{Counts}
use Rattle.cir_meaning.specs.Frame.{SignalEntry, Signals, State, Context, Maker, World, put_at}
use Rattle.cir_meaning.specs.Frame.{entry_at, variable_at}
use Rattle.cir_meaning.specs.Declaring.{new_signal, with_row, declare_signal}
use Rattle.cir_meaning.specs.RunValues.{stored}
use Rattle.cir_meaning.specs.Run.{Wires, Run, store_of}
use Rattle.cir_meaning.specs.RunSimple.{with_known}
use Rattle.cir_meaning.proofs.Likes.{Like}
use Rattle.cir_meaning.proofs.FineValues.{Fine}
use Rattle.cir_meaning.proofs.Marking.{put_entry}
use Rattle.cir_meaning.proofs.Holds.{Extends}
use Rattle.cir_meaning.proofs.Standing.{Stands, Start, Numbered}
use Rattle.cir_meaning.proofs.SignalWrites.{put_there, put_here}
use Rattle.cir_meaning.proofs.OwnWrites.{same_in}
use Rattle.cir_meaning.proofs.PartWrites.{same_or_not}
use Rattle.cir_meaning.proofs.VariableRuns.{like_changed}

-- what is given has the numbers of a new signal: of an input all, and of another one none
abbrev pub IsGiven : Wires → ℕ → SignalEntry → Type 0
IsGiven given n e =
    (p : ℕ) (b : Bool) → slice_get e.written p ≡ Some b → is_some (given n p) ≡ b

-- a signal that isn't declared yet
none_put : (n m : ℕ) (a : SignalEntry) (xs : Signals) → entry_at (put_at n a xs) m ≡ None
    → entry_at xs m ≡ None
none_put n m a xs none = at (entry_at xs m) refl (same_or_not n m)
  where
    at : (o : Option SignalEntry) → entry_at xs m ≡ o → (n ≡ m) ⊎ (n ≢ m) → o ≡ None
    at None e s = refl
    at (Some d) e (inl s) =
        let here : entry_at (put_at n a xs) m ≡ Some a = ap (entry_at (put_at n a xs)) (sym s) ∙
        put_here n a xs in
        let no : Some a ≡ None = sym here ∙ none in cc
    at (Some d) e (inr ne) =
        let here : entry_at (put_at n a xs) m ≡ Some d = put_there n m a d xs ne e in
        let no : Some d ≡ None = sym here ∙ none in cc

module _ (make : Option Maker) (given : Wires) (start : Start) (late : Option ℕ) (r : Run)
    (h : Stands make given start late r) (n : ℕ) (e : SignalEntry)
    (undeclared : entry_at r.known.frame.signals n ≡ None) (gives : IsGiven given n e)
    (a c : Counts) (world : World) (equal : world.equations ≡ r.known.world.equations)
    (numbers : Numbered make start world.sizes (put_at n e r.known.frame.signals) r.parts) where
  -- the state behind the declaration
  abbrev pub declared_state : State
  declared_state = record {
    frame = record (r.known.frame) {
      signals = put_at n e r.known.frame.signals;
      added = a;
    };
    world = record world { counts = c };
  }

  not_new : (m : ℕ) (d : SignalEntry) → entry_at r.known.frame.signals m ≡ Some d → n ≢ m
  not_new m d there = λ s.
      let no : Some d ≡ None = sym there ∙ ap (entry_at r.known.frame.signals) (sym s) ∙
      undeclared in cc

  before : (v : Assignment) → Extends (with_known declared_state r) v → Extends r v
  before v ex = (
    (λ m d there p x less at. ex.0 m d (put_there n m e d r.known.frame.signals (not_new m d there)
        there) p x less at),
    ex.1,
  )

  pub declared_stands : Fine declared_state
      → Stands make given start late (with_known declared_state r)
  declared_stands fine = record {
    variables = λ m. same_in (Extends r) (Extends (with_known declared_state r)) before (variable_at
        r.known.frame m) (stored (store_of r.known r.numbers) m) (h.variables m);
    own = λ m d there p b at. own_of m d p b at (put_entry n m e d r.known.frame.signals there);
    blank = λ m none p. h.blank m (none_put n m e r.known.frame.signals none) p;
    kept = h.kept;
    parts = h.parts;
    count = h.count;
    fine = fine;
    equations = λ v ex debts first. subst (λ es. AllByRecursion (IsEqualAt v) es) (sym equal)
        (h.equations v (before v ex) debts first);
    numbered = numbers;
  }
    where
      own_of : (m : ℕ) (d : SignalEntry) (p : ℕ) (b : Bool) → slice_get d.written p ≡ Some b
          → ((n ≡ m) × (e ≡ d)) ⊎ ((n ≢ m) × (entry_at r.known.frame.signals m ≡ Some d))
          → is_some (r.own m p) ≡ b
      own_of m d p b at (inl s) =
          subst (λ i. is_some (r.own i p) ≡ b) s.0
          (ap is_some (h.blank n undeclared p)
          ∙ gives p b (subst (λ x. slice_get x.written p ≡ Some b) (sym s.1) at))
      own_of m d p b at (inr s) = h.own m d s.1 p b at

-- the declaration, in a state that differs in counts alone
pub declare_stands : (make : Option Maker) (given : Wires) (start : Start) (late : Option ℕ)
    (r : Run) (k : Context) (spot : Spot) (direction : Direction) (n : ℕ) (name dims : List ℕ)
    (s : State) → k.group_size ≡ start.size → Stands make given start late r → Like r.known s
    → entry_at r.known.frame.signals n ≡ None
    → IsGiven given n (new_signal k spot direction name dims s.world)
    → Fine (declare_signal k spot direction n name dims s)
    → Stands make given start late (with_known (declare_signal k spot direction n name dims s) r)
declare_stands make given start late r k spot direction n name dims s sized h l undeclared
    gives fine =
    let numbers : Numbered make start (with_row k direction name dims s.world).sizes
    (put_at n (new_signal k spot direction name dims s.world) r.known.frame.signals) r.parts =
    new_numbered make start k spot direction n name dims s.world r.known.world.sizes
    r.known.frame.signals r.parts sized (ap (λ (x : World). x.sizes) l.4) undeclared h.numbered in
    let same : declare_signal k spot direction n name dims s ≡ declared_state make given start late
    r h n (new_signal k spot direction name dims s.world) undeclared gives
    (declare_signal k spot direction n name dims s).frame.added
    s.world.counts (with_row k direction name dims s.world)
    (ap (λ (x : World). x.equations) l.4) numbers =
    ap (λ (t : State). record {
      frame = record (t.frame) {
        signals = put_at n (new_signal k spot direction name dims s.world) t.frame.signals;
        added = (declare_signal k spot direction n name dims s).frame.added;
      };
      world = record (with_row k direction name dims s.world) { counts = s.world.counts };
    }) (like_changed r.known s l) in
    subst (λ t. Stands make given start late (record r { known = t })) (sym same)
    (declared_stands make given start late r h n
    (new_signal k spot direction name dims s.world) undeclared gives
    (declare_signal k spot direction n name dims s).frame.added s.world.counts
    (with_row k direction name dims s.world) (ap (λ (x : World). x.equations) l.4) numbers
    (subst Fine same fine))
