-- A signal that is declared has cells of its own, and numbers of its own.
use Rattle.std.proofs.Common.{◌≡◌, ◌≢◌, ◌⊎◌, inl, inr, ℕ, zero, suc, ◌+◌, ◌<◌, ◌≤◌, Bool, true}
use Rattle.std.proofs.Common.{false, cond, List, [], ◌++◌, length, replicate, Option, Some}
use Rattle.std.proofs.Common.{None, refl, sym, ap, subst, ◌∙◌, arith, slice_get, nat_eq, nat_lt}
use Rattle.std.specs.Prelude.{◌&&◌}
use Rattle.std.proofs.lemmas.Bool.{eq-eqb, lt-ltb}
use Rattle.cir_ast.specs.declared.program.Spot.{Spot}
use Rattle.cir_ast.specs.declared.operators.Direction.{Direction}
use Rattle.cir_meaning.specs.Places.{elements}
use Rattle.cir_meaning.specs.Limits.{count_sum, is_too_large}
use Rattle.cir_meaning.specs.Frame.{SignalEntry, Sizes, State, Context, before_group, size_in}
use Rattle.cir_meaning.specs.Frame.{more_in, put_at, entry_at, is_input}
use Rattle.cir_meaning.specs.Declaring.{new_signal, declare_signal}
use Rattle.cir_meaning.specs.Run.{Wires}
use Rattle.cir_meaning.specs.RunBodies.{or_else, port_tables}
use Rattle.cir_meaning.proofs.Marking.{put_entry}
use Rattle.cir_meaning.proofs.SignalWrites.{put_there}
use Rattle.cir_meaning.proofs.PartWrites.{same_or_not}
use Rattle.cir_meaning.proofs.GroupSizes.{Less, Fits, more_less, more_fits, more_here}
use Rattle.cir_meaning.proofs.Weights.{inside, cover, cover_entries, cover_tables, cover_put, under}
use Rattle.cir_meaning.proofs.Weights.{under_more, Bounded, bounded_before, sum_exact}
use Rattle.cir_meaning.proofs.NewSignals.{new_exact}
use Rattle.cir_steps.specs.Emission.{Emission, known_in, with_state, made_elements, with_signal}
use Rattle.cir_steps.specs.Emission.{put_signal}
use Rattle.cir_steps.proofs.ReadCells.{In, in_left, Holds, holding_more}
use Rattle.cir_steps.proofs.ReadLeaves.{GivenOf, Moves}

replicated : (m i : ℕ) (b a : Bool) → slice_get (replicate m b) i ≡ Some a → b ≡ a
replicated zero i b a e = cc
replicated (suc m) zero b a e = cc
replicated (suc m) (suc i) b a e = replicated m i b a e

-- cells that are there stay, and a new signal's elements have some
kept_cell : (n first count m i c : ℕ) (wires : Wires) → wires m i ≡ Some c
    → put_signal n first count wires m i ≡ Some c
kept_cell n first count m i c wires e =
    ap (λ o. or_else o (cond (nat_eq n m && nat_lt i count) (Some (first + i)) None)) e

new_cell : (n first count i : ℕ) (wires : Wires) → i < count
    → (c : ℕ) × (put_signal n first count wires n i ≡ Some c)
new_cell n first count i wires less = at (wires n i) refl
  where
    at : (o : Option ℕ) → wires n i ≡ o
        → (c : ℕ) × (put_signal n first count wires n i ≡ Some c)
    at (Some c) e = (c, kept_cell n first count n i c wires e)
    at None e = (
      first + i,
      ap (λ o. or_else o (cond (nat_eq n n && nat_lt i count) (Some (first + i)) None)) e
          ∙ ap (λ (b : Bool). cond (b && nat_lt i count) (Some (first + i)) None)
          (eq-eqb n n refl)
          ∙ ap (λ (b : Bool). cond b (Some (first + i)) None) (lt-ltb i count less),
    )

new_count : (dims : List ℕ) (b : Bool)
    → length (cond (is_too_large dims) [] (replicate (elements dims) b)) ≡ made_elements dims
new_count dims b = at (is_too_large dims)
  where
    all : (n : ℕ) → length (replicate n b) ≡ n
    all zero = refl
    all (suc n) = ap (λ (m : ℕ). suc m) (all n)

    at : (large : Bool) → length (cond large [] (replicate (elements dims) b))
        ≡ cond large 0 (elements dims)
    at true = refl
    at false = all (elements dims)

new_mark : (dims : List ℕ) (i : ℕ) (b a : Bool)
    → slice_get (cond (is_too_large dims) [] (replicate (elements dims) b)) i ≡ Some a → b ≡ a
new_mark dims i b a e = at (is_too_large dims) e
  where
    at : (large : Bool) → slice_get (cond large [] (replicate (elements dims) b)) i ≡ Some a
        → b ≡ a
    at true e = cc
    at false e = replicated (elements dims) i b a e

module _ (size : ℕ) (final : Sizes) (few : Bounded final) (k : Context)
    (sized : k.group_size ≡ size) (spot : Spot) (direction : Direction) (n : ℕ)
    (name dims : List ℕ) (x : Emission)
    (free : entry_at (known_in x).frame.signals n ≡ None) where
  abbrev f : State
  f = known_in x

  abbrev entry : SignalEntry
  entry = new_signal k spot direction name dims f.world

  abbrev sizes : Sizes
  sizes = more_in (k.group direction name) (elements dims) f.world.sizes

  abbrev y : Emission
  y = with_signal n (made_elements dims)
      (with_state (declare_signal k spot direction n name dims f) x)

  module _ (fits : Fits f.world.sizes) (less : Less sizes final) where
    bounded : Bounded sizes
    bounded = bounded_before sizes final less few

    exact : (count_sum (size_in (k.group direction name) f.world.sizes) (elements dims)
        ≡ size_in (k.group direction name) f.world.sizes + elements dims)
        × (elements dims ≤ 1048576)
    exact =
        let here : size_in (k.group direction name) sizes
        ≡ count_sum (size_in (k.group direction name) f.world.sizes) (elements dims) =
        more_here (k.group direction name) (elements dims) f.world.sizes in
        let most : size_in (k.group direction name) sizes ≤ 1048576 =
        bounded (k.group direction name) in
        let sum : count_sum (size_in (k.group direction name) f.world.sizes) (elements dims)
        ≡ size_in (k.group direction name) f.world.sizes + elements dims =
        sum_exact (size_in (k.group direction name) f.world.sizes) (elements dims)
        (subst (λ (a : ℕ). a ≤ 1048576) here most) in (
          sum,
          small (size_in (k.group direction name) f.world.sizes) (elements dims)
              (subst (λ (a : ℕ). a ≤ 1048576) (here ∙ sum) most),
        )
      where
        small : (a b : ℕ) → a + b ≤ 1048576 → b ≤ 1048576
        small a b h = omega arith

    covers : (m : ℕ) → cover m entry
        ≡ inside m (1 + before_group size (k.group direction name)
        + size_in (k.group direction name) f.world.sizes) (elements dims)
    covers m =
        ap (inside m entry.first) (new_exact dims (is_input direction) exact.1)
        ∙ ap (λ (s : ℕ). inside m (1 + before_group s (k.group direction name)
        + size_in (k.group direction name) f.world.sizes) (elements dims)) sized

    sum_new : (c tables first now then new all : ℕ) → c + (tables + first) ≡ now → all ≡ c + new
        → then ≡ now + new → all + (tables + first) ≡ then
    sum_new c tables first now then new all h a t = omega arith

    given : (c : ℕ) → GivenOf x c → GivenOf y c
    given c (m, e, there, input, i, inside_it, own) =
        at (same_or_not n m)
      where
        at : (n ≡ m) ⊎ (n ≢ m) → GivenOf y c
        at (inl same) =
            let no : Some e ≡ None =
            sym there ∙ ap (entry_at f.frame.signals) (sym same) ∙ free in cc
        at (inr ne) = (
          m,
          e,
          put_there n m entry e f.frame.signals ne there,
          input,
          i,
          inside_it,
          kept_cell n x.next (made_elements dims) m i c x.cells.own own,
        )

    module _ (first : Sizes) (before : List ℕ) (h : Holds size first before x) where
      owned : (m : ℕ) (e : SignalEntry) → entry_at (put_at n entry f.frame.signals) m ≡ Some e
          → (i : ℕ) → i < length e.written
          → (c : ℕ) × (y.cells.own m i ≡ Some c)
          × (slice_get e.written i ≡ Some true → is_input e.direction ≡ false
          → In c (before ++ []))
      owned m e there i inside_it = at (put_entry n m entry e f.frame.signals there)
        where
          new : (length entry.written ≡ made_elements dims) → n ≡ m → entry ≡ e
              → (c : ℕ) × (y.cells.own m i ≡ Some c)
              × (slice_get e.written i ≡ Some true → is_input e.direction ≡ false
              → In c (before ++ []))
          new count number same =
              let as_many : length e.written ≡ made_elements dims =
              ap (λ (a : SignalEntry). length a.written) (sym same) ∙ count in
              let its : (c : ℕ)
              × (put_signal n x.next (made_elements dims) x.cells.own n i ≡ Some c) =
              new_cell n x.next (made_elements dims) i x.cells.own (omega arith) in (
                its.0,
                subst (λ (j : ℕ). y.cells.own j i ≡ Some its.0) number its.1,
                (λ mark input.
                    let in_new : slice_get entry.written i ≡ Some true =
                    ap (λ (a : SignalEntry). slice_get a.written i) same ∙ mark in
                    let yes : is_input direction ≡ true =
                    new_mark dims i (is_input direction) true in_new in
                    let no : is_input direction ≡ false =
                    ap (λ (a : SignalEntry). is_input a.direction) same ∙ input in
                    cc),
              )

          at : ((n ≡ m) × (entry ≡ e)) ⊎ ((n ≢ m) × (entry_at f.frame.signals m ≡ Some e))
              → (c : ℕ) × (y.cells.own m i ≡ Some c)
              × (slice_get e.written i ≡ Some true → is_input e.direction ≡ false
              → In c (before ++ []))
          at (inl same) = new (new_count dims (is_input direction)) same.0 same.1
          at (inr old) =
              let its : (c : ℕ) × (x.cells.own m i ≡ Some c)
              × (slice_get e.written i ≡ Some true → is_input e.direction ≡ false
              → In c before) = h.owned m e old.1 i inside_it in (
                its.0,
                kept_cell n x.next (made_elements dims) m i its.0 x.cells.own its.1,
                (λ mark input. in_left its.0 before [] (its.2 mark input)),
              )

      holds : Holds size first (before ++ []) y
      holds = record {
        sourced = λ m i c e. in_left c before [] (h.sourced m i c e);
        exact = λ m e there. at m e (put_entry n m entry e f.frame.signals there);
        owned = owned;
        part = (holding_more size first before (before ++ []) _ _ _ _ _ _ _
            (λ c i. in_left c before [] i) h).part;
        runs_count = h.runs_count;
        bodies_count = h.bodies_count;
        covered = λ m.
            sum_new (cover_entries m f.frame.signals)
            (cover_tables m (port_tables f.frame.parts x.cells.parts)) (under size first m)
            (under size f.world.sizes m) (under size sizes m) (cover m entry)
            (cover_entries m (put_at n entry f.frame.signals)) (h.covered m)
            (cover_put m n entry f.frame.signals free)
            (under_more size (k.group direction name) (elements dims) f.world.sizes m exact.0
            ∙ ap (λ (a : ℕ). under size f.world.sizes m + a) (sym (covers m)));
      }
        where
          at : (m : ℕ) (e : SignalEntry)
              → ((n ≡ m) × (entry ≡ e)) ⊎ ((n ≢ m) × (entry_at f.frame.signals m ≡ Some e))
              → length e.written ≡ elements e.dims
          at m e (inl same) =
              subst (λ (a : SignalEntry). length a.written ≡ elements a.dims) same.1
              (new_exact dims (is_input direction) exact.1)
          at m e (inr old) = h.exact m e old.1

  pub declared_moves : Moves size final x record { state = y; steps = [] }
  declared_moves fits = (
    (
      more_fits (k.group direction name) (elements dims) f.world.sizes fits,
      more_less (k.group direction name) (elements dims) f.world.sizes fits,
    ),
    (λ less first before h. record {
      behind = tt;
      holds = holds fits less first before h;
      given = given fits less;
    }),
  )
