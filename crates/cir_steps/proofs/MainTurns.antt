-- The inputs of main have the numbers of their groups, in the order of their declarations.
use Rattle.std.proofs.Common.{◌≡◌, ℕ, ◌+◌, ◌≤◌, Bool, true, false, cond, List, length, Option, Some}
use Rattle.std.proofs.Common.{None, refl, sym, ap, subst, ◌∙◌, slice_get, arith}
use Rattle.std.specs.Prelude.{◌&&◌}
use Rattle.cir_ast.specs.declared.program.Spot.{Spot}
use Rattle.cir_ast.specs.declared.operators.Direction.{Direction}
use Rattle.cir_meaning.specs.Limits.{count_sum}
use Rattle.cir_meaning.specs.Places.{elements}
use Rattle.cir_meaning.specs.Frame.{SignalEntry, Signals, Group, Sizes, State, Context}
use Rattle.cir_meaning.specs.Frame.{before_group, size_in, more_in, entry_at, put_at, is_input}
use Rattle.cir_meaning.specs.Writing.{signals_of, marked}
use Rattle.cir_meaning.specs.Declaring.{declare_signal, new_signal}
use Rattle.cir_meaning.proofs.GroupSizes.{more_here}
use Rattle.cir_meaning.proofs.NewSignals.{new_exact}
use Rattle.cir_meaning.proofs.Weights.{sum_exact}
use Rattle.cir_meaning.proofs.Entries.{part_apart}
use Rattle.cir_steps.proofs.Still.{Still}
use Rattle.cir_steps.proofs.Walk.{ClearFrom}
use Rattle.cir_steps.proofs.Casting.{Written, with_element}
use Rattle.cir_steps.proofs.InTurn.{is_chosen, taken, AreInTurn, behind, put_in_turn}
use Rattle.cir_steps.proofs.InTurn.{marked_in_turn}

-- inputs of some names in a group of their own
module _ (k : Context) (g : Group) (chosen : List ℕ → Bool)
    (its : (d : Direction) (name : List ℕ) → (is_input d && chosen name) ≡ true
    → k.group d name ≡ g)
    (others : (d : Direction) (name : List ℕ) (n : ℕ) (s : Sizes)
    → (is_input d && chosen name) ≡ false → size_in g (more_in (k.group d name) n s)
    ≡ size_in g s) where
  abbrev pub low : ℕ
  low = 1 + before_group k.group_size g

  -- unless there are too many
  abbrev pub Turns : Signals → Sizes → Type 0
  Turns xs sizes =
      size_in g sizes ≤ 1048576
      → AreInTurn chosen low xs × (behind chosen low xs ≡ low + size_in g sizes)

  abbrev pub TurnsIn : State → Type 0
  TurnsIn s = Turns s.frame.signals s.world.sizes

  -- a signal that is declared
  pub declared_turns : (spot : Spot) (d : Direction) (i : ℕ) (name dims : List ℕ) (s : State)
      → ClearFrom i s.frame.signals → TurnsIn s
      → TurnsIn (declare_signal k spot d i name dims s)
  declared_turns spot d i name dims s clear h few = at (is_input d && chosen name) refl
    where
      entry : SignalEntry
      entry = new_signal k spot d name dims s.world

      more : Sizes
      more = more_in (k.group d name) (elements dims) s.world.sizes

      put : AreInTurn chosen low s.frame.signals
          → (is_chosen chosen entry ≡ true → entry.first ≡ behind chosen low s.frame.signals)
          → AreInTurn chosen low (put_at i entry s.frame.signals)
          × (behind chosen low (put_at i entry s.frame.signals)
          ≡ behind chosen low s.frame.signals + taken chosen entry)
      put = put_in_turn chosen i low entry s.frame.signals clear

      at : (b : Bool) → (is_input d && chosen name) ≡ b
          → AreInTurn chosen low (put_at i entry s.frame.signals)
          × (behind chosen low (put_at i entry s.frame.signals) ≡ low + size_in g more)
      at true is =
          let group : k.group d name ≡ g = its d name is in
          let now : size_in g more ≡ count_sum (size_in g s.world.sizes) (elements dims) =
          ap (λ x. size_in g (more_in x (elements dims) s.world.sizes)) group
          ∙ more_here g (elements dims) s.world.sizes in
          let sum : size_in g more ≡ size_in g s.world.sizes + elements dims =
          now ∙ sum_exact (size_in g s.world.sizes) (elements dims)
          (subst (λ (n : ℕ). n ≤ 1048576) now few) in
          let all : size_in g s.world.sizes + elements dims ≤ 1048576 =
          subst (λ (n : ℕ). n ≤ 1048576) sum few in
          let old : AreInTurn chosen low s.frame.signals
          × (behind chosen low s.frame.signals ≡ low + size_in g s.world.sizes) =
          h (omega arith) in
          let first : entry.first ≡ low + size_in g s.world.sizes =
          ap (λ x. 1 + before_group k.group_size x + size_in x s.world.sizes) group in
          let new : AreInTurn chosen low (put_at i entry s.frame.signals)
          × (behind chosen low (put_at i entry s.frame.signals)
          ≡ behind chosen low s.frame.signals + taken chosen entry) =
          put old.0 (λ t. first ∙ sym old.1) in
          let count : taken chosen entry ≡ elements dims =
          ap (λ (b : Bool). cond b (length entry.written) 0) is
          ∙ new_exact dims (is_input d) (omega arith) in (
            new.0,
            new.1 ∙ joined (behind chosen low s.frame.signals) (taken chosen entry)
                (size_in g s.world.sizes) (elements dims) (size_in g more) old.1 count sum,
          )
        where
          joined : (a b c e f : ℕ) → a ≡ low + c → b ≡ e → f ≡ c + e → a + b ≡ low + f
          joined a b c e f x y z = omega arith
      at false is =
          let same : size_in g more ≡ size_in g s.world.sizes =
          others d name (elements dims) s.world.sizes is in
          let old : AreInTurn chosen low s.frame.signals
          × (behind chosen low s.frame.signals ≡ low + size_in g s.world.sizes) =
          h (subst (λ (n : ℕ). n ≤ 1048576) same few) in
          let new : AreInTurn chosen low (put_at i entry s.frame.signals)
          × (behind chosen low (put_at i entry s.frame.signals)
          ≡ behind chosen low s.frame.signals + taken chosen entry) =
          put old.0 (λ t. let no : true ≡ false = sym t ∙ is in cc) in
          let none : taken chosen entry ≡ 0 =
          ap (λ (b : Bool). cond b (length entry.written) 0) is in (
            new.0,
            new.1 ∙ joined (behind chosen low s.frame.signals) (taken chosen entry)
                (size_in g s.world.sizes) (size_in g more) old.1 none same,
          )
        where
          joined : (a b c f : ℕ) → a ≡ low + c → b ≡ 0 → f ≡ c → a + b ≡ low + f
          joined a b c f x y z = omega arith

  -- a write of signals
  element_turns : (part : Option ℕ) (n place : ℕ) (e : SignalEntry) (s : State)
      → entry_at (signals_of part s.frame) n ≡ Some e → TurnsIn s
      → TurnsIn (with_element part n place e s)
  element_turns None n place e s there h = λ few.
      let old : AreInTurn chosen low s.frame.signals
      × (behind chosen low s.frame.signals ≡ low + size_in g s.world.sizes) = h few in
      let new : AreInTurn chosen low (put_at n (marked e place) s.frame.signals)
      × (behind chosen low (put_at n (marked e place) s.frame.signals)
      ≡ behind chosen low s.frame.signals) =
      marked_in_turn chosen n low place e s.frame.signals there old.0 in
      (new.0, new.1 ∙ old.1)
  element_turns (Some j) n place e s there h =
      subst (λ xs. Turns xs s.world.sizes)
      (sym (part_apart j (put_at n (marked e place) (signals_of (Some j) s.frame))
      (slice_get s.frame.parts j) s.frame)) h

  pub still_turns : (f s : State) → Still f s → TurnsIn f → TurnsIn s
  still_turns f s l h =
      subst (λ xs. Turns xs s.world.sizes) (sym l.0)
      (subst (λ sizes. Turns f.frame.signals sizes) (sym l.2) h)

  pub written_turns : Written (λ f s. TurnsIn f → TurnsIn s)
  written_turns = record {
    still = still_turns;
    element = element_turns;
    joins = λ f s t i j h. j (i h);
  }

  -- where the sizes of inputs stay
  pub same_turns : (xs : Signals) (a b : Sizes) → size_in g b ≡ size_in g a → Turns xs a
      → Turns xs b
  same_turns xs a b e h few =
      let old : AreInTurn chosen low xs × (behind chosen low xs ≡ low + size_in g a) =
      h (subst (λ (n : ℕ). n ≤ 1048576) e few) in
      (old.0, old.1 ∙ ap (λ (n : ℕ). low + n) (sym e))
