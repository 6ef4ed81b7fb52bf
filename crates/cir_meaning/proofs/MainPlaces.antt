-- The signals of a body have the numbers of their groups.
use Rattle.std.proofs.Common.{◌≡◌, ◌≢◌, ◌⊎◌, inl, inr, ℕ, zero, suc, ◌+◌, ◌≤◌, ◌<◌, Bool, true}
use Rattle.std.proofs.Common.{false, cond, List, [], length, replicate, Option, Some, None, refl}
use Rattle.std.proofs.Common.{sym, ap, subst, ◌∙◌, slice_get, arith}
use Rattle.std.specs.Prelude.{◌^◌, ◌-◌}
use Rattle.cir_ast.specs.declared.operators.Direction.{Direction}
use Rattle.cir_ast.specs.declared.program.Spot.{Spot}
use Rattle.cir_meaning.specs.Tried.{Where}
use Rattle.cir_meaning.specs.Limits.{count_sum, is_too_large}
use Rattle.cir_meaning.specs.Places.{elements}
use Rattle.cir_meaning.specs.Frame.{SignalEntry, Signals, Sizes, World, State, Context}
use Rattle.cir_meaning.specs.Frame.{before_group, size_in, more_in, put_at, entry_at, is_input}
use Rattle.cir_meaning.specs.Writing.{signals_of, with_signals, marked}
use Rattle.cir_meaning.specs.Declaring.{new_signal, Creation}
use Rattle.cir_meaning.proofs.Good.{OnSome'}
use Rattle.cir_meaning.proofs.SignalWrites.{put_here}
use Rattle.cir_meaning.proofs.PartWrites.{same_or_not, set_count}
use Rattle.cir_meaning.proofs.Creating.{Created}
use Rattle.cir_meaning.proofs.Keeping.{Closed}
use Rattle.cir_meaning.proofs.Entries.{put_else, part_apart}
use Rattle.cir_meaning.proofs.GroupSizes.{Less, Fits, less_itself, less_then, more_less, more_fits}
use Rattle.cir_meaning.proofs.GroupSizes.{more_here, IsGrowing}
use Rattle.cir_meaning.proofs.GrowingSizes.{From, from_made, constrained_kept}

-- in its group, unless the group has more than can be counted
abbrev pub Place : Context → Sizes → SignalEntry → Type 0
Place k sizes e =
    size_in (k.group e.direction e.name) sizes < 2 ^ 64 - 1
    → (1 + before_group k.group_size (k.group e.direction e.name) ≤ e.first)
    × (e.first + length e.written ≤ 1 + before_group k.group_size (k.group e.direction e.name)
    + size_in (k.group e.direction e.name) sizes)

place_more : (k : Context) (a b : Sizes) (e : SignalEntry) → Less a b → Place k a e → Place k b e
place_more k a b e less place small =
    let grown : size_in (k.group e.direction e.name) a ≤ size_in (k.group e.direction e.name) b =
    less (k.group e.direction e.name) in
    let old : (1 + before_group k.group_size (k.group e.direction e.name) ≤ e.first)
    × (e.first + length e.written ≤ 1 + before_group k.group_size (k.group e.direction e.name)
    + size_in (k.group e.direction e.name) a) = place (omega arith) in
    let upper : e.first + length e.written ≤ 1 + before_group k.group_size
    (k.group e.direction e.name) + size_in (k.group e.direction e.name) a = old.1 in
    (old.0, omega arith)

place_marked : (k : Context) (sizes : Sizes) (e : SignalEntry) (place : ℕ) → Place k sizes e
    → Place k sizes (marked e place)
place_marked k sizes e place h small =
    let old : (1 + before_group k.group_size (k.group e.direction e.name) ≤ e.first)
    × (e.first + length e.written ≤ 1 + before_group k.group_size (k.group e.direction e.name)
    + size_in (k.group e.direction e.name) sizes) = h small in (
      old.0,
      subst (λ n. e.first + n ≤ 1 + before_group k.group_size (k.group e.direction e.name)
          + size_in (k.group e.direction e.name) sizes) (sym (set_count e.written place true))
          old.1,
    )

replicated : (n : ℕ) (b : Bool) → length (replicate n b) ≡ n
replicated zero b = refl
replicated (suc n) b =
    ap (λ (m : ℕ). suc m) (replicated n b)

new_count : (dims : List ℕ) (b : Bool)
    → length (cond (is_too_large dims) [] (replicate (elements dims) b)) ≤ elements dims
new_count dims b = at (is_too_large dims)
  where
    at : (c : Bool) → length (cond c [] (replicate (elements dims) b)) ≤ elements dims
    at true = omega arith
    at false = let same : length (replicate (elements dims) b) ≡ elements dims = replicated
        (elements dims) b in omega arith

place_new : (k : Context) (spot : Spot) (d : Direction) (name dims : List ℕ) (world : World)
    → Place k (more_in (k.group d name) (elements dims) world.sizes)
    (new_signal k spot d name dims world)
place_new k spot d name dims world small =
    let here : size_in (k.group d name) (more_in (k.group d name) (elements dims) world.sizes)
    ≡ count_sum (size_in (k.group d name) world.sizes) (elements dims) =
    more_here (k.group d name) (elements dims) world.sizes in
    let count : length (new_signal k spot d name dims world).written ≤ elements dims =
    new_count dims (is_input d) in (
      omega arith,
      bounds (size_in (k.group d name) world.sizes) (elements dims)
          (before_group k.group_size (k.group d name))
          (length (new_signal k spot d name dims world).written)
          (size_in (k.group d name) (more_in (k.group d name)
          (elements dims) world.sizes)) here count
          small,
    )
  where
    bounds : (a n b l m : ℕ) → m ≡ count_sum a n → l ≤ n → m < 2 ^ 64 - 1
        → 1 + b + a + l ≤ 1 + b + m
    bounds a n b l m e le small = omega arith

abbrev pub Places : Context → Sizes → State → Type 0
Places k sizes s =
    (n : ℕ) (e : SignalEntry) → entry_at s.frame.signals n ≡ Some e → Place k s.world.sizes e

abbrev pub Placed : Context → Sizes → State → Type 0
Placed k sizes s = From sizes s × Places k sizes s

placed_same : (k : Context) (sizes : Sizes) (s t : State) → t.world.sizes ≡ s.world.sizes
    → t.frame.signals ≡ s.frame.signals → Placed k sizes s → Placed k sizes t
placed_same k sizes s t e g h = (
  subst (λ x. Fits x × Less sizes x) (sym e) h.0,
  (λ n x there. subst (λ z. Place k z x) (sym e)
      (h.1 n x (subst (λ xs. entry_at xs n ≡ Some x) g there))),
)

-- an entry that is put
placed_put : (k : Context) (old new : Sizes) (xs : Signals) (i : ℕ) (a : SignalEntry)
    → Less old new
    → ((n : ℕ) (e : SignalEntry) → entry_at xs n ≡ Some e → Place k old e) → Place k new a
    → (n : ℕ) (e : SignalEntry) → entry_at (put_at i a xs) n ≡ Some e → Place k new e
placed_put k old new xs i a less h g n e there = at (same_or_not i n)
  where
    at : (i ≡ n) ⊎ (i ≢ n) → Place k new e
    at (inl same) =
        let both : Some a ≡ Some e =
        sym (put_here i a xs) ∙ subst (λ j. entry_at (put_at i a xs) j ≡ Some e) (sym same) there
        in
        let one : a ≡ e = cc in subst (Place k new) one g
    at (inr ne) = place_more k old new e less (h n e (sym (put_else i n a xs ne) ∙ there))

placed_written : (k : Context) (sizes : Sizes) (part : Option ℕ) (number place : ℕ)
    (e : SignalEntry) (s : State) → entry_at (signals_of part s.frame) number ≡ Some e
    → Places k sizes s
    → (n : ℕ) (x : SignalEntry)
    → entry_at (with_signals part (put_at number (marked e place) (signals_of part s.frame))
    s.frame).signals n ≡ Some x → Place k s.world.sizes x
placed_written k sizes None number place e s there h =
    placed_put k s.world.sizes s.world.sizes s.frame.signals number (marked e place)
    (less_itself s.world.sizes) h (place_marked k s.world.sizes e place (h number e there))
placed_written k sizes (Some j) number place e s there h = λ n x at.
    h n x (subst (λ xs. entry_at xs n ≡ Some x)
    (part_apart j (put_at number (marked e place) (signals_of (Some j) s.frame))
    (slice_get s.frame.parts j) s.frame) at)

placed_made : (sizes : Sizes) (k : Context) (makes : OnSome' IsGrowing k.make) (w : Where)
    (c : Creation) (place : ℕ) (s : State) → Created k w c place s → Placed k sizes c.state
    → Placed k sizes s
placed_made sizes k makes w c place s made h =
    let after : From sizes s = from_made sizes k makes w c place s made h.0 in
    let grown : Fits made.world.sizes × Less c.state.world.sizes made.world.sizes =
    (subst (λ o. OnSome' IsGrowing o) made.is_make makes) w c.template c.arguments _
    c.state.world made.signals made.world made.made h.0.0 in (
      after,
      (λ n x there.
          subst (λ z. Place k z x) (sym (ap (λ (t : State). t.world.sizes) made.state))
          (place_more k c.state.world.sizes made.world.sizes x grown.1
          (h.1 n x (subst (λ (t : State). entry_at t.frame.signals n ≡ Some x) made.state
          there)))),
    )

pub placed_closed : (sizes : Sizes) (k : Context) (makes : OnSome' IsGrowing k.make) (n : ℕ)
    → Closed k n (Placed k sizes)
placed_closed sizes k makes n = record {
  like = λ f s l h. placed_same k sizes f s (ap (λ (v : World). v.sizes) l.4) l.1 h;
  added = λ s t i h. subst (Placed k sizes) (sym i.1) h;
  variable = λ i d s h. h;
  array = λ dims s h. h;
  component = λ i c s h. h;
  written = λ part number place e s there h. (
    h.0,
    placed_written k sizes part number place e s there h.1,
  );
  equation = constrained_kept (Placed k sizes)
      (λ x y s t c h. subst (Placed k sizes) (sym c.adds.1) h) k;
  signal = λ spot direction i name dims s apart h. (
    (
      more_fits (k.group direction name) (elements dims) s.world.sizes h.0.0,
      less_then sizes s.world.sizes
          (more_in (k.group direction name) (elements dims) s.world.sizes) h.0.1
          (more_less (k.group direction name) (elements dims) s.world.sizes h.0.0),
    ),
    placed_put k s.world.sizes (more_in (k.group direction name) (elements dims) s.world.sizes)
        s.frame.signals i (new_signal k spot direction name dims s.world)
        (more_less (k.group direction name) (elements dims) s.world.sizes h.0.0) h.1
        (place_new k spot direction name dims s.world),
  );
  created = placed_made sizes k makes;
}
