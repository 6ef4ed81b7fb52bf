-- What a frame shows where a variable is assigned or declared, and where a scope ends.
use Rattle.std.proofs.Common.{◌≡◌, ℕ, ◌+◌, ◌-◌, ◌<◌, ◌≤◌, Bool, true, false, cond, List, ◌∷◌}
use Rattle.std.proofs.Common.{length, Option, Some, None, refl, sym, ap, subst, ◌∙◌, arith, inl}
use Rattle.std.proofs.Common.{inr, ◌⊎◌, get_or-set_same, get_or-set_other, ext_get_or}
use Rattle.std.specs.Prelude.{slice_index, slice_set}
use Rattle.std.proofs.lemmas.Bool.{cases_lt, cases_eq, eqb-true, eqb-false}
use Rattle.std.proofs.lemmas.Option.{unwrap_or-slice_get}
use Rattle.cir_ast.specs.declared.program.Meant.{Meant}
use Rattle.cir_ast.specs.Tree.{Expr}
use Rattle.cir_meaning.specs.Places.{numbers_from}
use Rattle.cir_meaning.specs.Limits.{is_too_large}
use Rattle.cir_meaning.specs.Arrays.{single, put_items}
use Rattle.cir_meaning.specs.RunValues.{Numbers, Environment, Store, stored}
use Rattle.wit_lower.specs.Homes.{Name, Variable, Signal, Port, same_name, Home, Homes, Scope}
use Rattle.wit_lower.specs.Homes.{Ground, find, slots_of, row, with_variable}
use Rattle.wit_lower.specs.Fits.{AreLaid}
use Rattle.wit_lower.proofs.Frames.{Copied, row_from, row_index, row_length, row_below, put_length}
use Rattle.wit_lower.proofs.Frames.{put_other, put_there}
use Rattle.wit_lower.proofs.Pieces.{Zeroed}
use Rattle.wit_lower.proofs.Shows.{Held, Shows, KnownAt, Lies, lies}
use Rattle.wit_lower.proofs.Names.{same_name_is, apart}

pub stored_same : (store : Store) (n : ℕ) (d : Numbers) → n < length store
    → stored (slice_set store n d) n ≡ d
stored_same store n d h =
    unwrap_or-slice_get (slice_set store n d) n (single 0) ∙ get_or-set_same store n d (single 0) h

pub stored_other : (store : Store) (n m : ℕ) (d : Numbers) → (m ≡ n → ⊥)
    → stored (slice_set store n d) m ≡ stored store m
stored_other store n m d h =
    unwrap_or-slice_get (slice_set store n d) m (single 0) ∙
    get_or-set_other store n m d (single 0) h ∙ sym (unwrap_or-slice_get store m (single 0))

-- what is known may change with an assignment
abbrev pub behind : Ground → (Expr Meant → Option ℕ) → Ground
behind g after = record {
  keys = g.keys;
  known = after;
  called = g.called;
  components = g.components;
}

-- only the slots of one home, and free slots, have new numbers
pub record OnlyIn (h : Home) (top : ℕ) (f f' : List ℕ) : Type 0 where
  pub size : length f' ≡ length f
  pub under : (k : ℕ) → k < h.base → slice_index f' k ≡ slice_index f k
  pub over : (k : ℕ) → h.base + slots_of h.dims ≤ k → k < top → slice_index f' k ≡ slice_index f k

pub shows_set : (g : Ground) (after : Expr Meant → Option ℕ) (env : Environment) (homes : Homes)
    (store : Store) (top n : ℕ)
    (h : Home) (f f' : List ℕ) → AreLaid homes top → find (Variable n) homes ≡ Some h
    → n < length store → OnlyIn h top f f' → Shows g env homes store f
    → KnownAt (behind g after) env
    (slice_set store n record { dims = h.dims; items = row f' h.base (slots_of h.dims) })
    → Shows (behind g after) env homes
    (slice_set store n record { dims = h.dims; items = row f' h.base (slots_of h.dims) }) f'
shows_set g after env homes store top n h f f' l eh room only shows known = record {
  each = λ x j ex. each x j ex;
  outside = shows.outside;
  known = known;
  called = shows.called;
}
  where
    d : Numbers
    d = record { dims = h.dims; items = row f' h.base (slots_of h.dims) }

    stays : (x : Name) (j : Home) → find x homes ≡ Some j → (x ≡ Variable n → ⊥)
        → row f' j.base (slots_of j.dims) ≡ row f j.base (slots_of j.dims)
    stays x j ex other =
        let lj : Lies top j = lies homes top x j l ex in
        elim (apart homes top x (Variable n) j h l ex eh other) [
          | inl a ↦ row_from f f' j.base j.base (slots_of j.dims)
              (λ k lk. only.under (j.base + k) (omega (arith, a, lk)))
          | inr a ↦ row_from f f' j.base j.base (slots_of j.dims)
              (λ k lk. only.over (j.base + k) (omega (arith, a)) (omega (arith, lk, lj.below)))
        ]

    other_held : (x : Name) (j : Home) → find x homes ≡ Some j → (x ≡ Variable n → ⊥)
        → Held g.components env store x j.dims (row f' j.base (slots_of j.dims))
    other_held x j ex other =
        subst (Held g.components env store x j.dims) (sym (stays x j ex other)) (shows.each x j ex)

    each : (x : Name) (j : Home) → find x homes ≡ Some j
        → Held g.components env (slice_set store n d) x j.dims (row f' j.base (slots_of j.dims))
    each (Variable m) j ex =
        elim (cases_eq m n) [
          | inl e ↦
              let there : find (Variable n) homes ≡ Some j =
              subst (λ z. find (Variable z) homes ≡ Some j) e ex in
              let same : h ≡ j = cc in
              ap (stored (slice_set store n d)) e ∙ stored_same store n d room ∙
              ap (λ z. record { dims = z.dims; items = row f' z.base (slots_of z.dims) }) same
          | inr e ↦
              stored_other store n m d e ∙ other_held (Variable m) j ex
              (λ z. e (number_is z))
        ]
      where
        variable_in : Name → ℕ
        variable_in (Variable i) = i
        variable_in (Signal i) = 0
        variable_in (Port i w a) = 0

        number_is : Variable m ≡ Variable n → m ≡ n
        number_is z = ap variable_in z
    each (Signal m) j ex = other_held (Signal m) j ex (λ z. cc)
    each (Port m i a) j ex = other_held (Port m i a) j ex (λ z. cc)

-- new items in a part of a home's row
pub put_row : (f f' : List ℕ) (base N o m from : ℕ) → Copied f f' (base + o) from m → o + m ≤ N
    → put_items (numbers_from o m) (row f from m) (row f base N) ≡ row f' base N
put_row f f' base N o m from c le =
    ext_get_or 0 new (row f' base N)
    (put_length o m (row f from m) (row f base N) ∙ row_length f base N ∙
    sym (row_length f' base N))
    (λ i li. let l : i < N = omega (arith, li, size) in at i l ∙ sym (row_index f' base N i l))
  where
    new : List ℕ
    new = put_items (numbers_from o m) (row f from m) (row f base N)

    size : length new ≡ N
    size = put_length o m (row f from m) (row f base N) ∙ row_length f base N

    outside : (i : ℕ) → i < N → (i < o) ⊎ (o + m ≤ i)
        → slice_index f (base + i) ≡ slice_index f' (base + i)
        → slice_index new i ≡ slice_index f' (base + i)
    outside i l h e =
        put_other o m (row f from m) (row f base N) i h ∙ row_index f base N i l ∙ e

    inside : (i : ℕ) → i < N → o ≤ i → i < o + m → slice_index new i ≡ slice_index f' (base + i)
    inside i l a b =
        let k : ℕ = i - o in
        let lk : i - o < m = omega (arith, a, b) in
        let e : i ≡ o + (i - o) = omega (arith, a) in
        let e2 : base + o + (i - o) ≡ base + i = omega (arith, a) in
        ap (slice_index new) e ∙
        put_there o m (row f from m) (row f base N) (i - o) lk
        (omega (arith, lk, row_length f from m)) (omega (arith, le, row_length f base N)) ∙
        row_index f from m (i - o) lk ∙ sym (c.got (i - o) lk) ∙ ap (slice_index f') e2

    at : (i : ℕ) → i < N → slice_index new i ≡ slice_index f' (base + i)
    at i l = elim (cases_lt i o) [
      | inl a ↦ outside i l (inl a) (sym (c.under (base + i) (omega (arith, a))))
      | inr a ↦ elim (cases_lt i (o + m)) [
        | inl b ↦ inside i l a b
        | inr b ↦ outside i l (inr b) (sym (c.over (base + i) (omega (arith, b))))
      ]
    ]

-- a scope ends: the homes that it began with still show what they mean
pub shows_outer : (g : Ground) (env : Environment) (homes : Homes) (store : Store) (n : ℕ)
    (h : Home) (f : List ℕ) → find (Variable n) homes ≡ None
    → Shows g env (record { name = Variable n; home = h } ∷ homes) store f
    → Shows g env homes store f
shows_outer g env homes store n h f fresh shows = record {
  each = λ x j ex. shows.each x j (at x j ex (same_name x (Variable n)) refl);
  outside = shows.outside;
  known = shows.known;
  called = shows.called;
}
  where
    at : (x : Name) (j : Home) → find x homes ≡ Some j → (b : Bool)
        → same_name x (Variable n) ≡ b → cond (same_name x (Variable n)) (Some h) (find x homes)
        ≡ Some j
    at x j ex true e =
        let there : find (Variable n) homes ≡ Some j =
        subst (λ z. find z homes ≡ Some j) (same_name_is x (Variable n) e) ex in
        absurd (nothing (sym fresh ∙ there))
      where
        nothing : {A : Type 0} {a : A} → None ≡ Some a → ⊥
        nothing e = cc
    at x j ex false e = ap (λ b. cond b (Some h) (find x homes)) e ∙ ex

-- a scope begins: a new variable's slots are 0
pub shows_new : (g : Ground) (env : Environment) (s : Scope) (store : Store) (n : ℕ)
    (dims : List ℕ) (f f' : List ℕ) → AreLaid s.homes s.top → is_too_large dims ≡ false
    → n < length store → find (Variable n) s.homes ≡ None → Zeroed f f' s.top (slots_of dims)
    → Shows g env s.homes store f
    → KnownAt g env
    (slice_set store n record { dims = dims; items = row f' s.top (slots_of dims) })
    → Shows g env (with_variable n dims s).homes
    (slice_set store n record { dims = dims; items = row f' s.top (slots_of dims) }) f'
shows_new g env s store n dims f f' l small room fresh zeroed shows known = record {
  each = λ x j ex. each x j (same_name x (Variable n)) refl ex;
  outside = shows.outside;
  known = known;
  called = shows.called;
}
  where
    d : Numbers
    d = record { dims = dims; items = row f' s.top (slots_of dims) }

    old : (x : Name) (j : Home) → find x s.homes ≡ Some j
        → Held g.components env store x j.dims (row f' j.base (slots_of j.dims))
    old x j ex =
        subst (Held g.components env store x j.dims)
        (sym (row_below s.top f f' j.base (slots_of j.dims)
        record { size = zeroed.size; under = zeroed.under }
        (lies s.homes s.top x j l ex).below)) (shows.each x j ex)

    each : (x : Name) (j : Home) (b : Bool) → same_name x (Variable n) ≡ b
        → cond (same_name x (Variable n)) (Some record { base = s.top; dims = dims })
        (find x s.homes) ≡ Some j
        → Held g.components env (slice_set store n d) x j.dims (row f' j.base (slots_of j.dims))
    each (Variable m) j true eb ex =
        let e : m ≡ n = eqb-true m n eb in
        let there : Some record { base = s.top; dims = dims } ≡ Some j =
        ap (λ b. cond b (Some record { base = s.top; dims = dims })
        (find (Variable m) s.homes)) (sym eb) ∙ ex in
        let same : record { base = s.top; dims = dims } ≡ j = cc in
        ap (stored (slice_set store n d)) e ∙ stored_same store n d room ∙
        ap (λ z. record { dims = z.dims; items = row f' z.base (slots_of z.dims) }) same
    each (Signal m) j true eb ex = cc
    each (Port m i a) j true eb ex = cc
    each (Variable m) j false eb ex =
        let there : find (Variable m) s.homes ≡ Some j =
        ap (λ b. cond b (Some record { base = s.top; dims = dims })
        (find (Variable m) s.homes)) (sym eb) ∙ ex in
        stored_other store n m d (λ e. eqb-false m n eb e) ∙ old (Variable m) j there
    each (Signal m) j false eb ex = old (Signal m) j ex
    each (Port m i a) j false eb ex = old (Port m i a) j ex
