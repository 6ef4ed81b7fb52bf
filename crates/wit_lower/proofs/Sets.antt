-- Assignments and declarations do what they mean.
use Rattle.std.proofs.Common.{◌≡◌, ℕ, zero, suc, ◌+◌, ◌<◌, ◌≤◌, Bool, true, false, cond, List, []}
use Rattle.std.proofs.Common.{◌∷◌, ◌++◌, length, drop, Option, Some, refl, sym, ap, ap₂, subst, ◌∙◌}
use Rattle.std.proofs.Common.{arith, length-append, inl}
use Rattle.std.specs.Prelude.{slice_index, slice_set}
use Rattle.wit_code.specs.Table.{State}
use Rattle.cir_ast.specs.declared.program.Meant.{Meant}
use Rattle.cir_ast.specs.declared.program.Meant.TheVariants as meant
use Rattle.cir_ast.specs.Tree.{Expr, Accessors, done, index, member, Assign, Set, Compound, Left}
use Rattle.cir_ast.specs.Tree.{Increment, Decrement}
use Rattle.cir_meaning.specs.Tried.{next}
use Rattle.cir_meaning.specs.Places.{elements, numbers_from}
use Rattle.cir_meaning.specs.Limits.{is_too_large}
use Rattle.cir_meaning.specs.Arrays.{put_items}
use Rattle.cir_meaning.specs.Reached.{indices_count}
use Rattle.cir_meaning.specs.RunValues.{Ran, Numbers, Environment, Store, stored, gives, number_in}
use Rattle.cir_meaning.specs.RunValues.{index_numbers, bounded}
use Rattle.cir_meaning.specs.RunStatements.{step_set, step_plain}
use Rattle.wit_lower.specs.Homes.{Variable, Home, Homes, Scope, Ground, find, slots_of, row}
use Rattle.wit_lower.specs.Pieces.{Code, moves, stores, offset_code, write_code}
use Rattle.wit_lower.specs.Values.{shape_of, size_of, expr_code, indices_code}
use Rattle.wit_lower.specs.Statements.{set_code, plain_code}
use Rattle.wit_lower.specs.Fits.{AreLaid, IndicesFit, SetFits, PlainFits}
use Rattle.wit_lower.proofs.Does.{Setting, Does, does_next, does_same, does_weaker, gives as there}
use Rattle.wit_lower.proofs.Does.{HasAt, has_front, has_back}
use Rattle.wit_lower.proofs.Frames.{Below, below_itself, below_then, Copied, row_below, row_length}
use Rattle.wit_lower.proofs.Places.{checked, checked_fits}
use Rattle.wit_lower.proofs.Spots.{Spot, here, body_at, IsWide, at_state, at_place}
use Rattle.wit_lower.proofs.Pieces.{moves_go, stores_go, offset_does, Offset}
use Rattle.wit_lower.proofs.Shows.{Shows, KnownAt, Lies, lies, shows_below}
use Rattle.wit_lower.proofs.Parts.{Valued, bounded_is, few_elements, slots_are}
use Rattle.wit_lower.proofs.Operators.{number_does}
use Rattle.wit_lower.proofs.Exprs.{CallsRun, expr_does, row_snoc, below_less}
use Rattle.wit_lower.proofs.Scopes.{behind, OnlyIn, shows_set, put_row}

-- what is written past the end of the new items stays
put_nothing : (ks items : List ℕ) → put_items ks [] items ≡ items
put_nothing [] items = refl
put_nothing (k ∷ ks) items = refl

few_slots : (left : List ℕ) → slots_of left ≤ elements left
few_slots left = elim (is_too_large left) as (λ b. cond b 0 (elements left) ≤ elements left) [
  | true ↦ omega arith
  | false ↦ omega arith
]

-- a part of a home gets new items
put_part : (f f' : List ℕ) (base N o from : ℕ) (left : List ℕ)
    → Copied f f' (base + o) from (slots_of left) → o + elements left ≤ N
    → put_items (numbers_from o (elements left)) (row f from (slots_of left)) (row f base N)
    ≡ row f' base N
put_part f f' base N o from left c le = at (is_too_large left) c
  where
    at : (b : Bool) → Copied f f' (base + o) from (cond b 0 (elements left))
        → put_items (numbers_from o (elements left)) (row f from (cond b 0 (elements left)))
        (row f base N) ≡ row f' base N
    at true c = put_nothing (numbers_from o (elements left)) (row f base N) ∙
        put_row f f' base N o 0 from c (omega (arith, le))
    at false c = put_row f f' base N o (elements left) from c le

-- variables have new numbers, and the frame shows them
pub record Kept (fixed : Store → Type 0) (g : Ground) (env : Environment) (sp : Spot)
    (homes : Homes) (q : ℕ) (f : List ℕ) (u : ℕ) (x : Store × ℕ) (t : State) : Type 0 where
  pub slots : List ℕ
  pub is : t ≡ here sp q slots x.1
  pub shows : Shows g env homes x.0 slots
  pub stays : fixed x.0
  pub size : length slots ≡ length f
  pub less : x.1 ≤ u

module _ (k : Setting) (sp : Spot) (params : ℕ → ℕ) (width : ℕ)
    (wide : IsWide params width (body_at k sp)) (g : Ground) (after : Expr Meant → Option ℕ)
    (env : Environment) (calls : CallsRun k sp width g.keys env.call) (fixed : Store → Type 0)
    (free : ℕ → Type 0)
    (known : (store : Store) → fixed store → KnownAt (behind g after) env store)
    (stays : (store : Store) (n : ℕ) (d : Numbers) → free n → fixed store
    → fixed (slice_set store n d))
    (room : (store : Store) (n : ℕ) → free n → fixed store → n < length store) where
  -- the indices of a place that is written
  indices_do : {A : Type 0} (Q : A × ℕ → State → Type 0) (homes : Homes) (low : ℕ)
      (laid : AreLaid homes low) (store : Store) (go : List ℕ → ℕ → Ran A)
      (rest : Accessors Meant) (is : List ℕ) (first c slot p : ℕ) (f : List ℕ) (u : ℕ)
      → low ≤ first → slot ≡ first + c → length f ≡ width → is ≡ row f first c
      → Shows g env homes store f → IndicesFit g homes rest
      → HasAt (body_at k sp) p (indices_code g homes slot p rest)
      → ((f1 : List ℕ) (v : ℕ) → Below first f f1 → v ≤ u
      → Does k (here sp (p + length (indices_code g homes slot p rest)) f1 v)
      (go (row f1 first (c + indices_count rest)) v) Q)
      → Does k (here sp p f u) (index_numbers env store is rest u go) Q
  indices_do Q homes low laid store go done is first c slot p f u le es len row_is shows fits at
      on =
      let z : c + 0 ≡ c = omega arith in
      at_place k sp Q (p + 0) p f u (go is u) (omega arith)
      (subst (λ xs. Does k (here sp (p + 0) f u) (go xs u) Q)
      (ap (row f first) z ∙ sym row_is) (on f u (below_itself first f) (omega arith)))
  indices_do Q homes low laid store go (member name rest) is first c slot p f u le es len row_is
      shows fits at on = absurd fits
  indices_do Q homes low laid store go (index e rest) is first c slot p f u le es len row_is shows
      ((fe, se), fr) at on =
      let one : Code = expr_code g homes slot p e in
      let q : ℕ = p + length one in
      let two : Code = indices_code g homes (slot + 1) q rest in
      number_does k sp Q (here sp p f u) (number_in env store e u)
      (λ n v. index_numbers env store (is ++ n ∷ []) rest v go) slot q (shape_of g homes e) f u se
      (expr_does k sp params width wide g env homes low laid store calls e slot p f u
      (omega (arith, le, es)) len shows fe (has_front (body_at k sp) p one two at))
      (λ f1 v b le1 told.
      let n : ℕ = slice_index f1 slot in
      let more : c + 1 + indices_count rest ≡ c + (1 + indices_count rest) = omega arith in
      indices_do Q homes low laid store go rest (is ++ n ∷ []) first (c + 1) (slot + 1) q f1 v le
      (omega (arith, es)) (b.size ∙ len)
      (ap₂ (λ xs y. xs ++ slice_index f1 y ∷ [])
      (row_is ∙ sym (row_below slot f f1 first c b (omega (arith, es)))) es ∙
      sym (row_snoc f1 first c))
      (shows_below g env homes store low f f1 laid
      (below_less low slot f f1 (omega (arith, le, es)) b) shows) fr
      (has_back (body_at k sp) p one two at)
      (λ f2 w b2 le2.
      at_place k sp Q (p + length (one ++ two)) (q + length two) f2 w _
      (omega (arith, length-append one two))
      (subst (λ i. Does k (here sp (p + length (one ++ two)) f2 w) (go (row f2 first i) w) Q)
      (sym more)
      (on f2 w (below_then first first f f1 f2 (omega arith)
      (below_less first slot f f1 (omega (arith, es)) b) b2) (omega (arith, le1, le2))))))

  -- the write into a home
  written_does : (homes : Homes) (low : ℕ) (laid : AreLaid homes low) (store : Store) (n : ℕ)
      (h : Home) (p : ℕ) (f f1 : List ℕ) (u : ℕ) → find (Variable n) homes ≡ Some h → free n
      → fixed store → Shows g env homes store f → OnlyIn h low f f1
      → Does k (here sp p f1 u)
      (gives (slice_set store n record { dims = h.dims; items = row f1 h.base (slots_of h.dims) })
      u) (Kept fixed (behind g after) env sp homes p f u)
  written_does homes low laid store n h p f f1 u found may fix shows only =
      let d : Numbers = record { dims = h.dims; items = row f1 h.base (slots_of h.dims) } in
      let fix1 : fixed (slice_set store n d) = stays store n d may fix in
      there k (Kept fixed (behind g after) env sp homes p f u) (here sp p f1 u)
      (slice_set store n d, u) record {
        slots = f1;
        is = refl;
        shows = shows_set g after env homes store low n h f f1 laid found (room store n may fix)
            only shows (known (slice_set store n d) fix1);
        stays = fix1;
        size = only.size;
        less = omega arith;
      }

  write_does : (homes : Homes) (low : ℕ) (laid : AreLaid homes low) (store : Store) (n : ℕ)
      (h : Home) (count s from p : ℕ) (f : List ℕ) (u : ℕ) → find (Variable n) homes ≡ Some h
      → free n → fixed store → Shows g env homes store f → length f ≡ width
      → count ≤ length h.dims → low ≤ from → from + slots_of (drop count h.dims) ≤ s
      → HasAt (body_at k sp) p (write_code (Some h) s count from (slots_of (drop count h.dims)))
      → Does k (here sp p f u) (bounded h.dims (row f s count)
      (λ left places. gives (slice_set store n record {
        dims = h.dims;
        items = put_items places (row f from (slots_of (drop count h.dims)))
            (row f h.base (slots_of h.dims));
      }) u))
      (Kept fixed (behind g after) env sp homes
      (p + length (write_code (Some h) s count from (slots_of (drop count h.dims)))) f u)
  write_does homes low laid store n h zero s from p f u found may fix shows len le below before at =
      let l : Lies low h = lies homes low (Variable n) h laid found in
      let size : ℕ = slots_of h.dims in
      let end : ℕ = p + length (moves h.base from size) in
      let z : h.base ≡ h.base + 0 = omega arith in
      let vs : List ℕ = row f from size in
      let old : List ℕ = row f h.base size in
      moves_go k sp params width wide (Kept fixed (behind g after) env sp homes end f u)
      (gives (slice_set store n record {
        dims = h.dims;
        items = put_items (numbers_from 0 (elements h.dims)) vs old;
      }) u) h.base from size p f u len at (inl (omega (arith, l.below, below)))
      (λ f1 c.
      let new : put_items (numbers_from 0 (elements h.dims)) vs old ≡ row f1 h.base size =
      put_part f f1 h.base size 0 from h.dims (subst (λ b. Copied f f1 b from size) z c)
      (omega (arith, slots_are h.dims l.fits)) in
      subst (λ xs. Does k (here sp end f1 u)
      (gives (slice_set store n record { dims = h.dims; items = xs }) u)
      (Kept fixed (behind g after) env sp homes end f u)) (sym new)
      (written_does homes low laid store n h end f f1 u found may fix shows record {
        size = c.size;
        under = c.under;
        over = λ i a b. c.over i a;
      }))
  write_does homes low laid store n h (suc c) s from p f u found may fix shows len le below before
      at =
      let l : Lies low h = lies homes low (Variable n) h laid found in
      let left : List ℕ = drop (suc c) h.dims in
      let size : ℕ = slots_of left in
      let N : ℕ = slots_of h.dims in
      let first : Code = offset_code s h.dims c in
      let second : Code = stores h.base s from size in
      let end : ℕ = p + length (first ++ second) in
      let is : List ℕ = row f s (suc c) in
      let rank : length is ≡ suc c = row_length f s (suc c) in
      let vs : List ℕ = row f from size in
      let old : List ℕ = row f h.base N in
      let Q : (Store × ℕ → State → Type 0) = Kept fixed (behind g after) env sp homes end f u in
      let go : (List ℕ → List ℕ → Ran Store) = λ rest places.
      gives (slice_set store n record { dims = h.dims; items = put_items places vs old }) u in
      does_same k Q (here sp p f u)
      (next (checked h.dims is) (λ o. go left (numbers_from o (elements left))))
      (bounded h.dims is go)
      (ap (λ i. next (checked h.dims is) (λ o. go (drop i h.dims)
      (numbers_from o (elements (drop i h.dims))))) (sym rank) ∙
      bounded_is h.dims is go (omega (arith, rank, le)))
      (does_next k (Offset sp s (p + length first) f u) Q (here sp p f u) (checked h.dims is)
      (λ o. go left (numbers_from o (elements left)))
      (offset_does k sp params width wide h.dims c s p f u len (omega (arith, le))
      (few_elements h.dims l.fits) (has_front (body_at k sp) p first second at))
      (λ o t e x.
      let inside : o + elements left ≤ elements h.dims =
      subst (λ i. o + elements (drop i h.dims) ≤ elements h.dims) rank
      (checked_fits h.dims is o (omega (arith, rank, le)) e) in
      let few : size ≤ elements left = few_slots left in
      let in_home : h.base + o + size ≤ low =
      omega (arith, few, inside, slots_are h.dims l.fits, l.below) in
      let f1 : List ℕ = x.slots in
      let b1 : Below low f f1 = below_less low s f f1 (omega (arith, below, before)) x.same in
      let vs1 : row f1 from size ≡ vs = row_below s f f1 from size x.same (omega (arith, before)) in
      let old1 : row f1 h.base N ≡ old = row_below low f f1 h.base N b1 l.below in
      at_state k Q (here sp (p + length first) f1 u) t (go left (numbers_from o (elements left)))
      x.is
      (stores_go k sp params width wide Q (go left (numbers_from o (elements left))) h.base s from o
      size (p + length first) f1 u (x.same.size ∙ len) (has_back (body_at k sp) p first second at)
      x.value (omega (arith, in_home, below)) (omega (arith, in_home, below, before))
      (λ f2 cp.
      let new : put_items (numbers_from o (elements left)) vs old ≡ row f2 h.base N =
      ap₂ (λ y z. put_items (numbers_from o (elements left)) y z) (sym vs1) (sym old1) ∙
      put_part f1 f2 h.base N o from left cp
      (omega (arith, inside, slots_are h.dims l.fits)) in
      let on : p + length first + length second ≡ end =
      omega (arith, length-append first second) in
      at_place k sp Q end (p + length first + length second) f2 u
      (go left (numbers_from o (elements left))) (sym on)
      (subst (λ xs. Does k (here sp end f2 u)
      (gives (slice_set store n record { dims = h.dims; items = xs }) u) Q) (sym new)
      (written_does homes low laid store n h end f f2 u found may fix shows record {
        size = cp.size ∙ x.same.size;
        under = λ i a. cp.under i (omega (arith, a)) ∙
            x.same.under i (omega (arith, a, l.below, below, before));
        over = λ i a b. cp.over i (omega (arith, a, few, inside, slots_are h.dims l.fits)) ∙
            x.same.under i (omega (arith, b, below, before));
      }))))))

  pub set_does : (s : Scope) (laid : AreLaid s.homes s.top) (store : Store) (n : ℕ)
      (accessors : Accessors Meant) (e : Expr Meant) (p : ℕ) (f : List ℕ) (u : ℕ)
      → SetFits free g s.homes n accessors e → fixed store → Shows g env s.homes store f
      → length f ≡ width
      → HasAt (body_at k sp) p (set_code g s p (meant.Variable n) accessors e)
      → Does k (here sp p f u) (step_set env (meant.Variable n) accessors e store u)
      (Kept fixed (behind g after) env sp s.homes
      (p + length (set_code g s p (meant.Variable n) accessors e)) f u)
  set_does s laid store n accessors e p f u fits fix shows len at =
      does_next k (Valued sp s.top q1 dims f u) Q (here sp p f u) (number_in env store e u) go
      (expr_does k sp params width wide g env s.homes s.top laid store calls e s.top p f u
      (omega arith) len shows fits.value (has_front (body_at k sp) p one _ at))
      (λ x t em v. at_state k Q (here sp q1 v.slots x.1) t (go x) v.is
      (indices_do Q s.homes s.top laid store (last x.0) accessors [] (s.top + size) 0
      (s.top + size) q1 v.slots x.1 (omega arith) (omega arith) (v.same.size ∙ len) refl
      (shows_below g env s.homes store s.top f v.slots laid v.same shows) fits.indices
      (has_front (body_at k sp) q1 two _ (has_back (body_at k sp) p one _ at))
      (λ f2 w b le2.
      let b2 : Below s.top f f2 = below_then s.top (s.top + size) f v.slots f2 (omega arith) v.same
      b in
      let shows2 : Shows g env s.homes store f2 =
      shows_below g env s.homes store s.top f f2 laid b2 shows in
      let held : stored store n
      ≡ record { dims = h.dims; items = row f2 h.base (slots_of h.dims) } =
      shows2.each (Variable n) h fits.found in
      let d_is : x.0.items ≡ row f2 s.top size =
      ap (λ z. z.items) v.value ∙
      sym (row_below (s.top + size) v.slots f2 s.top size b (omega arith)) in
      let sizes : size ≡ slots_of (drop count h.dims) = ap slots_of fits.shape in
      let z : 0 + count ≡ count = omega arith in
      finish x w f2 (omega (arith, v.less, le2)) b2 shows2 held d_is sizes z)))
    where
      h : Home
      h = fits.home

      count : ℕ
      count = indices_count accessors

      dims : List ℕ
      dims = shape_of g s.homes e

      size : ℕ
      size = size_of g s.homes e

      one : Code
      one = expr_code g s.homes s.top p e

      q1 : ℕ
      q1 = p + length one

      two : Code
      two = indices_code g s.homes (s.top + size) q1 accessors

      q2 : ℕ
      q2 = q1 + length two

      three : Code
      three = write_code (find (Variable n) s.homes) (s.top + size) count s.top size

      end : ℕ
      end = p + length (one ++ (two ++ three))

      Q : Store × ℕ → State → Type 0
      Q = Kept fixed (behind g after) env sp s.homes end f u

      last : Numbers → List ℕ → ℕ → Ran Store
      last d is w =
          bounded (stored store n).dims is (λ left places. gives (slice_set store n record {
            dims = (stored store n).dims;
            items = put_items places d.items (stored store n).items;
          }) w)

      go : Numbers × ℕ → Ran Store
      go x = index_numbers env store [] accessors x.1 (last x.0)

      there_at : HasAt (body_at k sp) q2
          (write_code (Some h) (s.top + size) count s.top size)
      there_at =
          subst (λ o. HasAt (body_at k sp) q2 (write_code o (s.top + size) count s.top size))
          fits.found (has_back (body_at k sp) q1 two three (has_back (body_at k sp) p one _ at))

      long : q2 + length (write_code (Some h) (s.top + size) count s.top size) ≡ end
      long =
          ap (λ o. q2 + length (write_code o (s.top + size) count s.top size)) (sym fits.found) ∙
          omega (arith, length-append one (two ++ three), length-append two three)

      finish : (x : Numbers × ℕ) (w : ℕ) (f2 : List ℕ) → w ≤ u → Below s.top f f2
          → Shows g env s.homes store f2
          → stored store n ≡ record { dims = h.dims; items = row f2 h.base (slots_of h.dims) }
          → x.0.items ≡ row f2 s.top size → size ≡ slots_of (drop count h.dims)
          → 0 + count ≡ count
          → Does k (here sp q2 f2 w) (last x.0 (row f2 (s.top + size) (0 + count)) w) Q
      finish x w f2 le b2 shows2 held d_is sizes z =
          does_same k Q (here sp q2 f2 w)
          (write_goes f2 w (row f2 s.top size) (row f2 (s.top + size) count))
          (last x.0 (row f2 (s.top + size) (0 + count)) w)
          (ap₂ (λ ys old. bounded old.dims (row f2 (s.top + size) count)
          (λ left places. gives (slice_set store n record {
            dims = old.dims;
            items = put_items places ys old.items;
          }) w)) (sym d_is) (sym held) ∙
          ap (λ i. last x.0 (row f2 (s.top + size) i) w) (sym z))
          (does_weaker k (Kept fixed (behind g after) env sp s.homes
          (q2 + length (write_code (Some h) (s.top + size) count s.top size)) f2 w) Q
          (here sp q2 f2 w) (write_goes f2 w (row f2 s.top size) (row f2 (s.top + size) count))
          (subst (λ m. s.top + m ≤ s.top + size
          → HasAt (body_at k sp) q2 (write_code (Some h) (s.top + size) count s.top m)
          → Does k (here sp q2 f2 w)
          (write_goes f2 w (row f2 s.top m) (row f2 (s.top + size) count))
          (Kept fixed (behind g after) env sp s.homes
          (q2 + length (write_code (Some h) (s.top + size) count s.top m)) f2 w)) (sym sizes)
          (λ fit at'. write_does s.homes s.top laid store n h count (s.top + size) s.top q2 f2 w
          fits.found fits.may fix shows2 (b2.size ∙ len) fits.rank (omega arith) fit at')
          (omega arith) there_at)
          (λ a t y. record {
            slots = y.slots;
            is = y.is ∙ ap (λ i. here sp i y.slots a.1) long;
            shows = y.shows;
            stays = y.stays;
            size = y.size ∙ b2.size;
            less = omega (arith, y.less, le);
          }))
        where
          write_goes : List ℕ → ℕ → List ℕ → List ℕ → Ran Store
          write_goes f2 w ys is =
              bounded h.dims is (λ left places. gives (slice_set store n record {
                dims = h.dims;
                items = put_items places ys (row f2 h.base (slots_of h.dims));
              }) w)

  pub plain_does : (s : Scope) (laid : AreLaid s.homes s.top) (a : Assign Meant) (store : Store)
      (p : ℕ) (f : List ℕ) (u : ℕ) → PlainFits free g s.homes a → fixed store
      → Shows g env s.homes store f → length f ≡ width
      → HasAt (body_at k sp) p (plain_code g s p a)
      → Does k (here sp p f u) (step_plain env a store u)
      (Kept fixed (behind g after) env sp s.homes (p + length (plain_code g s p a)) f u)
  plain_does s laid (Set name (meant.Variable n) accessors e) store p f u fits fix shows len at =
      set_does s laid store n accessors e p f u fits fix shows len at
  plain_does s laid (Set name meant.Other accessors e) store p f u fits fix shows len at =
      absurd fits
  plain_does s laid (Set name (meant.Signal d n) accessors e) store p f u fits fix shows len at =
      absurd fits
  plain_does s laid (Set name (meant.Component n) accessors e) store p f u fits fix shows len at =
      absurd fits
  plain_does s laid (Set name (meant.Template n) accessors e) store p f u fits fix shows len at =
      absurd fits
  plain_does s laid (Set name (meant.Function n) accessors e) store p f u fits fix shows len at =
      absurd fits
  plain_does s laid (Compound name m accessors o e) store p f u fits fix shows len at = absurd fits
  plain_does s laid (Left name m accessors arrow e) store p f u fits fix shows len at = absurd fits
  plain_does s laid (Increment name m accessors) store p f u fits fix shows len at = absurd fits
  plain_does s laid (Decrement name m accessors) store p f u fits fix shows len at = absurd fits
