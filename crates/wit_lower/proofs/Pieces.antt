-- What the pieces of code do that copy numbers, test indices and find places.
use Rattle.std.proofs.Common.{◌≡◌, ℕ, zero, suc, ◌+◌, ◌*◌, ◌%◌, ◌<◌, ◌≤◌, max, Bool, true, false}
use Rattle.std.proofs.Common.{cond, List, [], ◌∷◌, length, map, Some, Result, Ok, Err, refl, sym}
use Rattle.std.proofs.Common.{ap, ap₂, subst, ◌∙◌, arith, length-set, length-append, inl, inr, ◌⊎◌}
use Rattle.std.proofs.Common.{mod-eq_of_lt, mul-le-mul_right, suc-mul, mul-one}
use Rattle.std.specs.Prelude.{All, slice_index, slice_set, nat_lt, ◌==◌, ◌&&◌}
use Rattle.std.proofs.lemmas.Bool.{cases_lt, ltb-true, lt-ltb, eqb-true}
use Rattle.gold_field.specs.declared.gold.TheConstants.{P}
use Rattle.gold_field.specs.declared.operators.Op2.TheVariants as op2
use Rattle.wit_code.specs.declared.code.Op.{Op}
use Rattle.wit_code.specs.declared.code.Op.TheVariants as op
use Rattle.wit_code.specs.declared.code.Stop.TheVariants.{IndexOut}
use Rattle.wit_code.specs.Table.{State, Goes, unless, put}
use Rattle.cir_meaning.specs.Tried.{next}
use Rattle.cir_meaning.specs.Places.{elements, is_inside}
use Rattle.cir_meaning.specs.RunValues.{index_out}
use Rattle.wit_lower.specs.Homes.{row}
use Rattle.wit_lower.specs.Pieces.{turned, moves, loads, stores, zeros, constants, bounds}
use Rattle.wit_lower.specs.Pieces.{offset_code}
use Rattle.wit_lower.proofs.Does.{Setting, Does, does_need, does_next, does_same, gives, HasAt}
use Rattle.wit_lower.proofs.Does.{has_front, has_back}
use Rattle.wit_lower.proofs.Frames.{set_same, set_other, Below, below_itself, below_then, below_set}
use Rattle.wit_lower.proofs.Frames.{Copied, copied_none, row_length}
use Rattle.wit_lower.proofs.Places.{checked, checked_fits}
use Rattle.wit_lower.proofs.Spots.{Spot, here, body_at, IsWide, step_at, op_goes, at_place}
use Rattle.wit_lower.proofs.Spots.{at_state}

-- the last of a row is copied first
copied_more : (f g : List ℕ) (to from n : ℕ) → to + n < length f
    → Copied (slice_set f (to + n) (slice_index f (from + n))) g to from n
    → (to + suc n ≤ from) ⊎ (from + suc n ≤ to) → Copied f g to from (suc n)
copied_more f g to from n within c apart = record {
  size = c.size ∙ length-set f (to + n) (slice_index f (from + n));
  got = λ k h. elim (cases_lt k n) [
    | inl l ↦ c.got k l ∙ set_other f (to + n) (from + k) _ (other k l apart)
    | inr l ↦ last k (omega (arith, h, l))
  ];
  under = λ k h. c.under k h ∙ set_other f (to + n) k _ (λ e. absurd (omega (arith, h, e)));
  over = λ k h. c.over k (omega (arith, h)) ∙
      set_other f (to + n) k _ (λ e. absurd (omega (arith, h, e)));
}
  where
    other : (k : ℕ) → k < n → (to + suc n ≤ from) ⊎ (from + suc n ≤ to) → from + k ≡ to + n → ⊥
    other k l (inl a) e = absurd (omega (arith, l, a, e))
    other k l (inr a) e = absurd (omega (arith, l, a, e))

    last : (k : ℕ) → k ≡ n → slice_index g (to + k) ≡ slice_index f (from + k)
    last k e =
        let en : n ≡ k = sym e in
        subst (λ x. slice_index g (to + x) ≡ slice_index f (from + x)) en
        (c.over (to + n) (omega arith) ∙ set_same f (to + n) _ within)

-- the first of a row is copied first
copied_first : (f g : List ℕ) (to from n : ℕ) → to < length f → to + suc n ≤ from
    → Copied (slice_set f to (slice_index f from)) g (to + 1) (from + 1) n
    → Copied f g to from (suc n)
copied_first f g to from n within apart c = record {
  size = c.size ∙ length-set f to (slice_index f from);
  got = got;
  under = λ k h. c.under k (omega (arith, h)) ∙
      set_other f to k _ (λ e. absurd (omega (arith, h, e)));
  over = λ k h. c.over k (omega (arith, h)) ∙
      set_other f to k _ (λ e. absurd (omega (arith, h, e)));
}
  where
    got : (k : ℕ) → k < suc n → slice_index g (to + k) ≡ slice_index f (from + k)
    got zero h =
        let a : to + 0 ≡ to = omega arith in
        let b : from ≡ from + 0 = omega arith in
        ap (slice_index g) a ∙ c.under to (omega arith) ∙ set_same f to _ within ∙
        ap (slice_index f) b
    got (suc k) h =
        let a : to + suc k ≡ to + 1 + k = omega arith in
        let b : from + 1 + k ≡ from + suc k = omega arith in
        ap (slice_index g) a ∙ c.got k (omega (arith, h)) ∙
        set_other f to (from + 1 + k) _ (λ e. absurd (omega (arith, apart, e))) ∙
        ap (slice_index f) b

-- slots in a row are 0
pub record Zeroed (f g : List ℕ) (to n : ℕ) : Type 0 where
  pub size : length g ≡ length f
  pub got : (k : ℕ) → k < n → slice_index g (to + k) ≡ 0
  pub under : (k : ℕ) → k < to → slice_index g k ≡ slice_index f k

zeroed_first : (f g : List ℕ) (to n : ℕ) → to < length f → Zeroed (slice_set f to 0) g (to + 1) n
    → Zeroed f g to (suc n)
zeroed_first f g to n within c = record {
  size = c.size ∙ length-set f to 0;
  got = got;
  under = λ k h. c.under k (omega (arith, h)) ∙
      set_other f to k _ (λ e. absurd (omega (arith, h, e)));
}
  where
    got : (k : ℕ) → k < suc n → slice_index g (to + k) ≡ 0
    got zero h =
        let a : to + 0 ≡ to = omega arith in
        ap (slice_index g) a ∙ c.under to (omega arith) ∙ set_same f to 0 within
    got (suc k) h =
        let a : to + suc k ≡ to + 1 + k = omega arith in
        ap (slice_index g) a ∙ c.got k (omega (arith, h))

-- numbers that are given stand in a row of slots
pub record Given (f g : List ℕ) (to : ℕ) (ns : List ℕ) : Type 0 where
  pub size : length g ≡ length f
  pub row_is : row g to (length ns) ≡ ns
  pub under : (k : ℕ) → k < to → slice_index g k ≡ slice_index f k

given_first : (f g : List ℕ) (to n : ℕ) (ns : List ℕ) → to < length f
    → Given (slice_set f to n) g (to + 1) ns → Given f g to (n ∷ ns)
given_first f g to n ns within c = record {
  size = c.size ∙ length-set f to n;
  row_is = ap₂ (λ x xs. x ∷ xs) (c.under to (omega arith) ∙ set_same f to n within) c.row_is;
  under = λ k h. c.under k (omega (arith, h)) ∙
      set_other f to k _ (λ e. absurd (omega (arith, h, e)));
}

-- the place of an element stands in slot `s`
pub record Offset (sp : Spot) (s q : ℕ) (f : List ℕ) (u o : ℕ) (t : State) : Type 0 where
  pub slots : List ℕ
  pub is : t ≡ here sp q slots u
  pub same : Below s f slots
  pub value : slice_index slots s ≡ o

and_cond : {A : Type 0} (a b : Bool) (m e : A) → cond a (cond b m e) e ≡ cond (a && b) m e
and_cond true b m e = refl
and_cond false b m e = refl

-- numbers of a row that indices mean are below the array's size
rows_below : (i d m b : ℕ) → i < d → d * m < b → i * m + m < b
rows_below i d m b l h =
    let rows : suc i * m ≤ d * m = mul-le-mul_right m l in
    let more : suc i * m ≡ i * m + m = suc-mul i m in
    omega (arith, h, rows, more)

module _ (k : Setting) (sp : Spot) (params : ℕ → ℕ) (width : ℕ)
    (wide : IsWide params width (body_at k sp)) where
  body : List Op
  body = body_at k sp

  module _ {A : Type 0} (Q : A → State → Type 0) (m : Result A ℕ) where
    pub moves_go : (to from n p : ℕ) (f : List ℕ) (u : ℕ) → length f ≡ width
        → HasAt (body_at k sp) p (moves to from n) → (to + n ≤ from) ⊎ (from + n ≤ to)
        → ((g : List ℕ) → Copied f g to from n
        → Does k (here sp (p + length (moves to from n)) g u) m Q)
        → Does k (here sp p f u) m Q
    moves_go to from zero p f u len h apart go =
        at_place k sp Q (p + 0) p f u m (omega arith) (go f (copied_none f to from))
    moves_go to from (suc n) p f u len (e, h) apart go =
        let room : max (to + n) (from + n) + 1 ≤ width = wide p (op.Move (to + n) (from + n)) e in
        let f1 : List ℕ = slice_set f (to + n) (slice_index f (from + n)) in
        op_goes k sp Q p f u (op.Move (to + n) (from + n)) (here sp (p + 1) f1 u) m e refl
        (moves_go to from n (p + 1) f1 u (length-set f (to + n) _ ∙ len) h (closer apart)
        (λ g c. at_place k sp Q (p + suc (length (moves to from n))) _ g u m (omega arith)
        (go g (copied_more f g to from n (omega (arith, room, len)) c apart))))
      where
        closer : (to + suc n ≤ from) ⊎ (from + suc n ≤ to) → (to + n ≤ from) ⊎ (from + n ≤ to)
        closer (inl a) = inl (omega (arith, a))
        closer (inr a) = inr (omega (arith, a))

    pub loads_go : (to base off n p : ℕ) (f : List ℕ) (u : ℕ) → length f ≡ width
        → HasAt (body_at k sp) p (loads to base n) → (0 < n → slice_index f to ≡ off)
        → base + off + n ≤ to
        → ((g : List ℕ) → Copied f g to (base + off) n
        → Does k (here sp (p + length (loads to base n)) g u) m Q)
        → Does k (here sp p f u) m Q
    loads_go to base off zero p f u len h at within go =
        at_place k sp Q (p + 0) p f u m (omega arith) (go f (copied_none f to (base + off)))
    loads_go to base off (suc n) p f u len (e, h) at within go =
        let room : max (to + n) to + 1 ≤ width = wide p (op.Load (to + n) (base + n) to) e in
        let there : base + n + slice_index f to ≡ base + off + n =
        omega (arith, at (omega arith)) in
        let inside : nat_lt (base + off + n) (length f) ≡ true =
        lt-ltb (base + off + n) (length f) (omega (arith, room, len, within)) in
        let f1 : List ℕ = slice_set f (to + n) (slice_index f (base + off + n)) in
        op_goes k sp Q p f u (op.Load (to + n) (base + n) to) (here sp (p + 1) f1 u) m e
        (ap (λ x. unless IndexOut (nat_lt x (length f))
        (put (to + n) (slice_index f x) (here sp p f u))) there ∙
        ap (λ b. unless IndexOut b (put (to + n) (slice_index f (base + off + n))
        (here sp p f u))) inside)
        (loads_go to base off n (p + 1) f1 u (length-set f (to + n) _ ∙ len) h
        (λ l. set_other f (to + n) to _ (λ x. absurd (omega (arith, l, x))) ∙ at (omega arith))
        (omega (arith, within))
        (λ g c. at_place k sp Q (p + suc (length (loads to base n))) _ g u m (omega arith)
        (go g (copied_more f g to (base + off) n (omega (arith, room, len)) c
        (inr (omega (arith, within)))))))

    pub stores_go : (base s from off n p : ℕ) (f : List ℕ) (u : ℕ) → length f ≡ width
        → HasAt (body_at k sp) p (stores base s from n) → slice_index f s ≡ off
        → base + off + n ≤ from → base + off + n ≤ s
        → ((g : List ℕ) → Copied f g (base + off) from n
        → Does k (here sp (p + length (stores base s from n)) g u) m Q)
        → Does k (here sp p f u) m Q
    stores_go base s from off zero p f u len h at within below go =
        at_place k sp Q (p + 0) p f u m (omega arith) (go f (copied_none f (base + off) from))
    stores_go base s from off (suc n) p f u len (e, h) at within below go =
        let room : max s from + 1 ≤ width = wide p (op.Store base s from) e in
        let there : base + slice_index f s ≡ base + off = omega (arith, at) in
        let inside : nat_lt (base + off) (length f) ≡ true =
        lt-ltb (base + off) (length f) (omega (arith, room, len, within)) in
        let f1 : List ℕ = slice_set f (base + off) (slice_index f from) in
        let on : base + 1 + off ≡ base + off + 1 = omega arith in
        op_goes k sp Q p f u (op.Store base s from) (here sp (p + 1) f1 u) m e
        (ap (λ x. unless IndexOut (nat_lt x (length f))
        (put x (slice_index f from) (here sp p f u))) there ∙
        ap (λ b. unless IndexOut b (put (base + off) (slice_index f from) (here sp p f u))) inside)
        (stores_go (base + 1) s (from + 1) off n (p + 1) f1 u (length-set f (base + off) _ ∙ len) h
        (set_other f (base + off) s _ (λ x. absurd (omega (arith, below, x))) ∙ at)
        (omega (arith, within)) (omega (arith, below))
        (λ g c. at_place k sp Q (p + suc (length (stores (base + 1) s (from + 1) n))) _ g u m
        (omega arith)
        (go g (copied_first f g (base + off) from n (omega (arith, room, len, within))
        (omega (arith, within)) (subst (λ x. Copied f1 g x (from + 1) n) on c)))))

    pub zeros_go : (to n p : ℕ) (f : List ℕ) (u : ℕ) → length f ≡ width
        → HasAt (body_at k sp) p (zeros to n)
        → ((g : List ℕ) → Zeroed f g to n → Does k (here sp (p + length (zeros to n)) g u) m Q)
        → Does k (here sp p f u) m Q
    zeros_go to zero p f u len h go =
        at_place k sp Q (p + 0) p f u m (omega arith) (go f record {
          size = refl;
          got = λ x l. absurd (omega (arith, l));
          under = λ x l. refl;
        })
    zeros_go to (suc n) p f u len (e, h) go =
        let room : to + 1 ≤ width = wide p (op.Const to 0) e in
        op_goes k sp Q p f u (op.Const to 0) (here sp (p + 1) (slice_set f to 0) u) m e refl
        (zeros_go (to + 1) n (p + 1) (slice_set f to 0) u (length-set f to 0 ∙ len) h
        (λ g c. at_place k sp Q (p + suc (length (zeros (to + 1) n))) _ g u m (omega arith)
        (go g (zeroed_first f g to n (omega (arith, room, len)) c))))

    pub constants_go : (ns : List ℕ) (to p : ℕ) (f : List ℕ) (u : ℕ) → length f ≡ width
        → All (λ n. n < P) ns → HasAt (body_at k sp) p (constants to ns)
        → ((g : List ℕ) → Given f g to ns
        → Does k (here sp (p + length (constants to ns)) g u) m Q)
        → Does k (here sp p f u) m Q
    constants_go [] to p f u len less h go =
        at_place k sp Q (p + 0) p f u m (omega arith) (go f record {
          size = refl;
          row_is = refl;
          under = λ x l. refl;
        })
    constants_go (n ∷ ns) to p f u len less (e, h) go =
        let room : to + 1 ≤ width = wide p (op.Const to (n % P)) e in
        let small : n < P = less 0 0 (omega arith) in
        let is : n % P ≡ n = mod-eq_of_lt small in
        let rest : All (λ n. n < P) ns = λ k d l. less (suc k) d (omega (arith, l)) in
        op_goes k sp Q p f u (op.Const to (n % P)) (here sp (p + 1) (slice_set f to n) u) m e
        (ap (λ v. Goes (here sp (p + 1) (slice_set f to v) u)) is)
        (constants_go ns (to + 1) (p + 1) (slice_set f to n) u (length-set f to n ∙ len) rest h
        (λ g c. at_place k sp Q (p + suc (length (constants (to + 1) ns))) _ g u m (omega arith)
        (go g (given_first f g to n ns (omega (arith, room, len)) c))))

    pub bounds_do : (dims : List ℕ) (n s p : ℕ) (f : List ℕ) (u : ℕ)
        → HasAt (body_at k sp) p (bounds s dims n)
        → (is_inside dims (map Some (row f s n)) ≡ true
        → Does k (here sp (p + length (bounds s dims n)) f u) m Q)
        → Does k (here sp p f u)
        (cond (is_inside dims (map Some (row f s n))) m (Err index_out)) Q
    bounds_do [] zero s p f u h go = at_place k sp Q (p + 0) p f u m (omega arith) (go refl)
    bounds_do [] (suc n) s p f u h go = at_place k sp Q (p + 0) p f u m (omega arith) (go refl)
    bounds_do (d ∷ ds) zero s p f u h go =
        at_place k sp Q (p + 0) p f u m (omega arith) (go refl)
    bounds_do (d ∷ ds) (suc n) s p f u (e, h) go =
        let first : Bool = nat_lt (slice_index f s) d in
        let rest : Bool = is_inside ds (map Some (row f (s + 1) n)) in
        does_same k Q (here sp p f u) (cond first (cond rest m (Err index_out)) (Err index_out))
        (cond (first && rest) m (Err index_out)) (and_cond first rest m (Err index_out))
        (does_need k Q first IndexOut index_out (here sp p f u) (here sp (p + 1) f u)
        (cond rest m (Err index_out)) (step_at k sp p f u (op.Bound s d) e) refl
        (λ l. bounds_do ds n (s + 1) (p + 1) f u h
        (λ r. at_place k sp Q (p + suc (length (bounds (s + 1) ds n))) _ f u m (omega arith)
        (go (ap₂ (λ x y. x && y) l r)))))

  -- the last index counts rows
  scaled_does : (b : Bool) (E s p i d : ℕ) (f : List ℕ) (u : ℕ) → length f ≡ width
      → (E == 1) ≡ b → i < d → d * E < P → slice_index f s ≡ i
      → HasAt (body_at k sp) p (cond b [] (op.Const (s + 1) (E % P) ∷
      op.Bin op2.Mul s s (s + 1) ∷ []))
      → Does k (here sp p f u) (Ok (i * E + 0))
      (Offset sp s (p + length (cond b [] (op.Const (s + 1) (E % P) ∷
      op.Bin op2.Mul s s (s + 1) ∷ []))) f u)
  scaled_does true E s p i d f u len eb l small at h =
      let one : E ≡ 1 = eqb-true E 1 eb in
      let all : i * E ≡ i = ap (λ x. i * x) one ∙ mul-one i in
      let q : p ≡ p + 0 = omega arith in
      gives k _ (here sp p f u) (i * E + 0) record {
        slots = f;
        is = ap (λ x. here sp x f u) q;
        same = below_itself s f;
        value = at ∙ omega (arith, all);
      }
  scaled_does false E s p i d f u len eb l small at (e0, (e1, h)) =
      let room : max s (max s (s + 1)) + 1 ≤ width =
      wide (p + 1) (op.Bin op2.Mul s s (s + 1)) e1 in
      let f1 : List ℕ = slice_set f (s + 1) (E % P) in
      let v : ℕ = slice_index f1 s * slice_index f1 (s + 1) % P in
      let Q : ℕ → State → Type 0 = Offset sp s (p + 2) f u in
      let less : i * E + E < P = rows_below i d E P l small in
      let lessE : E < P = omega (arith, less) in
      let a : slice_index f1 s ≡ i =
      set_other f (s + 1) s (E % P) (λ x. absurd (omega (arith, x))) ∙ at in
      let b : slice_index f1 (s + 1) ≡ E =
      set_same f (s + 1) (E % P) (omega (arith, room, len)) ∙
      mod-eq_of_lt {n = E} {m = P} lessE in
      let lessM : i * E < P = omega (arith, less) in
      let q : p + 1 + 1 ≡ p + 2 = omega arith in
      op_goes k sp Q p f u (op.Const (s + 1) (E % P)) (here sp (p + 1) f1 u) (Ok (i * E + 0)) e0
      refl
      (op_goes k sp Q (p + 1) f1 u (op.Bin op2.Mul s s (s + 1))
      (here sp (p + 1 + 1) (slice_set f1 s v) u) (Ok (i * E + 0)) e1 refl
      (gives k Q (here sp (p + 1 + 1) (slice_set f1 s v) u) (i * E + 0) record {
        slots = slice_set f1 s v;
        is = ap (λ x. here sp x (slice_set f1 s v) u) q;
        same = below_then s s f f1 (slice_set f1 s v) (omega arith)
            (below_set s (s + 1) (E % P) f (omega arith)) (below_set s s v f1 (omega arith));
        value = set_same f1 s v (omega (arith, room, len, length-set f (s + 1) (E % P))) ∙
            ap₂ (λ x y. x * y % P) a b ∙ mod-eq_of_lt {n = i * E} {m = P} lessM ∙ omega arith;
      }))

  -- and an earlier one too; what the later ones mean is added
  added_does : (E s p i o d : ℕ) (f g : List ℕ) (u : ℕ) → length f ≡ width → i < d → d * E < P
      → o ≤ E → Below (s + 1) f g → slice_index f s ≡ i → slice_index g (s + 1) ≡ o
      → HasAt (body_at k sp) p (op.Const (s + 2) (E % P) ∷ op.Bin op2.Mul s s (s + 2) ∷
      op.Bin op2.Add s s (s + 1) ∷ [])
      → Does k (here sp p g u) (Ok (i * E + o)) (Offset sp s (p + 3) f u)
  added_does E s p i o d f g u len l small le same at there (e0, (e1, (e2, h))) =
      let room : max s (max s (s + 2)) + 1 ≤ width =
      wide (p + 1) (op.Bin op2.Mul s s (s + 2)) e1 in
      let g1 : List ℕ = slice_set g (s + 2) (E % P) in
      let v : ℕ = slice_index g1 s * slice_index g1 (s + 2) % P in
      let g2 : List ℕ = slice_set g1 s v in
      let w : ℕ = (slice_index g2 s + slice_index g2 (s + 1)) % P in
      let g3 : List ℕ = slice_set g2 s w in
      let Q : ℕ → State → Type 0 = Offset sp s (p + 3) f u in
      let less : i * E + E < P = rows_below i d E P l small in
      let lessE : E < P = omega (arith, less) in
      let lessM : i * E < P = omega (arith, less) in
      let lessA : i * E + o < P = omega (arith, less, le) in
      let l1 : length g1 ≡ length g = length-set g (s + 2) (E % P) in
      let l2 : length g2 ≡ length g1 = length-set g1 s v in
      let a : slice_index g1 s ≡ i =
      set_other g (s + 2) s (E % P) (λ x. absurd (omega (arith, x))) ∙
      same.under s (omega arith) ∙ at in
      let b : slice_index g1 (s + 2) ≡ E =
      set_same g (s + 2) (E % P) (omega (arith, room, len, same.size)) ∙
      mod-eq_of_lt {n = E} {m = P} lessE in
      let c : slice_index g2 s ≡ i * E =
      set_same g1 s v (omega (arith, room, len, same.size, l1)) ∙
      ap₂ (λ x y. x * y % P) a b ∙ mod-eq_of_lt {n = i * E} {m = P} lessM in
      let d1 : slice_index g2 (s + 1) ≡ o =
      set_other g1 s (s + 1) v (λ x. absurd (omega (arith, x))) ∙
      set_other g (s + 2) (s + 1) (E % P) (λ x. absurd (omega (arith, x))) ∙ there in
      let q : p + 1 + 1 + 1 ≡ p + 3 = omega arith in
      op_goes k sp Q p g u (op.Const (s + 2) (E % P)) (here sp (p + 1) g1 u) (Ok (i * E + o)) e0
      refl
      (op_goes k sp Q (p + 1) g1 u (op.Bin op2.Mul s s (s + 2)) (here sp (p + 1 + 1) g2 u)
      (Ok (i * E + o)) e1 refl
      (op_goes k sp Q (p + 1 + 1) g2 u (op.Bin op2.Add s s (s + 1))
      (here sp (p + 1 + 1 + 1) g3 u) (Ok (i * E + o)) e2 refl
      (gives k Q (here sp (p + 1 + 1 + 1) g3 u) (i * E + o) record {
        slots = g3;
        is = ap (λ x. here sp x g3 u) q;
        same = below_then s s f g g3 (omega arith)
            (record { size = same.size; under = λ x y. same.under x (omega (arith, y)) })
            (below_then s s g g1 g3 (omega arith) (below_set s (s + 2) (E % P) g (omega arith))
            (below_then s s g1 g2 g3 (omega arith) (below_set s s v g1 (omega arith))
            (below_set s s w g2 (omega arith))));
        value = set_same g2 s w (omega (arith, room, len, same.size, l1, l2)) ∙
            ap₂ (λ x y. (x + y) % P) c d1 ∙ mod-eq_of_lt {n = i * E + o} {m = P} lessA;
      })))

  pub offset_does : (dims : List ℕ) (n s p : ℕ) (f : List ℕ) (u : ℕ) → length f ≡ width
      → n < length dims → elements dims < P → HasAt (body_at k sp) p (offset_code s dims n)
      → Does k (here sp p f u) (checked dims (row f s (suc n)))
      (Offset sp s (p + length (offset_code s dims n)) f u)
  offset_does [] n s p f u len within small h = absurd (omega (arith, within))
  offset_does (d ∷ ds) zero s p f u len within small (e, h) =
      let i : ℕ = slice_index f s in
      does_need k _ (nat_lt i d) IndexOut index_out (here sp p f u) (here sp (p + 1) f u)
      (Ok (i * elements ds + 0)) (step_at k sp p f u (op.Bound s d) e) refl
      (λ l. subst (λ q. Does k (here sp (p + 1) f u) (Ok (i * elements ds + 0))
      (Offset sp s q f u)) (omega arith)
      (scaled_does (elements ds == 1) (elements ds) s (p + 1) i d f u len refl (ltb-true i d l)
      small refl h))
  offset_does (d ∷ ds) (suc n) s p f u len within small (e, h) =
      let i : ℕ = slice_index f s in
      let is : List ℕ = row f (s + 1) (suc n) in
      let first : List Op = offset_code (s + 1) ds n in
      let three : List Op = op.Const (s + 2) (elements ds % P) ∷ op.Bin op2.Mul s s (s + 2) ∷
      op.Bin op2.Add s s (s + 1) ∷ [] in
      does_need k _ (nat_lt i d) IndexOut index_out (here sp p f u) (here sp (p + 1) f u)
      (next (checked ds is) (λ o. Ok (i * elements ds + o)))
      (step_at k sp p f u (op.Bound s d) e) refl
      (λ l. let less : i < d = ltb-true i d l in
      let below : i * elements ds + elements ds < P = rows_below i d (elements ds) P less small in
      does_next k (Offset sp (s + 1) (p + 1 + length first) f u) _ (here sp (p + 1) f u)
      (checked ds is) (λ o. Ok (i * elements ds + o))
      (offset_does ds n (s + 1) (p + 1) f u len (omega (arith, within)) (omega (arith, below))
      (has_front (body_at k sp) (p + 1) first three h))
      (λ o t em x. at_state k _ (here sp (p + 1 + length first) x.slots u) t
      (Ok (i * elements ds + o)) x.is
      (subst (λ q. Does k (here sp (p + 1 + length first) x.slots u) (Ok (i * elements ds + o))
      (Offset sp s q f u)) (omega (arith, length-append first three))
      (added_does (elements ds) s (p + 1 + length first) i o d f x.slots u len less small
      (omega (
        arith,
        checked_fits ds is o
            (omega (arith, row_length f (s + 1) (suc n), within)) em,
      ))
      x.same refl x.value (has_back (body_at k sp) (p + 1) first three h)))))

-- where the two parts of a loop stand
pub turn_at : (body : List Op) (s p : ℕ) (turn test : List Op)
    → HasAt body p (turned s p turn test) → HasAt body (p + 2) turn
turn_at body s p turn test at =
    let two : p + 1 + 1 ≡ p + 2 = omega arith in
    subst (λ q. HasAt body q turn) two (has_front body (p + 1 + 1) turn _ at.1.1)

pub test_at : (body : List Op) (s p : ℕ) (turn test : List Op)
    → HasAt body p (turned s p turn test) → HasAt body (p + 2 + length turn) test
test_at body s p turn test at =
    let on : p + 1 + 1 + length turn ≡ p + 2 + length turn = omega arith in
    subst (λ q. HasAt body q test) on
    (has_front body (p + 1 + 1 + length turn) test _
    (has_back body (p + 1 + 1) turn _ at.1.1))
