-- Operators: strict ones, and those of which the left side tells whether the right one is looked
-- at.
use Rattle.std.proofs.Common.{◌≡◌, ℕ, ◌+◌, ◌<◌, ◌≤◌, max, Bool, true, false, cond, not, List, []}
use Rattle.std.proofs.Common.{◌∷◌, ◌++◌, length, Option, Some, None, Result, Ok, refl, sym, ap}
use Rattle.std.proofs.Common.{subst, ◌∙◌, arith, length-set, length-append}
use Rattle.std.specs.Prelude.{slice_get, slice_index, slice_set, ◌==◌}
use Rattle.std.proofs.lemmas.Bool.{eqb-true}
use Rattle.gold_field.specs.declared.operators.Op1.TheVariants as op1
use Rattle.gold_field.specs.Operators.{unary_of as number_by, binary_of}
use Rattle.wit_code.specs.declared.code.Op.{Op}
use Rattle.wit_code.specs.declared.code.Op.TheVariants as op
use Rattle.wit_code.specs.declared.code.Stop.TheVariants.{ZeroDivisor}
use Rattle.wit_code.specs.Table.{State, Goes, put_result}
use Rattle.cir_meaning.specs.Tried.{next}
use Rattle.cir_meaning.specs.Arrays.{single}
use Rattle.cir_meaning.specs.Values.{truth_number}
use Rattle.cir_meaning.specs.Operators.{Operator, Strict, And, Or}
use Rattle.cir_meaning.specs.RunValues.{Ran, Numbers, gives, number, the_number, when, needs_right}
use Rattle.cir_meaning.specs.RunValues.{result_number, unless_zero_divisor}
use Rattle.wit_lower.specs.Pieces.{Code, unless_zero, either, truth_code, binary_code, decided}
use Rattle.wit_lower.specs.Pieces.{lazy_code}
use Rattle.wit_lower.specs.Fits.{UnlessSkipped}
use Rattle.wit_lower.proofs.Does.{Setting, takes, Does, does_next, does_on, does_same}
use Rattle.wit_lower.proofs.Does.{gives as there, goes, stops, HasAt, has_front, has_back}
use Rattle.wit_lower.proofs.Frames.{set_same, Below, below_itself, below_then, below_set}
use Rattle.wit_lower.proofs.Spots.{Spot, here, body_at, IsWide, step_at, op_goes, at_state}
use Rattle.wit_lower.proofs.Parts.{Valued}

-- a number that stands in the slot `top`
pub valued_number : (sp : Spot) (top q : ℕ) (f : List ℕ) (u n v : ℕ) (slots : List ℕ)
    → Below top f slots → slice_index slots top ≡ n → v ≤ u
    → Valued sp top q [] f u (single n, v) (here sp q slots v)
valued_number sp top q f u n v slots b e le = record {
  slots = slots;
  is = refl;
  same = b;
  value = ap (λ x. single x) (sym e);
  less = le;
}

pub valued_later : (sp : Spot) (top q q' : ℕ) (dims f f' : List ℕ) (u u' : ℕ) (x : Numbers × ℕ)
    (t : State) → Valued sp top q dims f' u' x t → Below top f f' → u' ≤ u → q ≡ q'
    → Valued sp top q' dims f u x t
valued_later sp top q q' dims f f' u u' x t v b le e = record {
  slots = v.slots;
  is = v.is ∙ ap (λ p. here sp p v.slots x.1) e;
  same = below_then top top f f' v.slots (omega arith) b v.same;
  value = v.value;
  less = omega (arith, v.less, le);
}

-- what follows the left operand
abbrev pub right_of : Operator → (ℕ → Ran Numbers) → ℕ → ℕ → Ran Numbers
right_of o mb m u1 =
    number (when (needs_right o m) u1 (mb u1))
    (λ n u2. next (result_number o m n) (λ x. gives (single x) u2))

-- a left operand that decides, and what then becomes of the right one
pub record Decides (o : Operator) (left : Option ℕ) (n : ℕ) : Type 0 where
  pub number : ℕ
  pub told : left ≡ Some number
  pub skips : (mb : ℕ → Ran Numbers) (v : ℕ) → right_of o mb number v ≡ gives (single n) v

pub decides : (o : Operator) (left : Option ℕ) (n : ℕ) → decided o left ≡ Some n → Decides o left n
decides (Strict o) left n e = cc
decides And None n e = cc
decides Or None n e = cc
decides And (Some m) n e = at (m == 0) refl e
  where
    at : (b : Bool) → (m == 0) ≡ b → cond b (Some 0) None ≡ Some n → Decides And (Some m) n
    at true eb e =
        let same : 0 ≡ n = cc in
        record {
          number = m;
          told = refl;
          skips = λ mb v. ap (λ z. number (when (not z) v (mb v))
              (λ x u2. gives (single (cond z 0 (truth_number x))) u2)) eb ∙
              ap (λ x. gives (single x) v) same;
        }
    at false eb e = cc
decides Or (Some m) n e = at (m == 0) refl e
  where
    at : (b : Bool) → (m == 0) ≡ b → cond b None (Some 1) ≡ Some n → Decides Or (Some m) n
    at true eb e = cc
    at false eb e =
        let same : 1 ≡ n = cc in
        record {
          number = m;
          told = refl;
          skips = λ mb v. ap (λ z. number (when z v (mb v))
              (λ x u2. gives (single (cond z (truth_number x) 1)) u2)) eb ∙
              ap (λ x. gives (single x) v) same;
        }

pub unless_map : {A B : Type 0} (d : Option ℕ) → (A → B) → UnlessSkipped d A → UnlessSkipped d B
unless_map None f a = f a
unless_map (Some n) f a = tt

truth_twice : (n : ℕ) → number_by op1.Not (number_by op1.Not n) ≡ truth_number n
truth_twice n = at (n == 0)
  where
    at : (b : Bool) → ◌≡◌ {A = ℕ} (cond (cond b 1 0 == 0) 1 0) (cond b 0 1)
    at true = refl
    at false = refl

-- a result at one place of the code is one at another, where a jump leads from the one to the other
pub record Moved {A : Type 0} (sp : Spot) (q end : ℕ) (Q : A → State → Type 0) (a : A)
    (t : State) : Type 0 where
  pub slots : List ℕ
  pub units : ℕ
  pub is : t ≡ here sp q slots units
  pub on : Q a (here sp end slots units)

pub valued_moved : (sp : Spot) (top q end : ℕ) (dims f : List ℕ) (u : ℕ) (x : Numbers × ℕ)
    (t : State) → Valued sp top q dims f u x t → Moved sp q end (Valued sp top end dims f u) x t
valued_moved sp top q end dims f u x t v = record {
  slots = v.slots;
  units = x.1;
  is = v.is;
  on = record {
    slots = v.slots;
    is = refl;
    same = v.same;
    value = v.value;
    less = v.less;
  };
}

module _ (k : Setting) (sp : Spot) where
  -- a number that is wanted; what else is told of it holds of its slot
  pub number_does : {A : Type 0} (Q : A × ℕ → State → Type 0) (s : State) (m : Ran Numbers)
      (go : ℕ → ℕ → Ran A) (top q : ℕ) (dims f : List ℕ) (u : ℕ) → dims ≡ []
      → Does k s m (Valued sp top q dims f u)
      → ((slots : List ℕ) (v : ℕ) → Below top f slots → v ≤ u
      → ((n : ℕ) → ((x : Numbers × ℕ) → m ≡ Ok x → the_number x.0 ≡ n)
      → slice_index slots top ≡ n)
      → Does k (here sp q slots v) (go (slice_index slots top) v) Q)
      → Does k s (number m go) Q
  number_does Q s m go top q dims f u e d on =
      does_next k (Valued sp top q [] f u) Q s m (λ x. go (the_number x.0) x.1)
      (subst (λ x. Does k s m (Valued sp top q x f u)) e d)
      (λ x t em y. let same : the_number x.0 ≡ slice_index y.slots top = ap the_number y.value in
      at_state k Q (here sp q y.slots x.1) t (go (the_number x.0) x.1) y.is
      (subst (λ n. Does k (here sp q y.slots x.1) (go n x.1) Q) (sym same)
      (on y.slots x.1 y.same y.less (λ n h. sym same ∙ h x em))))

  pub does_test : {A : Type 0} (Q : A → State → Type 0) (M : Bool → Result A ℕ) (b : Bool)
      (s t u : State) → takes k s ≡ cond b (Goes t) (Goes u) → (b ≡ true → Does k t (M true) Q)
      → (b ≡ false → Does k u (M false) Q) → Does k s (M b) Q
  does_test Q M true s t u e f g = goes k Q s t (M true) e (f refl)
  does_test Q M false s t u e f g = goes k Q s u (M false) e (g refl)

  -- a piece that is left out where the slot is 0
  pub skip_does : {A : Type 0} (Q : A → State → Type 0) (M : Bool → Result A ℕ) (s q : ℕ)
      (piece : ℕ → Code) (g : List ℕ) (v : ℕ)
      → HasAt (body_at k sp) q (unless_zero s q piece)
      → (slice_index g s ≡ 0
      → Does k (here sp (q + 1 + length (piece (q + 1))) g v) (M true) Q)
      → (HasAt (body_at k sp) (q + 1) (piece (q + 1))
      → Does k (here sp (q + 1) g v) (M false) Q)
      → Does k (here sp q g v) (M (slice_index g s == 0)) Q
  skip_does Q M s q piece g v (e, h) zero_case other =
      does_test Q M (slice_index g s == 0) (here sp q g v)
      (here sp (q + 1 + length (piece (q + 1))) g v) (here sp (q + 1) g v)
      (step_at k sp q g v (op.JumpZero s (q + 1 + length (piece (q + 1)))) e)
      (λ z. zero_case (eqb-true (slice_index g s) 0 z)) (λ z. other h)

  -- one of two pieces; the first one's result is moved behind the second one
  pub either_does : {A : Type 0} (P Q : A → State → Type 0) (M : Bool → Result A ℕ) (s q : ℕ)
      (first second : ℕ → Code) (g : List ℕ) (v : ℕ)
      → HasAt (body_at k sp) q (either s q first second)
      → ((a : A) (t : State) → P a t
      → Moved sp (q + 1 + length (first (q + 1)))
      (q + 2 + length (first (q + 1)) + length (second (q + 2 + length (first (q + 1))))) Q a t)
      → (HasAt (body_at k sp) (q + 2 + length (first (q + 1)))
      (second (q + 2 + length (first (q + 1))))
      → Does k (here sp (q + 2 + length (first (q + 1))) g v) (M true) Q)
      → (HasAt (body_at k sp) (q + 1) (first (q + 1))
      → Does k (here sp (q + 1) g v) (M false) P)
      → Does k (here sp q g v) (M (slice_index g s == 0)) Q
  either_does P Q M s q first second g v (e, h) moved zero_case other =
      does_test Q M (slice_index g s == 0) (here sp q g v) (here sp q2 g v) (here sp (q + 1) g v)
      (step_at k sp q g v (op.JumpZero s q2) e)
      (λ z. zero_case (subst (λ x. HasAt (body_at k sp) x (second q2)) (omega arith)
      (has_back (body_at k sp) (q + 1) one (op.Jump end ∷ second q2) h).1))
      (λ z. does_on k P Q (here sp (q + 1) g v) (M false)
      (other (has_front (body_at k sp) (q + 1) one (op.Jump end ∷ second q2) h))
      (λ a t ea p. let j : Moved sp (q + 1 + length one) end Q a t = moved a t p in
      at_state k Q (here sp (q + 1 + length one) j.slots j.units) t (Ok a) j.is
      (op_goes k sp Q (q + 1 + length one) j.slots j.units (op.Jump end)
      (here sp end j.slots j.units) (Ok a)
      (has_back (body_at k sp) (q + 1) one (op.Jump end ∷ second q2) h).0 refl
      (there k Q (here sp end j.slots j.units) a j.on))))
    where
      one : Code
      one = first (q + 1)

      q2 : ℕ
      q2 = q + 2 + length one

      end : ℕ
      end = q2 + length (second q2)

module _ (k : Setting) (sp : Spot) (params : ℕ → ℕ) (width : ℕ)
    (wide : IsWide params width (body_at k sp)) where
  -- the number of one instruction
  pub put_number : (top p q v n : ℕ) (f g : List ℕ) (u : ℕ) (o : Op)
      → slice_get (body_at k sp) p ≡ Some o → top < length g → p + 1 ≡ q → Below top f g → v ≤ u
      → takes k (here sp p g v) ≡ Goes (here sp (p + 1) (slice_set g top n) v)
      → Does k (here sp p g v) (gives (single n) v) (Valued sp top q [] f u)
  put_number top p q v n f g u o e room end b le t =
      goes k (Valued sp top q [] f u) (here sp p g v) (here sp (p + 1) (slice_set g top n) v)
      (gives (single n) v) t
      (there k (Valued sp top q [] f u) (here sp (p + 1) (slice_set g top n) v) (single n, v)
      (valued_later sp top (p + 1) q [] f f u u (single n, v)
      (here sp (p + 1) (slice_set g top n) v)
      (valued_number sp top (p + 1) f u n v (slice_set g top n)
      (below_then top top f g (slice_set g top n) (omega arith) b
      (below_set top top n g (omega arith))) (set_same g top n room) le)
      (below_itself top f) (omega arith) end))

  truth_does : (top q end v : ℕ) (f g : List ℕ) (u : ℕ) → length g ≡ width → q + 2 ≡ end
      → HasAt (body_at k sp) q (truth_code top) → Below top f g → v ≤ u
      → Does k (here sp q g v) (gives (single (truth_number (slice_index g top))) v)
      (Valued sp top end [] f u)
  truth_does top q end v f g u len on (e0, (e1, h)) b le =
      let room : max top top + 1 ≤ width = wide q (op.Un op1.Not top top) e0 in
      let n : ℕ = slice_index g top in
      let g1 : List ℕ = slice_set g top (number_by op1.Not n) in
      let same : slice_index g1 top ≡ number_by op1.Not n =
      set_same g top (number_by op1.Not n) (omega (arith, room, len)) in
      op_goes k sp (Valued sp top end [] f u) q g v (op.Un op1.Not top top)
      (here sp (q + 1) g1 v) (gives (single (truth_number n)) v) e0 refl
      (subst (λ x. Does k (here sp (q + 1) g1 v) (gives (single x) v) (Valued sp top end [] f u))
      (ap (number_by op1.Not) same ∙ truth_twice n)
      (put_number top (q + 1) end v (number_by op1.Not (slice_index g1 top)) f g1 u
      (op.Un op1.Not top top) e1
      (omega (arith, room, len, length-set g top (number_by op1.Not n))) (omega (arith, on))
      (below_then top top f g g1 (omega arith) b
      (below_set top top (number_by op1.Not n) g (omega arith))) le
      (step_at k sp (q + 1) g1 v (op.Un op1.Not top top) e1)))

  quotient_does : (top q end w : ℕ) (f g : List ℕ) (u : ℕ) (r : Option ℕ) → top < length g
      → q + 1 ≡ end → Below top f g → w ≤ u
      → takes k (here sp q g w) ≡ put_result top r (here sp q g w)
      → Does k (here sp q g w) (next (unless_zero_divisor r) (λ x. gives (single x) w))
      (Valued sp top end [] f u)
  quotient_does top q end w f g u None room on b le e =
      stops k (Valued sp top end [] f u) (here sp q g w) ZeroDivisor 3 e refl
  quotient_does top q end w f g u (Some x) room on b le e =
      goes k (Valued sp top end [] f u) (here sp q g w) (here sp (q + 1) (slice_set g top x) w)
      (gives (single x) w) e
      (there k (Valued sp top end [] f u) (here sp (q + 1) (slice_set g top x) w) (single x, w)
      (valued_later sp top (q + 1) end [] f f u u (single x, w)
      (here sp (q + 1) (slice_set g top x) w)
      (valued_number sp top (q + 1) f u x w (slice_set g top x)
      (below_then top top f g (slice_set g top x) (omega arith) b
      (below_set top top x g (omega arith))) (set_same g top x room) le)
      (below_itself top f) (omega arith) on))

  pub binary_does : (o : Operator) (top p : ℕ) (left : Code) (right : ℕ → ℕ → Code)
      (f : List ℕ) (u : ℕ) (ma : Ran Numbers) (mb : ℕ → Ran Numbers) → length f ≡ width
      → HasAt (body_at k sp) p (binary_code o top p left right)
      → Does k (here sp p f u) ma (Valued sp top (p + length left) [] f u)
      → ((slot q : ℕ) (g : List ℕ) (v : ℕ) → top ≤ slot → Below top f g
      → HasAt (body_at k sp) q (right slot q)
      → Does k (here sp q g v) (mb v) (Valued sp slot (q + length (right slot q)) [] g v))
      → Does k (here sp p f u)
      (number ma (λ m u1. number (when (needs_right o m) u1 (mb u1))
      (λ n u2. next (result_number o m n) (λ x. gives (single x) u2))))
      (Valued sp top (p + length (binary_code o top p left right)) [] f u)
  binary_does (Strict o) top p left right f u ma mb len h da db =
      number_does k sp Q (here sp p f u) ma (right_of (Strict o) mb) top q1 [] f u refl da (λ g v
      b le told.
      number_does k sp Q (here sp q1 g v) (mb v)
      (λ n u2. next (unless_zero_divisor (binary_of o (slice_index g top) n))
      (λ x. gives (single x) u2)) (top + 1) q2 [] g v refl
      (db (top + 1) q1 g v (omega arith) b (has_front (body_at k sp) q1 two last h1))
      (λ g2 w b2 le2 told2.
      let room : max top (max top (top + 1)) + 1 ≤ width =
      wide q2 (op.Bin o top top (top + 1)) h2.0 in
      quotient_does top q2 end w f g2 u (binary_of o (slice_index g top) (slice_index g2 (top + 1)))
      (omega (arith, room, len, b.size, b2.size))
      (omega (arith, length-append left (two ++ last), length-append two last))
      (below_then top top f g g2 (omega arith) b
      record { size = b2.size; under = λ x y. b2.under x (omega (arith, y)) })
      (omega (arith, le, le2))
      (step_at k sp q2 g2 w (op.Bin o top top (top + 1)) h2.0 ∙
      ap (λ x. put_result top (binary_of o x (slice_index g2 (top + 1))) (here sp q2 g2 w))
      (b2.under top (omega arith)))))
    where
      q1 : ℕ
      q1 = p + length left

      two : Code
      two = right (top + 1) q1

      last : Code
      last = op.Bin o top top (top + 1) ∷ []

      q2 : ℕ
      q2 = q1 + length two

      end : ℕ
      end = p + length (left ++ (two ++ last))

      Q : Numbers × ℕ → State → Type 0
      Q = Valued sp top end [] f u

      h1 : HasAt (body_at k sp) q1 (two ++ last)
      h1 = has_back (body_at k sp) p left (two ++ last) h

      h2 : HasAt (body_at k sp) q2 last
      h2 = has_back (body_at k sp) q1 two last h1
  binary_does And top p left right f u ma mb len h da db =
      number_does k sp Q (here sp p f u) ma (right_of And mb) top q1 [] f u refl da (λ g v b le
      told.
      skip_does k sp Q (λ z. number (when (not z) v (mb v))
      (λ n u2. gives (single (cond z 0 (truth_number n))) u2)) top q1 piece g v
      (has_back (body_at k sp) p left (unless_zero top q1 piece) h)
      (λ z. there k Q (here sp (q1 + 1 + length (piece (q1 + 1))) g v) (single 0, v)
      (valued_later sp top (q1 + 1 + length (piece (q1 + 1))) end [] f f u u (single 0, v)
      (here sp (q1 + 1 + length (piece (q1 + 1))) g v)
      (valued_number sp top (q1 + 1 + length (piece (q1 + 1))) f u 0 v g b z le)
      (below_itself top f) (omega arith)
      (omega (arith, length-append left (unless_zero top q1 piece)))))
      (λ h1. number_does k sp Q (here sp (q1 + 1) g v) (mb v)
      (λ n u2. gives (single (truth_number n)) u2) top q2 [] g v refl
      (db top (q1 + 1) g v (omega arith) b
      (has_front (body_at k sp) (q1 + 1) two (truth_code top) h1))
      (λ g2 w b2 le2 told2. truth_does top q2 end w f g2 u (b2.size ∙ b.size ∙ len)
      (omega (
        arith,
        length-append left (unless_zero top q1 piece),
        length-append two (truth_code top),
      ))
      (has_back (body_at k sp) (q1 + 1) two (truth_code top) h1)
      (below_then top top f g g2 (omega arith) b b2) (omega (arith, le, le2)))))
    where
      q1 : ℕ
      q1 = p + length left

      piece : ℕ → Code
      piece q = right top q ++ truth_code top

      two : Code
      two = right top (q1 + 1)

      q2 : ℕ
      q2 = q1 + 1 + length two

      end : ℕ
      end = p + length (left ++ unless_zero top q1 piece)

      Q : Numbers × ℕ → State → Type 0
      Q = Valued sp top end [] f u
  binary_does Or top p left right f u ma mb len h da db =
      number_does k sp Q (here sp p f u) ma (right_of Or mb) top q1 [] f u refl da (λ g v b le told.
      either_does k sp (Valued sp top q4 [] f u) Q (λ z. number (when z v (mb v))
      (λ n u2. gives (single (cond z (truth_number n) 1)) u2)) top q1 one piece g v
      (has_back (body_at k sp) p left (either top q1 one piece) h)
      (λ x t y. subst (λ q. Moved sp q4 q Q x t)
      (omega (arith, length-append left (either top q1 one piece)))
      (valued_moved sp top q4 end [] f u x t y))
      (λ h1. number_does k sp Q (here sp q3 g v) (mb v)
      (λ n u2. gives (single (truth_number n)) u2) top q2 [] g v refl
      (db top q3 g v (omega arith) b
      (has_front (body_at k sp) q3 two (truth_code top) h1))
      (λ g2 w b2 le2 told2. truth_does top q2 end w f g2 u (b2.size ∙ b.size ∙ len)
      (omega (
        arith,
        length-append left (either top q1 one piece),
        length-append two (truth_code top),
      ))
      (has_back (body_at k sp) q3 two (truth_code top) h1)
      (below_then top top f g g2 (omega arith) b b2) (omega (arith, le, le2))))
      (λ h1. let room : top + 1 ≤ width = wide (q1 + 1) (op.Const top 1) h1.0 in
      put_number top (q1 + 1) q4 v 1 f g u (op.Const top 1) h1.0
      (omega (arith, room, len, b.size)) (omega arith) b le
      (step_at k sp (q1 + 1) g v (op.Const top 1) h1.0)))
    where
      q1 : ℕ
      q1 = p + length left

      one : ℕ → Code
      one q = op.Const top 1 ∷ []

      q3 : ℕ
      q3 = q1 + 2 + length (one (q1 + 1))

      q4 : ℕ
      q4 = q1 + 1 + length (one (q1 + 1))

      piece : ℕ → Code
      piece q = right top q ++ truth_code top

      two : Code
      two = right top q3

      q2 : ℕ
      q2 = q3 + length two

      end : ℕ
      end = p + length (left ++ either top q1 one piece)

      Q : Numbers × ℕ → State → Type 0
      Q = Valued sp top end [] f u

  -- what a right operand does, wherever it stands
  abbrev pub RightDoes : (top : ℕ) → (right : ℕ → ℕ → Code) → (f : List ℕ) → (ℕ → Ran Numbers)
      → Type 0
  RightDoes top right f mb =
      (slot q : ℕ) (g : List ℕ) (v : ℕ) → top ≤ slot → Below top f g
      → HasAt (body_at k sp) q (right slot q)
      → Does k (here sp q g v) (mb v) (Valued sp slot (q + length (right slot q)) [] g v)

  pub lazy_does : (o : Operator) (told : Option ℕ) (top p : ℕ) (left : Code)
      (right : ℕ → ℕ → Code) (f : List ℕ) (u : ℕ) (ma : Ran Numbers) (mb : ℕ → Ran Numbers)
      → length f ≡ width
      → ((n : ℕ) → told ≡ Some n → (x : Numbers × ℕ) → ma ≡ Ok x → the_number x.0 ≡ n)
      → HasAt (body_at k sp) p
      (lazy_code (decided o told) top left (binary_code o top p left right))
      → Does k (here sp p f u) ma (Valued sp top (p + length left) [] f u)
      → UnlessSkipped (decided o told) (RightDoes top right f mb)
      → Does k (here sp p f u) (number ma (right_of o mb))
      (Valued sp top
      (p + length (lazy_code (decided o told) top left (binary_code o top p left right))) [] f u)
  lazy_does o told top p left right f u ma mb len known h da db = at (decided o told) refl h db
    where
      both : Code
      both = binary_code o top p left right

      at : (d : Option ℕ) → decided o told ≡ d → HasAt (body_at k sp) p (lazy_code d top left both)
          → UnlessSkipped d (RightDoes top right f mb)
          → Does k (here sp p f u) (number ma (right_of o mb))
          (Valued sp top (p + length (lazy_code d top left both)) [] f u)
      at None e h db = binary_does o top p left right f u ma mb len h da db
      at (Some n) e h db =
          let d : Decides o told n = decides o told n e in
          let q : ℕ = p + length left in
          let last : Code = op.Const top n ∷ [] in
          let end : ℕ = p + length (left ++ last) in
          let Q : (Numbers × ℕ → State → Type 0) = Valued sp top end [] f u in
          let h1 : HasAt (body_at k sp) q last = has_back (body_at k sp) p left last h in
          let room : top + 1 ≤ width = wide q (op.Const top n) h1.0 in
          number_does k sp Q (here sp p f u) ma (right_of o mb) top q [] f u refl da (λ g v b le is.
          does_same k Q (here sp q g v) (gives (single n) v) (right_of o mb (slice_index g top) v)
          (sym (ap (λ m. right_of o mb m v) (is d.number (known d.number d.told)) ∙ d.skips mb v))
          (put_number top q end v n f g u (op.Const top n) h1.0 (omega (arith, room, len, b.size))
          (omega (arith, length-append left last)) b le
          (step_at k sp q g v (op.Const top n) h1.0)))
