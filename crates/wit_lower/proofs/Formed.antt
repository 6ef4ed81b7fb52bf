-- Code that is well formed, besides the slots that it names: what else its instructions ask for is
-- there, and each jump leads on, or back to a Turn.
use Rattle.std.proofs.Common.{◌≡◌, ℕ, zero, suc, ◌+◌, ◌%◌, ◌<◌, ◌≤◌, Bool, true, false, cond, List}
use Rattle.std.proofs.Common.{[], ◌∷◌, ◌++◌, length, drop, Option, Some, None, refl, subst, arith}
use Rattle.std.proofs.Common.{length-append, mod-lt}
use Rattle.std.specs.Prelude.{slice_get, ◌==◌}
use Rattle.gold_field.specs.declared.gold.TheConstants.{P}
use Rattle.gold_field.specs.declared.operators.Op2.TheVariants as op2
use Rattle.wit_code.specs.declared.code.Op.{Op}
use Rattle.wit_code.specs.declared.code.Op.TheVariants as op
use Rattle.wit_code.specs.declared.code.Stands.{Stands}
use Rattle.wit_code.specs.Code.{StandsInStep, StandsInProc, MayRead, MayJump, Leads}
use Rattle.cir_ast.specs.declared.program.Meant.{Meant}
use Rattle.cir_ast.specs.declared.program.Meant.TheVariants as meant
use Rattle.cir_ast.specs.Tree.{Expr, Number, Place, Call, Anonymous, Parentheses, Array, Unary}
use Rattle.cir_ast.specs.Tree.{Binary, Choice, Exprs, none, more, Accessors, done, index, member}
use Rattle.cir_meaning.specs.Places.{elements}
use Rattle.cir_meaning.specs.Operators.{Operator, Strict, And, Or, operator_of}
use Rattle.cir_meaning.specs.Costs.{Made}
use Rattle.cir_meaning.specs.RunValues.{Numbers}
use Rattle.wit_lower.specs.Homes.{Home, Homes, Ground, Front, Named, home_of, port_of}
use Rattle.wit_lower.specs.Homes.{component_dims, slots_of}
use Rattle.wit_lower.specs.Pieces.{Code, unless_zero, either, turned, truth_code, binary_code}
use Rattle.wit_lower.specs.Pieces.{decided, lazy_code, choice_code, moves, loads, stores, zeros}
use Rattle.wit_lower.specs.Pieces.{constants, bounds, offset_code, read_code, write_code}
use Rattle.wit_lower.specs.Values.{size_of, shapes_of, expr_code, exprs_code, place_code}
use Rattle.wit_lower.specs.Values.{indices_code, call_code, unless_called}
use Rattle.wit_lower.specs.Fits.{UnlessCalled, IsCalled, UnlessSkipped, Sides, Fits, AllFit}
use Rattle.wit_lower.specs.Fits.{PlaceFits, IndicesFit}
use Rattle.wit_lower.proofs.Does.{HasAt, has_front, has_back}
use Rattle.wit_lower.proofs.Operators.{unless_map}
use Rattle.wit_lower.proofs.Exprs.{left_at, sides_map}

-- a key with this number
pub record KeyAt (keys : List Made) (f : ℕ) : Type 0 where
  pub key : Made
  pub there : slice_get keys f ≡ Some key

abbrev pub Asks : List Made → Stands → Op → Type 0
Asks keys stands (op.Const d v) = v < P
Asks keys stands (op.Move d s) = Unit {0}
Asks keys stands (op.Read d i) = MayRead stands i
Asks keys stands (op.Un o d a) = Unit {0}
Asks keys stands (op.Bin o d a b) = Unit {0}
Asks keys stands (op.Bound s n) = Unit {0}
Asks keys stands (op.Load d base s) = Unit {0}
Asks keys stands (op.Store base s a) = Unit {0}
Asks keys stands (op.Jump to) = Unit {0}
Asks keys stands (op.JumpZero s to) = Unit {0}
Asks keys stands op.Turn = Unit {0}
Asks keys stands (op.Call f first d) = KeyAt keys f
Asks keys stands (op.Return s) = StandsInProc stands
Asks keys stands (op.Check a b) = StandsInStep stands
Asks keys stands (op.Assert s) = Unit {0}
Asks keys stands (op.Write s) = StandsInStep stands

abbrev pub Formed : List Made → Stands → (body : List Op) → (place : ℕ) → Code → Type 0
Formed keys stands body place [] = Unit {0}
Formed keys stands body place (o ∷ os) =
    (Asks keys stands o × MayJump body place o) × Formed keys stands body (place + 1) os

-- a piece that is there ends within the body
pub has_within : (body : List Op) (p : ℕ) (o : Op) (os : Code) → HasAt body p (o ∷ os)
    → p + length (o ∷ os) ≤ length body
has_within body p o [] (e, h) = within body p o e
  where
    within : (body : List Op) (p : ℕ) (o : Op) → slice_get body p ≡ Some o → p + 1 ≤ length body
    within [] p o e = cc
    within (x ∷ xs) zero o e = omega arith
    within (x ∷ xs) (suc p) o e = omega (arith, within xs p o e)
has_within body p o (x ∷ xs) (e, h) = omega (arith, has_within body (p + 1) x xs h)

leads_on : (body : List Op) (place to : ℕ) → place < to → to ≤ length body → Leads body place to
leads_on body place to later within =
    record { within = within; back = λ h. absurd (omega (arith, later, h)) }

small_one : 1 < P
small_one = omega arith

small_zero : 0 < P
small_zero = omega arith

small_rest : (n : ℕ) → n % P < P
small_rest n = mod-lt n small_zero

module _ (keys : List Made) (stands : Stands) (body : List Op) where
  abbrev IsFormed : (place : ℕ) → Code → Type 0
  IsFormed place code = Formed keys stands body place code

  pub formed_append : (p : ℕ) (xs ys : Code) → IsFormed p xs → IsFormed (p + length xs) ys
      → IsFormed p (xs ++ ys)
  formed_append p [] ys a b = subst (λ q. IsFormed q ys) (omega arith) b
  formed_append p (x ∷ xs) ys (o, a) b =
      let on : p + length (x ∷ xs) ≡ p + 1 + length xs = omega arith in
      (o, formed_append (p + 1) xs ys a (subst (λ q. IsFormed q ys) on b))

  pub moves_formed : (to from n p : ℕ) → IsFormed p (moves to from n)
  moves_formed to from zero p = tt
  moves_formed to from (suc n) p = ((tt, tt), moves_formed to from n (p + 1))

  loads_formed : (to base n p : ℕ) → IsFormed p (loads to base n)
  loads_formed to base zero p = tt
  loads_formed to base (suc n) p = ((tt, tt), loads_formed to base n (p + 1))

  stores_formed : (base s from n p : ℕ) → IsFormed p (stores base s from n)
  stores_formed base s from zero p = tt
  stores_formed base s from (suc n) p =
      ((tt, tt), stores_formed (base + 1) s (from + 1) n (p + 1))

  pub zeros_formed : (to n p : ℕ) → IsFormed p (zeros to n)
  zeros_formed to zero p = tt
  zeros_formed to (suc n) p = ((small_zero, tt), zeros_formed (to + 1) n (p + 1))

  constants_formed : (to : ℕ) (ns : List ℕ) (p : ℕ) → IsFormed p (constants to ns)
  constants_formed to [] p = tt
  constants_formed to (n ∷ ns) p = ((small_rest n, tt), constants_formed (to + 1) ns (p + 1))

  called_formed : (o : Option Numbers) (call : Type 0) (top p : ℕ) (code : Code)
      → UnlessCalled o call → (call → HasAt body p code → IsFormed p code)
      → HasAt body p (unless_called o top code) → IsFormed p (unless_called o top code)
  called_formed None call top p code fits go at = go fits at
  called_formed (Some d) call top p code fits go at = constants_formed top d.items p

  bounds_formed : (s : ℕ) (dims : List ℕ) (n p : ℕ) → IsFormed p (bounds s dims n)
  bounds_formed s [] n p = tt
  bounds_formed s (d ∷ ds) zero p = tt
  bounds_formed s (d ∷ ds) (suc n) p = ((tt, tt), bounds_formed (s + 1) ds n (p + 1))

  offset_formed : (s : ℕ) (dims : List ℕ) (n p : ℕ) → IsFormed p (offset_code s dims n)
  offset_formed s [] n p = tt
  offset_formed s (d ∷ ds) zero p = ((tt, tt), rest (elements ds == 1))
    where
      rest : (b : Bool) → IsFormed (p + 1) (cond b [] (op.Const (s + 1) (elements ds % P) ∷
          op.Bin op2.Mul s s (s + 1) ∷ []))
      rest true = tt
      rest false = ((small_rest (elements ds), tt), ((tt, tt), tt))
  offset_formed s (d ∷ ds) (suc n) p = (
    (tt, tt),
    formed_append (p + 1) (offset_code (s + 1) ds n) (op.Const (s + 2) (elements ds % P) ∷
        op.Bin op2.Mul s s (s + 2) ∷ op.Bin op2.Add s s (s + 1) ∷ [])
        (offset_formed (s + 1) ds n (p + 1))
        ((small_rest (elements ds), tt), ((tt, tt), ((tt, tt), tt))),
  )

  read_formed : (home : Option Home) (top n p : ℕ) → IsFormed p (read_code home top n)
  read_formed None top n p = tt
  read_formed (Some h) top zero p = moves_formed top h.base (slots_of h.dims) p
  read_formed (Some h) top (suc n) p =
      formed_append p (offset_code top h.dims n)
      (loads top h.base (slots_of (drop (suc n) h.dims))) (offset_formed top h.dims n p)
      (loads_formed top h.base (slots_of (drop (suc n) h.dims))
      (p + length (offset_code top h.dims n)))

  pub write_formed : (home : Option Home) (s n from size p : ℕ)
      → IsFormed p (write_code home s n from size)
  write_formed None s n from size p = tt
  write_formed (Some h) s zero from size p = moves_formed h.base from size p
  write_formed (Some h) s (suc n) from size p =
      formed_append p (offset_code s h.dims n) (stores h.base s from size)
      (offset_formed s h.dims n p)
      (stores_formed h.base s from size (p + length (offset_code s h.dims n)))

  truth_formed : (s p : ℕ) → IsFormed p (truth_code s)
  truth_formed s p = ((tt, tt), ((tt, tt), tt))

  -- pieces with jumps
  pub unless_formed : (s p : ℕ) (piece : ℕ → Code) → HasAt body p (unless_zero s p piece)
      → IsFormed (p + 1) (piece (p + 1)) → IsFormed p (unless_zero s p piece)
  unless_formed s p piece at a =
      let end : ℕ = p + 1 + length (piece (p + 1)) in
      let whole : p + length (unless_zero s p piece) ≤ length body =
      has_within body p (op.JumpZero s end) (piece (p + 1)) at in
      ((tt, leads_on body p end (omega arith) (omega (arith, whole))), a)

  pub either_formed : (s p : ℕ) (first second : ℕ → Code)
      → HasAt body p (either s p first second) → IsFormed (p + 1) (first (p + 1))
      → IsFormed (p + 2 + length (first (p + 1))) (second (p + 2 + length (first (p + 1))))
      → IsFormed p (either s p first second)
  either_formed s p first second at a b =
      let one : Code = first (p + 1) in
      let q : ℕ = p + 2 + length one in
      let two : Code = second q in
      let end : ℕ = q + length two in
      let whole : p + length (op.JumpZero s q ∷ (one ++ op.Jump end ∷ two)) ≤ length body =
      has_within body p (op.JumpZero s q) (one ++ op.Jump end ∷ two) at in
      let size : length (one ++ op.Jump end ∷ two) ≡ length one + length (op.Jump end ∷ two) =
      length-append one (op.Jump end ∷ two) in
      let on : q ≡ p + 1 + length one + 1 = omega arith in (
        (tt, leads_on body p q (omega arith) (omega (arith, whole, size))),
        formed_append (p + 1) one (op.Jump end ∷ two) a (
          (
            tt,
            leads_on body (p + 1 + length one) end (omega arith) (omega (arith, whole, size)),
          ),
          subst (λ x. IsFormed x two) on b,
        ),
      )

  pub turned_formed : (s p : ℕ) (turn test : Code) → HasAt body p (turned s p turn test)
      → IsFormed (p + 2) turn → IsFormed (p + 2 + length turn) test
      → IsFormed p (turned s p turn test)
  turned_formed s p turn test at a b =
      let q : ℕ = p + 2 + length turn in
      let end : ℕ = p + 4 + length turn + length test in
      let last : Code = op.JumpZero s end ∷ op.Jump (p + 1) ∷ [] in
      let rest : Code = turn ++ (test ++ last) in
      let whole : p + length (turned s p turn test) ≤ length body =
      has_within body p (op.Jump q) (op.Turn ∷ rest) at in
      let size : length rest ≡ length turn + (length test + 2) =
      omega (arith, length-append turn (test ++ last), length-append test last) in
      let two : p + 2 ≡ p + 1 + 1 = omega arith in
      let three : q ≡ p + 1 + 1 + length turn = omega arith in
      let four : q + length test ≡ p + 1 + 1 + length turn + length test = omega arith in
      let back : slice_get body (p + 1) ≡ Some op.Turn = at.1.0 in
      let ends : IsFormed (q + length test) last = (
        (
          tt,
          leads_on body (q + length test) end (omega arith) (omega (arith, whole, size)),
        ),
        ((tt, record { within = omega (arith, whole, size); back = λ h. back }), tt),
      ) in (
        (tt, leads_on body p q (omega arith) (omega (arith, whole, size))),
        (
          (tt, tt),
          formed_append (p + 1 + 1) turn (test ++ last) (subst (λ x. IsFormed x turn) two a)
              (formed_append (p + 1 + 1 + length turn) test last
              (subst (λ x. IsFormed x test) three b) (subst (λ x. IsFormed x last) four ends)),
        ),
      )

  -- what a right operand is, wherever it stands
  abbrev RightFormed : (ℕ → ℕ → Code) → Type 0
  RightFormed right = (slot q : ℕ) → HasAt body q (right slot q) → IsFormed q (right slot q)

  binary_formed : (o : Operator) (top p : ℕ) (left : Code) (right : ℕ → ℕ → Code)
      → HasAt body p (binary_code o top p left right) → IsFormed p left → RightFormed right
      → IsFormed p (binary_code o top p left right)
  binary_formed (Strict o) top p left right at a b =
      let q : ℕ = p + length left in
      let two : Code = right (top + 1) q in
      let last : Code = op.Bin o top top (top + 1) ∷ [] in
      formed_append p left (two ++ last) a
      (formed_append q two last
      (b (top + 1) q (has_front body q two last (has_back body p left (two ++ last) at)))
      ((tt, tt), tt))
  binary_formed And top p left right at a b =
      let q : ℕ = p + length left in
      let piece : (ℕ → Code) = λ r. right top r ++ truth_code top in
      let at1 : HasAt body q (unless_zero top q piece) =
      has_back body p left (unless_zero top q piece) at in
      formed_append p left (unless_zero top q piece) a
      (unless_formed top q piece at1
      (formed_append (q + 1) (right top (q + 1)) (truth_code top)
      (b top (q + 1) (has_front body (q + 1) (right top (q + 1)) (truth_code top) at1.1))
      (truth_formed top (q + 1 + length (right top (q + 1))))))
  binary_formed Or top p left right at a b =
      let q : ℕ = p + length left in
      let one : (ℕ → Code) = λ r. op.Const top 1 ∷ [] in
      let piece : (ℕ → Code) = λ r. right top r ++ truth_code top in
      let at1 : HasAt body q (either top q one piece) =
      has_back body p left (either top q one piece) at in
      let r : ℕ = q + 2 + length (one (q + 1)) in
      let on : q + 1 + length (one (q + 1)) + 1 ≡ r = omega arith in
      let at2 : HasAt body r (piece r) =
      subst (λ x. HasAt body x (piece r)) on
      (has_back body (q + 1) (one (q + 1)) (op.Jump (r + length (piece r)) ∷ piece r) at1.1).1 in
      formed_append p left (either top q one piece) a
      (either_formed top q one piece at1 ((small_one, tt), tt)
      (formed_append r (right top r) (truth_code top)
      (b top r (has_front body r (right top r) (truth_code top) at2))
      (truth_formed top (r + length (right top r)))))

  lazy_formed : (o : Operator) (told : Option ℕ) (top p : ℕ) (left : Code)
      (right : ℕ → ℕ → Code)
      → HasAt body p (lazy_code (decided o told) top left (binary_code o top p left right))
      → IsFormed p left → UnlessSkipped (decided o told) (RightFormed right)
      → IsFormed p (lazy_code (decided o told) top left (binary_code o top p left right))
  lazy_formed o told top p left right at a b = by (decided o told) (small o told) at b
    where
      small : (o : Operator) (told : Option ℕ) (n : ℕ) → decided o told ≡ Some n → n < P
      small (Strict o) told n e = cc
      small And None n e = cc
      small Or None n e = cc
      small And (Some m) n e = zero_only (m == 0) e
        where
          zero_only : (b : Bool) → cond b (Some 0) None ≡ Some n → n < P
          zero_only true e = let same : 0 ≡ n = cc in subst (λ x. x < P) same small_zero
          zero_only false e = cc
      small Or (Some m) n e = one_only (m == 0) e
        where
          one_only : (b : Bool) → cond b None (Some 1) ≡ Some n → n < P
          one_only true e = cc
          one_only false e = let same : 1 ≡ n = cc in subst (λ x. x < P) same small_one

      by : (d : Option ℕ) → ((n : ℕ) → d ≡ Some n → n < P)
          → HasAt body p (lazy_code d top left (binary_code o top p left right))
          → UnlessSkipped d (RightFormed right)
          → IsFormed p (lazy_code d top left (binary_code o top p left right))
      by None less at b = binary_formed o top p left right at a b
      by (Some n) less at b =
          formed_append p left (op.Const top n ∷ []) a ((less n refl, tt), tt)

  -- what a side of `?:` is, wherever it stands
  abbrev SideFormed : (ℕ → Code) → Type 0
  SideFormed side = (q : ℕ) → HasAt body q (side q) → IsFormed q (side q)

  choice_formed : (told : Option ℕ) (s p : ℕ) (first second : ℕ → Code)
      → HasAt body p (choice_code told s p first second)
      → Sides told (SideFormed first) (SideFormed second)
      → IsFormed p (choice_code told s p first second)
  choice_formed None s p first second at (a, b) =
      let one : Code = first (p + 1) in
      let q : ℕ = p + 2 + length one in
      let two : Code = second q in
      let on : p + 1 + length one + 1 ≡ q = omega arith in
      either_formed s p first second at
      (a (p + 1) (has_front body (p + 1) one (op.Jump (q + length two) ∷ two) at.1))
      (b q (subst (λ x. HasAt body x two) on
      (has_back body (p + 1) one (op.Jump (q + length two) ∷ two) at.1).1))
  choice_formed (Some zero) s p first second at b = b p at
  choice_formed (Some (suc m)) s p first second at a = a p at

module _ (stands : Stands) (body : List Op) (g : Ground) (homes : Homes) where
  call_formed : (top p : ℕ) (m : Meant) (shapes : List (List ℕ)) → IsCalled g.keys m shapes
      → Formed g.keys stands body p (call_code g.keys top m shapes)
  call_formed top p (meant.Function f) shapes key =
      ((record { key = key.found; there = key.there }, tt), tt)
  call_formed top p meant.Other shapes key = absurd key
  call_formed top p (meant.Variable n) shapes key = absurd key
  call_formed top p (meant.Signal direction n) shapes key = absurd key
  call_formed top p (meant.Component n) shapes key = absurd key
  call_formed top p (meant.Template n) shapes key = absurd key

  mutual
    pub expr_formed : (e : Expr Meant) (top p : ℕ) → Fits g homes e
        → HasAt body p (expr_code g homes top p e)
        → Formed g.keys stands body p (expr_code g homes top p e)
    expr_formed (Number n) top p fits at = ((small_rest n, tt), tt)
    expr_formed (Place name m accessors) top p fits at =
        place_formed accessors (Named m) [] top p fits at
    expr_formed (Call parallel name m arguments) top p fits at =
        let one : Code = exprs_code g homes top p arguments in
        let shapes : List (List ℕ) = shapes_of g homes arguments in
        let two : Code = call_code g.keys top m shapes in
        called_formed g.keys stands body (g.called (Call parallel name m arguments))
        (AllFit g homes arguments × IsCalled g.keys m shapes) top p (one ++ two) fits
        (λ made h. formed_append g.keys stands body p one two
        (exprs_formed arguments top p made.0 (has_front body p one two h))
        (call_formed top (p + length one) m shapes made.1)) at
    expr_formed (Anonymous parallel name m arguments inputs) top p fits at = absurd fits
    expr_formed (Parentheses e) top p fits at = expr_formed e top p fits at
    expr_formed (Array none) top p fits at = absurd fits
    expr_formed (Array (more e es)) top p (fe, all, same) at =
        exprs_formed (more e es) top p (fe, all) at
    expr_formed (Unary o a) top p (fits, shape) at =
        let one : Code = expr_code g homes top p a in
        formed_append g.keys stands body p one _
        (expr_formed a top p fits (has_front body p one _ at)) ((tt, tt), tt)
    expr_formed (Binary o a b) top p ((fa, sa), fb) at =
        let left : Code = expr_code g homes top p a in
        let right : (ℕ → ℕ → Code) = λ slot q. expr_code g homes slot q b in
        lazy_formed g.keys stands body (operator_of o) (g.known a) top p left right at
        (expr_formed a top p fa
        (left_at (operator_of o) (g.known a) body top p left right at))
        (unless_map (decided (operator_of o) (g.known a))
        (λ fits slot q h. expr_formed b slot q fits.0 h) fb)
    expr_formed (Choice c a b) top p ((fc, sc), sides) at =
        let one : Code = expr_code g homes top p c in
        let q : ℕ = p + length one in
        let first : (ℕ → Code) = λ r. expr_code g homes top r a in
        let second : (ℕ → Code) = λ r. expr_code g homes top r b in
        let two : Code = choice_code (g.known c) top q first second in
        formed_append g.keys stands body p one two
        (expr_formed c top p fc (has_front body p one two at))
        (choice_formed g.keys stands body (g.known c) top q first second
        (has_back body p one two at)
        (sides_map (g.known c) (λ fits r h. expr_formed a top r fits.0 h)
        (λ fits r h. expr_formed b top r fits.0 h) sides))

    pub exprs_formed : (es : Exprs Meant) (top p : ℕ) → AllFit g homes es
        → HasAt body p (exprs_code g homes top p es)
        → Formed g.keys stands body p (exprs_code g homes top p es)
    exprs_formed none top p fits at = tt
    exprs_formed (more e es) top p (fe, fs) at =
        let one : Code = expr_code g homes top p e in
        let q : ℕ = p + length one in
        let two : Code = exprs_code g homes (top + size_of g homes e) q es in
        formed_append g.keys stands body p one two
        (expr_formed e top p fe (has_front body p one two at))
        (exprs_formed es (top + size_of g homes e) q fs (has_back body p one two at))

    pub place_formed : (rest : Accessors Meant) (front : Front) (known : List (Option ℕ))
        (top p : ℕ) → PlaceFits g homes front known rest
        → HasAt body p (place_code g homes top p front known rest)
        → Formed g.keys stands body p (place_code g homes top p front known rest)
    place_formed done front known top p fits at =
        read_formed g.keys stands body (home_of homes front) top (length known) p
    place_formed (index e rest) front known top p (fe, se, fr) at =
        let one : Code = expr_code g homes (top + length known) p e in
        let q : ℕ = p + length one in
        let two : Code = place_code g homes top q front (known ++ g.known e ∷ []) rest in
        formed_append g.keys stands body p one two
        (expr_formed e (top + length known) p fe (has_front body p one two at))
        (place_formed rest front (known ++ g.known e ∷ []) top q fr (has_back body p one two at))
    place_formed (member name rest) front known top p (component, fr) at =
        let one : Code = bounds top (component_dims g front) (length known) in
        let q : ℕ = p + length one in
        let behind : Front = port_of g homes front known name in
        let two : Code = place_code g homes top q behind [] rest in
        formed_append g.keys stands body p one two
        (bounds_formed g.keys stands body top (component_dims g front) (length known) p)
        (place_formed rest behind [] top q fr (has_back body p one two at))

  pub indices_formed : (rest : Accessors Meant) (slot p : ℕ) → IndicesFit g homes rest
      → HasAt body p (indices_code g homes slot p rest)
      → Formed g.keys stands body p (indices_code g homes slot p rest)
  indices_formed done slot p fits at = tt
  indices_formed (member name rest) slot p fits at = absurd fits
  indices_formed (index e rest) slot p ((fe, se), fr) at =
      let one : Code = expr_code g homes slot p e in
      let q : ℕ = p + length one in
      let two : Code = indices_code g homes (slot + 1) q rest in
      formed_append g.keys stands body p one two
      (expr_formed e slot p fe (has_front body p one two at))
      (indices_formed rest (slot + 1) q fr (has_back body p one two at))
