-- The code of an expression does what the expression means.
use Rattle.std.proofs.Common.{◌≡◌, ℕ, zero, suc, ◌+◌, ◌*◌, ◌%◌, ◌≤◌, max, Bool, true, false, cond}
use Rattle.std.proofs.Common.{List, [], ◌∷◌, ◌++◌, length, map, drop, flat_map, Option, Some, None}
use Rattle.std.proofs.Common.{Result, Ok, Err, refl, sym, ap, ap₂, subst, ◌∙◌, arith, length-append}
use Rattle.std.proofs.Common.{suc-mul, zero-mul}
use Rattle.std.specs.Prelude.{slice_get, slice_index, ◌==◌}
use Rattle.std.proofs.lemmas.Bool.{ne_eqb}
use Rattle.gold_field.specs.declared.gold.TheConstants.{P}
use Rattle.gold_field.specs.Operators.{unary_of as number_by}
use Rattle.wit_code.specs.declared.code.Op.{Op}
use Rattle.wit_code.specs.declared.code.Op.TheVariants as op
use Rattle.wit_code.specs.Table.{State}
use Rattle.cir_ast.specs.declared.program.Meant.{Meant}
use Rattle.cir_ast.specs.declared.program.Meant.TheVariants as meant
use Rattle.cir_ast.specs.declared.operators.Unary.{Unary as UnaryOp}
use Rattle.cir_ast.specs.Tree.{Expr, Number, Place, Call, Anonymous, Parentheses, Array, Unary}
use Rattle.cir_ast.specs.Tree.{Binary, Choice, Exprs, none, more, Accessors, done, index, member}
use Rattle.cir_meaning.specs.Tried.{next}
use Rattle.cir_meaning.specs.Places.{is_inside, all_known, followed as known_first}
use Rattle.cir_meaning.specs.Arrays.{Shaped, single, made}
use Rattle.cir_meaning.specs.Operators.{Operator, Strict, And, Or, operator_of, unary_of}
use Rattle.cir_meaning.specs.Costs.{Made}
use Rattle.cir_meaning.specs.RunValues.{Ran, Numbers, Environment, Store, stored, gives, number}
use Rattle.cir_meaning.specs.RunValues.{number_in, numbers_in, place_in, read_root, RunRoot}
use Rattle.cir_meaning.specs.RunValues.{RunNamed, RunFound, the_number, index_out, unless_known}
use Rattle.cir_meaning.specs.RunValues.{read_option, read_wired, gathered_numbers, call_function}
use Rattle.wit_lower.specs.Homes.{Name, Variable, Signal, Port, Home, Homes, Ground, Front, Named}
use Rattle.wit_lower.specs.Homes.{Found, Lost, find, home_of, port_at, slots_of, offset, row}
use Rattle.wit_lower.specs.Pieces.{Code, either, bounds, read_code, binary_code, decided, lazy_code}
use Rattle.wit_lower.specs.Pieces.{choice_code, constants}
use Rattle.wit_lower.specs.Values.{shape_of, shapes_of, size_of, place_shape, part_shape, expr_code}
use Rattle.wit_lower.specs.Values.{exprs_code, place_code, number_of, call_code, count_of}
use Rattle.wit_lower.specs.Values.{called_shape, unless_called}
use Rattle.wit_lower.specs.Fits.{AreLaid, UnlessCalled, IsCalled, HasHome, EndFits, HaveShape}
use Rattle.wit_lower.specs.Fits.{Sides, Fits, AllFit, PlaceFits}
use Rattle.wit_lower.proofs.Does.{Setting, Does, does_next, does_same, does_weaker, gives as there}
use Rattle.wit_lower.proofs.Does.{misses, HasAt, has_front, has_back}
use Rattle.wit_lower.proofs.Frames.{Below, below_itself, below_then, row_below}
use Rattle.wit_lower.proofs.Spots.{Spot, here, body_at, IsWide, step_at, at_state}
use Rattle.wit_lower.proofs.Pieces.{bounds_do, constants_go}
use Rattle.wit_lower.proofs.Shows.{Carries, CarriesSome, CarriesFound, Shows, Lies, lies}
use Rattle.wit_lower.proofs.Shows.{shows_below}
use Rattle.wit_lower.proofs.Parts.{Valued, stored_does, wired_does, rows_made}
use Rattle.wit_lower.proofs.Operators.{Moved, valued_moved, valued_number, valued_later}
use Rattle.wit_lower.proofs.Operators.{number_does, either_does, put_number, unless_map, lazy_does}

-- arguments of these shapes in a row of slots
abbrev pub args_of : List (List ℕ) → (f : List ℕ) → (first : ℕ) → List Numbers
args_of [] f a = []
args_of (dims ∷ rest) f a =
    record { dims = dims; items = row f a (slots_of dims) } ∷ args_of rest f (a + slots_of dims)

pub record Valueds (sp : Spot) (top q : ℕ) (shapes : List (List ℕ)) (f : List ℕ) (u : ℕ)
    (x : List Numbers × ℕ) (t : State) : Type 0 where
  pub slots : List ℕ
  pub is : t ≡ here sp q slots x.1
  pub same : Below top f slots
  pub values : x.0 ≡ args_of shapes slots top
  pub less : x.1 ≤ u

-- each procedure does what its function means
pub record CallsRun (k : Setting) (sp : Spot) (width : ℕ) (keys : List Made)
    (call : ℕ → List Numbers → ℕ → Ran Numbers) : Type 0 where
  pub runs : (n : ℕ) (key : Made) → slice_get keys n ≡ Some key → (first p : ℕ) (f : List ℕ)
      (u : ℕ) → length f ≡ width → slice_get (body_at k sp) p ≡ Some (op.Call n first first)
      → Does k (here sp p f u) (call key.function (args_of key.shapes f first) u)
      (Valued sp first (p + 1) [] f u)

-- indices agree with the numbers that are known of them
abbrev pub Agree : List (Option ℕ) → List ℕ → Type 0
Agree [] [] = Unit {0}
Agree [] (i ∷ is) = ⊥
Agree (o ∷ os) [] = ⊥
Agree (o ∷ os) (i ∷ is) = ((n : ℕ) → o ≡ Some n → i ≡ n) × Agree os is

pub agree_more : (os : List (Option ℕ)) (is : List ℕ) (o : Option ℕ) (i : ℕ) → Agree os is
    → ((n : ℕ) → o ≡ Some n → i ≡ n) → Agree (os ++ o ∷ []) (is ++ i ∷ [])
agree_more [] [] o i a h = (h, tt)
agree_more [] (j ∷ is) o i a h = absurd a
agree_more (p ∷ os) [] o i a h = absurd a
agree_more (p ∷ os) (j ∷ is) o i (b, a) h = (b, agree_more os is o i a h)

pub agree_all : (os : List (Option ℕ)) (is ns : List ℕ) → Agree os is → all_known os ≡ Some ns
    → is ≡ ns
agree_all [] [] ns a e = cc
agree_all [] (j ∷ is) ns a e = absurd a
agree_all (o ∷ os) [] ns a e = absurd a
agree_all (None ∷ os) (j ∷ is) ns a e = cc
agree_all (Some n ∷ os) (j ∷ is) ns (b, a) e =
    at (all_known os) (λ ms x. agree_all os is ms a x) refl e
  where
    at : (x : Option (List ℕ)) → ((ms : List ℕ) → all_known os ≡ Some ms → is ≡ ms)
        → all_known os ≡ x → known_first n x ≡ Some ns → j ∷ is ≡ ns
    at None h ex e = cc
    at (Some ms) h ex e =
        let same : n ∷ ms ≡ ns = cc in
        ap₂ (λ y ys. y ∷ ys) (b n refl) (h ms ex) ∙ same

pub row_snoc : (f : List ℕ) (a n : ℕ) → row f a (n + 1) ≡ row f a n ++ slice_index f (a + n) ∷ []
row_snoc f a n = subst (λ x. row f a x ≡ row f a n ++ slice_index f (a + n) ∷ []) one (at f a n)
  where
    one : suc n ≡ n + 1
    one = omega arith

    at : (f : List ℕ) (a n : ℕ) → row f a (suc n) ≡ row f a n ++ slice_index f (a + n) ∷ []
    at f a zero = let e : a ≡ a + 0 = omega arith in ap (λ x. slice_index f x ∷ []) e
    at f a (suc n) =
        let e : a + 1 + n ≡ a + suc n = omega arith in
        ap (λ xs. slice_index f a ∷ xs) (at f (a + 1) n ∙
        ap (λ x. row f (a + 1) n ++ slice_index f x ∷ []) e)

-- where a place begins: a name, or a port with its numbers
abbrev root_of : Front → Shaped (Option ℕ) → RunRoot
root_of (Named m) d = RunNamed m
root_of (Found h) d = RunFound d
root_of Lost d = RunFound d

abbrev FrontHeld : Front → Shaped (Option ℕ) → (top : ℕ) → (f : List ℕ) → Type 0
FrontHeld (Named m) d top f = Unit {0}
FrontHeld (Found None) d top f = Unit {0}
FrontHeld (Found (Some h)) d top f = Carries d h.dims (row f h.base (slots_of h.dims)) × Lies top h
FrontHeld Lost d top f = ⊥

held_below : (front : Front) (d : Shaped (Option ℕ)) (top : ℕ) (f f' : List ℕ) → Below top f f'
    → FrontHeld front d top f → FrontHeld front d top f'
held_below (Named m) d top f f' b h = tt
held_below (Found None) d top f f' b h = tt
held_below Lost d top f f' b h = absurd h
held_below (Found (Some h)) d top f f' b (c, l) =
    (subst (Carries d h.dims) (sym (row_below top f f' h.base (slots_of h.dims) b l.below)) c, l)

-- the found port of a component
abbrev PortHeld : Result (Shaped (Option ℕ)) ℕ → Option Home → (top : ℕ) → (f : List ℕ) → Type 0
PortHeld r None top f = Unit {0}
PortHeld (Ok d) (Some h) top f = Carries d h.dims (row f h.base (slots_of h.dims)) × Lies top h
PortHeld (Err x) (Some h) top f = x ≡ 0

abbrev PortFront : Result (Shaped (Option ℕ)) ℕ → Front → (top : ℕ) → (f : List ℕ) → Type 0
PortFront r (Named m) top f = ⊥
PortFront r (Found home) top f = PortHeld r home top f
PortFront r Lost top f = ⊥

pub below_less : (a b : ℕ) (f g : List ℕ) → a ≤ b → Below b f g → Below a f g
below_less a b f g le h =
    record { size = h.size; under = λ x y. h.under x (omega (arith, y, le)) }

module _ (g : Ground) (homes : Homes) where
  no_home : (rest : Accessors Meant) (known : List (Option ℕ))
      → PlaceFits g homes (Found None) known rest → ⊥
  no_home done known h = let e : None ≡ Some h.at = h.found in cc
  no_home (index e rest) known (a, b, c) = no_home rest (known ++ g.known e ∷ []) c
  no_home (member name rest) known (a, b) = absurd a

pub left_at : (o : Operator) (told : Option ℕ) (body : List Op) (top p : ℕ) (left : Code)
    (right : ℕ → ℕ → Code)
    → HasAt body p (lazy_code (decided o told) top left (binary_code o top p left right))
    → HasAt body p left
left_at o told body top p left right h = at (decided o told) h
  where
    both : (o : Operator) → HasAt body p (binary_code o top p left right) → HasAt body p left
    both (Strict o) h = has_front body p left _ h
    both And h = has_front body p left _ h
    both Or h = has_front body p left _ h

    at : (d : Option ℕ) → HasAt body p (lazy_code d top left (binary_code o top p left right))
        → HasAt body p left
    at None h = both o h
    at (Some n) h = has_front body p left (op.Const top n ∷ []) h

pub sides_map : {A B C D : Type 0} (t : Option ℕ) → (A → C) → (B → D) → Sides t A B → Sides t C D
sides_map None f g (a, b) = (f a, g b)
sides_map (Some zero) f g b = g b
sides_map (Some (suc m)) f g a = f a

row_append : (f : List ℕ) (a m n : ℕ) → row f a (m + n) ≡ row f a m ++ row f (a + m) n
row_append f a zero n =
    let e : zero + n ≡ n = omega arith in
    let z : a ≡ a + 0 = omega arith in
    ap (row f a) e ∙ ap (λ b. row f b n) z
row_append f a (suc m) n =
    let e : suc m + n ≡ suc (m + n) = omega arith in
    let z : a + 1 + m ≡ a + suc m = omega arith in
    ap (row f a) e ∙
    ap (λ xs. slice_index f a ∷ xs) (row_append f (a + 1) m n ∙
    ap (λ b. row f (a + 1) m ++ row f b n) z)

-- the elements of a literal stand one behind the other
module _ (g : Ground) (homes : Homes) (dims : List ℕ) where
  flat_row : (es : Exprs Meant) (f : List ℕ) (a : ℕ) → HaveShape g homes dims es
      → flat_map (λ d. d.items) (args_of (shapes_of g homes es) f a)
      ≡ row f a (count_of es * slots_of dims)
  flat_row none f a h =
      let e : zero * slots_of dims ≡ 0 = zero-mul (slots_of dims) in
      sym (ap (row f a) e)
  flat_row (more e es) f a (same, h) =
      let size : slots_of (shape_of g homes e) ≡ slots_of dims = ap slots_of same in
      let n : ℕ = count_of es in
      let total : slots_of dims + n * slots_of dims ≡ suc n * slots_of dims =
      omega (arith, suc-mul n (slots_of dims)) in
      ap (λ x. row f a x ++ flat_map (λ d. d.items) (args_of (shapes_of g homes es) f (a + x)))
      size ∙
      ap (λ xs. row f a (slots_of dims) ++ xs) (flat_row es f (a + slots_of dims) h) ∙
      sym (row_append f a (slots_of dims) (n * slots_of dims)) ∙ ap (row f a) total

  args_count : (es : Exprs Meant) (f : List ℕ) (a : ℕ)
      → length (args_of (shapes_of g homes es) f a) ≡ count_of es
  args_count none f a = refl
  args_count (more e es) f a = ap (λ n. suc n) (args_count es f _)

gathered_is : (g : Ground) (homes : Homes) (e : Expr Meant) (es : Exprs Meant) (f : List ℕ)
    (a : ℕ) → HaveShape g homes (shape_of g homes e) es
    → gathered_numbers (args_of (shapes_of g homes (more e es)) f a)
    ≡ record {
      dims = shape_of g homes (Array (more e es));
      items = row f a (slots_of (shape_of g homes (Array (more e es))));
    }
gathered_is g homes e es f a h =
    let dims : List ℕ = shape_of g homes e in
    let flat : flat_map (λ d. d.items) (args_of (shapes_of g homes (more e es)) f a)
    ≡ row f a (suc (count_of es) * slots_of dims) =
    flat_row g homes dims (more e es) f a (refl, h) in
    ap₂ (λ c xs. made (suc c ∷ dims) xs) (args_count g homes dims es f (a + slots_of dims)) flat ∙
    rows_made (count_of es) dims f a

module _ (k : Setting) (sp : Spot) (params : ℕ → ℕ) (width : ℕ)
    (wide : IsWide params width (body_at k sp)) (g : Ground) (env : Environment) (homes : Homes)
    (low : ℕ) (laid : AreLaid homes low) (store : Store)
    (calls : CallsRun k sp width g.keys env.call) where
  -- a place that has no more accessors
  done_does : (front : Front) (d : Shaped (Option ℕ)) (c top p : ℕ) (f : List ℕ) (u : ℕ)
      (h : Home) → low ≤ top → length f ≡ width → FrontHeld front d low f
      → Shows g env homes store f → home_of homes front ≡ Some h → c ≤ length h.dims
      → HasAt (body_at k sp) p (read_code (Some h) top c)
      → Does k (here sp p f u) (read_root env store (root_of front d) (row f top c) u)
      (Valued sp top (p + length (read_code (Some h) top c)) (drop c h.dims) f u)
  done_does (Named (meant.Variable n)) d c top p f u h le len held shows e rank at =
      let l : Lies low h = lies homes low (Variable n) h laid e in
      stored_does k sp params width wide h (stored store n) c top p f u len
      record { below = omega (arith, l.below, le); fits = l.fits } rank
      (shows.each (Variable n) h e) at
  done_does (Named (meant.Signal direction n)) d c top p f u h le len held shows e rank at =
      signal (env.signal n) (shows.each (Signal n) h e)
    where
      l : Lies low h
      l = lies homes low (Signal n) h laid e

      Q : Numbers × ℕ → State → Type 0
      Q = Valued sp top (p + length (read_code (Some h) top c)) (drop c h.dims) f u

      signal : (o : Option (Shaped (Option ℕ)))
          → CarriesSome o h.dims (row f h.base (slots_of h.dims))
          → Does k (here sp p f u) (read_option o (row f top c) u) Q
      signal None carries = misses k Q (here sp p f u)
      signal (Some w) carries =
          wired_does k sp params width wide h w c top p f u len
          record { below = omega (arith, l.below, le); fits = l.fits } rank carries at
  done_does (Named meant.Other) d c top p f u h le len held shows e rank at = cc
  done_does (Named (meant.Component n)) d c top p f u h le len held shows e rank at = cc
  done_does (Named (meant.Template n)) d c top p f u h le len held shows e rank at = cc
  done_does (Named (meant.Function n)) d c top p f u h le len held shows e rank at = cc
  done_does (Found None) d c top p f u h le len held shows e rank at = cc
  done_does Lost d c top p f u h le len held shows e rank at = cc
  done_does (Found (Some j)) d c top p f u h le len (carries, l) shows e rank at =
      let same : j ≡ h = cc in
      subst (λ x. HasAt (body_at k sp) p (read_code (Some x) top c) → c ≤ length x.dims
      → Does k (here sp p f u) (read_wired d (row f top c) u)
      (Valued sp top (p + length (read_code (Some x) top c)) (drop c x.dims) f u)) same
      (λ at' rank'. wired_does k sp params width wide j d c top p f u len
      record { below = omega (arith, l.below, le); fits = l.fits } rank' carries at') at rank

  end_home : (front : Front) (c : ℕ) (d : Shaped (Option ℕ)) (f : List ℕ)
      → FrontHeld front d low f → EndFits homes front c → HasHome (home_of homes front) c
  end_home (Named m) c d f held fits = fits
  end_home (Found home) c d f held fits = fits
  end_home Lost c d f held fits = absurd held

  -- the port that the machine comes to is the one of the meaning
  port_held : (n : ℕ) (indices name : List ℕ) (known : List (Option ℕ)) (f : List ℕ)
      → Agree known indices → Shows g env homes store f
      → is_inside (g.components n) (map Some indices) ≡ true
      → PortFront (env.part n indices name)
      (port_at homes n (g.components n) name (all_known known)) low f
  port_held n indices name known f a shows inside =
      keys (all_known known) (λ ns e. agree_all known indices ns a e)
    where
      port : (o : Option Home) (r : Result (Shaped (Option ℕ)) ℕ)
          → ((h : Home) → o ≡ Some h → CarriesFound r h.dims (row f h.base (slots_of h.dims))
          × Lies low h) → PortHeld r o low f
      port None r h = tt
      port (Some j) (Ok d) h = h j refl
      port (Some j) (Err x) h = (h j refl).0

      keys : (o : Option (List ℕ)) → ((ns : List ℕ) → o ≡ Some ns → indices ≡ ns)
          → PortFront (env.part n indices name) (port_at homes n (g.components n) name o) low f
      keys None h = tt
      keys (Some ns) h =
          let same : indices ≡ ns = h ns refl in
          let at : Name = Port n (offset (g.components n) ns) name in
          subst (λ b. PortFront (env.part n indices name)
          (cond b (Found (find at homes)) Lost) low f)
          (sym inside ∙ ap (λ xs. is_inside (g.components n) (map Some xs)) same)
          (port (find at homes) (env.part n indices name)
          (λ j e. (
            shows.each at j e indices inside (ap (offset (g.components n)) same),
            lies homes low at j laid e,
          )))

  inner : Result (Shaped (Option ℕ)) ℕ → Accessors Meant → ℕ → Ran Numbers
  inner r rest u = next r (λ d. place_in env store (RunFound d) [] rest u)

  outside_cond : (n : ℕ) (indices name : List ℕ) (rest : Accessors Meant) (u : ℕ) (b : Bool)
      → is_inside (g.components n) (map Some indices) ≡ b
      → (is_inside (g.components n) (map Some indices) ≡ false
      → env.part n indices name ≡ Err index_out)
      → cond b (inner (env.part n indices name) rest u) (Err index_out)
      ≡ inner (env.part n indices name) rest u
  unfolding inner
  outside_cond n indices name rest u true e h = refl
  outside_cond n indices name rest u false e h =
      ap (λ r. next r (λ d. place_in env store (RunFound d) [] rest u)) (sym (h e))

  inner_is : (n : ℕ) (indices name : List ℕ) (rest : Accessors Meant) (u : ℕ)
      (G : Ran Numbers → Type 0) → G (inner (env.part n indices name) rest u)
      → G (next (env.part n indices name) (λ d. place_in env store (RunFound d) [] rest u))
  unfolding inner
  inner_is n indices name rest u G h = h

  member_does : (rest : Accessors Meant) (front : Front) (r : Result (Shaped (Option ℕ)) ℕ)
      (top q end : ℕ) (dims f : List ℕ) (u : ℕ) → PortFront r front low f
      → (front ≡ Found None → ⊥)
      → ((w : Shaped (Option ℕ)) → FrontHeld front w low f
      → Does k (here sp q f u) (place_in env store (root_of front w) [] rest u)
      (Valued sp top end dims f u))
      → Does k (here sp q f u) (inner r rest u) (Valued sp top end dims f u)
  unfolding inner
  member_does rest (Named m) r top q end dims f u held never go = absurd held
  member_does rest Lost r top q end dims f u held never go = absurd held
  member_does rest (Found None) r top q end dims f u held never go = absurd (never refl)
  member_does rest (Found (Some h)) (Ok w) top q end dims f u held never go = go w held
  member_does rest (Found (Some h)) (Err x) top q end dims f u held never go =
      does_same k (Valued sp top end dims f u) (here sp q f u) (Err 0) (Err x) (ap Err (sym held))
      (misses k (Valued sp top end dims f u) (here sp q f u))

  -- a value that is one number stands there
  scalar_does : (s : State) (m : Ran Numbers) (top q : ℕ) (dims f f' : List ℕ) (u u' : ℕ)
      → dims ≡ [] → Below top f f' → u' ≤ u → Does k s m (Valued sp top q dims f' u')
      → Does k s (number m (λ n u2. gives (single n) u2)) (Valued sp top q [] f u)
  scalar_does s m top q dims f f' u u' e b le d =
      number_does k sp (Valued sp top q [] f u) s m (λ n u2. gives (single n) u2) top q dims f' u'
      e d
      (λ slots v b1 le1 told. there k (Valued sp top q [] f u) (here sp q slots v)
      (single (slice_index slots top), v)
      (valued_number sp top q f u (slice_index slots top) v slots
      (below_then top top f f' slots (omega arith) b b1) refl (omega (arith, le, le1))))

  unary_does : (o : UnaryOp) (a : Expr Meant) (top p : ℕ) (f : List ℕ) (u : ℕ)
      → length f ≡ width → shape_of g homes a ≡ []
      → HasAt (body_at k sp) (p + length (expr_code g homes top p a))
      (op.Un (unary_of o) top top ∷ [])
      → Does k (here sp p f u) (number_in env store a u)
      (Valued sp top (p + length (expr_code g homes top p a)) (shape_of g homes a) f u)
      → Does k (here sp p f u) (number_in env store (Unary o a) u)
      (Valued sp top (p + length (expr_code g homes top p (Unary o a))) [] f u)
  unary_does o a top p f u len shape (e, h) d =
      let first : Code = expr_code g homes top p a in
      let q : ℕ = p + length first in
      let end : ℕ = p + length (first ++ op.Un (unary_of o) top top ∷ []) in
      let room : max top top + 1 ≤ width = wide q (op.Un (unary_of o) top top) e in
      number_does k sp (Valued sp top end [] f u) (here sp p f u) (number_in env store a u)
      (λ n u1. gives (single (number_by (unary_of o) n)) u1) top q (shape_of g homes a) f u shape d
      (λ slots v b le told. put_number k sp params width wide top q end v
      (number_by (unary_of o) (slice_index slots top)) f slots u (op.Un (unary_of o) top top) e
      (omega (arith, room, len, b.size))
      (omega (arith, length-append first (op.Un (unary_of o) top top ∷ []))) b le
      (step_at k sp q slots v (op.Un (unary_of o) top top) e))

  scalar_is : (e : Expr Meant) (top q : ℕ) (f : List ℕ) (v : ℕ) → shape_of g homes e ≡ []
      → Does k (here sp q f v) (number_in env store e v)
      (Valued sp top (q + length (expr_code g homes top q e)) (shape_of g homes e) f v)
      → Does k (here sp q f v) (number_in env store e v)
      (Valued sp top (q + length (expr_code g homes top q e)) [] f v)
  scalar_is e top q f v same d =
      subst (λ dims. Does k (here sp q f v) (number_in env store e v)
      (Valued sp top (q + length (expr_code g homes top q e)) dims f v)) same d

  -- what a side of `?:` does, wherever it stands
  abbrev SideDoes : (e : Expr Meant) → (top : ℕ) → (f : List ℕ) → Type 0
  SideDoes e top f =
      (q : ℕ) (f1 : List ℕ) (v : ℕ) → Below top f f1
      → HasAt (body_at k sp) q (expr_code g homes top q e)
      → Does k (here sp q f1 v) (number_in env store e v)
      (Valued sp top (q + length (expr_code g homes top q e)) [] f1 v)

  choice_does : (c a b : Expr Meant) (top p : ℕ) (f : List ℕ) (u : ℕ) → length f ≡ width
      → shape_of g homes c ≡ []
      → ((n : ℕ) → g.known c ≡ Some n → (x : Numbers × ℕ) → number_in env store c u ≡ Ok x
      → the_number x.0 ≡ n)
      → HasAt (body_at k sp) p (expr_code g homes top p (Choice c a b))
      → Does k (here sp p f u) (number_in env store c u)
      (Valued sp top (p + length (expr_code g homes top p c)) (shape_of g homes c) f u)
      → Sides (g.known c) (SideDoes a top f) (SideDoes b top f)
      → Does k (here sp p f u) (number_in env store (Choice c a b) u)
      (Valued sp top (p + length (expr_code g homes top p (Choice c a b))) [] f u)
  choice_does c a b top p f u len sc known at dc sides = by (g.known c) known at sides
    where
      first : Code
      first = expr_code g homes top p c

      q1 : ℕ
      q1 = p + length first

      one : ℕ → Code
      one q = expr_code g homes top q a

      two : ℕ → Code
      two q = expr_code g homes top q b

      q2 : ℕ
      q2 = q1 + 2 + length (one (q1 + 1))

      end : ℕ
      end = p + length (first ++ either top q1 one two)

      ends : q2 + length (two q2) ≡ end
      ends = omega (
        arith,
        length-append first (either top q1 one two),
        length-append (one (q1 + 1)) (op.Jump (q2 + length (two q2)) ∷ two q2),
      )

      Q : Numbers × ℕ → State → Type 0
      Q = Valued sp top end [] f u

      chosen : Bool → ℕ → Ran Numbers
      chosen z v =
          number (cond z (number_in env store b v) (number_in env store a v))
          (λ n u2. gives (single n) u2)

      -- the side that a known condition chooses
      one_side : (e : Expr Meant) (z : Bool)
          → ((v : ℕ) → number (number_in env store e v) (λ n u2. gives (single n) u2) ≡ chosen z v)
          → (n : ℕ) → (n == 0) ≡ z
          → ((x : Numbers × ℕ) → number_in env store c u ≡ Ok x → the_number x.0 ≡ n)
          → HasAt (body_at k sp) p (first ++ expr_code g homes top q1 e) → SideDoes e top f
          → Does k (here sp p f u) (number (number_in env store c u) (λ m v. chosen (m == 0) v))
          (Valued sp top (p + length (first ++ expr_code g homes top q1 e)) [] f u)
      one_side e z same n en known at de =
          let last : Code = expr_code g homes top q1 e in
          let stop : ℕ = p + length (first ++ last) in
          let R : (Numbers × ℕ → State → Type 0) = Valued sp top stop [] f u in
          number_does k sp R (here sp p f u) (number_in env store c u) (λ m v. chosen (m == 0) v)
          top q1 (shape_of g homes c) f u sc dc (λ f1 v b1 le told.
          does_same k R (here sp q1 f1 v)
          (number (number_in env store e v) (λ n u2. gives (single n) u2))
          (chosen (slice_index f1 top == 0) v)
          (same v ∙ ap (λ y. chosen y v) (sym (ap (λ m. m == 0) (told n known) ∙ en)))
          (subst (λ q. Does k (here sp q1 f1 v)
          (number (number_in env store e v) (λ n u2. gives (single n) u2))
          (Valued sp top q [] f u)) (omega (arith, length-append first last))
          (scalar_does (here sp q1 f1 v) (number_in env store e v) top (q1 + length last) [] f f1 u
          v refl b1 le (de q1 f1 v b1 (has_back (body_at k sp) p first last at)))))

      by : (t : Option ℕ)
          → ((n : ℕ) → t ≡ Some n → (x : Numbers × ℕ) → number_in env store c u ≡ Ok x
          → the_number x.0 ≡ n)
          → HasAt (body_at k sp) p (first ++ choice_code t top q1 one two)
          → Sides t (SideDoes a top f) (SideDoes b top f)
          → Does k (here sp p f u) (number (number_in env store c u) (λ m v. chosen (m == 0) v))
          (Valued sp top (p + length (first ++ choice_code t top q1 one two)) [] f u)
      by (Some zero) known at db = one_side b true (λ v. refl) 0 refl (known 0 refl) at db
      by (Some (suc m)) known at da =
          one_side a false (λ v. refl) (suc m) (ne_eqb (suc m) 0 (λ e. cc)) (known (suc m) refl) at
          da
      by None known at (da, db) =
          number_does k sp Q (here sp p f u) (number_in env store c u)
          (λ m v. chosen (m == 0) v) top q1 (shape_of g homes c) f u sc dc (λ f1 v b1 le told.
          either_does k sp (Valued sp top (q1 + 1 + length (one (q1 + 1))) [] f u) Q
          (λ z. chosen z v) top q1 one two f1 v
          (has_back (body_at k sp) p first (either top q1 one two) at)
          (λ x t y. subst (λ q. Moved sp (q1 + 1 + length (one (q1 + 1))) q Q x t)
          (omega (arith, ends))
          (valued_moved sp top (q1 + 1 + length (one (q1 + 1))) end [] f u x t y))
          (λ h. subst (λ q. Does k (here sp q2 f1 v) (chosen true v) (Valued sp top q [] f u))
          (omega (arith, ends))
          (scalar_does (here sp q2 f1 v) (number_in env store b v) top (q2 + length (two q2))
          [] f f1 u v refl b1 le (db q2 f1 v b1 h)))
          (λ h. scalar_does (here sp (q1 + 1) f1 v) (number_in env store a v) top
          (q1 + 1 + length (one (q1 + 1))) [] f f1 u v refl b1 le
          (da (q1 + 1) f1 v b1 h)))

  -- a call that has its value isn't made
  value_does : (o : Option Numbers) (call : Type 0) (top p : ℕ) (f : List ℕ) (u : ℕ)
      (code : Code) (m : Ran Numbers) → length f ≡ width → UnlessCalled o call
      → (call → HasAt (body_at k sp) p code
      → Does k (here sp p f u) m (Valued sp top (p + length code) [] f u))
      → HasAt (body_at k sp) p (unless_called o top code)
      → Does k (here sp p f u) (unless_known o u m)
      (Valued sp top (p + length (unless_called o top code)) (called_shape o) f u)
  value_does None call top p f u code m len fits go at = go fits at
  value_does (Some d) call top p f u code m len fits go at =
      let Q : (Numbers × ℕ → State → Type 0) =
      Valued sp top (p + length (constants top d.items)) d.dims f u in
      constants_go k sp params width wide Q (gives d u) d.items top p f u len fits.numbers at
      (λ f1 c. there k Q (here sp (p + length (constants top d.items)) f1 u) (d, u) record {
        slots = f1;
        is = refl;
        same = record { size = c.size; under = c.under };
        value = ap (λ xs. record { dims = d.dims; items = xs }) (sym c.row_is ∙
            ap (row f1 top) fits.count);
        less = omega arith;
      })

  call_does : (m : Meant) (arguments : Exprs Meant) (top p : ℕ) (f : List ℕ) (u : ℕ)
      → length f ≡ width → IsCalled g.keys m (shapes_of g homes arguments)
      → HasAt (body_at k sp) (p + length (exprs_code g homes top p arguments))
      (call_code g.keys top m (shapes_of g homes arguments))
      → Does k (here sp p f u) (numbers_in env store arguments u)
      (Valueds sp top (p + length (exprs_code g homes top p arguments))
      (shapes_of g homes arguments) f u)
      → Does k (here sp p f u)
      (next (numbers_in env store arguments u) (λ x. call_function env m x.0 x.1))
      (Valued sp top (p + length (exprs_code g homes top p arguments ++
      call_code g.keys top m (shapes_of g homes arguments))) [] f u)
  call_does (meant.Function n) arguments top p f u len key (e, h) d =
      does_next k (Valueds sp top q shapes f u) Q (here sp p f u) (numbers_in env store arguments u)
      (λ x. env.call n x.0 x.1) d
      (λ x t em y. at_state k Q (here sp q y.slots x.1) t (env.call n x.0 x.1) y.is
      (does_same k Q (here sp q y.slots x.1)
      (env.call key.found.function (args_of key.found.shapes y.slots top) x.1)
      (env.call n x.0 x.1)
      (ap₂ (λ i ds. env.call i ds x.1) key.function
      (ap (λ ss. args_of ss y.slots top) key.shapes ∙ sym y.values))
      (does_weaker k (Valued sp top (q + 1) [] y.slots x.1) Q (here sp q y.slots x.1)
      (env.call key.found.function (args_of key.found.shapes y.slots top) x.1)
      (calls.runs number key.found key.there top q y.slots x.1 (y.same.size ∙ len) e)
      (λ a s v. valued_later sp top (q + 1) end [] f y.slots u x.1 a s v y.same y.less
      (omega (arith, length-append first (op.Call number top top ∷ [])))))))
    where
      shapes : List (List ℕ)
      shapes = shapes_of g homes arguments

      number : ℕ
      number = number_of g.keys record { function = n; shapes = shapes }

      first : Code
      first = exprs_code g homes top p arguments

      q : ℕ
      q = p + length first

      end : ℕ
      end = p + length (first ++ op.Call number top top ∷ [])

      Q : Numbers × ℕ → State → Type 0
      Q = Valued sp top end [] f u
  call_does meant.Other arguments top p f u len key at d = absurd key
  call_does (meant.Variable n) arguments top p f u len key at d = absurd key
  call_does (meant.Signal w n) arguments top p f u len key at d = absurd key
  call_does (meant.Component n) arguments top p f u len key at d = absurd key
  call_does (meant.Template n) arguments top p f u len key at d = absurd key

  mutual
    pub expr_does : (e : Expr Meant) (top p : ℕ) (f : List ℕ) (u : ℕ) → low ≤ top
        → length f ≡ width → Shows g env homes store f → Fits g homes e
        → HasAt (body_at k sp) p (expr_code g homes top p e)
        → Does k (here sp p f u) (number_in env store e u)
        (Valued sp top (p + length (expr_code g homes top p e)) (shape_of g homes e) f u)
    expr_does (Number n) top p f u le len shows fits (e, h) =
        let room : top + 1 ≤ width = wide p (op.Const top (n % P)) e in
        put_number k sp params width wide top p (p + 1) u (n % P) f f u (op.Const top (n % P)) e
        (omega (arith, room, len)) refl (below_itself top f) (omega arith)
        (step_at k sp p f u (op.Const top (n % P)) e)
    expr_does (Place name m accessors) top p f u le len shows fits at =
        place_does accessors (Named m) record { dims = []; items = [] } [] [] top p f u le len refl
        tt tt shows fits at
    expr_does (Call parallel name m arguments) top p f u le len shows fits at =
        let e : Expr Meant = Call parallel name m arguments in
        let shapes : List (List ℕ) = shapes_of g homes arguments in
        let one : Code = exprs_code g homes top p arguments in
        let code : Code = one ++ call_code g.keys top m shapes in
        let Q : (Numbers × ℕ → State → Type 0) =
        Valued sp top (p + length (unless_called (g.called e) top code)) (called_shape (g.called e))
        f u in
        let call : Ran Numbers =
        next (numbers_in env store arguments u) (λ x. call_function env m x.0 x.1) in
        does_same k Q (here sp p f u) (unless_known (g.called e) u call)
        (unless_known (env.known e) u call) (ap (λ o. unless_known o u call) (sym (shows.called e)))
        (value_does (g.called e) (AllFit g homes arguments × IsCalled g.keys m shapes) top p f u
        code call len fits
        (λ made h. call_does m arguments top p f u len made.1 (has_back (body_at k sp) p one _ h)
        (exprs_does arguments top p f u le len shows made.0 (has_front (body_at k sp) p one _ h)))
        at)
    expr_does (Anonymous parallel name m arguments inputs) top p f u le len shows fits at =
        absurd fits
    expr_does (Parentheses e) top p f u le len shows fits at =
        expr_does e top p f u le len shows fits at
    expr_does (Array none) top p f u le len shows fits at = absurd fits
    expr_does (Array (more e es)) top p f u le len shows (fe, all, same) at =
        let q : ℕ = p + length (exprs_code g homes top p (more e es)) in
        let dims : List ℕ = shape_of g homes (Array (more e es)) in
        does_next k (Valueds sp top q (shapes_of g homes (more e es)) f u)
        (Valued sp top q dims f u) (here sp p f u) (numbers_in env store (more e es) u)
        (λ x. gives (gathered_numbers x.0) x.1)
        (exprs_does (more e es) top p f u le len shows (fe, all) at)
        (λ x t em y. there k (Valued sp top q dims f u) t (gathered_numbers x.0, x.1) record {
          slots = y.slots;
          is = y.is;
          same = y.same;
          value = ap gathered_numbers y.values ∙
              gathered_is g homes e es y.slots top same;
          less = y.less;
        })
    expr_does (Unary o a) top p f u le len shows (fits, shape) at =
        unary_does o a top p f u len shape
        (has_back (body_at k sp) p (expr_code g homes top p a) _ at)
        (expr_does a top p f u le len shows fits
        (has_front (body_at k sp) p (expr_code g homes top p a) _ at))
    expr_does (Binary o a b) top p f u le len shows ((fa, sa), fb) at =
        lazy_does k sp params width wide (operator_of o) (g.known a) top p
        (expr_code g homes top p a) (λ slot q. expr_code g homes slot q b) f u
        (number_in env store a u) (number_in env store b) len
        (λ n e x ex. shows.known a n u x e ex) at
        (subst (λ d. Does k (here sp p f u) (number_in env store a u)
        (Valued sp top (p + length (expr_code g homes top p a)) d f u)) sa
        (expr_does a top p f u le len shows fa
        (left_at (operator_of o) (g.known a) (body_at k sp) top p (expr_code g homes top p a)
        (λ slot q. expr_code g homes slot q b) at)))
        (unless_map (decided (operator_of o) (g.known a))
        (λ fits. λ slot q f1 v more b1 at1.
        subst (λ d. Does k (here sp q f1 v) (number_in env store b v)
        (Valued sp slot (q + length (expr_code g homes slot q b)) d f1 v)) fits.1
        (expr_does b slot q f1 v (omega (arith, le, more)) (b1.size ∙ len)
        (shows_below g env homes store low f f1 laid (below_less low top f f1 le b1) shows) fits.0
        at1)) fb)
    expr_does (Choice c a b) top p f u le len shows ((fc, sc), sides) at =
        choice_does c a b top p f u len sc (λ n e x ex. shows.known c n u x e ex) at
        (expr_does c top p f u le len shows fc
        (has_front (body_at k sp) p (expr_code g homes top p c) _ at))
        (sides_map (g.known c)
        (λ fits. λ q f1 v b1 at1. scalar_is a top q f1 v fits.1
        (expr_does a top q f1 v le (b1.size ∙ len)
        (shows_below g env homes store low f f1 laid (below_less low top f f1 le b1) shows) fits.0
        at1))
        (λ fits. λ q f1 v b1 at1. scalar_is b top q f1 v fits.1
        (expr_does b top q f1 v le (b1.size ∙ len)
        (shows_below g env homes store low f f1 laid (below_less low top f f1 le b1) shows) fits.0
        at1)) sides)

    pub exprs_does : (es : Exprs Meant) (top p : ℕ) (f : List ℕ) (u : ℕ) → low ≤ top
        → length f ≡ width → Shows g env homes store f → AllFit g homes es
        → HasAt (body_at k sp) p (exprs_code g homes top p es)
        → Does k (here sp p f u) (numbers_in env store es u)
        (Valueds sp top (p + length (exprs_code g homes top p es)) (shapes_of g homes es) f u)
    exprs_does none top p f u le len shows fits at =
        there k _ (here sp p f u) ([], u) record {
          slots = f;
          is = let e : p ≡ p + 0 = omega arith in ap (λ q. here sp q f u) e;
          same = below_itself top f;
          values = refl;
          less = omega arith;
        }
    exprs_does (more e es) top p f u le len shows (fe, fs) at =
        let first : Code = expr_code g homes top p e in
        let size : ℕ = size_of g homes e in
        let q : ℕ = p + length first in
        let second : Code = exprs_code g homes (top + size) q es in
        let end : ℕ = p + length (first ++ second) in
        let shapes : List (List ℕ) = shape_of g homes e ∷ shapes_of g homes es in
        does_next k (Valued sp top q (shape_of g homes e) f u) (Valueds sp top end shapes f u)
        (here sp p f u) (number_in env store e u)
        (λ x. next (numbers_in env store es x.1) (λ y. gives (x.0 ∷ y.0) y.1))
        (expr_does e top p f u le len shows fe (has_front (body_at k sp) p first second at))
        (λ x t em v. at_state k (Valueds sp top end shapes f u) (here sp q v.slots x.1) t
        (next (numbers_in env store es x.1) (λ y. gives (x.0 ∷ y.0) y.1)) v.is
        (does_next k (Valueds sp (top + size) (q + length second) (shapes_of g homes es) v.slots
        x.1)
        (Valueds sp top end shapes f u) (here sp q v.slots x.1) (numbers_in env store es x.1)
        (λ y. gives (x.0 ∷ y.0) y.1)
        (exprs_does es (top + size) q v.slots x.1 (omega (arith, le)) (v.same.size ∙ len)
        (shows_below g env homes store low f v.slots laid (below_less low top f v.slots le v.same)
        shows) fs (has_back (body_at k sp) p first second at))
        (λ y s ey w. there k (Valueds sp top end shapes f u) s (x.0 ∷ y.0, y.1) record {
          slots = w.slots;
          is = w.is ∙
              (let e : q + length second ≡ end = omega (arith, length-append first second) in
              ap (λ z. here sp z w.slots y.1) e);
          same = below_then top (top + size) f v.slots w.slots (omega arith) v.same w.same;
          values = ap₂ (λ d ds. d ∷ ds)
              (v.value ∙ ap (λ r. record { dims = shape_of g homes e; items = r })
              (sym (row_below (top + size) v.slots w.slots top size w.same (omega arith))))
              w.values;
          less = omega (arith, v.less, w.less);
        })))

    pub place_does : (rest : Accessors Meant) (front : Front) (d : Shaped (Option ℕ))
        (known : List (Option ℕ)) (indices : List ℕ) (top p : ℕ) (f : List ℕ) (u : ℕ)
        → low ≤ top → length f ≡ width → indices ≡ row f top (length known)
        → Agree known indices → FrontHeld front d low f → Shows g env homes store f
        → PlaceFits g homes front known rest
        → HasAt (body_at k sp) p (place_code g homes top p front known rest)
        → Does k (here sp p f u) (place_in env store (root_of front d) indices rest u)
        (Valued sp top (p + length (place_code g homes top p front known rest))
        (place_shape g homes front known rest) f u)
    place_does done front d known indices top p f u le len is_row agree held shows fits at =
        let c : ℕ = length known in
        let has : HasHome (home_of homes front) c = end_home front c d f held fits in
        let found : home_of homes front ≡ Some has.at = has.found in
        subst (λ o. Does k (here sp p f u) (read_root env store (root_of front d) indices u)
        (Valued sp top (p + length (read_code o top c)) (part_shape o c) f u)) (sym found)
        (subst (λ xs. Does k (here sp p f u) (read_root env store (root_of front d) xs u)
        (Valued sp top (p + length (read_code (Some has.at) top c)) (drop c has.at.dims) f u))
        (sym is_row)
        (done_does front d c top p f u has.at le len held shows found has.rank
        (subst (λ o. HasAt (body_at k sp) p (read_code o top c)) found at)))
    place_does (index e rest) front d known indices top p f u le len is_row agree held shows
        (fe, se, fr) at =
        let c : ℕ = length known in
        let first : Code = expr_code g homes (top + c) p e in
        let q : ℕ = p + length first in
        let second : Code = place_code g homes top q front (known ++ g.known e ∷ []) rest in
        let end : ℕ = p + length (first ++ second) in
        let dims : List ℕ = place_shape g homes front (known ++ g.known e ∷ []) rest in
        let longer : length (known ++ g.known e ∷ []) ≡ c + 1 = length-append known _ in
        number_does k sp (Valued sp top end dims f u) (here sp p f u) (number_in env store e u)
        (λ n v. place_in env store (root_of front d) (indices ++ n ∷ []) rest v) (top + c) q
        (shape_of g homes e) f u se
        (expr_does e (top + c) p f u (omega (arith, le)) len shows fe
        (has_front (body_at k sp) p first second at))
        (λ f1 v b le1 told.
        let n : ℕ = slice_index f1 (top + c) in
        let b1 : Below top f f1 = below_less top (top + c) f f1 (omega arith) b in
        let b2 : Below low f f1 = below_less low top f f1 le b1 in
        does_weaker k (Valued sp top (q + length second) dims f1 v) (Valued sp top end dims f u)
        (here sp q f1 v) (place_in env store (root_of front d) (indices ++ n ∷ []) rest v)
        (place_does rest front d (known ++ g.known e ∷ []) (indices ++ n ∷ []) top q f1 v le
        (b.size ∙ len)
        (ap (λ xs. xs ++ n ∷ []) (is_row ∙ sym (row_below (top + c) f f1 top c b (omega arith))) ∙
        sym (row_snoc f1 top c) ∙ ap (row f1 top) (sym longer))
        (agree_more known indices (g.known e) n agree
        (λ m em. told m (λ x ex. shows.known e m u x em ex)))
        (held_below front d low f f1 b2 held) (shows_below g env homes store low f f1 laid b2 shows)
        fr (has_back (body_at k sp) p first second at))
        (λ x t y. valued_later sp top (q + length second) end dims f f1 u v x t y b1 le1
        (omega (arith, length-append first second))))
    place_does (member name rest) (Named (meant.Component n)) d known indices top p f u le len
        is_row agree held shows (is_component, fr) at =
        let c : ℕ = length known in
        let cdims : List ℕ = g.components n in
        let front : Front = port_at homes n cdims name (all_known known) in
        let first : Code = bounds top cdims c in
        let q : ℕ = p + length first in
        let second : Code = place_code g homes top q front [] rest in
        let end : ℕ = p + length (first ++ second) in
        let dims : List ℕ = place_shape g homes front [] rest in
        let m : Ran Numbers = inner (env.part n indices name) rest u in
        let Q : (Numbers × ℕ → State → Type 0) = Valued sp top end dims f u in
        inner_is n indices name rest u (λ r. Does k (here sp p f u) r Q)
        (does_same k Q (here sp p f u)
        (cond (is_inside cdims (map Some indices)) m (Err index_out)) m
        (outside_cond n indices name rest u (is_inside cdims (map Some indices)) refl
        (shows.outside n indices name))
        (subst (λ xs. Does k (here sp p f u) (cond (is_inside cdims (map Some xs)) m (Err
        index_out))
        Q) (sym is_row)
        (bounds_do k sp params width wide Q m cdims c top p f u
        (has_front (body_at k sp) p first second at)
        (λ inside. member_does rest front (env.part n indices name) top q end dims f u
        (port_held n indices name known f agree shows
        (ap (λ xs. is_inside cdims (map Some xs)) is_row ∙ inside))
        (λ x. no_home g homes rest [] (subst (λ o. PlaceFits g homes o [] rest) x fr))
        (λ w h. subst (λ z. Does k (here sp q f u)
        (place_in env store (root_of front w) [] rest u) (Valued sp top z dims f u))
        (omega (arith, length-append first second))
        (place_does rest front w [] [] top q f u le len refl tt h shows fr
        (has_back (body_at k sp) p first second at)))))))
    place_does (member name rest) (Named meant.Other) d known indices top p f u le len is_row agree
        held shows (never, fr) at = absurd never
    place_does (member name rest) (Named (meant.Variable n)) d known indices top p f u le len is_row
        agree held shows (never, fr) at = absurd never
    place_does (member name rest) (Named (meant.Signal w n)) d known indices top p f u le len is_row
        agree held shows (never, fr) at = absurd never
    place_does (member name rest) (Named (meant.Template n)) d known indices top p f u le len is_row
        agree held shows (never, fr) at = absurd never
    place_does (member name rest) (Named (meant.Function n)) d known indices top p f u le len is_row
        agree held shows (never, fr) at = absurd never
    place_does (member name rest) (Found o) d known indices top p f u le len is_row agree held shows
        (never, fr) at = absurd never
    place_does (member name rest) Lost d known indices top p f u le len is_row agree held shows
        (never, fr) at = absurd never
