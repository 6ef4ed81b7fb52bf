-- A value has its expression's shape, with all its elements.
use Rattle.std.proofs.Common.{◌≡◌, ℕ, suc, ◌*◌, ◌%◌, ◌≤◌, Bool, true, false, cond, List, [], ◌∷◌}
use Rattle.std.proofs.Common.{◌++◌, length, map, flat_map, drop, Option, Some, None, Result, Ok}
use Rattle.std.proofs.Common.{Err, refl, sym, ap, subst, ◌∙◌, arith, length-append, suc-mul}
use Rattle.std.proofs.Common.{zero-mul}
use Rattle.std.specs.Prelude.{◌==◌, unwrap_or, slice_index}
use Rattle.std.specs.List.{AllByRecursion}
use Rattle.gold_field.specs.declared.gold.TheConstants.{P}
use Rattle.gold_field.specs.Operators.{unary_of as number_by}
use Rattle.cir_ast.specs.declared.program.Meant.{Meant}
use Rattle.cir_ast.specs.declared.program.Meant.TheVariants as meant
use Rattle.cir_ast.specs.Tree.{Expr, Number, Place, Call, Anonymous, Parentheses, Array, Unary}
use Rattle.cir_ast.specs.Tree.{Binary, Choice, Exprs, none, more, Accessors, done, index, member}
use Rattle.cir_meaning.specs.Tried.{next}
use Rattle.cir_meaning.specs.Limits.{is_too_large}
use Rattle.cir_meaning.specs.Places.{elements, is_inside, all_known, left_of, places_of}
use Rattle.cir_meaning.specs.Arrays.{Shaped, single, made}
use Rattle.cir_meaning.specs.Operators.{operator_of, unary_of}
use Rattle.cir_meaning.specs.RunValues.{Ran, Numbers, Environment, Store, stored, gives, number}
use Rattle.cir_meaning.specs.RunValues.{number_in, numbers_in, place_in, read_root, read_option}
use Rattle.cir_meaning.specs.RunValues.{RunNamed, RunFound, the_number, bounded, all_there}
use Rattle.cir_meaning.specs.RunValues.{option_at, read_stored, read_wired, index_out, when}
use Rattle.cir_meaning.specs.RunValues.{needs_right, unless_known, call_function, gathered_numbers}
use Rattle.cir_meaning.specs.RunValues.{result_number}
use Rattle.wit_lower.specs.Homes.{Variable, Signal, Port, Home, Homes, Ground, Named, Found, Lost}
use Rattle.wit_lower.specs.Homes.{find, offset, port_at as home_at, slots_of}
use Rattle.wit_lower.specs.Values.{shape_of, shapes_of, place_shape, called_shape, count_of}
use Rattle.wit_lower.specs.Values.{part_shape}
use Rattle.wit_lower.specs.Fits.{EndFits, UnlessCalled, IsCalled, HaveShape, Fits, AllFit}
use Rattle.wit_lower.specs.Fits.{PlaceFits}
use Rattle.wit_lower.proofs.Shows.{KnownAt}
use Rattle.wit_lower.proofs.Exprs.{Agree, agree_more, agree_all}
use Rattle.wit_lower.proofs.Parts.{part_read, slots_are, all_large}
use Rattle.wit_lower.proofs.Places.{left_is, places_are}
use Rattle.cir_emit.proofs.Lists.{Both, both, from_long, map_long}

pub record HasShape (dims : List ℕ) (d : Numbers) : Type 0 where
  pub dims_are : d.dims ≡ dims
  pub long : length d.items ≡ slots_of dims

single_shape : (n : ℕ) → HasShape [] (single n)
single_shape n = record { dims_are = refl; long = refl }

made_shape : (dims items : List ℕ) → length items ≡ elements dims → HasShape dims (made dims items)
made_shape dims items e = record { dims_are = refl; long = at (is_too_large dims) }
  where
    at : (b : Bool) → length (cond b [] items) ≡ cond b 0 (elements dims)
    at true = refl
    at false = e

given : (dims : List ℕ) (d : Numbers) (u : ℕ) (x : Numbers × ℕ) → HasShape dims d
    → ◌≡◌ {A = Ran Numbers} (gives d u) (Ok x) → HasShape dims x.0
given dims d u x h e = let same : (d, u) ≡ x = cc in subst (λ y. HasShape dims y.0) same h

-- a part that is read
part_long : (dims is : List ℕ) (R : List ℕ → Result (List ℕ) ℕ) (u : ℕ) (x : Numbers × ℕ)
    → length is ≤ length dims
    → ((ps items : List ℕ) → R ps ≡ Ok items → length items ≡ length ps)
    → bounded dims is (part_read R u) ≡ Ok x → HasShape (drop (length is) dims) x.0
part_long dims is R u x le long e = at (is_inside dims (map Some is)) e
  where
    left : List ℕ
    left = drop (length is) dims

    places : List ℕ
    places = places_of dims (map Some is)

    count : length places ≡ elements left
    count = ap length (places_are dims is le) ∙ from_long _ (elements left)

    read : (r : Result (List ℕ) ℕ) → R places ≡ r
        → next r (λ items. gives (made left items) u) ≡ Ok x → HasShape left x.0
    read (Ok items) er e =
        given left (made left items) u x
        (made_shape left items (long places items er ∙ count)) e
    read (Err s) er e = cc

    at : (b : Bool)
        → cond b (part_read R u (unwrap_or (left_of dims (map Some is)) []) places) (Err index_out)
        ≡ Ok x → HasShape left x.0
    at true e =
        read (R places) refl
        (sym (ap (λ o. part_read R u (unwrap_or o []) places) (left_is dims is le)) ∙ e)
    at false e = cc

stored_long : (d : Numbers) (is : List ℕ) (u : ℕ) (x : Numbers × ℕ) → length is ≤ length d.dims
    → read_stored d is u ≡ Ok x → HasShape (drop (length is) d.dims) x.0
stored_long d is u x le e =
    part_long d.dims is (λ places. Ok (map (slice_index d.items) places)) u x le
    (λ ps items e. let same : map (slice_index d.items) ps ≡ items = cc in
    sym (ap length same) ∙ map_long (slice_index d.items) ps) e

there_long : (os : List (Option ℕ)) (items : List ℕ) → all_there os ≡ Ok items
    → length items ≡ length os
there_long [] items e = let same : [] ≡ items = cc in ap length (sym same)
there_long (None ∷ os) items e = cc
there_long (Some n ∷ os) items e =
    let r = both (all_there os) (λ ns. Ok (n ∷ ns)) items e in
    let ends : ◌≡◌ {A = Result (List ℕ) ℕ} (Ok (n ∷ r.first)) (Ok items) = r.rest in
    let same : n ∷ r.first ≡ items = cc in
    ap length (sym same) ∙ ap (λ m. suc m) (there_long os r.first r.is)

wired_long : (d : Shaped (Option ℕ)) (is : List ℕ) (u : ℕ) (x : Numbers × ℕ)
    → length is ≤ length d.dims → read_wired d is u ≡ Ok x
    → HasShape (drop (length is) d.dims) x.0
wired_long d is u x le e =
    part_long d.dims is (λ places. all_there (map (option_at d.items) places)) u x le
    (λ ps items e. there_long (map (option_at d.items) ps) items e ∙
    map_long (option_at d.items) ps) e

-- a result that is one number
single_result : (m : Ran Numbers) (go : ℕ → ℕ → Ran Numbers) (x : Numbers × ℕ)
    → number m go ≡ Ok x
    → ((n u : ℕ) (y : Numbers × ℕ) → go n u ≡ Ok y → HasShape [] y.0) → HasShape [] x.0
single_result m go x e h =
    let r = both m (λ y. go (the_number y.0) y.1) x e in h (the_number r.first.0) r.first.1 x r.rest

-- arrays of one shape; those that are too large have no numbers
rows_shape : (n : ℕ) (dims items : List ℕ) → length items ≡ suc n * slots_of dims
    → HasShape (suc n ∷ dims) (made (suc n ∷ dims) items)
rows_shape n dims items e = at (is_too_large dims) refl
  where
    at : (b : Bool) → is_too_large dims ≡ b → HasShape (suc n ∷ dims) (made (suc n ∷ dims) items)
    at true large =
        let all : is_too_large (suc n ∷ dims) ≡ true = all_large n dims large in
        record {
          dims_are = refl;
          long = ap (λ b. length (cond b [] items)) all
              ∙ sym (ap (λ b. cond b 0 (elements (suc n ∷ dims))) all);
        }
    at false small =
        made_shape (suc n ∷ dims) items (e ∙ ap (λ m. suc n * m) (slots_are dims small))

flat_long : (dims : List ℕ) (ds : List Numbers) → AllByRecursion (HasShape dims) ds
    → length (flat_map (λ d. d.items) ds) ≡ length ds * slots_of dims
flat_long dims [] h = sym (zero-mul (slots_of dims))
flat_long dims (d ∷ ds) h =
    length-append d.items (flat_map (λ e. e.items) ds) ∙
    omega (arith, h.0.long, flat_long dims ds h.1, suc-mul (length ds) (slots_of dims))

gathered_shape : (dims : List ℕ) (n : ℕ) (ds : List Numbers) → AllByRecursion (HasShape dims) ds
    → length ds ≡ suc n → HasShape (suc n ∷ dims) (gathered_numbers ds)
gathered_shape dims n [] h len = cc
gathered_shape dims n (d ∷ ds) h len =
    subst (λ m. HasShape (m ∷ dims) (gathered_numbers (d ∷ ds))) len
    (subst (λ xs. HasShape (length (d ∷ ds) ∷ dims)
    (made (length (d ∷ ds) ∷ xs) (flat_map (λ e. e.items) (d ∷ ds)))) (sym h.0.dims_are)
    (rows_shape (length ds) dims (flat_map (λ e. e.items) (d ∷ ds)) (flat_long dims (d ∷ ds) h)))

-- what a store and an environment have is of its home's shape
pub record Shapely (g : Ground) (homes : Homes) (env : Environment) (store : Store) : Type 0 where
  pub variable : (n : ℕ) (h : Home) → find (Variable n) homes ≡ Some h
      → (stored store n).dims ≡ h.dims
  pub signal : (n : ℕ) (h : Home) (w : Shaped (Option ℕ)) → find (Signal n) homes ≡ Some h
      → env.signal n ≡ Some w → w.dims ≡ h.dims
  pub port : (n : ℕ) (indices name : List ℕ) (h : Home) (w : Shaped (Option ℕ))
      → is_inside (g.components n) (map Some indices) ≡ true
      → length indices ≡ length (g.components n)
      → find (Port n (offset (g.components n) indices) name) homes ≡ Some h
      → env.part n indices name ≡ Ok w → w.dims ≡ h.dims
  pub outside : (n : ℕ) (indices name : List ℕ)
      → is_inside (g.components n) (map Some indices) ≡ false
      → env.part n indices name ≡ Err index_out
  pub called : (e : Expr Meant) → env.known e ≡ g.called e
  pub call : (f : ℕ) (ds : List Numbers) (u : ℕ) (x : Numbers × ℕ) → env.call f ds u ≡ Ok x
      → HasShape [] x.0
  pub known : KnownAt g env store

module _ (g : Ground) (homes : Homes) (env : Environment) (store : Store)
    (s : Shapely g homes env store) where
  done_shape : (m : Meant) (known : List (Option ℕ)) (is : List ℕ) (u : ℕ) (x : Numbers × ℕ)
      → length is ≡ length known → EndFits homes (Named m) (length known)
      → read_root env store (RunNamed m) is u ≡ Ok x
      → HasShape (place_shape g homes (Named m) known done) x.0
  done_shape (meant.Variable n) known is u x len fits e =
      let dims : (stored store n).dims ≡ fits.at.dims = s.variable n fits.at fits.found in
      subst (λ o. HasShape (part_shape o (length known)) x.0) (sym fits.found)
      (subst (λ ds. HasShape (drop (length known) ds) x.0) dims
      (subst (λ c. HasShape (drop c (stored store n).dims) x.0) len
      (stored_long (stored store n) is u x
      (omega (arith, len, fits.rank, ap length dims)) e)))
  done_shape (meant.Signal direction n) known is u x len fits e =
      by (env.signal n) refl e
    where
      by : (o : Option (Shaped (Option ℕ))) → env.signal n ≡ o → read_option o is u ≡ Ok x
          → HasShape (part_shape (find (Signal n) homes) (length known)) x.0
      by None eo e = cc
      by (Some w) eo e =
          let dims : w.dims ≡ fits.at.dims = s.signal n fits.at w fits.found eo in
          subst (λ o. HasShape (part_shape o (length known)) x.0) (sym fits.found)
          (subst (λ ds. HasShape (drop (length known) ds) x.0) dims
          (subst (λ c. HasShape (drop c w.dims) x.0) len
          (wired_long w is u x (omega (arith, len, fits.rank, ap length dims)) e)))
  done_shape meant.Other known is u x len fits e = cc
  done_shape (meant.Component n) known is u x len fits e = cc
  done_shape (meant.Template n) known is u x len fits e = cc
  done_shape (meant.Function n) known is u x len fits e = cc

  call_shape : (m : Meant) (ds : List Numbers) (u : ℕ) (x : Numbers × ℕ)
      → call_function env m ds u ≡ Ok x → HasShape [] x.0
  call_shape (meant.Function f) ds u x e = s.call f ds u x e
  call_shape meant.Other ds u x e = cc
  call_shape (meant.Variable n) ds u x e = cc
  call_shape (meant.Signal direction n) ds u x e = cc
  call_shape (meant.Component n) ds u x e = cc
  call_shape (meant.Template n) ds u x e = cc

  called_long : (A : Type 0) (o p : Option Numbers) (u : ℕ) (m : Ran Numbers) (x : Numbers × ℕ)
      → p ≡ o → UnlessCalled o A → (m ≡ Ok x → HasShape [] x.0) → unless_known p u m ≡ Ok x
      → HasShape (called_shape o) x.0
  called_long A None p u m x ep fits h e = h (sym (ap (λ q. unless_known q u m) ep) ∙ e)
  called_long A (Some d) p u m x ep fits h e =
      given d.dims d u x
      record { dims_are = refl; long = fits.count }
      (sym (ap (λ q. unless_known q u m) ep) ∙ e)

  no_port : (rest : Accessors Meant) (known : List (Option ℕ))
      → PlaceFits g homes (Found None) known rest → ⊥
  no_port done known h = let e : None ≡ Some h.at = h.found in cc
  no_port (index e rest) known (a, b, c) = no_port rest (known ++ g.known e ∷ []) c
  no_port (member name rest) known (a, b) = absurd a

  found_shape : (rest : Accessors Meant) (h : Home) (w : Shaped (Option ℕ))
      (known : List (Option ℕ)) (is : List ℕ) (u : ℕ) (x : Numbers × ℕ) → w.dims ≡ h.dims
      → length is ≡ length known → PlaceFits g homes (Found (Some h)) known rest
      → place_in env store (RunFound w) is rest u ≡ Ok x
      → HasShape (place_shape g homes (Found (Some h)) known rest) x.0
  found_shape done h w known is u x dims len fits e =
      let same : fits.at ≡ h = cc in
      let rank : length known ≤ length h.dims =
      subst (λ z. length known ≤ length z.dims) same fits.rank in
      subst (λ ds. HasShape (drop (length known) ds) x.0) dims
      (subst (λ c. HasShape (drop c w.dims) x.0) len
      (wired_long w is u x (omega (arith, len, rank, ap length dims)) e))
  found_shape (index e rest) h w known is u x dims len (fe, se, fr) ran =
      let r = both (number_in env store e u)
      (λ y. place_in env store (RunFound w) (is ++ the_number y.0 ∷ []) rest y.1) x ran in
      found_shape rest h w (known ++ g.known e ∷ []) (is ++ the_number r.first.0 ∷ []) r.first.1 x
      dims (length-append is _ ∙ omega (arith, len, length-append known (g.known e ∷ []))) fr r.rest
  found_shape (member name rest) h w known is u x dims len (never, fr) ran = absurd never

  place_long : (rest : Accessors Meant) (m : Meant) (known : List (Option ℕ)) (is : List ℕ)
      (u : ℕ) (x : Numbers × ℕ) → Agree known is → length is ≡ length known
      → PlaceFits g homes (Named m) known rest
      → place_in env store (RunNamed m) is rest u ≡ Ok x
      → HasShape (place_shape g homes (Named m) known rest) x.0
  place_long done m known is u x a len fits e = done_shape m known is u x len fits e
  place_long (index e rest) m known is u x a len (fe, se, fr) ran =
      let r = both (number_in env store e u)
      (λ y. place_in env store (RunNamed m) (is ++ the_number y.0 ∷ []) rest y.1) x ran in
      place_long rest m (known ++ g.known e ∷ []) (is ++ the_number r.first.0 ∷ []) r.first.1 x
      (agree_more known is (g.known e) (the_number r.first.0) a
      (λ n en. s.known e n u r.first en r.is))
      (length-append is _ ∙ omega (arith, len, length-append known (g.known e ∷ []))) fr r.rest
  place_long (member name rest) (meant.Component n) known is u x a len (full, fr) ran =
      inside (is_inside dims (map Some is)) refl
    where
      dims : List ℕ
      dims = g.components n

      r : Both (env.part n is name) (λ d. place_in env store (RunFound d) [] rest u) x
      r = both (env.part n is name) (λ d. place_in env store (RunFound d) [] rest u) x ran

      homed : (ns : List ℕ) → is ≡ ns → is_inside dims (map Some ns) ≡ true
          → length ns ≡ length dims → (o : Option Home)
          → find (Port n (offset dims ns) name) homes ≡ o → PlaceFits g homes (Found o) [] rest
          → HasShape (place_shape g homes (Found o) [] rest) x.0
      homed ns same there whole None eo fits = absurd (no_port rest [] fits)
      homed ns same there whole (Some h) eo fits =
          found_shape rest h r.first [] [] u x
          (s.port n ns name h r.first there whole eo
          (ap (λ js. env.part n js name) (sym same) ∙ r.is))
          refl fits r.rest

      known_by : (o : Option (List ℕ)) → ((ns : List ℕ) → o ≡ Some ns → is ≡ ns)
          → is_inside dims (map Some is) ≡ true
          → ((ns : List ℕ) → o ≡ Some ns → is_inside dims (map Some ns) ≡ true
          → length ns ≡ length dims)
          → PlaceFits g homes (home_at homes n dims name o) [] rest
          → HasShape (place_shape g homes (home_at homes n dims name o) [] rest) x.0
      known_by None same there full fits = absurd (no_port rest [] fits)
      known_by (Some ns) same there full fits =
          let in_ns : is_inside dims (map Some ns) ≡ true =
          ap (λ js. is_inside dims (map Some js)) (sym (same ns refl)) ∙ there in
          let o : Option Home = find (Port n (offset dims ns) name) homes in
          subst (λ b. HasShape (place_shape g homes (cond b (Found o) Lost) [] rest) x.0)
          (sym in_ns)
          (homed ns (same ns refl) in_ns (full ns refl in_ns) o refl
          (subst (λ b. PlaceFits g homes (cond b (Found o) Lost) [] rest) in_ns fits))

      inside : (b : Bool) → is_inside dims (map Some is) ≡ b
          → HasShape (place_shape g homes (home_at homes n dims name (all_known known)) [] rest) x.0
      inside false e =
          let never : ◌≡◌ {A = Result (Shaped (Option ℕ)) ℕ} (Err index_out) (Ok r.first) =
          sym (s.outside n is name e) ∙ r.is in cc
      inside true e =
          known_by (all_known known) (λ ns en. agree_all known is ns a en) e full fr
  place_long (member name rest) meant.Other known is u x a len (never, fr) ran = absurd never
  place_long (member name rest) (meant.Variable n) known is u x a len (never, fr) ran = absurd never
  place_long (member name rest) (meant.Signal w n) known is u x a len (never, fr) ran = absurd never
  place_long (member name rest) (meant.Template n) known is u x a len (never, fr) ran = absurd never
  place_long (member name rest) (meant.Function n) known is u x a len (never, fr) ran = absurd never

  mutual
    pub expr_shape : (e : Expr Meant) (u : ℕ) (x : Numbers × ℕ) → Fits g homes e
        → number_in env store e u ≡ Ok x → HasShape (shape_of g homes e) x.0
    expr_shape (Number n) u x fits e = given [] (single (n % P)) u x (single_shape (n % P)) e
    expr_shape (Place name m accessors) u x fits e =
        place_long accessors m [] [] u x tt refl fits e
    expr_shape (Call parallel name m arguments) u x fits e =
        let c : Expr Meant = Call parallel name m arguments in
        let A : Type 0 = AllFit g homes arguments × IsCalled g.keys m (shapes_of g homes arguments)
        in
        called_long A (g.called c) (env.known c) u
        (next (numbers_in env store arguments u) (λ y. call_function env m y.0 y.1)) x
        (s.called c) fits
        (λ ran. let r = both (numbers_in env store arguments u)
        (λ y. call_function env m y.0 y.1) x ran in
        call_shape m r.first.0 r.first.1 x r.rest) e
    expr_shape (Anonymous parallel name m arguments inputs) u x fits e = absurd fits
    expr_shape (Parentheses a) u x fits e = expr_shape a u x fits e
    expr_shape (Array none) u x fits e = absurd fits
    expr_shape (Array (more a es)) u x (fa, all, same) e =
        let dims : List ℕ = shape_of g homes a in
        let r = both (numbers_in env store (more a es) u)
        (λ y. gives (gathered_numbers y.0) y.1) x e in
        let h = exprs_shape dims (more a es) u r.first (fa, all) (refl, same) r.is in
        given (suc (count_of es) ∷ dims) (gathered_numbers r.first.0) r.first.1 x
        (gathered_shape dims (count_of es) r.first.0 h.0 h.1) r.rest
    expr_shape (Unary o a) u x fits e =
        single_result (number_in env store a u)
        (λ n v. gives (single (number_by (unary_of o) n)) v) x e
        (λ n v y ey. given [] (single (number_by (unary_of o) n)) v y (single_shape _) ey)
    expr_shape (Binary o a b) u x fits e =
        single_result (number_in env store a u)
        (λ m v. number (when (needs_right (operator_of o) m) v (number_in env store b v))
        (λ n w. next (result_number (operator_of o) m n) (λ z. gives (single z) w))) x e
        (λ m v y ey. single_result
        (when (needs_right (operator_of o) m) v (number_in env store b v))
        (λ n w. next (result_number (operator_of o) m n) (λ z. gives (single z) w)) y ey
        (λ n w z ez. let t = both (result_number (operator_of o) m n) (λ z. gives (single z) w) z ez
        in given [] (single t.first) w z (single_shape t.first) t.rest))
    expr_shape (Choice c a b) u x fits e =
        single_result (number_in env store c u)
        (λ m v. number (cond (m == 0) (number_in env store b v) (number_in env store a v))
        (λ n w. gives (single n) w)) x e
        (λ m v y ey. single_result
        (cond (m == 0) (number_in env store b v) (number_in env store a v))
        (λ n w. gives (single n) w) y ey
        (λ n w z ez. given [] (single n) w z (single_shape n) ez))

    exprs_shape : (dims : List ℕ) (es : Exprs Meant) (u : ℕ) (x : List Numbers × ℕ)
        → AllFit g homes es → HaveShape g homes dims es → numbers_in env store es u ≡ Ok x
        → AllByRecursion (HasShape dims) x.0 × (length x.0 ≡ count_of es)
    exprs_shape dims none u x fits same e =
        let is : ([], u) ≡ x = cc in
        subst (λ y. AllByRecursion (HasShape dims) y.0 × (length y.0 ≡ 0)) is (tt, refl)
    exprs_shape dims (more a es) u x (fa, fs) (sa, ss) e =
        let r = both (number_in env store a u)
        (λ y. next (numbers_in env store es y.1) (λ z. gives (y.0 ∷ z.0) z.1)) x e in
        let t = both (numbers_in env store es r.first.1) (λ z. gives (r.first.0 ∷ z.0) z.1) x
        r.rest in
        let ends : ◌≡◌ {A = Ran (List Numbers)} (gives (r.first.0 ∷ t.first.0) t.first.1) (Ok x) =
        t.rest in
        let is : (r.first.0 ∷ t.first.0, t.first.1) ≡ x = cc in
        let h = exprs_shape dims es r.first.1 t.first fs ss t.is in
        subst (λ y. AllByRecursion (HasShape dims) y.0 × (length y.0 ≡ suc (count_of es))) is (
          (subst (λ ds. HasShape ds r.first.0) sa (expr_shape a u r.first fa r.is), h.0),
          ap (λ m. suc m) h.1,
        )
