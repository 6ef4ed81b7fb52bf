-- An expression has the number that its sources give, where all that it may read is loaded.
use Rattle.std.proofs.Common.{Err, ◌≡◌, ℕ, zero, suc, Bool, true, false, cond, List, [], ◌∷◌, ◌++◌}
use Rattle.std.proofs.Common.{length, map, Option, Some, None, Ok, refl, sym, ap, ap₂, subst, ◌∙◌}
use Rattle.std.proofs.Common.{inl, inr, ◌⊎◌}
use Rattle.cir_meaning.specs.RunValues.{result_number, Ran, Numbers, Environment, Store, stored}
use Rattle.cir_meaning.specs.RunValues.{gives, number, number_in, numbers_in, place_in, read_root}
use Rattle.cir_meaning.specs.RunValues.{read_option, RunNamed, RunFound, the_number, when}
use Rattle.cir_meaning.specs.RunValues.{needs_right, index_out, unless_known, call_function}
use Rattle.cir_meaning.specs.RunValues.{gathered_numbers}
use Rattle.wit_lower.specs.Homes.{port_at as home_at, Name, Variable, Signal, Port, Home, Homes}
use Rattle.wit_lower.specs.Homes.{Ground, Named, Found, Lost, find, offset}
use Rattle.std.specs.Prelude.{◌==◌}
use Rattle.std.specs.List.{AllByRecursion}
use Rattle.std.proofs.lemmas.Bool.{ne_eqb}
use Rattle.cir_ast.specs.declared.program.Meant.{Meant}
use Rattle.cir_ast.specs.declared.program.Meant.TheVariants as meant
use Rattle.cir_ast.specs.Tree.{Expr, Number, Place, Call, Anonymous, Parentheses, Array, Unary}
use Rattle.cir_ast.specs.Tree.{Binary, Choice, Exprs, none, more, Accessors, done, index, member}
use Rattle.cir_meaning.specs.Tried.{next}
use Rattle.cir_meaning.specs.Places.{is_inside, places_of, all_known}
use Rattle.cir_meaning.specs.Arrays.{Shaped, single}
use Rattle.cir_meaning.specs.Operators.{Operator, operator_of, unary_of}
use Rattle.gold_field.specs.Operators.{unary_of as number_by}
use Rattle.wit_lower.specs.Pieces.{decided}
use Rattle.wit_lower.specs.Values.{shape_of, shapes_of}
use Rattle.wit_lower.specs.Fits.{EndFits, UnlessSkipped, Sides, UnlessCalled, IsCalled, Fits}
use Rattle.wit_lower.specs.Fits.{AllFit, PlaceFits, IsElement}
use Rattle.wit_lower.proofs.Shows.{KnownAt}
use Rattle.wit_lower.proofs.Exprs.{Agree, agree_more, agree_all}
use Rattle.wit_lower.proofs.Operators.{right_of, Decides, decides}
use Rattle.cir_emit.specs.Reads.{port_at, Reading, part_of, Written, Reached, name_of, named_part}
use Rattle.cir_emit.specs.Reads.{unless_skipped, sides, unless_called, expr_reads, exprs_reads}
use Rattle.cir_emit.specs.Reads.{place_reads, elements_of}
use Rattle.cir_emit.proofs.Lists.{all_front, all_back, all_mapped, all_of, all_weaker, next_same}
use Rattle.cir_emit.proofs.Lists.{places_within, inside_known}
use Rattle.cir_emit.proofs.Arrays.{SameWires, SameNumbers, WirePair, PortPair, InPart, stored_same}
use Rattle.cir_emit.proofs.Arrays.{wired_same}

abbrev pub reading : Name → ℕ → Reading
reading x k = record { name = x; element = k }

-- two environments that agree at what is loaded, and make and know the same calls
pub record Alike (g : Ground) (homes : Homes) (Loaded : Reading → Type 0)
    (one two : Environment) : Type 0 where
  pub signal : (n : ℕ) (h : Home) → find (Signal n) homes ≡ Some h
      → WirePair (λ k. Loaded (reading (Signal n) k)) h.dims (one.signal n) (two.signal n)
  pub port : (n : ℕ) (indices name : List ℕ) (h : Home)
      → is_inside (g.components n) (map Some indices) ≡ true
      → length indices ≡ length (g.components n)
      → find (Port n (offset (g.components n) indices) name) homes ≡ Some h
      → PortPair (λ k. Loaded (reading (Port n (offset (g.components n) indices) name) k)) h.dims
      (one.part n indices name) (two.part n indices name)
  pub outside : (n : ℕ) (indices name : List ℕ)
      → is_inside (g.components n) (map Some indices) ≡ false
      → one.part n indices name ≡ Err index_out
  pub other_outside : (n : ℕ) (indices name : List ℕ)
      → is_inside (g.components n) (map Some indices) ≡ false
      → two.part n indices name ≡ Err index_out
  pub called : (e : Expr Meant) → one.known e ≡ g.called e
  pub other_called : (e : Expr Meant) → two.known e ≡ g.called e
  pub call : (f : ℕ) (ds : List Numbers) (u : ℕ) → one.call f ds u ≡ two.call f ds u

pub number_same : {A : Type 0} (m n : Ran Numbers) (f g : ℕ → ℕ → Ran A) → m ≡ n
    → ((x : Numbers × ℕ) → m ≡ Ok x → f (the_number x.0) x.1 ≡ g (the_number x.0) x.1)
    → number m f ≡ number n g
number_same m n f g e h =
    next_same m n (λ x. f (the_number x.0) x.1) (λ x. g (the_number x.0) x.1) e h

-- variables that are whole agree at each element
abbrev pub IsWhole : (ℕ → Type 0) → Name → Type 0
IsWhole Whole (Variable n) = Whole n
IsWhole Whole (Signal n) = ⊥
IsWhole Whole (Port n j name) = ⊥

abbrev pub Shared : (Loaded : Reading → Type 0) → (Whole : ℕ → Type 0) → ℕ → ℕ → Type 0
Shared Loaded Whole n k = Whole n ⊎ Loaded (reading (Variable n) k)

abbrev pub SameStores : (Reading → Type 0) → (ℕ → Type 0) → Homes → (one two : Store) → Type 0
SameStores Loaded Whole homes one two =
    (n : ℕ) (h : Home) → find (Variable n) homes ≡ Some h
    → SameNumbers (Shared Loaded Whole n) h.dims (stored one n) (stored two n)

-- what has a home is whole, or had it when the step began
abbrev pub Outer : (Whole : ℕ → Type 0) → (first homes : Homes) → Type 0
Outer Whole first homes =
    (x : Name) (h : Home) → find x homes ≡ Some h → IsWhole Whole x ⊎ (find x first ≡ Some h)

part_each : (Loaded : Reading → Type 0) (x : Name) (h : Home) (known : List (Option ℕ))
    (is : List ℕ) → Agree known is → AllByRecursion Loaded (part_of x (Some h) known)
    → InPart (λ k. Loaded (reading x k)) h.dims is
part_each Loaded x h known is a all inside =
    places_within (λ k. Loaded (reading x k)) h.dims known is a inside
    (all_mapped Loaded (reading x) (places_of h.dims known)
    (subst (λ b. AllByRecursion Loaded (cond b (elements_of x (places_of h.dims known)) []))
    (inside_known h.dims known is a inside) all))

module _ (g : Ground) (first : Homes) (Loaded : Reading → Type 0) (Whole : ℕ → Type 0)
    (one two : Environment) (alike : Alike g first Loaded one two) (homes : Homes)
    (outer : Outer Whole first homes) (store other : Store)
    (stores : SameStores Loaded Whole homes store other) (known_at : KnownAt g one store) where
  abbrev Covered : List Reading → Type 0
  Covered reads = AllByRecursion Loaded reads

  done_same : (m : Meant) (known : List (Option ℕ)) (is : List ℕ) (u : ℕ) → Agree known is
      → EndFits homes (Named m) (length known)
      → Covered (named_part first (name_of (Written m)) known)
      → read_root one store (RunNamed m) is u ≡ read_root two other (RunNamed m) is u
  done_same (meant.Variable n) known is u a fits covered =
      let h : Home = fits.at in
      stored_same (Shared Loaded Whole n) h.dims (stored store n) (stored other n) is u
      (stores n h fits.found) (λ inside. by (outer (Variable n) h fits.found) inside)
    where
      by : Whole n ⊎ (find (Variable n) first ≡ Some fits.at)
          → InPart (Shared Loaded Whole n) fits.at.dims is
      by (inl w) inside =
          all_of (Shared Loaded Whole n) (places_of fits.at.dims (map Some is)) (λ k. inl w)
      by (inr e) inside =
          all_weaker (λ k. Loaded (reading (Variable n) k)) (Shared Loaded Whole n)
          (places_of fits.at.dims (map Some is)) (λ k l. inr l)
          (part_each Loaded (Variable n) fits.at known is a
          (subst (λ o. Covered (part_of (Variable n) o known)) e covered) inside)
  done_same (meant.Signal direction n) known is u a fits covered =
      by (outer (Signal n) fits.at fits.found)
    where
      by : ⊥ ⊎ (find (Signal n) first ≡ Some fits.at)
          → read_option (one.signal n) is u ≡ read_option (two.signal n) is u
      by (inl w) = absurd w
      by (inr e) =
          let p = alike.signal n fits.at e in
          ap (λ o. read_option o is u) p.is_one ∙
          wired_same (λ k. Loaded (reading (Signal n) k)) fits.at.dims p.one p.two is u p.same
          (part_each Loaded (Signal n) fits.at known is a
          (subst (λ o. Covered (part_of (Signal n) o known)) e covered)) ∙
          sym (ap (λ o. read_option o is u) p.is_two)
  done_same meant.Other known is u a fits covered = refl
  done_same (meant.Component n) known is u a fits covered = refl
  done_same (meant.Template n) known is u a fits covered = refl
  done_same (meant.Function n) known is u a fits covered = refl

  call_same : (m : Meant) (ds : List Numbers) (u : ℕ)
      → call_function one m ds u ≡ call_function two m ds u
  call_same (meant.Function f) ds u = alike.call f ds u
  call_same meant.Other ds u = refl
  call_same (meant.Variable n) ds u = refl
  call_same (meant.Signal direction n) ds u = refl
  call_same (meant.Component n) ds u = refl
  call_same (meant.Template n) ds u = refl

  no_port : (rest : Accessors Meant) (known : List (Option ℕ))
      → PlaceFits g homes (Found None) known rest → ⊥
  no_port done known h = let e : None ≡ Some h.at = h.found in cc
  no_port (index e rest) known (a, b, c) = no_port rest (known ++ g.known e ∷ []) c
  no_port (member name rest) known (a, b) = absurd a

  -- a call that has its value
  known_same : (o : Option Numbers) (p q : Option Numbers) (u : ℕ) (m n : Ran Numbers)
      → p ≡ o → q ≡ o → (o ≡ None → m ≡ n) → unless_known p u m ≡ unless_known q u n
  known_same None p q u m n ep eq h =
      ap (λ x. unless_known x u m) ep ∙ h refl ∙ sym (ap (λ x. unless_known x u n) eq)
  known_same (Some d) p q u m n ep eq h =
      ap (λ x. unless_known x u m) ep ∙ sym (ap (λ x. unless_known x u n) eq)

  right_same : (o : Operator) (a : Expr Meant) (d : Option ℕ) (p q : ℕ → Ran Numbers)
      (x : Numbers × ℕ) (u : ℕ) → decided o (g.known a) ≡ d → number_in one store a u ≡ Ok x
      → (d ≡ None → (v : ℕ) → p v ≡ q v)
      → right_of o p (the_number x.0) x.1 ≡ right_of o q (the_number x.0) x.1
  right_same o a None p q x u e ex h =
      ap (λ m. number (when (needs_right o (the_number x.0)) x.1 m)
      (λ n v. next (result_number o (the_number x.0) n) (λ z. gives (single z) v))) (h refl x.1)
  right_same o a (Some n) p q x u e ex h =
      let t : Decides o (g.known a) n = decides o (g.known a) n e in
      let is : the_number x.0 ≡ t.number = known_at a t.number u x t.told ex in
      ap (λ m. right_of o p m x.1) is ∙ t.skips p x.1 ∙
      sym (ap (λ m. right_of o q m x.1) is ∙ t.skips q x.1)

  side_same : (c : Expr Meant) (t : Option ℕ) (p q r s : Ran Numbers) (x : Numbers × ℕ) (u : ℕ)
      → g.known c ≡ t → number_in one store c u ≡ Ok x → Sides t (p ≡ q) (r ≡ s)
      → cond (the_number x.0 == 0) r p ≡ cond (the_number x.0 == 0) s q
  side_same c None p q r s x u e ex (a, b) = ap₂ (λ y z. cond (the_number x.0 == 0) z y) a b
  side_same c (Some zero) p q r s x u e ex b =
      let is : the_number x.0 ≡ 0 = known_at c 0 u x e ex in
      ap (λ m. cond (m == 0) r p) is ∙ b ∙ sym (ap (λ m. cond (m == 0) s q) is)
  side_same c (Some (suc m)) p q r s x u e ex a =
      let is : (the_number x.0 == 0) ≡ false =
      ap (λ i. i == 0) (known_at c (suc m) u x e ex) ∙ ne_eqb (suc m) 0 (λ z. cc) in
      ap (λ b. cond b r p) is ∙ a ∙ sym (ap (λ b. cond b s q) is)

  sides_both : {A B C D : Type 0} (t : Option ℕ) (ra rb : List Reading) → Sides t A B
      → Covered (sides t ra rb) → (A → Covered ra → C) → (B → Covered rb → D) → Sides t C D
  sides_both None ra rb (a, b) c f h =
      (f a (all_front Loaded ra rb c), h b (all_back Loaded ra rb c))
  sides_both (Some zero) ra rb b c f h = h b c
  sides_both (Some (suc m)) ra rb a c f h = f a c

  skipped_both : {A C : Type 0} (d : Option ℕ) (reads : List Reading) → UnlessSkipped d A
      → Covered (unless_skipped d reads) → (A → Covered reads → C) → d ≡ None → C
  skipped_both None reads fits covered f e = f fits covered
  skipped_both (Some n) reads fits covered f e = cc

  called_both : {A C : Type 0} (o : Option Numbers) (reads : List Reading) → UnlessCalled o A
      → Covered (unless_called o reads) → (A → Covered reads → C) → o ≡ None → C
  called_both None reads fits covered f e = f fits covered
  called_both (Some d) reads fits covered f e = cc

  -- a signal of a component
  member_same : (rest : Accessors Meant) (n : ℕ) (name : List ℕ) (known : List (Option ℕ))
      (is : List ℕ) (u : ℕ) → Agree known is → IsElement g (Named (meant.Component n)) known
      → PlaceFits g homes (home_at homes n (g.components n) name (all_known known)) [] rest
      → Covered
      (place_reads g first (Reached (port_at n (g.components n) name (all_known known))) []
      rest)
      → ((h : Home) (x : Name) (p q : Shaped (Option ℕ)) → find x first ≡ Some h
      → SameWires (λ k. Loaded (reading x k)) h.dims p q
      → PlaceFits g homes (Found (Some h)) [] rest
      → Covered (place_reads g first (Reached (Some x)) [] rest)
      → place_in one store (RunFound p) [] rest u ≡ place_in two other (RunFound q) [] rest u)
      → next (one.part n is name) (λ d. place_in one store (RunFound d) [] rest u)
      ≡ next (two.part n is name) (λ d. place_in two other (RunFound d) [] rest u)
  member_same rest n name known is u a full fits covered go = by (is_inside dims (map Some is)) refl
    where
      dims : List ℕ
      dims = g.components n

      f : Shaped (Option ℕ) → Ran Numbers
      f d = place_in one store (RunFound d) [] rest u

      f' : Shaped (Option ℕ) → Ran Numbers
      f' d = place_in two other (RunFound d) [] rest u

      Goal : List ℕ → Type 0
      Goal js = next (one.part n js name) f ≡ next (two.part n js name) f'

      homed : (ns : List ℕ) → is_inside dims (map Some ns) ≡ true → length ns ≡ length dims
          → (o : Option Home) → find (Port n (offset dims ns) name) homes ≡ o
          → PlaceFits g homes (Found o) [] rest
          → Covered (place_reads g first (Reached (Some (Port n (offset dims ns) name))) [] rest)
          → Goal ns
      homed ns inside full None eo fits covered = absurd (no_port rest [] fits)
      homed ns inside full (Some h) eo fits covered =
          elim (outer (Port n (offset dims ns) name) h eo) [
            | inl w ↦ absurd w
            | inr eh ↦
                let p = alike.port n ns name h inside full eh in
                ap (λ r. next r f) p.is_one ∙
                go h (Port n (offset dims ns) name) p.one p.two eh p.same fits covered ∙
                sym (ap (λ r. next r f') p.is_two)
          ]

      known_by : (o : Option (List ℕ)) → ((ns : List ℕ) → o ≡ Some ns → is ≡ ns)
          → is_inside dims (map Some is) ≡ true
          → ((ns : List ℕ) → o ≡ Some ns → is_inside dims (map Some ns) ≡ true
          → length ns ≡ length dims)
          → PlaceFits g homes (home_at homes n dims name o) [] rest
          → Covered (place_reads g first (Reached (port_at n dims name o)) [] rest) → Goal is
      known_by None same inside full fits covered = absurd (no_port rest [] fits)
      known_by (Some ns) same inside full fits covered =
          let e : is ≡ ns = same ns refl in
          let there : is_inside dims (map Some ns) ≡ true =
          ap (λ js. is_inside dims (map Some js)) (sym e) ∙ inside in
          let x : Name = Port n (offset dims ns) name in
          subst Goal (sym e)
          (homed ns there (full ns refl there) (find x homes) refl
          (subst (λ b. PlaceFits g homes (cond b (Found (find x homes)) Lost) [] rest) there fits)
          (subst (λ b. Covered (place_reads g first (Reached (cond b (Some x) None)) [] rest)) there
          covered))

      by : (b : Bool) → is_inside dims (map Some is) ≡ b → Goal is
      by false e =
          ap (λ r. next r f) (alike.outside n is name e) ∙
          sym (ap (λ r. next r f') (alike.other_outside n is name e))
      by true e =
          known_by (all_known known) (λ ns en. agree_all known is ns a en) e full fits covered

  mutual
    pub expr_same : (e : Expr Meant) (u : ℕ) → Fits g homes e → Covered (expr_reads g first e)
        → number_in one store e u ≡ number_in two other e u
    expr_same (Number n) u fits covered = refl
    expr_same (Place name m accessors) u fits covered =
        place_same accessors m [] [] u tt fits covered
    expr_same (Call parallel name m arguments) u fits covered =
        let e : Expr Meant = Call parallel name m arguments in
        let A : Type 0 = AllFit g homes arguments × IsCalled g.keys m (shapes_of g homes arguments)
        in
        known_same (g.called e) (one.known e) (two.known e) u
        (next (numbers_in one store arguments u) (λ x. call_function one m x.0 x.1))
        (next (numbers_in two other arguments u) (λ x. call_function two m x.0 x.1))
        (alike.called e) (alike.other_called e)
        (called_both {A = A} (g.called e) (exprs_reads g first arguments) fits covered
        (λ f c. next_same (numbers_in one store arguments u) (numbers_in two other arguments u)
        (λ x. call_function one m x.0 x.1) (λ x. call_function two m x.0 x.1)
        (exprs_same arguments u f.0 c) (λ x ex. call_same m x.0 x.1)))
    expr_same (Anonymous parallel name m arguments inputs) u fits covered = refl
    expr_same (Parentheses e) u fits covered = expr_same e u fits covered
    expr_same (Array none) u fits covered = refl
    expr_same (Array (more e es)) u (fe, all, same) covered =
        ap (λ m. next m (λ x. gives (gathered_numbers x.0) x.1))
        (exprs_same (more e es) u (fe, all) covered)
    expr_same (Unary o a) u (fits, shape) covered =
        ap (λ m. number m (λ n v. gives (single (number_by (unary_of o) n)) v))
        (expr_same a u fits covered)
    expr_same (Binary o a b) u ((fa, sa), fb) covered =
        let op : Operator = operator_of o in
        let d : Option ℕ = decided op (g.known a) in
        number_same (number_in one store a u) (number_in two other a u)
        (right_of op (number_in one store b)) (right_of op (number_in two other b))
        (expr_same a u fa (all_front Loaded (expr_reads g first a) _ covered))
        (λ x ex. right_same op a d (number_in one store b) (number_in two other b) x u refl ex
        (λ e v. skipped_both {A = Fits g homes b × (shape_of g homes b ≡ [])} d
        (expr_reads g first b) fb (all_back Loaded (expr_reads g first a) _ covered)
        (λ f c. expr_same b v f.0 c) e))
    expr_same (Choice c a b) u ((fc, sc), fits) covered =
        let A : Type 0 = Fits g homes a × (shape_of g homes a ≡ []) in
        let B : Type 0 = Fits g homes b × (shape_of g homes b ≡ []) in
        number_same (number_in one store c u) (number_in two other c u)
        (λ m v. number (cond (m == 0) (number_in one store b v) (number_in one store a v))
        (λ n w. gives (single n) w))
        (λ m v. number (cond (m == 0) (number_in two other b v) (number_in two other a v))
        (λ n w. gives (single n) w))
        (expr_same c u fc (all_front Loaded (expr_reads g first c) _ covered))
        (λ x ex. ap (λ m. number m (λ n w. gives (single n) w))
        (side_same c (g.known c) (number_in one store a x.1) (number_in two other a x.1)
        (number_in one store b x.1) (number_in two other b x.1) x u refl ex
        (sides_both {A = A} {B = B} (g.known c) (expr_reads g first a) (expr_reads g first b) fits
        (all_back Loaded (expr_reads g first c) _ covered)
        (λ f r. expr_same a x.1 f.0 r) (λ f r. expr_same b x.1 f.0 r))))

    exprs_same : (es : Exprs Meant) (u : ℕ) → AllFit g homes es
        → Covered (exprs_reads g first es)
        → numbers_in one store es u ≡ numbers_in two other es u
    exprs_same none u fits covered = refl
    exprs_same (more e es) u (fe, fs) covered =
        next_same (number_in one store e u) (number_in two other e u)
        (λ x. next (numbers_in one store es x.1) (λ y. gives (x.0 ∷ y.0) y.1))
        (λ x. next (numbers_in two other es x.1) (λ y. gives (x.0 ∷ y.0) y.1))
        (expr_same e u fe (all_front Loaded (expr_reads g first e) _ covered))
        (λ x ex. ap (λ m. next m (λ y. gives (x.0 ∷ y.0) y.1))
        (exprs_same es x.1 fs (all_back Loaded (expr_reads g first e) _ covered)))

    place_same : (rest : Accessors Meant) (m : Meant) (known : List (Option ℕ)) (is : List ℕ)
        (u : ℕ) → Agree known is → PlaceFits g homes (Named m) known rest
        → Covered (place_reads g first (Written m) known rest)
        → place_in one store (RunNamed m) is rest u ≡ place_in two other (RunNamed m) is rest u
    place_same done m known is u a fits covered = done_same m known is u a fits covered
    place_same (index e rest) m known is u a (fe, se, fr) covered =
        number_same (number_in one store e u) (number_in two other e u)
        (λ n v. place_in one store (RunNamed m) (is ++ n ∷ []) rest v)
        (λ n v. place_in two other (RunNamed m) (is ++ n ∷ []) rest v)
        (expr_same e u fe (all_front Loaded (expr_reads g first e) _ covered))
        (λ x ex. place_same rest m (known ++ g.known e ∷ []) (is ++ the_number x.0 ∷ []) x.1
        (agree_more known is (g.known e) (the_number x.0) a
        (λ n en. known_at e n u x en ex)) fr
        (all_back Loaded (expr_reads g first e) _ covered))
    place_same (member name rest) (meant.Component n) known is u a (full, fr) covered =
        member_same rest n name known is u a full fr covered
        (λ h x p q eh same fits c. found_same rest h x p q [] [] u eh same tt fits c)
    place_same (member name rest) meant.Other known is u a (never, fr) covered = absurd never
    place_same (member name rest) (meant.Variable n) known is u a (never, fr) covered = absurd never
    place_same (member name rest) (meant.Signal w n) known is u a (never, fr) covered = absurd never
    place_same (member name rest) (meant.Template n) known is u a (never, fr) covered = absurd never
    place_same (member name rest) (meant.Function n) known is u a (never, fr) covered = absurd never

    found_same : (rest : Accessors Meant) (h : Home) (x : Name) (p q : Shaped (Option ℕ))
        (known : List (Option ℕ)) (is : List ℕ) (u : ℕ) → find x first ≡ Some h
        → SameWires (λ k. Loaded (reading x k)) h.dims p q → Agree known is
        → PlaceFits g homes (Found (Some h)) known rest
        → Covered (place_reads g first (Reached (Some x)) known rest)
        → place_in one store (RunFound p) is rest u ≡ place_in two other (RunFound q) is rest u
    found_same done h x p q known is u eh same a fits covered =
        wired_same (λ k. Loaded (reading x k)) h.dims p q is u same
        (part_each Loaded x h known is a (subst (λ o. Covered (part_of x o known)) eh covered))
    found_same (index e rest) h x p q known is u eh same a (fe, se, fr) covered =
        number_same (number_in one store e u) (number_in two other e u)
        (λ n v. place_in one store (RunFound p) (is ++ n ∷ []) rest v)
        (λ n v. place_in two other (RunFound q) (is ++ n ∷ []) rest v)
        (expr_same e u fe (all_front Loaded (expr_reads g first e) _ covered))
        (λ y ey. found_same rest h x p q (known ++ g.known e ∷ []) (is ++ the_number y.0 ∷ []) y.1
        eh same
        (agree_more known is (g.known e) (the_number y.0) a
        (λ n en. known_at e n u y en ey)) fr
        (all_back Loaded (expr_reads g first e) _ covered))
    found_same (member name rest) h x p q known is u eh same a (never, fr) covered = absurd never
